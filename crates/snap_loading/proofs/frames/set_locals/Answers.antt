use Rattle.std.proofs.Common.{◌≡◌, suc, ◌+◌, ◌≤◌, [], ◌∷◌, ◌++◌, length, map, take, sym, ap, ◌∙◌, arith}
use Rattle.std.proofs.lemmas.List.{length-map}
use Rattle.vm_frames.specs.Calls.{on_running}
use Rattle.snap_states.specs.Decoded.{local_of}
use Rattle.snap_loading.proofs.Stacking.{with_locals, no_change, local_more, local_room, locals_whole, take_none, take_every, take_count, map_next}
use Rattle.snap_loading.proofs.frames.set_locals.Goals as goal

pub loop-at-init : goal.loop-at-init
loop-at-init c =
    let f = local_of c.args.lookup.now.library.now c.args.lookup.now.snapshot.now in
    no_change c.args.frames.now ∙ ap (λ ps. on_running (with_locals (map f ps) 0) c.args.frames.now) (sym (take_none c.args.parts.now))

pub set_local-requires : goal.set_local-requires
set_local-requires c =
    let f = local_of c.args.lookup.now.library.now c.args.lookup.now.snapshot.now in
    let parts = c.args.parts.now in
    let k = c.loop-at.at in
    let le : k ≤ length parts = omega (arith, c.loop-at-test.true) in
    let long : length (map f (take k parts)) ≡ k = length-map (take k parts) f ∙ take_count parts k le in
    local_room (map f (take k parts)) k (length parts) c.args.frames.now c.loop-at.frames long c.loop-at-test.true c.requires.as_many c.loop-at.invariant

pub loop-at-preserved : goal.loop-at-preserved
loop-at-preserved c =
    let f = local_of c.args.lookup.now.library.now c.args.lookup.now.snapshot.now in
    let parts = c.args.parts.now in
    let old = c.args.frames.now in
    let k = c.loop-at.at in
    let on : suc k ≡ k + 1 = omega arith in
    let le : k ≤ length parts = omega (arith, c.loop-at-test.true) in
    let long : length (map f (take k parts)) ≡ k = length-map (take k parts) f ∙ take_count parts k le in
    local_more (map f (take k parts)) k (length parts) c.local_of-v.result old c.loop-at.frames c.set_local.new.self long c.loop-at-test.true c.requires.as_many c.loop-at.invariant c.set_local.ensures
    ∙ (ap (λ v. on_running (with_locals (map f (take k parts) ++ v ∷ []) (suc k)) old) c.local_of-v.ensures
    ∙ (ap (λ zs. on_running (with_locals zs (suc k)) old) (sym (map_next f parts k c.part_at-part.result.now c.part_at-part.ensures))
    ∙ ap (λ j. on_running (with_locals (map f (take j parts)) j) old) on))

pub returns : goal.returns
returns c =
    let f = local_of c.args.lookup.now.library.now c.args.lookup.now.snapshot.now in
    let parts = c.args.parts.now in
    let end : c.loop-at.at ≡ length parts = omega arith in
    c.loop-at.invariant
    ∙ (ap (λ j. on_running (with_locals (map f (take j parts)) j) c.args.frames.now) end
    ∙ (ap (λ ps. on_running (with_locals (map f ps) (length parts)) c.args.frames.now) (take_every parts)
    ∙ locals_whole (map f parts) (length parts) c.args.frames.now c.requires.as_many))
