use Rattle.std.proofs.Common.{◌≡◌, suc, ◌+◌, [], ◌∷◌, length, take, reverse, slice_get, Option, Some, None, refl, sym, ap, ◌∙◌, subst, arith}
use Rattle.std.proofs.lemmas.List.{length-reverse}
use Rattle.vm_frames.specs.Calls.{Calls}
use Rattle.snap_grammar.specs.declared.parts.RolePart.{RolePart}
use Rattle.snap_states.specs.Decoded.{AreCallsOf}
use Rattle.snap_states.specs.States.{IsFineFrame}
use Rattle.snap_loading.proofs.Placing.{all_forward, each_fine, calls_long, calls_next, same_room}
use Rattle.snap_loading.proofs.Stacking.{all_get, take_none, take_every, take_count}
use Rattle.snap_loading.proofs.frames.put_frames.Goals as goal

pub loop-at-init : goal.loop-at-init
loop-at-init c =
    let shelf = c.args.lookup.now.library.now in
    let s = c.args.lookup.now.snapshot.now in
    let parts = c.as_slice-parts.result.now in record {
      calls =
          subst (λ cs. AreCallsOf shelf s (reverse (take 0 parts)) cs) (sym c.requires.none)
          (subst (λ ps. AreCallsOf shelf s (reverse ps) []) (sym (take_none parts)) tt);
      rooms = refl;
    }

pub put_next-requires-clause-room : goal.put_next-requires-clause-room
put_next-requires-clause-room c = same_room c.args.lookup.now.library.now c.args.frames.now c.loop-at.frames c.loop-at.invariant.rooms c.requires.room

pub put_next-requires-clause-shallow : goal.put_next-requires-clause-shallow
put_next-requires-clause-shallow c =
    let shelf = c.args.lookup.now.library.now in
    let s = c.args.lookup.now.snapshot.now in
    let parts = c.as_slice-parts.result.now in
    let k = c.loop-at.at in
    let long = calls_long shelf s (reverse (take k parts)) c.loop-at.frames.calls c.loop-at.invariant.calls in
    let back = length-reverse (take k parts) in
    let count = take_count parts k (omega (arith, c.loop-at-test.true)) in
    let few = c.requires.shaped.few_frames in
    let size = ap length c.as_slice-parts.ensures in
    omega (arith, long, back, count, few, size, c.loop-at-test.true)

pub put_next-requires-clause-fine : goal.put_next-requires-clause-fine
put_next-requires-clause-fine c =
    let shelf = c.args.lookup.now.library.now in
    let s = c.args.lookup.now.snapshot.now in
    let fine = all_forward (λ f. (r : Option RolePart) × IsFineFrame shelf s r f) s.frames (each_fine shelf s None (reverse s.frames) c.requires.shaped.frames) in
    all_get (λ f. (r : Option RolePart) × IsFineFrame shelf s r f) s.frames c.loop-at.at c.frame_at-frame.result.now fine
    (subst (λ ps. slice_get ps c.loop-at.at ≡ Some c.frame_at-frame.result.now) c.as_slice-parts.ensures c.frame_at-frame.ensures)

pub loop-at-preserved : goal.loop-at-preserved
loop-at-preserved c =
    let shelf = c.args.lookup.now.library.now in
    let s = c.args.lookup.now.snapshot.now in
    let parts = c.as_slice-parts.result.now in
    let k = c.loop-at.at in
    let on : suc k ≡ k + 1 = omega arith in
    let put = c.in_ok-put_next.ensures in
    let calls_are : c.put_next.new.frames.calls ≡ put.0 ∷ c.loop-at.frames.calls = ap (λ (z : Calls). z.calls) put.2 in record {
      calls =
          subst (λ cs. AreCallsOf shelf s (reverse (take (k + 1) parts)) cs) (sym calls_are)
          (subst (λ j. AreCallsOf shelf s (reverse (take j parts)) (put.0 ∷ c.loop-at.frames.calls)) on
          (calls_next shelf s parts k c.frame_at-frame.result.now c.loop-at.frames.calls put.0 c.frame_at-frame.ensures c.loop-at.invariant.calls put.1));
      rooms =
          put.2 ∙ (ap (λ (z : Calls). let w : Calls = record z { calls = put.0 ∷ c.loop-at.frames.calls } in w) c.loop-at.invariant.rooms
          ∙ ap (λ cs. let w : Calls = record c.args.frames.now { calls = cs } in w) (sym calls_are));
    }

pub returns-clause-calls : goal.returns-clause-calls
returns-clause-calls c =
    let shelf = c.args.lookup.now.library.now in
    let s = c.args.lookup.now.snapshot.now in
    let parts = c.as_slice-parts.result.now in
    let end : c.loop-at.at ≡ length parts = omega arith in
    let all : take c.loop-at.at parts ≡ s.frames = ap (λ j. take j parts) end ∙ (take_every parts ∙ c.as_slice-parts.ensures) in
    subst (λ ps. AreCallsOf shelf s (reverse ps) c.loop-at.frames.calls) all c.loop-at.invariant.calls
