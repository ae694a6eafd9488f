use Rattle.std.proofs.Common.{◌≡◌, suc, ◌+◌, ◌<◌, ◌≤◌, ◌∷◌, length, map, take, reverse, sym, ap, ◌∙◌, arith}
use Rattle.vm_frames.specs.declared.slot.Entry.{Entry}
use Rattle.vm_frames.specs.Calls.{on_running}
use Rattle.snap_states.specs.Decoded.{handler_of}
use Rattle.snap_loading.proofs.Stacking.{with_entries, no_change, entry_more, entry_room, slot_room_same, reverse_none, reverse_next, reverse_long, reverse_whole}
use Rattle.snap_loading.proofs.frames.add_entries.Goals as goal

pub loop-at-init : goal.loop-at-init
loop-at-init c =
    let f = handler_of c.args.lookup.now.library.now c.args.lookup.now.snapshot.now in
    no_change c.args.frames.now ∙ ap (λ es. on_running (with_entries es) c.args.frames.now) (sym (reverse_none f c.args.parts.now))

pub add_entry-requires-clause-room : goal.add_entry-requires-clause-room
add_entry-requires-clause-room c =
    let f = handler_of c.args.lookup.now.library.now c.args.lookup.now.snapshot.now in
    let k = c.loop-at.at in
    let es = map f (reverse (take k c.args.parts.now)) in
    let le : k ≤ length c.args.parts.now = omega (arith, c.loop-at-test.true) in
    let long : length es ≡ k = reverse_long f c.args.parts.now k le in
    let lt : length es < length c.args.parts.now = omega (arith, long, c.loop-at-test.true) in
    entry_room es (length c.args.parts.now) c.args.frames.now c.loop-at.frames c.loop-at.invariant lt c.requires.room

pub add_entry-requires-clause-low : goal.add_entry-requires-clause-low
add_entry-requires-clause-low c =
    let low = c.requires.low c.loop-at.at c.entry_at-part.result.now c.entry_at-part.ensures in
    let same = slot_room_same (with_entries _) c.args.frames.now c.loop-at.frames c.loop-at.invariant in
    let height : c.handler_of-entry.result.height ≡ c.entry_at-part.result.now.height = ap (λ (e : Entry). e.height) c.handler_of-entry.ensures in
    omega (arith, low, same, height)

pub loop-at-preserved : goal.loop-at-preserved
loop-at-preserved c =
    let f = handler_of c.args.lookup.now.library.now c.args.lookup.now.snapshot.now in
    let parts = c.args.parts.now in
    let k = c.loop-at.at in
    let on : suc k ≡ k + 1 = omega arith in
    let es = map f (reverse (take k parts)) in
    entry_more es c.handler_of-entry.result c.args.frames.now c.loop-at.frames c.add_entry.new.self c.loop-at.invariant c.add_entry.ensures
    ∙ (ap (λ e. on_running (with_entries (e ∷ es)) c.args.frames.now) c.handler_of-entry.ensures
    ∙ (ap (λ zs. on_running (with_entries zs) c.args.frames.now) (sym (reverse_next f parts k c.entry_at-part.result.now c.entry_at-part.ensures))
    ∙ ap (λ j. on_running (with_entries (map f (reverse (take j parts)))) c.args.frames.now) on))

pub returns : goal.returns
returns c =
    let f = handler_of c.args.lookup.now.library.now c.args.lookup.now.snapshot.now in
    let parts = c.args.parts.now in
    let end : c.loop-at.at ≡ length parts = omega arith in
    c.loop-at.invariant
    ∙ ap (λ zs. on_running (with_entries zs) c.args.frames.now) (ap (λ j. map f (reverse (take j parts))) end ∙ reverse_whole f parts)
