use Rattle.std.proofs.Common.{ℕ, ◌++◌, ◌∙◌, ap, length}
use Rattle.std.specs.List.{flat_map}
use Rattle.snap_saving.specs.Put.{number}
use Rattle.snap_saving.specs.Shown.{shown_slots}
use Rattle.snap_saving.specs.Steps.{found, slot_bytes}
use Rattle.snap_saving.proofs.Adding.{joined2, long_moved, ok_moved}
use Rattle.snap_saving.proofs.frames.put_all_slots.Goals as goal

pub returns-clause-ok : goal.returns-clause-ok
returns-clause-ok c =
    let items = flat_map (slot_bytes c.args.library.now (found c.args.places.now)) (shown_slots c.args.slots.now) in
    let e = joined2 c.args.out.now.items c.put_number.new.out.items (number (length (shown_slots c.args.slots.now))) items (c.in_ok-put_number.ensures ∙ ap (λ (n : ℕ). c.args.out.now.items ++ number n) c.count_slots.ensures) in
    ok_moved c.put_slots.result c.put_slots.new.out.items _ _ e c.put_slots.ensures.ok

pub returns-clause-fault : goal.returns-clause-fault
returns-clause-fault c =
    let items = flat_map (slot_bytes c.args.library.now (found c.args.places.now)) (shown_slots c.args.slots.now) in
    let e = joined2 c.args.out.now.items c.put_number.new.out.items (number (length (shown_slots c.args.slots.now))) items (c.in_ok-put_number.ensures ∙ ap (λ (n : ℕ). c.args.out.now.items ++ number n) c.count_slots.ensures) in
    long_moved c.put_slots.result _ _ e c.put_slots.ensures.fault
