use Rattle.std.proofs.Common.{ℕ, ◌++◌, ◌∙◌, ap, length, is_some}
use Rattle.std.specs.Prelude.{filter}
use Rattle.std.specs.List.{flat_map}
use Rattle.snap_saving.specs.Put.{number}
use Rattle.snap_saving.specs.Steps.{found, object_bytes}
use Rattle.snap_saving.proofs.Adding.{joined2, long_moved, ok_moved}
use Rattle.snap_saving.proofs.Places.{all_found}
use Rattle.snap_saving.proofs.saving.put_heap.Goals as goal

pub returns-clause-ok : goal.returns-clause-ok
returns-clause-ok c =
    let items = flat_map (object_bytes c.args.library.now (found c.args.places.now)) c.args.arena.now.objects in
    let count = c.place.ensures ∙ (ap (found c.args.places.now) c.used.ensures.cells ∙ all_found c.args.arena.now c.args.places.now c.requires) in
    let e = joined2 c.args.out.now.items c.put_number.new.out.items (number (length (filter is_some c.args.arena.now.objects))) items (c.in_ok-put_number.ensures ∙ ap (λ (n : ℕ). c.args.out.now.items ++ number n) count) in
    ok_moved c.put_objects.result c.put_objects.new.out.items _ _ e c.put_objects.ensures.ok

pub returns-clause-fault : goal.returns-clause-fault
returns-clause-fault c =
    let items = flat_map (object_bytes c.args.library.now (found c.args.places.now)) c.args.arena.now.objects in
    let count = c.place.ensures ∙ (ap (found c.args.places.now) c.used.ensures.cells ∙ all_found c.args.arena.now c.args.places.now c.requires) in
    let e = joined2 c.args.out.now.items c.put_number.new.out.items (number (length (filter is_some c.args.arena.now.objects))) items (c.in_ok-put_number.ensures ∙ ap (λ (n : ℕ). c.args.out.now.items ++ number n) count) in
    long_moved c.put_objects.result _ _ e c.put_objects.ensures.fault
