use Rattle.std.proofs.Common.{◌≡◌, ℕ, ℤ, Some, refl, arith, length, ◌<◌, ◌≤◌, subst, rules, SFits, w32}
use Rattle.std.proofs.lemmas.Int.{to_z-of_z}
use Rattle.state_values.specs.prim_assignments.arena_heap.declared.value.Value.TheVariants as values
use Rattle.state_values.specs.bc_progress.bc_ops.declared.instr.Op.TheVariants as ops
use Rattle.state_values.specs.bc_progress.bc_ops.declared.instr.Instr.TheVariants as instrs
use Rattle.state_values.specs.bc_progress.bc_machine.Library.{Plain}
use Rattle.state_values.specs.bc_progress.py_primitives.Iterables.{place_at}
use Rattle.state_values.specs.vm_frames.Calls.{Call}
use Rattle.state_values.proofs.frame_moves_lemmas.Stepping.{weaker}
use Rattle.state_values.specs.vm_fetching.declared.operations.ItemOp.TheVariants as item_ops
use Rattle.state_values.specs.Moving.{fetched_item}
use Rattle.vm_at_once.proofs.Ending as ending
use Rattle.vm_at_once.proofs.Finding as finding
use Rattle.vm_at_once.proofs.Indexing as indexing
use Rattle.vm_at_once.proofs.items.store_item.Goals as goal

pub list_and_number-requires : goal.list_and_number-requires
list_and_number-requires g c =
    weaker (λ (d : Call). 3 ≤ length d.slots) (λ (d : Call). 1 < length d.slots) c.args.frames.now.calls (λ d h. omega (arith, h)) (finding.stored_slots c.requires.runs c.tops_law.ensures.stored c.requires.runs.ready.finds)

pub third_value-requires : goal.third_value-requires
third_value-requires g c =
    weaker (λ (d : Call). 3 ≤ length d.slots) (λ (d : Call). 2 < length d.slots) c.args.frames.now.calls (λ d h. omega (arith, h)) (finding.stored_slots c.requires.runs c.tops_law.ensures.stored c.requires.runs.ready.finds)

pub list_len-requires : goal.list_len-requires
list_len-requires g c = (finding.lies_known c.requires.runs 1 (values.List c.in-Some.l) c.in-Some.ensures.list).leads.meets

pub put_item-requires-clause-list : goal.put_item-requires-clause-list
put_item-requires-clause-list g c = (finding.lies_known c.requires.runs 1 (values.List c.in-Some.l) c.in-Some.ensures.list).leads

pub put_item-requires-clause-within : goal.put_item-requires-clause-within
put_item-requires-clause-within g c = omega (arith, c.list_len.ensures, c.in-Some-front_place.ensures.within)

pub put_item-requires-clause-leads : goal.put_item-requires-clause-leads
put_item-requires-clause-leads g c = (finding.lies_known c.requires.runs 2 c.in-Some-third_value.v c.in-Some-third_value.ensures).leads

pub put_item-requires-clause-told : goal.put_item-requires-clause-told
put_item-requires-clause-told g c = (finding.lies_known c.requires.runs 2 c.in-Some-third_value.v c.in-Some-third_value.ensures).told

pub put_item-requires-clause-all_told : goal.put_item-requires-clause-all_told
put_item-requires-clause-all_told g c = finding.all_told c.requires.runs

pub drop_three-requires : goal.drop_three-requires
drop_three-requires g c = finding.stored_slots c.requires.runs c.tops_law.ensures.stored c.requires.runs.ready.finds

pub returns-in-Some-front_place-clause-done : goal.returns-in-Some-front_place-clause-done
returns-in-Some-front_place-clause-done g c done =
    let texts = g.C.Constants.text_of c.args.consts.now in
    let tuples = g.C.Constants.items_of c.args.consts.now in
    let heap = c.args.arena.now in
    let behind = c.put_item.new.arena in
    let old = c.args.frames.now in
    let new = c.drop_three.new.frames in
    let number = c.in-Some.number in
    let object = values.List c.in-Some.l in
    let index = values.Int number in
    let v = c.in-Some-third_value.v in
    let fits : SFits w32 number = search rules in
    let place = subst (λ (z : ℤ). place_at c.list_len.result z ≡ Some c.in-Some-front_place.at) (to_z-of_z w32 number fits) c.in-Some-front_place.ensures.place in
    let given = c.put_item.ensures number (subst (λ (n : ℕ). place_at n number ≡ Some c.in-Some-front_place.at) c.list_len.ensures place) in
    let steps = indexing.sets texts tuples heap behind old new c.args.end object index v given c.in-Some.ensures.number c.in-Some.ensures.list c.in-Some-third_value.ensures c.drop_three.ensures in
    ending.takes c.acting_law.ensures.acts (fetched_item item_ops.StoreSubscr c.args.end) (λ p s row r. r.begins tt) 0 (Plain (instrs.Plain ops.StoreSubscr)) old new
    (indexing.leaves texts tuples heap behind old new c.args.end object index v given c.in-Some.ensures.number c.in-Some.ensures.list c.in-Some-third_value.ensures c.drop_three.ensures)
    (λ p d tells. refl) steps 3 refl c.drop_three.ensures
