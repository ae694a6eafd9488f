use Rattle.std.proofs.Common.{ℤ, Ok, refl, arith, length, ◌<◌, ◌≤◌, subst, rules, SFits, w32}
use Rattle.std.proofs.lemmas.Int.{to_z-of_z}
use Rattle.state_values.specs.bc_progress.py_primitives.Uses.{get_item}
use Rattle.state_values.specs.prim_assignments.prim_walks.Plain.{plain, plain_heap}
use Rattle.state_values.specs.prim_assignments.prim_faults.Outcomes.{IsOutcome}
use Rattle.state_values.specs.prim_assignments.arena_heap.declared.value.Value.TheVariants as values
use Rattle.state_values.specs.bc_progress.bc_ops.declared.instr.Op.TheVariants as ops
use Rattle.state_values.specs.bc_progress.bc_ops.declared.instr.Instr.TheVariants as instrs
use Rattle.state_values.specs.bc_progress.bc_machine.Library.{Plain}
use Rattle.state_values.specs.vm_frames.Calls.{Call}
use Rattle.state_values.proofs.frame_moves_lemmas.Stepping.{weaker}
use Rattle.state_values.specs.vm_fetching.declared.operations.ItemOp.TheVariants as item_ops
use Rattle.state_values.specs.Moving.{fetched_item}
use Rattle.vm_at_once.proofs.Ending as ending
use Rattle.vm_at_once.proofs.Finding as finding
use Rattle.vm_at_once.proofs.Indexing as indexing
use Rattle.vm_at_once.proofs.items.load_item.Goals as goal

pub list_and_number-requires : goal.list_and_number-requires
list_and_number-requires g c =
    let left = (finding.two c.requires.runs c.tops_law.ensures.two c.requires.runs.ready.finds).1 in
    finding.slot_there c.requires.runs 1 left.0 left.1

pub item_in-requires-clause-leads : goal.item_in-requires-clause-leads
item_in-requires-clause-leads g c = (finding.lies_known c.requires.runs 1 (values.List c.in-Some.l) c.in-Some.ensures.list).leads

pub item_in-requires-clause-all_told : goal.item_in-requires-clause-all_told
item_in-requires-clause-all_told g c = finding.all_told c.requires.runs

pub put-requires : goal.put-requires
put-requires g c =
    let left = (finding.two c.requires.runs c.tops_law.ensures.two c.requires.runs.ready.finds).1 in
    weaker (λ (d : Call). 1 < length d.slots) (λ (d : Call). 2 ≤ length d.slots) c.args.frames.now.calls (λ d h. omega (arith, h)) (finding.slot_there c.requires.runs 1 left.0 left.1)

pub returns-in-Some-item_in : goal.returns-in-Some-item_in
returns-in-Some-item_in g c =
    let texts = g.C.Constants.text_of c.args.consts.now in
    let tuples = g.C.Constants.items_of c.args.consts.now in
    let heap = c.args.arena.now in
    let old = c.args.frames.now in
    let new = c.put.new.frames in
    let object = values.List c.in-Some.l in
    let index = values.Int c.in-Some.number in
    let v = c.in-Some-item_in.v in
    let fits : SFits w32 c.in-Some.number = search rules in
    let given =
    subst (λ (z : ℤ). IsOutcome texts tuples heap heap (Ok v) (get_item (plain_heap texts tuples heap) (plain texts tuples object) (plain texts tuples (values.Int z)))) (to_z-of_z w32 c.in-Some.number fits) c.in-Some-item_in.ensures in
    let steps = indexing.steps texts tuples heap old new c.args.end object index v given c.in-Some.ensures.list c.in-Some.ensures.number c.put.ensures in
    let puts = indexing.puts texts tuples heap old new c.args.end object index v given c.in-Some.ensures.list c.in-Some.ensures.number c.put.ensures in (
      ending.puts c.acting_law.ensures.acts (fetched_item item_ops.LoadSubscr c.args.end) (λ p s row r. r.begins tt) 0 (Plain (instrs.Plain ops.LoadSubscr)) old new
          (finding.leaves_same c.requires.runs) (λ p d tells. refl) steps 2 puts,
      omega arith,
    )
