use Rattle.std.proofs.Common.{refl, arith, rules, length, ◌<◌, ◌≤◌, SFits, w32}
use Rattle.std.proofs.lemmas.Int.{to_z-of_z}
use Rattle.state_values.specs.bc_progress.bc_ops.declared.instr.Instr.TheVariants as instrs
use Rattle.state_values.specs.bc_progress.bc_machine.Library.{Plain}
use Rattle.state_values.specs.vm_frames.Calls.{Call}
use Rattle.state_values.proofs.frame_moves_lemmas.Stepping.{weaker}
use Rattle.state_values.specs.vm_fetching.Instructions as fetched
use Rattle.vm_at_once.proofs.Ending as ending
use Rattle.vm_at_once.proofs.Finding as finding
use Rattle.vm_at_once.proofs.Operating as operating
use Rattle.vm_at_once.proofs.operators.binary_at_once.Goals as goal

pub two_numbers-requires : goal.two_numbers-requires
two_numbers-requires g c =
    let left = (finding.two c.requires.runs c.tops_law.ensures.two c.requires.runs.ready.finds.1).1 in
    finding.slot_there c.requires.runs 1 left.0 left.1

pub put-requires : goal.put-requires
put-requires g c =
    let left = (finding.two c.requires.runs c.tops_law.ensures.two c.requires.runs.ready.finds.1).1 in
    weaker (λ (d : Call). 1 < length d.slots) (λ (d : Call). 2 ≤ length d.slots) c.args.frames.now.calls (λ d h. omega (arith, h)) (finding.slot_there c.requires.runs 1 left.0 left.1)

pub returns-in-Some-answer : goal.returns-in-Some-answer
returns-in-Some-answer g c =
    let texts = g.C.Constants.text_of c.args._consts.now in
    let tuples = g.C.Constants.items_of c.args._consts.now in
    let heap = c.args._arena.now in
    let old = c.args.frames.now in
    let new = c.put.new.frames in
    let left = c.in-Some.left in
    let right = c.in-Some.right in
    let fits_left : SFits w32 left = search rules in
    let fits_right : SFits w32 right = search rules in
    let v = c.in-Some-answer.v in
    let visits = c.in-Some-answer.visits in
    let told = finding.all_told c.requires.runs in
    let steps = operating.steps texts tuples heap old new c.args.number c.args.end left right _ _ v visits (to_z-of_z w32 left fits_left) (to_z-of_z w32 right fits_right) c.in-Some-answer.ensures told c.in-Some.ensures.left c.in-Some.ensures.right c.put.ensures in
    let puts = operating.puts texts tuples heap old new c.args.number c.args.end left right _ _ v visits (to_z-of_z w32 left fits_left) (to_z-of_z w32 right fits_right) c.in-Some-answer.ensures told c.in-Some.ensures.left c.in-Some.ensures.right c.put.ensures in (
      ending.puts c.acting_law.ensures.acts (record { instruction = fetched.binary c.args.number; end = c.args.end }) (λ p s row r. r.begins tt) visits (Plain (instrs.Binary c.args.number)) old new
          (finding.leaves_same c.requires.runs) (λ p d tells. refl) steps 2 puts,
      c.in-Some-answer.ensures.few,
    )
