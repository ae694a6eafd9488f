use Rattle.std.proofs.Common.{rules, SFits, w32}
use Rattle.std.proofs.lemmas.Int.{to_z-of_z}
use Rattle.vm_at_once.proofs.Answering.{number_given, truth_given}
use Rattle.vm_at_once.proofs.operators.answer.Goals as goal

pub returns-in-Some : goal.returns-in-Some
returns-in-Some c =
    let fits : SFits w32 c.in-Some.z = search rules in
    number_given c.args.number c.args.left c.args.right _ _ (to_z-of_z w32 c.args.left c.ranges.left) (to_z-of_z w32 c.args.right c.ranges.right) c.in-Some.z _ (to_z-of_z w32 c.in-Some.z fits) c.in-Some.ensures.small c.in-Some.ensures.gives

pub returns-in-Some-compare : goal.returns-in-Some-compare
returns-in-Some-compare c =
    truth_given c.args.number c.args.left c.args.right _ _ (to_z-of_z w32 c.args.left c.ranges.left) (to_z-of_z w32 c.args.right c.ranges.right) c.in-Some-compare.holds c.in-Some-compare.ensures
