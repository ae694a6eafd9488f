use Rattle.std.proofs.Common.{◌≤◌, rules}
use Rattle.emit_measures.proofs.Numbers.{told}
use Rattle.emit_measures.proofs.Rows.{top}
use Rattle.emit_measures.proofs.statement_heights.option_height.Goals as goal

pub returns-in-None : goal.returns-in-None
returns-in-None c = let h : c.args.none ≤ top = search rules in rw c.in-None.is (told top c.args.none h)

pub returns-in-Some : goal.returns-in-Some
returns-in-Some c = rw c.in-Some.is c.expr_height.ensures
