use Rattle.std.proofs.Common.{◌∙◌, ap, arith}
use Rattle.std.specs.Prelude.{option_map}
use Rattle.bc_certificates.specs.Checking.{at_row}
use Rattle.bc_certificates.proofs.Checks.{row_in, row_past}
use Rattle.bc_certificates.proofs.checking.row_in.Goals as goal

pub returns-in-Some : goal.returns-in-Some
returns-in-Some c bases = row_in bases c.args.rows.now c.args.p c.index-rows-p.result c.if-p-rows.true c.index-rows-p.is ∙ ap (option_map (at_row bases)) c.in-Some.is

pub returns-in-None : goal.returns-in-None
returns-in-None c bases = row_in bases c.args.rows.now c.args.p c.index-rows-p.result c.if-p-rows.true c.index-rows-p.is ∙ ap (option_map (at_row bases)) c.in-None.is

pub returns-else-p-rows : goal.returns-else-p-rows
returns-else-p-rows c bases = row_past bases c.args.rows.now c.args.p (omega (arith, c.if-p-rows.false))
