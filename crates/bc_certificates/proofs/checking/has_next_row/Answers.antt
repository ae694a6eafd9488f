use Rattle.std.proofs.Common.{◌≡◌, ◌+◌, ◌∙◌, suc, ap, arith}
use Rattle.bc_certificates.specs.Checking.{rows_of}
use Rattle.bc_certificates.specs.Rows.{row}
use Rattle.bc_certificates.proofs.checking.has_next_row.Goals as goal

pub returns-in-None : goal.returns-in-None
returns-in-None c = ap (row (rows_of c.args.table.now)) (let q : suc c.args.p ≡ c.args.p + 1 = omega arith in q) ∙ c.in-None.ensures
