use Rattle.std.proofs.Common.{map, sym, subst}
use Rattle.bc_flow.specs.Views.{edge_of_rust, option_list}
use Rattle.bc_certificates.specs.Checking.{Lead, rows_of}
use Rattle.bc_certificates.proofs.Checks.{lead_none}
use Rattle.bc_certificates.proofs.checking.leads_if.Goals as goal

pub returns-in-None : goal.returns-in-None
returns-in-None c = subst (λ o. Lead (rows_of c.args.table.now) (map edge_of_rust (option_list o))) (sym c.in-None.is) (lead_none (rows_of c.args.table.now))
