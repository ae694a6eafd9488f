use Rattle.std.proofs.Common.{subst, sym}
use Rattle.bc_certificates.specs.Checking.{rows_of}
use Rattle.bc_refusals.specs.Chains.{LeadOn}
use Rattle.bc_refusals.proofs.Runs.{none_lead}
use Rattle.bc_refusals.proofs.chaining.leading_handlers.Goals as goal

pub loop-k-init : goal.loop-k-init
loop-k-init c = subst (LeadOn (rows_of c.args.table.now)) (sym c.in_ok-leading.ensures) (none_lead (rows_of c.args.table.now) c.len-size.result)
