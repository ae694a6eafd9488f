use Rattle.std.proofs.Common.{rules}
use Rattle.bc_verify.specs.Verified.{IsFirstFault}
use Rattle.bc_verify.proofs.Once.{fault_apart}
use Rattle.bc_verify.proofs.verified.verify.Goals as goal

pub returns-in-Ok-Some-clause-only : goal.returns-in-Ok-Some-clause-only
returns-in-Ok-Some-clause-only c f e verified =
    let first : IsFirstFault c.args.raw c.in-Ok-Some.fault = search rules in
    fault_apart c.args.raw c.in-Ok-Some.fault first verified
