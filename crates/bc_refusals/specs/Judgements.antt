-- What a judgement says.
use Rattle.bc_flow.specs.Code.{Code}
use Rattle.bc_flow.specs.Verified.{FirstFault, Verified}
use Rattle.bc_refusals.specs.declared.judging.Judgement.{Judgement}
use Rattle.bc_refusals.specs.declared.judging.Judgement.TheVariants as judgements

-- what it says of a code
abbrev pub Shows : Code → Judgement → Type 0
Shows code judgements.Verified = Verified code
Shows code (judgements.Refused fault) = FirstFault code fault.rule fault.position
Shows code judgements.Unknown = Unit {0}
