-- The rules on single instructions.
use Rattle.bc_flow.specs.declared.code.Rule.{Rule}
use Rattle.bc_flow.specs.declared.code.Rule.TheVariants as rules

-- it is a rule of one instruction alone
abbrev pub IsOnInstruction : Rule → Type 0
IsOnInstruction rules.Jump = Unit {0}
IsOnInstruction rules.Local = Unit {0}
IsOnInstruction rules.State = Unit {0}
IsOnInstruction _ = ⊥
