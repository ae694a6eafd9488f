-- The numbers and names of the rules.
use Rattle.std.specs.Prelude.{ℕ, List, codes}
use Rattle.bc_verify.specs.declared.fault.Rule.{Rule}
use Rattle.bc_verify.specs.declared.fault.Rule.TheVariants.{Jump, Height, Handlers, Falls, Local, State, Names}
use Rattle.bc_refusals.specs.bc_flow.declared.code.Rule as flow
use Rattle.bc_refusals.specs.bc_flow.declared.code.Rule.TheVariants as flows

-- the number of a rule, which the line tells
abbrev pub number_of : Rule → ℕ
number_of Jump = 1
number_of Height = 2
number_of Handlers = 3
number_of Falls = 4
number_of Local = 5
number_of State = 6
number_of Names = 7

-- the name of a rule, which the line tells
abbrev pub name_of : Rule → List ℕ
name_of Jump = codes "Jump"
name_of Height = codes "Height"
name_of Handlers = codes "Handlers"
name_of Falls = codes "Falls"
name_of Local = codes "Local"
name_of State = codes "State"
name_of Names = codes "Names"

-- a rule of one code alone is one of the module
abbrev pub of_flow : flow.Rule → Rule
of_flow flows.Jump = Jump
of_flow flows.Height = Height
of_flow flows.Handlers = Handlers
of_flow flows.Falls = Falls
of_flow flows.Local = Local
of_flow flows.State = State
