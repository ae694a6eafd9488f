-- Verified modules, and the first fault of others.
use Rattle.std.specs.Prelude.{◌≡◌, ◌⊎◌, ℕ, List, ◌∷◌, length, Some, slice_index}
use Rattle.mpy_tree.specs.declared.raw.RawCode.{RawCode, out-RawCode}
use Rattle.mpy_tree.specs.Raw.{Module}
use Rattle.bc_refusals.specs.bc_flow.declared.code.Rule.{Rule as FlowRule}
use Rattle.bc_refusals.specs.bc_flow.declared.walk.State.{State}
use Rattle.bc_refusals.specs.bc_flow.Verified as flow
use Rattle.bc_refusals.specs.bc_flow.Views.{table_of}
use Rattle.bc_verify.specs.declared.fault.Rule.{Rule}
use Rattle.bc_verify.specs.declared.fault.VerifyFault.{VerifyFault}
use Rattle.bc_verify.specs.Body.{Body, Says, flow_of}
use Rattle.mpy_tree.specs.Codes.{code_at, IsBefore}
use Rattle.bc_verify.specs.Rule.{of_flow}
use Rattle.bc_verify.specs.Rules.{KeepsAll, IsFirstBroken}

-- how many children a code has
abbrev pub children_of : RawCode → ℕ
children_of code = length (out-RawCode code).children

-- each instruction keeps the rules, and slots and handler entries can be assigned to the positions that keep them along
-- the flow
pub record IsVerifiedCode (m : Module) (code : RawCode) : Type 0 where
  pub body : Body
  pub offsets : List ℕ
  pub says : Says (out-RawCode code).bytes body offsets
  pub instructions : KeepsAll m (children_of code) body
  pub flow : flow.Verified (flow_of body)

-- the states are an assignment to the code's positions, and below each other one
pub record TellsLeast (code : RawCode) (states : List State) : Type 0 where
  pub body : Body
  pub offsets : List ℕ
  pub says : Says (out-RawCode code).bytes body offsets
  pub holds : flow.Holds (flow_of body) (flow.at (table_of states))
  pub least : flow.IsLeastOf (flow_of body) (flow.at (table_of states))
  -- a walk comes to them: so they are the least whatever room the code says that it has for slots and entries
  pub reached : flow.Reached (flow_of body) (table_of states)

-- all codes of a tree are verified
abbrev pub AreVerified : Module → RawCode → Type 0
AreVerified m root = (path : List ℕ) (code : RawCode) → code_at path root ≡ Some code → IsVerifiedCode m code

-- a verified module: all its codes are
abbrev pub IsVerified : Module → Type 0
IsVerified m = AreVerified m m.code

-- the flow's first fault
pub record IsFlowFault (body : Body) (rule : Rule) (position : ℕ) : Type 0 where
  pub broken : FlowRule
  pub rule_is : rule ≡ of_flow broken
  pub first : flow.FirstFault (flow_of body) broken position

-- the first fault of a code: its instructions by themselves come before its flow
abbrev pub IsFirstIn : Module → ℕ → Body → Rule → ℕ → Type 0
IsFirstIn m children body rule position =
    IsFirstBroken m children body rule position ⊎ (KeepsAll m children body × IsFlowFault body rule position)

-- the first fault of a code, with the offset of its instruction, or 0 in a code without instructions
pub record IsCodeFault (m : Module) (code : RawCode) (rule : Rule) (offset : ℕ) : Type 0 where
  pub body : Body
  pub offsets : List ℕ
  pub says : Says (out-RawCode code).bytes body offsets
  pub position : ℕ
  pub first : IsFirstIn m (children_of code) body rule position
  pub offset_is : offset ≡ slice_index offsets position

-- the first fault of the first code in preorder that has one, with the path to that code
pub record IsTreeFault (m : Module) (root : RawCode) (rule : Rule) (path : List ℕ) (offset : ℕ) : Type 0 where
  pub code : RawCode
  pub is : code_at path root ≡ Some code
  pub fault : IsCodeFault m code rule offset
  pub before : (other : List ℕ) (earlier : RawCode) → IsBefore other path → code_at other root ≡ Some earlier
      → IsVerifiedCode m earlier

-- the first fault of a module, whose outermost code has the path 0
pub record IsFirstFault (m : Module) (fault : VerifyFault) : Type 0 where
  pub path : List ℕ
  pub path_is : fault.path ≡ 0 ∷ path
  pub first : IsTreeFault m m.code fault.rule path fault.offset
