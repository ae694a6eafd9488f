-- Verified libraries: each code has an assignment of slots and entries to its positions that meets the rules.
use Rattle.std.specs.Prelude.{◌≡◌, ℕ, ◌<◌, ◌≤◌, ◌%◌, nat_le, Bool, List, length, map, Some, slice_get}
use Rattle.bc_machine.specs.bc_ops.declared.form.Form.TheVariants as forms
use Rattle.bc_machine.specs.bc_ops.declared.instr.Op.TheVariants as ops
use Rattle.bc_machine.specs.bc_ops.declared.instr.Instr.TheVariants as instrs
use Rattle.bc_machine.specs.bc_ops.Table.{code_of, form_of}
use Rattle.bc_machine.specs.bc_ops.Code.{IsEncodable}
use Rattle.bc_flow.specs.Action.{Action, Unwind, instr_action, op_action, jump_action}
use Rattle.bc_flow.specs.Code as flow
use Rattle.bc_flow.specs.Verified.{Assigned, Holds as Meets}
use Rattle.bc_machine.specs.Library.{Name, Item, Plain, Names, Loads, Jumps, Unwinds, Line, Code, Module, Holds, Library, entry_in}

-- what an instruction does in the flow of its code
abbrev pub action_of : Item → Action
action_of (Plain instr) = instr_action instr
action_of (Names op name) = op_action op 0
action_of (Loads v) = op_action ops.LoadConstObj 0
action_of (Jumps op p) = jump_action op p
action_of (Unwinds p byte) = Unwind p (byte % 128) (nat_le 128 byte)

-- the instruction is one that a file has
abbrev pub IsKnown : Item → Type 0
IsKnown (Plain (instrs.Name op n)) = ⊥
IsKnown (Plain (instrs.Num ops.LoadConstObj n)) = ⊥
IsKnown (Plain (instrs.Jump op offset wide)) = ⊥
IsKnown (Plain (instrs.Unwind offset wide byte)) = ⊥
IsKnown (Plain instr) = IsEncodable instr
IsKnown (Names op name) = form_of (code_of op) ≡ forms.Name op
IsKnown (Loads v) = Unit {0}
IsKnown (Jumps op p) = (signed : Bool) × (form_of (code_of op) ≡ forms.Offset op signed)
IsKnown (Unwinds p byte) = Unit {0}

-- the child with the number `n` is a code of the module, which has `count` codes
abbrev pub IsChild : ℕ → List ℕ → ℕ → Type 0
IsChild count children n = (number : ℕ) × (slice_get children n ≡ Some number) × (number < count)

-- the child that the instruction makes a function of is one
abbrev pub MakesChild : ℕ → List ℕ → Item → Type 0
MakesChild count children (Plain (instrs.Num ops.MakeFunction n)) = IsChild count children n
MakesChild count children (Plain (instrs.Num ops.MakeFunctionDefargs n)) = IsChild count children n
MakesChild count children _ = Unit {0}

-- how a code is verified: the rooms of its slots and of its entries, and what holds of its positions
pub record Plan : Type 0 where
  pub n_state : ℕ
  pub n_exc : ℕ
  pub assigned : Assigned

-- what the flow of the code is about
abbrev pub flow_of : Plan → Code → flow.Code
flow_of plan code = record {
  actions = map (λ (l : Line). action_of l.item) code.lines;
  n_state = plan.n_state;
  n_exc = plan.n_exc;
  locals = code.locals;
}

-- the code of a module with `count` codes is verified by the plan
pub record IsVerifiedCode (count : ℕ) (plan : Plan) (code : Code) : Type 0 where
  pub params : length code.params ≤ code.locals
  pub known : (p : ℕ) (l : Line) → slice_get code.lines p ≡ Some l → IsKnown l.item
  pub children : (p : ℕ) (l : Line) → slice_get code.lines p ≡ Some l → MakesChild count code.children l.item
  pub meets : Meets (flow_of plan code) plan.assigned

-- each code of the module is, by the plan of its number
pub record IsVerifiedModule (plans : ℕ → Plan) (m : Module) : Type 0 where
  pub begins : 0 < length m.codes
  pub codes : (number : ℕ) (code : Code) → slice_get m.codes number ≡ Some code → IsVerifiedCode (length m.codes) (plans number) code

-- a plan for each code of each module, by the module's name
abbrev pub Plans : Type 0
Plans = Name → ℕ → Plan

-- each module of the library is verified by its plans
abbrev pub Follows : Plans → Library → Type 0
Follows plans library = (name : Name) (m : Module) → entry_in library name ≡ Some (Holds m) → IsVerifiedModule (plans name) m

-- each module that the library holds is verified
abbrev pub AreVerified : Library → Type 0
AreVerified library = (name : Name) (m : Module) → entry_in library name ≡ Some (Holds m) → (plans : ℕ → Plan) × IsVerifiedModule plans m

-- a verified library: there are plans that verify each of its modules
abbrev pub IsVerifiedLibrary : Library → Type 0
IsVerifiedLibrary library = (plans : Plans) × Follows plans library
