-- What the slots and handler entries of a frame are in the flow of its code.
use Rattle.std.specs.Prelude.{ℕ, Bool, List, [], ◌∷◌, Some, None, IfSome, All}
use Rattle.bc_machine.specs.mpy_base.declared.builtin.Builtin.{Builtin}
use Rattle.bc_machine.specs.mpy_base.Val.{Val, Nil, Built, At}
use Rattle.bc_flow.specs.bc_shapes.declared.shape.Entry.{Entry as FlowEntry}
use Rattle.bc_flow.specs.Machine as flow
use Rattle.bc_flow.specs.Machine.{Stack}
use Rattle.bc_machine.specs.State.{Slot, Value, Null, Object, Iter, KeptReturn, KeptJump, Entry}

-- what is known of an exception that a handler finds or an entry keeps, and of a method that lies below its object
pub record Facts : Type 1 where
  pub exception : ℕ → Type 0
  pub method : Val → Builtin → Type 0

-- facts that ask nothing of exceptions and methods
abbrev pub anything : Facts
anything = record { exception = λ x. Unit {0}; method = λ object method. Unit {0} }

-- a slot is one of the flow's. None and an exception stand for a value, or for what a handler finds
pub data ShowsIn (facts : Facts) : Slot → flow.Slot → Type 0 where
  value : {v : Val} → ShowsIn facts (Value v) flow.Value
  nothing : ShowsIn facts (Value Nil) flow.NoneOrException
  exception : {x : ℕ} → facts.exception x → ShowsIn facts (Value (At x)) flow.NoneOrException
  null : ShowsIn facts Null flow.Null
  kept_return : {v : Val} → ShowsIn facts (KeptReturn v) flow.KeptReturn
  kept_jump : {target count : ℕ} {iterator : Bool} → ShowsIn facts (KeptJump target count iterator) (flow.KeptJump target count iterator)
  iterator1 : {over : Val} {at : ℕ} → ShowsIn facts (Iter over at 0) flow.Iter1
  iterator2 : {over : Val} {at : ℕ} → ShowsIn facts (Iter over at 1) flow.Iter2
  iterator3 : {over : Val} {at : ℕ} → ShowsIn facts (Iter over at 2) flow.Iter3
  iterator4 : {over : Val} {at : ℕ} → ShowsIn facts (Iter over at 3) flow.Iter4

-- slot by slot. A method look-up has two slots: the object lies on its method, or nothing on a value to be called
pub data ShowsAllIn (facts : Facts) : List Slot → Stack → Type 0 where
  none : ShowsAllIn facts [] []
  more : {s : Slot} {t : flow.Slot} {slots : List Slot} {stack : Stack} → ShowsIn facts s t → ShowsAllIn facts slots stack
      → ShowsAllIn facts (s ∷ slots) (t ∷ stack)
  bound : {object : Val} {method : Builtin} {slots : List Slot} {stack : Stack} → facts.method object method → ShowsAllIn facts slots stack
      → ShowsAllIn facts (Object (Some object) ∷ Value (Built method) ∷ slots) (flow.Method ∷ flow.Value ∷ stack)
  free : {v : Val} {slots : List Slot} {stack : Stack} → ShowsAllIn facts slots stack
      → ShowsAllIn facts (Object None ∷ Value v ∷ slots) (flow.Method ∷ flow.Value ∷ stack)

-- a slot is one of the flow's, whatever exceptions and methods there are
abbrev pub Shows : Slot → flow.Slot → Type 0
Shows = ShowsIn anything

-- slots are the flow's, one by one, whatever exceptions and methods there are
abbrev pub ShowsAll : List Slot → Stack → Type 0
ShowsAll = ShowsAllIn anything

-- an entry without the exception that it keeps
abbrev pub flow_entry : Entry → FlowEntry
flow_entry e = record { handler = e.handler; is_finally = e.is_finally; active = e.active; height = e.height }

-- the exceptions that entries keep are known
abbrev pub KeepIn : Facts → List Entry → Type 0
KeepIn facts entries = All (λ (e : Entry). IfSome e.kept facts.exception) entries
