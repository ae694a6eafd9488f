-- What primitives give over heaps whose objects have other numbers.
use Rattle.std.specs.Prelude.{◌≡◌, Result, Ok, Err}
use Rattle.std.specs.declared.cmp.Ordering.{Ordering}
use Rattle.bc_machine.specs.mpy_base.Val.{Val}
use Rattle.bc_machine.specs.py_primitives.Faults.{Fault, NoKey}
use Rattle.bc_machine.specs.py_primitives.Outcome.{Stop, Raises, Full, Outcome}
use Rattle.bc_machine.specs.py_primitives.Order.{Unordered}
use Rattle.bc_machine.specs.py_primitives.Output.{PortOutcome}
use Rattle.bc_machine.specs.py_primitives.Uses.{Attribute, Found, Method, Absent}
use Rattle.snap_laws.specs.Renamed.{Renaming, IsRenamed, value}

module _ (r : Renaming) where
  -- a fault, of which one has a value
  abbrev pub fault_as : Fault → Fault
  fault_as (NoKey key) = NoKey (value r key)
  fault_as fault = fault

  -- why there is no value
  abbrev pub stop_as : Stop → Stop
  stop_as (Raises fault) = Raises (fault_as fault)
  stop_as (Full room) = Full room

  -- two values that have no order
  abbrev pub unordered_as : Unordered → Unordered
  unordered_as e = record { left = value r e.left; right = value r e.right }

  -- an order
  abbrev pub order_as : Result Ordering Unordered → Result Ordering Unordered
  order_as (Ok o) = Ok o
  order_as (Err e) = Err (unordered_as e)

  -- the best of values
  abbrev pub best_as : Result Val Unordered → Result Val Unordered
  best_as (Ok v) = Ok (value r v)
  best_as (Err e) = Err (unordered_as e)

  -- an attribute
  abbrev pub attribute_as : Attribute → Attribute
  attribute_as (Found v) = Found (value r v)
  attribute_as (Method method) = Method method
  attribute_as Absent = Absent

  module _ {A : Type 0} (f : A → A) where
    -- an answer
    abbrev pub answer_as : Result A Stop → Result A Stop
    answer_as (Ok a) = Ok (f a)
    answer_as (Err stop) = Err (stop_as stop)

    -- the second outcome is the first one with other numbers
    pub record IsOutcome (o p : Outcome A) : Type 0 where
      pub answer : p.answer ≡ answer_as o.answer
      pub heap : IsRenamed r o.heap p.heap
      pub visits : p.visits ≡ o.visits

  -- what the ports are told is the same
  pub record IsPortOutcome (o p : PortOutcome) : Type 0 where
    pub answer : p.answer ≡ answer_as (value r) o.answer
    pub ports : p.ports ≡ o.ports
