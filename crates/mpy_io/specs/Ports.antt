-- What is seen of a port, and what a call makes of it.
use Rattle.std.specs.Prelude.{◌≡◌, ℕ, ℤ, Bool, true, false, IsTrue, List, [], ◌∷◌, ◌++◌, drop, Contains, Option, Some, IfSome, slice_get, Result, IfOk, is_err}
use Rattle.mpy_base.specs.World.{PortState}
use Rattle.mpy_io.specs.Count.{Counts}
use Rattle.mpy_io.specs.Memory.{next}

-- a port: its contents where it tells them, and its count of faults
pub record PortView : Type 0 where
  pub told : Option PortState
  pub count : ℕ

-- the next call is one of those that fail
abbrev pub IsFailing : PortState → Type 0
IsFailing port = Contains port.failing port.calls

-- the first pending answer
abbrev pub first_pending : PortState → Option ℤ
first_pending port = slice_get port.pending 0

-- one more call was made
abbrev pub called : PortState → PortState
called port = record port { calls = next port.calls }

-- after a put: a failed one changes neither list
abbrev pub after_put : PortState → ℤ → Bool → PortState
after_put port n true = called port
after_put port n false = record (called port) { written = port.written ++ n ∷ [] }

-- after a get: a failed one changes neither list
abbrev pub after_get : PortState → Bool → PortState
after_get port true = called port
after_get port false = record (called port) { pending = drop 1 port.pending }

-- a put of a number, which failed or did not
pub record Puts (old new : PortView) (n : ℤ) (failed : Bool) : Type 0 where
  pub after : IfSome old.told (λ port. new.told ≡ Some (after_put port n failed))
  pub failing : IfSome old.told (λ port. IsFailing port → IsTrue failed)
  pub cause : Counts old.count new.count failed

-- a get and what it answered: None exactly where no answer is pending
pub record Gets {E : Type 0} (old new : PortView) (result : Result (Option ℤ) E) : Type 0 where
  pub answer : IfSome old.told (λ port. IfOk result (λ answer. answer ≡ first_pending port))
  pub after : IfSome old.told (λ port. new.told ≡ Some (after_get port (is_err result)))
  pub failing : IfSome old.told (λ port. IsFailing port → IsTrue (is_err result))
  pub cause : Counts old.count new.count (is_err result)
