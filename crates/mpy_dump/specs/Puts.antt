-- What a call that puts bytes does to its sink.
use Rattle.std.specs.Prelude.{ℕ, List, Option, Result, OnOk, OnErr, is_err}
use Rattle.std.specs.Io.KnownBytes.{Appends}
use Rattle.mpy_io.specs.declared.fault.Failed.{Failed}
use Rattle.mpy_io.specs.Count.{Counts}
use Rattle.mpy_io.specs.Told.{AppendsFront}

-- The text goes out, or after a failure a front of it; the count of faults rose exactly then.
pub record Puts {S : Type 0} (told : S → Option (List ℕ)) (count : S → ℕ) (old new : S) (text : List ℕ) (result : Result (Unit {0}) Failed) : Type 0 where
  pub ok : OnOk result (Appends (told old) (told new) text)
  pub err : OnErr result (AppendsFront (told old) (told new) text)
  pub cause : Counts (count old) (count new) (is_err result)
