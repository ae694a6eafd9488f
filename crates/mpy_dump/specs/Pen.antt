-- Bytes that are gathered before they are put.
use Rattle.std.specs.Prelude.{◌≡◌, ℕ, List, ◌++◌, Option, Result, OnOk}
use Rattle.mpy_io.specs.declared.fault.Failed.{Failed}
use Rattle.mpy_dump.specs.Puts.{Puts}

-- what a pen has gathered, and how many puts failed
pub record PenState : Type 0 where
  -- what is gathered
  pub text : List ℕ
  -- how many puts found no room
  pub faults : ℕ

-- The text was gathered behind what was held: a front of both went out, and after an Ok the rest is held. After a failure
-- a front of that front went out.
pub record Gathers {S : Type 0} (told : S → Option (List ℕ)) (count : S
    → ℕ) (old new : S) (held text left : List ℕ) (result : Result (Unit {0}) Failed) : Type 0 where
  pub front : List ℕ
  pub rest : List ℕ
  pub parts : held ++ text ≡ front ++ rest
  pub puts : Puts told count old new front result
  pub kept : OnOk result (left ≡ rest)
