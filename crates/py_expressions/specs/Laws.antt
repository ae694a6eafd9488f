-- What is proved of the reading functions.
use Rattle.std.specs.Prelude.{◌≡◌, ℕ, ◌≤◌, List, Result, Ok, Err}
use Rattle.py_tokens.specs.declared.token.Token.{Token}
use Rattle.mpy_base.specs.declared.refused.Refused.{Refused}
use Rattle.mpy_base.specs.declared.refused.Refused.TheVariants as refused
use Rattle.py_expressions.specs.declared.cursor.Cursor.{Cursor}
use Rattle.py_expressions.specs.declared.cursor.Syntax.{Syntax}
use Rattle.py_expressions.specs.Input.{Input, input_of, Outcome, Parser}
use Rattle.py_expressions.specs.Follow.{rank}

-- the input of these tokens
abbrev pub input : List Token → ℕ → Input
input ts front = record { ahead = ts; front = front }

-- a reading of what was read, which leaves the front as it was
pub record Found {C A : Type 0} (text : C → List Token → List Token) (tree : C → A) (i : Input) (x : A) (j : Input) : Type 0 where
  pub reading : C
  pub spelled : i.ahead ≡ text reading j.ahead
  pub is : tree reading ≡ x
  pub kept : i.front ≡ j.front

-- What is read has a reading.
abbrev pub Sound : {C A : Type 0} → (C → List Token → List Token) → (C → A) → Parser A → Type 0
Sound {A} text tree p = (i : Input) (x : A) (j : Input) → p i ≡ Ok (x, j) → Found text tree i x j

-- What has a reading is read, in front of tokens of this rank and more.
abbrev pub Complete : {C A : Type 0} → (C → List Token → List Token) → (C → A) → ℕ → Parser A → Type 0
Complete {C} text tree least p = (c : C) (rest : List Token) (front : ℕ) → least ≤ rank rest
    → p (input (text c rest) front) ≡ Ok (tree c, input rest front)

-- It stops only at the front that it was given.
abbrev pub Fails : {A : Type 0} → Parser A → Type 0
Fails {A} p = (i : Input) (left : ℕ) → (let stopped : Outcome A = Err left in p i ≡ stopped) → left ≡ i.front

-- ---- what a reader of the code gives

-- The value that it gives has a reading.
abbrev pub IsFound : {C A : Type 0} → (C → List Token → List Token) → (C → A) → Cursor → Result A (Refused Syntax) → Cursor → Type 0
IsFound text tree old (Ok x) new = Found text tree (input_of old) x (input_of new)
IsFound text tree old (Err e) new = Unit {0}

-- It gives this value and leaves these tokens, unless memory fails.
abbrev pub IsRead : {A : Type 0} → A → List Token → Result A (Refused Syntax) → Cursor → Type 0
IsRead x rest (Ok y) new = (y ≡ x) × (new.ahead.now ≡ rest)
IsRead x rest (Err (refused.Fault e)) new = ⊥
IsRead x rest (Err refused.NoMemory) new = Unit {0}

-- A refusal names the front that there was.
abbrev pub NamesFront : {A : Type 0} → Cursor → Result A (Refused Syntax) → Type 0
NamesFront old (Err (refused.Fault e)) = e.left ≡ old.front
NamesFront old _ = Unit {0}
