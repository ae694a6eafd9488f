-- What pens take.
use Rattle.std.specs.Prelude.{◌≡◌, ◌≤◌, ◌+◌, ℕ, List, [], ◌∷◌, ◌++◌, length, Option, Result, Ok, Err, Vec, vec_capacity}
use Rattle.std.specs.declared.alloc.Global.{Global}
use Rattle.std.specs.List.{flat_map}
use Rattle.prim_walks.specs.declared.budget.Halt.{Halt}

-- a piece was taken, and then the rest
pub record Link {P : Type 0} (Takes : P → List ℕ → P → Type 0) (old : P) (piece : List ℕ) (Rest : P → Type 0) : Type 0 where
  pub mid : P
  pub taken : Takes old piece mid
  pub rest : Rest mid

-- these pieces were taken, one after another
abbrev pub Chain : {P : Type 0} → (P → List ℕ → P → Type 0) → P → List (List ℕ) → P → Type 0
Chain Takes old [] new = new ≡ old
Chain Takes old (piece ∷ pieces) new = Link Takes old piece (λ mid. Chain Takes mid pieces new)

-- a pen wrote this text, in pieces
pub record Wrote {P : Type 0} (Takes : P → List ℕ → P → Type 0) (old : P) (text : List ℕ) (new : P) : Type 0 where
  pub pieces : List (List ℕ)
  pub chain : Chain Takes old pieces new
  pub whole : flat_map (λ piece. piece) pieces ≡ text

-- a walk has an answer, and its text was written
pub record Writes {P A : Type 0} (Takes : P → List ℕ → P → Type 0) (text : A
    → List ℕ) (ran : Result A Halt × Option ℕ) (left : Option ℕ) (old new : P) : Type 0 where
  pub answer : A
  pub is : ran ≡ (Ok answer, left)
  pub wrote : Wrote Takes old (text answer) new

-- what there is behind a walk that writes: the whole text, or why there is none
abbrev pub Wrought : {P A : Type 0} → (P → List ℕ → P → Type 0) → (A → List ℕ) → Result A Halt × Option ℕ → Result (Unit {0}) Halt → Option ℕ → P → P → Type 0
Wrought Takes text ran (Ok done) left old new = Writes Takes text ran left old new
Wrought Takes text ran (Err halt) left old new = ran ≡ (Err halt, left)

-- where there is room for a piece, it stands behind the bytes
pub record Appends (old : Vec ℕ Global) (piece : List ℕ) (new : Vec ℕ Global) : Type 0 where
  pub items : length old.items + length piece ≤ vec_capacity old → new.items ≡ old.items ++ piece
  pub room : vec_capacity old ≤ vec_capacity new
