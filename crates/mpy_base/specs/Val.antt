-- The values of programs as the meaning has them: nothing in them is a place in a file or a number of a text.
use Rattle.std.specs.Prelude.{ℕ, ℤ, Bool, List, [], ◌∷◌}
use Rattle.mpy_base.specs.declared.builtin.Builtin.{Builtin}
use Rattle.mpy_base.specs.World.{World}

mutual
  -- a value
  pub data Val : Type 0 where
    Nil : Val
    Truth : Bool → Val
    Int : ℤ → Val
    -- a constant text
    Str : (bytes : List ℕ) → Val
    -- a constant tuple
    Fixed : (items : Vals) → Val
    -- the empty tuple
    Empty : Val
    Built : Builtin → Val
    -- the object of this number
    At : (n : ℕ) → Val

  -- the items of a constant tuple, which has one at least
  pub data Vals : Type 0 where
    Only : Val → Vals
    Then : Val → Vals → Vals

-- the items as a list
abbrev pub vals : Vals → List Val
vals (Only v) = v ∷ []
vals (Then v vs) = v ∷ vals vs

-- the world that the meaning of a program speaks of
abbrev pub PlainWorld : Type 0
PlainWorld = World Val (List ℕ)
