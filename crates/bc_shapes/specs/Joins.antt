-- Slots that are joined in place.
use Rattle.std.specs.Prelude.{◌≡◌, ℕ, ◌<◌, Bool, List, Some, get_or, set}
use Rattle.std.specs.Bool.{OnTrue, OnFalse}
use Rattle.bc_shapes.specs.declared.kinds.Kind.{Kind}
use Rattle.bc_shapes.specs.declared.kinds.Kind.TheVariants.{Either}
use Rattle.bc_shapes.specs.Shape.{join_kind, join, opens}

-- one slot met a kind
pub record JoinsAt (old : List Kind) (i : ℕ) (kind : Kind) (new : List Kind) (changed : Bool) : Type 0 where
  pub met : join_kind (get_or old i Either) kind ≡ Some (get_or new i Either)
  pub others : new ≡ set old i (get_or new i Either)
  pub fewer : OnTrue changed (opens new < opens old)
  pub kept : OnFalse changed (new ≡ old)

-- the slots met those that arrived, and the new ones are where they meet
pub record Joins (old arriving new : List Kind) (changed : Bool) : Type 0 where
  pub is : join old arriving ≡ Some new
  pub fewer : OnTrue changed (opens new < opens old)
  pub kept : OnFalse changed (new ≡ old)
