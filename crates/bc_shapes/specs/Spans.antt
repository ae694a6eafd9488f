-- Slots by their numbers from the bottom, and what is the same but for some.
use Rattle.std.specs.Prelude.{◌≡◌, ◌⊎◌, ℕ, suc, ◌-◌, ◌<◌, ◌≤◌, Bool, true, ◌&&◌, List, [], ◌∷◌, length, Option, Some, None, slice_index_or, nat_lt}
use Rattle.bc_shapes.specs.declared.kinds.Kind.{Kind}
use Rattle.bc_shapes.specs.declared.kinds.Kind.TheVariants.{Either}
use Rattle.bc_shapes.specs.declared.kinds.Give.{Give}
use Rattle.bc_shapes.specs.declared.kinds.Give.TheVariants.{New, Again}
use Rattle.bc_shapes.specs.declared.kinds.Want.{Want}
use Rattle.bc_shapes.specs.declared.span.Span.{Span}
use Rattle.bc_shapes.specs.Shape.{Below, fits}

-- the slot of that number is one of these
abbrev pub In : Span → ℕ → Type 0
In s n = (s.from ≤ n) × (n < s.to)

-- the slot of that number is one of these; without a span each slot is
abbrev pub Among : Option Span → ℕ → Type 0
Among None n = Unit {0}
Among (Some s) n = In s n

-- the slots are the same but for these
pub record SameOutside (s : Span) (ks ls : List Kind) : Type 0 where
  pub long : length ls ≡ length ks
  pub each : (k : ℕ) → k < length ks → (slice_index_or ls k Either ≡ slice_index_or ks k Either) ⊎ In s (length ks - suc k)

-- the slots lie below those that are there, but for these
abbrev pub BelowOutside : Option Span → List Kind → List Kind → Type 0
BelowOutside o ls ms = (k : ℕ) → k < length ms → Below (slice_index_or ls k Either) (slice_index_or ms k Either) ⊎ Among o (length ms - suc k)

-- a slot that is given is a new one, or one of the topmost `n`
abbrev pub keeps : ℕ → Give → Bool
keeps n (New k) = true
keeps n (Again m) = nat_lt m n

-- each slot that is given is a new one, or one of the topmost `n`
abbrev pub keeps_all : ℕ → List Give → Bool
keeps_all n [] = true
keeps_all n (g ∷ gs) = keeps n g && keeps_all n gs

-- slots that are the same but for these serve what is asked
abbrev pub FitsBut : Span → List Want → List Kind → Type 0
FitsBut s ws ks = (js : List Kind) × SameOutside s js ks × (fits ws js ≡ true)
