-- Where labels stand.
use Rattle.std.specs.Prelude.{◌≡◌, ℕ, ◌≤◌, List, Option, Some, slice_get}

-- each position that a label has is one of the first `positions`, or the one behind them
abbrev pub AreWithin : (labels : List (Option ℕ)) (positions : ℕ) → Type 0
AreWithin labels positions = (label position : ℕ) → slice_get labels label ≡ Some (Some position) → position ≤ positions
