-- The slots of positions that changed since a visit, and what still holds there.
use Rattle.std.specs.Prelude.{◌≡◌, ℕ, ◌-◌, true, List, [], ◌∷◌, length, Option, Some, None, slice_get, nat_eq, if◌then◌else◌}
use Rattle.bc_shapes.specs.declared.span.Span.{Span}
use Rattle.bc_shapes.specs.Shape.{At}
use Rattle.bc_shapes.specs.Spans.{SameOutside, BelowOutside, FitsBut, keeps_all}
use Rattle.bc_flow.specs.Action.{Action}
use Rattle.bc_flow.specs.Code.{Code}
use Rattle.bc_flow.specs.Edges.{Edge, base, takes, gives, gives_there, edges, holds, room, stays}
use Rattle.bc_flow.specs.Verified.{Assigned, Table, Fine, at, agree}

-- something is there, and it is the same but for these slots
pub record Differs (s : Span) (x : At) (o : Option At) : Type 0 where
  pub now : At
  pub is : o ≡ Some now
  pub slots : SameOutside s x.slots now.slots
  pub entries : x.entries ≡ now.entries

-- what was there is the same but for these slots
abbrev pub Keeps : Span → Option At → Option At → Type 0
Keeps s o p = (x : At) → o ≡ Some x → Differs s x p

-- what arrives lies below what is there, but for these slots
pub record Lies (s : Span) (x : At) (o : Option At) : Type 0 where
  pub there : At
  pub is : o ≡ Some there
  pub long : length x.slots ≡ length there.slots
  pub below : BelowOutside (Some s) x.slots there.slots

-- what arrives lies below what is there, but for the slots of the span; where there is no span, nothing is said
abbrev pub Outside : Option Span → At → Option At → Type 0
Outside None x o = Unit {0}
Outside (Some s) x o = Lies s x o

-- what each edge brings lies below what is there, but for the slots of the span; where there is no span, nothing is said
abbrev pub EachOutside : Option Span → Assigned → List Edge → Type 0
EachOutside o a [] = Unit {0}
EachOutside o a (e ∷ es) = Outside o e.at (a e.to) × EachOutside o a es

-- a position has what it had at its last visit, but for these slots
pub record Changed (old a : Assigned) (p : ℕ) (s : Span) : Type 0 where
  pub before : At
  pub was : old p ≡ Some before
  pub now : Differs s before (a p)

-- each position that was visited has what it had at its last visit, but for the slots that changed since
pub record Since (old a : Assigned) (changes : List (Option Span)) : Type 0 where
  pub each : (p : ℕ) (s : Span) → slice_get changes p ≡ Some (Some s) → Changed old a p s

-- what the positions had at their last visits, where the rules held and the edges arrived
pub record Remembers (code : Code) (old : Assigned) (t : Table) (changes : List (Option Span)) : Type 0 where
  pub since : Since old (at t) changes
  pub fine : (p : ℕ) (x : At) → old p ≡ Some x → Fine code (at t) p x

-- the position has that now
abbrev pub updated : Assigned → ℕ → At → Assigned
updated a p x q = if nat_eq q p then Some x else a q

-- all that it gives again lies above these slots, where it works on `n` slots
pub record IsClear (i : Action) (n : ℕ) (s : Span) : Type 0 where
  pub next_above : keeps_all (n - s.to) (gives i) ≡ true
  pub there_above : keeps_all (n - s.to) (gives_there i) ≡ true

-- the rules of a position hold but for these of the slots that it takes, and its edges have arrived but for these slots
pub record StillHolds (code : Code) (t : Table) (p : ℕ) (x : At) (i : Action) (s : Span) : Type 0 where
  pub handlers : holds code i p (length x.slots) x.entries ≡ true
  pub meets : agree t (edges code i p x) ≡ true
  pub asked : FitsBut s (takes i) (base i x)
  pub state : room code i x ≡ true
  pub falls : stays code i p ≡ true
  pub outside : EachOutside (Some s) (at t) (edges code i p x)
