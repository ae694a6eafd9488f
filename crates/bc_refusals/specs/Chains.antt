-- Handlers from which raises lead on from row to row.
use Rattle.std.specs.Prelude.{◌≡◌, ℕ, ◌<◌, Bool, List, [], ◌∷◌, Some}
use Rattle.bc_flow.specs.bc_shapes.Shape.{At}
use Rattle.bc_flow.specs.Edges.{Edge}
use Rattle.bc_certificates.specs.Rows.{Rows, row}
use Rattle.bc_certificates.specs.Checking.{Lies}
use Rattle.bc_refusals.specs.Stages.{IsSet}

-- each position with a flag has no row, or the ways into all handlers of that row's entries lead to rows
abbrev pub LeadOn : Rows → List Bool → Type 0
LeadOn rows flags = (h : ℕ) (y : At) → IsSet flags h → row rows h ≡ Some y → Lies rows y.slots y.entries

-- the flags are set where these edges end
abbrev pub SetAll : List Bool → List Edge → Type 0
SetAll flags [] = Unit {0}
SetAll flags (e ∷ es) = IsSet flags e.to × SetAll flags es

-- these edges end in front of the position
abbrev pub AllInside : ℕ → List Edge → Type 0
AllInside n [] = Unit {0}
AllInside n (e ∷ es) = e.to < n × AllInside n es
