-- What is found out of one position.
use Rattle.std.specs.Prelude.{◌≡◌, ℕ, length, map, slice_get, Some}
use Rattle.bc_shapes.specs.Shape.{At}
use Rattle.bc_flow.specs.declared.walk.Judged.{Judged}
use Rattle.bc_flow.specs.Action.{Action}
use Rattle.bc_flow.specs.Code.{Code}
use Rattle.bc_flow.specs.Edges.{edges, holds, finds, room, stays}
use Rattle.bc_flow.specs.Verified.{Table, agree, at}
use Rattle.bc_flow.specs.Spans.{EachOutside}
use Rattle.bc_flow.specs.Views.{edge_of_rust}

-- what the rules say of a position, and its edges
pub record Judges (code : Code) (t : Table) (p : ℕ) (x : At) (j : Judged) : Type 0 where
  pub action : Action
  pub is : slice_get code.actions p ≡ Some action
  pub handlers : j.handlers ≡ holds code action p (length x.slots) x.entries
  pub meets : j.meets ≡ agree t (edges code action p x)
  pub height : j.height ≡ finds action x
  pub state : j.state ≡ room code action x
  pub falls : j.falls ≡ stays code action p
  pub along : map edge_of_rust j.edges.items ≡ edges code action p x
  pub outside : EachOutside j.among (at t) (edges code action p x)
