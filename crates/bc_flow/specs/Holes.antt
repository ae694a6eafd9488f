-- A position that is out of the table while slots that changed pass along its edges.
use Rattle.std.specs.Prelude.{◌≡◌, ℕ, suc, ◌&&◌, nat_lt, true, List, [], ◌∷◌, ◌++◌, length, map, set}
use Rattle.bc_shapes.specs.declared.span.Span.{Span}
use Rattle.bc_shapes.specs.Shape.{At}
use Rattle.bc_flow.specs.declared.passing.Leaving.{Leaving}
use Rattle.bc_flow.specs.Action.{Action}
use Rattle.bc_flow.specs.Code.{Code}
use Rattle.bc_flow.specs.Edges.{Edge, behind, change, edge_of, edges, falls, finds, jump_way, next_way, raise_ways, runs, target}
use Rattle.bc_flow.specs.Verified.{Table, Unseen, Done}
use Rattle.bc_flow.specs.Spans.{StillHolds}
use Rattle.bc_flow.specs.Views.{edge_of_rust, option_list}

-- the table without what holds at a position
abbrev pub without : Table → ℕ → Table
without t p = set t p Unseen

-- the table with what holds at a position that was visited
abbrev pub filled : Table → ℕ → At → Table
filled t p x = set t p (Done x)

-- no edge leads to the position
abbrev pub Away : ℕ → List Edge → Type 0
Away p [] = Unit {0}
Away p (e ∷ es) = (e.to ≡ p → ⊥) × Away p es

-- the edge to the next position, where there is one
abbrev pub going : Action → ℕ → ℕ → At → List Edge
going i p size x = map (edge_of i x) (next_way (falls i && nat_lt (suc p) size) p (behind (change i) (length x.slots) x.entries))

-- the edge of a jump
abbrev pub jumping : Action → At → List Edge
jumping i x = map (edge_of i x) (jump_way (target i) (behind (change i) (length x.slots) x.entries))

-- the edge of a raise
abbrev pub raising : Action → At → List Edge
raising i x = map (edge_of i x) (raise_ways x.entries)

-- the edges that leave a position of a code of that size, where no finally handler is run
abbrev pub leaving : Action → ℕ → ℕ → At → List Edge
leaving i p size x = going i p size x ++ (jumping i x ++ raising i x)

-- the edges of these
abbrev pub leaving_list : Leaving → List Edge
leaving_list l = map edge_of_rust (option_list l.next) ++ (map edge_of_rust (option_list l.jump) ++ map edge_of_rust (option_list l.raise))

-- the rules still hold at a position where these slots changed, it runs no finally handler, and none of its edges comes back
pub record Passes (code : Code) (t : Table) (p : ℕ) (x : At) (i : Action) (s : Span) : Type 0 where
  pub still : StillHolds code t p x i s
  pub height : finds i x ≡ true
  pub none_run : runs i (length x.entries) ≡ 0
  pub away : Away p (edges code i p x)
