-- Certificates of verified code: rows for the positions where edges meet. The positions between have what they carry.
use Rattle.std.specs.Prelude.{◌≡◌, ℕ, zero, suc, Bool, true, false, ◌&&◌, List, [], ◌∷◌, ◌++◌, length, map, Option, Some, None, IfSome, nat_lt, slice_get}
use Rattle.bc_flow.specs.bc_shapes.declared.shape.Entry.{Entry}
use Rattle.bc_flow.specs.bc_shapes.Shape.{At, Under}
use Rattle.bc_flow.specs.Action.{Action}
use Rattle.bc_flow.specs.Code.{Code}
use Rattle.bc_flow.specs.Edges.{Way, Next, Edge, edge_of, arrive, behind, change, falls, target, runs, jump_way, raise_ways}
use Rattle.bc_flow.specs.Edges.{run_ways, holds, finds, room, stays}
use Rattle.bc_flow.specs.Verified.{Assigned, Each, Leads, begin}

-- what holds of positions, by their numbers
abbrev pub Rows : Type 0
Rows = List (Option At)

-- the row of a position, where it has one
abbrev pub row : Rows → Assigned
row [] p = None
row (o ∷ rows) zero = o
row (o ∷ rows) (suc p) = row rows p

-- does the flow go on from the position to the next one?
abbrev pub goes_on : Code → ℕ → Action → Bool
goes_on code p i = falls i && nat_lt (suc p) (length code.actions)

-- what an instruction brings to the next position
abbrev pub fall : ℕ → Action → At → Edge
fall p i x = edge_of i x (arrive (suc p) (behind (change i) (length x.slots) x.entries) Next)

-- what arrives, if the condition holds
abbrev pub at_if : Bool → At → Option At
at_if true x = Some x
at_if false x = None

-- what an instruction brings to the next position, where there is one and the flow goes on to it
abbrev pub fallen : Code → ℕ → Option Action → At → Option At
fallen code p None x = None
fallen code p (Some i) x = at_if (goes_on code p i) (fall p i x).at

-- what the instruction at a position brings to the next one; nothing where nothing holds at the position
abbrev pub brought : Code → ℕ → Option At → Option At
brought code p None = None
brought code p (Some x) = fallen code p (slice_get code.actions p) x

-- the first of two that there is
abbrev pub or_else : Option At → Option At → Option At
or_else None other = other
or_else (Some x) other = Some x

-- the assignment of the rows: a position without a row has what the instruction in front of it brings
abbrev pub carried : Code → Rows → Assigned
carried code rows zero = row rows zero
carried code rows (suc p) = or_else (row rows (suc p)) (brought code p (carried code rows p))

-- the edges that leave a position, but for the one to the next position
abbrev pub other_ways : Action → ℕ → List Entry → List Way
other_ways i n es = jump_way (target i) (behind (change i) n es) ++ raise_ways es ++ run_ways (runs i (length es)) es

-- the edges that leave a position, with what arrives, but for the one to the next position
abbrev pub other_edges : Action → At → List Edge
other_edges i x = map (edge_of i x) (other_ways i (length x.slots) x.entries)

-- the rules at one position: what it brings to the next position lies below a row that stands there, and each other edge ends at a row
-- that lies above what arrives
pub record Keeps (code : Code) (rows : Rows) (p : ℕ) (x : At) : Type 0 where
  pub action : Action
  pub is : slice_get code.actions p ≡ Some action
  pub handlers : holds code action p (length x.slots) x.entries ≡ true
  pub height : finds action x ≡ true
  pub state : room code action x ≡ true
  pub falls : stays code action p ≡ true
  pub next : goes_on code p action ≡ true → IfSome (row rows (suc p)) (λ y. Under (fall p action x).at y)
  pub others : Each (row rows) (other_edges action x)

-- the rows certify the code
pub record Certifies (code : Code) (rows : Rows) : Type 0 where
  pub start : Leads (row rows) (record { to = 0; at = begin })
  pub keeps : (p : ℕ) (x : At) → carried code rows p ≡ Some x → Keeps code rows p x
