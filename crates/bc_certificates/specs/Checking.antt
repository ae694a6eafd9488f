-- What a check of rows finds out of one position.
use Rattle.std.specs.Prelude.{◌≡◌, ℕ, zero, suc, true, false, ◌&&◌, ◌||◌, List, [], ◌∷◌, ◌++◌, ◌-◌, drop, length, map, Option}
use Rattle.std.specs.Prelude.{None, IfSome, nat_le, nat_lt, option_map, slice_get, Some, Bool, if◌then◌else◌}
use Rattle.bc_flow.specs.bc_shapes.declared.shape.Shape.{Shape}
use Rattle.bc_flow.specs.bc_shapes.declared.kinds.Kind.{Kind}
use Rattle.bc_flow.specs.bc_shapes.declared.shape.Entry.{Entry}
use Rattle.bc_flow.specs.bc_shapes.Shape.{At, Under}
use Rattle.bc_certificates.specs.declared.certificate.Row.{Row}
use Rattle.bc_certificates.specs.declared.certificate.Table.{Table}
use Rattle.bc_flow.specs.bc_shapes.Views.{at_of}
use Rattle.bc_flow.specs.Action.{Action, Straight}
use Rattle.bc_flow.specs.Code.{Code}
use Rattle.bc_flow.specs.Edges.{Edge, asks, behind, change, edge_of, edges_marked, is_marked, finds, jump_way, pushed, raise_ways, room, stays, target, way_in}
use Rattle.bc_flow.specs.Verified.{Each, Leads, begin}
use Rattle.bc_certificates.specs.Rows.{Rows, row, carried, brought, fall, goes_on}

-- what holds where these are the topmost slots and entries, on that many of a base's lowest slots and entries, if there is the base
abbrev pub on_base : At → ℕ → ℕ → Option Shape → At
on_base x n m None = x
on_base x n m (Some b) = record {
  slots = x.slots ++ drop (length b.slots.items - n) b.slots.items;
  entries = x.entries ++ drop (length b.entries.items - m) b.entries.items;
}

-- what a row says, over these bases
abbrev pub at_row : List Shape → Row → At
at_row bases r = on_base (at_of r.top) r.slots r.entries (slice_get bases r.base)

-- the rows that the code's values are
abbrev pub rows_of : Table → Rows
rows_of t = map (option_map (at_row t.bases.items)) t.rows.items

-- each edge ends at a row that lies above what arrives, with each entry active exactly from its handler's position on
pub record Lead (rows : Rows) (es : List Edge) : Type 0 where
  pub marked : edges_marked es ≡ true
  pub each : Each (row rows) es

-- the entries are there that it asks, and there is room for those behind it
abbrev pub fits_entries : Code → Action → ℕ → List Entry → Bool
fits_entries code i n es = asks (change i) es && nat_le (length (behind (change i) n es)) code.n_exc

-- the edge into an entry's handler, from these slots
unfoldable pub into : List Kind → Entry → List Entry → Edge
into ks e es = record { to = e.handler; at = record { slots = pushed e.is_finally (drop (length ks - e.height) ks); entries = (way_in e es).entries } }

-- the handler of each entry that isn't active has a row, above what the way into it brings from these slots
abbrev pub Lies : Rows → List Kind → List Entry → Type 0
Lies rows ks [] = Unit {0}
Lies rows ks (e ∷ es) = (e.active ≡ false → Lead rows (into ks e es ∷ [])) × Lies rows ks es

-- the entry stands no higher than that many slots, and its handler lies behind the position, if it isn't active
abbrev pub stands_on : ℕ → ℕ → Entry → Bool
stands_on n p e = nat_le e.height n && (e.active || nat_lt p e.handler)

-- the handler of an entry that isn't active, and else the position
abbrev pub last_handler : ℕ → Entry → ℕ
last_handler p e = if e.active then p else e.handler

-- each entry stands no higher than the one above it, and of those that aren't active each has its handler behind that of the one above
abbrev pub ordered : ℕ → ℕ → List Entry → Bool
ordered n p [] = true
ordered n p (e ∷ es) = stands_on n p e && ordered e.height (last_handler p e) es

-- the edges of a jump, and of a raise
abbrev pub jump_edges : Action → At → List Edge
jump_edges i x = map (edge_of i x) (jump_way (target i) (behind (change i) (length x.slots) x.entries))

abbrev pub raise_edges : Action → At → List Edge
raise_edges i x = map (edge_of i x) (raise_ways x.entries)

-- the rules at one position but for the edge to the next one, and for those to the finally handlers that run: the entries are ordered, so
-- that these follow from where raises lead
pub record Stands (code : Code) (rows : Rows) (i : Action) (p : ℕ) (x : At) : Type 0 where
  pub entries : fits_entries code i (length x.slots) x.entries ≡ true
  pub order : ordered (length x.slots) p x.entries ≡ true
  pub height : finds i x ≡ true
  pub state : room code i x ≡ true
  pub falls : stays code i p ≡ true
  pub jumps : Lead rows (jump_edges i x)
  pub raises : Lead rows (raise_edges i x)

-- what the edge to the next position brings: its entries are marked, and it lies below a row that stands there
pub record Falls (rows : Rows) (e : Edge) : Type 0 where
  pub marked : is_marked e.to e.at.entries ≡ true
  pub below : IfSome (row rows e.to) (λ y. Under e.at y)

-- what the instruction in front of a position brings there
abbrev pub arriving : Code → Rows → ℕ → Option At
arriving code rows zero = None
arriving code rows (suc p) = brought code p (carried code rows p)

-- a row at the first position lies above what holds at the start
abbrev pub Begins : Rows → Type 0
Begins rows = Leads (row rows) (record { to = 0; at = begin })

-- the rules at one position but for the edges to the finally handlers that run
pub record Kept (code : Code) (rows : Rows) (p : ℕ) (x : At) : Type 0 where
  pub action : Action
  pub is : slice_get code.actions p ≡ Some action
  pub stands : Stands code rows action p x
  pub next : goes_on code p action ≡ true → Falls rows (fall p action x)

-- it takes and gives slots, and goes on
abbrev pub is_straight : Action → Bool
is_straight (Straight wants given) = true
is_straight _ = false

-- it does, and there are no entries
abbrev pub is_plain : Action → List Entry → Bool
is_plain i [] = is_straight i
is_plain i (e ∷ es) = false
