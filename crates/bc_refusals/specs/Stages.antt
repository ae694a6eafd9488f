-- Tables of the walk that lie between two assignments, at the first visits of positions.
use Rattle.std.specs.Prelude.{◌≡◌, ◌⊎◌, ℕ, ◌<◌, Bool, true, false, List, [], ◌∷◌, length, map, get_or, set, slice_get, Some, None, if◌then◌else◌}
use Rattle.bc_flow.specs.bc_shapes.declared.kinds.Kind.{Kind}
use Rattle.bc_flow.specs.bc_shapes.declared.kinds.Kind.TheVariants as kinds
use Rattle.bc_flow.specs.bc_shapes.Shape.{At, Under, join}
use Rattle.bc_flow.specs.declared.code.Rule.{Rule}
use Rattle.bc_flow.specs.Code.{Code}
use Rattle.bc_flow.specs.Action.{Action}
use Rattle.bc_flow.specs.Edges.{Edge, edges, finds, holds, room, stays}
use Rattle.bc_flow.specs.Verified.{Assigned, Bad, Comes, Fine, Grows, IsLeast, IsPending, Leads, Table, agree, at, visit}

-- a slot that is a value now may have been open when it came there first
abbrev pub open_kind : Kind → Kind
open_kind kinds.Value = kinds.Either
open_kind k = k

-- what may have come to a position first, where this is what holds there later
abbrev pub opened : At → At
opened x = record { slots = map open_kind x.slots; entries = x.entries }

-- the flag of a position is set
abbrev pub IsSet : List Bool → ℕ → Type 0
IsSet flags p = get_or flags p false ≡ true

-- the assignment at the positions whose flag is set
abbrev pub within : List Bool → Assigned → Assigned
within flags a p = if get_or flags p false then a p else None

-- what an edge brings lies below what the assignment has at its end
pub record Lead (a : Assigned) (came : List Bool) (e : Edge) : Type 0 where
  pub inside : e.to < length came
  pub leads : Leads a e

-- each edge does
abbrev pub LeadAll : Assigned → List Bool → List Edge → Type 0
LeadAll a came [] = Unit {0}
LeadAll a came (e ∷ es) = Lead a came e × LeadAll a came es

-- an edge brings to the position, where that is what may have come there first
pub data Brings (p : ℕ) (x : At) : List Edge → Type 0 where
  first : {e : Edge} {es : List Edge} → e.to ≡ p → Under (opened x) (opened e.at) → Brings p x (e ∷ es)
  more : {e : Edge} {es : List Edge} → Brings p x es → Brings p x (e ∷ es)

-- an edge brings to the position what may have come there first
abbrev pub Begins : Assigned → ℕ → List Edge → Type 0
Begins a p es = (x : At) × (a p ≡ Some x) × Brings p x es

-- at the end of each of these edges something came before, or one of `all` brings there what may have come first
abbrev pub BeginAll : Assigned → List Bool → List Edge → List Edge → Type 0
BeginAll a came all [] = Unit {0}
BeginAll a came all (e ∷ es) = (IsSet came e.to ⊎ Begins a e.to all) × BeginAll a came all es

-- the flags of the positions where something came, once these edges brought something
abbrev pub come : List Bool → List Edge → List Bool
come came [] = came
come came (e ∷ es) = come (set came e.to true) es

-- the table lies below the assignment where something came, and above what may have come there first
pub record Between (a : Assigned) (came : List Bool) (t : Table) : Type 0 where
  pub below : Grows (at t) (within came a)
  pub above : (p : ℕ) (x : At) → within came a p ≡ Some x → Leads (at t) (record { to = p; at = opened x })

-- a table that the walk comes to. Of the positions where something came those that are gone were visited: what the assignment has there meets
-- the rules, and its edges lead to where something came. The others wait for their first visit.
pub record Stage (code : Code) (a : Assigned) (came gone : List Bool) (t : Table) : Type 0 where
  pub comes : Comes code t
  pub long : length came ≡ length code.actions
  pub between : Between a came t
  pub went : (p : ℕ) → IsSet gone p → IsSet came p
  pub fine : (p : ℕ) (x : At) → within came a p ≡ Some x → IsSet gone p → Fine code (within came a) p x
  pub first : (p : ℕ) → IsSet came p → get_or gone p false ≡ false → (y : At) × IsPending t p y

-- the walk comes to such a table
abbrev pub Staged : Code → Assigned → List Bool → List Bool → Type 0
Staged code a came gone = (t : Table) × Stage code a came gone t

-- the position is the first one that waits for its first visit
pub record IsNext (came gone : List Bool) (p : ℕ) : Type 0 where
  pub came_there : IsSet came p
  pub waits : get_or gone p false ≡ false
  pub least : (q : ℕ) → IsSet came q → get_or gone q false ≡ false → p < q ⊎ (p ≡ q)

-- the position breaks the rule in each table between
abbrev pub Breaks : Code → Assigned → List Bool → ℕ → Rule → Type 0
Breaks code a came p r = (t : Table) (y : At) → length t ≡ length code.actions → Between a came t → IsLeast t p y → visit code t p y ≡ Bad r

-- what an edge brings doesn't meet what may have come to its end first
pub record Clash (a : Assigned) (came : List Bool) (e : Edge) : Type 0 where
  pub there : At
  pub came_there : IsSet came e.to
  pub is : a e.to ≡ Some there
  pub apart : join (opened there).slots e.at.slots ≡ None

-- one of the edges does so
abbrev pub AnyClash : Assigned → List Bool → List Edge → Type 0
AnyClash a came [] = ⊥
AnyClash a came (e ∷ es) = Clash a came e ⊎ AnyClash a came es

-- two edges end at one position, and what they bring there doesn't meet
pub record Apart (e f : Edge) : Type 0 where
  pub together : e.to ≡ f.to
  pub apart : join e.at.slots f.at.slots ≡ None

-- an edge and one of the others do so
abbrev pub ApartFrom : Edge → List Edge → Type 0
ApartFrom e [] = ⊥
ApartFrom e (f ∷ fs) = Apart e f ⊎ ApartFrom e fs

-- two of the edges do so
abbrev pub AnyApart : List Edge → Type 0
AnyApart [] = ⊥
AnyApart (e ∷ es) = ApartFrom e es ⊎ AnyApart es

-- what an edge brings doesn't meet what may have come to its end first, or what another edge brings there
abbrev pub Clashes : Assigned → List Bool → List Edge → Type 0
Clashes a came es = AnyClash a came es ⊎ AnyApart es

-- whether the lists of entries that meet agree, in each table between
abbrev pub Agrees : Assigned → List Bool → List Edge → Bool → Type 0
Agrees a came es b = (t : Table) → length t ≡ length came → Between a came t → agree t es ≡ b

-- what came first lies above what may have come there first, where the other is what stands there
abbrev pub Opens : At → At → Type 0
Opens came there = Under (opened there) (opened came)

-- the rules hold at a position that ask nothing of other positions
pub record Kept (code : Code) (i : Action) (p : ℕ) (x : At) : Type 0 where
  pub handlers : holds code i p (length x.slots) x.entries ≡ true
  pub height : finds i x ≡ true
  pub state : room code i x ≡ true
  pub falls : stays code i p ≡ true

-- the rules hold at a position, and its edges lead
pub record Keeps (code : Code) (a : Assigned) (came : List Bool) (p : ℕ) (x : At) : Type 0 where
  pub action : Action
  pub is : slice_get code.actions p ≡ Some action
  pub own : Kept code action p x
  pub lead : LeadAll a came (edges code action p x)
  pub begins : BeginAll a came (edges code action p x) (edges code action p x)
