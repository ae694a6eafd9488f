-- Verified code: an assignment exists that meets the rules. And the first fault, by the walk that works through the pending
-- positions.
use Rattle.std.specs.Prelude.{◌≡◌, ℕ, zero, suc, ◌≤◌, Bool, true, false, not, ◌&&◌, ◌||◌, List, [], ◌∷◌, length, replicate}
use Rattle.std.specs.Prelude.{Option, Some, None, nat_eq, slice_get, option_map, if◌then◌else◌}
use Rattle.bc_shapes.specs.declared.shape.Entry.{Entry}
use Rattle.bc_shapes.specs.Shape.{At, Under, join, opens, same_entries}
use Rattle.bc_flow.specs.Action.{Action}
use Rattle.bc_flow.specs.Code.{Code}
use Rattle.bc_flow.specs.declared.code.Rule.{Rule}
use Rattle.bc_flow.specs.declared.code.Rule.TheVariants.{Handlers, Height, State, Falls}
use Rattle.bc_flow.specs.Edges.{Edge, edges, holds, finds, room, stays}

-- an assignment: what holds of each reachable position
abbrev pub Assigned : Type 0
Assigned = ℕ → Option At

-- what holds at the start
abbrev pub begin : At
begin = record { slots = []; entries = [] }

-- the assignment has something at the edge's end, above what arrives
pub record Leads (a : Assigned) (e : Edge) : Type 0 where
  pub at : At
  pub is : a e.to ≡ Some at
  pub under : Under e.at at

-- the assignment has something at the end of each edge, above what arrives
pub data Each (a : Assigned) : List Edge → Type 0 where
  none : Each a []
  also : {e : Edge} {es : List Edge} → Leads a e → Each a es → Each a (e ∷ es)

-- the rules at one position
pub record Fine (code : Code) (a : Assigned) (p : ℕ) (x : At) : Type 0 where
  pub action : Action
  pub is : slice_get code.actions p ≡ Some action
  pub handlers : holds code action p (length x.slots) x.entries ≡ true
  pub height : finds action x ≡ true
  pub state : room code action x ≡ true
  pub falls : stays code action p ≡ true
  pub along : Each a (edges code action p x)

-- the assignment meets the rules along every edge from position 0 on
pub record Holds (code : Code) (a : Assigned) : Type 0 where
  pub start : Leads a (record { to = 0; at = begin })
  pub closed : (p : ℕ) (x : At) → a p ≡ Some x → Fine code a p x

-- there is such an assignment
abbrev pub Verified : Code → Type 0
Verified code = (a : Assigned) × Holds code a

-- The walk.

-- what is known of a position
pub data Cell : Type 0 where
  Unseen : Cell
  Pending : At → Cell
  Done : At → Cell

-- what is known of each position
abbrev pub Table : Type 0
Table = List Cell

-- what holds at a position that the walk came to
abbrev pub seen : Cell → Option At
seen Unseen = None
seen (Pending x) = Some x
seen (Done x) = Some x

-- the table as an assignment
abbrev pub at : Table → Assigned
at [] p = None
at (c ∷ t) zero = seen c
at (c ∷ t) (suc p) = at t p

-- what holds where two arrive at one position: their entries are equal, and their slots meet
abbrev pub meet_at : At → At → Option At
meet_at y x = if same_entries y.entries x.entries
    then option_map (λ s. let z : At = record { slots = s; entries = y.entries } in z) (join y.slots x.slots) else None

-- a position is pending again only where its slots changed: then fewer of them are b
abbrev pub settle : At → At → Cell
settle y z = if nat_eq (opens z.slots) (opens y.slots) then Done z else Pending z

-- what is known of a position after something arrived there
abbrev pub meet : Cell → At → Option Cell
meet Unseen x = Some (Pending x)
meet (Pending y) x = option_map Pending (meet_at y x)
meet (Done y) x = option_map (settle y) (meet_at y x)

-- the table after something arrived at a position, if it may
abbrev pub put : Table → ℕ → At → Option Table
put [] n x = None
put (c ∷ t) zero x = option_map (λ d. d ∷ t) (meet c x)
put (c ∷ t) (suc n) x = option_map (λ u. c ∷ u) (put t n x)

-- the table after what the edges bring arrived, one after another, if it all may
abbrev pub put_next : List Edge → Option Table → Option Table
put_next es None = None
put_next [] (Some t) = Some t
put_next (e ∷ es) (Some t) = put_next es (put t e.to e.at)

-- the entries are those that hold there, if any do
abbrev pub agrees_cell : Cell → List Entry → Bool
agrees_cell Unseen es = true
agrees_cell (Pending y) es = same_entries y.entries es
agrees_cell (Done y) es = same_entries y.entries es

-- the entries are those that hold at a position of the table, if any do
abbrev pub agrees : Table → ℕ → List Entry → Bool
agrees [] n es = false
agrees (c ∷ t) zero es = agrees_cell c es
agrees (c ∷ t) (suc n) es = agrees t n es

-- no other edge brings other entries to the same position
abbrev pub others : Edge → List Edge → Bool
others e [] = true
others e (f ∷ fs) = (not (nat_eq e.to f.to) || same_entries e.at.entries f.at.entries) && others e fs

-- lists of entries that meet agree
abbrev pub agree : Table → List Edge → Bool
agree t [] = true
agree t (e ∷ es) = agrees t e.to e.at.entries && others e es && agree t es

-- the table once the position is visited
abbrev pub done_at : Table → ℕ → At → Table
done_at [] p x = []
done_at (c ∷ t) zero x = Done x ∷ t
done_at (c ∷ t) (suc p) x = c ∷ done_at t p x

-- a visit breaks a rule, or gives the next table
pub data Visit : Type 0 where
  Bad : Rule → Visit
  Good : Table → Visit

-- behind the slots: what arrives meets what is there (else Height), the slots have room (else State), and the flow stays (else Falls)
abbrev pub after_put : Bool → Bool → Option Table → Visit
after_put roomy stays None = Bad Height
after_put false stays (Some t) = Bad State
after_put true false (Some t) = Bad Falls
after_put true true (Some t) = Good t

-- behind the entries: the slots are found that are asked (else Height), and then the rest
abbrev pub after_finds : Bool → Bool → Bool → Option Table → Visit
after_finds false roomy stays t = Bad Height
after_finds true roomy stays t = after_put roomy stays t

-- the entries are as they must be (else Handlers), and then the rest
abbrev pub after_holds : Bool → Bool → Bool → Bool → Option Table → Visit
after_holds false finds roomy stays t = Bad Handlers
after_holds true finds roomy stays t = after_finds finds roomy stays t

-- the visit of a position with its instruction; where it has none, the flow has passed the end of the code
abbrev pub visit_action : Code → Table → ℕ → At → Option Action → Visit
visit_action code t p x None = Bad Falls
visit_action code t p x (Some i) =
    after_holds (holds code i p (length x.slots) x.entries && agree t (edges code i p x)) (finds i x) (room code i x) (stays code i p)
    (put_next (edges code i p x) (Some (done_at t p x)))

-- the rules at one position, in their order: Handlers, Height, State, Falls
abbrev pub visit : Code → Table → ℕ → At → Visit
visit code t p x = visit_action code t p x (slice_get code.actions p)

-- the position is pending, with what arrived there
pub data IsPending : Table → ℕ → At → Type 0 where
  here : {x : At} {t : Table} → IsPending (Pending x ∷ t) 0 x
  later : {c : Cell} {t : Table} {p : ℕ} {x : At} → IsPending t p x → IsPending (c ∷ t) (suc p) x

-- the position is the least pending one
pub record IsLeast (t : Table) (p : ℕ) (x : At) : Type 0 where
  pub pending : IsPending t p x
  pub least : (q : ℕ) (y : At) → IsPending t q y → p ≤ q

-- the table at the start: position 0 is pending
abbrev pub table_at : ℕ → Table
table_at zero = []
table_at (suc n) = Pending begin ∷ replicate n Unseen

-- the tables that a walk in any order comes to
pub data Reached (code : Code) : Table → Type 0 where
  starts : Reached code (table_at (length code.actions))
  goes : {t u : Table} {p : ℕ} {x : At} → Reached code t → IsPending t p x → visit code t p x ≡ Good u → Reached code u

-- the tables that the walk comes to which takes the least pending position each time
pub data Comes (code : Code) : Table → Type 0 where
  starts : Comes code (table_at (length code.actions))
  goes : {t u : Table} {p : ℕ} {x : At} → Comes code t → IsLeast t p x → visit code t p x ≡ Good u → Comes code u

-- the first fault: what is found where the least pending position is visited each time
pub data FirstFault (code : Code) : Rule → ℕ → Type 0 where
  empty : code.actions ≡ [] → FirstFault code Falls 0
  broken : {t : Table} {p : ℕ} {x : At} {r : Rule} → Comes code t → IsLeast t p x → visit code t p x ≡ Bad r → FirstFault code r p

-- the assignment is one, and lies below every other
pub record Grows (a b : Assigned) : Type 0 where
  pub each : (p : ℕ) (x : At) → a p ≡ Some x → Leads b (record { to = p; at = x })

-- the assignment lies below each one that meets the rules
abbrev pub IsLeastOf : Code → Assigned → Type 0
IsLeastOf code a = (b : Assigned) → Holds code b → Grows a b

-- a walk in any order decides: it faults only where no assignment exists, and what it ends with is the least
pub record Decides (code : Code) : Type 0 where
  pub no : (t : Table) (p : ℕ) (x : At) (r : Rule) → Reached code t → IsPending t p x → visit code t p x ≡ Bad r → Verified code → ⊥
  pub yes : (t : Table) → (code.actions ≡ [] → ⊥) → Reached code t → ((p : ℕ) (x : At) → IsPending t p x → ⊥) → Holds code (at t)
  pub least : (t : Table) → Reached code t → IsLeastOf code (at t)
