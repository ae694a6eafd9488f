-- What one instruction asks of the slots and entries before it, and where it leads.
use Rattle.std.specs.Prelude.{ℕ, zero, suc, ◌+◌, ◌-◌, min, Bool, true, false, not, ◌&&◌, ◌||◌, List, [], ◌∷◌, ◌++◌, length, map}
use Rattle.std.specs.Prelude.{drop, Option, Some, None, nat_eq, nat_le, nat_lt, if◌then◌else◌}
use Rattle.bc_shapes.specs.declared.kinds.Kind.{Kind}
use Rattle.bc_shapes.specs.declared.kinds.Kind.TheVariants as kinds
use Rattle.bc_shapes.specs.declared.kinds.Want.{Want}
use Rattle.bc_shapes.specs.declared.kinds.Want.TheVariants as wants
use Rattle.bc_shapes.specs.declared.kinds.Give.{Give}
use Rattle.bc_shapes.specs.declared.shape.Entry.{Entry}
use Rattle.bc_shapes.specs.Shape.{At, fits, after, takes as values_on}
use Rattle.bc_flow.specs.declared.edges.Change.{Change}
use Rattle.bc_flow.specs.declared.edges.Change.TheVariants.{Keep, Push, DropExcept, DropActive, Leave}
use Rattle.bc_flow.specs.Action.{Action, Straight, Branch, Jump, Setup, PopExcept, EndFinally, Unwind, Return, Raise, iterator}
use Rattle.bc_flow.specs.Code.{Code}

-- the slots of an iterator, or none
abbrev pub iterator_if : Bool → List Want
iterator_if true = iterator
iterator_if false = []

-- what is taken, from the top
unfoldable pub takes : Action → List Want
takes (Straight wants given) = wants
takes (Branch wants given there to) = wants
takes (Jump to) = []
takes (Setup handler is_finally) = []
takes (PopExcept to) = []
takes EndFinally = wants.Cause ∷ []
takes (Unwind to count takes_it) = iterator_if takes_it
takes Return = wants.Value ∷ []
takes (Raise count) = values_on count []

-- what is given where the flow goes on to the next instruction
unfoldable pub gives : Action → List Give
gives (Straight wants given) = given
gives (Branch wants given there to) = given
gives (Jump to) = []
gives (Setup handler is_finally) = []
gives (PopExcept to) = []
gives EndFinally = []
gives (Unwind to count takes_it) = []
gives Return = []
gives (Raise count) = []

-- what is given where the flow jumps
unfoldable pub gives_there : Action → List Give
gives_there (Straight wants given) = []
gives_there (Branch wants given there to) = there
gives_there (Jump to) = []
gives_there (Setup handler is_finally) = []
gives_there (PopExcept to) = []
gives_there EndFinally = []
gives_there (Unwind to count takes_it) = []
gives_there Return = []
gives_there (Raise count) = []

-- does the flow go on to the next instruction?
unfoldable pub falls : Action → Bool
falls (Straight wants given) = true
falls (Branch wants given there to) = true
falls (Jump to) = false
falls (Setup handler is_finally) = true
falls (PopExcept to) = false
falls EndFinally = true
falls (Unwind to count takes_it) = false
falls Return = false
falls (Raise count) = false

-- the position where the flow jumps, if it does
unfoldable pub target : Action → Option ℕ
target (Straight wants given) = None
target (Branch wants given there to) = Some to
target (Jump to) = Some to
target (Setup handler is_finally) = None
target (PopExcept to) = Some to
target EndFinally = None
target (Unwind to count takes_it) = Some to
target Return = None
target (Raise count) = None

-- what it does with the entries
unfoldable pub change : Action → Change
change (Straight wants given) = Keep
change (Branch wants given there to) = Keep
change (Jump to) = Keep
change (Setup handler is_finally) = Push handler is_finally
change (PopExcept to) = DropExcept
change EndFinally = DropActive
change (Unwind to count takes_it) = Leave count
change Return = Keep
change (Raise count) = Keep

-- how many of `n` entries it leaves, from the top: it runs the finallys among these
unfoldable pub runs : Action → ℕ → ℕ
runs (Straight wants given) n = 0
runs (Branch wants given there to) n = 0
runs (Jump to) n = 0
runs (Setup handler is_finally) n = 0
runs (PopExcept to) n = 0
runs EndFinally n = 0
runs (Unwind to count takes_it) n = count
runs Return n = n
runs (Raise count) n = 0

-- all but the top entry
abbrev pub rest_of : List Entry → List Entry
rest_of [] = []
rest_of (e ∷ es) = es

-- the height of the top entry
abbrev pub floor : List Entry → ℕ
floor [] = 0
floor (e ∷ es) = e.height

-- the entries behind it, where `n` slots are before it
abbrev pub behind : Change → ℕ → List Entry → List Entry
behind Keep n es = es
behind (Push h last) n es = record { handler = h; is_finally = last; active = false; height = n } ∷ es
behind DropExcept n es = rest_of es
behind DropActive n es = rest_of es
behind (Leave k) n es = drop k es

-- the top entry is that of an except handler
abbrev pub top_is_except : List Entry → Bool
top_is_except [] = false
top_is_except (e ∷ es) = not e.is_finally

-- the top entry is active
abbrev pub top_is_active : List Entry → Bool
top_is_active [] = false
top_is_active (e ∷ es) = e.active

-- the entries are there that it asks
abbrev pub asks : Change → List Entry → Bool
asks Keep es = true
asks (Push h last) es = true
asks DropExcept es = top_is_except es
asks DropActive es = top_is_active es
asks (Leave k) es = nat_le k (length es)

-- the height of the top entry that remains: the entries that are left are gone
abbrev pub floor_of : Change → List Entry → ℕ
floor_of Keep es = floor es
floor_of (Push h last) es = floor es
floor_of DropExcept es = floor es
floor_of DropActive es = floor es
floor_of (Leave k) es = floor (drop k es)

-- how many of `n` slots remain once the `k` topmost entries are left, each with a cut to its height
abbrev pub lowest : ℕ → List Entry → ℕ → ℕ
lowest zero es n = n
lowest (suc k) [] n = n
lowest (suc k) (e ∷ es) n = lowest k es (min e.height n)

-- how many of `n` slots it works on, from below
abbrev pub left : Change → List Entry → ℕ → ℕ
left Keep es n = n
left (Push h last) es n = n
left DropExcept es n = n
left DropActive es n = n
left (Leave k) es n = lowest k es n

-- where an entry is dropped, its height is what is left
abbrev pub leaves : Change → List Entry → ℕ → Bool
leaves Keep es n = true
leaves (Push h last) es n = true
leaves DropExcept es n = nat_eq n (floor es)
leaves DropActive es n = nat_eq n (floor es)
leaves (Leave k) es n = true

-- where the slots of an edge come from: the next instruction's, the jump's, or those of a handler, by its entry's height and
-- whether it is a finally's
pub data How : Type 0 where
  Next : How
  There : How
  Run : ℕ → Bool → How

-- an edge without its slots
pub record Way : Type 0 where
  pub to : ℕ
  pub entries : List Entry
  pub how : How

-- an entry gets active on arrival at its handler
abbrev pub mark : ℕ → Entry → Entry
mark to e = record e { active = e.active || nat_eq e.handler to }

-- the edge to a position with these entries
abbrev pub arrive : ℕ → List Entry → How → Way
arrive to es how = record { to = to; entries = map (mark to) es; how = how }

-- the edge to an entry's handler, with the entries below it
abbrev pub way_in : Entry → List Entry → Way
way_in e es = arrive e.handler (record e { active = true } ∷ es) (Run e.height e.is_finally)

-- a raise goes to the topmost entry that isn't active
abbrev pub raise_ways : List Entry → List Way
raise_ways [] = []
raise_ways (e ∷ es) = if e.active then raise_ways es else (way_in e es ∷ [])

-- a finally that isn't active is run
abbrev pub one_run : Entry → List Entry → List Way
one_run e es = if e.is_finally && not e.active then (way_in e es ∷ []) else []

-- the edges to the finallys among the `n` topmost entries
abbrev pub run_ways : ℕ → List Entry → List Way
run_ways zero es = []
run_ways (suc n) [] = []
run_ways (suc n) (e ∷ es) = one_run e es ++ run_ways n es

-- the edge to the next position, if there is one
abbrev pub next_way : Bool → ℕ → List Entry → List Way
next_way true p es = arrive (suc p) es Next ∷ []
next_way false p es = []

-- the edge of a jump
abbrev pub jump_way : Option ℕ → List Entry → List Way
jump_way (Some t) es = arrive t es There ∷ []
jump_way None es = []

-- all edges that leave a position `p`, with the entries that arrive, where `n` slots and the entries `es` are before it
unfoldable pub ways : Code → Action → ℕ → ℕ → List Entry → List Way
ways code i p n es =
    next_way (falls i && nat_lt (suc p) (length code.actions)) p (behind (change i) n es)
    ++ jump_way (target i) (behind (change i) n es) ++ raise_ways es ++ run_ways (runs i (length es)) es

-- each entry is active exactly from its handler's position on
abbrev pub is_marked : ℕ → List Entry → Bool
is_marked to [] = true
is_marked to (e ∷ es) = (if e.active then nat_le e.handler to else nat_lt to e.handler) && is_marked to es

-- in the entries of each edge, each is active exactly from its handler's position on
abbrev pub all_marked : List Way → Bool
all_marked [] = true
all_marked (w ∷ ws) = is_marked w.to w.entries && all_marked ws

-- the rule Handlers, but for the entries that meet
unfoldable pub holds : Code → Action → ℕ → ℕ → List Entry → Bool
holds code i p n es = asks (change i) es && nat_le (length (behind (change i) n es)) code.n_exc && all_marked (ways code i p n es)

-- the slots that it works on
unfoldable pub base : Action → At → List Kind
base i x = drop (length x.slots - left (change i) x.entries (length x.slots)) x.slots

-- none of the slots that it takes lies below the top entry's height, where it takes `taken` of `n`
abbrev pub deep : Change → List Entry → ℕ → ℕ → Bool
deep c es taken n = nat_le taken n && nat_le (floor_of c es) (n - taken) && leaves c es (n - taken)

-- the rule Height, but for the shapes that meet
unfoldable pub finds : Action → At → Bool
finds i x = fits (takes i) (base i x) && deep (change i) x.entries (length (takes i)) (length (base i x))

-- a finally handler begins with a cause, an except handler with an exception
abbrev pub pushed : Bool → List Kind → List Kind
pushed true ks = kinds.Cause ∷ ks
pushed false ks = kinds.Either ∷ ks

-- the slots that arrive along an edge
unfoldable pub slots_of : Action → At → How → List Kind
slots_of i x Next = after (gives i) (length (takes i)) (base i x)
slots_of i x There = after (gives_there i) (length (takes i)) (base i x)
slots_of i x (Run h last) = pushed last (drop (length x.slots - h) x.slots)

-- is there room for `before` slots before an instruction, `next` behind it and `there` where it jumps?
abbrev pub has_room : ℕ → ℕ → ℕ → ℕ → ℕ → Bool
has_room locals n_state before next there = nat_le (locals + before) n_state && nat_le (locals + next) n_state && nat_le (locals + there) n_state

-- the rule State: the slots have room before the instruction and along its edges
unfoldable pub room : Code → Action → At → Bool
room code i x = has_room code.locals code.n_state (length x.slots) (length (slots_of i x Next)) (length (slots_of i x There))

-- the rule Falls: the flow doesn't go on behind the last instruction
unfoldable pub stays : Code → Action → ℕ → Bool
stays code i p = not (falls i) || nat_lt (suc p) (length code.actions)

-- where the flow goes, and what arrives there
pub record Edge : Type 0 where
  pub to : ℕ
  pub at : At

-- an edge with its slots
abbrev pub edge_of : Action → At → Way → Edge
edge_of i x w = record { to = w.to; at = record { slots = slots_of i x w.how; entries = w.entries } }

-- the edge that brings these slots, and these entries with their marks
abbrev pub edge_to : ℕ → List Kind → List Entry → Edge
edge_to to slots es = record { to = to; at = record { slots = slots; entries = map (mark to) es } }

-- all edges that leave a position
abbrev pub edges : Code → Action → ℕ → At → List Edge
edges code i p x = map (edge_of i x) (ways code i p (length x.slots) x.entries)

-- `all_marked`, of edges with what arrives
abbrev pub edges_marked : List Edge → Bool
edges_marked [] = true
edges_marked (e ∷ es) = is_marked e.to e.at.entries && edges_marked es

-- the rule Handlers by these edges
abbrev pub holds_over : Code → Action → At → List Edge → Bool
holds_over code i x es = asks (change i) x.entries && nat_le (length (behind (change i) (length x.slots) x.entries)) code.n_exc && edges_marked es
