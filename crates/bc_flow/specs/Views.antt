-- What the code's values are as the definitions'.
use Rattle.std.specs.Prelude.{◌≡◌, Bool, true, false, List, [], ◌∷◌, ◌++◌, map, Option, Some, None, Result, Ok, Err}
use Rattle.bc_shapes.specs.declared.shape.Entry.{Entry}
use Rattle.bc_shapes.specs.Shape.{At}
use Rattle.bc_shapes.specs.Views.{takes_of, gives_of, at_of, slots_of_rust}
use Rattle.bc_flow.specs.declared.action.Action.{Action as RustAction}
use Rattle.bc_flow.specs.declared.action.Action.TheVariants as rust
use Rattle.bc_flow.specs.declared.code.Rule.{Rule}
use Rattle.bc_flow.specs.declared.edges.Behind.{Behind}
use Rattle.bc_flow.specs.declared.edges.Edge.{Edge as RustEdge}
use Rattle.bc_flow.specs.declared.walk.State.{State}
use Rattle.bc_flow.specs.declared.walk.State.TheVariants as states
use Rattle.bc_flow.specs.Action.{Action, Straight, Branch, Jump, Setup, PopExcept, EndFinally, Unwind, Return, Raise}
use Rattle.bc_flow.specs.Edges.{Way, Edge, edge_of, edge_to}
use Rattle.bc_flow.specs.Verified.{Cell, Unseen, Pending, Done, Table, Visit, Bad, Good}

-- what an instruction does
abbrev pub action_of : RustAction → Action
action_of (rust.Straight t g) = Straight (takes_of t) (gives_of g)
action_of (rust.Branch t g there to) = Branch (takes_of t) (gives_of g) (gives_of there) to
action_of (rust.Jump to) = Jump to
action_of (rust.Setup handler is_finally) = Setup handler is_finally
action_of (rust.PopExcept to) = PopExcept to
action_of rust.EndFinally = EndFinally
action_of (rust.Unwind to count iterator) = Unwind to count iterator
action_of rust.Return = Return
action_of (rust.Raise count) = Raise count

-- a list of one item or none
abbrev pub option_list : {A : Type 0} → Option A → List A
option_list None = []
option_list (Some x) = x ∷ []

-- the entries behind an instruction
abbrev pub behind_of : Behind → List Entry
behind_of b = option_list b.new ++ b.rest.now

-- an edge with what arrives
abbrev pub edge_of_rust : RustEdge → Edge
edge_of_rust e = edge_to e.to (slots_of_rust e.slots) (behind_of e.entries)

-- the edges of these ways were added
abbrev pub AddsEdges : Action → At → List RustEdge → List RustEdge → List Way → Type 0
AddsEdges a x old new ways = map edge_of_rust new ≡ map edge_of_rust old ++ map (edge_of a x) ways

-- what is known of a position
abbrev pub cell_of : State → Cell
cell_of states.Unseen = Unseen
cell_of (states.Pending x) = Pending (at_of x)
cell_of (states.Done x) = Done (at_of x)

-- what is known of a position where something may arrive, and nothing where it may not
abbrev pub cell_if : Bool → State → Option Cell
cell_if true state = Some (cell_of state)
cell_if false state = None

-- what is known of all positions
abbrev pub table_of : List State → Table
table_of states = map cell_of states

-- what a visit answers: nothing, or the broken rule
abbrev pub visit_of : {A : Type 0} → Result A Rule → List State → Visit
visit_of (Ok done) states = Good (table_of states)
visit_of (Err rule) states = Bad rule

-- the table where something may arrive at each edge's end, and none where it may not
abbrev pub has_if : Bool → List State → Option Table
has_if true states = Some (table_of states)
has_if false states = None
