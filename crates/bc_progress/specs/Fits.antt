-- States of a verified library: each frame is as the plan of its code has it at its position.
use Rattle.std.specs.Prelude.{◌≡◌, ◌+◌, ◌≤◌, List, [], ◌∷◌, length, map, drop, Some, slice_get}
use Rattle.bc_flow.specs.bc_shapes.declared.kinds.Kind.TheVariants as kinds
use Rattle.bc_flow.specs.bc_shapes.declared.kinds.Want.{Want}
use Rattle.bc_flow.specs.bc_shapes.declared.kinds.Give.TheVariants.{New}
use Rattle.bc_flow.specs.Action.{Straight}
use Rattle.bc_flow.specs.Machine.{Stack, Run}
use Rattle.bc_flow.proofs.Never.{Good}
use Rattle.bc_machine.specs.Library.{Code, Library, code_at}
use Rattle.bc_machine.specs.State.{Role, Main, Called, Imported, Frame, State, Running, Halted, Stuck}
use Rattle.bc_progress.specs.Slots.{Facts, anything, ShowsAllIn, KeepIn, flow_entry}
use Rattle.bc_progress.specs.Plans.{Plan, flow_of, Plans}

-- a state of a frame's flow that the plan has, within its rooms
abbrev pub IsPlanned : Plan → Code → Frame → Stack → Type 0
IsPlanned plan code frame stack = Good (flow_of plan code) plan.assigned (Run frame.position stack (map flow_entry frame.entries))

-- a frame at an instruction: it has a code, a local for each that the code names, and slots and entries as planned
pub record StandsIn (facts : Facts) (plans : Plans) (library : Library) (frame : Frame) : Type 0 where
  pub code : Code
  pub code_is : code_at library frame.module_name frame.code ≡ Some code
  pub locals : length frame.locals ≡ code.locals
  pub stack : Stack
  pub shows : ShowsAllIn facts frame.slots stack
  pub kept : KeepIn facts frame.entries
  pub planned : IsPlanned (plans frame.module_name frame.code) code frame stack

-- a frame that waits at a call: what the call takes is gone, and one value comes
pub record WaitsIn (facts : Facts) (plans : Plans) (library : Library) (frame : Frame) : Type 0 where
  pub code : Code
  pub code_is : code_at library frame.module_name frame.code ≡ Some code
  pub locals : length frame.locals ≡ code.locals
  pub stack : Stack
  pub wants : List Want
  pub call : slice_get (flow_of (plans frame.module_name frame.code) code).actions frame.position ≡ Some (Straight wants (New kinds.Value ∷ []))
  pub shows : ShowsAllIn facts frame.slots (drop (length wants) stack)
  pub kept : KeepIn facts frame.entries
  pub planned : IsPlanned (plans frame.module_name frame.code) code frame stack

-- the frame's slots and entries are no more than its code's rooms, where its locals have their room among the slots
pub record IsWithin (plan : Plan) (code : Code) (frame : Frame) : Type 0 where
  pub slots : code.locals + length frame.slots ≤ plan.n_state
  pub entries : length frame.entries ≤ plan.n_exc

-- the frames below one of this role: a caller waits at its call, an importing frame stands at its import, and the main
-- module's frame is the lowest
abbrev pub BelowIn : Facts → Plans → Library → Role → List Frame → Type 0
BelowIn facts plans library Main [] = Unit {0}
BelowIn facts plans library Main (frame ∷ frames) = ⊥
BelowIn facts plans library Called [] = ⊥
BelowIn facts plans library Called (frame ∷ frames) = WaitsIn facts plans library frame × BelowIn facts plans library frame.role frames
BelowIn facts plans library (Imported name m) [] = ⊥
BelowIn facts plans library (Imported name m) (frame ∷ frames) = StandsIn facts plans library frame × BelowIn facts plans library frame.role frames

-- a state whose running frame stands so, with such frames below it. It isn't stuck
abbrev pub FitsIn : Facts → Plans → Library → State → Type 0
FitsIn facts plans library (Running paid frame frames w) = StandsIn facts plans library frame × BelowIn facts plans library frame.role frames
FitsIn facts plans library (Halted end w) = Unit {0}
FitsIn facts plans library (Stuck w) = ⊥

-- a frame that stands so, whatever exceptions and methods there are
abbrev pub Stands : Plans → Library → Frame → Type 0
Stands = StandsIn anything

-- a frame that waits stands as its flow says, whatever exceptions and methods there are
abbrev pub Waits : Plans → Library → Frame → Type 0
Waits = WaitsIn anything

-- the frames below one stand as their flows say, whatever exceptions and methods there are
abbrev pub Below : Plans → Library → Role → List Frame → Type 0
Below = BelowIn anything

-- a state stands as the flows of its frames say, whatever exceptions and methods there are
abbrev pub Fits : Plans → Library → State → Type 0
Fits = FitsIn anything
