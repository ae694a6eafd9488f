-- What a machine that has stopped says.
use Rattle.std.specs.Prelude.{ℕ, List, [], Option, Some, None}
use Rattle.vm_machine.specs.vm_frames.py_effects.Ends.{Raised, end_report}
use Rattle.bc_library.specs.Constants.{items_at, text_at}
use Rattle.bc_library.specs.Shelf.{Shelf}
use Rattle.vm_machine.specs.prim_walks.Plain.{plain_heap}
use Rattle.vm_machine.specs.state_calls.frame_exits.declared.ends.End.{End}
use Rattle.vm_machine.specs.state_calls.frame_exits.declared.ends.End.TheVariants as stops
use Rattle.prim_outputs.specs.Rooms.{room_line}
use Rattle.vm_machine.specs.vm_starting.declared.opening.Vm.{Vm}
use Rattle.library_runs.specs.declared.ending.RunEnd.{RunEnd}
use Rattle.library_runs.specs.declared.ending.RunEnd.TheVariants as ends

-- how a run that goes no further ended
abbrev pub answer_of : Option End → RunEnd
answer_of None = ends.Limit
answer_of (Some stops.Ended) = ends.Ended
answer_of (Some (stops.Raised x)) = ends.Raised
answer_of (Some (stops.Memory room)) = ends.Memory

-- what a run says at its end, over its arena
abbrev pub said_by : Shelf → Vm → Option End → List ℕ
said_by shelf vm None = []
said_by shelf vm (Some stops.Ended) = []
said_by shelf vm (Some (stops.Raised x)) = end_report (plain_heap (text_at shelf) (items_at shelf) vm.arena) (Raised x.cell)
said_by shelf vm (Some (stops.Memory room)) = room_line room
