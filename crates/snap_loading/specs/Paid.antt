-- What is paid of the running instruction.
use Rattle.mpy_base.specs.Val.{PlainWorld}
use Rattle.bc_library.specs.Shelf.{Shelf}
use Rattle.vm_starting.specs.vm_states.Means.{Program}
use Rattle.vm_starting.specs.Programs.{IsProgramOf}
use Rattle.vm_starting.specs.declared.opening.Vm.{Vm}
use Rattle.vm_machine.specs.Machine.{machine_of}
use Rattle.snap_laws.specs.Kept.{IsPaid}

-- in each program of the library, whatever was printed, no more is paid than the running instruction takes before it
-- acts
abbrev pub PaysNoMore : Shelf → Vm → Type 0
PaysNoMore shelf vm = (p : Program) → IsProgramOf shelf p → (w : PlainWorld) → IsPaid p.library (machine_of p vm w)
