use Rattle.std.specs.Prelude.{ℕ}
use Rattle.state_calls.specs.mpy_base.World.{Heap}
use Rattle.state_calls.specs.arena_heap.declared.value.Value.{Value}
use Rattle.vm_kept.proofs.Gives.{value_given}
use Rattle.vm_kept.proofs.gives_law.Goals as goal

pub returns : goal.returns
returns c p s new row op number end size v before behind means ready size_is holds later moved =
    let heap : Heap Value ℕ = record { objects = behind; bytes = 0; cell_size = 0; byte_size = 0 } in
    value_given p means row op number end size size_is v s ready heap before holds later new moved
