-- Instructions that store a local.
use Rattle.vm_states.specs.vm_fetching.declared.operations.LocalOp.{LocalOp}
use Rattle.vm_states.specs.vm_fetching.declared.operations.LocalOp.TheVariants as local_ops

-- the operation stores a local
abbrev pub StoresLocal : LocalOp → Type 0
StoresLocal local_ops.StoreFast = Unit {0}
StoresLocal local_ops.StoreFastN = Unit {0}
StoresLocal local_ops.LoadFast = ⊥
StoresLocal local_ops.LoadFastN = ⊥
StoresLocal local_ops.DeleteFast = ⊥
