-- What an operation that moves slots needs of the running call.
use Rattle.std.specs.Prelude.{ℕ, suc, ◌<◌, length}
use Rattle.vm_states.specs.vm_frames.Calls.{Calls, OfRunning}
use Rattle.vm_states.specs.vm_fetching.declared.operations.MoveOp.{MoveOp}
use Rattle.vm_states.specs.vm_fetching.declared.operations.MoveOp.TheVariants as move_ops

-- the running call has more than `count` slots
abbrev pub HasOver : ℕ → Calls → Type 0
HasOver count s = OfRunning (λ c. count < length c.slots) s.calls

-- the running call has room for a slot more
abbrev pub HasRoom : Calls → Type 0
HasRoom s = OfRunning (λ c. length c.slots < s.slot_room) s.calls

-- the running call has room for two slots more
abbrev pub HasRoomForTwo : Calls → Type 0
HasRoomForTwo s = OfRunning (λ c. suc (length c.slots) < s.slot_room) s.calls

-- what the operation needs: slots to take, and room for what it gives
abbrev pub Needs : MoveOp → Calls → Type 0
Needs move_ops.LoadConstFalse s = HasRoom s
Needs move_ops.LoadConstNone s = HasRoom s
Needs move_ops.LoadConstTrue s = HasRoom s
Needs move_ops.LoadNull s = HasRoom s
Needs move_ops.DupTop s = HasOver 0 s × HasRoom s
Needs move_ops.DupTopTwo s = HasOver 1 s × HasRoomForTwo s
Needs move_ops.PopTop s = HasOver 0 s
Needs move_ops.RotTwo s = HasOver 1 s
Needs move_ops.RotThree s = HasOver 2 s
