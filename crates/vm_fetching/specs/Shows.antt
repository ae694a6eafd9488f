-- What is fetched, as the machine's items.
use Rattle.std.specs.Prelude.{◌≡◌, ℕ, ◌<◌, List, length, Some, IsSome}
use Rattle.frame_moves.specs.bc_ops.declared.instr.Instr.{Instr}
use Rattle.frame_moves.specs.bc_ops.declared.instr.Op.TheVariants as ops
use Rattle.frame_moves.specs.bc_ops.declared.instr.Instr.TheVariants as instrs
use Rattle.frame_moves.specs.bc_ops.Listing.{item}
use Rattle.frame_moves.specs.bc_ops.Signed.{IsSmall}
use Rattle.frame_moves.specs.bc_labels.Positions.{CodeList, Starts, position_in}
use Rattle.bc_rows.specs.mpy_tree.Raw.{Module}
use Rattle.bc_rows.specs.mpy_tree.Resolved.{resolved}
use Rattle.frame_moves.specs.arena_heap.declared.value.StrNo.{StrNo}
use Rattle.frame_moves.specs.arena_heap.declared.value.StrNo.TheVariants as strs
use Rattle.bc_rows.specs.bc_library.Constants.{object_value, text_at}
use Rattle.bc_rows.specs.bc_library.Shelf.{Shelf}
use Rattle.frame_moves.specs.bc_machine.Library as machine
use Rattle.frame_moves.specs.bc_machine.Library.{Item}
use Rattle.bc_rows.specs.declared.row.Row.{Row}
use Rattle.frame_moves.specs.Shown.{Tables, text_of, value_of}
use Rattle.vm_fetching.specs.declared.instruction.Instruction.{Instruction}
use Rattle.vm_fetching.specs.declared.instruction.Instruction.TheVariants as instructions
use Rattle.vm_fetching.specs.declared.instruction.Action.{Action}
use Rattle.vm_fetching.specs.declared.instruction.Action.TheVariants as actions
use Rattle.vm_fetching.specs.declared.instruction.Step.{Step}
use Rattle.vm_fetching.specs.declared.instruction.Step.TheVariants as steps
use Rattle.vm_fetching.specs.Operations.{move_op, item_op, leave_op, local_op, build_op, make_op, call_op, name_op, attribute_op, test_op, handler_op}

-- the machine's item of what is fetched, where instructions start at these offsets
module _ (tables : Tables) (starts : List ℕ) where
  -- of what stays in the running call
  abbrev pub item_of_step : Step → Item
  item_of_step (steps.Move op) = machine.Plain (instrs.Plain (move_op op))
  item_of_step (steps.Int z) = machine.Plain (instrs.Int z)
  item_of_step (steps.Text text) = machine.Names ops.LoadConstString (text_of tables text)
  item_of_step (steps.Object v) = machine.Loads (value_of tables v)
  item_of_step (steps.Local op n) = machine.Plain (instrs.Num (local_op op) n)
  item_of_step (steps.Item op) = machine.Plain (instrs.Plain (item_op op))
  item_of_step (steps.Build op n) = machine.Plain (instrs.Num (build_op op) n)
  item_of_step (steps.Name op text) = machine.Names (name_op op) (text_of tables text)
  item_of_step (steps.Attribute op text) = machine.Names (attribute_op op) (text_of tables text)
  item_of_step (steps.Unary n) = machine.Plain (instrs.Unary n)
  item_of_step (steps.Jump target) = machine.Jumps ops.Jump (position_in starts target)
  item_of_step (steps.Test op target) = machine.Jumps (test_op op) (position_in starts target)
  item_of_step (steps.Handle op target) = machine.Jumps (handler_op op) (position_in starts target)
  item_of_step steps.Iterate = machine.Plain (instrs.Plain ops.GetIterStack)
  item_of_step (steps.ForIter target) = machine.Jumps ops.ForIter (position_in starts target)
  item_of_step (steps.Unwind target byte) = machine.Unwinds (position_in starts target) byte

  -- of what has no visits
  abbrev pub item_of_action : Action → Item
  item_of_action (actions.Stays step) = item_of_step step
  item_of_action (actions.Leaves op) = machine.Plain (instrs.Plain (leave_op op))
  item_of_action actions.Finishes = machine.Plain (instrs.Plain ops.EndFinally)
  item_of_action (actions.Makes op n) = machine.Plain (instrs.Num (make_op op) n)
  item_of_action (actions.Imports n) = machine.Names ops.ImportName (text_of tables (strs.Pool n))

  -- of all
  abbrev pub item_of_fetched : Instruction → Item
  item_of_fetched (instructions.Acts action) = item_of_action action
  item_of_fetched (instructions.Binary n) = machine.Plain (instrs.Binary n)
  item_of_fetched (instructions.Calls op n) = machine.Plain (instrs.Num (call_op op) n)

-- an instruction starts at the offset that it jumps to
abbrev pub TargetStarts : List ℕ → Instruction → Type 0
TargetStarts starts (instructions.Acts (actions.Stays (steps.Jump target))) = Starts starts target
TargetStarts starts (instructions.Acts (actions.Stays (steps.Test op target))) = Starts starts target
TargetStarts starts (instructions.Acts (actions.Stays (steps.Handle op target))) = Starts starts target
TargetStarts starts (instructions.Acts (actions.Stays (steps.ForIter target))) = Starts starts target
TargetStarts starts (instructions.Acts (actions.Stays (steps.Unwind target byte))) = Starts starts target
TargetStarts starts _ = Unit {0}

-- the local that was named, if one was, is one of `locals`
abbrev pub LocalIsWithin : (locals : ℕ) → Instruction → Type 0
LocalIsWithin locals (instructions.Acts (actions.Stays (steps.Local op n))) = n < locals
LocalIsWithin locals _ = Unit {0}

-- the text is one of the library's pool
abbrev pub IsPooled : Shelf → StrNo → Type 0
IsPooled shelf text = (n : ℕ) × (text ≡ strs.Pool n) × IsSome (text_at shelf text)

-- the text that it names is one of the library's pool
abbrev pub TextIsThere : Shelf → Instruction → Type 0
TextIsThere shelf (instructions.Acts (actions.Stays (steps.Text text))) = IsPooled shelf text
TextIsThere shelf (instructions.Acts (actions.Stays (steps.Name op text))) = IsPooled shelf text
TextIsThere shelf (instructions.Acts (actions.Stays (steps.Attribute op text))) = IsPooled shelf text
TextIsThere shelf (instructions.Acts (actions.Imports n)) = IsSome (text_at shelf (strs.Pool n))
TextIsThere shelf _ = Unit {0}

-- the object that it loads is one of a module of the library, and the integer is small
abbrev pub ConstantIsThere : Shelf → Instruction → Type 0
ConstantIsThere shelf (instructions.Acts (actions.Stays (steps.Object v))) = (i : ℕ) × (n : ℕ) × (object_value shelf i n ≡ Some v)
ConstantIsThere shelf (instructions.Acts (actions.Stays (steps.Int z))) = IsSmall z
ConstantIsThere shelf _ = Unit {0}

-- the instruction of a list that ends at the offset, with the numbers of the library
pub record Shows (shelf : Shelf) (m : Module) (tables : Tables) (row : Row) (l : CodeList) (end : ℕ) (instr : Instr) (shown : Instruction) : Type 0 where
  pub item_is : machine.item_of (length l.items) (resolved m (item l.offsets end instr)) ≡ item_of_fetched tables l.offsets shown
  pub target : TargetStarts l.offsets shown
  pub local : LocalIsWithin row.locals shown
  pub text : TextIsThere shelf shown
  pub constant : ConstantIsThere shelf shown
