-- Jumps that test the top value find one, and go on at one of two offsets.
use Rattle.std.proofs.Common.{◌≡◌, ℕ, List, drop, Bool, true, false, Option, Ok, arith}
use Rattle.std.proofs.lemmas.List.Elements.{All-drop}
use Rattle.state_values.specs.mpy_base.World.{Heap, Objects}
use Rattle.state_values.specs.mpy_base.Val.{PlainWorld}
use Rattle.state_values.specs.prim_assignments.arena_heap.declared.value.Value.{Value}
use Rattle.state_values.specs.prim_assignments.arena_heap.declared.value.StrNo.{StrNo}
use Rattle.state_values.specs.prim_assignments.arena_heap.declared.value.ConstNo.{ConstNo}
use Rattle.state_values.specs.bc_labels.Positions.{position_in}
use Rattle.state_values.specs.bc_progress.bc_machine.Library.{Code, Library, Jumps}
use Rattle.state_values.specs.bc_progress.bc_machine.State.{Frame}
use Rattle.state_values.specs.bc_progress.Plans.{Plan}
use Rattle.state_values.specs.vm_frames.declared.slot.Slot.{Slot}
use Rattle.state_values.specs.vm_frames.Calls.{Calls, on_running}
use Rattle.state_values.specs.vm_frames.Views.{starts_of}
use Rattle.state_values.specs.frame_moves.Shown.{Tables, view_of, IsAt, IsNext, Tests}
use Rattle.state_values.specs.frame_moves.Shown as step
use Rattle.state_values.specs.frame_moves.Outcomes.{world_of}
use Rattle.state_values.specs.frame_values.Effects.{Layout, tables_of}
use Rattle.state_values.specs.vm_states.Finds.{FindsJump}
use Rattle.state_values.specs.vm_states.OnTop as machine
use Rattle.state_values.specs.frame_exits.Known.{IsKnownSlot}
use Rattle.state_values.specs.vm_fetching.Operations.{test_op}
use Rattle.state_values.specs.vm_fetching.declared.operations.TestOp.{TestOp}
use Rattle.state_values.specs.vm_fetching.declared.operations.TestOp.TheVariants as test_ops
use Rattle.state_values.specs.vm_fetching.declared.instruction.Fetched.{Fetched}
use Rattle.state_values.specs.vm_fetching.Instructions as fetched
use Rattle.state_values.specs.Onward.{StartsBehind, DoesBehind, Onward}
use Rattle.state_values.specs.Tests.{tested}
use Rattle.vm_at_once.proofs.Telling.{of_program, layout_of, at_first}
use Rattle.vm_at_once.proofs.Ending.{slots_onward}

-- of each of the four, so of the one that tests
any_test : (P : TestOp → Type 0) → P test_ops.PopJumpIfTrue → P test_ops.PopJumpIfFalse → P test_ops.JumpIfTrueOrPop → P test_ops.JumpIfFalseOrPop → (op : TestOp) → P op
any_test P a b c d test_ops.PopJumpIfTrue = a
any_test P a b c d test_ops.PopJumpIfFalse = b
any_test P a b c d test_ops.JumpIfTrueOrPop = c
any_test P a b c d test_ops.JumpIfFalseOrPop = d

pub finds_value : (plan : Plan) (library : Library) (code : Code) (frame : Frame) (op : TestOp) (position : ℕ) → FindsJump plan library code frame (test_op op) position → machine.OneValue frame.slots
finds_value plan library code frame op position =
    any_test (λ o. FindsJump plan library code frame (test_op o) position → machine.OneValue frame.slots) (λ f. f) (λ f. f) (λ f. f) (λ f. f) op

abbrev pub test_at : TestOp → (target end : ℕ) → Fetched
test_at op target end = record { instruction = fetched.test op target; end = end }

pub starts_end : (op : TestOp) (target end : ℕ) → StartsBehind (test_at op target end) end
starts_end op target end = any_test (λ o. StartsBehind (test_at o target end) end) (λ p s row r. r.begins tt) (λ p s row r. r.begins tt) (λ p s row r. r.begins tt) (λ p s row r. r.begins tt) op

pub starts_target : (op : TestOp) (target end : ℕ) → StartsBehind (test_at op target end) target
starts_target op target end p s row r = r.target

-- where it goes on: behind it, or at the target
pub record Lands (texts : StrNo → Option (List ℕ)) (tuples : ConstNo → Option (List Value)) (objects : Objects Value ℕ) (fetched : Fetched) (old new : Calls) : Type 0 where
  pub offset : ℕ
  pub starts : StartsBehind fetched offset
  pub onward : Onward texts tuples objects offset old new

module _ (texts : StrNo → Option (List ℕ)) (tuples : ConstNo → Option (List Value)) (objects : Objects Value ℕ) (target end : ℕ) (old new : Calls) where
  abbrev Known : Slot → Type 0
  Known s = IsKnownSlot texts tuples objects s

  dropped : (fetched : Fetched) (offset : ℕ) → StartsBehind fetched offset → new ≡ on_running (λ c. record c { at = offset; slots = drop 1 c.slots }) old → Lands texts tuples objects fetched old new
  dropped fetched offset starts moved =
      record { offset = offset; starts = starts; onward = slots_onward texts tuples objects old new offset (λ c. drop 1 c.slots) (λ c k. All-drop Known 1 c.slots k) moved }

  kept : (fetched : Fetched) (offset : ℕ) → StartsBehind fetched offset → new ≡ on_running (λ c. record c { at = offset; slots = c.slots }) old → Lands texts tuples objects fetched old new
  kept fetched offset starts moved =
      record { offset = offset; starts = starts; onward = slots_onward texts tuples objects old new offset (λ c. c.slots) (λ c k. k) moved }

  pub lands : (op : TestOp) (truth : Bool) → new ≡ on_running (tested op truth target end) old → Lands texts tuples objects (test_at op target end) old new
  lands test_ops.PopJumpIfTrue true m = dropped (test_at test_ops.PopJumpIfTrue target end) target (starts_target test_ops.PopJumpIfTrue target end) m
  lands test_ops.PopJumpIfTrue false m = dropped (test_at test_ops.PopJumpIfTrue target end) end (starts_end test_ops.PopJumpIfTrue target end) m
  lands test_ops.PopJumpIfFalse true m = dropped (test_at test_ops.PopJumpIfFalse target end) end (starts_end test_ops.PopJumpIfFalse target end) m
  lands test_ops.PopJumpIfFalse false m = dropped (test_at test_ops.PopJumpIfFalse target end) target (starts_target test_ops.PopJumpIfFalse target end) m
  lands test_ops.JumpIfTrueOrPop true m = kept (test_at test_ops.JumpIfTrueOrPop target end) target (starts_target test_ops.JumpIfTrueOrPop target end) m
  lands test_ops.JumpIfTrueOrPop false m = dropped (test_at test_ops.JumpIfTrueOrPop target end) end (starts_end test_ops.JumpIfTrueOrPop target end) m
  lands test_ops.JumpIfFalseOrPop true m = dropped (test_at test_ops.JumpIfFalseOrPop target end) end (starts_end test_ops.JumpIfFalseOrPop target end) m
  lands test_ops.JumpIfFalseOrPop false m = kept (test_at test_ops.JumpIfFalseOrPop target end) target (starts_target test_ops.JumpIfFalseOrPop target end) m

-- the jump does what the machine's instruction does, by the truth of the top value
pub does_test : (texts : StrNo → Option (List ℕ)) (tuples : ConstNo → Option (List Value)) (heap : Heap Value ℕ) (op : TestOp) (truth : Bool) (target end : ℕ) (old new : Calls)
    → ((layout : Layout) (w : PlainWorld) → Tests (tables_of texts tuples layout) (world_of (tables_of texts tuples layout) w heap) truth old.calls)
    → ((tables : Tables) (w : PlainWorld) (position : ℕ) → IsAt tables target position old.calls → IsNext tables end old.calls → Tests tables w truth old.calls → step.Steps tables w (Jumps (test_op op) position) old.calls new.calls)
    → DoesBehind texts tuples (test_at op target end) 0 heap heap old new (Ok tt)
does_test texts tuples heap op truth target end old new tests steps p row tells r =
    let there = of_program texts tuples p tells (λ t u. (layout : Layout) (w : PlainWorld) → Tests (tables_of t u layout) (world_of (tables_of t u layout) w heap) truth old.calls) tests in
    let position = position_in (starts_of (view_of p.tables) r.first) target in
    record {
      pays = λ library place paid w less. absurd (omega (arith, less));
      steps = λ library place paid w enough.
          steps p.tables (world_of p.tables w heap) position (at_first texts tuples (test_at op target end) heap heap old new (Ok tt) p row r target) r.next (there (layout_of p) w) library place paid;
    }
