-- How tasks and runs have ended.
use Rattle.std.proofs.Common.{◌≡◌, ℕ, zero, suc, List, [], ◌∷◌, map, Bool, true, false, Option, Some, None, refl, sym, ap, subst, ◌∙◌}
use Rattle.std.specs.Prelude.{slice_index_or}
use Rattle.mpy_base.specs.declared.kind.Kind.{Kind}
use Rattle.mpy_base.specs.declared.room.NoRoom.{NoRoom}
use Rattle.mpy_base.specs.Val.{PlainWorld}
use Rattle.mpy_base.specs.World.{Heap, ExceptionObject, object}
use Rattle.arena_heap.specs.declared.value.Value.{Value}
use Rattle.arena_heap.specs.declared.value.ExcNo.{ExcNo}
use Rattle.arena_heap.specs.declared.value.StrNo.{StrNo}
use Rattle.arena_heap.specs.declared.value.ConstNo.{ConstNo}
use Rattle.arena_heap.specs.Values.{ArenaObject}
use Rattle.vm_machine.specs.vm_frames.py_effects.Ends as plain
use Rattle.vm_machine.specs.vm_frames.py_effects.Ends.{End}
use Rattle.vm_machine.specs.vm_frames.bc_machine.Machine.{run_of}
use Rattle.vm_machine.specs.vm_frames.Calls.{Call}
use Rattle.vm_machine.specs.prim_walks.Plain.{plain, plain_name, plain_object, plain_heap}
use Rattle.vm_machine.specs.state_calls.frame_exits.declared.ends.End.{End as Stop}
use Rattle.vm_machine.specs.state_calls.frame_exits.declared.ends.End.TheVariants as stops
use Rattle.vm_machine.specs.vm_starting.vm_states.Means.{Program}
use Rattle.vm_machine.specs.vm_starting.declared.opening.Vm.{Vm}
use Rattle.vm_machine.specs.Machine.{paid_state, world_in, machine_of}
use Rattle.board_tasks.specs.declared.ending.TaskEnd.{TaskEnd}
use Rattle.board_tasks.specs.declared.ending.TaskEnd.TheVariants as ends
use Rattle.board_tasks.specs.declared.turning.TaskRun.{TaskRun}
use Rattle.board_tasks.specs.Alone.{alone}
use Rattle.board_tasks.specs.Ends.{GoesOn, IsOfKind, Ends, RunEnds, standing, EndsBy, HasEnd}

-- how a task is told to have ended
-- =================================

pub has_failed : (run : TaskRun) → run.failed ≡ true → HasEnd run (Some ends.WriteFault)
has_failed run failed = subst (λ (b : Bool). EndsBy b run (Some ends.WriteFault)) (sym failed) refl

module _ (run : TaskRun) (unfailed : run.failed ≡ false) where
  its_end : (stop : Option Stop) (end : Option TaskEnd) → run.vm.end ≡ stop → Ends run.vm.arena (standing stop) end → HasEnd run end
  its_end stop end is e =
      subst (λ (b : Bool). EndsBy b run end) (sym unfailed) (subst (λ (s : Option Stop). Ends run.vm.arena (standing s) end) (sym is) e)

  pub is_open : run.vm.end ≡ None → HasEnd run None
  is_open is = its_end None None is refl

  pub has_ended : run.vm.end ≡ Some stops.Ended → HasEnd run (Some ends.Ended)
  has_ended is = its_end (Some stops.Ended) (Some ends.Ended) is refl

  pub has_raised : (x : ExcNo) (kind : Kind) (args : Value) (file line name : ℕ) → run.vm.end ≡ Some (stops.Raised x)
      → object run.vm.arena.objects x.cell ≡ Some (ExceptionObject kind args file line name) → HasEnd run (Some (ends.Raised kind))
  has_raised x kind args file line name is there =
      its_end (Some (stops.Raised x)) (Some (ends.Raised kind)) is (kind, record { args = args; file = file; line = line; name = name; is = there }, refl)

  pub has_no_room : (room : NoRoom) → run.vm.end ≡ Some (stops.Memory room) → HasEnd run (Some ends.Memory)
  has_no_room room is = its_end (Some (stops.Memory room)) (Some ends.Memory) is refl

-- the kind of an exception, as plain data
module _ (texts : StrNo → Option (List ℕ)) (tuples : ConstNo → Option (List Value)) where
  object_at : (objects : List (Option ArenaObject)) (x : ℕ) → slice_index_or (map (plain_object texts tuples) objects) x None ≡ plain_object texts tuples (slice_index_or objects x None)
  object_at [] x = refl
  object_at (o ∷ objects) zero = refl
  object_at (o ∷ objects) (suc x) = object_at objects x

  plain_kind : (heap : Heap Value ℕ) (x : ℕ) (kind : Kind) → IsOfKind heap x kind → IsOfKind (plain_heap texts tuples heap) x kind
  plain_kind heap x kind is = record {
    args = plain texts tuples is.args;
    file = plain_name texts tuples is.file;
    line = is.line;
    name = plain_name texts tuples is.name;
    is = object_at heap.objects x ∙ ap (plain_object texts tuples) is.is;
  }

  plain_ends : (heap : Heap Value ℕ) (end : End) (told : Option TaskEnd) → Ends heap end told → Ends (plain_heap texts tuples heap) end told
  plain_ends heap plain.Open told e = e
  plain_ends heap plain.Ended told e = e
  plain_ends heap (plain.Raised x) told e = (e.0, plain_kind heap x e.0 e.1, e.2)
  plain_ends heap (plain.Memory room) told e = e

module _ (p : Program) where
  stands : (end : Option Stop) (paid : ℕ) (calls : List Call) (w : PlainWorld) → (run_of (paid_state p end paid calls w)).end ≡ standing end
  stands None paid [] w = refl
  stands None paid (c ∷ cs) w = refl
  stands (Some stops.Ended) paid calls w = refl
  stands (Some (stops.Raised x)) paid calls w = refl
  stands (Some (stops.Memory room)) paid calls w = refl

  pub world_is : (end : Option Stop) (paid : ℕ) (calls : List Call) (w : PlainWorld) → (run_of (paid_state p end paid calls w)).world ≡ w
  world_is None paid [] w = refl
  world_is None paid (c ∷ cs) w = refl
  world_is (Some end) paid calls w = refl

  -- a task's machine tells how its run has ended
  pub told_end : (vm : Vm) (w : PlainWorld) (end : Option TaskEnd) → Ends vm.arena (standing vm.end) end → RunEnds (run_of (machine_of p vm w)) end
  told_end vm w end e =
      let state = world_is vm.end vm.paid vm.frames.calls (world_in p vm w) in
      subst (λ (y : End). Ends (run_of (machine_of p vm w)).world.heap y end) (sym (stands vm.end vm.paid vm.frames.calls (world_in p vm w)))
      (subst (λ (x : PlainWorld). Ends x.heap (standing vm.end) end) (sym state) (plain_ends p.tables.texts p.tables.tuples vm.arena (standing vm.end) end e))
