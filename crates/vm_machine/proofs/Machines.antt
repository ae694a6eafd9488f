-- Machines that run a library.
use Rattle.std.proofs.Common.{◌≡◌, ℕ, List, Option, Some, None, refl, sym, ap, subst, ◌∙◌}
use Rattle.std.specs.Prelude.{IfSome, IfNone}
use Rattle.mpy_base.specs.Val.{PlainWorld}
use Rattle.state_steps.specs.prim_faults.arena_heap.declared.value.Value.{Value}
use Rattle.state_steps.specs.prim_faults.arena_heap.declared.value.StrNo.{StrNo}
use Rattle.state_steps.specs.prim_faults.arena_heap.declared.value.ConstNo.{ConstNo}
use Rattle.state_steps.specs.prim_faults.arena_objects.Keys.{AllTold}
use Rattle.bc_library.specs.Constants.{items_at, text_at}
use Rattle.bc_library.specs.Shelf.{Shelf}
use Rattle.state_steps.specs.vm_frames.Calls.{Call, Calls}
use Rattle.vm_kept.specs.state_calls.frame_moves.Shown.{running_of}
use Rattle.vm_kept.specs.state_calls.frame_exits.declared.names.ModuleName.{ModuleName}
use Rattle.vm_kept.specs.state_calls.frame_exits.declared.ends.End.{End}
use Rattle.vm_kept.specs.state_calls.frame_exits.declared.ends.After.TheVariants as afters
use Rattle.vm_kept.specs.state_calls.frame_exits.Ends.{state_of}
use Rattle.vm_kept.specs.state_calls.frame_exits.Known.{IsKnownAfter}
use Rattle.vm_starting.specs.frame_calls.Operands.{Given}
use Rattle.vm_starting.specs.vm_states.Means.{Program}
use Rattle.vm_starting.specs.vm_states.Acting.{Tells}
use Rattle.vm_starting.specs.vm_states.State.{IsState}
use Rattle.vm_kept.specs.Kept.{HoldsKept}
use Rattle.vm_kept.specs.state_exits.Running.{IsRun}
use Rattle.vm_starting.specs.Programs.{IsProgramOf}
use Rattle.vm_starting.specs.declared.opening.Vm.{Vm}
use Rattle.vm_starting.specs.Opened.{HasMemory}
use Rattle.vm_starting.specs.Titles.{AreTitles}
use Rattle.vm_machine.specs.Machine.{paid_state, world_in, machine_of, IsVm}
use Rattle.vm_machine.specs.Acting.{SameMemory}

-- what holds of a program's texts and tuples holds of the library's
module _ (shelf : Shelf) (p : Program) (of : IsProgramOf shelf p) where
  pub texts_are : p.tables.texts ≡ text_at shelf
  texts_are = of.means.constants.texts ∙ ap text_at of.shelf_is

  pub tuples_are : p.tables.tuples ≡ items_at shelf
  tuples_are = of.means.constants.tuples ∙ ap items_at of.shelf_is

  pub tells : Tells (text_at shelf) (items_at shelf) p
  tells = record { texts_are = texts_are; tuples_are = tuples_are }

  pub in_library : (P : (StrNo → Option (List ℕ)) → (ConstNo → Option (List Value)) → Type 0) → P p.tables.texts p.tables.tuples → P (text_at shelf) (items_at shelf)
  in_library P h = subst (λ (t : StrNo → Option (List ℕ)). P t (items_at shelf)) texts_are (subst (λ (u : ConstNo → Option (List Value)). P p.tables.texts u) tuples_are h)

  pub in_program : (P : (StrNo → Option (List ℕ)) → (ConstNo → Option (List Value)) → Type 0) → P (text_at shelf) (items_at shelf) → P p.tables.texts p.tables.tuples
  in_program P h =
      subst (λ (t : StrNo → Option (List ℕ)). P t p.tables.tuples) (sym texts_are) (subst (λ (u : ConstNo → Option (List Value)). P (text_at shelf) u) (sym tuples_are) h)

-- where the machine is
-- ====================

pub running : (p : Program) (vm : Vm) (w : PlainWorld) → vm.end ≡ None → machine_of p vm w ≡ running_of p.tables vm.paid vm.frames.calls (world_in p vm w)
running p vm w e = ap (λ (o : Option End). paid_state p o vm.paid vm.frames.calls (world_in p vm w)) e

pub arrived : (p : Program) (end : Option End) (calls : List Call) (w : PlainWorld) → state_of p.tables end calls w ≡ paid_state p end 0 calls w
arrived p None calls w = refl
arrived p (Some e) calls w = refl

-- other steps are paid
module _ (shelf : Shelf) (vm : Vm) (k : ℕ) where
  abbrev Paying : Vm
  Paying = record vm { paid = k }

  pub memory_paid : (n_state n_exc : ℕ) → HasMemory shelf n_state n_exc vm → HasMemory shelf n_state n_exc Paying
  memory_paid n_state n_exc m = record {
    greatest = m.greatest;
    slot_room = m.slot_room;
    entry_room = m.entry_room;
    registry = m.registry;
    names = m.names;
    operands = m.operands;
    bindings = m.bindings;
    items = m.items;
  }

  pub vm_paid : IsVm shelf vm → IsVm shelf Paying
  vm_paid h = record {
    runnable = h.runnable;
    n_state = h.n_state;
    n_exc = h.n_exc;
    memory = memory_paid h.n_state h.n_exc h.memory;
    runs = λ goes_on p of. (let r = h.runs goes_on p of in record { state = r.state; registered = r.registered; kept = r.kept });
    ended = h.ended;
    all_told = h.all_told;
  }

-- other operands are held
module _ (shelf : Shelf) (vm : Vm) (given : Given) (room : given.room ≡ vm.operands.room) where
  abbrev Holding : Vm
  Holding = record vm { operands = given }

  pub memory_holding : (n_state n_exc : ℕ) → HasMemory shelf n_state n_exc vm → HasMemory shelf n_state n_exc Holding
  memory_holding n_state n_exc m = record {
    greatest = m.greatest;
    slot_room = m.slot_room;
    entry_room = m.entry_room;
    registry = m.registry;
    names = m.names;
    operands = room ∙ m.operands;
    bindings = m.bindings;
    items = m.items;
  }

  pub vm_holding : IsVm shelf vm → IsVm shelf Holding
  vm_holding h = record {
    runnable = h.runnable;
    n_state = h.n_state;
    n_exc = h.n_exc;
    memory = memory_holding h.n_state h.n_exc h.memory;
    runs = λ goes_on p of. (let r = h.runs goes_on p of in record { state = r.state; registered = r.registered; kept = r.kept });
    ended = h.ended;
    all_told = h.all_told;
  }

-- the memory stays
pub same_memory : (shelf : Shelf) (n_state n_exc : ℕ) (old new : Vm) → SameMemory old new → HasMemory shelf n_state n_exc old → HasMemory shelf n_state n_exc new
same_memory shelf n_state n_exc old new s m = record {
  greatest = m.greatest;
  slot_room = ap (λ (z : Calls). z.slot_room) s.frames ∙ m.slot_room;
  entry_room = ap (λ (z : Calls). z.entry_room) s.frames ∙ m.entry_room;
  registry = s.modules ∙ m.registry;
  names = subst (λ (names : List ModuleName). AreTitles shelf names) (sym s.names) m.names;
  operands = s.operands ∙ m.operands;
  bindings = s.bindings ∙ m.bindings;
  items = s.items ∙ m.items;
}

-- the machine runs the library again, behind an instruction of each program
pub is_vm : (shelf : Shelf) (old new : Vm) → IsVm shelf old → (program : Program) → IsProgramOf shelf program → SameMemory old new
    → ((p : Program) → IsProgramOf shelf p → IsRun p new.arena new.modules new.frames new.end)
    → (new.end ≡ None → (p : Program) → IsProgramOf shelf p → HoldsKept p new.arena.objects new.frames)
    → IsVm shelf new
is_vm shelf old new h program of same run kept = record {
  runnable = h.runnable;
  n_state = h.n_state;
  n_exc = h.n_exc;
  memory = same_memory shelf h.n_state h.n_exc old new same h.memory;
  runs = λ goes_on p is. record {
    state = subst (λ (o : Option End). IfNone o (IsState p new.arena.objects new.frames)) goes_on (run p is).state;
    registered = (run p is).registered;
    kept = kept goes_on p is;
  };
  ended = in_library shelf program of (λ t u. IfSome new.end (λ e. IsKnownAfter t u new.arena.objects (afters.Ends e))) (run program of).ended;
  all_told = in_library shelf program of (λ t u. AllTold t u new.arena.objects) (run program of).all_told;
}
