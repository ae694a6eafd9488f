-- Runs that are opened.
use Rattle.std.proofs.Common.{◌≡◌, ℕ, ◌<◌, ◌≤◌, [], ◌∷◌, Option, Some, None, Ok, refl, sym, ap, subst, ◌∙◌, arith}
use Rattle.std.specs.Prelude.{IfSome, codes, length}
use Rattle.mpy_base.specs.declared.limits.TheConstants.{MAX_MODULES}
use Rattle.mpy_base.specs.declared.room.NoRoom.{NoRoom}
use Rattle.mpy_base.specs.declared.room.Room.{Room}
use Rattle.mpy_base.specs.Val.{PlainWorld}
use Rattle.mpy_base.specs.Weights.{empty}
use Rattle.mpy_base.specs.World.{Heap, Objects}
use Rattle.state_steps.specs.prim_faults.arena_heap.declared.value.Value.{Value}
use Rattle.state_steps.specs.prim_faults.arena_objects.Keys.{AllTold}
use Rattle.state_steps.specs.prim_faults.arena_objects.Iterables.{or_nothing}
use Rattle.bc_library.specs.Constants.{items_at, text_at}
use Rattle.bc_library.specs.Shelf.{Shelf}
use Rattle.state_steps.specs.vm_frames.py_effects.Heaps.{Formed}
use Rattle.state_steps.specs.vm_frames.py_effects.Modules.{make_module}
use Rattle.state_steps.specs.prim_faults.prim_walks.Plain.{plain_name, plain_heap}
use Rattle.state_steps.specs.prim_modules.declared.makings.Made.{Made}
use Rattle.state_steps.specs.prim_modules.Effects.{IsMaking}
use Rattle.state_steps.specs.prim_modules.Registry.{Registry, with_entry}
use Rattle.state_steps.specs.vm_frames.Calls.{Call, Calls}
use Rattle.vm_kept.specs.state_calls.frame_exits.declared.ends.End.{End}
use Rattle.vm_kept.specs.state_calls.frame_exits.declared.ends.End.TheVariants as ends
use Rattle.vm_kept.specs.state_calls.frame_exits.declared.ends.After.TheVariants as afters
use Rattle.vm_kept.specs.state_calls.frame_exits.Known.{IsKnownAfter}
use Rattle.vm_starting.specs.vm_states.Means.{Program}
use Rattle.vm_starting.specs.vm_states.Running.{IsRunning}
use Rattle.vm_starting.specs.vm_states.State.{IsState}
use Rattle.vm_kept.specs.Kept.{HoldsKept}
use Rattle.vm_kept.specs.state_exits.Modules.{AreRegistered}
use Rattle.vm_starting.specs.Programs.{IsProgramOf, IsRunnable}
use Rattle.vm_starting.specs.declared.opening.Vm.{Vm}
use Rattle.vm_starting.specs.Opened.{HasMemory, IsBegun, state_in}
use Rattle.vm_starting.specs.Starting.{main_call}
use Rattle.vm_machine.proofs.Texts.{main_text}
use Rattle.vm_machine.specs.Machine.{IsVm, machine_of, world_in}
use Rattle.vm_machine.proofs.Machines.{in_program, arrived}

-- the laws that are used
abbrev pub RegisteredLaw : Type 0
RegisteredLaw =
    (p : Program) (old new : Heap Value ℕ) (before after : Registry) (made : Made) (name : ℕ) → Formed (plain_heap p.tables.texts p.tables.tuples old) → before.entries ≡ [] → length p.shelf.modules < before.room
    → plain_name p.tables.texts p.tables.tuples name ≡ codes "__main__"
    → IsMaking p.tables.texts p.tables.tuples old new before after (Ok made) (λ w. make_module w (plain_name p.tables.texts p.tables.tuples name))
    → after ≡ with_entry before (record { name = name; object = made.number }) → AreRegistered p new after

abbrev pub BegunLaw : Type 0
BegunLaw = (p : Program) (objects : Objects Value ℕ) (s : Calls) (c : Call) → IsRunning p s → s.calls ≡ c ∷ [] → c.slots ≡ [] → c.entries ≡ [] → HoldsKept p objects s

-- nothing refers to anything in an empty heap
empty_formed : (p : Program) (room : Room) → Formed (plain_heap p.tables.texts p.tables.tuples (empty room.cells room.bytes))
empty_formed p room = record { dicts = λ n names e. absurd cc }

-- the machine stands where the start comes to
pub starts_at : (p : Program) (vm : Vm) (w : PlainWorld) → vm.paid ≡ 0 → state_in p vm w ≡ machine_of p vm w
starts_at p vm w unpaid = arrived p vm.end vm.frames.calls (world_in p vm w) ∙ (let e : 0 ≡ vm.paid = sym unpaid in ap (λ (k : ℕ). machine_of p (record vm { paid = k }) w) e)

module _ (shelf : Shelf) (number : ℕ) (room : Room) (vm : Vm) where
  registered : RegisteredLaw → (n_state n_exc : ℕ) → HasMemory shelf n_state n_exc vm → length shelf.modules ≤ MAX_MODULES → IsBegun shelf number room vm → (p : Program) → IsProgramOf shelf p → AreRegistered p vm.arena vm.modules
  registered law n_state n_exc memory few begun p of =
      let b = begun.begins in
      let same : begun.before.room ≡ vm.modules.room = sym (ap (λ (r : Registry). r.room) b.registered) in
      let wide = memory.registry in
      let count : length p.shelf.modules ≡ length shelf.modules = ap (λ (s : Shelf). length s.modules) of.shelf_is in
      let named : plain_name p.tables.texts p.tables.tuples 21 ≡ codes "__main__" =
      in_program shelf p of (λ t u. plain_name t u 21 ≡ codes "__main__") (ap or_nothing (main_text shelf)) in
      let making = in_program shelf p of (λ t u. IsMaking t u (empty room.cells room.bytes) vm.arena begun.before vm.modules (Ok b.made) (λ w. make_module w (plain_name t u 21))) b.making in
      law p (empty room.cells room.bytes) vm.arena begun.before vm.modules b.made 21 (empty_formed p room) begun.none (omega (arith, same, wide, count, few)) named making b.registered

  how_ended : IfSome vm.end (λ e. (no_room : NoRoom) × (e ≡ ends.Memory no_room)) → IfSome vm.end (λ e. IsKnownAfter (text_at shelf) (items_at shelf) vm.arena.objects (afters.Ends e))
  how_ended h = by vm.end h
    where
      by : (o : Option End) → IfSome o (λ e. (no_room : NoRoom) × (e ≡ ends.Memory no_room)) → IfSome o (λ e. IsKnownAfter (text_at shelf) (items_at shelf) vm.arena.objects (afters.Ends e))
      by None h = tt
      by (Some e) h = subst (λ (z : End). IsKnownAfter (text_at shelf) (items_at shelf) vm.arena.objects (afters.Ends z)) (sym h.1) tt

  pub opened : RegisteredLaw → BegunLaw → IsRunnable shelf → length shelf.modules ≤ MAX_MODULES → ((n_state : ℕ) × (n_exc : ℕ) × HasMemory shelf n_state n_exc vm)
      → (vm.end ≡ None → (p : Program) → IsProgramOf shelf p → IsState p vm.arena.objects vm.frames) → (vm.end ≡ None → IsBegun shelf number room vm)
      → IfSome vm.end (λ e. (no_room : NoRoom) × (e ≡ ends.Memory no_room)) → AllTold (text_at shelf) (items_at shelf) vm.arena.objects → IsVm shelf vm
  opened law begun_law runnable few memory state begun ended told = record {
    runnable = runnable;
    n_state = memory.0;
    n_exc = memory.1;
    memory = memory.2;
    runs = λ goes_on p of. (
        let b = begun goes_on in
        record {
          state = state goes_on p of;
          registered = registered law memory.0 memory.1 memory.2 few b p of;
          kept = begun_law p vm.arena.objects vm.frames (main_call number b.locals b.begins.made) (state goes_on p of).running b.begins.calls_are refl refl;
        }
        );
    ended = how_ended ended;
    all_told = told;
  }
