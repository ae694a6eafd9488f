-- What an instruction acts as that puts a value, or takes slots.
use Rattle.std.proofs.Common.{◌≡◌, ℕ, List, ◌∷◌, drop, Option, All, Result, Ok, Err, sym, subst}
use Rattle.std.proofs.lemmas.List.Elements.{All-cons, All-drop}
use Rattle.state_values.specs.mpy_base.World.{Heap, Objects}
use Rattle.state_values.specs.prim_assignments.arena_heap.declared.value.Value.{Value}
use Rattle.state_values.specs.prim_assignments.arena_heap.declared.value.StrNo.{StrNo}
use Rattle.state_values.specs.prim_assignments.arena_heap.declared.value.ConstNo.{ConstNo}
use Rattle.state_values.specs.bc_progress.bc_machine.Library.{Item}
use Rattle.state_values.specs.prim_assignments.prim_faults.declared.stop.Stop.{Stop}
use Rattle.state_values.specs.vm_frames.declared.slot.Slot.{Slot}
use Rattle.state_values.specs.vm_frames.declared.slot.Slot.TheVariants as slots
use Rattle.state_values.specs.vm_frames.Calls.{Call, Calls, on_running}
use Rattle.state_values.specs.frame_values.Effects.{Steps, Leaves}
use Rattle.state_values.specs.frame_values.Slots.{with_value, without, Puts}
use Rattle.state_values.specs.frame_exits.Known.{IsKnownSlot}
use Rattle.state_values.specs.vm_fetching.declared.instruction.Fetched.{Fetched}
use Rattle.state_values.specs.vm_states.Means.{Program}
use Rattle.state_values.specs.vm_states.Ready.{item_at}
use Rattle.state_values.specs.vm_states.Acting.{Tells}
use Rattle.state_values.specs.Keeping.{ActsKeeping}
use Rattle.state_values.specs.Onward.{StartsBehind, DoesBehind, Onward, GoesOnward}
use Rattle.vm_at_once.proofs.Telling.{does_steps}

module _ (texts : StrNo → Option (List ℕ)) (tuples : ConstNo → Option (List Value)) (objects : Objects Value ℕ) (old new : Calls) (end : ℕ) where
  abbrev Known : Slot → Type 0
  Known s = IsKnownSlot texts tuples objects s

  -- the slots alone change
  pub slots_onward : (st : Call → List Slot) → ((c : Call) → All Known c.slots → All Known (st c)) → new ≡ on_running (λ c. record c { at = end; slots = st c }) old → Onward texts tuples objects end old new
  slots_onward st known moved = record { slots_of = st; locals_of = λ c. c.locals; moved = moved; slots_known = known; locals_known = λ c k. k }

  put : (taken : ℕ) (result : Result (Unit {0}) Stop) → Puts texts tuples objects (with_value end taken) old new result → GoesOnward texts tuples objects end old new result
  put taken (Ok done) h = slots_onward (λ c. slots.Value h.0 ∷ drop taken c.slots) (λ c k. All-cons Known (slots.Value h.0) (drop taken c.slots) h.1 (All-drop Known taken c.slots k)) h.2
  put taken (Err stop) h = h

abbrev pub ActsLaw : Type 0
ActsLaw = (texts : StrNo → Option (List ℕ)) (tuples : ConstNo → Option (List Value)) (fetched : Fetched) (visits offset : ℕ) (before behind : Heap Value ℕ) (old new : Calls) (result : Result (Unit {0}) Stop)
    → StartsBehind fetched offset → DoesBehind texts tuples fetched visits before behind old new result → GoesOnward texts tuples behind.objects offset old new result
    → Leaves texts tuples before behind result → ActsKeeping texts tuples fetched visits before behind old new result

module _ (law : ActsLaw) (fetched : Fetched) (starts : StartsBehind fetched fetched.end) (visits : ℕ) (item : Item) (old new : Calls)
    {texts : StrNo → Option (List ℕ)} {tuples : ConstNo → Option (List Value)} {before behind : Heap Value ℕ} {result : Result (Unit {0}) Stop} (leaves : Leaves texts tuples before behind result)
    (is : (p : Program) (c : Call) → Tells texts tuples p → item_at p c fetched ≡ item)
    (steps : Steps texts tuples item visits fetched.end before behind old.calls new.calls result) where
  pub puts : (taken : ℕ) → Puts texts tuples behind.objects (with_value fetched.end taken) old new result → ActsKeeping texts tuples fetched visits before behind old new result
  puts taken moved =
      law texts tuples fetched visits fetched.end before behind old new result starts (does_steps texts tuples fetched before behind old new result visits item is steps)
      (put texts tuples behind.objects old new fetched.end taken result moved) leaves

  pub takes : (count : ℕ) → result ≡ Ok tt → new ≡ on_running (without fetched.end count) old → ActsKeeping texts tuples fetched visits before behind old new result
  takes count done moved =
      law texts tuples fetched visits fetched.end before behind old new result starts (does_steps texts tuples fetched before behind old new result visits item is steps)
      (subst (GoesOnward texts tuples behind.objects fetched.end old new) (sym done)
      (slots_onward texts tuples behind.objects old new fetched.end (λ c. drop count c.slots) (λ c k. All-drop (IsKnownSlot texts tuples behind.objects) count c.slots k) moved)) leaves
