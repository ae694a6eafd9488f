-- What an instruction acts as that changes slots in one of the shapes.
use Rattle.std.proofs.Common.{◌≡◌, ℕ, List, Option, Result}
use Rattle.vm_states.specs.mpy_base.World.{Heap}
use Rattle.vm_states.specs.prim_names.arena_heap.declared.value.Value.{Value}
use Rattle.vm_states.specs.prim_names.arena_heap.declared.value.StrNo.{StrNo}
use Rattle.vm_states.specs.prim_names.arena_heap.declared.value.ConstNo.{ConstNo}
use Rattle.vm_states.specs.bc_machine.Library.{Item}
use Rattle.vm_states.specs.prim_names.prim_faults.declared.stop.Stop.{Stop}
use Rattle.vm_states.specs.vm_frames.Calls.{Call, Calls}
use Rattle.vm_states.specs.frame_values.Effects.{Steps, Leaves}
use Rattle.vm_states.specs.frame_values.Slots.{with_value, without, with_empty, with_iterator, Changes, Puts, PutsLooked, PutsValues}
use Rattle.vm_states.specs.vm_fetching.declared.instruction.Fetched.{Fetched}
use Rattle.vm_states.specs.Means.{Program}
use Rattle.vm_states.specs.Ready.{item_at}
use Rattle.vm_states.specs.Acting.{Tells}
use Rattle.state_values.specs.Keeping.{ActsKeeping}
use Rattle.state_values.specs.Onward.{StartsBehind, DoesBehind, GoesOnward}
use Rattle.state_values.proofs.Doing.{does_steps}
use Rattle.state_values.proofs.Shapes as shapes

abbrev pub ActsLaw : Type 0
ActsLaw = (texts : StrNo → Option (List ℕ)) (tuples : ConstNo → Option (List Value)) (fetched : Fetched) (visits offset : ℕ) (before behind : Heap Value ℕ) (old new : Calls) (result : Result (Unit {0}) Stop)
    → StartsBehind fetched offset → DoesBehind texts tuples fetched visits before behind old new result → GoesOnward texts tuples behind.objects offset old new result
    → Leaves texts tuples before behind result → ActsKeeping texts tuples fetched visits before behind old new result

module _ (law : ActsLaw) (fetched : Fetched) (starts : StartsBehind fetched fetched.end) (visits : ℕ) (item : Item) (old new : Calls)
    {texts : StrNo → Option (List ℕ)} {tuples : ConstNo → Option (List Value)} {before behind : Heap Value ℕ} {result : Result (Unit {0}) Stop} (leaves : Leaves texts tuples before behind result)
    (is : (p : Program) (c : Call) → Tells texts tuples p → item_at p c fetched ≡ item)
    (steps : Steps texts tuples item visits fetched.end before behind old.calls new.calls result) where
  onward : GoesOnward texts tuples behind.objects fetched.end old new result → ActsKeeping texts tuples fetched visits before behind old new result
  onward on =
      law texts tuples fetched visits fetched.end before behind old new result starts (does_steps texts tuples fetched before behind old new result visits item is steps) on leaves

  pub puts : (taken : ℕ) → Puts texts tuples behind.objects (with_value fetched.end taken) old new result → ActsKeeping texts tuples fetched visits before behind old new result
  puts taken moved = onward (shapes.put texts tuples behind.objects old new fetched.end taken result moved)

  pub takes : (count : ℕ) → Changes (without fetched.end count) old new result → ActsKeeping texts tuples fetched visits before behind old new result
  takes count moved = onward (shapes.taken texts tuples behind.objects old new fetched.end count result moved)

  pub empties : (n : ℕ) → Changes (with_empty n fetched.end) old new result → ActsKeeping texts tuples fetched visits before behind old new result
  empties n moved = onward (shapes.emptied texts tuples behind.objects old new fetched.end n result moved)

  pub looks : PutsLooked texts tuples behind.objects fetched.end old new result → ActsKeeping texts tuples fetched visits before behind old new result
  looks moved = onward (shapes.looked texts tuples behind.objects old new fetched.end result moved)

  pub iterates : Puts texts tuples behind.objects (with_iterator fetched.end) old new result → ActsKeeping texts tuples fetched visits before behind old new result
  iterates moved = onward (shapes.iterated texts tuples behind.objects old new fetched.end result moved)

  pub unpacks : (count : ℕ) → PutsValues texts tuples behind.objects fetched.end count old new result → ActsKeeping texts tuples fetched visits before behind old new result
  unpacks count moved = onward (shapes.values_put texts tuples behind.objects old new fetched.end count result moved)
