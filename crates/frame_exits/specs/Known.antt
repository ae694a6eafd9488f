-- Calls whose values are known: they lead to objects of an arena, and their texts and constant tuples are told.
use Rattle.std.specs.Prelude.{ℕ, ◌<◌, List, Option, IfSome, All}
use Rattle.mpy_base.specs.World.{Objects, ADict, AnException, AModule, IsA, Later}
use Rattle.frame_moves.specs.arena_heap.declared.value.Value.{Value}
use Rattle.frame_moves.specs.arena_heap.declared.value.StrNo.{StrNo}
use Rattle.frame_moves.specs.arena_heap.declared.value.ConstNo.{ConstNo}
use Rattle.frame_moves.specs.arena_objects.Keys.{AllTold}
use Rattle.frame_moves.specs.prim_faults.Faults.{IsKnown}
use Rattle.frame_moves.specs.vm_frames.declared.slot.Slot.{Slot}
use Rattle.frame_moves.specs.vm_frames.declared.slot.Slot.TheVariants as slots
use Rattle.frame_moves.specs.vm_frames.declared.slot.Entry.{Entry}
use Rattle.frame_moves.specs.vm_frames.declared.slot.Role.{Role}
use Rattle.frame_moves.specs.vm_frames.declared.slot.Role.TheVariants as roles
use Rattle.frame_moves.specs.vm_frames.Calls.{Call}
use Rattle.frame_exits.specs.declared.ends.After.{After}
use Rattle.frame_exits.specs.declared.ends.After.TheVariants as afters
use Rattle.frame_exits.specs.declared.ends.End.TheVariants as ends

-- what an entry keeps is an exception
abbrev pub KeepsException : Objects Value ℕ → Entry → Type 0
KeepsException objects e = IfSome e.kept (λ x. IsA objects AnException x.cell)

-- what an import runs is a module
abbrev pub HasModule : Objects Value ℕ → Role → Type 0
HasModule objects roles.Main = Unit {0}
HasModule objects roles.Call = Unit {0}
HasModule objects (roles.Import m) = IsA objects AModule m.cell

module _ (texts : StrNo → Option (List ℕ)) (tuples : ConstNo → Option (List Value)) where
  -- a slot whose values are known
  abbrev pub IsKnownSlot : Objects Value ℕ → Slot → Type 0
  IsKnownSlot objects (slots.Value v) = IsKnown texts tuples objects v
  IsKnownSlot objects slots.Null = Unit {0}
  IsKnownSlot objects (slots.Object o) = IfSome o (IsKnown texts tuples objects)
  IsKnownSlot objects (slots.Iter over at part) = IsKnown texts tuples objects over
  IsKnownSlot objects (slots.Return v) = IsKnown texts tuples objects v
  IsKnownSlot objects (slots.Jump target count iterator) = Unit {0}

  -- a call of one of the modules, which are counted
  pub record IsKnownCall (modules : ℕ) (objects : Objects Value ℕ) (c : Call) : Type 0 where
    pub of_module : c.module_number < modules
    pub names : IsA objects ADict c.names.cell
    pub role : HasModule objects c.role
    pub locals : All (λ v. IfSome v (IsKnown texts tuples objects)) c.locals
    pub slots : All (IsKnownSlot objects) c.slots
    pub entries : All (KeepsException objects) c.entries

  -- calls that are known stay so, and an object stays of its kind
  pub record Keeps (modules : ℕ) (before behind : Objects Value ℕ) (old new : List Call) : Type 0 where
    pub known : All (IsKnownCall modules before) old → All (IsKnownCall modules behind) new
    pub later : Later before behind
    pub all_told : AllTold texts tuples behind

  -- the value that a call is to take is known, and an exception that ends the run is one
  abbrev pub IsKnownAfter : Objects Value ℕ → After → Type 0
  IsKnownAfter objects afters.Runs = Unit {0}
  IsKnownAfter objects (afters.Gives v) = IsKnown texts tuples objects v
  IsKnownAfter objects (afters.Ends ends.Ended) = Unit {0}
  IsKnownAfter objects (afters.Ends (ends.Raised x)) = IsA objects AnException x.cell
  IsKnownAfter objects (afters.Ends (ends.Memory room)) = Unit {0}
