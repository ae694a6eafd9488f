-- Frames whose slots and locals hold plain values, and states of such frames.
use Rattle.std.specs.Prelude.{◌≡◌, ℕ, zero, suc, ◌⊎◌, ◌≤◌, nat_le, false, List, [], ◌∷◌, length, drop, Option, Some, None, IsSome, nat_eq, if◌then◌else◌}
use Rattle.std.specs.List.{AllByRecursion as Each}
use Rattle.bc_progress.specs.bc_machine.Library.{Library}
use Rattle.bc_progress.specs.mpy_base.World.{AModule, IsA}
use Rattle.bc_progress.specs.mpy_base.Val.{Val, Built}
use Rattle.bc_progress.specs.py_values.Shown.{PlainHeap}
use Rattle.bc_progress.specs.py_primitives.Iterables.{items_in}
use Rattle.bc_progress.specs.py_effects.Modules.{last_part}
use Rattle.bc_progress.specs.bc_machine.State.{Slot, Value, Null, Object, Iter, KeptReturn, KeptJump, Entry, Role, Main, Called}
use Rattle.bc_progress.specs.bc_machine.State.{Imported, Frame, State, Running, Halted, Stuck, cut}
use Rattle.bc_progress.specs.Known.{HasMethod}
use Rattle.snap_kept.specs.Texts.{IsName}
use Rattle.snap_kept.specs.Values.{IsNamespace, IsPlain}
use Rattle.snap_kept.specs.Effects.{AreLocals, IsSound}

-- a slot of an iterator lies on its next lower one, of the same place, and the lowest on any slot
abbrev pub LiesOn : Val → (at part : ℕ) → List Slot → Type 0
LiesOn over at zero slots = Unit {0}
LiesOn over at (suc part) (Iter o place p ∷ slots) = (o ≡ over) × (place ≡ at) × (p ≡ part)
LiesOn over at (suc part) _ = ⊥

-- an entry that keeps an exception has its handler no further than this position
abbrev pub IsHeld : ℕ → Entry → Type 0
IsHeld position e = (e.kept ≡ None) ⊎ (e.handler ≤ position)

-- so does each of these
abbrev pub AreHeld : ℕ → List Entry → Type 0
AreHeld position entries = Each (IsHeld position) entries

-- an entry is active from its handler's position on
abbrev pub IsMarked : ℕ → Entry → Type 0
IsMarked position e = e.active ≡ nat_le e.handler position

-- an entry that isn't active keeps no exception
abbrev pub KeepsNone : Entry → Type 0
KeepsNone e = e.active ≡ false → e.kept ≡ None

-- the slot that lies on so many others
abbrev pub on_height : ℕ → List Slot → Option Slot
on_height height [] = None
on_height height (slot ∷ slots) = if nat_eq (length slots) height then Some slot else on_height height slots

-- a kept jump leads to where the entries are held that remain
abbrev pub LeadsHeld : List Entry → Option Slot → Type 0
LeadsHeld entries (Some (KeptJump target count iterator)) = AreHeld target (drop count entries)
LeadsHeld entries _ = Unit {0}

module _ (library : Library) where
  -- slots, the topmost first: a method lies only below its object, and an iterator goes over an iterable
  abbrev pub AreSlots : PlainHeap → List Slot → Type 0
  AreSlots heap [] = Unit {0}
  AreSlots heap (Value v ∷ slots) = IsPlain library heap v × AreSlots heap slots
  AreSlots heap (Null ∷ slots) = AreSlots heap slots
  AreSlots heap (Object None ∷ slots) = AreSlots heap slots
  AreSlots heap (Object (Some o) ∷ Value (Built method) ∷ slots) =
      (IsPlain library heap o × HasMethod heap.objects o method) × AreSlots heap slots
  AreSlots heap (Object (Some o) ∷ _) = ⊥
  AreSlots heap (Iter over at part ∷ slots) =
      (IsPlain library heap over × IsSome (items_in heap over) × LiesOn over at part slots) × AreSlots heap slots
  AreSlots heap (KeptReturn v ∷ slots) = IsPlain library heap v × AreSlots heap slots
  AreSlots heap (KeptJump target count iterator ∷ slots) = AreSlots heap slots

  -- each entry has a height among the slots, and no height parts a method from its object. The entries below one are
  -- held at its handler, and at the target of the jump that it keeps
  abbrev pub AreEntries : PlainHeap → List Slot → List Entry → Type 0
  AreEntries heap slots [] = Unit {0}
  AreEntries heap slots (e ∷ entries) =
      (e.height ≤ length slots) × AreSlots heap (cut e.height slots) × AreEntries heap (cut e.height slots) entries
      × AreHeld e.handler entries × LeadsHeld entries (on_height e.height slots)

  -- a module that runs is one, and its last name is a name
  abbrev pub IsRole : PlainHeap → Role → Type 0
  IsRole heap Main = Unit {0}
  IsRole heap Called = Unit {0}
  IsRole heap (Imported name m) = IsName library (last_part name) × IsA heap.objects AModule m

  -- a frame
  pub record IsFrame (heap : PlainHeap) (frame : Frame) : Type 0 where
    pub names : IsNamespace heap frame.names
    pub locals : AreLocals library heap frame.locals
    pub role : IsRole heap frame.role
    pub slots : AreSlots heap frame.slots
    pub entries : AreEntries heap frame.slots frame.entries
    pub held : AreHeld frame.position frame.entries
    pub marked : Each (IsMarked frame.position) frame.entries

  -- a state that runs has a sound world and such frames
  abbrev pub IsKept : State → Type 0
  IsKept (Running paid frame frames w) = IsSound library w × Each (IsFrame w.heap) (frame ∷ frames)
  IsKept (Halted end w) = Unit {0}
  IsKept (Stuck w) = Unit {0}
