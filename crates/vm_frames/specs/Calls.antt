-- What is seen of frames: lists, the topmost slot, the innermost entry and the innermost call first.
use Rattle.std.specs.Prelude.{ℕ, List, [], ◌∷◌, Option}
use Rattle.arena_heap.specs.declared.value.Value.{Value}
use Rattle.arena_heap.specs.declared.value.DictNo.{DictNo}
use Rattle.vm_frames.specs.declared.slot.Slot.{Slot}
use Rattle.vm_frames.specs.declared.slot.Entry.{Entry}
use Rattle.vm_frames.specs.declared.slot.Role.{Role}

-- a call that runs or waits, in the code of this number of the module of that number
pub record Call : Type 0 where
  pub module_number : ℕ
  pub code : ℕ
  -- the offset of its instruction
  pub at : ℕ
  -- the dict of its module's names
  pub names : DictNo
  pub role : Role
  pub locals : List (Option Value)
  pub slots : List Slot
  pub entries : List Entry

-- the calls, and what fits into each: as many locals and as many slots as slot_room
pub record Calls : Type 0 where
  pub calls : List Call
  pub slot_room : ℕ
  pub entry_room : ℕ

-- a call runs, of which this holds
abbrev pub OfRunning : (Call → Type 0) → List Call → Type 0
OfRunning P [] = ⊥
OfRunning P (c ∷ cs) = P c

-- the running call changes, and nothing else does
abbrev pub change_first : (Call → Call) → List Call → List Call
change_first change [] = []
change_first change (c ∷ cs) = change c ∷ cs

-- the calls with the running one changed
abbrev pub on_running : (Call → Call) → Calls → Calls
on_running change s = record s { calls = change_first change s.calls }
