-- Calls that stand at instructions, and whose handlers start at some.
use Rattle.std.specs.Prelude.{◌≡◌, ℕ, List, All}
use Rattle.vm_frames.specs.declared.slot.Entry.{Entry}
use Rattle.vm_frames.specs.Calls.{Call}
use Rattle.bc_labels.specs.Positions.{CodeList, Listed, Starts}
use Rattle.vm_frames.specs.Views.{View, starts_of}

-- the call stands at an instruction of its code, and each of its handlers starts at one
pub record IsPlaced (view : View) (c : Call) : Type 0 where
  pub bytes : List ℕ
  pub list : CodeList
  pub listed : Listed bytes list
  pub starts_are : starts_of view c ≡ list.offsets
  pub here : Starts list.offsets c.at
  pub handlers : All (λ (e : Entry). Starts list.offsets e.handler) c.entries
