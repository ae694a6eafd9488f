-- What a fetched instruction finds on the running call.
use Rattle.std.specs.Prelude.{◌≡◌, ℕ, ◌<◌, ◌≤◌, List, ◌∷◌, length, Some, slice_get}
use Rattle.frame_exits.specs.mpy_base.Val.{PlainWorld}
use Rattle.frame_exits.specs.bc_labels.Positions.{CodeList, Listed, Starts}
use Rattle.frame_exits.specs.bc_prelude.Lines as lines
use Rattle.vm_fetching.specs.mpy_tree.Raw as raw
use Rattle.frame_exits.specs.bc_library.Shelf.{Shelf, module_at}
use Rattle.frame_exits.specs.bc_library.Texts.{text_numbered}
use Rattle.bc_progress.specs.py_effects.Effect.{Place}
use Rattle.bc_progress.specs.bc_machine.Library.{Code, Item, Line, code_at}
use Rattle.bc_progress.specs.bc_machine.Step.{step}
use Rattle.vm_fetching.specs.bc_rows.declared.row.Row.{Row}
use Rattle.vm_fetching.specs.bc_rows.Runs.{RunsAs}
use Rattle.frame_exits.specs.vm_frames.Calls.{Call, Calls}
use Rattle.frame_exits.specs.vm_frames.Views.{starts_of, position_of, frame_of}
use Rattle.vm_fetching.specs.frame_moves.Shown.{Tables, IsNext, view_of, running_of, step_of}
use Rattle.vm_states.specs.Finds.{Finds, GoesOn}
use Rattle.vm_fetching.specs.declared.instruction.Fetched.{Fetched}
use Rattle.vm_fetching.specs.Fetches.{AreOf, Fetches}
use Rattle.vm_fetching.specs.Shows.{item_of_fetched, TargetStarts, LocalIsWithin, TextIsThere, ConstantIsThere}
use Rattle.vm_states.specs.Means.{Program}

-- this is fetched at the offset of the row
abbrev pub IsFetched : Shelf → (i : ℕ) → Row → (offset : ℕ) → Fetched → Type 0
IsFetched shelf i row offset fetched =
    (tables : Tables) (m : raw.Module) (code : Code) (l : CodeList) → AreOf shelf tables → module_at shelf i ≡ Some m → RunsAs shelf m row code
    → Listed row.instructions.now l → Starts l.offsets offset → Fetches shelf tables row l code offset fetched

-- the place of the instruction at the offset of the row
pub record IsPlaceOf (shelf : Shelf) (row : Row) (offset : ℕ) (place : Place) : Type 0 where
  pub file : text_numbered shelf.pool row.source ≡ Some place.file
  pub line : place.line ≡ lines.line_of row.line_table.now offset
  pub name : text_numbered shelf.pool row.name ≡ Some place.name

module _ (p : Program) where
  -- the machine's item of what is fetched for the call
  abbrev pub item_at : Call → Fetched → Item
  item_at c fetched = item_of_fetched p.tables (starts_of (view_of p.tables) c) fetched.instruction

  -- The first of the calls stands at the instruction that was fetched: the machine's step is that of it, at this place. It finds
  -- on the call what it takes, and room; an instruction starts where it ends, if it goes on, and at its target.
  -- It is in the line of the code at the call's position; a line has one start
  pub record IsReady (s : Calls) (row : Row) (fetched : Fetched) : Type 0 where
    pub first : Call
    pub others : List Call
    pub are : s.calls ≡ first ∷ others
    pub place : Place
    pub place_is : IsPlaceOf p.shelf row first.at place
    pub steps : (paid : ℕ) (w : PlainWorld)
        → step p.library (running_of p.tables paid s.calls w) ≡ step_of p.tables p.library place paid s.calls w (item_at first fetched)
    pub next : IsNext p.tables fetched.end s.calls
    pub begins : GoesOn (item_at first fetched) → Starts (starts_of (view_of p.tables) first) fetched.end
    pub target : TargetStarts (starts_of (view_of p.tables) first) fetched.instruction
    pub code : Code
    pub code_is : code_at p.library (p.tables.module_name first.module_number) first.code ≡ Some code
    pub line : Line
    pub line_is : slice_get code.lines (position_of (view_of p.tables) first) ≡ Some line
    pub item_is : line.item ≡ item_at first fetched
    pub as_many : length code.lines ≡ length (starts_of (view_of p.tables) first)
    pub finds : Finds (p.plans (p.tables.module_name first.module_number) first.code) p.library code (frame_of (view_of p.tables) first) (item_at first fetched)
    pub local : LocalIsWithin (length first.locals) fetched.instruction
    pub text : TextIsThere p.shelf fetched.instruction
    pub constant : ConstantIsThere p.shelf fetched.instruction
    pub slots : length first.slots < s.slot_room
    pub entries : length first.entries ≤ s.entry_room
