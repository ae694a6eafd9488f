-- The machine's step of a call by its code's line.
use Rattle.std.proofs.Common.{◌≡◌, ℕ, suc, List, ◌∷◌, map, Option, Some, sym, ap, ◌∙◌}
use Rattle.std.specs.Prelude.{slice_get}
use Rattle.frame_moves.specs.mpy_base.Val.{PlainWorld}
use Rattle.bc_prelude.specs.Lines as lines
use Rattle.frame_moves.specs.bc_labels.Positions.{CodeList, position_in}
use Rattle.bc_rows.specs.bc_library.Shelf.{Shelf}
use Rattle.frame_moves.specs.bc_machine.Library.{Line, Code, Module, Library, entry_in, module_in, code_in}
use Rattle.frame_moves.specs.bc_machine.Step.{run_line, line_at, step}
use Rattle.bc_rows.specs.declared.row.Row.{Row}
use Rattle.frame_moves.specs.vm_frames.Calls.{Call}
use Rattle.frame_moves.specs.vm_frames.Views.{frame_of}
use Rattle.frame_moves.specs.Shown.{Tables, IsNext, view_of, running_of, step_of}
use Rattle.vm_fetching.specs.declared.instruction.Fetched.{Fetched}
use Rattle.vm_fetching.specs.Fetches.{Fetches}
use Rattle.vm_fetching.specs.Shows.{item_of_fetched}

pub steps_as : (names : Tables) (library : Library) (shelf : Shelf) (row : Row) (l : CodeList) (m : Module) (code : Code) (fetched : Fetched) (c : Call) (cs : List Call) (paid : ℕ) (w : PlainWorld)
    → module_in (entry_in library (names.module_name c.module_number)) ≡ Some m → slice_get m.codes c.code ≡ Some code
    → names.starts c.module_number c.code ≡ l.offsets → Fetches shelf names row l code c.at fetched
    → step library (running_of names paid (c ∷ cs) w)
    ≡ step_of names library (record { file = m.file; line = lines.line_of row.line_table.now c.at; name = code.name }) paid (c ∷ cs) w (item_of_fetched names l.offsets fetched.instruction)
steps_as names library shelf row l m code fetched c cs paid w held there starts f =
    let frame = frame_of (view_of names) c in
    let frames = map (frame_of (view_of names)) cs in
    let position = position_in (names.starts c.module_number c.code) c.at in
    let line : slice_get code.lines position ≡ Some (record { item = item_of_fetched names l.offsets fetched.instruction; line = lines.line_of row.line_table.now c.at }) =
    ap (λ (z : List ℕ). slice_get code.lines (position_in z c.at)) starts ∙ f.line in
    ap (λ (o : Option Module). run_line library paid frame frames w o (code_in o c.code) (line_at (code_in o c.code) position)) held
    ∙ (ap (λ (o : Option Code). run_line library paid frame frames w (Some m) o (line_at o position)) there
    ∙ ap (λ (o : Option Line). run_line library paid frame frames w (Some m) (Some code) o) line)

pub next_is : (names : Tables) (shelf : Shelf) (row : Row) (l : CodeList) (code : Code) (fetched : Fetched) (c : Call) (cs : List Call)
    → names.starts c.module_number c.code ≡ l.offsets → Fetches shelf names row l code c.at fetched → IsNext names fetched.end (c ∷ cs)
next_is names shelf row l code fetched c cs starts f =
    ap (λ (z : List ℕ). position_in z fetched.end) starts ∙ (f.next ∙ sym (ap (λ (z : List ℕ). suc (position_in z c.at)) starts))
