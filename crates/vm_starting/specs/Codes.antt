-- Codes of a program, by their rows.
use Rattle.std.specs.Prelude.{◌≡◌, ℕ, ◌<◌, ◌≤◌, length, Some}
use Rattle.frame_calls.specs.bc_labels.Positions.{CodeList, Listed}
use Rattle.bc_resolved.specs.bc_verify.mpy_tree.Raw.{Module}
use Rattle.vm_states.specs.bc_library.Shelf.{module_at}
use Rattle.frame_calls.specs.bc_machine.Library.{Code, code_at}
use Rattle.vm_states.specs.bc_rows.declared.row.Row.{Row}
use Rattle.vm_states.specs.bc_rows.Runs.{RunsAs}
use Rattle.vm_states.specs.Means.{Program}

-- the machine's code with the number k, of the module with the number i, is the one that the row runs as. Its instructions have
-- bytes, one at least, and start where the tables have it
pub record IsCodeOf (p : Program) (i k : ℕ) (row : Row) : Type 0 where
  pub m : Module
  pub held : module_at p.shelf i ≡ Some m
  pub code : Code
  pub there : code_at p.library (p.tables.module_name i) k ≡ Some code
  pub runs : RunsAs p.shelf m row code
  pub list : CodeList
  pub listed : Listed row.instructions.now list
  pub starts_are : p.tables.starts i k ≡ list.offsets
  pub some : 0 < length row.instructions.now
  -- its locals have room
  pub fits : code.locals ≤ (p.plans (p.tables.module_name i) k).n_state
