-- Where codes lie, beside the texts and tuples of constants.
use Rattle.std.specs.Prelude.{ℕ, List, Option}
use Rattle.frame_moves.specs.arena_heap.declared.value.Value.{Value}
use Rattle.frame_moves.specs.arena_heap.declared.value.StrNo.{StrNo}
use Rattle.frame_moves.specs.arena_heap.declared.value.ConstNo.{ConstNo}
use Rattle.frame_moves.specs.bc_machine.Library.{Name}
use Rattle.frame_moves.specs.Shown.{Tables}

-- the names of modules by their numbers, and the offsets that the instructions of a code of a module start at
pub record Layout : Type 0 where
  pub module_name : ℕ → Name
  pub starts : ℕ → ℕ → List ℕ

-- the tables that a step is told, by texts, tuples and layout
abbrev pub tables_of : (StrNo → Option (List ℕ)) → (ConstNo → Option (List Value)) → Layout → Tables
tables_of texts tuples layout = record { texts = texts; tuples = tuples; module_name = layout.module_name; starts = layout.starts }
