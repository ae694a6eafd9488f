-- The registered modules over an arena.
use Rattle.std.specs.Prelude.{ℕ, List, [], ◌∷◌, ◌++◌, map, Option}
use Rattle.prim_assignments.specs.arena_heap.declared.value.Value.{Value}
use Rattle.prim_assignments.specs.arena_heap.declared.value.StrNo.{StrNo}
use Rattle.prim_assignments.specs.arena_heap.declared.value.ConstNo.{ConstNo}
use Rattle.prim_assignments.specs.prim_walks.Plain.{plain_name}
use Rattle.prim_modules.specs.declared.entry.Entry.{Entry}

-- the entries in the order of registering, and how many fit
pub record Registry : Type 0 where
  pub entries : List Entry
  pub room : ℕ

-- the registry with an entry more
abbrev pub with_entry : Registry → Entry → Registry
with_entry registry entry = record registry { entries = registry.entries ++ entry ∷ [] }

module _ (texts : StrNo → Option (List ℕ)) (tuples : ConstNo → Option (List Value)) where
  -- an entry as the meaning has it: the name of a module, and the number of its object
  abbrev pub plain_entry : Entry → List ℕ × ℕ
  plain_entry entry = (plain_name texts tuples entry.name, entry.object.cell)

  -- the registered modules as the meaning has them
  abbrev pub plain_modules : Registry → List (List ℕ × ℕ)
  plain_modules registry = map plain_entry registry.entries
