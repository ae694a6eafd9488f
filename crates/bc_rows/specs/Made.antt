-- Rows as they are made, and the tables that are kept.
use Rattle.std.specs.Prelude.{◌≡◌, ℕ, ◌<◌, ◌≤◌, ◌^◌, List, [], ◌∷◌, ◌++◌, length, Option, Some, None, IsSome, slice_get}
use Rattle.std.specs.List.{AllByRecursion}
use Rattle.bc_machine.specs.mpy_tree.declared.raw.RawCode.{RawCode}
use Rattle.bc_machine.specs.mpy_tree.Raw.{Module}
use Rattle.bc_machine.specs.mpy_tree.Codes.{Placed, codes_of}
use Rattle.bc_machine.specs.mpy_tree.File.{IsOwnCode, IsCode, IsModule}
use Rattle.bc_prelude.specs.Names.{AreNames}
use Rattle.bc_library.specs.declared.fault.Member.{Member}
use Rattle.bc_library.specs.declared.fault.Member.TheVariants as members
use Rattle.bc_library.specs.Shelf.{Shelf, module_at, entry_at}
use Rattle.bc_rows.specs.declared.row.Row.{Row}
use Rattle.bc_rows.specs.Rows.{IsRowOf, module_named}

-- the bytes are `count` indexes of the module's table
pub record AreIndexes (shelf : Shelf) (i count : ℕ) (bytes indexes : List ℕ) : Type 0 where
  pub names : AreNames indexes bytes
  pub many : length indexes ≡ count
  pub known : AllByRecursion (λ index. IsSome (entry_at shelf i index)) indexes

-- a code of the module that has the number, by its own bytes and with the codes in it
abbrev pub IsOwnCodeIn : Shelf → ℕ → List ℕ → Type 0
IsOwnCodeIn shelf i bytes = (m : Module) × (module_at shelf i ≡ Some m) × IsOwnCode (length m.qstrs) bytes

-- a code of the module `i`, with no more levels of codes than that
abbrev pub IsCodeIn : Shelf → ℕ → ℕ → RawCode → Type 0
IsCodeIn shelf i levels code = (m : Module) × (module_at shelf i ≡ Some m) × (text : List ℕ) × IsCode levels (length m.qstrs) text code

-- a row for each of these codes
abbrev pub AreRows : Shelf → ℕ → List Placed → List Row → Type 0
AreRows shelf i [] [] = Unit {0}
AreRows shelf i [] (row ∷ rows) = ⊥
AreRows shelf i (code ∷ codes) [] = ⊥
AreRows shelf i (code ∷ codes) (row ∷ rows) = IsRowOf shelf i code row × AreRows shelf i codes rows

-- the row with these numbers of children
abbrev pub with_children : Row → List ℕ → Row
with_children row numbers = record row { children = numbers }

-- those rows are behind the others
abbrev pub Adds : Shelf → ℕ → List Placed → List Row → List Row → Type 0
Adds shelf i codes before after = (added : List Row) × (after ≡ before ++ added) × AreRows shelf i codes added

-- the rows of the first modules
abbrev pub AreTables : Shelf → List (List Row) → Type 0
AreTables shelf tables =
    (i : ℕ) (rows : List Row) → slice_get tables i ≡ Some rows
    → (m : Module) × (module_at shelf i ≡ Some m) × IsModule m × AreRows shelf i (codes_of m) rows

-- the modules that the first texts name
abbrev pub AreNamed : Shelf → List (Option ℕ) → Type 0
AreNamed shelf named = (n : ℕ) (entry : Option ℕ) → slice_get named n ≡ Some entry → entry ≡ module_named shelf n

-- the tables of all modules, and the modules that texts name
pub record IsKept (shelf : Shelf) (tables : List (List Row)) (named : List (Option ℕ)) : Type 0 where
  pub rows : AreTables shelf tables
  pub all : (i : ℕ) → length tables ≤ i → module_at shelf i ≡ None
  pub named_are : AreNamed shelf named
  pub others : (n : ℕ) → length named ≤ n → n < 2 ^ 32 → module_named shelf n ≡ None

-- the number of a module that a name leads to
abbrev pub module_in : Option Member → Option ℕ
module_in (Some (members.Module i)) = Some i
module_in member = None
