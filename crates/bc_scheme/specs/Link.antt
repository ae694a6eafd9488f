-- The modules of a program: each the translation of its source, or the merge of its parts' modules.
use Rattle.std.specs.Prelude.{◌≡◌, List, [], ◌∷◌, Option, Some, None, codes}
use Rattle.bc_machine.specs.mpy_tree.Resolved.{ResolvedModule}
use Rattle.bc_machine.specs.Library as libraries
use Rattle.bc_machine.specs.Library.{Library, module_of}
use Rattle.py_meaning.specs.Tree.{Name}
use Rattle.py_meaning.specs.Program as programs
use Rattle.py_meaning.specs.Program.{Source, Unit, Single, Merge, Units, Part, Parts, Program}
use Rattle.bc_scheme.specs.Translation.{Translates}
use Rattle.bc_scheme.specs.Merge.{merge_of}

mutual
  -- the tree is the translation of the unit's source, or the merge of the trees of its parts
  pub data IsModuleOf : Unit → ResolvedModule → Type 0 where
    translated : {source : Source} {m : ResolvedModule} → Translates source m → IsModuleOf (Single source) m
    merged : {units : Units} {m : ResolvedModule} {ms : List ResolvedModule} → AreModulesOf units m ms → IsModuleOf (Merge units) (merge_of m ms)

  -- one for each unit, of which there is a first
  pub data AreModulesOf : Units → ResolvedModule → List ResolvedModule → Type 0 where
    last_unit : {u : Unit} {m : ResolvedModule} → IsModuleOf u m → AreModulesOf (Part u) m []
    next_unit : {u : Unit} {us : Units} {m n : ResolvedModule} {ns : List ResolvedModule} → IsModuleOf u m → AreModulesOf us n ns
        → AreModulesOf (Parts u us) m (n ∷ ns)

-- an entry is absent, refused, or a unit's module, on both sides
abbrev pub IsEntryOf : Option programs.Entry → Option libraries.Entry → Type 0
IsEntryOf (Some (programs.Runs unit)) entry = (m : ResolvedModule) × IsModuleOf unit m × (entry ≡ Some (libraries.Holds (module_of m)))
IsEntryOf (Some programs.Refused) entry = entry ≡ Some libraries.Refused
IsEntryOf None entry = entry ≡ None

-- a library of a program's modules. The name `__main__` is never looked for, since the main module is registered under it; so
-- the library may have the main module there
pub record Links (program : Program) (library : Library) : Type 0 where
  pub main : IsEntryOf (Some (programs.Runs program.main)) (libraries.entry_in library program.main_name)
  pub entries : (name : Name) → (name ≡ codes "__main__" → program.main_name ≡ codes "__main__" → ⊥)
      → IsEntryOf (programs.entry_in program.entries name) (libraries.entry_in library name)
