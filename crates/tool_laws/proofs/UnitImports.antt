-- The file of a unit imports what the unit does.
use Rattle.std.proofs.Common.{◌≡◌, ℕ, zero, suc, List, [], ◌∷◌, ◌++◌, length, map, refl, sym, ap, ap₂, ◌∙◌, append-nil}
use Rattle.std.specs.List.{filter_map}
use Rattle.mpy_tree.specs.Raw.{Module}
use Rattle.mpy_tree.specs.File.{IsFile}
use Rattle.mpy_tree.specs.Resolved.{Resolved, Tree, node, Trees, no_more, more, ResolvedModule, Resolves}
use Rattle.bc_verify.specs.Verified.{IsVerified}
use Rattle.trans_parts.specs.Comparing.{FitsTree, FitTrees}
use Rattle.py_meaning.specs.Program.{Source, Unit, Single, Merge, Units, Part, Parts}
use Rattle.bc_scheme.specs.Translation.{Translates}
use Rattle.bc_scheme.specs.Merge.{calls, outer_body, on_line_1, trees_of}
use Rattle.bc_scheme.specs.Link.{IsModuleOf, translated, merged, AreModulesOf, last_unit, next_unit}
use Rattle.library_files.specs.Imports.{Imports, import_of, own_imports, imports_of, imports_of_all}
use Rattle.meant_files.specs.Imported.{source_imports}
use Rattle.meant_files.specs.Built.{IsBuilt}
use Rattle.meant_files.specs.meant_runs.Units.{IsUnitFile}
use Rattle.tool_laws.specs.AskedFor.{unit_imports, part_imports}

-- what the crates below say of files that are made of units
pub record Below : Type 0 where
  pub file : (unit : Unit) (bytes : List ℕ) → IsBuilt unit bytes → (m : Module) × IsFile bytes m
  pub verified : (unit : Unit) (bytes : List ℕ) (m : Module) → IsBuilt unit bytes → IsFile bytes m → IsVerified m
  pub unit : (unit : Unit) (bytes : List ℕ) (m : Module) → IsBuilt unit bytes → IsFile bytes m → IsUnitFile unit m
  pub imports : (source : Source) (m : ResolvedModule) → Translates source m → imports_of m.code ≡ source_imports source
  pub one_tree : (m : Module) (a b : ResolvedModule) → Resolves m a → Resolves m b → a ≡ b

abbrev joined : List (List ℕ) → List (List ℕ) → List (List ℕ)
joined own others = own ++ others

-- a tree imports what one that it fits imports
mutual
  same_imports : (a b : Tree) → FitsTree a b → imports_of a ≡ imports_of b
  same_imports (node a xs) (node b ys) f =
      ap₂ joined (ap (λ (items : List Resolved). filter_map import_of items) f.0.1.1.1.1.1.1.0) (same_imports_of_all xs ys f.1)

  same_imports_of_all : (xs ys : Trees) → FitTrees xs ys → imports_of_all xs ≡ imports_of_all ys
  same_imports_of_all no_more no_more f = refl
  same_imports_of_all no_more (more b ys) f = absurd f
  same_imports_of_all (more a xs) no_more f = absurd f
  same_imports_of_all (more a xs) (more b ys) f = ap₂ joined (same_imports a b f.0) (same_imports_of_all xs ys f.1)

-- the outer code of a merge imports nothing
-- =========================================

-- the imports of instructions that stand on line 1
abbrev on_one_line : List Resolved → List (List ℕ)
on_one_line items = filter_map import_of (map (λ l. l.item) (map on_line_1 items))

no_imports : (at n : ℕ) (behind : List Resolved) → on_one_line behind ≡ [] → on_one_line (calls at n ++ behind) ≡ []
no_imports at zero behind e = e
no_imports at (suc n) behind e = no_imports (suc at) n behind e

outer_imports : (n : ℕ) → own_imports (outer_body n) ≡ []
outer_imports n = no_imports 0 n _ refl

-- a unit's module, and its file
-- =============================

module _ (b : Below) where
  mutual
    module_imports : (unit : Unit) (m : ResolvedModule) → IsModuleOf unit m → imports_of m.code ≡ unit_imports unit
    module_imports (Single source) m (translated t) = b.imports source m t
    module_imports (Merge units) m (merged {m = first} {ms = others} are) =
        ap (λ (own : List (List ℕ)). own ++ imports_of_all (trees_of (first ∷ others))) (outer_imports (suc (length others))) ∙ part_modules units first others are

    part_modules : (units : Units) (m : ResolvedModule) (ms : List ResolvedModule) → AreModulesOf units m ms
        → imports_of_all (trees_of (m ∷ ms)) ≡ part_imports units
    part_modules (Part unit) m [] (last_unit is) = append-nil (imports_of m.code) ∙ module_imports unit m is
    part_modules (Part unit) m (n ∷ ns) are = elim are [ ]
    part_modules (Parts unit units) m [] are = elim are [ ]
    part_modules (Parts unit units) m (n ∷ ns) (next_unit is are) =
        ap₂ joined (module_imports unit m is) (part_modules units n ns are)

  -- the imports of the file of a unit
  unit_file_imports : (unit : Unit) (m : Module) (names : List (List ℕ)) → IsUnitFile unit m → Imports m names
      → names ≡ unit_imports unit
  unit_file_imports unit m names is i =
      i.names_are ∙ ap (λ (r : ResolvedModule). imports_of r.code) (b.one_tree m i.tree is.tree i.resolves is.resolves)
      ∙ sym (same_imports is.want.code is.tree.code is.fits) ∙ module_imports unit is.want is.is_module

  pub file_imports : (unit : Unit) (bytes : List ℕ) (m : Module) (names : List (List ℕ)) → IsBuilt unit bytes
      → IsFile bytes m → Imports m names → names ≡ unit_imports unit
  file_imports unit bytes m names built is i = unit_file_imports unit m names (b.unit unit bytes m built is) i
