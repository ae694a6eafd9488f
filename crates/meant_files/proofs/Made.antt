-- Files that are made of units.
use Rattle.std.proofs.Common.{◌≡◌, ℕ, List, [], ◌∷◌, refl, subst}
use Rattle.std.specs.List.{AllZip, AllByRecursion}
use Rattle.tr_source.specs.bc_scheme.mpy_tree.File.{IsModule, IsFile}
use Rattle.tr_source.specs.bc_scheme.mpy_tree.Raw.{Module}
use Rattle.tr_source.specs.bc_scheme.mpy_tree.Resolved.{ResolvedModule, Resolves}
use Rattle.bc_resolved.specs.bc_verify.Verified.{IsVerified}
use Rattle.bc_resolved.specs.Known.{HasTexts}
use Rattle.bc_resolved.specs.Verified.{IsVerifiedTree, AllVerifiedTrees}
use Rattle.tr_source.specs.bc_scheme.Merge.{merge_of}
use Rattle.tr_source.specs.bc_scheme.py_meaning.Program.{Source, Unit, Single, Merge, Units, Part, Parts}
use Rattle.frozen_files.specs.mpy_compile.Compiled.{CompilesTo}
use Rattle.frozen_files.specs.mpy_compile.Checked.{IsTranslation}
use Rattle.frozen_files.specs.mpy_merge.AsMerge.{ReadsAsMerge}
use Rattle.meant_runs.specs.Units.{IsUnitFile, AreUnitFiles}
use Rattle.meant_files.specs.Readings.{IsReading}
use Rattle.meant_files.specs.Built.{IsBuilt, crossed, checked, merged, AreBuilt, last, next}

-- what the crates below say of files and trees
pub record Laws : Type 0 where
  pub one_module : (bytes : List ℕ) (m n : Module) → IsFile bytes m → IsFile bytes n → m ≡ n
  pub texts : (m : Module) → IsModule m → HasTexts m
  pub tree_verified : (m : Module) (tree : ResolvedModule) → HasTexts m → Resolves m tree → IsVerified m → IsVerifiedTree tree
  pub module_verified : (m : Module) (tree : ResolvedModule) → Resolves m tree → IsVerifiedTree tree → IsVerified m
  pub merge_verified : (m : ResolvedModule) (ms : List ResolvedModule) → AllVerifiedTrees (m ∷ ms) → IsVerifiedTree (merge_of m ms)
  pub crossed_file : (level : ℕ) (text stored bytes : List ℕ) → CompilesTo level text stored bytes → (m : Module) × IsFile bytes m
  pub crossed_verified : (level : ℕ) (text stored bytes : List ℕ) (m : Module) → CompilesTo level text stored bytes → IsFile bytes m → IsVerified m
  pub crossed_unit : (level : ℕ) (text stored bytes : List ℕ) (source : Source) (m : Module) → CompilesTo level text stored bytes → IsReading level text stored source → IsFile bytes m → IsUnitFile (Single source) m
  pub checked_file : (level : ℕ) (text bytes : List ℕ) → IsTranslation level text bytes → (m : Module) × IsFile bytes m
  pub checked_verified : (level : ℕ) (text bytes : List ℕ) (m : Module) → IsTranslation level text bytes → IsFile bytes m → IsVerified m
  pub checked_unit : (level : ℕ) (text bytes : List ℕ) (t : IsTranslation level text bytes) (source : Source) (m : Module) → IsReading level text t.have.source source → IsFile bytes m → IsUnitFile (Single source) m
  pub merged_unit : (units : Units) (files : List Module) (bytes : List ℕ) (m : Module) → AreUnitFiles units files → ReadsAsMerge files bytes → IsFile bytes m → IsUnitFile (Merge units) m

module _ (laws : Laws) where
  pub is_file : (unit : Unit) (bytes : List ℕ) → IsBuilt unit bytes → (m : Module) × IsFile bytes m
  is_file (Single source) bytes (crossed level text stored _ _ compiles reading) = laws.crossed_file level text stored bytes compiles
  is_file (Single source) bytes (checked level text _ _ t reading) = laws.checked_file level text bytes t
  is_file (Merge units) bytes (merged _ modules _ built reads) = (reads.reads.0, reads.reads.1)

  -- what a file holds is a module
  is_module : (bytes : List ℕ) (m : Module) → IsFile bytes m → IsModule m
  is_module bytes m is = (bytes, is.spelling)

  all_trees : (modules : List Module) (trees : List ResolvedModule) → AllByRecursion (λ m. IsModule m × IsVerified m) modules → AllZip Resolves modules trees → AllVerifiedTrees trees
  all_trees [] [] all zip = tt
  all_trees [] (tree ∷ trees) all zip = absurd zip
  all_trees (m ∷ modules) [] all zip = absurd zip
  all_trees (m ∷ modules) (tree ∷ trees) all zip = (laws.tree_verified m tree (laws.texts m all.0.0) zip.0 all.0.1, all_trees modules trees all.1 zip.1)

  mutual
    pub is_verified : (unit : Unit) (bytes : List ℕ) (m : Module) → IsBuilt unit bytes → IsFile bytes m → IsVerified m
    is_verified (Single source) bytes m (crossed level text stored _ _ compiles reading) is = laws.crossed_verified level text stored bytes m compiles is
    is_verified (Single source) bytes m (checked level text _ _ t reading) is = laws.checked_verified level text bytes m t is
    is_verified (Merge units) bytes m (merged _ modules _ built reads) is =
        let resolves = subst (λ (held : Module). Resolves held (merge_of reads.tree reads.trees)) (laws.one_module bytes reads.reads.0 m reads.reads.1 is) reads.reads.2 in
        laws.module_verified m (merge_of reads.tree reads.trees) resolves
        (laws.merge_verified reads.tree reads.trees (all_trees modules (reads.tree ∷ reads.trees) (are_verified units modules built) reads.are_trees))

    are_verified : (units : Units) (modules : List Module) → AreBuilt units modules → AllByRecursion (λ m. IsModule m × IsVerified m) modules
    are_verified (Part unit) [] built = elim built [ ]
    are_verified (Part unit) (m ∷ (other ∷ others)) built = elim built [ ]
    are_verified (Parts unit units) [] built = elim built [ ]
    are_verified (Part unit) (m ∷ []) (last _ bytes _ built is) = ((is_module bytes m is, is_verified unit bytes m built is), tt)
    are_verified (Parts unit units) (m ∷ modules) (next _ _ bytes _ _ built is more) = ((is_module bytes m is, is_verified unit bytes m built is), are_verified units modules more)

  mutual
    pub is_unit : (unit : Unit) (bytes : List ℕ) (m : Module) → IsBuilt unit bytes → IsFile bytes m → IsUnitFile unit m
    is_unit (Single source) bytes m (crossed level text stored _ _ compiles reading) is = laws.crossed_unit level text stored bytes source m compiles reading is
    is_unit (Single source) bytes m (checked level text _ _ t reading) is = laws.checked_unit level text bytes t source m reading is
    is_unit (Merge units) bytes m (merged _ modules _ built reads) is = laws.merged_unit units modules bytes m (are_units units modules built) reads is

    are_units : (units : Units) (modules : List Module) → AreBuilt units modules → AreUnitFiles units modules
    are_units (Part unit) [] built = elim built [ ]
    are_units (Part unit) (m ∷ (other ∷ others)) built = elim built [ ]
    are_units (Parts unit units) [] built = elim built [ ]
    are_units (Part unit) (m ∷ []) (last _ bytes _ built is) = (m, refl, is_unit unit bytes m built is)
    are_units (Parts unit units) (m ∷ modules) (next _ _ bytes _ _ built is more) = (m, modules, refl, is_unit unit bytes m built is, are_units units modules more)
