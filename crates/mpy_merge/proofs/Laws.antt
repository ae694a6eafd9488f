-- What the merged file is read as, and that it is verified.
use Rattle.std.proofs.Common.{ℕ, List, [], ◌∷◌, All, arith}
use Rattle.std.specs.List.{AllZip, AllByRecursion}
use Rattle.std.proofs.lemmas.List.Elements.{recursion_from_All}
use Rattle.mpy_writer.specs.mpy_tree.Canonical.{Canonical}
use Rattle.mpy_writer.specs.mpy_tree.File.{IsModule, IsFile}
use Rattle.mpy_writer.specs.mpy_tree.Raw.{Module}
use Rattle.mpy_writer.specs.mpy_tree.Resolved.{ResolvedModule, Resolves}
use Rattle.bc_verify.specs.Verified.{IsVerified}
use Rattle.tr_source.specs.bc_resolved.Known.{HasTexts}
use Rattle.tr_source.specs.bc_resolved.Verified.{IsVerifiedTree, AllVerifiedTrees}
use Rattle.bc_scheme.specs.Merge.{merge_of}
use Rattle.mpy_merge.specs.Ends.{IsMergedFile}
use Rattle.mpy_merge.specs.Merged.{IsMerged}
use Rattle.mpy_merge.specs.AsMerge.{ReadsAsMerge}
use Rattle.mpy_merge.proofs.Held.{LinesLaw}
use Rattle.mpy_merge.proofs.Right.{Right, right}

-- what the crates below say of modules and trees
pub record Laws : Type 0 where
  pub lines : LinesLaw
  pub texts : (m : Module) → IsModule m → HasTexts m
  pub some_tree : (m : Module) → IsModule m → (tree : ResolvedModule) × Resolves m tree
  pub tree_verified : (m : Module) (tree : ResolvedModule) → HasTexts m → Resolves m tree → IsVerified m → IsVerifiedTree tree
  pub module_verified : (m : Module) (tree : ResolvedModule) → Resolves m tree → IsVerifiedTree tree → IsVerified m
  pub merge_verified : (m : ResolvedModule) (ms : List ResolvedModule) → AllVerifiedTrees (m ∷ ms) → IsVerifiedTree (merge_of m ms)

pub record Whole (modules : List Module) (bytes : List ℕ) : Type 0 where
  pub merged : IsMerged modules bytes
  pub canonical : Canonical bytes
  pub reads : ReadsAsMerge modules bytes
  pub verified : (m : Module) × IsFile bytes m × IsVerified m

module _ (laws : Laws) where
  trees : (ms : List Module) → AllByRecursion IsModule ms → (ts : List ResolvedModule) × AllZip Resolves ms ts
  trees [] h = ([], tt)
  trees (m ∷ ms) h =
      let first = laws.some_tree m h.0 in
      let others = trees ms h.1 in
      (first.0 ∷ others.0, (first.1, others.1))

  all_verified : (ms : List Module) (ts : List ResolvedModule) → AllByRecursion IsModule ms → AllByRecursion IsVerified ms → AllZip Resolves ms ts → AllVerifiedTrees ts
  all_verified [] [] h v zip = tt
  all_verified [] (t ∷ ts) h v zip = absurd zip
  all_verified (m ∷ ms) [] h v zip = absurd zip
  all_verified (m ∷ ms) (t ∷ ts) h v zip = (laws.tree_verified m t (laws.texts m h.0) zip.0 v.0, all_verified ms ts h.1 v.1 zip.1)

  by_trees : (modules : List Module) (bytes : List ℕ) → IsMerged modules bytes → Right modules bytes → (tree : ResolvedModule) (others : List ResolvedModule) → AllZip Resolves modules (tree ∷ others) → AllVerifiedTrees (tree ∷ others) → Whole modules bytes
  by_trees modules bytes merged r tree others zip all =
      let resolves = r.resolves tree others zip in
      record {
        merged = merged;
        canonical = r.canonical;
        reads = record { tree = tree; trees = others; are_trees = zip; reads = (r.m, r.is_file, resolves) };
        verified = (r.m, r.is_file, laws.module_verified r.m (merge_of tree others) resolves (laws.merge_verified tree others all));
      }

  pub whole : (modules : List Module) (bytes : List ℕ) → IsMergedFile modules bytes → All IsModule modules → All IsVerified modules → Whole modules bytes
  whole [] bytes file read verified = let some = file.some in absurd (omega (arith, some))
  whole (m ∷ ms) bytes file read verified =
      let modules = recursion_from_All IsModule (m ∷ ms) read in
      let kept = recursion_from_All IsVerified (m ∷ ms) verified in
      let first = laws.some_tree m modules.0 in
      let others = trees ms modules.1 in
      let zip : AllZip Resolves (m ∷ ms) (first.0 ∷ others.0) = (first.1, others.1) in
      by_trees (m ∷ ms) bytes file.merged (right laws.lines (m ∷ ms) bytes file read verified) first.0 others.0 zip (all_verified (m ∷ ms) (first.0 ∷ others.0) modules kept zip)
