-- The merge of units' files is the file of the merged unit.
use Rattle.std.proofs.Common.{◌≡◌, ℕ, suc, List, [], ◌∷◌, length, refl, sym, ap, subst, ◌∙◌, lit≤}
use Rattle.std.specs.List.{AllZip}
use Rattle.tr_source.specs.bc_scheme.mpy_tree.File.{IsFile}
use Rattle.tr_source.specs.bc_scheme.mpy_tree.Raw.{Module}
use Rattle.tr_source.specs.bc_scheme.mpy_tree.Resolved.{instrs_of, line_numbers, Trees, ResolvedModule, Resolves}
use Rattle.tr_source.specs.bc_scheme.py_meaning.Program.{Unit, Merge, Units, Part, Parts}
use Rattle.tr_source.specs.bc_scheme.Link.{merged, AreModulesOf, last_unit, next_unit}
use Rattle.tr_source.specs.bc_scheme.Merge.{outer_body, trees_of, merge_of}
use Rattle.meant_runs.specs.trans_laws.trans_parts.Comparing.{AllServe, parts, count_of, single, FitsTree, FitTrees}
use Rattle.frozen_files.specs.mpy_merge.AsMerge.{ReadsAsMerge}
use Rattle.meant_runs.specs.Units.{IsUnitFile, AreUnitFiles}

none_left : (trees : List ResolvedModule) → AllZip Resolves [] trees → trees ≡ []
none_left [] zip = refl
none_left (tree ∷ trees) zip = absurd zip

some_file : (units : Units) (files : List Module) → AreUnitFiles units files → (file : Module) × (others : List Module) × (files ≡ file ∷ others)
some_file (Part unit) files h = (h.0, [], h.1)
some_file (Parts unit units) files h = (h.0, h.1, h.2)

some_left : (units : Units) (files : List Module) → AreUnitFiles units files → AllZip Resolves files [] → ⊥
some_left units files h zip = let some = some_file units files h in subst (λ (fs : List Module). AllZip Resolves fs []) some.2 zip

-- ---- trees that fit

counted : (ms : List ResolvedModule) → count_of (trees_of ms) ≡ length ms
counted [] = refl
counted (m ∷ ms) = ap suc (counted ms)

outer_serves : (m n : ℕ) (xs ys : Trees) → m ≡ n → count_of xs ≡ count_of ys → AllServe parts (single (outer_body m) xs) (single (outer_body n) ys)
outer_serves m n xs ys e k =
    (refl, (refl, (refl, (lit≤ tt, (lit≤ tt, (k, (ap (λ (z : ℕ). instrs_of (outer_body z)) e, (ap (λ (z : ℕ). line_numbers (outer_body z)) e, tt))))))))

-- these trees fit the modules of the units, one by one
record FitUnits (units : Units) (tree : ResolvedModule) (trees : List ResolvedModule) : Type 0 where
  want : ResolvedModule
  wants : List ResolvedModule
  are : AreModulesOf units want wants
  stored : want.source ≡ tree.source
  fit : FitTrees (trees_of (want ∷ wants)) (trees_of (tree ∷ trees))
  count : length wants ≡ length trees

-- so their merge fits the merge of these
merge_fits : (units : Units) (tree : ResolvedModule) (trees : List ResolvedModule) (h : FitUnits units tree trees) → FitsTree (merge_of h.want h.wants).code (merge_of tree trees).code
merge_fits units tree trees h =
    let counts = ap suc (counted h.wants ∙ h.count ∙ sym (counted trees)) in
    (outer_serves (suc (length h.wants)) (suc (length trees)) (trees_of (h.want ∷ h.wants)) (trees_of (tree ∷ trees)) (ap suc h.count) counts, h.fit)

module _ (one : (m : Module) (a b : ResolvedModule) → Resolves m a → Resolves m b → a ≡ b) where
  fits_unit : (unit : Unit) (file : Module) (tree : ResolvedModule) (h : IsUnitFile unit file) → Resolves file tree → (h.want.source ≡ tree.source) × FitsTree h.want.code tree.code
  fits_unit unit file tree h r =
      subst (λ (t : ResolvedModule). (h.want.source ≡ t.source) × FitsTree h.want.code t.code) (one file h.tree tree h.resolves r) (h.stored, h.fits)

  fit_units : (units : Units) (files : List Module) (tree : ResolvedModule) (trees : List ResolvedModule) → AreUnitFiles units files → AllZip Resolves files (tree ∷ trees) → FitUnits units tree trees
  fit_units (Part unit) files tree trees h zip =
      let zipped : AllZip Resolves (h.0 ∷ []) (tree ∷ trees) = subst (λ (fs : List Module). AllZip Resolves fs (tree ∷ trees)) h.1 zip in
      let first = fits_unit unit h.0 tree h.2 zipped.0 in
      subst (FitUnits (Part unit) tree) (sym (none_left trees zipped.1))
      (record { want = h.2.want; wants = []; are = last_unit h.2.is_module; stored = first.0; fit = (first.1, tt); count = refl })
  fit_units (Parts unit units) files tree [] h zip =
      let zipped : AllZip Resolves (h.0 ∷ h.1) (tree ∷ []) = subst (λ (fs : List Module). AllZip Resolves fs (tree ∷ [])) h.2 zip in
      absurd (some_left units h.1 h.4 zipped.1)
  fit_units (Parts unit units) files tree (next ∷ trees) h zip =
      let zipped : AllZip Resolves (h.0 ∷ h.1) (tree ∷ (next ∷ trees)) = subst (λ (fs : List Module). AllZip Resolves fs (tree ∷ (next ∷ trees))) h.2 zip in
      let first = fits_unit unit h.0 tree h.3 zipped.0 in
      let others = fit_units units h.1 next trees h.4 zipped.1 in
      record {
        want = h.3.want;
        wants = others.want ∷ others.wants;
        are = next_unit h.3.is_module others.are;
        stored = first.0;
        fit = (first.1, others.fit);
        count = ap suc others.count;
      }

  pub unit_file : (one_file : (bytes : List ℕ) (m n : Module) → IsFile bytes m → IsFile bytes n → m ≡ n) (units : Units) (files : List Module) (bytes : List ℕ) (m : Module)
      → AreUnitFiles units files → ReadsAsMerge files bytes → IsFile bytes m → IsUnitFile (Merge units) m
  unit_file one_file units files bytes m h r is =
      let fit = fit_units units files r.tree r.trees h r.are_trees in
      record {
        tree = merge_of r.tree r.trees;
        resolves = subst (λ (held : Module). Resolves held (merge_of r.tree r.trees)) (one_file bytes r.reads.0 m r.reads.1 is) r.reads.2;
        want = merge_of fit.want fit.wants;
        is_module = merged fit.are;
        stored = fit.stored;
        fits = merge_fits units r.tree r.trees fit;
      }
