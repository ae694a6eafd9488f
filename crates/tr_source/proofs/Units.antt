-- The modules of units of accepted sources.
use Rattle.std.proofs.Common.{◌≡◌, ℕ, List, ◌∷◌, refl, ap, ◌∙◌, subst}
use Rattle.emit_measures.specs.bc_scheme.mpy_tree.Resolved.{ResolvedModule}
use Rattle.py_meaning.specs.py_tree.declared.stmt.Module.{Module}
use Rattle.emit_measures.specs.bc_scheme.py_meaning.Tree.{Name}
use Rattle.emit_measures.specs.bc_scheme.py_meaning.Program.{Source, Unit, Single, Merge, Units, Part, Parts}
use Rattle.emit_measures.specs.bc_scheme.Translation.{Translates}
use Rattle.emit_measures.specs.bc_scheme.Merge.{merge_of}
use Rattle.emit_measures.specs.bc_scheme.Link.{IsModuleOf, translated, merged, AreModulesOf, last_unit, next_unit}
use Rattle.bc_resolved.specs.Verified.{IsVerifiedTree, AllVerifiedTrees}
use Rattle.tr_source.specs.Accepted.{source_of, IsAccepted}
use Rattle.tr_source.specs.Units.{IsAcceptedSource, IsAcceptedUnit, AreAcceptedUnits}

-- of the source of its tree
on_tree : (source : Source) (a : IsAcceptedSource source) (m : ResolvedModule) → Translates source m → Translates (source_of source.file source.level a.tree) m
on_tree source a m t = subst (λ s. Translates s m) a.source_is t

module _ (of_source : (file : Name) (level : ℕ) (tree : Module) (m : ResolvedModule) → IsAccepted level tree → Translates (source_of file level tree) m → IsVerifiedTree m)
    (of_merge : (m : ResolvedModule) (ms : List ResolvedModule) → AllVerifiedTrees (m ∷ ms) → IsVerifiedTree (merge_of m ms)) where
  mutual
    pub unit_verified : (unit : Unit) (m : ResolvedModule) → IsAcceptedUnit unit → IsModuleOf unit m → IsVerifiedTree m
    unit_verified (Single source) m a (translated t) = of_source source.file source.level a.tree m a.accepted (on_tree source a m t)
    unit_verified (Merge units) m a (merged {m = first} {ms = others} h) = of_merge first others (units_verified units first others a h)

    units_verified : (units : Units) (m : ResolvedModule) (ms : List ResolvedModule) → AreAcceptedUnits units → AreModulesOf units m ms → AllVerifiedTrees (m ∷ ms)
    units_verified (Part unit) m ms a (last_unit h) = (unit_verified unit m a h, tt)
    units_verified (Parts unit units) m ms a (next_unit {n = n} {ns = ns} h k) = (unit_verified unit m a.0 h, units_verified units n ns a.1 k)

module _ (of_source : (file : Name) (level : ℕ) (tree : Module) (m n : ResolvedModule) → IsAccepted level tree → Translates (source_of file level tree) m → Translates (source_of file level tree) n → m ≡ n) where
  mutual
    pub unit_once : (unit : Unit) (m n : ResolvedModule) → IsAcceptedUnit unit → IsModuleOf unit m → IsModuleOf unit n → m ≡ n
    unit_once (Single source) m n a (translated t) (translated u) = of_source source.file source.level a.tree m n a.accepted (on_tree source a m t) (on_tree source a n u)
    unit_once (Merge units) m n a (merged {m = m1} {ms = ms} h) (merged {m = n1} {ms = ns} k) =
        let same = units_once units m1 n1 ms ns a h k in ap (λ z. merge_of z ms) same.0 ∙ ap (merge_of n1) same.1

    units_once : (units : Units) (m n : ResolvedModule) (ms ns : List ResolvedModule) → AreAcceptedUnits units → AreModulesOf units m ms → AreModulesOf units n ns → (m ≡ n) × (ms ≡ ns)
    units_once (Part unit) m n ms ns a (last_unit h) (last_unit k) = (unit_once unit m n a h k, refl)
    units_once (Parts unit units) m n ms ns a (next_unit {n = m1} {ns = ms1} h hs) (next_unit {n = n1} {ns = ns1} k ks) =
        let same = units_once units m1 n1 ms1 ns1 a.1 hs ks in
        (unit_once unit m n a.0 h k, ap (λ z. z ∷ ms1) same.0 ∙ ap (λ z. n1 ∷ z) same.1)
