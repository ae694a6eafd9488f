-- The command that merges files.
use Rattle.std.proofs.Common.{◌≡◌, ◌⊎◌, inl, inr, ℕ, zero, suc, ◌<◌, List, [], ◌∷◌, length, take, get_or, Option, Some, refl, sym, ap, subst, ◌∙◌, arith}
use Rattle.std.specs.List.{AllZip}
use Rattle.mpy_io.specs.Files.{FileOf}
use Rattle.mpy_tree.specs.Raw.{Module}
use Rattle.mpy_merge.specs.declared.fault.MergeFault.{MergeFault}
use Rattle.mpy_merge.specs.Faults.{FirstFault}
use Rattle.mpy_merge.specs.Merged.{IsMerged}
use Rattle.mpy_merge.proofs.Once.{one_beside}
use Rattle.mpy_endings.specs.declared.ending.Ending.{Ending}
use Rattle.mpy_endings.specs.declared.ending.Ending.TheVariants.{Done, Unaccepted, Unread, Unverified, Unmerged, Unopened, Unfrozen, Unboarded, Different, Stopped, ReadFault, WriteFault, Unwritten, NoMemory, Absent}
use Rattle.mpy_endings.specs.Ending.{IsSettled}
use Rattle.command_files.specs.Opened.{HoldsModule, Refuses}
use Rattle.meant_commands.specs.file_commands.Merge.{HoldMerged, HoldModules, HoldUnmerged, IsFirstRefused, Merges}
use Rattle.tool_laws.specs.Laws.{FileLaws}
use Rattle.tool_laws.specs.Once.{EndOnce, IsDone}
use Rattle.tool_laws.proofs.Opened.{never_refused, one_held, one_refused, refused_of}

-- places of lists
-- ===============

zip_at : (R : List ℕ → Module → Type 0) (xs : List (List ℕ)) (ys : List Module) (n : ℕ) → n < length xs → AllZip R xs ys → (y : Module) × R (get_or xs n []) y
zip_at R [] ys n h z = absurd (omega (arith, h))
zip_at R (x ∷ xs) [] n h z = absurd z
zip_at R (x ∷ xs) (y ∷ ys) zero h z = (y, z.0)
zip_at R (x ∷ xs) (y ∷ ys) (suc n) h z = zip_at R xs ys n (omega (arith, h)) z.1

take_at : (xs : List (List ℕ)) (n k : ℕ) → k < n → get_or (take n xs) k [] ≡ get_or xs k []
take_at xs zero k h = absurd (omega (arith, h))
take_at [] (suc n) k h = refl
take_at (x ∷ xs) (suc n) zero h = refl
take_at (x ∷ xs) (suc n) (suc k) h = take_at xs n k (omega (arith, h))

take_long : (xs : List (List ℕ)) (n k : ℕ) → k < n → n < length xs → k < length (take n xs)
take_long xs zero k h g = absurd (omega (arith, h))
take_long [] (suc n) k h g = absurd (omega (arith, g))
take_long (x ∷ xs) (suc n) zero h g = omega arith
take_long (x ∷ xs) (suc n) (suc k) h g = let below = take_long xs n k (omega (arith, h)) (omega (arith, g)) in omega (arith, below)

-- the files
-- =========

module _ (laws : FileLaws) (files : FileOf) (names : List (List ℕ)) where
  one_hold : (ms ns : List Module) → HoldModules (Some files) names ms → HoldModules (Some files) names ns → ms ≡ ns
  one_hold ms ns h k = one_beside (HoldsModule (Some files)) (λ name m n. one_held laws files name m n) names ms ns h k

  -- a refused file isn't one of a module
  never_first : (ms : List Module) (place : ℕ) (ending : Ending) → IsSettled ending → HoldModules (Some files) names ms → IsFirstRefused (Some files) names place ending → ⊥
  never_first ms place ending s h r =
      let held = zip_at (HoldsModule (Some files)) names ms r.at r.within h in
      never_refused laws files (get_or names r.at []) held.0 ending held.1 (refused_of files (get_or names r.at []) ending s r.refused)

  -- no file in front of the first that is refused is
  none_earlier : (place another : ℕ) (one other : Ending) → IsSettled one → (r : IsFirstRefused (Some files) names place one) (q : IsFirstRefused (Some files) names another other) → r.at < q.at → ⊥
  none_earlier place another one other s r q earlier =
      let held = zip_at (HoldsModule (Some files)) (take q.at names) q.modules r.at (take_long names q.at r.at earlier q.within) q.before in
      let here = subst (λ (name : List ℕ). HoldsModule (Some files) name held.0) (take_at names q.at r.at earlier) held.1 in
      never_refused laws files (get_or names r.at []) held.0 one here (refused_of files (get_or names r.at []) one s r.refused)

  one_first : (place another : ℕ) (one other : Ending) → IsSettled one → IsSettled other → IsFirstRefused (Some files) names place one → IsFirstRefused (Some files) names another other → one ≡ other
  one_first place another one other s t r q = by split where
    split : (r.at < q.at) ⊎ ((r.at ≡ q.at) ⊎ (q.at < r.at))
    split = grind arith

    by : (r.at < q.at) ⊎ ((r.at ≡ q.at) ⊎ (q.at < r.at)) → one ≡ other
    by (inl earlier) = absurd (none_earlier place another one other s r q earlier)
    by (inr (inl same)) =
        let name = get_or names q.at [] in
        let refused = subst (λ (n : ℕ). Refuses (Some files) (get_or names n []) one) same r.refused in
        one_refused laws files name one other (refused_of files name one s refused) (refused_of files name other t q.refused)
    by (inr (inr later)) = absurd (none_earlier another place other one t q r later)

  -- it is done, the modules have a fault, or a file is refused
  abbrev MergedSo : (place : ℕ) → Ending → Type 0
  MergedSo place ending =
      ((ending ≡ Done) × (bytes : List ℕ) × HoldMerged (Some files) names bytes)
      ⊎ (((fault : MergeFault) × (ending ≡ Unmerged fault) × HoldUnmerged (Some files) names fault) ⊎ IsFirstRefused (Some files) names place ending)

  merged_so : (written : List ℕ) (after : Option FileOf) (place : ℕ) (ending : Ending) → IsSettled ending → Merges names written (Some files) after place ending → MergedSo place ending
  merged_so written after place Done s p = inl (refl, p.0, p.1)
  merged_so written after place (Unaccepted fault) s p = absurd p
  merged_so written after place (Unread fault) s p = inr (inr p.0)
  merged_so written after place (Unverified fault) s p = inr (inr p.0)
  merged_so written after place (Unmerged fault) s p = inr (inl (fault, refl, p.0))
  merged_so written after place (Unopened fault) s p = absurd p
  merged_so written after place (Unfrozen fault) s p = absurd p
  merged_so written after place (Unboarded fault) s p = absurd p
  merged_so written after place (Different difference) s p = absurd p
  merged_so written after place (Stopped stop) s p = absurd p
  merged_so written after place ReadFault s p = absurd s
  merged_so written after place WriteFault s p = absurd s
  merged_so written after place Unwritten s p = absurd s
  merged_so written after place NoMemory s p = absurd s
  merged_so written after place Absent s p = inr (inr p.0)

  module _ (one_fault : (modules : List Module) (f g : MergeFault) → FirstFault modules f → FirstFault modules g → f ≡ g) where
    both_merged : (place another : ℕ) (one other : Ending) → IsSettled one → IsSettled other → MergedSo place one → MergedSo another other → one ≡ other
    both_merged place another one other s t (inl x) (inl y) = x.0 ∙ sym y.0
    both_merged place another one other s t (inl x) (inr (inl y)) =
        absurd (x.2.unmerged y.0 (subst (λ (ms : List Module). FirstFault ms y.0) (one_hold y.2.modules x.2.modules y.2.hold x.2.hold) y.2.first))
    both_merged place another one other s t (inl x) (inr (inr y)) = absurd (never_first x.2.modules another other t x.2.hold y)
    both_merged place another one other s t (inr (inl x)) (inl y) =
        absurd (y.2.unmerged x.0 (subst (λ (ms : List Module). FirstFault ms x.0) (one_hold x.2.modules y.2.modules x.2.hold y.2.hold) x.2.first))
    both_merged place another one other s t (inr (inl x)) (inr (inl y)) =
        let first = subst (λ (ms : List Module). FirstFault ms x.0) (one_hold x.2.modules y.2.modules x.2.hold y.2.hold) x.2.first in
        x.1 ∙ (ap Unmerged (one_fault y.2.modules x.0 y.0 first y.2.first) ∙ sym y.1)
    both_merged place another one other s t (inr (inl x)) (inr (inr y)) = absurd (never_first x.2.modules another other t x.2.hold y)
    both_merged place another one other s t (inr (inr x)) (inl y) = absurd (never_first y.2.modules place one s y.2.hold x)
    both_merged place another one other s t (inr (inr x)) (inr (inl y)) = absurd (never_first y.2.modules place one s y.2.hold x)
    both_merged place another one other s t (inr (inr x)) (inr (inr y)) = one_first place another one other s t x y

    pub one_merge : (written : List ℕ) (a b : Option FileOf) (place another : ℕ) → EndOnce (Merges names written (Some files) a place) (Merges names written (Some files) b another)
    one_merge written a b place another = λ one other s t p q.
        both_merged place another one other s t (merged_so written a place one s p) (merged_so written b another other t q)

  pub one_merged : ((modules : List Module) (one other : List ℕ) → IsMerged modules one → IsMerged modules other → one ≡ other) → (one other : List ℕ)
      → HoldMerged (Some files) names one → HoldMerged (Some files) names other → one ≡ other
  one_merged law one other h k = law k.modules one other (subst (λ (ms : List Module). IsMerged ms one) (one_hold h.modules k.modules h.hold k.hold) h.merged) k.merged

  pub merge_done : (written : List ℕ) (modules : List Module) (after : Option FileOf) (place : ℕ) → HoldModules (Some files) names modules
      → ((fault : MergeFault) → FirstFault modules fault → ⊥) → IsDone (Merges names written (Some files) after place)
  merge_done written modules after place hold none = λ ending s p. by ending s (merged_so written after place ending s p) where
    by : (ending : Ending) → IsSettled ending → MergedSo place ending → ending ≡ Done
    by ending s (inl d) = d.0
    by ending s (inr (inl f)) = absurd (none f.0 (subst (λ (ms : List Module). FirstFault ms f.0) (one_hold f.2.modules modules f.2.hold hold) f.2.first))
    by ending s (inr (inr r)) = absurd (never_first modules place ending s hold r)
