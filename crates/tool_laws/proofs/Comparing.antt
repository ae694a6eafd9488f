-- A tree of codes fits another one, or differs first in one place.
use Rattle.std.proofs.Common.{◌≡◌, ◌⊎◌, inl, inr, ℕ, zero, suc, ◌<◌, List, [], ◌∷◌, take, slice_get, refl, sym, ap, ◌∙◌, arith}
use Rattle.mpy_tree.specs.Resolved.{Resolved, instrs_of, line_numbers, Tree, node, Trees, no_more, more}
use Rattle.trans_parts.specs.declared.part.What.{What}
use Rattle.trans_parts.specs.declared.part.What.TheVariants as whats
use Rattle.trans_parts.specs.Comparing.{DifferAt, Single, Serves, Differs, parts, AllServe, FirstPart, single, FitsTree, FitTrees, FirstIn, FirstAmong}

-- lists
-- =====

taken_at : {A : Type 0} (xs : List A) (n k : ℕ) → k < n → slice_get (take n xs) k ≡ slice_get xs k
taken_at xs zero k h = absurd (omega (arith, h))
taken_at [] (suc n) k h = refl
taken_at (x ∷ xs) (suc n) zero h = refl
taken_at (x ∷ xs) (suc n) (suc k) h = taken_at xs n k (omega (arith, h))

not_before : {A : Type 0} (xs ys : List A) (a b : ℕ) → a < b → DifferAt xs ys a → DifferAt xs ys b → ⊥
not_before {A} xs ys a b h p q = p.1 (sym (taken_at xs b a h) ∙ (ap (λ (zs : List A). slice_get zs a) q.0 ∙ taken_at ys b a h))

one_place : {A : Type 0} (xs ys : List A) (a b : ℕ) → DifferAt xs ys a → DifferAt xs ys b → a ≡ b
one_place xs ys a b p q = by split where
  split : (a < b) ⊎ ((a ≡ b) ⊎ (b < a))
  split = grind arith

  by : (a < b) ⊎ ((a ≡ b) ⊎ (b < a)) → a ≡ b
  by (inl less) = absurd (not_before xs ys a b less p q)
  by (inr (inl same)) = same
  by (inr (inr more_than)) = absurd (not_before xs ys b a more_than q p)

-- parts of a code
-- ===============

serves_at : (part : What) (want have : Single) (at : ℕ) → Serves part want have → Differs part want have at → ⊥
serves_at whats.Name want have at s d = d.0 s
serves_at whats.Args want have at s d = d.1 (ap (λ (xs : List (List ℕ)). slice_get xs at) s)
serves_at whats.Defaults want have at s d = d.0 s
serves_at whats.State want have at s d = omega (arith, s, d.0)
serves_at whats.Handlers want have at s d = omega (arith, s, d.0)
serves_at whats.Children want have at s d = d.0 s
serves_at whats.Instr want have at s d = d.1 (ap (λ (xs : List Resolved). slice_get xs at) s)
serves_at whats.Line want have at s d = d.1 (ap (λ (xs : List ℕ). slice_get xs at) s)

one_at : (part : What) (want have : Single) (a b : ℕ) → Differs part want have a → Differs part want have b → a ≡ b
one_at whats.Name want have a b p q = p.1 ∙ sym q.1
one_at whats.Args want have a b p q = one_place want.body.args have.body.args a b p q
one_at whats.Defaults want have a b p q = p.1 ∙ sym q.1
one_at whats.State want have a b p q = p.1 ∙ sym q.1
one_at whats.Handlers want have a b p q = p.1 ∙ sym q.1
one_at whats.Children want have a b p q = p.1 ∙ sym q.1
one_at whats.Instr want have a b p q = one_place (instrs_of want.body) (instrs_of have.body) a b p q
one_at whats.Line want have a b p q = one_place (line_numbers want.body) (line_numbers have.body) a b p q

none_first : (ps : List What) (want have : Single) (w : What) (a : ℕ) → AllServe ps want have → FirstPart ps want have w a → ⊥
none_first [] want have w a s p = absurd p
none_first (part ∷ ps) want have w a s (inl p) = serves_at part want have a s.0 p.1
none_first (part ∷ ps) want have w a s (inr p) = none_first ps want have w a s.1 p.1

one_part : (ps : List What) (want have : Single) (w v : What) (a b : ℕ) → FirstPart ps want have w a → FirstPart ps want have v b → (w ≡ v) × (a ≡ b)
one_part [] want have w v a b p q = absurd p
one_part (part ∷ ps) want have w v a b (inl p) (inl q) = (p.0 ∙ sym q.0, one_at part want have a b p.1 q.1)
one_part (part ∷ ps) want have w v a b (inl p) (inr q) = absurd (serves_at part want have a q.0 p.1)
one_part (part ∷ ps) want have w v a b (inr p) (inl q) = absurd (serves_at part want have b p.0 q.1)
one_part (part ∷ ps) want have w v a b (inr p) (inr q) = one_part ps want have w v a b p.1 q.1

-- trees
-- =====

mutual
  pub fits_not : (want have : Tree) (path : List ℕ) (w : What) (a : ℕ) → FitsTree want have → FirstIn want have path w a → ⊥
  fits_not (node want wants) (node have haves) path w a f (inl p) = none_first parts (single want wants) (single have haves) w a f.0 p.1
  fits_not (node want wants) (node have haves) path w a f (inr p) = fit_none 0 wants haves path w a f.1 p.1

  fit_none : (place : ℕ) (wants haves : Trees) (path : List ℕ) (w : What) (a : ℕ) → FitTrees wants haves → FirstAmong place wants haves path w a → ⊥
  fit_none place no_more haves path w a f p = absurd p
  fit_none place (more want wants) no_more path w a f p = absurd p
  fit_none place (more want wants) (more have haves) path w a f (inl p) = fits_not want have p.0 w a f.0 p.2
  fit_none place (more want wants) (more have haves) path w a f (inr p) = fit_none (suc place) wants haves path w a f.1 p.1

mutual
  pub one_first : (want have : Tree) (p q : List ℕ) (w v : What) (a b : ℕ) → FirstIn want have p w a → FirstIn want have q v b → (p ≡ q) × (w ≡ v) × (a ≡ b)
  one_first (node want wants) (node have haves) p q w v a b (inl x) (inl y) =
      let one = one_part parts (single want wants) (single have haves) w v a b x.1 y.1 in
      (x.0 ∙ sym y.0, one.0, one.1)
  one_first (node want wants) (node have haves) p q w v a b (inl x) (inr y) = absurd (none_first parts (single want wants) (single have haves) w a y.0 x.1)
  one_first (node want wants) (node have haves) p q w v a b (inr x) (inl y) = absurd (none_first parts (single want wants) (single have haves) v b x.0 y.1)
  one_first (node want wants) (node have haves) p q w v a b (inr x) (inr y) = one_among 0 wants haves p q w v a b x.1 y.1

  one_among : (place : ℕ) (wants haves : Trees) (p q : List ℕ) (w v : What) (a b : ℕ) → FirstAmong place wants haves p w a → FirstAmong place wants haves q v b
      → (p ≡ q) × (w ≡ v) × (a ≡ b)
  one_among place no_more haves p q w v a b x y = absurd x
  one_among place (more want wants) no_more p q w v a b x y = absurd x
  one_among place (more want wants) (more have haves) p q w v a b (inl x) (inl y) =
      let one = one_first want have x.0 y.0 w v a b x.2 y.2 in
      (x.1 ∙ (ap (λ (inner : List ℕ). place ∷ inner) one.0 ∙ sym y.1), one.1, one.2)
  one_among place (more want wants) (more have haves) p q w v a b (inl x) (inr y) = absurd (fits_not want have x.0 w a y.0 x.2)
  one_among place (more want wants) (more have haves) p q w v a b (inr x) (inl y) = absurd (fits_not want have y.0 v b x.0 y.2)
  one_among place (more want wants) (more have haves) p q w v a b (inr x) (inr y) = one_among (suc place) wants haves p q w v a b x.1 y.1
