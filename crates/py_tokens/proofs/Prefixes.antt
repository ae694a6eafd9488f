-- A text is one prefix at most.
use Rattle.std.proofs.Common.{◌≡◌, ◌⊎◌, ℕ, ◌+◌, ◌≤◌, false, true, eqb, List, [], ◌∷◌, length, get_or, codes, inl, inr, refl, sym, ap, ◌∙◌, arith}
use Rattle.py_tokens.specs.declared.prefix.Prefix.{Prefix}
use Rattle.py_tokens.specs.declared.prefix.Prefix.TheVariants as prefixes
use Rattle.py_tokens.specs.Prefix.{IsInAnyCase, IsPrefix}

abbrev AreSmall : List ℕ → Type 0
AreSmall [] = Unit {0}
AreSmall (letter ∷ letters) = ((97 ≤ letter) × (letter ≤ 122)) × AreSmall letters

same_letter : (l m byte : ℕ) → (97 ≤ l) × (l ≤ 122) → (97 ≤ m) × (m ≤ 122) → (byte ≡ l) ⊎ (byte + 32 ≡ l) → (byte ≡ m) ⊎ (byte + 32 ≡ m) → l ≡ m
same_letter l m byte x y (inl a) (inl b) = sym a ∙ b
same_letter l m byte x y (inl a) (inr b) = absurd (omega (arith, x.0, x.1, y.0, y.1))
same_letter l m byte x y (inr a) (inl b) = absurd (omega (arith, x.0, x.1, y.0, y.1))
same_letter l m byte x y (inr a) (inr b) = sym a ∙ b

same_letters : (s t text : List ℕ) → AreSmall s → AreSmall t → IsInAnyCase s text → IsInAnyCase t text → s ≡ t
same_letters [] [] text x y a b = refl
same_letters [] (m ∷ t) [] x y a b = absurd b
same_letters [] (m ∷ t) (byte ∷ text) x y a b = absurd a
same_letters (l ∷ s) [] [] x y a b = absurd a
same_letters (l ∷ s) [] (byte ∷ text) x y a b = absurd b
same_letters (l ∷ s) (m ∷ t) [] x y a b = absurd a
same_letters (l ∷ s) (m ∷ t) (byte ∷ text) x y a b =
    let first : l ≡ m = same_letter l m byte x.0 y.0 a.0 b.0 in
    let others : s ≡ t = same_letters s t text x.1 y.1 a.1 b.1 in
    cc

small_u : AreSmall (codes "u")
small_u = ((omega arith, omega arith), tt)

small_r : AreSmall (codes "r")
small_r = ((omega arith, omega arith), tt)

small_b : AreSmall (codes "b")
small_b = ((omega arith, omega arith), tt)

small_br : AreSmall (codes "br")
small_br = ((omega arith, omega arith), ((omega arith, omega arith), tt))

small_rb : AreSmall (codes "rb")
small_rb = ((omega arith, omega arith), ((omega arith, omega arith), tt))

small_f : AreSmall (codes "f")
small_f = ((omega arith, omega arith), tt)

small_fr : AreSmall (codes "fr")
small_fr = ((omega arith, omega arith), ((omega arith, omega arith), tt))

small_rf : AreSmall (codes "rf")
small_rf = ((omega arith, omega arith), ((omega arith, omega arith), tt))

pub one_prefix : (p q : Prefix) (text : List ℕ) → IsPrefix p text → IsPrefix q text → p ≡ q
one_prefix prefixes.Plain prefixes.Plain text x y = refl
one_prefix prefixes.Plain prefixes.Raw text x y = let e : codes "u" ≡ codes "r" = same_letters (codes "u") (codes "r") text small_u small_r x y in let h : false ≡ true = ap (λ l. eqb (get_or l 0 0) 114) e in absurd cc
one_prefix prefixes.Plain prefixes.Bytes text x (inl y) = let e : codes "u" ≡ codes "b" = same_letters (codes "u") (codes "b") text small_u small_b x y in let h : false ≡ true = ap (λ l. eqb (get_or l 0 0) 98) e in absurd cc
one_prefix prefixes.Plain prefixes.Bytes text x (inr (inl y)) = let e : codes "u" ≡ codes "br" = same_letters (codes "u") (codes "br") text small_u small_br x y in let h : false ≡ true = ap (λ l. eqb (length l) 2) e in absurd cc
one_prefix prefixes.Plain prefixes.Bytes text x (inr (inr y)) = let e : codes "u" ≡ codes "rb" = same_letters (codes "u") (codes "rb") text small_u small_rb x y in let h : false ≡ true = ap (λ l. eqb (length l) 2) e in absurd cc
one_prefix prefixes.Plain prefixes.Format text x (inl y) = let e : codes "u" ≡ codes "f" = same_letters (codes "u") (codes "f") text small_u small_f x y in let h : false ≡ true = ap (λ l. eqb (get_or l 0 0) 102) e in absurd cc
one_prefix prefixes.Plain prefixes.Format text x (inr (inl y)) = let e : codes "u" ≡ codes "fr" = same_letters (codes "u") (codes "fr") text small_u small_fr x y in let h : false ≡ true = ap (λ l. eqb (length l) 2) e in absurd cc
one_prefix prefixes.Plain prefixes.Format text x (inr (inr y)) = let e : codes "u" ≡ codes "rf" = same_letters (codes "u") (codes "rf") text small_u small_rf x y in let h : false ≡ true = ap (λ l. eqb (length l) 2) e in absurd cc
one_prefix prefixes.Raw prefixes.Plain text x y = let e : codes "r" ≡ codes "u" = same_letters (codes "r") (codes "u") text small_r small_u x y in let h : false ≡ true = ap (λ l. eqb (get_or l 0 0) 117) e in absurd cc
one_prefix prefixes.Raw prefixes.Raw text x y = refl
one_prefix prefixes.Raw prefixes.Bytes text x (inl y) = let e : codes "r" ≡ codes "b" = same_letters (codes "r") (codes "b") text small_r small_b x y in let h : false ≡ true = ap (λ l. eqb (get_or l 0 0) 98) e in absurd cc
one_prefix prefixes.Raw prefixes.Bytes text x (inr (inl y)) = let e : codes "r" ≡ codes "br" = same_letters (codes "r") (codes "br") text small_r small_br x y in let h : false ≡ true = ap (λ l. eqb (length l) 2) e in absurd cc
one_prefix prefixes.Raw prefixes.Bytes text x (inr (inr y)) = let e : codes "r" ≡ codes "rb" = same_letters (codes "r") (codes "rb") text small_r small_rb x y in let h : false ≡ true = ap (λ l. eqb (length l) 2) e in absurd cc
one_prefix prefixes.Raw prefixes.Format text x (inl y) = let e : codes "r" ≡ codes "f" = same_letters (codes "r") (codes "f") text small_r small_f x y in let h : false ≡ true = ap (λ l. eqb (get_or l 0 0) 102) e in absurd cc
one_prefix prefixes.Raw prefixes.Format text x (inr (inl y)) = let e : codes "r" ≡ codes "fr" = same_letters (codes "r") (codes "fr") text small_r small_fr x y in let h : false ≡ true = ap (λ l. eqb (length l) 2) e in absurd cc
one_prefix prefixes.Raw prefixes.Format text x (inr (inr y)) = let e : codes "r" ≡ codes "rf" = same_letters (codes "r") (codes "rf") text small_r small_rf x y in let h : false ≡ true = ap (λ l. eqb (length l) 2) e in absurd cc
one_prefix prefixes.Bytes prefixes.Plain text (inl x) y = let e : codes "b" ≡ codes "u" = same_letters (codes "b") (codes "u") text small_b small_u x y in let h : false ≡ true = ap (λ l. eqb (get_or l 0 0) 117) e in absurd cc
one_prefix prefixes.Bytes prefixes.Plain text (inr (inl x)) y = let e : codes "br" ≡ codes "u" = same_letters (codes "br") (codes "u") text small_br small_u x y in let h : false ≡ true = ap (λ l. eqb (length l) 1) e in absurd cc
one_prefix prefixes.Bytes prefixes.Plain text (inr (inr x)) y = let e : codes "rb" ≡ codes "u" = same_letters (codes "rb") (codes "u") text small_rb small_u x y in let h : false ≡ true = ap (λ l. eqb (length l) 1) e in absurd cc
one_prefix prefixes.Bytes prefixes.Raw text (inl x) y = let e : codes "b" ≡ codes "r" = same_letters (codes "b") (codes "r") text small_b small_r x y in let h : false ≡ true = ap (λ l. eqb (get_or l 0 0) 114) e in absurd cc
one_prefix prefixes.Bytes prefixes.Raw text (inr (inl x)) y = let e : codes "br" ≡ codes "r" = same_letters (codes "br") (codes "r") text small_br small_r x y in let h : false ≡ true = ap (λ l. eqb (length l) 1) e in absurd cc
one_prefix prefixes.Bytes prefixes.Raw text (inr (inr x)) y = let e : codes "rb" ≡ codes "r" = same_letters (codes "rb") (codes "r") text small_rb small_r x y in let h : false ≡ true = ap (λ l. eqb (length l) 1) e in absurd cc
one_prefix prefixes.Bytes prefixes.Bytes text x y = refl
one_prefix prefixes.Bytes prefixes.Format text (inl x) (inl y) = let e : codes "b" ≡ codes "f" = same_letters (codes "b") (codes "f") text small_b small_f x y in let h : false ≡ true = ap (λ l. eqb (get_or l 0 0) 102) e in absurd cc
one_prefix prefixes.Bytes prefixes.Format text (inl x) (inr (inl y)) = let e : codes "b" ≡ codes "fr" = same_letters (codes "b") (codes "fr") text small_b small_fr x y in let h : false ≡ true = ap (λ l. eqb (length l) 2) e in absurd cc
one_prefix prefixes.Bytes prefixes.Format text (inl x) (inr (inr y)) = let e : codes "b" ≡ codes "rf" = same_letters (codes "b") (codes "rf") text small_b small_rf x y in let h : false ≡ true = ap (λ l. eqb (length l) 2) e in absurd cc
one_prefix prefixes.Bytes prefixes.Format text (inr (inl x)) (inl y) = let e : codes "br" ≡ codes "f" = same_letters (codes "br") (codes "f") text small_br small_f x y in let h : false ≡ true = ap (λ l. eqb (length l) 1) e in absurd cc
one_prefix prefixes.Bytes prefixes.Format text (inr (inl x)) (inr (inl y)) = let e : codes "br" ≡ codes "fr" = same_letters (codes "br") (codes "fr") text small_br small_fr x y in let h : false ≡ true = ap (λ l. eqb (get_or l 0 0) 102) e in absurd cc
one_prefix prefixes.Bytes prefixes.Format text (inr (inl x)) (inr (inr y)) = let e : codes "br" ≡ codes "rf" = same_letters (codes "br") (codes "rf") text small_br small_rf x y in let h : false ≡ true = ap (λ l. eqb (get_or l 0 0) 114) e in absurd cc
one_prefix prefixes.Bytes prefixes.Format text (inr (inr x)) (inl y) = let e : codes "rb" ≡ codes "f" = same_letters (codes "rb") (codes "f") text small_rb small_f x y in let h : false ≡ true = ap (λ l. eqb (length l) 1) e in absurd cc
one_prefix prefixes.Bytes prefixes.Format text (inr (inr x)) (inr (inl y)) = let e : codes "rb" ≡ codes "fr" = same_letters (codes "rb") (codes "fr") text small_rb small_fr x y in let h : false ≡ true = ap (λ l. eqb (get_or l 0 0) 102) e in absurd cc
one_prefix prefixes.Bytes prefixes.Format text (inr (inr x)) (inr (inr y)) = let e : codes "rb" ≡ codes "rf" = same_letters (codes "rb") (codes "rf") text small_rb small_rf x y in let h : false ≡ true = ap (λ l. eqb (get_or l 1 0) 102) e in absurd cc
one_prefix prefixes.Format prefixes.Plain text (inl x) y = let e : codes "f" ≡ codes "u" = same_letters (codes "f") (codes "u") text small_f small_u x y in let h : false ≡ true = ap (λ l. eqb (get_or l 0 0) 117) e in absurd cc
one_prefix prefixes.Format prefixes.Plain text (inr (inl x)) y = let e : codes "fr" ≡ codes "u" = same_letters (codes "fr") (codes "u") text small_fr small_u x y in let h : false ≡ true = ap (λ l. eqb (length l) 1) e in absurd cc
one_prefix prefixes.Format prefixes.Plain text (inr (inr x)) y = let e : codes "rf" ≡ codes "u" = same_letters (codes "rf") (codes "u") text small_rf small_u x y in let h : false ≡ true = ap (λ l. eqb (length l) 1) e in absurd cc
one_prefix prefixes.Format prefixes.Raw text (inl x) y = let e : codes "f" ≡ codes "r" = same_letters (codes "f") (codes "r") text small_f small_r x y in let h : false ≡ true = ap (λ l. eqb (get_or l 0 0) 114) e in absurd cc
one_prefix prefixes.Format prefixes.Raw text (inr (inl x)) y = let e : codes "fr" ≡ codes "r" = same_letters (codes "fr") (codes "r") text small_fr small_r x y in let h : false ≡ true = ap (λ l. eqb (length l) 1) e in absurd cc
one_prefix prefixes.Format prefixes.Raw text (inr (inr x)) y = let e : codes "rf" ≡ codes "r" = same_letters (codes "rf") (codes "r") text small_rf small_r x y in let h : false ≡ true = ap (λ l. eqb (length l) 1) e in absurd cc
one_prefix prefixes.Format prefixes.Bytes text (inl x) (inl y) = let e : codes "f" ≡ codes "b" = same_letters (codes "f") (codes "b") text small_f small_b x y in let h : false ≡ true = ap (λ l. eqb (get_or l 0 0) 98) e in absurd cc
one_prefix prefixes.Format prefixes.Bytes text (inl x) (inr (inl y)) = let e : codes "f" ≡ codes "br" = same_letters (codes "f") (codes "br") text small_f small_br x y in let h : false ≡ true = ap (λ l. eqb (length l) 2) e in absurd cc
one_prefix prefixes.Format prefixes.Bytes text (inl x) (inr (inr y)) = let e : codes "f" ≡ codes "rb" = same_letters (codes "f") (codes "rb") text small_f small_rb x y in let h : false ≡ true = ap (λ l. eqb (length l) 2) e in absurd cc
one_prefix prefixes.Format prefixes.Bytes text (inr (inl x)) (inl y) = let e : codes "fr" ≡ codes "b" = same_letters (codes "fr") (codes "b") text small_fr small_b x y in let h : false ≡ true = ap (λ l. eqb (length l) 1) e in absurd cc
one_prefix prefixes.Format prefixes.Bytes text (inr (inl x)) (inr (inl y)) = let e : codes "fr" ≡ codes "br" = same_letters (codes "fr") (codes "br") text small_fr small_br x y in let h : false ≡ true = ap (λ l. eqb (get_or l 0 0) 98) e in absurd cc
one_prefix prefixes.Format prefixes.Bytes text (inr (inl x)) (inr (inr y)) = let e : codes "fr" ≡ codes "rb" = same_letters (codes "fr") (codes "rb") text small_fr small_rb x y in let h : false ≡ true = ap (λ l. eqb (get_or l 0 0) 114) e in absurd cc
one_prefix prefixes.Format prefixes.Bytes text (inr (inr x)) (inl y) = let e : codes "rf" ≡ codes "b" = same_letters (codes "rf") (codes "b") text small_rf small_b x y in let h : false ≡ true = ap (λ l. eqb (length l) 1) e in absurd cc
one_prefix prefixes.Format prefixes.Bytes text (inr (inr x)) (inr (inl y)) = let e : codes "rf" ≡ codes "br" = same_letters (codes "rf") (codes "br") text small_rf small_br x y in let h : false ≡ true = ap (λ l. eqb (get_or l 0 0) 98) e in absurd cc
one_prefix prefixes.Format prefixes.Bytes text (inr (inr x)) (inr (inr y)) = let e : codes "rf" ≡ codes "rb" = same_letters (codes "rf") (codes "rb") text small_rf small_rb x y in let h : false ≡ true = ap (λ l. eqb (get_or l 1 0) 98) e in absurd cc
one_prefix prefixes.Format prefixes.Format text x y = refl
