-- Tests of the order of shapes.
use Rattle.std.proofs.Common.{◌≡◌, ℕ, zero, suc, ◌+◌, ◌<◌, ◌≤◌, ◌↔◌, ◌⊎◌, inl, inr, Bool, true, false, ◌&&◌, List, [], ◌∷◌, length, get_or, drop, refl, sym, ap, ◌∙◌, subst, arith}
use Rattle.std.proofs.lemmas.List.{drop_all}
use Rattle.bc_shapes.specs.declared.kinds.Kind.{Kind}
use Rattle.bc_shapes.specs.declared.kinds.Kind.TheVariants as kinds
use Rattle.bc_shapes.specs.declared.shape.Entry.{Entry}
use Rattle.bc_shapes.specs.Shape.{Below, same, value, cause, Belows, none, also, same_entry, same_entries}
use Rattle.bc_shapes.proofs.Loops.{drop_uncons}

entries_step : (ds es : List Entry) (i : ℕ) (d e : Entry) → i < length ds → i < length es → d ≡ get_or ds i d → e ≡ get_or es i e → same_entries (drop i ds) (drop i es) ≡ (same_entry d e && same_entries (drop (i + 1) ds) (drop (i + 1) es))
entries_step ds es i d e a b p q =
    ap (λ z. same_entries z (drop i es)) (drop_uncons ds i d a p) ∙ ap (same_entries (d ∷ drop (i + 1) ds)) (drop_uncons es i e b q)

pub entries_on : (ds es : List Entry) (i : ℕ) (d e : Entry) (r : Bool) → i < length ds → i < length es → d ≡ get_or ds i d → e ≡ get_or es i e → r ≡ same_entry d e → r ≡ true → same_entries (drop i ds) (drop i es) ≡ same_entries (drop (i + 1) ds) (drop (i + 1) es)
entries_on ds es i d e r a b p q s t = entries_step ds es i d e a b p q ∙ ap (λ z. z && same_entries (drop (i + 1) ds) (drop (i + 1) es)) (sym s ∙ t)

pub entries_off : (ds es : List Entry) (i : ℕ) (d e : Entry) (r : Bool) → i < length ds → i < length es → d ≡ get_or ds i d → e ≡ get_or es i e → r ≡ same_entry d e → r ≡ false → same_entries (drop i ds) (drop i es) ≡ false
entries_off ds es i d e r a b p q s t = entries_step ds es i d e a b p q ∙ ap (λ z. z && same_entries (drop (i + 1) ds) (drop (i + 1) es)) (sym s ∙ t)

pub entries_end : (ds es : List Entry) (i : ℕ) → length ds ≤ i → length es ≤ i → same_entries (drop i ds) (drop i es) ≡ true
entries_end ds es i a b = ap (λ z. same_entries z (drop i es)) (drop_all i ds a) ∙ ap (same_entries []) (drop_all i es b)

pub entries_differ : (ds es : List Entry) → (length ds ≡ length es → ⊥) → false ≡ same_entries ds es
entries_differ [] [] f = absurd (f refl)
entries_differ [] (e ∷ es) f = refl
entries_differ (d ∷ ds) [] f = refl
entries_differ (d ∷ ds) (e ∷ es) f = sym (and_false (same_entry d e) (same_entries ds es) (sym (entries_differ ds es (λ p. f (ap suc p)))))
  where
    and_false : (a b : Bool) → b ≡ false → (a && b) ≡ false
    and_false true b h = h
    and_false false b h = refl

-- slots lie below others where the first does and the rest do
pub belows_parts : (k l : Kind) (ks ls : List Kind) → Belows (k ∷ ks) (l ∷ ls) → Below k l × Belows ks ls
belows_parts k l ks ls (also a aas) = (a, aas)

pub belows_more : (ks ls : List Kind) (i : ℕ) (k l : Kind) → i < length ks → i < length ls → k ≡ get_or ks i k → l ≡ get_or ls i l → Belows (drop i ks) (drop i ls) ↔ (Below k l × Belows (drop (i + 1) ks) (drop (i + 1) ls))
belows_more ks ls i k l a b p q =
    let e = drop_uncons ks i k a p in
    let f = drop_uncons ls i l b q in (
      λ h. belows_parts k l _ _ (subst (Belows (k ∷ drop (i + 1) ks)) f (subst (λ z. Belows z (drop i ls)) e h)),
      λ h. subst (λ z. Belows z (drop i ls)) (sym e) (subst (Belows (k ∷ drop (i + 1) ks)) (sym f) (also h.0 h.1)),
    )

pub belows_end : (ks ls : List Kind) (i : ℕ) → length ks ≤ i → length ls ≤ i → Belows (drop i ks) (drop i ls)
belows_end ks ls i a b = subst (λ z. Belows z (drop i ls)) (sym (drop_all i ks a)) (subst (Belows []) (sym (drop_all i ls b)) none)

-- what isn't open lies below itself alone
pub below_same : (k l : Kind) → (k ≡ kinds.Either → ⊥) → Below k l → k ≡ l
below_same k l f same = refl
below_same k l f value = absurd (f refl)
below_same k l f cause = absurd (f refl)

pub below_open : (k l : Kind) → k ≡ kinds.Either → (l ≡ kinds.Value) ⊎ (l ≡ kinds.Cause) ⊎ (l ≡ kinds.Either) → Below k l
below_open k l e (inl f) = subst (λ z. Below z l) (sym e) (subst (Below kinds.Either) (sym f) value)
below_open k l e (inr (inl f)) = subst (λ z. Below z l) (sym e) (subst (Below kinds.Either) (sym f) cause)
below_open k l e (inr (inr f)) = subst (λ z. Below z l) (sym e) (subst (Below kinds.Either) (sym f) same)

pub below_refl : (k l : Kind) → k ≡ l → Below k l
below_refl k l e = subst (Below k) e same

pub at_same : (ks : List Kind) (i : ℕ) (d : Kind) → i < length ks → get_or ks i d ≡ get_or ks i (get_or ks i d)
at_same [] i d lt = absurd (omega (arith, lt))
at_same (k ∷ ks) zero d lt = refl
at_same (k ∷ ks) (suc i) d lt = at_same ks i d (omega (arith, lt))
