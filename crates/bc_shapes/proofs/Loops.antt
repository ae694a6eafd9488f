-- Steps of the code's loops.
use Rattle.std.proofs.Common.{◌≡◌, ℕ, zero, suc, ◌+◌, ◌-◌, ◌<◌, ◌≤◌, Bool, true, false, ◌&&◌, List, [], ◌∷◌, ◌++◌, length, get_or, take, drop, map, replicate, refl, sym, ap, ◌∙◌, arith, length-append, length-drop}
use Rattle.std.proofs.lemmas.List.{drop_more, drop_all, length-map, take_all}
use Rattle.std.proofs.lemmas.Bool.{true≢false}
use Rattle.bc_shapes.specs.declared.kinds.Kind.{Kind}
use Rattle.bc_shapes.specs.declared.kinds.Kind.TheVariants as kinds
use Rattle.bc_shapes.specs.declared.kinds.Give.{Give}
use Rattle.bc_shapes.specs.declared.kinds.Give.TheVariants.{New}
use Rattle.bc_shapes.specs.declared.kinds.Want.{Want}
use Rattle.bc_shapes.specs.declared.kinds.Want.TheVariants as wants
use Rattle.bc_shapes.specs.Shape.{stands, fits, are_values, give_of, after}

pub drop_uncons : {A : Type 0} → (xs : List A) (i : ℕ) (x : A) → i < length xs → x ≡ get_or xs i x → drop i xs ≡ x ∷ drop (i + 1) xs
drop_uncons xs i x lt e = drop_more xs i x lt ∙ ap (λ y. y ∷ drop (i + 1) xs) (sym e)

pub fits_step : (ws : List Want) (ks : List Kind) (i : ℕ) (w : Want) (k : Kind) → i < length ws → i < length ks → w ≡ get_or ws i w → k ≡ get_or ks i k → fits (drop i ws) (drop i ks) ≡ (stands w k && fits (drop (i + 1) ws) (drop (i + 1) ks))
fits_step ws ks i w k a b e f = ap (λ z. fits z (drop i ks)) (drop_uncons ws i w a e) ∙ ap (λ z. fits (w ∷ drop (i + 1) ws) z) (drop_uncons ks i k b f)

pub and_first : (a b : Bool) → a ≡ false → (a && b) ≡ false
and_first true b h = absurd (true≢false h)
and_first false b h = refl

fits_none : (ws : List Want) (i : ℕ) → i < length ws → fits (drop i ws) [] ≡ false
fits_none [] i a = absurd (omega (arith, a))
fits_none (w ∷ ws) zero a = refl
fits_none (w ∷ ws) (suc i) a = fits_none ws i (omega (arith, a))

pub fits_short : (ws : List Want) (ks : List Kind) (i : ℕ) → i < length ws → length ks ≤ i → fits (drop i ws) (drop i ks) ≡ false
fits_short [] ks i a b = absurd (omega (arith, a))
fits_short (w ∷ ws) [] zero a b = refl
fits_short (w ∷ ws) (k ∷ ks) zero a b = absurd (omega (arith, b))
fits_short (w ∷ ws) [] (suc i) a b = fits_none ws i (omega (arith, a))
fits_short (w ∷ ws) (k ∷ ks) (suc i) a b = fits_short ws ks i (omega (arith, a)) (omega (arith, b))

pub after_size : (gs : List Give) (n : ℕ) (ks : List Kind) → length (after gs n ks) ≡ length gs + (length ks - n)
after_size gs n ks = length-append (map (give_of ks) gs) (drop n ks) ∙ ap (λ z. z + length (drop n ks)) (length-map gs (give_of ks)) ∙ ap (λ z. length gs + z) (let e = length-drop n ks in let q : length (drop n ks) ≡ length ks - n = omega (arith, e) in q)

-- the slots that arrive, one by one
pub slot_value : (n i : ℕ) (gs : List Give) (taken : ℕ) (ks : List Kind) (d : Kind) → i < n → get_or (after (replicate n (New kinds.Value) ++ gs) taken ks) i d ≡ kinds.Value
slot_value zero i gs taken ks d lt = absurd (omega (arith, lt))
slot_value (suc n) zero gs taken ks d lt = refl
slot_value (suc n) (suc i) gs taken ks d lt = slot_value n i gs taken ks d (omega (arith, lt))

slot_past : (n i : ℕ) (gs : List Give) (taken : ℕ) (ks : List Kind) (d : Kind) → n ≤ i → get_or (after (replicate n (New kinds.Value) ++ gs) taken ks) i d ≡ get_or (after gs taken ks) (i - n) d
slot_past zero i gs taken ks d le = ap (λ j. get_or (after gs taken ks) j d) (let q : i ≡ i - zero = omega arith in q)
slot_past (suc n) zero gs taken ks d le = absurd (omega (arith, le))
slot_past (suc n) (suc i) gs taken ks d le = slot_past n i gs taken ks d (omega (arith, le)) ∙ ap (λ j. get_or (after gs taken ks) j d) (let q : i - n ≡ suc i - suc n = omega arith in q)

slot_given : (i : ℕ) (gs : List Give) (js ks : List Kind) (g : Give) (d : Kind) → i < length gs → get_or (map (give_of ks) gs ++ js) i d ≡ give_of ks (get_or gs i g)
slot_given i [] js ks g d lt = absurd (omega (arith, lt))
slot_given zero (h ∷ gs) js ks g d lt = refl
slot_given (suc i) (h ∷ gs) js ks g d lt = slot_given i gs js ks g d (omega (arith, lt))

slot_below : (i : ℕ) (gs : List Give) (js ks : List Kind) (d : Kind) → length gs ≤ i → get_or (map (give_of ks) gs ++ js) i d ≡ get_or js (i - length gs) d
slot_below i [] js ks d le = ap (λ j. get_or js j d) (let q : i ≡ i - zero = omega arith in q)
slot_below zero (h ∷ gs) js ks d le = absurd (omega (arith, le))
slot_below (suc i) (h ∷ gs) js ks d le = slot_below i gs js ks d (omega (arith, le)) ∙ ap (λ j. get_or js j d) (let q : i - length gs ≡ suc i - suc (length gs) = omega arith in q)

pub get_drop : (n i : ℕ) (ks : List Kind) (d : Kind) → get_or (drop n ks) i d ≡ get_or ks (n + i) d
get_drop zero i ks d = ap (λ j. get_or ks j d) (let q : i ≡ zero + i = omega arith in q)
get_drop (suc n) i [] d = refl
get_drop (suc n) i (k ∷ ks) d = get_drop n i ks d ∙ ap (λ j. get_or (k ∷ ks) j d) (let q : suc (n + i) ≡ suc n + i = omega arith in q)

-- whatever stands for what isn't there
pub at_rest : {A : Type 0} → (xs : List A) (i : ℕ) (x d : A) → i < length xs → x ≡ get_or xs i x → x ≡ get_or xs i d
at_rest [] i x d lt e = absurd (omega (arith, lt))
at_rest (y ∷ xs) zero x d lt e = e
at_rest (y ∷ xs) (suc i) x d lt e = at_rest xs i x d (omega (arith, lt)) e

pub slot_other : (n i : ℕ) (gs : List Give) (taken : ℕ) (ks : List Kind) (g : Give) (d : Kind) → n ≤ i → i - n < length gs → give_of ks (get_or gs (i - n) g) ≡ get_or (after (replicate n (New kinds.Value) ++ gs) taken ks) i d
slot_other n i gs taken ks g d le lt = sym (slot_past n i gs taken ks d le ∙ slot_given (i - n) gs (drop taken ks) ks g d lt)

same_read : (ks : List Kind) (i : ℕ) (d e : Kind) → i < length ks → get_or ks i d ≡ get_or ks i e
same_read [] i d e lt = absurd (omega (arith, lt))
same_read (k ∷ ks) zero d e lt = refl
same_read (k ∷ ks) (suc i) d e lt = same_read ks i d e (omega (arith, lt))

pub slot_found : (n i : ℕ) (gs : List Give) (taken : ℕ) (ks : List Kind) (d e : Kind) → n ≤ i → length gs ≤ i - n → taken + (i - n - length gs) < length ks → get_or ks (taken + (i - n - length gs)) e ≡ get_or (after (replicate n (New kinds.Value) ++ gs) taken ks) i d
slot_found n i gs taken ks d e le lt within = same_read ks (taken + (i - n - length gs)) e d within ∙ sym (slot_past n i gs taken ks d le ∙ slot_below (i - n) gs (drop taken ks) ks d lt ∙ get_drop taken (i - n - length gs) ks d)

pub gives_size : (n : ℕ) (gs : List Give) → length (replicate n (New kinds.Value) ++ gs) ≡ n + length gs
gives_size zero gs = let q : length gs ≡ zero + length gs = omega arith in q
gives_size (suc n) gs = let e = gives_size n gs in let q : suc (length (replicate n (New kinds.Value) ++ gs)) ≡ suc n + length gs = omega (arith, e) in q

pub slot_rest : (n : ℕ) (gs : List Give) (taken : ℕ) (ks : List Kind) (k : ℕ) (d : Kind) → n + length gs ≤ k → get_or (after (replicate n (New kinds.Value) ++ gs) taken ks) k d ≡ get_or (drop taken ks) (k - (n + length gs)) d
slot_rest n gs taken ks k d le =
    slot_past n k gs taken ks d (omega (arith, le)) ∙ slot_below (k - n) gs (drop taken ks) ks d (omega (arith, le))
    ∙ ap (λ j. get_or (drop taken ks) j d) (let q : k - n - length gs ≡ k - (n + length gs) = omega arith in q)

pub slots_size : (n : ℕ) (gs : List Give) (taken : ℕ) (ks : List Kind) → length (after (replicate n (New kinds.Value) ++ gs) taken ks) ≡ n + length gs + (length ks - taken)
slots_size zero gs taken ks = after_size gs taken ks ∙ (let q : length gs + (length ks - taken) ≡ zero + length gs + (length ks - taken) = omega arith in q)
slots_size (suc n) gs taken ks = let e = slots_size n gs taken ks in let q : suc (length (after (replicate n (New kinds.Value) ++ gs) taken ks)) ≡ suc n + length gs + (length ks - taken) = omega (arith, e) in q

pub slot_under : (n i g : ℕ) (gs : List Give) (taken : ℕ) (ks : List Kind) (d e : Kind) → g ≡ length (replicate n (New kinds.Value) ++ gs) → length (replicate n (New kinds.Value) ++ gs) ≤ i → i < length (after (replicate n (New kinds.Value) ++ gs) taken ks) → get_or ks (taken + (i - g)) e ≡ get_or (after (replicate n (New kinds.Value) ++ gs) taken ks) i d
slot_under n i g gs taken ks d e h le lt =
    let many = gives_size n gs in
    let size = slots_size n gs taken ks in
    ap (λ j. get_or ks j e) (let q : taken + (i - g) ≡ taken + (i - n - length gs) = omega (arith, many, h) in q)
    ∙ slot_found n i gs taken ks d e (omega (arith, many, le)) (omega (arith, many, le)) (omega (arith, size, many, le, lt))

-- The wants of many values.

abbrev pub new_values : ℕ → List Want
new_values n = replicate n wants.Value

values_of : (ks : List Kind) (i : ℕ) (k : Kind) → i < length ks → k ≡ get_or ks i k → are_values (drop i ks) ≡ (stands wants.Value k && are_values (drop (i + 1) ks))
values_of ks i k lt e = ap are_values (drop_uncons ks i k lt e)

pub values_more : (ks : List Kind) (i : ℕ) (k : Kind) (b c d : Bool) → i < length ks → k ≡ get_or ks i k → d ≡ stands wants.Value k → c ≡ (b && d) → (b && are_values (drop i ks)) ≡ (c && are_values (drop (i + 1) ks))
values_more ks i k b c d lt e f g =
    ap (λ z. b && z) (values_of ks i k lt e) ∙ ap (λ z. b && (z && are_values (drop (i + 1) ks))) (sym f) ∙ by_both b d (are_values (drop (i + 1) ks)) ∙ ap (λ z. z && are_values (drop (i + 1) ks)) (sym g)
  where
    by_both : (x y z : Bool) → (x && (y && z)) ≡ ((x && y) && z)
    by_both true y z = refl
    by_both false y z = refl

pub values_end : (ks : List Kind) (i : ℕ) (b : Bool) → length ks ≤ i → b ≡ (b && are_values (drop i ks))
values_end ks i b le = sym (ap (λ z. b && are_values z) (drop_all i ks le) ∙ and_true b)
  where
    and_true : (b : Bool) → (b && true) ≡ b
    and_true true = refl
    and_true false = refl

pub fits_values : (n : ℕ) (ws : List Want) (ks : List Kind) → n ≤ length ks → fits (new_values n ++ ws) ks ≡ (are_values (take n ks) && fits ws (drop n ks))
fits_values zero ws ks le = refl
fits_values (suc n) ws [] le = absurd (omega (arith, le))
fits_values (suc n) ws (k ∷ ks) le = ap (λ z. stands wants.Value k && z) (fits_values n ws ks (omega (arith, le))) ∙ by_first (stands wants.Value k) (are_values (take n ks)) (fits ws (drop n ks))
  where
    by_first : (a b c : Bool) → (a && (b && c)) ≡ (a && b && c)
    by_first true b c = refl
    by_first false b c = refl

pub fits_few : (n : ℕ) (ws : List Want) (ks : List Kind) → length ks < n → fits (new_values n ++ ws) ks ≡ false
fits_few zero ws ks lt = absurd (omega (arith, lt))
fits_few (suc n) ws [] lt = refl
fits_few (suc n) ws (k ∷ ks) lt = and_last (stands wants.Value k) (fits (new_values n ++ ws) ks) (fits_few n ws ks (omega (arith, lt)))
  where
    and_last : (a b : Bool) → b ≡ false → (a && b) ≡ false
    and_last true b e = e
    and_last false b e = refl

-- the slots of new values, and others
pub given_values : (ks : List Kind) (n : ℕ) (gs : List Give) → map (give_of ks) (replicate n (New kinds.Value) ++ gs) ≡ replicate n kinds.Value ++ map (give_of ks) gs
given_values ks zero gs = refl
given_values ks (suc n) gs = ap (λ z. kinds.Value ∷ z) (given_values ks n gs)

pub replicate_more : (n : ℕ) → replicate n kinds.Value ++ kinds.Value ∷ [] ≡ replicate (n + 1) kinds.Value
replicate_more n = more n ∙ ap (λ m. replicate m kinds.Value) (let q : suc n ≡ n + 1 = omega arith in q)
  where
    more : (n : ℕ) → replicate n kinds.Value ++ kinds.Value ∷ [] ≡ replicate (suc n) kinds.Value
    more zero = refl
    more (suc n) = ap (λ z. kinds.Value ∷ z) (more n)

-- what is given on top of what is left
pub after_is : (ks : List Kind) (n i taken : ℕ) (gs : List Give) (given left out : List Kind) → given ≡ replicate n kinds.Value ++ map (give_of ks) (take i gs) → length gs ≤ i → left ≡ drop taken ks → out ≡ given ++ left → out ≡ after (replicate n (New kinds.Value) ++ gs) taken ks
after_is ks n i taken gs given left out e le f g =
    g ∙ ap (λ z. z ++ left) (e ∙ ap (λ z. replicate n kinds.Value ++ map (give_of ks) z) (take_all i gs le) ∙ sym (given_values ks n gs))
    ∙ ap (λ z. map (give_of ks) (replicate n (New kinds.Value) ++ gs) ++ z) f

pub after_values : (n : ℕ) (ws : List Want) (ks : List Kind) (a b r : Bool) → n ≤ length ks → a ≡ are_values (take n ks) → b ≡ fits ws (drop n ks) → r ≡ (a && b) → r ≡ fits (new_values n ++ ws) ks
after_values n ws ks a b r le e f g = g ∙ ap (λ z. z && b) e ∙ ap (λ z. are_values (take n ks) && z) f ∙ sym (fits_values n ws ks le)

pub fits_rest : (n : ℕ) (ws : List Want) (ks : List Kind) → fits ws (take (length ks - n) (drop n ks)) ≡ fits ws (drop n ks)
fits_rest n ws ks = ap (fits ws) (take_all (length ks - n) (drop n ks) (let e = length-drop n ks in omega (arith, e)))

pub first_false : (n : ℕ) (ws : List Want) (ks : List Kind) (a : Bool) → n ≤ length ks → a ≡ are_values (take n ks) → a ≡ false → a ≡ fits (new_values n ++ ws) ks
first_false n ws ks a le e f = f ∙ sym (ap (λ z. z && fits ws (drop n ks)) (sym e ∙ f)) ∙ sym (fits_values n ws ks le)
