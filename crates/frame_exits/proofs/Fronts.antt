-- The prefixes of a dotted name, byte by byte.
use Rattle.std.proofs.Common.{◌≡◌, ℕ, ◌+◌, ◌<◌, ◌≤◌, List, [], ◌∷◌, ◌++◌, length, reverse, get_or, take, drop, Bool, true, false, cond, nat_eq, Option, Some, refl, sym, ap, ◌∙◌, arith, append_assoc}
use Rattle.std.specs.Prelude.{is_some, ◌||◌}
use Rattle.std.specs.List.{slice_split, onto_first}
use Rattle.std.proofs.lemmas.Bool.Decides.{nat_tests}
use Rattle.std.proofs.lemmas.List.{append-nil, reverse-append, length-reverse, drop_more, take_more, drop_all, take_all}
use Rattle.mpy_base.specs.Val.{PlainWorld}
use Rattle.frame_moves.specs.py_effects.Modules.{prefixes_from, prefixes, first_of, registered_as, is_port}
use Rattle.frame_moves.specs.bc_machine.Parts.{first_absent}

-- the prefixes of what stands in front and a name that follows
abbrev pub fronts : List ℕ → List ℕ → List (List ℕ)
fronts front name = prefixes_from front (slice_split (nat_eq 46) name)

onto_some : (x : ℕ) (parts : List (List ℕ)) → 0 < length (onto_first x parts)
onto_some x [] = omega arith
onto_some x (part ∷ parts) = omega arith

split_some : (name : List ℕ) → 0 < length (slice_split (nat_eq 46) name)
split_some [] = omega arith
split_some (x ∷ name) = by_test (nat_eq 46 x)
  where
    by_test : (b : Bool) → 0 < length (cond b ([] ∷ slice_split (nat_eq 46) name) (onto_first x (slice_split (nat_eq 46) name)))
    by_test true = omega arith
    by_test false = onto_some x (slice_split (nat_eq 46) name)

fronts_some : (front : List ℕ) (parts : List (List ℕ)) → 0 < length parts → 0 < length (prefixes_from front parts)
fronts_some front [] some = absurd (omega arith)
fronts_some front (part ∷ parts) some = omega arith

-- a byte that isn't a dot belongs to the first part
onto : (front : List ℕ) (x : ℕ) (parts : List (List ℕ)) → 0 < length parts → prefixes_from front (onto_first x parts) ≡ prefixes_from (front ++ x ∷ []) parts
onto front x [] some = absurd (omega arith)
onto front x (part ∷ parts) some =
    ap (λ (whole : List ℕ). whole ∷ prefixes_from (whole ++ 46 ∷ []) parts) (sym (append_assoc front (x ∷ []) part))

fronts_end : (front : List ℕ) → fronts front [] ≡ front ∷ []
fronts_end front = ap (λ (f : List ℕ). let more : List (List ℕ) = [] in f ∷ more) (append-nil front)

fronts_other : (front : List ℕ) (x : ℕ) (name : List ℕ) → nat_eq 46 x ≡ false → fronts front (x ∷ name) ≡ fronts (front ++ x ∷ []) name
fronts_other front x name apart =
    let parts : List (List ℕ) = slice_split (nat_eq 46) name in
    ap (λ (b : Bool). prefixes_from front (cond b ([] ∷ parts) (onto_first x parts))) apart ∙ onto front x parts (split_some name)

fronts_dot : (front : List ℕ) (x : ℕ) (name : List ℕ) → nat_eq 46 x ≡ true → fronts front (x ∷ name) ≡ front ∷ fronts (front ++ x ∷ []) name
fronts_dot front x name is =
    let parts : List (List ℕ) = slice_split (nat_eq 46) name in
    let dot : 46 ≡ x = grind (arith, nat_tests) in
    ap (λ (b : Bool). prefixes_from front (cond b ([] ∷ parts) (onto_first x parts))) is
    ∙ (ap (λ (f : List ℕ). f ∷ prefixes_from (f ++ 46 ∷ []) parts) (append-nil front)
    ∙ ap (λ (y : ℕ). front ∷ prefixes_from (front ++ y ∷ []) parts) dot)

not_dot : (x : ℕ) → (x ≡ 46 → ⊥) → nat_eq 46 x ≡ false
not_dot x apart = grind (arith, nat_tests)

-- the last prefix
-- ===============

first_before : (xs : List (List ℕ)) (x : List ℕ) → 0 < length xs → first_of (xs ++ x ∷ []) ≡ first_of xs
first_before [] x some = absurd (omega arith)
first_before (y ∷ xs) x some = refl

last_more : (x : List ℕ) (xs : List (List ℕ)) → 0 < length xs → first_of (reverse (x ∷ xs)) ≡ first_of (reverse xs)
last_more x xs some = ap first_of (reverse-append (x ∷ []) xs) ∙ first_before (reverse xs) x (omega (arith, some, length-reverse xs))

last_front : (front name : List ℕ) → first_of (reverse (fronts front name)) ≡ front ++ name
last_front front [] = refl
last_front front (x ∷ name) = by_test (nat_eq 46 x) refl (last_front (front ++ x ∷ []) name ∙ append_assoc front (x ∷ []) name)
  where
    by_test : (b : Bool) → nat_eq 46 x ≡ b → first_of (reverse (fronts (front ++ x ∷ []) name)) ≡ front ++ x ∷ name → first_of (reverse (fronts front (x ∷ name))) ≡ front ++ x ∷ name
    by_test true e further =
        ap (λ (xs : List (List ℕ)). first_of (reverse xs)) (fronts_dot front x name e)
        ∙ (last_more front (fronts (front ++ x ∷ []) name) (fronts_some (front ++ x ∷ []) (slice_split (nat_eq 46) name) (split_some name)) ∙ further)
    by_test false e further = ap (λ (xs : List (List ℕ)). first_of (reverse xs)) (fronts_other front x name e) ∙ further

-- the last prefix is the whole name
pub last_prefix : (name : List ℕ) → first_of (reverse (prefixes name)) ≡ name
last_prefix name = last_front [] name

-- on at a place
-- =============

module _ (name : List ℕ) (at : ℕ) (lt : at < length name) where
  rest : fronts (take at name) (drop at name) ≡ fronts (take at name) (get_or name at 0 ∷ drop (at + 1) name)
  rest = ap (λ (xs : List ℕ). fronts (take at name) xs) (drop_more name at 0 lt)

  behind : fronts (take at name ++ get_or name at 0 ∷ []) (drop (at + 1) name) ≡ fronts (take (at + 1) name) (drop (at + 1) name)
  behind = ap (λ (f : List ℕ). fronts f (drop (at + 1) name)) (sym (take_more name at 0 lt))

  -- no prefix ends here
  pub none_here : (get_or name at 0 ≡ 46 → ⊥) → fronts (take at name) (drop at name) ≡ fronts (take (at + 1) name) (drop (at + 1) name)
  none_here other = rest ∙ (fronts_other (take at name) (get_or name at 0) (drop (at + 1) name) (not_dot (get_or name at 0) other) ∙ behind)

  -- one ends here
  pub one_here : get_or name at 0 ≡ 46 → fronts (take at name) (drop at name) ≡ take at name ∷ fronts (take (at + 1) name) (drop (at + 1) name)
  one_here is =
      let test : nat_eq 46 (get_or name at 0) ≡ true = ap (λ (x : ℕ). nat_eq 46 x) is in
      rest ∙ (fronts_dot (take at name) (get_or name at 0) (drop (at + 1) name) test ∙ ap (λ (xs : List (List ℕ)). take at name ∷ xs) behind)

-- the last one ends at the end
pub end_here : (name : List ℕ) (at : ℕ) → at ≡ length name → fronts (take at name) (drop at name) ≡ name ∷ []
end_here name at is =
    let past : length name ≤ at = omega (arith, is) in
    ap (λ (xs : List ℕ). fronts (take at name) xs) (drop_all at name past)
    ∙ (fronts_end (take at name) ∙ ap (λ (f : List ℕ). let more : List (List ℕ) = [] in f ∷ more) (take_all at name past))

-- the first one that isn't there
-- ==============================

module _ (modules : List (List ℕ × ℕ)) where
  abbrev pub There : List ℕ → Bool
  There name = is_some (registered_as modules name) || is_port name

  abbrev pub absent : PlainWorld → List (List ℕ) → Option (List ℕ)
  absent w names = first_absent (record w { modules = modules }) names

  pub is_there_first : (w : PlainWorld) (front : List ℕ) (names : List (List ℕ)) → There front ≡ true → absent w (front ∷ names) ≡ absent w names
  is_there_first w front names is = ap (λ (b : Bool). cond b (absent w names) (Some front)) is

  pub is_absent_first : (w : PlainWorld) (front : List ℕ) (names : List (List ℕ)) → There front ≡ false → absent w (front ∷ names) ≡ Some front
  is_absent_first w front names is = ap (λ (b : Bool). cond b (absent w names) (Some front)) is
