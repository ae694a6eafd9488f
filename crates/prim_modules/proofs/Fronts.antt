-- The prefixes of a dotted name, byte by byte.
use Rattle.std.proofs.Common.{◌≡◌, ℕ, ◌+◌, ◌<◌, ◌≤◌, List, [], ◌∷◌, ◌++◌, length, reverse, get_or, take, drop, Bool, true, false, cond, nat_eq, Option, Some, None, refl, sym, ap, ◌∙◌, subst, arith, append_assoc}
use Rattle.std.specs.List.{slice_split, onto_first}
use Rattle.std.specs.Option.{option_or}
use Rattle.std.proofs.lemmas.Bool.Decides.{nat_tests}
use Rattle.std.proofs.lemmas.List.{append-nil, reverse-append, length-reverse, take-append-drop, drop_more, take_more, drop_all}
use Rattle.py_effects.specs.Modules.{prefixes_from, outer_name}

-- the last but one of a list that is seen from its end
abbrev second : List (List ℕ) → Option (List ℕ)
second xs = elim xs [ [] ↦ None | whole ∷ fronts ↦ elim fronts [ [] ↦ None | front ∷ others ↦ Some front ] ]

-- the prefixes of what stands in front and a name that follows
abbrev fronts : List ℕ → List ℕ → List (List ℕ)
fronts front name = prefixes_from front (slice_split (nat_eq 46) name)

-- what stands before the last dot of the name
abbrev pub outer : List ℕ → List ℕ → Option (List ℕ)
outer front name = second (reverse (fronts front name))

second_push : (xs : List (List ℕ)) (x : List ℕ) → 0 < length xs → second (xs ++ x ∷ []) ≡ option_or (second xs) (Some x)
second_push [] x some = absurd (omega arith)
second_push (whole ∷ []) x some = refl
second_push (whole ∷ front ∷ others) x some = refl

second_more : (x : List ℕ) (xs : List (List ℕ)) → 0 < length xs → second (reverse (x ∷ xs)) ≡ option_or (second (reverse xs)) (Some x)
second_more x xs some = ap second (reverse-append (x ∷ []) xs) ∙ second_push (reverse xs) x (omega (arith, some, length-reverse xs))

onto_some : (x : ℕ) (parts : List (List ℕ)) → 0 < length (onto_first x parts)
onto_some x [] = omega arith
onto_some x (part ∷ parts) = omega arith

split_some : (name : List ℕ) → 0 < length (slice_split (nat_eq 46) name)
split_some [] = omega arith
split_some (x ∷ name) = by_test (nat_eq 46 x)
  where
    by_test : (b : Bool) → 0 < length (cond b ([] ∷ slice_split (nat_eq 46) name) (onto_first x (slice_split (nat_eq 46) name)))
    by_test true = omega arith
    by_test false = onto_some x (slice_split (nat_eq 46) name)

fronts_some : (front : List ℕ) (parts : List (List ℕ)) → 0 < length parts → 0 < length (prefixes_from front parts)
fronts_some front [] some = absurd (omega arith)
fronts_some front (part ∷ parts) some = omega arith

-- a byte that isn't a dot belongs to the first part
onto : (front : List ℕ) (x : ℕ) (parts : List (List ℕ)) → 0 < length parts → prefixes_from front (onto_first x parts) ≡ prefixes_from (front ++ x ∷ []) parts
onto front x [] some = absurd (omega arith)
onto front x (part ∷ parts) some =
    ap (λ (whole : List ℕ). whole ∷ prefixes_from (whole ++ 46 ∷ []) parts) (sym (append_assoc front (x ∷ []) part))

outer_nothing : (front : List ℕ) → outer front [] ≡ None
outer_nothing front = refl

outer_other : (front : List ℕ) (x : ℕ) (name : List ℕ) → nat_eq 46 x ≡ false → outer front (x ∷ name) ≡ outer (front ++ x ∷ []) name
outer_other front x name apart =
    let parts : List (List ℕ) = slice_split (nat_eq 46) name in
    ap (λ (b : Bool). second (reverse (prefixes_from front (cond b ([] ∷ parts) (onto_first x parts))))) apart
    ∙ ap (λ (xs : List (List ℕ)). second (reverse xs)) (onto front x parts (split_some name))

outer_dot : (front : List ℕ) (x : ℕ) (name : List ℕ) → nat_eq 46 x ≡ true → outer front (x ∷ name) ≡ option_or (outer (front ++ x ∷ []) name) (Some front)
outer_dot front x name is =
    let parts : List (List ℕ) = slice_split (nat_eq 46) name in
    let dot : 46 ≡ x = grind (arith, nat_tests) in
    ap (λ (b : Bool). second (reverse (prefixes_from front (cond b ([] ∷ parts) (onto_first x parts))))) is
    ∙ (ap (λ (f : List ℕ). second (reverse (f ∷ prefixes_from (f ++ 46 ∷ []) parts))) (append-nil front)
    ∙ (ap (λ (y : ℕ). second (reverse (front ∷ prefixes_from (front ++ y ∷ []) parts))) dot
    ∙ second_more front (prefixes_from (front ++ x ∷ []) parts) (fronts_some (front ++ x ∷ []) parts (split_some name))))

-- a dot that is the last of the rest is the last of all
outer_step : (front rest found : List ℕ) (x : ℕ) (b : Bool) → nat_eq 46 x ≡ b → outer (front ++ x ∷ []) rest ≡ Some found → outer front (x ∷ rest) ≡ Some found
outer_step front rest found x true e further = outer_dot front x rest e ∙ ap (λ (o : Option (List ℕ)). option_or o (Some front)) further
outer_step front rest found x false e further = outer_other front x rest e ∙ further

outer_rest : (front before rest found : List ℕ) → outer (front ++ before) rest ≡ Some found → outer front (before ++ rest) ≡ Some found
outer_rest front [] rest found is = subst (λ (f : List ℕ). outer f rest ≡ Some found) (append-nil front) is
outer_rest front (x ∷ before) rest found is =
    outer_step front (before ++ rest) found x (nat_eq 46 x) refl
    (outer_rest (front ++ x ∷ []) before rest found (subst (λ (f : List ℕ). outer f rest ≡ Some found) (sym (append_assoc front (x ∷ []) before)) is))

not_dot : (x : ℕ) → (x ≡ 46 → ⊥) → nat_eq 46 x ≡ false
not_dot x apart = grind (arith, nat_tests)

module _ (name : List ℕ) where
  -- no dot stands from the end on
  pub no_dot_yet : (at : ℕ) → length name ≤ at → outer (take at name) (drop at name) ≡ None
  no_dot_yet at past = ap (λ (xs : List ℕ). outer (take at name) xs) (drop_all at name past)

  module _ (at : ℕ) (lt : at < length name) (none : outer (take (at + 1) name) (drop (at + 1) name) ≡ None) where
    rest : drop at name ≡ get_or name at 0 ∷ drop (at + 1) name
    rest = drop_more name at 0 lt

    further : outer (take at name ++ get_or name at 0 ∷ []) (drop (at + 1) name) ≡ None
    further = ap (λ (f : List ℕ). outer f (drop (at + 1) name)) (sym (take_more name at 0 lt)) ∙ none

    -- nor here
    pub no_dot_here : (get_or name at 0 ≡ 46 → ⊥) → outer (take at name) (drop at name) ≡ None
    no_dot_here other =
        let test : nat_eq 46 (get_or name at 0) ≡ false = not_dot (get_or name at 0) other in
        ap (λ (xs : List ℕ). outer (take at name) xs) rest ∙ (outer_other (take at name) (get_or name at 0) (drop (at + 1) name) test ∙ further)

    -- the last dot stands here
    pub dot_here : get_or name at 0 ≡ 46 → Some (take at name) ≡ outer_name name
    dot_here is =
        let test : nat_eq 46 (get_or name at 0) ≡ true = ap (λ (x : ℕ). nat_eq 46 x) is in
        let here : outer (take at name) (drop at name) ≡ Some (take at name) =
        ap (λ (xs : List ℕ). outer (take at name) xs) rest
        ∙ (outer_dot (take at name) (get_or name at 0) (drop (at + 1) name) test ∙ ap (λ (o : Option (List ℕ)). option_or o (Some (take at name))) further) in
        let before : List ℕ = [] in
        sym (ap (λ (xs : List ℕ). outer before xs) (sym (take-append-drop at name)) ∙ outer_rest before (take at name) (drop at name) (take at name) here)

  pub no_dot_at_all : outer (take 0 name) (drop 0 name) ≡ None → None ≡ outer_name name
  no_dot_at_all none = sym none
