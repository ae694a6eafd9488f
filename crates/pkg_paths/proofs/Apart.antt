-- Different names have different candidates.
use Rattle.std.proofs.Common.{◌≡◌, ◌≢◌, ◌⊎◌, ◌<◌, ℕ, zero, suc, Bool, true, false, cond, List, [], ◌∷◌, ◌++◌, map, nat_eq, slice_index_or, All, Contains, codes, inl, inr, refl, sym, ap, ◌∙◌, arith, subst}
use Rattle.std.specs.List.{onto_first, join_with_byte}
use Rattle.std.proofs.lemmas.List.{append_assoc, append_cancel_left, append_cancel_right, map-append}
use Rattle.pkg_paths.specs.Plain.{parts_of, IsPlain, LacksInit}
use Rattle.pkg_paths.specs.Paths.{path_of, package_file, plain_file, candidates, AreApart}
use Rattle.pkg_paths.proofs.Slashes.{slashed, dotted, joined_parts, IsSlashless, plain_slashless, dotted_slashed}

-- ---- the part behind the last dot

abbrev Behind : List (List ℕ) → Type 0
Behind [] = ⊥
Behind (part ∷ parts) = Contains parts (codes "__init__")

behind_step : (b : Bool) (byte : ℕ) (parts : List (List ℕ)) → Behind parts → Behind (cond b ([] ∷ parts) (onto_first byte parts))
behind_step b byte [] h = absurd h
behind_step true byte (part ∷ parts) h = (suc h.0, omega (arith, h.1), h.2)
behind_step false byte (part ∷ parts) h = h

parts_behind : (name : List ℕ) → Behind (parts_of (name ++ 46 ∷ codes "__init__"))
parts_behind [] = let some : 0 < 1 = omega arith in (0, some, refl)
parts_behind (byte ∷ name) = behind_step (nat_eq 46 byte) byte (parts_of (name ++ 46 ∷ codes "__init__")) (parts_behind name)

lacking : (parts : List (List ℕ)) → Behind parts → All (λ part. part ≢ codes "__init__") parts → ⊥
lacking [] h all = h
lacking (part ∷ parts) h all = all (suc h.0) (codes "__init__") (omega (arith, h.1)) h.2

-- ---- names from their paths

same_names : (base first second : List ℕ) → path_of base first ≡ path_of base second → IsPlain first → IsPlain second → first ≡ second
same_names base first second e plain other =
    let rests : join_with_byte 47 (parts_of first) ≡ join_with_byte 47 (parts_of second) = append_cancel_left base (join_with_byte 47 (parts_of first)) (join_with_byte 47 (parts_of second)) e in
    let paths : map slashed first ≡ map slashed second = sym (joined_parts first) ∙ rests ∙ joined_parts second in
    sym (dotted_slashed first (plain_slashless first plain)) ∙ ap (map dotted) paths ∙ dotted_slashed second (plain_slashless second other)

longer_name : (first second : List ℕ) → map slashed first ++ codes "/__init__" ≡ map slashed second → IsSlashless first → IsSlashless second → first ++ 46 ∷ codes "__init__" ≡ second
longer_name first second e plain other =
    let back : map dotted (map slashed first ++ codes "/__init__") ≡ map dotted (map slashed first) ++ 46 ∷ codes "__init__" = map-append dotted (map slashed first) (codes "/__init__") in
    ap (λ (z : List ℕ). z ++ 46 ∷ codes "__init__") (sym (dotted_slashed first plain)) ∙ sym back ∙ ap (map dotted) e ∙ dotted_slashed second other

mixed : (base first second ending : List ℕ) → package_file base first ending ≡ plain_file base second ending → IsPlain first → IsPlain second → LacksInit second → ⊥
mixed base first second ending e plain other lacks =
    let path : path_of base first ++ codes "/__init__" ≡ path_of base second =
    append_cancel_right (path_of base first ++ codes "/__init__") (path_of base second) ending (append_assoc (path_of base first) (codes "/__init__") ending ∙ e) in
    let joined : join_with_byte 47 (parts_of first) ++ codes "/__init__" ≡ join_with_byte 47 (parts_of second) =
    append_cancel_left base (join_with_byte 47 (parts_of first) ++ codes "/__init__") (join_with_byte 47 (parts_of second)) (sym (append_assoc base (join_with_byte 47 (parts_of first)) (codes "/__init__")) ∙ path) in
    let paths : map slashed first ++ codes "/__init__" ≡ map slashed second = ap (λ (z : List ℕ). z ++ codes "/__init__") (sym (joined_parts first)) ∙ joined ∙ joined_parts second in
    let name : first ++ 46 ∷ codes "__init__" ≡ second = longer_name first second paths (plain_slashless first plain) (plain_slashless second other) in
    lacking (parts_of second) (subst (λ (z : List ℕ). Behind (parts_of z)) name (parts_behind first)) lacks

-- ---- two candidates

one_at : (x y z : List ℕ) (k : ℕ) → k < 2 → slice_index_or (x ∷ y ∷ []) k z ≡ z → (z ≡ x) ⊎ (z ≡ y)
one_at x y z zero l e = inl (sym e)
one_at x y z (suc zero) l e = inr (sym e)
one_at x y z (suc (suc k)) l e = absurd (omega (arith, l))

one_of_two : (x y z : List ℕ) → Contains (x ∷ y ∷ []) z → (z ≡ x) ⊎ (z ≡ y)
one_of_two x y z h = one_at x y z h.0 h.1 h.2

same_first : (base first second ending file : List ℕ) → (file ≡ package_file base first ending) ⊎ (file ≡ plain_file base first ending) → (file ≡ package_file base second ending) ⊎ (file ≡ plain_file base second ending)
    → IsPlain first → IsPlain second → LacksInit first → LacksInit second → first ≡ second
same_first base first second ending file (inl p) (inl q) plain other lacks lack =
    same_names base first second (append_cancel_right (path_of base first) (path_of base second) (codes "/__init__" ++ ending) (sym p ∙ q)) plain other
same_first base first second ending file (inl p) (inr q) plain other lacks lack = absurd (mixed base first second ending (sym p ∙ q) plain other lack)
same_first base first second ending file (inr p) (inl q) plain other lacks lack = absurd (mixed base second first ending (sym q ∙ p) other plain lacks)
same_first base first second ending file (inr p) (inr q) plain other lacks lack = same_names base first second (append_cancel_right (path_of base first) (path_of base second) ending (sym p ∙ q)) plain other

pub names_apart : (base ending first second : List ℕ) → IsPlain first → IsPlain second → LacksInit first → LacksInit second → first ≢ second
    → AreApart (candidates base first ending) (candidates base second ending)
names_apart base ending first second plain other lacks lack differ file here there =
    differ (same_first base first second ending file (one_of_two (package_file base first ending) (plain_file base first ending) file here)
    (one_of_two (package_file base second ending) (plain_file base second ending) file there) plain other lacks lack)
