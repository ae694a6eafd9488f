-- The fronts of a name, as a walk through it meets them.
use Rattle.std.proofs.Common.{◌≡◌, ◌≢◌, ◌==◌, ◌+◌, ◌<◌, ◌≤◌, ℕ, suc, Bool, true, false, List, [], ◌∷◌, ◌++◌, length, map, take, drop, get_or, refl, sym, ap, ap₂, ◌∙◌, append_assoc, arith, if◌then◌else◌}
use Rattle.std.proofs.Math.Seq.{take-suc}
use Rattle.std.proofs.lemmas.List.{append-nil, drop_more, drop_all, take_all, map-id}
use Rattle.std.specs.List.{list_all}
use Rattle.std.proofs.lemmas.Bool.{eqb-true}
use Rattle.pkg_paths.specs.Plain.{is_word_byte, is_part}
use Rattle.library_files.specs.Asked.{front_before, prefixes}

abbrev behind : List ℕ → List (List ℕ) → List (List ℕ)
behind front names = map (λ name. front ++ name) names

-- the fronts so far, and those that end later
abbrev pub Found : (name : List ℕ) → (fronts : List (List ℕ)) → (place : ℕ) → Type 0
Found name fronts place = fronts ++ behind (take place name) (prefixes (drop place name)) ≡ prefixes name

pub none_found : (name : List ℕ) → Found name [] 0
none_found name = map-id (prefixes name)

moved : (front : List ℕ) (byte : ℕ) (names : List (List ℕ)) → behind front (map (λ name. byte ∷ name) names) ≡ behind (front ++ byte ∷ []) names
moved front byte [] = refl
moved front byte (name ∷ names) = ap₂ (λ (z : List ℕ) (zs : List (List ℕ)). z ∷ zs) (sym (append_assoc front (byte ∷ []) name)) (moved front byte names)

longer : (name : List ℕ) (place byte : ℕ) → place < length name → byte ≡ get_or name place 0 → take (place + 1) name ≡ take place name ++ byte ∷ []
longer name place byte lt is =
    let plus : place + 1 ≡ suc place = omega arith in
    ap (λ n. take n name) plus ∙ (take-suc name place 0 lt ∙ ap (λ z. take place name ++ z ∷ []) (sym is))

rest : (name : List ℕ) (place byte : ℕ) → place < length name → byte ≡ get_or name place 0 → drop place name ≡ byte ∷ drop (place + 1) name
rest name place byte lt is = drop_more name place 0 lt ∙ ap (λ z. z ∷ drop (place + 1) name) (sym is)

no_dot : (b : Bool) (byte : ℕ) (front : List ℕ) (names : List (List ℕ)) → b ≡ false
    → behind front (if b then [] ∷ map (λ name. byte ∷ name) names else map (λ name. byte ∷ name) names) ≡ behind (front ++ byte ∷ []) names
no_dot true byte front names is = absurd cc
no_dot false byte front names is = moved front byte names

a_dot : (b : Bool) (byte : ℕ) (front : List ℕ) (names : List (List ℕ)) → b ≡ true
    → behind front (if b then [] ∷ map (λ name. byte ∷ name) names else map (λ name. byte ∷ name) names) ≡ front ∷ behind (front ++ byte ∷ []) names
a_dot false byte front names is = absurd cc
a_dot true byte front names is = ap₂ (λ (z : List ℕ) (zs : List (List ℕ)). z ∷ zs) (append-nil front) (moved front byte names)

by_byte : (b : Bool) (byte : ℕ) (front : List ℕ) (names : List (List ℕ))
    → behind front (if b then [] ∷ map (λ name. byte ∷ name) names else map (λ name. byte ∷ name) names) ≡ (if b then front ∷ [] else []) ++ behind (front ++ byte ∷ []) names
by_byte true byte front names = a_dot true byte front names refl
by_byte false byte front names = no_dot false byte front names refl

-- one byte more
pub next_found : (name : List ℕ) (fronts more : List (List ℕ)) (place : ℕ) → place < length name → more ≡ fronts ++ front_before name place (get_or name place 0) → Found name fronts place → Found name more (place + 1)
next_found name fronts more place lt is found =
    let byte = get_or name place 0 in
    let later = prefixes (drop (place + 1) name) in
    let new = front_before name place byte in
    ap (λ z. z ++ behind (take (place + 1) name) later) is
    ∙ (append_assoc fronts new (behind (take (place + 1) name) later)
    ∙ (ap (λ z. fronts ++ (new ++ behind z later)) (longer name place byte lt refl)
    ∙ (ap (λ z. fronts ++ z) (sym (by_byte (byte == 46) byte (take place name) later))
    ∙ (ap (λ z. fronts ++ behind (take place name) (prefixes z)) (sym (rest name place byte lt refl)) ∙ found))))

pub no_front : (name : List ℕ) (fronts : List (List ℕ)) (place byte : ℕ) → byte ≢ 46 → fronts ≡ fronts ++ front_before name place byte
no_front name fronts place byte ne = by (byte == 46) refl where
  by : (b : Bool) → (byte == 46) ≡ b → fronts ≡ fronts ++ (if b then take place name ∷ [] else [])
  by true e = absurd (ne (eqb-true byte 46 e))
  by false e = sym (append-nil fronts)

pub one_front : (name : List ℕ) (fronts : List (List ℕ)) (place byte : ℕ) → byte ≡ 46 → fronts ++ take place name ∷ [] ≡ fronts ++ front_before name place byte
one_front name fronts place byte e = ap (λ z. fronts ++ front_before name place z) (sym e)

pub all_found : (name : List ℕ) (fronts : List (List ℕ)) (place : ℕ) → length name ≤ place → Found name fronts place → fronts ++ name ∷ [] ≡ prefixes name
all_found name fronts place le found =
    let none = drop_all place name le in
    let whole = take_all place name le in
    let front : take place name ++ [] ≡ name = append-nil (take place name) ∙ whole in
    ap (λ z. fronts ++ z ∷ []) (sym front) ∙ (ap (λ z. fronts ++ behind (take place name) (prefixes z)) (sym none) ∙ found)

-- the parts of a plain name
-- =========================

pub empty_part : (part : List ℕ) → length part ≡ 0 → false ≡ is_part part
empty_part [] e = refl
empty_part (byte ∷ part) e = absurd (omega (arith, e))

pub full_part : (part : List ℕ) → length part ≢ 0 → list_all is_word_byte part ≡ is_part part
full_part [] ne = absurd (ne refl)
full_part (byte ∷ part) ne = refl
