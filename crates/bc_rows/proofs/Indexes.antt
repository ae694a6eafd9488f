-- The texts that indexes lead to, one after another.
use Rattle.std.proofs.Common.{Result, Ok, Err, ◌≡◌, ℕ, ◌+◌, ◌<◌, ◌≤◌, List, [], ◌∷◌, ◌++◌, length, drop, map, refl, sym, ap, ap₂, subst, ◌∙◌, append_assoc, length-append, arith}
use Rattle.std.specs.Prelude.{IsSome}
use Rattle.std.specs.List.{AllByRecursion}
use Rattle.std.proofs.lemmas.List.{append-nil, map-append, drop-drop, length_push, length-drop}
use Rattle.std.proofs.Math.Seq.{drop-append_seam}
use Rattle.mpy_base.specs.Vuint.{Spells}
use Rattle.mpy_base.specs.declared.vuint.VuintFault.{VuintFault}
use Rattle.bc_prelude.specs.Names.{AreNames}
use Rattle.bc_library.specs.Shelf.{Shelf, entry_at, table_text}
use Rattle.bc_library.specs.Texts.{text_numbered}
use Rattle.bc_rows.specs.Made.{AreIndexes}

-- the first of some indexes
pub record Next (shelf : Shelf) (i : ℕ) (left bytes : List ℕ) : Type 0 where
  pub index : ℕ
  pub others : List ℕ
  pub text : List ℕ
  pub rest : List ℕ
  pub left_are : left ≡ index ∷ others
  pub spells : Spells text index
  pub bytes_are : bytes ≡ text ++ rest
  pub behind : AreNames others rest
  pub some : IsSome (entry_at shelf i index)
  pub known : AllByRecursion (λ index. IsSome (entry_at shelf i index)) others

next_by : (shelf : Shelf) (i : ℕ) (left bytes : List ℕ) → 0 < length left → AreNames left bytes → AllByRecursion (λ index. IsSome (entry_at shelf i index)) left → Next shelf i left bytes
next_by shelf i [] bytes lt names known = absurd (omega (arith, lt))
next_by shelf i (index ∷ others) bytes lt names known = record {
  index = index;
  others = others;
  text = names.0;
  rest = names.1;
  left_are = refl;
  spells = names.2;
  bytes_are = names.3;
  behind = names.4;
  some = known.0;
  known = known.1;
}

-- as many are passed, and the place is behind them
pub record Walked (shelf : Shelf) (i : ℕ) (names indexes : List ℕ) (passed place : ℕ) (numbers : List ℕ) : Type 0 where
  pub done : List ℕ
  pub left : List ℕ
  pub indexes_are : indexes ≡ done ++ left
  pub count : length done ≡ passed
  pub named : map (text_numbered shelf.pool) numbers ≡ map (table_text shelf i) done
  pub left_are : AreNames left (drop place names)
  pub known : AllByRecursion (λ index. IsSome (entry_at shelf i index)) left
  pub within : place ≤ length names

pub walked_none : (shelf : Shelf) (i count : ℕ) (names numbers : List ℕ) → numbers ≡ [] → (indexes : List ℕ) → AreIndexes shelf i count names indexes → Walked shelf i names indexes 0 0 numbers
walked_none shelf i count names numbers none indexes a = record {
  done = [];
  left = indexes;
  indexes_are = refl;
  count = refl;
  named = ap (map (text_numbered shelf.pool)) none;
  left_are = a.names;
  known = a.known;
  within = omega arith;
}

pub next_of : (shelf : Shelf) (i : ℕ) (names indexes : List ℕ) (passed place : ℕ) (numbers : List ℕ) (w : Walked shelf i names indexes passed place numbers) → passed < length indexes → Next shelf i w.left (drop place names)
next_of shelf i names indexes passed place numbers w lt =
    next_by shelf i w.left (drop place names) (omega (arith, lt, ap length w.indexes_are, length-append w.done w.left, w.count)) w.left_are w.known

pub walked_more : (shelf : Shelf) (i : ℕ) (names indexes : List ℕ) (passed place : ℕ) (numbers : List ℕ) (w : Walked shelf i names indexes passed place numbers) (n : Next shelf i w.left (drop place names)) (number behind : ℕ) (more : List ℕ) → text_numbered shelf.pool number ≡ table_text shelf i n.index → behind ≡ place + length n.text → more ≡ numbers ++ number ∷ [] → Walked shelf i names indexes (passed + 1) behind more
walked_more shelf i names indexes passed place numbers w n number behind more is place_is more_is =
    let rest : drop behind names ≡ n.rest = ap (λ (z : ℕ). drop z names) place_is ∙ (sym (drop-drop (length n.text) place names) ∙ (ap (drop (length n.text)) n.bytes_are ∙ drop-append_seam n.text n.rest)) in
    record {
      done = w.done ++ n.index ∷ [];
      left = n.others;
      indexes_are = w.indexes_are ∙ (ap (λ z. w.done ++ z) n.left_are ∙ sym (append_assoc w.done (n.index ∷ []) n.others));
      count = omega (arith, length_push w.done n.index, w.count);
      named = ap (map (text_numbered shelf.pool)) more_is ∙ (map-append (text_numbered shelf.pool) numbers (number ∷ [])
          ∙ (ap₂ (λ a b. a ++ b ∷ []) w.named is ∙ sym (map-append (table_text shelf i) w.done (n.index ∷ []))));
      left_are = subst (AreNames n.others) (sym rest) n.behind;
      known = n.known;
      within = omega (arith, w.within, place_is, ap length n.bytes_are, length-append n.text n.rest, length-drop place names);
    }

-- no index is left
none_left : (left : List ℕ) → length left ≡ 0 → left ≡ []
none_left [] e = refl
none_left (index ∷ left) e = absurd (omega (arith, e))

pub walked_all : (shelf : Shelf) (i : ℕ) (names indexes : List ℕ) (passed place : ℕ) (numbers : List ℕ) → Walked shelf i names indexes passed place numbers → length indexes ≤ passed → map (text_numbered shelf.pool) numbers ≡ map (table_text shelf i) indexes
walked_all shelf i names indexes passed place numbers w le =
    let none : w.left ≡ [] = none_left w.left (omega (arith, le, ap length w.indexes_are, length-append w.done w.left, w.count)) in
    let all : indexes ≡ w.done = w.indexes_are ∙ (ap (λ z. w.done ++ z) none ∙ append-nil w.done) in
    w.named ∙ ap (map (table_text shelf i)) (sym all)

-- what is read of a place
abbrev first_of : {E : Type 0} → ℕ → Result (ℕ × ℕ) E → ℕ
first_of n (Ok p) = p.0
first_of n (Err e) = n

abbrev second_of : {E : Type 0} → ℕ → Result (ℕ × ℕ) E → ℕ
second_of n (Ok p) = p.1
second_of n (Err e) = n

abbrev read_as : ℕ → ℕ → Result (ℕ × ℕ) VuintFault
read_as index behind = Ok (index, behind)

pub both_read : (a b x y : ℕ) → read_as a x ≡ read_as b y → (a ≡ b) × (x ≡ y)
both_read a b x y e = (ap (first_of a) e, ap (second_of x) e)
