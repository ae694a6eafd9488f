-- The texts that walks one after another give.
use Rattle.std.proofs.Common.{◌≡◌, ◌<◌, ℕ, zero, suc, ◌+◌, List, [], ◌∷◌, ◌++◌, map, length, get_or, take, true, Option, Some, None, refl, sym, ap, ◌∙◌, arith, append_assoc}
use Rattle.std.specs.Prelude.{is_some}
use Rattle.std.specs.Option.{option_map}
use Rattle.std.specs.List.{flat_map}
use Rattle.std.proofs.lemmas.List.{append-nil, take_more, length-map}
use Rattle.std.proofs.lemmas.List.Concat.{flat_map-append}
use Rattle.std.proofs.Math.ListN.{get_or-map}
use Rattle.prim_builtins.specs.arena_heap.declared.value.Value.{Value}
use Rattle.prim_builtins.specs.arena_heap.declared.value.Value.TheVariants as values
use Rattle.prim_builtins.specs.arena_heap.declared.value.StrNo.{StrNo}
use Rattle.prim_builtins.specs.arena_heap.declared.value.ConstNo.{ConstNo}
use Rattle.mpy_base.specs.World.{Heap}
use Rattle.mpy_base.specs.Val.{Val, Nil}
use Rattle.prim_builtins.specs.py_values.Equality.{Walk}
use Rattle.prim_builtins.specs.py_primitives.Texts.{str_of, joined}
use Rattle.prim_builtins.specs.py_primitives.Walks.{go_on, walk_map, walk_all}
use Rattle.prim_builtins.specs.prim_walks.Plain.{plain, plain_heap}
use Rattle.prim_outputs.specs.Prints.{in_front}

-- the first answer and the others, if all are there
abbrev pub both : {B : Type 0} → Option B → Option (List B) → Option (List B)
both (Some y) others = option_map (λ ys. y ∷ ys) others
both None others = None

pub record Parts {B : Type 0} (first : Option B) (others : Option (List B)) (all : List B) : Type 0 where
  pub y : B
  pub ys : List B
  pub first_is : first ≡ Some y
  pub others_are : others ≡ Some ys
  pub is : all ≡ y ∷ ys

parts_of : {B : Type 0} (first : Option B) (others : Option (List B)) (all : List B) → both first others ≡ Some all → Parts first others all
parts_of (Some y) (Some ys) all h = let same : all ≡ y ∷ ys = cc in record { y = y; ys = ys; first_is = refl; others_are = refl; is = same }
parts_of (Some y) None all h = absurd cc
parts_of None others all h = absurd cc

module _ {A B : Type 0} (walk : A → Walk B) where
  go_both : (first : Option B) (visits : ℕ) (others : Walk (List B)) → (go_on first visits (λ y. walk_map (λ ys. y ∷ ys) others)).answer ≡ both first others.answer
  go_both (Some y) visits others = refl
  go_both None visits others = refl

  pub parts_at : (x : A) (xs : List A) (all : List B) → (walk_all walk (x ∷ xs)).answer ≡ Some all → Parts (walk x).answer (walk_all walk xs).answer all
  parts_at x xs all h = parts_of (walk x).answer (walk_all walk xs).answer all (sym (go_both (walk x).answer (walk x).visits (walk_all walk xs)) ∙ h)

  pub count_all : (xs : List A) (all : List B) → (walk_all walk xs).answer ≡ Some all → length all ≡ length xs
  count_all [] all h = let none : all ≡ [] = cc in ap (λ (ys : List B). length ys) none
  count_all (x ∷ xs) all h =
      let p = parts_at x xs all h in
      ap (λ (ys : List B). length ys) p.is ∙ ap suc (count_all xs p.ys p.others_are)

  pub answer_at : (d : A) (e : B) (xs : List A) (all : List B) → (walk_all walk xs).answer ≡ Some all → (i : ℕ) → i < length xs → (walk (get_or xs i d)).answer ≡ Some (get_or all i e)
  answer_at d e [] all h i lt = absurd (omega arith)
  answer_at d e (x ∷ xs) all h zero lt =
      let p = parts_at x xs all h in
      p.first_is ∙ sym (ap (λ (ys : List B). Some (get_or ys zero e)) p.is)
  answer_at d e (x ∷ xs) all h (suc i) lt =
      let p = parts_at x xs all h in
      answer_at d e xs p.ys p.others_are i (omega arith) ∙ sym (ap (λ (ys : List B). Some (get_or ys (suc i) e)) p.is)

-- one text more behind others
joined_more : (sep : List ℕ) (texts : List (List ℕ)) (text : List ℕ) → joined sep (texts ++ text ∷ []) ≡ joined sep texts ++ (in_front sep (length texts) ++ text)
joined_more sep [] text = append-nil text
joined_more sep (t ∷ texts) text =
    ap (λ (ys : List ℕ). t ++ ys) (flat_map-append (λ (x : List ℕ). sep ++ x) texts (text ∷ []) ∙ ap (λ (ys : List ℕ). flat_map (λ (x : List ℕ). sep ++ x) texts ++ ys) (append-nil (sep ++ text)))
    ∙ sym (append_assoc t (flat_map (λ (x : List ℕ). sep ++ x) texts) (sep ++ text))

length_take : (texts : List (List ℕ)) (at : ℕ) → at < length texts → length (take at texts) ≡ at
length_take [] at lt = absurd (omega arith)
length_take (t ∷ texts) zero lt = refl
length_take (t ∷ texts) (suc at) lt = ap suc (length_take texts at (omega arith))

pub joined_take : (sep : List ℕ) (texts : List (List ℕ)) (at : ℕ) → at < length texts → joined sep (take at texts) ++ (in_front sep at ++ get_or texts at []) ≡ joined sep (take (at + 1) texts)
joined_take sep texts at lt =
    sym (ap (joined sep) (take_more texts at [] lt) ∙ (joined_more sep (take at texts) (get_or texts at [])
    ∙ ap (λ (n : ℕ). joined sep (take at texts) ++ (in_front sep n ++ get_or texts at [])) (length_take texts at lt)))

-- the strs of an arena's values
module _ (texts : StrNo → Option (List ℕ)) (tuples : ConstNo → Option (List Value)) (h : Heap Value ℕ) (args : List Value) where
  abbrev pub all_strs : Option (List (List ℕ))
  all_strs = (walk_all (str_of (plain_heap texts tuples h)) (map (plain texts tuples) args)).answer

  pub count_strs : (all : List (List ℕ)) → all_strs ≡ Some all → length all ≡ length args
  count_strs all are = count_all (str_of (plain_heap texts tuples h)) (map (plain texts tuples) args) all are ∙ length-map args (plain texts tuples)

  pub str_at : (all : List (List ℕ)) → all_strs ≡ Some all → (i : ℕ) → i < length args → (str_of (plain_heap texts tuples h) (plain texts tuples (get_or args i values.None))).answer ≡ Some (get_or all i [])
  str_at all are i lt =
      let within : i < length (map (plain texts tuples) args) = omega (arith, length-map args (plain texts tuples)) in
      ap (λ (v : Val). (str_of (plain_heap texts tuples h) v).answer) (sym (get_or-map (plain texts tuples) args i values.None))
      ∙ answer_at (str_of (plain_heap texts tuples h)) Nil [] (map (plain texts tuples) args) all are i within

-- what is there
pub some_there : {A : Type 0} (o : Option A) → is_some o ≡ true → (x : A) × (o ≡ Some x)
some_there (Some x) e = (x, refl)
some_there None e = absurd cc

pub clash : {A : Type 0} (o : Option A) (x : A) → o ≡ Some x → o ≡ None → ⊥
clash o x e f = let q : Some x ≡ None = sym e ∙ f in absurd cc
