-- Bytes that are added one item after another.
use Rattle.std.proofs.Common.{◌≡◌, ℕ, ◌+◌, ◌<◌, ◌≤◌, List, [], ◌∷◌, ◌++◌, length, drop, get_or, map, Option, Some, None, Result, Err, inl, inr, refl, sym, ap, subst, ◌∙◌, arith, append_assoc, length-append}
use Rattle.std.specs.Prelude.{slice_get, unwrap_or, IsSome, OnOk}
use Rattle.std.specs.List.{flat_map}
use Rattle.std.specs.Option.{option_map}
use Rattle.std.proofs.lemmas.List.{drop_more, append-nil, length-map}
use Rattle.std.proofs.lemmas.Option.{slice_get_cases, slice_get_within, get_or_from_slice_get, slice_get-get_or}
use Rattle.std.proofs.Math.ListN.{drop_of_length-le}
use Rattle.mpy_base.specs.declared.refused.Refused.{Refused}
use Rattle.mpy_base.specs.declared.refused.Refused.TheVariants as refused
use Rattle.arena_heap.specs.declared.value.ConstNo.{ConstNo}
use Rattle.arena_heap.specs.declared.value.Value.{Value}
use Rattle.snap_grammar.specs.declared.parts.ValuePart.TheVariants as parts
use Rattle.snap_saving.specs.Put.{all_of, number}
use Rattle.snap_saving.specs.declared.fault.SaveFault.{SaveFault}
use Rattle.snap_saving.specs.Saved.{FaultBy, IfFault, IsLong}
use Rattle.snap_saving.specs.Shown.{fixed_part}

-- a constant tuple without items is the empty tuple
pub fixed_empty : (c : ConstNo) (o : Option (List Value)) → unwrap_or (option_map length o) 0 ≡ 0 → fixed_part c o ≡ parts.Empty
fixed_empty c None e = refl
fixed_empty c (Some []) e = refl
fixed_empty c (Some (v ∷ vs)) e = absurd (omega (arith, e))

pub fixed_some : (c : ConstNo) (o : Option (List Value)) → (unwrap_or (option_map length o) 0 ≡ 0 → ⊥) → fixed_part c o ≡ parts.Fixed c.«module» c.object
fixed_some c None ne = absurd (ne refl)
fixed_some c (Some []) ne = absurd (ne refl)
fixed_some c (Some (v ∷ vs)) ne = refl

-- what stands at a place and after it
pub drop_at : {X : Type 0} (xs : List X) (i : ℕ) (x : X) → slice_get xs i ≡ Some x → drop i xs ≡ x ∷ drop (i + 1) xs
drop_at {X} xs i x at = drop_more xs i x (slice_get_within xs i x at) ∙ ap (λ (z : X). z ∷ drop (i + 1) xs) (get_or_from_slice_get xs i x x at)

module _ {X : Type 0} (f : X → List ℕ) (xs : List X) where
  -- an item more is added
  pub stepped : (i : ℕ) (x : X) (out new whole : List ℕ) → slice_get xs i ≡ Some x → new ≡ out ++ f x → out ++ flat_map f (drop i xs) ≡ whole → new ++ flat_map f (drop (i + 1) xs) ≡ whole
  stepped i x out new whole at e inv =
      ap (λ (z : List ℕ). z ++ flat_map f (drop (i + 1) xs)) e
      ∙ (append_assoc out (f x) (flat_map f (drop (i + 1) xs))
      ∙ (ap (λ (ys : List X). out ++ flat_map f ys) (sym (drop_at xs i x at)) ∙ inv))

  -- an item more of a slice is added, which is read with some item for want of one
  pub added_more : (i : ℕ) (d : X) (out new whole : List ℕ) → i < length xs → new ≡ out ++ f (get_or xs i d) → out ++ flat_map f (drop i xs) ≡ whole → new ++ flat_map f (drop (i + 1) xs) ≡ whole
  added_more i d out new whole lt e inv = stepped i (get_or xs i d) out new whole (slice_get-get_or xs i d lt) e inv

  -- all are added
  pub ended : (i : ℕ) (out whole : List ℕ) → length xs ≤ i → out ++ flat_map f (drop i xs) ≡ whole → out ≡ whole
  ended i out whole le inv =
      sym (append-nil out) ∙ (ap (λ (ys : List X). out ++ flat_map f ys) (sym (drop_of_length-le xs le)) ∙ inv)

  -- bytes that are too long with an item more are too long after all
  pub part_long : (i : ℕ) (x : X) (out whole : List ℕ) → slice_get xs i ≡ Some x → out ++ flat_map f (drop i xs) ≡ whole → IsLong (out ++ f x) → IsLong whole
  part_long i x out whole at inv long =
      let e : (out ++ f x) ++ flat_map f (drop (i + 1) xs) ≡ whole = stepped i x out (out ++ f x) whole at refl inv in
      omega (arith, long, ap length e, length-append (out ++ f x) (flat_map f (drop (i + 1) xs)))

  -- what is too long already is too long after all
  pub too_long : (i : ℕ) (out whole : List ℕ) → out ++ flat_map f (drop i xs) ≡ whole → IsLong out → IsLong whole
  too_long i out whole inv long = omega (arith, long, ap length inv, length-append out (flat_map f (drop i xs)))

-- what is too long already is too long with more
pub more_long : (out rest whole : List ℕ) → out ++ rest ≡ whole → IsLong out → IsLong whole
more_long out rest whole inv long = omega (arith, long, ap length inv, length-append out rest)

-- a fault of a part is one of the whole
fault_more : (e : Refused SaveFault) (P Q : Type 0) → (P → Q) → FaultBy e P → FaultBy e Q
fault_more (refused.Fault fault) P Q f p = f p
fault_more refused.NoMemory P Q f p = p

-- the exit of a call with a part's fault
pub exit : {X : Type 0} (P Q : Type 0) (r : Result X (Refused SaveFault)) (e : Refused SaveFault) → r ≡ Err e → FaultBy e P → (P → Q) → IfFault r Q
exit {X} P Q r e is h more =
    let F : Result X (Refused SaveFault) → Type 0 = λ z. IfFault z Q in
    subst F (sym is) (fault_more e P Q more h)

-- the answer of a call with its last part
pub ok_moved : {X E : Type 0} (r : Result X E) (new x y : List ℕ) → x ≡ y → OnOk r (new ≡ x) → OnOk r (new ≡ y)
ok_moved r new x y e h = subst (λ (z : List ℕ). OnOk r (new ≡ z)) e h

pub long_moved : {X : Type 0} (r : Result X (Refused SaveFault)) (x y : List ℕ) → x ≡ y → IfFault r (IsLong x) → IfFault r (IsLong y)
long_moved r x y e h = subst (λ (z : List ℕ). IfFault r (IsLong z)) e h

-- bytes before others
pub long_front : (old a b rest : List ℕ) → IsLong ((old ++ a) ++ b) → IsLong (old ++ (a ++ (b ++ rest)))
long_front old a b rest long =
    omega (arith, long, length-append (old ++ a) b, length-append old a, length-append old (a ++ (b ++ rest)), length-append a (b ++ rest), length-append b rest)

pub long_by : (front rest : List ℕ) → IsLong front → IsLong (front ++ rest)
long_by front rest long = omega (arith, long, length-append front rest)

pub joined3 : (old a b c d : List ℕ) → (((old ++ a) ++ b) ++ c) ++ d ≡ old ++ (a ++ (b ++ (c ++ d)))
joined3 old a b c d = simp append_assoc

-- two parts, added one after the other
pub joined2 : (old one a b : List ℕ) → one ≡ old ++ a → one ++ b ≡ old ++ (a ++ b)
joined2 old one a b e = ap (λ (z : List ℕ). z ++ b) e ∙ append_assoc old a b

-- an item is there
pub is_there : {X : Type 0} (o : Option X) (xs : List X) (i : ℕ) → o ≡ slice_get xs i → i < length xs → IsSome o
is_there o xs i e lt = elim (slice_get_cases xs i).1 [
  | inl h ↦ subst IsSome (sym (e ∙ h.2)) refl
  | inr h ↦ absurd (omega (arith, lt, h.0))
]

-- how many there are, and these
flat_map-map : {X Y : Type 0} (g : X → Y) (f : Y → List ℕ) (xs : List X) → flat_map f (map g xs) ≡ flat_map (λ x. f (g x)) xs
flat_map-map g f [] = refl
flat_map-map g f (x ∷ xs) = ap (λ (z : List ℕ). f (g x) ++ z) (flat_map-map g f xs)

pub all_of_map : {X Y : Type 0} (g : X → Y) (f : Y → List ℕ) (xs : List X) → all_of f (map g xs) ≡ number (length xs) ++ flat_map (λ x. f (g x)) xs
all_of_map g f xs =
    ap (λ (n : ℕ). number n ++ flat_map f (map g xs)) (length-map xs g) ∙ ap (λ (z : List ℕ). number (length xs) ++ z) (flat_map-map g f xs)
