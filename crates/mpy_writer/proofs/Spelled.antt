-- What is written for an object spells it, and no other.
use Rattle.std.proofs.Common.{◌≡◌, ◌⊎◌, ℕ, zero, suc, ◌<◌, ◌≤◌, ◌^◌, List, [], ◌∷◌, ◌++◌, length, take, drop, get_or, ℤ, pos, negsuc, refl, sym, ap, ◌∙◌, inl, inr, arith, append_assoc}
use Rattle.std.specs.List.{flat_map, AllByRecursion}
use Rattle.std.specs.Fmt.{signed_decimal}
use Rattle.std.proofs.lemmas.Int.{ints}
use Rattle.std.proofs.lemmas.Fmt.{signed_decimal_injective, decimal_is_IsNumeral}
use Rattle.std.proofs.lemmas.List.{take_at, drop_at}
use Rattle.std.proofs.lemmas.List.Elements.{recursion_from_All}
use lib.Signed.{mag}
use Rattle.mpy_base.specs.Vuint.{vuint}
use Rattle.mpy_base.proofs.Groups.{one_number, vuint_spells}
use Rattle.mpy_tree.specs.declared.module.Constant.{Constant, out-Constant, roll-Constant, roll-out-Constant}
use Rattle.mpy_tree.specs.declared.module.Constant.TheOpen.{Constant-F}
use Rattle.mpy_tree.specs.declared.module.Constant.TheVariants as constants
use Rattle.mpy_tree.specs.File.{Many, IsDecimal, IsSmall, IsAtom, IsTuple, IsObject}
use Rattle.mpy_tree.specs.Canonical.{object_by, object_bytes}
use Rattle.mpy_writer.specs.Writable.{IsAtomBy, IsFineBy, IsFine}
use Rattle.mpy_writer.proofs.Lists.{all_of}
use Rattle.mpy_writer.proofs.Objects.{few_digits}

-- two texts of one length in front of others
pub same_front : (a b x y : List ℕ) → length a ≡ length b → a ++ x ≡ b ++ y → (a ≡ b) × (x ≡ y)
same_front a b x y size e = (
  sym (take_at a x (length b) size) ∙ (ap (take (length b)) e ∙ take_at b y (length b) refl),
  sym (drop_at a x (length b) size) ∙ (ap (drop (length b)) e ∙ drop_at b y (length b) refl),
)

-- a number in front of others
pub same_number : (m n : ℕ) (x y : List ℕ) → m < 2 ^ 31 → n < 2 ^ 31 → vuint m ++ x ≡ vuint n ++ y → (m ≡ n) × (x ≡ y)
same_number m n x y small few e =
    let both = one_number (vuint m) (vuint n) x y m n (vuint_spells m small).groups (vuint_spells n few).groups e in
    (both.1, (same_front (vuint m) (vuint n) x y (ap length both.0) e).1)

-- a text behind its length
same_text : (a b x y : List ℕ) → length a < 2 ^ 31 → length b < 2 ^ 31 → vuint (length a) ++ (a ++ x) ≡ vuint (length b) ++ (b ++ y) → (a ≡ b) × (x ≡ y)
same_text a b x y small few e =
    let numbers = same_number (length a) (length b) (a ++ x) (b ++ y) small few e in
    same_front a b x y numbers.0 numbers.1

tail_is : (a b : ℕ) (x y : List ℕ) → a ∷ x ≡ b ∷ y → x ≡ y
tail_is a b x y e = ap (drop 1) e

small_mag : (n : ℤ) → IsSmall n → mag n ≤ 2 ^ 31
small_mag (pos n) small = omega (arith, ints, small.below)
small_mag (negsuc n) small = omega (arith, ints, small.least)

few : (n : ℤ) → IsSmall n → length (signed_decimal n) < 2 ^ 31
few n small = omega (arith, few_digits n (small_mag n small))

module _ (inner : Constant → List ℕ) (Fine : Constant → Type 0) (same : (a b : Constant) → Fine a → Fine b → (x y : List ℕ) → inner a ++ x ≡ inner b ++ y → (a ≡ b) × (x ≡ y)) where
  same_items : (cs ds : List Constant) → AllByRecursion Fine cs → AllByRecursion Fine ds → length cs ≡ length ds → (x y : List ℕ) → flat_map inner cs ++ x ≡ flat_map inner ds ++ y → (cs ≡ ds) × (x ≡ y)
  same_items [] [] f g e x y h = (refl, h)
  same_items [] (b ∷ ds) f g e x y h = absurd cc
  same_items (a ∷ cs) [] f g e x y h = absurd cc
  same_items (a ∷ cs) (b ∷ ds) f g e x y h =
      let split : inner a ++ (flat_map inner cs ++ x) ≡ inner b ++ (flat_map inner ds ++ y) = sym (append_assoc (inner a) (flat_map inner cs) x) ∙ (h ∙ append_assoc (inner b) (flat_map inner ds) y) in
      let first = same a b f.0 g.0 (flat_map inner cs ++ x) (flat_map inner ds ++ y) split in
      let others = same_items cs ds f.1 g.1 (omega (arith, e)) x y first.1 in
      (ap (λ (z : Constant). z ∷ cs) first.0 ∙ ap (λ (z : List Constant). b ∷ z) others.0, others.1)

  same_form : (f g : Constant-F Constant) → IsFineBy Fine f → IsFineBy Fine g → (x y : List ℕ) → object_by inner f ++ x ≡ object_by inner g ++ y → (f ≡ g) × (x ≡ y)
  same_form Constant-F.None Constant-F.None a b x y e = (refl, tail_is 1 1 x y e)
  same_form Constant-F.False Constant-F.False a b x y e = (refl, tail_is 2 2 x y e)
  same_form Constant-F.True Constant-F.True a b x y e = (refl, tail_is 3 3 x y e)
  same_form (Constant-F.Str s) (Constant-F.Str t) a b x y e =
      let short = a.short in
      let brief = b.short in
      let rest = tail_is 5 5 _ _ e in
      let shaped : vuint (length s) ++ (s ++ ((0 ∷ []) ++ x)) ≡ vuint (length t) ++ (t ++ ((0 ∷ []) ++ y)) =
      sym (append_assoc (vuint (length s)) (s ++ 0 ∷ []) x ∙ ap (λ (z : List ℕ). vuint (length s) ++ z) (append_assoc s (0 ∷ []) x)) ∙ (rest
      ∙ (append_assoc (vuint (length t)) (t ++ 0 ∷ []) y ∙ ap (λ (z : List ℕ). vuint (length t) ++ z) (append_assoc t (0 ∷ []) y))) in
      let both = same_text s t ((0 ∷ []) ++ x) ((0 ∷ []) ++ y) (omega (arith, short)) (omega (arith, brief)) shaped in
      (ap (λ (z : List ℕ). Constant-F.Str z) both.0, tail_is 0 0 x y both.1)
  same_form (Constant-F.Int m) (Constant-F.Int n) a b x y e =
      let rest = tail_is 7 7 _ _ e in
      let shaped : vuint (length (signed_decimal m)) ++ (signed_decimal m ++ x) ≡ vuint (length (signed_decimal n)) ++ (signed_decimal n ++ y) =
      sym (append_assoc (vuint (length (signed_decimal m))) (signed_decimal m) x) ∙ (rest ∙ append_assoc (vuint (length (signed_decimal n))) (signed_decimal n) y) in
      let both = same_text (signed_decimal m) (signed_decimal n) x y (few m a) (few n b) shaped in
      (ap (λ (z : ℤ). Constant-F.Int z) (signed_decimal_injective m n (omega (arith, small_mag m a)) (omega (arith, small_mag n b)) both.0), both.1)
  same_form (Constant-F.Tuple cs) (Constant-F.Tuple ds) a b x y e =
      let rest = tail_is 10 10 _ _ e in
      let shaped : vuint (length cs) ++ (flat_map inner cs ++ x) ≡ vuint (length ds) ++ (flat_map inner ds ++ y) =
      sym (append_assoc (vuint (length cs)) (flat_map inner cs) x) ∙ (rest ∙ append_assoc (vuint (length ds)) (flat_map inner ds) y) in
      let counts = same_number (length cs) (length ds) (flat_map inner cs ++ x) (flat_map inner ds ++ y) a.0 b.0 shaped in
      let both = same_items cs ds (recursion_from_All Fine cs a.1) (recursion_from_All Fine ds b.1) counts.0 x y counts.1 in
      (ap (λ (z : List Constant). Constant-F.Tuple z) both.0, both.1)
  same_form f g a b x y e = let heads = ap (λ (z : List ℕ). get_or z 0 0) e in absurd (omega (arith, heads))

fine_atom : (Fine : Constant → Type 0) (f : Constant-F Constant) → IsAtomBy f → IsFineBy Fine f
fine_atom Fine (Constant-F.Tuple items) atom = absurd atom
fine_atom Fine Constant-F.None atom = atom
fine_atom Fine Constant-F.False atom = atom
fine_atom Fine Constant-F.True atom = atom
fine_atom Fine (Constant-F.Str text) atom = atom
fine_atom Fine (Constant-F.Int n) atom = atom

same_rolled : (a b : Constant) → out-Constant a ≡ out-Constant b → a ≡ b
same_rolled a b e = sym (roll-out-Constant a) ∙ (ap roll-Constant e ∙ roll-out-Constant b)

pub same_object : (levels : ℕ) (a b : Constant) → IsFine levels a → IsFine levels b → (x y : List ℕ) → object_bytes levels a ++ x ≡ object_bytes levels b ++ y → (a ≡ b) × (x ≡ y)
unfolding IsFine object_bytes
same_object zero a b f g x y e =
    let both = same_form (λ _. []) (λ _. ⊥) (λ a b f g x y e. absurd f) (out-Constant a) (out-Constant b) (fine_atom (λ _. ⊥) (out-Constant a) f) (fine_atom (λ _. ⊥) (out-Constant b) g) x y e in
    (same_rolled a b both.0, both.1)
same_object (suc levels) a b f g x y e =
    let both = same_form (object_bytes levels) (IsFine levels) (same_object levels) (out-Constant a) (out-Constant b) f g x y e in
    (same_rolled a b both.0, both.1)

pub one_object : (levels : ℕ) (a b : Constant) → IsFine levels a → IsFine levels b → object_bytes levels a ≡ object_bytes levels b → a ≡ b
one_object levels a b f g e = (same_object levels a b f g [] [] (ap (λ (z : List ℕ). z ++ []) e)).0

-- what is written spells the object
decimal_spelled : (n : ℤ) → IsSmall n → IsDecimal (signed_decimal n) n
decimal_spelled (pos n) small = let d = decimal_is_IsNumeral n (omega (arith, ints, small_mag (pos n) small)) in inl (d.0, ap pos (sym d.1))
decimal_spelled (negsuc n) small =
    let d = decimal_is_IsNumeral (suc n) (omega (arith, ints, small_mag (negsuc n) small)) in
    let value = d.1 in
    inr (_, refl, d.0, omega (arith, ints, value))

pub many_spelled : {A : Type 0} (Form : List ℕ → A → Type 0) (text : A → List ℕ) (xs : List A) → AllByRecursion (λ x. Form (text x) x) xs → Many Form (flat_map text xs) xs
many_spelled Form text [] all = refl
many_spelled Form text (x ∷ xs) all = (text x, flat_map text xs, all.0, refl, many_spelled Form text xs all.1)

is_rolled : (object : Constant) (form : Constant-F Constant) → out-Constant object ≡ form → object ≡ roll-Constant form
is_rolled object form e = sym (roll-out-Constant object) ∙ ap roll-Constant e

atom_spelled : (inner : Constant → List ℕ) (object : Constant) (form : Constant-F Constant) → out-Constant object ≡ form → IsAtomBy form → IsAtom (object_by inner form) object
atom_spelled inner object (Constant-F.Tuple items) e atom = absurd atom
atom_spelled inner object Constant-F.None e atom = inl (refl, is_rolled object Constant-F.None e ∙ constants.rolls-None)
atom_spelled inner object Constant-F.False e atom = inr (inl (refl, is_rolled object Constant-F.False e ∙ constants.rolls-False))
atom_spelled inner object Constant-F.True e atom = inr (inr (inl (refl, is_rolled object Constant-F.True e ∙ constants.rolls-True)))
atom_spelled inner object (Constant-F.Str text) e atom =
    let short = atom.short in
    inr (inr (inr (inl (record {
      count = vuint (length text);
      own = text;
      text_is = refl;
      spells = vuint_spells (length text) (omega (arith, short));
      ascii = atom.ascii;
      object_is = is_rolled object (Constant-F.Str text) e ∙ constants.rolls-Str text;
    }))))
atom_spelled inner object (Constant-F.Int n) e atom =
    inr (inr (inr (inr (record {
      count = vuint (length (signed_decimal n));
      digits = signed_decimal n;
      n = n;
      text_is = refl;
      spells = vuint_spells (length (signed_decimal n)) (few n atom);
      decimal = decimal_spelled n atom;
      small = atom;
      object_is = is_rolled object (Constant-F.Int n) e ∙ constants.rolls-Int n;
    }))))

tuple_spelled : (inner : Constant → List ℕ) (Inner : List ℕ → Constant → Type 0) (object : Constant) (items : List Constant) → out-Constant object ≡ Constant-F.Tuple items → length items < 2 ^ 31 → AllByRecursion (λ x. Inner (inner x) x) items → IsTuple Inner (object_by inner (Constant-F.Tuple items)) object
tuple_spelled inner Inner object items e short all = record {
  count = vuint (length items);
  spelled = flat_map inner items;
  items = items;
  text_is = refl;
  spells = vuint_spells (length items) short;
  each = many_spelled Inner inner items all;
  object_is = is_rolled object (Constant-F.Tuple items) e ∙ constants.rolls-Tuple items;
}

pub object_spelled : (levels : ℕ) (object : Constant) → IsFine levels object → IsObject levels (object_bytes levels object) object
unfolding IsFine IsObject object_bytes
object_spelled zero object fine = atom_spelled (λ _. []) object (out-Constant object) refl fine
object_spelled (suc levels) object fine = by_form (object_spelled levels) (out-Constant object) refl fine where
  by_form : ((x : Constant) → IsFine levels x → IsObject levels (object_bytes levels x) x) → (form : Constant-F Constant) → out-Constant object ≡ form → IsFineBy (IsFine levels) form → IsAtom (object_by (object_bytes levels) form) object ⊎ IsTuple (IsObject levels) (object_by (object_bytes levels) form) object
  by_form spell (Constant-F.Tuple items) e f =
      inr (tuple_spelled (object_bytes levels) (IsObject levels) object items e f.0
      (all_of (IsFine levels) (λ x. IsObject levels (object_bytes levels x) x) spell items (recursion_from_All (IsFine levels) items f.1)))
  by_form spell Constant-F.None e f = inl (atom_spelled (object_bytes levels) object Constant-F.None e f)
  by_form spell Constant-F.False e f = inl (atom_spelled (object_bytes levels) object Constant-F.False e f)
  by_form spell Constant-F.True e f = inl (atom_spelled (object_bytes levels) object Constant-F.True e f)
  by_form spell (Constant-F.Str text) e f = inl (atom_spelled (object_bytes levels) object (Constant-F.Str text) e f)
  by_form spell (Constant-F.Int n) e f = inl (atom_spelled (object_bytes levels) object (Constant-F.Int n) e f)
