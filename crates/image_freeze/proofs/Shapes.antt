-- What the object of a module is, and how long what is written for it.
use Rattle.std.proofs.Common.{◌≡◌, ℕ, zero, suc, ◌-◌, ◌<◌, ◌≤◌, ◌^◌, List, [], ◌∷◌, ◌++◌, length, get_or, All, ℤ, sym, ap, subst, ◌∙◌, inl, inr, arith, length-append}
use Rattle.std.specs.List.{flat_map, AllByRecursion}
use Rattle.std.proofs.lemmas.List.Elements.{All-from_recursion}
use Rattle.mpy_base.specs.Vuint.{vuint}
use Rattle.mpy_base.specs.declared.limits.TheConstants.{MAX_IMAGE_BYTES, MAX_DEPTH}
use Rattle.mpy_writer.specs.mpy_tree.declared.module.Constant.{Constant, out-Constant}
use Rattle.mpy_writer.specs.mpy_tree.declared.module.Constant.TheOpen.{Constant-F}
use Rattle.mpy_writer.specs.mpy_tree.declared.module.Constant.TheVariants as constants
use Rattle.mpy_writer.specs.mpy_tree.File.{Many, IsAscii, IsSmall, IsAtom, IsObject, IsModule}
use Rattle.mpy_writer.specs.mpy_tree.Raw.{Module}
use Rattle.mpy_writer.specs.mpy_tree.Canonical.{object_by, object_bytes}
use Rattle.mpy_writer.specs.Writable.{IsAtomBy, IsFineBy, IsFine}
use Rattle.image_freeze.proofs.Loops.{one_of_all}
use Rattle.mpy_writer.proofs.Objects.{none_is, false_is, true_is, str_is, int_is, tuple_is, tuple_bytes}

abbrev pub IsObjectOf : ℕ → Constant → Type 0
IsObjectOf levels object = (text : List ℕ) × IsObject levels text object

-- what an object keeps that has at most `levels` levels of tuples
abbrev pub Shape : ℕ → Constant-F Constant → Type 0
Shape levels Constant-F.None = Unit {0}
Shape levels Constant-F.False = Unit {0}
Shape levels Constant-F.True = Unit {0}
Shape levels (Constant-F.Str text) = IsAscii text
Shape levels (Constant-F.Int n) = IsSmall n
Shape levels (Constant-F.Tuple items) = (1 ≤ levels) × (length items < 2 ^ 31) × All (IsObjectOf (levels - 1)) items

each_of : (levels : ℕ) (text : List ℕ) (items : List Constant) → Many (IsObject levels) text items → AllByRecursion (IsObjectOf levels) items
each_of levels text [] h = tt
each_of levels text (x ∷ xs) h = ((h.0, h.2), each_of levels h.1 xs h.4)

atom_shape : (levels : ℕ) (text : List ℕ) (object : Constant) → IsAtom text object → Shape levels (out-Constant object)
atom_shape levels text object (inl h) = subst (Shape levels) (sym (ap out-Constant h.1 ∙ none_is)) tt
atom_shape levels text object (inr (inl h)) = subst (Shape levels) (sym (ap out-Constant h.1 ∙ false_is)) tt
atom_shape levels text object (inr (inr (inl h))) = subst (Shape levels) (sym (ap out-Constant h.1 ∙ true_is)) tt
atom_shape levels text object (inr (inr (inr (inl h)))) = subst (Shape levels) (sym (ap out-Constant h.object_is ∙ str_is h.own)) h.ascii
atom_shape levels text object (inr (inr (inr (inr h)))) = subst (Shape levels) (sym (ap out-Constant h.object_is ∙ int_is h.n)) h.small

pub shape : (levels : ℕ) (object : Constant) → IsObjectOf levels object → Shape levels (out-Constant object)
unfolding IsObject
shape zero object w = atom_shape zero w.0 object w.1
shape (suc levels) object w =
    elim w.1 [
      | inl atom ↦ atom_shape (suc levels) w.0 object atom
      | inr tuple ↦
          let same : levels ≡ suc levels - 1 = omega arith in
          let short = tuple.spells.small in
          let inside : All (IsObjectOf (suc levels - 1)) tuple.items = subst (λ (n : ℕ). All (IsObjectOf n) tuple.items) same (All-from_recursion (IsObjectOf levels) tuple.items (each_of levels tuple.spelled tuple.items tuple.each)) in
          subst (Shape (suc levels)) (sym (ap out-Constant tuple.object_is ∙ tuple_is tuple.items)) (omega arith, short, inside)
    ]

-- whether it may be written
-- =========================

fine_by : (levels : ℕ) (object : Constant) (form : Constant-F Constant) → out-Constant object ≡ form → IsAtomBy form → IsFine levels object
unfolding IsFine
fine_by zero object form is atom = subst IsAtomBy (sym is) atom
fine_by (suc levels) object form is atom = subst (IsFineBy (IsFine levels)) (sym is) (by form atom) where
  by : (form : Constant-F Constant) → IsAtomBy form → IsFineBy (IsFine levels) form
  by (Constant-F.Tuple items) atom = absurd atom
  by Constant-F.None atom = atom
  by Constant-F.False atom = atom
  by Constant-F.True atom = atom
  by (Constant-F.Str text) atom = atom
  by (Constant-F.Int n) atom = atom

pub none_fine : (levels : ℕ) (object : Constant) → object ≡ constants.None → IsFine levels object
none_fine levels object e = fine_by levels object Constant-F.None (ap out-Constant e ∙ none_is) tt

pub false_fine : (levels : ℕ) (object : Constant) → object ≡ constants.False → IsFine levels object
false_fine levels object e = fine_by levels object Constant-F.False (ap out-Constant e ∙ false_is) tt

pub true_fine : (levels : ℕ) (object : Constant) → object ≡ constants.True → IsFine levels object
true_fine levels object e = fine_by levels object Constant-F.True (ap out-Constant e ∙ true_is) tt

pub int_fine : (levels : ℕ) (object : Constant) (n : ℤ) → IsObjectOf levels object → object ≡ constants.Int n → IsFine levels object
int_fine levels object n w e =
    let is = ap out-Constant e ∙ int_is n in
    fine_by levels object (Constant-F.Int n) is (subst (Shape levels) is (shape levels object w))

pub str_fine : (levels : ℕ) (object : Constant) (text : List ℕ) → IsObjectOf levels object → object ≡ constants.Str text → length text ≤ MAX_IMAGE_BYTES → IsFine levels object
str_fine levels object text w e le =
    let is = ap out-Constant e ∙ str_is text in
    fine_by levels object (Constant-F.Str text) is (record { ascii = subst (Shape levels) is (shape levels object w); short = omega (arith, le) })

pub tuple_in : (levels : ℕ) (object : Constant) (items : List Constant) → IsObjectOf levels object → object ≡ constants.Tuple items → Shape levels (Constant-F.Tuple items)
tuple_in levels object items w e = subst (Shape levels) (ap out-Constant e ∙ tuple_is items) (shape levels object w)

pub tuple_fine : (levels : ℕ) (object : Constant) (items : List Constant) → IsObjectOf levels object → object ≡ constants.Tuple items → All (IsFine (levels - 1)) items → IsFine levels object
unfolding IsFine
tuple_fine zero object items w e all = let some = (tuple_in zero object items w e).0 in absurd (omega (arith, some))
tuple_fine (suc levels) object items w e all =
    let few = (tuple_in (suc levels) object items w e).1 in
    let same : suc levels - 1 ≡ levels = omega arith in
    subst (IsFineBy (IsFine levels)) (sym (ap out-Constant e ∙ tuple_is items)) (few, subst (λ (n : ℕ). All (IsFine n) items) same all)

-- how long it is
-- ==============

pub str_long : (levels : ℕ) (object : Constant) (text : List ℕ) → object ≡ constants.Str text → length text ≤ length (object_bytes levels object)
unfolding object_bytes
str_long levels object text e = by levels (ap out-Constant e ∙ str_is text) where
  count : (inner : Constant → List ℕ) → length text ≤ length (object_by inner (Constant-F.Str text))
  count inner = omega (arith, length-append (vuint (length text)) (text ++ 0 ∷ []), length-append text (0 ∷ []))

  by : (levels : ℕ) → out-Constant object ≡ Constant-F.Str text → length text ≤ length (object_bytes levels object)
  by zero is = subst (λ (z : Constant-F Constant). length text ≤ length (object_by (λ _. []) z)) (sym is) (count (λ _. []))
  by (suc levels) is = subst (λ (z : Constant-F Constant). length text ≤ length (object_by (object_bytes levels) z)) (sym is) (count (object_bytes levels))

pub tuple_long : (levels : ℕ) (object : Constant) (items : List Constant) (n : ℕ) (x : Constant) → 1 ≤ levels → object ≡ constants.Tuple items → n < length items → x ≡ get_or items n x → length (object_bytes (levels - 1) x) ≤ length (object_bytes levels object)
tuple_long levels object items n x some e lt is =
    let bytes = tuple_bytes levels (levels - 1) object items (ap out-Constant e ∙ tuple_is items) (omega (arith, some)) in
    let inside = flat_map (object_bytes (levels - 1)) items in
    let one = one_of_all (object_bytes (levels - 1)) items n x lt is in
    omega (arith, ap length bytes, one, length-append (vuint (length items)) inside)

-- those of a module
pub module_objects : (m : Module) → IsModule m → All (IsObjectOf MAX_DEPTH) m.objects
module_objects m is = All-from_recursion (IsObjectOf MAX_DEPTH) m.objects (each_of MAX_DEPTH is.1.objects m.objects is.1.are_objects)
