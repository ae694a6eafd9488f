-- Objects as they are written.
use Rattle.std.proofs.Common.{◌≡◌, ℕ, zero, suc, ◌-◌, ◌<◌, ◌≤◌, ◌^◌, List, [], ◌∷◌, ◌++◌, length, All, ℤ, w32, to_z, of_z, sym, ap, subst, ◌∙◌, arith}
use Rattle.std.specs.List.{flat_map}
use Rattle.std.specs.Fmt.{signed_decimal}
use Rattle.std.proofs.lemmas.Fmt.{length_signed_le}
use Rattle.std.proofs.lemmas.Int.{ints, to_z-of_z}
use Rattle.mpy_base.specs.Vuint.{vuint}
use lib.Signed.{mag}
use Rattle.mpy_tree.specs.declared.module.Constant.{Constant, out-Constant, out-roll-Constant}
use Rattle.mpy_tree.specs.declared.module.Constant.TheVariants as constants
use Rattle.mpy_tree.specs.declared.module.Constant.TheOpen.{Constant-F}
use Rattle.mpy_tree.specs.File.{IsSmall}
use Rattle.mpy_tree.specs.Canonical.{object_by, object_bytes}
use Rattle.mpy_writer.specs.Writable.{IsText, IsAtomBy, IsFineBy, IsFine}

-- an object that is no tuple is written alike at each level
pub atom_bytes : (levels : ℕ) (object : Constant) (form : Constant-F Constant) → out-Constant object ≡ form → IsAtomBy form → object_bytes levels object ≡ object_by (λ _. []) form
unfolding object_bytes
atom_bytes levels object (Constant-F.Tuple items) is atom = absurd atom
atom_bytes zero object form is atom = ap (object_by (λ _. [])) is
atom_bytes (suc levels) object Constant-F.None is atom = ap (object_by (object_bytes levels)) is
atom_bytes (suc levels) object Constant-F.False is atom = ap (object_by (object_bytes levels)) is
atom_bytes (suc levels) object Constant-F.True is atom = ap (object_by (object_bytes levels)) is
atom_bytes (suc levels) object (Constant-F.Str text) is atom = ap (object_by (object_bytes levels)) is
atom_bytes (suc levels) object (Constant-F.Int n) is atom = ap (object_by (object_bytes levels)) is

pub tuple_bytes : (levels below : ℕ) (object : Constant) (items : List Constant) → out-Constant object ≡ Constant-F.Tuple items → levels ≡ suc below → object_bytes levels object ≡ object_by (object_bytes below) (Constant-F.Tuple items)
unfolding object_bytes
tuple_bytes zero below object items is e = absurd cc
tuple_bytes (suc levels) below object items is e = let same : levels ≡ below = omega (arith, e) in ap (object_by (object_bytes levels)) is ∙ ap (λ (n : ℕ). object_by (object_bytes n) (Constant-F.Tuple items)) same

-- what a fine object keeps
pub str_is : (text : List ℕ) → out-Constant (constants.Str text) ≡ Constant-F.Str text
str_is text = ap out-Constant (sym (constants.rolls-Str text)) ∙ out-roll-Constant (Constant-F.Str text)

pub int_is : (n : ℤ) → out-Constant (constants.Int n) ≡ Constant-F.Int n
int_is n = ap out-Constant (sym (constants.rolls-Int n)) ∙ out-roll-Constant (Constant-F.Int n)

pub tuple_is : (items : List Constant) → out-Constant (constants.Tuple items) ≡ Constant-F.Tuple items
tuple_is items = ap out-Constant (sym (constants.rolls-Tuple items)) ∙ out-roll-Constant (Constant-F.Tuple items)

pub none_is : out-Constant constants.None ≡ Constant-F.None
none_is = ap out-Constant (sym constants.rolls-None) ∙ out-roll-Constant Constant-F.None

pub false_is : out-Constant constants.False ≡ Constant-F.False
false_is = ap out-Constant (sym constants.rolls-False) ∙ out-roll-Constant Constant-F.False

pub true_is : out-Constant constants.True ≡ Constant-F.True
true_is = ap out-Constant (sym constants.rolls-True) ∙ out-roll-Constant Constant-F.True

pub fine_text : (levels : ℕ) (object : Constant) (text : List ℕ) → IsFine levels object → object ≡ constants.Str text → IsText text
unfolding IsFine
fine_text zero object text fine is = subst IsAtomBy (ap out-Constant is ∙ str_is text) fine
fine_text (suc levels) object text fine is = subst (IsFineBy (IsFine levels)) (ap out-Constant is ∙ str_is text) fine

pub fine_int : (levels : ℕ) (object : Constant) (n : ℤ) → IsFine levels object → object ≡ constants.Int n → IsSmall n
unfolding IsFine
fine_int zero object n fine is = subst IsAtomBy (ap out-Constant is ∙ int_is n) fine
fine_int (suc levels) object n fine is = subst (IsFineBy (IsFine levels)) (ap out-Constant is ∙ int_is n) fine

-- a small integer keeps its value in four bytes
pub kept : (n : ℤ) → IsSmall n → to_z w32 (of_z w32 n) ≡ n
kept n small = to_z-of_z w32 n (omega (arith, ints, small.least, small.below))

pub record FineTuple (levels : ℕ) (items : List Constant) : Type 0 where
  pub some_level : 1 ≤ levels
  pub short : length items < 2 ^ 31
  pub fine : All (IsFine (levels - 1)) items

pub fine_tuple : (levels : ℕ) (object : Constant) (items : List Constant) → IsFine levels object → object ≡ constants.Tuple items → FineTuple levels items
unfolding IsFine
fine_tuple zero object items fine is = absurd (subst IsAtomBy (ap out-Constant is ∙ tuple_is items) fine)
fine_tuple (suc levels) object items fine is =
    let both = subst (IsFineBy (IsFine levels)) (ap out-Constant is ∙ tuple_is items) fine in
    let same : levels ≡ suc levels - 1 = omega arith in
    record { some_level = omega arith; short = both.0; fine = subst (λ (n : ℕ). All (IsFine n) items) same both.1 }

-- the digits of an integer are few
pub few_digits : (n : ℤ) → mag n ≤ 2 ^ 31 → length (signed_decimal n) ≤ 11
few_digits n small = length_signed_le 10 n (omega arith) (omega arith)

-- what is written for a tuple
pub tuple_written : (levels : ℕ) (object : Constant) (items : List Constant) → IsFine levels object → object ≡ constants.Tuple items → object_bytes levels object ≡ 10 ∷ (vuint (length items) ++ flat_map (object_bytes (levels - 1)) items)
tuple_written levels object items fine is =
    let f = fine_tuple levels object items fine is in
    let some = f.some_level in
    tuple_bytes levels (levels - 1) object items (ap out-Constant is ∙ tuple_is items) (omega (arith, some))
