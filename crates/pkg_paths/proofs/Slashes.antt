-- Names with `/` for each dot, and back.
use Rattle.std.proofs.Common.{◌≡◌, ◌⊎◌, ◌<◌, ◌≤◌, ◌||◌, ◌&&◌, ◌+◌, ℕ, Bool, true, false, cond, List, [], ◌∷◌, ◌++◌, map, length, nat_eq, nat_le, if◌then◌else◌, IsUtf8, IsAscii, codes, zero, suc, inl, inr, refl, sym, ap, ap₂, ◌∙◌, arith, subst, true≢false}
use Rattle.std.specs.List.{All, AllByRecursion, onto_first, join_with_byte, list_all, count_by}
use Rattle.std.specs.Char.{is_ascii_alphanumeric}
use Rattle.std.specs.Int.{is_in_range}
use Rattle.std.proofs.lemmas.Bool.{eqb-true, leb-true}
use Rattle.std.proofs.lemmas.List.Elements.{All-from_recursion}
use Rattle.std.proofs.lemmas.List.Splits.{length-slice_split}
use Rattle.std.proofs.lemmas.Str.{IsUtf8-append, IsUtf8-from_ascii}
use Rattle.pkg_paths.specs.Plain.{parts_of, is_word_byte, is_part, IsPlain}
use Rattle.pkg_paths.specs.Paths.{path_of, package_file, plain_file}

-- a byte of a name, in its path
abbrev pub slashed : ℕ → ℕ
slashed byte = if nat_eq 46 byte then 47 else byte

-- and back
abbrev pub dotted : ℕ → ℕ
dotted byte = if nat_eq 47 byte then 46 else byte

-- ---- the path of a name is the name with `/` for each dot

joined_step : (b : Bool) (byte : ℕ) (parts : List (List ℕ)) → 0 < length parts → nat_eq 46 byte ≡ b
    → join_with_byte 47 (cond b ([] ∷ parts) (onto_first byte parts)) ≡ (if b then 47 else byte) ∷ join_with_byte 47 parts
joined_step b byte [] some is = absurd (omega (arith, some))
joined_step true byte (part ∷ parts) some is = refl
joined_step false byte (part ∷ []) some is = refl
joined_step false byte (part ∷ next ∷ parts) some is = refl

pub joined_parts : (name : List ℕ) → join_with_byte 47 (parts_of name) ≡ map slashed name
joined_parts [] = refl
joined_parts (byte ∷ name) =
    let count : length (parts_of name) ≡ count_by (nat_eq 46) name + 1 = length-slice_split (nat_eq 46) name in
    joined_step (nat_eq 46 byte) byte (parts_of name) (omega (arith, count)) refl ∙ ap (λ (z : List ℕ). slashed byte ∷ z) (joined_parts name)

-- ---- the bytes of a plain name

pub both : (a b : Bool) → (a && b) ≡ true → (a ≡ true) × (b ≡ true)
both true b e = (refl, e)
both false b e = absurd (true≢false (sym e))

either : (a b : Bool) → (a || b) ≡ true → (a ≡ true) ⊎ (b ≡ true)
either true b e = inl refl
either false b e = inr e

second : (a b : Bool) → b ≡ true → (a || b) ≡ true
second true b e = refl
second false b e = e

-- a dot, or a byte of a part
abbrev is_name_byte : ℕ → Bool
is_name_byte byte = nat_eq 46 byte || is_word_byte byte

abbrev pub IsSlashless : List ℕ → Type 0
IsSlashless name = list_all is_name_byte name ≡ true

each_of_words : (parts : List (List ℕ)) → list_all is_part parts ≡ true → list_all (λ part. list_all is_word_byte part) parts ≡ true
each_of_words [] e = refl
each_of_words ([] ∷ parts) e = absurd (true≢false (sym e))
each_of_words ((byte ∷ part) ∷ parts) e =
    let p = both (is_word_byte byte && list_all is_word_byte part) (list_all is_part parts) e in
    ap₂ (λ (a b : Bool). a && b) p.0 (each_of_words parts p.1)

split_step : (b : Bool) (byte : ℕ) (parts : List (List ℕ)) → 0 < length parts → nat_eq 46 byte ≡ b
    → list_all (λ part. list_all is_word_byte part) (cond b ([] ∷ parts) (onto_first byte parts)) ≡ true
    → (is_name_byte byte ≡ true) × (list_all (λ part. list_all is_word_byte part) parts ≡ true)
split_step b byte [] some is e = absurd (omega (arith, some))
split_step true byte (part ∷ parts) some is e = (ap (λ (a : Bool). a || is_word_byte byte) is, e)
split_step false byte (part ∷ parts) some is e =
    let p = both (is_word_byte byte && list_all is_word_byte part) (list_all (λ part. list_all is_word_byte part) parts) e in
    let q = both (is_word_byte byte) (list_all is_word_byte part) p.0 in
    (second (nat_eq 46 byte) (is_word_byte byte) q.0, ap₂ (λ (a b : Bool). a && b) q.1 p.1)

whole_of_words : (name : List ℕ) → list_all (λ part. list_all is_word_byte part) (parts_of name) ≡ true → IsSlashless name
whole_of_words [] e = refl
whole_of_words (byte ∷ name) e =
    let count : length (parts_of name) ≡ count_by (nat_eq 46) name + 1 = length-slice_split (nat_eq 46) name in
    let p = split_step (nat_eq 46 byte) byte (parts_of name) (omega (arith, count)) refl e in
    ap₂ (λ (a b : Bool). a && b) p.0 (whole_of_words name p.1)

pub plain_slashless : (name : List ℕ) → IsPlain name → IsSlashless name
plain_slashless name plain = whole_of_words name (each_of_words (parts_of name) plain)

-- ---- back from the path

not_slash : (byte : ℕ) → is_name_byte byte ≡ true → nat_eq 47 byte ≡ true → ⊥
not_slash byte e is = true≢false (sym e ∙ ap is_name_byte (sym (eqb-true 47 byte is)))

back_again : (a b : Bool) (byte : ℕ) → nat_eq 46 byte ≡ a → nat_eq 47 byte ≡ b → is_name_byte byte ≡ true → dotted (if a then 47 else byte) ≡ byte
back_again true b byte is other e = eqb-true 46 byte is
back_again false true byte is other e = absurd (not_slash byte e other)
back_again false false byte is other e = ap (λ (z : Bool). if z then 46 else byte) other

pub dotted_slashed : (name : List ℕ) → IsSlashless name → map dotted (map slashed name) ≡ name
dotted_slashed [] e = refl
dotted_slashed (byte ∷ name) e =
    let p = both (is_name_byte byte) (list_all is_name_byte name) e in
    ap₂ (λ (b : ℕ) (bs : List ℕ). b ∷ bs) (back_again (nat_eq 46 byte) (nat_eq 47 byte) byte refl refl p.0) (dotted_slashed name p.1)

-- ---- a path of a plain name is ASCII

in_range : (low high byte : ℕ) → is_in_range low high byte ≡ true → byte ≤ high
in_range low high byte e = leb-true byte high (both (nat_le low byte) (nat_le byte high) e).1

alphanumeric : (byte : ℕ) → is_ascii_alphanumeric byte ≡ true → byte < 128
alphanumeric byte e = elim (either (is_in_range 48 57 byte || is_in_range 65 90 byte) (is_in_range 97 122 byte) e) [
  | inl p ↦ elim (either (is_in_range 48 57 byte) (is_in_range 65 90 byte) p)
      [ inl q ↦ omega (arith, in_range 48 57 byte q) | inr q ↦ omega (arith, in_range 65 90 byte q) ]
  | inr p ↦ omega (arith, in_range 97 122 byte p)
]

word_byte : (byte : ℕ) → is_word_byte byte ≡ true → byte < 128
word_byte byte e = elim (either (is_ascii_alphanumeric byte) (nat_eq byte 95) e) [ inl p ↦ alphanumeric byte p | inr p ↦ omega (arith, eqb-true byte 95 p) ]

name_byte : (byte : ℕ) → is_name_byte byte ≡ true → slashed byte < 128
name_byte byte e = by_test (nat_eq 46 byte) refl where
  by_test : (b : Bool) → nat_eq 46 byte ≡ b → (if b then 47 else byte) < 128
  by_test true is = omega arith
  by_test false is = word_byte byte (ap (λ (z : Bool). z || is_word_byte byte) (sym is) ∙ e)

slashed_ascii : (name : List ℕ) → IsSlashless name → IsAscii (map slashed name)
slashed_ascii [] e i = omega arith
slashed_ascii (byte ∷ name) e zero = name_byte byte (both (is_name_byte byte) (list_all is_name_byte name) e).0
slashed_ascii (byte ∷ name) e (suc i) = slashed_ascii name (both (is_name_byte byte) (list_all is_name_byte name) e).1 i

-- ---- a plain name is ASCII

below_128 : (byte : ℕ) → is_name_byte byte ≡ true → byte < 128
below_128 byte e = by_test (nat_eq 46 byte) refl where
  by_test : (b : Bool) → nat_eq 46 byte ≡ b → byte < 128
  by_test true is = omega (arith, eqb-true 46 byte is)
  by_test false is = word_byte byte (ap (λ (z : Bool). z || is_word_byte byte) (sym is) ∙ e)

name_ascii : (name : List ℕ) → IsSlashless name → AllByRecursion (λ byte. byte < 128) name
name_ascii [] e = tt
name_ascii (byte ∷ name) e =
    let p = both (is_name_byte byte) (list_all is_name_byte name) e in
    (below_128 byte p.0, name_ascii name p.1)

pub plain_ascii : (name : List ℕ) → IsPlain name → All (λ byte. byte < 128) name
plain_ascii name plain = All-from_recursion (λ byte. byte < 128) name (name_ascii name (plain_slashless name plain))

-- ---- the candidates of a plain name are UTF-8

path_utf8 : (base name : List ℕ) → IsUtf8 base → IsPlain name → IsUtf8 (path_of base name)
path_utf8 base name whole plain =
    let path : IsUtf8 (map slashed name) = IsUtf8-from_ascii (map slashed name) (slashed_ascii name (plain_slashless name plain)) in
    IsUtf8-append base (join_with_byte 47 (parts_of name)) whole (subst IsUtf8 (sym (joined_parts name)) path)

init_utf8 : IsUtf8 (codes "/__init__")
init_utf8 = IsUtf8-from_ascii (codes "/__init__") (slashed_ascii (codes ".__init__") refl)

pub package_utf8 : (base name ending text : List ℕ) → text ≡ package_file base name ending → IsUtf8 base → IsPlain name → IsUtf8 ending → IsUtf8 text
package_utf8 base name ending text is whole plain last =
    let behind : IsUtf8 (codes "/__init__" ++ ending) = IsUtf8-append (codes "/__init__") ending init_utf8 last in
    subst IsUtf8 (sym is) (IsUtf8-append (path_of base name) (codes "/__init__" ++ ending) (path_utf8 base name whole plain) behind)

pub plain_utf8 : (base name ending text : List ℕ) → text ≡ plain_file base name ending → IsUtf8 base → IsPlain name → IsUtf8 ending → IsUtf8 text
plain_utf8 base name ending text is whole plain last = subst IsUtf8 (sym is) (IsUtf8-append (path_of base name) ending (path_utf8 base name whole plain) last)
