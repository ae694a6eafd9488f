-- Names that are asked for are plain, and no longer than the name that is imported.
use Rattle.std.proofs.Common.{◌≡◌, ◌≢◌, ◌==◌, ◌&&◌, ℕ, zero, suc, get_or, ◌+◌, ◌^◌, ◌<◌, ◌≤◌, Bool, true, false, List, [], ◌∷◌, ◌++◌, length, map, nat_eq, refl, sym, ap, subst, ◌∙◌, arith, if◌then◌else◌, cond}
use Rattle.std.specs.List.{AllByRecursion, count_by, list_all, onto_first}
use Rattle.std.proofs.lemmas.Bool.{eqb-true}
use Rattle.std.proofs.lemmas.List.Splits.{length-slice_split}
use Rattle.pkg_paths.specs.Plain.{is_part, is_plain, parts_of, IsPlain}
use Rattle.library_files.specs.Asked.{prefixes, is_of_port, asked_for}
use Rattle.library_files.specs.Steps.{IsAsked, AreAsked}

-- the parts of a front are the first parts of the name
record IsFront (name front : List ℕ) : Type 0 where
  rest : List (List ℕ)
  parts : parts_of name ≡ parts_of front ++ rest
  shorter : length front ≤ length name

parts_some : (name : List ℕ) → parts_of name ≢ []
parts_some name none =
    let count : length (parts_of name) ≡ count_by (nat_eq 46) name + 1 = length-slice_split (nat_eq 46) name in
    omega (arith, count, ap length none)

longer_by : (b : Bool) (byte : ℕ) (all parts rest : List (List ℕ)) → all ≡ parts ++ rest → parts ≢ []
    → cond b ([] ∷ all) (onto_first byte all) ≡ cond b ([] ∷ parts) (onto_first byte parts) ++ rest
longer_by b byte all [] rest e some = absurd (some refl)
longer_by true byte all (part ∷ parts) rest e some = ap (λ (z : List (List ℕ)). [] ∷ z) e
longer_by false byte all (part ∷ parts) rest e some = ap (onto_first byte) e

longer : (byte : ℕ) (name front : List ℕ) → IsFront name front → IsFront (byte ∷ name) (byte ∷ front)
longer byte name front is = record {
  rest = is.rest;
  parts = longer_by (nat_eq 46 byte) byte (parts_of name) (parts_of front) is.rest is.parts (parts_some front);
  shorter = omega (arith, is.shorter);
}

all_longer : (byte : ℕ) (name : List ℕ) (fronts : List (List ℕ)) → AllByRecursion (IsFront name) fronts → AllByRecursion (IsFront (byte ∷ name)) (map (λ front. byte ∷ front) fronts)
all_longer byte name [] all = tt
all_longer byte name (front ∷ fronts) all = (longer byte name front all.0, all_longer byte name fronts all.1)

before_dot : (byte : ℕ) (name : List ℕ) → byte ≡ 46 → IsFront (byte ∷ name) []
before_dot byte name is = subst (λ b. IsFront (b ∷ name) []) (sym is) (record { rest = parts_of name; parts = refl; shorter = omega arith })

by_byte : (b : Bool) (byte : ℕ) (name : List ℕ) (fronts : List (List ℕ)) → (byte == 46) ≡ b → AllByRecursion (IsFront name) fronts
    → AllByRecursion (IsFront (byte ∷ name)) (if b then [] ∷ map (λ front. byte ∷ front) fronts else map (λ front. byte ∷ front) fronts)
by_byte true byte name fronts is all = (before_dot byte name (eqb-true byte 46 is), all_longer byte name fronts all)
by_byte false byte name fronts is all = all_longer byte name fronts all

all_fronts : (name : List ℕ) → AllByRecursion (IsFront name) (prefixes name)
all_fronts [] = (record { rest = []; parts = refl; shorter = omega arith }, tt)
all_fronts (byte ∷ name) = by_byte (byte == 46) byte name (prefixes name) refl (all_fronts name)

both : (a b : Bool) → (a && b) ≡ true → (a ≡ true) × (b ≡ true)
both true b e = (refl, e)
both false b e = absurd cc

first_parts : (parts rest : List (List ℕ)) → list_all is_part (parts ++ rest) ≡ true → list_all is_part parts ≡ true
first_parts [] rest e = refl
first_parts (part ∷ parts) rest e =
    let p = both (is_part part) (list_all is_part (parts ++ rest)) e in
    ap (λ (a : Bool). a && list_all is_part parts) p.0 ∙ first_parts parts rest p.1

plain_front : (name front : List ℕ) → IsPlain name → IsFront name front → IsPlain front
plain_front name front plain is = first_parts (parts_of front) is.rest (ap (list_all is_part) (sym is.parts) ∙ plain)

asked_fronts : (name : List ℕ) (fronts : List (List ℕ)) → IsPlain name → length name < 2 ^ 31 → AllByRecursion (IsFront name) fronts → AreAsked fronts
asked_fronts name [] plain short all = tt
asked_fronts name (front ∷ fronts) plain short all =
    let shorter = all.0.shorter in
    (record { plain = plain_front name front plain all.0; short = omega (arith, shorter, short) }, asked_fronts name fronts plain short all.1)

unless : (b : Bool) (names : List (List ℕ)) → AreAsked names → AreAsked (if b then [] else names)
unless true names all = tt
unless false names all = all

pub all_asked : (name : List ℕ) → length name < 2 ^ 31 → AreAsked (asked_for name)
all_asked name short = by (is_plain name) refl where
  by : (b : Bool) → is_plain name ≡ b → AreAsked (if b then (if is_of_port (prefixes name) then [] else prefixes name) else [])
  by true is = unless (is_of_port (prefixes name)) (prefixes name) (asked_fronts name (prefixes name) is short (all_fronts name))
  by false is = tt

pub asked_at : (names : List (List ℕ)) (place : ℕ) (name text : List ℕ) → AreAsked names → place < length names → name ≡ get_or names place name → text ≡ name → IsAsked text
asked_at [] place name text all lt is same = absurd (omega (arith, lt))
asked_at (first ∷ names) zero name text all lt is same = subst IsAsked (sym (same ∙ is)) all.0
asked_at (first ∷ names) (suc place) name text all lt is same = asked_at names place name text all.1 (omega (arith, lt)) is same
