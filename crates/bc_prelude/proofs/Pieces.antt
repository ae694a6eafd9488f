-- Where the parts of a code's own bytes stand, and the first of its names.
use Rattle.std.proofs.Common.{◌≡◌, ℕ, ◌+◌, ◌<◌, ◌≤◌, List, [], ◌∷◌, ◌++◌, length, take, drop, get_or, Result, Ok, Err, sym, ap, ◌∙◌, append_assoc, arith, length-append}
use Rattle.std.proofs.lemmas.List.{drop_at, take_at}
use Rattle.mpy_base.specs.declared.vuint.VuintFault.{VuintFault}
use Rattle.mpy_base.specs.Vuint.{Spells}
use Rattle.bc_prelude.specs.declared.prelude.Prelude.{Prelude}
use Rattle.bc_prelude.specs.Prelude.{Begins}
use Rattle.bc_prelude.specs.Names.{AreNames}

abbrev head : (bytes : List ℕ) (prelude : Prelude) → Begins bytes prelude → List ℕ
head bytes prelude b = b.signature ++ b.size

abbrev front : (bytes : List ℕ) (prelude : Prelude) → Begins bytes prelude → List ℕ
front bytes prelude b = (head bytes prelude b ++ b.names) ++ b.lines

head_long : (bytes : List ℕ) (prelude : Prelude) (b : Begins bytes prelude) → length (head bytes prelude b) ≡ prelude.info_at
head_long bytes prelude b = omega (arith, b.info_at, length-append b.signature b.size)

names_end : (bytes : List ℕ) (prelude : Prelude) (b : Begins bytes prelude) → length (head bytes prelude b ++ b.names) ≡ prelude.lines_at
names_end bytes prelude b = omega (arith, b.lines_at, head_long bytes prelude b, length-append (head bytes prelude b) b.names)

front_long : (bytes : List ℕ) (prelude : Prelude) (b : Begins bytes prelude) → length (front bytes prelude b) ≡ prelude.code_at
front_long bytes prelude b = omega (arith, b.code_at, names_end bytes prelude b, length-append (head bytes prelude b ++ b.names) b.lines)

bytes_are : (bytes : List ℕ) (prelude : Prelude) (b : Begins bytes prelude) → bytes ≡ front bytes prelude b ++ b.instructions
bytes_are bytes prelude b =
    let parts : front bytes prelude b ++ b.instructions ≡ b.signature ++ (b.size ++ (b.names ++ (b.lines ++ b.instructions))) = simp append_assoc in
    b.code_is ∙ sym parts

-- the bytes up to a place, and those behind it
pub front_is : (bytes : List ℕ) (prelude : Prelude) (b : Begins bytes prelude) → take prelude.code_at bytes ≡ front bytes prelude b
front_is bytes prelude b = ap (take prelude.code_at) (bytes_are bytes prelude b) ∙ take_at (front bytes prelude b) b.instructions prelude.code_at (front_long bytes prelude b)

pub instructions_at : (bytes : List ℕ) (prelude : Prelude) (b : Begins bytes prelude) → drop prelude.code_at bytes ≡ b.instructions
instructions_at bytes prelude b =
    ap (drop prelude.code_at) (bytes_are bytes prelude b) ∙ drop_at (front bytes prelude b) b.instructions prelude.code_at (front_long bytes prelude b)

pub lines_at : (bytes : List ℕ) (prelude : Prelude) (b : Begins bytes prelude) → drop prelude.lines_at (take prelude.code_at bytes) ≡ b.lines
lines_at bytes prelude b =
    ap (drop prelude.lines_at) (front_is bytes prelude b) ∙ drop_at (head bytes prelude b ++ b.names) b.lines prelude.lines_at (names_end bytes prelude b)

pub names_at : (bytes : List ℕ) (prelude : Prelude) (b : Begins bytes prelude) → drop prelude.info_at (take prelude.lines_at (take prelude.code_at bytes)) ≡ b.names
names_at bytes prelude b =
    ap (λ (z : List ℕ). drop prelude.info_at (take prelude.lines_at z)) (front_is bytes prelude b)
    ∙ (ap (drop prelude.info_at) (take_at (head bytes prelude b ++ b.names) b.lines prelude.lines_at (names_end bytes prelude b))
    ∙ drop_at (head bytes prelude b) b.names prelude.info_at (head_long bytes prelude b))

-- the places lie in the bytes
pub record Within (bytes : List ℕ) (prelude : Prelude) : Type 0 where
  pub info : prelude.info_at ≤ prelude.lines_at
  pub lines : prelude.lines_at ≤ prelude.code_at
  pub code : prelude.code_at ≤ length bytes

pub within : (bytes : List ℕ) (prelude : Prelude) → Begins bytes prelude → Within bytes prelude
within bytes prelude b =
    let all = length-append (front bytes prelude b) b.instructions in
    let long = front_long bytes prelude b in
    let is = ap length (bytes_are bytes prelude b) in
    record { info = omega (arith, b.lines_at); lines = omega (arith, b.code_at); code = omega (arith, all, long, is) }

pub parts_short : (bytes : List ℕ) (prelude : Prelude) (b : Begins bytes prelude) → length b.lines + length b.instructions ≤ length bytes
parts_short bytes prelude b =
    omega (arith, ap length (bytes_are bytes prelude b), length-append (front bytes prelude b) b.instructions, length-append (head bytes prelude b ++ b.names) b.lines)

-- a number takes bytes
pub some_bytes : (text : List ℕ) (n : ℕ) → Spells text n → 0 < length text
some_bytes text n s = omega (arith, ap length s.groups.bytes_are, length-append s.groups.high (s.groups.last ∷ []))

pub some_names : (indexes names : List ℕ) → AreNames indexes names → 1 ≤ length indexes → 0 < length names
some_names [] names are some = absurd (omega (arith, some))
some_names (index ∷ indexes) names are some =
    omega (arith, some_bytes are.0 index are.2, ap length are.3, length-append are.0 are.1)

-- the text of the first index stands in front
pub record First (names : List ℕ) (index : ℕ) : Type 0 where
  pub text : List ℕ
  pub rest : List ℕ
  pub spells : Spells text index
  pub is : names ≡ text ++ rest

pub first_of : (indexes names : List ℕ) → AreNames indexes names → 0 < length names → First names (get_or indexes 0 0)
first_of [] names are some = absurd (omega (arith, some, ap length are))
first_of (index ∷ indexes) names are some = record { text = are.0; rest = are.1; spells = are.2; is = are.3 }

number_in : Result (ℕ × ℕ) VuintFault → ℕ
number_in (Ok found) = found.0
number_in (Err fault) = 0

pub one_number : (result : Result (ℕ × ℕ) VuintFault) (m n k l : ℕ) → result ≡ Ok (m, k) → result ≡ Ok (n, l) → m ≡ n
unfolding number_in
one_number result m n k l e f = ap number_in (sym e ∙ f)
