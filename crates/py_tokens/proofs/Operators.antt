-- The tables of operators, and the longest one in front.
use Rattle.std.proofs.Common.{◌≡◌, ℕ, ◌+◌, ◌*◌, ◌-◌, ◌%◌, ◌<◌, ◌≤◌, Bool, true, false, inl, inr, List, [], ◌∷◌, length, take, drop, get_or, Contains, Option, Some, refl, sym, ap, ◌∙◌, subst, arith}
use Rattle.std.specs.List.{All, AllPass}
use Rattle.std.specs.Str.{bytes_eq}
use Rattle.std.proofs.lemmas.List.{take_at, length-append, take-append-drop, length-take-le}
use Rattle.std.proofs.lemmas.List.Elements.{All-contains, All-from_recursion}
use Rattle.std.proofs.lemmas.List.Sums.{AllPass-from_list_all}
use Rattle.std.proofs.lemmas.Bool.{cases_order}
use Rattle.std.proofs.lemmas.Slice.Eq.{bytes_eq-Decides}
use Rattle.py_tokens.specs.declared.operator.Op.{Op}
use Rattle.py_tokens.specs.declared.operator.Op.TheVariants as ops
use Rattle.py_tokens.specs.declared.operator.Operator.{Operator}
use Rattle.py_tokens.specs.declared.operator.Operator.TheVariants as operators
use Rattle.py_tokens.specs.declared.operator.TheConstants.{OPS}
use Rattle.py_tokens.specs.Operator.{spelling, refused, Spells, Stands, IsLongest}

abbrev pub slot : ℕ → ℕ → ℕ → ℕ
slot len first last = (len + 60 * first + 55 * last) % 71

-- the operator in the slot of a text
unfoldable pub slotted : List ℕ → Op
slotted text = get_or OPS (slot (length text) (get_or text 0 0) (get_or text (length text - 1) 0)) ops.OpenParen

op_slotted : (op : Op) → slotted (spelling op) ≡ op
unfolding slotted
op_slotted ops.OpenParen = refl
op_slotted ops.CloseParen = refl
op_slotted ops.OpenBracket = refl
op_slotted ops.CloseBracket = refl
op_slotted ops.OpenBrace = refl
op_slotted ops.CloseBrace = refl
op_slotted ops.Comma = refl
op_slotted ops.Colon = refl
op_slotted ops.Semicolon = refl
op_slotted ops.Dot = refl
op_slotted ops.Assign = refl
op_slotted ops.Equal = refl
op_slotted ops.NotEqual = refl
op_slotted ops.Less = refl
op_slotted ops.Greater = refl
op_slotted ops.LessEqual = refl
op_slotted ops.GreaterEqual = refl
op_slotted ops.Plus = refl
op_slotted ops.Minus = refl
op_slotted ops.Star = refl
op_slotted ops.DoubleSlash = refl
op_slotted ops.Percent = refl
op_slotted ops.DoubleStar = refl
op_slotted ops.Ampersand = refl
op_slotted ops.Bar = refl
op_slotted ops.Caret = refl
op_slotted ops.Tilde = refl
op_slotted ops.ShiftLeft = refl
op_slotted ops.ShiftRight = refl
op_slotted ops.PlusAssign = refl
op_slotted ops.MinusAssign = refl
op_slotted ops.StarAssign = refl
op_slotted ops.DoubleSlashAssign = refl
op_slotted ops.PercentAssign = refl
op_slotted ops.DoubleStarAssign = refl
op_slotted ops.AmpersandAssign = refl
op_slotted ops.BarAssign = refl
op_slotted ops.CaretAssign = refl
op_slotted ops.ShiftLeftAssign = refl
op_slotted ops.ShiftRightAssign = refl

-- the operator that the code reads
pub reads : (text : List ℕ) (first last : ℕ) → first ≡ get_or text 0 0 → last ≡ get_or text (length text - 1) 0 → get_or OPS (slot (length text) first last) ops.OpenParen ≡ slotted text
unfolding slotted
reads text first last is also = ap (λ k. get_or OPS (slot (length text) k last) ops.OpenParen) is ∙ ap (λ k. get_or OPS (slot (length text) (get_or text 0 0) k) ops.OpenParen) also

is_op : (text : List ℕ) (op other : Op) → op ≡ slotted text → text ≡ spelling other → op ≡ other
is_op text op other at is = at ∙ (ap slotted is ∙ op_slotted other)

some_is : (a b : Op) → Some a ≡ Some b → a ≡ b
some_is a b e = cc

-- a text is the operator in its slot, or none
pub slot_has : (text its : List ℕ) (op : Op) (r : Bool) → op ≡ slotted text → its ≡ spelling op → r ≡ bytes_eq text its → r ≡ true → (other : Op) → (Some op ≡ Some other → text ≡ spelling other) × (text ≡ spelling other → Some op ≡ Some other)
slot_has text its op r at is eq equal other =
    let same : text ≡ its = (bytes_eq-Decides text its).0 (sym eq ∙ equal) in
    (λ e. same ∙ (is ∙ ap spelling (some_is op other e)), λ e. ap (λ x. Some x) (is_op text op other at e))

pub slot_lacks : (text its : List ℕ) (op : Op) (r : Bool) → op ≡ slotted text → its ≡ spelling op → r ≡ bytes_eq text its → r ≡ false → (other : Op) → text ≡ spelling other → ⊥
slot_lacks text its op r at is eq differs other e =
    let same : text ≡ its = e ∙ (ap spelling (sym (is_op text op other at e)) ∙ sym is) in
    let equal = (bytes_eq-Decides text its).1 same in
    cc

-- no operator that is left out is one of the others
IsNone : List ℕ → Type 0
IsNone text = bytes_eq text (spelling (slotted text)) ≡ false

all_none : All IsNone refused
unfolding IsNone slotted
all_none = All-from_recursion IsNone refused (refl, (refl, (refl, (refl, (refl, (refl, (refl, tt)))))))

pub apart : (text : List ℕ) (op : Op) → text ≡ spelling op → Contains refused text → ⊥
unfolding IsNone
apart text op is h =
    let none = All-contains IsNone refused text all_none h in
    let same : text ≡ spelling (slotted text) = is ∙ ap spelling (sym (op_slotted op) ∙ ap slotted (sym is)) in
    let equal = (bytes_eq-Decides text (spelling (slotted text))).1 same in
    cc

pub one_operator : (a b : Operator) (text : List ℕ) → Spells a text → Spells b text → a ≡ b
one_operator (operators.Op a) (operators.Op b) text is also = let same : a ≡ b = sym (op_slotted a) ∙ (ap slotted (sym is ∙ also) ∙ op_slotted b) in ap (λ op. operators.Op op) same
one_operator (operators.Op a) operators.Refused text is also = absurd (apart text a is also)
one_operator operators.Refused (operators.Op b) text is also = absurd (apart text b also is)
one_operator operators.Refused operators.Refused text is also = refl

abbrev found : Operator → Option Operator
found operator = Some operator

pub op_spells : (text : List ℕ) (op : Op) (operator : Operator) → text ≡ spelling op
    → (found (operators.Op op) ≡ found operator → Spells operator text) × (Spells operator text → found (operators.Op op) ≡ found operator)
op_spells text op operator is =
    (λ e. (let same : operators.Op op ≡ operator = cc in subst (λ a. Spells a text) same is), λ its. ap found (one_operator (operators.Op op) operator text is its))

-- what holds of each in the table
pub op_passes : (p : List ℕ → Bool) → AllPass (λ op. p (spelling op)) OPS → (op : Op) → p (spelling op) ≡ true
unfolding slotted
op_passes p all op = subst (λ it. p (spelling it) ≡ true) (op_slotted op) (all (slot (length (spelling op)) (get_or (spelling op) 0 0) (get_or (spelling op) (length (spelling op) - 1) 0)) ops.OpenParen (omega arith))

is_short : List ℕ → Bool
is_short [] = false
is_short (first ∷ []) = true
is_short (first ∷ second ∷ []) = true
is_short (first ∷ second ∷ third ∷ []) = true
is_short (first ∷ second ∷ third ∷ fourth ∷ others) = false

all_short : AllPass (λ op. is_short (spelling op)) OPS
unfolding is_short
all_short = AllPass-from_list_all (λ op. is_short (spelling op)) OPS refl

refused_short : AllPass is_short refused
unfolding is_short
refused_short = AllPass-from_list_all is_short refused refl

is_short_one : (operator : Operator) (text : List ℕ) → Spells operator text → is_short text ≡ true
is_short_one (operators.Op op) text is = subst (λ it. is_short it ≡ true) (sym is) (op_passes is_short all_short op)
is_short_one operators.Refused text is = All-contains (λ it. is_short it ≡ true) refused text refused_short is

abbrev IsShort : List ℕ → Type 0
IsShort text = (1 ≤ length text) × (length text ≤ 3)

short_if : (text : List ℕ) → is_short text ≡ true → IsShort text
unfolding is_short
short_if [] e = absurd cc
short_if (first ∷ []) e = (omega arith, omega arith)
short_if (first ∷ second ∷ []) e = (omega arith, omega arith)
short_if (first ∷ second ∷ third ∷ []) e = (omega arith, omega arith)
short_if (first ∷ second ∷ third ∷ fourth ∷ others) e = absurd cc

-- how long an operator is
pub short : (operator : Operator) (text : List ℕ) → Spells operator text → IsShort text
short operator text is = short_if text (is_short_one operator text is)

-- what stands in front is the front of its length
pub front_is : (text bytes : List ℕ) → Stands text bytes → (take (length text) bytes ≡ text) × (length text ≤ length bytes)
front_is text bytes stands =
    (ap (take (length text)) stands.1 ∙ take_at text stands.0 (length text) refl, omega (arith, ap length stands.1, length-append text stands.0))

pub one_longest : (a b : Operator) (s t bytes : List ℕ) → IsLongest a s bytes → IsLongest b t bytes → (a ≡ b) × (s ≡ t)
one_longest a b s t bytes x y =
    let same : length s ≡ length t = omega (arith, x.longest b t y.spells y.stands, y.longest a s x.spells x.stands) in
    let e : s ≡ t = sym (front_is s bytes x.stands).0 ∙ (ap (λ n. take n bytes) same ∙ (front_is t bytes y.stands).0) in
    (one_operator a b t (subst (Spells a) e x.spells) y.spells, e)

-- the front of the length is an operator
abbrev pub IsFront : ℕ → List ℕ → Operator → Type 0
IsFront n bytes operator = (n ≤ length bytes) × Spells operator (take n bytes)

-- an operator that stands in front is the front of its length
pub stands_front : (operator : Operator) (text bytes : List ℕ) (n : ℕ) → Spells operator text → Stands text bytes → n ≡ length text → IsFront n bytes operator
stands_front operator text bytes n spells stands is =
    let front = front_is text bytes stands in
    (omega (arith, front.1), subst (Spells operator) (sym front.0 ∙ ap (λ k. take k bytes) (sym is)) spells)

no_longer : (m n : ℕ) → (n < m → ⊥) → m ≤ n
no_longer m n h = omega (arith, h)

pub longest_front : (n : ℕ) (bytes : List ℕ) (operator : Operator) → n ≤ 3 → IsFront n bytes operator → ((m : ℕ) (other : Operator) → n < m → m ≤ 3 → IsFront m bytes other → ⊥) → IsLongest operator (take n bytes) bytes
longest_front n bytes operator few front none = record {
  spells = front.1;
  stands = (drop n bytes, sym (take-append-drop n bytes));
  longest = λ other its spells stands.
      no_longer (length its) (length (take n bytes)) (λ longer.
      none (length its) other (omega (arith, length-take-le n bytes front.0)) (short other its spells).1 (stands_front other its bytes (length its) spells stands refl));
}

-- no operator is as long as the front
abbrev pub HasNone : ℕ → List ℕ → Type 0
HasNone n bytes = (operator : Operator) → IsFront n bytes operator → ⊥

none_above : (n : ℕ) (bytes : List ℕ) → (n < 2 → HasNone 2 bytes) → (n < 3 → HasNone 3 bytes) → 1 ≤ n → (m : ℕ) (other : Operator) → n < m → m ≤ 3 → IsFront m bytes other → ⊥
none_above n bytes two three some m other above few front =
    elim (cases_order m 2) [
      | inl is ↦ two (omega arith) other (subst (λ k. IsFront k bytes other) is front)
      | inr others ↦ elim others [
        | inl below ↦ absurd (omega arith)
        | inr more ↦ (let is : m ≡ 3 = omega arith in three (omega arith) other (subst (λ k. IsFront k bytes other) is front))
      ]
    ]

pub longest : (n : ℕ) (bytes : List ℕ) (operator : Operator) → 1 ≤ n → n ≤ 3 → IsFront n bytes operator → (n < 2 → HasNone 2 bytes) → (n < 3 → HasNone 3 bytes) → IsLongest operator (take n bytes) bytes
longest n bytes operator some few front two three = longest_front n bytes operator few front (none_above n bytes two three some)

-- an operator and its length
abbrev pub found_at : Operator → ℕ → Option (Operator × ℕ)
found_at operator len = Some (operator, len)

pub length_front : (n : ℕ) (bytes : List ℕ) (operator : Operator) → IsFront n bytes operator → n ≡ length (take n bytes)
length_front n bytes operator front = sym (length-take-le n bytes front.0)

-- the longest is the only one
pub only : (n : ℕ) (bytes : List ℕ) (operator : Operator) → IsFront n bytes operator → IsLongest operator (take n bytes) bytes → (other : Operator) (text : List ℕ) → IsLongest other text bytes → found_at operator n ≡ found_at other (length text)
only n bytes operator front this other text that =
    let same = one_longest operator other (take n bytes) text bytes this that in
    let place : n ≡ length text = length_front n bytes operator front ∙ ap length same.1 in
    let is : operator ≡ other = same.0 in
    cc

pub some_stands : (n : ℕ) (bytes : List ℕ) (operator : Operator) → IsFront n bytes operator → ((other : Operator) (text : List ℕ) → Spells other text → Stands text bytes → ⊥) → ⊥
some_stands n bytes operator front none = none operator (take n bytes) front.1 (drop n bytes, sym (take-append-drop n bytes))

pub none_stands : (bytes : List ℕ) → HasNone 1 bytes → HasNone 2 bytes → HasNone 3 bytes → (other : Operator) (text : List ℕ) → Spells other text → Stands text bytes → ⊥
none_stands bytes one two three other text spells stands =
    let few = short other text spells in
    let front = stands_front other text bytes (length text) spells stands refl in
    elim (cases_order (length text) 2) [
      | inl is ↦ two other (subst (λ k. IsFront k bytes other) is front)
      | inr others ↦ elim others [
        | inl below ↦ (let is : length text ≡ 1 = omega arith in one other (subst (λ k. IsFront k bytes other) is front))
        | inr more ↦ (let is : length text ≡ 3 = omega arith in three other (subst (λ k. IsFront k bytes other) is front))
      ]
    ]
