-- Offsets that are counted up.
use Rattle.std.proofs.Common.{◌≡◌, ℕ, zero, suc, ◌+◌, ◌-◌, ◌/◌, ◌%◌, ◌^◌, ◌<◌, ◌≤◌, List, [], ◌∷◌, ◌++◌, length, get_or, set, take, refl, sym, ap, ◌∙◌, inl, inr, append_assoc, arith, length-append}
use Rattle.std.specs.Prelude.{codes, decimal}
use Rattle.std.proofs.Math.Seq.{get_or-append_seam, set-append_seam, take-set-lt, take-length}
use Rattle.std.proofs.lemmas.List.{length-take, get_or-take, get_or-set_same, set-get_or, set-append_right, length-set, take_all}
use Rattle.std.proofs.lemmas.Bool.{cases_lt}
use Rattle.std.proofs.lemmas.Fmt.{decimal_digit, decimal_step, decimal_nonempty, length-decimal-le}
use Rattle.mpy_dump.specs.declared.head.Head.{Head}
use Rattle.mpy_dump.specs.Short.{short_text, begins, IsHead}
use Rattle.mpy_dump.specs.Instructions.{head_text}

-- how long a number of 32 bits is
pub record Digits (n : ℕ) : Type 0 where
  pub some : 0 < length (decimal n)
  pub few : length (decimal n) ≤ 10

pub digits_of : (n : ℕ) → n < 2 ^ 32 → Digits n
digits_of n h = record { some = decimal_nonempty n (omega arith); few = length-decimal-le 10 n (omega arith) (omega arith) (omega arith) }

pub joined_head : {a b c d e : List ℕ} (m n : ℕ) → a ≡ [] → b ≡ a ++ decimal m → c ≡ b ++ codes " " → d ≡ c ++ decimal n → e ≡ d ++ codes " " → e ≡ head_text m n
joined_head {a} {b} {c} {d} {e} m n p q r s t =
    let first : b ≡ decimal m = q ∙ ap (λ (z : List ℕ). z ++ decimal m) p in
    let second : c ≡ decimal m ++ codes " " = r ∙ ap (λ (z : List ℕ). z ++ codes " ") first in
    let third : d ≡ (decimal m ++ codes " ") ++ decimal n = s ∙ ap (λ (z : List ℕ). z ++ decimal n) second in
    t ∙ (ap (λ (z : List ℕ). z ++ codes " ") third
    ∙ (append_assoc (decimal m ++ codes " ") (decimal n) (codes " ") ∙ append_assoc (decimal m) (codes " ") (decimal n ++ codes " ")))

-- a number's digits are some and its last
pub record LastDigit (n : ℕ) : Type 0 where
  pub front : List ℕ
  pub is : decimal n ≡ front ++ (48 + n % 10) ∷ []
  pub up : (by : ℕ) → n % 10 + by < 10 → n + by < 2 ^ 64 → decimal (n + by) ≡ front ++ (48 + n % 10 + by) ∷ []

last_digit_below : (n : ℕ) → n < 10 → LastDigit n
last_digit_below n h = record {
  front = [];
  is = decimal_digit n h ∙ ap (λ d. d ∷ []) (omega (arith, h));
  up = λ by few small. decimal_digit (n + by) (omega (arith, few, h)) ∙ ap (λ d. d ∷ []) (omega (arith, h));
}

step_up : (n by : ℕ) → 10 ≤ n → n % 10 + by < 10 → n + by < 2 ^ 64 → decimal (n + by) ≡ decimal (n / 10) ++ (48 + n % 10 + by) ∷ []
step_up n by h few small =
    let front : (n + by) / 10 ≡ n / 10 = omega (arith, few) in
    let end : 48 + (n + by) % 10 ≡ 48 + n % 10 + by = omega (arith, few) in
    decimal_step (n + by) (omega (arith, h)) small ∙ (λ i. decimal (front i) ++ (end i ∷ []))

last_digit_above : (n : ℕ) → 10 ≤ n → n < 2 ^ 64 → LastDigit n
last_digit_above n h small = record {
  front = decimal (n / 10);
  is = decimal_step n h small;
  up = λ by few fits. step_up n by h few fits;
}

pub last_digit : (n : ℕ) → n < 2 ^ 64 → LastDigit n
last_digit n small = elim (cases_lt n 10) [ inl below ↦ last_digit_below n below | inr above ↦ last_digit_above n above small ]

module _ (start line : ℕ) (bytes : List ℕ) (len last : ℕ) (text : take len bytes ≡ head_text start line) (ends : last + 1 ≡ length (decimal start)) where
  pub last_within : last < len
  last_within = omega (arith, ends, ap length text, length-take len bytes, length-append (decimal start) (codes " " ++ (decimal line ++ codes " ")))

  parted : (d : LastDigit start) → take len bytes ≡ d.front ++ (48 + start % 10) ∷ (codes " " ++ (decimal line ++ codes " "))
  parted d = text ∙ (ap (λ (z : List ℕ). z ++ (codes " " ++ (decimal line ++ codes " "))) d.is ∙ append_assoc d.front ((48 + start % 10) ∷ []) (codes " " ++ (decimal line ++ codes " ")))

  place : (d : LastDigit start) → length d.front ≡ last
  place d = omega (arith, ends, ap length d.is, length-append d.front ((48 + start % 10) ∷ []))

  pub last_is : (other : ℕ) → start < 2 ^ 64 → get_or bytes last other ≡ 48 + start % 10
  last_is other small =
      let d = last_digit start small in
      sym (get_or-take len bytes last other last_within)
      ∙ (ap (λ (z : List ℕ). get_or z last other) (parted d)
      ∙ (ap (λ n. get_or (d.front ++ (48 + start % 10) ∷ (codes " " ++ (decimal line ++ codes " "))) n other) (sym (place d))
      ∙ get_or-append_seam d.front (48 + start % 10) (codes " " ++ (decimal line ++ codes " ")) other))

  -- the last digit grows, and stays one
  pub counted : (by : ℕ) → start % 10 + by < 10 → start + by < 2 ^ 64 → take len (set bytes last (48 + start % 10 + by)) ≡ head_text (start + by) line
  counted by few small =
      let d = last_digit start (omega (arith, small)) in
      let digit = 48 + start % 10 + by in
      take-set-lt len bytes last digit last_within
      ∙ (ap (λ (z : List ℕ). set z last digit) (parted d)
      ∙ (ap (λ n. set (d.front ++ (48 + start % 10) ∷ (codes " " ++ (decimal line ++ codes " "))) n digit) (sym (place d))
      ∙ (set-append_seam d.front (48 + start % 10) (codes " " ++ (decimal line ++ codes " ")) digit
      ∙ (sym (append_assoc d.front (digit ∷ []) (codes " " ++ (decimal line ++ codes " ")))
      ∙ ap (λ (z : List ℕ). z ++ (codes " " ++ (decimal line ++ codes " "))) (sym (d.up by few small))))))

  pub same_length : (by : ℕ) → start % 10 + by < 10 → start + by < 2 ^ 64 → last + 1 ≡ length (decimal (start + by))
  same_length by few small =
      let d = last_digit start (omega (arith, small)) in
      omega (arith, ends, ap length d.is, ap length (d.up by few small), length-append d.front ((48 + start % 10) ∷ []), length-append d.front ((48 + start % 10 + by) ∷ []))

set_twice : (xs : List ℕ) (i a b : ℕ) → set (set xs i a) i b ≡ set xs i b
set_twice [] i a b = refl
set_twice (x ∷ xs) zero a b = refl
set_twice (x ∷ xs) (suc i) a b = ap (λ (z : List ℕ). x ∷ z) (set_twice xs i a b)

-- a digit that was read out of a text is put back
pub own_digit : (bytes : List ℕ) (len last : ℕ) → last < len → set (take len bytes) last (get_or bytes last 0) ≡ take len bytes
own_digit bytes len last within =
    ap (λ d. set (take len bytes) last d) (sym (get_or-take len bytes last 0 within)) ∙ set-get_or (take len bytes) last 0

module _ (start : ℕ) (head : Head) (is : IsHead start head) where
  pub last_inside : head.last < length (short_text head.text)
  last_inside =
      omega (arith, last_within start head.line (begins head) (length (begins head)) head.last (take-length (begins head) ∙ is.text) is.last, length-set (short_text head.text) head.last head.digit)

  pub digit_is : start < 2 ^ 64 → head.digit ≡ 48 + start % 10
  digit_is small =
      sym (get_or-set_same (short_text head.text) head.last head.digit 0 last_inside)
      ∙ last_is start head.line (begins head) (length (begins head)) head.last (take-length (begins head) ∙ is.text) is.last 0 small

  pub counted_text : (by : ℕ) → start % 10 + by < 10 → start + by < 2 ^ 64 → set (short_text head.text) head.last (head.digit + by) ≡ head_text (start + by) head.line
  counted_text by few small =
      let v = 48 + start % 10 + by in
      let t = take-length (begins head) ∙ is.text in
      ap (λ d. set (short_text head.text) head.last (d + by)) (digit_is (omega (arith, small)))
      ∙ (sym (set_twice (short_text head.text) head.last head.digit v)
      ∙ (sym (take_all (length (begins head)) (set (begins head) head.last v) (omega (arith, length-set (begins head) head.last v)))
      ∙ counted start head.line (begins head) (length (begins head)) head.last t is.last by few small))

  pub counted_last : (by : ℕ) → start % 10 + by < 10 → start + by < 2 ^ 64 → head.last + 1 ≡ length (decimal (start + by))
  counted_last by few small =
      same_length start head.line (begins head) (length (begins head)) head.last (take-length (begins head) ∙ is.text) is.last by few small

-- a digit is put into the end of what is held
pub set_behind : (bytes held text : List ℕ) (len at last digit : ℕ) → take len bytes ≡ held ++ text → length held ≡ at → last < length text → take len (set bytes (at + last) digit) ≡ held ++ set text last digit
set_behind bytes held text len at last digit e long within =
    let inside : at + last < len = omega (arith, long, within, ap length e, length-take len bytes, length-append held text) in
    let place : (at + last) - at ≡ last = omega arith in
    take-set-lt len bytes (at + last) digit inside
    ∙ (ap (λ (z : List ℕ). set z (at + last) digit) e
    ∙ (set-append_right held text at (at + last) digit long (omega arith) ∙ ap (λ n. held ++ set text n digit) place))
