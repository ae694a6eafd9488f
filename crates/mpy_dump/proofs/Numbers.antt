-- Numbers of at most five digits, written behind what is held, and the ends of jumps' lines.
use Rattle.std.proofs.Common.{◌≡◌, ℕ, ◌+◌, ◌/◌, ◌%◌, ◌^◌, ◌<◌, ◌≤◌, List, [], ◌∷◌, ◌++◌, length, take, drop, get_or, set, ℤ, pos, ◌+ℤ◌, sym, ap, ◌∙◌, append_assoc, arith, length-append, length-take-le, take_at}
use Rattle.std.specs.Prelude.{codes, decimal, Bool}
use Rattle.std.specs.Fmt.{signed_decimal}
use Rattle.std.proofs.Math.Seq.{set-append_seam}
use Rattle.std.proofs.lemmas.List.{take-append-drop, drop_more}
use Rattle.std.proofs.lemmas.Fmt.{decimal_digit, decimal_step}
use Rattle.mpy_tree.specs.bc_ops.declared.instr.Op.{Op}
use Rattle.mpy_tree.specs.bc_ops.declared.instr.Instr.TheVariants as instrs
use Rattle.mpy_tree.specs.Raw.{Module}
use Rattle.mpy_dump.specs.Instructions.{instr_tail}
use Rattle.mpy_dump.specs.Operations.{operation_name}

-- how many digits a number has
pub one_digit : (n : ℕ) → n < 10 → 1 ≡ length (decimal n)
one_digit n below = ap length (sym (decimal_digit n below))

one_more : (n k : ℕ) → 10 ≤ n → n < 2 ^ 64 → k ≡ length (decimal (n / 10)) → k + 1 ≡ length (decimal n)
one_more n k least small e = omega (arith, e, ap length (decimal_step n least small), length-append (decimal (n / 10)) ((48 + n % 10) ∷ []))

pub two_digits : (n : ℕ) → 10 ≤ n → n < 100 → 2 ≡ length (decimal n)
two_digits n least below = one_more n 1 least (omega (arith, below)) (one_digit (n / 10) (omega (arith, below)))

pub three_digits : (n : ℕ) → 100 ≤ n → n < 1000 → 3 ≡ length (decimal n)
three_digits n least below = one_more n 2 (omega (arith, least)) (omega (arith, below)) (two_digits (n / 10) (omega (arith, least)) (omega (arith, below)))

pub four_digits : (n : ℕ) → 1000 ≤ n → n < 10000 → 4 ≡ length (decimal n)
four_digits n least below = one_more n 3 (omega (arith, least)) (omega (arith, below)) (three_digits (n / 10) (omega (arith, least)) (omega (arith, below)))

pub five_digits : (n : ℕ) → 10000 ≤ n → n < 100000 → 5 ≡ length (decimal n)
five_digits n least below = one_more n 4 (omega (arith, least)) (omega (arith, below)) (four_digits (n / 10) (omega (arith, least)) (omega (arith, below)))

-- digits are written between what is held and the place `end`, and a byte at that
pub number_added : (old new digits : List ℕ) (len start end byte : ℕ) → start + length digits ≡ end → end ≡ len + length digits → end < length old → drop start new ≡ digits ++ drop end old → take start new ≡ take start old → take (end + 1) (set new end byte) ≡ take len old ++ (digits ++ byte ∷ [])
number_added old new digits len start end byte starts ends within written before =
    let held = take len old in
    let front = held ++ digits in
    let rest = drop (end + 1) old in
    let place : start ≡ len = omega (arith, starts, ends) in
    let kept : take start new ≡ held = before ∙ ap (λ k. take k old) place in
    let behind : drop start new ≡ digits ++ get_or old end 0 ∷ rest = written ∙ ap (λ (z : List ℕ). digits ++ z) (drop_more old end 0 within) in
    let whole : new ≡ front ++ get_or old end 0 ∷ rest = sym (take-append-drop start new) ∙ ((λ i. kept i ++ behind i) ∙ sym (append_assoc held digits (get_or old end 0 ∷ rest))) in
    let long : length front ≡ end = omega (arith, ends, length-append held digits, length-take-le len old (omega (arith, within, ends))) in
    ap (λ (z : List ℕ). take (end + 1) (set z end byte)) whole
    ∙ (ap (λ k. take (end + 1) (set (front ++ get_or old end 0 ∷ rest) k byte)) (sym long)
    ∙ (ap (take (end + 1)) (set-append_seam front (get_or old end 0) rest byte ∙ sym (append_assoc front (byte ∷ []) rest))
    ∙ (take_at (front ++ byte ∷ []) rest (end + 1) (omega (arith, long, length-append front (byte ∷ []))) ∙ append_assoc held digits (byte ∷ []))))

-- the end of a jump's line, by its name and by where it goes
pub jump_tail : (m : Module) (end target : ℕ) (name : List ℕ) (op : Op) (offset : ℤ) (wide : Bool) → pos end +ℤ offset ≡ pos target → name ≡ operation_name op ++ codes " " → instr_tail m end (instrs.Jump op offset wide) ≡ name ++ (decimal target ++ codes "\n")
jump_tail m end target name op offset wide goes is =
    ap (λ z. operation_name op ++ ((codes " " ++ signed_decimal z) ++ codes "\n")) goes
    ∙ (sym (append_assoc (operation_name op) (codes " ") (decimal target ++ codes "\n"))
    ∙ ap (λ (z : List ℕ). z ++ (decimal target ++ codes "\n")) (sym is))
