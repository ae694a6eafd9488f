use Rattle.std.proofs.Common.{◌≡◌, ◌+◌, ◌*◌, ◌<◌, ℕ, Bool, true, false, length, get_or, min, is_some, refl, sym, ap, ◌∙◌, subst, arith, rules}
use Rattle.py_tokens.specs.declared.digits.TheConstants.{TOO_BIG}
use Rattle.py_tokens.proofs.Values.{IsLeft, left_past_underscore, left_past_digit, stops_at_underscore, stops_at_other, value_past_underscore, value_past_digit}
use Rattle.py_tokens.proofs.digits.value_of_digits.Goals as goal
use Rattle.py_tokens.proofs.digits.value_of_digits.Goals.{then-byte-eq95+else-not-after_digit, else-byte-eq95+in_ok-digit_of}

pub returns-then-not-after_digit-clause-digits : goal.returns-then-not-after_digit-clause-digits
returns-then-not-after_digit-clause-digits c =
    let text = c.args.text.now in
    let i = c.loop-byte.byte-index in
    let within : i < length text = omega arith in
    let after : c.loop-byte.after_digit ≡ false = search rules in
    let left = subst (λ (b : Bool). IsLeft c.args.base text b i) after c.loop-byte.invariant.left in
    (λ e. absurd cc, λ h. absurd (stops_at_underscore c.args.base text i within (sym c.if-byte-eq95.true) left h))

pub returns-in_err-digit_of-clause-digits : goal.returns-in_err-digit_of-clause-digits
returns-in_err-digit_of-clause-digits c =
    let text = c.args.text.now in
    let i = c.loop-byte.byte-index in
    let within : i < length text = omega arith in
    let other = c.if-byte-eq95.false in
    let stops = stops_at_other c.args.base text c.loop-byte.after_digit i (get_or text i 0) within refl c.in_err-digit_of.ensures other c.loop-byte.invariant.left in
    let none = ap is_some c.from_residual.ensures in
    (λ some. absurd cc, λ h. absurd (stops h))

pub loop-byte-preserved : goal.loop-byte-preserved
loop-byte-preserved c =
    let text = c.args.text.now in
    let base = c.args.base in
    let i = c.loop-byte.byte-index in
    let within : i < length text = omega arith in
    elim c.if-byte-eq95.branch [
      | then-byte-eq95+else-not-after_digit w ↦ (
          let after : c.loop-byte.after_digit ≡ true = search rules in
          let is : 95 ≡ get_or text i 0 = sym w.if-byte-eq95.true in
          let left = subst (λ (b : Bool). IsLeft base text b i) after c.loop-byte.invariant.left in
          record {
            left = subst (λ (b : Bool). IsLeft base text b (i + 1)) (sym w.after_digit-is) (left_past_underscore base text i within is left);
            value = w.value-is ∙ (c.loop-byte.invariant.value ∙ ap (λ (k : ℕ). min k TOO_BIG) (sym (value_past_underscore base text i within is)));
          })
      | else-byte-eq95+in_ok-digit_of w ↦ (
          let digit = w.in_ok-digit_of.ensures in
          record {
            left = subst (λ (b : Bool). IsLeft base text b (i + 1)) (sym w.after_digit-is) (left_past_digit base text c.loop-byte.after_digit i (get_or text i 0) within refl digit.0 c.loop-byte.invariant.left);
            value = w.value-is ∙ (w.min-value.ensures ∙ (ap (λ (d : ℕ). min (base * c.loop-byte.value + d) TOO_BIG) digit.1 ∙ value_past_digit base text i (get_or text i 0) c.loop-byte.value TOO_BIG c.requires.low within refl digit.0 c.loop-byte.invariant.value));
          })
    ]
