use Rattle.std.proofs.Common.{ℕ, List, ◌-◌, ◌++◌, length, ap, arith, ◌∙◌}
use Rattle.mpy_dump.specs.Short.{short_text}
use Rattle.mpy_dump.proofs.Heads.{digits_of, joined_head, own_digit}
use Rattle.mpy_dump.proofs.head.head_of.Goals as goal

pub add-requires : goal.add-requires
add-requires c =
    let first = digits_of c.args.start c.ranges.start.fits in
    omega (arith, c.new-text.ensures.len, ap length c.digits.ensures, first.few)

pub overflow_sub-last : goal.overflow_sub-last
overflow_sub-last c =
    let first = digits_of c.args.start c.ranges.start.fits in
    omega (arith, c.add.ensures.len, c.new-text.ensures.len, ap length c.digits.ensures, first.some)

pub add-requires-2 : goal.add-requires-2
add-requires-2 c =
    let first = digits_of c.args.start c.ranges.start.fits in
    omega (arith, c.add.ensures.len, c.new-text.ensures.len, ap length c.digits.ensures, first.few)

pub add-requires-3 : goal.add-requires-3
add-requires-3 c =
    let first = digits_of c.args.start c.ranges.start.fits in
    let second = digits_of c.args.line c.ranges.line.fits in
    omega (arith, c.add-2.ensures.len, c.add.ensures.len, c.new-text.ensures.len, ap length c.digits.ensures, ap length c.digits-2.ensures, first.few, second.few)

pub add-requires-4 : goal.add-requires-4
add-requires-4 c =
    let first = digits_of c.args.start c.ranges.start.fits in
    let second = digits_of c.args.line c.ranges.line.fits in
    omega (arith, c.add-3.ensures.len, c.add-2.ensures.len, c.add.ensures.len, c.new-text.ensures.len, ap length c.digits.ensures, ap length c.digits-2.ensures, first.few, second.few)

pub returns-clause-is : goal.returns-clause-is
returns-clause-is c =
    let first = digits_of c.args.start c.ranges.start.fits in
    record {
      text = own_digit c.add-4.new.self.bytes c.add-4.new.self.len (c.add.new.self.len - 1) (omega (arith, c.add-4.ensures.len, c.add-3.ensures.len, c.add-2.ensures.len)) ∙ joined_head c.args.start c.args.line c.new-text.ensures.text
          (c.add.ensures.text ∙ ap (λ (z : List ℕ). short_text c.new-text.result ++ z) c.digits.ensures) c.add-2.ensures.text
          (c.add-3.ensures.text ∙ ap (λ (z : List ℕ). short_text c.add-2.new.self ++ z) c.digits-2.ensures) c.add-4.ensures.text;
      last = omega (arith, c.add.ensures.len, c.new-text.ensures.len, ap length c.digits.ensures, first.some);
    }
