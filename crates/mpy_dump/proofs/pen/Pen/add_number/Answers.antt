use Rattle.std.proofs.Common.{◌≡◌, ◌≤◌, ◌+◌, ◌++◌, length, sym, ap, ◌∙◌, rules, arith}
use Rattle.std.specs.Prelude.{codes, decimal}
use Rattle.mpy_dump.specs.Pen.{PenState}
use Rattle.mpy_dump.proofs.Numbers.{number_added}
use Rattle.mpy_dump.proofs.pen.Pen.add_number.Goals as goal

pub overflow_add-end : goal.overflow_add-end
overflow_add-end c =
    let room : c.self.inside.len + 32 ≤ 4096 = search rules in
    omega (arith, room, c.digits_of.ensures.few)

pub write_digits-requires : goal.write_digits-requires
write_digits-requires c =
    let room : c.self.inside.len + 32 ≤ length c.self.inside.bytes = search rules in
    let long : c.digits_of.result ≡ length (decimal c.from.result) = c.digits_of.ensures.is ∙ ap (λ n. length (decimal n)) (sym c.from.ensures) in
    (omega (arith, long), omega (arith, room, c.digits_of.ensures.few))

pub bounds-self-inside-end : goal.bounds-self-inside-end
bounds-self-inside-end c =
    let room : c.self.inside.len + 32 ≤ 4096 = search rules in
    omega (arith, room, c.digits_of.ensures.few)

pub invariant_of-self : goal.invariant_of-self
invariant_of-self c =
    let room : c.self.inside.len + 32 ≤ 4096 = search rules in
    omega (arith, room, c.digits_of.ensures.few)

pub returns : goal.returns
returns c =
    let len = c.self.inside.len in
    let room : len + 32 ≤ length c.self.inside.bytes = search rules in
    let long : c.digits_of.result ≡ length (decimal c.from.result) = c.digits_of.ensures.is ∙ ap (λ n. length (decimal n)) (sym c.from.ensures) in
    number_added c.self.inside.bytes c.write_digits.new.buf (decimal c.from.result) len c.write_digits.result (len + c.digits_of.result) 10 c.write_digits.ensures.start (ap (λ d. len + d) long) (omega (arith, room, c.digits_of.ensures.few)) c.write_digits.ensures.written c.write_digits.ensures.before
    ∙ (ap (λ (p : PenState). p.text ++ (decimal c.from.result ++ codes "\n")) c.self.view_is
    ∙ ap (λ n. c.args.self.now.text ++ (decimal n ++ codes "\n")) c.from.ensures)
