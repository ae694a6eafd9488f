use Rattle.std.proofs.Common.{◌+◌, ◌%◌, ◌^◌, ◌<◌, set, ap, ◌∙◌, arith}
use Rattle.mpy_dump.specs.Short.{short_text}
use Rattle.mpy_dump.proofs.Heads.{digit_is, counted_text, counted_last}
use Rattle.mpy_dump.proofs.head.count_up.Goals as goal

pub returns-then-digit-from-clause-is : goal.returns-then-digit-from-clause-is
returns-then-digit-from-clause-is c =
    let start = c.args.start in
    let by = c.args.by in
    let head = c.args.head.now in
    let small : start + by < 2 ^ 64 = omega (arith, c.requires.short) in
    let digit = digit_is start head c.requires.is (omega (arith, small)) in
    let few : start % 10 + by < 10 = omega (arith, digit, c.from.ensures, c.if-digit-from.true) in
    record {
      text = ap (λ d. set (short_text head.text) head.last (d + by)) c.from.ensures ∙ counted_text start head c.requires.is by few small;
      last = counted_last start head c.requires.is by few small;
    }
