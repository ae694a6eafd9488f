use Rattle.std.proofs.Common.{◌≡◌, ℕ, Bool, cond, ap, arith}
use Rattle.py_tokens.proofs.Lexemes.{line_ends_more}
use Rattle.py_tokens.proofs.lines.count_line_ends.Goals.{then-ends_line, else-ends_line}
use Rattle.py_tokens.proofs.lines.count_line_ends.Goals as goal

-- what a line end adds
added : Bool → ℕ
added b = cond b 1 0

pub loop-i-preserved : goal.loop-i-preserved
unfolding added
loop-i-preserved c =
    let more = line_ends_more c.args.text.now c.loop-i.i c.loop-i.count c.ends_line.result c.loop-i-test.true c.loop-i.invariant.0 c.ends_line.ensures in
    let few = c.loop-i.invariant.1 in
    elim c.if-ends_line.branch [
      | then-ends_line w ↦ (
          let step : added c.ends_line.result ≡ 1 = ap added w.if-ends_line.true in
          (omega (arith, more, step, w.count-is), omega (arith, few, w.count-is)))
      | else-ends_line w ↦ (
          let step : added c.ends_line.result ≡ 0 = ap added w.if-ends_line.false in
          (omega (arith, more, step, w.count-is), omega (arith, few, w.count-is)))
    ]
