use Rattle.std.proofs.Common.{◌<◌, ◌≤◌, length, arith}
use Rattle.mpy_base.specs.Val.{Str}
use Rattle.emit_draft.specs.bc_scheme.Context.{constant}
use Rattle.emit_expr.proofs.Forms.{puts_item, short_str, long_str}
use Rattle.emit_expr.proofs.puts.put_str.Goals as goal

pub returns-then-text-le-MAX_NAMED : goal.returns-then-text-le-MAX_NAMED
returns-then-text-le-MAX_NAMED c s =
    let short : length c.args.text.now ≤ 10 = omega arith in
    puts_item s (constant (Str c.args.text.now)) c.in_ok-put.ensures (λ labels. short_str labels c.args.text.now c.in_ok-copy.copy c.in_ok-copy.ensures short)

pub returns : goal.returns
returns c s =
    let long : 10 < length c.args.text.now = omega arith in
    puts_item s (constant (Str c.args.text.now)) c.in_ok-put-2.ensures (λ labels. long_str labels c.args.text.now c.in_ok-copy.copy c.in_ok-copy.ensures long)
