use Rattle.std.proofs.Common.{arith}
use Rattle.py_tokens.proofs.Reading.{three_quotes, one_quote}
use Rattle.py_tokens.proofs.string.quotes_of.Goals as goal
use Rattle.py_tokens.proofs.string.quotes_of.Goals.{in_default-via-then-bytes-lt3, in_default-via-in-len3-up+then-first-second+else-second-third, in_default-via-in-len3-up+else-first-second}

pub returns-in-len3-up : goal.returns-in-len3-up
returns-in-len3-up c =
    three_quotes c.args.bytes.now c.in-len3-up.len_at_least c.requires c.if-first-second.true c.if-second-third.true

pub returns-in_default : goal.returns-in_default
returns-in_default c =
    one_quote c.args.bytes.now c.requires (λ some first second. elim c.in_default.branch [
      | in_default-via-then-bytes-lt3 w ↦ grind arith
      | in_default-via-in-len3-up+then-first-second+else-second-third w ↦ w.if-second-third.false second
      | in_default-via-in-len3-up+else-first-second w ↦ w.if-first-second.false first
    ])
