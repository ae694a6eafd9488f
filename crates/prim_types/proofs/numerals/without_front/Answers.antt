use Rattle.std.proofs.Common.{sym, ap, ◌∙◌}
use Rattle.prim_builtins.specs.py_primitives.Calls.{without_blanks}
use Rattle.prim_types.proofs.NumeralSteps.{blank_more, no_blank, no_bytes}
use Rattle.prim_types.proofs.numerals.without_front.Goals as goal

pub more-preserved : goal.more-preserved
more-preserved c = c.more.invariant ∙ (ap without_blanks c.in-Some.ensures.cases.0 ∙ blank_more c.in-Some.byte.now c.in-Some.behind.now c.if-byte-ne32.false)

pub returns-then-byte-ne32 : goal.returns-then-byte-ne32
returns-then-byte-ne32 c =
    let e = c.in-Some.ensures.cases.0 in
    e ∙ sym (c.more.invariant ∙ (ap without_blanks e ∙ no_blank c.in-Some.byte.now c.in-Some.behind.now c.if-byte-ne32.true))

pub returns : goal.returns
returns c =
    let e = no_bytes c.more.rest.now c.in_default.ensures.cases in
    e ∙ sym (c.more.invariant ∙ ap without_blanks e)
