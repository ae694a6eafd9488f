use Rattle.std.proofs.Common.{ℕ, List, sym, ap, ◌∙◌}
use Rattle.std.specs.Prelude.{reverse}
use Rattle.prim_builtins.specs.py_primitives.Calls.{without_blanks}
use Rattle.prim_types.proofs.NumeralSteps.{blank_less, no_blank_last, no_bytes}
use Rattle.prim_types.proofs.numerals.without_end.Goals as goal

pub more-preserved : goal.more-preserved
more-preserved c = c.more.invariant ∙ blank_less c.more.rest.now c.in-Some.before.now c.in-Some.byte.now c.in-Some.ensures.cases.0 c.if-byte-ne32.false

pub returns-then-byte-ne32 : goal.returns-then-byte-ne32
returns-then-byte-ne32 c =
    sym (ap (λ (xs : List ℕ). reverse xs) c.more.invariant ∙ no_blank_last c.more.rest.now c.in-Some.before.now c.in-Some.byte.now c.in-Some.ensures.cases.0 c.if-byte-ne32.true)

pub returns : goal.returns
returns c =
    let e = no_bytes c.more.rest.now c.in_default.ensures.cases in
    e ∙ sym (ap (λ (xs : List ℕ). reverse xs) (c.more.invariant ∙ ap (λ (xs : List ℕ). without_blanks (reverse xs)) e))
