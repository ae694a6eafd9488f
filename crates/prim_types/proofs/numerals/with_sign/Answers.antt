use Rattle.std.proofs.Common.{ℤ, Option, sym, ap, subst}
use Rattle.mpy_base.specs.Val.{Val}
use Rattle.prim_builtins.specs.py_primitives.Outcome.{Outcome}
use Rattle.prim_builtins.specs.py_primitives.Calls.{gives_numeral}
use Rattle.prim_builtins.specs.prim_walks.Plain.{plain_heap}
use Rattle.prim_builtins.specs.prim_faults.Outcomes.{IsOutcome}
use Rattle.prim_types.proofs.NumeralSteps.{minus, plus, unsigned}
use Rattle.prim_types.proofs.numerals.with_sign.Goals as goal

pub returns-then-byte-eq45 : goal.returns-then-byte-eq45
returns-then-byte-eq45 c = λ texts tuples h all.
    subst (λ (o : Outcome Val). IsOutcome texts tuples h h c.negative.result o) (sym (ap (λ (o : Option ℤ). gives_numeral (plain_heap texts tuples h) o) (minus c.args.bytes.now c.args.digits.now c.args.byte c.requires c.if-byte-eq45.true))) (c.negative.ensures texts tuples h all)

pub returns-then-byte-eq43 : goal.returns-then-byte-eq43
returns-then-byte-eq43 c = λ texts tuples h all.
    subst (λ (o : Outcome Val). IsOutcome texts tuples h h c.positive.result o) (sym (ap (λ (o : Option ℤ). gives_numeral (plain_heap texts tuples h) o) (plus c.args.bytes.now c.args.digits.now c.args.byte c.requires c.if-byte-eq43.true))) (c.positive.ensures texts tuples h all)

pub returns : goal.returns
returns c = λ texts tuples h all.
    subst (λ (o : Outcome Val). IsOutcome texts tuples h h c.positive-2.result o) (sym (ap (λ (o : Option ℤ). gives_numeral (plain_heap texts tuples h) o) (unsigned c.args.bytes.now c.args.digits.now c.args.byte c.requires c.if-byte-eq45.false c.if-byte-eq43.false))) (c.positive-2.ensures texts tuples h all)
