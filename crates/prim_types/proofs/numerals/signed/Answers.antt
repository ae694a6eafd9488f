use Rattle.std.proofs.Common.{ℤ, Option, sym, ap, subst}
use Rattle.mpy_base.specs.Val.{Val}
use Rattle.prim_builtins.specs.py_primitives.Outcome.{Outcome}
use Rattle.prim_builtins.specs.py_primitives.Calls.{gives_numeral}
use Rattle.prim_builtins.specs.prim_walks.Plain.{plain_heap}
use Rattle.prim_builtins.specs.prim_faults.Outcomes.{IsOutcome}
use Rattle.prim_types.proofs.NumeralSteps.{nothing}
use Rattle.prim_types.proofs.numerals.signed.Goals as goal

pub returns-in-None : goal.returns-in-None
returns-in-None c = λ texts tuples h all.
    subst (λ (o : Outcome Val). IsOutcome texts tuples h h c.positive.result o) (sym (ap (λ (o : Option ℤ). gives_numeral (plain_heap texts tuples h) o) (nothing c.args.bytes.now c.in-None.ensures.cases))) (c.positive.ensures texts tuples h all)
