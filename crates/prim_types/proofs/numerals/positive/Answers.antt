use Rattle.std.proofs.Common.{pos, sym, subst}
use Rattle.mpy_base.specs.Val.{Val}
use Rattle.prim_builtins.specs.py_primitives.Outcome.{Outcome}
use Rattle.prim_builtins.specs.py_primitives.Calls.{digits_number}
use Rattle.prim_builtins.specs.prim_walks.Plain.{plain_heap}
use Rattle.prim_builtins.specs.prim_faults.Outcomes.{IsOutcome}
use Rattle.prim_builtins.proofs.prim_faults_lemmas.Outcomes.{raises_outcome}
use Rattle.prim_types.proofs.NumeralSteps.{positive_numeral, no_numeral}
use Rattle.prim_types.proofs.numerals.positive.Goals as goal

pub returns-in-Some : goal.returns-in-Some
returns-in-Some c = λ texts tuples h all.
    let heap = plain_heap texts tuples h in
    subst (λ (o : Outcome Val). IsOutcome texts tuples h h c.gives_count.result o) (sym (positive_numeral heap c.in-Some.n (digits_number c.args.digits.now) c.in-Some.ensures.number)) (c.gives_count.ensures texts tuples h all)

pub returns-in-None : goal.returns-in-None
returns-in-None c = λ texts tuples h all.
    raises_outcome texts tuples h _ _ all tt (no_numeral (plain_heap texts tuples h) pos (digits_number c.args.digits.now) c.in-None.ensures.number)
