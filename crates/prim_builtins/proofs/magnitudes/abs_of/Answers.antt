use Rattle.std.proofs.Common.{ℕ, ℤ, pos, sym, ap, ◌∙◌, subst}
use Rattle.std.specs.Prelude.{unsigned_abs}
use Rattle.prim_operators.specs.mpy_base.Val.{Val}
use Rattle.prim_operators.proofs.arena_objects_lemmas.RangeNumbers.{small_same}
use Rattle.prim_operators.specs.py_values.Small.{checked}
use Rattle.prim_operators.specs.py_primitives.Outcome.{Outcome}
use Rattle.prim_operators.specs.py_primitives.Operators.{gives_number}
use Rattle.prim_operators.specs.prim_walks.Plain.{plain_heap}
use Rattle.prim_operators.specs.prim_faults.Outcomes.{IsOutcome}
use Rattle.prim_operators.proofs.prim_faults_lemmas.Outcomes.{raises_outcome}
use Rattle.prim_builtins.proofs.Numbered.{numbered, unnumbered}
use Rattle.prim_builtins.proofs.magnitudes.abs_of.Goals as goal

pub returns-in-Ok : goal.returns-in-Ok
returns-in-Ok g c =
    let texts = g.C.Constants.text_of c.args._consts.now in
    let tuples = g.C.Constants.items_of c.args._consts.now in
    let h = c.args.arena.now in
    let heap = plain_heap texts tuples h in
    let next : ℤ → Outcome Val = λ z. gives_number heap (checked (pos (unsigned_abs z))) in
    subst (λ (o : Outcome Val). IsOutcome texts tuples h h c.gives_count.result o) (ap (λ (n : ℕ). gives_number heap (checked (pos n))) (c.unsigned_abs.ensures.value ∙ ap unsigned_abs (small_same c.in-Ok.z c.in-Ok.ensures.small)) ∙ sym (numbered texts tuples h c.args.v next c.in-Ok.z c.in-Ok.ensures.number))
    (c.gives_count.ensures texts tuples h c.requires.all_told)

pub returns-in-Err : goal.returns-in-Err
returns-in-Err g c =
    let texts = g.C.Constants.text_of c.args._consts.now in
    let tuples = g.C.Constants.items_of c.args._consts.now in
    let h = c.args.arena.now in
    let heap = plain_heap texts tuples h in
    let next : ℤ → Outcome Val = λ z. gives_number heap (checked (pos (unsigned_abs z))) in
    raises_outcome texts tuples h c.in-Err.fault _ c.requires.all_told ((c.in-Err.ensures.fault texts tuples).0) (unnumbered texts tuples h c.args.v next c.in-Err.fault c.in-Err.ensures.other c.in-Err.ensures.fault)
