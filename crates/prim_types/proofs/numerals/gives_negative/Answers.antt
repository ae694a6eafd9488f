use Rattle.std.proofs.Common.{◌≤◌, ◌^◌, ℤ, pos, neg_ℤ, ◌-ℤ◌, to_z, of_z, w32, Result, inl, sym, ap, ◌∙◌, subst, arith}
use Rattle.prim_builtins.specs.arena_heap.declared.value.Value.TheVariants as values
use Rattle.mpy_base.specs.Val.{Int}
use Rattle.prim_builtins.specs.py_primitives.Outcome.{gives}
use Rattle.prim_builtins.specs.py_primitives.Operators.{gives_number}
use Rattle.prim_builtins.specs.py_values.Range.{IsSmall}
use Rattle.prim_builtins.specs.py_values.declared.small_int.NumFault.{NumFault}
use Rattle.prim_builtins.proofs.py_values_lemmas.Range.{checked_small, checked_big}
use Rattle.prim_builtins.specs.prim_walks.Plain.{plain_heap}
use Rattle.prim_builtins.proofs.prim_faults_lemmas.Outcomes.{gives_outcome, raises_outcome}
use Rattle.prim_types.proofs.NumeralSteps.{negative_big, negative_small, negated}
use Rattle.prim_types.proofs.numerals.gives_negative.Goals as goal

pub returns-then-n-gt1073741824 : goal.returns-then-n-gt1073741824
returns-then-n-gt1073741824 c = λ texts tuples h all.
    let heap = plain_heap texts tuples h in
    raises_outcome texts tuples h _ _ all tt (ap (λ (r : Result ℤ NumFault). gives_number heap r) (checked_big (neg_ℤ (pos c.args.n)) (inl (negative_big c.args.n (omega (arith, c.if-n-gt1073741824.true))))))

pub returns : goal.returns
returns c = λ texts tuples h all.
    let heap = plain_heap texts tuples h in
    let n = c.args.n in
    let low : n ≤ 2 ^ 30 = omega (arith, c.if-n-gt1073741824.false) in
    let small = negative_small n low in
    let same = negated n low in
    gives_outcome texts tuples h (values.Int (to_z w32 (of_z w32 (pos 0 -ℤ to_z w32 n)))) _ all (record { meets = tt; small = subst IsSmall (sym same) small }) tt
    (ap (λ (r : Result ℤ NumFault). gives_number heap r) (checked_small (neg_ℤ (pos n)) small) ∙ ap (λ (z : ℤ). gives (Int z) heap) (sym same))
