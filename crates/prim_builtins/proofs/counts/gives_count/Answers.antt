use Rattle.std.proofs.Common.{◌<◌, ◌≤◌, ◌^◌, ℤ, pos, to_z, w32, Result, inr, sym, ap, ◌∙◌, subst, arith}
use Rattle.prim_operators.specs.arena_heap.declared.value.Value.TheVariants as values
use Rattle.prim_operators.specs.mpy_base.Val.{Int}
use Rattle.prim_operators.specs.py_primitives.Outcome.{gives}
use Rattle.prim_operators.specs.py_primitives.Operators.{gives_number}
use Rattle.prim_operators.specs.py_values.Range.{IsSmall}
use Rattle.prim_operators.specs.py_values.declared.small_int.NumFault.{NumFault}
use Rattle.prim_operators.proofs.py_values_lemmas.Range.{checked_small, checked_big}
use Rattle.prim_operators.specs.prim_walks.Plain.{plain_heap}
use Rattle.prim_operators.proofs.prim_faults_lemmas.Outcomes.{gives_outcome, raises_outcome}
use Rattle.prim_builtins.proofs.SmallCounts.{count_small, count_same, count_big}
use Rattle.prim_builtins.proofs.counts.gives_count.Goals as goal

pub returns-then-n-gt-GREATEST : goal.returns-then-n-gt-GREATEST
returns-then-n-gt-GREATEST c = λ texts tuples h all.
    let heap = plain_heap texts tuples h in
    let le : 2 ^ 30 ≤ c.args.n = omega (arith, c.if-n-gt-GREATEST.true) in
    raises_outcome texts tuples h _ _ all tt (ap (λ (r : Result ℤ NumFault). gives_number heap r) (checked_big (pos c.args.n) (inr (count_big c.args.n le))))

pub returns : goal.returns
returns c = λ texts tuples h all.
    let heap = plain_heap texts tuples h in
    let lt : c.args.n < 2 ^ 30 = omega (arith, c.if-n-gt-GREATEST.false) in
    let same = count_same c.args.n lt in
    gives_outcome texts tuples h (values.Int (to_z w32 c.args.n)) _ all (record { meets = tt; small = subst IsSmall (sym same) (count_small c.args.n lt) }) tt
    (ap (λ (r : Result ℤ NumFault). gives_number heap r) (checked_small (pos c.args.n) (count_small c.args.n lt)) ∙ ap (λ (z : ℤ). gives (Int z) heap) (sym same))
