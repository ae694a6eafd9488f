use Rattle.std.proofs.Common.{ℤ, negsuc, Result, sym, ap, ◌∙◌, subst}
use Rattle.prim_builtins.specs.arena_heap.declared.value.Value.TheVariants as values
use Rattle.prim_builtins.specs.py_values.Small.{checked}
use Rattle.prim_builtins.specs.py_values.declared.small_int.NumFault.{NumFault}
use Rattle.prim_builtins.proofs.py_values_lemmas.Range.{checked_small}
use Rattle.prim_builtins.specs.py_primitives.Operators.{gives_number}
use Rattle.prim_builtins.specs.prim_walks.Plain.{plain_heap}
use Rattle.prim_builtins.specs.prim_faults.Outcomes.{IsOutcome}
use Rattle.prim_builtins.proofs.prim_faults_lemmas.Outcomes.{gives_outcome}
use Rattle.prim_str_methods.proofs.Places.{place_found, place_nowhere, nowhere_small}
use Rattle.prim_str_methods.proofs.finds.place_in.Goals as goal

pub returns-in-Some : goal.returns-in-Some
returns-in-Some c = λ texts tuples h all.
    let heap = plain_heap texts tuples h in
    subst (λ (z : ℤ). IsOutcome texts tuples h h c.gives_count.result (gives_number heap (checked z)))
    (sym (place_found c.args.part.now c.args.bytes.now c.in-Some.at c.in-Some.ensures)) (c.gives_count.ensures texts tuples h all)

pub returns-in-None : goal.returns-in-None
returns-in-None c = λ texts tuples h all.
    let heap = plain_heap texts tuples h in
    gives_outcome texts tuples h (values.Int (negsuc 0)) _ all (record { meets = tt; small = nowhere_small }) tt
    (ap (λ (z : ℤ). gives_number heap (checked z)) (place_nowhere c.args.part.now c.args.bytes.now c.in-None.ensures)
    ∙ ap (λ (r : Result ℤ NumFault). gives_number heap r) (checked_small (negsuc 0) nowhere_small))
