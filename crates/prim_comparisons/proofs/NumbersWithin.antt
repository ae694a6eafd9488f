-- Values that are no numbers.
use Rattle.std.proofs.Common.{◌≡◌, ℕ, ℤ, List, map, false, Option, sym, ap, ◌∙◌}
use Rattle.prim_faults.specs.arena_heap.declared.value.Value.{Value}
use Rattle.prim_faults.specs.arena_heap.declared.value.Value.TheVariants as values
use Rattle.prim_faults.specs.arena_heap.declared.value.StrNo.{StrNo}
use Rattle.prim_faults.specs.arena_heap.declared.value.ConstNo.{ConstNo}
use Rattle.prim_faults.specs.mpy_base.World.{Heap}
use Rattle.prim_faults.specs.mpy_base.Val.{Val}
use Rattle.prim_faults.specs.arena_objects.Iterables.{or_nothing}
use Rattle.prim_faults.specs.py_values.Shown.{Shown, shown}
use Rattle.prim_faults.specs.prim_walks.Plain.{plain, plain_by, plain_heap, fixed_within}
use Rattle.prim_faults.proofs.prim_walks_lemmas.PlainValues.{within_step, shown_fixed}
use Rattle.prim_comparisons.specs.Operands.{is_number_within}

-- a constant tuple is no number
pub fixed_no_number : (texts : StrNo → Option (List ℕ)) (tuples : ConstNo → Option (List Value)) (h : Heap Value ℕ) (v : Value) (c : ConstNo) (start stop step : ℤ) → v ≡ values.Fixed c
    → false ≡ is_number_within (shown (plain_heap texts tuples h) (plain texts tuples v)) start stop step
fixed_no_number texts tuples h v c start stop step is =
    let heap = plain_heap texts tuples h in
    let items = map (plain_by texts (fixed_within texts tuples 31)) (or_nothing (tuples c)) in
    sym (ap (λ (w : Value). is_number_within (shown heap (plain texts tuples w)) start stop step) is
    ∙ (ap (λ (w : Val). is_number_within (shown heap w) start stop step) (within_step texts tuples 31 c) ∙ ap (λ (s : Shown). is_number_within s start stop step) (shown_fixed heap items)))
