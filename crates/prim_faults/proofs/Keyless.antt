-- Constant tuples are no keys.
use Rattle.std.proofs.Common.{◌≡◌, ℕ, List, map, false, Option, sym, ap, ◌∙◌}
use Rattle.std.specs.Prelude.{is_some}
use Rattle.prim_walks.specs.mpy_base.World.{Heap}
use Rattle.prim_walks.specs.mpy_base.Val.{Val}
use Rattle.prim_walks.specs.arena_heap.declared.value.Value.{Value}
use Rattle.prim_walks.specs.arena_heap.declared.value.Value.TheVariants as values
use Rattle.prim_walks.specs.arena_heap.declared.value.StrNo.{StrNo}
use Rattle.prim_walks.specs.arena_heap.declared.value.ConstNo.{ConstNo}
use Rattle.prim_walks.specs.arena_objects.Iterables.{or_nothing}
use Rattle.prim_walks.specs.py_values.Shown.{Shown}
use Rattle.prim_walks.specs.py_values.Keys.{key_of, shown_key}
use Rattle.prim_walks.specs.Plain.{plain, plain_by, plain_heap, fixed_within}
use Rattle.prim_walks.proofs.PlainValues.{within_step, shown_fixed}

pub fixed_no_key : (texts : StrNo → Option (List ℕ)) (tuples : ConstNo → Option (List Value)) (h : Heap Value ℕ) (v : Value) (c : ConstNo) → v ≡ values.Fixed c
    → false ≡ is_some (key_of (plain_heap texts tuples h) (plain texts tuples v))
fixed_no_key texts tuples h v c is =
    let heap = plain_heap texts tuples h in
    let items = map (plain_by texts (fixed_within texts tuples 31)) (or_nothing (tuples c)) in
    sym (ap (λ (w : Value). is_some (key_of heap (plain texts tuples w))) is
    ∙ (ap (λ (w : Val). is_some (key_of heap w)) (within_step texts tuples 31 c) ∙ ap (λ (s : Shown). is_some (shown_key s)) (shown_fixed heap items)))
