use Rattle.std.proofs.Common.{◌≡◌, ℕ, ◌<◌, Some}
use Rattle.std.specs.Prelude.{slice_get}
use Rattle.prim_builtins.specs.arena_heap.declared.value.Value.{Value}
use Rattle.prim_builtins.specs.arena_objects.Iterables.{items_in, spelled}
use Rattle.prim_builtins.specs.prim_walks.Plain.{plain, plain_heap}
use Rattle.prim_builtins.specs.prim_faults.Faults.{IsKnownStr}
use Rattle.prim_str_methods.specs.Parts.{strs_of}
use Rattle.prim_str_methods.proofs.Joinings.{SoFar}
use Rattle.prim_str_methods.proofs.joins.joined_len.Given as goal

abbrev pub invariant-loop-at : goal.invariant-loop-at
invariant-loop-at g l =
    let texts = g.C.Constants.text_of l.consts in
    let tuples = g.C.Constants.items_of l.consts in
    SoFar (spelled texts l.arena l.fn.separator) (strs_of (plain_heap texts tuples l.arena) (plain texts tuples l.over)) l.at l.len
    × ((k : ℕ) (v : Value) → k < l.at → slice_get (items_in tuples l.arena l.over) k ≡ Some v → IsKnownStr texts tuples l.arena.objects v)
