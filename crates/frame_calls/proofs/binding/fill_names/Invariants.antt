use Rattle.std.proofs.Common.{◌≡◌, ◌≤◌, map, take}
use Rattle.std.specs.Vec.{vec_capacity}
use Rattle.frame_moves.specs.arena_heap.declared.value.StrNo.TheVariants as strs
use Rattle.frame_calls.proofs.binding.fill_names.Given as goal

abbrev pub invariant-loop-number : goal.invariant-loop-number
invariant-loop-number l = record {
  room : vec_capacity l.fn.names ≤ vec_capacity l.names;
  names : l.names.items ≡ map (λ n. strs.Pool n) (take l.number-index l.numbers);
}
