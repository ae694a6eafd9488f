use Rattle.std.proofs.Common.{◌≡◌, ℕ, ◌≤◌, ◌<◌, get_or}
use Rattle.prim_builtins.specs.py_primitives.Methods.{is_space}
use Rattle.prim_str_methods.proofs.pieces.skip.Given as goal

abbrev pub invariant-loop-at : goal.invariant-loop-at
invariant-loop-at l = (k : ℕ) → l.fn.from ≤ k → k < l.at → is_space (get_or l.bytes k 0) ≡ l.spaces
