use Rattle.std.proofs.Common.{◌≡◌, ℕ, ◌≤◌, take}
use Rattle.py_nest.specs.Nest.{levels_of, nest}
use Rattle.py_nest.specs.declared.nest.TheConstants.{MAX_NEST}
use Rattle.py_nest.proofs.nest.nest_fault.Given as goal

abbrev pub invariant-loop-token : goal.invariant-loop-token
invariant-loop-token l = record {
  seen : l.levels ≡ levels_of (take l.token-index l.tokens);
  nests : (count : ℕ) → count ≤ l.token-index → nest (take count l.tokens) ≤ MAX_NEST;
}
