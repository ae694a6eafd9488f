use Rattle.std.proofs.Common.{◌≡◌, ◌++◌, drop}
use Rattle.std.specs.List.{flat_map}
use Rattle.py_scopes.specs.Events.{at, acts_of}
use Rattle.py_scopes.proofs.uses.+uses.Given as goal

-- the acts so far and those of the rest are those of all
abbrev pub invariant-uses_all-loop-item : goal.invariant-uses_all-loop-item
invariant-uses_all-loop-item l =
    l.events.items ++ at l.line (flat_map acts_of (drop l.item-index l.items)) ≡ l.fn.events.items ++ at l.line (flat_map acts_of l.items)

abbrev pub invariant-uses_compared-loop-value : goal.invariant-uses_compared-loop-value
invariant-uses_compared-loop-value l =
    l.events.items ++ at l.line (flat_map (λ pair. acts_of pair.1) (drop l.value-index l.rest)) ≡ l.fn.events.items ++ at l.line (flat_map (λ pair. acts_of pair.1) l.rest)

abbrev pub invariant-uses_keys-loop-value : goal.invariant-uses_keys-loop-value
invariant-uses_keys-loop-value l =
    l.events.items ++ at l.line (flat_map (λ pair. acts_of pair.1) (drop l.value-index l.keys)) ≡ l.fn.events.items ++ at l.line (flat_map (λ pair. acts_of pair.1) l.keys)

abbrev pub invariant-uses_pairs-loop-key : goal.invariant-uses_pairs-loop-key
invariant-uses_pairs-loop-key l =
    l.events.items ++ at l.line (flat_map (λ pair. acts_of pair.0 ++ acts_of pair.1) (drop l.key-index l.pairs)) ≡ l.fn.events.items ++ at l.line (flat_map (λ pair. acts_of pair.0 ++ acts_of pair.1) l.pairs)
