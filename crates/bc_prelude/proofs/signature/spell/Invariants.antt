use Rattle.std.proofs.Common.{◌≡◌, ℕ, List, ◌+◌, ◌<◌, ◌++◌}
use Rattle.bc_prelude.specs.Signature.{signature_from, spelling}
use Rattle.bc_prelude.proofs.signature.spell.Given as goal

-- what is written so far, and the bytes that are left, are the spelling
abbrev pub invariant-loop-slots : goal.invariant-loop-slots
invariant-loop-slots l = record {
  low : l.byte < 128;
  whole : l.out.items ++ signature_from l.byte l.slots l.handlers l.arguments l.defaults ≡ l.initial.out.items ++ spelling l.signature;
  front : (front : List ℕ) × (l.out.items ≡ l.initial.out.items ++ front);
}

abbrev pub decreases-loop-slots : goal.decreases-loop-slots
decreases-loop-slots l = l.slots + l.handlers + l.arguments + l.defaults
