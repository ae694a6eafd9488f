use Rattle.std.proofs.Common.{◌≡◌, ◌+◌, drop}
use Rattle.board_plan.specs.Lines.{front_length}
use Rattle.board_plan.proofs.words.front_length.Given as goal

abbrev pub invariant-loop-at : goal.invariant-loop-at
invariant-loop-at l = front_length l.byte l.text ≡ l.at + front_length l.byte (drop l.at l.text)
