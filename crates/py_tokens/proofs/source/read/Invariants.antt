use Rattle.std.proofs.Common.{◌≡◌, ◌+◌, length}
use Rattle.py_tokens.proofs.Sources.{HasRead}
use Rattle.py_tokens.proofs.source.read.Given as goal

abbrev pub invariant-loop-rest : goal.invariant-loop-rest
invariant-loop-rest l = record {
  place : l.lines.at + length l.rest ≡ length l.source;
  read : HasRead l.opt l.source l.lines l.rest;
}

abbrev pub decreases-loop-rest : goal.decreases-loop-rest
decreases-loop-rest l = length l.rest
