use Rattle.std.proofs.Common.{◌≡◌, drop}
use Rattle.std.specs.Option.{option_copied, option_or}
use Rattle.image_open.specs.bc_library.Texts.{last_part}
use Rattle.image_freeze.proofs.texts.last_part.Given as goal

abbrev pub invariant-loop-at : goal.invariant-loop-at
invariant-loop-at l = last_part l.name ≡ option_or (last_part (drop l.at l.name)) (option_copied l.part)
