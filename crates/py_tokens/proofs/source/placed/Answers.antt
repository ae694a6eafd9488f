use Rattle.std.proofs.Common.{arith}
use Rattle.std.proofs.lemmas.List.{length-take-le}
use Rattle.py_tokens.proofs.source.placed.Goals as goal

pub count_line_ends-requires : goal.count_line_ends-requires
count_line_ends-requires c = omega (arith, length-take-le c.args.fault.at c.args.rest.now c.requires.within, c.requires.short, c.requires.within)
