use Rattle.std.proofs.Common.{◌∙◌}
use Rattle.prim_comparisons.proofs.TextParts.{part_found}
use Rattle.prim_comparisons.proofs.parts.has_part.Goals as goal

pub returns : goal.returns
returns c = c.is_some.ensures ∙ part_found c.args.part.now c.args.bytes.now c.find.result c.find.ensures
