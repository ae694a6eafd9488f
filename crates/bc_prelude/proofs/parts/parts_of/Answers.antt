use Rattle.std.proofs.Common.{take, drop, ap, ◌∙◌, arith}
use Rattle.bc_prelude.proofs.Pieces.{instructions_at, lines_at, names_at, within}
use Rattle.bc_prelude.proofs.parts.parts_of.Goals as goal

pub unreachable-requires : goal.unreachable-requires
unreachable-requires c = c.in_default.not-Ok _ (c.read_prelude.ensures.only c.requires.0 c.requires.1)

pub split_at-requires : goal.split_at-requires
split_at-requires c = (within c.args.code.now c.in-Ok.prelude c.in-Ok.ensures.found).code

pub split_at-requires-2 : goal.split_at-requires-2
split_at-requires-2 c =
    let w = within c.args.code.now c.in-Ok.prelude c.in-Ok.ensures.found in
    omega (arith, w.lines, c.split_at.ensures.front_len)

pub split_at-requires-3 : goal.split_at-requires-3
split_at-requires-3 c =
    let w = within c.args.code.now c.in-Ok.prelude c.in-Ok.ensures.found in
    omega (arith, w.info, c.split_at-2.ensures.front_len)

pub returns : goal.returns
returns c =
    let bytes = c.args.code.now in
    let prelude = c.in-Ok.prelude in
    let b = c.in-Ok.ensures.found in
    record {
      begins = b;
      names_are = c.split_at-3.ensures.back ∙ (ap (drop prelude.info_at) (c.split_at-2.ensures.front ∙ ap (take prelude.lines_at) c.split_at.ensures.front) ∙ names_at bytes prelude b);
      lines_are = c.split_at-2.ensures.back ∙ (ap (drop prelude.lines_at) c.split_at.ensures.front ∙ lines_at bytes prelude b);
      instructions_are = c.split_at.ensures.back ∙ instructions_at bytes prelude b;
    }
