use Rattle.std.proofs.Common.{pos, ◌+ℤ◌, w32, SFits, to_z-of_z, sym, ap, ◌∙◌, rules}
use Rattle.mpy_dump.specs.Instructions.{instr_tail}
use Rattle.mpy_dump.proofs.Numbers.{jump_tail}
use Rattle.mpy_dump.proofs.jumps.jump_end.Goals as goal

pub returns : goal.returns
returns c =
    let name = c.in-Some.ensures in
    let target = c.in-Some-jump_target.ensures in
    let offset = c.in-Jump.offset in
    let fits : SFits w32 offset = search rules in
    let goes = ap (λ z. pos c.args.end +ℤ z) (sym (to_z-of_z fits)) ∙ target.1 in
    record {
      short = name.0;
      few = target.0;
      text = λ m. ap (instr_tail m c.args.end) c.in-Jump.is ∙ jump_tail m c.args.end _ _ c.in-Jump.op offset c.in-Jump.wide goes name.1;
    }
