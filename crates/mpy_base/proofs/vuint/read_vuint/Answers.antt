use Rattle.mpy_base.proofs.Groups.{moved}
use Rattle.std.proofs.Common.{◌∙◌, length}
use Rattle.mpy_base.proofs.vuint.read_vuint.Goals as goal

pub returns-in-Ok-clause-only : goal.returns-in-Ok-clause-only
returns-in-Ok-clause-only c text rest n s e =
    moved c.args.at c.in-Ok.n c.in-Ok.len n (length text) (c.in-Ok.ensures.only text rest n s (c.split_at.ensures.back ∙ e))

pub returns-in-Err-clause-only : goal.returns-in-Err-clause-only
returns-in-Err-clause-only c text rest n s e =
    let found = c.in-Err.ensures.only text rest n s (c.split_at.ensures.back ∙ e) in absurd cc
