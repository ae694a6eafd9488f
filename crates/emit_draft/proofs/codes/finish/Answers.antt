use Rattle.std.proofs.Common.{refl}
use Rattle.emit_draft.proofs.Making.{finished}
use Rattle.emit_draft.proofs.codes.finish.Goals as goal

pub returns : goal.returns
returns c =
    finished c.args.draft.now _ c.deref.result.now c.as_slice-lines.result.now c.in_ok-instrs.instrs c.in_ok-numbers.numbers c.in_ok-instrs.ensures c.in_ok-numbers.ensures c.as_slice-lines.ensures c.deref.ensures.value refl refl
