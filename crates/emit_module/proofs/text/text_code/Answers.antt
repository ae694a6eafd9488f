use Rattle.emit_module.proofs.Coding.{codes_text}
use Rattle.emit_module.proofs.text.text_code.Goals as goal

pub returns : goal.returns
returns c =
    codes_text c.args.place.now c.in_ok-draft.draft c.args.scope c.args.body.now c.own_code.result c.in_ok-draft.ensures c.own_code.ensures.lines c.own_code.ensures.within c.own_code.ensures.refused
