use Rattle.emit_stmt.proofs.Texts.{text_held, text_emits}
use Rattle.emit_stmt.proofs.text.emit_text.Goals as goal

pub bind-requires : goal.bind-requires
bind-requires c = (text_held 0 c.in_ok-end.ensures c.in_ok-emit_block.ensures).free

pub returns : goal.returns
returns c =
    text_emits c.new-draft.ensures.level c.new-draft.ensures.lines c.new-draft.ensures.crowded c.in_ok-end.ensures c.in_ok-emit_block.ensures c.bind.ensures c.in_ok-put_behind.ensures c.in_ok-put_behind-2.ensures
