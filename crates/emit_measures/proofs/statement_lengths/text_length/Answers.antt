use Rattle.emit_measures.proofs.statement_lengths.text_length.Goals as goal

pub returns : goal.returns
returns c n = c.plus.ensures _ (c.block_length.ensures n)
