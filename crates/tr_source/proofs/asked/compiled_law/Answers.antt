use Rattle.tr_source.proofs.asked.compiled_law.Goals as goal

pub returns : goal.returns
returns c = record { file = λ file level tree m held h t r. c.raw_law.ensures held m r (c.accepted_law.ensures.verified file level tree m h t) }
