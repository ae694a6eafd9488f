use Rattle.tr_source.specs.Accepted.{source_of}
use Rattle.tr_source.proofs.asked.accepted_law.Goals as goal

pub returns-clause-verified : goal.returns-clause-verified
returns-clause-verified c file level tree m h t = c.verified_law.ensures (source_of file level tree) m t (c.limits_law.ensures.limited file level tree h)

pub returns-clause-one : goal.returns-clause-one
returns-clause-one c file level tree m n h t u =
    c.unique_law.ensures (source_of file level tree) m n t u (c.limits_law.ensures.limited file level tree h) (c.limits_law.ensures.numbered file level tree h)
