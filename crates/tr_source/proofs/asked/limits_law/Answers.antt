use Rattle.std.proofs.Common.{[], refl}
use Rattle.emit_measures.specs.bc_scheme.py_meaning.Program.{source_texts}
use Rattle.tr_source.specs.Accepted.{source_of}
use Rattle.tr_source.proofs.Limits.{under_name, all_limited}
use Rattle.tr_source.proofs.asked.limits_law.Goals as goal

pub returns-clause-within : goal.returns-clause-within
returns-clause-within c file level base tree h = under_name level tree [] file 0 base h.within

pub returns-clause-named : goal.returns-clause-named
returns-clause-named c file level base tree h = under_name level tree file [] base 0 h

pub returns-clause-limited : goal.returns-clause-limited
returns-clause-limited c file level tree h =
    all_limited (source_texts file (source_of file level tree) 0) (under_name level tree [] file 0 0 h.within)
    (c.params_law.ensures.slots tree h.formed h.faultless (source_of file level tree) 0 refl refl)

pub returns-clause-numbered : goal.returns-clause-numbered
returns-clause-numbered c file level tree h = c.numbers_law.ensures tree h.formed (source_of file level tree) 0 refl
