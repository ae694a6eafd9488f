use Rattle.mpy_compile.proofs.Modules.{one_module}
use Rattle.emit_module.specs.Module.{source_of}
use Rattle.mpy_compile.proofs.within.module_law.Goals as goal

pub returns-clause-one : goal.returns-clause-one
returns-clause-one c file level tree m n h a b =
    one_module (source_of file level tree) m n a b (c.accepted_law.ensures.one file level tree a.resolved b.resolved h a.translates b.translates)

pub returns-clause-verified : goal.returns-clause-verified
returns-clause-verified c file level tree m h a = c.accepted_law.ensures.verified file level tree a.resolved h a.translates
