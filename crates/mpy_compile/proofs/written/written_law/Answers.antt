use Rattle.emit_module.specs.Module.{source_of}
use Rattle.mpy_compile.proofs.Whole.{written, all_short}
use Rattle.mpy_compile.proofs.written.written_law.Goals as goal

pub returns : goal.returns
returns c file level tree whole formed faultless within is ascii shallow fits =
    let accepted = c.within_law.ensures file level tree formed faultless within in
    written c.lengths_law.ensures (source_of file level tree) whole is (c.module_law.ensures.verified file level tree whole accepted is) (c.spelled_law.ensures tree formed)
    (c.limits_law.ensures.within file level 0 tree accepted) (all_short within) shallow ascii fits
