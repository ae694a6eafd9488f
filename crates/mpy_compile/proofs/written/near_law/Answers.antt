use Rattle.emit_module.specs.Module.{source_of}
use Rattle.mpy_compile.proofs.Whole.{near, as_many, all_short}
use Rattle.mpy_compile.proofs.written.near_law.Goals as goal

pub returns-clause-near : goal.returns-clause-near
returns-clause-near c file level tree whole formed faultless within is shallow tables fit far =
    let accepted = c.within_law.ensures file level tree formed faultless within in
    near c.lengths_law.ensures (source_of file level tree) whole is (c.module_law.ensures.verified file level tree whole accepted is) (c.spelled_law.ensures tree formed)
    (c.limits_law.ensures.within file level 0 tree accepted) (all_short within) shallow tables fit far

pub returns-clause-count : goal.returns-clause-count
returns-clause-count c file level tree whole within is shallow = as_many (source_of file level tree) whole is within shallow
