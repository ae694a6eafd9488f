use Rattle.mpy_compile.proofs.compiling.compiled_module.Goals as goal

pub returns-in-Ok : goal.returns-in-Ok
returns-in-Ok c = (c.in-Ok.made.file.items, c.in-Ok.ensures.0, c.in-Ok.ensures.1)
