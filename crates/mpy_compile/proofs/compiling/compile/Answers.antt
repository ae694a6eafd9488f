use Rattle.mpy_compile.proofs.compiling.compile.Goals as goal

pub returns-in-Ok : goal.returns-in-Ok
returns-in-Ok c = record { whole = c.in-Ok.made.whole; compiled = c.in-Ok.ensures.0; file = c.in-Ok.ensures.1 }
