use Rattle.std.proofs.Common.{subst}
use Rattle.tr_source.specs.bc_scheme.py_meaning.Program.{Program}
use Rattle.meant_runs.specs.Units.{AreUnits}
use Rattle.meant_files.proofs.Loaded.{Below}
use Rattle.meant_files.proofs.Follows.{Crosses, of_files_units}
use Rattle.meant_files.proofs.laws.files_law.Goals as goal

pub returns-clause-program : goal.returns-clause-program
returns-clause-program c sources files base path level shelf h =
    let b : Below = record { one_tree = c.resolves_law.ensures.one; imports = c.imports_law.ensures } in
    let k : Crosses = record { reading = c.crossed_law.ensures.reading; file = c.crossed_law.ensures.file; verified = c.crossed_law.ensures.verified; unit = c.crossed_law.ensures.unit } in
    let found = of_files_units b k sources base level path shelf files h in
    (found.0, found.1)

pub returns-clause-units : goal.returns-clause-units
returns-clause-units c sources files base path level shelf h program is =
    let b : Below = record { one_tree = c.resolves_law.ensures.one; imports = c.imports_law.ensures } in
    let k : Crosses = record { reading = c.crossed_law.ensures.reading; file = c.crossed_law.ensures.file; verified = c.crossed_law.ensures.verified; unit = c.crossed_law.ensures.unit } in
    let found = of_files_units b k sources base level path shelf files h in
    subst (λ (p : Program). AreUnits p shelf) (c.program_law.ensures.one sources base path level found.0 program found.1 is) found.2
