-- Faults of sources that several parts answer.
use Rattle.std.specs.Prelude.{[]}
use Rattle.mpy_base.specs.declared.source.SourceFault.{SourceFault}
use Rattle.mpy_base.specs.declared.source.SourceCode.TheVariants.{TooLong}

-- too long, which is said of the first line
abbrev pub too_long : SourceFault
too_long = record { code = TooLong; line = 1; word = [] }
