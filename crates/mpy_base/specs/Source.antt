-- How a line names the fault of a source.
use Rattle.std.specs.Prelude.{ℕ, List, codes}
use Rattle.mpy_base.specs.declared.source.SourceCode.{SourceCode}
use Rattle.mpy_base.specs.declared.source.SourceCode.TheVariants.{BadByte, BadToken, BadIndent, TooBigNumber, NotInProfile}
use Rattle.mpy_base.specs.declared.source.SourceCode.TheVariants.{Syntax, TooDeep, Capture, LateGlobal, OutsideLoop}
use Rattle.mpy_base.specs.declared.source.SourceCode.TheVariants.{OutsideFunction, TooLong, StateTooBig}

-- the number of the fault, which the line tells
abbrev pub number_of : SourceCode → ℕ
number_of BadByte = 1
number_of BadToken = 2
number_of BadIndent = 3
number_of TooBigNumber = 4
number_of NotInProfile = 5
number_of Syntax = 6
number_of TooDeep = 7
number_of Capture = 8
number_of LateGlobal = 9
number_of OutsideLoop = 10
number_of OutsideFunction = 11
number_of TooLong = 12
number_of StateTooBig = 13

-- the name of the fault, which the line tells
abbrev pub name_of : SourceCode → List ℕ
name_of BadByte = codes "BadByte"
name_of BadToken = codes "BadToken"
name_of BadIndent = codes "BadIndent"
name_of TooBigNumber = codes "TooBigNumber"
name_of NotInProfile = codes "NotInProfile"
name_of Syntax = codes "Syntax"
name_of TooDeep = codes "TooDeep"
name_of Capture = codes "Capture"
name_of LateGlobal = codes "LateGlobal"
name_of OutsideLoop = codes "OutsideLoop"
name_of OutsideFunction = codes "OutsideFunction"
name_of TooLong = codes "TooLong"
name_of StateTooBig = codes "StateTooBig"
