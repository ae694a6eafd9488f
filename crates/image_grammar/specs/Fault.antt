-- How a line names the fault of an image.
use Rattle.std.specs.Prelude.{ℕ, List, codes, Option, Some, None}
use Rattle.image_grammar.specs.declared.fault.ImageFault.{ImageFault}
use Rattle.image_grammar.specs.declared.fault.ImageFault.TheVariants.{BadHeader, Truncated, BadNumber, BadModule, Twice, Trailing, TooBig, BadBase}

-- the number of the fault, which the line tells
abbrev pub number_of : ImageFault → ℕ
number_of BadHeader = 1
number_of Truncated = 2
number_of BadNumber = 3
number_of (BadModule index) = 4
number_of (Twice name) = 5
number_of Trailing = 6
number_of TooBig = 7
number_of BadBase = 8

-- the name of the fault, which the line tells
abbrev pub name_of : ImageFault → List ℕ
name_of BadHeader = codes "BadHeader"
name_of Truncated = codes "Truncated"
name_of BadNumber = codes "BadNumber"
name_of (BadModule index) = codes "BadModule"
name_of (Twice name) = codes "Twice"
name_of Trailing = codes "Trailing"
name_of TooBig = codes "TooBig"
name_of BadBase = codes "BadBase"

-- the place of the module that a fault tells
abbrev pub index_of : ImageFault → Option ℕ
index_of (BadModule index) = Some index
index_of BadHeader = None
index_of Truncated = None
index_of BadNumber = None
index_of (Twice name) = None
index_of Trailing = None
index_of TooBig = None
index_of BadBase = None

-- the module name that it tells
abbrev pub word_of : ImageFault → Option (List ℕ)
word_of (Twice name) = Some name
word_of BadHeader = None
word_of Truncated = None
word_of BadNumber = None
word_of (BadModule index) = None
word_of Trailing = None
word_of TooBig = None
word_of BadBase = None
