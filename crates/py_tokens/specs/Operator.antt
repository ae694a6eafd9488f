-- Operators and other marks, and which of them stands in front of bytes.
use Rattle.std.specs.Prelude.{◌≡◌, ℕ, ◌≤◌, List, [], ◌∷◌, ◌++◌, length, codes, Contains}
use Rattle.py_tokens.specs.declared.operator.Op.{Op}
use Rattle.py_tokens.specs.declared.operator.Op.TheVariants as ops
use Rattle.py_tokens.specs.declared.operator.Operator.{Operator}
use Rattle.py_tokens.specs.declared.operator.Operator.TheVariants as operators

-- how an operator is written
abbrev pub spelling : Op → List ℕ
spelling ops.OpenParen = codes "("
spelling ops.CloseParen = codes ")"
spelling ops.OpenBracket = codes "["
spelling ops.CloseBracket = codes "]"
spelling ops.OpenBrace = codes "{"
spelling ops.CloseBrace = codes "}"
spelling ops.Comma = codes ","
spelling ops.Colon = codes ":"
spelling ops.Semicolon = codes ";"
spelling ops.Dot = codes "."
spelling ops.Assign = codes "="
spelling ops.Equal = codes "=="
spelling ops.NotEqual = codes "!="
spelling ops.Less = codes "<"
spelling ops.Greater = codes ">"
spelling ops.LessEqual = codes "<="
spelling ops.GreaterEqual = codes ">="
spelling ops.Plus = codes "+"
spelling ops.Minus = codes "-"
spelling ops.Star = codes "*"
spelling ops.DoubleSlash = codes "//"
spelling ops.Percent = codes "%"
spelling ops.DoubleStar = codes "**"
spelling ops.Ampersand = codes "&"
spelling ops.Bar = codes "|"
spelling ops.Caret = codes "^"
spelling ops.Tilde = codes "~"
spelling ops.ShiftLeft = codes "<<"
spelling ops.ShiftRight = codes ">>"
spelling ops.PlusAssign = codes "+="
spelling ops.MinusAssign = codes "-="
spelling ops.StarAssign = codes "*="
spelling ops.DoubleSlashAssign = codes "//="
spelling ops.PercentAssign = codes "%="
spelling ops.DoubleStarAssign = codes "**="
spelling ops.AmpersandAssign = codes "&="
spelling ops.BarAssign = codes "|="
spelling ops.CaretAssign = codes "^="
spelling ops.ShiftLeftAssign = codes "<<="
spelling ops.ShiftRightAssign = codes ">>="

-- the operators of Python that this language leaves out
abbrev pub refused : List (List ℕ)
refused = codes "/" ∷ codes "/=" ∷ codes "@" ∷ codes "@=" ∷ codes ":=" ∷ codes "->" ∷ codes "..." ∷ []

-- the text is the operator, or one of those that are left out
abbrev pub Spells : Operator → List ℕ → Type 0
Spells (operators.Op op) text = text ≡ spelling op
Spells operators.Refused text = Contains refused text

-- the text is the front of the bytes
abbrev pub Stands : List ℕ → List ℕ → Type 0
Stands text bytes = (rest : List ℕ) × (bytes ≡ text ++ rest)

-- the text of the operator stands in front, and that of none that stands there is longer
pub record IsLongest (operator : Operator) (text bytes : List ℕ) : Type 0 where
  pub spells : Spells operator text
  pub stands : Stands text bytes
  pub longest : (other : Operator) (its : List ℕ) → Spells other its → Stands its bytes → length its ≤ length text
