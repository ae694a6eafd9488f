-- What the parser owes.
use Rattle.std.specs.Prelude.{◌≡◌, ◌⊎◌, ℕ, List, [], ◌∷◌, ◌++◌, Result, Ok, Err}
use Rattle.mpy_base.specs.declared.refused.Refused.{Refused}
use Rattle.mpy_base.specs.declared.refused.Refused.TheVariants as refused
use Rattle.mpy_base.specs.declared.source.SourceCode.{SourceCode}
use Rattle.mpy_base.specs.declared.source.SourceCode.TheVariants.{Syntax, TooDeep}
use Rattle.mpy_base.specs.declared.source.SourceFault.{SourceFault}
use Rattle.py_tokens.specs.declared.token.Tok.TheVariants as tok
use Rattle.py_tokens.specs.declared.token.Token.{Token}
use Rattle.py_tree.specs.declared.stmt.Stmt.{Stmt}
use Rattle.py_tree.specs.declared.stmt.Module.{Module}
use Rattle.py_expressions.specs.declared.cursor.Syntax.{Syntax as Stopped}
use Rattle.py_expressions.specs.Input.{Input, Outcome, Place, at}
use Rattle.py_nest.specs.Nest.{Nests, IsTooDeep}
use Rattle.py_statements.specs.Reading.{line_at}
use Rattle.py_parser.specs.Grammar.{IsTree}
use Rattle.py_parser.specs.Fronts.{IsLongest}

-- a fault in that line, which names no word
abbrev pub fault_of : SourceCode → ℕ → SourceFault
fault_of code line = record { code = code; line = line; word = [] }

-- the first token behind the longest front stands in that line
pub record IsBehindLongest (tokens : List Token) (line : ℕ) : Type 0 where
  pub rest : List Token
  pub longest : IsLongest tokens rest
  pub stands : line ≡ line_at rest

-- tokens with an End behind them
pub record IsEnded (tokens : List Token) : Type 0 where
  pub front : List Token
  pub last : Place
  pub is : tokens ≡ front ++ at last tok.End ∷ []

-- tokens that nest too deep
pub record IsDeepFault (tokens : List Token) (fault : SourceFault) : Type 0 where
  pub line : ℕ
  pub deep : IsTooDeep tokens line
  pub is : fault ≡ fault_of TooDeep line

-- tokens without a tree
pub record IsSyntaxFault (tokens : List Token) (fault : SourceFault) : Type 0 where
  pub nests : Nests tokens
  pub no_tree : (tree : Module) → ¬ IsTree tokens tree
  pub line : ℕ
  pub behind : IsBehindLongest tokens line
  pub is : fault ≡ fault_of Syntax line

-- why tokens have no tree
abbrev pub IsFault : List Token → SourceFault → Type 0
IsFault tokens fault = IsDeepFault tokens fault ⊎ IsSyntaxFault tokens fault

-- what reading a file gives, unless memory fails
abbrev pub ReadsAll : Outcome (List Stmt) → Result (List Stmt) (Refused Stopped) → Type 0
ReadsAll outcome (Ok found) = (j : Input) × (outcome ≡ Ok (found, j))
ReadsAll outcome (Err (refused.Fault stopped)) = outcome ≡ Err stopped.left
ReadsAll outcome (Err refused.NoMemory) = Unit {0}
