-- What is known of lines and headers.
use Rattle.std.proofs.Common.{◌≡◌, ℕ, ◌<◌, Bool, true, List, length, Ok}
use Rattle.py_tokens.specs.declared.token.Token.{Token}
use Rattle.py_tokens.specs.declared.token.Tok.TheVariants as tok
use Rattle.py_expressions.specs.Input.{kind_at}
use Rattle.py_expressions.specs.Laws.{input, Sound, Fails}
use Rattle.py_statements.specs.Grammar.{Line, line_text, line_tree}
use Rattle.py_statements.specs.Reading.{one_line, begins_line}
use Rattle.py_parser.specs.Clauses.{begins_compound}
use Rattle.py_parser.specs.Grammar.{First, first_text, first_tree, Later, later_text, later_tree}
use Rattle.py_parser.specs.Reading.{first, later}

pub record Below : Type 0 where
  pub line_sound : Sound line_text line_tree one_line
  pub line_complete : (one : Line) (rest : List Token) (front : ℕ) → one_line (input (line_text one rest) front) ≡ Ok (line_tree one, input rest front)
  pub line_fails : Fails one_line
  pub line_starts : (one : Line) (rest : List Token) → begins_line (kind_at (line_text one rest)) ≡ true
  pub line_grows : (one : Line) (rest : List Token) → length rest < length (line_text one rest)
  pub first_sound : Sound first_text first_tree first
  pub first_complete : (one : First) (rest : List Token) (front : ℕ) → first (input (first_text one rest) front) ≡ Ok (first_tree one, input rest front)
  pub first_fails : Fails first
  pub first_grows : (one : First) (rest : List Token) → length rest < length (first_text one rest)
  pub later_sound : Sound later_text later_tree later
  pub later_complete : (one : Later) (rest : List Token) (front : ℕ) → later (input (later_text one rest) front) ≡ Ok (later_tree one, input rest front)
  pub later_fails : Fails later
  pub later_grows : (one : Later) (rest : List Token) → length rest < length (later_text one rest)
