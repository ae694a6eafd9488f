-- The logical lines of a manifest, and what each orders.
use Rattle.std.specs.Prelude.{ℕ, suc, Bool, true, false, if◌then◌else◌, List, [], ◌∷◌, map, Option}
use Rattle.py_tokens.specs.declared.token.Tok.{Tok}
use Rattle.py_tokens.specs.declared.token.Tok.TheVariants as tok
use Rattle.py_tokens.specs.declared.token.Token.{Token}
use Rattle.manifest_lines.specs.declared.order.Order.{Order}
use Rattle.manifest_lines.specs.declared.manifest.Line.{Line}
use Rattle.manifest_lines.specs.Calls.{call_of}
use Rattle.manifest_lines.specs.Orders.{order_of, ◌>>=◌}

-- is it the end of a line?
abbrev pub is_newline : Tok → Bool
is_newline tok.Newline = true
is_newline kind = false

-- how many tokens stand in front of the first end of a line
abbrev pub line_length : List Token → ℕ
line_length [] = 0
line_length (token ∷ tokens) = if is_newline token.kind then 0 else suc (line_length tokens)

-- the token in front of the first line's, where there is a line
abbrev pub onto_first : Token → List (List Token) → List (List Token)
onto_first token [] = []
onto_first token (line ∷ lines) = (token ∷ line) ∷ lines

-- The tokens of each line, without its end. What stands behind the last end is no line.
abbrev pub split : List Token → List (List Token)
split [] = []
split (token ∷ tokens) = if is_newline token.kind then [] ∷ split tokens else onto_first token (split tokens)

-- the line of the first token
abbrev pub number : List Token → ℕ
number [] = 0
number (token ∷ tokens) = token.line

-- what a line of these tokens orders, if it is a call
unfoldable pub order : List Token → Option Order
order tokens = call_of tokens >>= order_of

-- a line of these tokens
abbrev pub line : List Token → Line
line tokens = record { number = number tokens; order = order tokens }

-- the logical lines of a manifest's tokens
abbrev pub lines_of : List Token → List Line
lines_of tokens = map line (split tokens)
