-- One token that is a whole test, and what goes on with no operator.
use Rattle.std.specs.Prelude.{Bool, true, false, if◌then◌else◌, List, [], ◌∷◌}
use Rattle.py_tokens.specs.declared.token.Tok.{Tok}
use Rattle.py_tokens.specs.declared.token.Tok.TheVariants as tok
use Rattle.py_tokens.specs.declared.token.Token.{Token}
use Rattle.py_tokens.specs.declared.word.Word.TheVariants as word
use Rattle.py_tokens.specs.declared.operator.Op.TheVariants as op

-- a token that is an operand by itself
abbrev pub is_operand : Tok → Bool
is_operand (tok.Name _) = true
is_operand (tok.Int _) = true
is_operand (tok.Str _) = true
is_operand (tok.Word word.None) = true
is_operand (tok.Word word.True) = true
is_operand (tok.Word word.False) = true
is_operand _ = false

-- a token that goes on with no test in front of it
abbrev pub ends_test : Tok → Bool
ends_test (tok.Op op.Comma) = true
ends_test (tok.Op op.CloseParen) = true
ends_test (tok.Op op.CloseBracket) = true
ends_test (tok.Op op.CloseBrace) = true
ends_test (tok.Op op.Colon) = true
ends_test (tok.Op op.Assign) = true
ends_test tok.Newline = true
ends_test _ = false

-- do the tokens begin with one that is a whole test?
abbrev pub alone_at : List Token → Bool
alone_at [] = false
alone_at (t ∷ []) = false
alone_at (t ∷ u ∷ ts) = if is_operand t.kind then ends_test u.kind else false

-- a binary operator of any level
abbrev pub operates : Tok → Bool
operates (tok.Op op.Star) = true
operates (tok.Op op.DoubleSlash) = true
operates (tok.Op op.Percent) = true
operates (tok.Op op.Plus) = true
operates (tok.Op op.Minus) = true
operates (tok.Op op.ShiftLeft) = true
operates (tok.Op op.ShiftRight) = true
operates (tok.Op op.Ampersand) = true
operates (tok.Op op.Caret) = true
operates (tok.Op op.Bar) = true
operates _ = false
