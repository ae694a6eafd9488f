-- What may come behind a reading.
use Rattle.std.specs.Prelude.{ℕ, List, [], ◌∷◌}
use Rattle.py_tokens.specs.declared.token.Tok.{Tok}
use Rattle.py_tokens.specs.declared.token.Tok.TheVariants as tok
use Rattle.py_tokens.specs.declared.token.Token.{Token}
use Rattle.py_tokens.specs.declared.word.Word.TheVariants as word
use Rattle.py_tokens.specs.declared.operator.Op.TheVariants as op

-- At which rule a token goes on: 0 where it begins a test and goes on with none, 1 a trailer, 2 a power, 3 to 8 the
-- binary operators, 9 a comparison, 10 `and`, 11 `or`, 12 `if`, 13 a comma, and 14 where it ends every test.
abbrev pub joins : Tok → ℕ
joins (tok.Name _) = 0
joins (tok.Int _) = 0
joins (tok.Str _) = 0
joins (tok.Word word.None) = 0
joins (tok.Word word.True) = 0
joins (tok.Word word.False) = 0
joins (tok.Op op.OpenBrace) = 0
joins (tok.Op op.Tilde) = 0
joins (tok.Op op.OpenParen) = 1
joins (tok.Op op.OpenBracket) = 1
joins (tok.Op op.Dot) = 1
joins (tok.Op op.DoubleStar) = 2
joins (tok.Op op.Star) = 3
joins (tok.Op op.DoubleSlash) = 3
joins (tok.Op op.Percent) = 3
joins (tok.Op op.Plus) = 4
joins (tok.Op op.Minus) = 4
joins (tok.Op op.ShiftLeft) = 5
joins (tok.Op op.ShiftRight) = 5
joins (tok.Op op.Ampersand) = 6
joins (tok.Op op.Caret) = 7
joins (tok.Op op.Bar) = 8
joins (tok.Op op.Less) = 9
joins (tok.Op op.Greater) = 9
joins (tok.Op op.Equal) = 9
joins (tok.Op op.LessEqual) = 9
joins (tok.Op op.GreaterEqual) = 9
joins (tok.Op op.NotEqual) = 9
joins (tok.Word word.In) = 9
joins (tok.Word word.Not) = 9
joins (tok.Word word.Is) = 9
joins (tok.Word word.And) = 10
joins (tok.Word word.Or) = 11
joins (tok.Word word.If) = 12
joins (tok.Op op.Comma) = 13
joins _ = 14

-- the rank of the first of the tokens
abbrev pub rank : List Token → ℕ
rank [] = 14
rank (t ∷ ts) = joins t.kind

-- the least ranks of what may stand behind each rule
abbrev pub behind_atom : ℕ
behind_atom = 1

-- no trailer goes on there
abbrev pub behind_primary : ℕ
behind_primary = 2

-- neither a trailer nor `**` goes on there
abbrev pub behind_factor : ℕ
behind_factor = 3

-- nor does a binary operator or a comparison go on there
abbrev pub behind_compare : ℕ
behind_compare = 10

-- nor does a word of a test go on there
abbrev pub behind_test : ℕ
behind_test = 13

-- nor does a comma go on there
abbrev pub behind_tests : ℕ
behind_tests = 14
