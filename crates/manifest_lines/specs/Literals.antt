-- Literals: a string (adjacent ones are one), a number, None, True, False, a tuple of strings. Brackets around one change
-- nothing, so that they are counted.
use Rattle.std.specs.Prelude.{ℕ, zero, suc, ◌+◌, ◌-◌, nat_lt, nat_eq, ◌&&◌, if◌then◌else◌, List, [], ◌∷◌, ◌++◌, length, Option, Some, None}
use Rattle.py_tokens.specs.declared.token.Tok.{Tok}
use Rattle.py_tokens.specs.declared.token.Tok.TheVariants as tok
use Rattle.py_tokens.specs.declared.word.Word.TheVariants as word
use Rattle.manifest_lines.specs.declared.ahead.Sign.{Sign}
use Rattle.manifest_lines.specs.declared.ahead.Sign.TheVariants as sign
use Rattle.manifest_lines.specs.declared.literal.Literal.{Literal}
use Rattle.manifest_lines.specs.declared.literal.Literal.TheVariants as lit
use Rattle.manifest_lines.specs.Ahead.{Parser, ◌>>=◌, ◌>>◌, ◌<$>◌, pure, refuse, peek, take_token, eat, expect, sees}

-- ---- brackets

-- this sign as often as it comes next, up to a count, behind those that were found
unfoldable pub signs : Sign → ℕ → ℕ → Parser ℕ
signs s zero found = pure found
signs s (suc most) found = do
  seen ← eat s
  if seen then signs s most (found + 1) else pure found

-- how many opening brackets come next, which are passed
abbrev pub opens : Parser ℕ
opens = λ tokens. signs sign.Open (length tokens) 0 tokens

-- closing brackets, that count of them
unfoldable pub close : ℕ → Parser (Unit {0})
close count = do
  closed ← signs sign.Close count 0
  if nat_eq closed count then pure tt else refuse

-- ---- strings

-- the string that comes next, and what follows; or the text that was found
abbrev pub strings_by : (List ℕ → Parser (List ℕ)) → List ℕ → Tok → Parser (List ℕ)
strings_by go found (tok.Str text) = take_token >> go (found ++ text)
strings_by go found kind = pure found

-- { STRING }, behind the text that was found
unfoldable pub strings_from : ℕ → List ℕ → Parser (List ℕ)
strings_from zero found = pure found
strings_from (suc turns) found = peek >>= strings_by (strings_from turns) found

-- { STRING }, as one text
unfoldable pub strings : Parser (List ℕ)
strings = λ tokens. strings_from (length tokens) [] tokens

-- the strings that begin with a token of the kind
abbrev pub text_by : Tok → Parser (List ℕ)
text_by (tok.Str found) = strings
text_by kind = refuse

-- one string or more
unfoldable pub text : Parser (List ℕ)
text = peek >>= text_by

-- ---- literals

-- the literal that begins with a token of the kind, and is no tuple
abbrev pub plain_by : Tok → Parser Literal
plain_by (tok.Str found) = lit.Text <$> strings
plain_by (tok.Int n) = take_token >> pure (lit.Number n)
plain_by (tok.Word word.None) = take_token >> pure lit.None
plain_by (tok.Word word.True) = take_token >> pure lit.True
plain_by (tok.Word word.False) = take_token >> pure lit.False
plain_by kind = refuse

-- one that is no tuple and has no brackets
unfoldable pub plain : Parser Literal
plain = peek >>= plain_by

-- a string in any number of brackets
unfoldable pub item : Parser (List ℕ)
item = do
  depth ← opens
  found ← text
  close depth
  pure found

-- the next item of a tuple, behind one, and none where the tuple ends: a comma may stand in front of its closing bracket
unfoldable pub next_item : Parser (Option (List ℕ))
next_item = do
  closed ← eat sign.Close
  if closed then pure None else (do
    expect sign.Comma
    last ← eat sign.Close
    if last then pure None else Some <$> item)

-- the item that was read, and what follows; or those that were found, where none was
abbrev pub items_by : (List (List ℕ) → Parser (List (List ℕ))) → List (List ℕ) → Option (List ℕ) → Parser (List (List ℕ))
items_by go found None = pure found
items_by go found (Some text) = go (found ++ text ∷ [])

-- the items of a tuple behind those that were found
unfoldable pub items_from : ℕ → List (List ℕ) → Parser (List (List ℕ))
items_from zero found = refuse
items_from (suc turns) found = next_item >>= items_by (items_from turns) found

-- the items of a tuple behind its first one
unfoldable pub items : List ℕ → Parser (List (List ℕ))
items first = λ tokens. items_from (length tokens) (first ∷ []) tokens

-- a tuple behind its first item, which is a string
unfoldable pub tuple : Literal → ℕ → Parser (Literal × ℕ)
tuple (lit.Text first) around = do
  found ← items first
  pure (lit.Texts found, around)
tuple first around = refuse

-- What stands in brackets of that depth, with those that are still to close. Where fewer close behind a plain literal, it is the first
-- item of a tuple.
unfoldable pub inside : ℕ → Parser (Literal × ℕ)
inside depth = λ tokens. (if nat_lt 0 depth && sees sign.Close tokens then pure (lit.Texts [], depth) else (do
  value ← plain
  closed ← signs sign.Close depth 0
  if nat_lt closed depth then tuple value (depth - closed - 1) else pure (value, 0))) tokens

-- a literal in any number of brackets
unfoldable pub literal : Parser Literal
literal = do
  depth ← opens
  found ← inside depth
  close found.1
  pure found.0
