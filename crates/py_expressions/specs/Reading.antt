-- Expressions, read from left to right. No rule goes back.
use Rattle.std.specs.Prelude.{ℕ, zero, suc, Bool, true, false, if◌then◌else◌, List, [], ◌∷◌, ◌++◌, Option, Some, None}
use Rattle.std.specs.Str.{bytes_eq}
use Rattle.py_tokens.specs.declared.token.Tok.{Tok}
use Rattle.py_tokens.specs.declared.token.Tok.TheVariants as tok
use Rattle.py_tokens.specs.declared.token.Token.{Token}
use Rattle.py_tokens.specs.declared.word.Word.{Word}
use Rattle.py_tokens.specs.declared.word.Word.TheVariants as word
use Rattle.py_tokens.specs.declared.operator.Op.TheVariants as op
use Rattle.py_tree.specs.declared.expr.Expr.{Expr}
use Rattle.py_tree.specs.declared.expr.Expr.TheVariants as ex
use Rattle.py_tree.specs.declared.expr.UnaryOp.{UnaryOp}
use Rattle.py_tree.specs.declared.expr.UnaryOp.TheVariants as unary
use Rattle.py_tree.specs.declared.expr.BinaryOp.{BinaryOp}
use Rattle.py_tree.specs.declared.expr.BinaryOp.TheVariants as binary
use Rattle.py_tree.specs.declared.expr.CompareOp.{CompareOp}
use Rattle.py_tree.specs.declared.expr.CompareOp.TheVariants as compares
use Rattle.py_expressions.specs.declared.cursor.Mark.TheVariants as mark
use Rattle.py_expressions.specs.declared.grammar.Rule.{Rule}
use Rattle.py_expressions.specs.declared.grammar.Rule.TheVariants as rule
use Rattle.py_expressions.specs.declared.calls.Arguments.{Arguments}
use Rattle.py_expressions.specs.Input.{Parser, Input, ◌>>=◌, ◌>>◌, ◌<$>◌, pure, refuse, peek, take_token, eat, expect, name, turns, is_mark}

-- ---- tables

-- the operator of a sign
abbrev pub sign : Tok → Option UnaryOp
sign (tok.Op op.Plus) = Some unary.Plus
sign (tok.Op op.Minus) = Some unary.Minus
sign (tok.Op op.Tilde) = Some unary.Invert
sign _ = None

-- the operators of a level, from the tightest on
abbrev pub operator : ℕ → Tok → Option BinaryOp
operator (suc zero) (tok.Op op.Star) = Some binary.Mul
operator (suc zero) (tok.Op op.DoubleSlash) = Some binary.FloorDiv
operator (suc zero) (tok.Op op.Percent) = Some binary.Mod
operator (suc (suc zero)) (tok.Op op.Plus) = Some binary.Add
operator (suc (suc zero)) (tok.Op op.Minus) = Some binary.Sub
operator (suc (suc (suc zero))) (tok.Op op.ShiftLeft) = Some binary.Shl
operator (suc (suc (suc zero))) (tok.Op op.ShiftRight) = Some binary.Shr
operator (suc (suc (suc (suc zero)))) (tok.Op op.Ampersand) = Some binary.And
operator (suc (suc (suc (suc (suc zero))))) (tok.Op op.Caret) = Some binary.Xor
operator (suc (suc (suc (suc (suc (suc zero)))))) (tok.Op op.Bar) = Some binary.Or
operator _ _ = None

-- the level above which an operand of a comparison stands
abbrev pub top_level : ℕ
top_level = 6

-- the comparisons of one token, but `is`
abbrev pub comparison : Tok → Option CompareOp
comparison (tok.Op op.Less) = Some compares.Lt
comparison (tok.Op op.Greater) = Some compares.Gt
comparison (tok.Op op.Equal) = Some compares.Eq
comparison (tok.Op op.LessEqual) = Some compares.Le
comparison (tok.Op op.GreaterEqual) = Some compares.Ge
comparison (tok.Op op.NotEqual) = Some compares.Ne
comparison (tok.Word word.In) = Some compares.In
comparison _ = None

-- whether an operand may begin so
abbrev pub begins_operand : Tok → Bool
begins_operand (tok.Name _) = true
begins_operand (tok.Int _) = true
begins_operand (tok.Str _) = true
begins_operand (tok.Word word.None) = true
begins_operand (tok.Word word.True) = true
begins_operand (tok.Word word.False) = true
begins_operand (tok.Op op.OpenParen) = true
begins_operand (tok.Op op.OpenBracket) = true
begins_operand (tok.Op op.OpenBrace) = true
begins_operand (tok.Op op.Plus) = true
begins_operand (tok.Op op.Minus) = true
begins_operand (tok.Op op.Tilde) = true
begins_operand _ = false

-- whether a test may begin so
abbrev pub begins_test : Tok → Bool
begins_test (tok.Word word.Not) = true
begins_test kind = begins_operand kind

-- whether a primary goes on so
abbrev pub begins_trailer : Tok → Bool
begins_trailer (tok.Op op.OpenParen) = true
begins_trailer (tok.Op op.OpenBracket) = true
begins_trailer (tok.Op op.Dot) = true
begins_trailer _ = false

-- ---- trees

-- members, and whether a comma stands behind the last
abbrev pub Listed : Type 0
Listed = List Expr × Bool

-- One member without a comma is itself, others are a tuple.
unfoldable pub tuple_of : List Expr → Bool → Expr
tuple_of (x ∷ []) false = x
tuple_of (x ∷ []) true = ex.Tuple (x ∷ [])
tuple_of [] c = ex.Tuple []
tuple_of (x ∷ y ∷ zs) c = ex.Tuple (x ∷ y ∷ zs)

-- One operand is itself, others are joined.
unfoldable pub joined : (List Expr → Expr) → List Expr → Expr
joined make (x ∷ []) = x
joined make [] = make []
joined make (x ∷ y ∷ zs) = make (x ∷ y ∷ zs)

-- an operand alone is itself, and one with comparisons behind it is compared
unfoldable pub compared : Expr → List (CompareOp × Expr) → Expr
compared first [] = first
compared first (c ∷ cs) = ex.Compare first (c ∷ cs)

-- the names of keyword arguments
abbrev pub names : List (List ℕ × Expr) → List (List ℕ)
names [] = []
names (key ∷ keys) = key.0 ∷ names keys

-- is the text none of the others?
abbrev pub is_new : List ℕ → List (List ℕ) → Bool
is_new text [] = true
is_new text (other ∷ others) = if bytes_eq other text then false else is_new text others

-- the arguments of a call: positional ones, and those with a name
abbrev pub arguments_of : List Expr → List (List ℕ × Expr) → Arguments
arguments_of args keys = record { args = args; keys = keys }

-- ---- parts

-- A name and `=` come next.
abbrev pub is_name : Tok → Bool
is_name (tok.Name _) = true
is_name _ = false

-- do the tokens begin with a name and `=`?
abbrev pub keyword_at : List Token → Bool
keyword_at [] = false
keyword_at (t ∷ []) = false
keyword_at (t ∷ u ∷ ts) = if is_name t.kind then is_mark (mark.Op op.Assign) u.kind else false

-- do a name and `=` come next?
unfoldable pub sees_keyword : Input → Bool
sees_keyword i = keyword_at i.ahead

-- the string that comes next, and what follows; or the text that was found
abbrev pub strings_by : (List ℕ → Parser (List ℕ)) → List ℕ → Tok → Parser (List ℕ)
strings_by go found (tok.Str text) = take_token >> go (found ++ text)
strings_by go found _ = pure found

-- { STRING }, `n` at most, behind the text that was found
unfoldable pub strings : ℕ → List ℕ → Parser (List ℕ)
strings zero found = pure found
strings (suc n) found = peek >>= strings_by (strings n) found

-- { STRING }, as one text
unfoldable pub all_strings : Parser (List ℕ)
all_strings = λ i. strings (turns i) [] i

-- the comparison that comes next
abbrev pub compare_op_with : Option CompareOp → Parser (Option CompareOp)
compare_op_with None = pure None
compare_op_with (Some found) = take_token >> pure (Some found)

-- the comparison that begins with a token of the kind, if one does: "not" "in", "is" [ "not" ], or that of one token
abbrev pub compare_op_by : Tok → Parser (Option CompareOp)
compare_op_by (tok.Word word.Not) = do
  take_token
  expect (mark.Word word.In)
  pure (Some compares.NotIn)
compare_op_by (tok.Word word.Is) = do
  take_token
  negates ← eat (mark.Word word.Not)
  pure (Some (if negates then compares.IsNot else compares.Is))
compare_op_by kind = compare_op_with (comparison kind)

-- [ comparison ]
unfoldable pub compare_op : Parser (Option CompareOp)
compare_op = peek >>= compare_op_by

-- An operand, and operators of one level with their right operands.
module _ (operand : Parser Expr) (level : ℕ) where
  -- the operator that was found with its right operand, and what follows; or the left operand alone
  abbrev pub chain_by : (Expr → Parser Expr) → Expr → Option BinaryOp → Parser Expr
  chain_by go left None = pure left
  chain_by go left (Some found) = do
    take_token
    right ← operand
    go (ex.Binary found left right)

  -- { operator operand }, `n` at most, behind the left operand
  unfoldable pub chain : ℕ → Expr → Parser Expr
  chain zero left = pure left
  chain (suc n) left = peek >>= λ kind. chain_by (chain n) left (operator level kind)

  -- { operator operand } behind the first operand
  unfoldable pub whole_chain : Expr → Parser Expr
  whole_chain first = λ i. chain (turns i) first i

-- Operands with a word between.
module _ (operand : Parser Expr) (between : Word) where
  -- { between operand }, `n` at most, behind those that were found
  unfoldable pub operands_from : ℕ → List Expr → Parser (List Expr)
  operands_from zero found = pure found
  operands_from (suc n) found = do
    goes_on ← eat (mark.Word between)
    if goes_on then (do
      x ← operand
      operands_from n (found ++ x ∷ [])) else pure found

  -- { between operand } behind the first operand
  unfoldable pub operands : Expr → Parser (List Expr)
  operands first = λ i. operands_from (turns i) (first ∷ []) i

  -- operand { between operand }
  unfoldable pub junction : (List Expr → Expr) → Parser Expr
  junction make = do
    first ← operand
    found ← operands first
    pure (joined make found)

-- Members with commas between.
module _ (item : Parser Expr) where
  -- item { "," item } [ "," ], `n` items at most, behind those that were found
  unfoldable pub members_from : ℕ → List Expr → Parser Listed
  members_from zero found = refuse
  members_from (suc n) found = do
    x ← item
    comma ← eat (mark.Op op.Comma)
    if comma then (do
      kind ← peek
      if begins_test kind then members_from n (found ++ x ∷ []) else pure (found ++ x ∷ [], true)) else pure (found ++ x ∷ [], false)

  -- one or more
  unfoldable pub members : Parser Listed
  members = λ i. members_from (turns i) [] i

-- The rules. What nests is read by the parameter, one level of nesting less.
module _ (inner : Rule → Parser Expr) where
  -- ---- atoms

  -- the members in brackets, if any, behind the opening one
  unfoldable pub some_members : Parser Listed
  some_members = do
    kind ← peek
    if begins_test kind then members (inner rule.Test) else pure ([], false)

  -- [ tests ] ")"
  unfoldable pub round : Parser Expr
  round = do
    found ← some_members
    expect (mark.Op op.CloseParen)
    pure (tuple_of found.0 found.1)

  -- [ tests ] "]"
  unfoldable pub square : Parser Expr
  square = do
    found ← some_members
    expect (mark.Op op.CloseBracket)
    pure (ex.List found.0)

  -- the value behind a key
  abbrev pub valued : {A : Type 0} → A → Parser (A × Expr)
  valued key = do
    expect (mark.Op op.Colon)
    value ← inner rule.Test
    pure (key, value)

  -- test ":" test
  unfoldable pub pair : Parser (Expr × Expr)
  pair = do
    key ← inner rule.Test
    expect (mark.Op op.Colon)
    value ← inner rule.Test
    pure (key, value)

  -- [ pair { "," pair } [ "," ] ], `n` pairs at most, behind those that were found
  unfoldable pub pairs_from : ℕ → List (Expr × Expr) → Parser (List (Expr × Expr))
  pairs_from zero found = pure found
  pairs_from (suc n) found = do
    kind ← peek
    if begins_test kind then (do
      one ← pair
      comma ← eat (mark.Op op.Comma)
      if comma then pairs_from n (found ++ one ∷ []) else pure (found ++ one ∷ [])) else pure found

  -- [ pair { "," pair } [ "," ] ]
  unfoldable pub pairs : Parser (List (Expr × Expr))
  pairs = λ i. pairs_from (turns i) [] i

  -- pairs "}"
  unfoldable pub brace : Parser Expr
  brace = do
    found ← pairs
    expect (mark.Op op.CloseBrace)
    pure (ex.Dict found)

  -- the atom that begins with a token of the kind
  abbrev pub atom_by : Tok → Parser Expr
  atom_by (tok.Name text) = take_token >> pure (ex.Name text)
  atom_by (tok.Int n) = take_token >> pure (ex.Int n)
  atom_by (tok.Str _) = ex.Str <$> all_strings
  atom_by (tok.Word word.None) = take_token >> pure ex.None
  atom_by (tok.Word word.True) = take_token >> pure ex.True
  atom_by (tok.Word word.False) = take_token >> pure ex.False
  atom_by (tok.Op op.OpenParen) = take_token >> round
  atom_by (tok.Op op.OpenBracket) = take_token >> square
  atom_by (tok.Op op.OpenBrace) = take_token >> brace
  atom_by _ = refuse

  -- atom
  unfoldable pub atom : Parser Expr
  atom = peek >>= atom_by

  -- ---- calls

  -- no keyword argument stands in front of a positional one
  abbrev pub position : Expr → List Expr → List (List ℕ × Expr) → Parser Arguments
  position x args [] = pure (arguments_of (args ++ x ∷ []) [])
  position x args (key ∷ keys) = refuse

  -- a positional argument behind those that are given
  unfoldable pub positional : Arguments → Parser Arguments
  positional given = do
    x ← inner rule.Test
    position x given.args given.keys

  -- the names of keyword arguments differ
  unfoldable pub keyword : Arguments → Parser Arguments
  keyword given = do
    text ← name
    expect (mark.Op op.Assign)
    x ← inner rule.Test
    if is_new text (names given.keys) then pure (arguments_of given.args (given.keys ++ (text, x) ∷ [])) else refuse

  -- one more argument behind those that are given
  unfoldable pub argument : Arguments → Parser Arguments
  argument given = λ i. (if sees_keyword i then keyword given else positional given) i

  -- [ arg { "," arg } [ "," ] ], `n` arguments at most, behind those that are given
  unfoldable pub arguments_from : ℕ → Arguments → Parser Arguments
  arguments_from zero given = pure given
  arguments_from (suc n) given = do
    kind ← peek
    if begins_test kind then (do
      more ← argument given
      comma ← eat (mark.Op op.Comma)
      if comma then arguments_from n more else pure more) else pure given

  -- [ arg { "," arg } [ "," ] ]
  unfoldable pub arguments : Parser Arguments
  arguments = λ i. arguments_from (turns i) (arguments_of [] []) i

  -- arguments ")" behind the callee and its opening bracket
  unfoldable pub call : Expr → Parser Expr
  call callee = do
    given ← arguments
    expect (mark.Op op.CloseParen)
    pure (ex.Call callee given.args given.keys)

  -- tests "]" behind the object and its opening bracket
  unfoldable pub index : Expr → Parser Expr
  index object = do
    found ← members (inner rule.Test)
    expect (mark.Op op.CloseBracket)
    pure (ex.Index object (tuple_of found.0 found.1))

  -- the trailer that begins with a token of the kind, behind what is on its left
  abbrev pub trailer_by : Expr → Tok → Parser Expr
  trailer_by left (tok.Op op.OpenParen) = take_token >> call left
  trailer_by left (tok.Op op.OpenBracket) = take_token >> index left
  trailer_by left _ = take_token >> ex.Attr left <$> name

  -- one trailer behind what is on its left
  unfoldable pub trailer : Expr → Parser Expr
  trailer left = peek >>= trailer_by left

  -- { trailer }, `n` at most, behind what is on their left
  unfoldable pub trailers : ℕ → Expr → Parser Expr
  trailers zero left = pure left
  trailers (suc n) left = do
    kind ← peek
    if begins_trailer kind then (do
      longer ← trailer left
      trailers n longer) else pure left

  -- { trailer } behind an atom
  unfoldable pub all_trailers : Expr → Parser Expr
  all_trailers first = λ i. trailers (turns i) first i

  -- primary = atom { trailer }
  unfoldable pub primary : Parser Expr
  primary = do
    first ← atom
    all_trailers first

  -- ---- operators

  -- the exponent, behind its base and the sign of a power
  abbrev pub raised : Expr → Parser Expr
  raised base = ex.Binary binary.Pow base <$> inner rule.Factor

  -- power = primary [ "**" factor ]
  unfoldable pub power : Parser Expr
  power = do
    base ← primary
    raises ← eat (mark.Op op.DoubleStar)
    if raises then ex.Binary binary.Pow base <$> inner rule.Factor else pure base

  -- behind a sign that stands first
  abbrev pub signed : UnaryOp → Parser Expr
  signed found = ex.Unary found <$> inner rule.Factor

  -- a factor behind its sign, or a power where there is none
  abbrev pub factor_by : Option UnaryOp → Parser Expr
  factor_by None = power
  factor_by (Some found) = take_token >> ex.Unary found <$> inner rule.Factor

  -- factor = ("+" | "-" | "~") factor | power
  unfoldable pub factor : Parser Expr
  factor = peek >>= λ kind. factor_by (sign kind)

  -- a sum of the level: operators up to that level and their operands
  unfoldable pub sum : ℕ → Parser Expr
  sum zero = factor
  sum (suc level) = do
    left ← sum level
    whole_chain (sum level) (suc level) left

  -- ---- tests

  -- the comparison that was found with its right operand, and what follows; or those that were found before
  abbrev pub comparisons_by : (List (CompareOp × Expr) → Parser (List (CompareOp × Expr))) → List (CompareOp × Expr) → Option CompareOp
      → Parser (List (CompareOp × Expr))
  comparisons_by go found None = pure found
  comparisons_by go found (Some how) = do
    right ← sum top_level
    go (found ++ (how, right) ∷ [])

  -- { comparison bor }, `n` at most, behind those that were found
  unfoldable pub comparisons : ℕ → List (CompareOp × Expr) → Parser (List (CompareOp × Expr))
  comparisons zero found = pure found
  comparisons (suc n) found = compare_op >>= comparisons_by (comparisons n) found

  -- { comparison bor }
  unfoldable pub all_comparisons : Parser (List (CompareOp × Expr))
  all_comparisons = λ i. comparisons (turns i) [] i

  -- compare = bor { comparison bor }
  unfoldable pub compare : Parser Expr
  compare = do
    first ← sum top_level
    more ← all_comparisons
    pure (compared first more)

  -- behind a `not`
  abbrev pub negated : Parser Expr
  negated = ex.Not <$> inner rule.NotTest

  -- nottest = "not" nottest | compare
  unfoldable pub not_test : Parser Expr
  not_test = do
    negates ← eat (mark.Word word.Not)
    if negates then ex.Not <$> inner rule.NotTest else compare

  -- andtest = nottest { "and" nottest }
  unfoldable pub and_test : Parser Expr
  and_test = junction not_test word.And ex.And

  -- ortest = andtest { "or" andtest }
  unfoldable pub or_test : Parser Expr
  or_test = junction and_test word.Or ex.Or

  -- ortest "else" test, behind the first operand and its `if`
  unfoldable pub conditional : Expr → Parser Expr
  conditional first = do
    asked ← or_test
    expect (mark.Word word.Else)
    other ← inner rule.Test
    pure (ex.Cond asked first other)

  -- test = ortest [ "if" ortest "else" test ]
  unfoldable pub whole_test : Parser Expr
  whole_test = do
    first ← or_test
    asks ← eat (mark.Word word.If)
    if asks then conditional first else pure first

  -- the rule of that name
  abbrev pub by_rule : Rule → Parser Expr
  by_rule rule.Test = whole_test
  by_rule rule.NotTest = not_test
  by_rule rule.Factor = factor
  by_rule rule.Primary = primary

-- an expression by a rule, with no more than that number of brackets, signs and the like, each in the one before
unfoldable pub expr : ℕ → Rule → Parser Expr
expr zero which = refuse
expr (suc depth) which = by_rule (expr depth) which

-- tests = test { "," test } [ "," ], with no more nestings than `depth`
unfoldable pub tests : ℕ → Parser Expr
tests depth = do
  found ← members (expr depth rule.Test)
  pure (tuple_of found.0 found.1)

-- ---- with room for every nesting of what is ahead

-- tests
unfoldable pub all_tests : Parser Expr
all_tests = λ i. tests (suc (turns i)) i

-- test
unfoldable pub one_test : Parser Expr
one_test = λ i. expr (suc (turns i)) rule.Test i
