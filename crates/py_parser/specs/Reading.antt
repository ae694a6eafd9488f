-- Statements, read from left to right. No rule goes back. The front is moved on wherever a front ends.
use Rattle.std.specs.Prelude.{ℕ, zero, suc, Bool, true, false, if◌then◌else◌, List, [], ◌∷◌, ◌++◌, length, Option, Some, None, Ok}
use Rattle.py_tokens.specs.declared.token.Tok.{Tok}
use Rattle.py_tokens.specs.declared.token.Tok.TheVariants as tok
use Rattle.py_tokens.specs.declared.token.Token.{Token}
use Rattle.py_tokens.specs.declared.word.Word.TheVariants as word
use Rattle.py_tokens.specs.declared.operator.Op.TheVariants as op
use Rattle.py_tree.specs.declared.expr.Expr.{Expr}
use Rattle.py_tree.specs.declared.stmt.Param.{Param}
use Rattle.py_tree.specs.declared.stmt.Stmt.{Stmt}
use Rattle.py_tree.specs.declared.stmt.Target.{Target}
use Rattle.py_expressions.specs.declared.cursor.Mark.TheVariants as mark
use Rattle.py_expressions.specs.Input.{Parser, Input, Outcome, ◌>>=◌, ◌>>◌, ◌<$>◌, pure, refuse, peek, take_token, eat, expect, name, sees, turns}
use Rattle.py_expressions.specs.Reading.{all_tests, one_test}
use Rattle.py_expressions.specs.Targets.{all_targets}
use Rattle.py_statements.specs.Reading.{line, stmt_of, closes, series, one_line}
use Rattle.py_parser.specs.declared.clause.Head.{Head}
use Rattle.py_parser.specs.declared.clause.Head.TheVariants as head
use Rattle.py_parser.specs.declared.clause.Header.{Header}
use Rattle.py_parser.specs.declared.clause.Header.TheVariants as header
use Rattle.py_parser.specs.declared.clause.Stage.{Stage}
use Rattle.py_parser.specs.declared.clause.Parts.{Parts}
use Rattle.py_parser.specs.Clauses.{may_end, first_stage, behind, begins_compound, goes_on, params_fit, no_parts, with_clause, kind_of}

-- ---- headers

-- a word and a colon
unfoldable pub word_alone : Parser (Unit {0})
word_alone = do
  take_token
  expect (mark.Op op.Colon)

-- a word, a test and a colon
unfoldable pub condition : Parser Expr
condition = do
  take_token
  test ← one_test
  expect (mark.Op op.Colon)
  pure test

-- `in`, tests and a colon
unfoldable pub iterable : Parser Expr
iterable = do
  expect (mark.Word word.In)
  over ← all_tests
  expect (mark.Op op.Colon)
  pure over

-- behind the `in`
unfoldable pub iterated : Target → Parser Head
iterated target = do
  over ← all_tests
  expect (mark.Op op.Colon)
  pure (head.For target over)

-- "for" targets "in" tests ":"
unfoldable pub for_head : Parser Head
for_head = do
  take_token
  target ← all_targets
  expect (mark.Word word.In)
  iterated target

-- a parameter, with its default if it has one
abbrev pub param_of : List ℕ → Option Expr → Param
param_of text default = record { name = text; default = default }

-- param = NAME [ "=" test ]
unfoldable pub parameter : Parser Param
parameter = do
  text ← name
  has_default ← eat (mark.Op op.Assign)
  if has_default then (λ x. param_of text (Some x)) <$> one_test else pure (param_of text None)

-- [ param { "," param } [ "," ] ]
unfoldable pub parameters : Parser (List Param)
parameters = do
  none ← closes true
  if none then pure [] else series parameter true

-- a `def` whose parameters fit
abbrev pub fitting : List ℕ → List Param → Parser Head
fitting text params = if params_fit params then pure (head.Def text params) else refuse

-- behind the opening bracket
unfoldable pub defined : List ℕ → Parser Head
defined text = do
  params ← parameters
  expect (mark.Op op.CloseParen)
  expect (mark.Op op.Colon)
  fitting text params

-- "def" NAME "(" [ param { "," param } [ "," ] ] ")" ":"
unfoldable pub def_head : Parser Head
def_head = do
  take_token
  text ← name
  expect (mark.Op op.OpenParen)
  defined text

-- the header of a first clause that begins with a token of the kind
abbrev pub first_by : Tok → Parser Head
first_by (tok.Word word.If) = head.If <$> condition
first_by (tok.Word word.While) = head.While <$> condition
first_by (tok.Word word.For) = for_head
first_by (tok.Word word.Try) = word_alone >> pure head.Try
first_by (tok.Word word.Def) = def_head
first_by _ = refuse

-- the header of a first clause
unfoldable pub first : Parser Head
first = peek >>= first_by

-- "as" and a name
unfoldable pub naming : Parser (Option (List ℕ))
naming = do
  renames ← eat (mark.Word word.As)
  if renames then Some <$> name else pure None

-- test [ "as" NAME ] ":"
unfoldable pub catching : Parser Header
catching = do
  test ← one_test
  text ← naming
  expect (mark.Op op.Colon)
  pure (header.Except (Some test) text)

-- "except" [ test [ "as" NAME ] ] ":"
unfoldable pub except_header : Parser Header
except_header = do
  take_token
  all ← eat (mark.Op op.Colon)
  if all then pure (header.Except None None) else catching

-- the header of a further clause that begins with a token of the kind
abbrev pub later_by : Tok → Parser Header
later_by (tok.Word word.Elif) = header.Elif <$> condition
later_by (tok.Word word.Else) = word_alone >> pure header.Else
later_by (tok.Word word.Except) = except_header
later_by (tok.Word word.Finally) = word_alone >> pure header.Finally
later_by _ = refuse

-- the header of a further clause
unfoldable pub later : Parser Header
later = peek >>= later_by

-- ---- fronts

-- a front ends here
abbrev pub marked : Input → Input
marked i = record i { front = length i.ahead }

-- a front ends here, and nothing is read
abbrev pub mark_here : Parser (Unit {0})
mark_here = λ i. Ok (tt, marked i)

-- a front ends here, if the statement may end
abbrev pub marked_if : Bool → Input → Input
marked_if true i = marked i
marked_if false i = i

-- the parts of a statement that may end, and a refusal of one that may not
abbrev pub ended : Bool → Parts → Parser Parts
ended true parts = pure parts
ended false parts = refuse

-- ---- statements, where those in a block are read by the parameter

module _ (inner : Parser (List Stmt)) where
  -- stmt { stmt } Dedent, `n` statements at most, behind those that were found
  unfoldable pub block_from : ℕ → List Stmt → Parser (List Stmt)
  block_from zero found = refuse
  block_from (suc n) found = do
    some ← inner
    mark_here
    closed ← eat mark.Dedent
    if closed then pure (found ++ some) else block_from n (found ++ some)

  -- stmt { stmt } Dedent
  unfoldable pub whole_block : Parser (List Stmt)
  whole_block = λ i. block_from (turns i) [] i

  -- behind the Newline
  unfoldable pub block : Parser (List Stmt)
  block = do
    expect mark.Indent
    mark_here
    whole_block

  -- suite = line | Newline Indent stmt { stmt } Dedent
  unfoldable pub suite : Parser (List Stmt)
  suite = do
    is_block ← eat mark.Newline
    if is_block then block else one_line

  -- one more clause, and its stage
  unfoldable pub one_clause : Stage → Parts → Parser (Stage × Parts)
  one_clause stage parts = do
    at ← line
    its ← later
    body ← suite
    pure (behind stage its, with_clause at its body parts)

  -- the further clauses of a statement that has come to that stage, `n` at most
  unfoldable pub clauses : ℕ → Stage → Parts → Parser Parts
  clauses zero stage parts = λ i. ended (may_end stage) parts (marked_if (may_end stage) i)
  clauses (suc n) stage parts = λ i. (do
    kind ← peek
    if goes_on stage kind then (do
      more ← one_clause stage parts
      clauses n more.0 more.1) else ended (may_end stage) parts) (marked_if (may_end stage) i)

  -- the further clauses of a statement that has come to that stage
  unfoldable pub all_clauses : Stage → Parser Parts
  all_clauses stage = λ i. clauses (turns i) stage no_parts i

  -- behind the suite of the first clause
  unfoldable pub finished : ℕ → Head → List Stmt → Parser Stmt
  finished at its body = do
    parts ← all_clauses (first_stage its)
    pure (stmt_of at (kind_of at its body parts))

  -- behind the header of the first clause: its suite and the further clauses
  unfoldable pub behind_head : Stage → Parser (List Stmt × Parts)
  behind_head stage = do
    body ← suite
    parts ← all_clauses stage
    pure (body, parts)

  -- a compound statement
  unfoldable pub compound : Parser Stmt
  compound = do
    at ← line
    its ← first
    body ← suite
    finished at its body

  -- a compound statement, or a line
  abbrev pub stmt_if : Bool → Parser (List Stmt)
  stmt_if true = (λ one. one ∷ []) <$> compound
  stmt_if false = one_line

  -- stmt
  unfoldable pub stmt_with : Parser (List Stmt)
  stmt_with = peek >>= λ kind. stmt_if (begins_compound kind)

-- with blocks no deeper than this
unfoldable pub stmt : ℕ → Parser (List Stmt)
stmt zero = refuse
stmt (suc depth) = stmt_with (stmt depth)

-- ---- a file

-- nothing but End is left
abbrev pub ends_at : List Token → Bool
ends_at [] = false
ends_at (t ∷ []) = sees mark.End (record { ahead = t ∷ []; front = 0 })
ends_at (t ∷ u ∷ ts) = false

-- is nothing left but End?
unfoldable pub is_end : Input → Bool
is_end i = ends_at i.ahead

-- { stmt } End, `n` statements at most, behind those that were found
unfoldable pub file_from : ℕ → ℕ → List Stmt → Parser (List Stmt)
file_from depth zero found = refuse
file_from depth (suc n) found = λ i. if is_end i then Ok (found, i) else (stmt depth >>= λ some. mark_here >> file_from depth n (found ++ some)) i

-- file = { stmt } End
unfoldable pub file : List Token → Outcome (List Stmt)
file tokens = file_from (suc (suc (length tokens))) (suc (length tokens)) [] (record { ahead = tokens; front = length tokens })
