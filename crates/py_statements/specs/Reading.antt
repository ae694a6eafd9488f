-- A line of statements, read from left to right. No rule moves the front.
use Rattle.std.specs.Prelude.{ℕ, zero, suc, Bool, true, false, if◌then◌else◌, List, [], ◌∷◌, ◌++◌, Option, Some, None, Ok}
use Rattle.std.specs.Option.{is_some}
use Rattle.py_tokens.specs.declared.token.Tok.{Tok}
use Rattle.py_tokens.specs.declared.token.Tok.TheVariants as tok
use Rattle.py_tokens.specs.declared.token.Token.{Token}
use Rattle.py_tokens.specs.declared.word.Word.TheVariants as word
use Rattle.py_tokens.specs.declared.operator.Op.TheVariants as op
use Rattle.py_tree.specs.declared.expr.Expr.{Expr}
use Rattle.py_tree.specs.declared.expr.BinaryOp.{BinaryOp}
use Rattle.py_tree.specs.declared.expr.BinaryOp.TheVariants as binary
use Rattle.py_tree.specs.declared.stmt.Alias.{Alias}
use Rattle.py_tree.specs.declared.stmt.Target.{Target}
use Rattle.py_tree.specs.declared.stmt.Stmt.{Stmt, roll-Stmt}
use Rattle.py_tree.specs.declared.stmt.StmtKind.{StmtKind}
use Rattle.py_tree.specs.declared.stmt.StmtKind.TheVariants as s
use Rattle.py_expressions.specs.declared.cursor.Mark.TheVariants as mark
use Rattle.py_expressions.specs.Input.{Parser, Input, ◌>>=◌, ◌>>◌, ◌<$>◌, pure, refuse, peek, take_token, eat, expect, name, sees, turns}
use Rattle.py_expressions.specs.Reading.{all_tests, one_test, begins_test}
use Rattle.py_expressions.specs.Targets.{target_of, one_target, one_gone, given}

-- ---- tables

-- the augmented signs
abbrev pub augments : Tok → Option BinaryOp
augments (tok.Op op.PlusAssign) = Some binary.Add
augments (tok.Op op.MinusAssign) = Some binary.Sub
augments (tok.Op op.StarAssign) = Some binary.Mul
augments (tok.Op op.DoubleSlashAssign) = Some binary.FloorDiv
augments (tok.Op op.PercentAssign) = Some binary.Mod
augments (tok.Op op.DoubleStarAssign) = Some binary.Pow
augments (tok.Op op.AmpersandAssign) = Some binary.And
augments (tok.Op op.BarAssign) = Some binary.Or
augments (tok.Op op.CaretAssign) = Some binary.Xor
augments (tok.Op op.ShiftLeftAssign) = Some binary.Shl
augments (tok.Op op.ShiftRightAssign) = Some binary.Shr
augments _ = None

-- what a small statement ends before
abbrev pub ends_small : Tok → Bool
ends_small (tok.Op op.Semicolon) = true
ends_small tok.Newline = true
ends_small _ = false

-- whether a line of statements may begin so
abbrev pub begins_line : Tok → Bool
begins_line (tok.Word word.Del) = true
begins_line (tok.Word word.Pass) = true
begins_line (tok.Word word.Break) = true
begins_line (tok.Word word.Continue) = true
begins_line (tok.Word word.Return) = true
begins_line (tok.Word word.Raise) = true
begins_line (tok.Word word.Global) = true
begins_line (tok.Word word.Assert) = true
begins_line (tok.Word word.Import) = true
begins_line (tok.Word word.From) = true
begins_line kind = begins_test kind

-- the byte between the parts of a dotted name
abbrev pub dot : ℕ
dot = 46

-- ---- steps

-- the line of the first token
abbrev pub line_at : List Token → ℕ
line_at [] = 0
line_at (t ∷ ts) = t.line

-- the line of the next token, which stays
abbrev pub line : Parser ℕ
line = λ i. Ok (line_at i.ahead, i)

-- the statement of the kind in that line
abbrev pub stmt_of : ℕ → StmtKind → Stmt
stmt_of at kind = roll-Stmt (record { line = at; kind = kind })

-- a closing bracket comes next, where there was an opening one
abbrev pub is_closed : Bool → Input → Bool
is_closed bracketed i = if bracketed then sees (mark.Op op.CloseParen) i else false

-- does the closing bracket come next, where there was an opening one?
abbrev pub closes : Bool → Parser Bool
closes bracketed = λ i. Ok (is_closed bracketed i, i)

-- items with commas between, and in brackets also behind the last
module _ {A : Type 0} (item : Parser A) (bracketed : Bool) where
  -- item { "," item }, `n` items at most, behind those that were found
  unfoldable pub series_from : ℕ → List A → Parser (List A)
  series_from zero found = refuse
  series_from (suc n) found = do
    x ← item
    goes_on ← eat (mark.Op op.Comma)
    if goes_on then (do
      ends ← closes bracketed
      if ends then pure (found ++ x ∷ []) else series_from n (found ++ x ∷ [])) else pure (found ++ x ∷ [])

  -- item { "," item }, and in brackets [ "," ] behind the last
  unfoldable pub series : Parser (List A)
  series = λ i. series_from (turns i) [] i

-- ---- names

-- { "." NAME }, `n` at most, behind the text that was found
unfoldable pub dotted_from : ℕ → List ℕ → Parser (List ℕ)
dotted_from zero found = pure found
dotted_from (suc n) found = do
  goes_on ← eat (mark.Op op.Dot)
  if goes_on then (do
    part ← name
    dotted_from n (found ++ dot ∷ part)) else pure found

-- { "." NAME } behind the first name
unfoldable pub all_dotted : List ℕ → Parser (List ℕ)
all_dotted first = λ i. dotted_from (turns i) first i

-- names with dots between, as one text
unfoldable pub dotted : Parser (List ℕ)
dotted = name >>= all_dotted

-- dotted or NAME
abbrev pub path : Bool → Parser (List ℕ)
path true = dotted
path false = name

-- what is imported, and the name that it is bound to if one is given
abbrev pub alias_of : List ℕ → Option (List ℕ) → Alias
alias_of text bound = record { name = text; bound = bound }

-- a name of an import, in which dots may stand or not, and the name that it is bound to
unfoldable pub alias : Bool → Parser Alias
alias with_dots = do
  text ← path with_dots
  renames ← eat (mark.Word word.As)
  if renames then (λ bound. alias_of text (Some bound)) <$> name else pure (alias_of text None)

-- ---- tests and assignments

-- tests behind targets are the value of an assignment, and tests alone are an expression
abbrev pub concluded : List Target → Expr → StmtKind
concluded [] x = s.Expr x
concluded (t ∷ ts) x = s.Assign (t ∷ ts) x

-- what tests are, behind the targets of an assignment: one more of those where `=` follows
unfoldable pub assigned : ℕ → ℕ → List Target → Expr → Parser StmtKind
assigned depth zero found x = pure (concluded found x)
assigned depth (suc n) found x = do
  assigns ← eat (mark.Op op.Assign)
  if assigns then (do
    to ← given (target_of depth x)
    y ← all_tests
    assigned depth n (found ++ to ∷ []) y) else pure (concluded found x)

-- { "=" tests } behind the first tests
unfoldable pub all_assigned : ℕ → Expr → Parser StmtKind
all_assigned depth x = λ i. assigned depth (turns i) [] x i

-- AUG tests behind the target
abbrev pub augmented_by : Target → Option BinaryOp → Parser StmtKind
augmented_by to None = refuse
augmented_by to (Some how) = take_token >> s.Aug to how <$> all_tests

-- one AUG tests
unfoldable pub augmented : Parser StmtKind
augmented = do
  to ← one_target
  kind ← peek
  augmented_by to (augments kind)

-- Tests, or what they are the beginning of. In front of an augmented sign they are read again, as its target.
unfoldable pub expression : Parser StmtKind
expression = λ i. (do
  x ← all_tests
  kind ← peek
  if is_some (augments kind) then (λ j. augmented (record j { ahead = i.ahead })) else all_assigned (suc (turns i)) x) i

-- ---- small statements

-- a word that is a whole statement
abbrev pub alone : StmtKind → Parser StmtKind
alone kind = take_token >> pure kind

-- "del" gone { "," gone }
unfoldable pub deletion : Parser StmtKind
deletion = take_token >> s.Del <$> series one_gone false

-- [ item ], in front of the end of a small statement
unfoldable pub optional : {A : Type 0} → Parser A → Parser (Option A)
optional item = do
  kind ← peek
  if ends_small kind then pure None else Some <$> item

-- "return" [ tests ]
unfoldable pub returned : Parser StmtKind
returned = take_token >> s.Return <$> optional all_tests

-- "raise" [ test ]
unfoldable pub raised : Parser StmtKind
raised = take_token >> s.Raise <$> optional one_test

-- "global" NAME { "," NAME }
unfoldable pub globals : Parser StmtKind
globals = take_token >> s.Global <$> series name false

-- "assert" test [ "," test ]
unfoldable pub assertion : Parser StmtKind
assertion = do
  take_token
  test ← one_test
  more ← eat (mark.Op op.Comma)
  if more then (λ message. s.Assert test (Some message)) <$> one_test else pure (s.Assert test None)

-- "import" das { "," das }
unfoldable pub imports : Parser StmtKind
imports = take_token >> s.Import <$> series (alias true) false

-- the names that `from` imports
unfoldable pub imported : Parser (List Alias)
imported = do
  bracketed ← eat (mark.Op op.OpenParen)
  names ← series (alias false) bracketed
  if bracketed then (expect (mark.Op op.CloseParen) >> pure names) else pure names

-- "from" dotted "import" ..
unfoldable pub imports_from : Parser StmtKind
imports_from = do
  take_token
  text ← dotted
  expect (mark.Word word.Import)
  s.From text <$> imported

-- the small statement that begins with a token of the kind
abbrev pub small_by : Tok → Parser StmtKind
small_by (tok.Word word.Del) = deletion
small_by (tok.Word word.Pass) = alone s.Pass
small_by (tok.Word word.Break) = alone s.Break
small_by (tok.Word word.Continue) = alone s.Continue
small_by (tok.Word word.Return) = returned
small_by (tok.Word word.Raise) = raised
small_by (tok.Word word.Global) = globals
small_by (tok.Word word.Assert) = assertion
small_by (tok.Word word.Import) = imports
small_by (tok.Word word.From) = imports_from
small_by _ = expression

-- small
unfoldable pub small : Parser StmtKind
small = peek >>= small_by

-- a small statement, with its line
unfoldable pub statement : Parser Stmt
statement = do
  at ← line
  stmt_of at <$> small

-- ---- a line

-- small { ";" small } [ ";" ] Newline, `n` statements at most, behind those that were found
unfoldable pub statements : ℕ → List Stmt → Parser (List Stmt)
statements zero found = refuse
statements (suc n) found = do
  one ← statement
  goes_on ← eat (mark.Op op.Semicolon)
  ends ← eat mark.Newline
  if ends then pure (found ++ one ∷ []) else (if goes_on then statements n (found ++ one ∷ []) else refuse)

-- line = small { ";" small } [ ";" ] Newline
unfoldable pub one_line : Parser (List Stmt)
one_line = λ i. statements (turns i) [] i
