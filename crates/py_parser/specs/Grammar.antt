-- The grammar of statements. A value of these types is a reading by the grammar's rules, with a place for each token.
use Rattle.std.specs.Prelude.{◌≡◌, ℕ, Bool, true, false, List, [], ◌∷◌, ◌++◌, Option, Some, None}
use Rattle.py_tokens.specs.declared.token.Tok.{Tok}
use Rattle.py_tokens.specs.declared.token.Tok.TheVariants as tok
use Rattle.py_tokens.specs.declared.token.Token.{Token}
use Rattle.py_tokens.specs.declared.word.Word.{Word}
use Rattle.py_tokens.specs.declared.word.Word.TheVariants as word
use Rattle.py_tokens.specs.declared.operator.Op.TheVariants as op
use Rattle.py_tree.specs.declared.stmt.Param.{Param}
use Rattle.py_tree.specs.declared.stmt.Stmt.{Stmt}
use Rattle.py_tree.specs.declared.stmt.Module.{Module}
use Rattle.py_expressions.specs.Input.{Place, at}
use Rattle.py_expressions.specs.Grammar.{Members, Test, members_text, members_tree, test_text, test_tree}
use Rattle.py_expressions.specs.Targets.{Aims, aims_text, aims_tree}
use Rattle.py_statements.specs.Reading.{stmt_of}
use Rattle.py_statements.specs.Grammar.{Line, line_text, line_tree, Name, name_text, Series, series_text, series_list}
use Rattle.py_parser.specs.declared.clause.Head.{Head}
use Rattle.py_parser.specs.declared.clause.Head.TheVariants as head
use Rattle.py_parser.specs.declared.clause.Header.{Header}
use Rattle.py_parser.specs.declared.clause.Header.TheVariants as header
use Rattle.py_parser.specs.declared.clause.Stage.{Stage}
use Rattle.py_parser.specs.declared.clause.Parts.{Parts}
use Rattle.py_parser.specs.Clauses.{may_follow, may_end, first_stage, behind, params_fit, no_parts, with_clause, kind_of}

-- ---- headers, up to their colons

-- param = NAME [ "=" test ]
pub data Parameter : Type 0 where
  plain : Name → Parameter
  default : Name → Place → Test → Parameter

-- [ param { "," param } [ "," ] ]
pub data Parameters : Type 0 where
  none : Parameters
  some : Series Parameter true → Parameters

-- the tokens of a parameter, and then these
abbrev pub parameter_text : Parameter → List Token → List Token
parameter_text (plain n) rest = name_text n rest
parameter_text (default n l t) rest = name_text n (at l (tok.Op op.Assign) ∷ test_text t rest)

-- a parameter, with its default if it has one
abbrev pub parameter_tree : Parameter → Param
parameter_tree (plain n) = record { name = n.text; default = None }
parameter_tree (default n l t) = record { name = n.text; default = Some (test_tree t) }

-- the tokens of parameters, and then these
abbrev pub parameters_text : Parameters → List Token → List Token
parameters_text none rest = rest
parameters_text (some ps) rest = series_text parameter_text ps rest

-- the parameters
abbrev pub parameters_list : Parameters → List Param
parameters_list none = []
parameters_list (some ps) = series_list parameter_tree ps

-- what a compound statement begins with
pub data First : Type 0 where
  -- "if" test ":"
  if_ : Place → Test → Place → First
  -- "while" test ":"
  while_ : Place → Test → Place → First
  -- "for" targets "in" tests ":"
  for_ : Place → Aims → Place → Members → Place → First
  -- "try" ":"
  try_ : Place → Place → First
  -- "def" NAME "(" [ param { "," param } [ "," ] ] ")" ":"
  def_ : Place → Name → Place → (ps : Parameters) → params_fit (parameters_list ps) ≡ true → Place → Place → First

-- "as" NAME
pub record Naming : Type 0 where
  pub place : Place
  pub name : Name

-- what a further clause begins with
pub data Later : Type 0 where
  -- "elif" test ":"
  elif : Place → Test → Place → Later
  -- "else" ":"
  else_ : Place → Place → Later
  -- "except" test [ "as" NAME ] ":"
  except : Place → Test → Option Naming → Place → Later
  -- "except" ":"
  except_all : Place → Place → Later
  -- "finally" ":"
  finally : Place → Place → Later

-- the tokens of the header of a first clause, and then these
abbrev pub first_text : First → List Token → List Token
first_text (if_ l t c) rest = at l (tok.Word word.If) ∷ test_text t (at c (tok.Op op.Colon) ∷ rest)
first_text (while_ l t c) rest = at l (tok.Word word.While) ∷ test_text t (at c (tok.Op op.Colon) ∷ rest)
first_text (for_ l gs r m c) rest = at l (tok.Word word.For) ∷ aims_text gs (at r (tok.Word word.In) ∷ members_text m (at c (tok.Op op.Colon) ∷ rest))
first_text (try_ l c) rest = at l (tok.Word word.Try) ∷ at c (tok.Op op.Colon) ∷ rest
first_text (def_ l n b ps fit e c) rest =
    at l (tok.Word word.Def)
    ∷ name_text n (at b (tok.Op op.OpenParen) ∷ parameters_text ps (at e (tok.Op op.CloseParen) ∷ at c (tok.Op op.Colon) ∷ rest))

-- the tokens of `as` and a name, if they stand there, and then these
abbrev pub naming_text : Option Naming → List Token → List Token
naming_text None rest = rest
naming_text (Some n) rest = at n.place (tok.Word word.As) ∷ name_text n.name rest

-- the tokens of the header of a further clause, and then these
abbrev pub later_text : Later → List Token → List Token
later_text (elif l t c) rest = at l (tok.Word word.Elif) ∷ test_text t (at c (tok.Op op.Colon) ∷ rest)
later_text (else_ l c) rest = at l (tok.Word word.Else) ∷ at c (tok.Op op.Colon) ∷ rest
later_text (except l t n c) rest = at l (tok.Word word.Except) ∷ test_text t (naming_text n (at c (tok.Op op.Colon) ∷ rest))
later_text (except_all l c) rest = at l (tok.Word word.Except) ∷ at c (tok.Op op.Colon) ∷ rest
later_text (finally l c) rest = at l (tok.Word word.Finally) ∷ at c (tok.Op op.Colon) ∷ rest

-- the header of a first clause
abbrev pub first_tree : First → Head
first_tree (if_ l t c) = head.If (test_tree t)
first_tree (while_ l t c) = head.While (test_tree t)
first_tree (for_ l gs r m c) = head.For (aims_tree gs) (members_tree m)
first_tree (try_ l c) = head.Try
first_tree (def_ l n b ps fit e c) = head.Def n.text (parameters_list ps)

-- the name behind `as`
abbrev pub naming_tree : Option Naming → Option (List ℕ)
naming_tree None = None
naming_tree (Some n) = Some n.name.text

-- the header of a further clause
abbrev pub later_tree : Later → Header
later_tree (elif l t c) = header.Elif (test_tree t)
later_tree (else_ l c) = header.Else
later_tree (except l t n c) = header.Except (Some (test_tree t)) (naming_tree n)
later_tree (except_all l c) = header.Except None None
later_tree (finally l c) = header.Finally

-- the line of the first word
abbrev pub first_line : First → ℕ
first_line (if_ l t c) = l.line
first_line (while_ l t c) = l.line
first_line (for_ l gs r m c) = l.line
first_line (try_ l c) = l.line
first_line (def_ l n b ps fit e c) = l.line

-- the line of a further clause's word
abbrev pub later_line : Later → ℕ
later_line (elif l t c) = l.line
later_line (else_ l c) = l.line
later_line (except l t n c) = l.line
later_line (except_all l c) = l.line
later_line (finally l c) = l.line

-- the word that a further clause begins with
abbrev pub later_word : Later → Word
later_word (elif l t c) = word.Elif
later_word (else_ l c) = word.Else
later_word (except l t n c) = word.Except
later_word (except_all l c) = word.Except
later_word (finally l c) = word.Finally

-- ---- statements

mutual
  -- a line of small statements, or a compound one: a header and its suite, and further clauses in the order that is right for them
  pub data Statement : Type 0 where
    simple : Line → Statement
    compound : (first : First) → Suite → Clauses (first_stage (first_tree first)) → Statement

  -- suite = line | Newline Indent stmt { stmt } Dedent
  pub data Suite : Type 0 where
    inline : Line → Suite
    block : Place → Place → Statement → Statements → Place → Suite

  -- { stmt }
  pub data Statements : Type 0 where
    no_statement : Statements
    more : Statement → Statements → Statements

  -- the further clauses of a statement that has come to that stage
  pub data Clauses : Stage → Type 0 where
    ends : {stage : Stage} → may_end stage ≡ true → Clauses stage
    clause : {stage : Stage} → (later : Later) → may_follow stage (later_word later) ≡ true → Suite → Clauses (behind stage (later_tree later)) → Clauses stage

-- the tokens of a reading, and then these

abbrev mutual
  pub statement_text : Statement → List Token → List Token
  statement_text (simple one) rest = line_text one rest
  statement_text (compound first b cs) rest = first_text first (suite_text b (clauses_text cs rest))

  pub suite_text : Suite → List Token → List Token
  suite_text (inline one) rest = line_text one rest
  suite_text (block n i first others d) rest = at n tok.Newline ∷ at i tok.Indent ∷ statement_text first (statements_text others (at d tok.Dedent ∷ rest))

  pub statements_text : Statements → List Token → List Token
  statements_text no_statement rest = rest
  statements_text (more one others) rest = statement_text one (statements_text others rest)

  pub clauses_text : {stage : Stage} → Clauses stage → List Token → List Token
  clauses_text (ends whole) rest = rest
  clauses_text (clause later follows b cs) rest = later_text later (suite_text b (clauses_text cs rest))

-- the tree of a reading: a line gives one statement or more

abbrev mutual
  pub statement_list : Statement → List Stmt
  statement_list (simple one) = line_tree one
  statement_list (compound first b cs) =
      stmt_of (first_line first) (kind_of (first_line first) (first_tree first) (suite_list b) (clauses_parts cs no_parts)) ∷ []

  pub suite_list : Suite → List Stmt
  suite_list (inline one) = line_tree one
  suite_list (block n i first others d) = statement_list first ++ statements_list others

  pub statements_list : Statements → List Stmt
  statements_list no_statement = []
  statements_list (more one others) = statement_list one ++ statements_list others

  pub clauses_parts : {stage : Stage} → Clauses stage → Parts → Parts
  clauses_parts (ends whole) parts = parts
  clauses_parts (clause later follows b cs) parts = clauses_parts cs (with_clause (later_line later) (later_tree later) (suite_list b) parts)

-- file = { stmt } End
pub record IsTree (tokens : List Token) (module' : Module) : Type 0 where
  pub reading : Statements
  pub last : Place
  pub spelled : tokens ≡ statements_text reading (at last tok.End ∷ [])
  pub is : statements_list reading ≡ module'.body
