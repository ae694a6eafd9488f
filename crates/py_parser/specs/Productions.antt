-- The productions of compound statements, over the suites of the grammar: each with its own clauses in their order, its tokens
-- and its tree.
use Rattle.std.specs.Prelude.{◌≡◌, List, [], ◌∷◌, ◌++◌, map, true, Option, Some, None}
use Rattle.py_tokens.specs.declared.token.Tok.TheVariants as tok
use Rattle.py_tokens.specs.declared.token.Token.{Token}
use Rattle.py_tokens.specs.declared.word.Word.TheVariants as word
use Rattle.py_tokens.specs.declared.operator.Op.TheVariants as op
use Rattle.py_tree.specs.declared.stmt.Branch.{Branch}
use Rattle.py_tree.specs.declared.stmt.Handler.{Handler}
use Rattle.py_tree.specs.declared.stmt.Stmt.{Stmt}
use Rattle.py_tree.specs.declared.stmt.StmtKind.TheVariants as s
use Rattle.py_expressions.specs.Input.{Place, at}
use Rattle.py_expressions.specs.Grammar.{Members, Test, members_text, members_tree, test_text, test_tree}
use Rattle.py_expressions.specs.Targets.{Aims, aims_text, aims_tree}
use Rattle.py_statements.specs.Reading.{stmt_of}
use Rattle.py_statements.specs.Grammar.{Name, name_text}
use Rattle.py_parser.specs.Clauses.{params_fit, first_stage, branch_of, handler_of}
use Rattle.py_parser.specs.Grammar.{Parameters, parameters_text, parameters_list, Naming, naming_text, naming_tree, First}
use Rattle.py_parser.specs.Grammar.{first_tree, Suite, suite_text, suite_list, Clauses, Statement, compound, statement_text}
use Rattle.py_parser.specs.Grammar.{statement_list}

-- ---- the clauses

-- elif = "elif" test ":" suite
pub record Elif : Type 0 where
  pub place : Place
  pub test : Test
  pub colon : Place
  pub body : Suite

-- else = "else" ":" suite
pub record Else : Type 0 where
  pub place : Place
  pub colon : Place
  pub body : Suite

-- except = "except" test [ "as" NAME ] ":" suite
pub record Except : Type 0 where
  pub place : Place
  pub test : Test
  pub naming : Option Naming
  pub colon : Place
  pub body : Suite

-- except_all = "except" ":" suite
pub record ExceptAll : Type 0 where
  pub place : Place
  pub colon : Place
  pub body : Suite

-- finally = "finally" ":" suite
pub record Finally : Type 0 where
  pub place : Place
  pub colon : Place
  pub body : Suite

-- excepts = except { except } [ except_all ] | except_all
pub data Excepts : Type 0 where
  tested : Except → List Except → Option ExceptAll → Excepts
  untested : ExceptAll → Excepts

-- ---- the productions

-- a compound statement
pub data Production : Type 0 where
  -- "if" test ":" suite { elif } [ else ]
  if_ : Place → Test → Place → Suite → List Elif → Option Else → Production
  -- "while" test ":" suite [ else ]
  while_ : Place → Test → Place → Suite → Option Else → Production
  -- "for" targets "in" tests ":" suite [ else ]
  for_ : Place → Aims → Place → Members → Place → Suite → Option Else → Production
  -- "try" ":" suite finally
  try_finally : Place → Place → Suite → Finally → Production
  -- "try" ":" suite excepts [ else ] [ finally ]
  try_excepts : Place → Place → Suite → Excepts → Option Else → Option Finally → Production
  -- "def" NAME "(" [ param { "," param } [ "," ] ] ")" ":" suite
  def_ : Place → Name → Place → (ps : Parameters) → params_fit (parameters_list ps) ≡ true → Place → Place → Suite → Production

-- ---- the tokens of a production, and then these

-- the tokens of an `elif` clause, and then these
abbrev pub elif_text : Elif → List Token → List Token
elif_text e rest = at e.place (tok.Word word.Elif) ∷ test_text e.test (at e.colon (tok.Op op.Colon) ∷ suite_text e.body rest)

-- those of each, in order
abbrev pub elifs_text : List Elif → List Token → List Token
elifs_text [] rest = rest
elifs_text (e ∷ es) rest = elif_text e (elifs_text es rest)

-- those of `else`, if it stands there
abbrev pub else_text : Option Else → List Token → List Token
else_text None rest = rest
else_text (Some e) rest = at e.place (tok.Word word.Else) ∷ at e.colon (tok.Op op.Colon) ∷ suite_text e.body rest

-- those of an `except` clause with a test
abbrev pub except_text : Except → List Token → List Token
except_text e rest = at e.place (tok.Word word.Except) ∷ test_text e.test (naming_text e.naming (at e.colon (tok.Op op.Colon) ∷ suite_text e.body rest))

-- those of each, in order
abbrev pub tested_text : List Except → List Token → List Token
tested_text [] rest = rest
tested_text (e ∷ es) rest = except_text e (tested_text es rest)

-- those of an `except` clause without one
abbrev pub except_all_text : ExceptAll → List Token → List Token
except_all_text e rest = at e.place (tok.Word word.Except) ∷ at e.colon (tok.Op op.Colon) ∷ suite_text e.body rest

-- and if it stands there
abbrev pub untested_text : Option ExceptAll → List Token → List Token
untested_text None rest = rest
untested_text (Some e) rest = except_all_text e rest

-- those of all `except` clauses
abbrev pub excepts_text : Excepts → List Token → List Token
excepts_text (tested e es all) rest = except_text e (tested_text es (untested_text all rest))
excepts_text (untested e) rest = except_all_text e rest

-- those of a `finally` clause
abbrev pub last_text : Finally → List Token → List Token
last_text f rest = at f.place (tok.Word word.Finally) ∷ at f.colon (tok.Op op.Colon) ∷ suite_text f.body rest

-- and if it stands there
abbrev pub finally_text : Option Finally → List Token → List Token
finally_text None rest = rest
finally_text (Some f) rest = last_text f rest

-- those of a production
abbrev pub production_text : Production → List Token → List Token
production_text (if_ l t c b es e) rest = at l (tok.Word word.If) ∷ test_text t (at c (tok.Op op.Colon) ∷ suite_text b (elifs_text es (else_text e rest)))
production_text (while_ l t c b e) rest = at l (tok.Word word.While) ∷ test_text t (at c (tok.Op op.Colon) ∷ suite_text b (else_text e rest))
production_text (for_ l gs i m c b e) rest =
    at l (tok.Word word.For)
    ∷ aims_text gs (at i (tok.Word word.In) ∷ members_text m (at c (tok.Op op.Colon) ∷ suite_text b (else_text e rest)))
production_text (try_finally l c b f) rest = at l (tok.Word word.Try) ∷ at c (tok.Op op.Colon) ∷ suite_text b (last_text f rest)
production_text (try_excepts l c b es e f) rest =
    at l (tok.Word word.Try) ∷ at c (tok.Op op.Colon) ∷ suite_text b (excepts_text es (else_text e (finally_text f rest)))
production_text (def_ l n o ps fit r c b) rest =
    at l (tok.Word word.Def)
    ∷ name_text n (at o (tok.Op op.OpenParen)
    ∷ parameters_text ps (at r (tok.Op op.CloseParen) ∷ at c (tok.Op op.Colon) ∷ suite_text b rest))

-- ---- the tree of a production

-- the branch of an `elif`, with the line of its word
abbrev pub elif_branch : Elif → Branch
elif_branch e = branch_of e.place.line (test_tree e.test) (suite_list e.body)

-- the statements of the `else`, and none where there is none
abbrev pub else_list : Option Else → List Stmt
else_list None = []
else_list (Some e) = suite_list e.body

-- the handler of an `except`, with the line of its word
abbrev pub except_handler : Except → Handler
except_handler e = handler_of e.place.line (Some (test_tree e.test)) (naming_tree e.naming) (suite_list e.body)

-- that of one without a test
abbrev pub except_all_handler : ExceptAll → Handler
except_all_handler e = handler_of e.place.line None None (suite_list e.body)

-- and if it stands there
abbrev pub untested_list : Option ExceptAll → List Handler
untested_list None = []
untested_list (Some e) = except_all_handler e ∷ []

-- the handlers, in order
abbrev pub excepts_list : Excepts → List Handler
excepts_list (tested e es all) = except_handler e ∷ map except_handler es ++ untested_list all
excepts_list (untested e) = except_all_handler e ∷ []

-- the statements of the `finally`, if it stands there
abbrev pub finally_list : Option Finally → Option (List Stmt)
finally_list None = None
finally_list (Some f) = Some (suite_list f.body)

-- the statement, with the line of its first word
abbrev pub production_tree : Production → Stmt
production_tree (if_ l t c b es e) = stmt_of l.line (s.If (branch_of l.line (test_tree t) (suite_list b) ∷ map elif_branch es) (else_list e))
production_tree (while_ l t c b e) = stmt_of l.line (s.While (test_tree t) (suite_list b) (else_list e))
production_tree (for_ l gs i m c b e) = stmt_of l.line (s.For (aims_tree gs) (members_tree m) (suite_list b) (else_list e))
production_tree (try_finally l c b f) = stmt_of l.line (s.Try (suite_list b) [] [] (Some (suite_list f.body)))
production_tree (try_excepts l c b es e f) = stmt_of l.line (s.Try (suite_list b) (excepts_list es) (else_list e) (finally_list f))
production_tree (def_ l n o ps fit r c b) = stmt_of l.line (s.Def n.text (parameters_list ps) (suite_list b))

-- ---- the compound statements of the grammar are the productions

-- a compound statement of the grammar and a production have the same tokens and the same tree
pub record Agree (statement : Statement) (production : Production) : Type 0 where
  pub spelled : (rest : List Token) → statement_text statement rest ≡ production_text production rest
  pub is : statement_list statement ≡ production_tree production ∷ []

-- the production that a header, its suite and its further clauses are
pub record IsProduced (first : First) (body : Suite) (clauses : Clauses (first_stage (first_tree first))) : Type 0 where
  pub production : Production
  pub agree : Agree (compound first body clauses) production

-- the header, its suite and the further clauses that a production is
pub record IsCompound (production : Production) : Type 0 where
  pub first : First
  pub body : Suite
  pub clauses : Clauses (first_stage (first_tree first))
  pub agree : Agree (compound first body clauses) production
