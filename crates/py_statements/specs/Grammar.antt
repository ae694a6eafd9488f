-- The grammar of a line of statements. A value of these types is a reading by the grammar's rules, with a place for each token,
-- as the readings of expressions are.
use Rattle.std.specs.Prelude.{◌≡◌, ℕ, Bool, true, false, List, [], ◌∷◌, ◌++◌, Option, Some, None}
use Rattle.std.specs.Option.{option_map}
use Rattle.py_tokens.specs.declared.token.Tok.{Tok}
use Rattle.py_tokens.specs.declared.token.Tok.TheVariants as tok
use Rattle.py_tokens.specs.declared.token.Token.{Token}
use Rattle.py_tokens.specs.declared.word.Word.TheVariants as word
use Rattle.py_tokens.specs.declared.operator.Op.TheVariants as op
use Rattle.py_tree.specs.declared.expr.Expr.{Expr}
use Rattle.py_tree.specs.declared.expr.BinaryOp.{BinaryOp}
use Rattle.py_tree.specs.declared.stmt.Alias.{Alias}
use Rattle.py_tree.specs.declared.stmt.Target.{Target}
use Rattle.py_tree.specs.declared.stmt.Stmt.{Stmt, roll-Stmt}
use Rattle.py_tree.specs.declared.stmt.StmtKind.{StmtKind}
use Rattle.py_tree.specs.declared.stmt.StmtKind.TheVariants as s
use Rattle.py_expressions.specs.Input.{Place, at}
use Rattle.py_expressions.specs.Grammar.{Members, Test, members_text, members_tree, test_text, test_tree}
use Rattle.py_expressions.specs.Targets.{Aims, One, Gone, aims_text, aims_tree, one_text, one_tree, gone_text, gone_tree}
use Rattle.py_statements.specs.Reading.{augments, line_at, dot}

-- ---- parts

-- NAME
pub record Name : Type 0 where
  pub place : Place
  pub text : List ℕ

-- dotted = NAME { "." NAME }
pub data Dotted : Type 0 where
  last : Name → Dotted
  dotted : Name → Place → Dotted → Dotted

-- path [ "as" NAME ]
pub data Renamed (Path : Type 0) : Type 0 where
  same : Path → Renamed Path
  renamed : Path → Place → Name → Renamed Path

-- item { "," item }, and in brackets, where the flag is true, [ "," ] behind the last
pub data Series (Item : Type 0) : Bool → Type 0 where
  last : {bracketed : Bool} → Item → Series Item bracketed
  last_comma : Item → Place → Series Item true
  comma : {bracketed : Bool} → Item → Place → Series Item bracketed → Series Item bracketed

-- targets "=" { targets "=" } tests
pub data Assigned : Type 0 where
  value : Aims → Place → Members → Assigned
  again : Aims → Place → Assigned → Assigned

-- what `from` imports: as { "," as } | "(" as { "," as } [ "," ] ")"       as = NAME [ "as" NAME ]
pub data Imported : Type 0 where
  bare : Series (Renamed Name) false → Imported
  round : Place → Series (Renamed Name) true → Place → Imported

-- "," test
pub record Message : Type 0 where
  pub place : Place
  pub test : Test

-- ---- the rules

-- small: a statement that has no statements in it
pub data Small : Type 0 where
  -- tests
  tests : Members → Small
  -- targets "=" { targets "=" } tests
  assigned : Assigned → Small
  -- one AUG tests
  augmented : One → Place → (kind : Tok) (how : BinaryOp) → augments kind ≡ Some how → Members → Small
  -- "del" gone { "," gone }
  del : Place → Series Gone false → Small
  pass : Place → Small
  break : Place → Small
  continue : Place → Small
  -- "return" [ tests ]
  return : Place → Option Members → Small
  -- "raise" [ test ]
  raise : Place → Option Test → Small
  -- "global" NAME { "," NAME }
  global : Place → Series Name false → Small
  -- "assert" test [ "," test ]
  assert : Place → Test → Option Message → Small
  -- "import" das { "," das }       das = dotted [ "as" NAME ]
  import : Place → Series (Renamed Dotted) false → Small
  -- "from" dotted "import" ..
  from : Place → Dotted → Place → Imported → Small

-- line = small { ";" small } [ ";" ] Newline
pub data Line : Type 0 where
  last : Small → Place → Line
  last_semicolon : Small → Place → Place → Line
  semicolon : Small → Place → Line → Line

-- ---- the tokens of a reading, and then these

-- the tokens of a name, and then these
abbrev pub name_text : Name → List Token → List Token
name_text n rest = at n.place (tok.Name n.text) ∷ rest

-- the tokens of a dotted name, and then these
abbrev pub dotted_text : Dotted → List Token → List Token
dotted_text (Dotted.last n) rest = name_text n rest
dotted_text (dotted n l d) rest = name_text n (at l (tok.Op op.Dot) ∷ dotted_text d rest)

-- the tokens of a path, with its `as` and a name if it has them, and then these
abbrev pub renamed_text : {Path : Type 0} → (Path → List Token → List Token) → Renamed Path → List Token → List Token
renamed_text text (same p) rest = text p rest
renamed_text text (renamed p l n) rest = text p (at l (tok.Word word.As) ∷ name_text n rest)

-- the tokens of items with commas between, and then these
abbrev pub series_text : {Item : Type 0} {bracketed : Bool} → (Item → List Token → List Token) → Series Item bracketed → List Token → List Token
series_text text (Series.last x) rest = text x rest
series_text text (last_comma x l) rest = text x (at l (tok.Op op.Comma) ∷ rest)
series_text text (comma x l xs) rest = text x (at l (tok.Op op.Comma) ∷ series_text text xs rest)

-- the tokens of an item that may be missing, and then these
abbrev pub option_text : {Item : Type 0} → (Item → List Token → List Token) → Option Item → List Token → List Token
option_text text None rest = rest
option_text text (Some x) rest = text x rest

-- the tokens of an assignment, and then these
abbrev pub assigned_text : Assigned → List Token → List Token
assigned_text (value gs l m) rest = aims_text gs (at l (tok.Op op.Assign) ∷ members_text m rest)
assigned_text (again gs l a) rest = aims_text gs (at l (tok.Op op.Assign) ∷ assigned_text a rest)

-- the tokens of what `from` imports, and then these
abbrev pub imported_text : Imported → List Token → List Token
imported_text (bare ns) rest = series_text (renamed_text name_text) ns rest
imported_text (round l ns r) rest = at l (tok.Op op.OpenParen) ∷ series_text (renamed_text name_text) ns (at r (tok.Op op.CloseParen) ∷ rest)

-- the tokens of the message of an assertion, and then these
abbrev pub message_text : Message → List Token → List Token
message_text m rest = at m.place (tok.Op op.Comma) ∷ test_text m.test rest

-- the tokens of a small statement, and then these
abbrev pub small_text : Small → List Token → List Token
small_text (tests m) rest = members_text m rest
small_text (assigned a) rest = assigned_text a rest
small_text (augmented o l kind how is m) rest = one_text o (at l kind ∷ members_text m rest)
small_text (del l gs) rest = at l (tok.Word word.Del) ∷ series_text gone_text gs rest
small_text (pass l) rest = at l (tok.Word word.Pass) ∷ rest
small_text (break l) rest = at l (tok.Word word.Break) ∷ rest
small_text (continue l) rest = at l (tok.Word word.Continue) ∷ rest
small_text (return l m) rest = at l (tok.Word word.Return) ∷ option_text members_text m rest
small_text (raise l t) rest = at l (tok.Word word.Raise) ∷ option_text test_text t rest
small_text (global l ns) rest = at l (tok.Word word.Global) ∷ series_text name_text ns rest
small_text (assert l t m) rest = at l (tok.Word word.Assert) ∷ test_text t (option_text message_text m rest)
small_text (import l ns) rest = at l (tok.Word word.Import) ∷ series_text (renamed_text dotted_text) ns rest
small_text (from l d r ns) rest = at l (tok.Word word.From) ∷ dotted_text d (at r (tok.Word word.Import) ∷ imported_text ns rest)

-- the tokens of a line, and then these
abbrev pub line_text : Line → List Token → List Token
line_text (Line.last one n) rest = small_text one (at n tok.Newline ∷ rest)
line_text (last_semicolon one l n) rest = small_text one (at l (tok.Op op.Semicolon) ∷ at n tok.Newline ∷ rest)
line_text (semicolon one l others) rest = small_text one (at l (tok.Op op.Semicolon) ∷ line_text others rest)

-- ---- the tree of a reading

-- one text, whatever stood between its parts
abbrev pub dotted_tree : Dotted → List ℕ
dotted_tree (Dotted.last n) = n.text
dotted_tree (dotted n l d) = n.text ++ dot ∷ dotted_tree d

-- what is imported, and the name that it is bound to if `as` gives one
abbrev pub renamed_tree : {Path : Type 0} → (Path → List ℕ) → Renamed Path → Alias
renamed_tree tree (same p) = record { name = tree p; bound = None }
renamed_tree tree (renamed p l n) = record { name = tree p; bound = Some n.text }

-- the items
abbrev pub series_list : {Item A : Type 0} {bracketed : Bool} → (Item → A) → Series Item bracketed → List A
series_list tree (Series.last x) = tree x ∷ []
series_list tree (last_comma x l) = tree x ∷ []
series_list tree (comma x l xs) = tree x ∷ series_list tree xs

-- the text of a name
abbrev pub name_tree : Name → List ℕ
name_tree n = n.text

-- the targets of an assignment, the leftmost first
abbrev pub assigned_targets : Assigned → List Target
assigned_targets (value gs l m) = aims_tree gs ∷ []
assigned_targets (again gs l a) = aims_tree gs ∷ assigned_targets a

-- the value of an assignment
abbrev pub assigned_value : Assigned → Expr
assigned_value (value gs l m) = members_tree m
assigned_value (again gs l a) = assigned_value a

-- what `from` imports
abbrev pub imported_list : Imported → List Alias
imported_list (bare ns) = series_list (renamed_tree name_tree) ns
imported_list (round l ns r) = series_list (renamed_tree name_tree) ns

-- the message of an assertion
abbrev pub message_tree : Message → Expr
message_tree m = test_tree m.test

-- a small statement
abbrev pub small_tree : Small → StmtKind
small_tree (tests m) = s.Expr (members_tree m)
small_tree (assigned a) = s.Assign (assigned_targets a) (assigned_value a)
small_tree (augmented o l kind how is m) = s.Aug (one_tree o) how (members_tree m)
small_tree (del l gs) = s.Del (series_list gone_tree gs)
small_tree (pass l) = s.Pass
small_tree (break l) = s.Break
small_tree (continue l) = s.Continue
small_tree (return l m) = s.Return (option_map members_tree m)
small_tree (raise l t) = s.Raise (option_map test_tree t)
small_tree (global l ns) = s.Global (series_list name_tree ns)
small_tree (assert l t m) = s.Assert (test_tree t) (option_map message_tree m)
small_tree (import l ns) = s.Import (series_list (renamed_tree dotted_tree) ns)
small_tree (from l d r ns) = s.From (dotted_tree d) (imported_list ns)

-- a statement, with the line of its first token
abbrev pub statement_tree : Small → Stmt
statement_tree one = roll-Stmt (record { line = line_at (small_text one []); kind = small_tree one })

-- the statements of a line
abbrev pub line_tree : Line → List Stmt
line_tree (Line.last one n) = statement_tree one ∷ []
line_tree (last_semicolon one l n) = statement_tree one ∷ []
line_tree (semicolon one l others) = statement_tree one ∷ line_tree others
