-- A reading of tokens whose names have no dot takes no name with a dot. What is known of the tokens is known of those behind a reading.
use Rattle.std.proofs.Common.{◌≡◌, ℕ, Bool, true, ◌&&◌, List, [], ◌∷◌, ◌++◌, Option, Some, None, refl, ◌∙◌}
use Rattle.std.specs.List.{list_all}
use Rattle.std.specs.Option.{option_map}
use Rattle.std.proofs.lemmas.List.Folds.{list_all-append}
use Rattle.py_source.specs.py_tokens.declared.token.Tok.TheVariants as tok
use Rattle.py_source.specs.py_tokens.declared.token.Token.{Token}
use Rattle.py_source.specs.py_tokens.declared.operator.Op.TheVariants as op
use Rattle.py_source.specs.py_tokens.declared.word.Word.TheVariants as word
use Rattle.py_source.specs.py_tokens.Formed.{token_formed}
use Rattle.py_meaning.specs.py_tree.declared.expr.Expr.{Expr}
use Rattle.py_meaning.specs.py_tree.declared.stmt.Alias.{Alias}
use Rattle.py_meaning.specs.py_tree.declared.stmt.Handler.{Handler}
use Rattle.py_meaning.specs.py_tree.declared.stmt.Stmt.{Stmt}
use Rattle.emit_measures.proofs.py_tree_lemmas.Formed.{both}
use Rattle.py_source.specs.py_expressions.Input.{at}
use Rattle.py_source.specs.py_expressions.Grammar as e
use Rattle.py_source.specs.py_expressions.Targets as t
use Rattle.py_source.specs.py_statements.Reading.{line_at, stmt_of}
use Rattle.py_source.specs.py_statements.Grammar.{Name, Dotted, dotted, Renamed, same, renamed, Imported, bare, round, Small, Line, last_semicolon, semicolon, name_text, name_tree, dotted_text, dotted_tree, renamed_text, renamed_tree, series_list, assigned_targets, assigned_value, imported_text, imported_list, message_tree, small_text, small_tree, line_text, line_tree, statement_tree}
use Rattle.py_source.proofs.py_statements_lemmas.Formed as lines
use Rattle.py_source.specs.py_parser.Clauses.{branch_of, handler_of, may_end, no_parts, with_clause, kind_of}
use Rattle.py_source.specs.py_parser.Grammar as g
use Rattle.py_source.proofs.py_parser_lemmas.Formed as parser
use Rattle.tr_source.specs.Names.{is_undotted, token_undotted, names_undotted, kind_undotted, branch_undotted, handler_undotted, stmt_undotted}
use Rattle.tr_source.proofs.Layers.{block_undotted, option_undotted, of_stmt, of_Expr, of_Assign, of_Aug, of_Del, of_Pass, of_Break, of_Continue, of_Return, of_Raise, of_Global, of_Import, of_From, of_Assert, of_If, of_While, of_For, of_Def, of_Try, of_branch, of_handler}

-- ---- the parts of a compound statement

abbrev type_of : {A : Type 0} → A → Type 0
type_of {A} x = A

abbrev Parts : Type 0
Parts = type_of no_parts

abbrev argument_of : {A B : Type 0} → (A → B) → Type 0
argument_of {A} f = A

abbrev Stage : Type 0
Stage = argument_of may_end

record Good (parts : Parts) : Type 0 where
  branches : list_all branch_undotted parts.branches ≡ true
  handlers : list_all handler_undotted parts.handlers ≡ true
  rest : block_undotted parts.rest ≡ true
  last : option_undotted parts.last ≡ true

none_good : Good no_parts
none_good = record { branches = refl; handlers = refl; rest = refl; last = refl }

handlers_good : (handlers : List Handler) (line : ℕ) (test : Option Expr) (text : Option (List ℕ)) (body : List Stmt) → list_all handler_undotted handlers ≡ true → block_undotted body ≡ true
    → list_all handler_undotted (handlers ++ handler_of line test text body ∷ []) ≡ true
handlers_good handlers line test text body h b =
    let one = handler_of line test text body in
    list_all-append handler_undotted handlers (one ∷ []) ∙ both (list_all handler_undotted handlers) (handler_undotted one && true) h (both (handler_undotted one) true (of_handler line test text body ∙ b) refl)

clause_good : (line : ℕ) (later : g.Later) (body : List Stmt) (parts : Parts) → Good parts → block_undotted body ≡ true → Good (with_clause line (g.later_tree later) body parts)
clause_good line (g.elif l x c) body parts k b =
    let one = branch_of line (e.test_tree x) body in
    record {
      branches = list_all-append branch_undotted parts.branches (one ∷ []) ∙ both (list_all branch_undotted parts.branches) (branch_undotted one && true) k.branches (both (branch_undotted one) true (of_branch line (e.test_tree x) body ∙ b) refl);
      handlers = k.handlers;
      rest = k.rest;
      last = k.last;
    }
clause_good line (g.else_ l c) body parts k b = record { branches = k.branches; handlers = k.handlers; rest = b; last = k.last }
clause_good line (g.except l x n c) body parts k b =
    record { branches = k.branches; handlers = handlers_good parts.handlers line (Some (e.test_tree x)) (g.naming_tree n) body k.handlers b; rest = k.rest; last = k.last }
clause_good line (g.except_all l c) body parts k b = record { branches = k.branches; handlers = handlers_good parts.handlers line None None body k.handlers b; rest = k.rest; last = k.last }
clause_good line (g.finally l c) body parts k b = record { branches = k.branches; handlers = k.handlers; rest = k.rest; last = b }

kind_good : (line : ℕ) (first : g.First) (body : List Stmt) (parts : Parts) → block_undotted body ≡ true → Good parts → kind_undotted (kind_of line (g.first_tree first) body parts) ≡ true
kind_good line (g.if_ l x c) body parts b k =
    let one = branch_of line (e.test_tree x) body in
    of_If (one ∷ parts.branches) parts.rest
    ∙ both (branch_undotted one && list_all branch_undotted parts.branches) (block_undotted parts.rest) (both (branch_undotted one) (list_all branch_undotted parts.branches) (of_branch line (e.test_tree x) body ∙ b) k.branches) k.rest
kind_good line (g.while_ l x c) body parts b k = of_While (e.test_tree x) body parts.rest ∙ both (block_undotted body) (block_undotted parts.rest) b k.rest
kind_good line (g.for_ l gs r m c) body parts b k = of_For (t.aims_tree gs) (e.members_tree m) body parts.rest ∙ both (block_undotted body) (block_undotted parts.rest) b k.rest
kind_good line (g.try_ l c) body parts b k =
    of_Try body parts.handlers parts.rest parts.last
    ∙ both (block_undotted body) (list_all handler_undotted parts.handlers && (block_undotted parts.rest && option_undotted parts.last)) b
    (both (list_all handler_undotted parts.handlers) (block_undotted parts.rest && option_undotted parts.last) k.handlers (both (block_undotted parts.rest) (option_undotted parts.last) k.rest k.last))
kind_good line (g.def_ l n bracket ps fit r c) body parts b k = of_Def n.text (g.parameters_list ps) body ∙ b

joined : (xs ys : List Stmt) → block_undotted xs ≡ true → block_undotted ys ≡ true → block_undotted (xs ++ ys) ≡ true
joined xs ys h k = list_all-append stmt_undotted xs ys ∙ both (block_undotted xs) (block_undotted ys) h k

abbrev alias_undotted : Alias → Bool
alias_undotted alias = is_undotted alias.name

-- ---- readings

module _ (Known : List Token → Type 0) (next : (t : Token) (ts : List Token) → Known (t ∷ ts) → Known ts) (here : (t : Token) (ts : List Token) → Known (t ∷ ts) → token_formed t.kind ≡ true) (named : (t : Token) (ts : List Token) → Known (t ∷ ts) → token_undotted t.kind ≡ true) where
  -- it is undotted, and these tokens are known
  abbrev pub Undotted : Bool → List Token → Type 0
  Undotted undotted rest = (undotted ≡ true) × Known rest

  name_undotted : (n : Name) (rest : List Token) → Known (name_text n rest) → Undotted (is_undotted (name_tree n)) rest
  name_undotted n rest k = (named (at n.place (tok.Name n.text)) rest k, next (at n.place (tok.Name n.text)) rest k)

  behind_dotted : (d : Dotted) (rest : List Token) → Known (dotted_text d rest) → Known rest
  behind_dotted (Dotted.last n) rest k = next _ _ k
  behind_dotted (dotted n l d) rest k = behind_dotted d rest (next _ _ (next _ _ k))

  renamed_undotted : (r : Renamed Name) (rest : List Token) → Known (renamed_text name_text r rest) → Undotted (alias_undotted (renamed_tree name_tree r)) rest
  renamed_undotted (same p) rest k = name_undotted p rest k
  renamed_undotted (renamed p l n) rest k =
      let q = name_undotted p (at l (tok.Word word.As) ∷ name_text n rest) k in
      (q.0, next _ _ (next _ _ q.1))

  imported_undotted : (ns : Imported) (rest : List Token) → Known (imported_text ns rest) → names_undotted (imported_list ns) ≡ true
  imported_undotted (bare ns) rest k = (lines.series_formed Known next here (renamed_text name_text) (renamed_tree name_tree) alias_undotted renamed_undotted ns rest k).0
  imported_undotted (round l ns r) rest k = (lines.series_formed Known next here (renamed_text name_text) (renamed_tree name_tree) alias_undotted renamed_undotted ns (at r (tok.Op op.CloseParen) ∷ rest) (next _ _ k)).0

  -- ---- statements

  small_undotted : (one : Small) (rest : List Token) → Known (small_text one rest) → kind_undotted (small_tree one) ≡ true
  small_undotted (Small.tests m) rest k = of_Expr (e.members_tree m)
  small_undotted (Small.assigned a) rest k = of_Assign (assigned_targets a) (assigned_value a)
  small_undotted (Small.augmented o l kind how is m) rest k = of_Aug (t.one_tree o) how (e.members_tree m)
  small_undotted (Small.del l gs) rest k = of_Del (series_list t.gone_tree gs)
  small_undotted (Small.pass l) rest k = of_Pass
  small_undotted (Small.break l) rest k = of_Break
  small_undotted (Small.continue l) rest k = of_Continue
  small_undotted (Small.return l m) rest k = of_Return (option_map e.members_tree m)
  small_undotted (Small.raise l x) rest k = of_Raise (option_map e.test_tree x)
  small_undotted (Small.global l ns) rest k = of_Global (series_list name_tree ns)
  small_undotted (Small.assert l x m) rest k = of_Assert (e.test_tree x) (option_map message_tree m)
  small_undotted (Small.import l ns) rest k = of_Import (series_list (renamed_tree dotted_tree) ns)
  small_undotted (Small.from l d r ns) rest k =
      of_From (dotted_tree d) (imported_list ns) ∙ imported_undotted ns rest (next _ _ (behind_dotted d (at r (tok.Word word.Import) ∷ imported_text ns rest) (next _ _ k)))

  one_undotted : (one : Small) (rest : List Token) → Known (small_text one rest) → stmt_undotted (statement_tree one) ≡ true
  one_undotted one rest k = of_stmt (line_at (small_text one [])) (small_tree one) ∙ small_undotted one rest k

  line_undotted : (one : Line) (rest : List Token) → Known (line_text one rest) → block_undotted (line_tree one) ≡ true
  line_undotted (Line.last one n) rest k = both (stmt_undotted (statement_tree one)) true (one_undotted one (at n tok.Newline ∷ rest) k) refl
  line_undotted (last_semicolon one l n) rest k = both (stmt_undotted (statement_tree one)) true (one_undotted one (at l (tok.Op op.Semicolon) ∷ at n tok.Newline ∷ rest) k) refl
  line_undotted (semicolon one l others) rest k =
      let behind = at l (tok.Op op.Semicolon) ∷ line_text others rest in
      both (stmt_undotted (statement_tree one)) (block_undotted (line_tree others)) (one_undotted one behind k) (line_undotted others rest (next _ _ (lines.small_formed Known next here one behind k).1))

  mutual
    pub statement_undotted : (one : g.Statement) (rest : List Token) → Known (g.statement_text one rest) → Undotted (block_undotted (g.statement_list one)) rest
    statement_undotted (g.simple one) rest k = (line_undotted one rest k, (lines.line_formed Known next here one rest k).1)
    statement_undotted (g.compound first b cs) rest k =
        let p = (parser.first_formed Known next here first (g.suite_text b (g.clauses_text cs rest)) k).1 in
        let q = suite_undotted b (g.clauses_text cs rest) p in
        let r = clauses_undotted cs no_parts rest none_good q.1 in
        let line = g.first_line first in
        let kind = kind_of line (g.first_tree first) (g.suite_list b) (g.clauses_parts cs no_parts) in
        (both (stmt_undotted (stmt_of line kind)) true (of_stmt line kind ∙ kind_good line first (g.suite_list b) (g.clauses_parts cs no_parts) q.0 r.0) refl, r.1)

    pub suite_undotted : (b : g.Suite) (rest : List Token) → Known (g.suite_text b rest) → Undotted (block_undotted (g.suite_list b)) rest
    suite_undotted (g.inline one) rest k = (line_undotted one rest k, (lines.line_formed Known next here one rest k).1)
    suite_undotted (g.block n i first others d) rest k =
        let p = statement_undotted first (g.statements_text others (at d tok.Dedent ∷ rest)) (next _ _ (next _ _ k)) in
        let q = statements_undotted others (at d tok.Dedent ∷ rest) p.1 in
        (joined (g.statement_list first) (g.statements_list others) p.0 q.0, next _ _ q.1)

    pub statements_undotted : (ss : g.Statements) (rest : List Token) → Known (g.statements_text ss rest) → Undotted (block_undotted (g.statements_list ss)) rest
    statements_undotted g.no_statement rest k = (refl, k)
    statements_undotted (g.more one others) rest k =
        let p = statement_undotted one (g.statements_text others rest) k in
        let q = statements_undotted others rest p.1 in
        (joined (g.statement_list one) (g.statements_list others) p.0 q.0, q.1)

    clauses_undotted : {stage : Stage} (cs : g.Clauses stage) (parts : Parts) (rest : List Token) → Good parts → Known (g.clauses_text cs rest) → Good (g.clauses_parts cs parts) × Known rest
    clauses_undotted (g.ends whole) parts rest good k = (good, k)
    clauses_undotted (g.clause later follows b cs) parts rest good k =
        let p = (parser.later_formed Known next here later (g.suite_text b (g.clauses_text cs rest)) k).1 in
        let q = suite_undotted b (g.clauses_text cs rest) p in
        clauses_undotted cs (with_clause (g.later_line later) (g.later_tree later) (g.suite_list b) parts) rest (clause_good (g.later_line later) later (g.suite_list b) parts good q.0) q.1
