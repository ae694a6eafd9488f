-- The tree of formed tokens is formed.
use Rattle.std.proofs.Common.{◌≡◌, ℕ, Bool, true, false, not, cond, ◌&&◌, ◌||◌, List, [], ◌∷◌, ◌++◌, map, Option, Some, None, is_some, ◌≤◌, refl, sym, ap, subst, ◌∙◌, arith}
use Rattle.std.specs.List.{list_all}
use Rattle.std.proofs.lemmas.List.Folds.{list_all-append}
use Rattle.py_tokens.specs.declared.token.Tok.TheVariants as tok
use Rattle.py_tokens.specs.declared.token.Token.{Token}
use Rattle.py_tokens.specs.declared.operator.Op.TheVariants as op
use Rattle.py_tokens.specs.declared.word.Word.TheVariants as word
use Rattle.py_tree.specs.declared.expr.Expr.{Expr}
use Rattle.py_tree.specs.declared.stmt.Handler.{Handler}
use Rattle.py_tree.specs.declared.stmt.Module.{Module}
use Rattle.py_tree.specs.declared.stmt.Param.{Param}
use Rattle.py_tree.specs.declared.stmt.Stmt.{Stmt}
use Rattle.py_tree.specs.Formed as tree
use Rattle.py_tree.specs.Formed.{has_one, is_ascii, expr_formed, target_formed, option_formed, option_ascii, param_formed, params_formed, Handled, tests_first, kind_formed, branch_formed, handled, stmt_formed}
use Rattle.py_tree.proofs.Formed.{both}
use Rattle.py_tree.proofs.Statements as stmts
use Rattle.py_tree.proofs.Statements.{block_formed, option_block}
use Rattle.py_tokens.specs.Formed.{token_formed, FormedFrom, AreFormed}
use Rattle.py_expressions.specs.Input.{at}
use Rattle.py_expressions.specs.Grammar as e
use Rattle.py_expressions.specs.Targets as t
use Rattle.py_expressions.proofs.Formed as f
use Rattle.py_expressions.specs.Reading.{is_new}
use Rattle.py_statements.specs.Reading.{stmt_of}
use Rattle.py_statements.specs.Grammar.{line_tree}
use Rattle.py_statements.proofs.Formed as lines
use Rattle.py_parser.specs.declared.clause.Head.{Head}
use Rattle.py_parser.specs.declared.clause.Head.TheVariants as head
use Rattle.py_parser.specs.declared.clause.Header.{Header}
use Rattle.py_parser.specs.declared.clause.Header.TheVariants as header
use Rattle.py_parser.specs.declared.clause.Stage.{Stage}
use Rattle.py_parser.specs.declared.clause.Stage.TheVariants.{Branches, Loop, Tried, Handlers, LastHandler, Rest, Ended}
use Rattle.py_parser.specs.declared.clause.Parts.{Parts}
use Rattle.py_parser.specs.Clauses as clauses
use Rattle.py_parser.specs.Clauses.{may_follow, may_end, first_stage, behind, branch_of, handler_of, no_parts, with_clause, kind_of, param_names, params_fit}
use Rattle.py_parser.specs.Grammar as g
use Rattle.py_parser.proofs.Names.{is_new_any}

-- ---- tests

second_is : (a b : Bool) → (a && b) ≡ true → b ≡ true
second_is true b e = e
second_is false true e = refl
second_is false false e = e

one_behind : {A : Type 0} (xs : List A) (x : A) → has_one (xs ++ x ∷ []) ≡ true
one_behind [] x = refl
one_behind (y ∷ ys) x = refl

one_joined : {A : Type 0} (xs ys : List A) → has_one xs ≡ true → has_one (xs ++ ys) ≡ true
one_joined [] ys h = absurd cc
one_joined (x ∷ xs) ys h = refl

either : (a b : Bool) → a ≡ true → (a || b) ≡ true
either true b h = refl
either false b h = absurd cc

-- ---- parameters

names_same : (ps : List Param) → tree.names_differ ps ≡ clauses.names_differ (param_names ps)
names_same [] = refl
names_same (p ∷ ps) =
    ap (λ q. q && tree.names_differ ps) (is_new_any ps p.name) ∙ ap (λ q. is_new p.name (param_names ps) && q) (names_same ps)

defaults_same : (ps : List Param) → tree.defaults_last ps ≡ clauses.defaults_last ps
defaults_same [] = refl
defaults_same (p ∷ ps) = ap (λ q. cond (is_some p.default) (list_all (λ param. is_some param.default) ps) q) (defaults_same ps)

params_formed_by : (ps : List Param) → list_all param_formed ps ≡ true → params_fit ps ≡ true → params_formed ps ≡ true
params_formed_by ps h fit =
    both (list_all param_formed ps) (tree.names_differ ps && tree.defaults_last ps) h (ap (λ q. q && tree.defaults_last ps) (names_same ps) ∙ ap (λ q. clauses.names_differ (param_names ps) && q) (defaults_same ps) ∙ fit)

-- ---- headers and clauses

abbrev head_formed : Head → Bool
head_formed (head.If test) = expr_formed test
head_formed (head.While test) = expr_formed test
head_formed (head.For target over) = target_formed target && expr_formed over
head_formed head.Try = true
head_formed (head.Def text params) = is_ascii text && params_formed params

abbrev header_formed : Header → Bool
header_formed (header.Elif test) = expr_formed test
header_formed header.Else = true
header_formed (header.Except test text) = (is_some test || not (is_some text)) && (option_formed test && option_ascii text)
header_formed header.Finally = true

-- what is asked of the clauses of every statement
record Good (parts : Parts) : Type 0 where
  branches : list_all branch_formed parts.branches ≡ true
  handlers : list_all (λ handler. (handled handler).1) parts.handlers ≡ true
  rest : list_all stmt_formed parts.rest ≡ true
  last : option_block parts.last ≡ true

none_good : Good no_parts
none_good = record { branches = refl; handlers = refl; rest = refl; last = refl }

branch_good : (line : ℕ) (test : Expr) (body : List Stmt) → expr_formed test ≡ true → block_formed body ≡ true → branch_formed (branch_of line test body) ≡ true
branch_good line test body h b = stmts.formed_branch line test body ∙ both (expr_formed test) (block_formed body) h b

regrouped : (a b c d : Bool) → (a && (b && c)) ≡ true → d ≡ true → (a && (b && (c && d))) ≡ true
regrouped true true c d h b = both c d h b
regrouped true false c d h b = h
regrouped false b c d h e = h

handler_good : (line : ℕ) (test : Option Expr) (text : Option (List ℕ)) (body : List Stmt) → header_formed (header.Except test text) ≡ true → block_formed body ≡ true → (handled (handler_of line test text body)).1 ≡ true
handler_good line test text body h b =
    ap (λ (q : Handled). q.1) (stmts.formed_handler line test text body) ∙ regrouped (is_some test || not (is_some text)) (option_formed test) (option_ascii text) (block_formed body) h b

clause_good : (line : ℕ) (its : Header) (body : List Stmt) (parts : Parts) → Good parts → header_formed its ≡ true → block_formed body ≡ true → Good (with_clause line its body parts)
clause_good line (header.Elif test) body parts k h b = record {
  branches = list_all-append branch_formed parts.branches (branch_of line test body ∷ []) ∙ both (list_all branch_formed parts.branches) (branch_formed (branch_of line test body) && true) k.branches (both (branch_formed (branch_of line test body)) true (branch_good line test body h b) refl);
  handlers = k.handlers;
  rest = k.rest;
  last = k.last;
}
clause_good line header.Else body parts k h b = record { branches = k.branches; handlers = k.handlers; rest = second_is (has_one body) (list_all stmt_formed body) b; last = k.last }
clause_good line (header.Except test text) body parts k h b =
    let one = handler_of line test text body in
    record {
      branches = k.branches;
      handlers = list_all-append (λ handler. (handled handler).1) parts.handlers (one ∷ []) ∙ both (list_all (λ handler. (handled handler).1) parts.handlers) ((handled one).1 && true) k.handlers (both ((handled one).1) true (handler_good line test text body h b) refl);
      rest = k.rest;
      last = k.last;
    }
clause_good line header.Finally body parts k h b = record { branches = k.branches; handlers = k.handlers; rest = k.rest; last = b }

-- ---- the clauses of a `try`

abbrev tested : Handler → Bool
tested handler = (handled handler).0

tested_is : (line : ℕ) (test : Option Expr) (text : Option (List ℕ)) (body : List Stmt) → tested (handler_of line test text body) ≡ is_some test
tested_is line test text body = ap (λ (q : Handled). q.0) (stmts.formed_handler line test text body)

either_true : (a : Bool) → ((a || true) && true) ≡ true
either_true true = refl
either_true false = refl

-- where all in front have tests
first_but_last : (handlers : List Handler) (last : Handler) → list_all tested handlers ≡ true → tests_first (map handled (handlers ++ last ∷ [])) ≡ true
first_but_last [] last h = either_true (tested last)
first_but_last (x ∷ xs) last h =
    both (tested x || not (has_one (map handled (xs ++ last ∷ [])))) (tests_first (map handled (xs ++ last ∷ [])))
    (either (tested x) (not (has_one (map handled (xs ++ last ∷ [])))) (f.first_is (tested x) (list_all tested xs) h)) (first_but_last xs last (second_is (tested x) (list_all tested xs) h))

all_tested : (handlers : List Handler) → list_all tested handlers ≡ true → tests_first (map handled handlers) ≡ true
all_tested [] h = refl
all_tested (x ∷ xs) h =
    both (tested x || not (has_one (map handled xs))) (tests_first (map handled xs))
    (either (tested x) (not (has_one (map handled xs))) (f.first_is (tested x) (list_all tested xs) h)) (all_tested xs (second_is (tested x) (list_all tested xs) h))

-- what a `try` asks where it ends
record Tries (parts : Parts) : Type 0 where
  goes_on : (has_one parts.handlers || is_some parts.last) ≡ true
  rests : (has_one parts.handlers || not (has_one parts.rest)) ≡ true
  first : tests_first (map handled parts.handlers) ≡ true

-- and at each stage on the way there
abbrev Trying : Stage → Parts → Type 0
Trying Branches parts = ⊥
Trying Loop parts = ⊥
Trying Tried parts = (parts.handlers ≡ []) × (parts.rest ≡ [])
Trying Handlers parts = (has_one parts.handlers ≡ true) × (list_all tested parts.handlers ≡ true)
Trying LastHandler parts = (has_one parts.handlers ≡ true) × (tests_first (map handled parts.handlers) ≡ true)
Trying Rest parts = (has_one parts.handlers ≡ true) × (tests_first (map handled parts.handlers) ≡ true)
Trying Ended parts = Tries parts

tries_by : (parts : Parts) → has_one parts.handlers ≡ true → tests_first (map handled parts.handlers) ≡ true → Tries parts
tries_by parts h k = record { goes_on = either (has_one parts.handlers) (is_some parts.last) h; rests = either (has_one parts.handlers) (not (has_one parts.rest)) h; first = k }

trying_ends : (stage : Stage) (parts : Parts) → may_end stage ≡ true → Trying stage parts → Tries parts
trying_ends Branches parts h k = absurd k
trying_ends Loop parts h k = absurd k
trying_ends Tried parts h k = absurd cc
trying_ends Handlers parts h k = tries_by parts k.0 (all_tested parts.handlers k.1)
trying_ends LastHandler parts h k = tries_by parts k.0 k.1
trying_ends Rest parts h k = tries_by parts k.0 k.1
trying_ends Ended parts h k = k

tested_behind : (line : ℕ) (test : Expr) (text : Option (List ℕ)) (body : List Stmt) (handlers : List Handler) → list_all tested handlers ≡ true → list_all tested (handlers ++ handler_of line (Some test) text body ∷ []) ≡ true
tested_behind line test text body handlers h =
    let one = handler_of line (Some test) text body in
    list_all-append tested handlers (one ∷ []) ∙ both (list_all tested handlers) (tested one && true) h (both (tested one) true (tested_is line (Some test) text body) refl)

none_tested : (handlers : List Handler) → handlers ≡ [] → list_all tested handlers ≡ true
none_tested handlers e = rw e refl

trying_on : (stage : Stage) (later : g.Later) (line : ℕ) (body : List Stmt) (parts : Parts) → may_follow stage (g.later_word later) ≡ true → Trying stage parts → Trying (behind stage (g.later_tree later)) (with_clause line (g.later_tree later) body parts)
trying_on Branches later line body parts h k = absurd k
trying_on Loop later line body parts h k = absurd k
trying_on Tried (g.elif l x c) line body parts h k = absurd cc
trying_on Tried (g.else_ l c) line body parts h k = absurd cc
trying_on Tried (g.except l x n c) line body parts h k = (one_behind parts.handlers (handler_of line (Some (e.test_tree x)) (g.naming_tree n) body), tested_behind line (e.test_tree x) (g.naming_tree n) body parts.handlers (none_tested parts.handlers k.0))
trying_on Tried (g.except_all l c) line body parts h k = (one_behind parts.handlers (handler_of line None None body), first_but_last parts.handlers (handler_of line None None body) (none_tested parts.handlers k.0))
trying_on Tried (g.finally l c) line body parts h k = record { goes_on = rw k.0 refl; rests = rw (k.0, k.1) refl; first = rw k.0 refl }
trying_on Handlers (g.elif l x c) line body parts h k = absurd cc
trying_on Handlers (g.else_ l c) line body parts h k = (k.0, all_tested parts.handlers k.1)
trying_on Handlers (g.except l x n c) line body parts h k = (one_behind parts.handlers (handler_of line (Some (e.test_tree x)) (g.naming_tree n) body), tested_behind line (e.test_tree x) (g.naming_tree n) body parts.handlers k.1)
trying_on Handlers (g.except_all l c) line body parts h k = (one_behind parts.handlers (handler_of line None None body), first_but_last parts.handlers (handler_of line None None body) k.1)
trying_on Handlers (g.finally l c) line body parts h k = tries_by (with_clause line header.Finally body parts) k.0 (all_tested parts.handlers k.1)
trying_on LastHandler (g.elif l x c) line body parts h k = absurd cc
trying_on LastHandler (g.else_ l c) line body parts h k = k
trying_on LastHandler (g.except l x n c) line body parts h k = absurd cc
trying_on LastHandler (g.except_all l c) line body parts h k = absurd cc
trying_on LastHandler (g.finally l c) line body parts h k = tries_by (with_clause line header.Finally body parts) k.0 k.1
trying_on Rest (g.elif l x c) line body parts h k = absurd cc
trying_on Rest (g.else_ l c) line body parts h k = absurd cc
trying_on Rest (g.except l x n c) line body parts h k = absurd cc
trying_on Rest (g.except_all l c) line body parts h k = absurd cc
trying_on Rest (g.finally l c) line body parts h k = tries_by (with_clause line header.Finally body parts) k.0 k.1
trying_on Ended later line body parts h k = absurd cc

-- ---- a compound statement, by its header and its clauses

abbrev is_try : Head → Bool
is_try head.Try = true
is_try _ = false

kind_good : (line : ℕ) (its : Head) (body : List Stmt) (parts : Parts) → head_formed its ≡ true → block_formed body ≡ true → Good parts → (is_try its ≡ true → Tries parts) → kind_formed (kind_of line its body parts) ≡ true
kind_good line (head.If test) body parts h b k r =
    stmts.formed_If (branch_of line test body) parts.branches parts.rest
    ∙ both (branch_formed (branch_of line test body) && list_all branch_formed parts.branches) (list_all stmt_formed parts.rest) (both (branch_formed (branch_of line test body)) (list_all branch_formed parts.branches) (branch_good line test body h b) k.branches) k.rest
kind_good line (head.While test) body parts h b k r =
    stmts.formed_While test body parts.rest ∙ both (expr_formed test) (block_formed body && list_all stmt_formed parts.rest) h (both (block_formed body) (list_all stmt_formed parts.rest) b k.rest)
kind_good line (head.For target over) body parts h b k r =
    stmts.formed_For target over body parts.rest
    ∙ both (target_formed target) (expr_formed over && (block_formed body && list_all stmt_formed parts.rest)) (f.first_is (target_formed target) (expr_formed over) h)
    (both (expr_formed over) (block_formed body && list_all stmt_formed parts.rest) (second_is (target_formed target) (expr_formed over) h) (both (block_formed body) (list_all stmt_formed parts.rest) b k.rest))
kind_good line head.Try body parts h b k r =
    let tries = r refl in
    stmts.formed_Try body parts.handlers parts.rest parts.last
    ∙ both (block_formed body) _ b (both (has_one parts.handlers || is_some parts.last) _ tries.goes_on (both (has_one parts.handlers || not (has_one parts.rest)) _ tries.rests
    (both (tests_first (map handled parts.handlers)) _ tries.first (both (list_all (λ handler. (handled handler).1) parts.handlers) (list_all stmt_formed parts.rest && option_block parts.last) k.handlers (both (list_all stmt_formed parts.rest) (option_block parts.last) k.rest k.last)))))
kind_good line (head.Def text params) body parts h b k r =
    stmts.formed_Def text params body
    ∙ both (is_ascii text) (params_formed params && block_formed body) (f.first_is (is_ascii text) (params_formed params) h) (both (params_formed params) (block_formed body) (second_is (is_ascii text) (params_formed params) h) b)

try_stage : (its : Head) → is_try its ≡ true → Trying (first_stage its) no_parts
try_stage (head.If test) h = absurd cc
try_stage (head.While test) h = absurd cc
try_stage (head.For target over) h = absurd cc
try_stage head.Try h = (refl, refl)
try_stage (head.Def text params) h = absurd cc

-- ---- readings

module _ (Known : List Token → Type 0) (next : (t : Token) (ts : List Token) → Known (t ∷ ts) → Known ts) (here : (t : Token) (ts : List Token) → Known (t ∷ ts) → token_formed t.kind ≡ true) where
  -- it is formed, and these tokens are known
  abbrev pub Formed : Bool → List Token → Type 0
  Formed formed rest = (formed ≡ true) × Known rest

  parameter_formed : (p : g.Parameter) (rest : List Token) → Known (g.parameter_text p rest) → Formed (param_formed (g.parameter_tree p)) rest
  parameter_formed (g.plain n) rest k = let p = lines.name_formed Known next here n rest k in (both (is_ascii n.text) true p.0 refl, p.1)
  parameter_formed (g.default n l x) rest k =
      let p = lines.name_formed Known next here n (at l (tok.Op op.Assign) ∷ e.test_text x rest) k in
      let q = f.test_formed Known next here x rest (next _ _ p.1) in
      (both (is_ascii n.text) (expr_formed (e.test_tree x)) p.0 q.0, q.1)

  parameters_formed : (ps : g.Parameters) (rest : List Token) → Known (g.parameters_text ps rest) → Formed (list_all param_formed (g.parameters_list ps)) rest
  parameters_formed g.none rest k = (refl, k)
  parameters_formed (g.some ps) rest k = lines.series_formed Known next here g.parameter_text g.parameter_tree param_formed parameter_formed ps rest k

  pub first_formed : (first : g.First) (rest : List Token) → Known (g.first_text first rest) → Formed (head_formed (g.first_tree first)) rest
  first_formed (g.if_ l x c) rest k = let p = f.test_formed Known next here x (at c (tok.Op op.Colon) ∷ rest) (next _ _ k) in (p.0, next _ _ p.1)
  first_formed (g.while_ l x c) rest k = let p = f.test_formed Known next here x (at c (tok.Op op.Colon) ∷ rest) (next _ _ k) in (p.0, next _ _ p.1)
  first_formed (g.for_ l gs r m c) rest k =
      let p = f.aims_formed Known next here gs (at r (tok.Word word.In) ∷ e.members_text m (at c (tok.Op op.Colon) ∷ rest)) (next _ _ k) in
      let q = f.tests_formed Known next here m (at c (tok.Op op.Colon) ∷ rest) (next _ _ p.1) in
      (both (target_formed (t.aims_tree gs)) (expr_formed (e.members_tree m)) p.0 q.0, next _ _ q.1)
  first_formed (g.try_ l c) rest k = (refl, next _ _ (next _ _ k))
  first_formed (g.def_ l n b ps fit r c) rest k =
      let p = lines.name_formed Known next here n (at b (tok.Op op.OpenParen) ∷ g.parameters_text ps (at r (tok.Op op.CloseParen) ∷ at c (tok.Op op.Colon) ∷ rest)) (next _ _ k) in
      let q = parameters_formed ps (at r (tok.Op op.CloseParen) ∷ at c (tok.Op op.Colon) ∷ rest) (next _ _ p.1) in
      (both (is_ascii n.text) (params_formed (g.parameters_list ps)) p.0 (params_formed_by (g.parameters_list ps) q.0 fit), next _ _ (next _ _ q.1))

  naming_formed : (n : Option g.Naming) (rest : List Token) → Known (g.naming_text n rest) → Formed (option_ascii (g.naming_tree n)) rest
  naming_formed None rest k = (refl, k)
  naming_formed (Some n) rest k = lines.name_formed Known next here n.name rest (next _ _ k)

  pub later_formed : (later : g.Later) (rest : List Token) → Known (g.later_text later rest) → Formed (header_formed (g.later_tree later)) rest
  later_formed (g.elif l x c) rest k = let p = f.test_formed Known next here x (at c (tok.Op op.Colon) ∷ rest) (next _ _ k) in (p.0, next _ _ p.1)
  later_formed (g.else_ l c) rest k = (refl, next _ _ (next _ _ k))
  later_formed (g.except l x n c) rest k =
      let p = f.test_formed Known next here x (g.naming_text n (at c (tok.Op op.Colon) ∷ rest)) (next _ _ k) in
      let q = naming_formed n (at c (tok.Op op.Colon) ∷ rest) p.1 in
      (both (expr_formed (e.test_tree x)) (option_ascii (g.naming_tree n)) p.0 q.0, next _ _ q.1)
  later_formed (g.except_all l c) rest k = (refl, next _ _ (next _ _ k))
  later_formed (g.finally l c) rest k = (refl, next _ _ (next _ _ k))

  all_joined : (xs ys : List Stmt) → list_all stmt_formed xs ≡ true → list_all stmt_formed ys ≡ true → list_all stmt_formed (xs ++ ys) ≡ true
  all_joined xs ys h k = list_all-append stmt_formed xs ys ∙ both (list_all stmt_formed xs) (list_all stmt_formed ys) h k

  mutual
    pub statement_formed : (one : g.Statement) (rest : List Token) → Known (g.statement_text one rest) → Formed (block_formed (g.statement_list one)) rest
    statement_formed (g.simple one) rest k =
        let p = lines.line_formed Known next here one rest k in
        (both (has_one (line_tree one)) (list_all stmt_formed (line_tree one)) (lines.line_some one) p.0, p.1)
    statement_formed (g.compound first b cs) rest k =
        let p = first_formed first (g.suite_text b (g.clauses_text cs rest)) k in
        let q = suite_formed b (g.clauses_text cs rest) p.1 in
        let its = g.first_tree first in
        let r = clauses_formed cs no_parts rest (is_try its) none_good (try_stage its) q.1 in
        let line = g.first_line first in
        let kind = kind_of line its (g.suite_list b) (g.clauses_parts cs no_parts) in
        (both (stmt_formed (stmt_of line kind)) true (stmts.formed_stmt line kind ∙ kind_good line its (g.suite_list b) (g.clauses_parts cs no_parts) p.0 q.0 r.0 r.1) refl, r.2)

    pub suite_formed : (b : g.Suite) (rest : List Token) → Known (g.suite_text b rest) → Formed (block_formed (g.suite_list b)) rest
    suite_formed (g.inline one) rest k =
        let p = lines.line_formed Known next here one rest k in
        (both (has_one (line_tree one)) (list_all stmt_formed (line_tree one)) (lines.line_some one) p.0, p.1)
    suite_formed (g.block n i first others d) rest k =
        let p = statement_formed first (g.statements_text others (at d tok.Dedent ∷ rest)) (next _ _ (next _ _ k)) in
        let q = statements_formed others (at d tok.Dedent ∷ rest) p.1 in
        let xs = g.statement_list first in
        let ys = g.statements_list others in
        (both (has_one (xs ++ ys)) (list_all stmt_formed (xs ++ ys)) (one_joined xs ys (f.first_is (has_one xs) (list_all stmt_formed xs) p.0)) (all_joined xs ys (second_is (has_one xs) (list_all stmt_formed xs) p.0) q.0), next _ _ q.1)

    pub statements_formed : (ss : g.Statements) (rest : List Token) → Known (g.statements_text ss rest) → Formed (list_all stmt_formed (g.statements_list ss)) rest
    statements_formed g.no_statement rest k = (refl, k)
    statements_formed (g.more one others) rest k =
        let p = statement_formed one (g.statements_text others rest) k in
        let q = statements_formed others rest p.1 in
        let xs = g.statement_list one in
        (all_joined xs (g.statements_list others) (second_is (has_one xs) (list_all stmt_formed xs) p.0) q.0, q.1)

    clauses_formed : {stage : Stage} (cs : g.Clauses stage) (parts : Parts) (rest : List Token) (tries : Bool) → Good parts → (tries ≡ true → Trying stage parts) → Known (g.clauses_text cs rest)
        → Good (g.clauses_parts cs parts) × (tries ≡ true → Tries (g.clauses_parts cs parts)) × Known rest
    clauses_formed (g.ends {stage} whole) parts rest tries good trying k = (good, (λ h. trying_ends stage parts whole (trying h)), k)
    clauses_formed (g.clause {stage} later follows b cs) parts rest tries good trying k =
        let p = later_formed later (g.suite_text b (g.clauses_text cs rest)) k in
        let q = suite_formed b (g.clauses_text cs rest) p.1 in
        let line = g.later_line later in
        clauses_formed cs (with_clause line (g.later_tree later) (g.suite_list b) parts) rest tries (clause_good line (g.later_tree later) (g.suite_list b) parts good p.0 q.0) (λ h. trying_on stage later line (g.suite_list b) parts follows (trying h)) q.1

-- ---- whole sources

pub lower : (least line : ℕ) (ts : List Token) → least ≤ line → FormedFrom line ts → FormedFrom least ts
lower least line [] le k = tt
lower least line (t ∷ ts) le k = (k.0, (let h : line ≤ t.line = k.1 in omega arith), k.2)

pub next_from : (least : ℕ) (t : Token) (ts : List Token) → FormedFrom least (t ∷ ts) → FormedFrom least ts
next_from least t ts k = lower least t.line ts k.1 k.2

pub here_from : (least : ℕ) (t : Token) (ts : List Token) → FormedFrom least (t ∷ ts) → token_formed t.kind ≡ true
here_from least t ts k = k.0

-- Each part of the tree of formed tokens is formed.
pub parts_formed : (tokens : List Token) (tree : Module) → AreFormed tokens → g.IsTree tokens tree → list_all stmt_formed tree.body ≡ true
parts_formed tokens tree k is =
    let end = at is.last tok.End ∷ [] in
    let all = subst (FormedFrom 1) is.spelled k.each in
    ap (list_all stmt_formed) (sym is.is) ∙ (statements_formed (FormedFrom 1) (next_from 1) (here_from 1) is.reading end all).0
