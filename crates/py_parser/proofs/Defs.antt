-- A tree holds fewer functions than it has tokens.
use Rattle.std.proofs.Common.{ℕ, ◌+◌, ◌<◌, ◌≤◌, ◌^◌, List, [], ◌∷◌, map, length, refl, ap, arith}
use Rattle.std.specs.List.{sum}
use Rattle.py_tokens.specs.declared.token.Tok.TheVariants as tok
use Rattle.py_tokens.specs.declared.token.Token.{Token}
use Rattle.py_tree.specs.declared.stmt.Stmt.{Stmt}
use Rattle.py_tree.specs.declared.stmt.Module.{Module}
use Rattle.py_tree.specs.Formed.{kind_count, branch_count, handler_count, stmt_defs}
use Rattle.py_tree.proofs.Defs as defs
use Rattle.py_tree.proofs.Defs.{block_count, option_count, sum_cons, sum_joined}
use Rattle.py_expressions.specs.Input.{at}
use Rattle.py_statements.specs.Grammar.{Line, line_text, line_tree}
use Rattle.py_statements.proofs.Rows.{line_count}
use Rattle.py_statements.proofs.Starts.{line_grows}
use Rattle.py_parser.specs.declared.clause.Head.{Head}
use Rattle.py_parser.specs.declared.clause.Head.TheVariants as head
use Rattle.py_parser.specs.declared.clause.Header.{Header}
use Rattle.py_parser.specs.declared.clause.Header.TheVariants as header
use Rattle.py_parser.specs.declared.clause.Stage.{Stage}
use Rattle.py_parser.specs.declared.clause.Parts.{Parts}
use Rattle.py_parser.specs.Clauses.{branch_of, handler_of, no_parts, with_clause, kind_of}
use Rattle.py_tokens.specs.Formed.{AreFormed}
use Rattle.py_parser.specs.Grammar as g
use Rattle.py_parser.proofs.Headers.{first_grows, later_grows}

-- ---- clauses

abbrev parts_count : Parts → ℕ
parts_count parts = sum (map branch_count parts.branches) + (sum (map handler_count parts.handlers) + (block_count parts.rest + option_count parts.last))

clause_count : (line : ℕ) (its : Header) (body : List Stmt) (parts : Parts) → parts_count (with_clause line its body parts) ≤ parts_count parts + block_count body
clause_count line (header.Elif test) body parts =
    let e = sum_joined branch_count parts.branches (branch_of line test body ∷ []) in
    let f = defs.defs_branch line test body in
    omega arith
clause_count line header.Else body parts = omega arith
clause_count line (header.Except test text) body parts =
    let e = sum_joined handler_count parts.handlers (handler_of line test text body ∷ []) in
    let f = defs.defs_handler line test text body in
    omega arith
clause_count line header.Finally body parts = omega arith

kind_within : (line : ℕ) (its : Head) (body : List Stmt) (parts : Parts) → kind_count (kind_of line its body parts) ≤ block_count body + parts_count parts + 1
kind_within line (head.If test) body parts =
    let e = defs.defs_If (branch_of line test body ∷ parts.branches) parts.rest in
    let f = defs.defs_branch line test body in
    let c = sum_cons branch_count (branch_of line test body) parts.branches in
    omega arith
kind_within line (head.While test) body parts = let e = defs.defs_While test body parts.rest in omega arith
kind_within line (head.For target over) body parts = let e = defs.defs_For target over body parts.rest in omega arith
kind_within line head.Try body parts = let e = defs.defs_Try body parts.handlers parts.rest parts.last in omega arith
kind_within line (head.Def text params) body parts = let e = defs.defs_Def text params body in omega arith

-- ---- readings

line_within : (one : Line) (rest : List Token) → block_count (line_tree one) + length rest ≤ length (line_text one rest)
line_within one rest = let e = line_count one in let h = line_grows one rest in omega arith

mutual
  statement_within : (one : g.Statement) (rest : List Token) → block_count (g.statement_list one) + length rest ≤ length (g.statement_text one rest)
  statement_within (g.simple one) rest = line_within one rest
  statement_within (g.compound first b cs) rest =
      let line = g.first_line first in
      let its = g.first_tree first in
      let body = g.suite_list b in
      let parts = g.clauses_parts cs no_parts in
      let p = first_grows first (g.suite_text b (g.clauses_text cs rest)) in
      let q = suite_within b (g.clauses_text cs rest) in
      let r : parts_count parts + length rest ≤ 0 + length (g.clauses_text cs rest) = clauses_within cs no_parts rest in
      let e = defs.defs_stmt line (kind_of line its body parts) in
      let h = kind_within line its body parts in
      omega arith

  suite_within : (b : g.Suite) (rest : List Token) → block_count (g.suite_list b) + length rest ≤ length (g.suite_text b rest)
  suite_within (g.inline one) rest = line_within one rest
  suite_within (g.block n i first others d) rest =
      let tail = at d tok.Dedent ∷ rest in
      let p = statement_within first (g.statements_text others tail) in
      let q = statements_within others tail in
      let e = sum_joined stmt_defs (g.statement_list first) (g.statements_list others) in
      omega arith

  statements_within : (ss : g.Statements) (rest : List Token) → block_count (g.statements_list ss) + length rest ≤ length (g.statements_text ss rest)
  statements_within g.no_statement rest = omega arith
  statements_within (g.more one others) rest =
      let p = statement_within one (g.statements_text others rest) in
      let q = statements_within others rest in
      let e = sum_joined stmt_defs (g.statement_list one) (g.statements_list others) in
      omega arith

  clauses_within : {stage : Stage} (cs : g.Clauses stage) (parts : Parts) (rest : List Token) → parts_count (g.clauses_parts cs parts) + length rest ≤ parts_count parts + length (g.clauses_text cs rest)
  clauses_within (g.ends whole) parts rest = omega arith
  clauses_within (g.clause later follows b cs) parts rest =
      let line = g.later_line later in
      let its = g.later_tree later in
      let body = g.suite_list b in
      let p = later_grows later (g.suite_text b (g.clauses_text cs rest)) in
      let q = suite_within b (g.clauses_text cs rest) in
      let r = clauses_within cs (with_clause line its body parts) rest in
      let h = clause_count line its body parts in
      omega arith

-- ---- whole sources

-- The tree of formed tokens holds fewer functions than there are numbers for them.
pub defs_formed : (tokens : List Token) (tree : Module) → AreFormed tokens → g.IsTree tokens tree → sum (map stmt_defs tree.body) < 2 ^ 32
defs_formed tokens tree k is =
    let end = at is.last tok.End ∷ [] in
    let p = statements_within is.reading end in
    let e = ap block_count is.is in
    let l = ap length is.spelled in
    let h = k.fewer in
    omega arith
