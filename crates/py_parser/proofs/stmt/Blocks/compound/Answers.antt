use Rattle.std.proofs.Common.{◌≡◌, List, subst}
use Rattle.std.proofs.lemmas.Result.{err_from_is_err_and}
use Rattle.py_tree.specs.declared.stmt.Stmt.{Stmt}
use Rattle.py_expressions.specs.Input.{Reads, input_of, and_then, pure}
use Rattle.py_expressions.proofs.Singles.{passes_on}
use Rattle.py_statements.specs.Reading.{stmt_of}
use Rattle.py_parser.specs.declared.clause.Parts.{Parts}
use Rattle.py_parser.specs.Clauses.{first_stage, kind_of}
use Rattle.py_parser.specs.Reading as read
use Rattle.py_parser.proofs.Made.{reads_by, compound_stops_first, compound_gives}
use Rattle.py_parser.proofs.stmt.Blocks.compound.Goals as goal

pub returns-in_err-head : goal.returns-in_err-head
returns-in_err-head g c =
    let p = err_from_is_err_and c.from_residual.result c.from_residual.ensures.1 in
    let inner = read.stmt c.args.self.now.depth in
    let i = input_of c.args.tokens.now in
    rw (p.1, p.2) (passes_on (read.first i) (read.compound inner i) c.in_err-head.field-0.0 c.first.new.tokens c.first.new.tokens (compound_stops_first inner i) c.in_err-head.ensures)

pub returns : goal.returns
returns g c =
    let inner = read.stmt c.args.self.now.depth in
    let i = input_of c.args.tokens.now in
    let j = input_of c.first.new.tokens in
    let its = c.in_ok-head.head in
    let l = c.line-line.result in
    let new = c.behind_head-rest.new.tokens in
    reads_by (read.compound inner i) (and_then (read.behind_head inner (first_stage its) j) (λ (p : List Stmt × Parts). pure (stmt_of l (kind_of l its p.0 p.1)))) c.made.result new
    (compound_gives inner i j l its c.line-line.ensures c.in_ok-head.ensures)
    (c.made.ensures (read.behind_head inner (first_stage its) j) new (subst (λ s. Reads (read.behind_head inner s j) c.behind_head-rest.result new) c.first_stage.ensures c.behind_head-rest.ensures))
