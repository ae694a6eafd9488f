use Rattle.std.proofs.Common.{◌≡◌, List, Ok, Err, ap, subst}
use Rattle.std.proofs.lemmas.Result.{err_from_is_err_and}
use Rattle.py_tree.specs.declared.stmt.Stmt.{Stmt}
use Rattle.py_expressions.specs.Input.{Reads, input_of}
use Rattle.py_statements.specs.Reading.{stmt_of}
use Rattle.py_parser.specs.declared.clause.Parts.{Parts}
use Rattle.py_parser.specs.Clauses.{kind_of}
use Rattle.py_parser.proofs.Made.{made_stops, made_gives}
use Rattle.py_parser.proofs.stmt.made.Goals as goal

pub returns-in_err-kind-in-Ok : goal.returns-in_err-kind-in-Ok
returns-in_err-kind-in-Ok c = λ outcome at h. let p = err_from_is_err_and c.from_residual.result c.from_residual.ensures.1 in rw (p.1, p.2) tt

pub returns-in_ok-kind-in-Ok : goal.returns-in_ok-kind-in-Ok
returns-in_ok-kind-in-Ok c = λ outcome at h.
    made_gives outcome (λ (p : List Stmt × Parts). stmt_of c.args.line (kind_of c.args.line c.args.head p.0 p.1)) (c.in-Ok.body, c.in-Ok.parts) (stmt_of c.args.line c.in_ok-kind-in-Ok.kind) (input_of at)
    (ap (stmt_of c.args.line) c.in_ok-kind-in-Ok.ensures) (subst (λ r. Reads outcome r at) c.in-Ok.is h)

pub returns-in-Err : goal.returns-in-Err
returns-in-Err c = λ outcome at h.
    made_stops outcome (λ (p : List Stmt × Parts). stmt_of c.args.line (kind_of c.args.line c.args.head p.0 p.1)) c.in-Err.refused at (subst (λ r. Reads outcome r at) c.in-Err.is h)
