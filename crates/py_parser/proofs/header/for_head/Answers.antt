use Rattle.std.proofs.Common.{◌≡◌, Result, Ok, Err, refl, sym, ap, ◌∙◌}
use Rattle.std.proofs.lemmas.Result.{err_from_is_err_and}
use Rattle.std.specs.Result.{result_map_both}
use Rattle.mpy_base.specs.declared.refused.Refused.{Refused}
use Rattle.mpy_base.specs.declared.refused.Refused.TheVariants as refused
use Rattle.py_tokens.specs.declared.operator.Op.TheVariants as op
use Rattle.py_tokens.specs.declared.word.Word.TheVariants as word
use Rattle.py_tree.specs.declared.expr.Expr.{Expr}
use Rattle.py_tree.specs.declared.stmt.Target.{Target}
use Rattle.py_expressions.specs.declared.cursor.Cursor.{Cursor}
use Rattle.py_expressions.specs.declared.cursor.Mark.TheVariants as mark
use Rattle.py_expressions.specs.declared.cursor.Syntax.{Syntax}
use Rattle.py_expressions.specs.Input.{Input, Outcome, Reads, and_then, ◌>>=◌, ◌>>◌, pure, expect, input_of, next}
use Rattle.py_expressions.specs.Reading.{all_tests}
use Rattle.py_expressions.specs.Targets.{all_targets}
use Rattle.py_parser.specs.declared.clause.Head.{Head}
use Rattle.py_parser.specs.declared.clause.Head.TheVariants as head
use Rattle.py_parser.specs.Reading.{for_head, iterable, iterated}
use Rattle.py_parser.proofs.header.for_head.Goals as goal

-- the header of a `for` with the expression that was read
abbrev to_head : Target → Outcome Expr → Outcome Head
to_head target o = and_then o (λ over. pure (head.For target over))

behind_colon : (target : Target) (over : Expr) (o : Outcome (Unit {0})) → and_then o (λ _. pure (head.For target over)) ≡ to_head target (and_then o (λ _. pure over))
behind_colon target over (Ok p) = refl
behind_colon target over (Err e) = refl

behind_tests : (target : Target) (o : Outcome Expr) → and_then o (λ over. expect (mark.Op op.Colon) >> pure (head.For target over)) ≡ to_head target (and_then o (λ over. expect (mark.Op op.Colon) >> pure over))
behind_tests target (Ok p) = behind_colon target p.0 (expect (mark.Op op.Colon) p.1)
behind_tests target (Err e) = refl

behind_in : (target : Target) (o : Outcome (Unit {0})) → and_then o (λ _. iterated target) ≡ to_head target (and_then o (λ _. all_tests >>= (λ over. expect (mark.Op op.Colon) >> pure over)))
unfolding iterated
behind_in target (Ok p) = behind_tests target (all_tests p.1)
behind_in target (Err e) = refl

for_is : (i j : Input) (target : Target) → all_targets (next i) ≡ Ok (target, j) → for_head i ≡ to_head target (iterable j)
unfolding for_head iterable
for_is i j target e = rw e (behind_in target (expect (mark.Word word.In) j))

for_reads : (i j : Input) (target : Target) (over : Result Expr (Refused Syntax)) (new : Cursor) → all_targets (next i) ≡ Ok (target, j) → Reads (iterable j) over new
    → Reads (for_head i) (result_map_both (λ x. head.For target x) (λ error. error) over) new
for_reads i j target (Ok x) new e h = for_is i j target e ∙ ap (to_head target) h
for_reads i j target (Err (refused.Fault f)) new e h = for_is i j target e ∙ ap (to_head target) h
for_reads i j target (Err refused.NoMemory) new e h = tt

for_stops : (i j : Input) (error : Refused Syntax) (new : Cursor) → j ≡ next i → (let r : Result Target (Refused Syntax) = Err error in Reads (all_targets j) r new)
    → (let r : Result Head (Refused Syntax) = Err error in Reads (for_head i) r new)
unfolding for_head
for_stops i j (refused.Fault f) new e h = rw (ap all_targets (sym e) ∙ h) refl
for_stops i j refused.NoMemory new e h = tt

pub returns-in_err-target : goal.returns-in_err-target
returns-in_err-target c =
    let p = err_from_is_err_and c.from_residual.result c.from_residual.ensures.1 in
    rw (p.1, p.2) (for_stops (input_of c.args.tokens.now) (input_of c.take.new.self) c.in_err-target.field-0.0 c.read_targets.new.tokens c.take.ensures c.in_err-target.ensures.reads)

pub returns : goal.returns
returns c =
    rw c.for_over.ensures (for_reads (input_of c.args.tokens.now) (input_of c.read_targets.new.tokens) c.in_ok-target.target c.iterable-over.result c.iterable-over.new.tokens (ap all_targets (sym c.take.ensures) ∙ c.in_ok-target.ensures.reads) c.iterable-over.ensures)
