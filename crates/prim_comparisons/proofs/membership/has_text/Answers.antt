use Rattle.std.proofs.Common.{Ok, sym, ap, ◌∙◌, subst}
use Rattle.prim_faults.specs.arena_heap.declared.value.Value.TheVariants as values
use Rattle.prim_faults.specs.mpy_base.Val.{Val}
use Rattle.prim_faults.specs.py_values.Shown.{Shown, Text}
use Rattle.prim_faults.specs.py_primitives.Faults.{Fault}
use Rattle.prim_faults.specs.py_primitives.Outcome.{Outcome, raises}
use Rattle.prim_faults.specs.py_primitives.Operators.{contains_shown}
use Rattle.prim_faults.specs.prim_walks.Plain.{plain, plain_heap}
use Rattle.prim_faults.specs.Outcomes.{IsOutcome}
use Rattle.prim_faults.proofs.Outcomes.{raises_outcome}
use Rattle.prim_comparisons.proofs.Walked.{gives_truth}
use Rattle.prim_comparisons.proofs.Contents.{text_refuses}
use Rattle.prim_comparisons.proofs.membership.has_text.Goals as goal

pub returns-in-Text : goal.returns-in-Text
returns-in-Text g c =
    let texts = g.C.Constants.text_of c.args.consts.now in
    let tuples = g.C.Constants.items_of c.args.consts.now in
    let h = c.args.arena.now in
    let heap = plain_heap texts tuples h in
    let all = c.requires.all_told in
    let v = plain texts tuples c.args.v in
    let container = plain texts tuples c.args.container in
    subst (λ (o : Outcome Val). IsOutcome texts tuples h h (Ok (values.Bool c.has_part.result)) o) (ap (λ (s : Shown). contains_shown heap v container s (Text c.args.bytes.now)) c.in-Text.ensures.shown)
    (gives_truth texts tuples h all c.has_part.result _ c.has_part.ensures)

pub returns-in_default : goal.returns-in_default
returns-in_default g c =
    let texts = g.C.Constants.text_of c.args.consts.now in
    let tuples = g.C.Constants.items_of c.args.consts.now in
    let h = c.args.arena.now in
    let heap = plain_heap texts tuples h in
    let all = c.requires.all_told in
    let v = plain texts tuples c.args.v in
    let container = plain texts tuples c.args.container in
    let fault = c.unsupported.ensures texts tuples in
    raises_outcome texts tuples h c.unsupported.result _ all fault.0
    (text_refuses heap v container texts tuples h c.look_at.result c.args.v _ c.args.bytes.now c.in_default.not-Text c.look_at.ensures.shown ∙ ap (λ (f : Fault). raises {A = Val} f heap) (sym fault.1))
