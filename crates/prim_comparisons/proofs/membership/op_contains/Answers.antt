use Rattle.std.proofs.Common.{Ok, sym, ap, ◌∙◌, subst}
use Rattle.prim_faults.specs.arena_heap.declared.value.Value.TheVariants as values
use Rattle.prim_faults.specs.mpy_base.Val.{Val}
use Rattle.prim_faults.specs.py_values.Shown.{Shown, shown}
use Rattle.prim_faults.specs.py_primitives.Faults.{Fault}
use Rattle.prim_faults.specs.py_primitives.Outcome.{Outcome, raises}
use Rattle.prim_faults.specs.py_primitives.Operators.{contains_shown}
use Rattle.prim_faults.specs.prim_walks.Plain.{plain, plain_heap}
use Rattle.prim_faults.specs.Outcomes.{IsOutcome}
use Rattle.prim_faults.proofs.Outcomes.{raises_outcome}
use Rattle.prim_comparisons.proofs.Walked.{gives_truth}
use Rattle.prim_comparisons.proofs.Contents.{number_same, range_contains, refuses}
use Rattle.prim_comparisons.proofs.membership.op_contains.Goals as goal

pub returns-in-Tuple : goal.returns-in-Tuple
returns-in-Tuple g c =
    let texts = g.C.Constants.text_of c.args.consts.now in
    let tuples = g.C.Constants.items_of c.args.consts.now in
    let h = c.args.arena.now in
    let heap = plain_heap texts tuples h in
    let all = c.requires.all_told in
    let v = plain texts tuples c.args.v in
    let container = plain texts tuples c.args.container in
    subst (λ (o : Outcome Val). IsOutcome texts tuples h h c.has_item.result o) (ap (λ (s : Shown). contains_shown heap v container (shown heap v) s) c.in-Tuple.ensures.shown) c.has_item.ensures

pub returns-in-Items : goal.returns-in-Items
returns-in-Items g c =
    let texts = g.C.Constants.text_of c.args.consts.now in
    let tuples = g.C.Constants.items_of c.args.consts.now in
    let h = c.args.arena.now in
    let heap = plain_heap texts tuples h in
    let all = c.requires.all_told in
    let v = plain texts tuples c.args.v in
    let container = plain texts tuples c.args.container in
    subst (λ (o : Outcome Val). IsOutcome texts tuples h h c.has_item-in-Items.result o) (ap (λ (s : Shown). contains_shown heap v container (shown heap v) s) c.in-Items.ensures.shown) c.has_item-in-Items.ensures

pub returns-in-Pairs : goal.returns-in-Pairs
returns-in-Pairs g c =
    let texts = g.C.Constants.text_of c.args.consts.now in
    let tuples = g.C.Constants.items_of c.args.consts.now in
    let h = c.args.arena.now in
    let heap = plain_heap texts tuples h in
    let all = c.requires.all_told in
    let v = plain texts tuples c.args.v in
    let container = plain texts tuples c.args.container in
    subst (λ (o : Outcome Val). IsOutcome texts tuples h h c.has_key.result o) (ap (λ (s : Shown). contains_shown heap v container (shown heap v) s) c.in-Pairs.ensures.shown) c.has_key.ensures

pub returns-in-Text : goal.returns-in-Text
returns-in-Text g c =
    let texts = g.C.Constants.text_of c.args.consts.now in
    let tuples = g.C.Constants.items_of c.args.consts.now in
    let h = c.args.arena.now in
    let heap = plain_heap texts tuples h in
    let all = c.requires.all_told in
    let v = plain texts tuples c.args.v in
    let container = plain texts tuples c.args.container in
    subst (λ (o : Outcome Val). IsOutcome texts tuples h h c.has_text.result o) (ap (λ (s : Shown). contains_shown heap v container (shown heap v) s) c.in-Text.ensures.shown) c.has_text.ensures

pub returns-in-Range : goal.returns-in-Range
returns-in-Range g c =
    let texts = g.C.Constants.text_of c.args.consts.now in
    let tuples = g.C.Constants.items_of c.args.consts.now in
    let h = c.args.arena.now in
    let heap = plain_heap texts tuples h in
    let all = c.requires.all_told in
    let v = plain texts tuples c.args.v in
    let container = plain texts tuples c.args.container in
    let r = c.in-Range in
    subst (λ (o : Outcome Val). IsOutcome texts tuples h h (Ok (values.Bool c.has_number.result)) o)
    (sym (range_contains heap v container (shown heap v) r.start r.stop r.step) ∙ ap (λ (s : Shown). contains_shown heap v container (shown heap v) s) r.ensures.shown)
    (gives_truth texts tuples h all c.has_number.result _ (c.has_number.ensures texts tuples ∙ number_same (shown heap v) r.start r.stop r.step r.ensures.parts.0 r.ensures.parts.1 r.ensures.parts.2))

pub returns-in_default : goal.returns-in_default
returns-in_default g c =
    let texts = g.C.Constants.text_of c.args.consts.now in
    let tuples = g.C.Constants.items_of c.args.consts.now in
    let h = c.args.arena.now in
    let heap = plain_heap texts tuples h in
    let all = c.requires.all_told in
    let v = plain texts tuples c.args.v in
    let container = plain texts tuples c.args.container in
    let d = c.in_default in
    let fault = c.unsupported.ensures texts tuples in
    raises_outcome texts tuples h c.unsupported.result _ all fault.0
    (refuses heap v container texts tuples h c.look_at.result c.args.container (shown heap v) _ d.not-Tuple d.not-Items d.not-Pairs d.not-Range d.not-Text c.look_at.ensures.shown ∙ ap (λ (f : Fault). raises {A = Val} f heap) (sym fault.1))
