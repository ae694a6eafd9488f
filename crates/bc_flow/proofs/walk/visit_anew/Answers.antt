use Rattle.std.proofs.Common.{◌≡◌, ◌∙◌, ap, sym, subst, Some}
use Rattle.bc_shapes.specs.Shape.{At}
use Rattle.bc_shapes.specs.Views.{at_of}
use Rattle.bc_flow.specs.Code.{code_of}
use Rattle.bc_flow.specs.Judged.{Judges}
use Rattle.bc_flow.specs.Spans.{EachOutside, Remembers}
use Rattle.bc_flow.specs.Verified.{agree, at, IsPending}
use Rattle.bc_flow.proofs.Spans.{if_ok_both, remembers_after}
use Rattle.bc_flow.proofs.Visits.{pending_is}
use Rattle.bc_flow.specs.Views.{table_of}
use Rattle.bc_flow.proofs.Walks.{if_ok_map, judged_visit}
use Rattle.bc_flow.proofs.walk.visit_anew.Goals as goal

pub act-requires-clause-meets : goal.act-requires-clause-meets
act-requires-clause-meets c =
    let j = c.in_ok-judged.judged in
    let judges = subst (λ z. Judges (code_of c.args.code.now) (table_of z) c.args.p (at_of c.read.new.x) j) c.deref-2.ensures.value c.in_ok-judged.ensures in
    judges.meets ∙ ap (agree (table_of c.args.states.now.items)) (sym judges.along)

pub returns-clause-table : goal.returns-clause-table
returns-clause-table c x w =
    let code = code_of c.args.code.now in
    let states = c.args.states.now.items in
    let j = c.in_ok-judged.judged in
    let judges = subst (λ z. Judges code (table_of z) c.args.p (at_of c.read.new.x) j) c.deref-2.ensures.value c.in_ok-judged.ensures in
    let reads = subst (λ z. (y : At) → IsPending (table_of z) c.args.p y → at_of c.read.new.x ≡ y) c.deref.ensures.value c.in_ok-read.ensures in
    if_ok_map c.act.result _ _ (λ r h. h ∙ judged_visit code (table_of states) c.args.p (at_of c.read.new.x) x j (reads x w) judges) (c.act.ensures.table x w)

pub act-requires-clause-outside : goal.act-requires-clause-outside
act-requires-clause-outside c =
    let j = c.in_ok-judged.judged in
    let judges = subst (λ z. Judges (code_of c.args.code.now) (table_of z) c.args.p (at_of c.read.new.x) j) c.deref-2.ensures.value c.in_ok-judged.ensures in
    subst (EachOutside j.among (at (table_of c.args.states.now.items))) (sym judges.along) judges.outside

pub judge-requires-clause-is : goal.judge-requires-clause-is
judge-requires-clause-is c =
    let t = table_of c.args.states.now.items in
    let w = c.requires.pending in
    let reads = subst (λ z. (y : At) → IsPending (table_of z) c.args.p y → at_of c.read.new.x ≡ y) c.deref.ensures.value c.in_ok-read.ensures in
    subst (λ z. at (table_of z) c.args.p ≡ Some (at_of c.read.new.x)) (sym c.deref-2.ensures.value) (pending_is t c.args.p w.0 w.1 ∙ ap Some (sym (reads w.0 w.1)))

pub judge-requires-clause-remembers : goal.judge-requires-clause-remembers
judge-requires-clause-remembers c =
    let r = c.requires.remembers in (
      r.0,
      subst (λ z. Remembers (code_of c.args.code.now) r.0 (table_of z) c.deref-3.result.now) (sym c.deref-2.ensures.value)
          (subst (λ z. Remembers (code_of c.args.code.now) r.0 (table_of c.args.states.now.items) z) (sym c.deref-3.ensures.value) r.1),
    )

pub returns-clause-remembers : goal.returns-clause-remembers
returns-clause-remembers c =
    let code = code_of c.args.code.now in
    let t = table_of c.args.states.now.items in
    let w = c.requires.pending in
    let r = c.requires.remembers in
    if_ok_both c.act.result _ _ _
    (λ o e h. remembers_after code t c.args.p w.0 o c.act.new.states.items r.0 c.args.changes.now.items c.act.new.changes.items w.1 e r.1 h)
    (returns-clause-table c w.0 w.1) (c.act.ensures.since w.0 w.1 r.0 r.1.since)
