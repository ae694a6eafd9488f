use Rattle.std.proofs.Common.{◌≡◌, ℕ, ap, arith, sym, ◌∙◌}
use Rattle.std.specs.Prelude.{min}
use Rattle.mpy_base.specs.Val.{Val}
use Rattle.prim_builtins.specs.py_primitives.Outcome.{Outcome}
use Rattle.prim_builtins.specs.prim_walks.Plain.{plain, plain_heap}
use Rattle.prim_builtins.proofs.Calls.{one_known, with_one}
use Rattle.prim_types.specs.Texts.{shown_by}
use Rattle.prim_types.proofs.Showings.{one_count, shown_called, shown_visits}
use Rattle.prim_types.proofs.texts.visits_call_shown.Goals as goal

pub visits_text-requires-clause-leads : goal.visits_text-requires-clause-leads
visits_text-requires-clause-leads g c =
    let texts = g.C.Constants.text_of c.args.consts.now in
    let tuples = g.C.Constants.items_of c.args.consts.now in
    let h = c.args.arena.now in
    (one_known texts tuples h c.args.args.now c.in-Ok.v c.in-Ok.ensures.given c.requires.known).leads

pub returns-in-Ok : goal.returns-in-Ok
returns-in-Ok g c =
    let texts = g.C.Constants.text_of c.args.consts.now in
    let tuples = g.C.Constants.items_of c.args.consts.now in
    let h = c.args.arena.now in
    let called = with_one texts tuples h c.args.args.now c.args.keys.now (shown_by c.args.raw) c.in-Ok.v c.in-Ok.ensures.given
    c.in-Ok.ensures.no_keywords (one_count c.args.raw) in
    let shown = shown_called c.args.raw (plain_heap texts tuples h) (plain texts tuples c.in-Ok.v) in
    let visits = shown_visits c.args.raw (plain_heap texts tuples h) (plain texts tuples c.in-Ok.v) in
    c.visits_text.ensures.visits ∙ ap (λ (n : ℕ). min n c.args.most) (sym visits ∙ ap (λ (o : Outcome Val). o.visits) (shown ∙ sym called))

pub returns-in-Err : goal.returns-in-Err
returns-in-Err g c =
    let texts = g.C.Constants.text_of c.args.consts.now in
    let tuples = g.C.Constants.items_of c.args.consts.now in
    let h = c.args.arena.now in
    let none = ap (λ (o : Outcome Val). o.visits) (c.in-Err.ensures.refused.raised texts tuples h (shown_by c.args.raw) (one_count c.args.raw)) in
    omega (arith, none)
