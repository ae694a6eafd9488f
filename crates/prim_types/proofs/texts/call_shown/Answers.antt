use Rattle.std.proofs.Common.{subst}
use Rattle.mpy_base.specs.Val.{Val}
use Rattle.prim_builtins.specs.py_primitives.Calls.{Exactly}
use Rattle.prim_builtins.specs.py_primitives.Outcome.{Outcome}
use Rattle.prim_builtins.specs.prim_faults.Outcomes.{IsOutcome}
use Rattle.prim_builtins.specs.prim_walks.Plain.{plain, plain_heap}
use Rattle.prim_builtins.proofs.Calls.{one_known, refused, one_called}
use Rattle.prim_types.specs.Texts.{shown_by}
use Rattle.prim_types.proofs.Showings.{one_count, shown_called}
use Rattle.prim_types.proofs.texts.call_shown.Goals as goal

pub make_shown-requires-clause-leads : goal.make_shown-requires-clause-leads
make_shown-requires-clause-leads g c =
    let texts = g.C.Constants.text_of c.args.consts.now in
    let tuples = g.C.Constants.items_of c.args.consts.now in
    let h = c.args.arena.now in
    (one_known texts tuples h c.args.args.now c.in-Ok.v c.in-Ok.ensures.given c.requires.known).leads

pub make_shown-requires-clause-told : goal.make_shown-requires-clause-told
make_shown-requires-clause-told g c =
    let texts = g.C.Constants.text_of c.args.consts.now in
    let tuples = g.C.Constants.items_of c.args.consts.now in
    let h = c.args.arena.now in
    (one_known texts tuples h c.args.args.now c.in-Ok.v c.in-Ok.ensures.given c.requires.known).told

pub returns-in-Ok : goal.returns-in-Ok
returns-in-Ok g c =
    let texts = g.C.Constants.text_of c.args.consts.now in
    let tuples = g.C.Constants.items_of c.args.consts.now in
    let h = c.args.arena.now in
    let made = subst (λ (o : Outcome Val). IsOutcome texts tuples h c.make_shown.new.arena c.make_shown.result o)
    (shown_called c.args.raw (plain_heap texts tuples h) (plain texts tuples c.in-Ok.v)) c.make_shown.ensures in
    one_called texts tuples h c.args.args.now c.args.keys.now (shown_by c.args.raw) c.make_shown.new.arena c.in-Ok.v c.make_shown.result
    c.in-Ok.ensures.given c.in-Ok.ensures.no_keywords (one_count c.args.raw) made

pub returns-in-Err : goal.returns-in-Err
returns-in-Err g c =
    let texts = g.C.Constants.text_of c.args.consts.now in
    let tuples = g.C.Constants.items_of c.args.consts.now in
    let h = c.args.arena.now in
    refused texts tuples h c.args.args.now c.args.keys.now (shown_by c.args.raw) (Exactly 1) c.in-Err.fault c.requires.all_told c.in-Err.ensures.refused
    (one_count c.args.raw)
