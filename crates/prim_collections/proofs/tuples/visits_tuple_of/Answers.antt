use Rattle.std.proofs.Common.{◌≡◌, true, false, sym, ap, ◌∙◌, arith}
use Rattle.prim_builtins.specs.mpy_base.Val.{Val}
use Rattle.prim_builtins.specs.py_values.Shown.{Shown, shown}
use Rattle.prim_builtins.specs.py_primitives.Outcome.{Outcome}
use Rattle.prim_builtins.specs.py_primitives.Iterables.{length_of}
use Rattle.prim_builtins.specs.py_primitives.Calls.{tuple_shown}
use Rattle.prim_builtins.specs.prim_walks.Plain.{plain, plain_heap}
use Rattle.prim_collections.specs.Collected.{is_tuple}
use Rattle.prim_collections.proofs.Kept.{tuple_shows, other_shows, iterated}
use Rattle.prim_collections.proofs.Visits.{tuple_of_visits}
use Rattle.prim_collections.proofs.tuples.visits_tuple_of.Goals as goal

pub returns-then-is_tuple : goal.returns-then-is_tuple
returns-then-is_tuple g c =
    let texts = g.C.Constants.text_of c.args.consts.now in
    let tuples = g.C.Constants.items_of c.args.consts.now in
    let h = c.args.arena.now in
    let heap = plain_heap texts tuples h in
    let v = plain texts tuples c.args.v in
    let tuple : is_tuple c.args.v ≡ true = sym c.is_tuple.ensures ∙ c.if-is_tuple.true in
    let none : (tuple_shown heap v (shown heap v)).visits ≡ 0 = ap (λ (s : Shown). (tuple_shown heap v s).visits) (tuple_shows texts tuples h c.args.v tuple c.requires.leads c.items_law.ensures.nested) in
    omega (arith, none)

pub returns : goal.returns
returns g c =
    let texts = g.C.Constants.text_of c.args.consts.now in
    let tuples = g.C.Constants.items_of c.args.consts.now in
    let h = c.args.arena.now in
    let heap = plain_heap texts tuples h in
    let v = plain texts tuples c.args.v in
    let other : is_tuple c.args.v ≡ false = sym c.is_tuple.ensures ∙ c.if-is_tuple.false in
    let all : (tuple_shown heap v (shown heap v)).visits ≡ length_of heap v =
    ap (λ (o : Outcome Val). o.visits) (iterated heap v (shown heap v) (other_shows texts tuples h c.args.v other c.requires.leads)) ∙ tuple_of_visits heap v in
    omega (arith, all, c.min.ensures, c.length_of.ensures)
