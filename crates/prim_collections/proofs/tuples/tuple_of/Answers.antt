use Rattle.std.proofs.Common.{◌≡◌, true, false, Err, sym, ap, ◌∙◌, subst}
use Rattle.prim_builtins.specs.mpy_base.Val.{Val}
use Rattle.prim_builtins.specs.py_values.Shown.{Shown, shown}
use Rattle.prim_builtins.specs.py_primitives.Outcome.{Outcome}
use Rattle.prim_builtins.specs.py_primitives.Calls.{tuple_shown, tuple_from}
use Rattle.prim_builtins.specs.prim_walks.Plain.{plain, plain_heap}
use Rattle.prim_builtins.specs.prim_faults.declared.fault.Fault.TheVariants as faults
use Rattle.prim_builtins.specs.prim_faults.declared.stop.Stop.TheVariants.{Raises}
use Rattle.prim_builtins.specs.prim_faults.Outcomes.{IsOutcome}
use Rattle.prim_builtins.proofs.prim_faults_lemmas.Outcomes.{gives_outcome}
use Rattle.prim_collections.specs.Collected.{is_tuple, is_iterable}
use Rattle.prim_collections.proofs.Kept.{tuple_shows, other_shows, iterated, other_raises}
use Rattle.prim_collections.proofs.tuples.tuple_of.Goals as goal

pub returns-then-is_tuple : goal.returns-then-is_tuple
returns-then-is_tuple g c =
    let texts = g.C.Constants.text_of c.args.consts.now in
    let tuples = g.C.Constants.items_of c.args.consts.now in
    let h = c.args.arena.now in
    let heap = plain_heap texts tuples h in
    let v = plain texts tuples c.args.v in
    let tuple : is_tuple c.args.v ≡ true = sym c.is_tuple.ensures ∙ c.if-is_tuple.true in
    gives_outcome texts tuples h c.args.v _ c.requires.all_told c.requires.leads c.requires.told
    (ap (λ (s : Shown). tuple_shown heap v s) (tuple_shows texts tuples h c.args.v tuple c.requires.leads c.items_law.ensures.nested))

pub returns-then-is_iterable : goal.returns-then-is_iterable
returns-then-is_iterable g c =
    let texts = g.C.Constants.text_of c.args.consts.now in
    let tuples = g.C.Constants.items_of c.args.consts.now in
    let h = c.args.arena.now in
    let heap = plain_heap texts tuples h in
    let v = plain texts tuples c.args.v in
    let other : is_tuple c.args.v ≡ false = sym c.is_tuple.ensures ∙ c.if-is_tuple.false in
    subst (λ (o : Outcome Val). IsOutcome texts tuples h c.tuple_from.new.arena c.tuple_from.result o) (sym (iterated heap v (shown heap v) (other_shows texts tuples h c.args.v other c.requires.leads))) c.tuple_from.ensures

pub returns-else-is_iterable : goal.returns-else-is_iterable
returns-else-is_iterable g c =
    let texts = g.C.Constants.text_of c.args.consts.now in
    let tuples = g.C.Constants.items_of c.args.consts.now in
    let h = c.args.arena.now in
    let heap = plain_heap texts tuples h in
    let v = plain texts tuples c.args.v in
    let other : is_tuple c.args.v ≡ false = sym c.is_tuple.ensures ∙ c.if-is_tuple.false in
    let none : is_iterable c.args.v ≡ false = sym c.is_iterable.ensures ∙ c.if-is_iterable.false in
    subst (λ (o : Outcome Val). IsOutcome texts tuples h h (Err (Raises (faults.NotIterable c.type_of.result))) o) (sym (iterated heap v (shown heap v) (other_shows texts tuples h c.args.v other c.requires.leads)))
    (other_raises texts tuples h c.args.v none c.requires.leads c.requires.all_told c.type_of.result (c.type_of.ensures texts tuples) (tuple_from heap v))
