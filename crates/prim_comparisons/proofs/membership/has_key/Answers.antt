use Rattle.std.proofs.Common.{ℕ, List, Ok, map, sym, ap, ◌∙◌, subst}
use Rattle.std.specs.Prelude.{codes, is_some}
use Rattle.prim_faults.specs.arena_heap.declared.value.Value.TheVariants as values
use Rattle.prim_faults.specs.mpy_base.World.{pairs_at}
use Rattle.prim_faults.specs.mpy_base.Val.{Val, Truth}
use Rattle.prim_faults.specs.py_values.Keys.{value_of_key}
use Rattle.prim_faults.specs.py_primitives.Faults.{UnsupportedOne}
use Rattle.prim_faults.specs.py_primitives.Outcome.{Outcome, gives, raises}
use Rattle.prim_faults.specs.prim_walks.Plain.{plain, plain_pair, plain_heap}
use Rattle.prim_faults.specs.Outcomes.{IsOutcome}
use Rattle.prim_faults.proofs.Outcomes.{raises_outcome}
use Rattle.prim_comparisons.proofs.Walked.{gives_truth}
use Rattle.prim_comparisons.proofs.KeysFound.{key_there, keyed, unhashable}
use Rattle.prim_comparisons.proofs.membership.has_key.Goals as goal

pub returns-then-not-is_key : goal.returns-then-not-is_key
returns-then-not-is_key g c =
    let texts = g.C.Constants.text_of c.args.consts.now in
    let tuples = g.C.Constants.items_of c.args.consts.now in
    let h = c.args.arena.now in
    let heap = plain_heap texts tuples h in
    let all = c.requires.all_told in
    let v = plain texts tuples c.args.v in
    let there = is_some (value_of_key heap (map (plain_pair texts tuples) (pairs_at h c.args.d.cell)) v) in
    raises_outcome texts tuples h _ _ all tt
    (unhashable heap v (gives (Truth there) heap) (sym c.if-not-is_key.true ∙ c.is_key.ensures.shown texts tuples)
    ∙ ap (λ (t : List ℕ). raises {A = Val} (UnsupportedOne (codes "__hash__") t) heap) (sym (c.type_of.ensures texts tuples)))

pub returns : goal.returns
returns g c =
    let texts = g.C.Constants.text_of c.args.consts.now in
    let tuples = g.C.Constants.items_of c.args.consts.now in
    let h = c.args.arena.now in
    let heap = plain_heap texts tuples h in
    let all = c.requires.all_told in
    let v = plain texts tuples c.args.v in
    let there = is_some (value_of_key heap (map (plain_pair texts tuples) (pairs_at h c.args.d.cell)) v) in
    let key = c.is_key.ensures.key.0 c.if-not-is_key.false in
    let found = key_there texts tuples h c.sound_law.ensures all c.args.d.cell c.requires.dict c.args.v key c.requires.v_leads c.requires.v_told c.dict_get.result c.dict_get.ensures.found c.dict_get.ensures.none in
    subst (λ (o : Outcome Val). IsOutcome texts tuples h h (Ok (values.Bool c.is_some.result)) o) (sym (keyed heap v (gives (Truth there) heap) (sym c.if-not-is_key.false ∙ c.is_key.ensures.shown texts tuples)))
    (gives_truth texts tuples h all c.is_some.result there (c.is_some.ensures ∙ found))
