use Rattle.std.proofs.Common.{ℕ, List, sym, ap, ◌∙◌, subst}
use Rattle.prim_faults.specs.mpy_base.Val.{Val}
use Rattle.prim_faults.specs.py_values.Shown.{Shown}
use Rattle.prim_faults.specs.py_primitives.Faults.{NotSubscriptable}
use Rattle.prim_faults.specs.py_primitives.Outcome.{Outcome, raises}
use Rattle.prim_faults.specs.py_primitives.Uses.{shown_at}
use Rattle.prim_faults.specs.prim_walks.Plain.{plain, plain_heap}
use Rattle.prim_faults.specs.Outcomes.{IsOutcome}
use Rattle.prim_faults.proofs.Outcomes.{raises_outcome}
use Rattle.prim_operators.proofs.IndexUses.{sequence_at, nothing_at, list_shown, dict_shown}
use Rattle.prim_operators.proofs.indexes.get_item.Goals as goal

pub returns-in-Dict : goal.returns-in-Dict
returns-in-Dict g c =
    let texts = g.C.Constants.text_of c.args.consts.now in
    let tuples = g.C.Constants.items_of c.args.consts.now in
    let h = c.args.arena.now in
    let heap = plain_heap texts tuples h in
    let object = plain texts tuples c.args.object in
    let index = plain texts tuples c.args.index in
    subst (λ (o : Outcome Val). IsOutcome texts tuples h h c.get_key.result o)
    (sym (ap (λ (s : Shown). shown_at heap object index s) (dict_shown texts tuples h c.args.object c.in-Dict.d c.in-Dict.ensures c.requires.leads))) c.get_key.ensures

pub returns-in-List : goal.returns-in-List
returns-in-List g c =
    let texts = g.C.Constants.text_of c.args.consts.now in
    let tuples = g.C.Constants.items_of c.args.consts.now in
    let h = c.args.arena.now in
    let heap = plain_heap texts tuples h in
    let object = plain texts tuples c.args.object in
    let index = plain texts tuples c.args.index in
    subst (λ (o : Outcome Val). IsOutcome texts tuples h c.get_place.new.arena c.get_place.result o)
    (sym (ap (λ (s : Shown). shown_at heap object index s) (list_shown texts tuples h c.args.object _ c.in-List.ensures c.requires.leads))) c.get_place.ensures

pub returns-in-Sequence : goal.returns-in-Sequence
returns-in-Sequence g c =
    let texts = g.C.Constants.text_of c.args.consts.now in
    let tuples = g.C.Constants.items_of c.args.consts.now in
    let h = c.args.arena.now in
    let heap = plain_heap texts tuples h in
    let object = plain texts tuples c.args.object in
    let index = plain texts tuples c.args.index in
    subst (λ (o : Outcome Val). IsOutcome texts tuples h c.get_place-in-Sequence.new.arena c.get_place-in-Sequence.result o)
    (sym (sequence_at heap object index _ (c.in-Sequence.ensures texts tuples))) c.get_place-in-Sequence.ensures

pub returns-in-Other : goal.returns-in-Other
returns-in-Other g c =
    let texts = g.C.Constants.text_of c.args.consts.now in
    let tuples = g.C.Constants.items_of c.args.consts.now in
    let h = c.args.arena.now in
    let heap = plain_heap texts tuples h in
    let object = plain texts tuples c.args.object in
    let index = plain texts tuples c.args.index in
    raises_outcome texts tuples h _ _ c.requires.all_told tt
    (nothing_at heap object index _ (c.in-Other.ensures texts tuples) ∙ ap (λ (t : List ℕ). raises {A = Val} (NotSubscriptable t) heap) (sym (c.type_of.ensures texts tuples)))
