use Rattle.std.proofs.Common.{ℕ, List, sym, ap, ◌∙◌, subst}
use Rattle.prim_operators.specs.mpy_base.Val.{Val}
use Rattle.prim_operators.specs.py_primitives.Faults.{NotAssignable}
use Rattle.prim_operators.specs.py_primitives.Outcome.{Outcome, raises}
use Rattle.prim_operators.specs.prim_walks.Plain.{plain, plain_heap}
use Rattle.prim_operators.specs.prim_faults.Outcomes.{IsOutcome}
use Rattle.prim_operators.proofs.prim_faults_lemmas.Outcomes.{raises_outcome}
use Rattle.prim_assignments.proofs.ItemUses.{set_dict, set_list, set_sequence, set_nothing}
use Rattle.prim_assignments.proofs.items.set_item.Goals as goal

pub returns-in-Dict : goal.returns-in-Dict
returns-in-Dict g c =
    let texts = g.C.Constants.text_of c.args.consts.now in
    let tuples = g.C.Constants.items_of c.args.consts.now in
    let h = c.args.arena.now in
    subst (λ (o : Outcome Val). IsOutcome texts tuples h c.set_key.new.arena c.set_key.result o)
    (sym (set_dict texts tuples h c.args.object c.in-Dict.d (plain texts tuples c.args.index) (plain texts tuples c.args.v) c.in-Dict.ensures c.requires.object_leads)) c.set_key.ensures

pub returns-in-List : goal.returns-in-List
returns-in-List g c =
    let texts = g.C.Constants.text_of c.args.consts.now in
    let tuples = g.C.Constants.items_of c.args.consts.now in
    let h = c.args.arena.now in
    subst (λ (o : Outcome Val). IsOutcome texts tuples h c.set_place.new.arena c.set_place.result o)
    (sym (set_list texts tuples h c.args.object c.in-List.l (plain texts tuples c.args.index) (plain texts tuples c.args.v) c.in-List.ensures c.requires.object_leads)) c.set_place.ensures

pub returns-in-Sequence : goal.returns-in-Sequence
returns-in-Sequence g c =
    let texts = g.C.Constants.text_of c.args.consts.now in
    let tuples = g.C.Constants.items_of c.args.consts.now in
    let h = c.args.arena.now in
    let heap = plain_heap texts tuples h in
    raises_outcome texts tuples h _ _ c.requires.all_told tt
    (set_sequence heap (plain texts tuples c.args.object) (plain texts tuples c.args.index) (plain texts tuples c.args.v) _ (c.in-Sequence.ensures texts tuples)
    ∙ ap (λ (t : List ℕ). raises {A = Val} (NotAssignable t) heap) (sym (c.type_of.ensures texts tuples)))

pub returns-in-Other : goal.returns-in-Other
returns-in-Other g c =
    let texts = g.C.Constants.text_of c.args.consts.now in
    let tuples = g.C.Constants.items_of c.args.consts.now in
    let h = c.args.arena.now in
    let heap = plain_heap texts tuples h in
    raises_outcome texts tuples h _ _ c.requires.all_told tt
    (set_nothing heap (plain texts tuples c.args.object) (plain texts tuples c.args.index) (plain texts tuples c.args.v) _ (c.in-Other.ensures texts tuples)
    ∙ ap (λ (t : List ℕ). raises {A = Val} (NotAssignable t) heap) (sym (c.type_of-in-Other.ensures texts tuples)))
