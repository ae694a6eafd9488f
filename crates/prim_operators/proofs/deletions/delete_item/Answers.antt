use Rattle.std.proofs.Common.{ℕ, List, sym, ap, ◌∙◌, subst}
use Rattle.prim_faults.specs.mpy_base.Val.{Val}
use Rattle.prim_faults.specs.py_primitives.Faults.{NotDeletable}
use Rattle.prim_faults.specs.py_primitives.Outcome.{Outcome, raises}
use Rattle.prim_faults.specs.prim_walks.Plain.{plain, plain_heap}
use Rattle.prim_faults.specs.Outcomes.{IsOutcome}
use Rattle.prim_faults.proofs.Outcomes.{raises_outcome}
use Rattle.prim_operators.proofs.IndexUses.{delete_dict, delete_list, delete_sequence, delete_nothing}
use Rattle.prim_operators.proofs.deletions.delete_item.Goals as goal

pub returns-in-Dict : goal.returns-in-Dict
returns-in-Dict g c =
    let texts = g.C.Constants.text_of c.args.consts.now in
    let tuples = g.C.Constants.items_of c.args.consts.now in
    let h = c.args.arena.now in
    let heap = plain_heap texts tuples h in
    subst (λ (o : Outcome Val). IsOutcome texts tuples h c.delete_key.new.arena c.delete_key.result o)
    (sym (delete_dict texts tuples h c.args.object c.in-Dict.d (plain texts tuples c.args.index) c.in-Dict.ensures c.requires.leads)) c.delete_key.ensures

pub returns-in-List : goal.returns-in-List
returns-in-List g c =
    let texts = g.C.Constants.text_of c.args.consts.now in
    let tuples = g.C.Constants.items_of c.args.consts.now in
    let h = c.args.arena.now in
    let heap = plain_heap texts tuples h in
    subst (λ (o : Outcome Val). IsOutcome texts tuples h c.delete_place.new.arena c.delete_place.result o)
    (sym (delete_list texts tuples h c.args.object c.in-List.l (plain texts tuples c.args.index) c.in-List.ensures c.requires.leads)) c.delete_place.ensures

pub returns-in-Sequence : goal.returns-in-Sequence
returns-in-Sequence g c =
    let texts = g.C.Constants.text_of c.args.consts.now in
    let tuples = g.C.Constants.items_of c.args.consts.now in
    let h = c.args.arena.now in
    let heap = plain_heap texts tuples h in
    raises_outcome texts tuples h _ _ c.requires.all_told tt
    (delete_sequence heap (plain texts tuples c.args.object) (plain texts tuples c.args.index) _ (c.in-Sequence.ensures texts tuples)
    ∙ ap (λ (t : List ℕ). raises {A = Val} (NotDeletable t) heap) (sym (c.type_of.ensures texts tuples)))

pub returns-in-Other : goal.returns-in-Other
returns-in-Other g c =
    let texts = g.C.Constants.text_of c.args.consts.now in
    let tuples = g.C.Constants.items_of c.args.consts.now in
    let h = c.args.arena.now in
    let heap = plain_heap texts tuples h in
    raises_outcome texts tuples h _ _ c.requires.all_told tt
    (delete_nothing heap (plain texts tuples c.args.object) (plain texts tuples c.args.index) _ (c.in-Other.ensures texts tuples)
    ∙ ap (λ (t : List ℕ). raises {A = Val} (NotDeletable t) heap) (sym (c.type_of-in-Other.ensures texts tuples)))
