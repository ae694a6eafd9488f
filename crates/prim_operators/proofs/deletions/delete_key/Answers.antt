use Rattle.std.proofs.Common.{◌≡◌, ℕ, List, map, Err, sym, ap, ◌∙◌, subst}
use Rattle.std.specs.Prelude.{codes}
use Rattle.std.specs.List.{remove}
use Rattle.prim_faults.specs.mpy_base.World.{Heap, pairs_at, with_dict}
use Rattle.prim_faults.specs.mpy_base.Val.{Val, Nil}
use Rattle.prim_faults.specs.arena_heap.declared.value.Value.{Value}
use Rattle.prim_faults.specs.arena_heap.declared.value.Value.TheVariants as values
use Rattle.prim_faults.specs.py_values.Shown.{PlainHeap}
use Rattle.prim_faults.specs.py_values.Keys.{without_key}
use Rattle.prim_faults.specs.py_primitives.Faults.{UnsupportedOne}
use Rattle.prim_faults.specs.py_primitives.Outcome.{Outcome, gives, raises}
use Rattle.prim_faults.specs.py_primitives.Uses.{of_key}
use Rattle.prim_faults.specs.prim_walks.Plain.{plain, plain_pair, plain_heap}
use Rattle.prim_faults.specs.declared.stop.Stop.TheVariants.{Raises}
use Rattle.prim_faults.specs.declared.fault.Fault.TheVariants.{NoKey}
use Rattle.prim_faults.specs.Outcomes.{IsOutcome}
use Rattle.prim_faults.proofs.Heaps.{dict_put}
use Rattle.prim_faults.proofs.Outcomes.{answered, raises_outcome}
use Rattle.prim_operators.proofs.DictKeys.{IsKnownKey, Stands, each_key, found_at, without_at, missing}
use Rattle.prim_operators.proofs.KeyUses.{unhashable, key_found, key_missing}
use Rattle.prim_operators.proofs.deletions.delete_key.Goals as goal

pub returns-then-not-is_key : goal.returns-then-not-is_key
returns-then-not-is_key g c =
    let texts = g.C.Constants.text_of c.args.consts.now in
    let tuples = g.C.Constants.items_of c.args.consts.now in
    let h = c.args.arena.now in
    let heap = plain_heap texts tuples h in
    let plain_pairs = map (plain_pair texts tuples) (pairs_at h c.args.d.cell) in
    let key = plain texts tuples c.args.key in
    raises_outcome texts tuples h _ _ c.requires.all_told tt
    (unhashable heap plain_pairs key (λ found. gives Nil (with_dict heap c.args.d.cell (without_key heap plain_pairs key))) (sym c.if-not-is_key.true ∙ c.is_key.ensures.shown texts tuples)
    ∙ ap (λ (t : List ℕ). raises {A = Val} (UnsupportedOne (codes "__hash__") t) heap) (sym (c.type_of.ensures texts tuples)))

pub returns-in-Some : goal.returns-in-Some
returns-in-Some g c =
    let texts = g.C.Constants.text_of c.args.consts.now in
    let tuples = g.C.Constants.items_of c.args.consts.now in
    let h = c.args.arena.now in
    let heap = plain_heap texts tuples h in
    let pairs = pairs_at h c.args.d.cell in
    let plain_pairs = map (plain_pair texts tuples) pairs in
    let key = plain texts tuples c.args.key in
    let known : IsKnownKey texts tuples h c.args.key = record { key = c.is_key.ensures.key.0 c.if-not-is_key.false; leads = c.requires.leads; told = c.requires.told } in
    let each = each_key texts tuples h c.args.d.cell c.requires.dict c.sound_law.ensures c.requires.all_told c.args.key known in
    let may = sym c.if-not-is_key.false ∙ c.is_key.ensures.shown texts tuples in
    let next : Val → Outcome Val = λ found. gives Nil (with_dict heap c.args.d.cell (without_key heap plain_pairs key)) in
    let there = c.in-Some.ensures.found in
    let stands : Stands texts tuples h c.args.key known pairs there.at = record { within = there.stands.within; equal = there.stands.equal; first = there.stands.first } in
    let new = c.dict_delete.new.arena in
    let without = without_at texts tuples h c.args.key known pairs there.at each stands in
    let behind : with_dict heap c.args.d.cell (without_key heap plain_pairs key) ≡ plain_heap texts tuples new =
    ap (λ (ps : List (Val × Val)). with_dict heap c.args.d.cell ps) without ∙ (sym (dict_put texts tuples h c.args.d.cell (remove pairs there.at)) ∙ sym (ap (plain_heap texts tuples) (c.in-Some.ensures.deleted there.at there.stands))) in
    answered texts tuples h new values.None _ c.in-Some.ensures.later c.in-Some.ensures.all_told (record { meets = tt; small = tt }) tt
    (key_found heap plain_pairs key next may _ (found_at texts tuples h c.args.key known pairs there.at each stands) ∙ ap (λ (w : PlainHeap). gives Nil w) behind)

pub returns-in-None : goal.returns-in-None
returns-in-None g c =
    let texts = g.C.Constants.text_of c.args.consts.now in
    let tuples = g.C.Constants.items_of c.args.consts.now in
    let h = c.args.arena.now in
    let heap = plain_heap texts tuples h in
    let pairs = pairs_at h c.args.d.cell in
    let plain_pairs = map (plain_pair texts tuples) pairs in
    let key = plain texts tuples c.args.key in
    let known : IsKnownKey texts tuples h c.args.key = record { key = c.is_key.ensures.key.0 c.if-not-is_key.false; leads = c.requires.leads; told = c.requires.told } in
    let each = each_key texts tuples h c.args.d.cell c.requires.dict c.sound_law.ensures c.requires.all_told c.args.key known in
    let may = sym c.if-not-is_key.false ∙ c.is_key.ensures.shown texts tuples in
    let next : Val → Outcome Val = λ found. gives Nil (with_dict heap c.args.d.cell (without_key heap plain_pairs key)) in
    let none = missing texts tuples h c.args.key known pairs each c.in-None.ensures.none.differs in
    subst (λ (w : Heap Value ℕ). IsOutcome texts tuples h w (Err (Raises (NoKey c.args.key))) (of_key heap plain_pairs key next)) (sym c.in-None.ensures.unchanged)
    (raises_outcome texts tuples h (NoKey c.args.key) _ c.requires.all_told (record { leads = c.requires.leads; told = c.requires.told }) (key_missing heap plain_pairs key next may none))
