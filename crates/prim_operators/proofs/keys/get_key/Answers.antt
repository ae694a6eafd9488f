use Rattle.std.proofs.Common.{◌≡◌, ℕ, List, map, get_or, Some, Option, sym, ap, ◌∙◌}
use Rattle.std.specs.Option.{option_map}
use Rattle.std.proofs.lemmas.Option.{slice_get-get_or}
use Rattle.prim_faults.specs.arena_heap.declared.value.Value.{Value}
use Rattle.prim_faults.specs.mpy_base.World.{pairs_at}
use Rattle.prim_faults.specs.mpy_base.Val.{Val}
use Rattle.prim_faults.proofs.arena_objects_lemmas.Places.{no_pair}
use Rattle.prim_faults.specs.py_primitives.Faults.{UnsupportedOne}
use Rattle.std.specs.Prelude.{codes}
use Rattle.prim_faults.specs.py_primitives.Outcome.{gives, raises}
use Rattle.prim_faults.specs.prim_walks.Plain.{plain, plain_pair, plain_heap}
use Rattle.prim_faults.proofs.Outcomes.{gives_outcome, raises_outcome}
use Rattle.prim_operators.proofs.DictKeys.{IsKnownKey, Stands, each_key, found_at, missing}
use Rattle.prim_operators.proofs.KeyUses.{unhashable, key_found, key_missing}
use Rattle.prim_operators.proofs.keys.get_key.Goals as goal

pub returns-then-not-is_key : goal.returns-then-not-is_key
returns-then-not-is_key g c =
    let texts = g.C.Constants.text_of c.args.consts.now in
    let tuples = g.C.Constants.items_of c.args.consts.now in
    let h = c.args.arena.now in
    let heap = plain_heap texts tuples h in
    raises_outcome texts tuples h _ _ c.requires.all_told tt
    (unhashable heap (map (plain_pair texts tuples) (pairs_at h c.args.d.cell)) (plain texts tuples c.args.key) (λ found. gives found heap) (sym c.if-not-is_key.true ∙ c.is_key.ensures.shown texts tuples)
    ∙ ap (λ (t : List ℕ). raises {A = Val} (UnsupportedOne (codes "__hash__") t) heap) (sym (c.type_of.ensures texts tuples)))

pub returns-in-Some : goal.returns-in-Some
returns-in-Some g c =
    let texts = g.C.Constants.text_of c.args.consts.now in
    let tuples = g.C.Constants.items_of c.args.consts.now in
    let h = c.args.arena.now in
    let heap = plain_heap texts tuples h in
    let pairs = pairs_at h c.args.d.cell in
    let key = plain texts tuples c.args.key in
    let known : IsKnownKey texts tuples h c.args.key = record { key = c.is_key.ensures.key.0 c.if-not-is_key.false; leads = c.requires.leads; told = c.requires.told } in
    let each = each_key texts tuples h c.args.d.cell c.requires.dict c.sound_law.ensures c.requires.all_told c.args.key known in
    let may = sym c.if-not-is_key.false ∙ c.is_key.ensures.shown texts tuples in
    let there = c.in-Some.ensures.found in
    let stands : Stands texts tuples h c.args.key known pairs there.at = record { within = there.stands.within; equal = there.stands.equal; first = there.stands.first } in
    let read : Some (get_or pairs there.at no_pair).1 ≡ Some c.in-Some.v =
    sym (ap (λ (o : Option (Value × Value)). option_map (λ (pair : Value × Value). pair.1) o) (slice_get-get_or pairs there.at no_pair there.stands.within)) ∙ there.value in
    let same : (get_or pairs there.at no_pair).1 ≡ c.in-Some.v = cc in
    let found = found_at texts tuples h c.args.key known pairs there.at each stands ∙ ap (λ (v : Value). Some (plain texts tuples v)) same in
    gives_outcome texts tuples h c.in-Some.v _ c.requires.all_told c.in-Some.ensures.leads c.in-Some.ensures.told
    (key_found heap (map (plain_pair texts tuples) pairs) key (λ found. gives found heap) may (plain texts tuples c.in-Some.v) found)

pub returns-in-None : goal.returns-in-None
returns-in-None g c =
    let texts = g.C.Constants.text_of c.args.consts.now in
    let tuples = g.C.Constants.items_of c.args.consts.now in
    let h = c.args.arena.now in
    let heap = plain_heap texts tuples h in
    let pairs = pairs_at h c.args.d.cell in
    let key = plain texts tuples c.args.key in
    let known : IsKnownKey texts tuples h c.args.key = record { key = c.is_key.ensures.key.0 c.if-not-is_key.false; leads = c.requires.leads; told = c.requires.told } in
    let each = each_key texts tuples h c.args.d.cell c.requires.dict c.sound_law.ensures c.requires.all_told c.args.key known in
    let may = sym c.if-not-is_key.false ∙ c.is_key.ensures.shown texts tuples in
    raises_outcome texts tuples h _ _ c.requires.all_told (record { leads = c.requires.leads; told = c.requires.told })
    (key_missing heap (map (plain_pair texts tuples) pairs) key (λ found. gives found heap) may (missing texts tuples h c.args.key known pairs each c.in-None.ensures.none.differs))
