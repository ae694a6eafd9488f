use Rattle.std.proofs.Common.{◌≡◌, ℕ, ◌<◌, List, length, map, get_or, Option, Ok, Err, sym, ap, ◌∙◌, subst}
use Rattle.std.specs.Prelude.{codes}
use Rattle.std.specs.List.{remove}
use Rattle.mpy_base.specs.World.{Heap, pairs_at, with_dict}
use Rattle.mpy_base.specs.Val.{Val}
use Rattle.prim_assignments.specs.arena_heap.declared.value.Value.{Value}
use Rattle.prim_assignments.specs.arena_heap.declared.value.Value.TheVariants as values
use Rattle.prim_assignments.proofs.arena_heap_lemmas.Sounds.{leads_later}
use Rattle.prim_builtins.specs.py_values.Shown.{PlainHeap}
use Rattle.prim_builtins.specs.py_values.Keys.{value_of_key}
use Rattle.prim_builtins.specs.py_primitives.Faults.{UnsupportedOne}
use Rattle.prim_builtins.specs.py_primitives.Outcome.{gives, raises}
use Rattle.prim_builtins.specs.py_primitives.Operators.{with_key_of}
use Rattle.prim_builtins.specs.py_primitives.Methods.{pop_found}
use Rattle.prim_assignments.specs.prim_walks.Plain.{plain, plain_pair, plain_heap}
use Rattle.prim_assignments.specs.prim_faults.declared.stop.Stop.TheVariants.{Raises}
use Rattle.prim_assignments.specs.prim_faults.declared.fault.Fault.TheVariants.{NoKey}
use Rattle.prim_assignments.specs.prim_faults.Outcomes.{IsOutcome}
use Rattle.prim_assignments.proofs.prim_faults_lemmas.Heaps.{dict_put}
use Rattle.prim_assignments.proofs.prim_faults_lemmas.Outcomes.{answered, gives_outcome, raises_outcome}
use Rattle.prim_assignments.proofs.prim_operators_lemmas.DictKeys.{IsKnownKey}
use Rattle.prim_methods.proofs.MethodCalls.{none_are, some_are}
use Rattle.prim_methods.proofs.DictValues.{keyed, unkeyed, value_there, value_missing, pairs_without, pops_nothing, pops_other, pops_value}
use Rattle.prim_methods.proofs.dict_pops.pop_key.Goals as goal

pub returns-then-not-is_key : goal.returns-then-not-is_key
returns-then-not-is_key g c =
    let texts = g.C.Constants.text_of c.args.consts.now in
    let tuples = g.C.Constants.items_of c.args.consts.now in
    let h = c.args.arena.now in
    let heap = plain_heap texts tuples h in
    raises_outcome texts tuples h _ _ c.requires.all_told tt
    (unkeyed heap (plain texts tuples c.args.key) _ (sym c.if-not-is_key.true ∙ c.is_key.ensures.shown texts tuples)
    ∙ ap (λ (t : List ℕ). raises {A = Val} (UnsupportedOne (codes "__hash__") t) heap) (sym (c.type_of.ensures texts tuples)))

pub returns-in-Some : goal.returns-in-Some
returns-in-Some g c =
    let texts = g.C.Constants.text_of c.args.consts.now in
    let tuples = g.C.Constants.items_of c.args.consts.now in
    let h = c.args.arena.now in
    let heap = plain_heap texts tuples h in
    let p = plain texts tuples in
    let d = c.args.d.cell in
    let key = p c.args.key in
    let pairs = map (plain_pair texts tuples) (pairs_at h d) in
    let others = c.args.others.now in
    let known : IsKnownKey texts tuples h c.args.key = record { key = c.is_key.ensures.key.0 c.if-not-is_key.false; leads = c.requires.leads; told = c.requires.told } in
    let may = sym c.if-not-is_key.false ∙ c.is_key.ensures.shown texts tuples in
    let next = pop_found heap d pairs key (map p others) (value_of_key heap pairs key) in
    let v = c.in-Some.v in
    let there = c.in-Some.ensures.found in
    let new = c.dict_delete.new.arena in
    let found = value_there texts tuples h d c.requires.dict c.sound_law.ensures c.requires.all_told c.args.key known v there in
    let without = pairs_without texts tuples h d c.requires.dict c.sound_law.ensures c.requires.all_told c.args.key known there.at there.stands in
    let behind = ap (λ (ps : List (Val × Val)). with_dict heap d ps) without
    ∙ (sym (dict_put texts tuples h d (remove (pairs_at h d) there.at)) ∙ sym (ap (plain_heap texts tuples) (c.in-Some.ensures.deleted there.at there.stands))) in
    answered texts tuples h new v _ c.in-Some.ensures.later c.in-Some.ensures.all_told (leads_later c.in-Some.ensures.later v c.in-Some.ensures.leads) c.in-Some.ensures.told
    (keyed heap key next may ∙ (ap (λ (o : Option Val). pop_found heap d pairs key (map p others) o) found
    ∙ (pops_value p heap d pairs key (map p others) (p v) ∙ ap (λ (w : PlainHeap). gives (p v) w) behind)))

pub returns-then-is_empty : goal.returns-then-is_empty
returns-then-is_empty g c =
    let texts = g.C.Constants.text_of c.args.consts.now in
    let tuples = g.C.Constants.items_of c.args.consts.now in
    let h = c.args.arena.now in
    let heap = plain_heap texts tuples h in
    let p = plain texts tuples in
    let d = c.args.d.cell in
    let key = p c.args.key in
    let pairs = map (plain_pair texts tuples) (pairs_at h d) in
    let others = c.args.others.now in
    let known : IsKnownKey texts tuples h c.args.key = record { key = c.is_key.ensures.key.0 c.if-not-is_key.false; leads = c.requires.leads; told = c.requires.told } in
    let may = sym c.if-not-is_key.false ∙ c.is_key.ensures.shown texts tuples in
    let next = pop_found heap d pairs key (map p others) (value_of_key heap pairs key) in
    let none = value_missing texts tuples h d c.requires.dict c.sound_law.ensures c.requires.all_told c.args.key known c.in_default.ensures.none in
    let empty : length others ≡ 0 = none_are c.is_empty.result (length others) c.is_empty.ensures c.if-is_empty.true in
    let is = keyed heap key next may ∙ (ap (λ (o : Option Val). pop_found heap d pairs key (map p others) o) none ∙ pops_nothing p heap d pairs key others empty) in
    subst (λ (w : Heap Value ℕ). IsOutcome texts tuples h w (Err (Raises (NoKey c.args.key))) (with_key_of heap key next)) (sym c.in_default.ensures.unchanged)
    (raises_outcome texts tuples h (NoKey c.args.key) _ c.requires.all_told (record { leads = c.requires.leads; told = c.requires.told }) is)

pub returns : goal.returns
returns g c =
    let texts = g.C.Constants.text_of c.args.consts.now in
    let tuples = g.C.Constants.items_of c.args.consts.now in
    let h = c.args.arena.now in
    let heap = plain_heap texts tuples h in
    let p = plain texts tuples in
    let d = c.args.d.cell in
    let key = p c.args.key in
    let pairs = map (plain_pair texts tuples) (pairs_at h d) in
    let others = c.args.others.now in
    let known : IsKnownKey texts tuples h c.args.key = record { key = c.is_key.ensures.key.0 c.if-not-is_key.false; leads = c.requires.leads; told = c.requires.told } in
    let may = sym c.if-not-is_key.false ∙ c.is_key.ensures.shown texts tuples in
    let next = pop_found heap d pairs key (map p others) (value_of_key heap pairs key) in
    let none = value_missing texts tuples h d c.requires.dict c.sound_law.ensures c.requires.all_told c.args.key known c.in_default.ensures.none in
    let some : 0 < length others = some_are c.is_empty.result (length others) c.is_empty.ensures c.if-is_empty.false in
    let other = c.requires.known 0 values.None some in
    let v = get_or others 0 values.None in
    let is = keyed heap key next may ∙ (ap (λ (o : Option Val). pop_found heap d pairs key (map p others) o) none ∙ pops_other p heap d pairs key others values.None some) in
    subst (λ (w : Heap Value ℕ). IsOutcome texts tuples h w (Ok v) (with_key_of heap key next)) (sym c.in_default.ensures.unchanged)
    (gives_outcome texts tuples h v _ c.requires.all_told other.leads other.told is)
