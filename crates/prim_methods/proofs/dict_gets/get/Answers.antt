use Rattle.std.proofs.Common.{◌≡◌, ℕ, ◌<◌, List, length, map, get_or, Option, sym, ap, ◌∙◌}
use Rattle.std.specs.Prelude.{codes}
use Rattle.mpy_base.specs.World.{pairs_at}
use Rattle.mpy_base.specs.Val.{Val}
use Rattle.prim_assignments.specs.arena_heap.declared.value.Value.TheVariants as values
use Rattle.prim_builtins.specs.py_values.Keys.{value_of_key}
use Rattle.prim_builtins.specs.py_primitives.Faults.{UnsupportedOne}
use Rattle.prim_builtins.specs.py_primitives.Outcome.{gives, raises}
use Rattle.prim_builtins.specs.py_primitives.Methods as methods
use Rattle.prim_assignments.specs.prim_walks.Plain.{plain, plain_pair, plain_heap}
use Rattle.prim_assignments.proofs.prim_faults_lemmas.Outcomes.{gives_outcome, raises_outcome}
use Rattle.prim_assignments.proofs.prim_operators_lemmas.DictKeys.{IsKnownKey}
use Rattle.prim_methods.proofs.MethodCalls.{none_are, some_are}
use Rattle.prim_methods.proofs.DictValues.{keyed, unkeyed, value_there, value_missing, or_nil, or_other}
use Rattle.prim_methods.proofs.dict_gets.get.Goals as goal

pub returns-then-not-is_key : goal.returns-then-not-is_key
returns-then-not-is_key g c =
    let texts = g.C.Constants.text_of c.args.consts.now in
    let tuples = g.C.Constants.items_of c.args.consts.now in
    let h = c.args.arena.now in
    let heap = plain_heap texts tuples h in
    raises_outcome texts tuples h _ _ c.requires.all_told tt
    (unkeyed heap (plain texts tuples c.args.key) _ (sym c.if-not-is_key.true ∙ c.is_key.ensures.shown texts tuples)
    ∙ ap (λ (t : List ℕ). raises {A = Val} (UnsupportedOne (codes "__hash__") t) heap) (sym (c.type_of.ensures texts tuples)))

pub returns-in-Some : goal.returns-in-Some
returns-in-Some g c =
    let texts = g.C.Constants.text_of c.args.consts.now in
    let tuples = g.C.Constants.items_of c.args.consts.now in
    let h = c.args.arena.now in
    let heap = plain_heap texts tuples h in
    let p = plain texts tuples in
    let d = c.args.d.cell in
    let key = p c.args.key in
    let pairs = map (plain_pair texts tuples) (pairs_at h d) in
    let others = c.args.others.now in
    let known : IsKnownKey texts tuples h c.args.key = record { key = c.is_key.ensures.key.0 c.if-not-is_key.false; leads = c.requires.leads; told = c.requires.told } in
    let may = sym c.if-not-is_key.false ∙ c.is_key.ensures.shown texts tuples in
    let v = c.in-Some.v in
    let found = value_there texts tuples h d c.requires.dict c.sound_law.ensures c.requires.all_told c.args.key known v c.in-Some.ensures.found in
    gives_outcome texts tuples h v _ c.requires.all_told c.in-Some.ensures.leads c.in-Some.ensures.told
    (keyed heap key (gives (methods.get_or (value_of_key heap pairs key) (map p others)) heap) may ∙ ap (λ (o : Option Val). gives (methods.get_or o (map p others)) heap) found)

pub returns-then-is_empty : goal.returns-then-is_empty
returns-then-is_empty g c =
    let texts = g.C.Constants.text_of c.args.consts.now in
    let tuples = g.C.Constants.items_of c.args.consts.now in
    let h = c.args.arena.now in
    let heap = plain_heap texts tuples h in
    let p = plain texts tuples in
    let d = c.args.d.cell in
    let key = p c.args.key in
    let pairs = map (plain_pair texts tuples) (pairs_at h d) in
    let others = c.args.others.now in
    let known : IsKnownKey texts tuples h c.args.key = record { key = c.is_key.ensures.key.0 c.if-not-is_key.false; leads = c.requires.leads; told = c.requires.told } in
    let may = sym c.if-not-is_key.false ∙ c.is_key.ensures.shown texts tuples in
    let none = value_missing texts tuples h d c.requires.dict c.sound_law.ensures c.requires.all_told c.args.key known c.in_default.ensures.none in
    let empty : length others ≡ 0 = none_are c.is_empty.result (length others) c.is_empty.ensures c.if-is_empty.true in
    gives_outcome texts tuples h values.None _ c.requires.all_told (record { meets = tt; small = tt }) tt
    (keyed heap key (gives (methods.get_or (value_of_key heap pairs key) (map p others)) heap) may
    ∙ (ap (λ (o : Option Val). gives (methods.get_or o (map p others)) heap) none ∙ ap (λ (w : Val). gives w heap) (or_nil p others empty)))

pub returns : goal.returns
returns g c =
    let texts = g.C.Constants.text_of c.args.consts.now in
    let tuples = g.C.Constants.items_of c.args.consts.now in
    let h = c.args.arena.now in
    let heap = plain_heap texts tuples h in
    let p = plain texts tuples in
    let d = c.args.d.cell in
    let key = p c.args.key in
    let pairs = map (plain_pair texts tuples) (pairs_at h d) in
    let others = c.args.others.now in
    let known : IsKnownKey texts tuples h c.args.key = record { key = c.is_key.ensures.key.0 c.if-not-is_key.false; leads = c.requires.leads; told = c.requires.told } in
    let may = sym c.if-not-is_key.false ∙ c.is_key.ensures.shown texts tuples in
    let none = value_missing texts tuples h d c.requires.dict c.sound_law.ensures c.requires.all_told c.args.key known c.in_default.ensures.none in
    let some : 0 < length others = some_are c.is_empty.result (length others) c.is_empty.ensures c.if-is_empty.false in
    let other = c.requires.known 0 values.None some in
    gives_outcome texts tuples h (get_or others 0 values.None) _ c.requires.all_told other.leads other.told
    (keyed heap key (gives (methods.get_or (value_of_key heap pairs key) (map p others)) heap) may
    ∙ (ap (λ (o : Option Val). gives (methods.get_or o (map p others)) heap) none ∙ ap (λ (w : Val). gives w heap) (or_other p others values.None some)))
