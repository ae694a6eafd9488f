use Rattle.std.proofs.Common.{[], ◌∷◌, refl}
use Rattle.std.proofs.lemmas.List.Elements.{All-nil, All-cons}
use Rattle.mpy_base.specs.World.{FunctionObject}
use Rattle.mpy_base.specs.Val.{Val}
use Rattle.prim_assignments.specs.arena_heap.declared.value.Value.TheVariants as values
use Rattle.prim_assignments.specs.arena_heap.Values.{ArenaObject}
use Rattle.prim_assignments.specs.arena_heap.Constants.{IsTold}
use Rattle.py_effects.specs.py_primitives.Outcome.{Outcome, making}
use Rattle.prim_assignments.specs.prim_walks.Plain.{plain_heap}
use Rattle.prim_assignments.proofs.prim_faults_lemmas.Heaps.{plain_made}
use Rattle.prim_assignments.proofs.prim_faults_lemmas.Outcomes.{made_outcome, refused_outcome}
use Rattle.prim_modules.proofs.Effecting.{making_visits, effect_by}
use Rattle.prim_modules.proofs.makings.make_function.Goals as goal

pub returns-in-Ok : goal.returns-in-Ok
returns-in-Ok g c =
    let texts = g.C.Constants.text_of c.args._consts.now in
    let tuples = g.C.Constants.items_of c.args._consts.now in
    let h = c.args.arena.now in
    let f = c.args.function in
    let new = c.make_fun.new.self in
    let o : ArenaObject = FunctionObject f.name f.module_name f.code f.names.cell f.defaults in
    let outcome : Outcome Val = making (plain_heap texts tuples h) (plain_made texts tuples o) in
    let told = All-cons (IsTold texts tuples) (values.Dict f.names) (f.defaults ∷ []) tt (All-cons (IsTold texts tuples) f.defaults [] c.requires.known.told (All-nil (IsTold texts tuples))) in
    let is = made_outcome texts tuples h new o c.requires.all_told outcome refl _ (values.Fun c.in-Ok.f) c.in-Ok.ensures.made refl (record { meets = c.in-Ok.ensures.kind; small = tt }) tt told in
    record { effect = effect_by texts tuples h new _ outcome is (making_visits (plain_heap texts tuples h) (plain_made texts tuples o)) _ (λ w. refl); known = is.known; later = is.later; all_told = is.all_told }

pub returns-in-Err : goal.returns-in-Err
returns-in-Err g c =
    let texts = g.C.Constants.text_of c.args._consts.now in
    let tuples = g.C.Constants.items_of c.args._consts.now in
    let h = c.args.arena.now in
    let f = c.args.function in
    let new = c.make_fun.new.self in
    let o : ArenaObject = FunctionObject f.name f.module_name f.code f.names.cell f.defaults in
    let outcome : Outcome Val = making (plain_heap texts tuples h) (plain_made texts tuples o) in
    let is = refused_outcome texts tuples h new o c.requires.all_told outcome refl c.in-Err.room c.in-Err.ensures.refused in
    record { effect = effect_by texts tuples h new _ outcome is (making_visits (plain_heap texts tuples h) (plain_made texts tuples o)) _ (λ w. refl); known = is.known; later = is.later; all_told = is.all_told }
