use Rattle.std.proofs.Common.{[], ◌∷◌, refl, sym}
use Rattle.std.proofs.lemmas.List.Elements.{All-nil, All-cons}
use Rattle.prim_operators.specs.mpy_base.World.{RangeObject}
use Rattle.prim_operators.specs.arena_heap.declared.value.Value.TheVariants as values
use Rattle.prim_operators.specs.arena_heap.Values.{ArenaObject}
use Rattle.prim_operators.specs.arena_heap.Constants.{IsTold}
use Rattle.prim_operators.specs.py_primitives.Outcome.{making}
use Rattle.prim_operators.specs.prim_walks.Plain.{plain_heap}
use Rattle.prim_operators.proofs.prim_faults_lemmas.Outcomes.{made_outcome}
use Rattle.prim_builtins.proofs.SmallSame.{kept, three_same}
use Rattle.prim_builtins.proofs.ranges.make_range.Goals as goal

pub returns-in-Ok : goal.returns-in-Ok
returns-in-Ok g c =
    let texts = g.C.Constants.text_of c.args.consts.now in
    let tuples = g.C.Constants.items_of c.args.consts.now in
    let h = c.args.arena.now in
    let o : ArenaObject = RangeObject (kept c.args.start) (kept c.args.stop) (kept c.args.step) in
    let is = sym (three_same (λ x y z. making (plain_heap texts tuples h) (RangeObject x y z)) c.args.start c.args.stop c.args.step c.requires.start_small c.requires.stop_small c.requires.step_small) in
    let told = IsTold texts tuples in
    made_outcome texts tuples h c.make_range.new.self o c.requires.all_told _ is _ (values.Range c.in-Ok.range) c.in-Ok.ensures.made refl
    (record { meets = c.in-Ok.ensures.kind; small = tt }) tt
    (All-cons told (values.Int (kept c.args.start)) (values.Int (kept c.args.stop) ∷ values.Int (kept c.args.step) ∷ []) tt
    (All-cons told (values.Int (kept c.args.stop)) (values.Int (kept c.args.step) ∷ []) tt (All-cons told (values.Int (kept c.args.step)) [] tt (All-nil told))))
