use Rattle.std.proofs.Common.{◌≡◌, ℕ, ◌+◌, ◌*◌, suc, [], refl, subst, arith}
use Rattle.std.proofs.lemmas.List.Elements.{All-nil}
use Rattle.mpy_base.specs.World.{DictObject}
use Rattle.mpy_base.specs.Weights.{Refused, room_for}
use Rattle.prim_methods.specs.arena_heap.declared.value.Value.TheVariants as values
use Rattle.prim_methods.specs.arena_heap.Values.{ArenaObject}
use Rattle.prim_methods.specs.arena_heap.Constants.{IsTold}
use Rattle.prim_methods.proofs.prim_faults_lemmas.Outcomes.{made_outcome, refused_outcome}
use Rattle.prim_names.proofs.displays.make_dict.Goals as goal

pub returns-in-Ok : goal.returns-in-Ok
returns-in-Ok g c =
    let texts = g.C.Constants.text_of c.args._consts.now in
    let tuples = g.C.Constants.items_of c.args._consts.now in
    let o : ArenaObject = DictObject [] (room_for c.args.pairs) in
    made_outcome texts tuples c.args.arena.now c.make_dict.new.self o c.requires.all_told _ refl _ (values.Dict c.in-Ok.dict) c.in-Ok.ensures.made refl
    (record { meets = c.in-Ok.ensures.kind; small = tt }) tt (All-nil (IsTold texts tuples))

pub returns-in-Err : goal.returns-in-Err
returns-in-Err g c =
    let texts = g.C.Constants.text_of c.args._consts.now in
    let tuples = g.C.Constants.items_of c.args._consts.now in
    let h = c.args.arena.now in
    let new = c.make_dict.new.self in
    let room = room_for c.args.pairs in
    let o : ArenaObject = DictObject [] room in
    let cells : 3 + 3 * room ≡ suc (2 + 3 * room) = omega arith in
    refused_outcome texts tuples h new o c.requires.all_told _ refl c.in-Err.room (subst (λ (n : ℕ). Refused h new c.in-Err.room n 0) cells c.in-Err.ensures.refused)
