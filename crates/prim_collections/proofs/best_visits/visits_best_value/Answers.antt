use Rattle.std.proofs.Common.{◌≡◌, ◌<◌, length, map, refl, arith}
use Rattle.std.proofs.lemmas.List.{length-map}
use Rattle.prim_builtins.specs.arena_heap.declared.value.Value.{Value}
use Rattle.prim_builtins.specs.mpy_base.Val.{Val}
use Rattle.prim_builtins.specs.py_primitives.Outcome.{Outcome, gives}
use Rattle.prim_builtins.specs.prim_walks.Plain.{plain, plain_heap}
use Rattle.prim_collections.specs.Best.{plain_extreme, values_of}
use Rattle.prim_collections.proofs.BestOutcomes.{nothing_visits, something_visits}
use Rattle.prim_collections.proofs.best_visits.visits_best_value.Goals as goal

pub visits_best-requires-clause-some : goal.visits_best-requires-clause-some
visits_best-requires-clause-some g c =
    let texts = g.C.Constants.text_of c.args.consts.now in
    let tuples = g.C.Constants.items_of c.args.consts.now in
    let h = c.args.arena.now in
    let heap = plain_heap texts tuples h in
    let sign = plain_extreme c.args.extreme in
    let p : Value → Val = plain texts tuples in
    let xs = values_of tuples h c.args.from in
    let next : Val → Outcome Val = λ best. gives best heap in
    omega (arith, c.if-candidate_count-eq0.false, c.candidate_count.ensures)

pub returns-then-candidate_count-eq0 : goal.returns-then-candidate_count-eq0
returns-then-candidate_count-eq0 g c =
    let texts = g.C.Constants.text_of c.args.consts.now in
    let tuples = g.C.Constants.items_of c.args.consts.now in
    let h = c.args.arena.now in
    let heap = plain_heap texts tuples h in
    let sign = plain_extreme c.args.extreme in
    let p : Value → Val = plain texts tuples in
    let xs = values_of tuples h c.args.from in
    let next : Val → Outcome Val = λ best. gives best heap in
    let empty : length (map p xs) ≡ 0 = omega (arith, length-map xs p, c.if-candidate_count-eq0.true, c.candidate_count.ensures) in
    let none = nothing_visits heap sign next (λ v. refl) (map p xs) empty in
    omega (arith, none)

pub returns : goal.returns
returns g c =
    let texts = g.C.Constants.text_of c.args.consts.now in
    let tuples = g.C.Constants.items_of c.args.consts.now in
    let h = c.args.arena.now in
    let heap = plain_heap texts tuples h in
    let sign = plain_extreme c.args.extreme in
    let p : Value → Val = plain texts tuples in
    let xs = values_of tuples h c.args.from in
    let next : Val → Outcome Val = λ best. gives best heap in
    let some : 0 < length (map p xs) = omega (arith, length-map xs p, c.if-candidate_count-eq0.false, c.candidate_count.ensures) in
    let all = something_visits heap sign next (λ v. refl) (map p xs) some in
    omega (arith, all, c.visits_best.ensures)
