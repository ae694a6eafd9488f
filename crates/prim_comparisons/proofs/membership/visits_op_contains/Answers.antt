use Rattle.std.proofs.Common.{ℕ, Bool, map, min, refl, sym, ap, ◌∙◌, arith}
use Rattle.prim_faults.specs.mpy_base.Val.{Val, Truth}
use Rattle.prim_faults.specs.arena_objects.Iterables.{items_in}
use Rattle.prim_faults.specs.py_values.Shown.{Shown, shown}
use Rattle.prim_faults.specs.py_primitives.Outcome.{Outcome, gives}
use Rattle.prim_faults.specs.py_primitives.Operators.{contains_equal, contains_shown}
use Rattle.prim_faults.specs.prim_walks.Plain.{plain, plain_heap}
use Rattle.prim_comparisons.proofs.Walked.{visits_walked}
use Rattle.prim_comparisons.proofs.Contents.{contains_free}
use Rattle.prim_comparisons.proofs.membership.visits_op_contains.Goals as goal

pub returns-in-Tuple : goal.returns-in-Tuple
returns-in-Tuple g c =
    let texts = g.C.Constants.text_of c.args.consts.now in
    let tuples = g.C.Constants.items_of c.args.consts.now in
    let h = c.args.arena.now in
    let heap = plain_heap texts tuples h in
    let all = c.requires.all_told in
    let v = plain texts tuples c.args.v in
    let container = plain texts tuples c.args.container in
    let next : Bool → Outcome Val = λ found. gives (Truth found) heap in
    let walk = contains_equal heap v (map (plain texts tuples) (items_in tuples h c.args.container)) in
    c.visits_contains.ensures.visits ∙ ap (λ (n : ℕ). min n c.args.most)
    (sym (sym (ap (λ (s : Shown). (contains_shown heap v container (shown heap v) s).visits) c.in-Tuple.ensures.shown) ∙ visits_walked heap next (λ found. refl) walk))

pub returns-in-Items : goal.returns-in-Items
returns-in-Items g c =
    let texts = g.C.Constants.text_of c.args.consts.now in
    let tuples = g.C.Constants.items_of c.args.consts.now in
    let h = c.args.arena.now in
    let heap = plain_heap texts tuples h in
    let all = c.requires.all_told in
    let v = plain texts tuples c.args.v in
    let container = plain texts tuples c.args.container in
    let next : Bool → Outcome Val = λ found. gives (Truth found) heap in
    let walk = contains_equal heap v (map (plain texts tuples) (items_in tuples h c.args.container)) in
    c.visits_contains-in-Items.ensures.visits ∙ ap (λ (n : ℕ). min n c.args.most)
    (sym (sym (ap (λ (s : Shown). (contains_shown heap v container (shown heap v) s).visits) c.in-Items.ensures.shown) ∙ visits_walked heap next (λ found. refl) walk))

pub returns-in_default : goal.returns-in_default
returns-in_default g c =
    let texts = g.C.Constants.text_of c.args.consts.now in
    let tuples = g.C.Constants.items_of c.args.consts.now in
    let h = c.args.arena.now in
    let heap = plain_heap texts tuples h in
    let all = c.requires.all_told in
    let v = plain texts tuples c.args.v in
    let container = plain texts tuples c.args.container in
    let free = contains_free heap v container texts tuples h c.look_at.result c.args.container (shown heap v) _ c.in_default.not-Tuple c.in_default.not-Items c.look_at.ensures.shown in
    omega (arith, free)
