use Rattle.std.proofs.Common.{ℕ, Bool, Option, Result, map, ap}
use Rattle.arena_objects.specs.Iterables.{items_in}
use Rattle.py_primitives.specs.Operators.{contains_equal}
use Rattle.prim_walks.specs.declared.budget.Halt.{Halt}
use Rattle.prim_walks.specs.Plain.{plain, plain_heap}
use Rattle.prim_walks.proofs.RunSteps.{visits_are}
use Rattle.prim_walks.proofs.containing.visits_contains.Goals as goal

pub returns : goal.returns
returns g c =
    let texts = g.C.Constants.text_of c.args.consts.now in
    let tuples = g.C.Constants.items_of c.args.consts.now in
    let h = c.args.arena.now in
    let walk = contains_equal (plain_heap texts tuples h) (plain texts tuples c.args.v) (map (plain texts tuples) (items_in tuples h c.args.over)) in
    let left = ap (λ (p : Result Bool Halt × Option ℕ). p.1) c.find_equal.ensures in
    record { visits = visits_are walk c.args.most c.made_of.result c.find_equal.new.budget.left left c.made_of.ensures }
