use Rattle.std.proofs.Common.{map, ◌∙◌}
use Rattle.arena_objects.specs.Iterables.{items_in}
use Rattle.py_primitives.specs.Operators.{contains_equal}
use Rattle.prim_walks.specs.Plain.{plain, plain_heap}
use Rattle.prim_walks.proofs.RunSteps.{answer_is}
use Rattle.prim_walks.proofs.containing.contains.Goals as goal

pub returns : goal.returns
returns g c =
    let texts = g.C.Constants.text_of c.args.consts.now in
    let tuples = g.C.Constants.items_of c.args.consts.now in
    let h = c.args.arena.now in
    let walk = contains_equal (plain_heap texts tuples h) (plain texts tuples c.args.v) (map (plain texts tuples) (items_in tuples h c.args.over)) in
    record { answer = c.ok.ensures.value ∙ answer_is walk c.find_equal.result c.find_equal.new.budget.left c.find_equal.ensures }
