use Rattle.std.proofs.Common.{map, ap, ◌∙◌}
use Rattle.prim_outputs.specs.py_effects.Calling.{bound}
use Rattle.prim_methods.specs.prim_walks.Plain.{plain, plain_pair, plain_heap}
use Rattle.prim_methods.specs.prim_faults.Sights.{world_over}
use Rattle.prim_calls.specs.Binding.{name_text, bound_answer}
use Rattle.prim_calls.proofs.Bound.{effect_answer, effect_world, effect_visits}
use Rattle.prim_calls.proofs.binding.bind.Goals as goal

pub returns-clause-bound : goal.returns-clause-bound
returns-clause-bound g c =
    let texts = g.C.Constants.text_of c.args.consts.now in
    let tuples = g.C.Constants.items_of c.args.consts.now in
    let h = c.args.arena.now in
    let whole = bound (plain_heap texts tuples h) (map (name_text texts) c.args.params.names.now) c.args.params.given (plain texts tuples c.args.params.defaults) (map (plain texts tuples) c.args.args.now) (map (plain_pair texts tuples) c.args.keys.now) in
    record {
      answer = λ w. ap bound_answer c.bind_given.ensures.bound ∙ effect_answer (world_over texts tuples w h) whole;
      world = λ w. effect_world (world_over texts tuples w h) whole;
      visits = λ w. effect_visits (world_over texts tuples w h) whole;
    }
