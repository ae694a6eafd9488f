use Rattle.std.proofs.Common.{◌≡◌, length, ◌∙◌, arith}
use Rattle.std.proofs.lemmas.List.{with_items_is}
use Rattle.frame_moves.specs.prim_walks.Plain.{plain}
use Rattle.frame_calls.proofs.Enterings.{bound_same}
use Rattle.frame_calls.proofs.binding.Bindings.bind.Goals as goal

pub returns-clause-bound : goal.returns-clause-bound
returns-clause-bound g c =
    let texts = g.C.Constants.text_of c.args.consts.now in
    let tuples = g.C.Constants.items_of c.args.consts.now in
    let slots = c.bind.new.slots in
    let vec = c.fill_empty.new.values in
    let long : length slots ≡ vec.len = omega (arith, c.bind.auto.slots, c.as_mut_slice.ensures.len) in
    bound_same texts tuples c.args.arena.now c.args.code.now.given (plain texts tuples c.args.defaults) slots _ c.as_slice.result.now _ c.positional.result.now c.args.operands.now.args c.keywords.result.now c.args.operands.now.keys c.bind.result
    (with_items_is vec slots long) (c.as_slice.ensures.value ∙ c.fill_names.ensures.names) c.positional.ensures c.keywords.ensures c.bind.ensures.bound
