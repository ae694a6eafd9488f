use Rattle.std.proofs.Common.{List, sym, subst}
use Rattle.frame_moves.specs.arena_heap.declared.value.Value.{Value}
use Rattle.frame_calls.specs.Known.{AreKnown}
use Rattle.frame_calls.specs.Operands.{running_slots, args_in}
use Rattle.frame_calls.proofs.Knowns.{operands_known}
use Rattle.frame_calls.proofs.operands.Operands.take.Goals as goal

pub returns-clause-known : goal.returns-clause-known
returns-clause-known c texts tuples objects all =
    let st = running_slots c.args.frames.now.calls in
    let room = c.self.inside.room in
    subst (λ (vs : List Value). AreKnown texts tuples objects (record { args = vs; keys = c.fill_keys.new.keys.items; room = room })) (sym c.fill_args.ensures.args)
    (subst (λ (ks : List (Value × Value)). AreKnown texts tuples objects (record { args = args_in c.args.number st; keys = ks; room = room })) (sym c.fill_keys.ensures.keys) (operands_known texts tuples objects c.args.number room st all))
