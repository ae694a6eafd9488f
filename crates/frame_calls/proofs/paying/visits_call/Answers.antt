use Rattle.std.proofs.Common.{ℕ, List, map, min, sym, ap, ◌∙◌}
use Rattle.frame_moves.specs.arena_heap.declared.value.Value.{Value}
use Rattle.frame_moves.specs.prim_walks.Plain.{plain, plain_pair}
use Rattle.frame_moves.specs.prim_faults.Sights.{world_over}
use Rattle.prim_calls.specs.Callees.{plain_callee}
use Rattle.prim_calls.specs.declared.callees.Callee.{Callee}
use Rattle.prim_calls.specs.declared.callees.Callee.TheVariants as callees
use Rattle.frame_calls.specs.Invoking.{visits_of}
use Rattle.frame_calls.proofs.paying.visits_call.Goals as goal

pub returns-in-Built : goal.returns-in-Built
returns-in-Built g c w =
    let texts = g.C.Constants.text_of c.args.consts.now in
    let tuples = g.C.Constants.items_of c.args.consts.now in
    let ks = c.keywords-keys.result.now in
    let b = c.in-Built.b in
    let most : Callee → List Value → List (Value × Value) → ℕ =
    λ z vs pairs. min (visits_of (plain_callee texts tuples (world_over texts tuples w c.args.arena.now) z) (map (plain texts tuples) vs) (map (plain_pair texts tuples) pairs)) c.args.most in
    c.visits_call_builtin.ensures w
    ∙ (ap (λ (vs : List Value). most (callees.Built b) vs ks) c.positional-args.ensures
    ∙ (ap (λ (pairs : List (Value × Value)). most (callees.Built b) c.args.operands.now.args pairs) c.keywords-keys.ensures
    ∙ ap (λ (z : Callee). most z c.args.operands.now.args c.args.operands.now.keys) (sym c.in-Built.is)))
