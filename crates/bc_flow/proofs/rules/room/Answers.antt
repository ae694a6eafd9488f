use Rattle.std.proofs.Common.{◌≡◌, ◌∙◌, ◌+◌, ◌-◌, ap, length, rules, arith}
use Rattle.bc_shapes.specs.Views.{at_of}
use Rattle.bc_flow.specs.Code.{code_of}
use Rattle.bc_flow.specs.Edges.{gives, gives_there, takes, has_room}
use Rattle.bc_flow.specs.Views.{action_of}
use Rattle.bc_flow.proofs.Judging.{room_is}
use Rattle.bc_flow.proofs.rules.room.Goals as goal

pub returns : goal.returns
returns c =
    let code = code_of c.args.code.now in
    let a = action_of c.args.action.now in
    let x = at_of c.args.x.now in
    let taken = c.len.ensures ∙ ap length c.takes.ensures in
    let given = c.len-2.ensures ∙ ap length c.gives.ensures in
    let there = c.len-3.ensures ∙ ap length c.gives_there.ensures in
    let next_is : c.len-2.result + c.saturating_sub-left.result ≡ length (gives a) + (length c.args.base.now - length (takes a)) = omega (arith, taken, given, c.saturating_sub-left.ensures) in
    let there_is : c.len-3.result + c.saturating_sub-left.result ≡ length (gives_there a) + (length c.args.base.now - length (takes a)) = omega (arith, taken, there, c.saturating_sub-left.ensures) in
    let before : c.len-4.result ≡ length c.args.x.now.slots.items = search rules in
    c.has_all_room.ensures
    ∙ ap (λ n. has_room c.args.locals code.n_state n (c.len-2.result + c.saturating_sub-left.result) (c.len-3.result + c.saturating_sub-left.result)) before
    ∙ room_is code a x c.args.locals _ _ c.args.base.now c.requires.locals_are c.requires.base_is next_is there_is
