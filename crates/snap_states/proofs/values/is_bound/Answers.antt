use Rattle.std.proofs.Common.{sym, ◌∙◌}
use Rattle.snap_states.proofs.Judging.{found_method}
use Rattle.snap_states.proofs.values.is_bound.Goals as goal

pub returns-then-is_receiver : goal.returns-then-is_receiver
returns-then-is_receiver c =
    let shelf = c.args.known.now.library.now in
    let s = c.args.known.now.snapshot.now in
    let is = sym c.builtin_called.ensures ∙ c.in-Some.is in (
      λ t. found_method shelf s c.args.name.now c.args.v.now c.in-Some.method is (c.is_receiver.ensures.0 c.if-is_receiver.true) (c.is_plain.ensures.0 t),
      λ b. c.is_plain.ensures.1 b.plain,
    )
