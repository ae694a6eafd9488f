use Rattle.frame_exits.proofs.returning.want_of.Goals as goal

pub unreachable-requires : goal.unreachable-requires
unreachable-requires c = c.requires c.in-Raises.field-0 c.in-Raises.is
