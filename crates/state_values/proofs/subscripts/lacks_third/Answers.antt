use Rattle.std.proofs.Common.{sym, ◌∙◌}
use Rattle.state_values.proofs.Lacking as lacking
use Rattle.state_values.proofs.subscripts.lacks_third.Goals as goal

pub slot-third-requires : goal.slot-third-requires
slot-third-requires c = lacking.operand_within 2 c.args.frames.now.calls c.requires

pub returns-clause-null : goal.returns-clause-null
returns-clause-null c e = lacking.null_there 2 c.args.frames.now.calls c.slot-third.result c.slot-third.ensures (sym c.is_null.ensures ∙ e)

pub returns-clause-value : goal.returns-clause-value
returns-clause-value c e = lacking.value_there 2 c.args.frames.now.calls c.requires c.slot-third.result c.slot-third.ensures (sym c.is_null.ensures ∙ e)
