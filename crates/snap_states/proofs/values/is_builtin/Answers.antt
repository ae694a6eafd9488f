use Rattle.std.proofs.Common.{sym, ◌∙◌}
use Rattle.snap_states.proofs.Judging.{found_builtin, none_tested}
use Rattle.snap_states.proofs.values.is_builtin.Goals as goal

pub returns-in-Some : goal.returns-in-Some
returns-in-Some c = found_builtin c.args.name.now c.in-Some.builtin c.method_of.result c.is_none.result (sym c.builtin_called.ensures ∙ c.in-Some.is) c.method_of.ensures (none_tested c.method_of.result c.is_none.result c.is_none.ensures)
