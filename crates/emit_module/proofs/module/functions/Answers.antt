use Rattle.std.proofs.Common.{ap₂}
use Rattle.emit_module.proofs.Moduling.{top_ok, top_err}
use Rattle.emit_module.proofs.module.functions.Goals as goal

pub returns-in-Ok : goal.returns-in-Ok
returns-in-Ok c = top_ok c.args.level _ (ap₂ (λ z ls. record { level = c.args.level; depth = 0; next = 0; codes = z; lines = ls }) c.new.ensures c.new-2.ensures) c.in-Ok.ensures.walked

pub returns-in-Err : goal.returns-in-Err
returns-in-Err c = top_err c.args.level c.in-Err.refusal (ap₂ (λ z ls. record { level = c.args.level; depth = 0; next = 0; codes = z; lines = ls }) c.new.ensures c.new-2.ensures) c.in-Err.ensures.walked
