use Rattle.std.proofs.Common.{sym, subst}
use Rattle.mpy_writer.specs.mpy_tree.declared.module.Code.{Code}
use Rattle.mpy_writer.specs.File.{IsCodeFault}
use Rattle.mpy_writer.specs.Outcome.{FaultIs}
use Rattle.mpy_writer.specs.Writable.{IsNumberedCode}
use Rattle.mpy_merge.proofs.Outermost.{outer_numbered, outer_faultless}
use Rattle.mpy_merge.proofs.outer.outer_own.Goals as goal

pub write_code-requires-clause-numbered : goal.write_code-requires-clause-numbered
write_code-requires-clause-numbered c = subst IsNumberedCode (sym c.in_ok-code.ensures) (outer_numbered c.args.modules c.requires.few)

pub unreachable-requires : goal.unreachable-requires
unreachable-requires c =
    let told = subst (λ z. FaultIs z (IsCodeFault c.args.tables.now c.in_ok-code.code)) c.in-Err-Fault.field-0-is c.in-Err-Fault.ensures.fault in
    outer_faultless c.args.tables.now c.args.modules c.requires.few c.in-Err-Fault.field-0-0 (subst (λ (code : Code). IsCodeFault c.args.tables.now code c.in-Err-Fault.field-0-0) c.in_ok-code.ensures told)
