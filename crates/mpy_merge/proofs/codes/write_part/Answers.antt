use Rattle.std.proofs.Common.{◌+◌, ◌≤◌, length, refl, sym, subst}
use Rattle.mpy_base.specs.declared.limits.TheConstants.{MAX_TABLE, MAX_DEPTH}
use Rattle.mpy_writer.specs.mpy_tree.declared.raw.RawCode.{RawCode}
use Rattle.mpy_writer.specs.mpy_tree.File.{IsCode}
use Rattle.mpy_writer.specs.mpy_tree.Raw.{Module}
use Rattle.bc_verify.specs.Verified.{AreVerified}
use Rattle.mpy_writer.specs.Outcome.{FaultIs}
use Rattle.mpy_merge.specs.Far.{HasFarCode}
use Rattle.mpy_merge.specs.Moved.{IsMovedTree}
use Rattle.mpy_merge.proofs.codes.write_part.Goals as goal

pub write_tree-requires-clause-few : goal.write_tree-requires-clause-few
write_tree-requires-clause-few c = subst (λ (m : Module). c.args.base + length m.objects ≤ MAX_TABLE) (sym c.module-module.ensures) c.requires.few

pub write_tree-requires-clause-nests : goal.write_tree-requires-clause-nests
write_tree-requires-clause-nests c =
    let is = c.module_law.ensures in
    (is.1.code, subst (IsCode MAX_DEPTH (length c.module-module.result.now.qstrs) is.1.code) (sym c.code.ensures) is.1.is_code)

pub write_tree-requires-clause-verified : goal.write_tree-requires-clause-verified
write_tree-requires-clause-verified c =
    let all = subst (λ (m : Module). AreVerified m m.code) (sym c.module-module.ensures) c.verified_law.ensures in
    subst (AreVerified c.module-module.result.now) (sym c.code.ensures) all

pub returns-in-Ok-clause-ok : goal.returns-in-Ok-clause-ok
returns-in-Ok-clause-ok c =
    let h = c.in-Ok.ensures.ok in
    let tree = subst (λ (z : RawCode). IsMovedTree MAX_DEPTH c.args.tables.now c.args.base c.module-module.result.now z h.0) c.code.ensures h.1 in
    (h.0, subst (λ (m : Module). IsMovedTree MAX_DEPTH c.args.tables.now c.args.base m m.code h.0) c.module-module.ensures tree, h.2)

pub returns-in-Err-Fault-clause-fault : goal.returns-in-Err-Fault-clause-fault
returns-in-Err-Fault-clause-fault c =
    let told = subst (λ z. FaultIs z (λ fault. HasFarCode c.args.tables.now c.args.base c.module-module.result.now c.code.result.now)) c.in-Err-Fault.field-0-is c.in-Err-Fault.ensures.fault in
    let far = subst (HasFarCode c.args.tables.now c.args.base c.module-module.result.now) c.code.ensures told in
    (refl, subst (λ (m : Module). HasFarCode c.args.tables.now c.args.base m m.code) c.module-module.ensures far)
