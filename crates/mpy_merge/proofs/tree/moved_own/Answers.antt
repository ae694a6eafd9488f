use Rattle.mpy_merge.proofs.Made.{own_ok, own_fault}
use Rattle.mpy_merge.proofs.Sound.{numbered}
use Rattle.mpy_merge.proofs.tree.moved_own.Goals as goal

pub write_code-requires-clause-numbered : goal.write_code-requires-clause-numbered
write_code-requires-clause-numbered c =
    numbered c.args.tables.now c.requires.fit c.args.base c.args.module.now c.requires.few c.module_law.ensures c.args.bytes.now c.requires.kept c.in_ok-code.code c.in_ok-code.ensures

pub returns-clause-ok : goal.returns-clause-ok
returns-clause-ok c = own_ok c.args.tables.now c.args.base c.args.module.now c.args.bytes.now c.in_ok-code.code c.in_ok-code.ensures c.write_code.result c.write_code.ensures.ok

pub returns-clause-fault : goal.returns-clause-fault
returns-clause-fault c = own_fault c.args.tables.now c.args.base c.args.module.now c.args.bytes.now c.in_ok-code.code c.in_ok-code.ensures c.write_code.result c.write_code.ensures.fault
