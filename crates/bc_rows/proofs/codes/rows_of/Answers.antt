use Rattle.std.proofs.Common.{◌≡◌, [], true, false, length, sym, subst, arith}
use Rattle.mpy_base.specs.declared.limits.TheConstants.{MAX_DEPTH}
use Rattle.bc_machine.specs.mpy_tree.File.{IsCode}
use Rattle.bc_rows.proofs.Numbering.{all_rows}
use Rattle.bc_rows.proofs.Preludes.{entry_there}
use Rattle.bc_rows.proofs.codes.rows_of.Goals as goal

pub unreachable-requires : goal.unreachable-requires
unreachable-requires c =
    let is = c.module_law.ensures in
    let some = is.1.some_qstrs in
    let wrong : false ≡ true = c.in_default.ensures.some.1 (entry_there c.args.library.now c.args.number c.args.raw.now 0 c.requires (omega (arith, some))) in
    cc

pub add_code-requires-clause-is : goal.add_code-requires-clause-is
add_code-requires-clause-is c =
    let is = c.module_law.ensures in
    (c.args.raw.now, c.requires, is.1.code, subst (IsCode MAX_DEPTH (length c.args.raw.now.qstrs) is.1.code) (sym c.code.ensures) is.1.is_code)

pub returns-clause-rows : goal.returns-clause-rows
returns-clause-rows c =
    all_rows c.args.library.now c.args.number c.args.raw.now c.code.result.now c.new-rows.result.items c.add_code.new.rows.items
    c.new-rows.ensures.items c.code.ensures (c.in_ok-add_code.ensures [])
