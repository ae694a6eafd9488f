use Rattle.std.proofs.Common.{◌≡◌, ◌≤◌, ◌++◌, ℕ, List, length, sym, ap, subst, ◌∙◌}
use Rattle.mpy_base.specs.declared.limits.TheConstants.{MAX_TABLE}
use Rattle.mpy_writer.specs.mpy_tree.declared.raw.Qstr.{Qstr}
use Rattle.image_freeze.specs.Frozen.{text_number}
use Rattle.image_freeze.proofs.Exits.{on_ok_more}
use Rattle.image_freeze.proofs.Parts.{module_written}
use Rattle.image_freeze.proofs.modules.write_module.Goals as goal

pub write_table-requires-clause-few : goal.write_table-requires-clause-few
write_table-requires-clause-few c = subst (λ (z : List Qstr). length z ≤ MAX_TABLE) (sym c.qstrs.ensures) c.requires.read.1.few_qstrs

pub returns : goal.returns
returns c =
    let number = c.text_number.ensures.number ∙ ap (text_number c.args.pool.now) c.bytes.ensures in
    on_ok_more _ _ c.write_body.result c.write_body.ensures
    (λ e. module_written c.args.pool.now c.args.module.now c.args.out.now.items c.write_vuint.new.out.items c.write_table.new.out.items c.write_body.new.out.items c.text_number.result c.qstrs.result.now number c.qstrs.ensures c.in_ok-write_vuint.ensures.ok c.in_ok-write_table.ensures e)
