use Rattle.std.proofs.Common.{◌≤◌, ℕ, List, All, length, sym, subst}
use Rattle.mpy_base.specs.declared.limits.TheConstants.{MAX_DEPTH, MAX_TABLE}
use Rattle.mpy_writer.specs.mpy_tree.declared.module.Constant.{Constant}
use Rattle.mpy_writer.specs.mpy_tree.declared.raw.RawCode.{RawCode}
use Rattle.mpy_writer.specs.mpy_tree.File.{IsCode}
use Rattle.mpy_writer.specs.Writable.{IsFine}
use Rattle.image_freeze.proofs.Exits.{on_ok_more}
use Rattle.image_freeze.proofs.Parts.{body_written}
use Rattle.image_freeze.proofs.modules.write_body.Goals as goal

pub write_objects-requires-clause-few : goal.write_objects-requires-clause-few
write_objects-requires-clause-few c = subst (λ (z : List Constant). length z ≤ MAX_TABLE) (sym c.objects.ensures) c.requires.read.1.few_objects

pub write_objects-requires-clause-fine : goal.write_objects-requires-clause-fine
write_objects-requires-clause-fine c = subst (All (IsFine MAX_DEPTH)) (sym c.objects.ensures) c.requires.fine

pub write_tree-requires : goal.write_tree-requires
write_tree-requires c =
    let m = c.args.raw.now in
    (length m.qstrs, c.requires.read.1.code, subst (λ (z : RawCode). IsCode MAX_DEPTH (length m.qstrs) c.requires.read.1.code z) (sym c.code.ensures) c.requires.read.1.is_code)

pub returns : goal.returns
returns c =
    on_ok_more _ _ c.write_tree.result c.write_tree.ensures
    (λ e. body_written c.args.raw.now c.args.out.now.items c.write_objects.new.out.items c.write_tree.new.out.items c.objects.result.now c.code.result.now c.objects.ensures c.code.ensures c.in_ok-write_objects.ensures e)
