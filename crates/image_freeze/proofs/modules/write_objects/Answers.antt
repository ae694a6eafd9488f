use Rattle.std.proofs.Common.{◌++◌, ℕ, length, ap, ◌∙◌, arith}
use Rattle.std.specs.List.{flat_map}
use Rattle.mpy_base.specs.declared.limits.TheConstants.{MAX_DEPTH}
use Rattle.mpy_base.specs.Vuint.{vuint}
use Rattle.mpy_writer.specs.mpy_tree.Canonical.{object_bytes}
use Rattle.image_freeze.proofs.Exits.{on_ok_more}
use Rattle.image_freeze.proofs.Parts.{two}
use Rattle.image_freeze.proofs.modules.write_objects.Goals as goal

pub returns : goal.returns
returns c =
    let out = c.args.out.now.items in
    on_ok_more _ _ c.write_constants.result c.write_constants.ensures (λ e. two out (vuint (length c.args.objects.now)) (flat_map (object_bytes MAX_DEPTH) c.args.objects.now) c.write_vuint.new.out.items c.write_constants.new.out.items c.in_ok-write_vuint.ensures.ok e)
