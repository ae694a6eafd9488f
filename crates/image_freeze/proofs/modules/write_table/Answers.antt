use Rattle.std.proofs.Common.{◌++◌, ℕ, length, ap, ◌∙◌, arith}
use Rattle.std.specs.List.{flat_map}
use Rattle.mpy_base.specs.Vuint.{vuint}
use Rattle.image_freeze.specs.Frozen.{number_bytes}
use Rattle.image_freeze.proofs.Exits.{on_ok_more}
use Rattle.image_freeze.proofs.Parts.{two}
use Rattle.image_freeze.proofs.modules.write_table.Goals as goal

pub returns : goal.returns
returns c =
    let out = c.args.out.now.items in
    on_ok_more _ _ c.write_numbers.result c.write_numbers.ensures (λ e. two out (vuint (length c.args.qstrs.now)) (flat_map (number_bytes c.args.pool.now) c.args.qstrs.now) c.write_vuint.new.out.items c.write_numbers.new.out.items c.in_ok-write_vuint.ensures.ok e)
