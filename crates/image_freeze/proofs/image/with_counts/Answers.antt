use Rattle.image_freeze.proofs.Parts.{two}
use Rattle.mpy_base.specs.Vuint.{vuint}
use Rattle.image_freeze.proofs.image.with_counts.Goals as goal

pub returns : goal.returns
returns c = two c.args.front.items (vuint c.args.texts) (vuint c.args.modules) c.write_vuint.new.out.items c.write_vuint-2.new.out.items c.in_ok-write_vuint.ensures.ok c.in_ok-write_vuint-2.ensures.ok
