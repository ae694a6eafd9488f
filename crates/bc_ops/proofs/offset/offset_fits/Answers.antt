use Rattle.std.proofs.Common.{arith}
use Rattle.std.proofs.lemmas.Int.{ints}
use Rattle.bc_ops.proofs.Offsets.{bias_bound, limit_bound}
use Rattle.bc_ops.proofs.offset.offset_fits.Goals as goal

pub returns-then-bias-offset : goal.returns-then-bias-offset
returns-then-bias-offset c = (
  λ below. record {
    least = omega (arith, ints, bias_bound c.args.signed c.args.wide);
    below = omega (arith, ints, bias_bound c.args.signed c.args.wide, limit_bound c.args.wide, below);
  },
  λ fits. grind (arith, ints, bias_bound c.args.signed c.args.wide, limit_bound c.args.wide, fits.below),
)
