use Rattle.std.proofs.Common.{sym, ap, ◌∙◌, to_z-of_z}
use Rattle.py_values.specs.Power.{power}
use Rattle.py_values.proofs.Powers.{power_none, odd_power, even_power, unit_square}
use Rattle.py_values.proofs.power.repeating_power.Goals as goal

pub returns-then-exponent-eq0 : goal.returns-then-exponent-eq0
returns-then-exponent-eq0 c = sym (ap (power c.args.base) c.if-exponent-eq0.true ∙ power_none c.args.base)

pub returns-then-exponent-eq0-2 : goal.returns-then-exponent-eq0-2
returns-then-exponent-eq0-2 c =
    unit_square c.args.base c.requires ∙ sym (even_power c.args.base c.args.exponent c.requires c.if-exponent-eq0.false c.if-exponent-eq0-2.true)

pub returns-else-exponent-eq0-2 : goal.returns-else-exponent-eq0-2
returns-else-exponent-eq0-2 c =
    to_z-of_z c.ranges.base ∙ sym (odd_power c.args.base c.args.exponent c.requires c.if-exponent-eq0-2.false)
