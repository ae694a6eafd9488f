use Rattle.std.proofs.Common.{ap, sym, ◌∙◌, ◌&&◌, arith}
use Rattle.bc_shapes.proofs.Loops.{fits_rest, fits_few, after_values, first_false}
use Rattle.bc_shapes.proofs.slots.fits.Goals as goal

pub returns-then-slots-values : goal.returns-then-slots-values
returns-then-slots-values c = sym (fits_few c.args.takes.values c.args.takes.others.now c.args.slots.now (omega arith))

pub returns-then-are_values : goal.returns-then-are_values
returns-then-are_values c = after_values c.args.takes.values c.args.takes.others.now c.args.slots.now c.are_values.result c.fit.result c.fit.result c.if-slots-values.false c.are_values.ensures (c.fit.ensures ∙ fits_rest c.args.takes.values c.args.takes.others.now c.args.slots.now) (ap (λ b. b && c.fit.result) (sym c.if-are_values.true))

pub returns-else-are_values : goal.returns-else-are_values
returns-else-are_values c = first_false c.args.takes.values c.args.takes.others.now c.args.slots.now c.are_values.result c.if-slots-values.false c.are_values.ensures c.if-are_values.false
