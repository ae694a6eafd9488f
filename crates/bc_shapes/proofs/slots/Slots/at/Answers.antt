use Rattle.std.proofs.Common.{◌∙◌, ◌+◌, ◌-◌, ◌<◌, length, sym, arith}
use Rattle.bc_shapes.specs.declared.kinds.Kind.TheVariants.{Either}
use Rattle.bc_shapes.proofs.Loops.{slot_value, slot_other, slot_found, slots_size}
use Rattle.bc_shapes.proofs.slots.Slots.at.Goals as goal

pub returns-then-i-values : goal.returns-then-i-values
returns-then-i-values c = sym (slot_value c.args.self.gives.values c.args.i c.args.self.gives.others.now c.args.self.taken c.args.self.found.now Either c.if-i-values.true)

pub returns-then-i-values-2 : goal.returns-then-i-values-2
returns-then-i-values-2 c = c.give_of.ensures ∙ slot_other c.args.self.gives.values c.args.i c.args.self.gives.others.now c.args.self.taken c.args.self.found.now _ Either c.if-i-values.false c.if-i-values-2.true

pub returns-else-i-values-2 : goal.returns-else-i-values-2
returns-else-i-values-2 c =
    let size = slots_size c.args.self.gives.values c.args.self.gives.others.now c.args.self.taken c.args.self.found.now in
    let within : c.args.self.taken + (c.args.i - c.args.self.gives.values - length c.args.self.gives.others.now) < length c.args.self.found.now = omega (arith, size, c.requires, c.if-i-values.false, c.if-i-values-2.false) in
    slot_found c.args.self.gives.values c.args.i c.args.self.gives.others.now c.args.self.taken c.args.self.found.now Either _ c.if-i-values.false c.if-i-values-2.false within
