use Rattle.std.proofs.Common.{◌≡◌, ◌++◌, map, take, replicate}
use Rattle.bc_shapes.specs.declared.kinds.Kind.TheVariants as kinds
use Rattle.bc_shapes.specs.Shape.{give_of}
use Rattle.bc_shapes.proofs.slots.Slots.write.Given as goal

abbrev pub invariant-loop-i : goal.invariant-loop-i
invariant-loop-i l = l.list.items ≡ replicate l._i kinds.Value

abbrev pub invariant-loop-give : goal.invariant-loop-give
invariant-loop-give l = l.list.items ≡ replicate l.self.gives.values kinds.Value ++ map (give_of l.self.found.now) (take l.give-index l.self.gives.others.now)
