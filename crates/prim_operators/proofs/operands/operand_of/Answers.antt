use Rattle.std.proofs.Common.{sym, subst}
use Rattle.prim_faults.specs.arena_heap.Values.{IsTuple}
use Rattle.prim_operators.proofs.ItemsShown.{fixed_shape}
use Rattle.prim_operators.proofs.operands.operand_of.Goals as goal

pub returns-in-Fixed : goal.returns-in-Fixed
returns-in-Fixed c = (subst IsTuple (sym c.in-Fixed.is) tt, λ texts tuples. fixed_shape texts tuples c.args._arena.now c.args.v _ c.in-Fixed.is)
