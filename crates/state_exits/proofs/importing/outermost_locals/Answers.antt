use Rattle.std.proofs.Common.{◌≡◌, true, false, Option, refl, subst, arith}
use Rattle.std.specs.Prelude.{IsSome}
use Rattle.vm_states.specs.mpy_tree.Codes.{Placed}
use Rattle.state_exits.proofs.importing.outermost_locals.Goals as goal

pub unreachable-requires : goal.unreachable-requires
unreachable-requires c =
    let wrong : false ≡ true = subst (λ (o : Option Placed). IsSome o) c.in_default.ensures.none c.requires.there in
    absurd cc

pub overflow_cast-result : goal.overflow_cast-result
overflow_cast-result c = let h = c.requires.short c.in-Some.row.now c.in-Some.ensures.is in omega (arith, h)

pub returns : goal.returns
returns c = (c.in-Some.row.now, c.in-Some.ensures.is, refl)
