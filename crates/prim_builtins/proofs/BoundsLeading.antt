-- The arguments of a range lead to objects.
use Rattle.std.proofs.Common.{◌≡◌, ℕ, List, Option, sym, subst, arith}
use Rattle.std.specs.List.{All}
use Rattle.prim_operators.specs.arena_heap.declared.value.Value.{Value}
use Rattle.prim_operators.specs.arena_heap.declared.value.StrNo.{StrNo}
use Rattle.prim_operators.specs.arena_heap.declared.value.ConstNo.{ConstNo}
use Rattle.prim_operators.specs.mpy_base.World.{Objects}
use Rattle.prim_operators.specs.prim_faults.Faults.{IsKnown}
use Rattle.prim_builtins.specs.declared.ranges.Bounds.{Bounds}
use Rattle.prim_builtins.specs.declared.ranges.Bounds.TheVariants as bounds
use Rattle.prim_builtins.specs.Bounds.{given_by, BoundsLead}

module _ (texts : StrNo → Option (List ℕ)) (tuples : ConstNo → Option (List Value)) (objects : Objects Value ℕ) where
  lead : (b : Bounds) → All (IsKnown texts tuples objects) (given_by b) → BoundsLead objects b
  lead (bounds.Stop stop) known = (known 0 stop (omega arith)).leads
  lead (bounds.StartStop start stop) known = ((known 0 start (omega arith)).leads, (known 1 start (omega arith)).leads)
  lead (bounds.StartStopStep start stop step) known =
      ((known 0 start (omega arith)).leads, (known 1 start (omega arith)).leads, (known 2 start (omega arith)).leads)

  pub bounds_lead : (b : Bounds) (args : List Value) → given_by b ≡ args → All (IsKnown texts tuples objects) args → BoundsLead objects b
  bounds_lead b args e known = lead b (subst (All (IsKnown texts tuples objects)) (sym e) known)
