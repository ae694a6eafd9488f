use Rattle.std.proofs.Common.{◌≡◌, pos, Ok, Err, w64, sym, ap, ◌∙◌, zero-add, get_or, arith, ℕ, List, length, ◌<◌, ◌≤◌}
use Rattle.std.proofs.lemmas.Int.{ints, to_z-of_z}
use Rattle.std.proofs.lemmas.List.Sorted.{searched}
use Rattle.bc_ops.specs.declared.listing.Target.TheVariants.{Position, Offset}
use Rattle.bc_ops.proofs.Parts.{in_order, missing, found}
use Rattle.bc_ops.proofs.parting.target.Goals as goal

pub returns-then-offset-lt0 : goal.returns-then-offset-lt0
returns-then-offset-lt0 c =
    ap Offset (to_z-of_z w64 c.args.offset c.ranges.offset) ∙ sym (missing c.args.starts.now 0 c.args.offset (λ i lt e. omega (arith, ints, e)))

pub returns-in-Ok : goal.returns-in-Ok
returns-in-Ok c =
    let s = searched c.args.starts.now _ (Ok c.in-Ok.position) c.in-Ok.ensures.position (in_order c.args.starts.now c.requires) in
    let there : c.args.offset ≡ pos (get_or c.args.starts.now c.in-Ok.position 0) = omega (arith, ints, s.1) in
    ap Position (sym (zero-add c.in-Ok.position)) ∙ sym (found c.args.starts.now 0 c.in-Ok.position c.args.offset c.requires s.0 there)

nowhere : (xs : List ℕ) (i at x : ℕ) → ((k : ℕ) → k < at → get_or xs k 0 < x) → ((k : ℕ) → at ≤ k → k < length xs → x < get_or xs k 0) → i < length xs → get_or xs i 0 ≡ x → ⊥
nowhere xs i at x below above lt e = grind (arith, below i, above i)

pub returns-in-Err : goal.returns-in-Err
returns-in-Err c =
    let s = searched c.args.starts.now _ (Err c.in-Err.field-0) c.in-Err.ensures.position (in_order c.args.starts.now c.requires) in
    ap Offset (to_z-of_z w64 c.args.offset c.ranges.offset)
    ∙ sym (missing c.args.starts.now 0 c.args.offset (λ i lt e. nowhere c.args.starts.now i c.in-Err.field-0 _ s.1 s.2 lt (omega (arith, ints, e))))
