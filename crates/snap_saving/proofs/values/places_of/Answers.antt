use Rattle.std.proofs.Common.{◌≡◌, ◌<◌, ◌+◌, List, ℕ, ap, sym, subst, arith}
use Rattle.mpy_base.specs.Weights.{used}
use Rattle.snap_saving.specs.Steps.{ArePlaces}
use Rattle.snap_saving.proofs.Places.{AreFound, found_all, found_more, found_none}
use Rattle.snap_saving.proofs.values.places_of.Goals as goal

pub count_at-count-requires : goal.count_at-count-requires
count_at-count-requires c = omega (arith, c.loop-cell-test.true, c.used-used.ensures.cells)

pub loop-cell-init : goal.loop-cell-init
loop-cell-init c = record { few = omega arith; found = subst (λ (ps : List ℕ). AreFound c.args.arena.now ps 0 0) (sym c.new-places.ensures.items) (found_none c.args.arena.now) }

pub loop-cell-preserved : goal.loop-cell-preserved
loop-cell-preserved c =
    let lt : c.loop-cell.cell < used c.args.arena.now = omega (arith, c.loop-cell-test.true, c.used-used.ensures.cells) in
    let more = found_more c.args.arena.now c.loop-cell.places.items c.loop-cell.cell c.loop-cell.count (c.loop-cell.count + c.count_at-count.result) lt c.loop-cell.invariant.found (ap (λ (n : ℕ). c.loop-cell.count + n) c.count_at-count.ensures.is) in
    record { few = omega arith; found = subst (λ (ps : List ℕ). AreFound c.args.arena.now ps (c.loop-cell.cell + 1) (c.loop-cell.count + c.count_at-count.result)) (sym c.in_ok-push.ensures.items) more }

pub returns : goal.returns
returns c =
    let end : c.loop-cell.cell ≡ used c.args.arena.now = omega (arith, c.loop-cell-test.false, c.used-used.ensures.cells) in
    subst (ArePlaces c.args.arena.now) (sym c.in_ok-push-2.ensures.items)
    (found_all c.args.arena.now c.loop-cell.places.items c.loop-cell.count (subst (λ (n : ℕ). AreFound c.args.arena.now c.loop-cell.places.items n c.loop-cell.count) end c.loop-cell.invariant.found))
