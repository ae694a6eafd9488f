use Rattle.std.proofs.Common.{◌≡◌, ◌<◌, ◌+◌, ◌++◌, length, None, Err, arith}
use Rattle.std.proofs.lemmas.Option.{slice_get-get_or}
use Rattle.std.proofs.lemmas.Result.{err_from_is_err_and}
use Rattle.mpy_base.specs.World.{object}
use Rattle.snap_saving.specs.Saved.{IsLong}
use Rattle.snap_saving.specs.Steps.{found, object_bytes}
use Rattle.snap_saving.proofs.Adding.{ended, exit, part_long, stepped, too_long}
use Rattle.snap_saving.proofs.objects.put_objects.Goals as goal

pub put_cell-requires : goal.put_cell-requires
put_cell-requires c = omega (arith, c.loop-cell-test.true, c.used-used.ensures.cells)

pub returns-in_err-put_cell-clause-fault : goal.returns-in_err-put_cell-clause-fault
returns-in_err-put_cell-clause-fault c =
    let xs = c.args.arena.now.objects in
    let lt : c.loop-cell.cell < length xs = omega (arith, c.loop-cell-test.true, c.used-used.ensures.cells) in
    let p = err_from_is_err_and c.from_residual.result c.from_residual.ensures.1 in
    let same : c.from_residual.result ≡ Err c.in_err-put_cell.field-0.0 = cc (p.1, p.2) in
    exit (IsLong (c.loop-cell.out.items ++ object_bytes c.args.library.now (found c.args.places.now) (object xs c.loop-cell.cell))) _ c.from_residual.result c.in_err-put_cell.field-0.0 same c.in_err-put_cell.ensures.fault
    (part_long (object_bytes c.args.library.now (found c.args.places.now)) xs c.loop-cell.cell (object xs c.loop-cell.cell) c.loop-cell.out.items _ (slice_get-get_or xs c.loop-cell.cell None lt) c.loop-cell.invariant)

pub returns-then-is_long-clause-fault : goal.returns-then-is_long-clause-fault
returns-then-is_long-clause-fault c =
    let f = object_bytes c.args.library.now (found c.args.places.now) in
    let xs = c.args.arena.now.objects in
    let lt : c.loop-cell.cell < length xs = omega (arith, c.loop-cell-test.true, c.used-used.ensures.cells) in
    let next = stepped f xs c.loop-cell.cell (object xs c.loop-cell.cell) c.loop-cell.out.items c.put_cell.new.out.items _ (slice_get-get_or xs c.loop-cell.cell None lt) c.in_ok-put_cell.ensures.ok c.loop-cell.invariant in
    too_long f xs (c.loop-cell.cell + 1) c.put_cell.new.out.items _ next c.if-is_long.ensures.yes

pub loop-cell-preserved : goal.loop-cell-preserved
loop-cell-preserved c =
    let xs = c.args.arena.now.objects in
    let lt : c.loop-cell.cell < length xs = omega (arith, c.loop-cell-test.true, c.used-used.ensures.cells) in
    stepped (object_bytes c.args.library.now (found c.args.places.now)) xs c.loop-cell.cell (object xs c.loop-cell.cell) c.loop-cell.out.items c.put_cell.new.out.items _ (slice_get-get_or xs c.loop-cell.cell None lt) c.in_ok-put_cell.ensures.ok c.loop-cell.invariant

pub returns-clause-ok : goal.returns-clause-ok
returns-clause-ok c =
    ended (object_bytes c.args.library.now (found c.args.places.now)) c.args.arena.now.objects c.loop-cell.cell c.loop-cell.out.items _ (omega (arith, c.loop-cell-test.false, c.used-used.ensures.cells)) c.loop-cell.invariant
