use Rattle.std.proofs.Common.{arith}
use Rattle.bc_prelude.proofs.Cursors.{place_behind}
use Rattle.bc_prelude.proofs.cursor.Place.advance.Goals as goal

pub loop-entry-preserved : goal.loop-entry-preserved
loop-entry-preserved c =
    let e = c.in-Some.ensures in
    let entry = c.in-Some.entry in
    record {
      place = place_behind c.args.table.now c.loop-entry.place entry.bytes entry.lines entry.len c.loop-entry.invariant.place e.0 e.1 e.2 e.3;
      ahead = omega (arith, c.loop-entry.invariant.ahead, c.if-offset-place.false);
    }
