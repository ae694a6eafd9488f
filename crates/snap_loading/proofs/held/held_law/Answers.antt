use Rattle.std.proofs.Common.{arith}
use Rattle.snap_loading.proofs.held.held_law.Goals as goal

pub returns : goal.returns
returns c =
    let fits = c.room_law.ensures.fits in
    record {
      roomy = record { sound = c.sound_law.ensures; rooms = c.room_law.ensures.rooms; own_rooms = c.room_law.ensures.own_rooms };
      cells = let f = fits.cells_fit in omega (arith, f);
      bytes = let f = fits.bytes_fit in omega (arith, f);
    }
