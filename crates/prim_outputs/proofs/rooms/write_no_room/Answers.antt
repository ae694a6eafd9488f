use Rattle.std.proofs.Common.{ap}
use Rattle.std.specs.Fmt.{decimal}
use Rattle.prim_builtins.proofs.prim_walks_lemmas.PenSteps.{wrote_then, wrote_as}
use Rattle.prim_outputs.proofs.rooms.write_no_room.Goals as goal

pub returns : goal.returns
returns g c =
    let asked = wrote_then c.write.ensures c.write_number.ensures in
    let used = wrote_then (wrote_then asked c.write-2.ensures) (wrote_as c.write_number-2.ensures (ap decimal c.from.ensures)) in
    let size = wrote_then (wrote_then used c.write-3.ensures) (wrote_as c.write_number-3.ensures (ap decimal c.from-2.ensures)) in
    wrote_then size (wrote_as c.write-4.ensures c.unit_text.ensures.text)
