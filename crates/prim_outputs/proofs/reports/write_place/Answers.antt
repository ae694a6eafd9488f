use Rattle.std.proofs.Common.{refl, ap}
use Rattle.std.specs.Prelude.{codes}
use Rattle.std.specs.Fmt.{decimal}
use Rattle.prim_builtins.proofs.prim_walks_lemmas.PenSteps.{wrote_then, wrote_as, ascii_by}
use Rattle.prim_outputs.proofs.reports.write_place.Goals as goal

pub write-requires : goal.write-requires
write-requires g c = record { ascii = ascii_by (codes "Traceback (most recent call last):\n  File \"") refl }

pub returns : goal.returns
returns g c =
    let file = wrote_then c.write.ensures (wrote_as c.write-2.ensures c.name_bytes.ensures.bytes) in
    let line = wrote_then (wrote_then file c.write-3.ensures) (wrote_as c.write_number.ensures (ap decimal c.from.ensures)) in
    let name = wrote_then (wrote_then line c.write-4.ensures) (wrote_as c.write-5.ensures c.name_bytes-2.ensures.bytes) in
    wrote_then name c.write-6.ensures
