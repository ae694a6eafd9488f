use Rattle.mpy_base.specs.World.{object}
use Rattle.prim_builtins.proofs.prim_walks_lemmas.LeafTexts.{args_told}
use Rattle.prim_builtins.proofs.prim_walks_lemmas.PenSteps.{wrote_then, wrote_as}
use Rattle.prim_outputs.proofs.ReportTexts.{report_is}
use Rattle.prim_outputs.proofs.reports.write_report.Goals as goal

pub write_arguments-requires-clause-told : goal.write_arguments-requires-clause-told
write_arguments-requires-clause-told g c =
    let p = c.exc_parts-kind.result in
    args_told (g.C.Constants.text_of c.args.consts.now) (g.C.Constants.items_of c.args.consts.now) c.args.arena.now (object c.args.arena.now.objects c.args.x.cell) p.0 p.1 p.2 p.3 p.4 c.exc_parts-kind.ensures.parts
    (c.requires.all_told.told c.args.x.cell)

pub returns : goal.returns
returns g c =
    let p = c.exc_parts-kind.result in
    wrote_as (wrote_then (wrote_then (wrote_then (wrote_then c.write_place.ensures c.write_kind.ensures) c.write.ensures) c.write_arguments.ensures) c.write-2.ensures)
    (report_is (g.C.Constants.text_of c.args.consts.now) (g.C.Constants.items_of c.args.consts.now) c.args.arena.now c.args.x.cell p.0 p.1 p.2 p.3 p.4 c.exc_parts-kind.ensures.parts)
