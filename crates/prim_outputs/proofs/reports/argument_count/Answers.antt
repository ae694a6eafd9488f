use Rattle.prim_builtins.proofs.prim_walks_lemmas.LeafTexts.{items_looked}
use Rattle.prim_outputs.proofs.ReportTexts.{no_count}
use Rattle.prim_outputs.proofs.reports.argument_count.Goals as goal

pub returns-in_default : goal.returns-in_default
returns-in_default g c =
    let texts = g.C.Constants.text_of c.args.consts.now in
    let tuples = g.C.Constants.items_of c.args.consts.now in
    let h = c.args.arena.now in
    record {
      count = no_count texts tuples h c.args.args c.look_at.result c.in_default.not-Tuple c.requires.tuple c.requires.leads c.look_at.ensures.shown;
      items = items_looked texts tuples h c.args.args c.look_at.result c.requires.tuple c.requires.leads c.look_at.ensures.shown;
    }
