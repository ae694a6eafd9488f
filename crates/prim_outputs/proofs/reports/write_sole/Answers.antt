use Rattle.std.proofs.Common.{sym}
use Rattle.prim_builtins.proofs.prim_walks_lemmas.PenSteps.{wrote_as}
use Rattle.prim_outputs.proofs.ReportTexts.{other_text}
use Rattle.prim_outputs.proofs.reports.write_sole.Goals as goal

pub returns-in_default : goal.returns-in_default
returns-in_default g c =
    let d = c.in_default in
    wrote_as c.write-in_default.ensures (sym (other_text (g.C.Constants.text_of c.args.consts.now) (g.C.Constants.items_of c.args.consts.now) c.args.arena.now c.args.v d.not-None d.not-Bool d.not-Int d.not-Str d.not-Text c.requires.leads))
