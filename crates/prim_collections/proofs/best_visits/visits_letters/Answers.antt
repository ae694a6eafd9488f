use Rattle.std.proofs.Common.{◌∙◌, arith}
use Rattle.prim_builtins.specs.prim_walks.Plain.{plain_heap}
use Rattle.prim_collections.specs.Best.{plain_extreme}
use Rattle.prim_collections.proofs.BestOutcomes.{str_is, letters_searched}
use Rattle.prim_collections.proofs.MadeTuples.{str_count}
use Rattle.prim_collections.proofs.best_visits.visits_letters.Goals as goal

pub returns : goal.returns
returns g c =
    let texts = g.C.Constants.text_of c.args.consts.now in
    let tuples = g.C.Constants.items_of c.args.consts.now in
    let h = c.args.arena.now in
    let heap = plain_heap texts tuples h in
    let sign = plain_extreme c.args._extreme in
    let v = c.args.s in
    let all = letters_searched texts tuples h sign v c.requires.leads (str_is v c.requires.str) in
    let count = c.kept_count-count.ensures ∙ str_count texts tuples h v c.requires.str in
    omega (arith, all, count, c.saturating_sub.ensures, c.min.ensures)
