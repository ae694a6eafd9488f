use Rattle.std.proofs.Common.{sym, ◌∙◌}
use Rattle.prim_walks.proofs.FoundPairs.{told_pair}
use Rattle.prim_walks.proofs.pairs.pair_at.Goals as goal

pub returns-clause-key_told : goal.returns-clause-key_told
returns-clause-key_told g c =
    let texts = g.C.Constants.text_of c.args.consts.now in
    let tuples = g.C.Constants.items_of c.args.consts.now in
    (told_pair texts tuples c.args.arena.now c.args.d.cell c.requires.dict c.requires.all_told c.args.at c.unwrap.result (sym c.dict_at.ensures.pair ∙ c.unwrap.ensures)).0

pub returns-clause-told : goal.returns-clause-told
returns-clause-told g c =
    let texts = g.C.Constants.text_of c.args.consts.now in
    let tuples = g.C.Constants.items_of c.args.consts.now in
    (told_pair texts tuples c.args.arena.now c.args.d.cell c.requires.dict c.requires.all_told c.args.at c.unwrap.result (sym c.dict_at.ensures.pair ∙ c.unwrap.ensures)).1
