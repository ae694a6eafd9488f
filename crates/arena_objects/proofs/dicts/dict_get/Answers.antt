use Rattle.arena_objects.proofs.Tolds.{told_read}
use Rattle.arena_objects.proofs.dicts.dict_get.Goals as goal

pub returns-clause-told : goal.returns-clause-told
returns-clause-told g c =
    told_read (g.C.Constants.text_of c.args.consts.now) (g.C.Constants.items_of c.args.consts.now) c.args.arena.now c.args.d.cell c.requires.dict c.requires.all_told
    c.in_ok-place.place c.in_ok-v.field-0-0 c.in_ok-v.v c.in_ok-v.ensures.pair
