use Rattle.std.specs.Prelude.{Option, Some, None, IsSome, OnSome}
use Rattle.vm_at_once.proofs.Indexing.{set_outcome}
use Rattle.vm_at_once.proofs.items.put_item.Goals as goal

on_some : (o : Option (Unit {0})) (P : Type 0) → IsSome o → OnSome o P → P
on_some (Some u) P is holds = holds
on_some None P is holds = absurd cc

pub returns : goal.returns
returns g c number place =
    let texts = g.C.Constants.text_of c.args._consts.now in
    let tuples = g.C.Constants.items_of c.args._consts.now in
    set_outcome texts tuples c.args.arena.now c.args.l c.requires.list c.list_set-set.new.arena c.args.at c.args.v c.requires.within c.requires.all_told c.requires.told c.list_set-set.ensures.later
    (on_some c.list_set-set.result _ (c.list_set-set.ensures.some.1 c.requires.within) c.list_set-set.ensures.set) number place
