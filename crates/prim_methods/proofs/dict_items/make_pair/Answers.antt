use Rattle.prim_assignments.proofs.arena_heap_lemmas.Sounds.{leads_later}
use Rattle.prim_methods.proofs.PairMakings.{pair_filled}
use Rattle.prim_methods.proofs.dict_items.make_pair.Goals as goal

pub tuple_fill-requires-in-Ok-clause-leads : goal.tuple_fill-requires-in-Ok-clause-leads
tuple_fill-requires-in-Ok-clause-leads c = leads_later c.tuple_fill.ensures.later c.args.v (leads_later c.make_tuple.ensures.later c.args.v c.requires.leads)

pub returns-in-Ok-clause-made : goal.returns-in-Ok-clause-made
returns-in-Ok-clause-made c = pair_filled c.args.key c.args.v c.in-Ok.ensures.made c.tuple_fill.ensures.filled c.tuple_fill-in-Ok.ensures.filled
