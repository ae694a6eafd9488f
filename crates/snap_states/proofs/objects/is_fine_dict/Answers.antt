use Rattle.snap_states.proofs.Filling.{dict_moved, keys_there}
use Rattle.snap_states.proofs.objects.is_fine_dict.Goals as goal

pub are_once-requires : goal.are_once-requires
are_once-requires c =
    keys_there c.args.known.now.library.now c.args.known.now.snapshot.now c.args.pairs.now (c.are_fine_pairs.ensures.0 c.if-not-are_fine_pairs.false)

pub returns : goal.returns
returns c =
    dict_moved c.args.known.now.library.now c.args.known.now.snapshot.now c.args.number c.args.room c.args.pairs.now c.are_once.result
    (c.has_items.ensures.0 c.if-not-has_items.false) (c.are_fine_pairs.ensures.0 c.if-not-are_fine_pairs.false) (c.have_names_if_owned.ensures.0 c.if-not-have_names_if_owned.false) c.are_once.ensures
