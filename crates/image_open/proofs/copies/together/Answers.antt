use Rattle.std.proofs.Common.{◌∙◌}
use Rattle.image_open.proofs.Behind.{all_differ, all_few, all_fit, all_plain, shelf_is}
use Rattle.image_open.proofs.copies.together.Goals as goal

pub shelve-requires-clause-differ : goal.shelve-requires-clause-differ
shelve-requires-clause-differ c = all_differ c.args.below.now c.in_ok-all.all.items c.args.entries c.from_vec.result c.in_ok-all.ensures.same (c.from_vec.ensures ∙ c.in_ok-append.ensures) c.modules_law.ensures.distinct c.requires.differ

pub shelve-requires-clause-few : goal.shelve-requires-clause-few
shelve-requires-clause-few c = all_few c.args.below.now c.in_ok-all.all.items c.args.entries c.from_vec.result c.in_ok-all.ensures.same (c.from_vec.ensures ∙ c.in_ok-append.ensures) c.requires.few

pub shelve-requires-clause-fit : goal.shelve-requires-clause-fit
shelve-requires-clause-fit c = all_fit c.args.below.now c.in_ok-all.all.items c.args.entries c.from_vec.result c.in_ok-all.ensures.same (c.from_vec.ensures ∙ c.in_ok-append.ensures) c.requires.opened c.requires.fit

pub shelve-requires-clause-plain : goal.shelve-requires-clause-plain
shelve-requires-clause-plain c = all_plain c.args.below.now c.in_ok-all.all.items c.args.entries c.from_vec.result c.in_ok-all.ensures.same (c.from_vec.ensures ∙ c.in_ok-append.ensures) c.in_ok-all.ensures.plain c.requires.plain

pub returns : goal.returns
returns c =
    c.in_ok-shelve.ensures ∙ shelf_is c.args.below.now c.in_ok-all.all.items c.args.entries c.from_vec.result c.in_ok-all.ensures.same (c.from_vec.ensures ∙ c.in_ok-append.ensures) c.requires.opened
