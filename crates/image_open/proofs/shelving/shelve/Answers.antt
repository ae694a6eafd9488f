use Rattle.std.proofs.Common.{◌≡◌, ◌∙◌, List, [], ◌∷◌, length, refl, sym, ap, arith}
use Rattle.std.specs.Vec.Iter.{into_iter_items}
use Rattle.image_grammar.specs.declared.entry.Entry.{Entry}
use Rattle.image_open.proofs.Shelves.{all_shelved, does_fit, has_room, is_new, next_shelved, plain_next}
use Rattle.image_open.proofs.shelving.shelve.Goals as goal

no_length : (xs : List Entry) → length xs ≡ 0 → xs ≡ []
no_length [] e = refl
no_length (x ∷ xs) e = absurd (omega (arith, e))

pub put-requires-clause-new : goal.put-requires-clause-new
put-requires-clause-new c =
    is_new c.args.entries (into_iter_items c.loop-entry.entry-iterator) (into_iter_items c.next.new.self) c.in-Some.entry c.loop-entry.lib c.requires.differ c.in-Some.ensures.steps.0 c.loop-entry.invariant.0

pub put-requires-clause-room : goal.put-requires-clause-room
put-requires-clause-room c =
    has_room c.args.entries (into_iter_items c.loop-entry.entry-iterator) (into_iter_items c.next.new.self) c.in-Some.entry c.loop-entry.lib c.requires.few c.in-Some.ensures.steps.0 c.loop-entry.invariant.0

pub put-requires-clause-fits : goal.put-requires-clause-fits
put-requires-clause-fits c =
    does_fit c.args.entries (into_iter_items c.loop-entry.entry-iterator) (into_iter_items c.next.new.self) c.in-Some.entry c.loop-entry.lib c.requires.fit c.in-Some.ensures.steps.0 c.loop-entry.invariant.0

pub put-requires-clause-plain : goal.put-requires-clause-plain
put-requires-clause-plain c =
    plain_next c.args.entries (into_iter_items c.loop-entry.entry-iterator) (into_iter_items c.next.new.self) c.in-Some.entry c.loop-entry.lib c.requires.plain c.in-Some.ensures.steps.0 c.loop-entry.invariant.0

pub loop-entry-preserved : goal.loop-entry-preserved
loop-entry-preserved c =
    let steps = c.in-Some.ensures.steps in
    let counted = ap length steps.0 in (
      next_shelved c.args.entries (into_iter_items c.loop-entry.entry-iterator) (into_iter_items c.next.new.self) c.in-Some.entry c.loop-entry.lib c.put.new.lib steps.0 c.in_ok-put.ensures c.loop-entry.invariant.0,
      omega (arith, counted, steps.1, c.loop-entry.invariant.1),
    )

pub returns : goal.returns
returns c =
    let none = no_length (into_iter_items c.loop-entry.entry-iterator) (sym c.loop-entry.invariant.1 ∙ c.in-None.ensures.steps.0) in
    all_shelved c.args.entries (into_iter_items c.loop-entry.entry-iterator) c.loop-entry.lib none c.loop-entry.invariant.0
