use Rattle.std.proofs.Common.{◌≡◌, true, false, sym, ap, ◌∙◌, reverse, rules}
use Rattle.std.specs.Prelude.{option_copied}
use Rattle.std.proofs.lemmas.Bool.{false≢true}
use Rattle.snap_states.proofs.Fronts.{method_taken, no_kind_below, no_value_below, no_look_up}
use Rattle.snap_states.proofs.slots.method_front.Goals as goal

pub returns-then-not-begins_with_value-clause-none : goal.returns-then-not-begins_with_value-clause-none
returns-then-not-begins_with_value-clause-none c = λ offsets.
    let no : c.begins_with_value.result ≡ false = search rules in
    no_kind_below c.args.known.now.library.now c.args.known.now.snapshot.now offsets c.args.part.now (reverse c.args.below.now) c.args.kinds.now (sym c.begins_with_value.ensures ∙ no)

pub returns-in-None-clause-none : goal.returns-in-None-clause-none
returns-in-None-clause-none c = λ offsets.
    no_value_below c.args.known.now.library.now c.args.known.now.snapshot.now offsets c.args.part.now (reverse c.args.below.now) c.args.kinds.now (sym c.top_value.ensures ∙ ap option_copied c.in-None.is)

pub returns-then-is_look_up-clause-some : goal.returns-then-is_look_up-clause-some
returns-then-is_look_up-clause-some c = λ offsets.
    let yes : c.begins_with_value.result ≡ true = search rules in
    method_taken c.args.known.now.library.now c.args.known.now.snapshot.now offsets c.args.part.now c.in-Some.v.now (reverse c.args.below.now) c.args.kinds.now (sym c.begins_with_value.ensures ∙ yes)
    (sym c.top_value.ensures ∙ ap option_copied c.in-Some.is) (c.is_look_up.ensures.0 c.if-is_look_up.true)

pub returns-else-is_look_up-clause-none : goal.returns-else-is_look_up-clause-none
returns-else-is_look_up-clause-none c = λ offsets.
    no_look_up c.args.known.now.library.now c.args.known.now.snapshot.now offsets c.args.part.now c.in-Some.v.now (reverse c.args.below.now) c.args.kinds.now
    (sym c.top_value.ensures ∙ ap option_copied c.in-Some.is) (λ l. false≢true (sym c.if-is_look_up.false ∙ c.is_look_up.ensures.1 l))
