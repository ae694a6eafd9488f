use Rattle.std.proofs.Common.{sym, ◌∙◌}
use Rattle.std.specs.Prelude.{bytes_eq}
use Rattle.prim_calls.specs.Binding.{name_text}
use Rattle.prim_calls.proofs.KeywordSlots.{found_here, found_nowhere}
use Rattle.prim_calls.proofs.keywords.place_of.Goals as goal

pub returns-then-is_named-clause-place : goal.returns-then-is_named-clause-place
returns-then-is_named-clause-place g c =
    found_here (bytes_eq c.args.name.now) (name_text (g.C.Constants.text_of c.args.consts.now)) c.args.params.now c.loop-at.at c.loop-at.invariant _ c.loop-at-test.true (sym c.is_named.ensures ∙ c.if-is_named.true)

pub returns-clause-place : goal.returns-clause-place
returns-clause-place g c =
    found_nowhere (bytes_eq c.args.name.now) (name_text (g.C.Constants.text_of c.args.consts.now)) c.args.params.now c.loop-at.at c.loop-at.invariant c.loop-at-test.false
