use Rattle.std.proofs.Common.{◌≡◌, ◌+◌, ◌≤◌, ◌<◌, ◌-◌, ◌∙◌, ap, sym, subst, length, None, arith, rules}
use Rattle.std.specs.Prelude.{◌||◌}
use Rattle.std.proofs.lemmas.List.{length-set}
use Rattle.bc_shapes.specs.Joins.{JoinsAt}
use Rattle.bc_shapes.specs.Shape.{join, join_kind}
use Rattle.bc_shapes.specs.Views.{slots_of_rust}
use Rattle.bc_shapes.proofs.InPlace.{slot, run_more, partly_more, partly_none, le_cases, if_none_from}
use Rattle.bc_shapes.proofs.Spans.{same_step}
use Rattle.bc_shapes.proofs.joining.join_each_found.Goals as goal

pub returns-in_err-closed-clause-none : goal.returns-in_err-closed-clause-none
returns-in_err-closed-clause-none c ks b p =
    let ls = slots_of_rust c.args.arriving in
    let ms = c.loop-i.slots.items in
    let lt : c.loop-i.i < length ks = omega (arith, c.loop-i-test.true, c.requires.within, p.long) in
    if_none_from c.from_residual.result (join ks ls ≡ None)
    (partly_none ks ls ms (λ k. c.loop-i.i ≤ k) c.loop-i.i (b || c.loop-i.changed) (sym p.long ∙ c.requires.long) lt (c.loop-i.invariant.each ks b p)
    (ap (join_kind (slot ms c.loop-i.i)) (sym c.found_at.ensures) ∙ c.in_err-closed.ensures.none))

pub loop-i-preserved : goal.loop-i-preserved
loop-i-preserved c =
    let ls = slots_of_rust c.args.arriving in
    let ms = c.loop-i.slots.items in
    let ns = c.join_slot.new.slots.items in
    let i = c.loop-i.i in
    let at = subst (λ z. JoinsAt ms i z ns c.in_ok-closed.closed) c.found_at.ensures c.in_ok-closed.ensures.some in
    record {
      each = λ ks b p. let lt : i < length ks = omega (arith, c.loop-i-test.true, c.requires.within, p.long) in
          run_more ks ls ns (λ k. i + 1 ≤ k) b c.loop-i.changed c.in_ok-closed.closed c.either-changed.result c.either-changed.ensures
          (partly_more ks ls ms ns (λ k. i ≤ k) (λ k. i + 1 ≤ k) i (b || c.loop-i.changed) c.in_ok-closed.closed (λ k le. le_cases i k le) lt (c.loop-i.invariant.each ks b p) at);
      long = ap length at.others ∙ length-set ms i (slot ns i) ∙ c.loop-i.invariant.long;
      same = λ ks h. let lt : i < length ms = omega (arith, c.loop-i-test.true, c.requires.within, c.loop-i.invariant.long) in
          let size : c.len.result ≡ length ms = search rules in
          same_step c.loop-i.span c.note.new.span ks ms ns i (c.len.result - 1 - i) _ c.in_ok-closed.closed lt (ap (λ z. z - 1 - i) size) c.note.ensures.old c.note.ensures.new at (c.loop-i.invariant.same ks h);
    }
