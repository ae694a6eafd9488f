use Rattle.std.proofs.Common.{◌≡◌, ◌≤◌, ◌∙◌, refl, inl, None, arith, rules}
use Rattle.std.specs.Prelude.{◌||◌}
use Rattle.bc_shapes.specs.Shape.{join}
use Rattle.bc_shapes.specs.Views.{slots_of_rust}
use Rattle.bc_shapes.proofs.InPlace.{run_none, run_more, if_none_from}
use Rattle.bc_shapes.proofs.Spans.{partly_less}
use Rattle.bc_shapes.proofs.joining.join_runs.Goals as goal

pub loop-start-init : goal.loop-start-init
loop-start-init c = record {
  each = λ ks b p. run_none ks (slots_of_rust c.args.arriving) c.args.slots.now.items (λ k. c.args.from ≤ k) b p;
  long = refl;
  same = λ ks h. h;
  least = omega arith;
  most = c.requires.from;
}

pub loop-start-preserved : goal.loop-start-preserved
loop-start-preserved c =
    let ls = slots_of_rust c.args.arriving in
    let ns = c.join_found.new.slots.items in
    record {
      each = λ ks b p. run_more ks ls ns _ b c.loop-start.changed c.in_ok-closed.closed c.either-changed.result c.either-changed.ensures (c.in_ok-closed.ensures.some ks (b || c.loop-start.changed) (c.loop-start.invariant.each ks b p));
      long = c.in_ok-closed.ensures.len ∙ c.loop-start.invariant.long;
      same = λ ks h. c.in_ok-closed.ensures.same ks (c.loop-start.invariant.same ks h);
      least = search rules;
      most = search rules;
    }

pub returns-in_err-closed-clause-none : goal.returns-in_err-closed-clause-none
returns-in_err-closed-clause-none c ks b p =
    if_none_from c.from_residual.result (join ks (slots_of_rust c.args.arriving) ≡ None) (c.in_err-closed.ensures.none ks (b || c.loop-start.changed) (c.loop-start.invariant.each ks b p))

pub returns-clause-some : goal.returns-clause-some
returns-clause-some c ks b p =
    partly_less ks (slots_of_rust c.args.arriving) c.loop-start.slots.items (λ k. c.loop-start.start ≤ k) (λ k. c.args.to ≤ k) (b || c.loop-start.changed)
    (λ k lt h. inl (omega (arith, h, c.loop-start-test.false))) (c.loop-start.invariant.each ks b p)
