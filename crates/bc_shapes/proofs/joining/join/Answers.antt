use Rattle.std.proofs.Common.{◌≡◌, ◌∙◌, sym, subst, length, None, false, rules}
use Rattle.bc_shapes.specs.Joins.{Joins}
use Rattle.bc_shapes.specs.Shape.{join}
use Rattle.bc_shapes.specs.Views.{slots_of_rust}
use Rattle.bc_shapes.proofs.InPlace.{partly_end, join_short, if_none_from}
use Rattle.bc_shapes.proofs.Spans.{begins, passes, ends, same_refl}
use Rattle.bc_shapes.proofs.joining.join.Goals as goal

pub returns-then-len-count-clause-none : goal.returns-then-len-count-clause-none
returns-then-len-count-clause-none c =
    let size : c.len.result ≡ length c.args.slots.now.items = search rules in
    join_short c.args.slots.now.items (slots_of_rust c.args.arriving) (λ e. c.if-len-count.true (size ∙ e ∙ sym c.len-count.ensures))

pub returns-in_err-changed-clause-none : goal.returns-in_err-changed-clause-none
returns-in_err-changed-clause-none c =
    let ks = c.args.slots.now.items in
    let ls = slots_of_rust c.args.arriving in
    let size : c.len-count.result ≡ length ks = search rules in
    let start = begins c.args.among ks ls c.places-places.result.from c.len-given.result c.len-count.result c.min.result size c.requires c.places-places.ensures.before c.min.ensures in
    if_none_from c.from_residual.result (join ks ls ≡ None) (c.in_err-changed.ensures.none ks false start)

pub returns-in_err-closed-clause-none : goal.returns-in_err-closed-clause-none
returns-in_err-closed-clause-none c =
    let ks = c.args.slots.now.items in
    let ls = slots_of_rust c.args.arriving in
    let size : c.len-count.result ≡ length ks = search rules in
    let start = begins c.args.among ks ls c.places-places.result.from c.len-given.result c.len-count.result c.min.result size c.requires c.places-places.ensures.before c.min.ensures in
    let middle = passes c.args.among ks ls c.join_run.new.slots.items c.places-places.result.from c.len-given.result c.len-count.result c.max-from.result c.in_ok-changed.changed size c.requires c.places-places.ensures.before c.max-from.ensures (c.in_ok-changed.ensures.some ks false start) in
    if_none_from c.from_residual-in_err-closed.result (join ks ls ≡ None) (c.in_err-closed.ensures.none ks c.in_ok-changed.changed middle)

pub returns-clause-some : goal.returns-clause-some
returns-clause-some c =
    let ks = c.args.slots.now.items in
    let ls = slots_of_rust c.args.arriving in
    let size : c.len-count.result ≡ length ks = search rules in
    let long : length ks ≡ length ls = sym size ∙ c.len-count.ensures in
    let start = begins c.args.among ks ls c.places-places.result.from c.len-given.result c.len-count.result c.min.result size c.requires c.places-places.ensures.before c.min.ensures in
    let middle = passes c.args.among ks ls c.join_run.new.slots.items c.places-places.result.from c.len-given.result c.len-count.result c.max-from.result c.in_ok-changed.changed size c.requires c.places-places.ensures.before c.max-from.ensures (c.in_ok-changed.ensures.some ks false start) in
    let last = ends c.args.among ks ls c.join_runs.new.slots.items c.places-places.result.to c.max-from.result c.len-count.result c.max.result _ size c.requires c.places-places.ensures.after c.max.ensures (c.in_ok-closed.ensures.some ks c.in_ok-changed.changed middle) in
    subst (Joins ks ls c.join_runs.new.slots.items) (sym c.either.ensures) (partly_end ks ls c.join_runs.new.slots.items (λ k. ⊥) _ long (λ k lt f. f) last)

pub returns-clause-same : goal.returns-clause-same
returns-clause-same c = c.in_ok-closed.ensures.same c.args.slots.now.items (c.in_ok-changed.ensures.same c.args.slots.now.items (same_refl c.args.span.now c.args.slots.now.items))
