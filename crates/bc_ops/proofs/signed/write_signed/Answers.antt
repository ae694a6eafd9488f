use Rattle.std.proofs.Common.{◌++◌, ◌∙◌, ap, sym, List, ℕ, arith}
use Rattle.std.proofs.lemmas.Int.{ints}
use Rattle.std.proofs.lemmas.Result.{on_ok_weaker}
use Rattle.bc_ops.specs.Signed.{high_size}
use Rattle.bc_ops.proofs.Integers.{written_below, written_above}
use Rattle.bc_ops.proofs.signed.write_signed.Goals as goal

pub returns-then-n-lt0-clause-ok : goal.returns-then-n-lt0-clause-ok
returns-then-n-lt0-clause-ok c =
    let written = written_below c.args.n c.from.result c.high_groups-high.result c.place.result (omega (arith, ints)) (c.high_groups-high.ensures ∙ ap high_size (sym c.from.ensures)) c.place.ensures.value in
    on_ok_weaker c.write_groups.result (λ e. e ∙ ap (λ (ys : List ℕ). c.args.out.now.items ++ ys) written) c.write_groups.ensures.ok

pub returns-else-n-lt0-clause-ok : goal.returns-else-n-lt0-clause-ok
returns-else-n-lt0-clause-ok c =
    let written = written_above c.args.n c.from-else-n-lt0.result c.high_groups-high-else-n-lt0.result (omega (arith, ints)) (c.high_groups-high-else-n-lt0.ensures ∙ ap high_size (sym c.from-else-n-lt0.ensures)) in
    on_ok_weaker c.write_groups-else-n-lt0.result (λ e. e ∙ ap (λ (ys : List ℕ). c.args.out.now.items ++ ys) written) c.write_groups-else-n-lt0.ensures.ok
