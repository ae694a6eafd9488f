use Rattle.std.proofs.Common.{◌≡◌, ℕ, suc, ◌+◌, [], refl, sym, ap, ◌∙◌, arith, add-one}
use Rattle.bc_labels.specs.Places.{item_at, width_at, size_of, place}
use Rattle.mpy_writer.specs.Positions.{numbered}
use Rattle.mpy_writer.proofs.Positions.{near, as_many, start_is, grown_size, started_more}
use Rattle.mpy_writer.proofs.widths.measure.Goals as goal

pub bounds-short-i : goal.bounds-short-i
bounds-short-i c =
    let lt = c.loop-i-test.true in
    omega (arith, lt, as_many c.args.tables.now c.args.items.now [] c.args.short.now c.requires.short)

pub overflow_add-start : goal.overflow_add-start
overflow_add-start c =
    let tables = c.args.tables.now in
    let items = c.args.items.now in
    let i = c.loop-i.i in
    let lt = c.loop-i-test.true in
    let grown = c.loop-i.invariant.grown in
    let start = start_is tables items c.requires.fit c.requires.sound [] c.args.short.now i 0 c.requires.short lt in
    omega (arith, lt, grown, start, as_many tables items [] c.args.short.now c.requires.short, near tables items c.requires.fit c.requires.sound c.args.widths.now i (omega (arith, lt)))

pub overflow_add-grown : goal.overflow_add-grown
overflow_add-grown c =
    let tables = c.args.tables.now in
    let items = c.args.items.now in
    let i = c.loop-i.i in
    let lt = c.loop-i-test.true in
    let grown = c.loop-i.invariant.grown in
    let more = grown_size (item_at (numbered tables items) i) (width_at c.args.widths.now i) c.growth-grown.result (c.requires.only i) c.growth-grown.ensures in
    let next : place (numbered tables items) c.args.widths.now (suc i) ≡ place (numbered tables items) c.args.widths.now i + size_of (item_at (numbered tables items) i) (width_at c.args.widths.now i) = refl in
    omega (arith, lt, grown, more, next, as_many tables items [] c.args.short.now c.requires.short, near tables items c.requires.fit c.requires.sound c.args.widths.now (suc i) (omega (arith, lt)))

pub loop-i-preserved : goal.loop-i-preserved
loop-i-preserved c =
    let tables = c.args.tables.now in
    let items = c.args.items.now in
    let xs = numbered tables items in
    let ws = c.args.widths.now in
    let i = c.loop-i.i in
    let lt = c.loop-i-test.true in
    let grown = c.loop-i.invariant.grown in
    let start = start_is tables items c.requires.fit c.requires.sound [] c.args.short.now i 0 c.requires.short lt in
    let more = grown_size (item_at xs i) (width_at ws i) c.growth-grown.result (c.requires.only i) c.growth-grown.ensures in
    record {
      starts = started_more xs ws i _ c.loop-i.starts.items c.push.new.self.items c.loop-i.invariant.starts (omega (arith, grown, start)) c.in_ok-push.ensures.items;
      grown = ap (λ (n : ℕ). place xs [] n + (c.loop-i.grown + c.growth-grown.result)) (add-one i) ∙ (omega (arith, grown, more) ∙ ap (place xs ws) (sym (add-one i)));
    }
