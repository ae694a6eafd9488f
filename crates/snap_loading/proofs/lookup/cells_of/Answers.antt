use Rattle.std.proofs.Common.{◌≡◌, ℕ, ◌+◌, ◌^◌, length, ap, ◌∙◌, arith}
use Rattle.snap_states.specs.Parts.{cells_of_part}
use Rattle.snap_loading.proofs.Counted.{cells_few, cells_more, sum_few, long_more, each_more}
use Rattle.snap_loading.proofs.lookup.cells_of.Goals as goal

pub weight-requires : goal.weight-requires
weight-requires c =
    omega (arith, ap cells_of_part c.object-item.is, cells_few c.args.objects.now c.loop-object.object-index c.object-item.result c.loop-object-test.true (2 ^ 32) c.requires)

pub overflow_cast-next : goal.overflow_cast-next
overflow_cast-next c =
    omega (arith, c.weight.ensures, ap cells_of_part c.object-item.is, cells_few c.args.objects.now c.loop-object.object-index c.object-item.result c.loop-object-test.true (2 ^ 32) c.requires)

pub overflow_add-next : goal.overflow_add-next
overflow_add-next c =
    omega (
      arith,
      c.weight.ensures,
      ap cells_of_part c.object-item.is,
      sum_few c.args.objects.now c.loop-object.object-index c.object-item.result c.loop-object-test.true c.loop-object.next (2 ^ 32) c.loop-object.invariant.next c.requires,
    )

pub loop-object-preserved : goal.loop-object-preserved
loop-object-preserved c =
    let os = c.args.objects.now in
    let i = c.loop-object.object-index in
    let inv = c.loop-object.invariant in record {
      next = ap (λ (x : ℕ). c.loop-object.next + x) (c.weight.ensures ∙ ap cells_of_part c.object-item.is) ∙ cells_more os i c.object-item.result c.loop-object-test.true c.loop-object.next inv.next;
      long = long_more os c.loop-object.cells.items c.push.new.self.items i c.loop-object.next c.in_ok-push.ensures.items inv.long inv.next inv.each;
      each = each_more os c.loop-object.cells.items c.push.new.self.items i c.loop-object.next c.in_ok-push.ensures.items inv.long inv.next inv.each;
    }

pub returns : goal.returns
returns c =
    let os = c.args.objects.now in
    let i = c.loop-object.object-index in
    let inv = c.loop-object.invariant in
    let end : i ≡ length os = omega (arith, c.loop-object-test.false, c.loop-object.auto.object-index-end) in record {
      long = long_more os c.loop-object.cells.items c.push-2.new.self.items i c.loop-object.next c.in_ok-push-2.ensures.items inv.long inv.next inv.each ∙ ap (λ (x : ℕ). x + 1) end;
      each = λ n le. each_more os c.loop-object.cells.items c.push-2.new.self.items i c.loop-object.next c.in_ok-push-2.ensures.items inv.long inv.next inv.each n (omega (arith, le, end));
    }
