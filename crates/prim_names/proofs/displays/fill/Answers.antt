use Rattle.std.proofs.Common.{ℕ, ◌<◌, length, sym, subst, arith}
use Rattle.mpy_base.specs.World.{Heap, Later}
use Rattle.prim_methods.specs.arena_heap.declared.value.Value.{Value}
use Rattle.prim_methods.specs.arena_heap.declared.value.Value.TheVariants as values
use Rattle.prim_methods.specs.arena_heap.Values.{Leads}
use Rattle.prim_methods.proofs.arena_heap_lemmas.Sounds.{leads_later}
use Rattle.mpy_base.proofs.Worlds.{later_list}
use Rattle.prim_methods.proofs.prim_operators_lemmas.ItemFills.{read_value}
use Rattle.prim_methods.proofs.ListFills.{step}
use Rattle.prim_names.proofs.displays.fill.Goals as goal

pub put_in_list-requires-clause-leads : goal.put_in_list-requires-clause-leads
put_in_list-requires-clause-leads c =
    let h = c.args.arena.now in
    let later : Later h.objects c.loop-at.arena.objects = subst (λ (w : Heap Value ℕ). Later h.objects w.objects) (sym c.loop-at.invariant) (later_list h c.args.l.cell _ c.requires.list) in
    let same = read_value c.args.items.now c.loop-at.at c.item_at-item.result c.item_at-item.ensures in
    leads_later later c.item_at-item.result (subst (Leads h.objects) (sym same) (c.requires.leads c.loop-at.at values.None (omega (arith, c.loop-at-test.true))))

pub loop-at-preserved : goal.loop-at-preserved
loop-at-preserved c =
    let lt : c.loop-at.at < length c.args.items.now = omega (arith, c.loop-at-test.true) in
    step c.args.arena.now c.args.l.cell c.requires.list c.args.items.now c.loop-at.arena c.put_in_list.new.arena c.loop-at.at c.item_at-item.result c.loop-at.invariant lt c.item_at-item.ensures c.put_in_list.ensures
