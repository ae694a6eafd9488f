use Rattle.std.proofs.Common.{ℕ, ◌≡◌, List, ◌∙◌, ap, subst}
use Rattle.std.specs.Result.{OnOk}
use Rattle.std.specs.List.{insert}
use Rattle.arena_heap.specs.declared.value.Value.{Value}
use Rattle.qstr_pool.specs.mpy_base.World.{items_at}
use Rattle.qstr_pool.specs.mpy_base.Weights.{with_items}
use Rattle.std.proofs.lemmas.List.Edits.{insert_end}
use Rattle.arena_heap.proofs.lists.list_append.Goals as goal

pub returns-clause-ok : goal.returns-clause-ok
returns-clause-ok c =
    let items = items_at c.args.arena.now c.args.l.cell in
    let at_end = ap (λ (k : ℕ). insert items k c.args.v) c.list_len-len.ensures ∙ insert_end items c.args.v in
    subst (λ (vs : List Value). OnOk c.list_insert.result (c.list_insert.new.arena ≡ with_items c.args.arena.now c.args.l.cell vs)) at_end c.list_insert.ensures.ok
