use Rattle.std.proofs.Common.{ℕ, ◌*◌, length, sym, ap, ◌∙◌}
use Rattle.std.proofs.Math.Nat.{mul_comm}
use Rattle.prim_faults.specs.arena_objects.Iterables.{items_in}
use Rattle.prim_operators.specs.declared.sources.Source.{Source}
use Rattle.prim_operators.specs.Sources.{source_items}
use Rattle.prim_operators.proofs.Repeats.{length_repeat}
use Rattle.prim_operators.proofs.sources.items_len.Goals as goal

pub returns-in-Repeated : goal.returns-in-Repeated
returns-in-Repeated g c =
    let tuples = g.C.Constants.items_of c.args.consts.now in
    let h = c.args.arena.now in
    let items = items_in tuples h c.in-Repeated.of in
    let times = c.in-Repeated.times in
    ap (λ (n : ℕ). n * times) c.item_count-in-Repeated.ensures
    ∙ (mul_comm (length items) times ∙ (sym (length_repeat items times) ∙ sym (ap (λ (s : Source). length (source_items tuples h s)) c.in-Repeated.is)))
