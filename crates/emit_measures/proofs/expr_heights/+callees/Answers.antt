use Rattle.std.proofs.Common.{◌≡◌, sym, refl, [], rules}
use Rattle.emit_measures.proofs.PlainHeights.{slots_Attr, slots_alone, slots_Compare, slots_others}
use Rattle.emit_measures.proofs.expr_heights.+callees.Goals as goal

pub returns-then-is_empty : goal.returns-then-is_empty
returns-then-is_empty t c =
    let none : c.in-Compare.rest ≡ [] = search rules in
    rw (c.in-Compare.is, none, slots_alone, ← c.get.ensures) c.callee_slots.ensures

pub returns-in-Attr : goal.returns-in-Attr
returns-in-Attr t c = rw (c.in-Attr.is, slots_Attr) refl

pub returns-else-is_empty : goal.returns-else-is_empty
returns-else-is_empty t c = rw c.in-Compare.is (sym (slots_Compare c.in-Compare.first c.in-Compare.rest (search rules)))

pub returns-in_default : goal.returns-in_default
returns-in_default t c = sym (slots_others c.args.callee.now c.in_default.not-Attr c.in_default.not-Compare)
