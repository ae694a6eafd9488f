use Rattle.std.proofs.Common.{ℕ, List, length, Option, ap, arith}
use Rattle.prim_builtins.specs.arena_heap.Values.{IsStr}
use Rattle.prim_builtins.specs.arena_objects.Iterables.{items_in}
use Rattle.prim_str_methods.proofs.JoinParts.{strs_plain, strs_length, not_both}
use Rattle.prim_str_methods.proofs.parts.part_count.Goals as goal

pub returns-clause-strs : goal.returns-clause-strs
returns-clause-strs g c =
    let texts = g.C.Constants.text_of c.args.consts.now in
    let tuples = g.C.Constants.items_of c.args.consts.now in
    let h = c.args.arena.now in
    let over = c.args.over in
    let items = items_in tuples h over in
    let other : IsStr over → ⊥ = λ str. not_both c.is_str.result c.if-is_str.false (c.is_str.ensures.1 str) in
    let strs = strs_plain texts tuples h over other c.requires.leads c.items_law.ensures.nested in
    omega (arith, c.item_count.ensures, ap (λ (l : List (Option (List ℕ))). length l) strs, strs_length texts tuples h items)
