use Rattle.std.proofs.Common.{ℕ, List, length, ap, arith}
use Rattle.prim_assignments.proofs.Iterated.{iterated}
use Rattle.prim_assignments.proofs.Unpacked.{length_iterated, other_has_items}
use Rattle.prim_assignments.proofs.unpacking.count_of.Goals as goal

pub returns-in_default : goal.returns-in_default
returns-in_default g c =
    let texts = g.C.Constants.text_of c.args.consts.now in
    let tuples = g.C.Constants.items_of c.args.consts.now in
    let h = c.args.arena.now in
    let all = iterated texts tuples h c.args.over c.requires.leads c.items_law.ensures.nested c.requires.iterable in
    let none = other_has_items texts tuples h c.args.over c.in_default.not-Str c.in_default.not-Text in
    omega (arith, c.item_count.ensures, length_iterated texts tuples h c.args.over all, ap (λ (bs : List ℕ). length bs) none)
