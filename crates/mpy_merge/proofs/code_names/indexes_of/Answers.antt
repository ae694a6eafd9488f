use Rattle.std.proofs.Common.{◌≡◌, ◌+◌, ◌∷◌, [], ◌++◌, ℕ, List, length, sym, ap, subst, ◌∙◌, arith, zero-le}
use Rattle.mpy_merge.proofs.Places.{Left, next, all_found, one_number}
use Rattle.mpy_merge.proofs.code_names.indexes_of.Goals as goal

pub loop-at-init : goal.loop-at-init
loop-at-init c indexes are = (indexes, ap (λ (z : List ℕ). z ++ indexes) c.new-indexes.ensures.items, are, zero-le)

pub read_vuint-requires : goal.read_vuint-requires
read_vuint-requires c = let lt = c.loop-at-test.true in omega (arith, lt)

pub unreachable-requires : goal.unreachable-requires
unreachable-requires c =
    let left = c.loop-at.invariant c.requires.0 c.requires.1 in
    let n = next c.args.names.now c.requires.0 c.loop-at.indexes.items c.loop-at.at left c.loop-at-test.true in
    c.in_default.not-Ok _ (c.read_vuint.ensures.only n.text n.behind n.index n.spells n.is)

pub loop-at-preserved : goal.loop-at-preserved
loop-at-preserved c indexes are =
    let left = c.loop-at.invariant indexes are in
    let n = next c.args.names.now indexes c.loop-at.indexes.items c.loop-at.at left c.loop-at-test.true in
    let both = one_number c.read_vuint.result c.in-Ok.index n.index c.in-Ok.next (c.loop-at.at + length n.text) c.in-Ok.is (c.read_vuint.ensures.only n.text n.behind n.index n.spells n.is) in
    let index : c.in-Ok.index ≡ n.index = both.0 in
    let place : c.in-Ok.next ≡ c.loop-at.at + length n.text = both.1 in
    subst (Left c.args.names.now indexes c.push.new.self.items) (sym place)
    (subst (λ (z : List ℕ). Left c.args.names.now indexes z (c.loop-at.at + length n.text))
    (ap (λ (z : ℕ). c.loop-at.indexes.items ++ z ∷ []) (sym index) ∙ sym c.in_ok-push.ensures.items) n.left)

pub returns : goal.returns
returns c indexes are =
    all_found c.args.names.now indexes c.loop-at.indexes.items c.loop-at.at (c.loop-at.invariant indexes are) c.loop-at-test.false
