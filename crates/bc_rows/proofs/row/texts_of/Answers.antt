use Rattle.std.proofs.Common.{arith}
use Rattle.bc_rows.proofs.Indexes.{walked_none, next_of, walked_more, walked_all}
use Rattle.bc_rows.proofs.row.texts_of.Goals as goal

pub loop-init : goal.loop-init
loop-init c = walked_none c.args.library.now c.args.number c.args.count c.args.names.now _ c.new-numbers.ensures.items

pub text_at-text-requires-clause-inside : goal.text_at-text-requires-clause-inside
text_at-text-requires-clause-inside c = let k = c.requires in (c.loop.invariant k.0 k.1).within

pub text_at-text-requires-clause-known : goal.text_at-text-requires-clause-known
text_at-text-requires-clause-known c =
    let k = c.requires in
    let w = c.loop.invariant k.0 k.1 in
    let n = next_of _ _ _ _ _ _ _ w (omega (arith, k.1.many)) in
    (n.text, n.rest, n.index, n.spells, n.bytes_are, n.some)

pub loop-preserved : goal.loop-preserved
loop-preserved c indexes a =
    let w = c.loop.invariant indexes a in
    let n = next_of _ _ _ _ _ _ _ w (omega (arith, a.many)) in
    let read = c.text_at-text.ensures n.text n.rest n.index n.spells n.bytes_are in
    walked_more _ _ _ _ _ _ _ w n _ _ _ read.0 read.1 c.in_ok-push.ensures.items

pub returns : goal.returns
returns c indexes a = walked_all _ _ _ _ _ _ _ (c.loop.invariant indexes a) (omega (arith, a.many))
