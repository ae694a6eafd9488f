use Rattle.std.proofs.Common.{◌≡◌, ◌<◌, [], sym, ap, ◌∙◌, arith, get_or, length}
use Rattle.std.proofs.lemmas.List.{take_all}
use Rattle.prim_builtins.specs.py_primitives.Texts.{joined}
use Rattle.prim_builtins.proofs.prim_walks_lemmas.PenSteps.{wrote_then, wrote_as}
use Rattle.prim_outputs.proofs.Walked.{all_strs, count_strs, str_at, some_there, joined_take, clash}
use Rattle.prim_outputs.proofs.prints.put_texts.Goals as goal

pub unreachable-requires : goal.unreachable-requires
unreachable-requires g c =
    let texts = g.C.Constants.text_of c.args.consts.now in
    let tuples = g.C.Constants.items_of c.args.consts.now in
    let all = some_there (all_strs texts tuples c.args.arena.now c.args.args.now) c.requires.end in
    let there = str_at texts tuples c.args.arena.now c.args.args.now all.0 all.1 c.loop-at.at (omega arith) in
    clash _ _ there c.in_default.ensures.none

pub loop-at-preserved : goal.loop-at-preserved
loop-at-preserved g c all are =
    let texts = g.C.Constants.text_of c.args.consts.now in
    let tuples = g.C.Constants.items_of c.args.consts.now in
    let lt : c.loop-at.at < length c.args.args.now = omega arith in
    let count = count_strs texts tuples c.args.arena.now c.args.args.now all are in
    let there = str_at texts tuples c.args.arena.now c.args.args.now all are c.loop-at.at lt in
    let w = c.in-Some.ensures.text in
    let same : w.text ≡ get_or all c.loop-at.at [] = let e = sym w.is ∙ there in cc in
    wrote_as (wrote_then (c.loop-at.invariant all are) (wrote_then c.put_separator.ensures (wrote_as w.wrote same))) (joined_take c.args.sep.now all c.loop-at.at (omega (arith, count, lt)))

pub returns : goal.returns
returns g c all are =
    let texts = g.C.Constants.text_of c.args.consts.now in
    let tuples = g.C.Constants.items_of c.args.consts.now in
    let count = count_strs texts tuples c.args.arena.now c.args.args.now all are in
    wrote_as (c.loop-at.invariant all are) (ap (joined c.args.sep.now) (take_all c.loop-at.at all (omega (arith, count))))
