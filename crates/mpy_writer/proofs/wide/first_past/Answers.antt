use Rattle.std.proofs.Common.{◌≡◌, ◌+◌, ◌++◌, ◌∷◌, [], List, length, map, take, sym, ap, subst, arith}
use Rattle.std.specs.List.{sum_by}
use Rattle.std.proofs.lemmas.List.{length-take, length-map}
use Rattle.std.proofs.lemmas.List.Sums.{sum_by_push}
use Rattle.mpy_tree.specs.declared.module.Code.{Code}
use Rattle.mpy_writer.specs.Wide.{wide_head, Counts, IsFirst}
use Rattle.mpy_writer.specs.Writable.{IsNumberedCode}
use Rattle.mpy_writer.proofs.Judged.{counts_more, first_more}
use Rattle.mpy_writer.proofs.Lists.{seen, take_seen}
use Rattle.mpy_writer.proofs.wide.first_past.Goals as goal

pub wide_own-requires-clause-sound : goal.wide_own-requires-clause-sound
wide_own-requires-clause-sound c = seen IsNumberedCode (λ x. x.now) c.args.codes.now c.loop-i.i c.index-codes-i.result c.requires.sound c.loop-i-test.true c.index-codes-i.is

pub wide_head-requires-clause-sound : goal.wide_head-requires-clause-sound
wide_head-requires-clause-sound c = seen IsNumberedCode (λ x. x.now) c.args.codes.now c.loop-i.i c.index-codes-i.result c.requires.sound c.loop-i-test.true c.index-codes-i.is

pub loop-i-preserved : goal.loop-i-preserved
loop-i-preserved c =
    let tables = c.args.tables.now in
    let code = c.index-codes-i.result.now in
    let i = c.loop-i.i in
    let lt = c.loop-i-test.true in
    let cs : List Code = map (λ x. x.now) c.args.codes.now in
    let front : List Code = take i cs in
    let next : take (i + 1) cs ≡ front ++ code ∷ [] = take_seen (λ x. x.now) c.args.codes.now i c.index-codes-i.result c.loop-i-test.true c.index-codes-i.is in
    let place : i ≡ length front = omega (arith, lt, length-take i cs, length-map c.args.codes.now (λ x. x.now)) in
    let total : c.args.front + sum_by (wide_head tables) front + wide_head tables code ≡ c.args.front + sum_by (wide_head tables) (take (i + 1) cs) =
    omega (arith, ap (sum_by (wide_head tables)) next, sum_by_push (wide_head tables) front code) in
    record {
      bytes = subst (Counts c.saturating_add-bytes.result) total
          (counts_more c.loop-i.bytes (c.args.front + sum_by (wide_head tables) front) c.in_ok-wide_head.field-0 (wide_head tables code) c.saturating_add-bytes.result c.loop-i.invariant.bytes c.in_ok-wide_head.ensures c.saturating_add-bytes.ensures);
      long = subst (λ (ds : List Code). IsFirst tables ds c.first_of-long.result) (sym next)
          (first_more tables front code c.loop-i.long c.first_of-long.result i c.in_ok-own.own c.loop-i.invariant.long c.in_ok-own.ensures place c.first_of-long.ensures.kept c.first_of-long.ensures.long c.first_of-long.ensures.short);
    }
