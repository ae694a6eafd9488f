use Rattle.std.proofs.Common.{◌≡◌, ◌-◌, ◌<◌, List, length, get_or, All, sym, ap, subst, arith}
use Rattle.std.proofs.lemmas.Bool.{leb-true, leb-false}
use Rattle.std.proofs.lemmas.List.Elements.{All-get_or}
use Rattle.mpy_base.specs.declared.limits.TheConstants.{MAX_FILE_BYTES}
use Rattle.mpy_writer.specs.mpy_tree.declared.module.Constant.{Constant}
use Rattle.mpy_writer.specs.Writable.{IsFine}
use Rattle.mpy_merge.proofs.Nests.{taken_more, all_taken}
use Rattle.mpy_merge.proofs.Shapes.{IsObjectOf, none_fine, false_fine, true_fine, int_fine, str_fine, tuple_in, tuple_fine, str_long, tuple_long}
use Rattle.mpy_merge.proofs.objects.+is_short.Goals as goal

pub returns-in-None-clause-fine : goal.returns-in-None-clause-fine
returns-in-None-clause-fine t c = λ _. none_fine c.args.levels c.args.object.now c.in-None.is

pub returns-in-False-clause-fine : goal.returns-in-False-clause-fine
returns-in-False-clause-fine t c = λ _. false_fine c.args.levels c.args.object.now c.in-False.is

pub returns-in-True-clause-fine : goal.returns-in-True-clause-fine
returns-in-True-clause-fine t c = λ _. true_fine c.args.levels c.args.object.now c.in-True.is

pub returns-in-Int-clause-fine : goal.returns-in-Int-clause-fine
returns-in-Int-clause-fine t c = λ _. int_fine c.args.levels c.args.object.now _ c.requires c.in-Int.is

pub returns-in-Str-clause-fine : goal.returns-in-Str-clause-fine
returns-in-Str-clause-fine t c =
    let size = ap length c.bytes.ensures in
    λ e. str_fine c.args.levels c.args.object.now c.in-Str.text c.requires c.in-Str.is (let le = leb-true (length c.bytes.result.now) MAX_FILE_BYTES e in omega (arith, le, size))

pub returns-in-Str-clause-long : goal.returns-in-Str-clause-long
returns-in-Str-clause-long t c =
    let size = ap length c.bytes.ensures in
    λ e.
    let past = leb-false (length c.bytes.result.now) MAX_FILE_BYTES e in
    let long = str_long c.args.levels c.args.object.now c.in-Str.text c.in-Str.is in
    omega (arith, past, size, long)

pub overflow_sub-levels : goal.overflow_sub-levels
overflow_sub-levels t c = (tuple_in c.args.levels c.args.object.now c.in-Tuple.items c.requires c.in-Tuple.is).0

pub is_short-requires : goal.is_short-requires
is_short-requires t c =
    let inside = tuple_in c.args.levels c.args.object.now c.in-Tuple.items c.requires c.in-Tuple.is in
    let some = inside.0 in
    let lt = subst (λ (z : List Constant). c.loop-item.item-index < length z) c.as_slice-item-items.ensures c.loop-item-test.true in
    let is = subst (λ (z : List Constant). c.item-item.result ≡ get_or z c.loop-item.item-index c.item-item.result) c.as_slice-item-items.ensures c.item-item.is in
    let here = All-get_or (IsObjectOf (c.args.levels - 1)) c.in-Tuple.items c.loop-item.item-index c.item-item.result lt inside.2 in
    (omega (arith, some), subst (IsObjectOf (c.args.levels - 1)) (sym is) here)

pub returns-then-not-is_short-clause-long : goal.returns-then-not-is_short-clause-long
returns-then-not-is_short-clause-long t c =
    let inside = tuple_in c.args.levels c.args.object.now c.in-Tuple.items c.requires c.in-Tuple.is in
    let lt = subst (λ (z : List Constant). c.loop-item.item-index < length z) c.as_slice-item-items.ensures c.loop-item-test.true in
    let is = subst (λ (z : List Constant). c.item-item.result ≡ get_or z c.loop-item.item-index c.item-item.result) c.as_slice-item-items.ensures c.item-item.is in
    let one = tuple_long c.args.levels c.args.object.now c.in-Tuple.items c.loop-item.item-index c.item-item.result inside.0 c.in-Tuple.is lt is in
    let past = c.is_short.ensures.long c.if-not-is_short.true in
    λ _. omega (arith, one, past)

pub loop-item-preserved : goal.loop-item-preserved
loop-item-preserved t c =
    taken_more (IsFine (c.args.levels - 1)) c.as_slice-item-items.result.now c.loop-item.item-index c.item-item.result c.loop-item-test.true c.item-item.is c.loop-item.invariant (c.is_short.ensures.fine c.if-not-is_short.false)

pub returns-after-loop-item-clause-fine : goal.returns-after-loop-item-clause-fine
returns-after-loop-item-clause-fine t c =
    let all = all_taken (IsFine (c.args.levels - 1)) c.as_slice-item-items.result.now c.loop-item.item-index c.loop-item-test.false c.loop-item.invariant in
    λ _. tuple_fine c.args.levels c.args.object.now c.in-Tuple.items c.requires c.in-Tuple.is (subst (All (IsFine (c.args.levels - 1))) c.as_slice-item-items.ensures all)
