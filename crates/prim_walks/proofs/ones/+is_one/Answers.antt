use Rattle.std.proofs.Common.{ℤ, true, false, sym, ap, ◌∙◌, subst}
use Rattle.arena_objects.specs.arena_heap.declared.value.Value.{Value}
use Rattle.py_primitives.specs.mpy_base.Val.{Int}
use Rattle.arena_objects.specs.arena_heap.Values.{HasSmall}
use Rattle.arena_objects.specs.Iterables.{items_in}
use Rattle.arena_objects.proofs.RangeNumbers.{small_same}
use Rattle.py_primitives.specs.Operators.{is_one}
use Rattle.prim_walks.specs.Ones.{IsConstant}
use Rattle.prim_walks.specs.Plain.{plain, plain_heap}
use Rattle.prim_walks.proofs.OneSteps.{tuples_one, tuple_other, one_step, one_lengths}
use Rattle.prim_walks.proofs.ones.+is_one.Goals as goal

pub is_one-returns-in-Int : goal.is_one-returns-in-Int
is_one-returns-in-Int g t c =
    let texts = g.C.Constants.text_of c.args.consts.now in
    let tuples = g.C.Constants.items_of c.args.consts.now in
    let h = c.args.arena.now in
    let heap = plain_heap texts tuples h in
    let w = plain texts tuples c.args.b in
    let small = subst HasSmall c.in-Int.is c.requires.a_leads.small in
    c.is_one_int.ensures heap texts tuples ∙ (ap (λ (z : ℤ). is_one heap (Int z) w) (small_same c.in-Int.x small) ∙ sym (ap (λ (v : Value). is_one heap (plain texts tuples v) w) c.in-Int.is))

pub is_one_tuple-returns-in-Fixed : goal.is_one_tuple-returns-in-Fixed
is_one_tuple-returns-in-Fixed g t c =
    let texts = g.C.Constants.text_of c.args.consts.now in
    let tuples = g.C.Constants.items_of c.args.consts.now in
    let h = c.args.arena.now in
    let heap = plain_heap texts tuples h in
    let is : IsConstant c.args.b = subst IsConstant (sym c.in-Fixed.is) tt in
    c.are_one.ensures ∙ sym (tuples_one heap texts tuples h c.args.a c.args.b c.requires.tuple is c.nesting_law.ensures c.nesting_law-2.ensures)

pub is_one_tuple-returns-in-Empty : goal.is_one_tuple-returns-in-Empty
is_one_tuple-returns-in-Empty g t c =
    let texts = g.C.Constants.text_of c.args.consts.now in
    let tuples = g.C.Constants.items_of c.args.consts.now in
    let h = c.args.arena.now in
    let heap = plain_heap texts tuples h in
    let is : IsConstant c.args.b = subst IsConstant (sym c.in-Empty.is) tt in
    c.are_one-in-Empty.ensures ∙ sym (tuples_one heap texts tuples h c.args.a c.args.b c.requires.tuple is c.nesting_law.ensures c.nesting_law-2.ensures)

pub is_one_tuple-returns-in_default : goal.is_one_tuple-returns-in_default
is_one_tuple-returns-in_default g t c =
    let texts = g.C.Constants.text_of c.args.consts.now in
    let tuples = g.C.Constants.items_of c.args.consts.now in
    let h = c.args.arena.now in
    let heap = plain_heap texts tuples h in
    sym (tuple_other heap texts tuples h c.args.a c.args.b c.requires.tuple c.nesting_law.ensures c.in_default.not-Fixed c.in_default.not-Empty)

pub are_one-returns-then-count-item_count : goal.are_one-returns-then-count-item_count
are_one-returns-then-count-item_count g t c =
    let texts = g.C.Constants.text_of c.args.consts.now in
    let tuples = g.C.Constants.items_of c.args.consts.now in
    let h = c.args.arena.now in
    let heap = plain_heap texts tuples h in
    let xs = items_in tuples h c.args.a in
    let ys = items_in tuples h c.args.b in
    sym (one_lengths heap (plain texts tuples) xs ys (λ e. c.if-count-item_count.true (c.item_count-count.ensures ∙ (e ∙ sym c.item_count.ensures))))

pub are_one-returns-then-not-is_one : goal.are_one-returns-then-not-is_one
are_one-returns-then-not-is_one g t c =
    let texts = g.C.Constants.text_of c.args.consts.now in
    let tuples = g.C.Constants.items_of c.args.consts.now in
    let h = c.args.arena.now in
    let heap = plain_heap texts tuples h in
    let xs = items_in tuples h c.args.a in
    let ys = items_in tuples h c.args.b in
    sym (c.loop-at.invariant ∙ one_step heap (plain texts tuples) xs ys c.loop-at.at c.constant_item-x.result c.constant_item-y.result false c.constant_item-x.ensures.item c.constant_item-y.ensures.item c.if-not-is_one.ensures)

pub are_one-loop-at-preserved : goal.are_one-loop-at-preserved
are_one-loop-at-preserved g t c =
    let texts = g.C.Constants.text_of c.args.consts.now in
    let tuples = g.C.Constants.items_of c.args.consts.now in
    let h = c.args.arena.now in
    let heap = plain_heap texts tuples h in
    let xs = items_in tuples h c.args.a in
    let ys = items_in tuples h c.args.b in
    c.loop-at.invariant ∙ one_step heap (plain texts tuples) xs ys c.loop-at.at c.constant_item-x.result c.constant_item-y.result true c.constant_item-x.ensures.item c.constant_item-y.ensures.item c.if-not-is_one.ensures
