use Rattle.std.proofs.Common.{◌≡◌, ◌-◌, ◌++◌, length, sym, ap, subst, ◌∙◌, arith}
use Rattle.std.specs.List.{flat_map}
use Rattle.mpy_tree.specs.declared.module.Constant.{out-Constant}
use Rattle.bc_library.specs.Constants.{items_in, preorder, numbered, value_by, values_from}
use Rattle.bc_library.specs.Fine.{Each, Fine}
use Rattle.bc_library.specs.Parts.{parts_from}
use Rattle.bc_library.proofs.Preorders.{below, one_more, whole_added, tuple_added, is_tuple, not_tuple}
use Rattle.bc_library.proofs.parts.+parts.Goals as goal

pub add_object-returns-in_default : goal.add_object-returns-in_default
add_object-returns-in_default t c =
    let place : c.len-place.result ≡ length c.args.parts.now.items = omega (arith, c.len-place.ensures) in
    record {
      parts = c.in_ok-push.ensures.items ∙ whole_added c.args.number c.args.parts.now.items c.args.object.now c.in_ok-part.part c.in_ok-part.ensures.part (not_tuple c.args.object.now c.in_default.not-Tuple);
      value = c.in_ok-part.ensures.value ∙ ap (λ n. value_by (numbered c.args.number n) (out-Constant c.args.object.now)) place;
    }

pub add_object-overflow_sub-levels : goal.add_object-overflow_sub-levels
add_object-overflow_sub-levels t c =
    let b = below c.args.levels c.args.object.now c.in-Tuple.items c.requires.fine (ap items_in (is_tuple c.args.object.now c.in-Tuple.items c.in-Tuple.is)) in
    omega (arith, b.levels_are)

pub add_object-add_objects-requires : goal.add_object-add_objects-requires
add_object-add_objects-requires t c =
    let b = below c.args.levels c.args.object.now c.in-Tuple.items c.requires.fine (ap items_in (is_tuple c.args.object.now c.in-Tuple.items c.in-Tuple.is)) in
    let same : b.levels ≡ c.args.levels - 1 = omega (arith, b.levels_are) in
    let each = subst (λ n. Each (Fine n) c.in-Tuple.items) same b.few.each in
    (omega (arith, b.levels_are), (subst (λ z. Each (Fine (c.args.levels - 1)) z) (sym c.as_slice.ensures) each, omega (arith, c.requires.shallow)))

pub add_object-returns-clause-parts : goal.add_object-returns-clause-parts
add_object-returns-clause-parts t c =
    let place : c.len-place.result ≡ length c.args.parts.now.items = omega (arith, c.len-place.ensures) in
    tuple_added c.args.levels c.args.number c.len-place.result c.args.parts.now.items c.push.new.self.items c.add_objects.new.parts.items c.args.object.now c.in-Tuple.items c.in_ok-part.part c.in_ok-values.values
    c.requires.shallow c.requires.fine (is_tuple c.args.object.now c.in-Tuple.items c.in-Tuple.is) place c.in_ok-push.ensures.items
    (subst (λ z. c.add_objects.new.parts.items ≡ c.push.new.self.items ++ parts_from c.args.number (length c.push.new.self.items) (flat_map preorder z)) c.as_slice.ensures c.in_ok-values.ensures.parts)
    (subst (λ z. c.in_ok-values.values ≡ values_from c.args.number (length c.push.new.self.items) z) c.as_slice.ensures c.in_ok-values.ensures.values)

pub add_objects-loop-object-preserved : goal.add_objects-loop-object-preserved
add_objects-loop-object-preserved t c =
    one_more c.args.number c.args.parts.now.items c.loop-object.parts.items c.add_object.new.parts.items c.args.objects.now c.loop-object.object-index c.object-item.result c.loop-object.values c.push.new.self c.in_ok-add_object.field-0
    c.loop-object-test.true c.object-item.is c.loop-object.invariant c.in_ok-add_object.ensures.parts c.in_ok-add_object.ensures.value c.in_ok-push.ensures.ok
