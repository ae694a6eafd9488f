use Rattle.std.proofs.Common.{◌≡◌, ◌-◌, ℕ, List, [], ◌∷◌, sym, ap, subst, ◌∙◌, arith}
use Rattle.std.specs.Prelude.{OnOk}
use Rattle.snap_states.specs.Knowing.{Adds, str_in, strs_to}
use Rattle.snap_states.proofs.Gathering.{none_added, one_gathered, other_str, text_added, text_str, tuple_below, tuple_end}
use Rattle.snap_states.proofs.constants.+strs.Goals as goal

pub add_str-returns-in_default : goal.add_str-returns-in_default
add_str-returns-in_default t c = subst (Adds c.args.set.now c.args.set.now) (sym (other_str c.args.levels c.args.object.now c.in_default.not-Str c.in_default.not-Tuple)) (none_added c.args.set.now)

pub add_str-returns-then-levels-eq0 : goal.add_str-returns-then-levels-eq0
add_str-returns-then-levels-eq0 t c =
    let none = ap (λ (n : ℕ). str_in n c.args.object.now) c.if-levels-eq0.true ∙ tuple_end c.args.object.now c.in-Tuple.items c.in-Tuple.is in
    subst (Adds c.args.set.now c.args.set.now) (sym none) (none_added c.args.set.now)

pub add_str-returns-in_ok-insert-in-Str : goal.add_str-returns-in_ok-insert-in-Str
add_str-returns-in_ok-insert-in-Str t c =
    let one = text_str c.args.levels c.args.object.now c.in-Str.text c.in-Str.is in
    let own = subst (λ (z : List ℕ). Adds c.args.set.now c.insert.new.self (z ∷ [])) c.bytes.ensures (text_added c.args.set.now c.insert.new.self c.bytes.result.now c.in_ok-insert-in-Str.field-0 c.in_ok-insert-in-Str.ensures.tells c.in_ok-insert-in-Str.ensures.texts) in
    subst (Adds c.args.set.now c.insert.new.self) (sym one) own

pub add_str-returns-else-levels-eq0 : goal.add_str-returns-else-levels-eq0
add_str-returns-else-levels-eq0 t c =
    let all = tuple_below c.args.levels (c.args.levels - 1) c.args.object.now c.in-Tuple.items (omega (arith, c.if-levels-eq0.false)) c.in-Tuple.is in
    let same : strs_to (c.args.levels - 1) c.as_slice.result.now ≡ str_in c.args.levels c.args.object.now = ap (strs_to (c.args.levels - 1)) c.as_slice.ensures ∙ sym all in
    subst (λ (z : List (List ℕ)). OnOk c.add_strs.result (Adds c.args.set.now c.add_strs.new.set z)) same c.add_strs.ensures

pub add_strs-loop-object-init : goal.add_strs-loop-object-init
add_strs-loop-object-init t c = none_added c.args.set.now

pub add_strs-loop-object-preserved : goal.add_strs-loop-object-preserved
add_strs-loop-object-preserved t c =
    one_gathered c.args.levels c.loop-object.object-index c.object-item.result c.args.objects.now c.args.set.now c.loop-object.set c.add_str.new.set c.loop-object-test.true c.object-item.is c.loop-object.invariant c.in_ok-add_str.ensures
