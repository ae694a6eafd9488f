use Rattle.std.proofs.Common.{◌≡◌, ◌-◌, ◌<◌, ◌≤◌, List, [], ◌∷◌, ◌++◌, length, drop, take, reverse, sym, ap, subst, ◌∙◌, arith, rules, length-append, length-drop}
use Rattle.std.proofs.lemmas.List.{take_all, drop_all, length-map}
use Rattle.snap_states.specs.declared.slot.Slot.{Slot}
use Rattle.snap_states.specs.Stacks.{stack_as, slot_as}
use Rattle.snap_states.specs.Fronts.{IsFront, IsTaken, AreNone, front_slots, front_more}
use Rattle.snap_states.proofs.Fronts.{front_none, front_next, front_stops, all_taken, kinds_left, topmost_is}
use Rattle.snap_states.proofs.slots.stack_of.Goals as goal

pub loop-left-init : goal.loop-left-init
loop-left-init c =
    let l = c.args.known.now.library.now in
    let s = c.args.known.now.snapshot.now in
    let os = c.args.offsets.now in
    let ps = c.args.parts.now in
    let ks = c.args.kinds.now in
    let e = sym c.new-stack.ensures.items in
    let all = take_all (length ps) ps (let le : length ps ≤ length ps = omega arith in le) in
    record {
      front = subst (λ (z : List Slot). IsFront l s os (reverse ps) ks (stack_as z) (reverse (take (length ps) ps)) (drop (length (stack_as z)) ks)) e
          (subst (λ z. IsFront l s os (reverse ps) ks [] (reverse z) ks) (sym all) (front_none l s os (reverse ps) ks));
      within = omega arith;
      long = subst (λ (z : List Slot). length (stack_as z) ≤ length ks) e (let le : 0 ≤ length ks = omega arith in le);
    }

pub returns-in_default-clause-none : goal.returns-in_default-clause-none
returns-in_default-clause-none c =
    let l = c.args.known.now.library.now in
    let s = c.args.known.now.snapshot.now in
    let os = c.args.offsets.now in
    let ps = c.args.parts.now in
    let ks = c.args.kinds.now in
    let st = stack_as c.loop-left.stack.items in
    let left = c.loop-left.left in
    let part = c.index-parts-left.result in
    let counted : c.len.result ≡ length c.loop-left.stack.items = search rules in
    let many : c.len.result ≡ length st = counted ∙ sym (length-map c.loop-left.stack.items slot_as) in
    let asked : c.behind-asked.result.now ≡ drop (length st) ks = c.behind-asked.ensures ∙ ap (λ n. drop n ks) many in
    let top : part ∷ reverse (take (left - 1) ps) ≡ reverse (take left ps) = sym (topmost_is ps left part (omega arith) c.loop-left.invariant.within c.index-parts-left.is) in
    let none = subst (λ z. AreNone l s os z (drop (length st) ks)) top
    (subst (λ z. AreNone l s os (part ∷ reverse z) (drop (length st) ks)) c.first_parts-below.ensures
    (subst (λ z. AreNone l s os (part ∷ reverse c.first_parts-below.result.now) z) asked c.in_default.ensures.none)) in
    front_stops l s os (reverse ps) (reverse (take left ps)) ks (drop (length st) ks) st c.loop-left.invariant.front none

pub loop-left-preserved : goal.loop-left-preserved
loop-left-preserved c =
    let l = c.args.known.now.library.now in
    let s = c.args.known.now.snapshot.now in
    let os = c.args.offsets.now in
    let ps = c.args.parts.now in
    let ks = c.args.kinds.now in
    let st = stack_as c.loop-left.stack.items in
    let left = c.loop-left.left in
    let part = c.index-parts-left.result in
    let f = c.in-Some.front in
    let counted : c.len.result ≡ length c.loop-left.stack.items = search rules in
    let many : c.len.result ≡ length st = counted ∙ sym (length-map c.loop-left.stack.items slot_as) in
    let asked : c.behind-asked.result.now ≡ drop (length st) ks = c.behind-asked.ensures ∙ ap (λ n. drop n ks) many in
    let taken : IsTaken l s os part (reverse (take (left - 1) ps)) (drop (length st) ks) f =
    subst (λ z. IsTaken l s os part (reverse z) (drop (length st) ks) f) c.first_parts-below.ensures
    (subst (λ z. IsTaken l s os part (reverse c.first_parts-below.result.now) z f) asked c.in-Some.ensures.some) in
    let next = front_next l s os ps ks st left part f c.loop-left.invariant.front (omega arith) c.loop-left.invariant.within c.index-parts-left.is taken in
    let pushed : stack_as c.push_front.new.stack.items ≡ st ++ front_slots f = c.in_ok-push_front.ensures in
    let more = c.more_of.ensures in
    let dropped = length-drop (length st) ks in
    let appended = length-append st (front_slots f) in
    let long = taken.long in
    let so_far = c.loop-left.invariant.long in
    record {
      front = subst (λ n. IsFront l s os (reverse ps) ks (stack_as c.push_front.new.stack.items) (reverse (take (left - 1 - n) ps)) (drop (length (stack_as c.push_front.new.stack.items)) ks)) (sym more)
          (subst (λ z. IsFront l s os (reverse ps) ks z (reverse (take (left - 1 - front_more f) ps)) (drop (length z) ks)) (sym pushed) next);
      within = omega arith;
      long = subst (λ z. length z ≤ length ks) (sym pushed) (omega (arith, dropped, appended, long, so_far));
    }

pub returns-then-len-kinds-clause-some : goal.returns-then-len-kinds-clause-some
returns-then-len-kinds-clause-some c =
    let l = c.args.known.now.library.now in
    let s = c.args.known.now.snapshot.now in
    let os = c.args.offsets.now in
    let ps = c.args.parts.now in
    let ks = c.args.kinds.now in
    let st = stack_as c.loop-left.stack.items in
    let none_left : c.loop-left.left ≡ 0 = omega arith in
    let counted : c.len-2.result ≡ length c.loop-left.stack.items = search rules in
    let many : c.len-2.result ≡ length st = counted ∙ sym (length-map c.loop-left.stack.items slot_as) in
    let whole : length ks ≤ length st = omega (arith, many, c.if-len-kinds.true) in
    all_taken l s os (reverse ps) ks st
    (subst (IsFront l s os (reverse ps) ks st []) (drop_all (length st) ks whole)
    (subst (λ n. IsFront l s os (reverse ps) ks st (reverse (take n ps)) (drop (length st) ks)) none_left c.loop-left.invariant.front))

pub returns-else-len-kinds-clause-none : goal.returns-else-len-kinds-clause-none
returns-else-len-kinds-clause-none c =
    let l = c.args.known.now.library.now in
    let s = c.args.known.now.snapshot.now in
    let os = c.args.offsets.now in
    let ps = c.args.parts.now in
    let ks = c.args.kinds.now in
    let st = stack_as c.loop-left.stack.items in
    let none_left : c.loop-left.left ≡ 0 = omega arith in
    let counted : c.len-2.result ≡ length c.loop-left.stack.items = search rules in
    let many : c.len-2.result ≡ length st = counted ∙ sym (length-map c.loop-left.stack.items slot_as) in
    let dropped = length-drop (length st) ks in
    let so_far = c.loop-left.invariant.long in
    let some : 0 < length (drop (length st) ks) = omega (arith, many, c.if-len-kinds.false, dropped, so_far) in
    kinds_left l s os (reverse ps) ks st (drop (length st) ks) some
    (subst (λ n. IsFront l s os (reverse ps) ks st (reverse (take n ps)) (drop (length st) ks)) none_left c.loop-left.invariant.front)
