use Rattle.std.proofs.Common.{◌≡◌, ◌∙◌, ◌-◌, suc, length, sym, ap, rules, arith}
use Rattle.std.proofs.lemmas.Grind.{common_steps}
use Rattle.std.specs.Vec.Iter.{into_iter_items}
use Rattle.py_tree.specs.declared.expr.Expr.{the_lemmas}
use Rattle.py_expressions.specs.Targets.{target_of, unpack, each}
use Rattle.py_expressions.proofs.Turns.{deeper}
use Rattle.py_expressions.proofs.Aimed.{target_name, target_attribute, target_index, target_tuple, target_list}
use Rattle.py_expressions.proofs.Behind.{behind, behind_start, each_none, each_more, each_refused, no_length}
use Rattle.py_expressions.proofs.targets.+target.Goals as goal

pub target_of-returns-then-depth-eq0 : goal.target_of-returns-then-depth-eq0
unfolding target_of
target_of-returns-then-depth-eq0 t c = let none : c.args.depth ≡ 0 = omega arith in sym (ap (λ n. target_of n c.args.value) none)

pub target_of-returns-in-Name : goal.target_of-returns-in-Name
target_of-returns-in-Name t c =
    sym (deeper (λ n. target_of n c.args.value) c.args.depth (omega arith) ∙ ap (target_of (suc (c.args.depth - 1))) c.in-Name.is ∙ target_name (c.args.depth - 1) c.in-Name.name)

pub target_of-returns-in-Attr : goal.target_of-returns-in-Attr
target_of-returns-in-Attr t c =
    let e = deeper (λ n. target_of n c.args.value) c.args.depth (omega arith) ∙ ap (target_of (suc (c.args.depth - 1))) c.in-Attr.is ∙ target_attribute (c.args.depth - 1) c.in-Attr.object c.in-Attr.name in
    cc

pub target_of-returns-in-Index : goal.target_of-returns-in-Index
target_of-returns-in-Index t c =
    let e = deeper (λ n. target_of n c.args.value) c.args.depth (omega arith) ∙ ap (target_of (suc (c.args.depth - 1))) c.in-Index.is ∙ target_index (c.args.depth - 1) c.in-Index.object c.in-Index.index in
    cc

pub target_of-returns-in-Tuple : goal.target_of-returns-in-Tuple
target_of-returns-in-Tuple t c =
    let e = deeper (λ n. target_of n c.args.value) c.args.depth (omega arith) ∙ ap (target_of (suc (c.args.depth - 1))) c.in-Tuple.is ∙ target_tuple (c.args.depth - 1) c.in-Tuple.members in
    rw e c.unpack.ensures

pub target_of-returns-in-List : goal.target_of-returns-in-List
target_of-returns-in-List t c =
    let e = deeper (λ n. target_of n c.args.value) c.args.depth (omega arith) ∙ ap (target_of (suc (c.args.depth - 1))) c.in-List.is ∙ target_list (c.args.depth - 1) c.in-List.members in
    rw e c.unpack-in-List.ensures

pub target_of-returns-in_default : goal.target_of-returns-in_default
unfolding target_of
target_of-returns-in_default t c =
    let e = deeper (λ n. target_of n c.args.value) c.args.depth (omega arith) in
    first_of (search (rules, the_lemmas), grind (arith, the_lemmas))

pub unpack-returns-then-is_empty : goal.unpack-returns-then-is_empty
unfolding unpack
unpack-returns-then-is_empty t c = first_of (search rules, grind (arith, common_steps))

pub unpack-returns-in-None : goal.unpack-returns-in-None
unfolding unpack
unpack-returns-in-None t c = first_of (search rules, grind (arith, common_steps))

pub unpack-returns-in-Some : goal.unpack-returns-in-Some
unfolding unpack
unpack-returns-in-Some t c = first_of (search rules, grind (arith, common_steps))

pub each-more-init : goal.each-more-init
each-more-init t c =
    let e = behind_start c.new-found.result (each (target_of c.args.depth) c.args.members) c.new-found.ensures in
    first_of (search rules, grind (arith, common_steps))

pub each-returns-in-None-2 : goal.each-returns-in-None-2
each-returns-in-None-2 t c =
    sym (c.more.invariant.0 ∙ each_refused (target_of c.args.depth) c.more.found c.in-Some.member (into_iter_items c.next.new.self) (into_iter_items c.more.member-iterator) c.in-Some.ensures.steps.0 (sym c.in_ok-target_of.ensures ∙ c.in-None-2.is))

pub each-more-preserved : goal.each-more-preserved
each-more-preserved t c =
    let steps = c.in-Some.ensures.steps in
    let counted = ap length c.in-Some.ensures.steps.0 in (
      c.more.invariant.0 ∙ each_more (target_of c.args.depth) c.more.found c.in-Some.member (into_iter_items c.next.new.self) (into_iter_items c.more.member-iterator) c.in-Some-2.target c.in-Some.ensures.steps.0 (sym c.in_ok-target_of.ensures ∙ c.in-Some-2.is)
          ∙ ap (λ q. behind q (each (target_of c.args.depth) (into_iter_items c.next.new.self))) (sym c.in_ok-push-in-Some-2.ensures.ok),
      omega (arith, counted, c.in-Some.ensures.steps.1, c.more.invariant.1),
    )

pub each-returns : goal.each-returns
each-returns t c =
    sym (c.more.invariant.0 ∙ each_none (target_of c.args.depth) c.more.found (into_iter_items c.more.member-iterator) (no_length (into_iter_items c.more.member-iterator) (sym c.more.invariant.1 ∙ c.in-None.ensures.steps.0)))
