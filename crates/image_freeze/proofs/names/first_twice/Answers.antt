use Rattle.std.proofs.Common.{◌≡◌, ◌<◌, ◌++◌, ℕ, Bool, true, false, List, length, get_or, take, sym, ap, subst, arith}
use Rattle.std.specs.Prelude.{Contains}
use Rattle.image_open.specs.bc_library.Shelf.{names}
use Rattle.image_open.proofs.image_grammar_lemmas.Steps.{not_true}
use Rattle.image_freeze.specs.declared.named.Named.{Named}
use Rattle.image_freeze.specs.Frozen.{IsTwice}
use Rattle.image_freeze.proofs.Twice.{count_names, name_at, none_walked, source_names, take_names, twice_here, walked_more}
use Rattle.image_freeze.proofs.names.first_twice.Goals as goal

pub loop-place-init : goal.loop-place-init
loop-place-init c = none_walked (names c.args.below.now) (source_names c.args.modules.now)

pub returns-then-is_taken-clause-twice : goal.returns-then-is_taken-clause-twice
returns-then-is_taken-clause-twice c =
    let before = names c.args.below.now in
    let modules = c.args.modules.now in
    let i = c.loop-place.place in
    let m = c.index-modules-place.result in
    let all = source_names modules in
    let there = c.is_taken.ensures.0 c.if-is_taken.true in
    let again : Contains (before ++ take i all) m.name = subst (λ (z : List ℕ). Contains (before ++ take i all) z) c.bytes.ensures (subst (λ (z : List (List ℕ)). Contains (before ++ z) c.bytes.result.now) (take_names modules i) there) in
    let lt : i < length all = omega (arith, c.loop-place-test.true, count_names modules) in
    subst (λ (z : List ℕ). IsTwice before all z) (sym c.bytes-then-is_taken.ensures) (twice_here before all i m.name lt (name_at modules i m c.loop-place-test.true c.index-modules-place.is) again c.loop-place.invariant)

pub loop-place-preserved : goal.loop-place-preserved
loop-place-preserved c =
    let before = names c.args.below.now in
    let modules = c.args.modules.now in
    let i = c.loop-place.place in
    let m = c.index-modules-place.result in
    let all = source_names modules in
    let new : Contains (before ++ take i all) m.name → ⊥ = λ again.
    let there = subst (λ (z : List (List ℕ)). Contains (before ++ z) c.bytes.result.now) (sym (take_names modules i)) (subst (λ (z : List ℕ). Contains (before ++ take i all) z) (sym c.bytes.ensures) again) in
    not_true _ (c.is_taken.ensures.1 there) c.if-is_taken.false in
    let lt : i < length all = omega (arith, c.loop-place-test.true, count_names modules) in
    walked_more before all i m.name lt (name_at modules i m c.loop-place-test.true c.index-modules-place.is) new c.loop-place.invariant
