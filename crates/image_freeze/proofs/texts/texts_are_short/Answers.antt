use Rattle.std.proofs.Common.{◌≡◌, ◌+◌, ◌-◌, ◌<◌, ◌≤◌, [], ℕ, List, All, length, drop, get_or, sym, ap, subst, ◌∙◌, arith}
use Rattle.std.specs.List.{flat_map}
use Rattle.std.proofs.lemmas.List.{length-drop}
use Rattle.mpy_base.specs.declared.limits.TheConstants.{MAX_IMAGE_BYTES}
use Rattle.mpy_writer.proofs.Numbers.{copied_is, is_there}
use Rattle.image_freeze.specs.Frozen.{own_bytes}
use Rattle.image_freeze.proofs.Loops.{all_taken, get_or_any, one_of_all, taken_more}
use Rattle.image_freeze.proofs.Pools.{own_longer, text_at}
use Rattle.image_freeze.proofs.texts.texts_are_short.Goals as goal

pub unwrap-requires : goal.unwrap-requires
unwrap-requires c =
    let texts = drop c.args.texts_below c.args.pool.now.texts in
    let lt : c.loop-place.place < length texts = omega (arith, c.len.ensures, c.loop-place-test.true, length-drop c.args.texts_below c.args.pool.now.texts) in
    is_there c.text.result (get_or texts c.loop-place.place []) (c.text.ensures ∙ text_at c.args.pool.now c.args.texts_below c.loop-place.place _ c.requires.first (omega arith) lt)

pub returns-then-unwrap-gt-MAX_IMAGE_BYTES-clause-long : goal.returns-then-unwrap-gt-MAX_IMAGE_BYTES-clause-long
returns-then-unwrap-gt-MAX_IMAGE_BYTES-clause-long c =
    let texts = drop c.args.texts_below c.args.pool.now.texts in
    let place = c.loop-place.place in
    let lt : place < length texts = omega (arith, c.len.ensures, c.loop-place-test.true, length-drop c.args.texts_below c.args.pool.now.texts) in
    let text = copied_is c.text.result c.unwrap.result (get_or texts place []) (c.text.ensures ∙ text_at c.args.pool.now c.args.texts_below place _ c.requires.first (omega arith) lt) c.unwrap.ensures in
    let one = one_of_all own_bytes texts place (get_or texts place []) lt (get_or_any texts place [] (get_or texts place []) lt) in
    let more = own_longer (get_or texts place []) in
    let size = ap length text in
    let past = c.if-unwrap-gt-MAX_IMAGE_BYTES.true in
    λ _. omega (arith, past, size, more, one)

pub loop-place-preserved : goal.loop-place-preserved
loop-place-preserved c =
    let texts = drop c.args.texts_below c.args.pool.now.texts in
    let place = c.loop-place.place in
    let lt : place < length texts = omega (arith, c.len.ensures, c.loop-place-test.true, length-drop c.args.texts_below c.args.pool.now.texts) in
    let text = copied_is c.text.result c.unwrap.result (get_or texts place []) (c.text.ensures ∙ text_at c.args.pool.now c.args.texts_below place _ c.requires.first (omega arith) lt) c.unwrap.ensures in
    let size = ap length text in
    let short : length (get_or texts place []) ≤ MAX_IMAGE_BYTES = omega (arith, size, c.if-unwrap-gt-MAX_IMAGE_BYTES.false) in
    taken_more (λ (t : List ℕ). length t ≤ MAX_IMAGE_BYTES) texts place (get_or texts place []) lt (get_or_any texts place [] (get_or texts place []) lt) c.loop-place.invariant short

pub returns-clause-short : goal.returns-clause-short
returns-clause-short c =
    let texts = drop c.args.texts_below c.args.pool.now.texts in
    λ _. all_taken (λ (t : List ℕ). length t ≤ MAX_IMAGE_BYTES) texts c.loop-place.place (omega (arith, c.len.ensures, c.loop-place-test.false, length-drop c.args.texts_below c.args.pool.now.texts)) c.loop-place.invariant
