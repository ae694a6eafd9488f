use Rattle.std.proofs.Common.{◌≡◌, ◌+◌, ◌-◌, ◌<◌, ◌≤◌, ◌++◌, [], ℕ, List, All, Some, length, drop, get_or, sym, ap, subst, ◌∙◌, arith}
use Rattle.std.specs.List.{flat_map}
use Rattle.std.proofs.lemmas.List.{length-drop}
use Rattle.std.proofs.lemmas.List.Elements.{All-get_or}
use Rattle.mpy_base.specs.declared.limits.TheConstants.{MAX_IMAGE_BYTES}
use Rattle.mpy_writer.proofs.Numbers.{copied_is, is_there}
use Rattle.image_freeze.specs.Frozen.{own_bytes}
use Rattle.image_freeze.proofs.Loops.{added_all, added_more, get_or_any}
use Rattle.image_freeze.proofs.Pools.{text_at}
use Rattle.image_freeze.proofs.texts.write_texts.Goals as goal

pub unwrap-requires : goal.unwrap-requires
unwrap-requires c =
    let texts = drop c.args.texts_below c.args.pool.now.texts in
    let lt : c.loop-place.place < length texts = omega (arith, c.len.ensures, c.loop-place-test.true, length-drop c.args.texts_below c.args.pool.now.texts) in
    is_there c.text.result (get_or texts c.loop-place.place []) (c.text.ensures ∙ text_at c.args.pool.now c.args.texts_below c.loop-place.place _ c.requires.first (omega arith) lt)

pub write_text-requires : goal.write_text-requires
write_text-requires c =
    let texts = drop c.args.texts_below c.args.pool.now.texts in
    let lt : c.loop-place.place < length texts = omega (arith, c.len.ensures, c.loop-place-test.true, length-drop c.args.texts_below c.args.pool.now.texts) in
    let text = copied_is c.text.result c.unwrap.result (get_or texts c.loop-place.place []) (c.text.ensures ∙ text_at c.args.pool.now c.args.texts_below c.loop-place.place _ c.requires.first (omega arith) lt) c.unwrap.ensures in
    subst (λ (t : List ℕ). length t ≤ MAX_IMAGE_BYTES) (sym text) (All-get_or (λ (t : List ℕ). length t ≤ MAX_IMAGE_BYTES) texts c.loop-place.place [] lt c.requires.short)

pub loop-place-preserved : goal.loop-place-preserved
loop-place-preserved c =
    let texts = drop c.args.texts_below c.args.pool.now.texts in
    let lt : c.loop-place.place < length texts = omega (arith, c.len.ensures, c.loop-place-test.true, length-drop c.args.texts_below c.args.pool.now.texts) in
    let text = copied_is c.text.result c.unwrap.result (get_or texts c.loop-place.place []) (c.text.ensures ∙ text_at c.args.pool.now c.args.texts_below c.loop-place.place _ c.requires.first (omega arith) lt) c.unwrap.ensures in
    let same : get_or texts c.loop-place.place [] ≡ get_or texts c.loop-place.place (get_or texts c.loop-place.place []) = get_or_any texts c.loop-place.place [] (get_or texts c.loop-place.place []) lt in
    added_more own_bytes texts c.loop-place.place (get_or texts c.loop-place.place []) c.args.out.now.items c.loop-place.out.items c.write_text.new.out.items (flat_map own_bytes texts) lt same
    (c.in_ok-write_text.ensures ∙ ap (λ (t : List ℕ). c.loop-place.out.items ++ own_bytes t) text) c.loop-place.invariant

pub returns : goal.returns
returns c =
    let texts = drop c.args.texts_below c.args.pool.now.texts in
    added_all own_bytes texts c.loop-place.place c.args.out.now.items c.loop-place.out.items (flat_map own_bytes texts) (omega (arith, c.loop-place-test.false, c.len.ensures, length-drop c.args.texts_below c.args.pool.now.texts)) c.loop-place.invariant
