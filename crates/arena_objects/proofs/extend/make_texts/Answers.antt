use Rattle.std.proofs.Common.{◌≡◌, ℕ, ◌<◌, List, [], ◌∷◌, length, take, get_or, arith, sym, ◌∙◌, ap, subst}
use Rattle.arena_heap.specs.declared.value.Value.{Value}
use Rattle.py_values.specs.mpy_base.World.{Heap, TextObject, Later}
use Rattle.py_values.specs.mpy_base.Weights.{Made}
use Rattle.arena_heap.proofs.Sounds.{leads_later}
use Rattle.arena_objects.specs.Iterables.{spelled}
use Rattle.arena_objects.proofs.Gifts.{spelled_kept}
use Rattle.arena_objects.proofs.MadeTexts.{texts_later, texts_keep, next_text, next_fits}
use Rattle.arena_objects.proofs.extend.make_texts.Goals as goal

pub spelled_bytes-requires-clause-leads : goal.spelled_bytes-requires-clause-leads
spelled_bytes-requires-clause-leads g c =
    let h = c.args.arena.now in
    let bytes = spelled (g.C.Constants.text_of c.args.consts.now) h c.args.from in
    leads_later (subst (λ (w : Heap Value ℕ). Later h.objects w.objects) (sym c.loop-k.invariant.0) (texts_later h (take c.loop-k.k bytes))) c.args.from c.requires.leads

pub bounds-spelled_bytes-k : goal.bounds-spelled_bytes-k
bounds-spelled_bytes-k g c =
    let h = c.args.arena.now in
    let texts = g.C.Constants.text_of c.args.consts.now in
    let bytes = spelled texts h c.args.from in
    let same : c.spelled_bytes.result.now ≡ bytes = c.spelled_bytes.ensures.bytes ∙ (ap (λ (w : Heap Value ℕ). spelled texts w c.args.from) c.loop-k.invariant.0 ∙ spelled_kept (g.C.Constants.items_of c.args.consts.now) texts (texts_keep h (take c.loop-k.k bytes)) c.args.from c.requires.leads) in
    omega (arith, ap length same, ap length c.spelled_bytes-count.ensures.bytes, c.loop-k-test.true)

pub loop-k-preserved : goal.loop-k-preserved
loop-k-preserved g c =
    let h = c.args.arena.now in
    let k = c.loop-k.k in
    let texts = g.C.Constants.text_of c.args.consts.now in
    let bytes = spelled texts h c.args.from in
    let same : c.spelled_bytes.result.now ≡ bytes = c.spelled_bytes.ensures.bytes ∙ (ap (λ (w : Heap Value ℕ). spelled texts w c.args.from) c.loop-k.invariant.0 ∙ spelled_kept (g.C.Constants.items_of c.args.consts.now) texts (texts_keep h (take k bytes)) c.args.from c.requires.leads) in
    let lt : k < length bytes = omega (arith, ap length c.spelled_bytes-count.ensures.bytes, c.loop-k-test.true) in
    let lt' : k < length c.spelled_bytes.result.now = omega (arith, lt, ap length same) in
    let byte = get_or c.spelled_bytes.result.now k 0 in
    let read : byte ≡ get_or bytes k 0 = ap (λ (bs : List ℕ). get_or bs k 0) same in
    let made : Made c.loop-k.arena c.make_byte.new.arena c.in_ok-make_byte.field-0.cell (TextObject (byte ∷ [])) = c.in_ok-make_byte.ensures.made in (
      next_text h c.loop-k.arena c.make_byte.new.arena c.in_ok-make_byte.field-0.cell bytes k byte lt read c.loop-k.invariant.0 made,
      next_fits h c.loop-k.arena c.make_byte.new.arena c.in_ok-make_byte.field-0.cell bytes k byte lt c.loop-k.invariant.0 made,
    )
