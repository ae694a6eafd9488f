use Rattle.std.proofs.Common.{◌≡◌, ℕ, ◌+◌, ◌≤◌, List, length, take, drop, sym, ap, ◌∙◌, subst, arith}
use Rattle.std.specs.Prelude.{IsSome}
use Rattle.std.proofs.Math.Seq.{paste}
use Rattle.std.proofs.lemmas.List.Elements.{All-nil}
use Rattle.prim_builtins.specs.arena_heap.declared.value.Value.{Value}
use Rattle.mpy_base.specs.World.{TextObject, Heap, AText, Later, text_at, with_text}
use Rattle.mpy_base.proofs.Worlds.{later_text}
use Rattle.prim_builtins.specs.arena_heap.Constants.{IsTold}
use Rattle.prim_builtins.proofs.arena_heap_lemmas.Sounds.{leads_later}
use Rattle.prim_builtins.specs.arena_objects.Iterables.{or_nothing}
use Rattle.prim_builtins.specs.arena_objects.Keys.{AllTold}
use Rattle.prim_builtins.specs.py_values.Equality.{Walk}
use Rattle.prim_builtins.specs.prim_walks.Plain.{plain, plain_heap}
use Rattle.prim_builtins.specs.prim_walks.Whole.{text_of}
use Rattle.prim_builtins.proofs.prim_operators_lemmas.ItemFills.{told_put}
use Rattle.prim_types.specs.Texts.{text_in, written_over}
use Rattle.prim_types.proofs.PartWrites.{begins, part_size, part_there, part_step, part_ends}
use Rattle.prim_types.proofs.texts.fill_by_parts.Goals as goal

pub loop-from-init : goal.loop-from-init
loop-from-init g c =
    let texts = g.C.Constants.text_of c.args.consts.now in
    let tuples = g.C.Constants.items_of c.args.consts.now in
    let h = c.args.arena.now in
    let text = text_in texts tuples h c.args.raw c.args.v in
    (begins h c.args.t.cell c.requires.text 0 (take 0 text), omega arith)

pub put_next-from-requires-clause-leads : goal.put_next-from-requires-clause-leads
put_next-from-requires-clause-leads g c =
    let texts = g.C.Constants.text_of c.args.consts.now in
    let tuples = g.C.Constants.items_of c.args.consts.now in
    let h = c.args.arena.now in
    let t = c.args.t.cell in
    let is = c.requires.text in
    let v = c.args.v in
    let raw = c.args.raw in
    let text = text_in texts tuples h raw v in
    let a = c.loop-from.arena in
    let from = c.loop-from.from in
    let room : length (text_at h t) ≡ length text = c.requires.room ∙ sym c.requires.bytes in
    let le : from ≤ length text = omega (arith, c.loop-from.invariant.1, c.requires.bytes) in
    let e = c.loop-from.invariant.0 in
    let later : Later h.objects a.objects = subst (λ (w : Heap Value ℕ). Later h.objects w.objects) (sym e) (later_text h t _ is) in
    leads_later later v c.requires.leads

pub put_next-from-requires-clause-all_told : goal.put_next-from-requires-clause-all_told
put_next-from-requires-clause-all_told g c =
    let texts = g.C.Constants.text_of c.args.consts.now in
    let tuples = g.C.Constants.items_of c.args.consts.now in
    let h = c.args.arena.now in
    let t = c.args.t.cell in
    let is = c.requires.text in
    let v = c.args.v in
    let raw = c.args.raw in
    let text = text_in texts tuples h raw v in
    let a = c.loop-from.arena in
    let from = c.loop-from.from in
    let room : length (text_at h t) ≡ length text = c.requires.room ∙ sym c.requires.bytes in
    let le : from ≤ length text = omega (arith, c.loop-from.invariant.1, c.requires.bytes) in
    let e = c.loop-from.invariant.0 in
    subst (λ (w : Heap Value ℕ). AllTold texts tuples w.objects) (sym e) (told_put texts tuples h t AText is c.requires.all_told (TextObject (paste (text_at h t) 0 (take from text) from)) (All-nil (IsTold texts tuples)))

pub put_next-from-requires-clause-text : goal.put_next-from-requires-clause-text
put_next-from-requires-clause-text g c =
    let texts = g.C.Constants.text_of c.args.consts.now in
    let tuples = g.C.Constants.items_of c.args.consts.now in
    let h = c.args.arena.now in
    let t = c.args.t.cell in
    let is = c.requires.text in
    let v = c.args.v in
    let raw = c.args.raw in
    let text = text_in texts tuples h raw v in
    let a = c.loop-from.arena in
    let from = c.loop-from.from in
    let room : length (text_at h t) ≡ length text = c.requires.room ∙ sym c.requires.bytes in
    let le : from ≤ length text = omega (arith, c.loop-from.invariant.1, c.requires.bytes) in
    let e = c.loop-from.invariant.0 in
    let later : Later h.objects a.objects = subst (λ (w : Heap Value ℕ). Later h.objects w.objects) (sym e) (later_text h t _ is) in
    later.keeps AText t is

pub put_next-from-requires-clause-few : goal.put_next-from-requires-clause-few
put_next-from-requires-clause-few g c =
    let texts = g.C.Constants.text_of c.args.consts.now in
    let tuples = g.C.Constants.items_of c.args.consts.now in
    let h = c.args.arena.now in
    let t = c.args.t.cell in
    let is = c.requires.text in
    let v = c.args.v in
    let raw = c.args.raw in
    let text = text_in texts tuples h raw v in
    let a = c.loop-from.arena in
    let from = c.loop-from.from in
    let room : length (text_at h t) ≡ length text = c.requires.room ∙ sym c.requires.bytes in
    let le : from ≤ length text = omega (arith, c.loop-from.invariant.1, c.requires.bytes) in
    let e = c.loop-from.invariant.0 in
    omega (arith, part_there h t is text room a from le e, c.requires.bytes)

pub put_next-from-requires-clause-found : goal.put_next-from-requires-clause-found
put_next-from-requires-clause-found g c =
    let texts = g.C.Constants.text_of c.args.consts.now in
    let tuples = g.C.Constants.items_of c.args.consts.now in
    let h = c.args.arena.now in
    let t = c.args.t.cell in
    let is = c.requires.text in
    let v = c.args.v in
    let raw = c.args.raw in
    let text = text_in texts tuples h raw v in
    let a = c.loop-from.arena in
    let from = c.loop-from.from in
    let room : length (text_at h t) ≡ length text = c.requires.room ∙ sym c.requires.bytes in
    let le : from ≤ length text = omega (arith, c.loop-from.invariant.1, c.requires.bytes) in
    let e = c.loop-from.invariant.0 in
    let same : text_of (plain_heap texts tuples a) raw (plain texts tuples v) ≡ text_of (plain_heap texts tuples h) raw (plain texts tuples v) =
    ap (λ (w : Heap Value ℕ). text_of (plain_heap texts tuples w) raw (plain texts tuples v)) e ∙ c.requires.apart (paste (text_at h t) 0 (take from text) from) in
    subst (λ (walk : Walk (List ℕ)). IsSome walk.answer) (sym same) c.requires.found

pub put_next-from-requires-clause-room : goal.put_next-from-requires-clause-room
put_next-from-requires-clause-room g c =
    let texts = g.C.Constants.text_of c.args.consts.now in
    let tuples = g.C.Constants.items_of c.args.consts.now in
    let h = c.args.arena.now in
    let t = c.args.t.cell in
    let is = c.requires.text in
    let v = c.args.v in
    let raw = c.args.raw in
    let text = text_in texts tuples h raw v in
    let a = c.loop-from.arena in
    let from = c.loop-from.from in
    let room : length (text_at h t) ≡ length text = c.requires.room ∙ sym c.requires.bytes in
    let le : from ≤ length text = omega (arith, c.loop-from.invariant.1, c.requires.bytes) in
    let e = c.loop-from.invariant.0 in
    let same : text_of (plain_heap texts tuples a) raw (plain texts tuples v) ≡ text_of (plain_heap texts tuples h) raw (plain texts tuples v) =
    ap (λ (w : Heap Value ℕ). text_of (plain_heap texts tuples w) raw (plain texts tuples v)) e ∙ c.requires.apart (paste (text_at h t) 0 (take from text) from) in
    part_there h t is text room a from le e ∙ ap (λ (walk : Walk (List ℕ)). length (or_nothing walk.answer)) (sym same)

pub put_next-from-requires-clause-within : goal.put_next-from-requires-clause-within
put_next-from-requires-clause-within g c =
    let texts = g.C.Constants.text_of c.args.consts.now in
    let tuples = g.C.Constants.items_of c.args.consts.now in
    let h = c.args.arena.now in
    let t = c.args.t.cell in
    let is = c.requires.text in
    let v = c.args.v in
    let raw = c.args.raw in
    let text = text_in texts tuples h raw v in
    let a = c.loop-from.arena in
    let from = c.loop-from.from in
    let room : length (text_at h t) ≡ length text = c.requires.room ∙ sym c.requires.bytes in
    let le : from ≤ length text = omega (arith, c.loop-from.invariant.1, c.requires.bytes) in
    let e = c.loop-from.invariant.0 in
    omega (arith, part_there h t is text room a from le e, c.requires.bytes, c.loop-from-test.true)

pub overflow_add-from : goal.overflow_add-from
overflow_add-from g c =
    let texts = g.C.Constants.text_of c.args.consts.now in
    let tuples = g.C.Constants.items_of c.args.consts.now in
    let h = c.args.arena.now in
    let t = c.args.t.cell in
    let is = c.requires.text in
    let v = c.args.v in
    let raw = c.args.raw in
    let text = text_in texts tuples h raw v in
    let a = c.loop-from.arena in
    let from = c.loop-from.from in
    let room : length (text_at h t) ≡ length text = c.requires.room ∙ sym c.requires.bytes in
    let le : from ≤ length text = omega (arith, c.loop-from.invariant.1, c.requires.bytes) in
    let e = c.loop-from.invariant.0 in
    omega (arith, part_there h t is text room a from le e, c.requires.bytes, c.loop-from-test.true, c.put_next-from.ensures.count)

pub loop-from-preserved : goal.loop-from-preserved
loop-from-preserved g c =
    let texts = g.C.Constants.text_of c.args.consts.now in
    let tuples = g.C.Constants.items_of c.args.consts.now in
    let h = c.args.arena.now in
    let t = c.args.t.cell in
    let is = c.requires.text in
    let v = c.args.v in
    let raw = c.args.raw in
    let text = text_in texts tuples h raw v in
    let a = c.loop-from.arena in
    let from = c.loop-from.from in
    let room : length (text_at h t) ≡ length text = c.requires.room ∙ sym c.requires.bytes in
    let le : from ≤ length text = omega (arith, c.loop-from.invariant.1, c.requires.bytes) in
    let e = c.loop-from.invariant.0 in
    let same : text_of (plain_heap texts tuples a) raw (plain texts tuples v) ≡ text_of (plain_heap texts tuples h) raw (plain texts tuples v) =
    ap (λ (w : Heap Value ℕ). text_of (plain_heap texts tuples w) raw (plain texts tuples v)) e ∙ c.requires.apart (paste (text_at h t) 0 (take from text) from) in
    let b = c.put_next-from.new.arena in
    let put = c.put_next-from.ensures.put ∙ ap (λ (walk : Walk (List ℕ)). with_text a t (written_over from (take 4096 (drop from (or_nothing walk.answer))) (text_at a t))) same in
    let there = part_there h t is text room a from le e in
    let size = part_size 4096 text from in
    let count : from + length (take 4096 (drop from text)) ≡ from + c.put_next-from.result = omega (arith, there, size, c.put_next-from.ensures.count) in (
      part_step h t is text room a b from le e put ∙ ap (λ (n : ℕ). with_text h t (paste (text_at h t) 0 (take n text) n)) count,
      omega (arith, there, c.requires.bytes, c.loop-from-test.true, c.put_next-from.ensures.count),
    )

pub loop-from-smaller : goal.loop-from-smaller
loop-from-smaller g c =
    let texts = g.C.Constants.text_of c.args.consts.now in
    let tuples = g.C.Constants.items_of c.args.consts.now in
    let h = c.args.arena.now in
    let t = c.args.t.cell in
    let is = c.requires.text in
    let v = c.args.v in
    let raw = c.args.raw in
    let text = text_in texts tuples h raw v in
    let a = c.loop-from.arena in
    let from = c.loop-from.from in
    let room : length (text_at h t) ≡ length text = c.requires.room ∙ sym c.requires.bytes in
    let le : from ≤ length text = omega (arith, c.loop-from.invariant.1, c.requires.bytes) in
    let e = c.loop-from.invariant.0 in
    omega (arith, part_there h t is text room a from le e, c.requires.bytes, c.loop-from-test.true, c.put_next-from.ensures.count)

pub returns-clause-filled : goal.returns-clause-filled
returns-clause-filled g c =
    let texts = g.C.Constants.text_of c.args.consts.now in
    let tuples = g.C.Constants.items_of c.args.consts.now in
    let h = c.args.arena.now in
    let t = c.args.t.cell in
    let is = c.requires.text in
    let v = c.args.v in
    let raw = c.args.raw in
    let text = text_in texts tuples h raw v in
    let a = c.loop-from.arena in
    let from = c.loop-from.from in
    let room : length (text_at h t) ≡ length text = c.requires.room ∙ sym c.requires.bytes in
    let le : from ≤ length text = omega (arith, c.loop-from.invariant.1, c.requires.bytes) in
    let e = c.loop-from.invariant.0 in
    part_ends h t is text room a from (omega (arith, c.loop-from.invariant.1, c.requires.bytes, c.loop-from-test.false)) e

pub returns-clause-later : goal.returns-clause-later
returns-clause-later g c =
    let texts = g.C.Constants.text_of c.args.consts.now in
    let tuples = g.C.Constants.items_of c.args.consts.now in
    let h = c.args.arena.now in
    let t = c.args.t.cell in
    let is = c.requires.text in
    let v = c.args.v in
    let raw = c.args.raw in
    let text = text_in texts tuples h raw v in
    let a = c.loop-from.arena in
    let from = c.loop-from.from in
    let room : length (text_at h t) ≡ length text = c.requires.room ∙ sym c.requires.bytes in
    let le : from ≤ length text = omega (arith, c.loop-from.invariant.1, c.requires.bytes) in
    let e = c.loop-from.invariant.0 in
    let later : Later h.objects a.objects = subst (λ (w : Heap Value ℕ). Later h.objects w.objects) (sym e) (later_text h t _ is) in
    later
