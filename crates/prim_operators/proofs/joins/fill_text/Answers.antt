use Rattle.std.proofs.Common.{◌≡◌, ℕ, ◌≤◌, List, length, sym, ap, ◌∙◌, subst, arith}
use Rattle.prim_faults.specs.arena_heap.declared.value.Value.{Value}
use Rattle.prim_faults.specs.mpy_base.World.{Heap, AText, Later, text_at, with_text}
use Rattle.prim_faults.proofs.mpy_base_lemmas.Worlds.{later_text}
use Rattle.prim_operators.specs.Sources.{source_bytes}
use Rattle.prim_operators.proofs.TextFills.{partly, begins, source_there, text_length, step, ends, sources_later}
use Rattle.prim_operators.proofs.joins.fill_text.Goals as goal

pub loop-at-init : goal.loop-at-init
loop-at-init g c =
    let texts = g.C.Constants.text_of c.args.consts.now in
    let tuples = g.C.Constants.items_of c.args.consts.now in
    let h = c.args.arena.now in
    let t = c.args.t.cell in
    let is = c.requires.text in
    let source = c.args.source in
    let apart = c.requires.apart in
    let count = c.args.count in
    begins texts h t is source apart count c.requires.bytes c.requires.room

pub byte_at-byte-requires-clause-strs : goal.byte_at-byte-requires-clause-strs
byte_at-byte-requires-clause-strs g c =
    let texts = g.C.Constants.text_of c.args.consts.now in
    let tuples = g.C.Constants.items_of c.args.consts.now in
    let h = c.args.arena.now in
    let t = c.args.t.cell in
    let is = c.requires.text in
    let source = c.args.source in
    let apart = c.requires.apart in
    let count = c.args.count in
    let later : Later h.objects c.loop-at.arena.objects = subst (λ (w : Heap Value ℕ). Later h.objects w.objects) (sym c.loop-at.invariant) (later_text h t _ is) in
    sources_later texts tuples later source c.requires.strs

pub byte_at-byte-requires-clause-within : goal.byte_at-byte-requires-clause-within
byte_at-byte-requires-clause-within g c =
    let texts = g.C.Constants.text_of c.args.consts.now in
    let tuples = g.C.Constants.items_of c.args.consts.now in
    let h = c.args.arena.now in
    let t = c.args.t.cell in
    let is = c.requires.text in
    let source = c.args.source in
    let apart = c.requires.apart in
    let count = c.args.count in
    let same = source_there texts h t is source apart count c.requires.bytes c.requires.room c.loop-at.arena c.loop-at.at c.loop-at.invariant in
    omega (arith, c.loop-at-test.true, c.requires.bytes, ap (λ (xs : List ℕ). length xs) same)

pub text_fill-requires-clause-text : goal.text_fill-requires-clause-text
text_fill-requires-clause-text g c =
    let texts = g.C.Constants.text_of c.args.consts.now in
    let tuples = g.C.Constants.items_of c.args.consts.now in
    let h = c.args.arena.now in
    let t = c.args.t.cell in
    let is = c.requires.text in
    let source = c.args.source in
    let apart = c.requires.apart in
    let count = c.args.count in
    let later : Later h.objects c.loop-at.arena.objects = subst (λ (w : Heap Value ℕ). Later h.objects w.objects) (sym c.loop-at.invariant) (later_text h t _ is) in
    later.keeps AText t is

pub text_fill-requires-clause-within : goal.text_fill-requires-clause-within
text_fill-requires-clause-within g c =
    let texts = g.C.Constants.text_of c.args.consts.now in
    let tuples = g.C.Constants.items_of c.args.consts.now in
    let h = c.args.arena.now in
    let t = c.args.t.cell in
    let is = c.requires.text in
    let source = c.args.source in
    let apart = c.requires.apart in
    let count = c.args.count in
    let le : c.loop-at.at ≤ count = omega arith in
    omega (arith, c.loop-at-test.true, text_length texts h t is source apart count c.requires.bytes c.requires.room c.loop-at.arena c.loop-at.at c.loop-at.invariant le)

pub loop-at-preserved : goal.loop-at-preserved
loop-at-preserved g c =
    let texts = g.C.Constants.text_of c.args.consts.now in
    let tuples = g.C.Constants.items_of c.args.consts.now in
    let h = c.args.arena.now in
    let t = c.args.t.cell in
    let is = c.requires.text in
    let source = c.args.source in
    let apart = c.requires.apart in
    let count = c.args.count in
    step texts h t is source apart count c.requires.bytes c.requires.room c.loop-at.arena c.text_fill.new.arena c.loop-at.at c.byte_at-byte.result c.loop-at.invariant c.loop-at-test.true c.byte_at-byte.ensures.byte c.text_fill.ensures.filled

pub returns-clause-filled : goal.returns-clause-filled
returns-clause-filled g c =
    let texts = g.C.Constants.text_of c.args.consts.now in
    let tuples = g.C.Constants.items_of c.args.consts.now in
    let h = c.args.arena.now in
    let t = c.args.t.cell in
    let is = c.requires.text in
    let source = c.args.source in
    let apart = c.requires.apart in
    let count = c.args.count in
    ends texts h t is source apart count c.requires.bytes c.requires.room c.loop-at.arena
    (let end : c.loop-at.at ≡ count = omega arith in c.loop-at.invariant ∙ ap (λ (k : ℕ). with_text h t (partly (source_bytes texts h source) (text_at h t) k)) end)

pub returns-clause-later : goal.returns-clause-later
returns-clause-later g c =
    let texts = g.C.Constants.text_of c.args.consts.now in
    let tuples = g.C.Constants.items_of c.args.consts.now in
    let h = c.args.arena.now in
    let t = c.args.t.cell in
    let is = c.requires.text in
    let source = c.args.source in
    let apart = c.requires.apart in
    let count = c.args.count in
    let later : Later h.objects c.loop-at.arena.objects = subst (λ (w : Heap Value ℕ). Later h.objects w.objects) (sym c.loop-at.invariant) (later_text h t _ is) in
    later
