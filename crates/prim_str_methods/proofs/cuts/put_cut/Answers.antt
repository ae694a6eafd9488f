use Rattle.std.proofs.Common.{◌≡◌, ℕ, ◌+◌, ◌≤◌, List, [], length, take, drop, get_or, set, sym, ap, ap₂, ◌∙◌, arith, take_all}
use Rattle.std.proofs.lemmas.List.{length-take-le, get_or-take, get_or-drop}
use Rattle.mpy_base.specs.World.{AText, text_at, with_text}
use Rattle.prim_builtins.specs.arena_objects.Iterables.{spelled}
use Rattle.prim_str_methods.specs.Parts.{cut_bytes, written}
use Rattle.prim_str_methods.proofs.Writings.{written_none, written_length, written_more, same_text, text_now, later_now, put_again, spelled_apart, known_later, cut_length}
use Rattle.prim_str_methods.proofs.cuts.put_cut.Goals as goal

pub loop-k-init : goal.loop-k-init
loop-k-init g c =
    let texts = g.C.Constants.text_of c.args.consts.now in
    let tuples = g.C.Constants.items_of c.args.consts.now in
    let h = c.args.arena.now in
    let t = c.args.t.cell in
    let is = c.requires.text in
    let cut = c.args.cut in
    let from = c.args.from in
    let bytes = cut_bytes texts h cut in
    let start = text_at h t in
    let whole : length bytes ≡ cut.len = cut_length texts tuples h cut c.requires.cut in
    same_text texts tuples h t is (written start from []) (written_none start from)

pub str_byte-byte-requires-clause-str : goal.str_byte-byte-requires-clause-str
str_byte-byte-requires-clause-str g c =
    let texts = g.C.Constants.text_of c.args.consts.now in
    let tuples = g.C.Constants.items_of c.args.consts.now in
    let h = c.args.arena.now in
    let t = c.args.t.cell in
    let is = c.requires.text in
    let cut = c.args.cut in
    let from = c.args.from in
    let bytes = cut_bytes texts h cut in
    let start = text_at h t in
    let whole : length bytes ≡ cut.len = cut_length texts tuples h cut c.requires.cut in
    let a = c.loop-k.arena in
    let k = c.loop-k.k in
    let here = written start from (take k bytes) in
    let same : spelled texts a cut.of ≡ spelled texts h cut.of = spelled_apart texts tuples h t is a here cut.of c.requires.apart c.loop-k.invariant in
    known_later texts tuples (later_now texts tuples h t is a here c.loop-k.invariant) cut.of c.requires.cut.str

pub str_byte-byte-requires-clause-within : goal.str_byte-byte-requires-clause-within
str_byte-byte-requires-clause-within g c =
    let texts = g.C.Constants.text_of c.args.consts.now in
    let tuples = g.C.Constants.items_of c.args.consts.now in
    let h = c.args.arena.now in
    let t = c.args.t.cell in
    let is = c.requires.text in
    let cut = c.args.cut in
    let from = c.args.from in
    let bytes = cut_bytes texts h cut in
    let start = text_at h t in
    let whole : length bytes ≡ cut.len = cut_length texts tuples h cut c.requires.cut in
    let a = c.loop-k.arena in
    let k = c.loop-k.k in
    let here = written start from (take k bytes) in
    let same : spelled texts a cut.of ≡ spelled texts h cut.of = spelled_apart texts tuples h t is a here cut.of c.requires.apart c.loop-k.invariant in
    let within = c.requires.cut.within in omega (arith, within, c.loop-k-test.true, ap length same)

pub text_fill-requires-clause-text : goal.text_fill-requires-clause-text
text_fill-requires-clause-text g c =
    let texts = g.C.Constants.text_of c.args.consts.now in
    let tuples = g.C.Constants.items_of c.args.consts.now in
    let h = c.args.arena.now in
    let t = c.args.t.cell in
    let is = c.requires.text in
    let cut = c.args.cut in
    let from = c.args.from in
    let bytes = cut_bytes texts h cut in
    let start = text_at h t in
    let whole : length bytes ≡ cut.len = cut_length texts tuples h cut c.requires.cut in
    let a = c.loop-k.arena in
    let k = c.loop-k.k in
    let here = written start from (take k bytes) in
    let same : spelled texts a cut.of ≡ spelled texts h cut.of = spelled_apart texts tuples h t is a here cut.of c.requires.apart c.loop-k.invariant in
    (later_now texts tuples h t is a here c.loop-k.invariant).keeps AText t is

pub text_fill-requires-clause-within : goal.text_fill-requires-clause-within
text_fill-requires-clause-within g c =
    let texts = g.C.Constants.text_of c.args.consts.now in
    let tuples = g.C.Constants.items_of c.args.consts.now in
    let h = c.args.arena.now in
    let t = c.args.t.cell in
    let is = c.requires.text in
    let cut = c.args.cut in
    let from = c.args.from in
    let bytes = cut_bytes texts h cut in
    let start = text_at h t in
    let whole : length bytes ≡ cut.len = cut_length texts tuples h cut c.requires.cut in
    let a = c.loop-k.arena in
    let k = c.loop-k.k in
    let here = written start from (take k bytes) in
    let same : spelled texts a cut.of ≡ spelled texts h cut.of = spelled_apart texts tuples h t is a here cut.of c.requires.apart c.loop-k.invariant in
    let le : k ≤ cut.len = omega arith in omega (arith, c.loop-k-test.true, c.requires.room, ap length (text_now texts tuples h t is a here c.loop-k.invariant), written_length start from (take k bytes) (omega (arith, whole, length-take-le k bytes (omega (arith, whole)))))

pub loop-k-preserved : goal.loop-k-preserved
loop-k-preserved g c =
    let texts = g.C.Constants.text_of c.args.consts.now in
    let tuples = g.C.Constants.items_of c.args.consts.now in
    let h = c.args.arena.now in
    let t = c.args.t.cell in
    let is = c.requires.text in
    let cut = c.args.cut in
    let from = c.args.from in
    let bytes = cut_bytes texts h cut in
    let start = text_at h t in
    let whole : length bytes ≡ cut.len = cut_length texts tuples h cut c.requires.cut in
    let a = c.loop-k.arena in
    let k = c.loop-k.k in
    let here = written start from (take k bytes) in
    let same : spelled texts a cut.of ≡ spelled texts h cut.of = spelled_apart texts tuples h t is a here cut.of c.requires.apart c.loop-k.invariant in
    let byte = c.str_byte-byte.result in
    let read : byte ≡ get_or bytes k 0 = c.str_byte-byte.ensures.byte ∙ (ap (λ (bs : List ℕ). get_or bs (cut.start + k) 0) same ∙ sym (get_or-take cut.len (drop cut.start (spelled texts h cut.of)) k 0 c.loop-k-test.true ∙ get_or-drop cut.start (spelled texts h cut.of) k 0)) in
    put_again texts tuples h t is a c.text_fill.new.arena here (written start from (take (k + 1) bytes)) c.loop-k.invariant
    (c.text_fill.ensures.filled ∙ ap (λ (bs : List ℕ). with_text a t bs)
    (ap₂ (λ (bs : List ℕ) (b : ℕ). set bs (from + k) b) (text_now texts tuples h t is a here c.loop-k.invariant) read
    ∙ written_more start from bytes k (omega (arith, whole, c.loop-k-test.true)) (omega (arith, whole, c.requires.room))))

pub returns-clause-put : goal.returns-clause-put
returns-clause-put g c =
    let texts = g.C.Constants.text_of c.args.consts.now in
    let tuples = g.C.Constants.items_of c.args.consts.now in
    let h = c.args.arena.now in
    let t = c.args.t.cell in
    let is = c.requires.text in
    let cut = c.args.cut in
    let from = c.args.from in
    let bytes = cut_bytes texts h cut in
    let start = text_at h t in
    let whole : length bytes ≡ cut.len = cut_length texts tuples h cut c.requires.cut in
    let a = c.loop-k.arena in
    let k = c.loop-k.k in
    let here = written start from (take k bytes) in
    let same : spelled texts a cut.of ≡ spelled texts h cut.of = spelled_apart texts tuples h t is a here cut.of c.requires.apart c.loop-k.invariant in
    let end : k ≡ cut.len = omega arith in c.loop-k.invariant ∙ ap (λ (bs : List ℕ). with_text h t (written start from bs)) (take_all k bytes (omega (arith, whole)))

pub returns-clause-later : goal.returns-clause-later
returns-clause-later g c =
    let texts = g.C.Constants.text_of c.args.consts.now in
    let tuples = g.C.Constants.items_of c.args.consts.now in
    let h = c.args.arena.now in
    let t = c.args.t.cell in
    let is = c.requires.text in
    let cut = c.args.cut in
    let from = c.args.from in
    let bytes = cut_bytes texts h cut in
    let start = text_at h t in
    let whole : length bytes ≡ cut.len = cut_length texts tuples h cut c.requires.cut in
    let a = c.loop-k.arena in
    let k = c.loop-k.k in
    let here = written start from (take k bytes) in
    let same : spelled texts a cut.of ≡ spelled texts h cut.of = spelled_apart texts tuples h t is a here cut.of c.requires.apart c.loop-k.invariant in
    later_now texts tuples h t is a here c.loop-k.invariant

pub overflow_add-cut : goal.overflow_add-cut
overflow_add-cut g c = let few = c.requires.cut.few in omega (arith, few, c.loop-k-test.true)
