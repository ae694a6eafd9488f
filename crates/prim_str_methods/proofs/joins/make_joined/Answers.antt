use Rattle.std.proofs.Common.{◌≡◌, ℕ, ◌<◌, List, length, replicate, refl, sym, ap, ap₂, ◌∙◌, arith}
use Rattle.std.proofs.lemmas.List.{length-replicate}
use Rattle.std.proofs.lemmas.List.Elements.{All-nil}
use Rattle.mpy_base.specs.World.{TextObject, Heap, AText, with_text}
use Rattle.mpy_base.specs.Weights.{Made}
use Rattle.prim_builtins.specs.arena_heap.declared.value.Value.{Value}
use Rattle.prim_builtins.specs.arena_heap.declared.value.Value.TheVariants as values
use Rattle.prim_builtins.specs.arena_heap.Constants.{IsTold}
use Rattle.prim_builtins.specs.arena_objects.Iterables.{spelled}
use Rattle.prim_builtins.specs.py_primitives.Texts.{joined}
use Rattle.prim_builtins.specs.prim_walks.Plain.{plain_heap}
use Rattle.prim_builtins.proofs.prim_faults_lemmas.Outcomes.{made_outcome, refused_outcome}
use Rattle.prim_builtins.proofs.prim_operators_lemmas.TextFills.{filled_made, zeros_made, refused_all, text_making}
use Rattle.prim_str_methods.specs.Parts.{parts_in, cut_bytes}
use Rattle.prim_str_methods.proofs.JoinOutcomes.{cut_made, parts_made, can_join_made}
use Rattle.prim_str_methods.proofs.joins.make_joined.Goals as goal

pub put_parts-requires-clause-join : goal.put_parts-requires-clause-join
put_parts-requires-clause-join g c =
    let texts = g.C.Constants.text_of c.args.consts.now in
    let tuples = g.C.Constants.items_of c.args.consts.now in
    let h = c.args.arena.now in
    let over = c.args.over in
    let len = c.args.len in
    let cut = c.whole-cut.result in
    let target = joined (spelled texts h c.args.separator) (parts_in texts h tuples over) in
    let some : 0 < length target = omega (arith, c.if-len-eq0.false, c.requires.len) in
    let made = c.make_text.new.self in
    let t = c.in-Ok.t.cell in
    let m : Made h made t (TextObject (replicate len 0)) = c.in-Ok.ensures.made in
    let parts = parts_made texts tuples (replicate len 0) m over c.requires.over c.requires.strs in
    let same : joined (cut_bytes texts made cut) (parts_in texts made tuples over) ≡ target =
    ap₂ (λ (s : List ℕ) (ps : List (List ℕ)). joined s ps) (cut_made texts tuples (replicate len 0) m cut c.whole-cut.ensures.cut ∙ c.whole-cut.ensures.bytes) parts in
    let fits = m.fits.bytes_fit in
    let size : made.byte_size ≡ h.byte_size = ap (λ (w : Heap Value ℕ). w.byte_size) m.world in
    let count : len ≡ length target = omega (arith, c.requires.len, fits, length-replicate {A = ℕ} len 0, size, c.room_law.ensures.few_bytes) in
    can_join_made texts tuples (replicate len 0) m over c.requires.over c.requires.strs cut c.whole-cut.ensures.cut c.in-Ok.ensures.kind c.requires.all_told

pub put_parts-requires-clause-count : goal.put_parts-requires-clause-count
put_parts-requires-clause-count g c =
    let texts = g.C.Constants.text_of c.args.consts.now in
    let tuples = g.C.Constants.items_of c.args.consts.now in
    let h = c.args.arena.now in
    let over = c.args.over in
    let len = c.args.len in
    let cut = c.whole-cut.result in
    let target = joined (spelled texts h c.args.separator) (parts_in texts h tuples over) in
    let some : 0 < length target = omega (arith, c.if-len-eq0.false, c.requires.len) in
    let made = c.make_text.new.self in
    let t = c.in-Ok.t.cell in
    let m : Made h made t (TextObject (replicate len 0)) = c.in-Ok.ensures.made in
    let parts = parts_made texts tuples (replicate len 0) m over c.requires.over c.requires.strs in
    let same : joined (cut_bytes texts made cut) (parts_in texts made tuples over) ≡ target =
    ap₂ (λ (s : List ℕ) (ps : List (List ℕ)). joined s ps) (cut_made texts tuples (replicate len 0) m cut c.whole-cut.ensures.cut ∙ c.whole-cut.ensures.bytes) parts in
    let fits = m.fits.bytes_fit in
    let size : made.byte_size ≡ h.byte_size = ap (λ (w : Heap Value ℕ). w.byte_size) m.world in
    let count : len ≡ length target = omega (arith, c.requires.len, fits, length-replicate {A = ℕ} len 0, size, c.room_law.ensures.few_bytes) in
    c.part_count-count.ensures.parts ∙ sym (ap (λ (ps : List (List ℕ)). length ps) parts)

pub put_parts-requires-clause-room : goal.put_parts-requires-clause-room
put_parts-requires-clause-room g c =
    let texts = g.C.Constants.text_of c.args.consts.now in
    let tuples = g.C.Constants.items_of c.args.consts.now in
    let h = c.args.arena.now in
    let over = c.args.over in
    let len = c.args.len in
    let cut = c.whole-cut.result in
    let target = joined (spelled texts h c.args.separator) (parts_in texts h tuples over) in
    let some : 0 < length target = omega (arith, c.if-len-eq0.false, c.requires.len) in
    let made = c.make_text.new.self in
    let t = c.in-Ok.t.cell in
    let m : Made h made t (TextObject (replicate len 0)) = c.in-Ok.ensures.made in
    let parts = parts_made texts tuples (replicate len 0) m over c.requires.over c.requires.strs in
    let same : joined (cut_bytes texts made cut) (parts_in texts made tuples over) ≡ target =
    ap₂ (λ (s : List ℕ) (ps : List (List ℕ)). joined s ps) (cut_made texts tuples (replicate len 0) m cut c.whole-cut.ensures.cut ∙ c.whole-cut.ensures.bytes) parts in
    let fits = m.fits.bytes_fit in
    let size : made.byte_size ≡ h.byte_size = ap (λ (w : Heap Value ℕ). w.byte_size) m.world in
    let count : len ≡ length target = omega (arith, c.requires.len, fits, length-replicate {A = ℕ} len 0, size, c.room_law.ensures.few_bytes) in
    omega (arith, ap (λ (bs : List ℕ). length bs) same, count, zeros_made len m)

pub returns-in-Ok : goal.returns-in-Ok
returns-in-Ok g c =
    let texts = g.C.Constants.text_of c.args.consts.now in
    let tuples = g.C.Constants.items_of c.args.consts.now in
    let h = c.args.arena.now in
    let over = c.args.over in
    let len = c.args.len in
    let cut = c.whole-cut.result in
    let target = joined (spelled texts h c.args.separator) (parts_in texts h tuples over) in
    let some : 0 < length target = omega (arith, c.if-len-eq0.false, c.requires.len) in
    let made = c.make_text.new.self in
    let t = c.in-Ok.t.cell in
    let m : Made h made t (TextObject (replicate len 0)) = c.in-Ok.ensures.made in
    let parts = parts_made texts tuples (replicate len 0) m over c.requires.over c.requires.strs in
    let same : joined (cut_bytes texts made cut) (parts_in texts made tuples over) ≡ target =
    ap₂ (λ (s : List ℕ) (ps : List (List ℕ)). joined s ps) (cut_made texts tuples (replicate len 0) m cut c.whole-cut.ensures.cut ∙ c.whole-cut.ensures.bytes) parts in
    let fits = m.fits.bytes_fit in
    let size : made.byte_size ≡ h.byte_size = ap (λ (w : Heap Value ℕ). w.byte_size) m.world in
    let count : len ≡ length target = omega (arith, c.requires.len, fits, length-replicate {A = ℕ} len 0, size, c.room_law.ensures.few_bytes) in
    let new = c.put_parts.new.arena in
    let filled = c.put_parts.ensures.put ∙ ap (λ (bs : List ℕ). with_text made t bs) same in
    made_outcome texts tuples h new (TextObject target) c.requires.all_told _ (text_making (plain_heap texts tuples h) target some) t (values.Text c.in-Ok.t)
    (filled_made texts tuples (replicate len 0) m new target (omega (arith, count, length-replicate {A = ℕ} len 0)) filled) refl
    (record { meets = c.put_parts.ensures.later.keeps AText t c.in-Ok.ensures.kind; small = tt }) tt (All-nil (IsTold texts tuples))

pub returns-in-Err : goal.returns-in-Err
returns-in-Err g c =
    let texts = g.C.Constants.text_of c.args.consts.now in
    let tuples = g.C.Constants.items_of c.args.consts.now in
    let h = c.args.arena.now in
    let over = c.args.over in
    let len = c.args.len in
    let cut = c.whole-cut.result in
    let target = joined (spelled texts h c.args.separator) (parts_in texts h tuples over) in
    let some : 0 < length target = omega (arith, c.if-len-eq0.false, c.requires.len) in
    refused_outcome texts tuples h c.make_text.new.self (TextObject target) c.requires.all_told _ (text_making (plain_heap texts tuples h) target some) c.in-Err.room
    (refused_all len (length target) c.requires.len c.in-Err.ensures.refused)
