use Rattle.std.proofs.Common.{◌≡◌, ℕ, ◌<◌, List, length, replicate, Some, None, refl, sym, ap, ◌∙◌, subst, arith, get_or-set_other}
use Rattle.std.specs.Prelude.{IsSome}
use Rattle.std.proofs.lemmas.List.{length-replicate}
use Rattle.std.proofs.lemmas.List.Elements.{All-nil}
use Rattle.mpy_base.specs.World.{TextObject, AText, object, with_text}
use Rattle.mpy_base.specs.Weights.{Made, used}
use Rattle.mpy_base.proofs.Worlds.{object_before}
use Rattle.prim_builtins.specs.arena_heap.declared.value.Value.TheVariants as values
use Rattle.prim_builtins.specs.arena_heap.Constants.{IsTold}
use Rattle.prim_builtins.proofs.arena_heap_lemmas.Sounds.{leads_later}
use Rattle.prim_builtins.specs.arena_objects.Iterables.{or_nothing}
use Rattle.prim_builtins.proofs.arena_objects_lemmas.Tolds.{told_made}
use Rattle.prim_builtins.specs.py_values.Equality.{Walk}
use Rattle.prim_builtins.specs.prim_walks.Plain.{plain_heap}
use Rattle.prim_builtins.proofs.prim_faults_lemmas.Outcomes.{made_outcome, refused_outcome}
use Rattle.prim_builtins.proofs.prim_operators_lemmas.TextFills.{filled_made, bytes_made, zeros_made, refused_all, text_making}
use Rattle.prim_types.specs.Texts.{text_in}
use Rattle.prim_types.proofs.OldValues.{old_text}
use Rattle.prim_types.proofs.texts.make_filled.Goals as goal

pub fill_text-requires-clause-leads : goal.fill_text-requires-clause-leads
fill_text-requires-clause-leads g c = leads_later c.make_text.ensures.later c.args.v c.requires.leads

pub fill_text-requires-clause-all_told : goal.fill_text-requires-clause-all_told
fill_text-requires-clause-all_told g c =
    let texts = g.C.Constants.text_of c.args.consts.now in
    let tuples = g.C.Constants.items_of c.args.consts.now in
    let h = c.args.arena.now in
    let heap = plain_heap texts tuples h in
    let v = c.args.v in
    let raw = c.args.raw in
    let text = text_in texts tuples h raw v in
    let len = c.args.len in
    let made = c.make_text.new.self in
    let t = c.in-Ok.t.cell in
    let m : Made h made t (TextObject (replicate len 0)) = c.in-Ok.ensures.made in
    let before : (n : ℕ) → n < used h → object made.objects n ≡ object h.objects n = λ n lt. object_before m n lt in
    let same = old_text texts tuples h c.items_law.ensures c.sound_law.ensures made before v c.requires.leads raw in
    told_made texts tuples m c.requires.all_told (All-nil (IsTold texts tuples))

pub fill_text-requires-clause-found : goal.fill_text-requires-clause-found
fill_text-requires-clause-found g c =
    let texts = g.C.Constants.text_of c.args.consts.now in
    let tuples = g.C.Constants.items_of c.args.consts.now in
    let h = c.args.arena.now in
    let heap = plain_heap texts tuples h in
    let v = c.args.v in
    let raw = c.args.raw in
    let text = text_in texts tuples h raw v in
    let len = c.args.len in
    let made = c.make_text.new.self in
    let t = c.in-Ok.t.cell in
    let m : Made h made t (TextObject (replicate len 0)) = c.in-Ok.ensures.made in
    let before : (n : ℕ) → n < used h → object made.objects n ≡ object h.objects n = λ n lt. object_before m n lt in
    let same = old_text texts tuples h c.items_law.ensures c.sound_law.ensures made before v c.requires.leads raw in
    subst (λ (walk : Walk (List ℕ)). IsSome walk.answer) (sym same) c.requires.found

pub fill_text-requires-clause-apart : goal.fill_text-requires-clause-apart
fill_text-requires-clause-apart g c =
    let texts = g.C.Constants.text_of c.args.consts.now in
    let tuples = g.C.Constants.items_of c.args.consts.now in
    let h = c.args.arena.now in
    let heap = plain_heap texts tuples h in
    let v = c.args.v in
    let raw = c.args.raw in
    let text = text_in texts tuples h raw v in
    let len = c.args.len in
    let made = c.make_text.new.self in
    let t = c.in-Ok.t.cell in
    let m : Made h made t (TextObject (replicate len 0)) = c.in-Ok.ensures.made in
    let before : (n : ℕ) → n < used h → object made.objects n ≡ object h.objects n = λ n lt. object_before m n lt in
    let same = old_text texts tuples h c.items_law.ensures c.sound_law.ensures made before v c.requires.leads raw in
    λ bytes.
    let others : (n : ℕ) → n < used h → object (with_text made t bytes).objects n ≡ object h.objects n =
    λ n lt. get_or-set_other made.objects t n (Some (TextObject bytes)) None (let number = m.number in λ q. omega (arith, lt, q, number)) ∙ before n lt in
    old_text texts tuples h c.items_law.ensures c.sound_law.ensures (with_text made t bytes) others v c.requires.leads raw ∙ sym same

pub fill_text-requires-clause-bytes : goal.fill_text-requires-clause-bytes
fill_text-requires-clause-bytes g c =
    let texts = g.C.Constants.text_of c.args.consts.now in
    let tuples = g.C.Constants.items_of c.args.consts.now in
    let h = c.args.arena.now in
    let heap = plain_heap texts tuples h in
    let v = c.args.v in
    let raw = c.args.raw in
    let text = text_in texts tuples h raw v in
    let len = c.args.len in
    let made = c.make_text.new.self in
    let t = c.in-Ok.t.cell in
    let m : Made h made t (TextObject (replicate len 0)) = c.in-Ok.ensures.made in
    let before : (n : ℕ) → n < used h → object made.objects n ≡ object h.objects n = λ n lt. object_before m n lt in
    let same = old_text texts tuples h c.items_law.ensures c.sound_law.ensures made before v c.requires.leads raw in
    let end = bytes_made len m in
    let count = ap (λ (walk : Walk (List ℕ)). length (or_nothing walk.answer)) same in
    omega (arith, end, count, c.requires.len)

pub fill_text-requires-clause-room : goal.fill_text-requires-clause-room
fill_text-requires-clause-room g c =
    let texts = g.C.Constants.text_of c.args.consts.now in
    let tuples = g.C.Constants.items_of c.args.consts.now in
    let h = c.args.arena.now in
    let heap = plain_heap texts tuples h in
    let v = c.args.v in
    let raw = c.args.raw in
    let text = text_in texts tuples h raw v in
    let len = c.args.len in
    let made = c.make_text.new.self in
    let t = c.in-Ok.t.cell in
    let m : Made h made t (TextObject (replicate len 0)) = c.in-Ok.ensures.made in
    let before : (n : ℕ) → n < used h → object made.objects n ≡ object h.objects n = λ n lt. object_before m n lt in
    let same = old_text texts tuples h c.items_law.ensures c.sound_law.ensures made before v c.requires.leads raw in
    let end = bytes_made len m in
    omega (arith, end, zeros_made len m)

pub returns-in-Ok : goal.returns-in-Ok
returns-in-Ok g c =
    let texts = g.C.Constants.text_of c.args.consts.now in
    let tuples = g.C.Constants.items_of c.args.consts.now in
    let h = c.args.arena.now in
    let heap = plain_heap texts tuples h in
    let v = c.args.v in
    let raw = c.args.raw in
    let text = text_in texts tuples h raw v in
    let len = c.args.len in
    let made = c.make_text.new.self in
    let t = c.in-Ok.t.cell in
    let m : Made h made t (TextObject (replicate len 0)) = c.in-Ok.ensures.made in
    let before : (n : ℕ) → n < used h → object made.objects n ≡ object h.objects n = λ n lt. object_before m n lt in
    let same = old_text texts tuples h c.items_law.ensures c.sound_law.ensures made before v c.requires.leads raw in
    let new = c.fill_text.new.arena in
    let some : 0 < length text = omega (arith, c.if-len-eq0.false, c.requires.len) in
    let filled = c.fill_text.ensures.filled ∙ ap (λ (walk : Walk (List ℕ)). with_text made t (or_nothing walk.answer)) same in
    let all : length (replicate len 0) ≡ length text = omega (arith, bytes_made len m, length-replicate {A = ℕ} len 0, c.requires.len) in
    made_outcome texts tuples h new (TextObject text) c.requires.all_told _ (text_making heap text some) t (values.Text c.in-Ok.t) (filled_made texts tuples (replicate len 0) m new text all filled) refl
    (record { meets = c.fill_text.ensures.later.keeps AText t c.in-Ok.ensures.kind; small = tt }) tt (All-nil (IsTold texts tuples))

pub returns-in-Err : goal.returns-in-Err
returns-in-Err g c =
    let texts = g.C.Constants.text_of c.args.consts.now in
    let tuples = g.C.Constants.items_of c.args.consts.now in
    let h = c.args.arena.now in
    let heap = plain_heap texts tuples h in
    let v = c.args.v in
    let raw = c.args.raw in
    let text = text_in texts tuples h raw v in
    let len = c.args.len in
    let some : 0 < length text = omega (arith, c.if-len-eq0.false, c.requires.len) in
    refused_outcome texts tuples h c.make_text.new.self (TextObject text) c.requires.all_told _ (text_making heap text some) c.in-Err.room
    (refused_all len (length text) c.requires.len c.in-Err.ensures.refused)
