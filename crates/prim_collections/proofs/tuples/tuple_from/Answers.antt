use Rattle.std.proofs.Common.{ℕ, ◌+◌, ◌<◌, replicate, sym, subst, refl, arith, ◌∙◌}
use Rattle.prim_builtins.specs.arena_heap.declared.value.Value.TheVariants as values
use Rattle.prim_builtins.specs.mpy_base.World.{TupleObject, ATuple}
use Rattle.prim_builtins.specs.mpy_base.Weights.{Made, Refused}
use Rattle.prim_builtins.proofs.mpy_base_lemmas.Worlds.{later_later, later_made}
use Rattle.prim_builtins.proofs.arena_heap_lemmas.Sounds.{leads_later}
use Rattle.prim_collections.specs.Collected.{kept_length}
use Rattle.prim_collections.proofs.Kept.{iterable_kept}
use Rattle.prim_collections.proofs.MadeTuples.{tuple_empty, tuple_refused, lettered_later, lettered_told, tuple_apart, letters_are, values_length, tuple_room, tuple_filled, tuple_stops}
use Rattle.prim_collections.proofs.tuples.tuple_from.Goals as goal

pub returns-then-count-eq0 : goal.returns-then-count-eq0
returns-then-count-eq0 g c =
    let texts = g.C.Constants.text_of c.args.consts.now in
    let tuples = g.C.Constants.items_of c.args.consts.now in
    let h = c.args.arena.now in
    let v = c.args.v in
    let leads = c.requires.leads in
    let kept = iterable_kept texts tuples h v c.requires.iterable leads c.items_law.ensures.nested in
    tuple_empty texts tuples h v kept (sym c.kept_count-count.ensures ∙ c.if-count-eq0.true) c.requires.all_told

pub fill_tuple-requires-clause-tuple : goal.fill_tuple-requires-clause-tuple
fill_tuple-requires-clause-tuple g c =
    let texts = g.C.Constants.text_of c.args.consts.now in
    let tuples = g.C.Constants.items_of c.args.consts.now in
    let h = c.args.arena.now in
    let v = c.args.v in
    let leads = c.requires.leads in
    let kept = iterable_kept texts tuples h v c.requires.iterable leads c.items_law.ensures.nested in
    let some : 0 < kept_length texts tuples h v = omega (arith, c.if-count-eq0.false, c.kept_count-count.ensures) in
    let t = c.in-Ok.t.cell in
    let made = c.make_tuple.new.self in
    let m = subst (λ (n : ℕ). Made h made t (TupleObject (replicate n values.None))) c.kept_count-count.ensures c.in-Ok.ensures.made in
    let e = c.in-Ok-make_texts.ensures.ok in
    let letters = c.make_texts.new.arena in
    let first = c.used-first.result.cells in
    let count = c.kept_count-count.result in
    (lettered_later texts tuples h v kept c.requires.iterable leads m some letters e).keeps ATuple t c.in-Ok.ensures.kind

pub fill_tuple-requires-clause-leads : goal.fill_tuple-requires-clause-leads
fill_tuple-requires-clause-leads g c =
    let texts = g.C.Constants.text_of c.args.consts.now in
    let tuples = g.C.Constants.items_of c.args.consts.now in
    let h = c.args.arena.now in
    let v = c.args.v in
    let leads = c.requires.leads in
    let kept = iterable_kept texts tuples h v c.requires.iterable leads c.items_law.ensures.nested in
    let some : 0 < kept_length texts tuples h v = omega (arith, c.if-count-eq0.false, c.kept_count-count.ensures) in
    let t = c.in-Ok.t.cell in
    let made = c.make_tuple.new.self in
    let m = subst (λ (n : ℕ). Made h made t (TupleObject (replicate n values.None))) c.kept_count-count.ensures c.in-Ok.ensures.made in
    let e = c.in-Ok-make_texts.ensures.ok in
    let letters = c.make_texts.new.arena in
    let first = c.used-first.result.cells in
    let count = c.kept_count-count.result in
    leads_later (lettered_later texts tuples h v kept c.requires.iterable leads m some letters e) v (leads_later (later_made m) v leads)

pub fill_tuple-requires-clause-all_told : goal.fill_tuple-requires-clause-all_told
fill_tuple-requires-clause-all_told g c =
    let texts = g.C.Constants.text_of c.args.consts.now in
    let tuples = g.C.Constants.items_of c.args.consts.now in
    let h = c.args.arena.now in
    let v = c.args.v in
    let leads = c.requires.leads in
    let kept = iterable_kept texts tuples h v c.requires.iterable leads c.items_law.ensures.nested in
    let some : 0 < kept_length texts tuples h v = omega (arith, c.if-count-eq0.false, c.kept_count-count.ensures) in
    let t = c.in-Ok.t.cell in
    let made = c.make_tuple.new.self in
    let m = subst (λ (n : ℕ). Made h made t (TupleObject (replicate n values.None))) c.kept_count-count.ensures c.in-Ok.ensures.made in
    let e = c.in-Ok-make_texts.ensures.ok in
    let letters = c.make_texts.new.arena in
    let first = c.used-first.result.cells in
    let count = c.kept_count-count.result in
    lettered_told texts tuples h v kept c.requires.iterable leads m some c.requires.all_told letters e

pub fill_tuple-requires-clause-apart : goal.fill_tuple-requires-clause-apart
fill_tuple-requires-clause-apart g c =
    let texts = g.C.Constants.text_of c.args.consts.now in
    let tuples = g.C.Constants.items_of c.args.consts.now in
    let h = c.args.arena.now in
    let v = c.args.v in
    let leads = c.requires.leads in
    let kept = iterable_kept texts tuples h v c.requires.iterable leads c.items_law.ensures.nested in
    let some : 0 < kept_length texts tuples h v = omega (arith, c.if-count-eq0.false, c.kept_count-count.ensures) in
    let t = c.in-Ok.t.cell in
    let made = c.make_tuple.new.self in
    let m = subst (λ (n : ℕ). Made h made t (TupleObject (replicate n values.None))) c.kept_count-count.ensures c.in-Ok.ensures.made in
    let e = c.in-Ok-make_texts.ensures.ok in
    let letters = c.make_texts.new.arena in
    let first = c.used-first.result.cells in
    let count = c.kept_count-count.result in
    tuple_apart texts tuples h v kept c.requires.iterable leads m some

pub fill_tuple-requires-clause-letters : goal.fill_tuple-requires-clause-letters
fill_tuple-requires-clause-letters g c =
    let texts = g.C.Constants.text_of c.args.consts.now in
    let tuples = g.C.Constants.items_of c.args.consts.now in
    let h = c.args.arena.now in
    let v = c.args.v in
    let leads = c.requires.leads in
    let kept = iterable_kept texts tuples h v c.requires.iterable leads c.items_law.ensures.nested in
    let some : 0 < kept_length texts tuples h v = omega (arith, c.if-count-eq0.false, c.kept_count-count.ensures) in
    let t = c.in-Ok.t.cell in
    let made = c.make_tuple.new.self in
    let m = subst (λ (n : ℕ). Made h made t (TupleObject (replicate n values.None))) c.kept_count-count.ensures c.in-Ok.ensures.made in
    let e = c.in-Ok-make_texts.ensures.ok in
    let letters = c.make_texts.new.arena in
    let first = c.used-first.result.cells in
    let count = c.kept_count-count.result in
    letters_are texts tuples h v kept c.requires.iterable leads m some letters first count e c.used-first.ensures.cells c.kept_count-count.ensures

pub fill_tuple-requires-clause-items : goal.fill_tuple-requires-clause-items
fill_tuple-requires-clause-items g c =
    let texts = g.C.Constants.text_of c.args.consts.now in
    let tuples = g.C.Constants.items_of c.args.consts.now in
    let h = c.args.arena.now in
    let v = c.args.v in
    let leads = c.requires.leads in
    let kept = iterable_kept texts tuples h v c.requires.iterable leads c.items_law.ensures.nested in
    let some : 0 < kept_length texts tuples h v = omega (arith, c.if-count-eq0.false, c.kept_count-count.ensures) in
    let t = c.in-Ok.t.cell in
    let made = c.make_tuple.new.self in
    let m = subst (λ (n : ℕ). Made h made t (TupleObject (replicate n values.None))) c.kept_count-count.ensures c.in-Ok.ensures.made in
    let e = c.in-Ok-make_texts.ensures.ok in
    let letters = c.make_texts.new.arena in
    let first = c.used-first.result.cells in
    let count = c.kept_count-count.result in
    values_length texts tuples h v kept c.requires.iterable leads m some letters first count e c.used-first.ensures.cells c.kept_count-count.ensures

pub fill_tuple-requires-clause-room : goal.fill_tuple-requires-clause-room
fill_tuple-requires-clause-room g c =
    let texts = g.C.Constants.text_of c.args.consts.now in
    let tuples = g.C.Constants.items_of c.args.consts.now in
    let h = c.args.arena.now in
    let v = c.args.v in
    let leads = c.requires.leads in
    let kept = iterable_kept texts tuples h v c.requires.iterable leads c.items_law.ensures.nested in
    let some : 0 < kept_length texts tuples h v = omega (arith, c.if-count-eq0.false, c.kept_count-count.ensures) in
    let t = c.in-Ok.t.cell in
    let made = c.make_tuple.new.self in
    let m = subst (λ (n : ℕ). Made h made t (TupleObject (replicate n values.None))) c.kept_count-count.ensures c.in-Ok.ensures.made in
    let e = c.in-Ok-make_texts.ensures.ok in
    let letters = c.make_texts.new.arena in
    let first = c.used-first.result.cells in
    let count = c.kept_count-count.result in
    tuple_room texts tuples h v kept c.requires.iterable leads m some letters count e c.kept_count-count.ensures

pub returns-in-Ok-make_texts : goal.returns-in-Ok-make_texts
returns-in-Ok-make_texts g c =
    let texts = g.C.Constants.text_of c.args.consts.now in
    let tuples = g.C.Constants.items_of c.args.consts.now in
    let h = c.args.arena.now in
    let v = c.args.v in
    let leads = c.requires.leads in
    let kept = iterable_kept texts tuples h v c.requires.iterable leads c.items_law.ensures.nested in
    let some : 0 < kept_length texts tuples h v = omega (arith, c.if-count-eq0.false, c.kept_count-count.ensures) in
    let t = c.in-Ok.t.cell in
    let made = c.make_tuple.new.self in
    let m = subst (λ (n : ℕ). Made h made t (TupleObject (replicate n values.None))) c.kept_count-count.ensures c.in-Ok.ensures.made in
    let e = c.in-Ok-make_texts.ensures.ok in
    let letters = c.make_texts.new.arena in
    let first = c.used-first.result.cells in
    let count = c.kept_count-count.result in
    let later = later_later (lettered_later texts tuples h v kept c.requires.iterable leads m some letters e) c.fill_tuple.ensures.later in
    tuple_filled texts tuples h v kept c.requires.iterable leads m some letters c.fill_tuple.new.arena first count c.in-Ok.t e c.used-first.ensures.cells c.kept_count-count.ensures refl c.fill_tuple.ensures.filled c.in-Ok-make_texts.ensures.fits
    (later_later (later_made m) later) c.fill_tuple.ensures.all_told (record { meets = later.keeps ATuple t c.in-Ok.ensures.kind; small = tt })

pub returns-in-Err-make_texts : goal.returns-in-Err-make_texts
returns-in-Err-make_texts g c =
    let texts = g.C.Constants.text_of c.args.consts.now in
    let tuples = g.C.Constants.items_of c.args.consts.now in
    let h = c.args.arena.now in
    let v = c.args.v in
    let leads = c.requires.leads in
    let kept = iterable_kept texts tuples h v c.requires.iterable leads c.items_law.ensures.nested in
    let some : 0 < kept_length texts tuples h v = omega (arith, c.if-count-eq0.false, c.kept_count-count.ensures) in
    let t = c.in-Ok.t.cell in
    let made = c.make_tuple.new.self in
    let m = subst (λ (n : ℕ). Made h made t (TupleObject (replicate n values.None))) c.kept_count-count.ensures c.in-Ok.ensures.made in
    tuple_stops texts tuples h v kept c.requires.iterable leads m some c.requires.all_told c.make_texts.new.arena c.in-Err-make_texts.room c.in-Err-make_texts.ensures.refused

pub returns-in-Err : goal.returns-in-Err
returns-in-Err g c =
    let texts = g.C.Constants.text_of c.args.consts.now in
    let tuples = g.C.Constants.items_of c.args.consts.now in
    let h = c.args.arena.now in
    let v = c.args.v in
    let leads = c.requires.leads in
    let kept = iterable_kept texts tuples h v c.requires.iterable leads c.items_law.ensures.nested in
    let some : 0 < kept_length texts tuples h v = omega (arith, c.if-count-eq0.false, c.kept_count-count.ensures) in
    let r = subst (λ (n : ℕ). Refused h c.make_tuple.new.self c.in-Err.room (1 + n) 0) c.kept_count-count.ensures c.in-Err.ensures.refused in
    tuple_refused texts tuples h v kept c.make_tuple.new.self c.in-Err.room some r c.requires.all_told
