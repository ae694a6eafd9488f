use Rattle.std.proofs.Common.{◌≡◌, ℕ, ◌<◌, List, length, replicate, refl, ap, ◌∙◌, arith}
use Rattle.std.proofs.lemmas.List.Elements.{All-nil}
use Rattle.prim_faults.specs.mpy_base.World.{TextObject, AText, with_text}
use Rattle.std.proofs.lemmas.List.{length-replicate}
use Rattle.prim_faults.specs.mpy_base.Weights.{Made}
use Rattle.prim_faults.specs.arena_heap.declared.value.Value.TheVariants as values
use Rattle.prim_faults.specs.arena_heap.Constants.{IsTold}
use Rattle.prim_faults.specs.prim_walks.Plain.{plain_heap}
use Rattle.prim_faults.proofs.Outcomes.{made_outcome, refused_outcome}
use Rattle.prim_operators.specs.Sources.{source_bytes}
use Rattle.prim_operators.proofs.TextFills.{sources_later, source_made, apart_made, filled_made, bytes_made, zeros_made, refused_all, text_making}
use Rattle.prim_operators.proofs.joins.make_joined.Goals as goal

pub fill_text-requires-clause-strs : goal.fill_text-requires-clause-strs
fill_text-requires-clause-strs g c =
    let texts = g.C.Constants.text_of c.args.consts.now in
    let tuples = g.C.Constants.items_of c.args.consts.now in
    let h = c.args.arena.now in
    let heap = plain_heap texts tuples h in
    let source = c.args.source in
    let target = source_bytes texts h source in
    let len = c.bytes_len-len.result in
    let made = c.make_text.new.self in
    let m : Made h made c.in-Ok.t.cell (TextObject (replicate len 0)) = c.in-Ok.ensures.made in
    let same = source_made texts tuples (replicate len 0) m source c.requires.strs in
    sources_later texts tuples c.make_text.ensures.later source c.requires.strs

pub fill_text-requires-clause-apart : goal.fill_text-requires-clause-apart
fill_text-requires-clause-apart g c =
    let texts = g.C.Constants.text_of c.args.consts.now in
    let tuples = g.C.Constants.items_of c.args.consts.now in
    let h = c.args.arena.now in
    let heap = plain_heap texts tuples h in
    let source = c.args.source in
    let target = source_bytes texts h source in
    let len = c.bytes_len-len.result in
    let made = c.make_text.new.self in
    let m : Made h made c.in-Ok.t.cell (TextObject (replicate len 0)) = c.in-Ok.ensures.made in
    let same = source_made texts tuples (replicate len 0) m source c.requires.strs in
    apart_made texts tuples (replicate len 0) m source c.requires.strs

pub fill_text-requires-clause-bytes : goal.fill_text-requires-clause-bytes
fill_text-requires-clause-bytes g c =
    let texts = g.C.Constants.text_of c.args.consts.now in
    let tuples = g.C.Constants.items_of c.args.consts.now in
    let h = c.args.arena.now in
    let heap = plain_heap texts tuples h in
    let source = c.args.source in
    let target = source_bytes texts h source in
    let len = c.bytes_len-len.result in
    let made = c.make_text.new.self in
    let m : Made h made c.in-Ok.t.cell (TextObject (replicate len 0)) = c.in-Ok.ensures.made in
    let same = source_made texts tuples (replicate len 0) m source c.requires.strs in
    let end = bytes_made len m in
    let count = ap (λ (xs : List ℕ). length xs) same in
    omega (arith, end, count, c.bytes_len-len.ensures)

pub fill_text-requires-clause-room : goal.fill_text-requires-clause-room
fill_text-requires-clause-room g c =
    let texts = g.C.Constants.text_of c.args.consts.now in
    let tuples = g.C.Constants.items_of c.args.consts.now in
    let h = c.args.arena.now in
    let heap = plain_heap texts tuples h in
    let source = c.args.source in
    let target = source_bytes texts h source in
    let len = c.bytes_len-len.result in
    let made = c.make_text.new.self in
    let m : Made h made c.in-Ok.t.cell (TextObject (replicate len 0)) = c.in-Ok.ensures.made in
    let same = source_made texts tuples (replicate len 0) m source c.requires.strs in
    let end = bytes_made len m in
    let count = ap (λ (xs : List ℕ). length xs) same in
    omega (arith, end, zeros_made len m)

pub returns-in-Ok : goal.returns-in-Ok
returns-in-Ok g c =
    let texts = g.C.Constants.text_of c.args.consts.now in
    let tuples = g.C.Constants.items_of c.args.consts.now in
    let h = c.args.arena.now in
    let heap = plain_heap texts tuples h in
    let source = c.args.source in
    let target = source_bytes texts h source in
    let some : 0 < length target = omega (arith, c.if-len-eq0.false, c.bytes_len-len.ensures) in
    let len = c.bytes_len-len.result in
    let made = c.make_text.new.self in
    let t = c.in-Ok.t in
    let new = c.fill_text.new.arena in
    let m : Made h made t.cell (TextObject (replicate len 0)) = c.in-Ok.ensures.made in
    let same = source_made texts tuples (replicate len 0) m source c.requires.strs in
    let filled = c.fill_text.ensures.filled ∙ ap (λ (bs : List ℕ). with_text made t.cell bs) same in
    let all : length (replicate len 0) ≡ length target = omega (arith, bytes_made len m, length-replicate {A = ℕ} len 0, c.bytes_len-len.ensures) in
    made_outcome texts tuples h new (TextObject target) c.requires.all_told _ (text_making heap target some) t.cell (values.Text t) (filled_made texts tuples (replicate len 0) m new target all filled) refl
    (record { meets = c.fill_text.ensures.later.keeps AText t.cell c.in-Ok.ensures.kind; small = tt }) tt (All-nil (IsTold texts tuples))

pub returns-in-Err : goal.returns-in-Err
returns-in-Err g c =
    let texts = g.C.Constants.text_of c.args.consts.now in
    let tuples = g.C.Constants.items_of c.args.consts.now in
    let h = c.args.arena.now in
    let heap = plain_heap texts tuples h in
    let source = c.args.source in
    let target = source_bytes texts h source in
    let some : 0 < length target = omega (arith, c.if-len-eq0.false, c.bytes_len-len.ensures) in
    refused_outcome texts tuples h c.make_text.new.self (TextObject target) c.requires.all_told _ (text_making heap target some) c.in-Err.room
    (refused_all c.bytes_len-len.result (length target) c.bytes_len-len.ensures c.in-Err.ensures.refused)
