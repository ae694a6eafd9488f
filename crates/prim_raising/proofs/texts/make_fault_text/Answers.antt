use Rattle.std.proofs.Common.{◌≡◌, ℕ, ◌<◌, length, replicate, refl, sym, ap, ◌∙◌, subst, arith}
use Rattle.std.proofs.lemmas.List.{length-replicate}
use Rattle.std.proofs.lemmas.List.Elements.{All-nil}
use Rattle.mpy_base.specs.World.{TextObject, AText, with_text}
use Rattle.mpy_base.specs.Weights.{Made, Refused}
use Rattle.prim_types.specs.arena_heap.declared.value.Value.TheVariants as values
use Rattle.prim_types.specs.arena_heap.Constants.{IsTold}
use Rattle.prim_types.specs.py_primitives.Faults.{fault_text}
use Rattle.prim_types.specs.prim_walks.Plain.{plain_heap}
use Rattle.prim_types.specs.prim_faults.Faults.{plain_fault}
use Rattle.prim_types.proofs.prim_faults_lemmas.Outcomes.{made_outcome, refused_outcome}
use Rattle.prim_types.proofs.prim_operators_lemmas.TextFills.{filled_made, zeros_made, text_making}
use Rattle.prim_raising.proofs.FaultTexts.{known_later, apart_made, fault_made}
use Rattle.prim_raising.proofs.texts.make_fault_text.Goals as goal

pub fill_fault-requires-clause-known : goal.fill_fault-requires-clause-known
fill_fault-requires-clause-known g c =
    let texts = g.C.Constants.text_of c.args.consts.now in
    let tuples = g.C.Constants.items_of c.args.consts.now in
    known_later texts tuples c.make_text.ensures.later c.args.fault c.requires.known

pub fill_fault-requires-clause-apart : goal.fill_fault-requires-clause-apart
fill_fault-requires-clause-apart g c =
    let texts = g.C.Constants.text_of c.args.consts.now in
    let tuples = g.C.Constants.items_of c.args.consts.now in
    apart_made texts tuples _ c.in-Ok.ensures.made c.args.fault c.requires.known

pub fill_fault-requires-clause-few : goal.fill_fault-requires-clause-few
fill_fault-requires-clause-few g c =
    let fits = c.in-Ok.ensures.made.fits.bytes_fit in
    omega (arith, fits, length-replicate {A = ℕ} c.fault_len-len.result 0, zeros_made c.fault_len-len.result c.in-Ok.ensures.made, c.room_law.ensures.few_bytes)

pub fill_fault-requires-clause-room : goal.fill_fault-requires-clause-room
fill_fault-requires-clause-room g c =
    let texts = g.C.Constants.text_of c.args.consts.now in
    let tuples = g.C.Constants.items_of c.args.consts.now in
    let same = fault_made texts tuples _ c.in-Ok.ensures.made c.args.fault c.requires.known in
    zeros_made c.fault_len-len.result c.in-Ok.ensures.made ∙ (c.fault_len-len.ensures ∙ sym (ap (λ f. length (fault_text f)) same))

pub returns-in-Ok : goal.returns-in-Ok
returns-in-Ok g c =
    let texts = g.C.Constants.text_of c.args.consts.now in
    let tuples = g.C.Constants.items_of c.args.consts.now in
    let h = c.args.arena.now in
    let target = fault_text (plain_fault texts tuples h c.args.fault) in
    let len = c.fault_len-len.result in
    let some : 0 < length target = omega (arith, c.if-len-eq0.false, c.fault_len-len.ensures) in
    let made = c.make_text.new.self in
    let t = c.in-Ok.t in
    let m : Made h made t.cell (TextObject (replicate len 0)) = c.in-Ok.ensures.made in
    let new = c.fill_fault.new.arena in
    let filled = c.fill_fault.ensures.filled ∙ ap (λ f. with_text made t.cell (fault_text f)) (fault_made texts tuples _ m c.args.fault c.requires.known) in
    let all : length (replicate len 0) ≡ length target = length-replicate {A = ℕ} len 0 ∙ c.fault_len-len.ensures in
    made_outcome texts tuples h new (TextObject target) c.requires.all_told _ (text_making (plain_heap texts tuples h) target some) t.cell (values.Text t) (filled_made texts tuples (replicate len 0) m new target all filled) refl
    (record { meets = c.fill_fault.ensures.later.keeps AText t.cell c.in-Ok.ensures.kind; small = tt }) tt (All-nil (IsTold texts tuples))

pub returns-in-Err : goal.returns-in-Err
returns-in-Err g c =
    let texts = g.C.Constants.text_of c.args.consts.now in
    let tuples = g.C.Constants.items_of c.args.consts.now in
    let h = c.args.arena.now in
    let target = fault_text (plain_fault texts tuples h c.args.fault) in
    let some : 0 < length target = omega (arith, c.if-len-eq0.false, c.fault_len-len.ensures) in
    refused_outcome texts tuples h c.make_text.new.self (TextObject target) c.requires.all_told _ (text_making (plain_heap texts tuples h) target some) c.in-Err.room
    (subst (λ (n : ℕ). Refused h c.make_text.new.self c.in-Err.room 2 n) c.fault_len-len.ensures c.in-Err.ensures.refused)
