use Rattle.std.proofs.Common.{◌≡◌, ℕ, ◌<◌, ◌≤◌, length, get_or, sym, ap, ◌∙◌, subst, arith}
use Rattle.prim_types.specs.arena_heap.declared.value.Value.{Value}
use Rattle.mpy_base.specs.World.{Heap, AText, Later}
use Rattle.mpy_base.proofs.Worlds.{later_text}
use Rattle.prim_types.specs.py_primitives.Faults.{fault_text}
use Rattle.prim_types.specs.prim_faults.Faults.{plain_fault}
use Rattle.prim_raising.proofs.FaultTexts.{begins, room_there, step, ends, known_later, fault_apart}
use Rattle.prim_raising.proofs.texts.fill_fault.Goals as goal

pub loop-at-init : goal.loop-at-init
loop-at-init g c = begins c.args.arena.now c.args.t.cell c.requires.text _ c.requires.room

pub fault_byte-byte-requires-clause-known : goal.fault_byte-byte-requires-clause-known
fault_byte-byte-requires-clause-known g c =
    let texts = g.C.Constants.text_of c.args.consts.now in
    let tuples = g.C.Constants.items_of c.args.consts.now in
    let h = c.args.arena.now in
    let later : Later h.objects c.loop-at.arena.objects = subst (λ (w : Heap Value ℕ). Later h.objects w.objects) (sym c.loop-at.invariant) (later_text h c.args.t.cell _ c.requires.text) in
    known_later texts tuples later c.args.fault c.requires.known

pub fault_byte-byte-requires-clause-within : goal.fault_byte-byte-requires-clause-within
fault_byte-byte-requires-clause-within g c =
    let texts = g.C.Constants.text_of c.args.consts.now in
    let tuples = g.C.Constants.items_of c.args.consts.now in
    let h = c.args.arena.now in
    let same = ap (λ (w : Heap Value ℕ). plain_fault texts tuples w c.args.fault) c.loop-at.invariant ∙ fault_apart texts tuples h c.args.t.cell _ c.args.fault c.requires.apart in
    omega (arith, c.loop-at-test.true, c.fault_len-at-end.ensures, ap (λ f. length (fault_text f)) same)

pub text_fill-requires-clause-text : goal.text_fill-requires-clause-text
text_fill-requires-clause-text g c =
    let h = c.args.arena.now in
    let later : Later h.objects c.loop-at.arena.objects = subst (λ (w : Heap Value ℕ). Later h.objects w.objects) (sym c.loop-at.invariant) (later_text h c.args.t.cell _ c.requires.text) in
    later.keeps AText c.args.t.cell c.requires.text

pub text_fill-requires-clause-within : goal.text_fill-requires-clause-within
text_fill-requires-clause-within g c =
    let target = fault_text (plain_fault (g.C.Constants.text_of c.args.consts.now) (g.C.Constants.items_of c.args.consts.now) c.args.arena.now c.args.fault) in
    let le : c.loop-at.at ≤ length target = omega (arith, c.loop-at-test.true, c.fault_len-at-end.ensures) in
    omega (arith, c.loop-at-test.true, c.fault_len-at-end.ensures, room_there c.args.arena.now c.args.t.cell c.requires.text target c.requires.room c.loop-at.arena c.loop-at.at c.loop-at.invariant le)

pub loop-at-preserved : goal.loop-at-preserved
loop-at-preserved g c =
    let texts = g.C.Constants.text_of c.args.consts.now in
    let tuples = g.C.Constants.items_of c.args.consts.now in
    let h = c.args.arena.now in
    let same = ap (λ (w : Heap Value ℕ). plain_fault texts tuples w c.args.fault) c.loop-at.invariant ∙ fault_apart texts tuples h c.args.t.cell _ c.args.fault c.requires.apart in
    let target = fault_text (plain_fault texts tuples h c.args.fault) in
    let lt : c.loop-at.at < length target = omega (arith, c.loop-at-test.true, c.fault_len-at-end.ensures) in
    step h c.args.t.cell c.requires.text target c.requires.room c.loop-at.arena c.text_fill.new.arena c.loop-at.at c.fault_byte-byte.result c.loop-at.invariant lt
    (c.fault_byte-byte.ensures ∙ ap (λ f. get_or (fault_text f) c.loop-at.at 0) same) c.text_fill.ensures.filled

pub returns-clause-filled : goal.returns-clause-filled
returns-clause-filled g c =
    let texts = g.C.Constants.text_of c.args.consts.now in
    let tuples = g.C.Constants.items_of c.args.consts.now in
    let h = c.args.arena.now in
    let target = fault_text (plain_fault texts tuples h c.args.fault) in
    let end : c.loop-at.at ≡ length target = omega (arith, c.fault_len-at-end.ensures) in
    ends h c.args.t.cell c.requires.text target c.requires.room c.loop-at.arena c.loop-at.at end c.loop-at.invariant

pub returns-clause-later : goal.returns-clause-later
returns-clause-later g c =
    let h = c.args.arena.now in
    subst (λ (w : Heap Value ℕ). Later h.objects w.objects) (sym c.loop-at.invariant) (later_text h c.args.t.cell _ c.requires.text)
