use Rattle.std.proofs.Common.{◌≡◌, ℕ, List, length, Ok, sym, ap₂, ◌∙◌, subst}
use Rattle.prim_operators.specs.mpy_base.World.{Heap}
use Rattle.prim_operators.specs.mpy_base.Weights.{used}
use Rattle.prim_operators.specs.arena_heap.declared.value.Value.{Value}
use Rattle.prim_operators.specs.arena_objects.Iterables.{spelled, with_texts, texts_from}
use Rattle.prim_operators.specs.py_primitives.Uses.{unpack}
use Rattle.prim_operators.specs.prim_walks.Plain.{plain, plain_heap}
use Rattle.prim_assignments.specs.Slots.{FillsSlots}
use Rattle.prim_assignments.proofs.Unpacked.{letters_slots, stopped_slots}
use Rattle.prim_assignments.proofs.unpacking.unpack_letters.Goals as goal

pub returns-in-Ok-clause-outcome : goal.returns-in-Ok-clause-outcome
returns-in-Ok-clause-outcome g c =
    let texts = g.C.Constants.text_of c.args.consts.now in
    let tuples = g.C.Constants.items_of c.args.consts.now in
    let h = c.args.arena.now in
    let heap = plain_heap texts tuples h in
    let v = plain texts tuples c.args.s in
    let bytes = spelled texts h c.args.s in
    let want = length c.args.slots.now in
    let slots = c.fill_letters.new.slots in
    let filled : slots ≡ texts_from (used h) (length bytes) = c.fill_letters.ensures ∙ ap₂ texts_from c.used-first.ensures.cells c.requires.count in
    subst (λ (w : Heap Value ℕ). FillsSlots texts tuples h w slots (Ok tt) (unpack heap want v)) (sym c.in-Ok.ensures.ok)
    (subst (λ (vs : List Value). FillsSlots texts tuples h (with_texts h bytes) vs (Ok tt) (unpack heap want v)) (sym filled)
    (subst (λ (n : ℕ). FillsSlots texts tuples h (with_texts h bytes) (texts_from (used h) (length bytes)) (Ok tt) (unpack heap n v)) (sym c.requires.count)
    (letters_slots texts tuples h c.args.s c.requires.all_told c.requires.str c.requires.leads c.in-Ok.ensures.fits)))

pub returns-in-Err-clause-outcome : goal.returns-in-Err-clause-outcome
returns-in-Err-clause-outcome g c =
    let texts = g.C.Constants.text_of c.args.consts.now in
    let tuples = g.C.Constants.items_of c.args.consts.now in
    stopped_slots texts tuples c.args.arena.now c.args.s c.requires.all_told c.requires.str c.requires.leads c.make_texts.new.arena c.args.slots.now c.in-Err.room (length c.args.slots.now) c.requires.count c.in-Err.ensures.refused
