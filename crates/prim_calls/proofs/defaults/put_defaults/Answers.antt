use Rattle.std.proofs.Common.{◌≡◌, ◌-◌, ◌≤◌, ℕ, List, length, drop, Option, ap, ◌∙◌, arith}
use Rattle.std.specs.Prelude.{IfSome}
use Rattle.std.proofs.lemmas.List.{length-map}
use Rattle.std.proofs.lemmas.List.Elements.{All-set}
use Rattle.mpy_base.specs.Val.{Val}
use Rattle.prim_methods.specs.arena_heap.declared.value.Value.{Value}
use Rattle.prim_types.specs.py_values.Shown.{shown}
use Rattle.prim_outputs.specs.py_effects.Names.{Locals}
use Rattle.prim_outputs.specs.py_effects.Calling.{default_items, last_slots}
use Rattle.prim_methods.specs.prim_walks.Plain.{plain, plain_heap}
use Rattle.prim_methods.specs.prim_faults.Faults.{IsKnown}
use Rattle.prim_calls.specs.Binding.{plain_slot, plain_slots}
use Rattle.prim_calls.proofs.Values.{all_at}
use Rattle.prim_calls.proofs.DefaultSteps.{halfway, halfway_begins, halfway_more}
use Rattle.prim_calls.proofs.defaults.put_defaults.Goals as goal

pub loop-at-init : goal.loop-at-init
loop-at-init g c =
    let texts = g.C.Constants.text_of c.args.consts.now in
    let tuples = g.C.Constants.items_of c.args.consts.now in
    let items : List Val = default_items (shown (plain_heap texts tuples c.args.arena.now) (plain texts tuples c.args.defaults)) in
    let slots : Locals = plain_slots texts tuples c.args.slots.now in
    let before = c.args.before in
    let none : before - before ≡ 0 = omega arith in
    let long : length slots ≡ length c.args.slots.now = length-map c.args.slots.now (plain_slot texts tuples) in
    let within : before ≤ length slots = omega (arith, c.requires.before, long) in
    (c.requires.known_slots, ap (λ (n : ℕ). halfway before slots (drop n items)) none ∙ halfway_begins before slots items within)

pub or_default-requires-clause-slot : goal.or_default-requires-clause-slot
or_default-requires-clause-slot g c =
    let texts = g.C.Constants.text_of c.args.consts.now in
    let tuples = g.C.Constants.items_of c.args.consts.now in
    all_at (λ (slot : Option Value). IfSome slot (IsKnown texts tuples c.args.arena.now.objects)) c.loop-at.slots c.loop-at.at c.slot_at.result c.loop-at.invariant.0 c.slot_at.ensures

pub loop-at-preserved : goal.loop-at-preserved
loop-at-preserved g c =
    let texts = g.C.Constants.text_of c.args.consts.now in
    let tuples = g.C.Constants.items_of c.args.consts.now in
    let items : List Val = default_items (shown (plain_heap texts tuples c.args.arena.now) (plain texts tuples c.args.defaults)) in
    let whole : Locals = last_slots c.args.before (plain_slots texts tuples c.args.slots.now) items in
    let past : c.args.before ≤ c.loop-at.at = omega arith in (
      All-set (λ (slot : Option Value). IfSome slot (IsKnown texts tuples c.args.arena.now.objects)) c.loop-at.slots c.loop-at.at c.or_default.result c.or_default.ensures.known c.loop-at.invariant.0,
      halfway_more texts tuples c.loop-at.slots c.args.before c.loop-at.at items c.slot_at.result c.or_default.result whole past c.slot_at.ensures c.or_default.ensures.value c.loop-at.invariant.1,
    )
