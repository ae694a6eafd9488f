use Rattle.std.proofs.Common.{◌-◌, ℕ, List, length, ap, ◌∙◌}
use Rattle.mpy_base.specs.Val.{Val}
use Rattle.prim_types.specs.py_values.Shown.{shown}
use Rattle.prim_outputs.specs.py_effects.Names.{Locals}
use Rattle.prim_outputs.specs.py_effects.Calling.{default_items, last_slots}
use Rattle.prim_methods.specs.prim_walks.Plain.{plain, plain_heap}
use Rattle.prim_calls.specs.Binding.{plain_slots}
use Rattle.prim_calls.proofs.Bound.{filled_all, filled_some}
use Rattle.prim_calls.proofs.binding.complete.Goals as goal

pub returns-then-missing-eq0-clause-complete : goal.returns-then-missing-eq0-clause-complete
returns-then-missing-eq0-clause-complete g c =
    let texts = g.C.Constants.text_of c.args.consts.now in
    let tuples = g.C.Constants.items_of c.args.consts.now in
    let items : List Val = default_items (shown (plain_heap texts tuples c.args.arena.now) (plain texts tuples c.args.defaults)) in
    let old : Locals = plain_slots texts tuples c.args.slots.now in
    let done = c.put_defaults.ensures.put ∙ ap (λ (n : ℕ). last_slots n old items) c.saturating_sub-before.ensures in
    filled_all (plain texts tuples) c.put_defaults.new.slots (length c.args.slots.now - c.args.given) items old c.empty_slots-missing.result done c.empty_slots-missing.ensures.count c.if-missing-eq0.true

pub returns-else-missing-eq0-clause-complete : goal.returns-else-missing-eq0-clause-complete
returns-else-missing-eq0-clause-complete g c =
    let texts = g.C.Constants.text_of c.args.consts.now in
    let tuples = g.C.Constants.items_of c.args.consts.now in
    let items : List Val = default_items (shown (plain_heap texts tuples c.args.arena.now) (plain texts tuples c.args.defaults)) in
    let old : Locals = plain_slots texts tuples c.args.slots.now in
    let done = c.put_defaults.ensures.put ∙ ap (λ (n : ℕ). last_slots n old items) c.saturating_sub-before.ensures in
    filled_some (plain texts tuples) c.put_defaults.new.slots (length c.args.slots.now - c.args.given) items old c.empty_slots-missing.result done c.empty_slots-missing.ensures.count c.if-missing-eq0.false
