use Rattle.std.proofs.Common.{◌≡◌, ◌-◌, ◌≤◌, ℕ, List, length, map, Option, Result, Ok, Err, sym, ap, ◌∙◌, subst, arith}
use Rattle.std.specs.Prelude.{All, IfSome}
use Rattle.std.proofs.lemmas.List.{length-map}
use Rattle.prim_methods.specs.arena_heap.declared.value.Value.{Value}
use Rattle.prim_types.specs.py_values.Shown.{shown}
use Rattle.prim_types.specs.py_primitives.Faults as plain
use Rattle.prim_outputs.specs.py_effects.Names.{Locals}
use Rattle.prim_outputs.specs.py_effects.Calling.{with_keys, default_items, all_filled}
use Rattle.prim_methods.specs.prim_walks.Plain.{plain as plain_value, plain_pair, plain_heap}
use Rattle.prim_methods.specs.prim_faults.Faults.{plain_fault, IsKnown}
use Rattle.prim_calls.specs.Binding.{name_text, plain_slots}
use Rattle.prim_calls.proofs.Bound.{slots_begun, first_known, bound_further}
use Rattle.prim_calls.proofs.binding.bind_given.Goals as goal

pub put_keywords-requires-clause-known_slots : goal.put_keywords-requires-clause-known_slots
put_keywords-requires-clause-known_slots g c =
    let texts = g.C.Constants.text_of c.args.consts.now in
    let tuples = g.C.Constants.items_of c.args.consts.now in
    let known = IsKnown texts tuples c.args.arena.now.objects in
    subst (λ (slots : List (Option Value)). All (λ (slot : Option Value). IfSome slot known) slots) (sym c.put_arguments.ensures) (first_known known (length c.args.slots.now) c.args.args.now c.requires.known)

pub returns-in-Ok-clause-bound : goal.returns-in-Ok-clause-bound
returns-in-Ok-clause-bound g c =
    let texts = g.C.Constants.text_of c.args.consts.now in
    let tuples = g.C.Constants.items_of c.args.consts.now in
    let heap = plain_heap texts tuples c.args.arena.now in
    let params = map (name_text texts) c.args.params.names.now in
    let args = map (plain_value texts tuples) c.args.args.now in
    let keys = map (plain_pair texts tuples) c.args.keys.now in
    let defaults = plain_value texts tuples c.args.params.defaults in
    let many : length params ≡ length c.args.params.names.now = length-map c.args.params.names.now (name_text texts) in
    let given : length args ≡ length c.args.args.now = length-map c.args.args.now (plain_value texts tuples) in
    let few : length args ≤ length params = omega (arith, many, given, c.if-args-params.false) in
    let size : length c.args.slots.now ≡ length params = omega (arith, many, c.requires.slots) in
    let left : length c.put_keywords.new.slots ≡ length params = omega (arith, size) in
    let found : Result Locals plain.Fault = Ok (plain_slots texts tuples c.put_keywords.new.slots) in
    let begun = slots_begun (plain_value texts tuples) (length c.args.slots.now) (length params) c.args.args.now c.put_arguments.new.slots c.put_arguments.ensures size in
    let is = c.in-Ok.ensures.put ∙ ap (λ (slots : Locals). with_keys heap params (Ok slots) keys) begun in
    c.complete.ensures.complete
    ∙ (ap (λ (n : ℕ). all_filled (n - c.args.params.given) (default_items (shown heap defaults)) found) left ∙ bound_further heap params c.args.params.given defaults args keys few found is)

pub returns-in-Err-clause-bound : goal.returns-in-Err-clause-bound
returns-in-Err-clause-bound g c =
    let texts = g.C.Constants.text_of c.args.consts.now in
    let tuples = g.C.Constants.items_of c.args.consts.now in
    let heap = plain_heap texts tuples c.args.arena.now in
    let params = map (name_text texts) c.args.params.names.now in
    let args = map (plain_value texts tuples) c.args.args.now in
    let keys = map (plain_pair texts tuples) c.args.keys.now in
    let defaults = plain_value texts tuples c.args.params.defaults in
    let many : length params ≡ length c.args.params.names.now = length-map c.args.params.names.now (name_text texts) in
    let given : length args ≡ length c.args.args.now = length-map c.args.args.now (plain_value texts tuples) in
    let few : length args ≤ length params = omega (arith, many, given, c.if-args-params.false) in
    let size : length c.args.slots.now ≡ length params = omega (arith, many, c.requires.slots) in
    let found : Result Locals plain.Fault = Err (plain_fault texts tuples c.args.arena.now c.in-Err.fault) in
    let begun = slots_begun (plain_value texts tuples) (length c.args.slots.now) (length params) c.args.args.now c.put_arguments.new.slots c.put_arguments.ensures size in
    let is = c.in-Err.ensures.put ∙ ap (λ (slots : Locals). with_keys heap params (Ok slots) keys) begun in
    bound_further heap params c.args.params.given defaults args keys few found is
