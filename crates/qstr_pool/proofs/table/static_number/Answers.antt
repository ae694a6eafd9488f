use Rattle.std.proofs.Common.{◌≡◌, ℕ, ◌+◌, List, Bor, Option, Some, option_copied, sym, ap, ◌∙◌}
use Rattle.std.proofs.lemmas.Slice.Eq.{bytes_eq-Decides}
use Rattle.qstr_pool.proofs.Slots.{slotted, number_at, no_number, stands_there, its_place}
use Rattle.qstr_pool.proofs.table.static_number.Goals as goal

abbrev read_of : Option (Bor (Bor (List ℕ))) → Option (List ℕ)
read_of r = option_copied (option_copied r)

pub returns-in_err-known-clause-number : goal.returns-in_err-known-clause-number
returns-in_err-known-clause-number c =
    let text = c.args.text.now in
    let there = stands_there text c.texts.result.now c.slot_of.result c.from-place.result c.get.result c.slot_of.ensures c.from-place.ensures c.texts.ensures.texts c.get.ensures.lookup.0 c.get.ensures.lookup.1 in
    let none = sym (ap read_of c.in_err-known.was) ∙ there in
    c.from_residual.ensures ∙ no_number text (λ e. let no = none ∙ e in cc)

pub returns-then-eq-clause-number : goal.returns-then-eq-clause-number
returns-then-eq-clause-number c =
    let text = c.args.text.now in
    let there = stands_there text c.texts.result.now c.slot_of.result c.from-place.result c.get.result c.slot_of.ensures c.from-place.ensures c.texts.ensures.texts c.get.ensures.lookup.0 c.get.ensures.lookup.1 in
    let known = c.in_ok-known.known.now.now in
    let same : text ≡ known = (bytes_eq-Decides text known).0 (sym c.eq.ensures ∙ c.if-eq.true) in
    let found = sym there ∙ (ap read_of c.in_ok-known.was ∙ ap (λ (t : List ℕ). Some t) (sym same)) in
    ap (λ (i : ℕ). Some (1 + i)) (its_place text c.slot_of.result c.from-place.result c.slot_of.ensures c.from-place.ensures) ∙ number_at text (slotted text) found

pub returns-else-eq-clause-number : goal.returns-else-eq-clause-number
returns-else-eq-clause-number c =
    let text = c.args.text.now in
    let there = stands_there text c.texts.result.now c.slot_of.result c.from-place.result c.get.result c.slot_of.ensures c.from-place.ensures c.texts.ensures.texts c.get.ensures.lookup.0 c.get.ensures.lookup.1 in
    let known = c.in_ok-known.known.now.now in
    let found = sym (ap read_of c.in_ok-known.was) ∙ there in
    no_number text (λ e.
    let is : Some known ≡ Some text = found ∙ e in
    let same : text ≡ known = cc in
    let equal = (bytes_eq-Decides text known).1 same in
    cc)
