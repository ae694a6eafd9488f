use Rattle.std.proofs.Common.{◌≡◌, ℕ, ℤ, ◌<◌, List, Option, Some, length, sym, ◌∙◌, ap, subst}
use Rattle.std.specs.Prelude.{slice_get}
use Rattle.std.specs.Option.{option_map}
use Rattle.std.proofs.lemmas.Option.{slice_get-map}
use Rattle.arena_heap.specs.declared.value.Value.{Value}
use Rattle.arena_heap.specs.declared.value.Value.TheVariants as values
use Rattle.py_values.specs.mpy_base.World.{object, items_at, pairs_at}
use Rattle.arena_heap.specs.Values.{Leads}
use Rattle.arena_heap.specs.Constants.{IsTold}
use Rattle.arena_objects.specs.Iterables.{items_in}
use Rattle.arena_objects.proofs.Gifts.{count_numbers, number_in, range_given, given_dict, read_item}
use Rattle.arena_objects.proofs.RangeNumbers.{len_same, number_same}
use Rattle.arena_objects.proofs.Tolds.{told_pairs, held_list, held_tuple}
use Rattle.arena_objects.proofs.Places.{read_pair, no_pair}
use Rattle.arena_objects.proofs.extend.item_at.Goals as goal

pub range_number-requires-clause-within : goal.range_number-requires-clause-within
range_number-requires-clause-within g c =
    let p = c.range_parts-start.result in
    let e = c.range_parts-start.ensures in
    let numbers = range_given (g.C.Constants.items_of c.args.consts.now) c.args.arena.now c.args.from c.in-Range.r p.0 p.1 p.2 c.in-Range.is e.parts in
    let count = ap (λ (xs : List Value). length xs) numbers ∙ (count_numbers p.0 p.1 p.2 ∙ sym (len_same p.0 p.1 p.2 e.start e.stop e.step)) in
    subst (λ (n : ℕ). c.args.at < n) count c.requires.within

pub returns-in-List-clause-told : goal.returns-in-List-clause-told
returns-in-List-clause-told g c =
    let told = IsTold (g.C.Constants.text_of c.args.consts.now) (g.C.Constants.items_of c.args.consts.now) in
    let n = c.in-List.l.cell in
    let leads = subst (Leads c.args.arena.now.objects) c.in-List.is c.requires.leads in
    read_item told (items_at c.args.arena.now n) c.args.at c.unwrap-in-List.result (sym c.list_at.ensures.item ∙ c.unwrap-in-List.ensures)
    (held_list told (object c.args.arena.now.objects n) leads.meets (c.requires.all_told.told n))

pub returns-in-Tuple-clause-told : goal.returns-in-Tuple-clause-told
returns-in-Tuple-clause-told g c =
    let told = IsTold (g.C.Constants.text_of c.args.consts.now) (g.C.Constants.items_of c.args.consts.now) in
    let n = c.in-Tuple.t.cell in
    let leads = subst (Leads c.args.arena.now.objects) c.in-Tuple.is c.requires.leads in
    read_item told (items_at c.args.arena.now n) c.args.at c.unwrap-in-Tuple.result (sym c.tuple_at.ensures.item ∙ c.unwrap-in-Tuple.ensures)
    (held_tuple told (object c.args.arena.now.objects n) leads.meets (c.requires.all_told.told n))

pub returns-in-Dict-clause-item : goal.returns-in-Dict-clause-item
returns-in-Dict-clause-item g c =
    let h = c.args.arena.now in
    let n = c.in-Dict.d.cell in
    let leads = subst (Leads h.objects) c.in-Dict.is c.requires.leads in
    let key : Value × Value → Value = λ p. p.0 in
    let read : slice_get (pairs_at h n) c.args.at ≡ Some c.unwrap-in-Dict.result = sym c.dict_at.ensures.pair ∙ c.unwrap-in-Dict.ensures in
    ap (λ (v : Value). slice_get (items_in (g.C.Constants.items_of c.args.consts.now) h v) c.args.at) c.in-Dict.is
    ∙ (ap (λ (xs : List Value). slice_get xs c.args.at) (given_dict (object h.objects n) leads.meets)
    ∙ (slice_get-map key (pairs_at h n) c.args.at ∙ ap (λ (o : Option (Value × Value)). option_map key o) read))

pub returns-in-Dict-clause-told : goal.returns-in-Dict-clause-told
returns-in-Dict-clause-told g c =
    let texts = g.C.Constants.text_of c.args.consts.now in
    let tuples = g.C.Constants.items_of c.args.consts.now in
    let h = c.args.arena.now in
    let n = c.in-Dict.d.cell in
    let leads = subst (Leads h.objects) c.in-Dict.is c.requires.leads in
    let read = read_pair (pairs_at h n) c.args.at c.unwrap-in-Dict.result (sym c.unwrap-in-Dict.ensures ∙ c.dict_at.ensures.pair) in
    subst (λ (p : Value × Value). IsTold texts tuples p.0) (sym (read.1 no_pair)) (told_pairs texts tuples h n leads.meets c.requires.all_told c.args.at no_pair read.0).0

pub returns-in-Range-clause-item : goal.returns-in-Range-clause-item
returns-in-Range-clause-item g c =
    let p = c.range_parts-start.result in
    let e = c.range_parts-start.ensures in
    let numbers = range_given (g.C.Constants.items_of c.args.consts.now) c.args.arena.now c.args.from c.in-Range.r p.0 p.1 p.2 c.in-Range.is e.parts in
    let within = subst (λ (n : ℕ). c.args.at < n) (ap (λ (xs : List Value). length xs) numbers ∙ count_numbers p.0 p.1 p.2) c.requires.within in
    ap (λ (xs : List Value). slice_get xs c.args.at) numbers ∙ (number_in p.0 p.1 p.2 c.args.at within
    ∙ ap (λ (z : ℤ). Some (values.Int z)) (number_same p.0 p.2 c.range_number.result c.args.at e.start e.step c.range_number.ensures.small c.range_number.ensures.number))
