use Rattle.std.proofs.Common.{ℕ, List, length, get_or, Option, Some, None, sym, ap, ◌∙◌}
use Rattle.std.specs.Option.{option_map}
use Rattle.prim_builtins.specs.arena_heap.Values.{IsStr}
use Rattle.prim_builtins.specs.arena_objects.Iterables.{items_in}
use Rattle.prim_str_methods.proofs.JoinParts.{strs_plain, str_at, is_str, no_str, not_both}
use Rattle.prim_str_methods.proofs.parts.item_len.Goals as goal

pub returns-then-is_str-clause-len : goal.returns-then-is_str-clause-len
returns-then-is_str-clause-len g c =
    let texts = g.C.Constants.text_of c.args.consts.now in
    let tuples = g.C.Constants.items_of c.args.consts.now in
    let h = c.args.arena.now in
    let over = c.args.over in
    let at = c.args.at in
    let items = items_in tuples h over in
    let item = c.item_at-item.result in
    let leads = c.item_at-item.ensures.leads in
    let strs = strs_plain texts tuples h over c.requires.other c.requires.over.leads c.items_law.ensures.nested in
    sym (ap (λ (l : List (Option (List ℕ))). option_map (λ (bs : List ℕ). length bs) (get_or l at None)) strs
    ∙ (ap (λ (o : Option (List ℕ)). option_map (λ (bs : List ℕ). length bs) o) (str_at texts tuples h items at item c.item_at-item.ensures.item ∙ is_str texts tuples h item (c.is_str.ensures.0 c.if-is_str.true) leads)
    ∙ ap (λ (n : ℕ). Some n) (sym c.str_len.ensures)))

pub returns-else-is_str-clause-len : goal.returns-else-is_str-clause-len
returns-else-is_str-clause-len g c =
    let texts = g.C.Constants.text_of c.args.consts.now in
    let tuples = g.C.Constants.items_of c.args.consts.now in
    let h = c.args.arena.now in
    let over = c.args.over in
    let at = c.args.at in
    let items = items_in tuples h over in
    let item = c.item_at-item.result in
    let leads = c.item_at-item.ensures.leads in
    let strs = strs_plain texts tuples h over c.requires.other c.requires.over.leads c.items_law.ensures.nested in
    let other : IsStr item → ⊥ = λ str. not_both c.is_str.result c.if-is_str.false (c.is_str.ensures.1 str) in
    sym (ap (λ (l : List (Option (List ℕ))). option_map (λ (bs : List ℕ). length bs) (get_or l at None)) strs
    ∙ ap (λ (o : Option (List ℕ)). option_map (λ (bs : List ℕ). length bs) o) (str_at texts tuples h items at item c.item_at-item.ensures.item ∙ no_str texts tuples h item other leads))
