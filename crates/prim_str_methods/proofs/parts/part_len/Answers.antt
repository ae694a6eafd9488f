use Rattle.std.proofs.Common.{ℕ, List, [], ◌∷◌, length, get_or, Option, Some, None, sym, ap, ◌∙◌, arith, drop, ◌<◌}
use Rattle.std.specs.Option.{option_map}
use Rattle.std.proofs.lemmas.List.{length-map, length-take-le, length-drop}
use Rattle.prim_builtins.specs.arena_heap.Values.{IsStr}
use Rattle.prim_builtins.specs.arena_objects.Iterables.{items_in, spelled}
use Rattle.prim_str_methods.proofs.JoinParts.{strs_plain, strs_length, str_parts, letter_there, not_both}
use Rattle.prim_str_methods.proofs.parts.part_len.Goals as goal

pub returns-then-is_str-clause-len : goal.returns-then-is_str-clause-len
returns-then-is_str-clause-len g c =
    let texts = g.C.Constants.text_of c.args.consts.now in
    let tuples = g.C.Constants.items_of c.args.consts.now in
    let h = c.args.arena.now in
    let over = c.args.over in
    let at = c.args.at in
    let items = items_in tuples h over in
    let bytes = spelled texts h over in
    let strs = str_parts texts tuples h over (c.is_str.ensures.0 c.if-is_str.true) c.requires.over.leads in
    let lt : at < length bytes = omega (arith, c.requires.within, ap (λ (l : List (Option (List ℕ))). length l) strs, length-map bytes (λ (byte : ℕ). Some (byte ∷ []))) in
    sym (ap (λ (l : List (Option (List ℕ))). option_map (λ (bs : List ℕ). length bs) (get_or l at None)) strs
    ∙ (ap (λ (o : Option (List ℕ)). option_map (λ (bs : List ℕ). length bs) o) (letter_there (λ (bs : List ℕ). Some bs) bytes at None lt)
    ∙ ap (λ (n : ℕ). Some n) (length-take-le 1 (drop at bytes) (omega (arith, lt, length-drop at bytes)))))

pub item_len-requires-clause-within : goal.item_len-requires-clause-within
item_len-requires-clause-within g c =
    let texts = g.C.Constants.text_of c.args.consts.now in
    let tuples = g.C.Constants.items_of c.args.consts.now in
    let h = c.args.arena.now in
    let over = c.args.over in
    let at = c.args.at in
    let items = items_in tuples h over in
    let other : IsStr over → ⊥ = λ str. not_both c.is_str.result c.if-is_str.false (c.is_str.ensures.1 str) in
    let strs = strs_plain texts tuples h over other c.requires.over.leads c.items_law.ensures.nested in
    omega (arith, c.requires.within, ap (λ (l : List (Option (List ℕ))). length l) strs, strs_length texts tuples h items)
