use Rattle.std.proofs.Common.{ℕ, List, [], ◌∷◌, length, get_or, sym, ap, ◌∙◌, arith, ◌<◌}
use Rattle.std.proofs.lemmas.List.{length-map, get_or-map, take_all}
use Rattle.prim_builtins.specs.arena_heap.Values.{IsStr}
use Rattle.prim_builtins.specs.arena_objects.Iterables.{items_in, spelled}
use Rattle.std.proofs.lemmas.Option.{slice_get_within}
use Rattle.prim_builtins.specs.arena_heap.declared.value.Value.{Value}
use Rattle.prim_builtins.specs.arena_heap.declared.value.Value.TheVariants as values
use Rattle.prim_builtins.proofs.arena_objects_lemmas.Gifts.{read_item}
use Rattle.prim_builtins.specs.prim_faults.Faults.{IsKnownStr}
use Rattle.prim_builtins.specs.prim_operators.Sources.{IsOtherThan}
use Rattle.prim_builtins.proofs.prim_operators_lemmas.ItemFills.{read_value}
use Rattle.prim_str_methods.proofs.JoinParts.{letters_in, other_parts_in, letter_there, not_both}
use Rattle.prim_str_methods.proofs.parts.part_at.Goals as goal

pub returns-then-is_str-clause-bytes : goal.returns-then-is_str-clause-bytes
returns-then-is_str-clause-bytes g c =
    let texts = g.C.Constants.text_of c.args.consts.now in
    let tuples = g.C.Constants.items_of c.args.consts.now in
    let h = c.args.arena.now in
    let over = c.args.over in
    let at = c.args.at in
    let items = items_in tuples h over in
    let bytes = spelled texts h over in
    let parts = letters_in texts tuples h over (c.is_str.ensures.0 c.if-is_str.true) in
    let lt : at < length bytes = omega (arith, c.requires.within, ap (λ (l : List (List ℕ)). length l) parts, length-map bytes (λ (byte : ℕ). byte ∷ [])) in
    sym (ap (λ (l : List (List ℕ)). get_or l at []) parts ∙ letter_there (λ (bs : List ℕ). bs) bytes at [] lt)

pub returns-then-is_str-clause-cut : goal.returns-then-is_str-clause-cut
returns-then-is_str-clause-cut g c =
    let texts = g.C.Constants.text_of c.args.consts.now in
    let tuples = g.C.Constants.items_of c.args.consts.now in
    let h = c.args.arena.now in
    let over = c.args.over in
    let at = c.args.at in
    let items = items_in tuples h over in
    let bytes = spelled texts h over in
    let str = c.is_str.ensures.0 c.if-is_str.true in
    let parts = letters_in texts tuples h over str in
    let lt : at < length bytes = omega (arith, c.requires.within, ap (λ (l : List (List ℕ)). length l) parts, length-map bytes (λ (byte : ℕ). byte ∷ [])) in
    record { str = record { str = str; leads = c.requires.over.leads; told = c.requires.over.told }; within = omega (arith, lt); few = omega arith }

pub str_len-len-requires : goal.str_len-len-requires
str_len-len-requires g c =
    let texts = g.C.Constants.text_of c.args.consts.now in
    let tuples = g.C.Constants.items_of c.args.consts.now in
    let h = c.args.arena.now in
    let over = c.args.over in
    let at = c.args.at in
    let items = items_in tuples h over in
    read_item (IsKnownStr texts tuples h.objects) items at c.item_at-of.result c.item_at-of.ensures.item c.requires.strs

pub returns-clause-bytes : goal.returns-clause-bytes
returns-clause-bytes g c =
    let texts = g.C.Constants.text_of c.args.consts.now in
    let tuples = g.C.Constants.items_of c.args.consts.now in
    let h = c.args.arena.now in
    let over = c.args.over in
    let at = c.args.at in
    let items = items_in tuples h over in
    let item = c.item_at-of.result in
    let other : IsStr over → ⊥ = λ str. not_both c.is_str.result c.if-is_str.false (c.is_str.ensures.1 str) in
    take_all c.str_len-len.result (spelled texts h item) (omega (arith, c.str_len-len.ensures))
    ∙ (ap (λ (v : Value). spelled texts h v) (read_value items at item c.item_at-of.ensures.item)
    ∙ sym (ap (λ (l : List (List ℕ)). get_or l at []) (other_parts_in texts tuples h over other) ∙ get_or-map (spelled texts h) items at values.None [] (slice_get_within items at item c.item_at-of.ensures.item)))

pub returns-clause-cut : goal.returns-clause-cut
returns-clause-cut g c =
    let texts = g.C.Constants.text_of c.args.consts.now in
    let tuples = g.C.Constants.items_of c.args.consts.now in
    let h = c.args.arena.now in
    let over = c.args.over in
    let at = c.args.at in
    let items = items_in tuples h over in
    record {
      str = read_item (IsKnownStr texts tuples h.objects) items at c.item_at-of.result c.item_at-of.ensures.item c.requires.strs;
      within = omega (arith, c.str_len-len.ensures);
      few = omega arith;
    }

pub returns-clause-apart : goal.returns-clause-apart
returns-clause-apart g c =
    let texts = g.C.Constants.text_of c.args.consts.now in
    let tuples = g.C.Constants.items_of c.args.consts.now in
    let h = c.args.arena.now in
    let over = c.args.over in
    let at = c.args.at in
    let items = items_in tuples h over in
    λ t other others. read_item (IsOtherThan t) items at c.item_at-of.result c.item_at-of.ensures.item others
