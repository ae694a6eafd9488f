-- Defaults that are put into slots one after another.
use Rattle.std.proofs.Common.{◌≡◌, ℕ, zero, suc, ◌+◌, ◌-◌, ◌≤◌, List, [], ◌∷◌, ◌++◌, length, set, take, drop, Option, Some, None, refl, sym, ap, ◌∙◌, arith}
use Rattle.std.specs.Prelude.{slice_get}
use Rattle.std.specs.Option.{option_map, option_or}
use Rattle.std.proofs.lemmas.List.{append-nil, take_all, drop_all, drop-drop, map-set}
use Rattle.std.proofs.lemmas.Option.{slice_get-map}
use Rattle.prim_methods.specs.arena_heap.declared.value.Value.{Value}
use Rattle.prim_methods.specs.arena_heap.declared.value.StrNo.{StrNo}
use Rattle.prim_methods.specs.arena_heap.declared.value.ConstNo.{ConstNo}
use Rattle.mpy_base.specs.World.{Heap}
use Rattle.mpy_base.specs.Val.{Val}
use Rattle.prim_methods.specs.arena_objects.Iterables.{items_in}
use Rattle.prim_types.specs.py_values.Shown.{Shown}
use Rattle.prim_outputs.specs.py_effects.Names.{Locals}
use Rattle.prim_outputs.specs.py_effects.Calling.{default_items, or_default, with_defaults, last_slots}
use Rattle.prim_methods.specs.prim_walks.declared.look.Look.{Look}
use Rattle.prim_methods.specs.prim_walks.declared.look.Look.TheVariants as looks
use Rattle.prim_methods.specs.prim_walks.Plain.{plain}
use Rattle.prim_methods.specs.prim_walks.Looks.{seen}
use Rattle.prim_calls.specs.Binding.{plain_slot, plain_slots}

none_more : (slots : Locals) → with_defaults slots [] ≡ slots
none_more [] = refl
none_more (slot ∷ slots) = refl

or_none : (slot : Option Val) → option_or slot None ≡ slot
or_none (Some v) = refl
or_none None = refl

or_some : (slot : Option Val) (default : Val) → option_or slot (Some default) ≡ or_default slot default
or_some (Some v) default = refl
or_some None default = refl

-- what is done and what is left
abbrev pub halfway : ℕ → Locals → List Val → Locals
halfway at slots items = take at slots ++ with_defaults (drop at slots) items

first_default : (slot : Option Val) (slots : Locals) (items : List Val) → with_defaults (slot ∷ slots) items ≡ option_or slot (slice_get items 0) ∷ with_defaults slots (drop 1 items)
first_default slot slots [] =
    let none : List Val = [] in
    sym (ap (λ (s : Option Val). s ∷ with_defaults slots none) (or_none slot) ∙ ap (λ (ss : Locals). slot ∷ ss) (none_more slots))
first_default slot slots (default ∷ items) = sym (ap (λ (s : Option Val). s ∷ with_defaults slots items) (or_some slot default))

one_default : (at : ℕ) (slots : Locals) (items : List Val) (slot : Option Val) → slice_get slots at ≡ Some slot
    → halfway at slots items ≡ halfway (suc at) (set slots at (option_or slot (slice_get items 0))) (drop 1 items)
one_default at [] items slot is = absurd cc
one_default zero (s ∷ slots) items slot is =
    let same : s ≡ slot = cc in
    first_default s slots items ∙ ap (λ (x : Option Val). option_or x (slice_get items 0) ∷ with_defaults slots (drop 1 items)) same
one_default (suc at) (s ∷ slots) items slot is = ap (λ (ss : Locals). s ∷ ss) (one_default at slots items slot is)

get_dropped : (n : ℕ) (items : List Val) → slice_get (drop n items) 0 ≡ slice_get items n
get_dropped zero items = refl
get_dropped (suc n) [] = refl
get_dropped (suc n) (item ∷ items) = get_dropped n items

pub halfway_begins : (before : ℕ) (slots : Locals) (items : List Val) → before ≤ length slots → halfway before slots items ≡ last_slots before slots items
halfway_begins zero slots items le = refl
halfway_begins (suc before) [] items le = absurd (omega arith)
halfway_begins (suc before) (slot ∷ slots) items le = ap (λ (ss : Locals). slot ∷ ss) (halfway_begins before slots items (omega arith))

pub halfway_ends : (at : ℕ) (slots : Locals) (items : List Val) → length slots ≤ at → halfway at slots items ≡ slots
halfway_ends at slots items past =
    ap (λ (ss : Locals). take at slots ++ with_defaults ss items) (drop_all at slots past) ∙ (append-nil (take at slots) ∙ take_all at slots past)

module _ (texts : StrNo → Option (List ℕ)) (tuples : ConstNo → Option (List Value)) where
  -- the slot at a place gets its default
  pub halfway_more : (slots : List (Option Value)) (before at : ℕ) (items : List Val) (slot new : Option Value) (whole : Locals) → before ≤ at → slice_get slots at ≡ Some slot
      → plain_slot texts tuples new ≡ option_or (plain_slot texts tuples slot) (slice_get items (at - before))
      → halfway at (plain_slots texts tuples slots) (drop (at - before) items) ≡ whole
      → halfway (at + 1) (plain_slots texts tuples (set slots at new)) (drop (at + 1 - before) items) ≡ whole
  halfway_more slots before at items slot new whole le here is so_far =
      let old : Locals = plain_slots texts tuples slots in
      let rest : List Val = drop (at - before) items in
      let there : slice_get old at ≡ Some (plain_slot texts tuples slot) =
      slice_get-map (plain_slot texts tuples) slots at ∙ ap (λ (o : Option (Option Value)). option_map (plain_slot texts tuples) o) here in
      let put : plain_slots texts tuples (set slots at new) ≡ set old at (option_or (plain_slot texts tuples slot) (slice_get rest 0)) =
      map-set (plain_slot texts tuples) slots at new
      ∙ ap (λ (s : Option Val). set old at s) (is ∙ ap (λ (o : Option Val). option_or (plain_slot texts tuples slot) o) (sym (get_dropped (at - before) items))) in
      let count : at + 1 - before ≡ (at - before) + 1 = omega arith in
      let left : drop (at + 1 - before) items ≡ drop 1 rest = ap (λ (n : ℕ). drop n items) count ∙ sym (drop-drop 1 (at - before) items) in
      let next : at + 1 ≡ suc at = omega arith in
      ap (λ (n : ℕ). halfway n (plain_slots texts tuples (set slots at new)) (drop (at + 1 - before) items)) next
      ∙ (ap (λ (ss : Locals). halfway (suc at) ss (drop (at + 1 - before) items)) put
      ∙ (ap (λ (ds : List Val). halfway (suc at) (set old at (option_or (plain_slot texts tuples slot) (slice_get rest 0))) ds) left
      ∙ (sym (one_default at old rest (plain_slot texts tuples slot) there) ∙ so_far)))

  -- what is no tuple has no defaults
  module _ (h : Heap Value ℕ) (v : Value) where
    pub no_defaults : (look : Look) (s : Shown) (at : ℕ) → ((count : ℕ) → look ≡ looks.Tuple count → ⊥) → seen texts tuples h v look ≡ s → None ≡ slice_get (default_items s) at
    no_defaults looks.Nothing s at unlike is = ap (λ (t : Shown). slice_get (default_items t) at) is
    no_defaults (looks.Number z) s at unlike is = ap (λ (t : Shown). slice_get (default_items t) at) is
    no_defaults (looks.Text part) s at unlike is = ap (λ (t : Shown). slice_get (default_items t) at) is
    no_defaults (looks.Tuple count) s at unlike is = absurd (unlike count refl)
    no_defaults (looks.Items count) s at unlike is = ap (λ (t : Shown). slice_get (default_items t) at) is
    no_defaults (looks.Pairs d) s at unlike is = ap (λ (t : Shown). slice_get (default_items t) at) is
    no_defaults (looks.Range start stop step) s at unlike is = ap (λ (t : Shown). slice_get (default_items t) at) is
    no_defaults looks.Other s at unlike is = ap (λ (t : Shown). slice_get (default_items t) at) is

    -- the default at a place is the tuple's item
    items_here : (count : ℕ) (s : Shown) (at : ℕ) → seen texts tuples h v (looks.Tuple count) ≡ s → slice_get (default_items s) at ≡ option_map (plain texts tuples) (slice_get (items_in tuples h v) at)
    items_here count s at is = ap (λ (t : Shown). slice_get (default_items t) at) (sym is) ∙ slice_get-map (plain texts tuples) (items_in tuples h v) at

    pub default_here : (count : ℕ) (s : Shown) (at : ℕ) (item : Value) → seen texts tuples h v (looks.Tuple count) ≡ s → slice_get (items_in tuples h v) at ≡ Some item → plain_slot texts tuples (Some item) ≡ slice_get (default_items s) at
    default_here count s at item is e = sym (items_here count s at is ∙ ap (λ (o : Option Value). option_map (plain texts tuples) o) e)

    pub default_past : (count : ℕ) (s : Shown) (at : ℕ) → seen texts tuples h v (looks.Tuple count) ≡ s → slice_get (items_in tuples h v) at ≡ None → None ≡ slice_get (default_items s) at
    default_past count s at is e = sym (items_here count s at is ∙ ap (λ (o : Option Value). option_map (plain texts tuples) o) e)
