-- Lists and items computed from their definitions.
use Rattle.std.proofs.Common.{◌≡◌, ℕ, List, [], ◌∷◌, Option, None, Some, pos, negsuc, refl}
use Rattle.arena_heap.specs.declared.value.Value.{Value}
use Rattle.arena_heap.specs.declared.value.Value.TheVariants as values
use Rattle.arena_heap.specs.declared.value.StrNo.{StrNo}
use Rattle.arena_heap.specs.declared.value.ConstNo.{ConstNo}
use Rattle.py_values.specs.mpy_base.World.{Heap, ListObject, TextObject, DictObject, items_at, text_at}
use Rattle.py_values.specs.mpy_base.Weights.{empty, used, with_made}
use Rattle.arena_objects.specs.Iterables.{range_numbers, given, extended}

-- range(0, 5, 2) has 0, 2 and 4
upwards : range_numbers (pos 0) (pos 5) (pos 2) ≡ values.Int (pos 0) ∷ values.Int (pos 2) ∷ values.Int (pos 4) ∷ []
upwards = refl

-- range(3, 0, -2) has 3 and 1
downwards : range_numbers (pos 3) (pos 0) (negsuc 1) ≡ values.Int (pos 3) ∷ values.Int (pos 1) ∷ []
downwards = refl

-- a dict gives its keys
keys : given (Some (DictObject ((values.Int (pos 1), values.None) ∷ (values.Int (pos 2), values.None) ∷ []) 4)) ≡ values.Int (pos 1) ∷ values.Int (pos 2) ∷ []
keys = refl

no_texts : StrNo → Option (List ℕ)
no_texts s = None

no_tuples : ConstNo → Option (List Value)
no_tuples c = None

-- a list of 7 cells, and behind it a text of 2
abbrev list_and_text : List Value → List ℕ → Heap Value ℕ
list_and_text items bytes = with_made (with_made (empty 100 100) (ListObject items 4)) (TextObject bytes)

-- [1, 2] extended by itself is [1, 2, 1, 2]
abbrev twice : Heap Value ℕ
twice = extended no_texts no_tuples (list_and_text (values.Int (pos 1) ∷ values.Int (pos 2) ∷ []) []) 0 (values.List (record { cell = 0 }))

doubles : items_at twice 0 ≡ values.Int (pos 1) ∷ values.Int (pos 2) ∷ values.Int (pos 1) ∷ values.Int (pos 2) ∷ []
doubles = refl

in_its_room : used twice ≡ 9
in_its_room = refl

-- [] extended by "hi" has a new text for each letter
abbrev letters : Heap Value ℕ
letters = extended no_texts no_tuples (list_and_text [] (104 ∷ 105 ∷ [])) 0 (values.Text (record { cell = 7 }))

two_texts : items_at letters 0 ≡ values.Text (record { cell = 9 }) ∷ values.Text (record { cell = 11 }) ∷ []
two_texts = refl

last_letter : text_at letters 11 ≡ 105 ∷ []
last_letter = refl
