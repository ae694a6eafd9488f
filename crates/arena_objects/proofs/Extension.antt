-- What a list has become when it was extended, step by step.
use Rattle.std.proofs.Common.{◌≡◌, ℕ, ◌+◌, ◌-◌, ◌*◌, ◌/◌, ◌<◌, ◌≤◌, List, [], ◌++◌, length, Option, Some, None, set, replicate, refl, sym, ◌∙◌, ap, subst, inl, inr, arith, append_assoc, length-append, get_or-set_same, get_or-set_other, length-set}
use Rattle.std.specs.List.{range_with_len}
use Rattle.std.proofs.lemmas.List.{get_or_append_left, length-replicate, set-set}
use Rattle.std.proofs.lemmas.List.Elements.{All-map}
use Rattle.std.proofs.lemmas.Bool.{cases_eq}
use Rattle.arena_heap.specs.declared.value.Value.{Value}
use Rattle.arena_heap.specs.declared.value.Value.TheVariants as values
use Rattle.arena_heap.specs.declared.value.StrNo.{StrNo}
use Rattle.arena_heap.specs.declared.value.ConstNo.{ConstNo}
use Rattle.py_values.specs.mpy_base.World.{Heap, ListObject, AList, AText, IsA, Later, object, kind_of, items_of, room_of, text_of, items_at, room_at, with_list}
use Rattle.py_values.specs.mpy_base.Weights.{Fits, used, list_growth, grown_room, with_list_room}
use Rattle.py_values.proofs.mpy_base_lemmas.Worlds.{is_within, later_later, later_list}
use Rattle.arena_heap.proofs.Growths.{reserved_later, reserved_items, reserved_room, room_grows}
use Rattle.arena_heap.specs.Values.{ArenaObject, Leads}
use Rattle.arena_heap.specs.Constants.{IsTold}
use Rattle.arena_objects.specs.Keys.{AllTold}
use Rattle.arena_objects.specs.Iterables.{given, items_in, spelled, with_texts, texts_from, extended_length, extended}
use Rattle.arena_objects.proofs.Gifts.{Keeps, keeps_keeps, items_kept, spelled_kept, given_list, list_there}
use Rattle.arena_objects.proofs.MadeTexts.{texts_later, texts_keep, texts_same, texts_used, texts_are, texts_told}
use Rattle.arena_objects.proofs.Tolds.{told_list, told_room}

-- more room changes neither what objects give nor texts
module _ (h : Heap Value ℕ) (l n : ℕ) (is : IsA h.objects AList l) where
  longer : used (with_list_room h l n) ≡ used h + list_growth h l n
  longer =
      let none : Option ArenaObject = None in
      let more = replicate (list_growth h l n) none in
      omega (arith, length-set (h.objects ++ more) l (Some (ListObject (items_at h l) (grown_room h l n))), length-append h.objects more, length-replicate (list_growth h l n) none)

  elsewhere : (m : ℕ) → m < length h.objects → (m ≡ l → ⊥) → object (with_list_room h l n).objects m ≡ object h.objects m
  elsewhere m lt ne =
      let none : Option ArenaObject = None in
      let more = replicate (list_growth h l n) none in
      get_or-set_other (h.objects ++ more) l m (Some (ListObject (items_at h l) (grown_room h l n))) None ne ∙ get_or_append_left h.objects more none m lt

  there : object (with_list_room h l n).objects l ≡ Some (ListObject (items_at h l) (grown_room h l n))
  there =
      let none : Option ArenaObject = None in
      let more = replicate (list_growth h l n) none in
      get_or-set_same (h.objects ++ more) l (Some (ListObject (items_at h l) (grown_room h l n))) None (omega (arith, is_within h.objects AList l is, length-append h.objects more))

  spells_nothing : (o : Option ArenaObject) → kind_of o ≡ Some AList → text_of o ≡ []
  spells_nothing (Some (ListObject items room)) q = refl
  spells_nothing _ q = absurd cc

  room_keeps : Keeps h (with_list_room h l n)
  room_keeps = record {
    gives = λ m lt. elim (cases_eq m l) [
      | inl q ↦ subst (λ (j : ℕ). given (object (with_list_room h l n).objects j) ≡ given (object h.objects j)) (sym q) (ap given there ∙ sym (given_list (object h.objects l) is))
      | inr ne ↦ ap given (elsewhere m lt ne)
    ];
    spells = λ m lt. elim (cases_eq m l) [
      | inl q ↦ subst (λ (j : ℕ). text_of (object (with_list_room h l n).objects j) ≡ text_of (object h.objects j)) (sym q) (ap text_of there ∙ sym (spells_nothing (object h.objects l) is))
      | inr ne ↦ ap text_of (elsewhere m lt ne)
    ];
    longer = λ m lt. omega (arith, longer);
  }

  pub room_fits : (cells bytes : ℕ) → Fits (with_list_room h l n) cells bytes → Fits h (list_growth h l n + cells) bytes
  room_fits cells bytes f = record { cells_fit = omega (arith, f.cells_fit, longer); bytes_fit = f.bytes_fit }

module _ (texts : StrNo → Option (List ℕ)) (tuples : ConstNo → Option (List Value)) (h : Heap Value ℕ) (l : ℕ) (from : Value) (is : IsA h.objects AList l) (leads : Leads h.objects from) where
  abbrev pub count : ℕ
  count = extended_length texts tuples h l from

  abbrev pub roomy : Heap Value ℕ
  roomy = with_list_room h l count

  abbrev pub bytes : List ℕ
  bytes = spelled texts h from

  abbrev pub made : List ℕ → Heap Value ℕ
  made bs = with_texts roomy bs

  abbrev pub filled : Heap Value ℕ
  filled = with_list (made bytes) l (items_at h l ++ items_in tuples h from)

  pub roomy_is : (a b c : ℕ) (new : Heap Value ℕ) → a ≡ length (items_at h l) → b ≡ length (items_in tuples h from) → c ≡ length bytes → new ≡ with_list_room h l (a + b + c) → new ≡ roomy
  roomy_is a b c new p q r e = e ∙ (ap (λ (j : ℕ). with_list_room h l (j + b + c)) p ∙ (ap (λ (j : ℕ). with_list_room h l (length (items_at h l) + j + c)) q ∙ ap (λ (j : ℕ). with_list_room h l (length (items_at h l) + length (items_in tuples h from) + j)) r))

  pub roomy_later : Later h.objects roomy.objects
  roomy_later = reserved_later h l count is refl

  pub roomy_spelled : spelled texts roomy from ≡ bytes
  roomy_spelled = spelled_kept tuples texts (room_keeps h l count is) from leads

  pub made_later : (bs : List ℕ) → Later h.objects (made bs).objects
  made_later bs = later_later roomy_later (texts_later roomy bs)

  pub made_items : (bs : List ℕ) → items_at (made bs) l ≡ items_at h l
  made_items bs = ap items_of (texts_same roomy bs l (is_within roomy.objects AList l (roomy_later.keeps AList l is))) ∙ reserved_items h l count is refl

  pub made_room : (bs : List ℕ) → room_at (made bs) l ≡ grown_room h l count
  made_room bs = ap room_of (texts_same roomy bs l (is_within roomy.objects AList l (roomy_later.keeps AList l is))) ∙ reserved_room h l count is refl

  pub made_told : AllTold texts tuples h.objects → (bs : List ℕ) → AllTold texts tuples (made bs).objects
  made_told all bs = texts_told texts tuples roomy bs (told_room texts tuples h l is all count)

  pub made_gives : items_in tuples (made bytes) from ≡ items_in tuples h from
  made_gives = items_kept tuples texts (keeps_keeps (room_keeps h l count is) (texts_keep roomy bytes)) from leads

  pub made_is : (g new : Heap Value ℕ) → g ≡ roomy → new ≡ with_texts g (spelled texts g from) → new ≡ made bytes
  made_is g new p e = e ∙ (ap (λ (w : Heap Value ℕ). with_texts w (spelled texts w from)) p ∙ ap (λ (bs : List ℕ). with_texts roomy bs) roomy_spelled)

  made_list : IsA (made bytes).objects AList l
  made_list = (made_later bytes).keeps AList l is

  pub has_room : length (items_at h l) + length (items_in tuples h from) + length bytes ≤ room_at (made bytes) l
  has_room = omega (arith, made_room bytes, room_grows h l count)

  pub filled_is : (g new : Heap Value ℕ) → g ≡ made bytes → new ≡ with_list g l (items_at g l ++ items_in tuples g from) → new ≡ filled
  filled_is g new p e =
      e ∙ (ap (λ (w : Heap Value ℕ). with_list w l (items_at w l ++ items_in tuples w from)) p
      ∙ (ap (λ (xs : List Value). with_list (made bytes) l (xs ++ items_in tuples (made bytes) from)) (made_items bytes) ∙ ap (λ (xs : List Value). with_list (made bytes) l (items_at h l ++ xs)) made_gives))

  pub filled_list : IsA filled.objects AList l
  filled_list = (later_list (made bytes) l (items_at h l ++ items_in tuples h from) made_list).keeps AList l made_list

  pub filled_items : items_at filled l ≡ items_at h l ++ items_in tuples h from
  filled_items = ap items_of (list_there (made bytes) l made_list (items_at h l ++ items_in tuples h from))

  pub filled_room : room_at filled l ≡ room_at (made bytes) l
  filled_room = ap room_of (list_there (made bytes) l made_list (items_at h l ++ items_in tuples h from))

  pub filled_texts : (k : ℕ) → k < length bytes → IsA filled.objects AText (used roomy + 2 * k)
  filled_texts k lt = (later_list (made bytes) l (items_at h l ++ items_in tuples h from) made_list).keeps AText (used roomy + 2 * k) (texts_are roomy bytes k lt)

  pub made_count : (first last : ℕ) → first ≡ used roomy → last ≡ used (made bytes) → (last - first) / 2 ≡ length bytes
  made_count first last p q = omega (arith, p, q, texts_used roomy bytes)

  pub extended_is : (g new : Heap Value ℕ) (first some : ℕ) → g ≡ filled → first ≡ used roomy → some ≡ length bytes → new ≡ with_list g l (items_at g l ++ texts_from first some) → new ≡ extended texts tuples h l from
  extended_is g new first some p q r e =
      let xs = items_at h l ++ items_in tuples h from in
      let ys = texts_from (used roomy) (length bytes) in
      let zs = items_at h l ++ (items_in tuples h from ++ ys) in
      let all : items_at filled l ++ ys ≡ zs = ap (λ (vs : List Value). vs ++ ys) filled_items ∙ append_assoc (items_at h l) (items_in tuples h from) ys in
      e ∙ (ap (λ (w : Heap Value ℕ). with_list w l (items_at w l ++ texts_from first some)) p
      ∙ (ap (λ (j : ℕ). with_list filled l (items_at filled l ++ texts_from j some)) q
      ∙ (ap (λ (j : ℕ). with_list filled l (items_at filled l ++ texts_from (used roomy) j)) r
      ∙ (ap (λ (vs : List Value). with_list filled l vs) all
      ∙ (ap (λ (room : ℕ). record (made bytes) { objects = set filled.objects l (Some (ListObject zs room)) }) filled_room
      ∙ ap (λ (os : List (Option ArenaObject)). record (made bytes) { objects = os }) (set-set (made bytes).objects l (Some (ListObject xs (room_at (made bytes) l))) (Some (ListObject zs (room_at (made bytes) l)))))))))

  pub extended_later : Later h.objects (extended texts tuples h l from).objects
  extended_later = later_later (made_later bytes) (later_list (made bytes) l _ made_list)

  pub extended_told : AllTold texts tuples filled.objects → (first some : ℕ) → AllTold texts tuples (with_list filled l (items_at filled l ++ texts_from first some)).objects
  extended_told all first some =
      let f : ℕ → Value = λ k. values.Text (record { cell = first + 2 * k }) in
      told_list texts tuples filled l filled_list all (texts_from first some) (All-map (IsTold texts tuples) f (range_with_len 0 some) (λ k d lt. tt))
