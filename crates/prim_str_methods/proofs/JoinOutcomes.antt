-- What a join answers.
use Rattle.std.proofs.Common.{◌≡◌, ℕ, ◌<◌, List, [], ◌∷◌, length, map, take, drop, Bool, true, false, cond, Option, Some, None, Result, Ok, Err, refl, sym, ap, ap₂, ◌∙◌, subst, inl, inr, arith}
use Rattle.std.specs.List.{All}
use Rattle.std.proofs.lemmas.List.Elements.{All-nil, All-head, All-tail}
use Rattle.prim_builtins.specs.arena_heap.declared.value.Value.{Value}
use Rattle.prim_builtins.specs.arena_heap.declared.value.Value.TheVariants as values
use Rattle.prim_builtins.specs.arena_heap.declared.value.StrNo.{StrNo}
use Rattle.prim_builtins.specs.arena_heap.declared.value.ConstNo.{ConstNo}
use Rattle.mpy_base.specs.World.{TextObject, Heap, AText, IsA, object, text_of}
use Rattle.mpy_base.specs.Weights.{used, does_fit, Made, with_made}
use Rattle.mpy_base.specs.Val.{Val, At}
use Rattle.mpy_base.proofs.Worlds.{is_within, later_made, object_before, used_made}
use Rattle.prim_builtins.specs.arena_heap.Constants.{IsTold}
use Rattle.prim_builtins.proofs.arena_heap_lemmas.Sounds.{leads_later}
use Rattle.prim_builtins.specs.arena_objects.Keys.{AllTold}
use Rattle.prim_builtins.specs.arena_objects.Iterables.{items_in, given, or_nothing, spelled}
use Rattle.prim_builtins.proofs.arena_objects_lemmas.Gifts.{Keeps, items_kept, spelled_kept}
use Rattle.prim_builtins.proofs.arena_objects_lemmas.Tolds.{told_made}
use Rattle.prim_builtins.specs.py_values.Shown.{PlainHeap}
use Rattle.prim_builtins.specs.py_primitives.Outcome as primitives
use Rattle.prim_builtins.specs.py_primitives.Outcome.{Outcome, gives, raises, is_full, with_visits, after_answer, after_walk, making, making_text}
use Rattle.prim_builtins.specs.py_primitives.Iterables.{over_items}
use Rattle.prim_builtins.specs.py_primitives.Texts.{joined}
use Rattle.prim_builtins.specs.py_primitives.Methods.{parts_of, gives_joined}
use Rattle.prim_builtins.specs.prim_walks.Plain.{plain_heap}
use Rattle.prim_builtins.specs.prim_faults.declared.stop.Stop.{Stop}
use Rattle.prim_builtins.specs.prim_faults.Faults.{IsKnown, IsKnownStr}
use Rattle.prim_builtins.specs.prim_faults.Outcomes.{IsOutcome}
use Rattle.prim_builtins.specs.prim_operators.Sources.{IsOtherThan}
use Rattle.prim_str_methods.specs.declared.cuts.Cut.{Cut}
use Rattle.prim_str_methods.specs.Parts.{strs_in, all_strs, looked_at, parts_in, cut_bytes, IsCut, CanJoin}
use Rattle.prim_str_methods.proofs.JoinParts.{str_or_not, letters_in, other_parts_in, walk_answer, walk_visits}
use Rattle.prim_str_methods.proofs.Writings.{known_later}

-- a text that was made changes no strs
module _ (texts : StrNo → Option (List ℕ)) (tuples : ConstNo → Option (List Value)) {old made : Heap Value ℕ} {t : ℕ} (bytes : List ℕ) (m : Made old made t (TextObject bytes)) where
  keeps : Keeps old made
  keeps =
      let same : (n : ℕ) → n < length old.objects → object made.objects n ≡ object old.objects n = λ n lt. object_before m n lt in
      record { gives = λ n lt. ap given (same n lt); spells = λ n lt. ap text_of (same n lt); longer = λ n lt. omega (arith, lt, used_made m) }

  other : (v : Value) → IsKnownStr texts tuples old.objects v → IsOtherThan t v
  other (values.Text n) known = let low = is_within old.objects AText n.cell known.leads.meets in let number = m.number in λ e. omega arith
  other _ known = tt

  other_value : (v : Value) → IsKnown texts tuples old.objects v → IsOtherThan t v
  other_value (values.Text n) known = other (values.Text n) (record { str = tt; leads = known.leads; told = known.told })
  other_value _ known = tt

  pub cut_made : (cut : Cut) → IsCut texts tuples old cut → cut_bytes texts made cut ≡ cut_bytes texts old cut
  cut_made cut is = ap (λ (bs : List ℕ). take cut.len (drop cut.start bs)) (spelled_kept tuples texts keeps cut.of is.str.leads)

  pub is_cut_made : (cut : Cut) → IsCut texts tuples old cut → IsCut texts tuples made cut
  is_cut_made cut is = record {
    str = known_later texts tuples (later_made m) cut.of is.str;
    within = let within = is.within in omega (arith, within, ap (λ (bs : List ℕ). length bs) (spelled_kept tuples texts keeps cut.of is.str.leads));
    few = is.few;
  }

  pub other_cut : (cut : Cut) → IsCut texts tuples old cut → IsOtherThan t cut.of
  other_cut cut is = other cut.of is.str

  module _ (over : Value) (known : IsKnown texts tuples old.objects over) (strs : All (IsKnownStr texts tuples old.objects) (items_in tuples old over)) where
    same_items : items_in tuples made over ≡ items_in tuples old over
    same_items = items_kept tuples texts keeps over known.leads

    same_strs : (items : List Value) → All (IsKnownStr texts tuples old.objects) items → map (spelled texts made) items ≡ map (spelled texts old) items
    same_strs [] all = refl
    same_strs (item ∷ items) all =
        ap₂ (λ (p : List ℕ) (ps : List (List ℕ)). p ∷ ps) (spelled_kept tuples texts keeps item (All-head (IsKnownStr texts tuples old.objects) item items all).leads)
        (same_strs items (All-tail (IsKnownStr texts tuples old.objects) item items all))

    pub parts_made : parts_in texts made tuples over ≡ parts_in texts old tuples over
    parts_made = elim (str_or_not texts tuples old over) [
      | inl str ↦ letters_in texts tuples made over str ∙ (ap (λ (bs : List ℕ). map (λ (byte : ℕ). byte ∷ []) bs) (spelled_kept tuples texts keeps over known.leads) ∙ sym (letters_in texts tuples old over str))
      | inr unlike ↦ other_parts_in texts tuples made over unlike ∙ (ap (map (spelled texts made)) same_items ∙ (same_strs (items_in tuples old over) strs ∙ sym (other_parts_in texts tuples old over unlike)))
    ]

    pub can_join_made : (separator : Cut) → IsCut texts tuples old separator → IsA made.objects AText t → AllTold texts tuples old.objects → CanJoin texts tuples made t separator over
    can_join_made separator is kind all = record {
      text = kind;
      cut = is_cut_made separator is;
      known = record { leads = leads_later (later_made m) over known.leads; told = known.told };
      strs = subst (All (IsKnownStr texts tuples made.objects)) (sym same_items) (λ k d lt. known_later texts tuples (later_made m) _ (strs k d lt));
      all_told = told_made texts tuples m all (All-nil (IsTold texts tuples));
      other_separator = other_cut separator is;
      other_over = other_value over known;
      other_strs = subst (All (IsOtherThan t)) (sym same_items) (λ k d lt. other _ (strs k d lt));
    }

-- the outcome behind the walk over the parts
module _ (texts : StrNo → Option (List ℕ)) (tuples : ConstNo → Option (List Value)) (old new : Heap Value ℕ) (r : Result Value Stop) where
  visited : (n : ℕ) (o : Outcome Val) → IsOutcome texts tuples old new r o → IsOutcome texts tuples old new r (with_visits n o)
  visited n o is = record { answer = is.answer; heap = is.heap; known = is.known; later = is.later; all_told = is.all_told }

  pub joined_behind : (separator : List ℕ) (vs : List Val) (o : Option (List (List ℕ))) → all_strs (strs_in (plain_heap texts tuples old) vs) ≡ o
      → IsOutcome texts tuples old new r (gives_joined (plain_heap texts tuples old) separator o)
      → IsOutcome texts tuples old new r (after_walk (plain_heap texts tuples old) (parts_of (plain_heap texts tuples old) vs) (gives_joined (plain_heap texts tuples old) separator))
  joined_behind separator vs o e is =
      let heap = plain_heap texts tuples old in
      let next = gives_joined heap separator in
      let answer : (parts_of heap vs).answer ≡ Some o = walk_answer heap vs ∙ ap (λ (x : Option (List (List ℕ))). Some x) e in
      visited (parts_of heap vs).visits _ (subst (λ (x : Outcome Val). IsOutcome texts tuples old new r x) (sym (ap (λ (x : Option (Option (List (List ℕ)))). after_answer x heap next) answer)) is)

-- an iterable, and what is none
pub iterated : (heap : PlainHeap) (v w : Val) (o : Option (List Val)) (next : List Val → Outcome Val) → Ok w ≡ (over_items {A = Val} heap v o (λ items. gives v heap)).answer → over_items heap v o next ≡ next (or_nothing o)
iterated heap v w (Some items) next e = refl
iterated heap v w None next e = absurd cc

pub iterated_not : (heap : PlainHeap) (v : Val) (stop : primitives.Stop) (o : Option (List Val)) (next : List Val → Outcome Val) → Err stop ≡ (over_items {A = Val} heap v o (λ items. gives v heap)).answer
    → over_items heap v o (λ items. gives v heap) ≡ over_items heap v o next
iterated_not heap v stop (Some items) next e = absurd cc
iterated_not heap v stop None next e = refl

-- visits
-- ======

making_free : (heap : PlainHeap) (bytes : List ℕ) → (making_text heap bytes).visits ≡ 0
making_free heap [] = refl
making_free heap (b ∷ bs) = either (does_fit heap 2 (length (b ∷ bs)))
  where
    either : (t : Bool) → (cond t (gives (At (used heap)) (with_made heap (TextObject (b ∷ bs)))) (is_full heap 2 (length (b ∷ bs)))).visits ≡ 0
    either true = refl
    either false = refl

joined_free : (heap : PlainHeap) (separator : List ℕ) (o : Option (List (List ℕ))) → (gives_joined heap separator o).visits ≡ 0
joined_free heap separator (Some parts) = making_free heap (joined separator parts)
joined_free heap separator None = refl

-- all visits are those of the walk
pub join_visits : (heap : PlainHeap) (v : Val) (separator : List ℕ) (o : Option (List Val))
    → (over_items {A = Val} heap v o (λ items. after_walk heap (parts_of heap items) (gives_joined heap separator))).visits ≡ looked_at (strs_in heap (or_nothing o))
join_visits heap v separator None = refl
join_visits heap v separator (Some items) =
    let next = gives_joined heap separator in
    let none = joined_free heap separator (all_strs (strs_in heap items)) in
    let behind : (after_answer (parts_of heap items).answer heap next).visits ≡ (gives_joined heap separator (all_strs (strs_in heap items))).visits =
    ap (λ (x : Option (Option (List (List ℕ)))). (after_answer x heap next).visits) (walk_answer heap items) in
    omega (arith, behind, none, walk_visits heap items)
