-- Strs that are joined in a text.
use Rattle.std.proofs.Common.{◌≡◌, ◌≢◌, ℕ, zero, suc, ◌+◌, ◌-◌, ◌^◌, ◌<◌, ◌≤◌, min, List, [], ◌∷◌, ◌++◌, length, map, take, drop, get_or, append_assoc, Option, Some, None, refl, sym, ap, ap₂, ◌∙◌, subst, inl, inr, arith, length-append, get_or-set_other}
use Rattle.std.specs.Prelude.{slice_get}
use Rattle.std.specs.List.{All, flat_map}
use Rattle.std.specs.Option.{option_map}
use Rattle.std.proofs.Math.Seq.{take-suc}
use Rattle.std.proofs.lemmas.List.{map-append, length-map, length-take-le, take_all, take-append-drop, append-nil}
use Rattle.std.proofs.lemmas.List.Elements.{All-nil, All-head, All-tail}
use Rattle.std.proofs.lemmas.Option.{slice_get-get_or}
use Rattle.std.proofs.lemmas.Bool.{cases_eq}
use Rattle.prim_builtins.specs.arena_heap.declared.value.Value.{Value}
use Rattle.prim_builtins.specs.arena_heap.declared.value.Value.TheVariants as values
use Rattle.prim_builtins.specs.arena_heap.declared.value.StrNo.{StrNo}
use Rattle.prim_builtins.specs.arena_heap.declared.value.ConstNo.{ConstNo}
use Rattle.mpy_base.specs.World.{TextObject, Heap, AText, Later, object, kind_of, with_text}
use Rattle.prim_builtins.specs.arena_heap.Values.{ArenaObject, Leads}
use Rattle.prim_builtins.specs.arena_heap.Constants.{IsTold}
use Rattle.prim_builtins.proofs.arena_heap_lemmas.Sounds.{leads_later}
use Rattle.prim_builtins.specs.arena_objects.Keys.{AllTold}
use Rattle.prim_builtins.specs.arena_objects.Iterables.{items_in, given, spelled}
use Rattle.prim_builtins.specs.py_primitives.Texts.{joined}
use Rattle.prim_builtins.specs.prim_walks.Plain.{plain, plain_heap}
use Rattle.prim_builtins.specs.prim_faults.Faults.{IsKnownStr}
use Rattle.prim_builtins.specs.prim_operators.Operands.{IsNested}
use Rattle.prim_builtins.specs.prim_operators.Sources.{IsOtherThan}
use Rattle.prim_builtins.proofs.prim_operators_lemmas.ItemFills.{object_put_there, told_put}
use Rattle.prim_str_methods.specs.declared.cuts.Cut.{Cut}
use Rattle.prim_str_methods.specs.Parts.{strs_of, all_strs, parts_in, cut_bytes, IsCut, CanJoin, in_front}
use Rattle.prim_str_methods.proofs.JoinParts.{str_or_not, letters_in, other_parts_in, no_items, strs_plain, strs_length, all_some}
use Rattle.prim_str_methods.proofs.Writings.{later_now, spelled_apart, known_later}

module _ (separator : List ℕ) where
  abbrev behind : List ℕ → List ℕ
  behind part = separator ++ part

  others_more : (xs : List (List ℕ)) (x : List ℕ) → flat_map behind (xs ++ x ∷ []) ≡ flat_map behind xs ++ (separator ++ x)
  others_more [] x = append-nil (separator ++ x)
  others_more (y ∷ ys) x =
      ap (λ (l : List ℕ). behind y ++ l) (others_more ys x) ∙ sym (append_assoc (behind y) (flat_map behind ys) (separator ++ x))

  -- one part more
  pub joined_more : (xs : List (List ℕ)) (x : List ℕ) → joined separator (xs ++ x ∷ []) ≡ joined separator xs ++ (in_front (length xs) separator ++ x)
  joined_more [] x = append-nil x
  joined_more (y ∷ ys) x = ap (λ (l : List ℕ). y ++ l) (others_more ys x) ∙ sym (append_assoc y (flat_map behind ys) (separator ++ x))

  longer : (xs ys : List (List ℕ)) → length (joined separator xs) ≤ length (joined separator (xs ++ ys))
  longer xs [] = omega (arith, ap (λ (l : List (List ℕ)). length (joined separator l)) (append-nil xs))
  longer xs (y ∷ ys) =
      let more = longer (xs ++ y ∷ []) ys in
      omega (
        arith,
        more,
        ap (λ (l : List (List ℕ)). length (joined separator l)) (append_assoc xs (y ∷ []) ys),
        ap (λ (l : List ℕ). length l) (joined_more xs y),
        length-append (joined separator xs) (in_front (length xs) separator ++ y),
      )

  module _ (parts : List (List ℕ)) (at : ℕ) (lt : at < length parts) where
    pub next_part : joined separator (take (at + 1) parts) ≡ joined separator (take at parts) ++ (in_front at separator ++ get_or parts at [])
    next_part =
        let one : at + 1 ≡ suc at = omega arith in
        ap (λ (j : ℕ). joined separator (take j parts)) one ∙ (ap (joined separator) (take-suc parts at [] lt) ∙ (joined_more (take at parts) (get_or parts at [])
        ∙ ap (λ (j : ℕ). joined separator (take at parts) ++ (in_front j separator ++ get_or parts at [])) (length-take-le at parts (omega arith))))

    pub next_fits : length (joined separator (take at parts)) + length (in_front at separator ++ get_or parts at []) ≤ length (joined separator parts)
    next_fits =
        omega (
          arith,
          longer (take (at + 1) parts) (drop (at + 1) parts),
          ap (λ (l : List (List ℕ)). length (joined separator l)) (take-append-drop (at + 1) parts),
          ap (λ (l : List ℕ). length l) next_part,
          length-append (joined separator (take at parts)) (in_front at separator ++ get_or parts at []),
        )

pub first_front : (separator : List ℕ) (at : ℕ) → at ≡ 0 → in_front at separator ≡ []
first_front separator zero e = refl
first_front separator (suc at) e = absurd cc

pub other_front : (separator : List ℕ) (at : ℕ) → at ≢ 0 → in_front at separator ≡ separator
other_front separator zero ne = absurd (ne refl)
other_front separator (suc at) ne = refl

-- the first strs, and the bytes that they have joined
pub record SoFar (separator : List ℕ) (strs : List (Option (List ℕ))) (at len : ℕ) : Type 0 where
  pub parts : List (List ℕ)
  pub are : take at strs ≡ map (λ (bs : List ℕ). Some bs) parts
  pub counted : len ≡ min (length (joined separator parts)) (2 ^ 64 - 1)

pub far_none : (separator : List ℕ) (strs : List (Option (List ℕ))) → SoFar separator strs 0 0
far_none separator strs = record { parts = []; are = refl; counted = refl }

part_is : (o : Option (List ℕ)) (n : ℕ) → Some n ≡ option_map (λ (bs : List ℕ). length bs) o → (p : List ℕ) × (o ≡ Some p) × (length p ≡ n)
part_is (Some p) n e = (p, refl, cc)
part_is None n e = absurd cc

step_is : (separator : List ℕ) (at s n : ℕ) → (at ≡ 0 → s ≡ n) → (at ≢ 0 → s ≡ length separator + n) → length (in_front at separator) + n ≡ s
step_is separator zero s n first others = let e = first refl in omega (arith, e)
step_is separator (suc at) s n first others = let e = others (λ q. absurd cc) in omega (arith, e)

pub far_more : (separator : List ℕ) (strs : List (Option (List ℕ))) (at len n s new : ℕ) → SoFar separator strs at len → at < length strs → Some n ≡ option_map (λ (bs : List ℕ). length bs) (get_or strs at None)
    → (at ≡ 0 → s ≡ n) → (at ≢ 0 → s ≡ length separator + n) → new ≡ min (len + s) (2 ^ 64 - 1) → SoFar separator strs (at + 1) new
far_more separator strs at len n s new far lt is first others counted =
    let part = part_is (get_or strs at None) n is in
    let p = part.0 in
    let one : at + 1 ≡ suc at = omega arith in
    let count : length far.parts ≡ at = omega (arith, ap (λ (l : List (Option (List ℕ))). length l) far.are, length-map far.parts (λ (bs : List ℕ). Some bs), length-take-le at strs (omega arith)) in
    let front : length (in_front (length far.parts) separator) ≡ length (in_front at separator) = ap (λ (j : ℕ). length (in_front j separator)) count in
    let was = far.counted in
    record {
      parts = far.parts ++ p ∷ [];
      are = ap (λ (j : ℕ). take j strs) one ∙ (take-suc strs at None lt ∙ (ap₂ (λ (l : List (Option (List ℕ))) (o : Option (List ℕ)). l ++ o ∷ []) far.are part.1 ∙ sym (map-append (λ (bs : List ℕ). Some bs) far.parts (p ∷ []))));
      counted = omega (
        arith,
        counted,
        was,
        step_is separator at s n first others,
        part.2,
        front,
        ap (λ (l : List ℕ). length l) (joined_more separator far.parts p),
        length-append (joined separator far.parts) (in_front (length far.parts) separator ++ p),
        length-append (in_front (length far.parts) separator) p,
      );
    }

pub far_all : (separator : List ℕ) (strs : List (Option (List ℕ))) (at len : ℕ) → length strs ≤ at → SoFar separator strs at len
    → Some len ≡ option_map (λ (parts : List (List ℕ)). min (length (joined separator parts)) (2 ^ 64 - 1)) (all_strs strs)
far_all separator strs at len le far =
    sym (ap (λ (l : List (Option (List ℕ))). option_map (λ (parts : List (List ℕ)). min (length (joined separator parts)) (2 ^ 64 - 1)) (all_strs l)) (sym (take_all at strs le) ∙ far.are)
    ∙ (ap (λ (o : Option (List (List ℕ))). option_map (λ (parts : List (List ℕ)). min (length (joined separator parts)) (2 ^ 64 - 1)) o) (all_some far.parts) ∙ ap (λ (n : ℕ). Some n) (sym far.counted)))

module _ (texts : StrNo → Option (List ℕ)) (tuples : ConstNo → Option (List Value)) (h : Heap Value ℕ) where
  pub fewer_items : (v : Value) → Leads h.objects v → IsNested tuples v → length (items_in tuples h v) ≤ length (strs_of (plain_heap texts tuples h) (plain texts tuples v))
  fewer_items v leads nests = elim (str_or_not texts tuples h v) [
    | inl str ↦ let none = ap (λ (l : List Value). length l) (no_items texts tuples h v str) in omega (arith, none)
    | inr other ↦
        let items = items_in tuples h v in
        let strs = ap (λ (l : List (Option (List ℕ))). length l) (strs_plain texts tuples h v other leads nests) in
        omega (arith, strs, strs_length texts tuples h items)
  ]

  pub all_seen : (P : Value → Type 0) (items : List Value) (at : ℕ) → length items ≤ at → ((k : ℕ) (v : Value) → k < at → slice_get items k ≡ Some v → P v) → All P items
  all_seen P items at le seen = λ k d lt. seen k (get_or items k d) (omega arith) (slice_get-get_or items k d lt)

  pub one_seen : (P : Value → Type 0) (items : List Value) (at : ℕ) → ((k : ℕ) (v : Value) → k < at → slice_get items k ≡ Some v → P v) → ((v : Value) → slice_get items at ≡ Some v → P v)
      → (k : ℕ) (v : Value) → k < at + 1 → slice_get items k ≡ Some v → P v
  one_seen P items at seen now = λ k v lt e. elim (cases_eq k at) [
    | inl q ↦ now v (subst (λ (j : ℕ). slice_get items j ≡ Some v) q e)
    | inr ne ↦ seen k v (omega arith) e
  ]

  module _ (t : ℕ) (separator : Cut) (over : Value) (can : CanJoin texts tuples h t separator over) where
    module _ (a : Heap Value ℕ) (bytes : List ℕ) (e : a ≡ with_text h t bytes) where
      given_same : (n : ℕ) → given (object (with_text h t bytes).objects n) ≡ given (object h.objects n)
      given_same n = elim (cases_eq n t) [
        | inl q ↦ subst (λ (m : ℕ). given (object (with_text h t bytes).objects m) ≡ given (object h.objects m)) (sym q)
            (ap given (object_put_there tuples h t (TextObject bytes) AText can.text) ∙ sym (no_items_in (object h.objects t) can.text))
        | inr ne ↦ ap given (get_or-set_other h.objects t n (Some (TextObject bytes)) None ne)
      ]
        where
          no_items_in : (o : Option ArenaObject) → kind_of o ≡ Some AText → given o ≡ []
          no_items_in (Some (TextObject bs)) is = refl
          no_items_in _ is = absurd cc

      items_same : (v : Value) → items_in tuples (with_text h t bytes) v ≡ items_in tuples h v
      items_same (values.List n) = given_same n.cell
      items_same (values.Tuple n) = given_same n.cell
      items_same (values.Dict n) = given_same n.cell
      items_same (values.Range n) = given_same n.cell
      items_same _ = refl

      pub items_now : items_in tuples a over ≡ items_in tuples h over
      items_now = ap (λ (w : Heap Value ℕ). items_in tuples w over) e ∙ items_same over

      later : Later h.objects a.objects
      later = later_now texts tuples h t can.text a bytes e

      spelled_now : (v : Value) → IsOtherThan t v → spelled texts a v ≡ spelled texts h v
      spelled_now v other = spelled_apart texts tuples h t can.text a bytes v other e

      pub cut_now : (cut : Cut) → IsOtherThan t cut.of → cut_bytes texts a cut ≡ cut_bytes texts h cut
      cut_now cut other = ap (λ (bs : List ℕ). take cut.len (drop cut.start bs)) (spelled_now cut.of other)

      pub is_cut_now : (cut : Cut) → IsOtherThan t cut.of → IsCut texts tuples h cut → IsCut texts tuples a cut
      is_cut_now cut other is = record {
        str = known_later texts tuples later cut.of is.str;
        within = let within = is.within in omega (arith, within, ap (λ (l : List ℕ). length l) (spelled_now cut.of other));
        few = is.few;
      }

      parts_same : (items : List Value) → All (IsOtherThan t) items → map (spelled texts a) items ≡ map (spelled texts h) items
      parts_same [] others = refl
      parts_same (item ∷ items) others =
          ap₂ (λ (p : List ℕ) (ps : List (List ℕ)). p ∷ ps) (spelled_now item (All-head (IsOtherThan t) item items others)) (parts_same items (All-tail (IsOtherThan t) item items others))

      pub parts_now : parts_in texts a tuples over ≡ parts_in texts h tuples over
      parts_now = elim (str_or_not texts tuples h over) [
        | inl str ↦ letters_in texts tuples a over str ∙ (ap (λ (bs : List ℕ). map (λ (byte : ℕ). byte ∷ []) bs) (spelled_now over can.other_over) ∙ sym (letters_in texts tuples h over str))
        | inr other ↦ other_parts_in texts tuples a over other ∙ (ap (map (spelled texts a)) items_now ∙ (parts_same (items_in tuples h over) can.other_strs ∙ sym (other_parts_in texts tuples h over other)))
      ]

      pub can_join_now : CanJoin texts tuples a t separator over
      can_join_now = record {
        text = later.keeps AText t can.text;
        cut = is_cut_now separator can.other_separator can.cut;
        known = record { leads = leads_later later over can.known.leads; told = can.known.told };
        strs = subst (All (IsKnownStr texts tuples a.objects)) (sym items_now) (λ k d lt. known_later texts tuples later _ (can.strs k d lt));
        all_told = subst (λ (w : Heap Value ℕ). AllTold texts tuples w.objects) (sym e) (told_put texts tuples h t AText can.text can.all_told (TextObject bytes) (All-nil (IsTold texts tuples)));
        other_separator = can.other_separator;
        other_over = can.other_over;
        other_strs = subst (All (IsOtherThan t)) (sym items_now) can.other_strs;
      }
