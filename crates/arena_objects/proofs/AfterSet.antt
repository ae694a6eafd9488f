-- What is found after a value was set.
use Rattle.std.proofs.Common.{ℕ, ◌+◌, ◌-◌, ◌<◌, ◌≤◌, ◌≡◌, List, [], ◌∷◌, ◌++◌, length, Option, Some, None, get_or, set, replicate, refl, sym, ◌∙◌, ap, subst, inl, inr, arith, length-set, get_or-set_same, get_or-set_other}
use Rattle.std.specs.Prelude.{slice_get}
use Rattle.std.specs.Option.{option_map}
use Rattle.std.proofs.lemmas.List.{get_or_past, get_or_append_left, get_or-append_right, get_or_at, get_or_default, length_push}
use Rattle.std.proofs.lemmas.List.Edits.{length-remove, get_or-remove_below, get_or-remove_above}
use Rattle.std.specs.List.{remove}
use Rattle.std.proofs.lemmas.Bool.{cases_eq, cases_lt}
use Rattle.std.proofs.lemmas.Option.{slice_get-get_or}
use Rattle.arena_heap.specs.declared.value.Value.{Value}
use Rattle.arena_heap.specs.declared.value.Value.TheVariants as values
use Rattle.arena_heap.specs.declared.value.StrNo.{StrNo}
use Rattle.py_values.specs.mpy_base.World.{Heap, DictObject, ADict, IsA, object, kind_of, text_of, text_at, pairs_of, pairs_at, with_dict, room_at}
use Rattle.py_values.specs.mpy_base.Weights.{with_pairs, dict_growth, grown_room}
use Rattle.py_values.proofs.mpy_base_lemmas.Worlds.{object_nones, is_within, object_pairs}
use Rattle.arena_heap.specs.Values.{ArenaObject}
use Rattle.arena_heap.specs.Dicts.{with_value}
use Rattle.arena_objects.specs.Keys.{key_of, key_in, StandsAt, Lacks, IsValueOf, KeepsOthers, IsDistinct}
use Rattle.py_values.specs.Keys.{TextKey}
use Rattle.arena_objects.proofs.Places.{no_pair}

text_of_dict : (o : Option ArenaObject) → kind_of o ≡ Some ADict → text_of o ≡ []
text_of_dict (Some (DictObject pairs room)) q = refl
text_of_dict _ q = absurd cc

text_of_set : (obs : List (Option ArenaObject)) (n : ℕ) (pairs : List (Value × Value)) (room : ℕ) → IsA obs ADict n → (m : ℕ) → text_of (object (set obs n (Some (DictObject pairs room))) m) ≡ text_of (object obs m)
text_of_set obs n pairs room is m =
    let o : Option ArenaObject = Some (DictObject pairs room) in
    elim (cases_eq m n) [
      | inl q ↦ subst (λ (j : ℕ). text_of (object (set obs n o) j) ≡ text_of (object obs j)) (sym q)
          (ap text_of (get_or-set_same obs n o None (is_within obs ADict n is)) ∙ sym (text_of_dict (object obs n) is))
      | inr ne ↦ ap text_of (get_or-set_other obs n m o None ne)
    ]

text_of_more : (obs : List (Option ArenaObject)) (cells m : ℕ) → text_of (object (obs ++ replicate cells None) m) ≡ text_of (object obs m)
text_of_more obs cells m =
    let none : Option ArenaObject = None in
    elim (cases_lt m (length obs)) [
      | inl lt ↦ ap text_of (get_or_append_left obs (replicate cells none) none m lt)
      | inr ge ↦ ap text_of (get_or-append_right obs (replicate cells none) (length obs) m none refl ge ∙ (object_nones cells (m - length obs) ∙ sym (get_or_past obs m none ge)))
    ]

-- a change of a dict changes no text
module _ (h : Heap Value ℕ) (n : ℕ) (is : IsA h.objects ADict n) (pairs : List (Value × Value)) where
  pub texts_kept : (m : ℕ) → text_at (with_dict h n pairs) m ≡ text_at h m
  texts_kept m = text_of_set h.objects n pairs (room_at h n) is m

  pub texts_kept_more : (m : ℕ) → text_at (with_pairs h n pairs) m ≡ text_at h m
  texts_kept_more m =
      let cells = dict_growth h n (length pairs) in
      let none : Option ArenaObject = None in
      let still : IsA (h.objects ++ replicate cells none) ADict n = ap kind_of (get_or_append_left h.objects (replicate cells none) none n (is_within h.objects ADict n is)) ∙ is in
      text_of_set (h.objects ++ replicate cells none) n pairs (grown_room h n (length pairs)) still m ∙ text_of_more h.objects cells m

  pub pairs_of_with : pairs_at (with_dict h n pairs) n ≡ pairs
  pairs_of_with = ap pairs_of (get_or-set_same h.objects n (Some (DictObject pairs (room_at h n))) None (is_within h.objects ADict n is))

  pub pairs_of_more : pairs_at (with_pairs h n pairs) n ≡ pairs
  pairs_of_more = ap pairs_of (object_pairs h n pairs is)

key_same : (texts : StrNo → Option (List ℕ)) (g h : Heap Value ℕ) → ((m : ℕ) → text_at g m ≡ text_at h m) → (v : Value) → key_of texts g v ≡ key_of texts h v
key_same texts g h same (values.Text t) = ap (λ bytes. Some (TextKey bytes)) (same t.cell)
key_same texts g h same _ = refl

-- keys stay where a value is set
key_stays : (pairs : List (Value × Value)) (at : ℕ) (v : Value) → at < length pairs → (k : ℕ) → key_in (with_value pairs at v) k ≡ key_in pairs k
key_stays pairs at v lt k =
    let pair : Value × Value = ((get_or pairs at (v, v)).0, v) in
    elim (cases_eq k at) [
      | inl q ↦ subst (λ (j : ℕ). key_in (set pairs at pair) j ≡ key_in pairs j) (sym q)
          (ap (λ (p : Value × Value). p.0) (get_or-set_same pairs at pair no_pair lt) ∙ ap (λ (p : Value × Value). p.0) (get_or_default pairs at (v, v) no_pair lt))
      | inr ne ↦ ap (λ (p : Value × Value). p.0) (get_or-set_other pairs at k pair no_pair ne)
    ]

module _ (texts : StrNo → Option (List ℕ)) (h g : Heap Value ℕ) (d : ℕ) (key v : Value) (same : (m : ℕ) → text_at g m ≡ text_at h m) where
  -- the key of a pair that has the key that it had
  key_kept : (k : ℕ) → key_in (pairs_at g d) k ≡ key_in (pairs_at h d) k → key_of texts g (key_in (pairs_at g d) k) ≡ key_of texts h (key_in (pairs_at h d) k)
  key_kept k e = key_same texts g h same (key_in (pairs_at g d) k) ∙ ap (key_of texts h) e

  pub found_set : {at : ℕ} → StandsAt texts h d key at → pairs_at g d ≡ with_value (pairs_at h d) at v → IsValueOf texts g d key v
  found_set {at} s e =
      let pairs = pairs_at h d in
      let pair : Value × Value = ((get_or pairs at (v, v)).0, v) in
      let l : length (pairs_at g d) ≡ length pairs = ap length e ∙ length-set pairs at pair in
      let ls = length-set pairs at pair in
      let keys : (k : ℕ) → key_in (pairs_at g d) k ≡ key_in pairs k = λ k. ap (λ (ps : List (Value × Value)). key_in ps k) e ∙ key_stays pairs at v s.within k in
      record {
        at = at;
        stands = record {
          within = omega (arith, s.within, l);
          equal = key_kept at (keys at) ∙ (s.equal ∙ sym (key_same texts g h same key));
          first = λ k lt q. s.first k lt (sym (key_kept k (keys k)) ∙ (q ∙ key_same texts g h same key));
        };
        value = ap (λ (ps : List (Value × Value)). option_map (λ (p : Value × Value). p.1) (slice_get ps at)) e
            ∙ ap (option_map (λ (p : Value × Value). p.1)) (slice_get-get_or (set pairs at pair) at no_pair (omega (arith, s.within, ls)) ∙ ap (λ (p : Value × Value). Some p) (get_or-set_same pairs at pair no_pair s.within));
      }

  pub found_added : Lacks texts h d key → pairs_at g d ≡ pairs_at h d ++ (key, v) ∷ [] → IsValueOf texts g d key v
  found_added absent e =
      let pairs = pairs_at h d in
      let l : length (pairs_at g d) ≡ length pairs + 1 = ap length e ∙ length_push pairs (key, v) in
      let here : get_or (pairs ++ (key, v) ∷ []) (length pairs) no_pair ≡ (key, v) = get_or_at pairs (key, v) [] no_pair (length pairs) refl in
      let key_here : key_in (pairs_at g d) (length pairs) ≡ key = ap (λ (ps : List (Value × Value)). key_in ps (length pairs)) e ∙ ap (λ (p : Value × Value). p.0) here in
      let keys : (k : ℕ) → k < length pairs → key_in (pairs_at g d) k ≡ key_in pairs k = λ k lt.
      ap (λ (ps : List (Value × Value)). key_in ps k) e ∙ ap (λ (p : Value × Value). p.0) (get_or_append_left pairs ((key, v) ∷ []) no_pair k lt) in
      record {
        at = length pairs;
        stands = record {
          within = omega (arith, l);
          equal = ap (key_of texts g) key_here;
          first = λ k lt q. absent.differs k lt (sym (key_kept k (keys k lt)) ∙ (q ∙ key_same texts g h same key));
        };
        value = ap (λ (ps : List (Value × Value)). option_map (λ (p : Value × Value). p.1) (slice_get ps (length pairs))) e
            ∙ ap (option_map (λ (p : Value × Value). p.1)) (slice_get-get_or (pairs ++ (key, v) ∷ []) (length pairs) no_pair (omega (arith, length_push pairs (key, v))) ∙ ap (λ (p : Value × Value). Some p) here);
      }

  pub others_set : {at : ℕ} → StandsAt texts h d key at → pairs_at g d ≡ with_value (pairs_at h d) at v → KeepsOthers texts h g d key
  others_set {at} s e =
      let pairs = pairs_at h d in
      let pair : Value × Value = ((get_or pairs at (v, v)).0, v) in
      let l : length (pairs_at g d) ≡ length pairs = ap length e ∙ length-set pairs at pair in
      let ls = length-set pairs at pair in
      let kept : (k : ℕ) → key_of texts g (key_in (pairs_at g d) k) ≡ key_of texts h (key_in pairs k) = λ k. key_kept k (ap (λ (ps : List (Value × Value)). key_in ps k) e ∙ key_stays pairs at v s.within k) in
      record {
        values = λ other w ne x.
            let apart : x.at ≡ at → ⊥ = λ q. ne (sym x.stands.equal ∙ (ap (λ (k : ℕ). key_of texts h (key_in pairs k)) q ∙ s.equal)) in
            record {
              at = x.at;
              stands = record {
                within = omega (arith, x.stands.within, l);
                equal = kept x.at ∙ (x.stands.equal ∙ sym (key_same texts g h same other));
                first = λ k lt q. x.stands.first k lt (sym (kept k) ∙ (q ∙ key_same texts g h same other));
              };
              value = ap (λ (ps : List (Value × Value)). option_map (λ (p : Value × Value). p.1) (slice_get ps x.at)) e
                  ∙ (ap (option_map (λ (p : Value × Value). p.1)) (slice_get-get_or (set pairs at pair) x.at no_pair (omega (arith, x.stands.within, ls))
                  ∙ (ap (λ (p : Value × Value). Some p) (get_or-set_other pairs at x.at pair no_pair apart) ∙ sym (slice_get-get_or pairs x.at no_pair x.stands.within))) ∙ x.value);
            };
        lacking = λ other ne x. record { differs = λ k lt q. x.differs k (omega (arith, l)) (sym (kept k) ∙ (q ∙ key_same texts g h same other)) };
      }

  pub others_added : pairs_at g d ≡ pairs_at h d ++ (key, v) ∷ [] → KeepsOthers texts h g d key
  others_added e =
      let pairs = pairs_at h d in
      let more : List (Value × Value) = (key, v) ∷ [] in
      let l : length (pairs_at g d) ≡ length pairs + 1 = ap length e ∙ length_push pairs (key, v) in
      let kept : (k : ℕ) → k < length pairs → key_of texts g (key_in (pairs_at g d) k) ≡ key_of texts h (key_in pairs k) = λ k lt.
      key_kept k (ap (λ (ps : List (Value × Value)). key_in ps k) e ∙ ap (λ (p : Value × Value). p.0) (get_or_append_left pairs more no_pair k lt)) in
      let last : key_in (pairs_at g d) (length pairs) ≡ key =
      ap (λ (ps : List (Value × Value)). key_in ps (length pairs)) e ∙ ap (λ (p : Value × Value). p.0) (get_or_at pairs (key, v) [] no_pair (length pairs) refl) in
      record {
        values = λ other w ne x. record {
          at = x.at;
          stands = record {
            within = omega (arith, x.stands.within, l);
            equal = kept x.at x.stands.within ∙ (x.stands.equal ∙ sym (key_same texts g h same other));
            first = λ k lt q. x.stands.first k lt (sym (kept k (omega (arith, x.stands.within))) ∙ (q ∙ key_same texts g h same other));
          };
          value = ap (λ (ps : List (Value × Value)). option_map (λ (p : Value × Value). p.1) (slice_get ps x.at)) e
              ∙ (ap (option_map (λ (p : Value × Value). p.1)) (slice_get-get_or (pairs ++ more) x.at no_pair (omega (arith, x.stands.within, length_push pairs (key, v)))
              ∙ (ap (λ (p : Value × Value). Some p) (get_or_append_left pairs more no_pair x.at x.stands.within) ∙ sym (slice_get-get_or pairs x.at no_pair x.stands.within))) ∙ x.value);
        };
        lacking = λ other ne x. record {
          differs = λ k lt q. elim (cases_lt k (length pairs)) [
            | inl low ↦ x.differs k low (sym (kept k low) ∙ (q ∙ key_same texts g h same other))
            | inr high ↦
                let here : k ≡ length pairs = omega (arith, l) in
                ne (sym (sym (ap (λ (j : ℕ). key_of texts g (key_in (pairs_at g d) j)) here ∙ ap (key_of texts g) last ∙ key_same texts g h same key) ∙ (q ∙ key_same texts g h same other)))
          ];
        };
      }

  pub distinct_set : {at : ℕ} → at < length (pairs_at h d) → pairs_at g d ≡ with_value (pairs_at h d) at v → IsDistinct texts h d → IsDistinct texts g d
  distinct_set {at} lt e x =
      let pairs = pairs_at h d in
      let l : length (pairs_at g d) ≡ length pairs = ap length e ∙ length-set pairs at ((get_or pairs at (v, v)).0, v) in
      let kept : (k : ℕ) → key_of texts g (key_in (pairs_at g d) k) ≡ key_of texts h (key_in pairs k) = λ k. key_kept k (ap (λ (ps : List (Value × Value)). key_in ps k) e ∙ key_stays pairs at v lt k) in
      record { once = λ i j ij low q. x.once i j ij (omega (arith, l, low)) (sym (kept i) ∙ (q ∙ kept j)) }

  pub distinct_added : Lacks texts h d key → pairs_at g d ≡ pairs_at h d ++ (key, v) ∷ [] → IsDistinct texts h d → IsDistinct texts g d
  distinct_added absent e x =
      let pairs = pairs_at h d in
      let more : List (Value × Value) = (key, v) ∷ [] in
      let l : length (pairs_at g d) ≡ length pairs + 1 = ap length e ∙ length_push pairs (key, v) in
      let kept : (k : ℕ) → k < length pairs → key_of texts g (key_in (pairs_at g d) k) ≡ key_of texts h (key_in pairs k) = λ k lt.
      key_kept k (ap (λ (ps : List (Value × Value)). key_in ps k) e ∙ ap (λ (p : Value × Value). p.0) (get_or_append_left pairs more no_pair k lt)) in
      let last : key_of texts g (key_in (pairs_at g d) (length pairs)) ≡ key_of texts h key =
      ap (λ (ps : List (Value × Value)). key_of texts g (key_in ps (length pairs))) e
      ∙ (ap (λ (p : Value × Value). key_of texts g p.0) (get_or_at pairs (key, v) [] no_pair (length pairs) refl) ∙ key_same texts g h same key) in
      record {
        once = λ i j ij low q. elim (cases_lt j (length pairs)) [
          | inl b ↦ x.once i j ij b (sym (kept i (omega arith)) ∙ (q ∙ kept j b))
          | inr b ↦
              let here : j ≡ length pairs = omega (arith, l, low) in
              absent.differs i (omega arith) (sym (kept i (omega arith)) ∙ (q ∙ (ap (λ (k : ℕ). key_of texts g (key_in (pairs_at g d) k)) here ∙ last)))
        ];
      }

  -- the keys that a removal leaves
  module _ {at : ℕ} (lt : at < length (pairs_at h d)) (e : pairs_at g d ≡ remove (pairs_at h d) at) where
    shorter : length (pairs_at g d) + 1 ≡ length (pairs_at h d)
    shorter = let l : length (pairs_at g d) ≡ length (remove (pairs_at h d) at) = ap length e in omega (arith, l, length-remove (pairs_at h d) at lt)

    below : (k : ℕ) → k < at → key_of texts g (key_in (pairs_at g d) k) ≡ key_of texts h (key_in (pairs_at h d) k)
    below k a = key_kept k (ap (λ (ps : List (Value × Value)). key_in ps k) e ∙ ap (λ (p : Value × Value). p.0) (get_or-remove_below (pairs_at h d) at no_pair k a lt))

    above : (k : ℕ) → at ≤ k → key_of texts g (key_in (pairs_at g d) k) ≡ key_of texts h (key_in (pairs_at h d) (k + 1))
    above k a =
        key_same texts g h same (key_in (pairs_at g d) k)
        ∙ ap (key_of texts h) (ap (λ (ps : List (Value × Value)). key_in ps k) e ∙ ap (λ (p : Value × Value). p.0) (get_or-remove_above (pairs_at h d) at no_pair k a lt))

    pub gone : StandsAt texts h d key at → IsDistinct texts h d → Lacks texts g d key
    gone s x = record {
      differs = λ k low q. elim (cases_lt k at) [
        | inl a ↦ s.first k a (sym (below k a) ∙ (q ∙ key_same texts g h same key))
        | inr a ↦ x.once at (k + 1) (omega arith) (omega (arith, shorter, low)) (s.equal ∙ sym (sym (above k a) ∙ (q ∙ key_same texts g h same key)))
      ];
    }

    pub distinct_removed : IsDistinct texts h d → IsDistinct texts g d
    distinct_removed x = record {
      once = λ i j ij low q. elim (cases_lt j at) [
        | inl b ↦ x.once i j ij (omega (arith, shorter, low)) (sym (below i (omega arith)) ∙ (q ∙ below j b))
        | inr b ↦ elim (cases_lt i at) [
          | inl a ↦ x.once i (j + 1) (omega arith) (omega (arith, shorter, low)) (sym (below i a) ∙ (q ∙ above j b))
          | inr a ↦ x.once (i + 1) (j + 1) (omega arith) (omega (arith, shorter, low)) (sym (above i a) ∙ (q ∙ above j b))
        ]
      ];
    }

    others_below : (k : ℕ) (p : Value) → k < at → option_map (λ (p : Value × Value). p.1) (slice_get (pairs_at h d) k) ≡ Some p → option_map (λ (p : Value × Value). p.1) (slice_get (pairs_at g d) k) ≡ Some p
    others_below k p a q =
        let pairs = pairs_at h d in
        let l = length-remove pairs at lt in
        ap (λ (ps : List (Value × Value)). option_map (λ (p : Value × Value). p.1) (slice_get ps k)) e
        ∙ (ap (option_map (λ (p : Value × Value). p.1)) (slice_get-get_or (remove pairs at) k no_pair (omega arith)
        ∙ (ap (λ (p : Value × Value). Some p) (get_or-remove_below pairs at no_pair k a lt) ∙ sym (slice_get-get_or pairs k no_pair (omega arith)))) ∙ q)

    others_above : (k j : ℕ) (p : Value) → j ≡ k + 1 → at ≤ k → j < length (pairs_at h d) → option_map (λ (p : Value × Value). p.1) (slice_get (pairs_at h d) j) ≡ Some p
        → option_map (λ (p : Value × Value). p.1) (slice_get (pairs_at g d) k) ≡ Some p
    others_above k j p jk a low q =
        let pairs = pairs_at h d in
        let l = length-remove pairs at lt in
        ap (λ (ps : List (Value × Value)). option_map (λ (p : Value × Value). p.1) (slice_get ps k)) e
        ∙ (ap (option_map (λ (p : Value × Value). p.1)) (slice_get-get_or (remove pairs at) k no_pair (omega arith)
        ∙ (ap (λ (p : Value × Value). Some p) (get_or-remove_above pairs at no_pair k a lt ∙ ap (λ (m : ℕ). get_or pairs m no_pair) (sym jk)) ∙ sym (slice_get-get_or pairs j no_pair low))) ∙ q)

    pub others_removed : StandsAt texts h d key at → KeepsOthers texts h g d key
    others_removed s =
        let pairs = pairs_at h d in
        let key_at : Value → ℕ → Type 0 = λ other k. key_of texts h (key_in pairs k) ≡ key_of texts h other in
        let differs : (other : Value) (k : ℕ) → k < length (pairs_at g d) → ((j : ℕ) → j < k + 2 → (j ≡ at → ⊥) → key_at other j → ⊥) → key_of texts g (key_in (pairs_at g d) k) ≡ key_of texts g other → ⊥ =
        λ other k low no_key q. elim (cases_lt k at) [
          | inl a ↦ no_key k (omega arith) (λ r. omega arith) (sym (below k a) ∙ (q ∙ key_same texts g h same other))
          | inr a ↦ no_key (k + 1) (omega arith) (λ r. omega arith) (sym (above k a) ∙ (q ∙ key_same texts g h same other))
        ] in
        record {
          values = λ other w ne x.
              let apart : x.at ≡ at → ⊥ = λ q. ne (sym x.stands.equal ∙ (ap (λ (k : ℕ). key_of texts h (key_in pairs k)) q ∙ s.equal)) in
              elim (cases_lt x.at at) [
                | inl a ↦ record {
                  at = x.at;
                  stands = record {
                    within = omega (arith, shorter);
                    equal = below x.at a ∙ (x.stands.equal ∙ sym (key_same texts g h same other));
                    first = λ k low q. x.stands.first k low (sym (below k (omega arith)) ∙ (q ∙ key_same texts g h same other));
                  };
                  value = others_below x.at w a x.value;
                }
                | inr a ↦
                    let next : x.at ≡ x.at - 1 + 1 = omega (arith, apart) in
                    let behind : at ≤ x.at - 1 = omega (arith, apart) in
                    record {
                      at = x.at - 1;
                      stands = record {
                        within = omega (arith, shorter, x.stands.within, apart);
                        equal = above (x.at - 1) behind ∙ (ap (λ (k : ℕ). key_of texts h (key_in pairs k)) (sym next) ∙ (x.stands.equal ∙ sym (key_same texts g h same other)));
                        first = λ k low. differs other k (omega (arith, shorter, x.stands.within)) (λ j jl _. x.stands.first j (omega arith));
                      };
                      value = others_above (x.at - 1) x.at w next behind x.stands.within x.value;
                    }
              ];
          lacking = λ other ne x. record { differs = λ k low. differs other k low (λ j jl _. x.differs j (omega (arith, shorter))) };
        }

pub others_unchanged : (texts : StrNo → Option (List ℕ)) (h g : Heap Value ℕ) (d : ℕ) (key : Value) → g ≡ h → KeepsOthers texts h g d key
others_unchanged texts h g d key e = subst (λ (w : Heap Value ℕ). KeepsOthers texts h w d key) (sym e) (record { values = λ other v ne x. x; lacking = λ other ne x. x })
