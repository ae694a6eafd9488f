-- Texts that are written part by part.
use Rattle.std.proofs.Common.{◌≡◌, ℕ, ◌+◌, ◌-◌, ◌<◌, ◌≤◌, min, List, ◌++◌, length, take, drop, set, get_or, Option, Some, None, refl, sym, ap, ap₂, ◌∙◌, inl, inr, arith, get_or-set_same}
use Rattle.std.specs.Option.{option_map}
use Rattle.std.proofs.Math.Seq.{paste}
use Rattle.std.proofs.lemmas.List.{length-take, length-take-le, length-drop, take-take, drop-take, take-append-drop, take_all, drop_all, append-nil, set-get_or, set-set}
use Rattle.std.proofs.lemmas.List.Edits.{paste_none, paste_all, paste_more, paste-paste, length-paste}
use Rattle.std.proofs.lemmas.Bool.{cases_lt}
use Rattle.mpy_base.specs.World.{TextObject, Heap, AText, IsA, object, kind_of, text_of, text_at, with_text}
use Rattle.mpy_base.proofs.Worlds.{is_within}
use Rattle.prim_builtins.specs.arena_heap.declared.value.Value.{Value}
use Rattle.prim_builtins.specs.arena_heap.Values.{ArenaObject}
use Rattle.prim_builtins.specs.arena_objects.Iterables.{or_nothing}
use Rattle.prim_types.specs.Texts.{written_over}

-- a part and what is in front of it
parts : (xs : List ℕ) (n k : ℕ) → take n xs ++ take k (drop n xs) ≡ take (n + k) xs
parts xs n k =
    ap₂ (λ (ys zs : List ℕ). ys ++ zs) (sym (take-take n (n + k) xs (omega arith))) (sym (drop-take n k xs)) ∙ take-append-drop n (take (n + k) xs)

-- no more is taken than there is
taken : (k : ℕ) (xs : List ℕ) → take k xs ≡ take (length (take k xs)) xs
taken k xs = elim (cases_lt (length xs) k) [
  | inl lt ↦ take_all k xs (omega (arith, lt)) ∙ sym (take_all (length (take k xs)) xs (let e = length-take k xs in omega (arith, e, lt)))
  | inr le ↦ ap (λ (n : ℕ). take n xs) (sym (length-take-le k xs le))
]

-- the piece that was read is the next one of the text
pub piece_is : {P : Type 0} (f : P → List ℕ) (r : Option P) (p : P) (o : Option (List ℕ)) (from : ℕ) → r ≡ Some p → option_map f r ≡ option_map (λ text. take 4096 (drop from text)) o
    → f p ≡ take 4096 (drop from (or_nothing o))
piece_is f r p None from is e = absurd (let same : Some (f p) ≡ None = ap (option_map f) (sym is) ∙ e in cc)
piece_is f r p (Some text) from is e = let same : Some (f p) ≡ Some (take 4096 (drop from text)) = ap (option_map f) (sym is) ∙ e in cc

pub part_size : (k : ℕ) (xs : List ℕ) (n : ℕ) → length (take k (drop n xs)) ≡ min k (length xs - n)
part_size k xs n = length-take k (drop n xs) ∙ ap (λ (m : ℕ). min k m) (length-drop n xs)

kept : (o : Option ArenaObject) → kind_of o ≡ Some AText → Some (TextObject (text_of o)) ≡ o
kept (Some (TextObject bytes)) is = refl
kept _ is = absurd cc

module _ (h : Heap Value ℕ) (t : ℕ) (is : IsA h.objects AText t) where
  text_there : (bytes : List ℕ) → text_at (with_text h t bytes) t ≡ bytes
  text_there bytes = ap text_of (get_or-set_same h.objects t (Some (TextObject bytes)) None (is_within h.objects AText t is))

  pub text_now : (a : Heap Value ℕ) (bytes : List ℕ) → a ≡ with_text h t bytes → text_at a t ≡ bytes
  text_now a bytes e = ap (λ (w : Heap Value ℕ). text_at w t) e ∙ text_there bytes

  again : (bytes more : List ℕ) → with_text (with_text h t bytes) t more ≡ with_text h t more
  again bytes more = ap (λ (os : List (Option ArenaObject)). record h { objects = os }) (set-set h.objects t (Some (TextObject bytes)) (Some (TextObject more)))

  -- what is written behind what was written
  put_again : (a b : Heap Value ℕ) (bytes more last : List ℕ) → a ≡ with_text h t bytes → b ≡ with_text a t more → more ≡ last → b ≡ with_text h t last
  put_again a b bytes more last e put same = put ∙ (ap (λ (w : Heap Value ℕ). with_text w t more) e ∙ (again bytes more ∙ ap (λ (xs : List ℕ). with_text h t xs) same))

  pub begins : (from : ℕ) (piece : List ℕ) → h ≡ with_text h t (paste (text_at h t) from piece 0)
  begins from piece =
      sym (ap (λ (o : Option ArenaObject). record h { objects = set h.objects t o }) (kept (object h.objects t) is)
      ∙ ap (λ (os : List (Option ArenaObject)). record h { objects = os }) (set-get_or h.objects t None))
      ∙ ap (λ (xs : List ℕ). with_text h t xs) (paste_none (text_at h t) from piece)

  -- byte by byte
  pub step : (a b : Heap Value ℕ) (from k byte : ℕ) (piece : List ℕ) → a ≡ with_text h t (paste (text_at h t) from piece k) → from + k < length (text_at h t) → k < length piece → byte ≡ get_or piece k 0
      → b ≡ with_text a t (set (text_at a t) (from + k) byte) → b ≡ with_text h t (paste (text_at h t) from piece (k + 1))
  step a b from k byte piece e lt low read put =
      let start = text_at h t in
      put_again a b (paste start from piece k) (set (text_at a t) (from + k) byte) (paste start from piece (k + 1)) e put
      (ap₂ (λ (xs : List ℕ) (x : ℕ). set xs (from + k) x) (text_now a (paste start from piece k) e) read ∙ paste_more start from piece k 0 lt low)

  pub ends : (a : Heap Value ℕ) (from k : ℕ) (piece : List ℕ) → k ≡ length piece → a ≡ with_text h t (paste (text_at h t) from piece k) → a ≡ with_text h t (written_over from piece (text_at h t))
  ends a from k piece whole e =
      e ∙ ap (λ (xs : List ℕ). with_text h t xs) (paste_all (text_at h t) from piece k whole ∙ ap (λ (n : ℕ). take from (text_at h t) ++ (piece ++ drop (from + n) (text_at h t))) whole)

  -- part by part
  module _ (text : List ℕ) (room : length (text_at h t) ≡ length text) where
    pub part_there : (a : Heap Value ℕ) (from : ℕ) → from ≤ length text → a ≡ with_text h t (paste (text_at h t) 0 (take from text) from) → length (text_at a t) ≡ length text
    part_there a from le e =
        ap (λ (xs : List ℕ). length xs) (text_now a (paste (text_at h t) 0 (take from text) from) e)
        ∙ (length-paste (text_at h t) 0 (take from text) from (omega (arith, le, room)) (let n = length-take-le from text le in omega (arith, n)) ∙ room)

    pub part_step : (a b : Heap Value ℕ) (from : ℕ) → from ≤ length text → a ≡ with_text h t (paste (text_at h t) 0 (take from text) from)
        → b ≡ with_text a t (written_over from (take 4096 (drop from text)) (text_at a t))
        → b ≡ with_text h t (paste (text_at h t) 0 (take (from + length (take 4096 (drop from text))) text) (from + length (take 4096 (drop from text))))
    part_step a b from le e put =
        let start = text_at h t in
        let piece = take 4096 (drop from text) in
        let front = take from text in
        let len = length-take-le from text le in
        let over = sym (paste_all (text_at a t) from piece (length piece) refl) in
        let now = ap (λ (xs : List ℕ). paste xs from piece (length piece)) (text_now a (paste start 0 front from) e) in
        let zero_plus : 0 + from ≡ from = omega arith in
        let both = ap (λ (n : ℕ). paste (paste start 0 front from) n piece (length piece)) (sym zero_plus) ∙ paste-paste start 0 front piece from (length piece) (sym len) refl (omega arith) in
        let more = ap (λ (xs : List ℕ). front ++ xs) (taken 4096 (drop from text)) ∙ parts text from (length piece) in
        put_again a b (paste start 0 front from) (written_over from piece (text_at a t)) (paste start 0 (take (from + length piece) text) (from + length piece)) e put
        (over ∙ (now ∙ (both ∙ ap (λ (xs : List ℕ). paste start 0 xs (from + length piece)) more)))

    pub part_ends : (a : Heap Value ℕ) (from : ℕ) → from ≡ length text → a ≡ with_text h t (paste (text_at h t) 0 (take from text) from) → a ≡ with_text h t text
    part_ends a from whole e =
        let start = text_at h t in
        let all : take from text ≡ text = take_all from text (omega (arith, whole)) in
        e ∙ ap (λ (xs : List ℕ). with_text h t xs)
        (ap (λ (xs : List ℕ). paste start 0 xs from) all ∙ (paste_all start 0 text from whole
        ∙ (ap (λ (ys : List ℕ). text ++ ys) (drop_all (0 + from) start (omega (arith, room, whole))) ∙ append-nil text)))
