-- The first piece of a str, and the others.
use Rattle.std.proofs.Common.{◌≡◌, ◌≢◌, ℕ, zero, suc, ◌+◌, ◌-◌, ◌<◌, ◌≤◌, List, [], ◌∷◌, ◌++◌, length, take, drop, get_or, Bool, true, false, cond, Option, Some, None, refl, sym, ap, ap₂, ◌∙◌, subst, arith}
use Rattle.std.specs.Prelude.{nat_eq, nat_le, not, IfSome, IfNone}
use Rattle.std.specs.List.{All, starts_with, slice_split, onto_first, filter}
use Rattle.std.proofs.Math.Seq.{drop-cons}
use Rattle.std.proofs.lemmas.List.{take-append-drop, length-drop, length-take-le, drop-drop, append-nil, take_all, length-take, get_or-take, get_or-drop}
use Rattle.std.proofs.lemmas.List.Elements.{All-head, All-tail, All-from_get_or}
use Rattle.std.proofs.lemmas.List.Splits.{slice_split-cons_yes, slice_split_at, slice_split_none}
use Rattle.memchr.specs.Find.{FindsNeedle}
use Rattle.memchr.proofs.lemmas.MatchLemmas.{OccursAt-part, OccursAt-from_part}
use Rattle.prim_builtins.specs.py_values.Shown.{is_empty}
use Rattle.prim_builtins.specs.py_primitives.Methods.{is_space, pieces_between, words_of}
use Rattle.prim_str_methods.specs.Pieces.{between}
use Rattle.prim_str_methods.proofs.Places.{Reads, begins, begins_not, fits}

-- words
-- =====

abbrev has_bytes : List ℕ → Bool
has_bytes piece = not (is_empty piece)

one_space : (x : ℕ) (xs : List ℕ) → is_space x ≡ true → words_of (x ∷ xs) ≡ words_of xs
one_space x xs e = ap (filter has_bytes) (slice_split-cons_yes is_space x xs e)

spaces : (ws rest : List ℕ) → All (λ byte. is_space byte ≡ true) ws → words_of (ws ++ rest) ≡ words_of rest
spaces [] rest all = refl
spaces (w ∷ ws) rest all = one_space w (ws ++ rest) (All-head (λ byte. is_space byte ≡ true) w ws all) ∙ spaces ws rest (All-tail (λ byte. is_space byte ≡ true) w ws all)

kept : (ws : List ℕ) (others : List (List ℕ)) → 0 < length ws → filter has_bytes (ws ∷ others) ≡ ws ∷ filter has_bytes others
kept [] others lt = absurd (omega arith)
kept (w ∷ ws) others lt = refl

word_then : (ws : List ℕ) (y : ℕ) (ys : List ℕ) → 0 < length ws → All (λ byte. is_space byte ≡ false) ws → is_space y ≡ true → words_of (ws ++ y ∷ ys) ≡ ws ∷ words_of (y ∷ ys)
word_then ws y ys some all e =
    ap (filter has_bytes) (slice_split_at is_space ws y ys all e) ∙ (kept ws (slice_split is_space ys) some ∙ ap (λ (l : List (List ℕ)). ws ∷ l) (sym (one_space y ys e)))

last_word : (ws : List ℕ) → 0 < length ws → All (λ byte. is_space byte ≡ false) ws → words_of ws ≡ ws ∷ []
last_word ws some all = ap (filter has_bytes) (slice_split_none is_space ws all) ∙ kept ws [] some

other_true : (b : Bool) → b ≢ false → b ≡ true
other_true true ne = refl
other_true false ne = absurd (ne refl)

module _ (bytes : List ℕ) where
  all_passed : (from to : ℕ) (b : Bool) → to ≤ length bytes → ((k : ℕ) → from ≤ k → k < to → is_space (get_or bytes k 0) ≡ b) → All (λ byte. is_space byte ≡ b) (take (to - from) (drop from bytes))
  all_passed from to b within passed =
      All-from_get_or (λ byte. is_space byte ≡ b) (take (to - from) (drop from bytes)) 0 (λ k lt.
      let low : k < to - from = omega (arith, lt, length-take (to - from) (drop from bytes)) in
      subst (λ (x : ℕ). is_space x ≡ b) (sym (get_or-take (to - from) (drop from bytes) k 0 low ∙ get_or-drop from bytes k 0)) (passed (from + k) (omega arith) (omega (arith, low))))

  -- spaces that are passed
  pub spaces_passed : (from to : ℕ) → from ≤ to → to ≤ length bytes → ((k : ℕ) → from ≤ k → k < to → is_space (get_or bytes k 0) ≡ true) → words_of (drop from bytes) ≡ words_of (drop to bytes)
  spaces_passed from to le within passed =
      let all = all_passed from to true within passed in
      let behind : drop (to - from) (drop from bytes) ≡ drop to bytes = drop-drop (to - from) from bytes ∙ ap (λ (n : ℕ). drop n bytes) (omega arith) in
      ap words_of (sym (take-append-drop (to - from) (drop from bytes))) ∙ (spaces (take (to - from) (drop from bytes)) (drop (to - from) (drop from bytes)) all ∙ ap words_of behind)

  pub no_words : (at : ℕ) → length bytes ≤ at → words_of (drop at bytes) ≡ []
  no_words at le = ap words_of (nothing (drop at bytes) (omega (arith, length-drop at bytes)))
    where
      nothing : (l : List ℕ) → length l ≡ 0 → l ≡ []
      nothing [] e = refl
      nothing (x ∷ l) e = absurd (omega arith)

  -- a word, and what is behind it
  pub word_passed : (from to : ℕ) → from < to → to ≤ length bytes → ((k : ℕ) → from ≤ k → k < to → is_space (get_or bytes k 0) ≡ false) → (to < length bytes → is_space (get_or bytes to 0) ≢ false)
      → words_of (drop from bytes) ≡ take (to - from) (drop from bytes) ∷ words_of (drop to bytes)
  word_passed from to lt within passed stops =
      let all = all_passed from to false within passed in
      let ws = take (to - from) (drop from bytes) in
      let behind : drop (to - from) (drop from bytes) ≡ drop to bytes = drop-drop (to - from) from bytes ∙ ap (λ (n : ℕ). drop n bytes) (omega arith) in
      let whole : drop from bytes ≡ ws ++ drop to bytes = sym (take-append-drop (to - from) (drop from bytes)) ∙ ap (λ (l : List ℕ). ws ++ l) behind in
      let some : 0 < length ws = omega (arith, length-take-le (to - from) (drop from bytes) (omega (arith, length-drop from bytes)), length-drop from bytes) in
      ap words_of whole ∙ by_rest ws (drop to bytes) some all (λ y ys e. stops_at y ys e)
    where
      stops_at : (y : ℕ) (ys : List ℕ) → drop to bytes ≡ y ∷ ys → is_space y ≡ true
      stops_at y ys e =
          let more : to < length bytes = omega (arith, ap (λ (l : List ℕ). length l) e, length-drop to bytes) in
          let both : get_or bytes to 0 ∷ drop (suc to) bytes ≡ y ∷ ys = sym (drop-cons bytes to 0 more) ∙ e in
          let same : get_or bytes to 0 ≡ y = cc in
          subst (λ (b : ℕ). is_space b ≡ true) same (other_true (is_space (get_or bytes to 0)) (stops more))

      by_rest : (ws rest : List ℕ) → 0 < length ws → All (λ byte. is_space byte ≡ false) ws → ((y : ℕ) (ys : List ℕ) → rest ≡ y ∷ ys → is_space y ≡ true) → words_of (ws ++ rest) ≡ ws ∷ words_of rest
      by_rest ws [] some all stop = ap words_of (append-nil ws) ∙ last_word ws some all
      by_rest ws (y ∷ ys) some all stop = word_then ws y ys some all (stop y ys refl)

-- separators
-- ==========

module _ (separator : List ℕ) (some : 0 < length separator) where
  skipped : (n : ℕ) (bs : List ℕ) → pieces_between n separator bs ≡ pieces_between 0 separator (drop n bs)
  skipped zero bs = refl
  skipped (suc n) [] = refl
  skipped (suc n) (b ∷ bs) = skipped n bs

  passed : (b : ℕ) (bs : List ℕ) → starts_with nat_eq (b ∷ bs) separator ≡ false → pieces_between 0 separator (b ∷ bs) ≡ onto_first b (pieces_between 0 separator bs)
  passed b bs e = ap (λ (t : Bool). cond t ([] ∷ pieces_between (length separator - 1) separator bs) (onto_first b (pieces_between 0 separator bs))) e

  more : (k : ℕ) → suc (k + length separator) ≡ suc k + length separator
  more k = omega arith

  piece_at : (bs : List ℕ) (k : ℕ) → k + length separator ≤ length bs → Reads separator bs k → ((j : ℕ) → j < k → Reads separator bs j → ⊥)
      → pieces_between 0 separator bs ≡ take k bs ∷ pieces_between 0 separator (drop (k + length separator) bs)
  piece_at [] k le e before = absurd (omega (arith, some))
  piece_at (b ∷ bs) zero le e before =
      let one : suc (length separator - 1) ≡ 0 + length separator = omega (arith, some) in
      ap (λ (t : Bool). cond t ([] ∷ pieces_between (length separator - 1) separator bs) (onto_first b (pieces_between 0 separator bs))) (begins separator (b ∷ bs) e)
      ∙ (ap (λ (l : List (List ℕ)). [] ∷ l) (skipped (length separator - 1) bs) ∙ ap (λ (n : ℕ). [] ∷ pieces_between 0 separator (drop n (b ∷ bs))) one)
  piece_at (b ∷ bs) (suc k) le e before =
      passed b bs (begins_not separator (b ∷ bs) (before zero (omega arith)))
      ∙ (ap (onto_first b) (piece_at bs k (omega arith) e (λ j lt r. before (suc j) (omega arith) r))
      ∙ ap (λ (n : ℕ). (b ∷ take k bs) ∷ pieces_between 0 separator (drop n (b ∷ bs))) (more k))

  one_piece : (bs : List ℕ) → ((k : ℕ) → k ≤ length bs → Reads separator bs k → ⊥) → pieces_between 0 separator bs ≡ bs ∷ []
  one_piece [] none = refl
  one_piece (b ∷ bs) none =
      passed b bs (begins_not separator (b ∷ bs) (none zero (omega arith))) ∙ ap (onto_first b) (one_piece bs (λ k le e. none (suc k) (omega arith) e))

  -- up to the first separator
  pub piece_found : (bs : List ℕ) (k : ℕ) → FindsNeedle bs separator 0 (Some k) → pieces_between 0 separator bs ≡ take k bs ∷ pieces_between 0 separator (drop (k + length separator) bs)
  piece_found bs k found =
      let f = found.1.fits in
      piece_at bs k f (OccursAt-part bs separator k found.1) (λ j lt r. found.0.before j (omega arith) lt (OccursAt-from_part bs separator j (fits separator bs j (omega arith) r) r))

  pub piece_last : (bs : List ℕ) → FindsNeedle bs separator 0 None → pieces_between 0 separator bs ≡ bs ∷ []
  piece_last bs found = one_piece bs (λ k le e. found k (omega arith) (omega arith) (OccursAt-from_part bs separator k (fits separator bs k le e) e))

neither : (b : Bool) → b ≢ true → b ≢ false → ⊥
neither true p q = p refl
neither false p q = q refl

-- a word has bytes
pub word_goes_on : (bytes : List ℕ) (start end : ℕ) → is_space (get_or bytes start 0) ≢ true → start ≤ end → start < length bytes → (end < length bytes → is_space (get_or bytes end 0) ≢ false) → start < end
word_goes_on bytes start end other le lt stops =
    let ne : end ≡ start → ⊥ = λ e. neither (is_space (get_or bytes start 0)) other (subst (λ (n : ℕ). is_space (get_or bytes n 0) ≢ false) e (stops (omega (arith, e, lt)))) in
    omega (arith, ne, le)

pub next_within : (separator bytes : List ℕ) (at : ℕ) → at ≤ length bytes → between separator bytes at ≡ pieces_between 0 separator (drop at bytes)
next_within separator bytes at le = ap (λ (b : Bool). cond b (pieces_between 0 separator (drop at bytes)) []) (le_true at (length bytes) le)
  where
    le_true : (m n : ℕ) → m ≤ n → nat_le m n ≡ true
    le_true m n le = grind arith

pub next_past : (separator bytes : List ℕ) (at : ℕ) → length bytes < at → between separator bytes at ≡ []
next_past separator bytes at lt = ap (λ (b : Bool). cond b (pieces_between 0 separator (drop at bytes)) []) (le_false at (length bytes) lt)
  where
    le_false : (m n : ℕ) → n < m → nat_le m n ≡ false
    le_false m n lt = grind arith

-- the pieces behind a separator that is found
pub found_next : (separator bytes : List ℕ) (some : 0 < length separator) (from k : ℕ) → from ≤ length bytes → FindsNeedle (drop from bytes) separator 0 (Some k)
    → between separator bytes from ≡ take (from + k - from) (drop from bytes) ∷ between separator bytes (from + k + length separator)
found_next separator bytes some from k le found =
    let fit = found.1.fits in
    let next : from + k + length separator ≤ length bytes = omega (arith, fit, length-drop from bytes) in
    let same : from + k - from ≡ k = omega arith in
    next_within separator bytes from le ∙ (piece_found separator some (drop from bytes) k found
    ∙ ap₂ (λ (n : ℕ) (ps : List (List ℕ)). take n (drop from bytes) ∷ ps) (sym same)
    (ap (pieces_between 0 separator) (drop-drop (k + length separator) from bytes ∙ ap (λ (n : ℕ). drop n bytes) (omega arith)) ∙ sym (next_within separator bytes (from + k + length separator) next)))

pub found_last : (separator bytes : List ℕ) (some : 0 < length separator) (from : ℕ) → from ≤ length bytes → FindsNeedle (drop from bytes) separator 0 None
    → between separator bytes from ≡ take (length bytes - from) (drop from bytes) ∷ between separator bytes (length bytes + 1)
found_last separator bytes some from le found =
    next_within separator bytes from le ∙ (piece_last separator some (drop from bytes) found
    ∙ ap₂ (λ (p : List ℕ) (ps : List (List ℕ)). p ∷ ps) (sym (take_all (length bytes - from) (drop from bytes) (omega (arith, length-drop from bytes)))) (sym (next_past separator bytes (length bytes + 1) (omega arith))))

pub if_some : {A : Type 0} {P Q : A → Type 0} (o : Option A) → ((a : A) → P a → Q a) → IfSome o P → IfSome o Q
if_some (Some a) f p = f a p
if_some None f p = tt

pub if_none : {A : Type 0} {P Q : Type 0} (o : Option A) → (P → Q) → IfNone o P → IfNone o Q
if_none (Some a) f p = tt
if_none None f p = f p
