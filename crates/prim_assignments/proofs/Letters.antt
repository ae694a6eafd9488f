-- Texts of one byte that are made one after another, as the meaning has them.
use Rattle.std.proofs.Common.{◌≡◌, ℕ, zero, suc, ◌+◌, ◌*◌, ◌<◌, List, [], ◌∷◌, length, take, map, replicate, Bool, true, false, cond, Option, Some, None, refl, sym, ap, ap₂, ◌∙◌, subst, arith, length-append}
use Rattle.std.specs.List.{range_with_len}
use Rattle.prim_operators.specs.arena_heap.declared.value.Value.{Value}
use Rattle.prim_operators.specs.arena_heap.declared.value.Value.TheVariants as values
use Rattle.prim_operators.specs.arena_heap.declared.value.StrNo.{StrNo}
use Rattle.prim_operators.specs.arena_heap.declared.value.ConstNo.{ConstNo}
use Rattle.prim_operators.specs.mpy_base.World.{Heap, TextObject}
use Rattle.prim_operators.specs.mpy_base.Weights.{used, does_fit, Fits, with_made}
use Rattle.prim_operators.specs.mpy_base.Val.{Val, At}
use Rattle.prim_operators.specs.arena_heap.Values.{ArenaObject}
use Rattle.prim_operators.specs.arena_objects.Iterables.{with_texts, texts_from}
use Rattle.prim_operators.proofs.arena_objects_lemmas.MadeTexts.{one_byte, text_more}
use Rattle.prim_operators.specs.py_values.Shown.{PlainHeap}
use Rattle.prim_operators.specs.py_primitives.Outcome.{Outcome, gives, is_full, with_visits, followed_by, making_text, making_texts}
use Rattle.prim_operators.specs.prim_walks.Plain.{plain, plain_heap}
use Rattle.prim_operators.proofs.prim_faults_lemmas.Heaps.{fit_plain, used_plain, made_plain}
use Rattle.prim_operators.proofs.prim_faults_lemmas.Outcomes.{fits_true, fits_false}

-- a str of each byte
abbrev pub spelled_out : List ℕ → List (List ℕ)
spelled_out bytes = map (λ byte. byte ∷ []) bytes

-- texts that take two cells each, from the first on, as many as the second number says
abbrev texts_at : ℕ → ℕ → List Val
texts_at first zero = []
texts_at first (suc count) = At first ∷ texts_at (first + 2) count

module _ (texts : StrNo → Option (List ℕ)) (tuples : ConstNo → Option (List Value)) where
  texts_behind : (first a count at : ℕ) → first + 2 * a ≡ at
      → map (plain texts tuples) (map (λ k. values.Text (record { cell = first + 2 * k })) (range_with_len a count)) ≡ texts_at at count
  texts_behind first a zero at e = refl
  texts_behind first a (suc count) at e = ap₂ (λ (n : ℕ) (vs : List Val). At n ∷ vs) e (texts_behind first (a + 1) count (at + 2) (omega arith))

  plain_texts : (first count : ℕ) → map (plain texts tuples) (texts_from first count) ≡ texts_at first count
  plain_texts first count = texts_behind first 0 count first (omega arith)

  module _ (g : Heap Value ℕ) (byte : ℕ) where
    -- what follows where the first text fits
    text_fits : Fits g 2 1 → making_text (plain_heap texts tuples g) (byte ∷ []) ≡ gives (At (used g)) (plain_heap texts tuples (text_more g byte))
    text_fits fits =
        let heap = plain_heap texts tuples g in
        let fit : does_fit heap 2 1 ≡ true = fit_plain texts tuples g 2 1 ∙ fits_true g 2 1 fits in
        ap (λ (b : Bool). cond b (gives (At (used heap)) (with_made heap (TextObject (byte ∷ [])))) (is_full heap 2 1)) fit
        ∙ ap₂ (λ (n : ℕ) (w : PlainHeap). gives (At n) w) (used_plain texts tuples g) (sym (made_plain texts tuples g (one_byte byte)))

    text_fails : (Fits g 2 1 → ⊥) → making_text (plain_heap texts tuples g) (byte ∷ []) ≡ is_full (plain_heap texts tuples g) 2 1
    text_fails unfit =
        let heap = plain_heap texts tuples g in
        let fit : does_fit heap 2 1 ≡ false = fit_plain texts tuples g 2 1 ∙ fits_false g 2 1 unfit in
        ap (λ (b : Bool). cond b (gives (At (used heap)) (with_made heap (TextObject (byte ∷ [])))) (is_full heap 2 1)) fit

    used_more : used (text_more g byte) ≡ used g + 2
    used_more = let none : Option ArenaObject = None in length-append g.objects (Some (one_byte byte) ∷ replicate 1 none)

    fits_one : (cells bytes : ℕ) → 2 < cells + 1 → 1 < bytes + 1 → Fits g cells bytes → Fits g 2 1
    fits_one cells bytes some more f = record { cells_fit = let p = f.cells_fit in omega arith; bytes_fit = let p = f.bytes_fit in omega arith }

    fits_rest : (cells bytes : ℕ) → Fits g (2 + cells) (1 + bytes) → Fits (text_more g byte) cells bytes
    fits_rest cells bytes f = record { cells_fit = omega (arith, f.cells_fit, used_more); bytes_fit = let p = f.bytes_fit in omega arith }

  -- one text and then the others
  abbrev then_others : List (List ℕ) → Outcome Val → Outcome (List Val)
  then_others others first = followed_by first (λ v behind. followed_by (making_texts behind others) (λ vs last. gives (v ∷ vs) last))

  -- all fit
  texts_fit : (bytes : List ℕ) (g : Heap Value ℕ) → Fits g (2 * length bytes) (length bytes)
      → making_texts (plain_heap texts tuples g) (spelled_out bytes) ≡ gives (texts_at (used g) (length bytes)) (plain_heap texts tuples (with_texts g bytes))
  texts_fit [] g fits = refl
  texts_fit (byte ∷ bytes) g fits =
      let first = text_fits g byte (fits_one g byte (2 * length (byte ∷ bytes)) (length (byte ∷ bytes)) (omega arith) (omega arith) fits) in
      let cells : 2 * length (byte ∷ bytes) ≡ 2 + 2 * length bytes = omega arith in
      let count : length (byte ∷ bytes) ≡ 1 + length bytes = omega arith in
      let rest : Fits (text_more g byte) (2 * length bytes) (length bytes) =
      fits_rest g byte (2 * length bytes) (length bytes) (subst (λ (n : ℕ). Fits g n (1 + length bytes)) cells (subst (λ (n : ℕ). Fits g (2 * length (byte ∷ bytes)) n) count fits)) in
      ap (then_others (spelled_out bytes)) first
      ∙ (ap (λ (o : Outcome (List Val)). with_visits 0 (followed_by o (λ vs last. gives (At (used g) ∷ vs) last))) (texts_fit bytes (text_more g byte) rest)
      ∙ ap (λ (n : ℕ). gives (At (used g) ∷ texts_at n (length bytes)) (plain_heap texts tuples (with_texts g (byte ∷ bytes)))) (used_more g byte))

  pub letters_fit : (bytes : List ℕ) (g : Heap Value ℕ) → Fits g (2 * length bytes) (length bytes)
      → making_texts (plain_heap texts tuples g) (spelled_out bytes) ≡ gives (map (plain texts tuples) (texts_from (used g) (length bytes))) (plain_heap texts tuples (with_texts g bytes))
  letters_fit bytes g fits = texts_fit bytes g fits ∙ ap (λ (vs : List Val). gives vs (plain_heap texts tuples (with_texts g bytes))) (sym (plain_texts (used g) (length bytes)))

  -- some first ones fit, and the next doesn't
  pub letters_fail : (bytes : List ℕ) (made : ℕ) (g : Heap Value ℕ) → made < length bytes → Fits g (2 * made) made → (Fits (with_texts g (take made bytes)) 2 1 → ⊥)
      → making_texts (plain_heap texts tuples g) (spelled_out bytes) ≡ is_full (plain_heap texts tuples (with_texts g (take made bytes))) 2 1
  letters_fail [] made g few fits unfit = absurd (omega arith)
  letters_fail (byte ∷ bytes) zero g few fits unfit = ap (then_others (spelled_out bytes)) (text_fails g byte unfit)
  letters_fail (byte ∷ bytes) (suc made) g few fits unfit =
      let first = text_fits g byte (fits_one g byte (2 * suc made) (suc made) (omega arith) (omega arith) fits) in
      let cells : 2 * suc made ≡ 2 + 2 * made = omega arith in
      let count : suc made ≡ 1 + made = omega arith in
      let rest : Fits (text_more g byte) (2 * made) made =
      fits_rest g byte (2 * made) made (subst (λ (n : ℕ). Fits g n (1 + made)) cells (subst (λ (n : ℕ). Fits g (2 * suc made) n) count fits)) in
      ap (then_others (spelled_out bytes)) first
      ∙ ap (λ (o : Outcome (List Val)). with_visits 0 (followed_by o (λ vs last. gives (At (used g) ∷ vs) last))) (letters_fail bytes made (text_more g byte) (omega arith) rest unfit)
