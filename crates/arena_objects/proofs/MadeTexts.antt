-- A heap in which a text was made for each byte.
use Rattle.std.proofs.Common.{◌≡◌, ℕ, zero, suc, ◌+◌, ◌*◌, ◌<◌, List, [], ◌∷◌, length, take, Option, Some, None, get_or, set, replicate, refl, sym, ◌∙◌, ap, subst, arith, length-append}
use Rattle.std.proofs.Math.Seq.{take-suc}
use Rattle.std.proofs.lemmas.List.{get_or_append_left, get_or_at, set_at, length-take-le}
use Rattle.std.proofs.lemmas.List.Sums.{fold-append}
use Rattle.std.proofs.lemmas.List.Elements.{All-nil}
use Rattle.arena_heap.specs.declared.value.Value.{Value}
use Rattle.arena_heap.specs.declared.value.StrNo.{StrNo}
use Rattle.arena_heap.specs.declared.value.ConstNo.{ConstNo}
use Rattle.py_values.specs.mpy_base.World.{Heap, TextObject, AText, IsA, Later, object, kind_of, text_of, text_at, with_text}
use Rattle.py_values.specs.mpy_base.Weights.{Made, Fits, used, with_made}
use Rattle.py_values.proofs.mpy_base_lemmas.Worlds.{later_append, later_later, later_same}
use Rattle.arena_heap.specs.Values.{ArenaObject}
use Rattle.arena_heap.specs.Constants.{IsTold}
use Rattle.arena_objects.specs.Keys.{AllTold}
use Rattle.arena_objects.specs.Iterables.{given, with_texts}
use Rattle.arena_objects.proofs.Gifts.{Keeps, keeps_keeps}
use Rattle.arena_objects.proofs.Tolds.{told_with_made}

abbrev pub one_byte : ℕ → ArenaObject
one_byte byte = TextObject (byte ∷ [])

abbrev pub text_more : Heap Value ℕ → ℕ → Heap Value ℕ
text_more h byte = with_made h (one_byte byte)

pub byte_made : {old mid new : Heap Value ℕ} {t : ℕ} (byte : ℕ) → Made old mid t (one_byte 0) → new ≡ with_text mid t (set (text_at mid t) 0 byte) → Made old new t (one_byte byte)
byte_made {old} {mid} {new} {t} byte m e =
    let none : Option ArenaObject = None in
    let rest = replicate 1 none in
    let made = text_more old 0 in
    let bytes : text_at made t ≡ 0 ∷ [] = ap text_of (get_or_at old.objects (Some (one_byte 0)) rest None t (sym m.number)) in
    record {
      fits = m.fits;
      number = m.number;
      world = e ∙ (ap (λ (w : Heap Value ℕ). with_text w t (set (text_at w t) 0 byte)) m.world
          ∙ (ap (λ (bs : List ℕ). with_text made t (set bs 0 byte)) bytes
          ∙ ap (λ (os : List (Option ArenaObject)). record made { objects = os }) (set_at old.objects (Some (one_byte 0)) rest (Some (one_byte byte)) t (sym m.number))));
    }

used_more : (h : Heap Value ℕ) (byte : ℕ) → used (text_more h byte) ≡ used h + 2
used_more h byte = let none : Option ArenaObject = None in length-append h.objects (Some (one_byte byte) ∷ replicate 1 none)

keeps_more : (h : Heap Value ℕ) (byte : ℕ) → Keeps h (text_more h byte)
keeps_more h byte =
    let none : Option ArenaObject = None in
    let same : (n : ℕ) → n < length h.objects → object (text_more h byte).objects n ≡ object h.objects n = λ n lt. get_or_append_left h.objects (Some (one_byte byte) ∷ replicate 1 none) none n lt in
    record {
      gives = λ n lt. ap given (same n lt);
      spells = λ n lt. ap text_of (same n lt);
      longer = λ n lt. omega (arith, used_more h byte);
    }

pub keeps_itself : (h : Heap Value ℕ) → Keeps h h
keeps_itself h = record { gives = λ n lt. refl; spells = λ n lt. refl; longer = λ n lt. lt }

pub texts_keep : (h : Heap Value ℕ) (bytes : List ℕ) → Keeps h (with_texts h bytes)
texts_keep h [] = keeps_itself h
texts_keep h (b ∷ bytes) = keeps_keeps (keeps_more h b) (texts_keep (text_more h b) bytes)

pub texts_later : (h : Heap Value ℕ) (bytes : List ℕ) → Later h.objects (with_texts h bytes).objects
texts_later h [] = later_same h.objects
texts_later h (b ∷ bytes) =
    let none : Option ArenaObject = None in
    later_later (later_append h.objects (Some (one_byte b) ∷ replicate 1 none)) (texts_later (text_more h b) bytes)

-- an object that was there is the same one
pub texts_same : (h : Heap Value ℕ) (bytes : List ℕ) (n : ℕ) → n < length h.objects → object (with_texts h bytes).objects n ≡ object h.objects n
texts_same h [] n lt = refl
texts_same h (b ∷ bytes) n lt =
    let none : Option ArenaObject = None in
    texts_same (text_more h b) bytes n (omega (arith, used_more h b)) ∙ get_or_append_left h.objects (Some (one_byte b) ∷ replicate 1 none) none n lt

pub texts_used : (h : Heap Value ℕ) (bytes : List ℕ) → used (with_texts h bytes) ≡ used h + 2 * length bytes
texts_used h [] = omega arith
texts_used h (b ∷ bytes) = omega (arith, texts_used (text_more h b) bytes, used_more h b)

pub texts_bytes : (h : Heap Value ℕ) (bytes : List ℕ) → (with_texts h bytes).bytes ≡ h.bytes + length bytes
texts_bytes h [] = omega arith
texts_bytes h (b ∷ bytes) = omega (arith, texts_bytes (text_more h b) bytes)

pub texts_sizes : (h : Heap Value ℕ) (bytes : List ℕ) → ((with_texts h bytes).cell_size ≡ h.cell_size) × ((with_texts h bytes).byte_size ≡ h.byte_size)
texts_sizes h [] = (refl, refl)
texts_sizes h (b ∷ bytes) = texts_sizes (text_more h b) bytes

pub texts_are : (h : Heap Value ℕ) (bytes : List ℕ) (k : ℕ) → k < length bytes → IsA (with_texts h bytes).objects AText (used h + 2 * k)
texts_are h [] k lt = absurd (omega arith)
texts_are h (b ∷ bytes) zero lt =
    let none : Option ArenaObject = None in
    (texts_later (text_more h b) bytes).keeps AText (used h + 2 * 0) (ap kind_of (get_or_at h.objects (Some (one_byte b)) (replicate 1 none) none (used h + 2 * 0) (omega arith)))
texts_are h (b ∷ bytes) (suc k) lt =
    let same : used (text_more h b) + 2 * k ≡ used h + 2 * suc k = omega (arith, used_more h b) in
    subst (λ (n : ℕ). IsA (with_texts h (b ∷ bytes)).objects AText n) same (texts_are (text_more h b) bytes k (omega arith))

pub texts_told : (texts : StrNo → Option (List ℕ)) (tuples : ConstNo → Option (List Value)) (h : Heap Value ℕ) (bytes : List ℕ) → AllTold texts tuples h.objects → AllTold texts tuples (with_texts h bytes).objects
texts_told texts tuples h [] all = all
texts_told texts tuples h (b ∷ bytes) all = texts_told texts tuples (text_more h b) bytes (told_with_made texts tuples h (one_byte b) all (All-nil (IsTold texts tuples)))

-- one text more
pub next_text : (h a new : Heap Value ℕ) (n : ℕ) (bytes : List ℕ) (k byte : ℕ) → k < length bytes → byte ≡ get_or bytes k 0 → a ≡ with_texts h (take k bytes) → Made a new n (one_byte byte) → new ≡ with_texts h (take (k + 1) bytes)
next_text h a new n bytes k byte lt eb ea m =
    let one : k + 1 ≡ suc k = omega arith in
    let step : Heap Value ℕ → ℕ → Heap Value ℕ = λ w b. text_more w b in
    m.world ∙ (ap (λ (w : Heap Value ℕ). text_more w byte) ea ∙ (ap (λ (b : ℕ). text_more (with_texts h (take k bytes)) b) eb
    ∙ (sym (fold-append step h (take k bytes) (get_or bytes k 0 ∷ [])) ∙ ap (λ (bs : List ℕ). with_texts h bs) (sym (ap (λ (j : ℕ). take j bytes) one ∙ take-suc bytes k 0 lt)))))

pub next_fits : (h a new : Heap Value ℕ) (n : ℕ) (bytes : List ℕ) (k byte : ℕ) → k < length bytes → a ≡ with_texts h (take k bytes) → Made a new n (one_byte byte) → Fits h (2 * (k + 1)) (k + 1)
next_fits h a new n bytes k byte lt ea m =
    let f : Fits (with_texts h (take k bytes)) 2 1 = subst (λ (w : Heap Value ℕ). Fits w 2 1) ea m.fits in
    let sizes = texts_sizes h (take k bytes) in
    let len : length (take k bytes) ≡ k = length-take-le k bytes (omega arith) in
    record {
      cells_fit = omega (arith, f.cells_fit, texts_used h (take k bytes), sizes.0, len);
      bytes_fit = omega (arith, f.bytes_fit, texts_bytes h (take k bytes), sizes.1, len);
    }
