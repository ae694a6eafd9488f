-- A text and an object of a module are no longer than its file.
use Rattle.std.proofs.Common.{◌≡◌, ℕ, zero, suc, ◌+◌, ◌*◌, ◌<◌, ◌≤◌, Bool, true, false, ◌&&◌, leb, List, [], ◌∷◌, ◌++◌, length, map, get_or, Option, Some, None, position, option_map, slice_get, refl, ap, subst, arith}
use Rattle.std.specs.Prelude.{Contains}
use Rattle.std.specs.List.{concat, flat_map, AllByRecursion}
use Rattle.std.specs.Str.{bytes_eq}
use Rattle.std.proofs.lemmas.List.{length-append}
use Rattle.std.proofs.lemmas.Bool.{leb-true}
use Rattle.mpy_base.specs.Vuint.{vuint}
use Rattle.mpy_base.specs.declared.limits.TheConstants.{MAX_FILE_BYTES}
use Rattle.mpy_tree.specs.qstr_pool.Static.{static_texts, static_number_of}
use Rattle.mpy_tree.proofs.qstr_pool_lemmas.Places.{found}
use Rattle.mpy_tree.specs.declared.module.ModuleCode.{ModuleCode}
use Rattle.mpy_tree.specs.Canonical.{qstr_bytes}
use Rattle.mpy_writer.specs.declared.tables.Tables.{Tables}
use Rattle.mpy_writer.specs.Codes.{texts_used, objects_used}
use Rattle.mpy_writer.specs.Tables.{AreTables, spelled}
use Rattle.mpy_writer.specs.File.{entry_of, qstr_of}
use Rattle.mpy_writer.specs.Wide.{wide_file}
use Rattle.mpy_writer.proofs.Lists.{all_of}
use Rattle.mpy_writer.proofs.Numbers.{used_there}

-- ---- texts that every file may name

abbrev all_few : List (List ℕ) → Bool
all_few [] = true
all_few (text ∷ texts) = leb (length text) 64 && all_few texts

few_first : (t : List ℕ) (rest : Bool) → (leb (length t) 64 && rest) ≡ true → (length t ≤ 64) × (rest ≡ true)
few_first t rest e = by_test (leb (length t) 64) refl e where
  by_test : (b : Bool) → leb (length t) 64 ≡ b → (b && rest) ≡ true → (length t ≤ 64) × (rest ≡ true)
  by_test false is h = cc
  by_test true is h = (leb-true (length t) 64 is, h)

few_at : (texts : List (List ℕ)) (i : ℕ) (text : List ℕ) → all_few texts ≡ true → slice_get texts i ≡ Some text → length text ≤ 64
few_at [] i text few at = cc
few_at (t ∷ texts) zero text few at =
    let same : t ≡ text = cc in
    subst (λ (z : List ℕ). length z ≤ 64) same (few_first t (all_few texts) few).0
few_at (t ∷ texts) (suc i) text few at = few_at texts i text (few_first t (all_few texts) few).1 at

static_few : all_few static_texts ≡ true
static_few = refl

static_short : (text : List ℕ) (n : ℕ) → static_number_of text ≡ Some n → length text ≤ 64
static_short text n e = by_place (position (bytes_eq text) static_texts) refl e where
  by_place : (r : Option ℕ) → position (bytes_eq text) static_texts ≡ r → option_map (λ place. 1 + place) r ≡ Some n → length text ≤ 64
  by_place None is k = absurd cc
  by_place (Some i) is k = few_at static_texts i text static_few (found static_texts text i is)

entry_short : (text : List ℕ) (r : Option ℕ) → static_number_of text ≡ r → length (qstr_bytes (entry_of text r)) ≤ MAX_FILE_BYTES → length text ≤ MAX_FILE_BYTES
entry_short text None e le = omega (arith, le, length-append (vuint (2 * length text)) (text ++ 0 ∷ []), length-append text (0 ∷ []))
entry_short text (Some n) e le = omega (arith, static_short text n e)

-- ---- what a list of bytes has in it

entry_in : (texts : List (List ℕ)) (k : ℕ) (text : List ℕ) → k < length texts → get_or texts k text ≡ text → length (qstr_bytes (qstr_of text)) ≤ length (flat_map qstr_bytes (map qstr_of texts))
entry_in [] k text lt at = absurd (omega (arith, lt))
entry_in (t ∷ texts) zero text lt at =
    let same = ap (λ (z : List ℕ). length (qstr_bytes (qstr_of z))) at in
    omega (arith, same, length-append (qstr_bytes (qstr_of t)) (flat_map qstr_bytes (map qstr_of texts)))
entry_in (t ∷ texts) (suc k) text lt at =
    omega (arith, entry_in texts k text (omega (arith, lt)) at, length-append (qstr_bytes (qstr_of t)) (flat_map qstr_bytes (map qstr_of texts)))

part_in : (texts : List (List ℕ)) (k : ℕ) (text : List ℕ) → k < length texts → get_or texts k text ≡ text → length text ≤ length (concat texts)
part_in [] k text lt at = absurd (omega (arith, lt))
part_in (t ∷ texts) zero text lt at = let same = ap (λ (z : List ℕ). length z) at in omega (arith, same, length-append t (concat texts))
part_in (t ∷ texts) (suc k) text lt at = omega (arith, part_in texts k text (omega (arith, lt)) at, length-append t (concat texts))

unmapped : {A : Type 0} (f : A → List ℕ) (P : List ℕ → Type 0) (xs : List A) → AllByRecursion P (map f xs) → AllByRecursion (λ x. P (f x)) xs
unmapped f P [] h = tt
unmapped f P (x ∷ xs) h = (h.0, unmapped f P xs h.1)

module _ (m : ModuleCode) (tables : Tables) (are : AreTables m tables) (short : wide_file tables m ≤ MAX_FILE_BYTES) where
  abbrev texts : List (List ℕ)
  texts = tables.texts.texts

  abbrev objects : List (List ℕ)
  objects = tables.objects.texts

  parts_few : length (flat_map qstr_bytes (map qstr_of texts)) + length (concat objects) ≤ MAX_FILE_BYTES
  parts_few =
      let entries = flat_map qstr_bytes (map qstr_of texts) in
      omega (arith, short, length-append (vuint (length texts)) (vuint (length objects) ++ (entries ++ concat objects)), length-append (vuint (length objects)) (entries ++ concat objects), length-append entries (concat objects))

  pub short_texts : AllByRecursion (λ text. length text ≤ MAX_FILE_BYTES) (texts_used m)
  short_texts =
      all_of (Contains texts) (λ text. length text ≤ MAX_FILE_BYTES)
      (λ text there. entry_short text (static_number_of text) refl (omega (arith, parts_few, entry_in texts there.0 text there.1 there.2)))
      (texts_used m) (used_there [] (texts_used m) texts are.texts.texts)

  pub short_objects : AllByRecursion (λ object. length (spelled object) ≤ MAX_FILE_BYTES) (objects_used m)
  short_objects =
      unmapped spelled (λ text. length text ≤ MAX_FILE_BYTES) (objects_used m)
      (all_of (Contains objects) (λ text. length text ≤ MAX_FILE_BYTES) (λ text there. omega (arith, parts_few, part_in objects there.0 text there.1 there.2))
      (map spelled (objects_used m)) (used_there [] (map spelled (objects_used m)) objects are.objects.texts))
