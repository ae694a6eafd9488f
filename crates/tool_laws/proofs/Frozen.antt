-- Modules that have an image have no fault for which they have none.
use Rattle.std.proofs.Common.{◌≡◌, ◌⊎◌, inl, inr, ℕ, ◌+◌, ◌<◌, ◌≤◌, List, [], ◌∷◌, ◌++◌, length, map, refl, ap, ap₂, subst, arith}
use Rattle.std.proofs.lemmas.List.{append_cancel_left}
use Rattle.mpy_base.specs.declared.limits.TheConstants.{MAX_IMAGE_BYTES, MAX_MODULES, MAX_TABLE}
use Rattle.qstr_pool.specs.Pool.{Texts}
use Rattle.bc_library.specs.Shelf.{Shelf}
use Rattle.image_grammar.specs.declared.entry.Entry.{Entry}
use Rattle.image_grammar.specs.declared.fault.ImageFault.{ImageFault}
use Rattle.image_grammar.specs.declared.fault.ImageFault.TheVariants.{BadHeader, Truncated, BadNumber, BadModule, Twice, Trailing, TooBig, BadBase}
use Rattle.image_grammar.specs.Image.{Differ, IsImage}
use Rattle.image_grammar.specs.Opening.{Base, names_of}
use Rattle.image_open.specs.Opens.{named, with_entries}
use Rattle.image_freeze.specs.Frozen.{FreezeFault, IsTooBig, IsTwice, image_bytes, pool_of}
use Rattle.tool_laws.proofs.Lists.{behind_is, front_is}

never_twice : (before names : List (List ℕ)) (again : List ℕ) → Differ before names → IsTwice before names again → ⊥
never_twice before [] again d t = absurd t
never_twice before (name ∷ names) again d (inl t) = d.0 t.0
never_twice before (name ∷ names) again d (inr t) = never_twice (before ++ name ∷ []) names again d.1 t.1

pub never_big : (front : List ℕ) (below : Base) (entries : List Entry) (bytes : List ℕ) → IsImage below entries bytes → bytes ≡ image_bytes front below entries
    → IsTooBig front below entries → ⊥
never_big front below entries bytes h is big = by big.big where
  short : length (image_bytes front below entries) ≤ MAX_IMAGE_BYTES
  short = subst (λ (z : List ℕ). length z ≤ MAX_IMAGE_BYTES) is h.short

  few_texts : length (pool_of below entries).texts ≤ MAX_TABLE
  few_texts = subst (λ (pool : Texts). length pool.texts ≤ MAX_TABLE) h.first_use h.few_texts

  by : (MAX_MODULES < length below.names + length entries) ⊎ (MAX_TABLE < length (pool_of below entries).texts) ⊎ (MAX_IMAGE_BYTES < length (image_bytes front below entries)) → ⊥
  by (inl many) = omega (arith, many, h.few_modules)
  by (inr (inl texts)) = omega (arith, texts, few_texts)
  by (inr (inr long)) = omega (arith, long, short)

pub never_faulty : (front : List ℕ) (below : Base) (entries : List Entry) (bytes : List ℕ) (fault : ImageFault) → IsImage below entries bytes
    → bytes ≡ image_bytes front below entries → FreezeFault front below entries fault → ⊥
never_faulty front below entries bytes (Twice name) h is f = never_twice below.names (names_of entries) name h.differ f
never_faulty front below entries bytes TooBig h is f = never_big front below entries bytes h is f
never_faulty front below entries bytes BadHeader h is f = absurd f
never_faulty front below entries bytes Truncated h is f = absurd f
never_faulty front below entries bytes BadNumber h is f = absurd f
never_faulty front below entries bytes (BadModule index) h is f = absurd f
never_faulty front below entries bytes Trailing h is f = absurd f
never_faulty front below entries bytes BadBase h is f = absurd f

-- the modules of an image are those of the library that it is opened as
same_entry : (a b : Entry) → named a ≡ named b → a ≡ b
same_entry a b e = λ i. record { name = (e i).name; held = (e i).held }

same_named : (a b : List Entry) → map named a ≡ map named b → a ≡ b
same_named [] [] e = refl
same_named [] (y ∷ ys) e = absurd cc
same_named (x ∷ xs) [] e = absurd cc
same_named (x ∷ xs) (y ∷ ys) e =
    ap₂ (λ (z : Entry) (zs : List Entry). z ∷ zs)
    (same_entry x y (front_is (named x) (named y) (map named xs) (map named ys) e))
    (same_named xs ys (behind_is (named x) (named y) (map named xs) (map named ys) e))

pub same_entries : (below : Shelf) (a b : List Entry) → with_entries below a ≡ with_entries below b → a ≡ b
same_entries below a b e = same_named a b (append_cancel_left below.modules (map named a) (map named b) (ap (λ (s : Shelf). s.modules) e))
