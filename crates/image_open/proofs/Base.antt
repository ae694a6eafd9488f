-- Libraries that images are opened as.
use Rattle.std.proofs.Common.{◌≡◌, ℕ, ◌+◌, ◌≤◌, List, [], ◌∷◌, ◌++◌, length, length-append, map, All, refl, sym, ap, ap₂, subst, ◌∙◌, arith}
use Rattle.std.specs.List.{AllByRecursion, flat_map}
use Rattle.std.proofs.lemmas.Grind.{flat_map-append}
use Rattle.std.proofs.lemmas.List.Elements.{All-append, All-from_recursion}
use Rattle.mpy_base.specs.declared.limits.TheConstants.{MAX_IMAGE_BYTES, MAX_TABLE}
use Rattle.image_grammar.specs.mpy_tree.File.{Many}
use Rattle.qstr_pool.specs.declared.table.TheConstants.{FIRST_OWN}
use Rattle.qstr_pool.specs.Pool.{Texts}
use Rattle.image_grammar.specs.bc_library.Shelf.{Named, Shelf, no_entries}
use Rattle.image_grammar.specs.bc_library.Texts.{texts_of, with_texts}
use Rattle.image_grammar.proofs.bc_library_lemmas.Pools.{same_first, with_append}
use Rattle.image_grammar.specs.declared.entry.Entry.{Entry}
use Rattle.image_grammar.specs.Image.{IsImage, IsOwnText, texts_used}
use Rattle.image_grammar.specs.Opening.{pool_below}
use Rattle.image_grammar.specs.Base.{IsOpened, base_of}
use Rattle.image_open.specs.Opens.{named, Opens, with_entries}

-- the texts that modules bring
abbrev pub texts_in : List Named → List (List ℕ)
texts_in modules = flat_map (λ (n : Named). texts_of n.name n.held) modules

pub used_is : (entries : List Entry) → texts_in (map named entries) ≡ texts_used entries
used_is [] = refl
used_is (e ∷ es) = ap (λ (z : List (List ℕ)). texts_of e.name e.held ++ z) (used_is es)

pub with_more : (modules : List Named) (entries : List Entry) → with_texts no_entries.pool (texts_in (modules ++ map named entries)) ≡ with_texts (with_texts no_entries.pool (texts_in modules)) (texts_used entries)
with_more modules entries =
    ap (with_texts no_entries.pool) (flat_map-append (λ (n : Named). texts_of n.name n.held) modules (map named entries) ∙ ap (λ (z : List (List ℕ)). texts_in modules ++ z) (used_is entries))
    ∙ with_append no_entries.pool (texts_in modules) (texts_used entries)

-- the pool of such a library is that of what it lies below
pub pool_is : (pool : Texts) → pool.first ≡ FIRST_OWN → pool_below (record { texts = pool.texts; names = [] }) ≡ pool
pool_is pool first = ap (λ (n : ℕ). record { first = n; texts = pool.texts }) (sym first)

pub first_is : (below : Shelf) → IsOpened below → below.pool.first ≡ FIRST_OWN
first_is below is = ap (λ (z : Texts). z.first) is.first_use ∙ same_first no_entries.pool (texts_in below.modules)

pub opened_pool : (below : Shelf) → IsOpened below → pool_below (base_of below) ≡ below.pool
opened_pool below is = pool_is below.pool (first_is below is)

-- texts of an image are no longer than it
pub many_short : (text : List ℕ) (own : List (List ℕ)) (most : ℕ) → Many IsOwnText text own → length text ≤ most → AllByRecursion (λ (t : List ℕ). length t ≤ most) own
many_short text [] most m le = tt
many_short text (x ∷ xs) most m le =
    let s = m.2 in
    let whole : length text ≡ length m.0 + length m.1 = ap length m.3 ∙ length-append m.0 m.1 in
    let parts : length m.0 ≡ length s.front + length (x ++ 0 ∷ []) = ap length s.text_is ∙ length-append s.front (x ++ 0 ∷ []) in
    (omega (arith, le, whole, parts, length-append x (0 ∷ [])), many_short m.1 xs most m.4 (omega (arith, le, whole)))

texts_short : (front text_count texts module_count named : List ℕ) → length texts ≤ length (front ++ (text_count ++ (texts ++ (module_count ++ named))))
texts_short front text_count texts module_count named =
    omega (arith, length-append front (text_count ++ (texts ++ (module_count ++ named))), length-append text_count (texts ++ (module_count ++ named)), length-append texts (module_count ++ named))

-- an image over such a library is opened as one
module _ (below : Shelf) (bytes : List ℕ) (shelf : Shelf) (is : IsOpened below) (o : Opens below bytes shelf) where
  pool_now : with_texts below.pool (texts_used o.entries) ≡ o.is_image.pool
  pool_now = ap (λ (z : Texts). with_texts z (texts_used o.entries)) (sym (opened_pool below is)) ∙ sym o.is_image.first_use

  shelf_pool : shelf.pool ≡ o.is_image.pool
  shelf_pool = ap (λ (z : Shelf). z.pool) o.shelf_is ∙ pool_now

  all_short : All (λ (t : List ℕ). length t ≤ MAX_IMAGE_BYTES) o.is_image.pool.texts
  all_short =
      let s = o.is_image in
      let short = s.short in
      let inside = texts_short s.front s.text_count s.texts s.module_count s.named in
      let len : length s.texts ≤ MAX_IMAGE_BYTES = omega (arith, short, inside, ap length s.bytes_are) in
      let own = All-from_recursion (λ (t : List ℕ). length t ≤ MAX_IMAGE_BYTES) s.own (many_short s.texts s.own MAX_IMAGE_BYTES s.are_texts len) in
      subst (All (λ (t : List ℕ). length t ≤ MAX_IMAGE_BYTES)) (sym s.pool_is) (All-append (λ (t : List ℕ). length t ≤ MAX_IMAGE_BYTES) below.pool.texts s.own is.short_texts own)

  pub opened_again : IsOpened shelf
  opened_again =
      let few = o.is_image.few_texts in
      record {
        alone = ap (λ (z : Shelf). z.refused) o.shelf_is ∙ is.alone;
        first_use = ap (λ (z : Shelf). z.pool) o.shelf_is
            ∙ (ap (λ (z : Texts). with_texts z (texts_used o.entries)) is.first_use
            ∙ (sym (with_more below.modules o.entries) ∙ ap (λ (z : Shelf). with_texts no_entries.pool (texts_in z.modules)) (sym o.shelf_is)));
        few_texts = omega (arith, few, ap (λ (z : Texts). length z.texts) shelf_pool);
        short_texts = subst (λ (z : Texts). All (λ (t : List ℕ). length t ≤ MAX_IMAGE_BYTES) z.texts) (sym shelf_pool) all_short;
      }
