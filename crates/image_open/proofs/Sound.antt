-- Libraries that images are opened as, one over another.
use Rattle.std.proofs.Common.{◌≡◌, ℕ, ◌+◌, ◌≤◌, List, [], ◌∷◌, length, length-append, map, Ok, sym, ap, subst, ◌∙◌, arith}
use Rattle.std.proofs.lemmas.List.{length-map}
use Rattle.mpy_base.specs.declared.limits.TheConstants.{MAX_MODULES, MAX_TABLE}
use Rattle.qstr_pool.specs.Pool.{Texts}
use Rattle.image_grammar.specs.bc_library.Shelf.{Named, Shelf, names, no_entries}
use Rattle.image_grammar.specs.bc_library.Texts.{with_texts}
use Rattle.image_grammar.specs.Image.{texts_used}
use Rattle.image_grammar.specs.Opening.{pool_below}
use Rattle.image_grammar.proofs.Inversion.{ok_is}
use Rattle.image_grammar.specs.Base.{base_of}
use Rattle.image_open.specs.Opens.{IsOpenedOf, Opens, named, with_entries}
use Rattle.image_open.proofs.Base.{pool_is}
use Rattle.image_open.proofs.Single.{image_single}
use Rattle.image_open.proofs.Uses.{IsProper}
use Rattle.image_open.proofs.Whole.{nothing_proper}
use Rattle.image_open.proofs.Written.{image_proper, image_read}

-- texts and names such as those below an image
pub record IsSound (shelf : Shelf) : Type 0 where
  pub proper : IsProper shelf.pool
  pub few_texts : length shelf.pool.texts ≤ MAX_TABLE
  pub few_names : length (names shelf) ≤ MAX_MODULES

below_is : (shelf : Shelf) → IsSound shelf → pool_below (base_of shelf) ≡ shelf.pool
below_is shelf s = pool_is shelf.pool s.proper.own.first

pub below_proper : (shelf : Shelf) → IsSound shelf → IsProper (pool_below (base_of shelf))
below_proper shelf s = subst IsProper (sym (below_is shelf s)) s.proper

nothing_sound : IsSound no_entries
nothing_sound = record { proper = nothing_proper; few_texts = omega arith; few_names = omega arith }

-- of what an image over such a library is opened as
opened_sound : (below : Shelf) (bytes : List ℕ) (shelf : Shelf) → IsSound below → Opens below bytes shelf → IsSound shelf
opened_sound below bytes shelf s o =
    let image = o.is_image in
    let few_texts = image.few_texts in
    let few_modules = image.few_modules in
    let pool : shelf.pool ≡ image.pool =
    ap (λ (z : Shelf). z.pool) o.shelf_is ∙ (ap (λ (z : Texts). with_texts z (texts_used o.entries)) (sym (below_is below s)) ∙ sym image.first_use) in
    let count : length shelf.modules ≡ length below.modules + length o.entries =
    ap (λ (z : Shelf). length z.modules) o.shelf_is ∙ (length-append below.modules (map named o.entries) ∙ ap (λ (n : ℕ). length below.modules + n) (length-map o.entries named)) in
    record {
      proper = subst IsProper (sym pool) (image_proper (base_of below) bytes o.entries (below_proper below s) image);
      few_texts = omega (arith, few_texts, ap (λ (z : Texts). length z.texts) pool);
      few_names = omega (arith, few_modules, count, length-map shelf.modules (λ (n : Named). n.name), length-map below.modules (λ (n : Named). n.name));
    }

pub is_sound : (images : List (List ℕ)) (shelf : Shelf) → IsOpenedOf images shelf → IsSound shelf
is_sound [] shelf h = subst IsSound (sym h) nothing_sound
is_sound (bytes ∷ images) shelf h = opened_sound h.0 bytes shelf (is_sound images h.0 h.1) h.2

-- bytes are opened as one library
pub one_library : (below : Shelf) (bytes : List ℕ) (a b : Shelf) → IsSound below → Opens below bytes a → Opens below bytes b → a ≡ b
one_library below bytes a b s h k =
    let proper = below_proper below s in
    let same = ok_is h.entries k.entries ((image_single (base_of below) bytes).same (Ok h.entries) (Ok k.entries)
    (image_read (base_of below) bytes h.entries proper h.is_image h.verified) (image_read (base_of below) bytes k.entries proper k.is_image k.verified)) in
    h.shelf_is ∙ ap (with_entries below) same ∙ sym k.shelf_is
