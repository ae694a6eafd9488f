-- The modules of an image over a library may be put behind those of the library.
use Rattle.std.proofs.Common.{◌≡◌, ℕ, ◌+◌, ◌≤◌, List, length, Ok, refl, sym, ap, subst, arith}
use Rattle.std.specs.Prelude.{All, IsTrue}
use Rattle.std.proofs.lemmas.List.{length-map}
use Rattle.mpy_base.specs.declared.limits.TheConstants.{MAX_MODULES, MAX_TABLE}
use Rattle.qstr_pool.specs.Pool.{Texts, all_differ}
use Rattle.image_grammar.specs.bc_verify.Verified.{IsVerified}
use Rattle.image_grammar.specs.bc_library.Own.{IsOwnPool}
use Rattle.image_grammar.specs.bc_library.Shelf.{Named, Shelf, names}
use Rattle.image_grammar.specs.bc_library.Texts.{IsPlain, with_texts}
use Rattle.image_grammar.specs.declared.entry.Entry.{Entry}
use Rattle.image_grammar.specs.Image.{Differ, IsImage, texts_used}
use Rattle.image_grammar.specs.Opening.{image, names_of, pool_below}
use Rattle.image_grammar.specs.Base.{IsOpened, base_of}
use Rattle.image_open.specs.Opens.{with_entries}
use Rattle.image_open.proofs.Uses.{IsProper}
use Rattle.image_open.proofs.Whole.{image_found}
use Rattle.image_open.proofs.Base.{opened_pool}

pub proper : (below : Shelf) → IsOwnPool (pool_below (base_of below)) × IsTrue (all_differ below.pool.texts) → IsProper (pool_below (base_of below))
proper below p = record { own = p.0; differ = p.1 }

pub few_names : (below : Shelf) → length below.modules + length below.refused ≤ MAX_MODULES → length (names below) ≤ MAX_MODULES
few_names below few = omega (arith, few, length-map below.modules (λ (n : Named). n.name))

-- what is read over the library
module _ (below : Shelf) (bytes : List ℕ) (entries : List Entry) (opened : IsOpened below) (p : IsOwnPool (pool_below (base_of below)) × IsTrue (all_differ below.pool.texts)) (few : length below.modules + length below.refused ≤ MAX_MODULES) (h : image (base_of below) bytes (Ok entries)) where
  pub found : IsImage (base_of below) entries bytes × All (λ (e : Entry). IsVerified e.held) entries × All (λ (e : Entry). IsPlain e.name) entries
  found = image_found (base_of below) bytes entries (proper below p) opened.few_texts (few_names below few) h

  pub entries_differ : Differ (names below) (names_of entries)
  entries_differ = found.0.differ

  pub few_entries : length (names below) + length entries ≤ MAX_MODULES
  few_entries = found.0.few_modules

  pub texts_fit : length (with_entries below entries).pool.texts ≤ MAX_TABLE
  texts_fit =
      let s = found.0 in
      let few_texts = s.few_texts in
      omega (arith, few_texts, ap (λ (z : Texts). length z.texts) s.first_use, ap (λ (z : Texts). length (with_texts z (texts_used entries)).texts) (opened_pool below opened))

  pub plain : All (λ (e : Entry). IsPlain e.name) entries
  plain = found.2
