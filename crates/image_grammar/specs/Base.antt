-- What an image over a library lies over.
use Rattle.std.specs.Prelude.{◌≡◌, ◌≤◌, List, [], length, All}
use Rattle.std.specs.List.{flat_map}
use Rattle.mpy_base.specs.declared.limits.TheConstants.{MAX_IMAGE_BYTES, MAX_TABLE}
use Rattle.bc_library.specs.Shelf.{Shelf, names, no_entries}
use Rattle.bc_library.specs.Texts.{texts_of, with_texts}
use Rattle.image_grammar.specs.Opening.{Base}

-- the texts of the library's pool, and the names of its modules
abbrev pub base_of : Shelf → Base
base_of shelf = record { texts = shelf.pool.texts; names = names shelf }

-- a library as images are opened, one over another: of modules alone, with their texts in the order of first use, which are
-- as many as a pool holds, and no longer than an image
pub record IsOpened (shelf : Shelf) : Type 0 where
  pub alone : shelf.refused ≡ []
  pub first_use : shelf.pool ≡ with_texts no_entries.pool (flat_map (λ n. texts_of n.name n.held) shelf.modules)
  pub few_texts : length shelf.pool.texts ≤ MAX_TABLE
  pub short_texts : All (λ text. length text ≤ MAX_IMAGE_BYTES) shelf.pool.texts
