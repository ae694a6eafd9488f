-- The library that an image is opened as, over one that lies below.
use Rattle.std.specs.Prelude.{◌≡◌, ℕ, List, [], ◌∷◌, ◌++◌, map, All, Result, Ok, Err}
use Rattle.mpy_base.specs.declared.refused.Refused.{Refused}
use Rattle.mpy_base.specs.declared.refused.Refused.TheVariants as refusals
use Rattle.image_grammar.specs.bc_verify.Verified.{IsVerified}
use Rattle.image_grammar.specs.bc_library.Shelf.{Named, Shelf, no_entries}
use Rattle.image_grammar.specs.bc_library.Texts.{with_texts}
use Rattle.image_grammar.specs.declared.entry.Entry.{Entry}
use Rattle.image_grammar.specs.declared.fault.ImageFault.{ImageFault}
use Rattle.image_grammar.specs.Image.{IsImage, texts_used}
use Rattle.image_grammar.specs.Opening.{image}
use Rattle.image_grammar.specs.Base.{base_of}

-- a module of an image with its name
abbrev pub named : Entry → Named
named entry = record { name = entry.name; held = entry.held }

-- the library below, and behind its modules these, with the texts that aren't there yet in the order of first use
abbrev pub with_entries : Shelf → List Entry → Shelf
with_entries below entries = record {
  modules = below.modules ++ map named entries;
  refused = below.refused;
  pool = with_texts below.pool (texts_used entries);
}

-- a library of these modules alone
abbrev pub shelf_of : List Entry → Shelf
shelf_of entries = with_entries no_entries entries

-- the bytes are an image over the library below of the further modules of the library, which are verified
pub record Opens (below : Shelf) (bytes : List ℕ) (shelf : Shelf) : Type 0 where
  pub entries : List Entry
  pub is_image : IsImage (base_of below) entries bytes
  pub verified : All (λ entry. IsVerified entry.held) entries
  pub shelf_is : shelf ≡ with_entries below entries

-- the library is opened of these images, of which each lies over those behind it, and the last one over nothing
abbrev pub IsOpenedOf : List (List ℕ) → Shelf → Type 0
IsOpenedOf [] shelf = shelf ≡ no_entries
IsOpenedOf (bytes ∷ images) shelf = (below : Shelf) × IsOpenedOf images below × Opens below bytes shelf

-- how an opening ends: with the library of the modules that are read, with the fault of the reading, or for want of memory
pub data Ended (below : Shelf) (bytes : List ℕ) (r : Result Shelf (Refused ImageFault)) : Type 0 where
  opened : (entries : List Entry) → image (base_of below) bytes (Ok entries) → r ≡ Ok (with_entries below entries) → Ended below bytes r
  faulty : (fault : ImageFault) → image (base_of below) bytes (Err fault) → r ≡ Err (refusals.Fault fault) → Ended below bytes r
  starved : r ≡ Err refusals.NoMemory → Ended below bytes r
