-- What the file of a name comes to as an image, in a folder that tells its files.
use Rattle.std.proofs.Common.{◌≡◌, ◌⊎◌, inl, inr, ℕ, ◌<◌, ◌≤◌, List, length, Option, Some, refl, sym, ap, subst, ◌∙◌, arith}
use Rattle.mpy_base.specs.declared.limits.TheConstants.{MAX_IMAGE_BYTES, MAX_READ_BYTES}
use Rattle.mpy_io.specs.Files.{FileOf}
use Rattle.mpy_reader.specs.declared.fault.FileFault.{FileFault}
use Rattle.mpy_reader.specs.declared.fault.FileFault.TheVariants.{TooBig}
use Rattle.bc_library.specs.Shelf.{Shelf}
use Rattle.image_grammar.specs.declared.entry.Entry.{Entry}
use Rattle.image_grammar.specs.declared.fault.ImageFault.{ImageFault}
use Rattle.image_grammar.specs.Base.{base_of}
use Rattle.image_grammar.specs.Image.{IsImage}
use Rattle.image_grammar.specs.Opening as images
use Rattle.image_grammar.specs.Opening.{FirstFault}
use Rattle.image_open.specs.Opens.{IsOpenedOf, Opens}
use Rattle.image_runs.specs.declared.fault.MainFault.TheVariants as mains
use Rattle.mpy_endings.specs.declared.ending.Ending.{Ending}
use Rattle.mpy_endings.specs.declared.ending.Ending.TheVariants.{Done, Unaccepted, Unread, Unverified, Unmerged, Unopened, Unfrozen, Unboarded, Different, Stopped, ReadFault, WriteFault, Unwritten, NoMemory, Absent}
use Rattle.mpy_endings.specs.Ending.{IsSettled}
use Rattle.command_files.specs.Images.{HoldsImage, HoldsNoImage, RefusesImage}
use Rattle.tool_laws.specs.Laws.{ImageLaws}
use Rattle.tool_laws.proofs.Opened.{AtAbsent, none_there, same_content}

-- the file is too long to be read, and the command ends so
pub record AtLong (files : FileOf) (name : List ℕ) (said ending : Ending) : Type 0 where
  pub is : ending ≡ said
  pub bytes : List ℕ
  pub at : files name ≡ Some bytes
  pub long : MAX_READ_BYTES < length bytes

-- a file isn't both too long to be read and short enough
pub never_long : (o : Option (List ℕ)) (a b : List ℕ) → o ≡ Some a → o ≡ Some b → length a ≤ MAX_READ_BYTES → MAX_READ_BYTES < length b → ⊥
never_long o a b e f at_most long =
    let short : length b ≤ MAX_READ_BYTES = subst (λ (z : List ℕ). length z ≤ MAX_READ_BYTES) (same_content o a b e f) at_most in
    omega (arith, long, short)

-- the file is no image, for this fault, or is too long to be read, or isn't there
abbrev pub NoImage : (below : Shelf) (files : FileOf) (name : List ℕ) → Ending → Type 0
NoImage below files name ending =
    ((fault : ImageFault) × (ending ≡ Unopened (mains.Image fault)) × HoldsNoImage below (Some files) name fault)
    ⊎ (AtLong files name (Unread TooBig) ending ⊎ AtAbsent files name ending)

pub no_image : (below : Shelf) (files : FileOf) (name : List ℕ) (ending : Ending) → IsSettled ending → RefusesImage below (Some files) name ending → NoImage below files name ending
no_image below files name Done s p = absurd p
no_image below files name (Unaccepted fault) s p = absurd p
no_image below files name (Unread fault) s p =
    inr (inl (record { is = ap (λ (f : FileFault). Unread f) p.0; bytes = p.1.0; at = p.1.1; long = p.1.2 }))
no_image below files name (Unverified fault) s p = absurd p
no_image below files name (Unmerged fault) s p = absurd p
no_image below files name (Unopened (mains.Image fault)) s p = inl (fault, refl, p)
no_image below files name (Unopened (mains.NoMain main)) s p = absurd p
no_image below files name (Unfrozen fault) s p = absurd p
no_image below files name (Unboarded fault) s p = absurd p
no_image below files name (Different difference) s p = absurd p
no_image below files name (Stopped stop) s p = absurd p
no_image below files name ReadFault s p = absurd s
no_image below files name WriteFault s p = absurd p
no_image below files name Unwritten s p = absurd p
no_image below files name NoMemory s p = absurd s
no_image below files name Absent s p = inr (inr (record { is = refl; at = p }))

-- an image can be read
pub image_short : (below : images.Base) (entries : List Entry) (bytes : List ℕ) → IsImage below entries bytes → length bytes ≤ MAX_READ_BYTES
image_short below entries bytes h = let short : length bytes ≤ MAX_IMAGE_BYTES = h.short in omega (arith, short)

module _ (laws : ImageLaws) (opened : List (List ℕ)) (below : Shelf) (is_opened : IsOpenedOf opened below) where
  pub never_faulty : (bytes : List ℕ) (shelf : Shelf) (fault : ImageFault) → Opens below bytes shelf → FirstFault (base_of below) bytes fault → ⊥
  never_faulty bytes shelf fault h f =
      laws.not_both (base_of below) bytes h.entries fault (laws.read opened below bytes h.entries is_opened h.is_image h.verified) f

  module _ (files : FileOf) (name : List ℕ) where
    pub one_library : (a b : Shelf) → HoldsImage below (Some files) name a → HoldsImage below (Some files) name b → a ≡ b
    one_library a b h k =
        let bytes = same_content (files name) h.bytes k.bytes h.holds k.holds in
        laws.one_library opened below k.bytes a b is_opened (subst (λ (z : List ℕ). Opens below z a) bytes h.opens) k.opens

    pub never_no_image : (shelf : Shelf) (ending : Ending) → HoldsImage below (Some files) name shelf → NoImage below files name ending → ⊥
    never_no_image shelf ending h (inl x) =
        let bytes = same_content (files name) h.bytes x.2.bytes h.holds x.2.holds in
        never_faulty x.2.bytes shelf x.0 (subst (λ (z : List ℕ). Opens below z shelf) bytes h.opens) x.2.first
    never_no_image shelf ending h (inr (inl x)) =
        never_long (files name) h.bytes x.bytes h.holds x.at (image_short (base_of below) h.opens.entries h.bytes h.opens.is_image) x.long
    never_no_image shelf ending h (inr (inr x)) = none_there (files name) h.bytes x.at h.holds

    pub one_no_image : (one other : Ending) → NoImage below files name one → NoImage below files name other → one ≡ other
    one_no_image one other (inl x) (inl y) =
        let bytes = same_content (files name) x.2.bytes y.2.bytes x.2.holds y.2.holds in
        let first = subst (λ (z : List ℕ). FirstFault (base_of below) z x.0) bytes x.2.first in
        x.1 ∙ (ap (λ (f : ImageFault). Unopened (mains.Image f)) (laws.one_fault (base_of below) y.2.bytes x.0 y.0 first y.2.first) ∙ sym y.1)
    one_no_image one other (inl x) (inr (inl y)) = absurd (never_long (files name) x.2.bytes y.bytes x.2.holds y.at x.2.short y.long)
    one_no_image one other (inl x) (inr (inr y)) = absurd (none_there (files name) x.2.bytes y.at x.2.holds)
    one_no_image one other (inr (inl x)) (inl y) = absurd (never_long (files name) y.2.bytes x.bytes y.2.holds x.at y.2.short x.long)
    one_no_image one other (inr (inl x)) (inr (inl y)) = x.is ∙ sym y.is
    one_no_image one other (inr (inl x)) (inr (inr y)) = absurd (none_there (files name) x.bytes y.at x.at)
    one_no_image one other (inr (inr x)) (inl y) = absurd (none_there (files name) y.2.bytes x.at y.2.holds)
    one_no_image one other (inr (inr x)) (inr (inl y)) = absurd (none_there (files name) y.bytes x.at y.at)
    one_no_image one other (inr (inr x)) (inr (inr y)) = x.is ∙ sym y.is
