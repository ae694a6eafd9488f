-- What the runs of images of manifests' sources say of their programs.
use Rattle.std.proofs.Common.{◌≡◌, ℕ, true, false, List, ◌∷◌, ◌++◌, Option, Some, Ok, inl, inr, refl, sym, ap, subst, ◌∙◌}
use Rattle.std.specs.Prelude.{◌≢◌}
use Rattle.meant_files.specs.mpy_io.Files.{FileOf}
use Rattle.library_files.specs.bc_library.declared.fault.Member.TheVariants as members
use Rattle.library_files.specs.bc_library.Shelf.{Shelf, member_of, no_entries}
use Rattle.meant_files.specs.py_meaning.Program.{Program}
use Rattle.meant_files.specs.meant_runs.Units.{AreUnits}
use Rattle.meant_files.specs.image_grammar.Image.{IsFront, IsImage}
use Rattle.meant_files.specs.image_grammar.Opening.{Base}
use Rattle.meant_files.specs.image_grammar.declared.entry.Entry.{Entry}
use Rattle.meant_files.specs.image_open.Opens.{Opens}
use Rattle.meant_files.specs.image_freeze.Migrated.{Migrates as MigratesTo}
use Rattle.meant_files.specs.frozen_files.Frozen.{HoldsFrozen}
use Rattle.meant_files.specs.Programs.{HoldsImageOf, IsImageOfSources, IsLibraryOf, IsProgramOf, Sources}
use Rattle.run_commands.specs.mpy_endings.declared.ending.Ending.TheVariants.{Done}
use Rattle.run_commands.specs.command_files.Images.{HoldsImage}
use Rattle.run_commands.specs.declared.ready.Ready.{Ready}
use Rattle.file_commands.specs.Freeze.{Freezes}
use Rattle.file_commands.specs.Migrate.{Migrates}
use Rattle.meant_commands.specs.Meant.{HoldsProgram}
use Rattle.run_commands.specs.Ready.{RunLibrary, not_read, of_file, of_image, begins_image}

by_some : {a b : List ℕ} → Some a ≡ Some b → a ≡ b
by_some e = cc

-- images begin as such
-- ====================

begins_by : (below : Base) (front rest : List ℕ) → IsFront below front → begins_image (front ++ rest) ≡ true
begins_by below front rest (inl f) = subst (λ (b : List ℕ). begins_image (b ++ rest) ≡ true) (sym f.0) refl
begins_by below front rest (inr f) = subst (λ (b : List ℕ). begins_image (b ++ rest) ≡ true) (sym f.2) refl

begins : (below : Base) (entries : List Entry) (bytes : List ℕ) → IsImage below entries bytes → begins_image bytes ≡ true
begins below entries bytes s =
    subst (λ (b : List ℕ). begins_image b ≡ true) (sym s.bytes_are) (begins_by below s.front (s.text_count ++ (s.texts ++ (s.module_count ++ s.named))) s.is_front)

-- what is known of the libraries of images
pub record OfImages : Type 0 where
  pub program : (all : List Sources) (main : List ℕ) (shelf : Shelf) (place : ℕ) → IsLibraryOf all shelf → member_of shelf main ≡ Some (members.Module place) → (program : Program) × IsProgramOf all main program
  pub units : (all : List Sources) (main : List ℕ) (shelf : Shelf) → IsLibraryOf all shelf → (program : Program) → IsProgramOf all main program → AreUnits program shelf

module _ (all : List Sources) (sources : Sources) (below : Shelf) (files : FileOf) (image : List ℕ) (is : IsLibraryOf all below) (h : HoldsImageOf below sources files image) where
  library : (bytes : List ℕ) (shelf : Shelf) → files image ≡ Some bytes → Opens below bytes shelf → IsLibraryOf (sources ∷ all) shelf
  library bytes shelf there opens =
      let same : bytes ≡ h.bytes = by_some (sym there ∙ h.written) in
      (below, h.bytes, is, h.is, subst (λ (b : List ℕ). Opens below b shelf) same opens)

  pub image_opened : (shelf : Shelf) → HoldsImage below (Some files) image shelf → IsLibraryOf (sources ∷ all) shelf
  image_opened shelf k = library k.bytes shelf k.holds k.opens

  -- the file is none of a module
  no_module : (bytes : List ℕ) → files image ≡ Some bytes → begins_image bytes ≡ false → ⊥
  no_module bytes there other =
      let same : h.bytes ≡ bytes = by_some (sym h.written ∙ there) in
      let is_one = begins _ h.is.opens.entries h.bytes h.is.opens.is_image in
      let both : true ≡ false = sym is_one ∙ (ap begins_image same ∙ other) in
      cc

  module _ (o : OfImages) (main : List ℕ) where
    pub image_program : (ready : Ready) → RunLibrary below main (Some files) image (Ok ready) → (program : Program) × IsProgramOf (sources ∷ all) main program
    image_program ready (not_read ending k e) = absurd cc
    image_program ready (of_file bytes there other k) = absurd (no_module bytes there other)
    image_program ready (of_image bytes there short begins_so k) = o.program (sources ∷ all) main ready.library ready.place (library bytes ready.library there k.0.opens) k.0.found

    pub image_holds : (program : Program) → IsProgramOf (sources ∷ all) main program → HoldsProgram (RunLibrary below main) (Some files) image program
    image_holds program its ready (not_read ending k e) = absurd cc
    image_holds program its ready (of_file bytes there other k) = absurd (no_module bytes there other)
    image_holds program its ready (of_image bytes there short begins_so k) =
        (its.main_name_is ∙ sym k.1, o.units (sources ∷ all) main ready.library (library bytes ready.library there k.0.opens) program its)

-- what commands make
-- ==================

pub made_image : ((version : ℕ) (below : Shelf) (sources : Sources) (bytes : List ℕ) → HoldsFrozen version below (Some sources.files) sources.manifest bytes → IsImageOfSources below sources bytes)
    → (version : ℕ) (below : Shelf) (sources : Sources) (written : List ℕ) (new : Option FileOf) → Freezes version below sources.manifest written (Some sources.files) new Done
    → (now : FileOf) × (new ≡ Some now) × HoldsImageOf below sources now written
    × ((base : Shelf) (others : Sources) (image : List ℕ) → image ≢ written → HoldsImageOf base others sources.files image → HoldsImageOf base others now image)
made_image frozen version below sources written new h = (
  h.2.0,
  h.2.1,
  record { bytes = h.0; is = frozen version below sources h.0 h.1; written = h.2.2.here },
  λ base others image apart k. record { bytes = k.bytes; is = k.is; written = h.2.2.others image apart ∙ k.written },
)

pub migrated_image : ((sources : Sources) (bytes out : List ℕ) → IsImageOfSources no_entries sources bytes → MigratesTo bytes out → IsImageOfSources no_entries sources out)
    → (sources : Sources) (files : FileOf) (image written : List ℕ) (new : Option FileOf) → HoldsImageOf no_entries sources files image → Migrates image written (Some files) new Done
    → (now : FileOf) × (new ≡ Some now) × HoldsImageOf no_entries sources now written
migrated_image migrated sources files image written new h m =
    let same : h.bytes ≡ m.1.bytes = by_some (sym h.written ∙ m.1.holds) in
    (m.2.0, m.2.1, record { bytes = m.0; is = migrated sources m.1.bytes m.0 (subst (IsImageOfSources no_entries sources) same h.is) m.1.migrates; written = m.2.2.here })
