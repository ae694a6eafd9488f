-- How the migration of a file ends.
use Rattle.std.proofs.Common.{◌≡◌, ◌≤◌, ℕ, List, [], ◌∷◌, ◌++◌, length, inl, inr, Option, Some, Result, Err, Vec, Global, refl, subst}
use Rattle.mpy_base.specs.declared.limits.TheConstants.{MAX_READ_BYTES}
use Rattle.mpy_base.specs.declared.refused.Refused.{Refused}
use Rattle.mpy_base.specs.declared.refused.Refused.TheVariants as refusals
use Rattle.mpy_io.specs.Files.{FileOf}
use Rattle.manifest_files.specs.image_grammar.declared.entry.Entry.{Entry}
use Rattle.manifest_files.specs.image_grammar.declared.fault.ImageFault.{ImageFault}
use Rattle.manifest_files.specs.image_grammar.declared.fault.ImageFault.TheVariants.{BadHeader, Truncated, BadNumber, BadModule, Twice, Trailing, TooBig, BadBase}
use Rattle.manifest_files.specs.image_grammar.Image.{Differ}
use Rattle.manifest_files.specs.image_grammar.Opening.{FirstFault, names_of, nothing_below}
use Rattle.frozen_files.specs.image_freeze.Frozen.{FreezeFault, IsTooBig, IsTwice, second_front}
use Rattle.frozen_files.specs.image_freeze.declared.fault.MigrateFault.{MigrateFault}
use Rattle.frozen_files.specs.image_freeze.declared.fault.MigrateFault.TheVariants.{Opening, Freezing}
use Rattle.frozen_files.specs.image_freeze.Migrated.{IsImageOf}
use Rattle.command_files.specs.mpy_endings.declared.ending.Ending.{Ending}
use Rattle.command_files.specs.mpy_endings.declared.ending.Ending.TheVariants.{Done, Unaccepted, Unread, Unverified, Unmerged, Unopened, Unfrozen, Unboarded, Different, Stopped, ReadFault, WriteFault, Unwritten, NoMemory, Absent}
use Rattle.image_runs.specs.declared.fault.MainFault.TheVariants as mains
use Rattle.manifest_files.specs.declared.frozen_fault.FrozenFault.TheVariants as frozen
use Rattle.command_files.specs.Folder.{ChangesOnly, MayHold}
use Rattle.command_files.proofs.Others.{same_only, became_only, front_only}
use Rattle.file_commands.specs.Migrate.{Migrates, refused_end}

-- modules of an image have different names, so they can only be too big for another one
-- ====================================================================================

not_twice : (before names : List (List ℕ)) (again : List ℕ) → Differ before names → IsTwice before names again → ⊥
not_twice before [] again d t = t
not_twice before (name ∷ names) again d (inl t) = d.0 t.0
not_twice before (name ∷ names) again d (inr t) = not_twice (before ++ name ∷ []) names again d.1 t.1

abbrev AreBig : List Entry → Type 0
AreBig entries = IsTooBig (second_front nothing_below) nothing_below entries

only_big : (entries : List Entry) (bytes : List ℕ) (fault : ImageFault) → IsImageOf entries bytes → FreezeFault (second_front nothing_below) nothing_below entries fault → (fault ≡ TooBig) × AreBig entries
only_big entries bytes (Twice name) is h = absurd (not_twice [] (names_of entries) name is.is_image.differ h)
only_big entries bytes TooBig is h = (refl, h)
only_big entries bytes BadHeader is h = absurd h
only_big entries bytes Truncated is h = absurd h
only_big entries bytes BadNumber is h = absurd h
only_big entries bytes (BadModule index) is h = absurd h
only_big entries bytes Trailing is h = absurd h
only_big entries bytes BadBase is h = absurd h

-- it was refused
-- ==============

abbrev answers : Refused MigrateFault → Result (Vec ℕ Global) (Refused MigrateFault)
answers refusal = Err refusal

module _ (name written bytes read : List ℕ) (old new : Option FileOf) (holds : MayHold old name (Some bytes)) (short : length bytes ≤ MAX_READ_BYTES) (is_read : read ≡ bytes) where
  pub unmigrated : (refusal : Refused MigrateFault) → new ≡ old → ((fault : ImageFault) → answers refusal ≡ Err (refusals.Fault (Opening fault)) → FirstFault nothing_below read fault)
      → ((fault : ImageFault) → answers refusal ≡ Err (refusals.Fault (Freezing fault)) → (entries : List Entry) × IsImageOf entries read × FreezeFault (second_front nothing_below) nothing_below entries fault)
      → Migrates name written old new (refused_end refusal)
  unmigrated (refusals.Fault (Opening fault)) same opening freezing =
      (record { bytes = bytes; holds = holds; short = short; first = subst (λ (b : List ℕ). FirstFault nothing_below b fault) is_read (opening fault refl) }, same)
  unmigrated (refusals.Fault (Freezing fault)) same opening freezing =
      let h = freezing fault refl in
      let big = only_big h.0 read fault h.1 h.2 in
      (big.0, record { bytes = bytes; holds = holds; entries = h.0; is = subst (IsImageOf h.0) is_read h.1; big = big.1 }, same)
  unmigrated refusals.NoMemory same opening freezing = same

-- what it does to other files
-- ===========================

pub migrates_only : (name written : List ℕ) (old new : Option FileOf) (ending : Ending) → Migrates name written old new ending → ChangesOnly old new written
migrates_only name written old new Done h = became_only old new written h.0 h.2
migrates_only name written old new (Unaccepted fault) h = absurd h
migrates_only name written old new (Unread fault) h = same_only old new written h.1
migrates_only name written old new (Unverified fault) h = absurd h
migrates_only name written old new (Unmerged fault) h = absurd h
migrates_only name written old new (Unopened (mains.Image fault)) h = same_only old new written h.1
migrates_only name written old new (Unopened (mains.NoMain main)) h = absurd h
migrates_only name written old new (Unfrozen (frozen.Sources fault)) h = absurd h
migrates_only name written old new (Unfrozen (frozen.Image fault)) h = same_only old new written h.2
migrates_only name written old new (Unboarded fault) h = absurd h
migrates_only name written old new (Different difference) h = absurd h
migrates_only name written old new (Stopped stop) h = absurd h
migrates_only name written old new ReadFault h = same_only old new written h
migrates_only name written old new WriteFault h = became_only old new written h.0 h.2
migrates_only name written old new Unwritten h = front_only old new written h.0 h.2
migrates_only name written old new NoMemory h = same_only old new written h
migrates_only name written old new Absent h = same_only old new written h.1
