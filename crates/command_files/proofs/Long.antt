-- A file and a source that are too long to be read.
use Rattle.std.proofs.Common.{◌≡◌, ◌+◌, ◌<◌, ℕ, List, length, replicate, Option, Some, None, IfSome, Err, refl, sym, subst, inl, arith, ◌≤◌, inr}
use Rattle.std.proofs.lemmas.List.{length-replicate}
use Rattle.mpy_base.specs.declared.source.SourceFault.{SourceFault}
use Rattle.mpy_io.specs.Files.{FileOf, Reads}
use Rattle.source_files.specs.Sources.{stored}
use Rattle.mpy_base.specs.declared.limits.TheConstants.{MAX_READ_BYTES, MAX_FILE_BYTES, MAX_SOURCE_BYTES}
use Rattle.mpy_io.specs.declared.fault.ReadFault.{ReadFault as FolderFault}
use Rattle.mpy_io.specs.declared.fault.ReadFault.TheVariants.{TooLong}
use Rattle.mpy_endings.specs.image_open.mpy_reader.declared.fault.FileFault.TheVariants.{TooBig}
use Rattle.mpy_endings.specs.image_open.mpy_reader.Reading.{FirstFault, file, stops}
use Rattle.mpy_endings.specs.declared.ending.Ending.{Ending}
use Rattle.mpy_endings.specs.declared.ending.Ending.TheVariants.{Done, Unaccepted, Unread, Unverified, Unmerged, Unopened, Unfrozen, Unboarded, Different, Stopped, ReadFault, WriteFault, Unwritten, NoMemory, Absent}
use Rattle.command_files.specs.Folder.{MayHold, IsNotRead}
use Rattle.command_files.specs.Opened.{Refuses}
use Rattle.mpy_base.specs.Fault.{too_long}
use Rattle.command_files.specs.Source.{HoldsFaulty}

pub some_long : (n : ℕ) → (source : List ℕ) × (n < length source)
some_long n = (replicate (n + 1) 0, omega (arith, length-replicate {A = ℕ} (n + 1) 0))

-- a file past its limit has that fault before all others
long_fault : (bytes : List ℕ) → MAX_FILE_BYTES < length bytes → FirstFault bytes TooBig
unfolding file
long_fault bytes h = stops TooBig (inr ((λ (f : length bytes ≤ MAX_FILE_BYTES). omega (arith, f, h)), refl)) refl

long_file : (files : Option FileOf) (name : List ℕ) → IfSome files (λ file. (bytes : List ℕ) × (file name ≡ Some bytes) × (MAX_READ_BYTES < length bytes)) → (bytes : List ℕ) × MayHold files name (Some bytes) × FirstFault bytes TooBig
long_file None name h = let long = some_long MAX_FILE_BYTES in (long.0, tt, long_fault long.0 long.1)
long_file (Some held) name h = (h.0, h.1, long_fault h.0 (let past : MAX_READ_BYTES < length h.0 = h.2 in omega (arith, past)))

-- why a file wasn't read is why it is none of a verified module
pub not_read : (files : Option FileOf) (name : List ℕ) (ending : Ending) → IsNotRead files name ending → Refuses files name ending
not_read files name Done h = absurd h
not_read files name (Unaccepted fault) h = absurd h
not_read files name (Unread fault) h =
    let long = long_file files name h.1 in
    (long.0, long.1, subst (FirstFault long.0) (sym h.0) long.2)
not_read files name (Unverified fault) h = absurd h
not_read files name (Unmerged fault) h = absurd h
not_read files name (Unopened fault) h = absurd h
not_read files name (Unfrozen fault) h = absurd h
not_read files name (Unboarded fault) h = absurd h
not_read files name (Different difference) h = absurd h
not_read files name (Stopped stop) h = absurd h
not_read files name ReadFault h = tt
not_read files name WriteFault h = absurd h
not_read files name Unwritten h = absurd h
not_read files name NoMemory h = tt
not_read files name Absent h = h

-- ---- a source that is too long to be read

pub long_faulty : (level : ℕ) (files : Option FileOf) (name stored : List ℕ) → IfSome files (λ file. (bytes : List ℕ) × (file name ≡ Some bytes) × (MAX_READ_BYTES < length bytes)) → HoldsFaulty level files name stored too_long
long_faulty level None name stored h =
    let long = some_long MAX_SOURCE_BYTES in
    record { source = long.0; holds = tt; is = inl (inl (inl (long.1, refl))) }
long_faulty level (Some file) name stored h = record { source = h.0; holds = h.1; is = inl (inl (inl (omega (arith, h.2), refl))) }

pub long_source : (level : ℕ) (files new : Option FileOf) (name stored : List ℕ) (fault : FolderFault) (said : SourceFault) → fault ≡ TooLong → said ≡ too_long
    → IfSome files (λ file. Reads (file name) (Err fault)) → new ≡ files → HoldsFaulty level files name stored said × (new ≡ files)
long_source level files new name stored fault said e f h same =
    let read = subst (λ (x : FolderFault). IfSome files (λ file. Reads (file name) (Err x))) e h in
    (subst (HoldsFaulty level files name stored) (sym f) (long_faulty level files name stored read), same)
