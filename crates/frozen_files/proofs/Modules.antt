-- The modules of all entries.
use Rattle.std.proofs.Common.{◌≡◌, ◌⊎◌, ◌<◌, ◌≤◌, ◌+◌, ℕ, false, List, [], ◌∷◌, ◌++◌, length, take, drop, get_or, Option, Some, None, IfSome, Result, Ok, Err, inl, inr, refl, sym, ap, subst, ◌∙◌}
use Rattle.std.specs.Prelude.{All, is_ok, is_err, if◌then◌else◌}
use Rattle.std.specs.List.{AllZip}
use Rattle.std.proofs.lemmas.List.Elements.{All-nil, All-cons, All-head, All-tail}
use Rattle.mpy_base.specs.declared.refused.Refused.{Refused}
use Rattle.mpy_base.specs.declared.refused.Refused.TheVariants as refused
use Rattle.mpy_io.specs.Files.{FileOf}
use Rattle.image_freeze.specs.image_open.mpy_tree.File.{IsAscii}
use Rattle.image_freeze.specs.image_open.bc_verify.Verified.{IsVerified}
use Rattle.manifest_lines.specs.declared.entry.Entry.{Entry}
use Rattle.manifest_files.specs.declared.fault.ManifestFault.{ManifestFault}
use Rattle.manifest_files.specs.Answers.{is_read_fault}
use Rattle.manifest_files.specs.Entries.{IsFault}
use Rattle.manifest_files.specs.Plain.{IsPlain}
use Rattle.image_freeze.specs.image_open.bc_library.Shelf.{Shelf}
use Rattle.manifest_files.specs.image_grammar.Base.{base_of}
use Rattle.image_freeze.specs.image_open.Opens.{Opens, with_entries}
use Rattle.image_freeze.specs.declared.named.Named.{Named}
use Rattle.image_freeze.specs.Fronts.{front_of}
use Rattle.image_freeze.specs.Frozen.{entries_of, image_bytes}
use Rattle.manifest_files.specs.declared.frozen_fault.SourcesFault.{SourcesFault}
use Rattle.manifest_files.specs.FrozenFaults.{FaultIs, of_manifest}
use Rattle.frozen_files.specs.Frozen.{HoldsFrozen}
use Rattle.frozen_files.specs.Sources.{MayList, RefusesManifest, HoldsSource, HoldsSources, RefusesEntry, IsFirstRefused, RefusesSource, RefusesSources}
use Rattle.frozen_files.proofs.Lists.{zip_push, take_next, parts_at, take_all}

-- the manifest
-- ============

first_at : (files : Option FileOf) (name : List ℕ) (result : Result (List Entry) (Refused ManifestFault)) (fault : ManifestFault) → result ≡ Err (refused.Fault fault)
    → IfSome files (λ file. (f : ManifestFault) → result ≡ Err (refused.Fault f) → is_read_fault f ≡ false → IsFault file name f) → is_read_fault fault ≡ false → IfSome files (λ file. IsFault file name fault)
first_at None name result fault is h other = tt
first_at (Some file) name result fault is h other = h fault is other

-- one entry more
-- ==============

module _ (files : Option FileOf) (entries : List Entry) where
  -- a push that didn't fail put the module at the end
  pub grown : {T E : Type 0} (r : Result T E) (items pushed kept : List Named) → is_err r ≡ false → items ≡ (if is_ok r then pushed else kept) → items ≡ pushed
  grown (Ok x) items pushed kept e h = h
  grown (Err y) items pushed kept e h = absurd cc

  pub one_more : (i : ℕ) (entry : Entry) (modules items : List Named) (m : Named) → i < length entries → entry ≡ get_or entries i entry → AllZip (HoldsSource files) (take i entries) modules → HoldsSource files entry m
      → items ≡ modules ++ m ∷ [] → AllZip (HoldsSource files) (take (i + 1) entries) items
  one_more i entry modules items m lt is zip holds pushed =
      subst (λ (es : List Entry). AllZip (HoldsSource files) es items) (sym (take_next entries i entry lt is))
      (subst (AllZip (HoldsSource files) (take i entries ++ entry ∷ [])) (sym pushed) (zip_push (HoldsSource files) (take i entries) modules entry m zip holds))

  pub first_refused : (i : ℕ) (entry : Entry) (modules : List Named) (refusal : Refused SourcesFault) → i < length entries → entry ≡ get_or entries i entry → AllZip (HoldsSource files) (take i entries) modules
      → FaultIs (RefusesEntry files entry) refusal → FaultIs (IsFirstRefused files entries) refusal
  first_refused i entry modules (refused.Fault fault) lt is zip h = record {
    before = take i entries;
    entry = entry;
    behind = drop (i + 1) entries;
    parts = parts_at entries i entry lt is;
    modules = modules;
    sources = zip;
    refused = h;
  }
  first_refused i entry modules refused.NoMemory lt is zip h = tt

  pub all_seen : (i : ℕ) (modules : List Named) → length entries ≤ i → AllZip (HoldsSource files) (take i entries) modules → AllZip (HoldsSource files) entries modules
  all_seen i modules le zip = subst (λ (es : List Entry). AllZip (HoldsSource files) es modules) (take_all entries i le) zip

-- all of them
-- ===========

pub names_ascii : (files : Option FileOf) (entries : List Entry) (modules : List Named) → All IsPlain entries → AllZip (HoldsSource files) entries modules → All (λ m. IsAscii m.name) modules
names_ascii files [] [] plain zip = All-nil (λ m. IsAscii m.name)
names_ascii files [] (m ∷ modules) plain zip = absurd zip
names_ascii files (entry ∷ entries) [] plain zip = absurd zip
names_ascii files (entry ∷ entries) (m ∷ modules) plain zip =
    All-cons (λ m. IsAscii m.name) m modules (subst IsAscii (sym zip.0.name_is) (All-head IsPlain entry entries plain).name) (names_ascii files entries modules (All-tail IsPlain entry entries plain) zip.1)

pub all_verified : (files : Option FileOf) (entries : List Entry) (modules : List Named) → AllZip (HoldsSource files) entries modules → All (λ m. IsVerified m.held) modules
all_verified files [] [] zip = All-nil (λ m. IsVerified m.held)
all_verified files [] (m ∷ modules) zip = absurd zip
all_verified files (entry ∷ entries) [] zip = absurd zip
all_verified files (entry ∷ entries) (m ∷ modules) zip = All-cons (λ m. IsVerified m.held) m modules zip.0.is.is.verified (all_verified files entries modules zip.1)

pub refuses_source : (old now : Option FileOf) (manifest : List ℕ) (entries given : List Entry) (refusal : Refused SourcesFault) → now ≡ old → given ≡ entries → MayList old manifest entries
    → FaultIs (IsFirstRefused now given) refusal → FaultIs (RefusesSources old manifest) refusal
refuses_source old now manifest entries given (refused.Fault fault) e g are h =
    inr (record {
      entries = entries;
      are = are;
      first = subst (λ (fs : Option FileOf). IsFirstRefused fs entries fault) e (subst (λ (es : List Entry). IsFirstRefused now es fault) g h);
    })
refuses_source old now manifest entries given refused.NoMemory e g are h = tt

pub refuses_manifest : (files : Option FileOf) (manifest : List ℕ) (refusal : Refused SourcesFault) → FaultIs (RefusesManifest files manifest) refusal → FaultIs (RefusesSources files manifest) refusal
refuses_manifest files manifest (refused.Fault fault) h = inl h
refuses_manifest files manifest refused.NoMemory h = tt

-- the image
-- =========

pub is_frozen : (version : ℕ) (below : Shelf) (files : Option FileOf) (manifest : List ℕ) (modules given : List Named) (bytes : List ℕ) → given ≡ modules → HoldsSources files manifest modules
    → bytes ≡ image_bytes (front_of version (base_of below)) (base_of below) (entries_of given)
    → (All (λ m. IsVerified m.held) given → Opens below bytes (with_entries below (entries_of given))) → HoldsFrozen version below files manifest bytes
is_frozen version below files manifest modules given bytes same sources written opens =
    let verified = all_verified files sources.entries modules sources.sources in
    record {
      modules = modules;
      sources = sources;
      bytes_are = subst (λ (ms : List Named). bytes ≡ image_bytes (front_of version (base_of below)) (base_of below) (entries_of ms)) same written;
      opens = subst (λ (ms : List Named). Opens below bytes (with_entries below (entries_of ms))) same (opens (subst (All (λ m. IsVerified m.held)) (sym same) verified));
    }
