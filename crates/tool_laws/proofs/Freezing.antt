-- The command that writes the image of a manifest's sources.
use Rattle.std.proofs.Common.{◌≡◌, ◌⊎◌, inl, inr, ℕ, false, List, Option, Some, refl, sym, ap, ap₂, subst, ◌∙◌}
use Rattle.std.specs.Prelude.{Ok, Err}
use Rattle.std.specs.List.{AllZip}
use Rattle.mpy_io.specs.Files.{FileOf}
use Rattle.bc_library.specs.Shelf.{Shelf}
use Rattle.mpy_tree.specs.File.{IsFile}
use Rattle.image_grammar.specs.declared.entry.Entry as images
use Rattle.image_grammar.specs.declared.fault.ImageFault.{ImageFault}
use Rattle.image_grammar.specs.Base.{base_of}
use Rattle.image_grammar.specs.Image.{IsImage}
use Rattle.image_freeze.specs.declared.named.Named.{Named}
use Rattle.image_freeze.specs.Frozen.{FreezeFault, entries_of, image_bytes}
use Rattle.image_freeze.specs.Fronts.{front_of}
use Rattle.manifest_lines.specs.declared.entry.Entry.{Entry}
use Rattle.manifest_files.specs.declared.fault.ManifestFault.{ManifestFault}
use Rattle.manifest_files.specs.declared.fault.ManifestFault.TheVariants as manifests
use Rattle.manifest_files.specs.declared.frozen_fault.SourcesFault.{SourcesFault}
use Rattle.manifest_files.specs.declared.frozen_fault.SourcesFault.TheVariants as sources
use Rattle.manifest_files.specs.declared.frozen_fault.FrozenFault.TheVariants as frozen
use Rattle.manifest_files.specs.Answers as answers
use Rattle.manifest_files.specs.Entries.{AreEntries, IsFault}
use Rattle.manifest_files.specs.FrozenFaults.{is_read_fault, of_manifest}
use Rattle.command_files.specs.mpy_compile.Compiled as compiled
use Rattle.command_files.specs.mpy_compile.Compiled.{CompilesTo}
use Rattle.frozen_files.specs.Frozen.{HoldsFrozen, RefusesImage}
use Rattle.frozen_files.specs.Sources.{HoldsSource, HoldsSources, IsFirstRefused, RefusesEntry, RefusesManifest, RefusesSources}
use Rattle.mpy_endings.specs.declared.ending.Ending.{Ending}
use Rattle.mpy_endings.specs.declared.ending.Ending.TheVariants.{Done, Unaccepted, Unread, Unverified, Unmerged, Unopened, Unfrozen, Unboarded, Different, Stopped, ReadFault, WriteFault, Unwritten, NoMemory, Absent}
use Rattle.mpy_endings.specs.Ending.{IsSettled}
use Rattle.meant_commands.specs.file_commands.Freeze.{Freezes}
use Rattle.mpy_merge.proofs.Once.{one_beside}
use Rattle.tool_laws.specs.Laws.{FileLaws, ManifestLaws, SourceLaws}
use Rattle.tool_laws.specs.Once.{EndOnce, IsDone}
use Rattle.tool_laws.proofs.Frozen.{never_faulty, same_entries}
use Rattle.tool_laws.proofs.Lists.{first_bad, none_bad}
use Rattle.tool_laws.proofs.Opened.{none_there, same_content}

-- a fault that isn't a read's is of a manifest's fault that isn't
no_read : (manifest : List ℕ) (cause : ManifestFault) → is_read_fault (of_manifest manifest cause) ≡ false → answers.is_read_fault cause ≡ false
no_read manifest (manifests.BadCall name line) e = refl
no_read manifest (manifests.Loop name) e = refl
no_read manifest (manifests.Twice name) e = refl
no_read manifest (manifests.Absent name) e = refl
no_read manifest (manifests.Required name) e = refl
no_read manifest (manifests.Deep name) e = refl
no_read manifest manifests.TooMany e = refl
no_read manifest (manifests.ReadFault name) e = absurd cc

same_named : (m n : Named) → m.name ≡ n.name → m.held ≡ n.held → m ≡ n
same_named m n name held = λ i. record { name = name i; held = held i }

module _ (laws : FileLaws) (own : SourceLaws) (files : FileOf) where
  -- the source of an entry
  -- ======================

  same_compiled : (entry : Entry) (text other bytes : List ℕ) → text ≡ other → CompilesTo entry.opt text entry.source bytes → CompilesTo entry.opt other entry.source bytes
  same_compiled entry text other bytes e h = subst (λ (z : List ℕ). CompilesTo entry.opt z entry.source bytes) e h

  one_source : (entry : Entry) (m n : Named) → HoldsSource (Some files) entry m → HoldsSource (Some files) entry n → m ≡ n
  one_source entry m n h k =
      let text = same_content (files entry.path) h.text k.text h.holds k.holds in
      let compiles = same_compiled entry h.text k.text h.is.bytes text h.is.compiles in
      let bytes = own.one_file entry.opt k.text entry.source h.is.bytes k.is.bytes compiles k.is.compiles in
      let held = laws.one_module k.is.bytes m.held n.held (subst (λ (z : List ℕ). IsFile z m.held) bytes h.is.is.file) k.is.is.file in
      same_named m n (h.name_is ∙ sym k.name_is) held

  -- there is no module of it, though no read failed
  record IsBad (fault : SourcesFault) (entry : Entry) : Type 0 where
    refused : RefusesEntry (Some files) entry fault
    settled : is_read_fault fault ≡ false

  never_source : (fault : SourcesFault) (entry : Entry) (m : Named) → HoldsSource (Some files) entry m → RefusesEntry (Some files) entry fault → is_read_fault fault ≡ false → ⊥
  never_source (sources.Manifest fault) entry m h r s = absurd r
  never_source (sources.Absent name) entry m h r s = none_there (files entry.path) h.text r.1 h.holds
  never_source (sources.Unaccepted name fault) entry m h r s =
      let text = same_content (files entry.path) h.text r.1.text h.holds r.1.holds in
      own.not_both entry.opt r.1.text entry.source h.is.bytes fault (same_compiled entry h.text r.1.text h.is.bytes text h.is.compiles) r.1.is
  never_source (sources.Unread name) entry m h r s = absurd cc

  one_refused : (entry : Entry) (f g : SourcesFault) → RefusesEntry (Some files) entry f → RefusesEntry (Some files) entry g → is_read_fault f ≡ false → is_read_fault g ≡ false → f ≡ g
  one_refused entry (sources.Manifest fault) g h k s t = absurd h
  one_refused entry (sources.Unread name) g h k s t = absurd cc
  one_refused entry f (sources.Manifest fault) h k s t = absurd k
  one_refused entry f (sources.Unread name) h k s t = absurd cc
  one_refused entry (sources.Absent name) (sources.Absent other) h k s t = ap sources.Absent (h.0 ∙ sym k.0)
  one_refused entry (sources.Absent name) (sources.Unaccepted other fault) h k s t = absurd (none_there (files entry.path) k.1.text h.1 k.1.holds)
  one_refused entry (sources.Unaccepted name fault) (sources.Absent other) h k s t = absurd (none_there (files entry.path) h.1.text k.1 h.1.holds)
  one_refused entry (sources.Unaccepted name fault) (sources.Unaccepted other cause) h k s t =
      let text = same_content (files entry.path) h.1.text k.1.text h.1.holds k.1.holds in
      let first = subst (λ (z : List ℕ). compiled.IsFault entry.opt z entry.source fault) text h.1.is in
      ap₂ sources.Unaccepted (h.0 ∙ sym k.0) (own.one_fault entry.opt k.1.text entry.source fault cause first k.1.is)

  -- an entry that is refused so or so
  abbrev Bad : (f g : SourcesFault) → Entry → Type 0
  Bad f g entry = IsBad f entry ⊎ IsBad g entry

  never_bad : (f g : SourcesFault) (entry : Entry) (m : Named) → HoldsSource (Some files) entry m → Bad f g entry → ⊥
  never_bad f g entry m h (inl b) = never_source f entry m h b.refused b.settled
  never_bad f g entry m h (inr b) = never_source g entry m h b.refused b.settled

  one_first : (entries : List Entry) (f g : SourcesFault) → IsFirstRefused (Some files) entries f → IsFirstRefused (Some files) entries g
      → is_read_fault f ≡ false → is_read_fault g ≡ false → f ≡ g
  one_first entries f g h k s t =
      let same = first_bad (HoldsSource (Some files)) (Bad f g) (never_bad f g) h.before k.before h.entry k.entry h.behind k.behind h.modules k.modules
      (sym h.parts ∙ k.parts) h.sources k.sources (inl (record { refused = h.refused; settled = s })) (inr (record { refused = k.refused; settled = t })) in
      one_refused k.entry f g (subst (λ (entry : Entry). RefusesEntry (Some files) entry f) same h.refused) k.refused s t

  never_first : (entries : List Entry) (modules : List Named) (f : SourcesFault) → AllZip (HoldsSource (Some files)) entries modules → IsFirstRefused (Some files) entries f
      → is_read_fault f ≡ false → ⊥
  never_first entries modules f all h s =
      none_bad (HoldsSource (Some files)) (Bad f f) (never_bad f f) entries h.before h.behind h.entry modules h.parts all (inl (record { refused = h.refused; settled = s }))

  -- the manifest
  -- ============

  module _ (of : ManifestLaws) (manifest : List ℕ) where
    one_list : (some others : List Entry) → AreEntries files manifest some → AreEntries files manifest others → some ≡ others
    one_list some others h k = let same : Ok some ≡ Ok others = of.one_answer files manifest (Ok some) (Ok others) h k in cc

    never_fault : (entries : List Entry) (fault : ManifestFault) → AreEntries files manifest entries → IsFault files manifest fault → ⊥
    never_fault entries fault h k = let same : Ok entries ≡ Err fault = of.one_answer files manifest (Ok entries) (Err fault) h k in cc

    one_manifest_fault : (f g : ManifestFault) → IsFault files manifest f → IsFault files manifest g → f ≡ g
    one_manifest_fault f g h k = let same : Err f ≡ Err g = of.one_answer files manifest (Err f) (Err g) h k in cc

    cause_of : (f : SourcesFault) (h : RefusesManifest (Some files) manifest f) → is_read_fault f ≡ false → IsFault files manifest h.cause
    cause_of f h s = h.first (no_read manifest h.cause (subst (λ (z : SourcesFault). is_read_fault z ≡ false) h.fault_is s))

    one_modules : (ms ns : List Named) → HoldsSources (Some files) manifest ms → HoldsSources (Some files) manifest ns → ms ≡ ns
    one_modules ms ns h k =
        let entries = one_list h.entries k.entries h.are k.are in
        one_beside (HoldsSource (Some files)) one_source k.entries ms ns (subst (λ (z : List Entry). AllZip (HoldsSource (Some files)) z ms) entries h.sources) k.sources

    never_refused : (ms : List Named) (f : SourcesFault) → HoldsSources (Some files) manifest ms → RefusesSources (Some files) manifest f → is_read_fault f ≡ false → ⊥
    never_refused ms f h (inl r) s = never_fault h.entries r.cause h.are (cause_of f r s)
    never_refused ms f h (inr r) s =
        let entries = one_list h.entries r.entries h.are r.are in
        never_first r.entries ms f (subst (λ (z : List Entry). AllZip (HoldsSource (Some files)) z ms) entries h.sources) r.first s

    one_refusal : (f g : SourcesFault) → RefusesSources (Some files) manifest f → RefusesSources (Some files) manifest g → is_read_fault f ≡ false → is_read_fault g ≡ false → f ≡ g
    one_refusal f g (inl h) (inl k) s t = h.fault_is ∙ (ap (of_manifest manifest) (one_manifest_fault h.cause k.cause (cause_of f h s) (cause_of g k t)) ∙ sym k.fault_is)
    one_refusal f g (inl h) (inr k) s t = absurd (never_fault k.entries h.cause k.are (cause_of f h s))
    one_refusal f g (inr h) (inl k) s t = absurd (never_fault h.entries k.cause h.are (cause_of g k t))
    one_refusal f g (inr h) (inr k) s t =
        let entries = one_list h.entries k.entries h.are k.are in
        one_first k.entries f g (subst (λ (z : List Entry). IsFirstRefused (Some files) z f) entries h.first) k.first s t

    -- the image
    -- =========

    module _ (version : ℕ) (below : Shelf) where
      never_image : (bytes : List ℕ) (fault : ImageFault) → HoldsFrozen version below (Some files) manifest bytes → RefusesImage version below (Some files) manifest fault → ⊥
      never_image bytes fault h r =
          let same = one_modules r.modules h.modules r.sources h.sources in
          let faulty = subst (λ (ms : List Named). FreezeFault (front_of version (base_of below)) (base_of below) (entries_of ms) fault) same r.fault_is in
          let entries = same_entries below (entries_of h.modules) h.opens.entries h.opens.shelf_is in
          let image = subst (λ (es : List images.Entry). IsImage (base_of below) es bytes) (sym entries) h.opens.is_image in
          never_faulty (front_of version (base_of below)) (base_of below) (entries_of h.modules) bytes fault image h.bytes_are faulty

      -- the image is written, there are no modules of the sources, or no image of these
      abbrev FrozenSo : Ending → Type 0
      FrozenSo ending =
          ((ending ≡ Done) × (bytes : List ℕ) × HoldsFrozen version below (Some files) manifest bytes)
          ⊎ (((fault : SourcesFault) × (ending ≡ Unfrozen (frozen.Sources fault)) × RefusesSources (Some files) manifest fault × (is_read_fault fault ≡ false))
          ⊎ ((fault : ImageFault) × (ending ≡ Unfrozen (frozen.Image fault)) × RefusesImage version below (Some files) manifest fault))

      frozen_so : (written : List ℕ) (new : Option FileOf) (ending : Ending) → IsSettled ending → Freezes version below manifest written (Some files) new ending → FrozenSo ending
      frozen_so written new Done s p = inl (refl, p.0, p.1)
      frozen_so written new (Unaccepted fault) s p = absurd p
      frozen_so written new (Unread fault) s p = absurd p
      frozen_so written new (Unverified fault) s p = absurd p
      frozen_so written new (Unmerged fault) s p = absurd p
      frozen_so written new (Unopened fault) s p = absurd p
      frozen_so written new (Unfrozen (frozen.Sources fault)) s p = inr (inl (fault, refl, p.0, s))
      frozen_so written new (Unfrozen (frozen.Image fault)) s p = inr (inr (fault, refl, p.0))
      frozen_so written new (Unboarded fault) s p = absurd p
      frozen_so written new (Different difference) s p = absurd p
      frozen_so written new (Stopped stop) s p = absurd p
      frozen_so written new ReadFault s p = absurd s
      frozen_so written new WriteFault s p = absurd s
      frozen_so written new Unwritten s p = absurd s
      frozen_so written new NoMemory s p = absurd s
      frozen_so written new Absent s p = absurd p

      both_frozen : (one other : Ending) → FrozenSo one → FrozenSo other → one ≡ other
      both_frozen one other (inl x) (inl y) = x.0 ∙ sym y.0
      both_frozen one other (inl x) (inr (inl y)) = absurd (never_refused x.2.modules y.0 x.2.sources y.2 y.3)
      both_frozen one other (inl x) (inr (inr y)) = absurd (never_image x.1 y.0 x.2 y.2)
      both_frozen one other (inr (inl x)) (inl y) = absurd (never_refused y.2.modules x.0 y.2.sources x.2 x.3)
      both_frozen one other (inr (inl x)) (inr (inl y)) = x.1 ∙ (ap (λ (f : SourcesFault). Unfrozen (frozen.Sources f)) (one_refusal x.0 y.0 x.2 y.2 x.3 y.3) ∙ sym y.1)
      both_frozen one other (inr (inl x)) (inr (inr y)) = absurd (never_refused y.2.modules x.0 y.2.sources x.2 x.3)
      both_frozen one other (inr (inr x)) (inl y) = absurd (never_image y.1 x.0 y.2 x.2)
      both_frozen one other (inr (inr x)) (inr (inl y)) = absurd (never_refused x.2.modules y.0 x.2.sources y.2 y.3)
      both_frozen one other (inr (inr x)) (inr (inr y)) =
          let same = one_modules x.2.modules y.2.modules x.2.sources y.2.sources in
          let faulty = subst (λ (ms : List Named). FreezeFault (front_of version (base_of below)) (base_of below) (entries_of ms) x.0) same x.2.fault_is in
          let fault = of.one_fault (front_of version (base_of below)) (base_of below) (entries_of y.2.modules) x.0 y.0 faulty y.2.fault_is in
          x.1 ∙ (ap (λ (f : ImageFault). Unfrozen (frozen.Image f)) fault ∙ sym y.1)

      pub one_freeze : (written : List ℕ) (a b : Option FileOf) → EndOnce (Freezes version below manifest written (Some files) a) (Freezes version below manifest written (Some files) b)
      one_freeze written a b = λ one other s t p q. both_frozen one other (frozen_so written a one s p) (frozen_so written b other t q)

      pub freeze_done : (written : List ℕ) (new : Option FileOf) (modules : List Named) → HoldsSources (Some files) manifest modules
          → ((fault : ImageFault) → FreezeFault (front_of version (base_of below)) (base_of below) (entries_of modules) fault → ⊥)
          → IsDone (Freezes version below manifest written (Some files) new)
      freeze_done written new modules held none = λ ending s p. by ending (frozen_so written new ending s p) where
        by : (ending : Ending) → FrozenSo ending → ending ≡ Done
        by ending (inl x) = x.0
        by ending (inr (inl x)) = absurd (never_refused modules x.0 held x.2 x.3)
        by ending (inr (inr x)) =
            let same = one_modules x.2.modules modules x.2.sources held in
            absurd (none x.0 (subst (λ (ms : List Named). FreezeFault (front_of version (base_of below)) (base_of below) (entries_of ms) x.0) same x.2.fault_is))

      pub one_image : (a b : List ℕ) → HoldsFrozen version below (Some files) manifest a → HoldsFrozen version below (Some files) manifest b → a ≡ b
      one_image a b h k =
          let same = one_modules h.modules k.modules h.sources k.sources in
          h.bytes_are ∙ (ap (λ (ms : List Named). image_bytes (front_of version (base_of below)) (base_of below) (entries_of ms)) same ∙ sym k.bytes_are)
