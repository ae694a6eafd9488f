-- The command that writes an image once more.
use Rattle.std.proofs.Common.{◌≡◌, ◌⊎◌, inl, inr, ℕ, List, [], Option, Some, refl, sym, ap, subst, ◌∙◌}
use Rattle.std.specs.Prelude.{Ok}
use Rattle.mpy_io.specs.Files.{FileOf}
use Rattle.bc_library.specs.Shelf.{no_entries}
use Rattle.image_grammar.specs.declared.entry.Entry.{Entry}
use Rattle.mpy_reader.specs.declared.fault.FileFault.{FileFault}
use Rattle.image_grammar.specs.declared.fault.ImageFault.{ImageFault}
use Rattle.image_grammar.specs.declared.fault.ImageFault.TheVariants.{TooBig}
use Rattle.image_grammar.specs.Opening.{image, nothing_below}
use Rattle.image_freeze.specs.Frozen.{IsTooBig, image_bytes, second_front}
use Rattle.image_freeze.specs.Migrated.{IsImageOf}
use Rattle.image_runs.specs.declared.fault.MainFault.TheVariants as mains
use Rattle.manifest_files.specs.declared.frozen_fault.FrozenFault.TheVariants as frozen
use Rattle.mpy_endings.specs.declared.ending.Ending.{Ending}
use Rattle.mpy_endings.specs.declared.ending.Ending.TheVariants.{Done, Unaccepted, Unread, Unverified, Unmerged, Unopened, Unfrozen, Unboarded, Different, Stopped, ReadFault, WriteFault, Unwritten, NoMemory, Absent}
use Rattle.mpy_endings.specs.Ending.{IsSettled}
use Rattle.meant_commands.specs.file_commands.Migrate.{HoldsMigrated, HoldsTooBig, Migrates}
use Rattle.tool_laws.specs.Laws.{ImageLaws}
use Rattle.tool_laws.specs.Once.{EndOnce, IsDone}
use Rattle.tool_laws.proofs.Frozen.{never_big}
use Rattle.tool_laws.proofs.ImageFiles.{NoImage, image_short, never_long, one_no_image}
use Rattle.tool_laws.proofs.Opened.{none_there, same_content}

module _ (laws : ImageLaws) (files : FileOf) (name : List ℕ) where
  read_of : (entries : List Entry) (bytes : List ℕ) → IsImageOf entries bytes → image nothing_below bytes (Ok entries)
  read_of entries bytes h = laws.read [] no_entries bytes entries refl h.is_image h.verified

  one_image : (bytes : List ℕ) (a b : List Entry) → IsImageOf a bytes → IsImageOf b bytes → a ≡ b
  one_image bytes a b h k = laws.one_image nothing_below bytes a b (read_of a bytes h) (read_of b bytes k)

  never_none : (entries : List Entry) (bytes : List ℕ) (ending : Ending) → files name ≡ Some bytes → IsImageOf entries bytes → NoImage no_entries files name ending → ⊥
  never_none entries bytes ending at h (inl x) =
      let same = same_content (files name) bytes x.2.bytes at x.2.holds in
      laws.not_both nothing_below x.2.bytes entries x.0 (read_of entries x.2.bytes (subst (λ (z : List ℕ). IsImageOf entries z) same h)) x.2.first
  never_none entries bytes ending at h (inr (inl x)) =
      never_long (files name) bytes x.bytes at x.at (image_short nothing_below entries bytes h.is_image) x.long
  never_none entries bytes ending at h (inr (inr x)) = none_there (files name) bytes x.at at

  never_too_big : (out : List ℕ) → HoldsMigrated (Some files) name out → HoldsTooBig (Some files) name → ⊥
  never_too_big out h k =
      let bytes = same_content (files name) k.bytes h.bytes k.holds h.holds in
      let same = one_image h.bytes k.entries h.migrates.entries (subst (λ (z : List ℕ). IsImageOf k.entries z) bytes k.is) h.migrates.before in
      let big = subst (λ (es : List Entry). IsTooBig (second_front nothing_below) nothing_below es) same k.big in
      never_big (second_front nothing_below) nothing_below h.migrates.entries out h.migrates.after.is_image h.migrates.written big

  -- it is written, or is too long to be, or the file is no such image
  abbrev MigratedSo : Ending → Type 0
  MigratedSo ending =
      ((ending ≡ Done) × (out : List ℕ) × HoldsMigrated (Some files) name out)
      ⊎ (((ending ≡ Unfrozen (frozen.Image TooBig)) × HoldsTooBig (Some files) name) ⊎ NoImage no_entries files name ending)

  migrated_so : (written : List ℕ) (new : Option FileOf) (ending : Ending) → IsSettled ending → Migrates name written (Some files) new ending → MigratedSo ending
  migrated_so written new Done s p = inl (refl, p.0, p.1)
  migrated_so written new (Unaccepted fault) s p = absurd p
  migrated_so written new (Unread fault) s p =
      inr (inr (inr (inl (record { is = ap (λ (f : FileFault). Unread f) p.0.0; bytes = p.0.1.0; at = p.0.1.1; long = p.0.1.2 }))))
  migrated_so written new (Unverified fault) s p = absurd p
  migrated_so written new (Unmerged fault) s p = absurd p
  migrated_so written new (Unopened (mains.Image fault)) s p = inr (inr (inl (fault, refl, p.0)))
  migrated_so written new (Unopened (mains.NoMain main)) s p = absurd p
  migrated_so written new (Unfrozen (frozen.Sources fault)) s p = absurd p
  migrated_so written new (Unfrozen (frozen.Image fault)) s p = inr (inl (ap (λ (f : ImageFault). Unfrozen (frozen.Image f)) p.0, p.1))
  migrated_so written new (Unboarded fault) s p = absurd p
  migrated_so written new (Different difference) s p = absurd p
  migrated_so written new (Stopped stop) s p = absurd p
  migrated_so written new ReadFault s p = absurd s
  migrated_so written new WriteFault s p = absurd s
  migrated_so written new Unwritten s p = absurd s
  migrated_so written new NoMemory s p = absurd s
  migrated_so written new Absent s p = inr (inr (inr (inr (record { is = refl; at = p.0 }))))

  both_migrated : (one other : Ending) → MigratedSo one → MigratedSo other → one ≡ other
  both_migrated one other (inl x) (inl y) = x.0 ∙ sym y.0
  both_migrated one other (inl x) (inr (inl y)) = absurd (never_too_big x.1 x.2 y.1)
  both_migrated one other (inl x) (inr (inr y)) = absurd (never_none x.2.migrates.entries x.2.bytes other x.2.holds x.2.migrates.before y)
  both_migrated one other (inr (inl x)) (inl y) = absurd (never_too_big y.1 y.2 x.1)
  both_migrated one other (inr (inl x)) (inr (inl y)) = x.0 ∙ sym y.0
  both_migrated one other (inr (inl x)) (inr (inr y)) = absurd (never_none x.1.entries x.1.bytes other x.1.holds x.1.is y)
  both_migrated one other (inr (inr x)) (inl y) = absurd (never_none y.2.migrates.entries y.2.bytes one y.2.holds y.2.migrates.before x)
  both_migrated one other (inr (inr x)) (inr (inl y)) = absurd (never_none y.1.entries y.1.bytes one y.1.holds y.1.is x)
  both_migrated one other (inr (inr x)) (inr (inr y)) = one_no_image laws [] no_entries refl files name one other x y

  pub one_migrate : (written : List ℕ) (a b : Option FileOf) → EndOnce (Migrates name written (Some files) a) (Migrates name written (Some files) b)
  one_migrate written a b = λ one other s t p q. both_migrated one other (migrated_so written a one s p) (migrated_so written b other t q)

  pub one_migrated : (one other : List ℕ) → HoldsMigrated (Some files) name one → HoldsMigrated (Some files) name other → one ≡ other
  one_migrated one other h k =
      let bytes = same_content (files name) h.bytes k.bytes h.holds k.holds in
      let same = one_image k.bytes h.migrates.entries k.migrates.entries (subst (λ (z : List ℕ). IsImageOf h.migrates.entries z) bytes h.migrates.before) k.migrates.before in
      h.migrates.written ∙ (ap (λ (es : List Entry). image_bytes (second_front nothing_below) nothing_below es) same ∙ sym k.migrates.written)

  pub migrate_done : (written bytes : List ℕ) (entries : List Entry) (new : Option FileOf) → files name ≡ Some bytes → IsImageOf entries bytes
      → (IsTooBig (second_front nothing_below) nothing_below entries → ⊥) → IsDone (Migrates name written (Some files) new)
  migrate_done written bytes entries new at is small = λ ending s p. by ending (migrated_so written new ending s p) where
    by : (ending : Ending) → MigratedSo ending → ending ≡ Done
    by ending (inl x) = x.0
    by ending (inr (inl x)) =
        let same_bytes = same_content (files name) x.1.bytes bytes x.1.holds at in
        let same = one_image bytes x.1.entries entries (subst (λ (z : List ℕ). IsImageOf x.1.entries z) same_bytes x.1.is) is in
        absurd (small (subst (λ (es : List Entry). IsTooBig (second_front nothing_below) nothing_below es) same x.1.big))
    by ending (inr (inr x)) = absurd (never_none entries bytes ending at is x)
