-- The endings whose status is that of a run, and those that leave the counts of faults.
use Rattle.std.proofs.Common.{◌≡◌, ◌⊎◌, inl, inr, ℕ, false, refl, subst, ◌∙◌}
use Rattle.mpy_io.specs.Count.{Counts}
use Rattle.image_runs.specs.declared.fault.MainFault.TheVariants as mains
use Rattle.manifest_files.specs.declared.frozen_fault.SourcesFault.TheVariants as sources
use Rattle.manifest_files.specs.declared.frozen_fault.FrozenFault.TheVariants as frozen
use Rattle.mpy_endings.specs.declared.ending.BoardFault.TheVariants as boards
use Rattle.mpy_endings.specs.declared.ending.Ending.{Ending}
use Rattle.mpy_endings.specs.declared.ending.Ending.TheVariants.{Done, Unaccepted, Unread, Unverified, Unmerged, Unopened, Unfrozen, Unboarded, Different, Stopped, ReadFault, WriteFault, Unwritten, NoMemory, Absent}
use Rattle.mpy_endings.specs.declared.ending.Stop.TheVariants.{Past, LibraryFault, LibraryUnaccepted, Raised, Memory, Steps, Unsaved, Unresumed}
use Rattle.mpy_endings.specs.Ending.{IsRunStatus, is_folder_fault, is_out_fault, status_of}

pub not_run : (n : ℕ) → (n ≡ 0 → ⊥) → (n ≡ 1 → ⊥) → (n ≡ 5 → ⊥) → (n ≡ 6 → ⊥) → IsRunStatus n → ⊥
not_run n a b c d (inl e) = a e
not_run n a b c d (inr (inl e)) = b e
not_run n a b c d (inr (inr (inl e))) = c e
not_run n a b c d (inr (inr (inr e))) = d e

pub not_two : IsRunStatus 2 → ⊥
not_two s = not_run 2 (λ e. absurd cc) (λ e. absurd cc) (λ e. absurd cc) (λ e. absurd cc) s

three : IsRunStatus 3 → ⊥
three s = not_run 3 (λ e. absurd cc) (λ e. absurd cc) (λ e. absurd cc) (λ e. absurd cc) s

four : IsRunStatus 4 → ⊥
four s = not_run 4 (λ e. absurd cc) (λ e. absurd cc) (λ e. absurd cc) (λ e. absurd cc) s

seven : IsRunStatus 7 → ⊥
seven s = not_run 7 (λ e. absurd cc) (λ e. absurd cc) (λ e. absurd cc) (λ e. absurd cc) s

pub not_eight : IsRunStatus 8 → ⊥
not_eight s = not_run 8 (λ e. absurd cc) (λ e. absurd cc) (λ e. absurd cc) (λ e. absurd cc) s

pub not_nine : IsRunStatus 9 → ⊥
not_nine s = not_run 9 (λ e. absurd cc) (λ e. absurd cc) (λ e. absurd cc) (λ e. absurd cc) s

ten : IsRunStatus 10 → ⊥
ten s = not_run 10 (λ e. absurd cc) (λ e. absurd cc) (λ e. absurd cc) (λ e. absurd cc) s

eleven : IsRunStatus 11 → ⊥
eleven s = not_run 11 (λ e. absurd cc) (λ e. absurd cc) (λ e. absurd cc) (λ e. absurd cc) s

twelve : IsRunStatus 12 → ⊥
twelve s = not_run 12 (λ e. absurd cc) (λ e. absurd cc) (λ e. absurd cc) (λ e. absurd cc) s

thirteen : IsRunStatus 13 → ⊥
thirteen s = not_run 13 (λ e. absurd cc) (λ e. absurd cc) (λ e. absurd cc) (λ e. absurd cc) s

-- such an ending is that of a run which was made
pub run_ended : (ending : Ending) → IsRunStatus (status_of ending)
    → (ending ≡ Done) ⊎ (ending ≡ Stopped Raised) ⊎ (ending ≡ Stopped Memory) ⊎ ((count : ℕ) × (ending ≡ Stopped (Steps count)))
run_ended Done s = inl refl
run_ended (Unaccepted fault) s = absurd (three s)
run_ended (Unread fault) s = absurd (four s)
run_ended (Unverified fault) s = absurd (four s)
run_ended (Unmerged fault) s = absurd (eleven s)
run_ended (Unopened (mains.Image fault)) s = absurd (four s)
run_ended (Unopened (mains.NoMain name)) s = absurd (ten s)
run_ended (Unfrozen (frozen.Sources (sources.Manifest fault))) s = absurd (eleven s)
run_ended (Unfrozen (frozen.Sources (sources.Absent name))) s = absurd (ten s)
run_ended (Unfrozen (frozen.Sources (sources.Unaccepted name fault))) s = absurd (three s)
run_ended (Unfrozen (frozen.Sources (sources.Unread name))) s = absurd (seven s)
run_ended (Unfrozen (frozen.Image fault)) s = absurd (eleven s)
run_ended (Unboarded (boards.Plan fault)) s = absurd (eleven s)
run_ended (Unboarded (boards.NoModule name)) s = absurd (eleven s)
run_ended (Unboarded (boards.Unwritten task)) s = absurd (not_eight s)
run_ended (Different difference) s = absurd (twelve s)
run_ended (Stopped (Past limit)) s = absurd (eleven s)
run_ended (Stopped (LibraryFault path)) s = absurd (seven s)
run_ended (Stopped (LibraryUnaccepted source)) s = absurd (three s)
run_ended (Stopped Raised) s = inr (inl refl)
run_ended (Stopped Memory) s = inr (inr (inl refl))
run_ended (Stopped (Steps count)) s = inr (inr (inr (count, refl)))
run_ended (Stopped Unsaved) s = absurd (thirteen s)
run_ended (Stopped (Unresumed fault)) s = absurd (four s)
run_ended ReadFault s = absurd (seven s)
run_ended WriteFault s = absurd (not_eight s)
run_ended Unwritten s = absurd (not_eight s)
run_ended NoMemory s = absurd (not_nine s)
run_ended Absent s = absurd (ten s)

-- what holds of no such ending holds of none with that status
pub none_run : (P : Ending → Type 0) → (P Done → ⊥) → (P (Stopped Raised) → ⊥) → (P (Stopped Memory) → ⊥) → ((count : ℕ) → P (Stopped (Steps count)) → ⊥)
    → (ending : Ending) → P ending → IsRunStatus (status_of ending) → ⊥
none_run P done raised memory steps ending h s = elim (run_ended ending s) [
  | inl e ↦ done (subst P e h)
  | inr (inl e) ↦ raised (subst P e h)
  | inr (inr (inl e)) ↦ memory (subst P e h)
  | inr (inr (inr e)) ↦ steps e.0 (subst P e.1 h)
]

pub two_unsaved : (status : ℕ) → status ≡ 2 → status ≡ 13 → ⊥
two_unsaved status e s = absurd cc

-- such an ending is that of a run whose state has no snapshot
pub unsaved_ended : (ending : Ending) → status_of ending ≡ 13 → ending ≡ Stopped Unsaved
unsaved_ended Done s = absurd cc
unsaved_ended (Unaccepted fault) s = absurd cc
unsaved_ended (Unread fault) s = absurd cc
unsaved_ended (Unverified fault) s = absurd cc
unsaved_ended (Unmerged fault) s = absurd cc
unsaved_ended (Unopened (mains.Image fault)) s = absurd cc
unsaved_ended (Unopened (mains.NoMain name)) s = absurd cc
unsaved_ended (Unfrozen (frozen.Sources (sources.Manifest fault))) s = absurd cc
unsaved_ended (Unfrozen (frozen.Sources (sources.Absent name))) s = absurd cc
unsaved_ended (Unfrozen (frozen.Sources (sources.Unaccepted name fault))) s = absurd cc
unsaved_ended (Unfrozen (frozen.Sources (sources.Unread name))) s = absurd cc
unsaved_ended (Unfrozen (frozen.Image fault)) s = absurd cc
unsaved_ended (Unboarded (boards.Plan fault)) s = absurd cc
unsaved_ended (Unboarded (boards.NoModule name)) s = absurd cc
unsaved_ended (Unboarded (boards.Unwritten task)) s = absurd cc
unsaved_ended (Different difference) s = absurd cc
unsaved_ended (Stopped (Past limit)) s = absurd cc
unsaved_ended (Stopped (LibraryFault path)) s = absurd cc
unsaved_ended (Stopped (LibraryUnaccepted source)) s = absurd cc
unsaved_ended (Stopped Raised) s = absurd cc
unsaved_ended (Stopped Memory) s = absurd cc
unsaved_ended (Stopped (Steps count)) s = absurd cc
unsaved_ended (Stopped Unsaved) s = refl
unsaved_ended (Stopped (Unresumed fault)) s = absurd cc
unsaved_ended ReadFault s = absurd cc
unsaved_ended WriteFault s = absurd cc
unsaved_ended Unwritten s = absurd cc
unsaved_ended NoMemory s = absurd cc
unsaved_ended Absent s = absurd cc

pub none_unsaved : (P : Ending → Type 0) → (P (Stopped Unsaved) → ⊥) → (ending : Ending) → P ending → status_of ending ≡ 13 → ⊥
none_unsaved P unsaved ending h s = unsaved (subst P (unsaved_ended ending s) h)

-- counts of faults
-- ================

quiet_folder : (ending : Ending) → (status_of ending ≡ 7 → ⊥) → (status_of ending ≡ 8 → ⊥) → is_folder_fault ending ≡ false
quiet_folder Done a b = refl
quiet_folder (Unaccepted fault) a b = refl
quiet_folder (Unread fault) a b = refl
quiet_folder (Unverified fault) a b = refl
quiet_folder (Unmerged fault) a b = refl
quiet_folder (Unopened fault) a b = refl
quiet_folder (Unfrozen (frozen.Sources (sources.Manifest fault))) a b = refl
quiet_folder (Unfrozen (frozen.Sources (sources.Absent name))) a b = refl
quiet_folder (Unfrozen (frozen.Sources (sources.Unaccepted name fault))) a b = refl
quiet_folder (Unfrozen (frozen.Sources (sources.Unread name))) a b = absurd (a refl)
quiet_folder (Unfrozen (frozen.Image fault)) a b = refl
quiet_folder (Unboarded (boards.Plan fault)) a b = refl
quiet_folder (Unboarded (boards.NoModule name)) a b = refl
quiet_folder (Unboarded (boards.Unwritten task)) a b = absurd (b refl)
quiet_folder (Different difference) a b = refl
quiet_folder (Stopped (Past limit)) a b = refl
quiet_folder (Stopped (LibraryFault path)) a b = absurd (a refl)
quiet_folder (Stopped (LibraryUnaccepted source)) a b = refl
quiet_folder (Stopped Raised) a b = refl
quiet_folder (Stopped Memory) a b = refl
quiet_folder (Stopped (Steps count)) a b = refl
quiet_folder (Stopped Unsaved) a b = refl
quiet_folder (Stopped (Unresumed fault)) a b = refl
quiet_folder ReadFault a b = absurd (a refl)
quiet_folder WriteFault a b = refl
quiet_folder Unwritten a b = absurd (b refl)
quiet_folder NoMemory a b = refl
quiet_folder Absent a b = refl

quiet_out : (ending : Ending) → (status_of ending ≡ 8 → ⊥) → is_out_fault ending ≡ false
quiet_out Done b = refl
quiet_out (Unaccepted fault) b = refl
quiet_out (Unread fault) b = refl
quiet_out (Unverified fault) b = refl
quiet_out (Unmerged fault) b = refl
quiet_out (Unopened fault) b = refl
quiet_out (Unfrozen fault) b = refl
quiet_out (Unboarded fault) b = refl
quiet_out (Different difference) b = refl
quiet_out (Stopped stop) b = refl
quiet_out ReadFault b = refl
quiet_out WriteFault b = absurd (b refl)
quiet_out Unwritten b = refl
quiet_out NoMemory b = refl
quiet_out Absent b = refl

-- with a status other than 7 and 8 neither count rose
module _ (ending : Ending) (status : ℕ) (is : status ≡ status_of ending) (unread : status ≡ 7 → ⊥) (unwritten : status ≡ 8 → ⊥) where
  pub folder_stays : (old new : ℕ) → Counts old new (is_folder_fault ending) → new ≡ old
  folder_stays old new h = subst (Counts old new) (quiet_folder ending (λ e. unread (is ∙ e)) (λ e. unwritten (is ∙ e))) h

  pub out_stays : (old new : ℕ) → Counts old new (is_out_fault ending) → new ≡ old
  out_stays old new h = subst (Counts old new) (quiet_out ending (λ e. unwritten (is ∙ e))) h
