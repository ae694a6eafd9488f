-- The library of a made source, from the calls of a folder in memory.
use Rattle.std.proofs.Common.{◌≡◌, ◌⊎◌, ℕ, Bool, true, false, List, Option, Err, refl, sym, ap, subst, ◌∙◌, inl, inr, arith}
use Rattle.mpy_io.specs.Count.{Counts}
use Rattle.mpy_io.specs.Files.{FileOf}
use Rattle.command_files.specs.mpy_endings.declared.ending.Ending.{Ending}
use Rattle.command_files.specs.mpy_endings.declared.ending.Ending.TheVariants.{NoMemory}
use Rattle.command_files.specs.mpy_endings.Ending.{is_folder_fault}
use Rattle.run_commands.specs.Ready.{GoLibrary}
use Rattle.run_commands.specs.Run.{IsUnloaded}

-- no call failed where the count of faults is nothing
none_failed : (failed : Bool) → Counts 0 0 failed → failed ≡ false
none_failed false h = refl
none_failed true (inl less) = let none : ⊥ = omega (arith, less) in absurd none
none_failed true (inr great) = absurd cc

-- where it is that of a folder in memory, of which a failed call tells want of memory
module _ (ending result : Ending) (faults : ℕ) (is : ((faults ≡ 0) × (result ≡ ending)) ⊎ (result ≡ NoMemory)) where
  in_memory : (P : Ending → Type 0) → P ending → P NoMemory → P result
  in_memory P h none = elim is [
    | inl same ↦ subst P (sym same.1) h
    | inr starved ↦ subst P (sym starved) none
  ]

  pub refused : (files : Option FileOf) (name : List ℕ) → GoLibrary 0 files name (Err ending) → GoLibrary 0 files name (Err result)
  refused files name h = in_memory (λ (e : Ending). GoLibrary 0 files name (Err e)) h tt

  pub unloaded : IsUnloaded ending → IsUnloaded result
  unloaded h = in_memory IsUnloaded h tt

  pub reads_nothing : (old now : ℕ) → old ≡ 0 → faults ≡ now → Counts old now (is_folder_fault ending) → is_folder_fault result ≡ false
  reads_nothing old now none told counts = elim is [
    | inl same ↦ ap is_folder_fault same.1 ∙ none_failed (is_folder_fault ending)
        (subst (λ (n : ℕ). Counts 0 n (is_folder_fault ending)) (sym told ∙ same.0) (subst (λ (n : ℕ). Counts n now (is_folder_fault ending)) none counts))
    | inr starved ↦ ap is_folder_fault starved
  ]
