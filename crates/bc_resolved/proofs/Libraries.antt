-- The machine's library of one of files.
use Rattle.std.proofs.Common.{◌≡◌, ℕ, Bool, true, false, List, [], ◌∷◌, Option, Some, None, refl, sym, ap, ◌∙◌, subst, if◌then◌else◌}
use Rattle.std.specs.Prelude.{bytes_eq}
use Rattle.bc_verify.specs.mpy_tree.Raw as raw
use Rattle.bc_verify.specs.mpy_tree.File.{IsModule}
use Rattle.bc_verify.specs.mpy_tree.Resolved.{ResolvedModule, Resolves}
use Rattle.bc_verify.specs.Verified.{IsVerified}
use Rattle.bc_progress.specs.bc_machine.Library as libraries
use Rattle.bc_progress.specs.bc_machine.Library.{Name, Module, Entry, Holds, Library, entry_in, module_in, module_of}
use Rattle.bc_progress.specs.Plans.{Plan, IsVerifiedModule, AreVerified}
use Rattle.bc_resolved.specs.Stored.{Stored, Kept, Refused, IsEntryOf, IsLibraryOf, OfModule, AllModules, IsVerifiedFile}

module _ (trees : (m : raw.Module) → IsModule m → (tree : ResolvedModule) × Resolves m tree) where
  entry_there : (stored : Stored) → OfModule IsModule stored → (entry : Entry) × IsEntryOf stored entry
  entry_there (Kept m) h =
      let t = trees m h in
      let machine : Module = module_of t.0 in
      (Holds machine, (machine, record { tree = t.0; resolves = t.1; machine_is = refl }, refl))
  entry_there Refused h = (libraries.Refused, refl)

  pub library_there : (stored : List (Name × Stored)) → AllModules IsModule stored → (library : Library) × IsLibraryOf stored library
  library_there [] h = ([], refl)
  library_there (stored ∷ others) h =
      let first = entry_there stored.1 h.0 in let behind = library_there others h.1 in
      ((stored.0, first.0) ∷ behind.0, (first.0, behind.0, refl, first.1, behind.1))

abbrev IsGood : Module → Type 0
IsGood machine = (plans : ℕ → Plan) × IsVerifiedModule plans machine

held : (x y : Module) → Some (Holds x) ≡ Some (Holds y) → x ≡ y
held x y e = ap (λ (o : Option Module). elim o as (λ z. Module) [ None ↦ x | Some z ↦ z ]) (ap module_in e)

module _ (files : (m : raw.Module) (tree : ResolvedModule) → IsModule m → Resolves m tree → IsVerified m → IsGood (module_of tree)) where
  entry_verified : (stored : Stored) (entry : Entry) → OfModule IsVerifiedFile stored → IsEntryOf stored entry → (machine : Module) → Some entry ≡ Some (Holds machine) → IsGood machine
  entry_verified (Kept m) entry h k machine e =
      let is = k.1 in
      let same : module_of is.tree ≡ machine = sym is.machine_is ∙ held k.0 machine (ap Some (sym k.2) ∙ e) in
      subst IsGood same (files m is.tree h.0 is.resolves h.1)
  entry_verified Refused entry h k machine e = absurd (let wrong : Some libraries.Refused ≡ Some (Holds machine) = ap Some (sym k) ∙ e in cc)

  pub all_verified : (stored : List (Name × Stored)) (library : Library) → AllModules IsVerifiedFile stored → IsLibraryOf stored library → AreVerified library
  all_verified [] library h k name machine e = absurd (let wrong : entry_in [] name ≡ Some (Holds machine) = ap (λ z. entry_in z name) (sym k) ∙ e in cc)
  all_verified (stored ∷ others) library h k name machine e =
      by (bytes_eq stored.0 name) (ap (λ z. entry_in z name) (sym k.2) ∙ e) (entry_verified stored.1 k.0 h.0 k.3 machine) (all_verified others k.1 h.1 k.4 name machine)
    where
      by : (b : Bool) → (if b then Some k.0 else entry_in k.1 name) ≡ Some (Holds machine) → (Some k.0 ≡ Some (Holds machine) → IsGood machine)
          → (entry_in k.1 name ≡ Some (Holds machine) → IsGood machine) → IsGood machine
      by true q first behind = first q
      by false q first behind = behind q
