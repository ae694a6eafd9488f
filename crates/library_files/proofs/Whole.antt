-- The whole of loading, from its beginning.
use Rattle.std.proofs.Common.{◌≡◌, ℕ, zero, suc, List, [], ◌∷◌, ◌++◌, reverse, Option, Some, None, Result, Ok, Err, slice_get, option_and_then, refl, sym, ap, subst, ◌∙◌, arith}
use Rattle.std.specs.Prelude.{IfSome}
use Rattle.std.proofs.lemmas.List.{reverse-reverse}
use Rattle.mpy_base.specs.declared.refused.Refused.{Refused}
use Rattle.mpy_base.specs.declared.refused.Refused.TheVariants as refused
use Rattle.mpy_io.specs.Files.{FileOf}
use Rattle.mpy_reader.specs.mpy_tree.File.{IsModule}
use Rattle.mpy_reader.specs.mpy_tree.Raw.{Module}
use Rattle.bc_library.specs.Shelf.{Named, Shelf, no_entries, with_module, module_at}
use Rattle.library_files.specs.declared.entry.Entry.TheVariants as entries
use Rattle.library_files.specs.declared.limit.Limit.{Limit}
use Rattle.library_files.specs.declared.limit.LoadFault.{LoadFault}
use Rattle.library_files.specs.declared.limit.LoadFault.TheVariants as faults
use Rattle.library_files.specs.declared.loading.Begun.{Begun}
use Rattle.library_files.specs.Comes.{OfNames}
use Rattle.library_files.specs.Imports.{Imports}
use Rattle.library_files.specs.Ends.{BeginsWith, EndsIn}
use Rattle.library_files.specs.Loads.{Loading, Loaded, Past, Unaccepted, Loads, LoadsBy, LoadsWith, limit_of, main_name}
use Rattle.library_files.specs.Steps.{AddsImports, AddsModules, AreModules, AreShort, BeginsBy, IsBegun, LoadsLeft, Takes}
use Rattle.library_files.proofs.Taken.{all_both}
use Rattle.library_files.proofs.Asks.{reverse_short}

-- the beginning
-- =============

module _ (main : Module) (size : ℕ) (first begun : Begun) (name : List ℕ) (empty : first.library ≡ no_entries) (none : first.size ≡ 0) (named : name ≡ main_name) where
  from_empty : (o : Option Limit) → limit_of first.library first.size name (entries.Held main size) ≡ o → limit_of no_entries 0 main_name (entries.Held main size) ≡ o
  from_empty o is =
      subst (λ (z : List ℕ). limit_of no_entries 0 z (entries.Held main size) ≡ o) named
      (subst (λ (n : ℕ). limit_of no_entries n name (entries.Held main size) ≡ o) none
      (subst (λ (s : Shelf). limit_of s first.size name (entries.Held main size) ≡ o) empty is))

  pub is_begun : (found left : List (List ℕ)) → IsModule main → Takes first begun name (entries.Held main size) (Ok tt) → AddsImports (entries.Held main size) [] found
      → AreShort found → left ≡ reverse found → begun.absent.texts ≡ [] → IsBegun main size begun left
  is_begun found left held takes adds short is forgotten = record {
    within = from_empty None takes.0;
    library_is = subst (λ (z : List ℕ). begun.library ≡ with_module no_entries z main) named
        (subst (λ (s : Shelf). begun.library ≡ with_module s name main) empty takes.1);
    size_is = omega (arith, takes.2, none);
    absent_is = forgotten;
    imports = subst (Imports main) (sym (ap reverse is ∙ (reverse-reverse found ∙ adds.2))) adds.1;
    held = held;
    short = subst AreShort (sym is) (reverse_short found short);
  }

  pub not_begun : (e : Refused LoadFault) → Takes first begun name (entries.Held main size) (Err e) → BeginsBy main size (Err e)
  not_begun (refused.Fault (faults.Past limit)) takes = from_empty (Some limit) takes
  not_begun (refused.Fault (faults.Failed failed)) takes = absurd takes
  not_begun (refused.Fault (faults.Unaccepted source)) takes = absurd takes
  not_begun refused.NoMemory takes = tt

-- what is left
-- ============

pub all_left : (Of : FileOf → OfNames) (told : Option FileOf) (old new : Begun) (left : List (List ℕ)) (library : Shelf) → library ≡ new.library → IfSome told (λ files. LoadsLeft (Of files) old new left (Ok tt))
    → IfSome told (λ files. EndsIn (Loads (Of files) old.library old.size [] left []) (Ok library))
all_left Of None old new left library is loads = tt
all_left Of (Some files) old new left library is loads = loads (Loaded library) (ap Loaded is)

ended_by : (Comes : OfNames) (old new : Begun) (left : List (List ℕ)) (e : Refused LoadFault) → LoadsLeft Comes old new left (Err e)
    → EndsIn (Loads Comes old.library old.size [] left []) (Err e)
ended_by Comes old new left (refused.Fault (faults.Past limit)) loads = loads
ended_by Comes old new left (refused.Fault (faults.Failed failed)) loads = tt
ended_by Comes old new left (refused.Fault (faults.Unaccepted source)) loads = loads
ended_by Comes old new left refused.NoMemory loads = tt

pub ended_left : (Of : FileOf → OfNames) (told : Option FileOf) (old new : Begun) (left : List (List ℕ)) (e : Refused LoadFault) → IfSome told (λ files. LoadsLeft (Of files) old new left (Err e))
    → IfSome told (λ files. EndsIn (Loads (Of files) old.library old.size [] left []) (Err e))
ended_left Of None old new left e loads = tt
ended_left Of (Some files) old new left e loads = ended_by (Of files) old new left e loads

-- from the main module
-- ====================

module _ (main : Module) (size : ℕ) where
  past_main : (Comes : OfNames) (e : Refused LoadFault) → BeginsBy main size (Err e) → EndsIn (LoadsWith Comes main size) (Err e)
  past_main Comes (refused.Fault (faults.Past limit)) begins = subst (λ (o : Option Limit). LoadsBy o Comes main size (Past limit)) (sym begins) refl
  past_main Comes (refused.Fault (faults.Failed failed)) begins = tt
  past_main Comes (refused.Fault (faults.Unaccepted source)) begins = absurd begins
  past_main Comes refused.NoMemory begins = tt

  pub main_past : (Of : FileOf → OfNames) (told : Option FileOf) (e : Refused LoadFault) → BeginsBy main size (Err e) → IfSome told (λ files. EndsIn (LoadsWith (Of files) main size) (Err e))
  main_past Of None e begins = tt
  main_past Of (Some files) e begins = past_main (Of files) e begins

  module _ (begun : Begun) (left : List (List ℕ)) (is : IsBegun main size begun left) where
    from_main : (Comes : OfNames) (end : Loading) → Loads Comes begun.library begun.size [] (reverse left) [] end → LoadsWith Comes main size end
    from_main Comes end h =
        subst (λ (o : Option Limit). LoadsBy o Comes main size end) (sym is.within) (
          reverse left,
          is.imports,
          subst (λ (s : Shelf). Loads Comes s size [] (reverse left) [] end) is.library_is
              (subst (λ (n : ℕ). Loads Comes begun.library n [] (reverse left) [] end) is.size_is h),
        )

    main_by : (Comes : OfNames) (result : Result Shelf (Refused LoadFault)) → EndsIn (Loads Comes begun.library begun.size [] (reverse left) []) result
        → EndsIn (LoadsWith Comes main size) result
    main_by Comes (Ok library) loads = from_main Comes (Loaded library) loads
    main_by Comes (Err (refused.Fault (faults.Past limit))) loads = from_main Comes (Past limit) loads
    main_by Comes (Err (refused.Fault (faults.Failed failed))) loads = tt
    main_by Comes (Err (refused.Fault (faults.Unaccepted source))) loads = from_main Comes (Unaccepted source) loads
    main_by Comes (Err refused.NoMemory) loads = tt

    pub main_loaded : (Of : FileOf → OfNames) (told : Option FileOf) (result : Result Shelf (Refused LoadFault)) → IfSome told (λ files. EndsIn (Loads (Of files) begun.library begun.size [] (reverse left) []) result)
        → IfSome told (λ files. EndsIn (LoadsWith (Of files) main size) result)
    main_loaded Of None result loads = tt
    main_loaded Of (Some files) result loads = main_by (Of files) result loads

    pub main_held : AreModules begun.library.modules
    main_held = subst (λ (s : Shelf). AreModules s.modules) (sym is.library_is) (is.held, tt)

    pub begins_with : (library : Shelf) → AddsModules begun.library library → BeginsWith main library
    begins_with library adds =
        let modules : library.modules ≡ record { name = main_name; held = main } ∷ adds.more =
        adds.modules_are ∙ ap (λ (s : Shelf). s.modules ++ adds.more) is.library_is in
        ap (λ (ms : List Named). slice_get ms 0) modules

-- the modules of a library
-- ========================

held_at : (modules : List Named) (i : ℕ) (o : Option Named) (m : Module) → AreModules modules → slice_get modules i ≡ o → option_and_then (λ (n : Named). Some n.held) o ≡ Some m → IsModule m
held_at [] i o m all at e = absurd (let none : None ≡ o = at in let wrong : None ≡ Some m = ap (option_and_then (λ (n : Named). Some n.held)) none ∙ e in cc)
held_at (n ∷ modules) zero o m all at e =
    let one : Some n.held ≡ Some m = ap (option_and_then (λ (k : Named). Some k.held)) at ∙ e in
    let same : n.held ≡ m = cc in
    subst IsModule same all.0
held_at (n ∷ modules) (suc i) o m all at e = held_at modules i o m all.1 at e

pub are_modules : (old library : Shelf) → AreModules old.modules → AddsModules old library → (i : ℕ) (m : Module) → module_at library i ≡ Some m → IsModule m
are_modules old library all adds i m e =
    held_at library.modules i (slice_get library.modules i) m
    (subst AreModules (sym adds.modules_are) (all_both (λ (n : Named). IsModule n.held) old.modules adds.more all adds.hold)) refl e
