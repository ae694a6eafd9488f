-- What taking an entry comes to.
use Rattle.std.proofs.Common.{◌≡◌, ◌⊎◌, ℕ, ◌+◌, ◌<◌, ◌≤◌, Bool, true, false, List, [], ◌∷◌, ◌++◌, length, if◌then◌else◌, Option, Some, None, Result, Ok, Err, inl, inr, refl, sym, ap, subst, ◌∙◌, arith, length-append, append_assoc}
use Rattle.std.specs.Prelude.{OnOk}
use Rattle.std.specs.List.{AllByRecursion}
use Rattle.std.proofs.lemmas.Bool.{ltb-true}
use Rattle.std.proofs.lemmas.List.{append-nil}
use Rattle.mpy_base.specs.declared.limits.TheConstants.{MAX_MODULES}
use Rattle.mpy_base.specs.declared.refused.Refused.{Refused}
use Rattle.mpy_base.specs.declared.refused.Refused.TheVariants as refused
use Rattle.mpy_reader.specs.mpy_tree.File.{IsModule}
use Rattle.mpy_reader.specs.mpy_tree.Raw.{Module}
use Rattle.bc_library.specs.Shelf.{Named, Shelf, with_module, with_refused}
use Rattle.library_files.specs.declared.entry.Entry.{Entry}
use Rattle.library_files.specs.declared.entry.Entry.TheVariants as entries
use Rattle.library_files.specs.declared.limit.Limit.{Limit}
use Rattle.library_files.specs.declared.limit.Limit.TheVariants.{TooMany}
use Rattle.library_files.specs.declared.limit.LoadFault.{LoadFault}
use Rattle.library_files.specs.declared.limit.LoadFault.TheVariants.{Past, Failed, Unaccepted}
use Rattle.library_files.specs.declared.loading.Begun.{Begun}
use Rattle.library_files.specs.Imports.{Imports}
use Rattle.library_files.specs.Comes.{OfFiles}
use Rattle.library_files.specs.Ends.{is_failed, FailsAmong}
use Rattle.library_files.specs.Loads.{has_place, limit_within, limit_of}
use Rattle.library_files.specs.Steps.{AddsImports, AddsModules, AreShort, Remembers, Step, Takes, places_left}
use Rattle.library_files.proofs.Short.{short_both, imports_short}

-- what holds of a step that took an entry
-- =======================================

has_place_of : (shelf : Shelf) (within : Option Limit) → (if has_place shelf then within else Some TooMany) ≡ None → has_place shelf ≡ true
has_place_of shelf within none = by (has_place shelf) refl where
  by : (b : Bool) → has_place shelf ≡ b → has_place shelf ≡ true
  by true e = e
  by false e =
      let wrong : Some TooMany ≡ None = sym (ap (λ (b : Bool). if b then within else Some TooMany) e) ∙ none in
      cc

fewer_places : (shelf : Shelf) (name : List ℕ) (m : Module) → has_place shelf ≡ true → places_left (with_module shelf name m) < places_left shelf
fewer_places shelf name m e =
    let some : length shelf.modules + length shelf.refused < MAX_MODULES = ltb-true (length shelf.modules + length shelf.refused) MAX_MODULES e in
    let n : Named = record { name = name; held = m } in
    omega (arith, some, length-append shelf.modules (n ∷ []))

pub module_step : (old new : Begun) (name : List ℕ) (m : Module) (more : ℕ) (before after : List (List ℕ)) → IsModule m
    → (limit_of old.library old.size name (entries.Held m more) ≡ None) × (new.library ≡ with_module old.library name m) × (new.size ≡ old.size + more)
    → (imports : List (List ℕ)) × Imports m imports × (after ≡ before ++ imports) → Step old.library new.library before after
module_step old new name m more before after is takes adds =
    let place = has_place_of old.library (limit_within (length (with_module old.library name m).pool.texts) (old.size + more)) takes.0 in
    let fewer = fewer_places old.library name m place in
    let falls : places_left new.library < places_left old.library = subst (λ (s : Shelf). places_left s < places_left old.library) (sym takes.1) fewer in
    record {
      adds = record {
        more = record { name = name; held = m } ∷ [];
        modules_are = ap (λ (s : Shelf). s.modules) takes.1;
        hold = (is, tt);
      };
      fewer = omega (arith, falls);
      grows = inr falls;
      short = λ short. subst AreShort (sym adds.2) (short_both before adds.0 short (imports_short m adds.0 is adds.1));
    }

pub module_steps : (old new : Begun) (name : List ℕ) (m : Module) (more : ℕ) (before after : List (List ℕ)) (result : Result (Unit {0}) (Refused LoadFault)) → IsModule m
    → Takes old new name (entries.Held m more) result → AddsImports (entries.Held m more) before after → OnOk result (Step old.library new.library before after)
module_steps old new name m more before after (Ok done) is takes adds = module_step old new name m more before after is takes adds
module_steps old new name m more before after (Err e) is takes adds = tt

-- the same library but for refused names
pub same_step : (old new : Shelf) (before after : List (List ℕ)) → new.modules ≡ old.modules → length old.refused ≤ length new.refused → after ≡ before → Step old new before after
same_step old new before after modules more same =
    record {
      adds = record { more = []; modules_are = modules ∙ sym (append-nil old.modules); hold = tt };
      fewer = omega (arith, ap length modules, more);
      grows = inl same;
      short = λ short. subst AreShort (sym same) short;
    }

pub refused_step : (old new : Begun) (name : List ℕ) (found : List (List ℕ)) → new.library ≡ with_refused old.library name → Step old.library new.library found found
refused_step old new name found is =
    same_step old.library new.library found found (ap (λ (s : Shelf). s.modules) is)
    (omega (arith, ap (λ (s : Shelf). length s.refused) is, length-append old.library.refused (name ∷ []))) refl

pub refused_steps : (old new : Begun) (name : List ℕ) (found : List (List ℕ)) (result : Result (Unit {0}) (Refused LoadFault)) → Takes old new name entries.Refused result
    → OnOk result (Step old.library new.library found found)
refused_steps old new name found (Ok done) takes = refused_step old new name found takes.1
refused_steps old new name found (Err e) takes = tt

-- an entry by its kind
-- ====================

pub absent_takes : (begun : Begun) (name : List ℕ) (entry : Entry) → entry ≡ entries.Absent → Takes begun begun name entry (Ok tt)
absent_takes begun name entry is = subst (λ (e : Entry). Takes begun begun name e (Ok tt)) (sym is) (refl, refl, refl)

pub absent_adds : (entry : Entry) (found : List (List ℕ)) → entry ≡ entries.Absent → AddsImports entry found found
absent_adds entry found is = subst (λ (e : Entry). AddsImports e found found) (sym is) ([], refl, sym (append-nil found))

pub entry_takes : (old new : Begun) (name : List ℕ) (entry same : Entry) (result : Result (Unit {0}) (Refused LoadFault)) → entry ≡ same → Takes old new name same result
    → Takes old new name entry result
entry_takes old new name entry same result is takes = subst (λ (e : Entry). Takes old new name e result) (sym is) takes

pub entry_remembers : (old new : Begun) (name : List ℕ) (entry same : Entry) (result : Result (Unit {0}) (Refused LoadFault)) → entry ≡ same
    → OnOk result (Remembers old.absent new.absent name same) → OnOk result (Remembers old.absent new.absent name entry)
entry_remembers old new name entry same result is remembers = subst (λ (e : Entry). OnOk result (Remembers old.absent new.absent name e)) (sym is) remembers

pub same_remembers : {P : Type 0} (result : Result (Unit {0}) (Refused LoadFault)) → P → OnOk result P
same_remembers (Ok done) same = same
same_remembers (Err e) same = tt

pub none_adds : (entry : Entry) (found : List (List ℕ)) (result : Result (Unit {0}) (Refused LoadFault)) → entry ≡ entries.Absent → OnOk result (AddsImports entry found found)
none_adds entry found (Ok done) is = absent_adds entry found is
none_adds entry found (Err e) is = tt

pub refused_adds : (entry : Entry) (found : List (List ℕ)) (result : Result (Unit {0}) (Refused LoadFault)) → entry ≡ entries.Refused → OnOk result (AddsImports entry found found)
refused_adds entry found (Ok done) is = subst (λ (e : Entry). AddsImports e found found) (sym is) ([], refl, sym (append-nil found))
refused_adds entry found (Err e) is = tt

pub held_adds : (entry : Entry) (m : Module) (more : ℕ) (before after : List (List ℕ)) (result : Result (Unit {0}) (Refused LoadFault)) → entry ≡ entries.Held m more
    → OnOk result (AddsImports (entries.Held m more) before after) → OnOk result (AddsImports entry before after)
held_adds entry m more before after result is adds = subst (λ (e : Entry). OnOk result (AddsImports e before after)) (sym is) adds

pub module_adds : (m n : Module) (more : ℕ) (before after : List (List ℕ)) (result : Result (Unit {0}) (Refused LoadFault)) → n ≡ m
    → (imports : List (List ℕ)) × Imports n imports × (after ≡ before ++ imports) → OnOk result (AddsImports (entries.Held m more) before after)
module_adds m n more before after (Ok done) same adds = subst (λ (z : Module). AddsImports (entries.Held z more) before after) same adds
module_adds m n more before after (Err e) same adds = tt

-- steps one after another
-- =======================

pub all_both : {A : Type 0} (P : A → Type 0) (some others : List A) → AllByRecursion P some → AllByRecursion P others → AllByRecursion P (some ++ others)
all_both P [] others h k = k
all_both P (x ∷ some) others h k = (h.0, all_both P some others h.1 k)

pub adds_none : (shelf : Shelf) → AddsModules shelf shelf
adds_none shelf = record { more = []; modules_are = sym (append-nil shelf.modules); hold = tt }

pub adds_both : (a b c : Shelf) → AddsModules a b → AddsModules b c → AddsModules a c
adds_both a b c first second = record {
  more = first.more ++ second.more;
  modules_are =
      second.modules_are ∙ (ap (λ (z : List Named). z ++ second.more) first.modules_are ∙ append_assoc a.modules first.more second.more);
  hold = all_both (λ (n : Named). IsModule n.held) first.more second.more first.hold second.hold;
}

grow_both : (a b c : Shelf) (x y z : List (List ℕ)) → places_left b ≤ places_left a → places_left c ≤ places_left b
    → (y ≡ x) ⊎ (places_left b < places_left a) → (z ≡ y) ⊎ (places_left c < places_left b) → (z ≡ x) ⊎ (places_left c < places_left a)
grow_both a b c x y z ab bc (inl e) (inl f) = inl (f ∙ e)
grow_both a b c x y z ab bc (inl e) (inr f) = inr (omega (arith, ab, f))
grow_both a b c x y z ab bc (inr e) (inl f) = inr (omega (arith, bc, e))
grow_both a b c x y z ab bc (inr e) (inr f) = inr (omega (arith, e, f))

pub no_step : (shelf : Shelf) (names : List (List ℕ)) → Step shelf shelf names names
no_step shelf names = record { adds = adds_none shelf; fewer = omega arith; grows = inl refl; short = λ short. short }

pub absent_steps : (old new : Begun) (found : List (List ℕ)) (result : Result (Unit {0}) (Refused LoadFault)) → new.library ≡ old.library → OnOk result (Step old.library new.library found found)
absent_steps old new found (Ok done) same = subst (λ (s : Shelf). Step old.library s found found) (sym same) (no_step old.library found)
absent_steps old new found (Err e) same = tt

pub both_steps : (a b c : Shelf) (x y z : List (List ℕ)) → Step a b x y → Step b c y z → Step a c x z
both_steps a b c x y z first second = record {
  adds = adds_both a b c first.adds second.adds;
  fewer = omega (arith, first.fewer, second.fewer);
  grows = grow_both a b c x y z first.fewer second.fewer first.grows second.grows;
  short = λ short. second.short (first.short short);
}

-- answers
-- =======

pub takes_unfailed : (old new : Begun) (name : List ℕ) (entry : Entry) (result : Result (Unit {0}) (Refused LoadFault)) → Takes old new name entry result → is_failed result ≡ false
takes_unfailed old new name entry (Ok done) takes = refl
takes_unfailed old new name entry (Err (refused.Fault (Past limit))) takes = refl
takes_unfailed old new name entry (Err (refused.Fault (Failed failed))) takes = absurd takes
takes_unfailed old new name entry (Err (refused.Fault (Unaccepted source))) takes = absurd takes
takes_unfailed old new name entry (Err refused.NoMemory) takes = refl

pub takes_at : (ending : List ℕ) (Comes : OfFiles) (base : List ℕ) (old new : Begun) (name : List ℕ) (entry : Entry) (result : Result (Unit {0}) (Refused LoadFault)) → Takes old new name entry result
    → FailsAmong ending Comes base result
takes_at ending Comes base old new name entry (Ok done) takes = tt
takes_at ending Comes base old new name entry (Err (refused.Fault (Past limit))) takes = tt
takes_at ending Comes base old new name entry (Err (refused.Fault (Failed failed))) takes = absurd takes
takes_at ending Comes base old new name entry (Err (refused.Fault (Unaccepted source))) takes = absurd takes
takes_at ending Comes base old new name entry (Err refused.NoMemory) takes = tt
