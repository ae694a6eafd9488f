-- What asking for names, importing names and loading what is left come to.
use Rattle.std.proofs.Common.{◌≡◌, ◌⊎◌, ◌↔◌, ℕ, ◌+◌, ◌*◌, ◌^◌, ◌<◌, true, false, List, [], ◌∷◌, ◌++◌, length, drop, get_or, reverse, Vec, Option, Some, None, Result, Ok, Err, inl, inr, refl, sym, ap, subst, ◌∙◌, arith, length-append}
use Rattle.std.specs.Prelude.{IfSome, IsSome, OnOk}
use Rattle.std.specs.declared.alloc.Global.{Global}
use Rattle.std.proofs.lemmas.List.{append-nil, drop_more, reverse-append, reverse-reverse}
use Rattle.mpy_base.specs.declared.refused.Refused.{Refused}
use Rattle.mpy_base.specs.declared.refused.Refused.TheVariants as refused
use Rattle.mpy_io.specs.Files.{FileOf}
use Rattle.pkg_paths.specs.Plain.{IsPlain}
use Rattle.pkg_paths.specs.Paths.{candidates}
use Rattle.bc_library.specs.declared.fault.Member.{Member}
use Rattle.bc_library.specs.Shelf.{Shelf, member_of}
use Rattle.library_files.specs.declared.entry.Entry.{Entry}
use Rattle.library_files.specs.declared.limit.LoadFault.{LoadFault}
use Rattle.library_files.specs.declared.limit.LoadFault.TheVariants as faults
use Rattle.library_files.specs.declared.loading.Begun.{Begun}
use Rattle.library_files.specs.Asked.{asked_for}
use Rattle.library_files.specs.Comes.{OfFiles, OfNames}
use Rattle.library_files.specs.Search.{EntryIs, FailsAtOneOf}
use Rattle.library_files.specs.Ends.{FailsAmong, is_failed}
use Rattle.library_files.specs.Loads.{Loading, Loaded, Past, Unaccepted, Loads, ends, next, known, unaccepted, past, taken, size_with}
use Rattle.library_files.specs.Steps.{AddsImports, AddsModules, AreShort, Asks, AsksAll, AsksFound, GoesOn, LoadsLeft, Step, Takes, places_left}
use Rattle.library_files.proofs.Taken.{adds_both, both_steps, no_step}

-- a name that is asked for
-- ========================

pub known_by : (o m : Option Member) (member : Member) → o ≡ m → o ≡ Some member → IsSome m
known_by o m member same is = subst IsSome (sym is ∙ same) refl

pub known_asked : (Of : FileOf → OfNames) (told : Option FileOf) (old : Begun) (name : List ℕ) (found : List (List ℕ)) → IsSome (member_of old.library name)
    → IfSome told (λ files. Asks (Of files) old old name found found (Ok tt))
known_asked Of None old name found there = tt
known_asked Of (Some files) old name found there = λ together behind end h. known old.library old.size name together found behind end there h

module _ (Comes : OfNames) (old new : Begun) (name : List ℕ) (entry : Entry) (before after : List (List ℕ)) where
  taken_asked : (result : Result (Unit {0}) (Refused LoadFault)) → Comes name (Ok entry) → member_of old.library name ≡ None
      → Takes old new name entry result → OnOk result (AddsImports entry before after) → Asks Comes old new name before after result
  taken_asked (Ok done) comes fresh takes adds = λ together behind end h.
      taken old.library old.size name together before behind entry adds.0 end fresh comes takes.0 adds.1
      (subst (λ (s : Shelf). Loads Comes s (size_with old.size entry) together (before ++ adds.0) behind end) takes.1
      (subst (λ (n : ℕ). Loads Comes new.library n together (before ++ adds.0) behind end) takes.2
      (subst (λ (z : List (List ℕ)). Loads Comes new.library new.size together z behind end) adds.2 h)))
  taken_asked (Err (refused.Fault (faults.Past limit))) comes fresh takes adds = λ together behind.
      past old.library old.size name together before behind entry limit fresh comes takes
  taken_asked (Err (refused.Fault (faults.Failed failed))) comes fresh takes adds = λ together behind. tt
  taken_asked (Err (refused.Fault (faults.Unaccepted source))) comes fresh takes adds = absurd takes
  taken_asked (Err refused.NoMemory) comes fresh takes adds = λ together behind. tt

pub entry_asked : (Of : FileOf → OfNames) (told : Option FileOf) (old new : Begun) (name : List ℕ) (entry : Entry) (before after : List (List ℕ)) (result : Result (Unit {0}) (Refused LoadFault))
    → IfSome told (λ files. EntryIs (Of files name) (Ok entry)) → member_of old.library name ≡ None → Takes old new name entry result → OnOk result (AddsImports entry before after)
    → IfSome told (λ files. Asks (Of files) old new name before after result)
entry_asked Of None old new name entry before after result comes fresh takes adds = tt
entry_asked Of (Some files) old new name entry before after result comes fresh takes adds = taken_asked (Of files) old new name entry before after result comes fresh takes adds

-- and that came to no entry
refused_asked : (Comes : OfNames) (old new : Begun) (name : List ℕ) (before after : List (List ℕ)) (e : Refused LoadFault) → EntryIs (Comes name) (Err e) → member_of old.library name ≡ None
    → Asks Comes old new name before after (Err e)
refused_asked Comes old new name before after (refused.Fault (faults.Past limit)) is fresh = absurd is
refused_asked Comes old new name before after (refused.Fault (faults.Failed failed)) is fresh = λ together behind. tt
refused_asked Comes old new name before after (refused.Fault (faults.Unaccepted source)) is fresh = λ together behind.
    unaccepted old.library old.size name together before behind source fresh is
refused_asked Comes old new name before after refused.NoMemory is fresh = λ together behind. tt

pub unread_asked : (Of : FileOf → OfNames) (told : Option FileOf) (old new : Begun) (name : List ℕ) (before after : List (List ℕ)) (e : Refused LoadFault)
    → IfSome told (λ files. EntryIs (Of files name) (Err e)) → member_of old.library name ≡ None → IfSome told (λ files. Asks (Of files) old new name before after (Err e))
unread_asked Of None old new name before after e is fresh = tt
unread_asked Of (Some files) old new name before after e is fresh = refused_asked (Of files) old new name before after e is fresh

pub unread_at : (ending : List ℕ) (Comes : OfFiles) (base name : List ℕ) (e : Refused LoadFault) → IsPlain name → FailsAtOneOf Comes (candidates base name ending) (Err e)
    → FailsAmong {A = Unit {0}} ending Comes base (Err e)
unread_at ending Comes base name (refused.Fault (faults.Past limit)) plain at = tt
unread_at ending Comes base name (refused.Fault (faults.Failed failed)) plain at = (name, plain, at)
unread_at ending Comes base name (refused.Fault (faults.Unaccepted source)) plain at = (name, plain, at.0, at.1, at.2)
unread_at ending Comes base name refused.NoMemory plain at = tt

-- what an error says doesn't depend on what it is in place of
pub failed_alike : (A B : Type 0) (e : Refused LoadFault) → is_failed {A = A} (Err e) ≡ is_failed {A = B} (Err e)
failed_alike A B (refused.Fault (faults.Past limit)) = refl
failed_alike A B (refused.Fault (faults.Failed failed)) = refl
failed_alike A B (refused.Fault (faults.Unaccepted source)) = refl
failed_alike A B refused.NoMemory = refl

-- names one after another
-- =======================

-- the names that are still to be asked for, and those that were found
pub record Asking (Of : FileOf → OfNames) (told : Option FileOf) (old now : Begun) (names left before found : List (List ℕ)) : Type 0 where
  pub loads : IfSome told (λ files. (behind : List (List ℕ)) (end : Loading) → Loads (Of files) now.library now.size left found behind end
      → Loads (Of files) old.library old.size names before behind end)
  pub step : Step old.library now.library before found

pub first_left : (names : List (List ℕ)) (place : ℕ) (name text : List ℕ) → place < length names → name ≡ get_or names place name → text ≡ name → drop place names ≡ text ∷ drop (place + 1) names
first_left names place name text lt is same = drop_more names place name lt ∙ ap (λ (z : List ℕ). z ∷ drop (place + 1) names) (sym (same ∙ is))

pub asking_begun : (Of : FileOf → OfNames) (told : Option FileOf) (old : Begun) (names before : List (List ℕ)) → Asking Of told old old names names before before
asking_begun Of told old names before = record { loads = by told; step = no_step old.library before } where
  by : (o : Option FileOf) → IfSome o (λ files. (behind : List (List ℕ)) (end : Loading) → Loads (Of files) old.library old.size names before behind end → Loads (Of files) old.library old.size names before behind end)
  by None = tt
  by (Some files) = λ behind end h. h

module _ (Of : FileOf → OfNames) (told : Option FileOf) (old now : Begun) (names before : List (List ℕ)) where
  ended_by : (files : FileOf) (new : Begun) (asked : List ℕ) (left found after last : List (List ℕ)) (e : Refused LoadFault)
      → ((behind : List (List ℕ)) (end : Loading) → Loads (Of files) now.library now.size (asked ∷ left) found behind end → Loads (Of files) old.library old.size names before behind end)
      → Asks (Of files) now new asked found after (Err e) → AsksAll (Of files) old new names before last (Err e)
  ended_by files new asked left found after last (refused.Fault (faults.Past limit)) loads asks behind = loads behind (Past limit) (asks left behind)
  ended_by files new asked left found after last (refused.Fault (faults.Failed failed)) loads asks behind = tt
  ended_by files new asked left found after last (refused.Fault (faults.Unaccepted source)) loads asks behind = loads behind (Unaccepted source) (asks left behind)
  ended_by files new asked left found after last refused.NoMemory loads asks behind = tt

  pub asking_ended : (here : Option FileOf) (new : Begun) (asked : List ℕ) (all left found after last : List (List ℕ)) (e : Refused LoadFault) → here ≡ told → all ≡ asked ∷ left
      → Asking Of told old now names all before found → IfSome here (λ files. Asks (Of files) now new asked found after (Err e))
      → IfSome told (λ files. AsksAll (Of files) old new names before last (Err e))
  asking_ended here new asked all left found after last e same is asking asks = by told (subst (λ (z : List (List ℕ)). Asking Of told old now names z before found) is asking).loads
      (subst (λ (z : Option FileOf). IfSome z (λ files. Asks (Of files) now new asked found after (Err e))) same asks) where
        by : (o : Option FileOf)
            → IfSome o (λ files. (behind : List (List ℕ)) (end : Loading) → Loads (Of files) now.library now.size (asked ∷ left) found behind end → Loads (Of files) old.library old.size names before behind end)
            → IfSome o (λ files. Asks (Of files) now new asked found after (Err e)) → IfSome o (λ files. AsksAll (Of files) old new names before last (Err e))
        by None loads asks = tt
        by (Some files) loads asks = ended_by files new asked left found after last e loads asks

  pub asking_on : (here : Option FileOf) (new : Begun) (asked : List ℕ) (all left found after : List (List ℕ)) → here ≡ told → all ≡ asked ∷ left
      → Asking Of told old now names all before found → IfSome here (λ files. Asks (Of files) now new asked found after (Ok tt)) → Step now.library new.library found after
      → Asking Of told old new names left before after
  asking_on here new asked all left found after same is asking asks step = record {
    loads = by told (subst (λ (z : List (List ℕ)). Asking Of told old now names z before found) is asking).loads
        (subst (λ (z : Option FileOf). IfSome z (λ files. Asks (Of files) now new asked found after (Ok tt))) same asks);
    step = both_steps old.library now.library new.library before found after asking.step step;
  } where
    by : (o : Option FileOf)
        → IfSome o (λ files. (behind : List (List ℕ)) (end : Loading) → Loads (Of files) now.library now.size (asked ∷ left) found behind end → Loads (Of files) old.library old.size names before behind end)
        → IfSome o (λ files. Asks (Of files) now new asked found after (Ok tt))
        → IfSome o (λ files. (behind : List (List ℕ)) (end : Loading) → Loads (Of files) new.library new.size left after behind end → Loads (Of files) old.library old.size names before behind end)
    by None loads asks = tt
    by (Some files) loads asks = λ behind end h. loads behind end (asks left behind end h)

  pub asking_done : (all found : List (List ℕ)) → all ≡ [] → Asking Of told old now names all before found → IfSome told (λ files. AsksAll (Of files) old now names before found (Ok tt))
  asking_done all found is asking = by told (subst (λ (z : List (List ℕ)). Asking Of told old now names z before found) is asking).loads where
    by : (o : Option FileOf)
        → IfSome o (λ files. (behind : List (List ℕ)) (end : Loading) → Loads (Of files) now.library now.size [] found behind end → Loads (Of files) old.library old.size names before behind end)
        → IfSome o (λ files. AsksAll (Of files) old now names before found (Ok tt))
    by None loads = tt
    by (Some files) loads = loads

-- an import
-- =========

module _ (Of : FileOf → OfNames) (told : Option FileOf) (old new : Begun) (asked : List (List ℕ)) where
  pub found_done : (start : List (List ℕ)) (found : Vec (List ℕ) Global) → start ≡ [] → IfSome told (λ files. AsksAll (Of files) old new asked start found.items (Ok tt))
      → IfSome told (λ files. AsksFound (Of files) old new asked (Ok found))
  found_done start found none asks = by told (subst (λ (z : List (List ℕ)). IfSome told (λ files. AsksAll (Of files) old new asked z found.items (Ok tt))) none asks) where
    by : (o : Option FileOf) → IfSome o (λ files. AsksAll (Of files) old new asked [] found.items (Ok tt)) → IfSome o (λ files. AsksFound (Of files) old new asked (Ok found))
    by None asks = tt
    by (Some files) asks = asks

  ended_found : (files : FileOf) (after : List (List ℕ)) (e : Refused LoadFault) → AsksAll (Of files) old new asked [] after (Err e) → AsksFound (Of files) old new asked (Err e)
  ended_found files after (refused.Fault (faults.Past limit)) asks = asks
  ended_found files after (refused.Fault (faults.Failed failed)) asks = λ behind. tt
  ended_found files after (refused.Fault (faults.Unaccepted source)) asks = asks
  ended_found files after refused.NoMemory asks = λ behind. tt

  pub found_ended : (start after : List (List ℕ)) (e : Refused LoadFault) → start ≡ [] → IfSome told (λ files. AsksAll (Of files) old new asked start after (Err e))
      → IfSome told (λ files. AsksFound (Of files) old new asked (Err e))
  found_ended start after e none asks = by told (subst (λ (z : List (List ℕ)). IfSome told (λ files. AsksAll (Of files) old new asked z after (Err e))) none asks) where
    by : (o : Option FileOf) → IfSome o (λ files. AsksAll (Of files) old new asked [] after (Err e)) → IfSome o (λ files. AsksFound (Of files) old new asked (Err e))
    by None asks = tt
    by (Some files) asks = ended_found files after e asks

pub import_asks : (Of : FileOf → OfNames) (told : Option FileOf) (old new : Begun) (asked names : List (List ℕ)) (result : Result (Vec (List ℕ) Global) (Refused LoadFault)) → asked ≡ names
    → IfSome told (λ files. AsksFound (Of files) old new asked result) → IfSome told (λ files. AsksFound (Of files) old new names result)
import_asks Of told old new asked names result is asks = subst (λ (z : List (List ℕ)). IfSome told (λ files. AsksFound (Of files) old new z result)) is asks

-- want of memory says nothing
pub no_import : (Of : FileOf → OfNames) (told : Option FileOf) (old new : Begun) (name : List ℕ) → IfSome told (λ files. AsksFound (Of files) old new (asked_for name) (Err refused.NoMemory))
no_import Of None old new name = tt
no_import Of (Some files) old new name = λ behind. tt

pub none_loaded : (Of : FileOf → OfNames) (told : Option FileOf) (old new : Begun) (left : List (List ℕ)) → IfSome told (λ files. LoadsLeft (Of files) old new left (Err refused.NoMemory))
none_loaded Of None old new left = tt
none_loaded Of (Some files) old new left = tt

-- the imports that are left
-- =========================

none_in : {A : Type 0} (xs ys : List A) → [] ≡ xs ++ ys → (xs ≡ []) × (ys ≡ [])
none_in [] [] e = (refl, refl)
none_in [] (y ∷ ys) e = absurd cc
none_in (x ∷ xs) ys e = absurd cc

-- the imports that were found may stand in front of those behind
apart_by : (Comes : OfNames) (shelf : Shelf) (size : ℕ) (all found behind : List (List ℕ)) (end : Loading) → all ≡ found ++ behind
    → Loads Comes shelf size [] all [] end → Loads Comes shelf size [] found behind end
apart_by Comes shelf size [] found behind end e (ends _ _) =
    let none = none_in found behind e in
    subst (λ (z : List (List ℕ)). Loads Comes shelf size [] z behind (Loaded shelf)) (sym none.0)
    (subst (λ (z : List (List ℕ)). Loads Comes shelf size [] [] z (Loaded shelf)) (sym none.1) (ends shelf size))
apart_by Comes shelf size all found behind end e (next _ _ _ _ name names _ is h) =
    next shelf size found behind name names end (sym e ∙ (sym (append-nil all) ∙ is)) h

pub apart : (Comes : OfNames) (shelf : Shelf) (size : ℕ) (found behind : List (List ℕ)) (end : Loading)
    → Loads Comes shelf size [] (found ++ behind) [] end → Loads Comes shelf size [] found behind end
apart Comes shelf size found behind end h = apart_by Comes shelf size (found ++ behind) found behind end refl h

pub record Leaving (Of : FileOf → OfNames) (told : Option FileOf) (old now : Begun) (start left : List (List ℕ)) : Type 0 where
  pub loads : IfSome told (λ files. (end : Loading) → Loads (Of files) now.library now.size [] (reverse left) [] end
      → Loads (Of files) old.library old.size [] (reverse start) [] end)
  pub adds : AddsModules old.library now.library
  pub short : AreShort left

last_first : (left before : List (List ℕ)) (name : List ℕ) → before ≡ left ++ name ∷ [] → reverse before ≡ name ∷ reverse left
last_first left before name is = ap reverse is ∙ reverse-append left (name ∷ [])

found_first : (left found after : List (List ℕ)) → after ≡ left ++ reverse found → reverse after ≡ found ++ reverse left
found_first left found after is = ap reverse is ∙ (reverse-append left (reverse found) ∙ ap (λ (z : List (List ℕ)). z ++ reverse left) (reverse-reverse found))

first_short : (some others : List (List ℕ)) → AreShort (some ++ others) → AreShort some
first_short [] others h = tt
first_short (name ∷ some) others h = (h.0, first_short some others h.1)

last_short : (some others : List (List ℕ)) → AreShort (some ++ others) → AreShort others
last_short [] others h = h
last_short (name ∷ some) others h = last_short some others h.1

both_short : (some others : List (List ℕ)) → AreShort some → AreShort others → AreShort (some ++ others)
both_short [] others h k = k
both_short (name ∷ some) others h k = (h.0, both_short some others h.1 k)

pub reverse_short : (names : List (List ℕ)) → AreShort names → AreShort (reverse names)
reverse_short [] h = tt
reverse_short (name ∷ names) h =
    subst AreShort (sym (reverse-append (name ∷ []) names)) (both_short (reverse names) (name ∷ []) (reverse_short names h.1) (h.0, tt))

pub name_short : (left before : List (List ℕ)) (name : List ℕ) → before ≡ left ++ name ∷ [] → AreShort before → length name < 2 ^ 31
name_short left before name is h = (last_short left (name ∷ []) (subst AreShort is h)).0

module _ (Of : FileOf → OfNames) (told : Option FileOf) (old now : Begun) (start : List (List ℕ)) where
  imported_by : (files : FileOf) (left before : List (List ℕ)) (name : List ℕ) (end : Loading) → before ≡ left ++ name ∷ []
      → ((z : Loading) → Loads (Of files) now.library now.size [] (reverse before) [] z → Loads (Of files) old.library old.size [] (reverse start) [] z)
      → Loads (Of files) now.library now.size (asked_for name) [] (reverse left) end → Loads (Of files) old.library old.size [] (reverse start) [] end
  imported_by files left before name end is loads h =
      loads end (next now.library now.size (reverse before) [] name (reverse left) end (append-nil (reverse before) ∙ last_first left before name is) h)

  pub leaving_ended : (here : Option FileOf) (new : Begun) (left before : List (List ℕ)) (name : List ℕ) (e : Refused LoadFault) → here ≡ told → before ≡ left ++ name ∷ []
      → Leaving Of told old now start before → IfSome here (λ files. AsksFound (Of files) now new (asked_for name) (Err e))
      → IfSome told (λ files. LoadsLeft (Of files) old new (reverse start) (Err e))
  leaving_ended here new left before name e same is leaving imports = by told leaving.loads (subst (λ (z : Option FileOf). IfSome z (λ files. AsksFound (Of files) now new (asked_for name) (Err e))) same imports) where
    by_end : (files : FileOf) (z : Refused LoadFault)
        → ((end : Loading) → Loads (Of files) now.library now.size [] (reverse before) [] end → Loads (Of files) old.library old.size [] (reverse start) [] end)
        → AsksFound (Of files) now new (asked_for name) (Err z) → LoadsLeft (Of files) old new (reverse start) (Err z)
    by_end files (refused.Fault (faults.Past limit)) loads imports = imported_by files left before name (Past limit) is loads (imports (reverse left))
    by_end files (refused.Fault (faults.Failed failed)) loads imports = tt
    by_end files (refused.Fault (faults.Unaccepted source)) loads imports = imported_by files left before name (Unaccepted source) is loads (imports (reverse left))
    by_end files refused.NoMemory loads imports = tt

    by : (o : Option FileOf)
        → IfSome o (λ files. (end : Loading) → Loads (Of files) now.library now.size [] (reverse before) [] end → Loads (Of files) old.library old.size [] (reverse start) [] end)
        → IfSome o (λ files. AsksFound (Of files) now new (asked_for name) (Err e)) → IfSome o (λ files. LoadsLeft (Of files) old new (reverse start) (Err e))
    by None loads imports = tt
    by (Some files) loads imports = by_end files e loads imports

  pub leaving_on : (here : Option FileOf) (new : Begun) (left before after : List (List ℕ)) (name : List ℕ) (found : Vec (List ℕ) Global) → here ≡ told → before ≡ left ++ name ∷ []
      → after ≡ left ++ reverse found.items → Leaving Of told old now start before → IfSome here (λ files. AsksFound (Of files) now new (asked_for name) (Ok found))
      → Step now.library new.library [] found.items → Leaving Of told old new start after
  leaving_on here new left before after name found same is after_is leaving imports step = record {
    loads = by told leaving.loads (subst (λ (z : Option FileOf). IfSome z (λ files. AsksFound (Of files) now new (asked_for name) (Ok found))) same imports);
    adds = adds_both old.library now.library new.library leaving.adds step.adds;
    short = subst AreShort (sym after_is)
        (both_short left (reverse found.items) (first_short left (name ∷ []) (subst AreShort is leaving.short)) (reverse_short found.items (step.short tt)));
  } where
    by : (o : Option FileOf)
        → IfSome o (λ files. (end : Loading) → Loads (Of files) now.library now.size [] (reverse before) [] end → Loads (Of files) old.library old.size [] (reverse start) [] end)
        → IfSome o (λ files. AsksFound (Of files) now new (asked_for name) (Ok found))
        → IfSome o (λ files. (end : Loading) → Loads (Of files) new.library new.size [] (reverse after) [] end → Loads (Of files) old.library old.size [] (reverse start) [] end)
    by None loads imports = tt
    by (Some files) loads imports = λ end h.
        imported_by files left before name end is loads (imports (reverse left) end
        (apart (Of files) new.library new.size found.items (reverse left) end
        (subst (λ (z : List (List ℕ)). Loads (Of files) new.library new.size [] z [] end) (found_first left found.items after after_is) h)))

  pub leaving_done : (left : List (List ℕ)) → left ≡ [] → Leaving Of told old now start left → IfSome told (λ files. LoadsLeft (Of files) old now (reverse start) (Ok tt))
  leaving_done left none leaving = by told (subst (λ (z : List (List ℕ)). Leaving Of told old now start z) none leaving).loads where
    by : (o : Option FileOf)
        → IfSome o (λ files. (end : Loading) → Loads (Of files) now.library now.size [] [] [] end → Loads (Of files) old.library old.size [] (reverse start) [] end)
        → IfSome o (λ files. LoadsLeft (Of files) old now (reverse start) (Ok tt))
    by None loads = tt
    by (Some files) loads = λ end is.
        subst (λ (z : Loading). Loads (Of files) old.library old.size [] (reverse start) [] z) (sym is) (loads (Loaded now.library) (ends now.library now.size))

pub leaving_begun : (Of : FileOf → OfNames) (told : Option FileOf) (old : Begun) (start : List (List ℕ)) → AddsModules old.library old.library → AreShort start → Leaving Of told old old start start
leaving_begun Of told old start adds short = record { loads = by told; adds = adds; short = short } where
  by : (o : Option FileOf) → IfSome o (λ files. (end : Loading) → Loads (Of files) old.library old.size [] (reverse start) [] end → Loads (Of files) old.library old.size [] (reverse start) [] end)
  by None = tt
  by (Some files) = λ end h. h

pub none_left : (left : List (List ℕ)) (count : ℕ) (popped : Option (List ℕ)) → count ≡ length left → (IsSome popped ↔ (0 < count)) → ((name : List ℕ) → popped ≡ Some name → ⊥) → left ≡ []
none_left [] count popped is some not = refl
none_left (name ∷ left) count None is some not = absurd (let wrong : false ≡ true = some.1 (omega (arith, is)) in cc)
none_left (name ∷ left) count (Some other) is some not = absurd (not other refl)

-- the measure falls
-- =================

pub falls : (old new : Shelf) (before after left : List (List ℕ)) (name : List ℕ) (found : List (List ℕ)) → Step old new [] found → before ≡ left ++ name ∷ [] → after ≡ left ++ reverse found
    → length after < 2 ^ 64 → places_left new * 2 ^ 64 + length after < places_left old * 2 ^ 64 + length before
falls old new before after left name found step is after_is fits = by step.grows where
  one_less : length before ≡ length left + 1
  one_less = ap length is ∙ length-append left (name ∷ [])

  by : (found ≡ []) ⊎ (places_left new < places_left old) → places_left new * 2 ^ 64 + length after < places_left old * 2 ^ 64 + length before
  by (inl none) =
      let same : length after ≡ length left = ap length after_is ∙ (ap (λ (z : List (List ℕ)). length (left ++ reverse z)) none ∙ ap length (append-nil left)) in
      let fewer = step.fewer in
      omega (arith, same, one_less, fewer)
  by (inr less) = omega (arith, less, fits)
