-- What is known of names that were absent.
use Rattle.std.proofs.Common.{◌≡◌, ◌⊎◌, ℕ, zero, suc, ◌+◌, Bool, true, false, List, [], ◌∷◌, ◌++◌, if◌then◌else◌, Option, Some, None, option_map, position, slice_get, Result, Ok, Err, inl, inr, refl, sym, ap, subst}
use Rattle.std.specs.Prelude.{IfSome, OnOk}
use Rattle.std.specs.List.{AllByRecursion, list_any}
use Rattle.std.specs.Str.{bytes_eq}
use Rattle.mpy_base.specs.declared.refused.Refused.{Refused}
use Rattle.mpy_io.specs.Files.{FileOf}
use Rattle.qstr_pool.specs.Pool.{Texts, number_of, interned}
use Rattle.qstr_pool.proofs.Places.{found}
use Rattle.library_files.specs.declared.entry.Entry.{Entry}
use Rattle.library_files.specs.declared.entry.Entry.TheVariants as entries
use Rattle.library_files.specs.declared.limit.LoadFault.{LoadFault}
use Rattle.library_files.specs.Comes.{OfNames}
use Rattle.library_files.specs.Search.{EntryIs}
use Rattle.library_files.specs.Steps.{AreAbsent, AreKnownAbsent, Remembers}
use Rattle.library_files.proofs.Taken.{all_both}

-- a text that has a number is one of those of which a fact holds
-- ==============================================================

placed : (first n : ℕ) (r : Option ℕ) → option_map (λ place. first + place) r ≡ Some n → (i : ℕ) × (r ≡ Some i)
placed first n None e = absurd (let wrong : ◌≡◌ {A = Option ℕ} None (Some n) = e in cc)
placed first n (Some i) e = (i, refl)

all_at : (P : List ℕ → Type 0) (texts : List (List ℕ)) (i : ℕ) (text : List ℕ) → AllByRecursion P texts → slice_get texts i ≡ Some text → P text
all_at P [] i text all e = absurd (let wrong : ◌≡◌ {A = Option (List ℕ)} None (Some text) = e in cc)
all_at P (x ∷ texts) zero text all e = let same : x ≡ text = cc in subst P same all.0
all_at P (x ∷ texts) (suc i) text all e = all_at P texts i text all.1 e

numbered : (P : List ℕ → Type 0) (pool : Texts) (text : List ℕ) (n : ℕ) → AllByRecursion P pool.texts → number_of pool text ≡ Some n → P text
numbered P pool text n all e =
    let at = placed pool.first n (position (bytes_eq text) pool.texts) e in
    all_at P pool.texts at.0 text all (found pool.texts text at.0 at.1)

interned_all : (P : List ℕ → Type 0) (pool : Texts) (text : List ℕ) → P text → AllByRecursion P pool.texts → AllByRecursion P (interned pool text).texts
interned_all P pool text here all = by (list_any (bytes_eq text) pool.texts) where
  longer : Texts
  longer = record { first = pool.first; texts = pool.texts ++ text ∷ [] }

  by : (b : Bool) → AllByRecursion P (if b then pool else record { first = pool.first; texts = pool.texts ++ text ∷ [] }).texts
  by true = all
  by false = all_both P pool.texts (text ∷ []) all (here, tt)

-- names that are known to be absent
-- =================================

pub none_known : (Of : FileOf → OfNames) (told : Option FileOf) (names : List (List ℕ)) → names ≡ [] → AreKnownAbsent Of told names
none_known Of None names none = tt
none_known Of (Some files) names none = subst (AreAbsent (Of files)) (sym none) tt

-- a name that is remembered comes to nothing
pub known_absent : (Of : FileOf → OfNames) (told : Option FileOf) (pool : Texts) (name : List ℕ) (number : Option ℕ) (n : ℕ) → number ≡ number_of pool name → number ≡ Some n
    → AreKnownAbsent Of told pool.texts → IfSome told (λ files. EntryIs (Of files name) (Ok entries.Absent))
known_absent Of None pool name number n is at all = tt
known_absent Of (Some files) pool name number n is at all =
    numbered (λ (text : List ℕ). Of files text (Ok entries.Absent)) pool name n all (subst (λ (o : Option ℕ). o ≡ Some n) is at)

module _ (Comes : OfNames) (old new : Texts) (name : List ℕ) where
  remembered_by : (entry : Entry) → Comes name (Ok entry) → AreAbsent Comes old.texts → Remembers old new name entry → AreAbsent Comes new.texts
  remembered_by entries.Absent comes all (inl same) = subst (λ (t : Texts). AreAbsent Comes t.texts) (sym same) all
  remembered_by entries.Absent comes all (inr more) =
      subst (λ (t : Texts). AreAbsent Comes t.texts) (sym more) (interned_all (λ (text : List ℕ). Comes text (Ok entries.Absent)) old name comes all)
  remembered_by entries.Refused comes all same = subst (λ (t : Texts). AreAbsent Comes t.texts) (sym same) all
  remembered_by (entries.Held m size) comes all same = subst (λ (t : Texts). AreAbsent Comes t.texts) (sym same) all

pub remembered : (Of : FileOf → OfNames) (told here : Option FileOf) (old new : Texts) (name : List ℕ) (entry : Entry) (result : Result (Unit {0}) (Refused LoadFault)) → here ≡ told
    → IfSome told (λ files. EntryIs (Of files name) (Ok entry)) → AreKnownAbsent Of told old.texts → OnOk result (Remembers old new name entry) → OnOk result (AreKnownAbsent Of here new.texts)
remembered Of told here old new name entry (Ok done) same comes all remembers =
    subst (λ (o : Option FileOf). AreKnownAbsent Of o new.texts) (sym same) (by told comes all) where
      by : (o : Option FileOf) → IfSome o (λ files. EntryIs (Of files name) (Ok entry)) → AreKnownAbsent Of o old.texts → AreKnownAbsent Of o new.texts
      by None comes all = tt
      by (Some files) comes all = remembered_by (Of files) old new name entry comes all remembers
remembered Of told here old new name entry (Err e) same comes all remembers = tt
