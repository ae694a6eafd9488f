-- The modules of a manifest have different names.
use Rattle.std.proofs.Common.{◌≡◌, ◌⊎◌, inl, inr, ℕ, zero, suc, Bool, true, false, ◌||◌, nat_lt, List, [], ◌∷◌, ◌++◌, length, map, Contains, Option, Some, Ok, Err, if◌then◌else◌, refl, sym, ap, ap₂, subst, ◌∙◌, arith}
use Rattle.std.specs.List.{AllZip}
use Rattle.std.specs.Str.{bytes_eq}
use Rattle.std.proofs.lemmas.List.{map-append}
use Rattle.std.proofs.lemmas.List.Elements.{Contains-append_cases, Contains-append_left, Contains-append_right, Contains-push, Contains-push_cases}
use Rattle.mpy_base.specs.declared.limits.TheConstants.{MAX_MODULES}
use Rattle.mpy_io.specs.Files.{FileOf}
use Rattle.bc_library.specs.Shelf.{Shelf, no_entries}
use Rattle.image_grammar.specs.declared.fault.ImageFault.{ImageFault}
use Rattle.image_grammar.specs.declared.fault.ImageFault.TheVariants.{BadHeader, Truncated, BadNumber, BadModule, Trailing, TooBig, BadBase}
use Rattle.image_grammar.specs.declared.fault.ImageFault.TheVariants as images
use Rattle.image_grammar.specs.Base.{base_of}
use Rattle.image_grammar.specs.Opening.{names_of}
use Rattle.image_freeze.specs.declared.named.Named.{Named}
use Rattle.image_freeze.specs.Frozen.{IsTwice, entries_of}
use Rattle.manifest_lines.specs.declared.entry.Entry.{Entry}
use Rattle.manifest_files.specs.declared.fault.ManifestFault.{ManifestFault}
use Rattle.manifest_files.specs.declared.fault.ManifestFault.TheVariants.{TooMany, Twice}
use Rattle.manifest_files.specs.Entries.{Answer, Said, and_then, entries_after, has_module, one_more}
use Rattle.frozen_files.specs.Frozen.{RefusesImage}
use Rattle.frozen_files.specs.Sources.{HoldsSource}
use Rattle.tool_laws.proofs.Members.{apart}

-- names that differ
-- =================

abbrev Apart : List (List ℕ) → Type 0
Apart [] = Unit {0}
Apart (name ∷ names) = (Contains names name → ⊥) × Apart names

pub none_in : (name : List ℕ) → Contains {X = List ℕ} [] name → ⊥
none_in name c = omega (arith, c.1)

pub front_in : (name : List ℕ) (names : List (List ℕ)) → Contains (name ∷ names) name
front_in name names = Contains-append_left (name ∷ []) names name (Contains-push [] name)

pub behind_in : (first : List ℕ) (names : List (List ℕ)) (name : List ℕ) → Contains names name → Contains (first ∷ names) name
behind_in first names name c = Contains-append_right (first ∷ []) names name c

pub in_cases : (first : List ℕ) (names : List (List ℕ)) (name : List ℕ) → Contains (first ∷ names) name → (first ≡ name) ⊎ Contains names name
in_cases first names name c = elim (Contains-append_cases (first ∷ []) names name c) [
  | inl h ↦ elim (Contains-push_cases [] first name h) [ inl none ↦ absurd (none_in name none) | inr same ↦ inl same ]
  | inr h ↦ inr h
]

push_apart : (names : List (List ℕ)) (name : List ℕ) → Apart names → (Contains names name → ⊥) → Apart (names ++ name ∷ [])
push_apart [] name a none = (none_in name, tt)
push_apart (first ∷ names) name a none = (
  λ c. elim (Contains-push_cases names name first c) [
    | inl h ↦ a.0 h
    | inr same ↦ none (subst (λ (z : List ℕ). Contains (first ∷ names) z) (sym same) (front_in first names))
  ],
  push_apart names name a.1 (λ c. none (behind_in first names name c)),
)

-- a name that is twice among these and names that differ is among these
twice_there : (there before names : List (List ℕ)) (again : List ℕ) → Apart names
    → ((x : List ℕ) → Contains before x → Contains names x → Contains there x) → IsTwice before names again → Contains there again
twice_there there before [] again a each t = absurd t
twice_there there before (name ∷ names) again a each (inl t) =
    subst (λ (z : List ℕ). Contains there z) (sym t.1) (each name t.0 (front_in name names))
twice_there there before (name ∷ names) again a each (inr t) =
    twice_there there (before ++ name ∷ []) names again a.1
    (λ x c d. elim (Contains-push_cases before name x c) [
      | inl b ↦ each x b (behind_in name names x d)
      | inr same ↦ absurd (a.0 (subst (λ (z : List ℕ). Contains names z) (sym same) d))
    ]) t.1

-- the entries of a manifest
-- =========================

abbrev modules_of : List Entry → List (List ℕ)
modules_of entries = map (λ (entry : Entry). entry.«module») entries

not_there : (entries : List Entry) (name : List ℕ) → has_module entries name ≡ false → Contains (modules_of entries) name → ⊥
not_there [] name e c = none_in name c
not_there (entry ∷ entries) name e c =
    by (bytes_eq entry.«module» name) refl e (in_cases entry.«module» (modules_of entries) name c) (not_there entries name)
  where
    by : (b : Bool) → bytes_eq entry.«module» name ≡ b → (b || has_module entries name) ≡ false → (entry.«module» ≡ name) ⊎ Contains (modules_of entries) name
        → (has_module entries name ≡ false → Contains (modules_of entries) name → ⊥) → ⊥
    by true is e c more = absurd cc
    by false is e (inl same) more = apart entry.«module» name is same
    by false is e (inr h) more = more e h

-- one more entry, by whether its module is there, and whether there is a place for it
abbrev more_by : List Entry → Entry → (has few : Bool) → Answer
more_by entries entry has few = if has then Err (Twice entry.«module») else (if few then Ok (entries ++ entry ∷ []) else Err TooMany)

same_ok : (a b : List Entry) (x y : Answer) → x ≡ Ok a → y ≡ Ok b → x ≡ y → a ≡ b
same_ok a b x y is other same = let both : Ok a ≡ Ok b = sym is ∙ (same ∙ other) in cc

never_ok : (fault : ManifestFault) (entries : List Entry) (x y : Answer) → x ≡ Err fault → y ≡ Ok entries → x ≡ y → ⊥
never_ok fault entries x y is other same = let both : Err fault ≡ Ok entries = sym is ∙ (same ∙ other) in cc

more_apart : (entries more : List Entry) (entry : Entry) → Apart (modules_of entries) → one_more entries entry ≡ Ok more → Apart (modules_of more)
more_apart entries more entry a e = by (has_module entries entry.«module») refl (nat_lt (length entries) MAX_MODULES) e
  where
    by : (has : Bool) → has_module entries entry.«module» ≡ has → (few : Bool) → more_by entries entry has few ≡ Ok more → Apart (modules_of more)
    by true is few e = absurd (never_ok (Twice entry.«module») more (Err (Twice entry.«module»)) (Ok more) refl refl e)
    by false is false e = absurd (never_ok TooMany more (Err TooMany) (Ok more) refl refl e)
    by false is true e =
        let pushed = push_apart (modules_of entries) entry.«module» a (not_there entries entry.«module» is) in
        let here = subst Apart (sym (map-append (λ (z : Entry). z.«module») entries (entry ∷ []))) pushed in
        subst (λ (z : List Entry). Apart (modules_of z)) (same_ok (entries ++ entry ∷ []) more (Ok (entries ++ entry ∷ [])) (Ok more) refl refl e) here

entries_apart : (before entries : List Entry) (said : List Said) → Apart (modules_of before) → entries_after before said ≡ Ok entries → Apart (modules_of entries)
entries_apart before entries [] a e = subst (λ (z : List Entry). Apart (modules_of z)) (same_ok before entries (Ok before) (Ok entries) refl refl e) a
entries_apart before entries (Err fault ∷ said) a e = absurd (never_ok fault entries (Err fault) (Ok entries) refl refl e)
entries_apart before entries (Ok entry ∷ said) a e = by (one_more before entry) refl e (λ more. entries_apart more entries said)
  where
    by : (answer : Answer) → one_more before entry ≡ answer → and_then answer (λ more. entries_after more said) ≡ Ok entries
        → ((more : List Entry) → Apart (modules_of more) → entries_after more said ≡ Ok entries → Apart (modules_of entries)) → Apart (modules_of entries)
    by (Ok more) is e next = next more (more_apart before more entry a is) e
    by (Err fault) is e next = absurd (never_ok fault entries (Err fault) (Ok entries) refl refl e)

-- the modules have the names of the entries
names_are : (files : Option FileOf) (entries : List Entry) (modules : List Named) → AllZip (HoldsSource files) entries modules
    → names_of (entries_of modules) ≡ modules_of entries
names_are files [] [] all = refl
names_are files [] (m ∷ modules) all = absurd all
names_are files (entry ∷ entries) [] all = absurd all
names_are files (entry ∷ entries) (m ∷ modules) all =
    ap₂ (λ (x : List ℕ) (xs : List (List ℕ)). x ∷ xs) all.0.name_is (names_are files entries modules all.1)

-- their image
-- ===========

-- it is too big, or a module has the name of one below
abbrev IsBigOrBelow : (below : Shelf) → ImageFault → Type 0
IsBigOrBelow below fault = (fault ≡ TooBig) ⊎ ((name : List ℕ) × (fault ≡ images.Twice name) × Contains (base_of below).names name)

module _ (version : ℕ) (below : Shelf) (files : FileOf) (manifest : List ℕ) where
  names_apart : (fault : ImageFault) (h : RefusesImage version below (Some files) manifest fault) → Apart (names_of (entries_of h.modules))
  names_apart fault h =
      let own = h.sources in
      subst Apart (sym (names_are (Some files) own.entries h.modules own.sources)) (entries_apart [] own.entries own.are.0 tt (sym own.are.2))

  pub big_or_below : (fault : ImageFault) → RefusesImage version below (Some files) manifest fault → IsBigOrBelow below fault
  big_or_below TooBig h = inl refl
  big_or_below (images.Twice name) h =
      let names = (base_of below).names in
      inr (name, refl, twice_there names names (names_of (entries_of h.modules)) name (names_apart (images.Twice name) h) (λ x c d. c) h.fault_is)
  big_or_below BadHeader h = absurd h.fault_is
  big_or_below Truncated h = absurd h.fault_is
  big_or_below BadNumber h = absurd h.fault_is
  big_or_below (BadModule index) h = absurd h.fault_is
  big_or_below Trailing h = absurd h.fault_is
  big_or_below BadBase h = absurd h.fault_is

pub too_big : (version : ℕ) (files : FileOf) (manifest : List ℕ) (fault : ImageFault) → RefusesImage version no_entries (Some files) manifest fault → fault ≡ TooBig
too_big version files manifest fault h = elim (big_or_below version no_entries files manifest fault h) [
  | inl big ↦ big
  | inr below ↦ absurd (none_in below.0 below.2)
]
