-- A library as it is kept, and as it is seen.
use Rattle.std.proofs.Common.{◌≡◌, ℕ, zero, suc, ◌+◌, ◌<◌, ◌≤◌, Bool, true, false, get_or, List, [], ◌∷◌, ◌++◌, length, map, Option, Some, None, option_map, position, refl, sym, ap, ap₂, subst, ◌∙◌, arith, length-append}
use Rattle.std.specs.Prelude.{slice_get, option_and_then, IfSome, IsSome, is_some}
use Rattle.std.specs.List.{list_any}
use Rattle.std.specs.Str.{bytes_eq}
use Rattle.std.proofs.lemmas.List.{map-append, length-map}
use Rattle.std.proofs.lemmas.List.Folds.{list_any_at}
use Rattle.std.proofs.lemmas.Option.{slice_get-map, slice_get_within, get_or_from_slice_get}
use Rattle.std.proofs.lemmas.Slice.Eq.{bytes_eq-Decides}
use Rattle.mpy_base.specs.declared.limits.TheConstants.{MAX_MODULES}
use Rattle.mpy_base.specs.declared.refused.Refused.{Refused}
use Rattle.mpy_base.specs.declared.refused.Refused.TheVariants as refusals
use Rattle.bc_verify.specs.qstr_pool.Pool.{Texts}
use Rattle.bc_verify.proofs.qstr_pool_lemmas.Places.{position-map, absent}
use Rattle.bc_verify.specs.Verified.{IsVerified}
use Rattle.mpy_tree.specs.declared.raw.Qstr.{Qstr}
use Rattle.mpy_tree.specs.File.{IsModule}
use Rattle.mpy_tree.specs.Raw as raw
use Rattle.mpy_tree.specs.Raw.{Module}
use Rattle.bc_library.specs.declared.fault.LibFault.{LibFault}
use Rattle.bc_library.specs.declared.fault.LibFault.TheVariants as faults
use Rattle.bc_library.specs.declared.fault.Member.{Member}
use Rattle.bc_library.specs.declared.library.Loaded.{Loaded}
use Rattle.bc_library.specs.declared.library.Brought.{Brought}
use Rattle.bc_library.specs.declared.texts.Title.{Title}
use Rattle.bc_library.specs.Added.{IsBrought}
use Rattle.bc_library.specs.Kept.{IsLoaded, IsLibrary, named, shelf_of}
use Rattle.bc_library.specs.Shelf.{Shelf, Named, IsFull, fault_in, member_by, member_of, module_at, entry_at, table_text, with_module}
use Rattle.bc_library.specs.Texts.{AreNumbers, IsTitle, last_of, text_numbered, with_texts, texts_of}
use Rattle.bc_library.proofs.Pools.{kept, are_kept}

map-map : {A B C : Type 0} (f : B → C) (g : A → B) (xs : List A) → map f (map g xs) ≡ map (λ x. f (g x)) xs
map-map f g [] = refl
map-map f g (x ∷ xs) = ap (λ z. f (g x) ∷ z) (map-map f g xs)

-- names
-- =====

place_is : (modules : List Loaded) (name : List ℕ) → position (bytes_eq name) (map (λ (n : Named). n.name) (map named modules)) ≡ position (λ (l : Loaded). bytes_eq name l.name) modules
place_is modules name =
    ap (position (bytes_eq name)) (map-map (λ (n : Named). n.name) named modules) ∙ position-map (λ (l : Loaded). l.name) (bytes_eq name) modules

pub member_is : (modules : List Loaded) (refused : List (List ℕ)) (pool : Texts) (shelf : Shelf) (name : List ℕ) (place : Option ℕ) (b : Bool) → shelf_of modules refused pool ≡ shelf → place ≡ position (λ (l : Loaded). bytes_eq name l.name) modules → b ≡ list_any (bytes_eq name) refused → member_by place b ≡ member_of shelf name
member_is modules refused pool shelf name place b is e f =
    ap₂ member_by (e ∙ sym (place_is modules name)) f ∙ ap (λ (s : Shelf). member_of s name) is

pub member_at : (modules : List Loaded) (refused : List (List ℕ)) (pool : Texts) (shelf : Shelf) (name : List ℕ) (place : ℕ) → shelf_of modules refused pool ≡ shelf → Some place ≡ position (λ (l : Loaded). bytes_eq name l.name) modules → member_by (Some place) (list_any (bytes_eq name) refused) ≡ member_of shelf name
member_at modules refused pool shelf name place is e = member_is modules refused pool shelf name (Some place) (list_any (bytes_eq name) refused) is e refl

-- texts
-- =====

pub module_is : (modules : List Loaded) (refused : List (List ℕ)) (pool : Texts) (shelf : Shelf) (i : ℕ) (l : Loaded) → shelf_of modules refused pool ≡ shelf → slice_get modules i ≡ Some l → module_at shelf i ≡ Some l.«module»
module_is modules refused pool shelf i l is e =
    ap (λ (s : Shelf). module_at s i) (sym is) ∙ ap (option_and_then (λ (n : Named). Some n.held)) (slice_get-map named modules i ∙ ap (option_map named) e)

entry_is : (modules : List Loaded) (refused : List (List ℕ)) (pool : Texts) (shelf : Shelf) (i q : ℕ) (l : Loaded) → shelf_of modules refused pool ≡ shelf → slice_get modules i ≡ Some l → entry_at shelf i q ≡ slice_get l.«module».qstrs q
entry_is modules refused pool shelf i q l is e = ap (option_and_then (λ (m : Module). slice_get m.qstrs q)) (module_is modules refused pool shelf i l is e)

-- the entries that have numbers are those that there are
same_there : (pool : Texts) (numbers : List ℕ) (qstrs : List Qstr) (q : ℕ) → AreNumbers pool numbers qstrs → option_map (text_numbered pool) (slice_get numbers q) ≡ option_map raw.text_of (slice_get qstrs q)
same_there pool numbers qstrs q a =
    sym (slice_get-map (text_numbered pool) numbers q)
    ∙ (ap (λ z. slice_get z q) (a.numbers_are ∙ sym a.texts_are) ∙ slice_get-map raw.text_of qstrs q)

told_by : (pool : Texts) (r : Option ℕ) (s : Option Qstr) → option_map (text_numbered pool) r ≡ option_map raw.text_of s → IfSome r (λ n. text_numbered pool n ≡ option_and_then raw.text_of s)
told_by pool None s e = tt
told_by pool (Some n) None e = absurd cc
told_by pool (Some n) (Some q) e = cc

some_by : (pool : Texts) (r : Option ℕ) (s : Option Qstr) → option_map (text_numbered pool) r ≡ option_map raw.text_of s → is_some r ≡ is_some s
some_by pool None None e = refl
some_by pool None (Some q) e = cc
some_by pool (Some n) None e = cc
some_by pool (Some n) (Some q) e = refl

pub text_told : (modules : List Loaded) (refused : List (List ℕ)) (pool : Texts) (shelf : Shelf) (i q : ℕ) (l : Loaded) (r : Option ℕ) → shelf_of modules refused pool ≡ shelf → IsLibrary modules refused pool → slice_get modules i ≡ Some l → r ≡ slice_get l.numbers.items q → IfSome r (λ n. text_numbered shelf.pool n ≡ table_text shelf i q)
text_told modules refused pool shelf i q l r is lib e f =
    let told = told_by pool (slice_get l.numbers.items q) (slice_get l.«module».qstrs q) (same_there pool l.numbers.items l.«module».qstrs q (lib.loaded i l e).numbers) in
    let at_entry = subst (λ s. IfSome (slice_get l.numbers.items q) (λ n. text_numbered pool n ≡ option_and_then raw.text_of s)) (sym (entry_is modules refused pool shelf i q l is e)) told in
    let at_pool = subst (λ (p : Texts). IfSome (slice_get l.numbers.items q) (λ n. text_numbered p n ≡ table_text shelf i q)) (ap (λ (s : Shelf). s.pool) is) at_entry in
    subst (λ o. IfSome o (λ n. text_numbered shelf.pool n ≡ table_text shelf i q)) (sym f) at_pool

pub entry_told : (modules : List Loaded) (refused : List (List ℕ)) (pool : Texts) (shelf : Shelf) (i q : ℕ) (l : Loaded) (r : Option ℕ) → shelf_of modules refused pool ≡ shelf → IsLibrary modules refused pool → slice_get modules i ≡ Some l → r ≡ slice_get l.numbers.items q → is_some r ≡ is_some (entry_at shelf i q)
entry_told modules refused pool shelf i q l r is lib e f =
    ap is_some f
    ∙ (some_by pool (slice_get l.numbers.items q) (slice_get l.«module».qstrs q) (same_there pool l.numbers.items l.«module».qstrs q (lib.loaded i l e).numbers)
    ∙ ap is_some (sym (entry_is modules refused pool shelf i q l is e)))

-- a further module
-- ================

data Pushed {A : Type 0} (xs : List A) (y : A) (i : ℕ) (x : A) : Type 0 where
  before : slice_get xs i ≡ Some x → Pushed xs y i x
  last : i ≡ length xs → y ≡ x → Pushed xs y i x

pushed : {A : Type 0} (xs : List A) (y : A) (i : ℕ) (x : A) → slice_get (xs ++ y ∷ []) i ≡ Some x → Pushed xs y i x
pushed [] y zero x e = last refl cc
pushed [] y (suc i) x e = absurd cc
pushed (z ∷ xs) y zero x e = before e
pushed (z ∷ xs) y (suc i) x e =
    elim (pushed xs y i x e) [ before f ↦ before f | last f g ↦ last (ap suc f) g ]

abbrev pub loaded_of : Brought → Module → Loaded
loaded_of k m = record { name = k.name; title = k.title; «module» = m; numbers = k.numbers; values = k.values; parts = k.parts }

pub brought_as : (pool longer : Texts) (n i : ℕ) (name : List ℕ) (raw m : Module) (k : Brought) → n ≡ i → raw ≡ m → IsBrought pool n name raw longer k → IsBrought pool i name m longer k
brought_as pool longer n i name raw m k e f b = subst (λ z. IsBrought pool z name m longer k) e (subst (λ z. IsBrought pool n name z longer k) f b)

-- no module has the name
abbrev pub IsNew : List Loaded → List ℕ → Type 0
IsNew modules name = (i : ℕ) (l : Loaded) → slice_get modules i ≡ Some l → l.name ≡ name → ⊥

no_place : (place : Option ℕ) (b : Bool) → member_by place b ≡ None → place ≡ None
no_place (Some i) b e = absurd cc
no_place None b e = refl

pub is_new : (modules : List Loaded) (refused : List (List ℕ)) (pool : Texts) (shelf : Shelf) (name : List ℕ) → shelf_of modules refused pool ≡ shelf → member_of shelf name ≡ None → IsNew modules name
is_new modules refused pool shelf name is none i l e same =
    let texts : List (List ℕ) = map (λ (n : Named). n.name) (map named modules) in
    let missing = no_place (position (bytes_eq name) texts) (list_any (bytes_eq name) refused) (ap (λ (s : Shelf). member_of s name) is ∙ none) in
    let there : slice_get texts i ≡ Some l.name =
    slice_get-map (λ (n : Named). n.name) (map named modules) i ∙ ap (option_map (λ (n : Named). n.name)) (slice_get-map named modules i ∙ ap (option_map named) e) in
    let hit : bytes_eq name (get_or texts i []) ≡ true = (bytes_eq-Decides name (get_or texts i [])).1 (sym same ∙ sym (get_or_from_slice_get texts i l.name [] there)) in
    let found = list_any_at (bytes_eq name) texts i [] (slice_get_within texts i l.name there) hit in
    let other : list_any (bytes_eq name) texts ≡ false = absent texts name missing in
    cc

apart : (modules : List Loaded) (new : Loaded) (i k : ℕ) (a b : Loaded) → ((i k : ℕ) (a b : Loaded) → slice_get modules i ≡ Some a → slice_get modules k ≡ Some b → a.name ≡ b.name → i ≡ k)
    → IsNew modules new.name → Pushed modules new i a → Pushed modules new k b → a.name ≡ b.name → i ≡ k
apart modules new i k a b was fresh (before e) (before f) same = was i k a b e f same
apart modules new i k a b was fresh (before e) (last f g) same = absurd (fresh i a e (same ∙ sym (ap (λ (l : Loaded). l.name) g)))
apart modules new i k a b was fresh (last e g) (before f) same = absurd (fresh k b f (sym same ∙ sym (ap (λ (l : Loaded). l.name) g)))
apart modules new i k a b was fresh (last e g) (last f h) same = e ∙ sym f

pub title_kept : (pool : Texts) (texts : List (List ℕ)) (longer : Texts) (name : List ℕ) (title : Title) → longer ≡ with_texts pool texts → IsTitle pool name title → IsTitle longer name title
title_kept pool texts longer name title e is =
    subst (λ (p : Texts). IsTitle p name title) (sym e)
    (record { name_is = kept pool texts title.name name is.name_is; last_is = kept pool texts title.last (last_of name) is.last_is })

pub with_further : (modules : List Loaded) (refused : List (List ℕ)) (pool longer : Texts) (name : List ℕ) (m : Module) (k : Brought) → IsLibrary modules refused pool → IsBrought pool (length modules) name m longer k → length modules + length refused < MAX_MODULES → IsVerified m → IsNew modules name → IsLibrary (modules ++ loaded_of k m ∷ []) refused longer
with_further modules refused pool longer name m k lib b room verified fresh = record {
  own = b.own;
  loaded = λ i l e.
      elim (pushed modules (loaded_of k m) i l e) [
        | before f ↦
            let was = lib.loaded i l f in
            record {
              numbers = subst (λ (p : Texts). AreNumbers p l.numbers.items l.«module».qstrs) (sym b.pool_is) (are_kept pool (texts_of name m) l.numbers.items l.«module».qstrs was.numbers);
              values = was.values;
              parts = was.parts;
              title = title_kept pool (texts_of name m) longer l.name l.title b.pool_is was.title;
              fine = was.fine;
              is_module = was.is_module;
              verified = was.verified;
            }
        | last f g ↦
            let here : IsLoaded longer (length modules) (loaded_of k m) = record { title = subst (λ (t : List ℕ). IsTitle longer t k.title) (sym b.name_is) b.title; numbers = b.numbers; values = b.values; parts = b.parts; fine = b.fine; is_module = b.is_module; verified = verified } in
            subst (λ n. IsLoaded longer n l) (sym f) (subst (IsLoaded longer (length modules)) g here)
      ];
  distinct = λ i j x y e f same.
      apart modules (loaded_of k m) i j x y lib.distinct (λ n l g h. fresh n l g (h ∙ b.name_is)) (pushed modules (loaded_of k m) i x e) (pushed modules (loaded_of k m) j y f) same;
  few = omega (arith, room, length-append modules (loaded_of k m ∷ []));
}

pub with_refusal : (modules : List Loaded) (refused : List (List ℕ)) (pool : Texts) (name : List ℕ) → IsLibrary modules refused pool → length modules + length refused < MAX_MODULES → IsLibrary modules (refused ++ name ∷ []) pool
with_refusal modules refused pool name lib room = record {
  own = lib.own;
  loaded = lib.loaded;
  distinct = lib.distinct;
  few = omega (arith, room, length-append refused (name ∷ []));
}

-- as it is seen
abbrev named_as : List ℕ → Module → Named
named_as t m = record { name = t; held = m }

abbrev as_shelf : List Named → List (List ℕ) → Texts → Shelf
as_shelf ns refused p = record { modules = ns; refused = refused; pool = p }

pub seen_further : (modules : List Loaded) (refused : List (List ℕ)) (pool longer : Texts) (shelf : Shelf) (name : List ℕ) (m : Module) (k : Brought) → shelf_of modules refused pool ≡ shelf → IsBrought pool (length modules) name m longer k → shelf_of (modules ++ loaded_of k m ∷ []) refused longer ≡ with_module shelf name m
seen_further modules refused pool longer shelf name m k is b =
    let first : map named (modules ++ loaded_of k m ∷ []) ≡ map named modules ++ record { name = name; held = m } ∷ [] =
    map-append named modules (loaded_of k m ∷ []) ∙ ap (λ (t : List ℕ). map named modules ++ named_as t m ∷ []) b.name_is in
    ap₂ (λ (ns : List Named) (p : Texts). as_shelf ns refused p) first b.pool_is ∙ ap (λ (s : Shelf). with_module s name m) is

-- where an entry goes in
-- ======================

below_or : (a b : ℕ) → a ≡ b → (MAX_MODULES ≤ a → ⊥) → b < MAX_MODULES
below_or a b e none = omega (arith, none)

pub has_room : (modules : List Loaded) (refused : List (List ℕ)) (pool : Texts) (shelf : Shelf) → shelf_of modules refused pool ≡ shelf → (IsFull shelf → ⊥) → length modules + length refused < MAX_MODULES
has_room modules refused pool shelf is room =
    let count : length shelf.modules ≡ length modules = ap (λ (s : Shelf). length s.modules) (sym is) ∙ length-map modules named in
    let names : length shelf.refused ≡ length refused = ap (λ (s : Shelf). length s.refused) (sym is) in
    below_or (length shelf.modules + length shelf.refused) (length modules + length refused) (omega (arith, count, names)) room

-- the only fault beside the first two
fault_is : (r : Refused LibFault) (f : LibFault) → fault_in r ≡ Some f → r ≡ refusals.Fault f
fault_is (refusals.Fault g) f e = let same : g ≡ f = cc in ap (λ (z : LibFault). refusals.Fault z) same
fault_is refusals.NoMemory f e = absurd cc

pub record OnlyNames (r : Refused LibFault) (N : Type 0) : Type 0 where
  pub twice : fault_in r ≡ Some faults.Twice → ⊥
  pub too_many : fault_in r ≡ Some faults.TooMany → ⊥
  pub full : fault_in r ≡ Some faults.Names → N

pub only_names : (r : Refused LibFault) (N : Type 0) → ((f : LibFault) → r ≡ refusals.Fault f → (f ≡ faults.Names) × N) → OnlyNames r N
only_names r N told = record {
  twice = λ e. let f = (told faults.Twice (fault_is r faults.Twice e)).0 in cc;
  too_many = λ e. let f = (told faults.TooMany (fault_is r faults.TooMany e)).0 in cc;
  full = λ e. (told faults.Names (fault_is r faults.Names e)).1;
}

pub not_there : (o : Option Member) → o ≡ None → IsSome o → ⊥
not_there o e s = let none : is_some o ≡ false = ap is_some e in cc

-- what is seen of the modules
-- ===========================

-- a module that is seen is kept
record IsKept (modules : List Loaded) (i : ℕ) (n : Named) : Type 0 where
  loaded : Loaded
  there : slice_get modules i ≡ Some loaded
  is : named loaded ≡ n

kept_by : (modules : List Loaded) (i : ℕ) (n : Named) → slice_get (map named modules) i ≡ Some n → IsKept modules i n
kept_by modules i n e = by (slice_get modules i) refl (sym (slice_get-map named modules i) ∙ e)
  where
    by : (o : Option Loaded) → slice_get modules i ≡ o → option_map named o ≡ Some n → IsKept modules i n
    by None f g = absurd cc
    by (Some l) f g = record { loaded = l; there = f; is = cc }

pub seen_distinct : (modules : List Loaded) (refused : List (List ℕ)) (pool : Texts) (shelf : Shelf) → shelf_of modules refused pool ≡ shelf → IsLibrary modules refused pool
    → (i k : ℕ) (a b : Named) → slice_get shelf.modules i ≡ Some a → slice_get shelf.modules k ≡ Some b → a.name ≡ b.name → i ≡ k
seen_distinct modules refused pool shelf is lib i k a b e f same =
    let all : shelf.modules ≡ map named modules = ap (λ (s : Shelf). s.modules) (sym is) in
    let x = kept_by modules i a (ap (λ (ns : List Named). slice_get ns i) (sym all) ∙ e) in
    let y = kept_by modules k b (ap (λ (ns : List Named). slice_get ns k) (sym all) ∙ f) in
    lib.distinct i k x.loaded y.loaded x.there y.there (ap (λ (n : Named). n.name) x.is ∙ (same ∙ sym (ap (λ (n : Named). n.name) y.is)))

-- a fact that is kept of each module holds of each that is seen
seen_each : (P : Module → Type 0) (modules : List Loaded) (refused : List (List ℕ)) (pool : Texts) (shelf : Shelf) → shelf_of modules refused pool ≡ shelf → ((i : ℕ) (l : Loaded) → slice_get modules i ≡ Some l → P l.«module»)
    → (i : ℕ) (m : Module) → module_at shelf i ≡ Some m → P m
seen_each P modules refused pool shelf is each i m e = by (slice_get (map named modules) i) refl (ap (λ (s : Shelf). module_at s i) is ∙ e)
  where
    by : (o : Option Named) → slice_get (map named modules) i ≡ o → option_and_then (λ (n : Named). Some n.held) o ≡ Some m → P m
    by None f g = absurd cc
    by (Some n) f g =
        let x = kept_by modules i n f in
        let same : x.loaded.«module» ≡ m = ap (λ (n : Named). n.held) x.is ∙ cc in
        subst P same (each i x.loaded x.there)

pub seen_files : (modules : List Loaded) (refused : List (List ℕ)) (pool : Texts) (shelf : Shelf) → shelf_of modules refused pool ≡ shelf → IsLibrary modules refused pool → (i : ℕ) (m : Module) → module_at shelf i ≡ Some m → IsModule m
seen_files modules refused pool shelf is lib = seen_each IsModule modules refused pool shelf is (λ i l e. (lib.loaded i l e).is_module)

pub seen_verified : (modules : List Loaded) (refused : List (List ℕ)) (pool : Texts) (shelf : Shelf) → shelf_of modules refused pool ≡ shelf → IsLibrary modules refused pool → (i : ℕ) (m : Module) → module_at shelf i ≡ Some m → IsVerified m
seen_verified modules refused pool shelf is lib = seen_each IsVerified modules refused pool shelf is (λ i l e. (lib.loaded i l e).verified)

-- the texts of a module have numbers
abbrev HasTexts : Texts → Module → Type 0
HasTexts pool m = (q : ℕ) (text : List ℕ) → option_and_then raw.text_of (slice_get m.qstrs q) ≡ Some text → (n : ℕ) × (text_numbered pool n ≡ Some text)

numbered_by : (pool : Texts) (r : Option ℕ) (s : Option Qstr) (text : List ℕ) → option_map (text_numbered pool) r ≡ option_map raw.text_of s → option_and_then raw.text_of s ≡ Some text
    → (n : ℕ) × (text_numbered pool n ≡ Some text)
numbered_by pool r None text e f = absurd cc
numbered_by pool None (Some q) text e f = absurd cc
numbered_by pool (Some n) (Some q) text e f = (n, cc)

pub seen_texts : (modules : List Loaded) (refused : List (List ℕ)) (pool : Texts) (shelf : Shelf) → shelf_of modules refused pool ≡ shelf → IsLibrary modules refused pool
    → (i q : ℕ) (text : List ℕ) → table_text shelf i q ≡ Some text → (n : ℕ) × (text_numbered shelf.pool n ≡ Some text)
seen_texts modules refused pool shelf is lib i q text e = by (module_at shelf i) refl e
  where
    has : (m : Module) → module_at shelf i ≡ Some m → HasTexts pool m
    has m f =
        seen_each (HasTexts pool) modules refused pool shelf is
        (λ j l g k t h. numbered_by pool (slice_get l.numbers.items k) (slice_get l.«module».qstrs k) t (same_there pool l.numbers.items l.«module».qstrs k (lib.loaded j l g).numbers) h)
        i m f

    by : (o : Option Module) → module_at shelf i ≡ o → option_and_then raw.text_of (option_and_then (λ (m : Module). slice_get m.qstrs q) o) ≡ Some text
        → (n : ℕ) × (text_numbered shelf.pool n ≡ Some text)
    by None f g = absurd cc
    by (Some m) f g =
        subst (λ (p : Texts). (n : ℕ) × (text_numbered p n ≡ Some text)) (ap (λ (s : Shelf). s.pool) is) (has m f q text g)

-- titles
-- ======

pub title_told : (modules : List Loaded) (refused : List (List ℕ)) (pool : Texts) (shelf : Shelf) (i : ℕ) (l : Loaded) → shelf_of modules refused pool ≡ shelf → IsLibrary modules refused pool → slice_get modules i ≡ Some l
    → (n : Named) → slice_get shelf.modules i ≡ Some n → IsTitle shelf.pool n.name l.title
title_told modules refused pool shelf i l is lib e n f =
    let there : slice_get shelf.modules i ≡ Some (named l) = ap (λ (s : Shelf). slice_get s.modules i) (sym is) ∙ (slice_get-map named modules i ∙ ap (option_map named) e) in
    let both : Some (named l) ≡ Some n = sym there ∙ f in
    let same : named l ≡ n = cc in
    subst (λ (p : Texts). IsTitle p n.name l.title) (ap (λ (s : Shelf). s.pool) is)
    (subst (λ (z : Named). IsTitle pool z.name l.title) same (lib.loaded i l e).title)

pub there_told : (modules : List Loaded) (refused : List (List ℕ)) (pool : Texts) (shelf : Shelf) (i : ℕ) → shelf_of modules refused pool ≡ shelf → is_some (slice_get modules i) ≡ is_some (slice_get shelf.modules i)
there_told modules refused pool shelf i is =
    some_map (slice_get modules i) ∙ (ap is_some (sym (slice_get-map named modules i)) ∙ ap (λ (s : Shelf). is_some (slice_get s.modules i)) is)
  where
    some_map : (o : Option Loaded) → is_some o ≡ is_some (option_map named o)
    some_map None = refl
    some_map (Some l) = refl
