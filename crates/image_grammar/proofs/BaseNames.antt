-- The names of a library's modules.
use Rattle.std.proofs.Common.{◌≡◌, ℕ, zero, suc, ◌<◌, ◌≤◌, true, false, List, [], ◌∷◌, length, Option, Some, None, Bor, refl, sym, ap, subst, ◌∙◌, arith}
use Rattle.std.specs.Prelude.{◌↔◌, Contains, IsSome, IsTrue, MatchOption, option_and_then, option_copied, position, slice_get}
use Rattle.std.specs.List.{list_any}
use Rattle.std.specs.Str.{bytes_eq}
use Rattle.std.proofs.lemmas.List.Folds.{list_any_at}
use Rattle.std.proofs.lemmas.Option.{slice_get_within, get_or_from_slice_get}
use Rattle.std.proofs.lemmas.Slice.Eq.{bytes_eq-Decides}
use Rattle.qstr_pool.proofs.Places.{absent, found}
use Rattle.mpy_reader.specs.mpy_tree.Raw.{Module}
use Rattle.bc_library.specs.Shelf.{Named, Shelf, member_by, member_of, module_at, names}
use Rattle.bc_library.specs.Texts.{IsTitle, text_numbered}
use Rattle.bc_library.specs.declared.fault.Member.{Member}
use Rattle.bc_library.specs.declared.texts.Title.{Title}

no_one : (all : List (List ℕ)) (name : List ℕ) → position (bytes_eq name) all ≡ None → Contains all name → ⊥
no_one all name e (k, lt, is) =
    let there : list_any (bytes_eq name) all ≡ true = list_any_at (bytes_eq name) all k name lt ((bytes_eq-Decides name _).1 (sym is)) in
    let none = absent all name e in
    absurd cc

has_by : (all : List (List ℕ)) (name : List ℕ) (o : Option ℕ) → o ≡ position (bytes_eq name) all → IsSome (member_by o false) ↔ Contains all name
has_by all name (Some i) e = let at = found all name i (sym e) in (λ _. (i, slice_get_within all i name at, get_or_from_slice_get all i name name at), λ _. refl)
has_by all name None e = (λ h. let no : false ≡ true = h in absurd cc, λ has. absurd (no_one all name (sym e) has))

-- a name leads to an entry where it is that of a module, if no entry was refused
pub leads : (shelf : Shelf) (name : List ℕ) → shelf.refused ≡ [] → IsSome (member_of shelf name) ↔ Contains (names shelf) name
leads shelf name alone =
    let P : List (List ℕ) → Type 0 = λ r. IsSome (member_by (position (bytes_eq name) (names shelf)) (list_any (bytes_eq name) r)) ↔ Contains (names shelf) name in
    subst P (sym alone) (has_by (names shelf) name (position (bytes_eq name) (names shelf)) refl)

pub found_some : (shelf : Shelf) (name : List ℕ) (m : Member) → shelf.refused ≡ [] → Some m ≡ member_of shelf name → IsTrue true ↔ Contains (names shelf) name
found_some shelf name m alone e = (λ _. (leads shelf name alone).0 (subst IsSome e refl), λ _. refl)

pub found_none : (shelf : Shelf) (name : List ℕ) → shelf.refused ≡ [] → None ≡ member_of shelf name → IsTrue false ↔ Contains (names shelf) name
found_none shelf name alone e = (λ is. let no : false ≡ true = is in absurd cc, λ has. subst IsSome (sym e) ((leads shelf name alone).1 has))

-- a module and its name
-- =====================

pub past : (modules : List Named) (i : ℕ) → slice_get modules i ≡ None → length modules ≤ i
past [] i e = omega arith
past (x ∷ xs) zero e = absurd cc
past (x ∷ xs) (suc i) e = let le = past xs i e in omega (arith, le)

none_by : (o : Option Named) → option_and_then (λ (n : Named). Some n.held) o ≡ None → o ≡ None
none_by None e = refl
none_by (Some n) e = absurd cc

some_by : (o : Option Named) (m : Module) → option_and_then (λ (n : Named). Some n.held) o ≡ Some m → (n : Named) × (o ≡ Some n)
some_by None m e = absurd cc
some_by (Some n) m e = (n, refl)

pub no_module : (shelf : Shelf) (i : ℕ) → module_at shelf i ≡ None → length shelf.modules ≤ i
no_module shelf i e = past shelf.modules i (none_by (slice_get shelf.modules i) e)

pub one_module : (shelf : Shelf) (i : ℕ) (m : Module) → module_at shelf i ≡ Some m → i < length shelf.modules
one_module shelf i m e = let s = some_by (slice_get shelf.modules i) m e in slice_get_within shelf.modules i s.0 s.1

-- the text of the number of a name
abbrev pub name_at : Shelf → ℕ → Option (List ℕ)
name_at shelf i = option_and_then (λ (n : Named). Some n.name) (slice_get shelf.modules i)

pub named : (shelf : Shelf) (i number : ℕ) (n : Named) → slice_get shelf.modules i ≡ Some n → text_numbered shelf.pool number ≡ Some n.name → text_numbered shelf.pool number ≡ name_at shelf i
named shelf i number n at is = is ∙ ap (option_and_then (λ (n : Named). Some n.name)) (sym at)

-- the text that a call tells
pub copied_is : (o : Option (Bor (List ℕ))) (e : Option (List ℕ)) → MatchOption o (e ≡ None) (λ text. e ≡ Some text.now) → option_copied o ≡ e
copied_is None e h = sym h
copied_is (Some text) e h = sym h

pub titled : (shelf : Shelf) (i : ℕ) (title : Title) → ((n : Named) → slice_get shelf.modules i ≡ Some n → IsTitle shelf.pool n.name title) → IsSome (slice_get shelf.modules i) → text_numbered shelf.pool title.name ≡ name_at shelf i
titled shelf i title is some = by (slice_get shelf.modules i) refl some
  where
    by : (o : Option Named) → o ≡ slice_get shelf.modules i → IsSome o → text_numbered shelf.pool title.name ≡ name_at shelf i
    by (Some n) e h = named shelf i title.name n (sym e) (is n (sym e)).name_is
    by None e h = let no : false ≡ true = h in absurd cc
