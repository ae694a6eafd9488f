-- Modules that are put into a library one after another.
use Rattle.std.proofs.Common.{◌≡◌, ℕ, suc, ◌+◌, ◌≤◌, false, List, [], ◌∷◌, ◌++◌, length, length-append, Option, Some, None, refl, sym, ap, ap₂, subst, ◌∙◌, append_assoc, arith}
use Rattle.std.specs.Prelude.{All, Contains, position}
use Rattle.std.specs.List.{AllByRecursion}
use Rattle.std.specs.Str.{bytes_eq}
use Rattle.std.proofs.lemmas.Grind.{flat_map-append}
use Rattle.std.proofs.lemmas.List.{append-nil, map-append, length-map}
use Rattle.std.proofs.lemmas.List.Elements.{recursion_from_All}
use Rattle.std.proofs.lemmas.Option.{slice_get_within, get_or_from_slice_get}
use Rattle.mpy_base.specs.declared.limits.TheConstants.{MAX_MODULES, MAX_TABLE}
use Rattle.qstr_pool.specs.Pool.{Texts}
use Rattle.qstr_pool.proofs.Places.{found}
use Rattle.image_grammar.specs.bc_library.Shelf.{Named, Shelf, IsFull, member_of, member_by, no_entries, names, with_module}
use Rattle.image_grammar.specs.bc_library.Texts.{IsPlain, texts_of, with_texts}
use Rattle.image_grammar.proofs.bc_library_lemmas.Pools.{with_append, longer}
use Rattle.image_grammar.specs.declared.entry.Entry.{Entry}
use Rattle.image_grammar.specs.Image.{Differ, texts_used}
use Rattle.image_grammar.specs.Opening.{names_of}
use Rattle.image_open.specs.Opens.{named, shelf_of}

-- some of the modules are in the library, and these are left
pub record Shelved (all rest : List Entry) (shelf : Shelf) : Type 0 where
  pub done : List Entry
  pub parts : all ≡ done ++ rest
  pub shelf_is : shelf ≡ shelf_of done

pub none_shelved : (all rest : List Entry) (shelf : Shelf) → rest ≡ all → shelf ≡ no_entries → Shelved all rest shelf
none_shelved all rest shelf e f = record { done = []; parts = sym e; shelf_is = f }

pub all_shelved : (all rest : List Entry) (shelf : Shelf) → rest ≡ [] → Shelved all rest shelf → shelf ≡ shelf_of all
all_shelved all rest shelf e s =
    let same : all ≡ s.done = s.parts ∙ (ap (λ (z : List Entry). s.done ++ z) e ∙ append-nil s.done) in
    s.shelf_is ∙ ap shelf_of (sym same)

used_push : (entries : List Entry) (e : Entry) → texts_used (entries ++ e ∷ []) ≡ texts_used entries ++ texts_of e.name e.held
used_push entries e = flat_map-append (λ (entry : Entry). texts_of entry.name entry.held) entries (e ∷ []) ∙ ap (λ (z : List (List ℕ)). texts_used entries ++ z) (append-nil (texts_of e.name e.held))

abbrev made : List Named → Texts → Shelf
made modules pool = record { modules = modules; refused = []; pool = pool }

shelf_push : (entries : List Entry) (e : Entry) → with_module (shelf_of entries) e.name e.held ≡ shelf_of (entries ++ e ∷ [])
shelf_push entries e =
    let modules = sym (map-append named entries (e ∷ [])) in
    let pools : with_texts (with_texts no_entries.pool (texts_used entries)) (texts_of e.name e.held) ≡ with_texts no_entries.pool (texts_used (entries ++ e ∷ [])) =
    sym (with_append no_entries.pool (texts_used entries) (texts_of e.name e.held)) ∙ ap (with_texts no_entries.pool) (sym (used_push entries e)) in
    ap₂ made modules pools

pub next_shelved : (all rest more : List Entry) (e : Entry) (shelf new : Shelf) → rest ≡ e ∷ more → new ≡ with_module shelf e.name e.held → Shelved all rest shelf → Shelved all more new
next_shelved all rest more e shelf new is put s = record {
  done = s.done ++ e ∷ [];
  parts = s.parts ∙ (ap (λ (z : List Entry). s.done ++ z) is ∙ sym (append_assoc s.done (e ∷ []) more));
  shelf_is = put ∙ (ap (λ (z : Shelf). with_module z e.name e.held) s.shelf_is ∙ shelf_push s.done e);
}

-- the next module goes in
-- =======================

other_name : (before : List (List ℕ)) (done more : List Entry) (e : Entry) → Differ before (names_of (done ++ e ∷ more)) → Contains (before ++ names_of done) e.name → ⊥
other_name before [] more e d has = d.0 (subst (λ (z : List (List ℕ)). Contains z e.name) (append-nil before) has)
other_name before (x ∷ xs) more e d has = other_name (before ++ x.name ∷ []) xs more e d.1 (subst (λ (z : List (List ℕ)). Contains z e.name) (sym (append_assoc before (x.name ∷ []) (names_of xs))) has)

no_place : (texts : List (List ℕ)) (text : List ℕ) (o : Option ℕ) → o ≡ position (bytes_eq text) texts → (Contains texts text → ⊥) → o ≡ None
no_place texts text None e never = refl
no_place texts text (Some i) e never =
    let at = found texts text i (sym e) in
    absurd (never (i, slice_get_within texts i text at, get_or_from_slice_get texts i text text at))

same_names : (entries : List Entry) → names (shelf_of entries) ≡ names_of entries
same_names [] = refl
same_names (e ∷ es) = ap (λ (z : List (List ℕ)). e.name ∷ z) (same_names es)

pub is_new : (all rest more : List Entry) (e : Entry) (shelf : Shelf) → Differ [] (names_of all) → rest ≡ e ∷ more → Shelved all rest shelf → member_of shelf e.name ≡ None
is_new all rest more e shelf differ is s =
    let parts : all ≡ s.done ++ e ∷ more = s.parts ∙ ap (λ (z : List Entry). s.done ++ z) is in
    let d = subst (λ (z : List Entry). Differ [] (names_of z)) parts differ in
    let names_are : names (shelf_of s.done) ≡ names_of s.done = same_names s.done in
    let none : position (bytes_eq e.name) (names_of s.done) ≡ None = no_place (names_of s.done) e.name _ refl (other_name [] s.done more e d) in
    let there : position (bytes_eq e.name) (names (shelf_of s.done)) ≡ None = ap (position (bytes_eq e.name)) names_are ∙ none in
    ap (λ (z : Shelf). member_of z e.name) s.shelf_is ∙ ap (λ (o : Option ℕ). member_by o false) there

pub has_room : (all rest more : List Entry) (e : Entry) (shelf : Shelf) → length all ≤ MAX_MODULES → rest ≡ e ∷ more → Shelved all rest shelf → IsFull shelf → ⊥
has_room all rest more e shelf few is s full =
    let modules : length shelf.modules ≡ length s.done = ap (λ (z : Shelf). length z.modules) s.shelf_is ∙ length-map s.done named in
    let refused : length shelf.refused ≡ 0 = ap (λ (z : Shelf). length z.refused) s.shelf_is in
    let lengths : length all ≡ length s.done + suc (length more) = ap length (s.parts ∙ ap (λ (z : List Entry). s.done ++ z) is) ∙ length-append s.done (e ∷ more) in
    omega (arith, few, full, modules, refused, lengths)

used_all : (done more : List Entry) (e : Entry) → texts_used (done ++ e ∷ more) ≡ texts_used done ++ (texts_of e.name e.held ++ texts_used more)
used_all done more e = flat_map-append (λ (entry : Entry). texts_of entry.name entry.held) done (e ∷ more)

pub does_fit : (all rest more : List Entry) (e : Entry) (shelf : Shelf) → length (with_texts no_entries.pool (texts_used all)).texts ≤ MAX_TABLE → rest ≡ e ∷ more → Shelved all rest shelf → length (with_module shelf e.name e.held).pool.texts ≤ MAX_TABLE
does_fit all rest more e shelf fit is s =
    let start = no_entries.pool in
    let mine = texts_of e.name e.held in
    let now = with_texts start (texts_used s.done) in
    let whole : with_texts start (texts_used all) ≡ with_texts (with_texts now mine) (texts_used more) =
    ap (λ (z : List Entry). with_texts start (texts_used z)) (s.parts ∙ ap (λ (z : List Entry). s.done ++ z) is)
    ∙ (ap (with_texts start) (used_all s.done more e) ∙ (with_append start (texts_used s.done) (mine ++ texts_used more) ∙ with_append now mine (texts_used more))) in
    let no_less = longer (with_texts now mine) (texts_used more) in
    let same : (with_module shelf e.name e.held).pool ≡ with_texts now mine = ap (λ (z : Shelf). with_texts z.pool mine) s.shelf_is in
    omega (arith, fit, no_less, ap (λ (z : Texts). length z.texts) whole, ap (λ (z : Texts). length z.texts) same)

pub plain_next : (all rest more : List Entry) (e : Entry) (shelf : Shelf) → All (λ entry. IsPlain entry.name) all → rest ≡ e ∷ more → Shelved all rest shelf → IsPlain e.name
plain_next all rest more e shelf plain is s =
    let parts : all ≡ s.done ++ e ∷ more = s.parts ∙ ap (λ (z : List Entry). s.done ++ z) is in
    behind s.done (recursion_from_All (λ (entry : Entry). IsPlain entry.name) (s.done ++ e ∷ more) (subst (λ (z : List Entry). All (λ entry. IsPlain entry.name) z) parts plain))
  where
    behind : (done : List Entry) → AllByRecursion (λ (entry : Entry). IsPlain entry.name) (done ++ e ∷ more) → IsPlain e.name
    behind [] p = p.0
    behind (x ∷ xs) p = behind xs p.1
