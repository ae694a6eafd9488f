-- The tables of a library, module after module and text after text.
use Rattle.std.proofs.Common.{◌≡◌, ℕ, zero, suc, ◌-◌, ◌≤◌, Bool, true, false, List, [], ◌∷◌, ◌++◌, length, Option, Some, None, refl, sym, ap, subst, ◌∙◌, arith, position, Bor, option_copied}
use Rattle.std.specs.Prelude.{IfSome, IfNone, slice_get, option_and_then, nat_lt, if◌then◌else◌}
use Rattle.std.specs.List.{list_any}
use Rattle.std.specs.Str.{bytes_eq}
use Rattle.std.proofs.lemmas.Bool.Decides.{nat_tests}
use Rattle.qstr_pool.specs.declared.table.TheConstants.{FIRST_OWN}
use Rattle.qstr_pool.specs.Pool.{Texts, text_of}
use Rattle.qstr_pool.specs.Static.{static_text_of}
use Rattle.bc_machine.specs.mpy_tree.Raw.{Module}
use Rattle.bc_machine.specs.mpy_tree.File.{IsModule}
use Rattle.bc_machine.specs.mpy_tree.Codes.{Placed, codes_of}
use Rattle.bc_library.specs.Shelf.{Shelf, Named, names, module_at, member_by, member_of}
use Rattle.bc_library.specs.Texts.{text_numbered}
use Rattle.bc_rows.specs.declared.row.Row.{Row}
use Rattle.bc_rows.specs.Codes.{code_numbered}
use Rattle.bc_rows.specs.Rows.{IsRowOf, IsRow, module_named}
use Rattle.bc_rows.specs.Made.{AreRows, AreTables, AreNamed, IsKept, module_in}
use Rattle.bc_library.proofs.Told.{behind}

-- lists that grow at the end
-- ==========================

data Place {A : Type 0} (xs : List A) (y : A) (k : ℕ) (x : A) : Type 0 where
  old : slice_get xs k ≡ Some x → Place xs y k x
  new : k ≡ length xs → y ≡ x → Place xs y k x

place_more : {A : Type 0} {xs : List A} {y : A} {k : ℕ} {x : A} (z : A) → Place xs y k x → Place (z ∷ xs) y (suc k) x
place_more z (old e) = old e
place_more z (new e f) = new (ap suc e) f

place : {A : Type 0} (xs : List A) (y : A) (k : ℕ) (x : A) → slice_get (xs ++ y ∷ []) k ≡ Some x → Place xs y k x
place [] y zero x e = new refl cc
place [] y (suc k) x e = absurd cc
place (z ∷ xs) y zero x e = old e
place (z ∷ xs) y (suc k) x e = place_more z (place xs y k x e)

-- modules
-- =======

past_modules : (ms : List Named) (i : ℕ) → length ms ≤ i → option_and_then (λ (n : Named). Some n.held) (slice_get ms i) ≡ None
past_modules [] i le = refl
past_modules (m ∷ ms) zero le = absurd (omega (arith, le))
past_modules (m ∷ ms) (suc i) le = past_modules ms i (omega (arith, le))

pub no_module : (shelf : Shelf) (i : ℕ) → length shelf.modules ≤ i → module_at shelf i ≡ None
no_module shelf i le = past_modules shelf.modules i le

last_module : (ms : List Named) (i : ℕ) → option_and_then (λ (n : Named). Some n.held) (slice_get ms i) ≡ None → length ms ≤ i
last_module [] i e = omega arith
last_module (m ∷ ms) zero e = absurd cc
last_module (m ∷ ms) (suc i) e = let le = last_module ms i e in omega (arith, le)

-- none behind the first that isn't there
pub none_behind : (shelf : Shelf) (i k : ℕ) → module_at shelf i ≡ None → i ≤ k → module_at shelf k ≡ None
none_behind shelf i k e le = no_module shelf k (let first = last_module shelf.modules i e in omega (arith, first, le))

pub one_table : (shelf : Shelf) (tables more : List (List Row)) (i : ℕ) (m : Module) (rows : List Row) → AreTables shelf tables → length tables ≡ i → module_at shelf i ≡ Some m → IsModule m → AreRows shelf i (codes_of m) rows → more ≡ tables ++ rows ∷ [] → AreTables shelf more
one_table shelf tables more i m rows are count there is h e k found at =
    by (place tables rows k found (ap (λ z. slice_get z k) (sym e) ∙ at))
  where
    by : Place tables rows k found → (m : Module) × (module_at shelf k ≡ Some m) × IsModule m × AreRows shelf k (codes_of m) found
    by (old f) = are k found f
    by (new f g) =
        let here : i ≡ k = sym count ∙ sym f in
        subst (λ z. (m : Module) × (module_at shelf k ≡ Some m) × IsModule m × AreRows shelf k (codes_of m) z) g
        (subst (λ n. (m : Module) × (module_at shelf n ≡ Some m) × IsModule m × AreRows shelf n (codes_of m) rows) here (m, there, is, h))

-- the row that is found
-- =====================

row_there : (shelf : Shelf) (i : ℕ) (codes : List Placed) (rows : List Row) (k : ℕ) (row : Row) → AreRows shelf i codes rows → slice_get rows k ≡ Some row → (code : Placed) × (slice_get codes k ≡ Some code) × IsRowOf shelf i code row
row_there shelf i [] [] k row h e = absurd cc
row_there shelf i [] (r ∷ rows) k row h e = absurd h
row_there shelf i (c ∷ codes) [] k row h e = absurd h
row_there shelf i (c ∷ codes) (r ∷ rows) zero row h e = let same : r ≡ row = cc in (c, refl, subst (IsRowOf shelf i c) same h.0)
row_there shelf i (c ∷ codes) (r ∷ rows) (suc k) row h e = row_there shelf i codes rows k row h.1 e

no_row : (shelf : Shelf) (i : ℕ) (codes : List Placed) (rows : List Row) (k : ℕ) → AreRows shelf i codes rows → slice_get rows k ≡ None → slice_get codes k ≡ None
no_row shelf i [] rows k h e = refl
no_row shelf i (c ∷ codes) [] k h e = absurd h
no_row shelf i (c ∷ codes) (r ∷ rows) zero h e = absurd cc
no_row shelf i (c ∷ codes) (r ∷ rows) (suc k) h e = no_row shelf i codes rows k h.1 e

code_in : (shelf : Shelf) (i k : ℕ) (m : Module) (o : Option Placed) → module_at shelf i ≡ Some m → slice_get (codes_of m) k ≡ o → code_numbered shelf i k ≡ o
code_in shelf i k m o e f = ap (option_and_then (λ (m : Module). slice_get (codes_of m) k)) e ∙ f

pub row_found : (shelf : Shelf) (tables : List (List Row)) (i k : ℕ) (rows : List Row) (r : Option (Bor Row)) → AreTables shelf tables → slice_get tables i ≡ Some rows → option_copied r ≡ slice_get rows k → IfSome r (λ row. IsRow shelf i k row.now)
row_found shelf tables i k rows r are there e =
    behind (IsRow shelf i k) r (slice_get rows k) e (λ row at.
    let t = are i rows there in
    let f = row_there shelf i (codes_of t.0) rows k row t.3 at in
    record { code = f.0; there = code_in shelf i k t.0 (Some f.0) t.1 f.1; is_row = f.2 })

none_by : (P : Type 0) (r : Option (Bor Row)) (o : Option Row) → option_copied r ≡ o → (o ≡ None → P) → IfNone r P
none_by P None o e f = f (sym e)
none_by P (Some b) o e f = tt

pub row_missing : (shelf : Shelf) (tables : List (List Row)) (i k : ℕ) (rows : List Row) (r : Option (Bor Row)) → AreTables shelf tables → slice_get tables i ≡ Some rows → option_copied r ≡ slice_get rows k → IfNone r (code_numbered shelf i k ≡ None)
row_missing shelf tables i k rows r are there e =
    none_by (code_numbered shelf i k ≡ None) r (slice_get rows k) e (λ at.
    let t = are i rows there in
    code_in shelf i k t.0 None t.1 (no_row shelf i (codes_of t.0) rows k t.3 at))

past_tables : (tables : List (List Row)) (i : ℕ) → slice_get tables i ≡ None → length tables ≤ i
past_tables [] i e = omega arith
past_tables (t ∷ tables) zero e = absurd cc
past_tables (t ∷ tables) (suc i) e = let le = past_tables tables i e in omega (arith, le)

pub table_missing : (shelf : Shelf) (tables : List (List Row)) (named : List (Option ℕ)) (i k : ℕ) → IsKept shelf tables named → slice_get tables i ≡ None → code_numbered shelf i k ≡ None
table_missing shelf tables named i k kept e = ap (option_and_then (λ (m : Module). slice_get (codes_of m) k)) (kept.all i (past_tables tables i e))

-- the row of a code
row_of_code : (shelf : Shelf) (i : ℕ) (codes : List Placed) (rows : List Row) (k : ℕ) (code : Placed) → AreRows shelf i codes rows → slice_get codes k ≡ Some code → (row : Row) × IsRowOf shelf i code row
row_of_code shelf i [] rows k code h e = absurd cc
row_of_code shelf i (c ∷ codes) [] k code h e = absurd h
row_of_code shelf i (c ∷ codes) (r ∷ rows) zero code h e = let same : c ≡ code = cc in (r, subst (λ z. IsRowOf shelf i z r) same h.0)
row_of_code shelf i (c ∷ codes) (r ∷ rows) (suc k) code h e = row_of_code shelf i codes rows k code h.1 e

pub has_row : (shelf : Shelf) (tables : List (List Row)) (named : List (Option ℕ)) (i k : ℕ) (code : Placed) → IsKept shelf tables named → code_numbered shelf i k ≡ Some code → (row : Row) × IsRow shelf i k row
has_row shelf tables named i k code kept e = by (slice_get tables i) refl
  where
    by : (o : Option (List Row)) → slice_get tables i ≡ o → (row : Row) × IsRow shelf i k row
    by None f = absurd (let no : Some code ≡ None = sym e ∙ table_missing shelf tables named i k kept f in cc)
    by (Some rows) f =
        let t = kept.rows i rows f in
        let there : slice_get (codes_of t.0) k ≡ Some code = sym (code_in shelf i k t.0 (slice_get (codes_of t.0) k) t.1 refl) ∙ e in
        let r = row_of_code shelf i (codes_of t.0) rows k code t.3 there in
        (r.0, record { code = code; there = e; is_row = r.1 })

-- names
-- =====

member_is : (place : Option ℕ) (b : Bool) → module_in (member_by place b) ≡ place
member_is (Some n) b = refl
member_is None true = refl
member_is None false = refl

pub module_found : (shelf : Shelf) (name : List ℕ) → module_in (member_of shelf name) ≡ position (bytes_eq name) (names shelf)
module_found shelf name = member_is (position (bytes_eq name) (names shelf)) (list_any (bytes_eq name) shelf.refused)

pub named_by : (shelf : Shelf) (n : ℕ) (name : List ℕ) (r : Option ℕ) → text_numbered shelf.pool n ≡ Some name → r ≡ module_in (member_of shelf name) → r ≡ module_named shelf n
named_by shelf n name r e f = f ∙ (module_found shelf name ∙ ap (option_and_then (λ text. position (bytes_eq text) (names shelf))) (sym e))

pub named_none : (shelf : Shelf) (n : ℕ) → text_numbered shelf.pool n ≡ None → module_named shelf n ≡ None
named_none shelf n e = ap (option_and_then (λ text. position (bytes_eq text) (names shelf))) e

past_texts : (texts : List (List ℕ)) (i k : ℕ) → slice_get texts i ≡ None → i ≤ k → slice_get texts k ≡ None
past_texts [] i k e le = refl
past_texts (t ∷ texts) zero k e le = absurd cc
past_texts (t ∷ texts) (suc i) zero e le = absurd (omega (arith, le))
past_texts (t ∷ texts) (suc i) (suc k) e le = past_texts texts i k e (omega (arith, le))

own_text : (pool : Texts) (n : ℕ) → pool.first ≡ FIRST_OWN → FIRST_OWN ≤ n → text_numbered pool n ≡ slice_get pool.texts (n - FIRST_OWN)
unfolding text_numbered
own_text pool n first le =
    let test : nat_lt n FIRST_OWN ≡ false = grind (arith, nat_tests) in
    let again : nat_lt n pool.first ≡ false = ap (nat_lt n) first ∙ test in
    ap (λ b. if b then static_text_of n else text_of pool n) test
    ∙ (ap (λ b. if b then None else slice_get pool.texts (n - pool.first)) again ∙ ap (λ f. slice_get pool.texts (n - f)) first)

-- no text behind the first number that has none
pub none_named : (shelf : Shelf) (i k : ℕ) → shelf.pool.first ≡ FIRST_OWN → FIRST_OWN ≤ i → text_numbered shelf.pool i ≡ None → i ≤ k → module_named shelf k ≡ None
none_named shelf i k first own e le =
    let there = sym (own_text shelf.pool i first own) ∙ e in
    named_none shelf k (own_text shelf.pool k first (omega (arith, own, le)) ∙ past_texts shelf.pool.texts (i - FIRST_OWN) (k - FIRST_OWN) there (omega (arith, le)))

pub one_named : (shelf : Shelf) (named more : List (Option ℕ)) (i : ℕ) (entry : Option ℕ) → AreNamed shelf named → length named ≡ i → entry ≡ module_named shelf i → more ≡ named ++ entry ∷ [] → AreNamed shelf more
one_named shelf named more i entry are count is e k found at =
    by (place named entry k found (ap (λ z. slice_get z k) (sym e) ∙ at))
  where
    by : Place named entry k found → found ≡ module_named shelf k
    by (old f) = are k found f
    by (new f g) = sym g ∙ (is ∙ ap (module_named shelf) (sym count ∙ sym f))

-- each module of a library is one that a file holds
pub is_module : (shelf : Shelf) (tables : List (List Row)) (named : List (Option ℕ)) (i : ℕ) (m : Module) → IsKept shelf tables named → module_at shelf i ≡ Some m → IsModule m
is_module shelf tables named i m kept e = by (slice_get tables i) refl
  where
    by : (o : Option (List Row)) → slice_get tables i ≡ o → IsModule m
    by None f = absurd (let none = kept.all i (past_tables tables i f) in let wrong : Some m ≡ None = sym e ∙ none in cc)
    by (Some rows) f =
        let t = kept.rows i rows f in
        let both : Some t.0 ≡ Some m = sym t.1 ∙ e in
        let same : t.0 ≡ m = cc in
        subst IsModule same t.2
