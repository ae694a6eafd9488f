-- The slots of each function by its number are its locals.
use Rattle.std.proofs.Common.{◌≡◌, ℕ, zero, suc, ◌+◌, ◌≤◌, Bool, true, false, not, cond, ◌&&◌, ◌||◌, List, [], ◌∷◌, ◌++◌, length, filter, map, inl, inr, refl, sym, ap, ap₂, ◌∙◌, eq-eqb, arith}
use Rattle.std.specs.Str.{bytes_eq}
use Rattle.std.proofs.lemmas.Bool.Decides.{eqb_tells}
use Rattle.std.proofs.lemmas.Slice.Eq.{bytes_eq-Decides}
use Rattle.py_scopes.specs.Names.{has, firsts, Table}
use Rattle.py_scopes.specs.Scopes.{locals, locals_below}
use Rattle.py_scopes.proofs.Tables.{has-kept}
use Rattle.py_meaning.specs.Tree.{Name, Function}
use Rattle.py_meaning.specs.Locals.{bound_names, locals_of}
use Rattle.py_meaning.proofs.Weaves.{names_at}

-- ---- names, each once

or_kept : (a b h : Bool) → (b ≡ true → a ≡ true) → (a || (h && not b)) ≡ (a || h)
or_kept true b h k = refl
or_kept false true h k = let e : false ≡ true = k refl in cc
or_kept false false true k = refl
or_kept false false false k = refl

pub has_firsts : (name : Name) (names : List Name) → has name (firsts names) ≡ has name names
has_firsts name [] = refl
has_firsts name (x ∷ names) =
    let p : Name → Bool = λ other. not (bytes_eq x other) in
    ap (λ (b : Bool). bytes_eq name x || b) (has-kept p name (firsts names) ∙ ap (λ (b : Bool). b && p name) (has_firsts name names))
    ∙ or_kept (bytes_eq name x) (bytes_eq x name) (has name names) (λ e. (bytes_eq-Decides name x).1 (sym ((bytes_eq-Decides x name).0 e)))

-- ---- rows of a table

module _ (bound declared : Table) where
  abbrev pub locals_from : ℕ → ℕ → List (List Name)
  locals_from n zero = []
  locals_from n (suc k) = locals bound declared n ∷ locals_from (suc n) k

  one_more : (n k : ℕ) → locals_from n (suc k) ≡ locals_from n k ++ locals bound declared (n + k) ∷ []
  one_more n zero = let e : n ≡ n + 0 = omega arith in ap (λ (m : ℕ). locals bound declared m ∷ []) e
  one_more n (suc k) =
      let e : suc n + k ≡ n + suc k = omega arith in
      ap (λ (rows : List (List Name)). locals bound declared n ∷ rows) (one_more (suc n) k ∙ ap (λ (m : ℕ). locals_from (suc n) k ++ locals bound declared m ∷ []) e)

  pub below_is : (n : ℕ) → locals_below bound declared n ≡ locals_from 0 n
  below_is zero = refl
  below_is (suc n) = let e : n ≡ 0 + n = omega arith in ap₂ (λ (rows : List (List Name)) (m : ℕ). rows ++ locals bound declared m ∷ []) (below_is n) e ∙ sym (one_more 0 n)

  first_row : (names : List Name) (others : List (List Name)) (n : ℕ) → names_at (names ∷ others) n n ≡ names
  first_row names others n = ap (λ (b : Bool). cond b names (names_at others (suc n) n)) (eq-eqb n n refl)

  other_row : (names : List Name) (others : List (List Name)) (n f : ℕ) → suc n ≤ f → names_at (names ∷ others) n f ≡ names_at others (suc n) f
  other_row names others n f h =
      elim (eqb_tells f n) [
        | inl p ↦ let e = p.1 in absurd (omega arith)
        | inr q ↦ ap (λ (b : Bool). cond b names (names_at others (suc n) f)) q.0
      ]

  pub rows_are : (fs : List Function) (globals : List (List Name)) (n : ℕ) → length globals ≡ length fs
      → ((f : ℕ) → n ≤ f → bound f ≡ firsts (names_at (map bound_names fs) n f)) → ((f : ℕ) → n ≤ f → declared f ≡ firsts (names_at globals n f)) → locals_from n (length fs) ≡ locals_of fs globals
  rows_are [] globals n e b d = refl
  rows_are (f ∷ fs) [] n e b d = absurd (omega arith)
  rows_are (f ∷ fs) (names ∷ globals) n e b d =
      let here : n ≤ n = omega arith in
      ap₂ (λ (row : List Name) (rows : List (List Name)). row ∷ rows)
      (ap₂ (λ (all out : List Name). filter (λ name. not (has name out)) all) (b n here ∙ ap firsts (first_row (bound_names f) (map bound_names fs) n)) (d n here ∙ ap firsts (first_row names globals n))
      ∙ (λ i. filter (λ name. not (has_firsts name names i)) (firsts (bound_names f))))
      (rows_are fs globals (suc n) (omega arith)
      (λ g h. b g (omega arith) ∙ ap firsts (other_row (bound_names f) (map bound_names fs) n g h))
      (λ g h. d g (omega arith) ∙ ap firsts (other_row names globals n g h)))

pub length_rows : (fs : List Function) (globals : List (List Name)) → length (locals_of fs globals) ≡ length fs
length_rows [] globals = refl
length_rows (f ∷ fs) [] = ap suc (length_rows fs [])
length_rows (f ∷ fs) (names ∷ globals) = ap suc (length_rows fs globals)
