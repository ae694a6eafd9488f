-- What uses make of a table.
use Rattle.std.proofs.Common.{◌≡◌, Option, Some, None, option_map, position, Result, Err, ℕ, suc, ◌+◌, ◌<◌, ◌≤◌, Bool, true, false, cond, ◌||◌, List, [], ◌∷◌, ◌++◌, length, length-append, append_assoc, refl, sym, ap, ◌∙◌, inl, inr, arith}
use Rattle.std.specs.Prelude.{Contains}
use Rattle.std.specs.List.{list_any}
use Rattle.std.specs.Str.{bytes_eq}
use Rattle.std.proofs.lemmas.List.{append-nil}
use Rattle.std.proofs.lemmas.List.Sums.{fold-append}
use Rattle.std.proofs.lemmas.List.Folds.{list_any_at}
use Rattle.std.proofs.lemmas.Slice.Eq.{bytes_eq-Decides}
use Rattle.mpy_base.specs.declared.refused.Refused.{Refused}
use Rattle.mpy_base.specs.declared.limits.TheConstants.{MAX_TABLE}
use Rattle.mpy_tree.specs.qstr_pool.Pool.{Texts, number_of, interned}
use Rattle.mpy_tree.proofs.qstr_pool_lemmas.Places.{absent}
use Rattle.mpy_tree.specs.FirstUse.{FirstUsed}
use Rattle.mpy_writer.specs.declared.fault.WriteFault.{WriteFault}
use Rattle.mpy_writer.specs.Outcome.{FaultIs, IfFault, all_interned, PassesTable}
use Rattle.mpy_writer.proofs.Steps.{exit}

-- a list of uses has one table
pub one_table : {A : Type 0} (before used t u : List A) → FirstUsed before used t → FirstUsed before used u → t ≡ u
one_table before [] t u h k = h ∙ sym k
one_table before (x ∷ xs) t u (inl h) (inl k) = one_table before xs t u h.1 k.1
one_table before (x ∷ xs) t u (inl h) (inr k) = absurd (k.0 h.0)
one_table before (x ∷ xs) t u (inr h) (inl k) = absurd (h.0 k.0)
one_table {A} before (x ∷ xs) t u (inr h) (inr k) =
    h.2 ∙ (ap (λ (z : List A). x ∷ z) (one_table (before ++ x ∷ []) xs h.1 k.1 h.3 k.3) ∙ sym k.2)

abbrev more : Texts → List (List ℕ) → Texts
more table texts = record { first = table.first; texts = table.texts ++ texts }

-- a text that is among them
there : (x : List ℕ) (texts : List (List ℕ)) → list_any (bytes_eq x) texts ≡ true → Contains texts x
there x [] e = absurd cc
there x (y ∷ texts) e = by_first x y texts (bytes_eq x y) refl e (there x texts) where
  by_first : (x y : List ℕ) (texts : List (List ℕ)) (b : Bool) → bytes_eq x y ≡ b → list_any (bytes_eq x) (y ∷ texts) ≡ true → (list_any (bytes_eq x) texts ≡ true → Contains texts x) → Contains (y ∷ texts) x
  by_first x y texts true is e others = (0, omega arith, sym ((bytes_eq-Decides x y).0 is))
  by_first x y texts false is e others =
      let rest = others (sym (ap (λ (b : Bool). b || list_any (bytes_eq x) texts) is) ∙ e) in
      let lt = rest.1 in
      (suc rest.0, omega (arith, lt), rest.2)

pub not_there : (x : List ℕ) (texts : List (List ℕ)) → list_any (bytes_eq x) texts ≡ false → Contains texts x → ⊥
not_there x texts e h =
    let hit : list_any (bytes_eq x) texts ≡ true = list_any_at (bytes_eq x) texts h.0 x h.1 ((bytes_eq-Decides x _).1 (sym h.2)) in
    let none : true ≡ false = sym hit ∙ e in
    cc

abbrev Made : Texts → List (List ℕ) → Type 0
Made table used = (rest : List (List ℕ)) × FirstUsed table.texts used rest × (all_interned table used ≡ more table rest)

pub made : (table : Texts) (used : List (List ℕ)) → Made table used
made table [] = ([], refl, ap (λ (z : List (List ℕ)). record { first = table.first; texts = z }) (sym (append-nil table.texts)))
made table (x ∷ xs) = by_use table x xs (list_any (bytes_eq x) table.texts) refl (made table xs) (made (more table (x ∷ [])) xs) where
  by_use : (table : Texts) (x : List ℕ) (xs : List (List ℕ)) (b : Bool) → list_any (bytes_eq x) table.texts ≡ b → Made table xs → Made (more table (x ∷ [])) xs → Made table (x ∷ xs)
  by_use table x xs true is known new =
      let same : interned table x ≡ table = ap (λ (b : Bool). cond b table (more table (x ∷ []))) is in
      (known.0, inl (there x table.texts is, known.1), ap (λ (z : Texts). all_interned z xs) same ∙ known.2)
  by_use table x xs false is known new =
      let grown : interned table x ≡ more table (x ∷ []) = ap (λ (b : Bool). cond b table (more table (x ∷ []))) is in (
        x ∷ new.0,
        inr (not_there x table.texts is, new.0, refl, new.1),
        ap (λ (z : Texts). all_interned z xs) grown ∙ (new.2 ∙ ap (λ (z : List (List ℕ)). record { first = table.first; texts = z }) (append_assoc table.texts (x ∷ []) new.0)),
      )

-- uses only add texts
longer : (table : Texts) (used : List (List ℕ)) → length table.texts ≤ length (all_interned table used).texts
longer table used =
    let m = made table used in
    let whole : length (all_interned table used).texts ≡ length table.texts + length m.0 = ap (λ (z : Texts). length z.texts) m.2 ∙ length-append table.texts m.0 in
    omega (arith, whole)

-- what is left makes the same of the table
pub goes_on : (start now next : Texts) (whole rest front behind : List (List ℕ)) → all_interned now rest ≡ all_interned start whole → rest ≡ front ++ behind → next ≡ all_interned now front → all_interned next behind ≡ all_interned start whole
goes_on start now next whole rest front behind so_far parts is =
    ap (λ (z : Texts). all_interned z behind) is ∙ (sym (fold-append (λ (t : Texts) (x : List ℕ). interned t x) now front behind) ∙ (ap (all_interned now) (sym parts) ∙ so_far))

pub passes : (start now : Texts) (whole rest front behind : List (List ℕ)) → all_interned now rest ≡ all_interned start whole → rest ≡ front ++ behind → (f : WriteFault) → PassesTable now front f → PassesTable start whole f
passes start now whole rest front behind so_far parts f h =
    let all : all_interned (all_interned now front) behind ≡ all_interned start whole = goes_on start now (all_interned now front) whole rest front behind so_far parts refl in
    let many = longer (all_interned now front) behind in
    let past = h.1 in
    (h.0, omega (arith, past, many, ap (λ (z : Texts). length z.texts) all))

-- so a use that is one too many is one too many of all
pub exit_passing : {X : Type 0} (start now : Texts) (whole rest front behind : List (List ℕ)) (r : Result X (Refused WriteFault)) (y e : Refused WriteFault) → r ≡ Err y → y ≡ e → FaultIs e (PassesTable now front) → all_interned now rest ≡ all_interned start whole → rest ≡ front ++ behind → IfFault r (PassesTable start whole)
exit_passing start now whole rest front behind r y e is same h so_far parts =
    exit (PassesTable now front) (PassesTable start whole) r y e is same h (passes start now whole rest front behind so_far parts)

-- a new text has no room in a full table
unplaced : (first : ℕ) (r : Option ℕ) → option_map (λ place. first + place) r ≡ None → r ≡ None
unplaced first None e = refl
unplaced first (Some i) e = cc

pub no_room : (table : Texts) (text : List ℕ) → (number_of table text ≡ None) × (MAX_TABLE ≤ length table.texts) → MAX_TABLE < length (interned table text).texts
no_room table text h =
    let none : list_any (bytes_eq text) table.texts ≡ false = absent table.texts text (unplaced table.first (position (bytes_eq text) table.texts) h.0) in
    let grown : interned table text ≡ more table (text ∷ []) = ap (λ (b : Bool). cond b table (more table (text ∷ []))) none in
    let full = h.1 in
    omega (arith, full, ap (λ (z : Texts). length z.texts) grown, length-append table.texts (text ∷ []))

pub first_kept : (table : Texts) (used : List (List ℕ)) → (all_interned table used).first ≡ table.first
first_kept table used = ap (λ (t : Texts). t.first) (made table used).2
