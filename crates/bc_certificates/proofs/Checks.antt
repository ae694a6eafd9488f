-- What a check of rows finds out, put together.
use Rattle.std.proofs.Common.{◌≡◌, ℕ, zero, suc, ◌+◌, ◌<◌, ◌≤◌, ◌⊎◌, inl, inr, Bool, true, false, not, ◌&&◌, ◌||◌, List, [], ◌∷◌, ◌++◌, length, get_or, map, Option, Some, None, refl, sym, ap, subst, ◌∙◌, arith}
use Rattle.std.specs.Prelude.{nat_lt, slice_get, option_map}
use Rattle.std.proofs.lemmas.Bool.{and_parts, and_from, true≢false, false≢true}
use Rattle.std.proofs.lemmas.List.{map-append}
use Rattle.std.proofs.lemmas.Option.{slice_get_past, slice_get_read}
use Rattle.bc_flow.specs.bc_shapes.declared.shape.Shape.{Shape}
use Rattle.bc_flow.specs.bc_shapes.declared.shape.Entry.{Entry}
use Rattle.bc_flow.specs.bc_shapes.Shape.{At, Under}
use Rattle.bc_flow.specs.declared.edges.Change.{Change}
use Rattle.bc_flow.specs.Action.{Action}
use Rattle.bc_flow.specs.Code.{Code}
use Rattle.bc_flow.specs.Edges.{Way, Edge, behind, change, falls, stays, is_marked, edges_marked}
use Rattle.bc_flow.specs.Verified.{none, also, begin}
use Rattle.bc_certificates.specs.declared.certificate.Row.{Row}
use Rattle.bc_certificates.specs.Rows.{Rows, row, goes_on, fall, at_if, fallen, brought, or_else, carried}
use Rattle.bc_certificates.specs.Checking.{at_row, Kept, Lead, Stands, Falls, arriving, Begins}
use Rattle.bc_certificates.proofs.Carrying.{each_append}

-- Rows.

pub row_in : (bases : List Shape) (rows : List (Option Row)) (p : ℕ) (o : Option Row) → p < length rows → o ≡ get_or rows p o → row (map (option_map (at_row bases)) rows) p ≡ option_map (at_row bases) o
row_in bases [] p o lt e = absurd (omega (arith, lt))
row_in bases (r ∷ rows) zero o lt e = ap (option_map (at_row bases)) (sym e)
row_in bases (r ∷ rows) (suc p) o lt e = row_in bases rows p o (omega (arith, lt)) e

pub row_past : (bases : List Shape) (rows : List (Option Row)) (p : ℕ) → length rows ≤ p → row (map (option_map (at_row bases)) rows) p ≡ None
row_past bases [] p le = refl
row_past bases (r ∷ rows) zero le = absurd (omega (arith, le))
row_past bases (r ∷ rows) (suc p) le = row_past bases rows p (omega (arith, le))

pub base_in : (bases : List Shape) (n : ℕ) (b : Shape) → n < length bases → b ≡ get_or bases n b → slice_get bases n ≡ Some b
base_in bases n b lt e = slice_get_read bases (length bases) n b refl lt e

pub base_past : (bases : List Shape) (n : ℕ) → length bases ≤ n → slice_get bases n ≡ None
base_past bases n le = slice_get_past bases n le

-- Edges that lead.

pub lead_none : (rows : Rows) → Lead rows []
lead_none rows = record { marked = refl; each = none }

pub lead_one : (rows : Rows) (e : Edge) (x : At) → is_marked e.to e.at.entries ≡ true → row rows e.to ≡ Some x → Under e.at x → Lead rows (e ∷ [])
lead_one rows e x m r u = record { marked = and_from (is_marked e.to e.at.entries) true m refl; each = also (record { at = x; is = r; under = u }) none }

marked_append : (es fs : List Edge) → edges_marked es ≡ true → edges_marked fs ≡ true → edges_marked (es ++ fs) ≡ true
marked_append [] fs a b = b
marked_append (e ∷ es) fs a b =
    let parts = and_parts (is_marked e.to e.at.entries) (edges_marked es) a in
    and_from (is_marked e.to e.at.entries) (edges_marked (es ++ fs)) parts.0 (marked_append es fs parts.1 b)

pub lead_append : (rows : Rows) (es fs : List Edge) → Lead rows es → Lead rows fs → Lead rows (es ++ fs)
lead_append rows es fs a b = record { marked = marked_append es fs a.marked b.marked; each = each_append (row rows) es fs a.each b.each }

-- the three kinds of other edges
pub lead_others : (rows : Rows) (f : Way → Edge) (js rs fs : List Way) → Lead rows (map f js) → Lead rows (map f rs) → Lead rows (map f fs) → Lead rows (map f (js ++ rs ++ fs))
lead_others rows f js rs fs a b c =
    subst (Lead rows) (sym (map-append f (js ++ rs) fs ∙ ap (λ z. z ++ map f fs) (map-append f js rs)))
    (lead_append rows (map f js ++ map f rs) (map f fs) (lead_append rows (map f js) (map f rs) a b) c)

-- One position.

-- the flow goes on where the instruction does
pub goes_from : (code : Code) (i : Action) (p : ℕ) → stays code i p ≡ true → falls i ≡ true → goes_on code p i ≡ true
unfolding stays
goes_from code i p s f = and_from (falls i) (nat_lt (suc p) (length code.actions)) f (by_stays (falls i) (nat_lt (suc p) (length code.actions)) f s)
  where
    by_stays : (a b : Bool) → a ≡ true → (not a || b) ≡ true → b ≡ true
    by_stays true b e h = h
    by_stays false b e h = absurd (false≢true e)

pub goes : (code : Code) (rows : Rows) (i : Action) (p : ℕ) (x : At) → Stands code rows i p x → falls i ≡ true → goes_on code p i ≡ true
goes code rows i p x s f = goes_from code i p s.falls f

pub ends : (code : Code) (p : ℕ) (i : Action) → falls i ≡ false → goes_on code p i ≡ false
ends code p i f = ap (λ b. b && nat_lt (suc p) (length code.actions)) f

pub brings_is : (code : Code) (p : ℕ) (i : Action) (x : At) (b : Bool) → slice_get code.actions p ≡ Some i → goes_on code p i ≡ b → at_if b (fall p i x).at ≡ brought code p (Some x)
brings_is code p i x b is g = sym (ap (λ o. fallen code p o x) is ∙ ap (λ z. at_if z (fall p i x).at) g)

-- where the instruction ends the flow
pub go_ends : (code : Code) (rows : Rows) (i : Action) (p : ℕ) (x : At) → slice_get code.actions p ≡ Some i → Stands code rows i p x → falls i ≡ false → Kept code rows p x × (None ≡ brought code p (Some x))
go_ends code rows i p x is s f =
    let g = ends code p i f in
    (record { action = i; is = is; stands = s; next = λ h. absurd (true≢false (sym h ∙ g)) }, brings_is code p i x false is g)

-- and where it goes on with an edge
pub go_falls : (code : Code) (rows : Rows) (i : Action) (p : ℕ) (x : At) (e : Edge) → slice_get code.actions p ≡ Some i → Stands code rows i p x → falls i ≡ true → e ≡ fall p i x → Falls rows e → Kept code rows p x × (Some e.at ≡ brought code p (Some x))
go_falls code rows i p x e is s f h l = (
  record { action = i; is = is; stands = s; next = λ g. subst (Falls rows) h l },
  ap (λ z. Some z.at) h ∙ brings_is code p i x true is (goes code rows i p x s f),
)

-- the entries behind an instruction
pub behind_from : (i : Action) (x : At) (by : Change) (n : ℕ) (es bs : List Entry) → bs ≡ behind by n es → by ≡ change i → n ≡ length x.slots → es ≡ x.entries → bs ≡ behind (change i) (length x.slots) x.entries
behind_from i x by n es bs b c m e = b ∙ ap (λ z. behind z n es) c ∙ ap (λ z. behind (change i) z es) m ∙ ap (behind (change i) (length x.slots)) e

-- All positions.

or_none : (o : Option At) → or_else o None ≡ o
or_none None = refl
or_none (Some x) = refl

pub carried_is : (code : Code) (rows : Rows) (p : ℕ) → or_else (row rows p) (arriving code rows p) ≡ carried code rows p
carried_is code rows zero = or_none (row rows zero)
carried_is code rows (suc p) = refl

-- what holds of the positions so far
pub record Checked (code : Code) (rows : Rows) (p : ℕ) (o : Option At) : Type 0 where
  pub arrives : o ≡ arriving code rows p
  pub keeps : (q : ℕ) (x : At) → q < p → carried code rows q ≡ Some x → Kept code rows q x

pub begins : (code : Code) (rows : Rows) → Checked code rows 0 None
begins code rows = record { arrives = refl; keeps = λ q x lt e. absurd (omega (arith, lt)) }

-- one position more
more : (code : Code) (rows : Rows) (p : ℕ) (o n : Option At) → Checked code rows p o → ((x : At) → carried code rows p ≡ Some x → Kept code rows p x) → n ≡ brought code p (carried code rows p) → Checked code rows (suc p) n
more code rows p o n c k e = record {
  arrives = e;
  keeps = λ q x lt h. by_place q x h (k) lt (nat_place q p lt);
}
  where
    nat_place : (q p : ℕ) → q < suc p → (q < p) ⊎ (q ≡ p)
    nat_place zero zero lt = inr refl
    nat_place zero (suc p) lt = inl (omega arith)
    nat_place (suc q) zero lt = absurd (omega (arith, lt))
    nat_place (suc q) (suc p) lt = by (nat_place q p (omega (arith, lt)))
      where
        by : (q < p) ⊎ (q ≡ p) → (suc q < suc p) ⊎ (suc q ≡ suc p)
        by (inl a) = inl (omega (arith, a))
        by (inr a) = inr (ap suc a)

    by_place : (q : ℕ) (x : At) → carried code rows q ≡ Some x → ((y : At) → carried code rows p ≡ Some y → Kept code rows p y) → q < suc p → (q < p) ⊎ (q ≡ p) → Kept code rows q x
    by_place q x h k lt (inl a) = c.keeps q x a h
    by_place q x h k lt (inr a) = subst (λ z. Kept code rows z x) (sym a) (k x (subst (λ z. carried code rows z ≡ Some x) a h))

pub goes_on_checked : (code : Code) (rows : Rows) (p : ℕ) (o h n : Option At) → Checked code rows p o → h ≡ or_else (row rows p) o → ((x : At) → h ≡ Some x → Kept code rows p x) → n ≡ brought code p h → Checked code rows (p + 1) n
goes_on_checked code rows p o h n c e k b =
    let here : h ≡ carried code rows p = e ∙ ap (or_else (row rows p)) c.arrives ∙ carried_is code rows p in
    subst (λ z. Checked code rows z n) (omega arith) (more code rows p o n c (λ x s. k x (here ∙ s)) (b ∙ ap (brought code p) here))

pub begins_at : (rows : Rows) (x : At) → row rows 0 ≡ Some x → Under begin x → Begins rows
begins_at rows x r u = record { at = x; is = r; under = u }
