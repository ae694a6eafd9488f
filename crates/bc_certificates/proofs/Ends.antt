-- Rows of which each position was looked at certify the code.
use Rattle.std.proofs.Common.{◌≡◌, ℕ, zero, suc, ◌<◌, ◌≤◌, ◌⊎◌, inl, inr, Bool, true, false, ◌&&◌, List, [], ◌∷◌, ◌++◌, length, Option, Some, None, refl, sym, ap, ◌∙◌, arith}
use Rattle.std.specs.Prelude.{nat_lt, slice_get}
use Rattle.std.proofs.lemmas.Bool.{and_parts, and_from}
use Rattle.std.proofs.lemmas.Option.{none-some}
use Rattle.std.proofs.lemmas.Bool.Decides.{nat_tests}
use Rattle.bc_flow.specs.bc_shapes.declared.shape.Entry.{Entry}
use Rattle.bc_flow.specs.bc_shapes.Shape.{At}
use Rattle.bc_flow.specs.Action.{Action}
use Rattle.bc_flow.specs.Code.{Code}
use Rattle.bc_flow.specs.Edges.{Way, Next, arrive, behind, change, edge_of, falls, holds, is_marked, all_marked, ways, next_way, jump_way, raise_ways, run_ways, runs, target}
use Rattle.bc_flow.proofs.Loops.{marks_are}
use Rattle.bc_certificates.specs.declared.certificate.Table.{Table}
use Rattle.bc_certificates.specs.Rows.{Rows, row, goes_on, fall, at_if, fallen, brought, or_else, carried, other_ways, other_edges, Keeps, Certifies}
use Rattle.bc_certificates.specs.Checking.{rows_of, Begins, Kept, Lead}
use Rattle.bc_certificates.proofs.Carrying.{ways_are}
use Rattle.bc_certificates.proofs.Chains.{Raises, runs_lead}
use Rattle.bc_certificates.proofs.Checks.{Checked, lead_others, row_past}

all_append : (ws vs : List Way) → all_marked ws ≡ true → all_marked vs ≡ true → all_marked (ws ++ vs) ≡ true
all_append [] vs a b = b
all_append (w ∷ ws) vs a b =
    let parts = and_parts (is_marked w.to w.entries) (all_marked ws) a in
    and_from (is_marked w.to w.entries) (all_marked (ws ++ vs)) parts.0 (all_append ws vs parts.1 b)

next_marked : (b : Bool) (p : ℕ) (es : List Entry) → (b ≡ true → is_marked (suc p) (arrive (suc p) es Next).entries ≡ true) → all_marked (next_way b p es) ≡ true
next_marked true p es h = and_from (is_marked (suc p) (arrive (suc p) es Next).entries) true (h refl) refl
next_marked false p es h = refl

module _ (code : Code) (rows : Rows) (p : ℕ) (x : At) (k : Kept code rows p x) (others : Lead rows (other_edges k.action x)) where
  pub held : holds code k.action p (length x.slots) x.entries ≡ true
  unfolding holds
  held =
      let n = length x.slots in
      let es = behind (change k.action) n x.entries in
      let marked : all_marked (other_ways k.action n x.entries) ≡ true = sym (marks_are k.action x (other_ways k.action n x.entries)) ∙ others.marked in
      let all : all_marked (ways code k.action p n x.entries) ≡ true =
      ap all_marked (ways_are code k.action p n x.entries) ∙ all_append (next_way (goes_on code p k.action) p es) (other_ways k.action n x.entries) (next_marked (goes_on code p k.action) p es (λ g. (k.next g).marked)) marked in
      and_from _ (all_marked (ways code k.action p n x.entries)) k.stands.entries all

  keeps : Keeps code rows p x
  keeps = record {
    action = k.action;
    is = k.is;
    handlers = held;
    height = k.stands.height;
    state = k.stands.state;
    falls = k.stands.falls;
    next = λ g. (k.next g).below;
    others = others.each;
  }

past_none : (code : Code) (rows : Rows) (q : ℕ) (o : Option At) → length code.actions ≤ suc q → brought code q o ≡ None
past_none code rows q None le = refl
past_none code rows q (Some x) le = by_action (slice_get code.actions q)
  where
    at_none : (a b : Bool) (y : At) → b ≡ false → at_if (a && b) y ≡ None
    at_none true b y e = ap (λ z. at_if z y) e
    at_none false b y e = refl

    by_action : (o : Option Action) → fallen code q o x ≡ None
    by_action None = refl
    by_action (Some i) = at_none (falls i) (nat_lt (suc q) (length code.actions)) (fall q i x).at (grind (arith, nat_tests, le))

none_past : (code : Code) (rows : Rows) (q : ℕ) → length code.actions ≤ q → row rows q ≡ None → carried code rows q ≡ None
none_past code rows zero le r = r
none_past code rows (suc q) le r = ap (λ o. or_else o (brought code q (carried code rows q))) r ∙ past_none code rows q (carried code rows q) le

pub ends_all : (code : Code) (t : Table) (p : ℕ) (o : Option At) → length t.rows.items ≤ length code.actions → length code.actions ≤ p → Begins (rows_of t) → Checked code (rows_of t) p o → Certifies code (rows_of t)
ends_all code t p o few past start c = record {
  start = start;
  keeps = λ q x e. keeps code (rows_of t) q x (kept q x e) (others q x e);
}
  where
    le_lt : (q n : ℕ) → (q < n) ⊎ (n ≤ q)
    le_lt q zero = inr (omega arith)
    le_lt zero (suc n) = inl (omega arith)
    le_lt (suc q) (suc n) = by (le_lt q n)
      where
        by : (q < n) ⊎ (n ≤ q) → (suc q < suc n) ⊎ (suc n ≤ suc q)
        by (inl a) = inl (omega (arith, a))
        by (inr a) = inr (omega (arith, a))

    by_order : (q : ℕ) (x : At) → carried code (rows_of t) q ≡ Some x → (q < length code.actions) ⊎ (length code.actions ≤ q) → Kept code (rows_of t) q x
    by_order q x e (inl lt) = c.keeps q x (omega (arith, lt, past)) e
    by_order q x e (inr le) = absurd (none-some x (sym (none_past code (rows_of t) q le (row_past t.bases.items t.rows.items q (omega (arith, le, few)))) ∙ e))

    kept : (q : ℕ) (x : At) → carried code (rows_of t) q ≡ Some x → Kept code (rows_of t) q x
    kept q x e = by_order q x e (le_lt q (length code.actions))

    raises : (q : ℕ) (x : At) → carried code (rows_of t) q ≡ Some x → Raises (rows_of t) q x
    raises q x e = record { action = (kept q x e).action; order = (kept q x e).stands.order; lead = (kept q x e).stands.raises }

    others : (q : ℕ) (x : At) (e : carried code (rows_of t) q ≡ Some x) → Lead (rows_of t) (other_edges (kept q x e).action x)
    others q x e =
        let k = kept q x e in
        let i = k.action in
        lead_others (rows_of t) (edge_of i x) (jump_way (target i) (behind (change i) (length x.slots) x.entries)) (raise_ways x.entries) (run_ways (runs i (length x.entries)) x.entries)
        k.stands.jumps k.stands.raises (runs_lead code (rows_of t) raises i q x (runs i (length x.entries)) e)
