-- What rows carry meets the rules along every edge.
use Rattle.std.proofs.Common.{◌≡◌, ℕ, zero, suc, Bool, true, false, List, ◌++◌, length, map, Option, Some, None, refl, sym, ap, subst, ◌∙◌, append_assoc}
use Rattle.std.proofs.lemmas.List.{map-append}
use Rattle.std.specs.Prelude.{IfSome}
use Rattle.bc_flow.specs.bc_shapes.declared.shape.Entry.{Entry}
use Rattle.bc_flow.specs.bc_shapes.Shape.{At, Under}
use Rattle.bc_flow.proofs.bc_shapes_lemmas.Joins.{under_refl}
use Rattle.bc_flow.specs.Action.{Action}
use Rattle.bc_flow.specs.Code.{Code}
use Rattle.bc_flow.specs.Edges.{Way, Edge, ways, next_way, jump_way, raise_ways, run_ways, edge_of, edges, behind, change, target, runs}
use Rattle.bc_flow.specs.Verified.{Assigned, Leads, Each, none, also, Fine, Holds}
use Rattle.bc_certificates.specs.Rows.{Rows, row, goes_on, fall, at_if, fallen, brought, or_else, carried, other_ways, Keeps, Certifies}

-- a row is carried
pub row_carried : (code : Code) (rows : Rows) (p : ℕ) (x : At) → row rows p ≡ Some x → carried code rows p ≡ Some x
row_carried code rows zero x e = e
row_carried code rows (suc p) x e = ap (λ o. or_else o (brought code p (carried code rows p))) e

pub leads_carried : (code : Code) (rows : Rows) (e : Edge) → Leads (row rows) e → Leads (carried code rows) e
leads_carried code rows e l = record { at = l.at; is = row_carried code rows e.to l.at l.is; under = l.under }

each_carried : (code : Code) (rows : Rows) (es : List Edge) → Each (row rows) es → Each (carried code rows) es
each_carried code rows es none = none
each_carried code rows es (also l h) = also (leads_carried code rows _ l) (each_carried code rows _ h)

pub each_append : (a : Assigned) (es fs : List Edge) → Each a es → Each a fs → Each a (es ++ fs)
each_append a es fs none k = k
each_append a es fs (also l h) k = also l (each_append a _ fs h k)

-- what is brought lies below what is carried
record Above (o : Option At) (x : At) : Type 0 where
  pub at : At
  pub is : o ≡ Some at
  pub under : Under x at

above : (o : Option At) (x : At) → IfSome o (λ y. Under x y) → Above (or_else o (Some x)) x
above None x h = record { at = x; is = refl; under = under_refl x }
above (Some y) x h = record { at = y; is = refl; under = h }

-- the edge to the next position comes first
pub ways_are : (code : Code) (i : Action) (p n : ℕ) (es : List Entry) → ways code i p n es ≡ next_way (goes_on code p i) p (behind (change i) n es) ++ other_ways i n es
unfolding ways
ways_are code i p n es =
    let first = next_way (goes_on code p i) p (behind (change i) n es) in
    let jumps = jump_way (target i) (behind (change i) n es) in
    let raised = raise_ways es in
    let finallys = run_ways (runs i (length es)) es in
    ap (λ (z : List Way). z ++ finallys) (append_assoc first jumps raised) ∙ append_assoc first (jumps ++ raised) finallys

module _ (code : Code) (rows : Rows) (p : ℕ) (x : At) (there : carried code rows p ≡ Some x) (k : Keeps code rows p x) where
  brings : goes_on code p k.action ≡ true → brought code p (carried code rows p) ≡ Some (fall p k.action x).at
  brings e =
      ap (brought code p) there
      ∙ (ap (λ o. fallen code p o x) k.is ∙ ap (λ b. at_if b (fall p k.action x).at) e)

  next_leads : goes_on code p k.action ≡ true → Leads (carried code rows) (fall p k.action x)
  next_leads e =
      let y = (fall p k.action x).at in
      let a = above (row rows (suc p)) y (k.next e) in
      record { at = a.at; is = ap (or_else (row rows (suc p))) (brings e) ∙ a.is; under = a.under }

  next_each : (b : Bool) → goes_on code p k.action ≡ b → Each (carried code rows) (map (edge_of k.action x) (next_way b p (behind (change k.action) (length x.slots) x.entries)))
  next_each true e = also (next_leads e) none
  next_each false e = none

  all_edges : Each (carried code rows) (edges code k.action p x)
  all_edges =
      let es = behind (change k.action) (length x.slots) x.entries in
      let first = next_way (goes_on code p k.action) p es in
      let others = other_ways k.action (length x.slots) x.entries in
      let parts : edges code k.action p x ≡ map (edge_of k.action x) first ++ map (edge_of k.action x) others =
      ap (map (edge_of k.action x)) (ways_are code k.action p (length x.slots) x.entries) ∙ map-append (edge_of k.action x) first others in
      subst (Each (carried code rows)) (sym parts)
      (each_append (carried code rows) (map (edge_of k.action x) first) (map (edge_of k.action x) others) (next_each (goes_on code p k.action) refl)
      (each_carried code rows (map (edge_of k.action x) others) k.others))

  pub fine : Fine code (carried code rows) p x
  fine = record { action = k.action; is = k.is; handlers = k.handlers; height = k.height; state = k.state; falls = k.falls; along = all_edges }

pub certified : (code : Code) (rows : Rows) → Certifies code rows → Holds code (carried code rows)
certified code rows c = record {
  start = leads_carried code rows _ c.start;
  closed = λ p x e. fine code rows p x e (c.keeps p x e);
}
