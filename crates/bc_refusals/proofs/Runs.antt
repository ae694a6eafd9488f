-- Positions from which the flow goes to finally handlers that run.
use Rattle.std.proofs.Common.{◌≡◌, ℕ, zero, suc, ◌+◌, ◌<◌, ◌≤◌, ◌⊎◌, inl, inr, Bool, true, false, List, [], ◌∷◌, ◌++◌, drop, get_or, length, map, replicate, set, Some, refl, sym, ap, subst, ◌∙◌, arith}
use Rattle.std.specs.Prelude.{slice_get}
use Rattle.std.proofs.lemmas.Bool.{true≢false}
use Rattle.std.proofs.lemmas.List.{drop_more}
use Rattle.bc_flow.specs.bc_shapes.Shape.{At}
use Rattle.bc_flow.specs.Action.{Action}
use Rattle.bc_flow.specs.Code.{Code}
use Rattle.bc_flow.specs.Edges.{Edge, behind, change, edge_of, edges, falls, jump_way, next_way, raise_ways, run_ways, runs, target}
use Rattle.bc_flow.specs.declared.edges.Edge.{Edge as RustEdge}
use Rattle.bc_flow.specs.Verified.{Each, also, none}
use Rattle.bc_flow.specs.Views.{edge_of_rust}
use Rattle.bc_certificates.specs.Rows.{Rows, carried, goes_on, other_edges, other_ways, row}
use Rattle.bc_certificates.specs.Checking.{Kept, Lead, Lies, Stands, ordered, raise_edges}
use Rattle.bc_certificates.proofs.Carrying.{leads_carried, ways_are}
use Rattle.bc_certificates.proofs.Chains.{LieBehind, lies_on}
use Rattle.bc_certificates.proofs.Chains as chains
use Rattle.bc_certificates.proofs.Checks.{ends, lead_others}
use Rattle.bc_certificates.proofs.Ends.{held}
use Rattle.bc_refusals.specs.Chains.{AllInside, LeadOn, SetAll}
use Rattle.bc_refusals.specs.Stages.{BeginAll, IsSet, Keeps, LeadAll}
use Rattle.bc_refusals.proofs.Stages.{set_cases}
use Rattle.bc_refusals.proofs.Starts.{none_set}

-- no handler is known at first
pub none_lead : (rows : Rows) (n : ℕ) → LeadOn rows (replicate n false)
none_lead rows n h y s r = absurd (none_set n h s)

-- one more is
pub more_lead : (rows : Rows) (flags : List Bool) (h : ℕ) → LeadOn rows flags → ((y : At) → row rows h ≡ Some y → Lies rows y.slots y.entries) → LeadOn rows (set flags h true)
more_lead rows flags h on here q y s r = by (set_cases flags h q s)
  where
    by : (q ≡ h) ⊎ IsSet flags q → Lies rows y.slots y.entries
    by (inl e) = here y (subst (λ z. row rows z ≡ Some y) e r)
    by (inr f) = on q y f r

lie_behind : (rows : Rows) (flags : List Bool) (es : List Edge) → LeadOn rows flags → SetAll flags es → LieBehind rows es
lie_behind rows flags [] on s = tt
lie_behind rows flags (e ∷ es) on s = (λ y r. on e.to y s.0 r, lie_behind rows flags es on s.1)

-- all entries lead, where a raise leads to a handler with a flag
pub lies_by : (rows : Rows) (flags : List Bool) (i : Action) (x : At) (p : ℕ) → LeadOn rows flags → ordered (length x.slots) p x.entries ≡ true → Lead rows (raise_edges i x) → SetAll flags (raise_edges i x) → Lies rows x.slots x.entries
lies_by rows flags i x p on o l s = lies_on rows i x (length x.slots) p x.entries (omega arith) o l (lie_behind rows flags (raise_edges i x) on s)

-- edges to rows lead to what the rows carry
each_leads : (code : Code) (rows : Rows) (came : List Bool) (es : List Edge) → AllInside (length came) es → Each (row rows) es → LeadAll (carried code rows) came es
each_leads code rows came [] i none = tt
each_leads code rows came (e ∷ es) i (also l h) = (record { inside = i.0; leads = leads_carried code rows e l }, each_leads code rows came es i.1 h)

-- where the flow doesn't go on to the next position
module _ (code : Code) (rows : Rows) (came : List Bool) (p : ℕ) (i : Action) (x : At) (is : slice_get code.actions p ≡ Some i) (s : Stands code rows i p x) (f : falls i ≡ false) (lies : Lies rows x.slots x.entries) where
  abbrev kept : Kept code rows p x
  kept = record { action = i; is = is; stands = s; next = λ g. absurd (true≢false (sym g ∙ ends code p i f)) }

  others : Lead rows (other_edges i x)
  others =
      lead_others rows (edge_of i x) (jump_way (target i) (behind (change i) (length x.slots) x.entries)) (raise_ways x.entries) (run_ways (runs i (length x.entries)) x.entries)
      s.jumps s.raises (chains.runs rows i x (runs i (length x.entries)) x.entries lies)

  no_next : (b : Bool) → b ≡ false → map (edge_of i x) (next_way b p (behind (change i) (length x.slots) x.entries) ++ other_ways i (length x.slots) x.entries) ≡ other_edges i x
  no_next true e = absurd (true≢false e)
  no_next false e = refl

  others_are : edges code i p x ≡ other_edges i x
  others_are = ap (map (edge_of i x)) (ways_are code i p (length x.slots) x.entries) ∙ no_next (goes_on code p i) (ends code p i f)

  pub leaves : AllInside (length came) (edges code i p x) → BeginAll (carried code rows) came (edges code i p x) (edges code i p x) → Keeps code (carried code rows) came p x
  leaves inside begin = record {
    action = i;
    is = is;
    own = record { handlers = held code rows p x kept others; height = s.height; state = s.state; falls = s.falls };
    lead = subst (LeadAll (carried code rows) came) (sym others_are) (each_leads code rows came (other_edges i x) (subst (AllInside (length came)) others_are inside) others.each);
    begins = begin;
  }

-- Lists of edges, one by one.

pub inside_step : (n : ℕ) (es : List RustEdge) (k : ℕ) (f : RustEdge) → k < length es → (get_or es k f).to < n → AllInside n (map edge_of_rust (drop (k + 1) es)) → AllInside n (map edge_of_rust (drop k es))
inside_step n es k f lt l rest = subst (λ z. AllInside n (map edge_of_rust z)) (sym (drop_more es k f lt)) (l, rest)

pub inside_end : (n : ℕ) (es : List RustEdge) (k : ℕ) → length es ≤ k → AllInside n (map edge_of_rust (drop k es))
inside_end n [] zero le = tt
inside_end n [] (suc k) le = tt
inside_end n (e ∷ es) zero le = absurd (omega (arith, le))
inside_end n (e ∷ es) (suc k) le = inside_end n es k (omega (arith, le))
