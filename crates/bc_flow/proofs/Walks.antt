-- The walk over the states is the definition's over their table.
use Rattle.std.proofs.Common.{◌≡◌, ℕ, zero, suc, ◌<◌, Bool, ◌&&◌, List, [], ◌∷◌, length, map, get_or, Some, refl, sym, ap, ◌∙◌, subst, arith}
use Rattle.std.specs.Prelude.{slice_get, Result, Ok, Err, IfOk, OnOk}
use Rattle.std.proofs.lemmas.List.{length-map}
use Rattle.bc_ops.specs.declared.listing.Item.{Item}
use Rattle.bc_shapes.specs.Shape.{At}
use Rattle.bc_flow.specs.Action.{Action, action}
use Rattle.bc_flow.specs.Code.{Code, code_of}
use Rattle.bc_flow.specs.declared.code.Code.{Code as RustCode}
use Rattle.bc_flow.specs.declared.code.Rule.{Rule}
use Rattle.bc_flow.specs.declared.code.Rule.TheVariants.{Falls}
use Rattle.bc_flow.specs.declared.walk.Judged.{Judged}
use Rattle.bc_flow.specs.declared.walk.State.{State}
use Rattle.bc_flow.specs.Edges.{Edge, edges, holds, finds, room, stays}
use Rattle.bc_flow.specs.Verified.{Table, Verified, Visit, Bad, Good, visit, visit_action, after_holds, agree, put_next, done_at, IsPending, IsLeast, Comes, FirstFault, table_at}
use Rattle.bc_flow.specs.Judged.{Judges}
use Rattle.bc_flow.specs.Queue.{Queued}
use Rattle.std.specs.declared.cmp.Reverse.{Reverse}
use Rattle.bc_flow.specs.Views.{cell_of, table_of, visit_of, edge_of_rust}
use Rattle.bc_flow.proofs.Puts.{weigh}
use Rattle.bc_flow.proofs.Visits.{visit_on, visited_lighter, pending_in}
use Rattle.bc_flow.proofs.Decides.{at_visit, kept, comes_reached, no_means, yes_means, stays_below, holds_in}

pub if_ok_map : {A E : Type 0} → (r : Result A E) (P Q : A → Type 0) → ((x : A) → P x → Q x) → IfOk r P → IfOk r Q
if_ok_map (Ok x) P Q f h = f x h
if_ok_map (Err e) P Q f h = h

pub on_ok_map : {A E : Type 0} → (r : Result A E) (P Q : Type 0) → (P → Q) → OnOk r P → OnOk r Q
on_ok_map (Ok x) P Q f h = f h
on_ok_map (Err e) P Q f h = tt

-- what the instruction at a position does
pub action_is : (size : ℕ) (items : List Item) (p : ℕ) (item : Item) → p < length items → item ≡ get_or items p item → slice_get (map (action size) items) p ≡ Some (action size item)
action_is size [] p item lt e = absurd (omega (arith, lt))
action_is size (i ∷ items) zero item lt e = ap (λ z. Some (action size z)) (sym e)
action_is size (i ∷ items) (suc p) item lt e = action_is size items p item (omega (arith, lt)) e

pub action_there : (size n : ℕ) (items : List Item) (p : ℕ) (item : Item) (a : Action) → n ≡ size → p < length items → item ≡ get_or items p item → a ≡ action n item → slice_get (map (action size) items) p ≡ Some a
action_there size n items p item a l lt e f = action_is size items p item lt e ∙ ap Some (sym (f ∙ ap (λ z. action z item) l))

pub visit_at : (code : Code) (t : Table) (p : ℕ) (x : At) (i : Action) (h f r s : Bool) (es : List Edge) → slice_get code.actions p ≡ Some i → h ≡ (holds code i p (length x.slots) x.entries && agree t (edges code i p x)) → f ≡ finds i x → r ≡ room code i x → s ≡ stays code i p → es ≡ edges code i p x → after_holds h f r s (put_next es (Some (done_at t p x))) ≡ visit code t p x
visit_at code t p x i h f r s es e a b c d g =
    ap (λ z. after_holds z f r s (put_next es (Some (done_at t p x)))) a
    ∙ ap (λ z. after_holds (holds code i p (length x.slots) x.entries && agree t (edges code i p x)) z r s (put_next es (Some (done_at t p x)))) b
    ∙ ap (λ z. after_holds (holds code i p (length x.slots) x.entries && agree t (edges code i p x)) (finds i x) z s (put_next es (Some (done_at t p x)))) c
    ∙ ap (λ z. after_holds (holds code i p (length x.slots) x.entries && agree t (edges code i p x)) (finds i x) (room code i x) z (put_next es (Some (done_at t p x)))) d
    ∙ ap (λ z. after_holds (holds code i p (length x.slots) x.entries && agree t (edges code i p x)) (finds i x) (room code i x) (stays code i p) (put_next z (Some (done_at t p x)))) g
    ∙ ap (visit_action code t p x) (sym e)

-- what was judged is a visit's
pub judged_visit : (code : Code) (t : Table) (p : ℕ) (y x : At) (j : Judged) → y ≡ x → Judges code t p y j → after_holds (j.handlers && j.meets) j.height j.state j.falls (put_next (map edge_of_rust j.edges.items) (Some (done_at t p x))) ≡ visit code t p x
judged_visit code t p y x j e d =
    subst (λ z. after_holds (j.handlers && j.meets) j.height j.state j.falls (put_next (map edge_of_rust j.edges.items) (Some (done_at t p z))) ≡ visit code t p z) e
    (visit_at code t p y d.action (j.handlers && j.meets) j.height j.state j.falls (map edge_of_rust j.edges.items) d.is (ap (λ b. b && j.meets) d.handlers ∙ ap (λ b. holds code d.action p (length y.slots) y.entries && b) d.meets) d.height d.state d.falls d.along)

length-table : (states : List State) → length (table_of states) ≡ length states
length-table states = length-map states cell_of

abbrev pub Least : Table → ℕ → Type 0
Least t p = (x : At) × IsLeast t p x

module _ (c : RustCode) where
  abbrev size : ℕ
  size = length c.items.items

  abbrev code : Code
  code = code_of c

  actions-long : length code.actions ≡ size
  actions-long = length-map c.items.items (action size)

  not_nil : (size ≡ 0 → ⊥) → code.actions ≡ [] → ⊥
  not_nil ne e = ne (sym actions-long ∙ ap length e)

  pub first_empty : size ≡ 0 → FirstFault code Falls 0
  first_empty e = FirstFault.empty (nil code.actions (actions-long ∙ e))
    where
      nil : (xs : List Action) → length xs ≡ 0 → xs ≡ []
      nil [] e = refl
      nil (x ∷ xs) e = absurd (omega (arith, e))

  pub none_empty : size ≡ 0 → Verified code → ⊥
  none_empty e v = let lt = holds_in code v.0 v.1 0 v.1.start.at v.1.start.is in let l = actions-long in omega (arith, lt, l, e)

  pub comes_start : (states : List State) → table_of states ≡ table_at size → Comes code (table_of states)
  comes_start states e = subst (Comes code) (sym (e ∙ ap table_at (sym actions-long))) Comes.starts

  comes_long : (size ≡ 0 → ⊥) → (t : Table) → Comes code t → length t ≡ size
  comes_long ne t r = (kept code (not_nil ne) t (comes_reached code t r)).long ∙ actions-long

  pub states_long : (size ≡ 0 → ⊥) → (states : List State) → Comes code (table_of states) → length states ≡ size
  states_long ne states r = sym (length-table states) ∙ comes_long ne (table_of states) r

  pub least_within : (size ≡ 0 → ⊥) → (t : Table) → Comes code t → (p : ℕ) → Least t p → p < size
  least_within ne t r p l = let a = pending_in t p l.0 l.1.pending in let e = comes_long ne t r in omega (arith, a, e)

  pub next_comes : (t u : Table) (p : ℕ) → Comes code t → Least t p → ((x : At) → IsPending t p x → Good u ≡ visit code t p x) → Comes code u
  next_comes t u p r l v = Comes.goes r l.1 (sym (v l.0 l.1.pending))

  pub next_lighter : (t u : Table) (p : ℕ) → Least t p → ((x : At) → IsPending t p x → Good u ≡ visit code t p x) → weigh (suc code.n_state) u < weigh (suc code.n_state) t
  next_lighter t u p l v = visited_lighter code t p l.0 u l.1.pending (at_visit (visit code t p l.0) _ _ u (sym (v l.0 l.1.pending)) (visit_on code t p l.0))

  pub fault_first : (t : Table) (r : Rule) (p : ℕ) → Comes code t → Least t p → ((x : At) → IsPending t p x → Bad r ≡ visit code t p x) → FirstFault code r p
  fault_first t r p k l v = FirstFault.broken k l.1 (sym (v l.0 l.1.pending))

  pub fault_none : (t : Table) (r : Rule) (p : ℕ) → Comes code t → Least t p → ((x : At) → IsPending t p x → Bad r ≡ visit code t p x) → Verified code → ⊥
  fault_none t r p k l v = no_means code t p l.0 r (comes_reached code t k) l.1.pending (sym (v l.0 l.1.pending))

  pub ends_holding : (size ≡ 0 → ⊥) → (t : Table) → Comes code t → ((p : ℕ) (x : At) → IsPending t p x → ⊥) → Rattle.bc_flow.specs.Verified.Holds code (Rattle.bc_flow.specs.Verified.at t)
  ends_holding ne t k f = yes_means code (not_nil ne) t (comes_reached code t k) f

  pub ends_least : (t : Table) → Comes code t → Rattle.bc_flow.specs.Verified.IsLeastOf code (Rattle.bc_flow.specs.Verified.at t)
  ends_least t k b h = stays_below code b h t (comes_reached code t k)

-- a visit's answer is known
pub good_else : {A : Type 0} → (o : Result A Rule) (states : List State) (v : Visit) → ((r : Rule) → o ≡ Err r → ⊥) → visit_of o states ≡ v → Good (table_of states) ≡ v
good_else (Ok a) states v f h = h
good_else (Err r) states v f h = absurd (f r refl)

pub ok_else : {A : Type 0} → (o : Result A Rule) (P : Type 0) → ((r : Rule) → o ≡ Err r → ⊥) → OnOk o P → P
ok_else (Ok a) P f h = h
ok_else (Err r) P f h = absurd (f r refl)

pub bad_from : {A : Type 0} → (o : Result A Rule) (states : List State) (r : Rule) (v : Visit) → o ≡ Err r → visit_of o states ≡ v → Bad r ≡ v
bad_from o states r v e h = subst (λ z. visit_of z states ≡ v) e h

-- the least was taken out of the queue
abbrev pub Taken : Table → ℕ → List (Reverse ℕ) → Type 0
Taken t p queue = (x : At) × IsLeast t p x × Queued (done_at t p x) queue

pub taken_in : (xs ys : List State) (p : ℕ) (queue : List (Reverse ℕ)) → xs ≡ ys → Taken (table_of xs) p queue → Taken (table_of ys) p queue
taken_in xs ys p queue e h = subst (λ z. Taken (table_of z) p queue) e h
