-- A run in any order decides whether an assignment exists, and its last table is the least.
use Rattle.std.proofs.Common.{◌≡◌, ℕ, zero, suc, ◌<◌, List, [], ◌∷◌, length, replicate, Some, refl, sym, ap, ◌∙◌, subst, arith}
use Rattle.std.specs.Prelude.{slice_get}
use Rattle.bc_shapes.specs.Shape.{At}
use Rattle.bc_shapes.proofs.Joins.{under_refl}
use Rattle.bc_flow.specs.Code.{Code}
use Rattle.bc_flow.specs.declared.code.Rule.{Rule}
use Rattle.bc_flow.specs.Verified.{Grows, Assigned, begin, Leads, Fine, Holds, Verified, Unseen, Pending, Done, Table, at, Visit, Bad, Good, visit, IsPending, here, later, table_at, Decides, Reached, starts, goes, Comes}
use Rattle.bc_flow.proofs.Mono.{fine_under}
use Rattle.bc_flow.proofs.Puts.{leads_on, each_on, IsDone, at_here, at_later, some_is}
use Rattle.bc_flow.proofs.Visits.{OnVisit, Visited, visit_on, visit_has, done-long, done-at, done_cases, pending_is}

pub at_visit : (v : Visit) (P : Rule → Type 0) (Q : Table → Type 0) (u : Table) → v ≡ Good u → OnVisit v P Q → Q u
at_visit v P Q u e h = subst (λ w. OnVisit w P Q) e h

pub at_fault : (v : Visit) (P : Rule → Type 0) (Q : Table → Type 0) (r : Rule) → v ≡ Bad r → OnVisit v P Q → P r
at_fault v P Q r e h = subst (λ w. OnVisit w P Q) e h

pub fine_grows : (code : Code) (a b : Assigned) (p : ℕ) (x : At) → Grows a b → Fine code a p x → Fine code b p x
fine_grows code a b p x g f = record { action = f.action; is = f.is; handlers = f.handlers; height = f.height; state = f.state; falls = f.falls; along = each_on a b _ g f.along }

-- what a run keeps
pub record Kept (code : Code) (t : Table) : Type 0 where
  pub long : length t ≡ length code.actions
  pub start : Leads (at t) (record { to = 0; at = begin })
  pub done : (p : ℕ) (x : At) → IsDone t p x → Fine code (at t) p x

pub visited_grows : (code : Code) (t : Table) (p : ℕ) (x : At) (u : Table) → IsPending t p x → Visited code t p x u → Grows (at t) (at u)
visited_grows code t p x u w v = record { each = λ q z e. v.puts.grows.each q z (done-at t p x w q ∙ e) }

pub kept_on : (code : Code) (t : Table) (p : ℕ) (x : At) (u : Table) → IsPending t p x → Visited code t p x u → Kept code t → Kept code u
kept_on code t p x u w v k =
    let g = visited_grows code t p x u w v in
    record {
      long = v.puts.long ∙ done-long t p x ∙ k.long;
      start = leads_on (at t) (at u) _ g k.start;
      done = λ q z h. done_cases t p x (Fine code (at u)) w
          (record { action = v.action; is = v.is; handlers = v.handlers; height = v.height; state = v.state; falls = v.falls; along = v.puts.along })
          (λ r y d. fine_grows code (at t) (at u) r y g (k.done r y d)) q z (v.puts.done q z h);
    }

unseen_is : (n p : ℕ) (x : At) → at (replicate n Unseen) p ≡ Some x → ⊥
unseen_is zero p x e = cc
unseen_is (suc n) zero x e = cc
unseen_is (suc n) (suc p) x e = unseen_is n p x e

unseen_done : (n p : ℕ) (x : At) → IsDone (replicate n Unseen) p x → ⊥
unseen_done zero p x h = elim h [ ]
unseen_done (suc n) p x (at_later {p = q} h) = unseen_done n q x h

pub unseen-long : {A : Type 0} → (n : ℕ) (x : A) → length (replicate n x) ≡ n
unseen-long zero x = refl
unseen-long (suc n) x = ap suc (unseen-long n x)

kept_start : (code : Code) (n : ℕ) → length code.actions ≡ n → (n ≡ 0 → ⊥) → Kept code (table_at n)
kept_start code zero e ne = absurd (ne refl)
kept_start code (suc n) e ne = record {
  long = ap suc (unseen-long n Unseen) ∙ sym e;
  start = record { at = begin; is = refl; under = under_refl begin };
  done = done;
}
  where
    done : (p : ℕ) (x : At) → IsDone (Pending begin ∷ replicate n Unseen) p x → Fine code (at (Pending begin ∷ replicate n Unseen)) p x
    done p x (at_later {p = q} h) = absurd (unseen_done n q x h)

nil_of : {A : Type 0} → (xs : List A) → length xs ≡ 0 → xs ≡ []
nil_of [] e = refl
nil_of (x ∷ xs) e = absurd (omega (arith, e))

pub kept : (code : Code) → (code.actions ≡ [] → ⊥) → (t : Table) → Reached code t → Kept code t
kept code ne t starts = kept_start code (length code.actions) refl (λ e. ne (nil_of code.actions e))
kept code ne t (goes {t = s} {u = u} {p = p} {x = x} r w e) = kept_on code s p x u w (at_visit (visit code s p x) _ _ u e (visit_on code s p x)) (kept code ne s r)

-- nothing pending: all that was seen is done
seen_done : (t : Table) → ((p : ℕ) (x : At) → IsPending t p x → ⊥) → (p : ℕ) (x : At) → at t p ≡ Some x → IsDone t p x
seen_done [] f p x e = cc
seen_done (Unseen ∷ t) f zero x e = cc
seen_done (Pending y ∷ t) f zero x e = absurd (f 0 y here)
seen_done (Done y ∷ t) f zero x e = subst (λ z. IsDone (Done y ∷ t) 0 z) (some_is y x e) at_here
seen_done (c ∷ t) f (suc p) x e = at_later (seen_done t (λ q y w. f (suc q) y (later w)) p x e)

pub kept_holds : (code : Code) (t : Table) → Kept code t → ((p : ℕ) (x : At) → IsPending t p x → ⊥) → Holds code (at t)
kept_holds code t k f = record { start = k.start; closed = λ p x e. k.done p x (seen_done t f p x e) }

-- Where an assignment exists, the run stays below it and meets no fault.

get_in : {A : Type 0} → (xs : List A) (p : ℕ) (x : A) → slice_get xs p ≡ Some x → p < length xs
get_in [] p x e = cc
get_in (y ∷ xs) zero x e = omega arith
get_in (y ∷ xs) (suc p) x e = let lt = get_in xs p x e in omega (arith, lt)

pub holds_in : (code : Code) (a : Assigned) → Holds code a → (p : ℕ) (x : At) → a p ≡ Some x → p < length code.actions
holds_in code a h p x e = let f = h.closed p x e in get_in code.actions p f.action f.is

below_fine : (code : Code) (a : Assigned) → Holds code a → (t : Table) → Grows (at t) a → (p : ℕ) (x : At) → IsPending t p x → Fine code a p x
below_fine code a h t g p x w = let l = g.each p x (pending_is t p x w) in fine_under code a p x l.at l.under (h.closed p l.at l.is)

pub never_faults : (code : Code) (a : Assigned) → Holds code a → (t : Table) → length t ≡ length code.actions → Grows (at t) a → (p : ℕ) (x : At) → IsPending t p x → OnVisit (visit code t p x) (λ _. ⊥) (λ u. Grows (at u) a)
never_faults code a h t long g p x w = visit_has code a (length code.actions) (holds_in code a h) t p x long g w (below_fine code a h t g p x w)

start_below : (a : Assigned) (n : ℕ) → Leads a (record { to = 0; at = begin }) → Grows (at (table_at n)) a
start_below a zero l = record { each = λ p x e. cc }
start_below a (suc n) l = record { each = each }
  where
    each : (p : ℕ) (x : At) → at (Pending begin ∷ replicate n Unseen) p ≡ Some x → Leads a (record { to = p; at = x })
    each zero x e = subst (λ z. Leads a (record { to = 0; at = z })) (some_is begin x e) l
    each (suc p) x e = absurd (unseen_is n p x e)

pub not_empty : (code : Code) → Verified code → code.actions ≡ [] → ⊥
not_empty code v e = let lt = holds_in code v.0 v.1 0 v.1.start.at v.1.start.is in let n = ap length e in omega (arith, lt, n)

pub stays_below : (code : Code) (a : Assigned) → Holds code a → (t : Table) → Reached code t → Grows (at t) a
stays_below code a h t starts = start_below a (length code.actions) h.start
stays_below code a h t (goes {t = s} {u = u} {p = p} {x = x} r w e) =
    at_visit (visit code s p x) _ _ u e (never_faults code a h s (kept code (not_empty code (a, h)) s r).long (stays_below code a h s r) p x w)

-- Yes or no does not depend on the order.

pub yes_means : (code : Code) → (code.actions ≡ [] → ⊥) → (t : Table) → Reached code t → ((p : ℕ) (x : At) → IsPending t p x → ⊥) → Holds code (at t)
yes_means code ne t r f = kept_holds code t (kept code ne t r) f

pub no_means : (code : Code) (t : Table) (p : ℕ) (x : At) (r : Rule) → Reached code t → IsPending t p x → visit code t p x ≡ Bad r → Verified code → ⊥
no_means code t p x r c w e v =
    at_fault (visit code t p x) _ _ r e (never_faults code v.0 v.1 t (kept code (not_empty code v) t c).long (stays_below code v.0 v.1 t c) p x w)

pub comes_reached : (code : Code) (t : Table) → Comes code t → Reached code t
comes_reached code t Comes.starts = Reached.starts
comes_reached code t (Comes.goes {t = s} r l e) = Reached.goes (comes_reached code s r) l.pending e

pub decides : (code : Code) → Decides code
decides code = record {
  no = no_means code;
  yes = λ t ne r f. yes_means code ne t r f;
  least = λ t r b h. stays_below code b h t r;
}
