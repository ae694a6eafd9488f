-- The first fault is one.
use Rattle.std.proofs.Common.{◌≡◌, ℕ, zero, suc, ◌<◌, [], length, refl, sym, ap, ◌∙◌, subst, arith, inl, inr}
use Rattle.std.proofs.lemmas.Bool.{cases_order}
use Rattle.bc_shapes.specs.Shape.{At}
use Rattle.bc_flow.specs.Code.{Code}
use Rattle.bc_flow.specs.declared.code.Rule.{Rule}
use Rattle.bc_flow.specs.Verified.{Table, Unseen, Bad, Good, visit, IsLeast, Comes, FirstFault, table_at, at}
use Rattle.bc_flow.proofs.Puts.{some_is}
use Rattle.bc_flow.proofs.Visits.{Visited, visit_on, pending_is, pending_in, done-long}
use Rattle.bc_flow.proofs.Decides.{at_visit, unseen-long}

-- the table after that number of visits
data ComesIn (code : Code) : ℕ → Table → Type 0 where
  starts : ComesIn code 0 (table_at (length code.actions))
  goes : {n : ℕ} {t u : Table} {p : ℕ} {x : At} → ComesIn code n t → IsLeast t p x → visit code t p x ≡ Good u → ComesIn code (suc n) u

counted : (code : Code) (t : Table) → Comes code t → (n : ℕ) × ComesIn code n t
counted code t Comes.starts = (0, starts)
counted code t (Comes.goes {t = s} r l e) = let c = counted code s r in (suc c.0, goes c.1 l e)

place_same : (t : Table) (p q : ℕ) (x y : At) → IsLeast t p x → IsLeast t q y → p ≡ q
place_same t p q x y l m = let a = l.least q y m.pending in let b = m.least p x l.pending in omega (arith, a, b)

visit_same : (code : Code) (t u : Table) (p q : ℕ) (x y : At) → t ≡ u → IsLeast t p x → IsLeast u q y → visit code t p x ≡ visit code u q y
visit_same code t u p q x y e l m =
    let m2 = subst (λ z. IsLeast z q y) (sym e) m in
    let pq = place_same t p q x y l m2 in
    let xy : x ≡ y = some_is x y (sym (pending_is t p x l.pending) ∙ ap (at t) pq ∙ pending_is t q y m2.pending) in
    ap (λ z. visit code z p x) e ∙ ap (λ z. visit code u z x) pq ∙ ap (visit code u q) xy

good_is : (t u : Table) → Good t ≡ Good u → t ≡ u
good_is t u e = cc

bad_is : (r s : Rule) → Bad r ≡ Bad s → r ≡ s
bad_is r s e = cc

not_both : (r : Rule) (t : Table) → Bad r ≡ Good t → ⊥
not_both r t e = cc

same_in : (code : Code) (n : ℕ) (t u : Table) → ComesIn code n t → ComesIn code n u → t ≡ u
same_in code n t u starts starts = refl
same_in code n t u (goes {n = k} {t = s} {p = p} {x = x} r l e) (goes {t = v} {p = q} {x = y} w m f) =
    good_is t u (sym e ∙ visit_same code s v p q x y (same_in code k s v r w) l m ∙ f)

-- a table that came before had a good visit
pub record Went (code : Code) (t : Table) : Type 0 where
  pub place : ℕ
  pub shape : At
  pub to : Table
  pub least : IsLeast t place shape
  pub good : visit code t place shape ≡ Good to

went : (code : Code) (n m : ℕ) (t u : Table) → n < m → ComesIn code n t → ComesIn code m u → Went code t
went code n m t u lt c starts = absurd (omega (arith, lt))
went code n m t u lt c (goes {n = k} {t = s} {p = p} {x = x} r l e) = elim (cases_order n k) [
  | inl q ↦ subst (Went code) (same_in code k s t r (subst (λ z. ComesIn code z t) q c)) (record { place = p; shape = x; to = u; least = l; good = e })
  | inr o ↦ elim o [ inl a ↦ went code n k t s a c r | inr b ↦ absurd (omega (arith, lt, b)) ]
]

never_after : (code : Code) (n m : ℕ) (t u : Table) (p : ℕ) (x : At) (r : Rule) → n < m → ComesIn code n t → ComesIn code m u → IsLeast t p x → visit code t p x ≡ Bad r → ⊥
never_after code n m t u p x r lt c d l e = let w = went code n m t u lt c d in not_both r w.to (sym e ∙ visit_same code t t p w.place x w.shape refl l w.least ∙ w.good)

table_long : (n : ℕ) → length (table_at n) ≡ n
table_long zero = refl
table_long (suc n) = ap suc (unseen-long n Unseen)

comes_length : (code : Code) (t : Table) → Comes code t → length t ≡ length code.actions
comes_length code t Comes.starts = table_long (length code.actions)
comes_length code t (Comes.goes {t = s} {p = p} {x = x} r l e) =
    let v = at_visit (visit code s p x) _ (Visited code s p x) t e (visit_on code s p x) in
    v.puts.long ∙ done-long s p x ∙ comes_length code s r

none_there : (code : Code) (t : Table) (p : ℕ) (x : At) → code.actions ≡ [] → Comes code t → IsLeast t p x → ⊥
none_there code t p x e c l = let a = pending_in t p x l.pending in let b = comes_length code t c in let z = ap length e in omega (arith, a, b, z)

pub one_fault : (code : Code) (r s : Rule) (p q : ℕ) → FirstFault code r p → FirstFault code s q → (r ≡ s) × (p ≡ q)
one_fault code r s p q (FirstFault.empty e) (FirstFault.empty f) = (refl, refl)
one_fault code r s p q (FirstFault.empty e) (FirstFault.broken {t = u} {x = y} d m f) = absurd (none_there code u q y e d m)
one_fault code r s p q (FirstFault.broken {t = t} {x = x} c l e) (FirstFault.empty f) = absurd (none_there code t p x f c l)
one_fault code r s p q (FirstFault.broken {t = t} {x = x} c l e) (FirstFault.broken {t = u} {x = y} d m f) =
    let a = counted code t c in
    let b = counted code u d in
    elim (cases_order a.0 b.0) [
      | inl z ↦ let tu = same_in code b.0 t u (subst (λ k. ComesIn code k t) z a.1) b.1 in
          (bad_is r s (sym e ∙ visit_same code t u p q x y tu l m ∙ f), place_same u p q x y (subst (λ k. IsLeast k p x) tu l) m)
      | inr o ↦ elim o [
        | inl lt ↦ absurd (never_after code a.0 b.0 t u p x r lt a.1 b.1 l e)
        | inr gt ↦ absurd (never_after code b.0 a.0 u t q y s gt b.1 a.1 m f)
      ]
    ]
