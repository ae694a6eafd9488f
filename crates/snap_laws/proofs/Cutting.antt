-- What an assignment has where a test holds is an assignment of its own, where the test goes along the edges. So the least one has
-- nothing at a position where the test fails.
use Rattle.std.proofs.Common.{◌≡◌, ℕ, Bool, true, false, List, [], ◌∷◌, Option, Some, None, refl, ap, subst}
use Rattle.std.proofs.lemmas.Bool.{false≢true}
use Rattle.bc_flow.specs.bc_shapes.Shape.{At, Under}
use Rattle.bc_flow.specs.Code.{Code}
use Rattle.bc_flow.specs.Edges.{Edge, edges}
use Rattle.bc_flow.specs.Verified.{Assigned, Each, none, also, Fine, Holds, Grows, begin}
use Rattle.bc_flow.proofs.bc_shapes_lemmas.Joins.{under_refl}

abbrev kept_if : Bool → At → Option At
kept_if true x = Some x
kept_if false x = None

abbrev kept_of : (At → Bool) → Option At → Option At
kept_of test None = None
kept_of test (Some x) = kept_if (test x) x

-- a test of what is at a position
abbrev pub Test : Type 0
Test = ℕ → At → Bool

-- what the assignment has where the test holds
abbrev pub only_where : Test → Assigned → Assigned
only_where test a p = kept_of (test p) (a p)

if_parts : (b : Bool) (y x : At) → kept_if b y ≡ Some x → (b ≡ true) × (y ≡ x)
if_parts true y x e = (refl, some_is y x e)
  where
    some_is : (u v : At) → Some u ≡ Some v → u ≡ v
    some_is u v e = cc
if_parts false y x e = cc

of_parts : (test : At → Bool) (o : Option At) (x : At) → kept_of test o ≡ Some x → (o ≡ Some x) × (test x ≡ true)
of_parts test None x e = cc
of_parts test (Some y) x e = let p = if_parts (test y) y x e in (ap Some p.1, subst (λ z. test z ≡ true) p.1 p.0)

-- what is there, is there in the whole assignment, and the test holds of it
pub where_parts : (test : Test) (a : Assigned) (p : ℕ) (x : At) → only_where test a p ≡ Some x → (a p ≡ Some x) × (test p x ≡ true)
where_parts test a p x e = of_parts (test p) (a p) x e

if_is : (b : Bool) (x : At) → b ≡ true → kept_if b x ≡ Some x
if_is true x e = refl
if_is false x e = absurd (false≢true e)

of_is : (test : At → Bool) (o : Option At) (x : At) → o ≡ Some x → test x ≡ true → kept_of test o ≡ Some x
of_is test o x e t = subst (λ z. kept_of test z ≡ Some x) (sym e) (if_is (test x) x t)
  where
    sym : {y z : Option At} → y ≡ z → z ≡ y
    sym e = cc

where_is : (test : Test) (a : Assigned) (p : ℕ) (x : At) → a p ≡ Some x → test p x ≡ true → only_where test a p ≡ Some x
where_is test a p x e t = of_is (test p) (a p) x e t

-- the test holds of what the assignment has at the end of each edge
abbrev pub Along : Test → Assigned → List Edge → Type 0
Along test a [] = Unit {0}
Along test a (e ∷ es) = ((at : At) → a e.to ≡ Some at → Under e.at at → test e.to at ≡ true) × Along test a es

each_where : (test : Test) (a : Assigned) (es : List Edge) → Along test a es → Each a es → Each (only_where test a) es
each_where test a [] h r = none
each_where test a (e ∷ es) h (also l r) =
    also (record { at = l.at; is = where_is test a e.to l.at l.is (h.0 l.at l.is l.under); under = l.under }) (each_where test a es h.1 r)

module _ (code : Code) (a : Assigned) (test : Test) where
  pub holds_where : Holds code a → ((x : At) → a 0 ≡ Some x → Under begin x → test 0 x ≡ true)
      → ((p : ℕ) (x : At) → a p ≡ Some x → test p x ≡ true → (f : Fine code a p x) → Along test a (edges code f.action p x)) → Holds code (only_where test a)
  holds_where h first along = record {
    start = record { at = h.start.at; is = where_is test a 0 h.start.at h.start.is (first h.start.at h.start.is h.start.under); under = h.start.under };
    closed = λ p x is.
        let k = where_parts test a p x is in
        let f = h.closed p x k.0 in
        record {
          action = f.action;
          is = f.is;
          handlers = f.handlers;
          height = f.height;
          state = f.state;
          falls = f.falls;
          along = each_where test a (edges code f.action p x) (along p x k.0 k.1 f) f.along;
        };
  }

  pub grows_where : Grows (only_where test a) a
  grows_where = record { each = λ p x is. record { at = x; is = (where_parts test a p x is).0; under = under_refl x } }
