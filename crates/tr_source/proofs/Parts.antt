-- Parts of a code: from what is assigned at the first position to what is assigned behind the last.
use Rattle.std.proofs.Common.{◌≡◌, ℕ, zero, suc, ◌<◌, ◌≤◌, List, [], ◌∷◌, length, drop, Some, ap, subst, arith, slice_get, le_trans, ◌⊎◌, inl, inr}
use Rattle.bc_resolved.specs.bc_shapes.declared.shape.Entry.{Entry}
use Rattle.bc_resolved.specs.bc_shapes.Shape.{At}
use Rattle.bc_resolved.specs.bc_progress.bc_flow.Verified.{Fine}
use Rattle.emit_measures.specs.bc_scheme.bc_machine.Library.{Line}
use Rattle.bc_resolved.specs.Operands.{Keeps, local_in}
use Rattle.tr_source.proofs.Base.{Setting, Turns}

-- the rules at an assigned position
pub record Right (g : Setting) (w : List At) (p : ℕ) : Type 0 where
  pub at : At
  pub is : slice_get w p ≡ Some at
  pub fine : Fine g.code (slice_get w) p at
  pub line : Line
  pub here : slice_get g.c.lines p ≡ Some line
  pub own_local : local_in line.item ≤ length g.c.locals
  pub keeps : Keeps (length g.c.lines) g.code.n_state (length g.c.children) line.item

-- and at all from p up to q
pub data Rights (g : Setting) (w : List At) : ℕ → ℕ → Type 0 where
  no_position : {p : ℕ} → Rights g w p p
  single : {p : ℕ} → Right g w p → Rights g w p (suc p)
  joined : {p m q : ℕ} → Rights g w p m → Rights g w m q → Rights g w p q

split_at : (r m : ℕ) → (r < m) ⊎ (m ≤ r)
split_at r zero = inr (omega arith)
split_at zero (suc m) = inl (omega arith)
split_at (suc r) (suc m) = elim (split_at r m) [ inl h ↦ inl (omega (arith, h)) | inr h ↦ inr (omega (arith, h)) ]

pub right_at : (g : Setting) (w : List At) (p q r : ℕ) → Rights g w p q → p ≤ r → r < q → Right g w r
right_at g w p q r no_position a b = absurd (omega (arith, a, b))
right_at g w p q r (single h) a b = let e : p ≡ r = omega (arith, a, b) in subst (λ z. Right g w z) e h
right_at g w p q r (joined {m = m} h k) a b = elim (split_at r m) [ inl c ↦ right_at g w p m r h a c | inr c ↦ right_at g w m q r k c b ]

-- entries arrive with their marks
abbrev pub Calm : ℕ → List Entry → Type 0
Calm t es = Turns t es es

abbrev pub Quiet : List Entry → ℕ → ℕ → Type 0
Quiet es p q = (t : ℕ) → p ≤ t → t ≤ q → Calm t es

pub record Part (g : Setting) (es : List Entry) (P : List At → Type 0) (p : ℕ) (x : At) (q : ℕ) (y : At) : Type 0 where
  pub le : p ≤ q
  -- what is assigned behind the first position, before what is behind the part's end
  pub tail : List At → List At
  pub behind : (w rest : List At) → drop p w ≡ x ∷ tail rest → drop q w ≡ y ∷ rest
  pub right : (w rest : List At) → drop p w ≡ x ∷ tail rest → length w ≡ length g.c.lines → Quiet es p q → P w → Rights g w p q

pub drop_next : {A : Type 0} → (p : ℕ) (w : List A) (x : A) (rest : List A) → drop p w ≡ x ∷ rest → drop (suc p) w ≡ rest
drop_next zero w x rest e = ap (drop 1) e
drop_next (suc p) [] x rest e = absurd (cc e)
drop_next (suc p) (y ∷ w) x rest e = drop_next p w x rest e

pub get_here : {A : Type 0} → (p : ℕ) (w : List A) (x : A) (rest : List A) → drop p w ≡ x ∷ rest → slice_get w p ≡ Some x
get_here zero w x rest e = ap (λ z. slice_get z 0) e
get_here (suc p) [] x rest e = absurd (cc e)
get_here (suc p) (y ∷ w) x rest e = get_here p w x rest e

module _ (g : Setting) where
  pub p_none : (es : List Entry) (P : List At → Type 0) (p : ℕ) (x : At) → Part g es P p x p x
  p_none es P p x = record { le = omega arith; tail = λ rest. rest; behind = λ w rest e. e; right = λ w rest e long quiet h. no_position }

  pub p_seq : (es : List Entry) (P : List At → Type 0) (p m q : ℕ) (x y z : At) → Part g es P p x m y → Part g es P m y q z → Part g es P p x q z
  p_seq es P p m q x y z a b = record {
    le = le_trans a.le b.le;
    tail = λ rest. a.tail (b.tail rest);
    behind = λ w rest e. b.behind w rest (a.behind w (b.tail rest) e);
    right = λ w rest e long quiet h. joined
        (a.right w (b.tail rest) e long (λ t l k. quiet t l (le_trans k b.le)) h)
        (b.right w rest (a.behind w (b.tail rest) e) long (λ t l k. quiet t (le_trans a.le l) k) h);
  }

  pub p_one : (es : List Entry) (P : List At → Type 0) (p : ℕ) (x y : At)
      → ((w : List At) → length w ≡ length g.c.lines → slice_get w p ≡ Some x → slice_get w (suc p) ≡ Some y → Quiet es p (suc p) → P w → Right g w p) → Part g es P p x (suc p) y
  p_one es P p x y f = record {
    le = omega arith;
    tail = λ rest. y ∷ rest;
    behind = λ w rest e. drop_next p w x (y ∷ rest) e;
    right = λ w rest e long quiet h. single (f w long (get_here p w x (y ∷ rest) e) (get_here (suc p) w y rest (drop_next p w x (y ∷ rest) e)) quiet h);
  }

  pub p_weak : (es : List Entry) (P Q : List At → Type 0) (p q : ℕ) (x y : At) → ((w : List At) → Q w → P w) → Part g es P p x q y → Part g es Q p x q y
  p_weak es P Q p q x y f a = record { le = a.le; tail = a.tail; behind = a.behind; right = λ w rest e long quiet h. a.right w rest e long quiet (f w h) }

  -- a position that is assigned this
  pub record Is (w : List At) (t : ℕ) (x : At) (es : List Entry) : Type 0 where
    pub is : slice_get w t ≡ Some x
    pub calm : Calm t es

  pub p_end : (es : List Entry) (P : List At → Type 0) (p q : ℕ) (x y : At) → Part g es (λ w. P w × Is w q y es) p x q y → Part g es P p x q y
  p_end es P p q x y a = record {
    le = a.le;
    tail = a.tail;
    behind = a.behind;
    right = λ w rest e long quiet h. a.right w rest e long quiet (h, record { is = get_here q w y rest (a.behind w rest e); calm = quiet q a.le (omega arith) });
  }

  pub p_start : (es : List Entry) (P : List At → Type 0) (p q : ℕ) (x y : At) → Part g es (λ w. P w × Is w p x es) p x q y → Part g es P p x q y
  p_start es P p q x y a = record {
    le = a.le;
    tail = a.tail;
    behind = a.behind;
    right = λ w rest e long quiet h. a.right w rest e long quiet (h, record { is = get_here p w x (a.tail rest) e; calm = quiet p (omega arith) a.le });
  }

  -- with other entries inside
  pub p_calm : (es fs : List Entry) (P : List At → Type 0) (p q : ℕ) (x y : At) → ((t : ℕ) → p ≤ t → t ≤ q → Calm t es → Calm t fs) → Part g fs P p x q y → Part g es P p x q y
  p_calm es fs P p q x y f a = record { le = a.le; tail = a.tail; behind = a.behind; right = λ w rest e long quiet h. a.right w rest e long (λ t l k. f t l k (quiet t l k)) h }
