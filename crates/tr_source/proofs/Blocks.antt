-- What holds inside loops and handlers.
use Rattle.std.proofs.Common.{◌≡◌, ℕ, zero, suc, ◌+◌, ◌≤◌, ◌%◌, min, Bool, true, false, inl, inr, List, [], ◌∷◌, ◌++◌, length, drop, Some, refl, sym, ap, ◌∙◌, subst, arith, zero-le, slice_get}
use Rattle.std.specs.Prelude.{nat_le}
use Rattle.std.proofs.lemmas.Bool.{true≢false, le-leb}
use Rattle.std.proofs.lemmas.Bool.Decides.{leb_tells}
use Rattle.emit_measures.specs.bc_scheme.bc_ops.declared.instr.Op.TheVariants as ops
use Rattle.bc_resolved.specs.bc_shapes.declared.kinds.Kind.{Kind}
use Rattle.bc_resolved.specs.bc_shapes.declared.kinds.Kind.TheVariants as kinds
use Rattle.bc_resolved.specs.bc_shapes.declared.shape.Entry.{Entry}
use Rattle.bc_resolved.specs.bc_shapes.Shape.{At, cause, also}
use Rattle.bc_resolved.proofs.bc_shapes_lemmas.Joins.{belows_refl}
use Rattle.bc_resolved.specs.bc_progress.bc_flow.Action.{instr_action, op_action, jump_action}
use Rattle.bc_resolved.specs.bc_progress.bc_flow.Edges.{floor, lowest, pushed}
use Rattle.emit_measures.specs.bc_scheme.bc_machine.Library.{Jumps}
use Rattle.emit_measures.specs.bc_scheme.Context.{plain}
use Rattle.emit_measures.specs.bc_scheme.Statements.{Around, deeper, top_bit, StandsJ, jumped, popped, unwound}
use Rattle.tr_source.proofs.Base.{Setting, Safe, shape, cut, cut_all, cut_more, safe_more, length-more}
use Rattle.tr_source.proofs.Parts.{Part, p_seq, p_weak, p_calm, Is, p_end}
use Rattle.tr_source.proofs.Steps.{On, p_straight, p_straight_to, p_jump, p_unwind, p_setup, p_end_finally, waiting, active, iters, calm_waiting, calm_active, turns_entered}

-- the slots and entries of the loop around, below those of a statement in it
pub record Loop (r : Around) (bs ks : List Kind) (es : List Entry) : Type 0 where
  pub few : r.count ≤ length es
  pub inner : cut (lowest r.count es (length ks)) ks ≡ iters r.iterator ++ bs
  pub low : floor (drop r.count es) ≤ length bs
  pub top : floor es ≤ length ks

-- where a statement's jumps and raises lead
pub record Inside (g : Setting) (w : List At) (r : Around) (bs ks : List Kind) (es : List Entry) : Type 0 where
  pub safe : Safe w ks es
  pub outer : Safe w bs (drop r.count es)
  pub brk : Is g w r.brk (shape bs (drop r.count es)) (drop r.count es)
  pub cont : Is g w r.cont (shape (iters r.iterator ++ bs) (drop r.count es)) (drop r.count es)

pub lowest_le : (k : ℕ) (es : List Entry) (n : ℕ) → lowest k es n ≤ n
lowest_le zero es n = omega arith
lowest_le (suc k) [] n = omega arith
lowest_le (suc k) (e ∷ es) n = let h = lowest_le k es (min e.height n) in omega (arith, h)

-- one entry more, with more slots over it
pub loop_deeper : (r : Around) (bs over ks : List Kind) (e : Entry) (es : List Entry) → e.height ≡ length ks → Loop r bs ks es → Loop (deeper r) bs (over ++ ks) (e ∷ es)
loop_deeper r bs over ks e es high l =
    let a = length-more over ks in let m : min e.height (length (over ++ ks)) ≡ length ks = omega (arith, a, high) in
    record {
      few = (let f = l.few in omega (arith, f));
      inner = ap (λ n. cut (lowest r.count es n) (over ++ ks)) m ∙ cut_more (lowest r.count es (length ks)) over ks (lowest_le r.count es (length ks)) ∙ l.inner;
      low = l.low;
      top = omega (arith, a, high);
    }

-- a loop's own body
pub loop_own : (brk cont : ℕ) (it : Bool) (ks : List Kind) (es : List Entry) → floor es ≤ length ks → Loop (record { brk = brk; cont = cont; count = 0; iterator = it }) ks (iters it ++ ks) es
loop_own brk cont it ks es le = record {
  few = zero-le;
  inner = cut_all (iters it ++ ks);
  low = le;
  top = (let a = length-more (iters it) ks in omega (arith, a, le));
}

-- the entry of a try while its body runs
pub safe_waiting : (g : Setting) (w : List At) (h : ℕ) (last : Bool) (ks : List Kind) (es : List Entry) → Safe w ks es → Is g w h (shape (pushed last ks) (active h last ks ∷ es)) es → Safe w ks (waiting h last ks ∷ es)
safe_waiting g w h last ks es s i = (
  record {
    low = omega arith;
    enter = λ a. record {
      is = subst (λ z. slice_get w h ≡ Some (shape (pushed last z) (active h last ks ∷ es))) (sym (cut_all ks)) i.is;
      turns = calm_active g h h last ks es (omega arith) i.calm;
    };
  },
  s,
)

-- and while its handler runs
pub safe_active : (w : List At) (h : ℕ) (last : Bool) (over ks : List Kind) (es : List Entry) → Safe w ks es → Safe w (over ++ ks) (active h last ks ∷ es)
safe_active w h last over ks es s = (record { low = (let a = length-more over ks in omega (arith, a)); enter = λ a. absurd (true≢false a) }, safe_more w over ks es s)

pub inside_deeper : (g : Setting) (w : List At) (r : Around) (bs ks over : List Kind) (e : Entry) (es : List Entry) → Safe w (over ++ ks) (e ∷ es) → Inside g w r bs ks es → Inside g w (deeper r) bs (over ++ ks) (e ∷ es)
inside_deeper g w r bs ks over e es s i = record { safe = s; outer = i.outer; brk = i.brk; cont = i.cont }

pub inside_own : (g : Setting) (w : List At) (brk cont : ℕ) (it : Bool) (ks : List Kind) (es : List Entry) → Safe w ks es → Is g w brk (shape ks es) es → Is g w cont (shape (iters it ++ ks) es) es
    → Inside g w (record { brk = brk; cont = cont; count = 0; iterator = it }) ks (iters it ++ ks) es
inside_own g w brk cont it ks es s a b = record { safe = safe_more w (iters it) ks es s; outer = s; brk = a; cont = b }

byte_count : (n : ℕ) (it : Bool) → suc n ≤ 127 → (suc n + top_bit it) % 128 ≡ suc n
byte_count n true h = omega (arith, h)
byte_count n false h = omega (arith, h)

byte_bit : (n : ℕ) (it : Bool) → suc n ≤ 127 → nat_le 128 (suc n + top_bit it) ≡ it
byte_bit n true h = let a : 128 ≤ suc n + 128 = omega arith in le-leb _ _ a
byte_bit n false h = elim (leb_tells 128 (suc n + 0)) [ inl t ↦ (let b = t.1 in absurd (omega (arith, h, b))) | inr t ↦ t.0 ]

module _ (g : Setting) (few_entries : g.code.n_exc ≤ 127) where
  -- while a statement's jumps are known
  abbrev pub Within : Around → List Kind → List Kind → List Entry → List At → Type 0
  Within r bs ks es w = Inside g w r bs ks es

  abbrev pub SPart : Around → List Kind → List Kind → List Entry → ℕ → ℕ → Type 0
  SPart r bs ks es p q = Part g es (λ w. Inside g w r bs ks es) p (shape ks es) q (shape ks es)

  -- a jump out of a loop
  abbrev pub Out : List Kind → List Kind → List Entry → ℕ → ℕ → List At → Type 0
  Out ks bs es count target w = Safe w ks es × Safe w bs (drop count es) × Is g w target (shape bs (drop count es)) (drop count es)

  pub j_part : (ks bs : List Kind) (es : List Entry) (line target count : ℕ) (it : Bool) (p q : ℕ) → StandsJ g.c line target count it p q → count ≤ length es → cut (lowest count es (length ks)) ks ≡ iters it ++ bs
      → floor (drop count es) ≤ length bs → length ks ≤ g.top → length es ≤ g.code.n_exc → (y : At) → Part g es (Out ks bs es count target) p (shape ks es) q y
  unfolding instr_action op_action
  j_part ks bs es line target count it p q (jumped h) few inner low t held y =
      let e : bs ≡ ks = sym (sym (cut_all ks) ∙ inner) in
      p_weak g es (λ w. Safe w ks es × Is g w target (shape ks es) es) _ _ _ _ _ (λ w s. (s.0, subst (λ z. Is g w target (shape z es) es) e s.2)) (p_jump g es p _ target h ks y t held)
  j_part ks bs es line target count it p q (popped h h1 h2 h3 h4) few inner low t held y =
      let e : iters true ++ bs ≡ ks = sym (sym (cut_all ks) ∙ inner) in
      let l = ap length e in
      let b = p_weak g es (λ w. Safe w bs es) (Out ks bs es count target) in
      subst (λ z. Part g es (Out ks bs es count target) p (shape z es) q y) e
      (p_seq g es _ _ _ _ _ _ _ (p_seq g es _ _ _ _ _ _ _ (p_seq g es _ _ _ _ _ _ _ (p_seq g es _ _ _ _ _ _ _
      (b _ _ _ _ (λ w s. s.1) (p_straight g es p _ (plain ops.PopTop) h (tt, zero-le, tt, zero-le) _ _ refl (iters true) bs (kinds.Iter3 ∷ kinds.Iter2 ∷ kinds.Iter1 ∷ bs) refl (omega arith) (belows_refl _) (omega (arith, l, t)) (omega (arith, l, t)) held))
      (b _ _ _ _ (λ w s. s.1) (p_straight g es (suc p) _ (plain ops.PopTop) h1 (tt, zero-le, tt, zero-le) _ _ refl (kinds.Iter3 ∷ kinds.Iter2 ∷ kinds.Iter1 ∷ []) bs (kinds.Iter2 ∷ kinds.Iter1 ∷ bs) refl (omega arith) (belows_refl _) (omega (arith, l, t)) (omega (arith, l, t)) held)))
      (b _ _ _ _ (λ w s. s.1) (p_straight g es (suc (suc p)) _ (plain ops.PopTop) h2 (tt, zero-le, tt, zero-le) _ _ refl (kinds.Iter2 ∷ kinds.Iter1 ∷ []) bs (kinds.Iter1 ∷ bs) refl (omega arith) (belows_refl _) (omega (arith, l, t)) (omega (arith, l, t)) held)))
      (b _ _ _ _ (λ w s. s.1) (p_straight g es (suc (suc (suc p))) _ (plain ops.PopTop) h3 (tt, zero-le, tt, zero-le) _ _ refl (kinds.Iter1 ∷ []) bs bs refl (omega arith) (belows_refl _) (omega (arith, l, t)) (omega (arith, l, t)) held)))
      (p_weak g es (λ w. Safe w bs es × Is g w target (shape bs es) es) _ _ _ _ _ (λ w s. (s.1, s.2)) (p_jump g es (suc (suc (suc (suc p)))) _ target h4 bs y (omega (arith, l, t)) held)))
  j_part ks bs es line target count it p q (unwound {n = n} _ h) few inner low t held y =
      let a : suc n ≤ 127 = omega (arith, few, held, few_entries) in
      p_weak g es _ _ _ _ _ _ (λ w s. (s.0, s.2)) (p_unwind g es p _ target (suc n + top_bit it) (suc n) it h (byte_count n it a) (byte_bit n it a) ks bs few inner low y t held)

  -- a finally: its body, and what runs last over the cause
  pub finally_part : (r : Around) (bs ks : List Kind) (es : List Entry) (p j k n1 n2 n3 : ℕ) → On g.c n1 p (Jumps ops.SetupFinally (suc j)) → On g.c n2 j (plain ops.LoadConstNone) → On g.c n3 k (plain ops.EndFinally)
      → suc (length ks) ≤ g.top → suc (length es) ≤ g.code.n_exc
      → SPart (deeper r) bs ks (waiting (suc j) true ks ∷ es) (suc p) j → SPart (deeper r) bs (kinds.Cause ∷ ks) (active (suc j) true ks ∷ es) (suc j) k → SPart r bs ks es p (suc k)
  unfolding instr_action op_action jump_action
  finally_part r bs ks es p j k n1 n2 n3 h1 h2 h3 t held body last =
      let e = waiting (suc j) true ks in let f = active (suc j) true ks in
      let lj = body.le in
      p_seq g es _ _ _ _ _ _ _ (p_seq g es (Within r bs ks es) p (suc j) k (shape ks es) (shape (kinds.Cause ∷ ks) (f ∷ es)) (shape (kinds.Cause ∷ ks) (f ∷ es))
      (p_end g es (Within r bs ks es) p (suc j) _ _ (p_seq g es _ _ _ _ _ _ _ (p_seq g es _ _ _ _ _ _ _
      (p_weak g es _ _ _ _ _ _ (λ w s. (s.0.safe, s.1)) (p_setup g es p _ (suc j) ops.SetupFinally true h1 refl (omega (arith, lj)) ks (omega (arith, t)) held (shape (kinds.Cause ∷ ks) (f ∷ es))))
      (p_weak g es _ _ _ _ _ _ (λ w s. inside_deeper g w r bs ks [] e es (safe_waiting g w (suc j) true ks es s.0.safe s.1) s.0)
      (p_calm g es (e ∷ es) _ _ _ _ _ (λ x a b c. calm_waiting g x (suc j) true ks es (omega (arith, b)) c) body)))
      (p_weak g es _ _ _ _ _ _ (λ w s. safe_waiting g w (suc j) true ks es s.0.safe s.1)
      (p_straight_to g es (e ∷ es) (f ∷ es) j _ (plain ops.LoadConstNone) h2 (tt, zero-le, tt, zero-le) _ _ refl [] ks (kinds.Cause ∷ ks) refl zero-le (also cause (belows_refl ks)) (omega (arith, t)) t held (λ a b. turns_entered g (suc j) true ks es b)))))
      (p_weak g es _ _ _ _ _ _ (λ w s. inside_deeper g w r bs ks (kinds.Cause ∷ []) f es (safe_active w (suc j) true (kinds.Cause ∷ []) ks es s.safe) s)
      (p_calm g es (f ∷ es) _ _ _ _ _ (λ x a b c. calm_active g x (suc j) true ks es a c) last)))
      (p_weak g es _ _ _ _ _ _ (λ w s. safe_active w (suc j) true [] ks es s.safe) (p_end_finally g es k _ f h3 kinds.Cause refl refl ks refl t held))
