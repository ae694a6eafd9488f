-- Expressions, over any slots.
use Rattle.std.proofs.Common.{◌≡◌, ℕ, zero, suc, ◌+◌, ◌*◌, ◌≤◌, max, Bool, true, false, List, [], ◌∷◌, ◌++◌, length, drop, replicate, Option, Some, None, refl, sym, ap, ◌∙◌, subst, arith, if◌then◌else◌, zero-le, length-append, append_assoc, append-nil}
use Rattle.std.specs.Prelude.{nat_lt, nat_le, bytes_eq}
use Rattle.std.proofs.lemmas.List.{length-replicate}
use Rattle.std.proofs.lemmas.List.Quantifiers.{position-Some}
use Rattle.bc_resolved.specs.mpy_base.Val.{Val, Nil, Truth, Int, Str}
use Rattle.bc_resolved.specs.mpy_base.declared.limits.TheConstants.{MAX_ITEMS}
use Rattle.emit_measures.specs.bc_scheme.bc_ops.declared.instr.Op.{Op}
use Rattle.emit_measures.specs.bc_scheme.bc_ops.declared.instr.Op.TheVariants as ops
use Rattle.bc_resolved.specs.bc_shapes.declared.kinds.Kind.{Kind}
use Rattle.bc_resolved.specs.bc_shapes.declared.kinds.Kind.TheVariants as kinds
use Rattle.bc_resolved.specs.bc_shapes.declared.kinds.Want.{Want}
use Rattle.bc_resolved.specs.bc_shapes.declared.kinds.Want.TheVariants as wants
use Rattle.bc_resolved.specs.bc_shapes.declared.kinds.Give.TheVariants.{New, Again}
use Rattle.bc_resolved.specs.bc_shapes.declared.shape.Entry.{Entry}
use Rattle.bc_resolved.specs.bc_shapes.Shape.{At, Below, Belows, same, value, also, fits, takes as wanted}
use Rattle.bc_resolved.proofs.bc_shapes_lemmas.Joins.{belows_refl}
use Rattle.bc_resolved.specs.bc_progress.bc_flow.Action.{Straight, Branch, instr_action, op_action, jump_action, arguments}
use Rattle.py_meaning.specs.py_tree.declared.expr.CompareOp.{CompareOp}
use Rattle.emit_measures.specs.bc_scheme.py_meaning.Tree.{Expr, Constant, Named, Unary, Not, Binary, And, Or, Compare, Cond, TupleOf, ListOf, DictOf, Attr, Index, Call, Method, Exprs, NoExpr, More, Links, Link, Pairs, Keys, NoKey, Key, count, key_count, pair_count}
use Rattle.emit_measures.specs.bc_scheme.bc_machine.Library.{Name, Item, Names, Loads}
use Rattle.emit_measures.specs.bc_scheme.Context.{Has, plain, number, loads, load_by, slot_of, constant}
use Rattle.emit_measures.specs.bc_scheme.Expressions.{StandsC, straight, negated, StandsE, literal, name, one, «not», two, «and», «or», compare, chain, cond, tuple, items, dict, attr, index, call, method, StandsEs, no_expr, next, StandsO, no_operand, operand, StandsL, last, link, StandsD, no_pair, pair, StandsK, no_key, key}
use Rattle.emit_measures.specs.bc_scheme.Heights.{tall, tallest, tall_above, tall_links, tall_pairs, tall_keys}
use Rattle.bc_resolved.specs.bc_progress.Plans.{action_of}
use Rattle.tr_source.specs.Widest.{widest, widest_of, widest_links, widest_pairs, widest_keys}
use Rattle.tr_source.proofs.Base.{Setting, Safe, shape, safe_more}
use Rattle.tr_source.proofs.Parts.{Part, p_none, p_seq, p_weak, Is, p_end}
use Rattle.tr_source.proofs.Steps.{Own, p_straight, p_branch, p_jump}

-- an instruction that pushes a value
pub record Pushes (g : Setting) (item : Item) : Type 0 where
  pub kind : Kind
  pub action : action_of item ≡ Straight [] (New kind ∷ [])
  pub below : Below kind kinds.Value
  pub own : Own g item

str_action : (b : Bool) (text : Name) (v : Val) → action_of (if b then Names ops.LoadConstString text else Loads v) ≡ Straight [] (New kinds.Value ∷ [])
unfolding op_action
str_action true text v = refl
str_action false text v = refl

str_own : (g : Setting) (b : Bool) (text : Name) (v : Val) → Own g (if b then Names ops.LoadConstString text else Loads v)
str_own g true text v = (tt, zero-le, tt, zero-le)
str_own g false text v = (tt, zero-le, tt, zero-le)

pub pushes_constant : (g : Setting) (v : Val) → Pushes g (constant v)
unfolding instr_action op_action
pushes_constant g Nil = record { kind = kinds.Either; action = refl; below = value; own = (tt, zero-le, tt, zero-le) }
pushes_constant g (Truth true) = record { kind = kinds.Value; action = refl; below = same; own = (tt, zero-le, tt, zero-le) }
pushes_constant g (Truth false) = record { kind = kinds.Value; action = refl; below = same; own = (tt, zero-le, tt, zero-le) }
pushes_constant g (Int z) = record { kind = kinds.Value; action = refl; below = same; own = (tt, zero-le, tt, zero-le) }
pushes_constant g (Str text) = record { kind = kinds.Value; action = str_action (nat_le (length text) 10) text (Str text); below = same; own = str_own g (nat_le (length text) 10) text (Str text) }
pushes_constant g v = record { kind = kinds.Value; action = refl; below = same; own = (tt, zero-le, tt, zero-le) }

-- a local has a slot
pub slot_within : (g : Setting) (n : Name) (slot : ℕ) → slot_of g.c n ≡ Some slot → suc slot ≤ length g.c.locals
slot_within g n slot e = (position-Some (bytes_eq n) g.c.locals slot [] e).0

pushes_local : (g : Setting) (b : Bool) (slot : ℕ) → suc slot ≤ length g.c.locals → Pushes g (number (if b then ops.LoadFast else ops.LoadFastN) slot)
unfolding instr_action op_action
pushes_local g true slot h = record { kind = kinds.Value; action = refl; below = same; own = (tt, h, tt, zero-le) }
pushes_local g false slot h = record { kind = kinds.Value; action = refl; below = same; own = (tt, h, tt, zero-le) }

pushes_global : (g : Setting) (b : Bool) (n : Name) → Pushes g (Names (if b then ops.LoadName else ops.LoadGlobal) n)
unfolding op_action
pushes_global g true n = record { kind = kinds.Value; action = refl; below = same; own = (tt, zero-le, tt, zero-le) }
pushes_global g false n = record { kind = kinds.Value; action = refl; below = same; own = (tt, zero-le, tt, zero-le) }

pushes_by : (g : Setting) (n : Name) (o : Option ℕ) → ((slot : ℕ) → o ≡ Some slot → suc slot ≤ length g.c.locals) → Pushes g (load_by g.c n o)
pushes_by g n (Some slot) h = pushes_local g (nat_lt slot 16) slot (h slot refl)
pushes_by g n None h = pushes_global g g.c.is_module n

pub pushes_name : (g : Setting) (n : Name) → Pushes g (loads g.c n)
pushes_name g n = pushes_by g n (slot_of g.c n) (slot_within g n)

-- rows of values
pub rep_seam : (n : ℕ) (ks : List Kind) → replicate n kinds.Value ++ (kinds.Value ∷ ks) ≡ kinds.Value ∷ (replicate n kinds.Value ++ ks)
rep_seam zero ks = refl
rep_seam (suc n) ks = ap (λ z. kinds.Value ∷ z) (rep_seam n ks)

pub rep_add : (a b : ℕ) (ks : List Kind) → replicate a kinds.Value ++ (replicate b kinds.Value ++ ks) ≡ replicate (a + b) kinds.Value ++ ks
rep_add zero b ks = ap (λ n. replicate n kinds.Value ++ ks) (let e : b ≡ 0 + b = omega arith in e)
rep_add (suc a) b ks = ap (λ z. kinds.Value ∷ z) (rep_add a b ks) ∙ ap (λ n. replicate n kinds.Value ++ ks) (let e : suc (a + b) ≡ suc a + b = omega arith in e)

rep_fits : (n : ℕ) (ws : List Want) (bs ks : List Kind) → fits ws (bs ++ ks) ≡ true → fits (wanted n ws) ((replicate n kinds.Value ++ bs) ++ ks) ≡ true
rep_fits zero ws bs ks h = h
rep_fits (suc n) ws bs ks h = rep_fits n ws bs ks h

rep_drop : (n : ℕ) (ws : List Want) (bs ks : List Kind) → drop (length ws) (bs ++ ks) ≡ ks → drop (length (wanted n ws)) ((replicate n kinds.Value ++ bs) ++ ks) ≡ ks
rep_drop zero ws bs ks h = h
rep_drop (suc n) ws bs ks h = rep_drop n ws bs ks h

rep_long : (n : ℕ) (ws : List Want) (bs : List Kind) → length ws ≤ length bs → length (wanted n ws) ≤ length (replicate n kinds.Value ++ bs)
rep_long zero ws bs h = h
rep_long (suc n) ws bs h = let r = rep_long n ws bs h in omega (arith, r)

row : (a b : ℕ) (bs ks : List Kind) → replicate a kinds.Value ++ ((replicate b kinds.Value ++ bs) ++ ks) ≡ (replicate (a + b) kinds.Value ++ bs) ++ ks
row a b bs ks = ap (λ z. replicate a kinds.Value ++ z) (append_assoc (replicate b kinds.Value) bs ks) ∙ rep_add a b (bs ++ ks) ∙ sym (append_assoc (replicate (a + b) kinds.Value) bs ks)

call_row : (a b : ℕ) (ks : List Kind) → replicate a kinds.Value ++ ((replicate b kinds.Value ++ (kinds.Value ∷ [])) ++ ks) ≡ (replicate (suc (a + b)) kinds.Value ++ []) ++ ks
call_row a b ks = row a b (kinds.Value ∷ []) ks ∙ append_assoc (replicate (a + b) kinds.Value) (kinds.Value ∷ []) ks ∙ rep_seam (a + b) ks ∙ sym (ap (λ z. z ++ ks) (append-nil (replicate (suc (a + b)) kinds.Value)))

row_long : (n : ℕ) (bs ks : List Kind) → length ((replicate n kinds.Value ++ bs) ++ ks) ≡ length ks + (length bs + n)
row_long n bs ks =
    let l1 : length ((replicate n kinds.Value ++ bs) ++ ks) ≡ length (replicate n kinds.Value ++ bs) + length ks = length-append (replicate n kinds.Value ++ bs) ks in
    let l2 : length (replicate n kinds.Value ++ bs) ≡ length (replicate n kinds.Value) + length bs = length-append (replicate n kinds.Value) bs in
    let l3 : length (replicate n kinds.Value) ≡ n = length-replicate n kinds.Value in
    omega (arith, l1, l2, l3)

keys_row : (k : ℕ) (ks : List Kind) → replicate (2 * k) kinds.Value ++ (kinds.Value ∷ kinds.Value ∷ ks) ≡ replicate (2 * suc k) kinds.Value ++ ks
keys_row k ks =
    let e : suc (suc (2 * k)) ≡ 2 * suc k = omega arith in
    rep_seam (2 * k) (kinds.Value ∷ ks) ∙ ap (λ z. kinds.Value ∷ z) (rep_seam (2 * k) ks) ∙ ap (λ n. replicate n kinds.Value ++ ks) e

pub tall_pos : (e : Expr) → 1 ≤ tall e
tall_pos (Constant v) = omega arith
tall_pos (Named n) = omega arith
tall_pos (Unary op e) = tall_pos e
tall_pos (Not e) = tall_pos e
tall_pos (Binary op a b) = let h = tall_pos a in omega (arith, h)
tall_pos (And e es) = let h = tall_pos e in omega (arith, h)
tall_pos (Or e es) = let h = tall_pos e in omega (arith, h)
tall_pos (Compare e links) = let h = tall_pos e in omega (arith, h)
tall_pos (Cond t a b) = let h = tall_pos t in omega (arith, h)
tall_pos (TupleOf es) = omega arith
tall_pos (ListOf es) = omega arith
tall_pos (DictOf pairs) = omega arith
tall_pos (Attr e n) = tall_pos e
tall_pos (Index a b) = let h = tall_pos a in omega (arith, h)
tall_pos (Call f args keys) = let h = tall_pos f in omega (arith, h)
tall_pos (Method e n args keys) = let h = tall_pos e in omega (arith, h)

-- the slots of all expressions in a row
pub above_count : (h below t : ℕ) (es : Exprs) → h + below ≤ t → h + tall_above below es ≤ t → h + below + count es ≤ t
above_count h below t NoExpr a b = omega (arith, a)
above_count h below t (More e es) a b =
    let p = tall_pos e in let c : h + suc below ≤ t = omega (arith, p, b) in let d : h + tall_above (suc below) es ≤ t = omega (arith, b) in
    let r = above_count h (suc below) t es c d in omega (arith, r)

pub keys_count : (h below t : ℕ) (keys : Keys) → h + below ≤ t → h + tall_keys below keys ≤ t → h + below + 2 * key_count keys ≤ t
keys_count h below t NoKey a b = omega (arith, a)
keys_count h below t (Key n e keys) a b =
    let p = tall_pos e in let c : h + (2 + below) ≤ t = omega (arith, p, b) in let d : h + tall_keys (2 + below) keys ≤ t = omega (arith, b) in
    let r = keys_count h (2 + below) t keys c d in omega (arith, r)

module _ (g : Setting) (es : List Entry) (held : length es ≤ g.code.n_exc) where
  abbrev pub Over : List Kind → ℕ → List Kind → ℕ → List Kind → Type 0
  Over ks p xs q ys = Part g es (λ w. Safe w ks es) p (shape xs es) q (shape ys es)

  -- one part and then another
  pub seq : {P : List At → Type 0} {p m q : ℕ} {x y z : At} → Part g es P p x m y → Part g es P m y q z → Part g es P p x q z
  seq {P = P} {p = p} {m = m} {q = q} {x = x} {y = y} {z = z} a b = p_seq g es P p m q x y z a b

  pub above : (over ks : List Kind) {p q : ℕ} {x y : At} → Part g es (λ w. Safe w (over ++ ks) es) p x q y → Part g es (λ w. Safe w ks es) p x q y
  above over ks {p = p} {q = q} {x = x} {y = y} a = p_weak g es (λ w. Safe w (over ++ ks) es) (λ w. Safe w ks es) p q x y (λ w s. safe_more w over ks es s) a

  pub push : (ks : List Kind) (p line : ℕ) (item : Item) → Pushes g item → Has g.c line p item → length ks + 1 ≤ g.top → Over ks p ks (suc p) (kinds.Value ∷ ks)
  push ks p line item s h t = p_straight g es p _ item h s.own [] (New s.kind ∷ []) s.action [] ks (kinds.Value ∷ ks) refl zero-le (also s.below (belows_refl ks)) (omega (arith, t)) (omega (arith, t)) held

  -- one value for one
  pub unary : (ks : List Kind) (p line : ℕ) (item : Item) → Own g item → action_of item ≡ Straight (wants.Value ∷ []) (New kinds.Value ∷ []) → Has g.c line p item → length ks + 1 ≤ g.top
      → Over ks p (kinds.Value ∷ ks) (suc p) (kinds.Value ∷ ks)
  unary ks p line item own e h t = p_straight g es p _ item h own _ _ e (kinds.Value ∷ []) ks (kinds.Value ∷ ks) refl (omega arith) (belows_refl _) (omega (arith, t)) (omega (arith, t)) held

  -- one value for two
  pub binary : (ks : List Kind) (p line : ℕ) (item : Item) → Own g item → action_of item ≡ Straight (wants.Value ∷ wants.Value ∷ []) (New kinds.Value ∷ []) → Has g.c line p item → length ks + 2 ≤ g.top
      → Over ks p (kinds.Value ∷ kinds.Value ∷ ks) (suc p) (kinds.Value ∷ ks)
  binary ks p line item own e h t = p_straight g es p _ item h own _ _ e (kinds.Value ∷ kinds.Value ∷ []) ks (kinds.Value ∷ ks) refl (omega arith) (belows_refl _) (omega (arith, t)) (omega (arith, t)) held

  -- one value for many, and some below them
  pub gather : (n : ℕ) (ws : List Want) (bs ks : List Kind) (p line : ℕ) (item : Item) → Own g item → action_of item ≡ Straight (wanted n ws) (New kinds.Value ∷ []) → fits ws (bs ++ ks) ≡ true → length ws ≤ length bs
      → drop (length ws) (bs ++ ks) ≡ ks → Has g.c line p item → length ks + length bs + n ≤ g.top → length ks + 1 ≤ g.top → Over ks p ((replicate n kinds.Value ++ bs) ++ ks) (suc p) (kinds.Value ∷ ks)
  gather n ws bs ks p line item own e fit few rest h t t1 =
      let l1 : length ((replicate n kinds.Value ++ bs) ++ ks) ≡ length (replicate n kinds.Value ++ bs) + length ks = length-append (replicate n kinds.Value ++ bs) ks in
      let l2 : length (replicate n kinds.Value ++ bs) ≡ length (replicate n kinds.Value) + length bs = length-append (replicate n kinds.Value) bs in
      let l3 : length (replicate n kinds.Value) ≡ n = length-replicate n kinds.Value in
      p_straight g es p _ item h own _ _ e (replicate n kinds.Value ++ bs) ks (kinds.Value ∷ ks) (rep_fits n ws bs ks fit) (rep_long n ws bs few)
      (subst (λ z. Belows (kinds.Value ∷ z) (kinds.Value ∷ ks)) (sym (rep_drop n ws bs ks rest)) (belows_refl _)) (omega (arith, l1, l2, l3, t)) (omega (arith, t1)) held

  -- from slots that are the same by a lemma
  pub from : {P : List At → Type 0} {p q : ℕ} {es1 : List Entry} {y : At} (xs zs : List Kind) → xs ≡ zs → Part g es P p (shape xs es1) q y → Part g es P p (shape zs es1) q y
  from {P = P} {p = p} {q = q} {es1 = es1} {y = y} xs zs e a = subst (λ z. Part g es P p (shape z es1) q y) e a

  pub to : {P : List At → Type 0} {p q : ℕ} {es1 : List Entry} {x : At} (xs zs : List Kind) → xs ≡ zs → Part g es P p x q (shape xs es1) → Part g es P p x q (shape zs es1)
  to {P = P} {p = p} {q = q} {es1 = es1} {x = x} xs zs e a = subst (λ z. Part g es P p x q (shape z es1)) e a

  compared : (ks : List Kind) (line p q : ℕ) (op : CompareOp) → StandsC g.c line p op q → length ks + 2 ≤ g.top → Over ks p (kinds.Value ∷ kinds.Value ∷ ks) q (kinds.Value ∷ ks)
  unfolding instr_action
  compared ks line p q op (straight n h) t = binary ks p line _ (tt, zero-le, tt, zero-le) refl h t
  compared ks line p q op (negated n h h1) t = seq (binary ks p line _ (tt, zero-le, tt, zero-le) refl h t) (unary ks (suc p) line _ (tt, zero-le, tt, zero-le) refl h1 (omega (arith, t)))

  call_count : (a k : ℕ) → a ≤ 255 → suc (2 * k + a) ≡ arguments (a + 256 * k) + 1
  call_count a k h = omega (arith, h)

  method_count : (a k : ℕ) → a ≤ 255 → 2 * k + a ≡ arguments (a + 256 * k)
  method_count a k h = omega (arith, h)

  -- while an expression's jumps are known
  abbrev pub Known : List Kind → ℕ → List Kind → List At → Type 0
  Known ks t zs w = Safe w ks es × Is g w t (shape zs es) es

  pub known : (ks : List Kind) (t : ℕ) (zs : List Kind) {p q : ℕ} {x y : At} → Part g es (λ w. Safe w ks es) p x q y → Part g es (Known ks t zs) p x q y
  known ks t zs {p = p} {q = q} {x = x} {y = y} a = p_weak g es (λ w. Safe w ks es) (Known ks t zs) p q x y (λ w s. s.0) a

  mutual
    unfolding instr_action op_action jump_action

    pub e_part : (ks : List Kind) (line p q : ℕ) (e : Expr) → StandsE g.c line p e q → length ks + tall e ≤ g.top → widest e ≤ 255 → Over ks p ks q (kinds.Value ∷ ks)
    e_part ks line p q e (literal {v = v} h) t n = push ks p line _ (pushes_constant g v) h t
    e_part ks line p q e (name {n = x} h) t n = push ks p line _ (pushes_name g x) h t
    e_part ks line p q e (one {m = m} {e = a} s h) t n =
        let r = tall_pos a in seq (e_part ks line p m a s t n) (unary ks m line _ (tt, zero-le, tt, zero-le) refl h (omega (arith, t, r)))
    e_part ks line p q e («not» {m = m} {e = a} s h) t n =
        let r = tall_pos a in seq (e_part ks line p m a s t n) (unary ks m line _ (tt, zero-le, tt, zero-le) refl h (omega (arith, t, r)))
    e_part ks line p q e (two {m = m} {n = k} {a = a} {b = b} s u h) t n =
        let r = tall_pos b in
        seq (seq (e_part ks line p m a s (omega (arith, t)) (omega (arith, n))) (above (kinds.Value ∷ []) ks (e_part (kinds.Value ∷ ks) line m k b u (omega (arith, t)) (omega (arith, n)))))
        (binary ks k line _ (tt, zero-le, tt, zero-le) refl h (omega (arith, t, r)))
    e_part ks line p q e («and» {m = m} {e = a} {es = others} s u) t n =
        p_end g es (λ w. Safe w ks es) p q _ _
        (seq (known ks q (kinds.Value ∷ ks) (e_part ks line p m a s (omega (arith, t)) (omega (arith, n)))) (o_part ks line ops.JumpIfFalseOrPop q m q others u refl (tall_pos a) (omega (arith, t)) (omega (arith, n))))
    e_part ks line p q e («or» {m = m} {e = a} {es = others} s u) t n =
        p_end g es (λ w. Safe w ks es) p q _ _
        (seq (known ks q (kinds.Value ∷ ks) (e_part ks line p m a s (omega (arith, t)) (omega (arith, n)))) (o_part ks line ops.JumpIfTrueOrPop q m q others u refl (tall_pos a) (omega (arith, t)) (omega (arith, n))))
    e_part ks line p q e (compare {m = m} {n = k} {op = op} {a = a} {b = b} s u v) t n =
        let r = tall_pos b in
        seq (seq (e_part ks line p m a s (omega (arith, t)) (omega (arith, n))) (above (kinds.Value ∷ []) ks (e_part (kinds.Value ∷ ks) line m k b u (omega (arith, t)) (omega (arith, n)))))
        (compared ks line k q op v (omega (arith, t, r)))
    e_part ks line p q e (cond {m = m} {n = k} {test = c} {a = a} {b = b} s h u j v) t n =
        let r = tall_pos c in
        p_end g es (λ w. Safe w ks es) p q _ _ (seq
        (p_end g es (Known ks q (kinds.Value ∷ ks)) p (suc k) (shape ks es) (shape ks es) (seq (seq (seq
        (p_weak g es (λ w. Safe w ks es) _ _ _ _ _ (λ w s. s.0.0) (e_part ks line p m c s (omega (arith, t)) (omega (arith, n))))
        (p_weak g es (Known ks (suc k) ks) _ _ _ _ _ (λ w s. (s.0.0, s.1)) (p_branch g es m _ ops.PopJumpIfFalse (suc k) h _ _ _ refl (kinds.Value ∷ []) ks ks ks refl (omega arith) (belows_refl ks) (belows_refl ks) (omega (arith, t, r)) (omega (arith, t)) (omega (arith, t)) held)))
        (p_weak g es (λ w. Safe w ks es) _ _ _ _ _ (λ w s. s.0.0) (e_part ks line (suc m) k a u (omega (arith, t)) (omega (arith, n)))))
        (p_weak g es (Known (kinds.Value ∷ ks) q (kinds.Value ∷ ks)) _ _ _ _ _ (λ w s. (safe_more w (kinds.Value ∷ []) ks es s.0.0, s.0.1)) (p_jump g es k _ q j (kinds.Value ∷ ks) (shape ks es) (omega (arith, t, r)) held))))
        (known ks q (kinds.Value ∷ ks) (e_part ks line (suc k) q b v (omega (arith, t)) (omega (arith, n)))))
    e_part ks line p q e (chain {m = m} {n = k} {op = op} {a = a} {b = b} {links = links} s u j h1 h2) t n =
        let r = tall_pos a in
        p_end g es (λ w. Safe w ks es) p q _ _ (seq (seq
        (p_end g es (Known ks q (kinds.Value ∷ ks)) p (suc k) (shape ks es) (shape (kinds.Value ∷ kinds.Value ∷ ks) es) (seq (seq
        (p_weak g es (λ w. Safe w ks es) _ _ _ _ _ (λ w s. s.0.0) (e_part ks line p m a s (omega (arith, t)) (omega (arith, n))))
        (p_weak g es (Known ks (suc k) (kinds.Value ∷ kinds.Value ∷ ks)) _ _ _ _ _ (λ w s. (s.0.0, s.1)) (l_part ks line (suc k) m k (Link op b links) u (omega (arith, t)) (omega (arith, n)))))
        (p_weak g es (Known (kinds.Value ∷ ks) q (kinds.Value ∷ ks)) _ _ _ _ _ (λ w s. (safe_more w (kinds.Value ∷ []) ks es s.0.0, s.0.1)) (p_jump g es k _ q j (kinds.Value ∷ ks) (shape (kinds.Value ∷ kinds.Value ∷ ks) es) (omega (arith, t, r)) held))))
        (known ks q (kinds.Value ∷ ks) (p_straight g es (suc k) _ (plain ops.RotTwo) h1 (tt, zero-le, tt, zero-le) _ _ refl (kinds.Value ∷ kinds.Value ∷ []) ks (kinds.Value ∷ kinds.Value ∷ ks) refl (omega arith) (belows_refl _) (omega (arith, t)) (omega (arith, t)) held)))
        (known ks q (kinds.Value ∷ ks) (above (kinds.Value ∷ []) ks (p_straight g es (suc (suc k)) _ (plain ops.PopTop) h2 (tt, zero-le, tt, zero-le) _ _ refl (kinds.Value ∷ []) (kinds.Value ∷ ks) (kinds.Value ∷ ks) refl (omega arith) (belows_refl _) (omega (arith, t)) (omega (arith, t)) held))))
    e_part ks line p q e (tuple {m = m} {es = others} s h) t n =
        let c = above_count (length ks) 0 g.top others (omega (arith, t)) (omega (arith, t)) in
        seq (es_part ks (length ks) 0 line p m others s (omega arith) (omega (arith, t)) n)
        (from _ _ (ap (λ z. z ++ ks) (append-nil _)) (gather (count others) [] [] ks m line (number ops.BuildTuple (count others)) (tt, zero-le, tt, zero-le) refl refl zero-le refl h (omega (arith, c)) (omega (arith, t))))
    e_part ks line p q e (items {m = m} {es = others} s h) t n =
        let c = above_count (length ks) 0 g.top others (omega (arith, t)) (omega (arith, t)) in
        seq (es_part ks (length ks) 0 line p m others s (omega arith) (omega (arith, t)) n)
        (from _ _ (ap (λ z. z ++ ks) (append-nil _)) (gather (count others) [] [] ks m line (number ops.BuildList (count others)) (tt, zero-le, tt, zero-le) refl refl zero-le refl h (omega (arith, c)) (omega (arith, t))))
    e_part ks line p q e (dict {pairs = pairs} h s) t n =
        seq (push ks p line _ (record { kind = kinds.Value; action = refl; below = same; own = (tt, zero-le, tt, (let x : pair_count pairs ≤ MAX_ITEMS = omega (arith, n) in x)) }) h (omega (arith, t))) (d_part ks line (suc p) q pairs s (omega (arith, t)) (omega (arith, n)))
    e_part ks line p q e (attr {m = m} {e = a} s h) t n =
        let r = tall_pos a in seq (e_part ks line p m a s t n) (unary ks m line _ (tt, zero-le, tt, zero-le) refl h (omega (arith, t, r)))
    e_part ks line p q e (index {m = m} {n = k} {a = a} {b = b} s u h) t n =
        let r = tall_pos b in
        seq (seq (e_part ks line p m a s (omega (arith, t)) (omega (arith, n))) (above (kinds.Value ∷ []) ks (e_part (kinds.Value ∷ ks) line m k b u (omega (arith, t)) (omega (arith, n)))))
        (binary ks k line _ (tt, zero-le, tt, zero-le) refl h (omega (arith, t, r)))
    e_part ks line p q e (call {m = m} {n = k} {k = l} {f = f} {args = args} {keys = keys} _ s u v h) t n =
        let r = tall_pos f in
        let c = above_count (length ks) 1 g.top args (omega (arith, t, r)) (omega (arith, t)) in
        let c2 = keys_count (length ks) (1 + count args) g.top keys (omega (arith, c)) (omega (arith, t)) in
        let e2 = call_count (count args) (key_count keys) (omega (arith, n)) in
        let c3 = row_long (count args) (kinds.Value ∷ []) ks in
        seq (seq (seq (e_part ks line p m f s (omega (arith, t)) (omega (arith, n)))
        (above (kinds.Value ∷ []) ks (to _ _ (sym (append_assoc (replicate (count args) kinds.Value) (kinds.Value ∷ []) ks)) (es_part (kinds.Value ∷ ks) (length ks) 1 line m k args u (omega arith) (omega (arith, t)) (omega (arith, n))))))
        (above (replicate (count args) kinds.Value ++ (kinds.Value ∷ [])) ks
        (k_part ((replicate (count args) kinds.Value ++ (kinds.Value ∷ [])) ++ ks) (length ks) (1 + count args) line k l keys v (omega (arith, c3)) (omega (arith, t)) (omega (arith, n)))))
        (from _ _ (sym (call_row (2 * key_count keys) (count args) ks))
        (gather (suc (2 * key_count keys + count args)) [] [] ks l line (number ops.CallFunction (count args + 256 * key_count keys)) (tt, zero-le, tt, zero-le)
        (ap (λ z. Straight (wanted z []) (New kinds.Value ∷ [])) (sym e2)) refl zero-le refl h (omega (arith, c2)) (omega (arith, t, r))))
    e_part ks line p q e (method {m = m} {n = k} {k = l} {e = a} {args = args} {keys = keys} _ s h u v h1) t n =
        let r = tall_pos a in
        let c = above_count (length ks) 2 g.top args (omega (arith, t, r)) (omega (arith, t)) in
        let c2 = keys_count (length ks) (2 + count args) g.top keys (omega (arith, c)) (omega (arith, t)) in
        let e2 = method_count (count args) (key_count keys) (omega (arith, n)) in
        let c3 = row_long (count args) (kinds.Method ∷ kinds.Value ∷ []) ks in
        seq (seq (seq (seq (e_part ks line p m a s (omega (arith, t)) (omega (arith, n)))
        (p_straight g es m _ (Names ops.LoadMethod _) h (tt, zero-le, tt, zero-le) _ _ refl (kinds.Value ∷ []) ks (kinds.Method ∷ kinds.Value ∷ ks) refl (omega arith) (belows_refl _) (omega (arith, t)) (omega (arith, t)) held))
        (above (kinds.Method ∷ kinds.Value ∷ []) ks (to _ _ (sym (append_assoc (replicate (count args) kinds.Value) (kinds.Method ∷ kinds.Value ∷ []) ks)) (es_part (kinds.Method ∷ kinds.Value ∷ ks) (length ks) 2 line (suc m) k args u (omega arith) (omega (arith, t)) (omega (arith, n))))))
        (above (replicate (count args) kinds.Value ++ (kinds.Method ∷ kinds.Value ∷ [])) ks
        (k_part ((replicate (count args) kinds.Value ++ (kinds.Method ∷ kinds.Value ∷ [])) ++ ks) (length ks) (2 + count args) line k l keys v (omega (arith, c3)) (omega (arith, t)) (omega (arith, n)))))
        (from _ _ (sym (row (2 * key_count keys) (count args) (kinds.Method ∷ kinds.Value ∷ []) ks))
        (gather (2 * key_count keys + count args) (wants.Method ∷ wants.Value ∷ []) (kinds.Method ∷ kinds.Value ∷ []) ks l line (number ops.CallMethod (count args + 256 * key_count keys)) (tt, zero-le, tt, zero-le)
        (ap (λ z. Straight (wanted z (wants.Method ∷ wants.Value ∷ [])) (New kinds.Value ∷ [])) (sym e2)) refl (omega arith) refl h1 (omega (arith, c2)) (omega (arith, t))))

    pub es_part : (ks : List Kind) (base below line p q : ℕ) (others : Exprs) → StandsEs g.c line p others q → length ks ≡ base + below → base + tall_above below others ≤ g.top → widest_of others ≤ 255
        → Over ks p ks q (replicate (count others) kinds.Value ++ ks)
    es_part ks base below line p q others no_expr l t n = p_none g es _ p _
    es_part ks base below line p q others (next {m = m} {e = e} {es = rest} s u) l t n =
        to _ _ (rep_seam (count rest) ks)
        (seq (e_part ks line p m e s (omega (arith, l, t)) (omega (arith, n)))
        (above (kinds.Value ∷ []) ks (es_part (kinds.Value ∷ ks) base (suc below) line m q rest u (omega (arith, l)) (omega (arith, t)) (omega (arith, n)))))

    pub o_part : (ks : List Kind) (line : ℕ) (op : Op) (end p q : ℕ) (others : Exprs) → StandsO g.c line op end p others q → jump_action op end ≡ Branch (wants.Value ∷ []) [] (Again 0 ∷ []) end
        → {c : ℕ} → 1 ≤ c → length ks + max c (tallest others) ≤ g.top → widest_of others ≤ 255 → Part g es (Known ks end (kinds.Value ∷ ks)) p (shape (kinds.Value ∷ ks) es) q (shape (kinds.Value ∷ ks) es)
    o_part ks line op end p q others no_operand a r t n = p_none g es _ p _
    o_part ks line op end p q others (operand {m = m} {e = e} {es = rest} h s u) a r t n =
        seq (seq (p_branch g es p _ op end h _ _ _ a (kinds.Value ∷ []) ks ks (kinds.Value ∷ ks) refl (omega arith) (belows_refl ks) (belows_refl _) (omega (arith, r, t)) (omega (arith, t)) (omega (arith, r, t)) held)
        (known ks end (kinds.Value ∷ ks) (e_part ks line (suc p) m e s (omega (arith, t)) (omega (arith, n)))))
        (o_part ks line op end m q rest u a r (omega (arith, t)) (omega (arith, n)))

    pub l_part : (ks : List Kind) (line fail p q : ℕ) (links : Links) → StandsL g.c line fail p links q → length ks + tall_links links ≤ g.top → widest_links links ≤ 255
        → Part g es (Known ks fail (kinds.Value ∷ kinds.Value ∷ ks)) p (shape (kinds.Value ∷ ks) es) q (shape (kinds.Value ∷ ks) es)
    l_part ks line fail p q links (last {m = m} {op = op} {e = e} s u) t n =
        let r = tall_pos e in
        known ks fail (kinds.Value ∷ kinds.Value ∷ ks) (seq (above (kinds.Value ∷ []) ks (e_part (kinds.Value ∷ ks) line p m e s (omega (arith, t)) (omega (arith, n)))) (compared ks line m q op u (omega (arith, t, r))))
    l_part ks line fail p q links (link {m = m} {n = k} {op = op} {e = e} {links = rest} s h1 h2 u h3 v) t n =
        let r = tall_pos e in
        seq (seq (known ks fail (kinds.Value ∷ kinds.Value ∷ ks) (seq (seq (seq (above (kinds.Value ∷ []) ks (e_part (kinds.Value ∷ ks) line p m e s (omega (arith, t)) (omega (arith, n))))
        (above (kinds.Value ∷ []) ks (p_straight g es m _ (plain ops.DupTop) h1 (tt, zero-le, tt, zero-le) _ _ refl (kinds.Value ∷ []) (kinds.Value ∷ ks) (kinds.Value ∷ kinds.Value ∷ kinds.Value ∷ ks) refl (omega arith) (belows_refl _) (omega (arith, t)) (omega (arith, t)) held)))
        (p_straight g es (suc m) _ (plain ops.RotThree) h2 (tt, zero-le, tt, zero-le) _ _ refl (kinds.Value ∷ kinds.Value ∷ kinds.Value ∷ []) ks (kinds.Value ∷ kinds.Value ∷ kinds.Value ∷ ks) refl (omega arith) (belows_refl _) (omega (arith, t)) (omega (arith, t)) held))
        (above (kinds.Value ∷ []) ks (compared (kinds.Value ∷ ks) line (suc (suc m)) k op u (omega (arith, t))))))
        (p_weak g es (Known (kinds.Value ∷ ks) fail (kinds.Value ∷ kinds.Value ∷ ks)) _ _ _ _ _ (λ w s. (safe_more w (kinds.Value ∷ []) ks es s.0, s.1))
        (p_branch g es k _ ops.JumpIfFalseOrPop fail h3 _ _ _ refl (kinds.Value ∷ []) (kinds.Value ∷ ks) (kinds.Value ∷ ks) (kinds.Value ∷ kinds.Value ∷ ks) refl (omega arith) (belows_refl _) (belows_refl _) (omega (arith, t)) (omega (arith, t)) (omega (arith, t)) held)))
        (l_part ks line fail (suc k) q rest v (omega (arith, t)) (omega (arith, n)))

    pub d_part : (ks : List Kind) (line p q : ℕ) (pairs : Pairs) → StandsD g.c line p pairs q → length ks + max 1 (tall_pairs pairs) ≤ g.top → widest_pairs pairs ≤ 255 → Over ks p (kinds.Value ∷ ks) q (kinds.Value ∷ ks)
    d_part ks line p q pairs no_pair t n = p_none g es _ p _
    d_part ks line p q pairs (pair {m = m} {n = k} {k = a} {v = b} {pairs = rest} s u h v) t n =
        seq (seq (seq (above (kinds.Value ∷ []) ks (e_part (kinds.Value ∷ ks) line p m b s (omega (arith, t)) (omega (arith, n))))
        (above (kinds.Value ∷ kinds.Value ∷ []) ks (e_part (kinds.Value ∷ kinds.Value ∷ ks) line m k a u (omega (arith, t)) (omega (arith, n)))))
        (let r = tall_pos a in p_straight g es k _ (plain ops.StoreMap) h (tt, zero-le, tt, zero-le) _ _ refl (kinds.Value ∷ kinds.Value ∷ kinds.Value ∷ []) ks (kinds.Value ∷ ks) refl (omega arith) (belows_refl _) (omega (arith, t, r)) (omega (arith, t)) held))
        (d_part ks line (suc k) q rest v (omega (arith, t)) (omega (arith, n)))

    pub k_part : (ks : List Kind) (base below line p q : ℕ) (keys : Keys) → StandsK g.c line p keys q → length ks ≡ base + below → base + tall_keys below keys ≤ g.top → widest_keys keys ≤ 255
        → Over ks p ks q (replicate (2 * key_count keys) kinds.Value ++ ks)
    k_part ks base below line p q keys no_key l t n = p_none g es _ p _
    k_part ks base below line p q keys (key {m = m} {e = e} {keys = rest} h s u) l t n =
        to _ _ (keys_row (key_count rest) ks)
        (seq (seq (push ks p line _ (record { kind = kinds.Value; action = refl; below = same; own = (tt, zero-le, tt, zero-le) }) h (omega (arith, l, t)))
        (above (kinds.Value ∷ []) ks (e_part (kinds.Value ∷ ks) line (suc p) m e s (omega (arith, l, t)) (omega (arith, n)))))
        (above (kinds.Value ∷ kinds.Value ∷ []) ks (k_part (kinds.Value ∷ kinds.Value ∷ ks) base (2 + below) line m q rest u (omega (arith, l)) (omega (arith, t)) (omega (arith, n)))))
