-- A whole code.
use Rattle.std.proofs.Common.{◌≡◌, ℕ, suc, ◌<◌, ◌≤◌, max, false, List, [], ◌∷◌, length, drop, Some, refl, sym, ap, ◌∙◌, subst, arith, zero-le, slice_get, length-drop, unwrap_or}
use Rattle.std.proofs.lemmas.Option.{slice_get_within}
use Rattle.emit_measures.specs.bc_scheme.bc_ops.declared.instr.Op.TheVariants as ops
use Rattle.bc_resolved.specs.bc_shapes.declared.kinds.Kind.TheVariants as kinds
use Rattle.bc_resolved.specs.bc_shapes.declared.kinds.Give.TheVariants.{New}
use Rattle.bc_resolved.specs.bc_shapes.Shape.{At, none, value, also}
use Rattle.bc_resolved.proofs.bc_shapes_lemmas.Joins.{under_refl}
use Rattle.bc_resolved.specs.bc_progress.bc_flow.Action.{instr_action, op_action, Return}
use Rattle.bc_resolved.specs.bc_progress.bc_flow.Verified.{Verified, Fine}
use Rattle.emit_measures.specs.bc_scheme.py_meaning.Tree.{Block}
use Rattle.emit_measures.specs.bc_scheme.bc_machine.Library.{Line}
use Rattle.emit_measures.specs.bc_scheme.Context.{Context, Behind, plain}
use Rattle.emit_measures.specs.bc_scheme.Statements.{Around, StandsB}
use Rattle.emit_measures.specs.bc_scheme.Heights.{tall_block, held_in}
use Rattle.bc_resolved.specs.Operands.{Keeps, local_in}
use Rattle.tr_source.specs.Widest.{widest_block}
use Rattle.tr_source.proofs.Base.{Setting, shape}
use Rattle.tr_source.proofs.Parts.{Right, Rights, single, joined, right_at, Calm, Part, p_seq, p_weak, p_end, get_here}
use Rattle.tr_source.proofs.Steps.{On, p_straight, right_of, shown_return}
use Rattle.tr_source.proofs.Blocks.{Loop}
use Rattle.tr_source.proofs.Stmts.{b_part}

abbrev pub outside : ℕ → Around
outside last = record { brk = last; cont = last; count = 0; iterator = false }

-- a body, and the code's end behind it
pub record Ended (c : Context) (b : Block) : Type 0 where
  pub last : ℕ
  pub length : length c.lines ≡ suc (suc last)
  pub body : StandsB c (outside last) 0 b last
  pub none : Behind c last (plain ops.LoadConstNone)
  pub return : Behind c (suc last) (plain ops.ReturnValue)

pub record Limited (g : Setting) (b : Block) : Type 0 where
  pub few_entries : g.code.n_exc ≤ 127
  pub tall : max 1 (tall_block g.c.level b) ≤ g.top
  pub held : held_in b ≤ g.code.n_exc
  pub wide : widest_block g.c.level b ≤ 255

-- what is assigned, with the rules everywhere
pub record Assignment (g : Setting) : Type 0 where
  pub w : List At
  pub long : length w ≡ length g.c.lines
  pub first : slice_get w 0 ≡ Some (shape [] [])
  pub rights : Rights g w 0 (length w)

-- a part from the front, with the code's end behind it
pub closed : (g : Setting) (last line line1 : ℕ) → length g.c.lines ≡ suc (suc last) → On g.c line last (plain ops.LoadConstNone) → On g.c line1 (suc last) (plain ops.ReturnValue) → 1 ≤ g.top
    → Part g [] (λ w. Unit {0}) 0 (shape [] []) last (shape [] []) → Assignment g
unfolding instr_action op_action
closed g last line line1 count none_here return_here t body =
    let quiet : (t : ℕ) → Calm t [] = λ t. record { same = refl; marked = refl } in
    let all : Part g [] (λ w. Unit {0}) 0 (shape [] []) (suc last) (shape (kinds.Value ∷ []) []) =
    p_seq g [] _ _ _ _ _ _ _ body (p_straight g [] last _ (plain ops.LoadConstNone) none_here (tt, zero-le, tt, zero-le) [] (New kinds.Either ∷ []) refl [] [] (kinds.Value ∷ []) refl zero-le (also value none) zero-le t zero-le) in
    let w : List At = shape [] [] ∷ all.tail [] in
    let d : drop (suc last) w ≡ shape (kinds.Value ∷ []) [] ∷ [] = all.behind w [] refl in
    let l1 = length-drop (suc last) w in let l2 = ap (λ z. length z) d in
    let long : length w ≡ length g.c.lines = omega (arith, l1, l2, count) in
    let l4 : suc (suc last) ≡ length w = omega (arith, l1, l2) in
    let end : Right g w (suc last) = right_of g w (suc last) _ (plain ops.ReturnValue) Return (shape (kinds.Value ∷ []) []) (kinds.Value ∷ []) return_here refl long (get_here (suc last) w _ [] d) (tt, zero-le, tt, zero-le)
    (shown_return g w (suc last) [] [] tt zero-le t) in
    record { w = w; long = long; first = refl; rights = subst (λ n. Rights g w 0 n) l4 (joined (all.right w [] refl long (λ t a b. quiet t) tt) (single end)) }

pub assignment : (g : Setting) (b : Block) → Ended g.c b → Limited g b → Assignment g
unfolding instr_action op_action
assignment g b e h =
    let t = h.tall in
    let quiet : (t : ℕ) → Calm t [] = λ t. record { same = refl; marked = refl } in
    let loop : Loop (outside e.last) [] [] [] = record { few = zero-le; inner = refl; low = zero-le; top = zero-le } in
    let body : Part g [] (λ w. Unit {0}) 0 (shape [] []) e.last (shape [] []) =
    p_end g [] (λ w. Unit {0}) 0 e.last (shape [] []) (shape [] [])
    (p_weak g [] _ _ _ _ _ _ (λ w s. record { safe = tt; outer = tt; brk = s.1; cont = s.1 }) (b_part g h.few_entries (outside e.last) [] [] [] 0 e.last b e.body loop (omega (arith, t)) (let hh = h.held in omega (arith, hh)) h.wide)) in
    closed g e.last _ _ e.length e.none e.return (omega (arith, t)) body

same_some : {A : Type 0} → (x y : A) → Some x ≡ Some y → x ≡ y
same_some x y e = ap (λ o. unwrap_or o x) e

pub verified : (g : Setting) → Assignment g → Verified g.code
verified g a = (
  slice_get a.w,
  record {
    start = record { at = shape [] []; is = a.first; under = under_refl _ };
    closed = λ p x e. (let r = right_at g a.w 0 (length a.w) p a.rights zero-le (slice_get_within a.w p x e) in
        subst (λ z. Fine g.code (slice_get a.w) p z) (same_some r.at x (sym r.is ∙ e)) r.fine);
  },
)

right_line : (g : Setting) (a : Assignment g) (p : ℕ) (l : Line) → slice_get g.c.lines p ≡ Some l → (r : Right g a.w p) × (r.line ≡ l)
right_line g a p l e =
    let r = right_at g a.w 0 (length a.w) p a.rights zero-le (subst (λ n. p < n) (sym a.long) (slice_get_within g.c.lines p l e)) in
    (r, same_some r.line l (sym r.here ∙ e))

pub keeps_all : (g : Setting) → Assignment g → (p : ℕ) (l : Line) → slice_get g.c.lines p ≡ Some l → Keeps (length g.c.lines) g.code.n_state (length g.c.children) l.item
keeps_all g a p l e = let r = right_line g a p l e in subst (λ (z : Line). Keeps (length g.c.lines) g.code.n_state (length g.c.children) z.item) r.1 (r.0).keeps

pub locals_all : (g : Setting) → Assignment g → (p : ℕ) (l : Line) → slice_get g.c.lines p ≡ Some l → local_in l.item ≤ length g.c.locals
locals_all g a p l e = let r = right_line g a p l e in subst (λ (z : Line). local_in z.item ≤ length g.c.locals) r.1 (r.0).own_local
