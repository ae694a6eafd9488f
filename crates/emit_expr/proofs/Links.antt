-- Links of a comparison, in a list and in a row.
use Rattle.std.proofs.Common.{◌≡◌, ℕ, List, [], ◌∷◌, ◌++◌, refl, sym, ap, ◌∙◌, subst}
use Rattle.std.specs.Prelude.{◌||◌}
use Rattle.emit_draft.specs.bc_scheme.bc_ops.declared.instr.Op.TheVariants as ops
use Rattle.py_tree.specs.declared.expr.CompareOp.{CompareOp}
use Rattle.emit_draft.specs.bc_scheme.bc_machine.Library.{Jumps}
use Rattle.emit_draft.specs.bc_scheme.py_meaning.Tree.{Expr, Compare, Links, Last, Link}
use Rattle.emit_draft.specs.bc_scheme.py_meaning.Plain.{links, compares}
use Rattle.emit_draft.specs.bc_scheme.Context.{Context, Has, plain}
use Rattle.emit_draft.specs.bc_scheme.Expressions.{StandsE, StandsC, StandsL, last, link, compare, chain}
use Rattle.emit_draft.specs.Emits.{IsPut, put}
use Rattle.emit_draft.proofs.Lists.{or_false, or_assoc}
use Rattle.emit_expr.specs.Crowded.{crowded, crowded_links, crowded_in}

-- in front of others
abbrev pub before : List (CompareOp × Expr) → Links → Links
before [] others = others
before (l ∷ ls) others = Link l.0 l.1 (before ls others)

links_split : (op : CompareOp) (e : Expr) (xs : List (CompareOp × Expr)) (x : CompareOp × Expr) → links op e (xs ++ x ∷ []) ≡ Link op e (before xs (Last x.0 x.1))
links_split op e [] x = refl
links_split op e (y ∷ ys) x = ap (Link op e) (links_split y.0 y.1 ys x)

crowded_row : (op : CompareOp) (e : Expr) (xs : List (CompareOp × Expr)) → crowded_links (links op e xs) ≡ (crowded e || crowded_in xs)
crowded_row op e [] = sym (or_false (crowded e))
crowded_row op e (x ∷ xs) = ap (λ z. crowded e || z) (crowded_row x.0 x.1 xs)

pub crowded_compares : (e : Expr) (xs : List (CompareOp × Expr)) → (crowded e || crowded_in xs) ≡ crowded (compares e xs)
crowded_compares e [] = or_false (crowded e)
crowded_compares e (x ∷ xs) = ap (λ z. crowded e || z) (sym (crowded_row x.0 x.1 xs))

pub crowded_append : (xs : List (CompareOp × Expr)) (x : CompareOp × Expr) → (crowded_in xs || crowded x.1) ≡ crowded_in (xs ++ x ∷ [])
crowded_append [] x = sym (or_false (crowded x.1))
crowded_append (y ∷ ys) x = or_assoc (crowded y.1) (crowded_in ys) (crowded x.1) ∙ ap (λ z. crowded y.1 || z) (crowded_append ys x)

-- a link, and what stands behind it
pub link_row : {c : Context} {line fail p m m1 m2 n n1 q : ℕ} {op : CompareOp} {e : Expr} {others : Links}
    → StandsE c line p e m → IsPut c line m (plain ops.DupTop) m1 → IsPut c line m1 (plain ops.RotThree) m2 → StandsC c line m2 op n
    → IsPut c line n (Jumps ops.JumpIfFalseOrPop fail) n1 → StandsL c line fail n1 others q → StandsL c line fail p (Link op e others) q
link_row se (put h1) (put h2) sc (put h3) sl = link se h1 h2 sc h3 sl

-- a comparison with one operand
pub one_row : {c : Context} {line fail from p q : ℕ} {op : CompareOp} {x e : Expr} → StandsL c line fail p (Last op e) q → StandsE c line from x p → StandsE c line from (Compare x (Last op e)) q
one_row (last se sc) sx = compare sx se sc

chain_of : {c : Context} {line fail end from p n n1 n2 q : ℕ} {op : CompareOp} {x e : Expr} {others : Links}
    → StandsL c line fail p (Link op e others) n → IsPut c line n (Jumps ops.Jump end) n1 → fail ≡ n1 → IsPut c line n1 (plain ops.RotTwo) n2
    → IsPut c line n2 (plain ops.PopTop) q → end ≡ q → StandsE c line from x p → StandsE c line from (Compare x (Link op e others)) q
chain_of {c = c} {line = line} {p = p} {n = n} {op = op} {e = e} {others = others} sl (put h1) f (put h2) (put h3) g sx =
    chain sx (subst (λ z. StandsL c line z p (Link op e others) n) f sl) (subst (λ z. Has c line n (Jumps ops.Jump z)) g h1) h2 h3

-- a comparison with several
pub chain_row : {c : Context} {line fail end from p n n1 n2 q : ℕ} (x : Expr) (front : List (CompareOp × Expr)) (l : CompareOp × Expr) → (front ≡ [] → ⊥)
    → StandsL c line fail p (before front (Last l.0 l.1)) n → IsPut c line n (Jumps ops.Jump end) n1 → fail ≡ n1 → IsPut c line n1 (plain ops.RotTwo) n2
    → IsPut c line n2 (plain ops.PopTop) q → end ≡ q → StandsE c line from x p → StandsE c line from (compares x (front ++ l ∷ [])) q
chain_row x [] l some sl h1 f h2 h3 g sx = absurd (some refl)
chain_row {c = c} {line = line} {from = from} {q = q} x (y ∷ ys) l some sl h1 f h2 h3 g sx =
    subst (λ z. StandsE c line from z q) (ap (Compare x) (sym (links_split y.0 y.1 ys l))) (chain_of sl h1 f h2 h3 g sx)
