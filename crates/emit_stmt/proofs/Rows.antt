-- Statements, branches and clauses in a row: what stands so far, and what the rest will stand behind.
use Rattle.std.proofs.Common.{◌≡◌, ℕ, suc, ◌+◌, ◌≤◌, Bool, true, false, ◌++◌, length, Option, Some, None, refl, sym, ap, ◌∙◌, subst, arith, length-append}
use Rattle.std.specs.Prelude.{◌||◌}
use Rattle.emit_expr.specs.bc_machine.bc_ops.declared.instr.Op.TheVariants as ops
use Rattle.emit_expr.specs.bc_machine.bc_ops.declared.instr.Instr.TheVariants as instrs
use Rattle.emit_expr.specs.bc_machine.Library.{Name, Jumps}
use Rattle.py_tree.specs.declared.expr.Expr as trees
use Rattle.emit_expr.specs.py_meaning.Tree.{Expr, Stmt, If, Block, End, Next, Branches, Else, Case, Handlers, NoHandler, Any}
use Rattle.emit_expr.specs.py_meaning.Plain.{Part, part, also, plain_expr, handler_of}
use Rattle.emit_expr.specs.bc_scheme.Context.{Context, Has, plain}
use Rattle.emit_expr.specs.bc_scheme.Expressions.{StandsE}
use Rattle.emit_expr.specs.bc_scheme.Statements as stands
use Rattle.emit_expr.specs.bc_scheme.Statements.{Around, StandsS, StandsB, StandsI, StandsH, is_over}
use Rattle.emit_expr.specs.emit_draft.declared.draft.Draft.{Draft}
use Rattle.emit_expr.specs.emit_draft.declared.draft.DraftItem.TheVariants as drafts
use Rattle.emit_expr.specs.emit_draft.declared.scope.Scope.{Scope}
use Rattle.emit_expr.specs.emit_draft.Draft.{Labels, Puts, Adds, Binds}
use Rattle.emit_expr.specs.emit_draft.Emits.{label_at, Emits, IsPut, put}
use Rattle.emit_expr.proofs.emit_draft_lemmas.Lists.{or_false}
use Rattle.emit_expr.proofs.emit_draft_lemmas.Emits.{no_emits, put_emits, then_emits, more_emits, put_after, as_emits, size_emits}
use Rattle.emit_expr.specs.Crowded.{crowded}
use Rattle.emit_expr.specs.Emits.{EmitsE}
use Rattle.emit_stmt.specs.declared.jumps.Loop.{Loop}
use Rattle.emit_stmt.specs.SimpleEmits.{around_of}
use Rattle.emit_stmt.specs.Children.{made, made_in, made_of, made_by, AreChildren}
use Rattle.emit_stmt.specs.Crowded.{crowded_block, crowded_stmt, crowded_branches, crowded_handlers}
use Rattle.emit_stmt.specs.Steps.{PutsBehind, IsBehind, behind}
use Rattle.emit_stmt.specs.Emits.{EmitsB, EmitsP, EmitsCase, EmitsH, EmitsClause, crowded_matched}
use Rattle.emit_stmt.proofs.Children.{front, back}
use Rattle.emit_stmt.proofs.Keeps.{behind_after, behind_emits, Holds, hold, held}
use Rattle.emit_stmt.proofs.Loops.{block_emits}

-- the same under another name for what is to come
rest_emits : {k : ℕ} {a b : Draft} {s : Scope} {r v w : Bool} {P : Context → Labels → ℕ → ℕ → Type 0} → r ≡ v → Emits k a b s r w P → Emits k a b s v w P
rest_emits {k = k} {a = a} {b = b} {s = s} {w = w} {P = P} e g = subst (λ z. Emits k a b s z w P) e g

-- ---- statements

-- the rest of a block behind what stands of it
pub record BuildsB (a b : Draft) (s : Scope) (around : Loop) (child at : ℕ) (rest all : Part Block) : Type 0 where
  pub from : ℕ → ℕ
  pub few : at + rest.defs ≤ child + all.defs
  pub is : (n : ℕ) → at + length (made (rest.make (from n))) ≡ child + length (made (all.make n))
  pub by :
      (n : ℕ) → Emits (length a.labels.items) a b s (crowded_block a.level around.entries (rest.make (from n))) (crowded_block a.level around.entries (all.make n))
      (λ c labels p q. (r : ℕ) → (AreChildren c at (made (rest.make (from n))) → StandsB c (around_of labels around) q (rest.make (from n)) r)
      → AreChildren c child (made (all.make n)) → StandsB c (around_of labels around) p (all.make n) r)

pub block_begun : (a : Draft) (s : Scope) (around : Loop) (child : ℕ) (all : Part Block) → BuildsB a a s around child child all all
block_begun a s around child all = record {
  from = λ n. n;
  few = omega arith;
  is = λ n. refl;
  by = λ n. no_emits a s (crowded_block a.level around.entries (all.make n))
      (λ c labels p q. (r : ℕ) → (AreChildren c child (made (all.make n)) → StandsB c (around_of labels around) q (all.make n) r)
      → AreChildren c child (made (all.make n)) → StandsB c (around_of labels around) p (all.make n) r) (λ c labels p r h. h);
}

pub block_more : {a b d : Draft} {s : Scope} {around : Loop} {line child at after : ℕ} {kind : Part Stmt} {rest all : Part Block}
    → BuildsB a b s around child at (also (also (part (Next line)) kind) rest) all → EmitsP b d s around line at after kind → BuildsB a d s around child after rest all
block_more {a = a} {around = around} {child = child} {after = after} {kind = kind} {rest = rest} {all = all} g ep = record {
  from = λ n. g.from n + (0 + kind.defs);
  few = omega (arith, g.few, ep.few);
  is = λ n. omega (arith, g.is n, ep.is (g.from n + 0), length-append (made_in (kind.make (g.from n + 0))) (made (rest.make (g.from n + (0 + kind.defs)))));
  by = λ n.
      let x = kind.make (g.from n + 0) in
      let ys = rest.make (g.from n + (0 + kind.defs)) in
      as_emits (λ c labels p q. (r : ℕ) → (AreChildren c after (made ys) → StandsB c (around_of labels around) q ys r) → AreChildren c child (made (all.make n)) → StandsB c (around_of labels around) p (all.make n) r)
      (λ c labels p q k r h. k.1 r (λ kids. stands.stmt (k.2 (front (made_in x) (made ys) kids)) (h (back (made_in x) (made ys) (ep.is (g.from n + 0)) kids))))
      (more_emits {v = crowded_stmt a.level around.entries x} {r = crowded_block a.level around.entries ys} (g.by n)
      (size_emits (ap (λ z. crowded_stmt z around.entries x) (g.by n).grown.level) (ep.by (g.from n + 0))));
}

pub block_ended : {a b : Draft} {s : Scope} {around : Loop} {child at : ℕ} {all : Part Block} → BuildsB a b s around child at (part End) all → EmitsB a b s around child at all
block_ended {around = around} {child = child} {all = all} g = record {
  few = omega (arith, g.few);
  is = λ n. omega (arith, g.is n);
  by = λ n. as_emits (λ c labels p q. AreChildren c child (made (all.make n)) → StandsB c (around_of labels around) p (all.make n) q) (λ c labels p q k. k q (λ kids. stands.no_stmt)) (g.by n);
}

-- ---- branches

pub record BuildsI (a b : Draft) (s : Scope) (around : Loop) (end child at : ℕ) (rest all : Part Branches) : Type 0 where
  pub from : ℕ → ℕ
  pub few : at + rest.defs ≤ child + all.defs
  pub is : (n : ℕ) → at + length (made_of (rest.make (from n))) ≡ child + length (made_of (all.make n))
  pub by :
      (n : ℕ) → Emits (length a.labels.items) a b s (crowded_branches a.level around.entries (rest.make (from n))) (crowded_branches a.level around.entries (all.make n))
      (λ c labels p q. (r : ℕ) → (AreChildren c at (made_of (rest.make (from n))) → StandsI c (around_of labels around) (label_at labels end) q (rest.make (from n)) r)
      → AreChildren c child (made_of (all.make n)) → StandsI c (around_of labels around) (label_at labels end) p (all.make n) r)

pub branches_begun : (a : Draft) (s : Scope) (around : Loop) (end child : ℕ) (all : Part Branches) → BuildsI a a s around end child child all all
branches_begun a s around end child all = record {
  from = λ n. n;
  few = omega arith;
  is = λ n. refl;
  by = λ n. no_emits a s (crowded_branches a.level around.entries (all.make n))
      (λ c labels p q. (r : ℕ) → (AreChildren c child (made_of (all.make n)) → StandsI c (around_of labels around) (label_at labels end) q (all.make n) r)
      → AreChildren c child (made_of (all.make n)) → StandsI c (around_of labels around) (label_at labels end) p (all.make n) r) (λ c labels p r h. h);
}

pub branches_more : {a b d : Draft} {s : Scope} {around : Loop} {end child at after line : ℕ} {over : Bool} {test : Expr} {body : Part Block} {rest all : Part Branches} → ((n : ℕ) → is_over (rest.make n) ≡ over)
    → BuildsI a b s around end child at (also (also (part (Case line test)) body) rest) all → EmitsCase b d s around end at after over line test body → BuildsI a d s around end child after rest all
branches_more {a = a} {around = around} {end = end} {child = child} {after = after} {test = test} {body = body} {rest = rest} {all = all} over_is g ec = record {
  from = λ n. g.from n + (0 + body.defs);
  few = omega (arith, g.few, ec.few);
  is = λ n. omega (arith, g.is n, ec.is (g.from n + 0), length-append (made (body.make (g.from n + 0))) (made_of (rest.make (g.from n + (0 + body.defs)))));
  by = λ n.
      let x = body.make (g.from n + 0) in
      let ys = rest.make (g.from n + (0 + body.defs)) in
      as_emits (λ c labels p q. (r : ℕ) → (AreChildren c after (made_of ys) → StandsI c (around_of labels around) (label_at labels end) q ys r)
      → AreChildren c child (made_of (all.make n)) → StandsI c (around_of labels around) (label_at labels end) p (all.make n) r)
      (λ c labels p q k r h. k.1 r (λ kids. k.2 (front (made x) (made_of ys) kids) ys r (over_is (g.from n + (0 + body.defs))) (h (back (made x) (made_of ys) (ec.is (g.from n + 0)) kids))))
      (more_emits {v = crowded test || crowded_block a.level around.entries x} {r = crowded_branches a.level around.entries ys} (g.by n)
      (size_emits (ap (λ z. crowded test || crowded_block z around.entries x) (g.by n).grown.level) (ec.by (g.from n + 0))));
}

-- with what stands behind the last branch
pub branches_held : {a c1 b d : Draft} {s : Scope} {around : Loop} {end child at after : ℕ} {rest : Part Block} {all : Part Branches} (n : ℕ) → Adds a c1 end
    → BuildsI c1 b s around end child at (also (part Else) rest) all → EmitsB b d s around at after rest
    → Holds a d s (crowded_branches a.level around.entries (all.make n)) end
    (λ c labels p q. AreChildren c child (made_of (all.make n)) → StandsI c (around_of labels around) (label_at labels end) p (all.make n) q)
branches_held {around = around} {end = end} {child = child} {rest = rest} {all = all} n l g eb =
    let x = rest.make (g.from n + 0) in
    hold l
    (size_emits (ap (λ z. crowded_branches z around.entries (all.make n)) l.level)
    (as_emits (λ c labels p q. AreChildren c child (made_of (all.make n)) → StandsI c (around_of labels around) (label_at labels end) p (all.make n) q)
    (λ c labels p q k. k.1 q (λ kids. stands.«else» (k.2 kids)))
    (more_emits {v = crowded_block _ around.entries x} {r = false} (rest_emits (sym (or_false _)) (g.by n)) (block_emits (g.from n + 0) (g.by n).grown.level eb))))

pub if_emits : {a c1 b d f : Draft} {s : Scope} {around : Loop} {end child at after : ℕ} {rest : Part Block} {all : Part Branches} (line : ℕ) → Adds a c1 end
    → BuildsI c1 b s around end child at (also (part Else) rest) all → EmitsB b d s around at after rest → Binds d f end → EmitsP a f s around line child after (also (part If) all)
if_emits {around = around} {child = child} {rest = rest} {all = all} line l g eb bound = record {
  few = omega (arith, g.few, eb.few);
  is = λ n. omega (arith, g.is (n + 0), eb.is (g.from (n + 0) + 0));
  by = λ n. as_emits (λ c labels p q. AreChildren c child (made_of (all.make (n + 0))) → StandsS c (around_of labels around) line p (If (all.make (n + 0))) q)
      (λ c labels p q k kids. stands.«if» (subst (λ z. StandsI c (around_of labels around) z p (all.make (n + 0)) q) k.1 (k.0 kids))) (held (branches_held (n + 0) l g eb) bound);
}

-- ---- a branch

-- the jump behind a branch, if anything is left
abbrev pub Exits : (c : Context) (over : Bool) (end p q : ℕ) → Type 0
Exits c over end p q = (over ≡ true → p ≡ q) × (over ≡ false → IsBehind c p (Jumps ops.Jump end) q)

exit_by : (a b : Draft) (s : Scope) (over : Bool) (end : ℕ) → (over ≡ true → b ≡ a) → (over ≡ false → PutsBehind a b (drafts.Jump ops.Jump end))
    → Emits (length a.labels.items) a b s false false (λ c labels p q. Exits c over (label_at labels end) p q)
exit_by a b s true end same puts =
    subst (λ z. Emits (length a.labels.items) a z s false false (λ c labels p q. Exits c true (label_at labels end) p q)) (sym (same refl))
    (no_emits a s false (λ c labels p q. Exits c true (label_at labels end) p q) (λ c labels p. (λ e. refl, λ e. absurd (let clash : true ≡ false = e in cc))))
exit_by a b s false end same puts =
    as_emits (λ c labels p q. Exits c false (label_at labels end) p q) (λ c labels p q k. (λ e. absurd (let clash : false ≡ true = e in cc), λ e. k)) (behind_emits a b s _ (puts refl))

last_case : {c : Context} {a : Around} {end own p m j r : ℕ} {e : Expr} {b : Block} (others : Branches) → is_over others ≡ true → StandsE c own p e m → Has c own m (Jumps ops.PopJumpIfFalse j)
    → StandsB c a (suc m) b j → StandsI c a end j others r → StandsI c a end p (Case own e b others) r
last_case (Else End) over se h sb (stands.«else» stands.no_stmt) = stands.last_branch se h sb
last_case (Else (Next line s rest)) over se h sb si = cc
last_case (Case line e b others) over se h sb si = cc

next_case : {c : Context} {a : Around} {end own p m j j1 r other : ℕ} {e : Expr} {b : Block} (others : Branches) → is_over others ≡ false → StandsE c own p e m
    → Has c own m (Jumps ops.PopJumpIfFalse other) → StandsB c a (suc m) b j → IsBehind c j (Jumps ops.Jump end) j1 → other ≡ j1 → StandsI c a end j1 others r → StandsI c a end p (Case own e b others) r
next_case {c = c} {own = own} {m = m} others over se h sb (behind h2) f si = stands.branch over se (subst (λ z. Has c own m (Jumps ops.PopJumpIfFalse z)) f h) sb h2 si

case_row : {c : Context} {a : Around} {end own p m m1 j j1 r other : ℕ} {e : Expr} {b : Block} (over : Bool) (others : Branches) → StandsE c own p e m → IsPut c own m (Jumps ops.PopJumpIfFalse other) m1
    → StandsB c a m1 b j → Exits c over end j j1 → other ≡ j1 → is_over others ≡ over → StandsI c a end j1 others r → StandsI c a end p (Case own e b others) r
case_row {c = c} {a = a} {own = own} {m = m} {b = b} true others se (put h) sb exits f over si =
    last_case others over se (subst (λ z. Has c own m (Jumps ops.PopJumpIfFalse z)) f h) (subst (λ z. StandsB c a (suc m) b z) (exits.0 refl) sb) si
case_row false others se (put h) sb exits f over si = next_case others over se h sb (exits.1 refl) f si

pub case_held : {a b d f g h : Draft} {s : Scope} {around : Loop} {end other child after line : ℕ} {test : Expr} {body : Part Block} (over : Bool) (n : ℕ) → Adds a b other → EmitsE b d s line test
    → Puts d f line (drafts.Jump ops.PopJumpIfFalse other) → EmitsB f g s around child after body → (over ≡ true → h ≡ g) → (over ≡ false → PutsBehind g h (drafts.Jump ops.Jump end))
    → Holds a h s (crowded test || crowded_block a.level around.entries (body.make n)) other
    (λ c labels p q. (j : ℕ) × ((m1 : ℕ) × ((m : ℕ) × StandsE c line p test m × IsPut c line m (Jumps ops.PopJumpIfFalse (label_at labels other)) m1)
    × (AreChildren c child (made (body.make n)) → StandsB c (around_of labels around) m1 (body.make n) j)) × Exits c over (label_at labels end) j q)
case_held {g = g} {h = h} {s = s} {end = end} {test = test} {body = body} over n l ee p eb same puts =
    hold l (size_emits (or_false _) (then_emits (then_emits (put_after ee.by p) (block_emits n (p.level ∙ ee.by.grown.level ∙ l.level) eb)) (exit_by g h s over end same puts)))

pub case_emits : {a b d f g h i : Draft} {s : Scope} {around : Loop} {end other child after line : ℕ} {test : Expr} {body : Part Block} (over : Bool) → Adds a b other → EmitsE b d s line test
    → Puts d f line (drafts.Jump ops.PopJumpIfFalse other) → EmitsB f g s around child after body → (over ≡ true → h ≡ g) → (over ≡ false → PutsBehind g h (drafts.Jump ops.Jump end)) → Binds h i other
    → EmitsCase a i s around end child after over line test body
case_emits {around = around} {end = end} {child = child} {line = line} {test = test} {body = body} over l ee p eb same puts bound = record {
  few = eb.few;
  is = eb.is;
  by = λ n. as_emits (λ c labels p q. AreChildren c child (made (body.make n)) → (others : Branches) (r : ℕ) → is_over others ≡ over
      → StandsI c (around_of labels around) (label_at labels end) q others r → StandsI c (around_of labels around) (label_at labels end) p (Case line test (body.make n) others) r)
      (λ c labels p q k kids others r over_is si. case_row over others k.0.1.1.1 k.0.1.1.2 (k.0.1.2 kids) k.0.2 k.1 over_is si) (held (case_held over n l ee p eb same puts) bound);
}

-- ---- clauses

pub record BuildsH (a b : Draft) (s : Scope) (around : Loop) (end child at : ℕ) (rest all : Part Handlers) : Type 0 where
  pub from : ℕ → ℕ
  pub few : at + rest.defs ≤ child + all.defs
  pub is : (n : ℕ) → at + length (made_by (rest.make (from n))) ≡ child + length (made_by (all.make n))
  pub by :
      (n : ℕ) → Emits (length a.labels.items) a b s (crowded_handlers a.level around.entries (rest.make (from n))) (crowded_handlers a.level around.entries (all.make n))
      (λ c labels p q. (r : ℕ) → (AreChildren c at (made_by (rest.make (from n))) → StandsH c (around_of labels around) (label_at labels end) q (rest.make (from n)) r)
      → AreChildren c child (made_by (all.make n)) → StandsH c (around_of labels around) (label_at labels end) p (all.make n) r)

pub handlers_begun : (a : Draft) (s : Scope) (around : Loop) (end child : ℕ) (all : Part Handlers) → BuildsH a a s around end child child all all
handlers_begun a s around end child all = record {
  from = λ n. n;
  few = omega arith;
  is = λ n. refl;
  by = λ n. no_emits a s (crowded_handlers a.level around.entries (all.make n))
      (λ c labels p q. (r : ℕ) → (AreChildren c child (made_by (all.make n)) → StandsH c (around_of labels around) (label_at labels end) q (all.make n) r)
      → AreChildren c child (made_by (all.make n)) → StandsH c (around_of labels around) (label_at labels end) p (all.make n) r) (λ c labels p r h. h);
}

clause_size : (level entries line : ℕ) (test : trees.Expr) (name : Option Name) (b : Block) (hs : Handlers)
    → crowded_handlers level entries (handler_of line (Some test) name b hs) ≡ ((crowded (plain_expr test) || crowded_matched level entries name b) || crowded_handlers level entries hs)
clause_size level entries line test None b hs = refl
clause_size level entries line test (Some x) b hs = refl

clause_made : (line : ℕ) (test : trees.Expr) (name : Option Name) (b : Block) (hs : Handlers) → made_by (handler_of line (Some test) name b hs) ≡ made b ++ made_by hs
clause_made line test None b hs = refl
clause_made line test (Some x) b hs = refl

pub handlers_more : {a b d : Draft} {s : Scope} {around : Loop} {end child at after : ℕ} {body : Part Block} {rest all : Part Handlers} (line : ℕ) (test : trees.Expr) (name : Option Name)
    → BuildsH a b s around end child at (also (also (part (handler_of line (Some test) name)) body) rest) all → EmitsClause b d s around end at after line test name body → BuildsH a d s around end child after rest all
handlers_more {a = a} {around = around} {end = end} {child = child} {at = at} {after = after} {body = body} {rest = rest} {all = all} line test name g ec = record {
  from = λ n. g.from n + (0 + body.defs);
  few = omega (arith, g.few, ec.few);
  is = λ n.
      let x = body.make (g.from n + 0) in
      let ys = rest.make (g.from n + (0 + body.defs)) in
      omega (arith, g.is n, ec.is (g.from n + 0), ap length (clause_made line test name x ys), length-append (made x) (made_by ys));
  by = λ n.
      let x = body.make (g.from n + 0) in
      let ys = rest.make (g.from n + (0 + body.defs)) in
      as_emits (λ c labels p q. (r : ℕ) → (AreChildren c after (made_by ys) → StandsH c (around_of labels around) (label_at labels end) q ys r)
      → AreChildren c child (made_by (all.make n)) → StandsH c (around_of labels around) (label_at labels end) p (all.make n) r)
      (λ c labels p q k r h. k.1 r (λ kids.
      let both = subst (AreChildren c at) (clause_made line test name x ys) kids in
      k.2 (front (made x) (made_by ys) both) ys r (h (back (made x) (made_by ys) (ec.is (g.from n + 0)) both))))
      (more_emits {v = crowded (plain_expr test) || crowded_matched a.level around.entries name x} {r = crowded_handlers a.level around.entries ys}
      (rest_emits (clause_size a.level around.entries line test name x ys) (g.by n))
      (size_emits (ap (λ z. crowded (plain_expr test) || crowded_matched z around.entries name x) (g.by n).grown.level) (ec.by (g.from n + 0))));
}

pub handlers_ended : {a b : Draft} {s : Scope} {around : Loop} {end child at : ℕ} {all : Part Handlers} → BuildsH a b s around end child at (part NoHandler) all → EmitsH a b s around end child at all
handlers_ended {around = around} {end = end} {child = child} {all = all} g = record {
  few = omega (arith, g.few);
  is = λ n. omega (arith, g.is n);
  by = λ n. as_emits (λ c labels p q. AreChildren c child (made_by (all.make n)) → StandsH c (around_of labels around) (label_at labels end) p (all.make n) q)
      (λ c labels p q k. k q (λ kids. stands.no_clause)) (g.by n);
}

any_row : {c : Context} {a : Around} {line p m j q end : ℕ} {b : Block} → IsPut c line p (plain ops.PopTop) m → StandsB c a m b j → IsBehind c j (Jumps ops.PopExceptJump end) q → StandsH c a end p (Any line b) q
any_row (put h) sb (behind h2) = stands.any h sb h2

-- a clause without a test is the last one
pub any_ended : {a b d f g : Draft} {s : Scope} {around : Loop} {end child at after line : ℕ} {body : Part Block} {all : Part Handlers} (name : Option Name) (rest : Part Handlers)
    → BuildsH a b s around end child at (also (also (part (handler_of line None name)) body) rest) all → Puts b d line (drafts.Plain (instrs.Plain ops.PopTop)) → EmitsB d f s around at after body
    → PutsBehind f g (drafts.Jump ops.PopExceptJump end) → EmitsH a g s around end child after all
any_ended {b = b} {d = d} {s = s} {around = around} {end = end} {child = child} {line = line} {body = body} {all = all} name rest h p eb pb = record {
  few = omega (arith, h.few, eb.few);
  is = λ n. omega (arith, h.is n, eb.is (h.from n + 0));
  by = λ n.
      let x = body.make (h.from n + 0) in
      let inside = behind_after (then_emits (put_emits b d s line _ p) (block_emits (h.from n + 0) (p.level ∙ (h.by n).grown.level) eb)) pb in
      as_emits (λ c labels p q. AreChildren c child (made_by (all.make n)) → StandsH c (around_of labels around) (label_at labels end) p (all.make n) q)
      (λ c labels p q k. k.1 q (λ kids. any_row k.2.1.1 (k.2.1.2 kids) k.2.2))
      (more_emits {v = crowded_block _ around.entries x} {r = false} (rest_emits (sym (or_false _)) (h.by n)) inside);
}
