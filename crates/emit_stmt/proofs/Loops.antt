-- The code of loops, from that of their parts.
use Rattle.std.proofs.Common.{◌≡◌, ℕ, suc, ◌+◌, ◌≤◌, Bool, true, false, ◌++◌, length, refl, sym, ap, ◌∙◌, subst, arith, length-append}
use Rattle.std.specs.Prelude.{◌||◌}
use Rattle.emit_expr.specs.bc_machine.bc_ops.declared.instr.Op.TheVariants as ops
use Rattle.emit_expr.specs.bc_machine.bc_ops.declared.instr.Instr.TheVariants as instrs
use Rattle.emit_expr.specs.bc_machine.Library.{Jumps}
use Rattle.emit_expr.specs.py_meaning.Tree.{Expr, Target, While, For, Block}
use Rattle.emit_expr.specs.py_meaning.Plain.{Part, part, also}
use Rattle.emit_expr.specs.bc_scheme.Context.{Context, Has, Behind, plain}
use Rattle.emit_expr.specs.bc_scheme.Expressions.{StandsE}
use Rattle.emit_expr.specs.bc_scheme.Statements as stands
use Rattle.emit_expr.specs.bc_scheme.Statements.{Around, StandsT, StandsB, StandsS}
use Rattle.emit_expr.specs.emit_draft.declared.draft.Draft.{Draft}
use Rattle.emit_expr.specs.emit_draft.declared.draft.DraftItem.TheVariants as drafts
use Rattle.emit_expr.specs.emit_draft.declared.scope.Scope.{Scope}
use Rattle.emit_expr.specs.emit_draft.Draft.{Puts, Adds, Binds}
use Rattle.emit_expr.specs.emit_draft.Emits.{label_at, Emits, IsPut, put}
use Rattle.emit_expr.proofs.emit_draft_lemmas.Steps.{free_added}
use Rattle.emit_expr.proofs.emit_draft_lemmas.Emits.{no_emits, put_emits, then_emits, put_after, label_after, bind_after, as_emits, size_emits}
use Rattle.emit_expr.specs.Crowded.{crowded}
use Rattle.emit_expr.specs.Emits.{EmitsE}
use Rattle.emit_stmt.specs.declared.jumps.Loop.{Loop}
use Rattle.emit_stmt.specs.SimpleCrowded.{crowded_target}
use Rattle.emit_stmt.specs.SimpleEmits.{around_of, EmitsT}
use Rattle.emit_stmt.specs.Children.{made, AreChildren}
use Rattle.emit_stmt.specs.Crowded.{crowded_block}
use Rattle.emit_stmt.specs.Steps.{PutsBehind, IsBehind, behind}
use Rattle.emit_stmt.specs.Emits.{EmitsB, EmitsP}
use Rattle.emit_stmt.proofs.Children.{front, back}
use Rattle.emit_stmt.proofs.Keeps.{behind_after, Holds, hold, held}

abbrev pub inner_loop : (end next : ℕ) → Bool → Loop
inner_loop end next iterator = record { end = end; next = next; entries = 0; iterator = iterator }

-- a block where the level is known
pub block_emits : {a b : Draft} {s : Scope} {around : Loop} {child after level : ℕ} {body : Part Block} (n : ℕ) → a.level ≡ level → EmitsB a b s around child after body
    → Emits (length a.labels.items) a b s false (crowded_block level around.entries (body.make n))
    (λ c labels p q. AreChildren c child (made (body.make n)) → StandsB c (around_of labels around) p (body.make n) q)
block_emits {around = around} {body = body} n e g = size_emits (ap (λ z. crowded_block z around.entries (body.make n)) e) (g.by n)

-- ---- what loops share

-- a body, behind which its loop stands in front of any rest
abbrev pub Turns : (c : Context) (next other end child : ℕ) → Block → (Around → ℕ → Block → ℕ → Type 0) → (p q : ℕ) → Type 0
Turns c next other end child body F p q =
    AreChildren c child (made body) → next ≡ p → other ≡ q → (a : Around) (rest : Block) (r : ℕ) → end ≡ r → StandsB c a q rest r → F a p rest r

-- the loop behind its front
abbrev pub Rests : (c : Context) (next end child : ℕ) → Around → (body rest : Block) → (Around → ℕ → Block → ℕ → Type 0) → (p q : ℕ) → Type 0
Rests c next end child a body rest F p q = AreChildren c child (made body ++ made rest) → next ≡ p → end ≡ q → F a p rest q

-- the front of a loop leads to the place that a `continue` goes to
abbrev pub Leads : (next : ℕ) (F G : Around → ℕ → Block → ℕ → Type 0) → (p q : ℕ) → Type 0
Leads next F G p q = (next ≡ q) × ((a : Around) (rest : Block) (r : ℕ) → F a q rest r → G a p rest r)

-- the whole loop
abbrev pub Ends : (c : Context) (end child : ℕ) → Around → (body rest : Block) → (Around → ℕ → Block → ℕ → Type 0) → (p q : ℕ) → Type 0
Ends c end child a body rest G p q = AreChildren c child (made body ++ made rest) → end ≡ q → G a p rest q

rest_row : {c : Context} {p m q next other end child at : ℕ} {a : Around} (body rest : Block) (F : Around → ℕ → Block → ℕ → Type 0)
    → at ≡ child + length (made body) → Turns c next other end child body F p m → other ≡ m → (AreChildren c at (made rest) → StandsB c a m rest q) → Rests c next end child a body rest F p q
rest_row {q = q} {a = a} body rest F is turns other b kids starts ends =
    turns (front (made body) (made rest) kids) starts other a rest q ends (b (back (made body) (made rest) is kids))

ends_row : {c : Context} {p m q next end child : ℕ} {a : Around} (body rest : Block) (F G : Around → ℕ → Block → ℕ → Type 0)
    → Leads next F G p m → Rests c next end child a body rest F m q → Ends c end child a body rest G p q
ends_row {q = q} {a = a} body rest F G leads rests kids ends = leads.1 a rest q (rests kids leads.0 ends)

-- a loop up to the jump behind its body
pub record Top (a b : Draft) (s : Scope) (next other end child at : ℕ) (body : Part Block) (v : Bool) (w : ℕ → Bool) (F G : Block → Context → Around → ℕ → Block → ℕ → Type 0) : Type 0 where
  pub first : Draft
  pub from : Draft
  pub label : Adds a first end
  pub leads : (n : ℕ) → Emits (length first.labels.items) first from s false v (λ c labels p q. Leads (label_at labels next) (F (body.make n) c) (G (body.make n) c) p q)
  pub turns : (n : ℕ) → Holds from b s (w n) other (λ c labels p q. Turns c (label_at labels next) (label_at labels other) (label_at labels end) child (body.make n) (F (body.make n) c) p q)
  pub few : at ≤ child + body.defs
  pub is : (n : ℕ) → at ≡ child + length (made (body.make n))
  pub level : b.level ≡ a.level

-- up to its end
pub loop_held : {a b d f : Draft} {s : Scope} {around : Loop} {next other end child at after : ℕ} {body rest : Part Block} {v : Bool} {w : ℕ → Bool} {F G : Block → Context → Around → ℕ → Block → ℕ → Type 0} (n m : ℕ)
    → Top a b s next other end child at body v w F G → Binds b d other → EmitsB d f s around at after rest
    → Holds a f s (v || (w n || crowded_block a.level around.entries (rest.make m))) end
    (λ c labels p q. Ends c (label_at labels end) child (around_of labels around) (body.make n) (rest.make m) (G (body.make n) c) p q)
loop_held {a = a} {around = around} {next = next} {end = end} {child = child} {body = body} {rest = rest} {w = w} {F = F} {G = G} n m t bound er =
    let x : Block = body.make n in
    let y : Block = rest.make m in
    let behind = as_emits (λ c labels p q. Rests c (label_at labels next) (label_at labels end) child (around_of labels around) x y (F x c) p q)
    (λ c labels p q k. rest_row x y (F x c) (t.is n) k.1.0 k.1.1 k.2)
    (then_emits (held (t.turns n) bound) (block_emits m (bound.level ∙ t.level) er)) in
    hold t.label
    (as_emits (λ c labels p q. Ends c (label_at labels end) child (around_of labels around) x y (G x c) p q) (λ c labels p q k. ends_row x y (F x c) (G x c) k.1 k.2)
    (then_emits (t.leads n) behind))

-- ---- while

abbrev pub WhileAt : (line : ℕ) → Expr → Block → Context → Around → ℕ → Block → ℕ → Type 0
WhileAt line e body c a p rest r = StandsS c a line p (While e body rest) r

abbrev around_loop : (end next : ℕ) → Bool → Around
around_loop end next iterator = record { brk = end; cont = next; count = 0; iterator = iterator }

loop_is : {end next p r : ℕ} (iterator : Bool) → next ≡ p → end ≡ r → around_loop end next iterator ≡ around_loop r p iterator
loop_is {next = next} {r = r} iterator start ends = ap (λ z. around_loop z next iterator) ends ∙ ap (λ z. around_loop r z iterator) start

while_row : {c : Context} {a inner : Around} {line p m m1 j q r other : ℕ} {e : Expr} {body rest : Block}
    → StandsE c line p e m → IsPut c line m (Jumps ops.PopJumpIfFalse other) m1 → StandsB c inner m1 body j → IsBehind c j (Jumps ops.Jump p) q → other ≡ q
    → inner ≡ around_loop r p false → StandsB c a q rest r → StandsS c a line p (While e body rest) r
while_row {c = c} {line = line} {m = m} {j = j} {body = body} se (put h) sb (behind b) f i sr =
    stands.«while» se (subst (λ z. Has c line m (Jumps ops.PopJumpIfFalse z)) f h) (subst (λ z. StandsB c z (suc m) body j) i sb) b sr

while_turns : {c : Context} {line p m m1 j q next other end child : ℕ} {e : Expr} {body : Block}
    → StandsE c line p e m → IsPut c line m (Jumps ops.PopJumpIfFalse other) m1
    → (AreChildren c child (made body) → StandsB c (around_loop end next false) m1 body j) → IsBehind c j (Jumps ops.Jump next) q
    → Turns c next other end child body (WhileAt line e body c) p q
while_turns {c = c} {j = j} {q = q} se h sb b kids start f a rest r ends sr =
    while_row se h (sb kids) (subst (λ z. IsBehind c j (Jumps ops.Jump z) q) start b) f (loop_is false start ends) sr

while_leads : {p q next : ℕ} (c : Context) (line : ℕ) (e : Expr) (body : Block) → p ≡ q → next ≡ q → Leads next (WhileAt line e body c) (WhileAt line e body c) p q
while_leads c line e body is starts = (starts, λ a rest r h. subst (λ z. StandsS c a line z (While e body rest) r) (sym is) h)

pub while_top : {a c1 c2 c3 c4 c5 c6 c7 c8 : Draft} {s : Scope} {line next other end child at : ℕ} {e : Expr} {body : Part Block}
    → Adds a c1 end → Adds c1 c2 next → Binds c2 c3 next → Adds c3 c4 other → EmitsE c4 c5 s line e → Puts c5 c6 line (drafts.Jump ops.PopJumpIfFalse other)
    → EmitsB c6 c7 s (inner_loop end next false) child at body → PutsBehind c7 c8 (drafts.Jump ops.Jump next)
    → Top a c8 s next other end child at body false (λ n. crowded e || crowded_block a.level 0 (body.make n)) (WhileAt line e) (WhileAt line e)
while_top {a = a} {c1 = c1} {c2 = c2} {c3 = c3} {c6 = c6} {s = s} {line = line} {next = next} {other = other} {end = end} {child = child} {e = e} {body = body} l1 l2 b1 l3 ee p eb pb =
    let level : c6.level ≡ a.level = p.level ∙ ee.by.grown.level ∙ l3.level ∙ b1.level ∙ l2.level ∙ l1.level in
    record {
      first = c1;
      from = c3;
      label = l1;
      leads = λ n. as_emits (λ c labels p q. Leads (label_at labels next) (WhileAt line e (body.make n) c) (WhileAt line e (body.make n) c) p q)
          (λ c labels p q k. while_leads c line e (body.make n) k.0 k.1)
          (bind_after (label_after (no_emits c1 s false (λ c labels p q. p ≡ q) (λ c labels p. refl)) l2) b1 (omega (arith, l2.number)) (free_added c1 c2 next l2));
      turns = λ n. hold l3
          (as_emits (λ c labels p q. Turns c (label_at labels next) (label_at labels other) (label_at labels end) child (body.make n) (WhileAt line e (body.make n) c) p q)
          (λ c labels p q k. while_turns k.1.1.1 k.1.1.2 k.1.2 k.2) (behind_after (then_emits (put_after ee.by p) (block_emits n level eb)) pb));
      few = eb.few;
      is = eb.is;
      level = pb.level ∙ (eb.by 0).grown.level ∙ level;
    }

pub while_emits : {a b d f g : Draft} {s : Scope} {around : Loop} {line next other end child at after : ℕ} {e : Expr} {body rest : Part Block}
    → Top a b s next other end child at body false (λ n. crowded e || crowded_block a.level 0 (body.make n)) (WhileAt line e) (WhileAt line e)
    → Binds b d other → EmitsB d f s around at after rest → Binds f g end
    → EmitsP a g s around line child after (also (also (part (While e)) body) rest)
while_emits {a = a} {around = around} {line = line} {child = child} {e = e} {body = body} {rest = rest} t b1 er b2 = record {
  few = omega (arith, t.few, er.few);
  is = λ n. omega (arith, t.is (n + 0), er.is (n + (0 + body.defs)), length-append (made (body.make (n + 0))) (made (rest.make (n + (0 + body.defs)))));
  by = λ n. as_emits (λ c labels p q. AreChildren c child (made (body.make (n + 0)) ++ made (rest.make (n + (0 + body.defs)))) → StandsS c (around_of labels around) line p (While e (body.make (n + 0)) (rest.make (n + (0 + body.defs)))) q)
      (λ c labels p q k kids. k.0 kids k.1) (held (loop_held (n + 0) (n + (0 + body.defs)) t b1 er) b2);
}

-- ---- for

abbrev pub ForAt : (line : ℕ) → Target → Block → Context → Around → ℕ → Block → ℕ → Type 0
ForAt line t body c a p rest r =
    (e : Expr) (start m : ℕ) → StandsE c line start e m → Has c line m (plain ops.GetIterStack) → p ≡ suc m → StandsS c a line start (For t e body rest) r

abbrev pub ForFrom : (line : ℕ) → Target → Expr → Block → Context → Around → ℕ → Block → ℕ → Type 0
ForFrom line t e body c a p rest r = StandsS c a line p (For t e body rest) r

for_at : {c : Context} {a inner : Around} {line p m1 n1 j q r other : ℕ} {t : Target} {body rest : Block} (e : Expr) (start m : ℕ)
    → IsPut c line p (Jumps ops.ForIter other) m1 → StandsT c line m1 t n1 → StandsB c inner n1 body j → IsBehind c j (Jumps ops.Jump p) q → other ≡ q
    → inner ≡ around_loop r p true → StandsB c a q rest r
    → StandsE c line start e m → Has c line m (plain ops.GetIterStack) → p ≡ suc m → StandsS c a line start (For t e body rest) r
for_at {c = c} {line = line} {p = p} {n1 = n1} {j = j} {r = r} {t = t} {body = body} e start m (put h) st sb (behind b) f i sr se hg is =
    let h2 = subst (λ z. Has c line p (Jumps ops.ForIter z)) f h in
    let sb2 = subst (λ z. StandsB c z n1 body j) i sb in
    let P : ℕ → Type 0 = λ z. Has c line z (Jumps ops.ForIter (suc j)) × StandsT c line (suc z) t n1 × StandsB c (around_loop r z true) n1 body j × Behind c j (Jumps ops.Jump z) in
    let all : P (suc m) = subst P is (h2, st, sb2, b) in
    stands.«for» se hg all.0 all.1 all.2 all.3 sr

for_turns : {c : Context} {line p m1 n1 j q next other end child : ℕ} {t : Target} {body : Block}
    → IsPut c line p (Jumps ops.ForIter other) m1 → StandsT c line m1 t n1
    → (AreChildren c child (made body) → StandsB c (around_loop end next true) n1 body j) → IsBehind c j (Jumps ops.Jump next) q
    → Turns c next other end child body (ForAt line t body c) p q
for_turns {c = c} {j = j} {q = q} h st sb b kids start f a rest r ends sr e from m se hg is =
    for_at e from m h st (sb kids) (subst (λ z. IsBehind c j (Jumps ops.Jump z) q) start b) f (loop_is true start ends) sr se hg is

for_leads : {c : Context} {line p m q next : ℕ} {e : Expr} (t : Target) (body : Block) → StandsE c line p e m → IsPut c line m (plain ops.GetIterStack) q → next ≡ q
    → Leads next (ForAt line t body c) (ForFrom line t e body c) p q
for_leads {p = p} {m = m} {e = e} t body se (put h) starts = (starts, λ a rest r at. at e p m se h refl)

pub for_top : {a c1 c2 c3 c4 c5 c6 c7 c8 c9 c10 : Draft} {s : Scope} {line next other end child at : ℕ} {t : Target} {e : Expr} {body : Part Block}
    → Adds a c1 end → EmitsE c1 c2 s line e → Puts c2 c3 line (drafts.Plain (instrs.Plain ops.GetIterStack)) → Adds c3 c4 next → Binds c4 c5 next → Adds c5 c6 other
    → Puts c6 c7 line (drafts.Jump ops.ForIter other) → EmitsT c7 c8 s line t → EmitsB c8 c9 s (inner_loop end next true) child at body → PutsBehind c9 c10 (drafts.Jump ops.Jump next)
    → Top a c10 s next other end child at body (crowded e) (λ n. crowded_target t || crowded_block a.level 0 (body.make n)) (ForAt line t) (ForFrom line t e)
for_top {a = a} {c1 = c1} {c3 = c3} {c4 = c4} {c5 = c5} {c6 = c6} {c7 = c7} {c8 = c8} {s = s} {line = line} {next = next} {other = other} {end = end} {child = child} {t = t} {e = e} {body = body} l1 ee pg l2 b1 l3 p et eb pb =
    let level : c8.level ≡ a.level = et.by.grown.level ∙ p.level ∙ l3.level ∙ b1.level ∙ l2.level ∙ pg.level ∙ ee.by.grown.level ∙ l1.level in
    let front = put_after ee.by pg in
    record {
      first = c1;
      from = c5;
      label = l1;
      leads = λ n. as_emits (λ c labels p q. Leads (label_at labels next) (ForAt line t (body.make n) c) (ForFrom line t e (body.make n) c) p q)
          (λ c labels p q k. for_leads t (body.make n) k.0.1 k.0.2 k.1) (bind_after (label_after front l2) b1 (omega (arith, l2.number, front.grown.count)) (free_added c3 c4 next l2));
      turns = λ n. hold l3
          (as_emits (λ c labels p q. Turns c (label_at labels next) (label_at labels other) (label_at labels end) child (body.make n) (ForAt line t (body.make n) c) p q)
          (λ c labels p q k. for_turns k.1.1.1 k.1.1.2 k.1.2 k.2)
          (behind_after (then_emits (then_emits (put_emits c6 c7 s line _ p) et.by) (block_emits n level eb)) pb));
      few = eb.few;
      is = eb.is;
      level = pb.level ∙ (eb.by 0).grown.level ∙ level;
    }

for_size : (x y z w : Bool) → (x || ((y || z) || w)) ≡ (((x || y) || z) || w)
for_size true y z w = refl
for_size false y z w = refl

pub for_emits : {a b d f g : Draft} {s : Scope} {around : Loop} {line next other end child at after : ℕ} {t : Target} {e : Expr} {body rest : Part Block}
    → Top a b s next other end child at body (crowded e) (λ n. crowded_target t || crowded_block a.level 0 (body.make n)) (ForAt line t) (ForFrom line t e)
    → Binds b d other → EmitsB d f s around at after rest → Binds f g end
    → EmitsP a g s around line child after (also (also (part (For t e)) body) rest)
for_emits {a = a} {around = around} {line = line} {child = child} {t = t} {e = e} {body = body} {rest = rest} top b1 er b2 = record {
  few = omega (arith, top.few, er.few);
  is = λ n. omega (arith, top.is (n + 0), er.is (n + (0 + body.defs)), length-append (made (body.make (n + 0))) (made (rest.make (n + (0 + body.defs)))));
  by = λ n. size_emits (for_size (crowded e) (crowded_target t) (crowded_block a.level 0 (body.make (n + 0))) (crowded_block a.level around.entries (rest.make (n + (0 + body.defs)))))
      (as_emits (λ c labels p q. AreChildren c child (made (body.make (n + 0)) ++ made (rest.make (n + (0 + body.defs)))) → StandsS c (around_of labels around) line p (For t e (body.make (n + 0)) (rest.make (n + (0 + body.defs)))) q)
      (λ c labels p q k kids. k.0 kids k.1) (held (loop_held (n + 0) (n + (0 + body.defs)) top b1 er) b2));
}
