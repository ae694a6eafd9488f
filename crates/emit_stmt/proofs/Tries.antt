-- The code of `try`, from that of its parts.
use Rattle.std.proofs.Common.{◌≡◌, ℕ, suc, ◌+◌, ◌≤◌, Bool, false, ◌++◌, length, Option, Some, None, sym, ap, ◌∙◌, subst, arith, length-append}
use Rattle.std.specs.Prelude.{slice_get, ◌||◌}
use Rattle.std.proofs.lemmas.Option.{slice_get_within}
use Rattle.emit_expr.specs.bc_machine.bc_ops.declared.instr.Op.TheVariants as ops
use Rattle.emit_expr.specs.bc_machine.bc_ops.declared.instr.Instr.TheVariants as instrs
use Rattle.emit_expr.specs.bc_machine.Library.{Name, Jumps}
use Rattle.py_tree.specs.declared.expr.Expr as trees
use Rattle.emit_expr.specs.py_meaning.Tree.{Expr, Stmt, Try, Finally, TryFinally, Block, Handlers}
use Rattle.emit_expr.specs.py_meaning.Plain.{Part, part, also, plain_expr, handler_of}
use Rattle.emit_expr.specs.bc_scheme.Context.{Context, Has, Behind, plain, stores, deletes, matching}
use Rattle.emit_expr.specs.bc_scheme.Expressions.{StandsE}
use Rattle.emit_expr.specs.bc_scheme.Statements as stands
use Rattle.emit_expr.specs.bc_scheme.Statements.{Around, deeper, StandsB, StandsS, StandsX, StandsH}
use Rattle.emit_expr.specs.emit_draft.declared.draft.Draft.{Draft}
use Rattle.emit_expr.specs.emit_draft.declared.draft.DraftItem.{DraftItem}
use Rattle.emit_expr.specs.emit_draft.declared.draft.DraftItem.TheVariants as drafts
use Rattle.emit_expr.specs.emit_draft.declared.scope.Scope.{Scope}
use Rattle.emit_expr.specs.emit_draft.Draft.{Labels, Puts, Adds, Binds}
use Rattle.emit_expr.specs.emit_draft.Emits.{label_at, Emits, IsPut, put, IsItem}
use Rattle.emit_expr.proofs.emit_draft_lemmas.Lists.{or_false, or_assoc}
use Rattle.emit_expr.proofs.emit_draft_lemmas.Emits.{put_emits, then_emits, put_after, as_emits, size_emits, bind_after}
use Rattle.emit_expr.specs.Crowded.{crowded}
use Rattle.emit_expr.specs.Emits.{EmitsE, PutsAs}
use Rattle.emit_stmt.specs.declared.jumps.Loop.{Loop}
use Rattle.emit_stmt.specs.SimpleCrowded.{passes_entries}
use Rattle.emit_stmt.specs.SimpleEmits.{around_of}
use Rattle.emit_stmt.specs.Children.{made, made_in, made_by, AreChildren}
use Rattle.emit_stmt.specs.Crowded.{crowded_block, crowded_stmt, crowded_handlers}
use Rattle.emit_stmt.specs.Steps.{PutsBehind, IsBehind, behind, Deepens, deeper_loop, IsMatch, match, IsGone, gone, StandsMatched, unnamed, named, StandsLast, stands_last, EmitsMatch, EmitsGone}
use Rattle.emit_stmt.specs.Emits.{EmitsB, EmitsP, EmitsH, EmitsClause, EmitsMatched, EmitsLast, crowded_matched}
use Rattle.emit_stmt.proofs.Children.{front, back}
use Rattle.emit_stmt.proofs.Keeps.{behind_after, behind_emits, behind_item, deepens_emits, deeper_size, Holds, hold, held, less_emits, both_emits}
use Rattle.emit_stmt.proofs.Loops.{block_emits}

-- ---- tests of clauses, and the ends of their names

match_row : {c : Context} {line p m0 m m1 q other : ℕ} {test : Expr} → IsPut c line p (plain ops.DupTop) m0 → StandsE c line m0 test m → IsPut c line m matching m1
    → IsPut c line m1 (Jumps ops.PopJumpIfFalse other) q → IsMatch c line p test other q
match_row (put h1) se (put h2) (put h3) = match h1 se h2 h3

pub match_emits : {a b d f g : Draft} {s : Scope} {line other : ℕ} {test : Expr} → Puts a b line (drafts.Plain (instrs.Plain ops.DupTop)) → EmitsE b d s line test
    → Puts d f line (drafts.Plain (instrs.Binary 8)) → Puts f g line (drafts.Jump ops.PopJumpIfFalse other) → EmitsMatch a g s line test other
match_emits {a = a} {b = b} {s = s} {line = line} {other = other} {test = test} p1 ee p2 p3 = record {
  by = as_emits (λ c labels p q. IsMatch c line p test (label_at labels other) q) (λ c labels p q k. match_row k.1.1.1 k.1.1.2 k.1.2 k.2)
      (put_after (put_after (then_emits (put_emits a b s line _ p1) ee.by) p2) p3);
}

gone_row : {c : Context} {p m1 m2 m3 q : ℕ} {name : Name} → IsBehind c p (plain ops.LoadConstNone) m1 → IsBehind c m1 (stores c name) m2 → IsBehind c m2 (deletes c name) m3
    → IsBehind c m3 (plain ops.EndFinally) q → IsGone c p name q
gone_row (behind h1) (behind h2) (behind h3) (behind h4) = gone h1 h2 h3 h4

pub gone_emits : {a b d f g : Draft} {s : Scope} {store delete : DraftItem} (name : Name) → IsItem s store (λ c. stores c name) → IsItem s delete (λ c. deletes c name)
    → PutsBehind a b (drafts.Plain (instrs.Plain ops.LoadConstNone)) → PutsBehind b d store → PutsBehind d f delete → PutsBehind f g (drafts.Plain (instrs.Plain ops.EndFinally))
    → EmitsGone a g s name
gone_emits {a = a} {b = b} {s = s} name is_store is_delete p1 p2 p3 p4 = record {
  by = as_emits (λ c labels p q. IsGone c p name q) (λ c labels p q k. gone_row k.1.1.1 k.1.1.2 k.1.2 k.2)
      (behind_after (then_emits (then_emits (behind_emits a b s _ p1) (behind_item (λ c. stores c name) p2 is_store)) (behind_item (λ c. deletes c name) p3 is_delete)) p4);
}

-- ---- the body of a clause

unnamed_row : {c : Context} {a : Around} {line p m q : ℕ} {b : Block} → IsPut c line p (plain ops.PopTop) m → StandsB c a m b q → StandsMatched c a line None p b q
unnamed_row (put h) sb = unnamed h sb

pub unnamed_emits : {a b d : Draft} {s : Scope} {around : Loop} {line child after : ℕ} {body : Part Block} → Puts a b line (drafts.Plain (instrs.Plain ops.PopTop)) → EmitsB b d s around child after body
    → EmitsMatched a d s around line child after None body
unnamed_emits {a = a} {b = b} {s = s} {around = around} {line = line} {child = child} {body = body} p eb = record {
  few = eb.few;
  is = eb.is;
  by = λ n. as_emits (λ c labels p q. AreChildren c child (made (body.make n)) → StandsMatched c (around_of labels around) line None p (body.make n) q)
      (λ c labels p q k kids. unnamed_row k.1 (k.2 kids)) (then_emits (put_emits a b s line _ p) (block_emits n p.level eb));
}

named_row : {c : Context} {a inner : Around} {line p p1 p2 p3 j j1 q last : ℕ} {x : Name} {b : Block} → IsPut c line p (stores c x) p1 → p1 ≡ p2 → inner ≡ deeper a
    → IsPut c line p2 (Jumps ops.SetupFinally last) p3 → StandsB c inner p3 b j → IsBehind c j (plain ops.LoadConstNone) j1 → last ≡ j1 → IsGone c j1 x q → StandsMatched c a line (Some x) p b q
named_row {c = c} {a = a} {line = line} {p2 = p2} {j = j} {x = x} {b = b} (put h1) is deep (put h2) sb (behind h3) f g =
    let h4 = subst (λ z. Has c line p2 (Jumps ops.SetupFinally z)) f h2 in
    let sb2 = subst (λ z. StandsB c z (suc p2) b j) deep sb in
    let P : ℕ → Type 0 = λ z. Has c line z (Jumps ops.SetupFinally (suc j)) × StandsB c (deeper a) (suc z) b j in
    let all = subst P (sym is) (h4, sb2) in
    named h1 all.0 all.1 h3 g

deep_around : (labels : Labels) (around inner : Loop) → inner ≡ deeper_loop around → around_of labels inner ≡ deeper (around_of labels around)
deep_around labels around inner e = ap (around_of labels) e

pub named_held : {a2 a3 a4 a5 a6 : Draft} {s : Scope} {inner : Loop} {line child after last : ℕ} {body : Part Block} (n : ℕ) → Adds a2 a3 last → Puts a3 a4 line (drafts.Jump ops.SetupFinally last)
    → EmitsB a4 a5 s inner child after body → PutsBehind a5 a6 (drafts.Plain (instrs.Plain ops.LoadConstNone))
    → Holds a2 a6 s (crowded_block a2.level inner.entries (body.make n)) last
    (λ c labels p q. (j : ℕ) × ((m : ℕ) × IsPut c line p (Jumps ops.SetupFinally (label_at labels last)) m
    × (AreChildren c child (made (body.make n)) → StandsB c (around_of labels inner) m (body.make n) j)) × IsBehind c j (plain ops.LoadConstNone) q)
named_held {a3 = a3} {a4 = a4} {s = s} {line = line} n l p eb pb = hold l (behind_after (then_emits (put_emits a3 a4 s line _ p) (block_emits n (p.level ∙ l.level) eb)) pb)

pub named_emits : {a a1 a2 a3 a4 a5 a6 a7 a8 : Draft} {s : Scope} {around inner : Loop} {line child after last : ℕ} {body : Part Block} (x : Name)
    → PutsAs a a1 s line (λ c. stores c x) → Deepens a1 a2 around inner → Adds a2 a3 last → Puts a3 a4 line (drafts.Jump ops.SetupFinally last)
    → EmitsB a4 a5 s inner child after body → PutsBehind a5 a6 (drafts.Plain (instrs.Plain ops.LoadConstNone)) → Binds a6 a7 last → EmitsGone a7 a8 s x
    → EmitsMatched a a8 s around line child after (Some x) body
named_emits {a = a} {a1 = a1} {a2 = a2} {s = s} {around = around} {inner = inner} {line = line} {child = child} {body = body} x ps deep l p eb pb bound eg =
    let level : a2.level ≡ a.level = deep.level ∙ ps.by.grown.level in
    record {
      few = eb.few;
      is = eb.is;
      by = λ n.
          let inside = size_emits (ap (λ z. crowded_block z inner.entries (body.make n)) level) (held (named_held n l p eb pb) bound) in
          let whole = then_emits ps.by (then_emits (deepens_emits a1 a2 s around inner deep) (then_emits inside eg.by)) in
          size_emits (ap (λ z. passes_entries (suc around.entries) || z) (or_false _) ∙ deeper_size (λ z. crowded_block a.level z (body.make n)) deep)
          (as_emits (λ c labels p q. AreChildren c child (made (body.make n)) → StandsMatched c (around_of labels around) line (Some x) p (body.make n) q)
          (λ c labels p q k kids.
          let at = k.2.2 in
          named_row k.1 k.2.1.0 (deep_around labels around inner k.2.1.1) at.1.0.1.1 (at.1.0.1.2 kids) at.1.0.2 at.1.1 at.2)
          whole);
    }

-- ---- clauses

clause_row : {c : Context} {a : Around} {line p m j j1 end other r : ℕ} (test : trees.Expr) (name : Option Name) (b : Block) (others : Handlers)
    → IsMatch c line p (plain_expr test) other m → StandsMatched c a line name m b j → IsBehind c j (Jumps ops.PopExceptJump end) j1 → other ≡ j1
    → StandsH c a end j1 others r → StandsH c a end p (handler_of line (Some test) name b others) r
clause_row {c = c} {line = line} test None b others (match {m = m} h1 se h2 h3) (unnamed h4 sb) (behind h5) f sh =
    stands.on h1 se h2 (subst (λ z. Has c line (suc m) (Jumps ops.PopJumpIfFalse z)) f h3) h4 sb h5 sh
clause_row {c = c} {line = line} test (Some x) b others (match {m = m} h1 se h2 h3) (named h4 h5 sb h6 (gone h7 h8 h9 h10)) (behind h11) f sh =
    stands.on_as h1 se h2 (subst (λ z. Has c line (suc m) (Jumps ops.PopJumpIfFalse z)) f h3) h4 h5 sb h6 h7 h8 h9 h10 h11 sh

pub clause_held : {a b d f g : Draft} {s : Scope} {around : Loop} {line end other child after : ℕ} {name : Option Name} {body : Part Block} (test : trees.Expr) (n : ℕ)
    → Adds a b other → EmitsMatch b d s line (plain_expr test) other → EmitsMatched d f s around line child after name body → PutsBehind f g (drafts.Jump ops.PopExceptJump end)
    → Holds a g s (crowded (plain_expr test) || crowded_matched a.level around.entries name (body.make n)) other
    (λ c labels p q. (j : ℕ) × ((m : ℕ) × IsMatch c line p (plain_expr test) (label_at labels other) m
    × (AreChildren c child (made (body.make n)) → StandsMatched c (around_of labels around) line name m (body.make n) j)) × IsBehind c j (Jumps ops.PopExceptJump (label_at labels end)) q)
clause_held {around = around} {name = name} {body = body} test n l em eb pb =
    hold l (behind_after (then_emits em.by (size_emits (ap (λ z. crowded_matched z around.entries name (body.make n)) (em.by.grown.level ∙ l.level)) (eb.by n))) pb)

pub clause_emits : {a b d f g h : Draft} {s : Scope} {around : Loop} {line end other child after : ℕ} {name : Option Name} {body : Part Block} (test : trees.Expr)
    → Adds a b other → EmitsMatch b d s line (plain_expr test) other → EmitsMatched d f s around line child after name body → PutsBehind f g (drafts.Jump ops.PopExceptJump end) → Binds g h other
    → EmitsClause a h s around end child after line test name body
clause_emits {around = around} {line = line} {end = end} {child = child} {name = name} {body = body} test l em eb pb bound = record {
  few = eb.few;
  is = eb.is;
  by = λ n. as_emits (λ c labels p q. AreChildren c child (made (body.make n)) → (others : Handlers) (r : ℕ) → StandsH c (around_of labels around) (label_at labels end) q others r
      → StandsH c (around_of labels around) (label_at labels end) p (handler_of line (Some test) name (body.make n) others) r)
      (λ c labels p q k kids others r sh. clause_row test name (body.make n) others k.0.1.1 (k.0.1.2 kids) k.0.2 k.1 sh)
      (held (clause_held test n l em eb pb) bound);
}

-- ---- a try with clauses

except_row : {c : Context} {a inner : Around} {line p p1 m j j1 k k1 q clauses other end : ℕ} {b rest : Block} {hs : Handlers} → p ≡ p1 → inner ≡ deeper a
    → IsPut c line p1 (Jumps ops.SetupExcept clauses) m → StandsB c inner m b j → IsBehind c j (Jumps ops.PopExceptJump other) j1 → clauses ≡ j1
    → StandsH c inner end j1 hs k → IsBehind c k (plain ops.EndFinally) k1 → other ≡ k1 → StandsB c a k1 rest q → end ≡ q → StandsX c a line p b hs rest q
except_row {c = c} {a = a} {line = line} {p1 = p1} {j = j} {k = k} {q = q} {end = end} {b = b} {rest = rest} {hs = hs} is deep (put h1) sb (behind h2) f sh (behind h3) g sr ends =
    let h4 = subst (λ z. Has c line p1 (Jumps ops.SetupExcept z)) f h1 in
    let h5 = subst (λ z. Behind c j (Jumps ops.PopExceptJump z)) g h2 in
    let sb2 = subst (λ z. StandsB c z (suc p1) b j) deep sb in
    let sh2 = subst (λ z. StandsH c z end (suc j) hs k) deep sh in
    let sh3 = subst (λ z. StandsH c (deeper a) z (suc j) hs k) ends sh2 in
    subst (λ z. StandsX c a line z b hs rest q) (sym is) (stands.«except» h4 sb2 h5 sh3 h3 sr)

-- the body, up to the jump behind it
abbrev pub Guards : (c : Context) (a : Around) (line clauses other child : ℕ) → Block → (p q : ℕ) → Type 0
Guards c a line clauses other child b p q =
    (j : ℕ) × ((m : ℕ) × IsPut c line p (Jumps ops.SetupExcept clauses) m × (AreChildren c child (made b) → StandsB c a m b j)) × IsBehind c j (Jumps ops.PopExceptJump other) q

pub guard_held : {a b d f g : Draft} {s : Scope} {inner : Loop} {line clauses other child at level : ℕ} {body : Part Block} (n : ℕ) → a.level ≡ level
    → Adds a b clauses → Puts b d line (drafts.Jump ops.SetupExcept clauses) → EmitsB d f s inner child at body → PutsBehind f g (drafts.Jump ops.PopExceptJump other)
    → Holds a g s (crowded_block level inner.entries (body.make n)) clauses (λ c labels p q. Guards c (around_of labels inner) line (label_at labels clauses) (label_at labels other) child (body.make n) p q)
guard_held {b = b} {d = d} {s = s} {line = line} n level l p eb pb = hold l (behind_after (then_emits (put_emits b d s line _ p) (block_emits n (p.level ∙ l.level ∙ level) eb)) pb)

guards_row : {c : Context} {a inner : Around} {line p p1 m8 m9 q clauses other end child at : ℕ} (b : Block) (hs : Handlers) → at ≡ child + length (made b) → p ≡ p1 → inner ≡ deeper a
    → Guards c inner line clauses other child b p1 m8 → clauses ≡ m8 → (AreChildren c at (made_by hs) → StandsH c inner end m8 hs m9) → IsBehind c m9 (plain ops.EndFinally) q
    → AreChildren c child (made b ++ made_by hs) → (r : ℕ) (rest : Block) → other ≡ q → StandsB c a q rest r → end ≡ r → StandsX c a line p b hs rest r
guards_row b hs at_is is deep guards f sh eb kids r rest g sr ends =
    except_row is deep guards.1.1 (guards.1.2 (front (made b) (made_by hs) kids)) guards.2 f (sh (back (made b) (made_by hs) at_is kids)) eb g sr ends

-- the clauses too
pub record Guarded (a b : Draft) (s : Scope) (around : Loop) (line other end child mid at : ℕ) (body : Part Block) (hs : Part Handlers) : Type 0 where
  pub few_body : mid ≤ child + body.defs
  pub few : at ≤ mid + hs.defs
  pub is_body : (n : ℕ) → mid ≡ child + length (made (body.make n))
  pub is : (n : ℕ) → at ≡ mid + length (made_by (hs.make n))
  pub from : Draft
  pub ends : Adds a from end
  pub level : b.level ≡ a.level
  pub by :
      (n m : ℕ) → Holds from b s ((passes_entries (suc around.entries) || crowded_block a.level (suc around.entries) (body.make n)) || crowded_handlers a.level (suc around.entries) (hs.make m)) other
      (λ c labels p q. AreChildren c child (made (body.make n) ++ made_by (hs.make m)) → (r : ℕ) (rest : Block) → label_at labels other ≡ q → StandsB c (around_of labels around) q rest r
      → label_at labels end ≡ r → StandsX c (around_of labels around) line p (body.make n) (hs.make m) rest r)

pub guarded : {a c1 c2 c3 c4 c5 c6 c7 c8 c9 c10 : Draft} {s : Scope} {around inner : Loop} {line clauses other end child mid at : ℕ} {body : Part Block} {hs : Part Handlers}
    → Adds a c1 end → Adds c1 c2 other → Deepens c2 c3 around inner → Adds c3 c4 clauses → Puts c4 c5 line (drafts.Jump ops.SetupExcept clauses) → EmitsB c5 c6 s inner child mid body
    → PutsBehind c6 c7 (drafts.Jump ops.PopExceptJump other) → Binds c7 c8 clauses → EmitsH c8 c9 s inner end mid at hs → PutsBehind c9 c10 (drafts.Plain (instrs.Plain ops.EndFinally))
    → Guarded a c10 s around line other end child mid at body hs
guarded {a = a} {c1 = c1} {c2 = c2} {c3 = c3} {c8 = c8} {s = s} {around = around} {inner = inner} {line = line} {clauses = clauses} {other = other} {end = end} {child = child} {body = body} {hs = hs} l1 l2 deep l3 p eb pb bound eh pe =
    let level3 : c3.level ≡ a.level = deep.level ∙ l2.level ∙ l1.level in
    let level8 : c8.level ≡ a.level = bound.level ∙ pb.level ∙ (eb.by 0).grown.level ∙ p.level ∙ l3.level ∙ level3 in
    record {
      few_body = eb.few;
      few = eh.few;
      is_body = eb.is;
      is = eh.is;
      from = c1;
      ends = l1;
      level = pe.level ∙ (eh.by 0).grown.level ∙ level8;
      by = λ n m.
          let clauses_by = size_emits (ap (λ z. crowded_handlers z inner.entries (hs.make m)) level8) (eh.by m) in
          let whole = then_emits (deepens_emits c2 c3 s around inner deep) (behind_after (then_emits (held (guard_held n level3 l3 p eb pb) bound) clauses_by) pe) in
          let inside : ℕ → Bool = λ z. crowded_block a.level z (body.make n) || crowded_handlers a.level z (hs.make m) in
          hold l2
          (size_emits (deeper_size inside deep ∙ sym (or_assoc (passes_entries (suc around.entries)) (crowded_block a.level (suc around.entries) (body.make n)) (crowded_handlers a.level (suc around.entries) (hs.make m))))
          (as_emits (λ c labels p q. AreChildren c child (made (body.make n) ++ made_by (hs.make m)) → (r : ℕ) (rest : Block) → label_at labels other ≡ q → StandsB c (around_of labels around) q rest r
          → label_at labels end ≡ r → StandsX c (around_of labels around) line p (body.make n) (hs.make m) rest r)
          (λ c labels p q k. guards_row (body.make n) (hs.make m) (eb.is n) k.1.0 (deep_around labels around inner k.1.1) k.2.1.1.0 k.2.1.1.1 k.2.1.2 k.2.2)
          whole));
    }

pub try_held : {a b d f : Draft} {s : Scope} {around : Loop} {line other end child mid at after : ℕ} {body rest : Part Block} {hs : Part Handlers} (n m o : ℕ)
    → Guarded a b s around line other end child mid at body hs → Binds b d other → EmitsB d f s around at after rest
    → Holds a f s (((passes_entries (suc around.entries) || crowded_block a.level (suc around.entries) (body.make n)) || crowded_handlers a.level (suc around.entries) (hs.make m)) || crowded_block a.level around.entries (rest.make o)) end
    (λ c labels p q. AreChildren c child (made (body.make n) ++ made_by (hs.make m) ++ made (rest.make o)) → label_at labels end ≡ q
    → StandsX c (around_of labels around) line p (body.make n) (hs.make m) (rest.make o) q)
try_held {around = around} {line = line} {end = end} {child = child} {at = at} {body = body} {rest = rest} {hs = hs} n m o g bound er =
    let xs = made (body.make n) in
    let ys = made_by (hs.make m) in
    let zs = made (rest.make o) in
    let at_is : at ≡ child + length (xs ++ ys) = omega (arith, g.is_body n, g.is m, length-append xs ys) in
    hold g.ends
    (as_emits (λ c labels p q. AreChildren c child (xs ++ ys ++ zs) → label_at labels end ≡ q → StandsX c (around_of labels around) line p (body.make n) (hs.make m) (rest.make o) q)
    (λ c labels p q k kids ends. k.1.0 (front (xs ++ ys) zs kids) q (rest.make o) k.1.1 (k.2 (back (xs ++ ys) zs at_is kids)) ends)
    (then_emits (held (g.by n m) bound) (block_emits o (bound.level ∙ g.level) er)))

pub try_emits : {a b d f g : Draft} {s : Scope} {around : Loop} {line other end child mid at after : ℕ} {body rest : Part Block} {hs : Part Handlers}
    → Guarded a b s around line other end child mid at body hs → Binds b d other → EmitsB d f s around at after rest → Binds f g end
    → EmitsP a g s around line child after (also (also (also (part Try) body) hs) rest)
try_emits {around = around} {line = line} {child = child} {body = body} {rest = rest} {hs = hs} t b1 er b2 = record {
  few = omega (arith, t.few_body, t.few, er.few);
  is = λ n.
      let xs = made (body.make (n + 0)) in
      let ys = made_by (hs.make (n + (0 + body.defs))) in
      let zs = made (rest.make (n + ((0 + body.defs) + hs.defs))) in
      omega (arith, t.is_body (n + 0), t.is (n + (0 + body.defs)), er.is (n + ((0 + body.defs) + hs.defs)), length-append xs ys, length-append (xs ++ ys) zs);
  by = λ n. as_emits (λ c labels p q. AreChildren c child (made (body.make (n + 0)) ++ made_by (hs.make (n + (0 + body.defs))) ++ made (rest.make (n + ((0 + body.defs) + hs.defs))))
      → StandsS c (around_of labels around) line p (Try (body.make (n + 0)) (hs.make (n + (0 + body.defs))) (rest.make (n + ((0 + body.defs) + hs.defs)))) q)
      (λ c labels p q k kids. stands.«try» (k.0 kids k.1)) (held (try_held (n + 0) (n + (0 + body.defs)) (n + ((0 + body.defs) + hs.defs)) t b1 er) b2);
}

-- ---- the end of a try

last_row : {c : Context} {a : Around} {p m k q behind_at : ℕ} {b : Block} → IsBehind c p (plain ops.LoadConstNone) m → behind_at ≡ m → StandsB c a m b k → IsBehind c k (plain ops.EndFinally) q
    → StandsLast c a p b q × (behind_at ≡ suc p)
last_row (behind h1) is sb (behind h2) = (stands_last h1 sb h2, is)

pub last_free : {a b : Draft} {item : DraftItem} (l : ℕ) → PutsBehind a b item → slice_get a.labels.items l ≡ Some None → slice_get b.labels.items l ≡ Some None
last_free l p free = ap (λ (z : Labels). slice_get z l) p.labels ∙ free

pub last_emits : {a b d f g : Draft} {s : Scope} {around : Loop} {label child after : ℕ} {body : Part Block} → slice_get a.labels.items label ≡ Some None
    → PutsBehind a b (drafts.Plain (instrs.Plain ops.LoadConstNone)) → Binds b d label → EmitsB d f s around child after body → PutsBehind f g (drafts.Plain (instrs.Plain ops.EndFinally))
    → EmitsLast a g s around label child after body
last_emits {a = a} {b = b} {s = s} {around = around} {label = label} {child = child} {body = body} free p1 bound eb p2 = record {
  few = eb.few;
  is = eb.is;
  by = λ k n h. as_emits (λ c labels p q. AreChildren c child (made (body.make n)) → StandsLast c (around_of labels around) p (body.make n) q × (label_at labels label ≡ suc p))
      (λ c labels p q x kids. last_row x.1.1.0 x.1.1.1 (x.1.2 kids) x.2)
      (behind_after (then_emits (bind_after (less_emits k (omega (arith, slice_get_within a.labels.items label None free)) (behind_emits a b s _ p1)) bound h (last_free label p1 free)) (block_emits n (bound.level ∙ p1.level) eb)) p2);
}

-- what stands between the two, behind the entry's making
pub finally_held : {a b d f : Draft} {s : Scope} {line label : ℕ} {w : Bool} {P : Context → Labels → ℕ → ℕ → Type 0} → Adds a b label → Puts b d line (drafts.Jump ops.SetupFinally label)
    → Emits (length d.labels.items) d f s false w P
    → Holds a f s w label (λ c labels p q. (m : ℕ) × IsPut c line p (Jumps ops.SetupFinally (label_at labels label)) m × P c labels m q)
finally_held {b = b} {d = d} {s = s} {line = line} l p g = hold l (then_emits (put_emits b d s line _ p) g)

ended : {a c1 c4 c5 : Draft} {s : Scope} {around inner : Loop} {label at after level m : ℕ} {P : Context → Labels → ℕ → ℕ → Type 0} {last : Part Block} (f : ℕ → Bool) → Deepens a c1 around inner → c4.level ≡ level
    → Holds c1 c4 s (f inner.entries) label P → EmitsLast c4 c5 s inner label at after last
    → Emits (length a.labels.items) a c5 s false (passes_entries (suc around.entries) || (f inner.entries || crowded_block level inner.entries (last.make m)))
    (λ c labels p q. (m1 : ℕ) × ((p ≡ m1) × (inner ≡ deeper_loop around)) × ((m4 : ℕ) × P c labels m1 m4
    × (AreChildren c at (made (last.make m)) → StandsLast c (around_of labels inner) m4 (last.make m) q × (label_at labels label ≡ suc m4))))
ended {a = a} {c1 = c1} {s = s} {around = around} {inner = inner} {m = m} {last = last} f deep level h el =
    then_emits (deepens_emits a c1 s around inner deep)
    (both_emits h.by (size_emits (ap (λ z. crowded_block z inner.entries (last.make m)) level) (el.by (length c1.labels.items) m (omega (arith, h.number)))))

finally_row : {c : Context} {a inner : Around} {line p m1 m3 m4 q label : ℕ} {b last : Block} → p ≡ m1 → inner ≡ deeper a → IsPut c line m1 (Jumps ops.SetupFinally label) m3 → StandsB c inner m3 b m4
    → StandsLast c inner m4 last q → label ≡ suc m4 → StandsS c a line p (Finally b last) q
finally_row {c = c} {a = a} {inner = inner} {line = line} {m1 = m1} {m4 = m4} {q = q} {b = b} {last = last} is deep (put h1) sb (stands_last {k = k} h2 sl h3) f =
    let h4 = subst (λ z. Has c line m1 (Jumps ops.SetupFinally z)) f h1 in
    let P : Around → Type 0 = λ z. StandsB c z (suc m1) b m4 × StandsB c z (suc m4) last k in
    let both = subst P deep (sb, sl) in
    subst (λ z. StandsS c a line z (Finally b last) q) (sym is) (stands.finally h4 both.0 h2 both.1 h3)

as_try : {c : Context} {a : Around} {line p q : ℕ} {b rest : Block} {hs : Handlers} → StandsS c a line p (Try b hs rest) q → StandsX c a line p b hs rest q
as_try (stands.«try» x) = x

try_finally_row : {c : Context} {a inner : Around} {line p m1 m3 m4 q label : ℕ} {b rest last : Block} {hs : Handlers} → p ≡ m1 → inner ≡ deeper a → IsPut c line m1 (Jumps ops.SetupFinally label) m3
    → StandsS c inner line m3 (Try b hs rest) m4 → StandsLast c inner m4 last q → label ≡ suc m4 → StandsS c a line p (TryFinally b hs rest last) q
try_finally_row {c = c} {a = a} {inner = inner} {line = line} {m1 = m1} {m4 = m4} {q = q} {b = b} {rest = rest} {last = last} {hs = hs} is deep (put h1) st (stands_last {k = k} h2 sl h3) f =
    let h4 = subst (λ z. Has c line m1 (Jumps ops.SetupFinally z)) f h1 in
    let P : Around → Type 0 = λ z. StandsX c z line (suc m1) b hs rest m4 × StandsB c z (suc m4) last k in
    let both = subst P deep (as_try st, sl) in
    subst (λ z. StandsS c a line z (TryFinally b hs rest last) q) (sym is) (stands.try_finally h4 both.0 h2 both.1 h3)

pub finally_emits : {a c1 c2 c3 c4 c5 : Draft} {s : Scope} {around inner : Loop} {line label child at after : ℕ} {body last : Part Block} → Deepens a c1 around inner → Adds c1 c2 label
    → Puts c2 c3 line (drafts.Jump ops.SetupFinally label) → EmitsB c3 c4 s inner child at body → EmitsLast c4 c5 s inner label at after last
    → EmitsP a c5 s around line child after (also (also (part Finally) body) last)
finally_emits {a = a} {c3 = c3} {c4 = c4} {around = around} {inner = inner} {line = line} {label = label} {child = child} {at = at} {body = body} {last = last} deep l p eb el =
    let level : c3.level ≡ a.level = p.level ∙ l.level ∙ deep.level in
    record {
      few = omega (arith, eb.few, el.few);
      is = λ n. omega (arith, eb.is (n + 0), el.is (n + (0 + body.defs)), length-append (made (body.make (n + 0))) (made (last.make (n + (0 + body.defs)))));
      by = λ n.
          let x = body.make (n + 0) in
          let y = last.make (n + (0 + body.defs)) in
          let inside : ℕ → Bool = λ z. crowded_block a.level z x || crowded_block a.level z y in
          size_emits (deeper_size inside deep ∙ sym (or_assoc (passes_entries (suc around.entries)) (crowded_block a.level (suc around.entries) x) (crowded_block a.level (suc around.entries) y)))
          (as_emits (λ c labels p q. AreChildren c child (made x ++ made y) → StandsS c (around_of labels around) line p (Finally x y) q)
          (λ c labels p q k kids.
          let z = k.2.2 (back (made x) (made y) (eb.is (n + 0)) kids) in
          finally_row k.1.0 (deep_around labels around inner k.1.1) k.2.1.1 (k.2.1.2 (front (made x) (made y) kids)) z.0 z.1)
          (ended (λ z. crowded_block a.level z x) deep ((eb.by 0).grown.level ∙ level) (finally_held l p (block_emits (n + 0) level eb)) el));
    }

pub try_finally_emits : {a c1 c2 c3 c4 c5 : Draft} {s : Scope} {around inner : Loop} {line label child at after : ℕ} {last : Part Block} (body rest : Part Block) (hs : Part Handlers) → Deepens a c1 around inner → Adds c1 c2 label
    → Puts c2 c3 line (drafts.Jump ops.SetupFinally label) → EmitsP c3 c4 s inner line child at (also (also (also (part Try) body) hs) rest) → EmitsLast c4 c5 s inner label at after last
    → EmitsP a c5 s around line child after (also (also (also (also (part TryFinally) body) hs) rest) last)
try_finally_emits {a = a} {c3 = c3} {c4 = c4} {around = around} {inner = inner} {line = line} {label = label} {child = child} {at = at} {last = last} body rest hs deep l p ep el =
    let level : c3.level ≡ a.level = p.level ∙ l.level ∙ deep.level in
    let defs : ℕ = ((0 + body.defs) + hs.defs) + rest.defs in
    record {
      few = omega (arith, ep.few, el.few);
      is = λ n.
          let xs = made (body.make (n + 0)) ++ made_by (hs.make (n + (0 + body.defs))) ++ made (rest.make (n + ((0 + body.defs) + hs.defs))) in
          omega (arith, ep.is n, el.is (n + defs), length-append xs (made (last.make (n + defs))));
      by = λ n.
          let t : Stmt = Try (body.make (n + 0)) (hs.make (n + (0 + body.defs))) (rest.make (n + ((0 + body.defs) + hs.defs))) in
          let y = last.make (n + defs) in
          let inside : ℕ → Bool = λ z. crowded_stmt a.level z t || crowded_block a.level z y in
          let body_by = size_emits (ap (λ z. crowded_stmt z inner.entries t) level) (ep.by n) in
          size_emits (deeper_size inside deep ∙ sym (or_assoc (passes_entries (suc around.entries)) (crowded_stmt a.level (suc around.entries) t) (crowded_block a.level (suc around.entries) y)))
          (as_emits (λ c labels p q. AreChildren c child (made_in t ++ made y)
          → StandsS c (around_of labels around) line p (TryFinally (body.make (n + 0)) (hs.make (n + (0 + body.defs))) (rest.make (n + ((0 + body.defs) + hs.defs))) y) q)
          (λ c labels p q k kids.
          let z = k.2.2 (back (made_in t) (made y) (ep.is n) kids) in
          try_finally_row k.1.0 (deep_around labels around inner k.1.1) k.2.1.1 (k.2.1.2 (front (made_in t) (made y) kids)) z.0 z.1)
          (ended (λ z. crowded_stmt a.level z t) deep ((ep.by 0).grown.level ∙ level) (finally_held l p body_by) el));
    }
