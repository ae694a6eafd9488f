-- The code of statements without a body, from that of their parts.
use Rattle.std.proofs.Common.{◌≡◌, ℕ, zero, suc, ◌+◌, ◌<◌, ◌≤◌, Bool, true, false, List, [], ◌∷◌, map, Some, None, refl, sym, ap, ◌∙◌, subst, arith, codes, nat_lt}
use Rattle.std.specs.Prelude.{slice_get, ◌||◌}
use Rattle.std.proofs.lemmas.Bool.{lt-ltb, le-ltb}
use Rattle.emit_expr.specs.bc_machine.bc_ops.declared.instr.Op.TheVariants as ops
use Rattle.emit_expr.specs.bc_machine.bc_ops.declared.instr.Instr.TheVariants as instrs
use Rattle.emit_expr.specs.bc_machine.Library.{Names, Jumps, Unwinds}
use Rattle.py_tree.specs.declared.expr.BinaryOp.{BinaryOp}
use Rattle.py_tree.specs.declared.stmt.Target as aims
use Rattle.emit_expr.specs.py_meaning.Tree.{Name, Expr, ToName, ToEach, Stmt, Do, AugName, AugAttr, AugIndex, Pass, Break, Continue, ReturnNone, Return, Reraise, Raise, Assert, AssertWith}
use Rattle.emit_expr.specs.py_meaning.Plain.{plain_target, from_targets, augmented}
use Rattle.emit_expr.specs.bc_scheme.Context.{Context, Has, plain, number, loads, stores, arithmetic, in_place}
use Rattle.emit_expr.specs.bc_scheme.Expressions.{StandsE}
use Rattle.emit_expr.specs.bc_scheme.Statements as stands
use Rattle.emit_expr.specs.bc_scheme.Statements.{Around, top_bit, StandsJ, StandsS}
use Rattle.emit_expr.specs.emit_draft.declared.draft.Draft.{Draft}
use Rattle.emit_expr.specs.emit_draft.declared.draft.DraftItem.TheVariants as drafts
use Rattle.emit_expr.specs.emit_draft.declared.scope.Scope.{Scope}
use Rattle.emit_expr.specs.emit_draft.Draft.{Puts, Adds, Binds}
use Rattle.emit_expr.specs.emit_draft.Emits.{label_at, IsPut, put}
use Rattle.emit_expr.proofs.emit_draft_lemmas.Steps.{grown_here, free_added, free_put, free_on}
use Rattle.emit_expr.proofs.emit_draft_lemmas.Emits.{put_emits, no_emits, then_emits, put_after, label_after, bind_after, as_emits, size_emits}
use Rattle.emit_expr.specs.Crowded.{crowded}
use Rattle.emit_expr.specs.Emits.{PutsAs, EmitsE}
use Rattle.emit_stmt.specs.declared.jumps.Loop.{Loop}
use Rattle.emit_stmt.specs.SimpleCrowded.{passes_entries, at_level}
use Rattle.emit_stmt.specs.SimpleEmits.{around_of, EmitsJ, EmitsS}
use Rattle.emit_stmt.proofs.SimpleRows.{crowded_emits, level_emits}

pub as_stmt : {a b : Draft} {s : Scope} {around : Loop} {line : ℕ} {x y : Stmt} → EmitsS a b s around line x → y ≡ x → EmitsS a b s around line y
as_stmt {a = a} {b = b} {s = s} {around = around} {line = line} h e = subst (EmitsS a b s around line) (sym e) h

-- ---- a statement with no code

pub pass_emits : (a : Draft) (s : Scope) (around : Loop) (line : ℕ) → EmitsS a a s around line Pass
pass_emits a s around line = record { by = no_emits a s false (λ c labels p q. StandsS c (around_of labels around) line p Pass q) (λ c labels p. stands.pass) }

-- ---- a value and an instruction

do_row : {c : Context} {a : Around} {line p m q : ℕ} {e : Expr} → StandsE c line p e m → IsPut c line m (plain ops.PopTop) q → StandsS c a line p (Do e) q
do_row se (put h) = stands.«do» se h

pub do_emits : {a b d : Draft} {s : Scope} {line : ℕ} {e : Expr} (around : Loop) → EmitsE a b s line e → Puts b d line (drafts.Plain (instrs.Plain ops.PopTop)) → EmitsS a d s around line (Do e)
do_emits {line = line} {e = e} around ee p = record { by = as_emits (λ c labels p q. StandsS c (around_of labels around) line p (Do e) q) (λ c labels p q k. do_row k.1 k.2) (put_after ee.by p) }

return_row : {c : Context} {a : Around} {line p m q : ℕ} {e : Expr} → StandsE c line p e m → IsPut c line m (plain ops.ReturnValue) q → StandsS c a line p (Return e) q
return_row se (put h) = stands.«return» se h

pub return_emits : {a b d : Draft} {s : Scope} {line : ℕ} {e : Expr} (around : Loop) → EmitsE a b s line e → Puts b d line (drafts.Plain (instrs.Plain ops.ReturnValue)) → EmitsS a d s around line (Return e)
return_emits {line = line} {e = e} around ee p = record { by = as_emits (λ c labels p q. StandsS c (around_of labels around) line p (Return e) q) (λ c labels p q k. return_row k.1 k.2) (put_after ee.by p) }

return_none_row : {c : Context} {a : Around} {line p m q : ℕ} → IsPut c line p (plain ops.LoadConstNone) m → IsPut c line m (plain ops.ReturnValue) q → StandsS c a line p ReturnNone q
return_none_row (put h) (put k) = stands.return_none h k

pub return_none_emits : {a b d : Draft} {line : ℕ} (s : Scope) (around : Loop) → Puts a b line (drafts.Plain (instrs.Plain ops.LoadConstNone)) → Puts b d line (drafts.Plain (instrs.Plain ops.ReturnValue)) → EmitsS a d s around line ReturnNone
return_none_emits {a = a} {b = b} {line = line} s around p p2 = record { by = as_emits (λ c labels p q. StandsS c (around_of labels around) line p ReturnNone q) (λ c labels p q k. return_none_row k.1 k.2) (put_after (put_emits a b s line _ p) p2) }

raise_row : {c : Context} {a : Around} {line p m q : ℕ} {e : Expr} → StandsE c line p e m → IsPut c line m (plain ops.RaiseObj) q → StandsS c a line p (Raise e) q
raise_row se (put h) = stands.raise se h

pub raise_emits : {a b d : Draft} {s : Scope} {line : ℕ} {e : Expr} (around : Loop) → EmitsE a b s line e → Puts b d line (drafts.Plain (instrs.Plain ops.RaiseObj)) → EmitsS a d s around line (Raise e)
raise_emits {line = line} {e = e} around ee p = record { by = as_emits (λ c labels p q. StandsS c (around_of labels around) line p (Raise e) q) (λ c labels p q k. raise_row k.1 k.2) (put_after ee.by p) }

reraise_row : {c : Context} {a : Around} {line p q : ℕ} → IsPut c line p (plain ops.RaiseLast) q → StandsS c a line p Reraise q
reraise_row (put h) = stands.reraise h

pub reraise_emits : {a b : Draft} {line : ℕ} (s : Scope) (around : Loop) → Puts a b line (drafts.Plain (instrs.Plain ops.RaiseLast)) → EmitsS a b s around line Reraise
reraise_emits {a = a} {b = b} {line = line} s around p = record { by = as_emits (λ c labels p q. StandsS c (around_of labels around) line p Reraise q) (λ c labels p q k. reraise_row k) (put_emits a b s line _ p) }

-- ---- augmented assignments

aug_name_row : {c : Context} {a : Around} {line p m n o q : ℕ} {x : Name} {op : BinaryOp} {e : Expr} → IsPut c line p (loads c x) m → StandsE c line m e n → IsPut c line n (in_place op) o → IsPut c line o (stores c x) q → StandsS c a line p (AugName x op e) q
aug_name_row (put h1) se (put h2) (put h3) = stands.aug_name h1 se h2 h3

pub aug_name_emits : {a b d f g : Draft} {s : Scope} {line : ℕ} {x : Name} {op : BinaryOp} {e : Expr} (around : Loop) → PutsAs a b s line (λ c. loads c x) → EmitsE b d s line e → Puts d f line (drafts.Plain (instrs.Binary (arithmetic op)))
    → PutsAs f g s line (λ c. stores c x) → EmitsS a g s around line (AugName x op e)
aug_name_emits {line = line} {x = x} {op = op} {e = e} around p1 ee p2 p3 = record {
  by = size_emits (Rattle.emit_expr.proofs.emit_draft_lemmas.Lists.or_false (crowded e)) (as_emits (λ c labels p q. StandsS c (around_of labels around) line p (AugName x op e) q) (λ c labels p q k. aug_name_row k.1.1.1 k.1.1.2 k.1.2 k.2)
      (then_emits (put_after (then_emits p1.by ee.by) p2) p3.by));
}

aug_attr_row : {c : Context} {a : Around} {line p m m1 m2 n n1 n2 q : ℕ} {x : Name} {op : BinaryOp} {o e : Expr} → StandsE c line p o m → IsPut c line m (plain ops.DupTop) m1 → IsPut c line m1 (Names ops.LoadAttr x) m2 → StandsE c line m2 e n
    → IsPut c line n (in_place op) n1 → IsPut c line n1 (plain ops.RotTwo) n2 → IsPut c line n2 (Names ops.StoreAttr x) q → StandsS c a line p (AugAttr o x op e) q
aug_attr_row so (put h1) (put h2) se (put h3) (put h4) (put h5) = stands.aug_attr so h1 h2 se h3 h4 h5

pub aug_attr_emits : {a b d1 d2 d3 d4 d5 d6 : Draft} {s : Scope} {line : ℕ} {x : Name} {op : BinaryOp} {o e : Expr} (around : Loop) → EmitsE a b s line o → Puts b d1 line (drafts.Plain (instrs.Plain ops.DupTop)) → Puts d1 d2 line (drafts.Named ops.LoadAttr x)
    → EmitsE d2 d3 s line e → Puts d3 d4 line (drafts.Plain (instrs.Binary (arithmetic op))) → Puts d4 d5 line (drafts.Plain (instrs.Plain ops.RotTwo)) → Puts d5 d6 line (drafts.Named ops.StoreAttr x) → EmitsS a d6 s around line (AugAttr o x op e)
aug_attr_emits {line = line} {x = x} {op = op} {o = o} {e = e} around eo p1 p2 ee p3 p4 p5 = record {
  by = as_emits (λ c labels p q. StandsS c (around_of labels around) line p (AugAttr o x op e) q) (λ c labels p q k. aug_attr_row k.1.1.1.1.1.1 k.1.1.1.1.1.2 k.1.1.1.1.2 k.1.1.1.2 k.1.1.2 k.1.2 k.2)
      (put_after (put_after (put_after (then_emits (put_after (put_after eo.by p1) p2) ee.by) p3) p4) p5);
}

aug_index_row : {c : Context} {a : Around} {line p k m m1 m2 n n1 n2 q : ℕ} {op : BinaryOp} {o i e : Expr} → StandsE c line p o k → StandsE c line k i m → IsPut c line m (plain ops.DupTopTwo) m1 → IsPut c line m1 (plain ops.LoadSubscr) m2 → StandsE c line m2 e n
    → IsPut c line n (in_place op) n1 → IsPut c line n1 (plain ops.RotThree) n2 → IsPut c line n2 (plain ops.StoreSubscr) q → StandsS c a line p (AugIndex o i op e) q
aug_index_row so si (put h1) (put h2) se (put h3) (put h4) (put h5) = stands.aug_index so si h1 h2 se h3 h4 h5

pub aug_index_emits : {a b d d1 d2 d3 d4 d5 d6 : Draft} {s : Scope} {line : ℕ} {op : BinaryOp} {o i e : Expr} (around : Loop) → EmitsE a b s line o → EmitsE b d s line i → Puts d d1 line (drafts.Plain (instrs.Plain ops.DupTopTwo)) → Puts d1 d2 line (drafts.Plain (instrs.Plain ops.LoadSubscr))
    → EmitsE d2 d3 s line e → Puts d3 d4 line (drafts.Plain (instrs.Binary (arithmetic op))) → Puts d4 d5 line (drafts.Plain (instrs.Plain ops.RotThree)) → Puts d5 d6 line (drafts.Plain (instrs.Plain ops.StoreSubscr)) → EmitsS a d6 s around line (AugIndex o i op e)
aug_index_emits {line = line} {op = op} {o = o} {i = i} {e = e} around eo ei p1 p2 ee p3 p4 p5 = record {
  by = as_emits (λ c labels p q. StandsS c (around_of labels around) line p (AugIndex o i op e) q) (λ c labels p q k. aug_index_row k.1.1.1.1.1.1.1 k.1.1.1.1.1.1.2 k.1.1.1.1.1.2 k.1.1.1.1.2 k.1.1.1.2 k.1.1.2 k.1.2 k.2)
      (put_after (put_after (put_after (then_emits (put_after (put_after (then_emits eo.by ei.by) p1) p2) ee.by) p3) p4) p5);
}

-- one to several targets
pub aug_nothing : (ts : List aims.Target) (op : BinaryOp) (e : Expr) → (ts ≡ [] → ⊥) → augmented (from_targets (ToName []) ToEach (map plain_target ts)) op e ≡ Pass
aug_nothing [] op e some = absurd (some refl)
aug_nothing (t ∷ ts) op e some = refl

-- ---- jumps out of loops

jump_row : {c : Context} {line target p q : ℕ} → IsPut c line p (Jumps ops.Jump target) q → StandsJ c line target 0 false p q
jump_row (put h) = stands.jumped h

pub jump_emits : {a b : Draft} {line label : ℕ} (s : Scope) → Puts a b line (drafts.Jump ops.Jump label) → EmitsJ a b s line label 0 false
jump_emits {a = a} {b = b} {line = line} {label = label} s p = record { by = as_emits (λ c labels p q. StandsJ c line (label_at labels label) 0 false p q) (λ c labels p q k. jump_row k) (put_emits a b s line _ p) }

popped_row : {c : Context} {line target p p1 p2 p3 p4 q : ℕ} → IsPut c line p (plain ops.PopTop) p1 → IsPut c line p1 (plain ops.PopTop) p2 → IsPut c line p2 (plain ops.PopTop) p3 → IsPut c line p3 (plain ops.PopTop) p4
    → IsPut c line p4 (Jumps ops.Jump target) q → StandsJ c line target 0 true p q
popped_row (put h1) (put h2) (put h3) (put h4) (put h5) = stands.popped h1 h2 h3 h4 h5

pub popped_emits : {a d1 d2 d3 d4 d5 : Draft} {line label : ℕ} (s : Scope) → Puts a d1 line (drafts.Plain (instrs.Plain ops.PopTop)) → Puts d1 d2 line (drafts.Plain (instrs.Plain ops.PopTop)) → Puts d2 d3 line (drafts.Plain (instrs.Plain ops.PopTop))
    → Puts d3 d4 line (drafts.Plain (instrs.Plain ops.PopTop)) → Puts d4 d5 line (drafts.Jump ops.Jump label) → EmitsJ a d5 s line label 0 true
popped_emits {a = a} {d1 = d1} {line = line} {label = label} s p1 p2 p3 p4 p5 = record {
  by = as_emits (λ c labels p q. StandsJ c line (label_at labels label) 0 true p q) (λ c labels p q k. popped_row k.1.1.1.1 k.1.1.1.2 k.1.1.2 k.1.2 k.2) (put_after (put_after (put_after (put_after (put_emits a d1 s line _ p1) p2) p3) p4) p5);
}

pub as_iterator : {a b : Draft} {s : Scope} {line label entries : ℕ} {it other : Bool} → EmitsJ a b s line label entries it → other ≡ it → EmitsJ a b s line label entries other
as_iterator {a = a} {b = b} {s = s} {line = line} {label = label} {entries = entries} h e = subst (EmitsJ a b s line label entries) (sym e) h

pub as_entries : {a b : Draft} {s : Scope} {line label entries other : ℕ} {it : Bool} → EmitsJ a b s line label entries it → other ≡ entries → EmitsJ a b s line label other it
as_entries {a = a} {b = b} {s = s} {line = line} {label = label} {it = it} h e = subst (λ z. EmitsJ a b s line label z it) (sym e) h

unwind_row : {c : Context} {line target n p q : ℕ} {it : Bool} → nat_lt (suc n) 128 ≡ true → IsPut c line p (Unwinds target (suc n + top_bit it)) q → StandsJ c line target (suc n) it p q
unwind_row few (put h) = stands.unwound few h

few_entries : (n : ℕ) → n < 127 → passes_entries (suc n) ≡ false
few_entries n h = let le : suc n ≤ 127 = omega (arith, h) in le-ltb 127 (suc n) le

pub unwind_emits : {a b : Draft} {line label byte : ℕ} (s : Scope) (entries : ℕ) (it : Bool) → (entries ≡ 0 → ⊥) → entries ≤ 127 → byte ≡ entries + top_bit it → Puts a b line (drafts.Unwind label byte) → EmitsJ a b s line label entries it
unwind_emits s zero it some few is p = absurd (some refl)
unwind_emits {a = a} {b = b} {line = line} {label = label} s (suc n) it some few is p =
    let h = subst (λ z. Puts a b line (drafts.Unwind label z)) is p in
    record {
      by = size_emits (sym (few_entries n (omega (arith, few)))) (as_emits (λ c labels p q. StandsJ c line (label_at labels label) (suc n) it p q) (λ c labels p q k. unwind_row (lt-ltb (suc n) 128 (omega (arith, few))) k) (put_emits a b s line _ h));
    }

-- more entries than a jump can name
pub many_emits : (a b : Draft) (s : Scope) (line label entries : ℕ) (it : Bool) → 127 < entries → b.lines ≡ a.lines → b.labels.items ≡ a.labels.items → b.level ≡ a.level → b.crowded ≡ true → EmitsJ a b s line label entries it
many_emits a b s line label entries it many lines labels level crowds = record {
  by = size_emits (sym (lt-ltb 127 entries many)) (crowded_emits a b s (λ c labels p q. StandsJ c line (label_at labels label) entries it p q) lines labels level crowds);
}

pub break_emits : {a b : Draft} {s : Scope} {line : ℕ} (around : Loop) → EmitsJ a b s line around.end around.entries around.iterator → EmitsS a b s around line Break
break_emits {line = line} around ej = record { by = as_emits (λ c labels p q. StandsS c (around_of labels around) line p Break q) (λ c labels p q k. stands.«break» k) ej.by }

pub continue_emits : {a b : Draft} {s : Scope} {line : ℕ} (around : Loop) → EmitsJ a b s line around.next around.entries false → EmitsS a b s around line Continue
continue_emits {line = line} around ej = record { by = as_emits (λ c labels p q. StandsS c (around_of labels around) line p Continue q) (λ c labels p q k. stands.«continue» k) ej.by }

-- ---- assertions

pub positive : (n : ℕ) → 0 < n → (m : ℕ) × (n ≡ suc m)
positive zero h = absurd (omega arith)
positive (suc m) h = (m, refl)

pub no_assert_emits : (a : Draft) (s : Scope) (around : Loop) (line : ℕ) (e : Expr) → 0 < a.level → EmitsS a a s around line (Assert e)
no_assert_emits a s around line e high =
    let above = positive a.level high in
    record {
      by = size_emits (sym (ap (λ l. at_level l (crowded e)) above.1)) (record { grown = grown_here a; crowded = refl; stands = λ c labels f. stands.no_assert (f.level ∙ above.1) });
    }

pub no_assert_with_emits : (a : Draft) (s : Scope) (around : Loop) (line : ℕ) (e x : Expr) → 0 < a.level → EmitsS a a s around line (AssertWith e x)
no_assert_with_emits a s around line e x high =
    let above = positive a.level high in
    record {
      by = size_emits (sym (ap (λ l. at_level l (crowded e || crowded x)) above.1)) (record { grown = grown_here a; crowded = refl; stands = λ c labels f. stands.no_assert_with (f.level ∙ above.1) });
    }

assert_row : {c : Context} {a : Around} {line p m m1 m2 o q : ℕ} {e : Expr} → c.level ≡ 0 → StandsE c line p e m → IsPut c line m (Jumps ops.PopJumpIfTrue o) m1 → IsPut c line m1 (Names ops.LoadGlobal (codes "AssertionError")) m2
    → IsPut c line m2 (plain ops.RaiseObj) q → o ≡ q → StandsS c a line p (Assert e) q
assert_row {c = c} {line = line} {m = m} level se (put h1) (put h2) (put h3) is = stands.assert level se (subst (λ z. Has c line m (Jumps ops.PopJumpIfTrue z)) is h1) h2 h3

pub assert_free : {b c1 c2 c3 c4 : Draft} {line end : ℕ} {name : Name} → Adds b c1 end → Puts c1 c2 line (drafts.Jump ops.PopJumpIfTrue end) → Puts c2 c3 line (drafts.Named ops.LoadGlobal name) → Puts c3 c4 line (drafts.Plain (instrs.Plain ops.RaiseObj))
    → slice_get c4.labels.items end ≡ Some None
assert_free {b = b} {c1 = c1} {c2 = c2} {c3 = c3} {c4 = c4} {line = line} {end = end} l p1 p2 p3 = free_put c3 c4 line _ end p3 (free_put c2 c3 line _ end p2 (free_put c1 c2 line _ end p1 (free_added b c1 end l)))

pub assert_emits : {a b c1 c2 c3 c4 c5 : Draft} {s : Scope} {line end : ℕ} {e : Expr} (around : Loop) → a.level ≡ 0 → EmitsE a b s line e → Adds b c1 end → Puts c1 c2 line (drafts.Jump ops.PopJumpIfTrue end)
    → Puts c2 c3 line (drafts.Named ops.LoadGlobal (codes "AssertionError")) → Puts c3 c4 line (drafts.Plain (instrs.Plain ops.RaiseObj)) → Binds c4 c5 end → EmitsS a c5 s around line (Assert e)
assert_emits {line = line} {end = end} {e = e} around low ee l p1 p2 p3 b1 =
    let g1 = put_after (put_after (put_after (label_after ee.by l) p1) p2) p3 in
    let g2 = level_emits (bind_after g1 b1 (omega (arith, l.number, ee.by.grown.count)) (assert_free l p1 p2 p3)) in
    record {
      by = size_emits (sym (ap (λ n. at_level n (crowded e)) low)) (as_emits (λ c labels p q. StandsS c (around_of labels around) line p (Assert e) q)
          (λ c labels p q k. assert_row (k.1 ∙ low) k.0.0.1.1.1 k.0.0.1.1.2 k.0.0.1.2 k.0.0.2 k.0.1) g2);
    }

assert_with_row : {c : Context} {a : Around} {line p m m1 m2 n n1 o q : ℕ} {e x : Expr} → c.level ≡ 0 → StandsE c line p e m → IsPut c line m (Jumps ops.PopJumpIfTrue o) m1 → IsPut c line m1 (Names ops.LoadGlobal (codes "AssertionError")) m2
    → StandsE c line m2 x n → IsPut c line n (number ops.CallFunction 1) n1 → IsPut c line n1 (plain ops.RaiseObj) q → o ≡ q → StandsS c a line p (AssertWith e x) q
assert_with_row {c = c} {line = line} {m = m} level se (put h1) (put h2) sx (put h3) (put h4) is = stands.assert_with level se (subst (λ z. Has c line m (Jumps ops.PopJumpIfTrue z)) is h1) h2 sx h3 h4

pub assert_with_free : {b c1 c2 c3 c4 c5 c6 : Draft} {s : Scope} {line end : ℕ} {name : Name} {x : Expr} → Adds b c1 end → Puts c1 c2 line (drafts.Jump ops.PopJumpIfTrue end) → Puts c2 c3 line (drafts.Named ops.LoadGlobal name) → EmitsE c3 c4 s line x
    → Puts c4 c5 line (drafts.Plain (instrs.Num ops.CallFunction 1)) → Puts c5 c6 line (drafts.Plain (instrs.Plain ops.RaiseObj)) → slice_get c6.labels.items end ≡ Some None
assert_with_free {b = b} {c1 = c1} {c2 = c2} {c3 = c3} {c4 = c4} {c5 = c5} {c6 = c6} {line = line} {end = end} l p1 p2 ex p3 p4 =
    free_put c5 c6 line _ end p4 (free_put c4 c5 line _ end p3 (free_on c3 c4 end ex.by.grown (free_put c2 c3 line _ end p2 (free_put c1 c2 line _ end p1 (free_added b c1 end l)))))

pub assert_with_emits : {a b c1 c2 c3 c4 c5 c6 c7 : Draft} {s : Scope} {line end : ℕ} {e x : Expr} (around : Loop) → a.level ≡ 0 → EmitsE a b s line e → Adds b c1 end → Puts c1 c2 line (drafts.Jump ops.PopJumpIfTrue end)
    → Puts c2 c3 line (drafts.Named ops.LoadGlobal (codes "AssertionError")) → EmitsE c3 c4 s line x → Puts c4 c5 line (drafts.Plain (instrs.Num ops.CallFunction 1)) → Puts c5 c6 line (drafts.Plain (instrs.Plain ops.RaiseObj)) → Binds c6 c7 end
    → EmitsS a c7 s around line (AssertWith e x)
assert_with_emits {line = line} {end = end} {e = e} {x = x} around low ee l p1 p2 ex p3 p4 b1 =
    let g1 = put_after (put_after (then_emits (put_after (put_after (label_after ee.by l) p1) p2) ex.by) p3) p4 in
    let g2 = level_emits (bind_after g1 b1 (omega (arith, l.number, ee.by.grown.count)) (assert_with_free l p1 p2 ex p3 p4)) in
    record {
      by = size_emits (sym (ap (λ n. at_level n (crowded e || crowded x)) low)) (as_emits (λ c labels p q. StandsS c (around_of labels around) line p (AssertWith e x) q)
          (λ c labels p q k. assert_with_row (k.1 ∙ low) k.0.0.1.1.1.1.1 k.0.0.1.1.1.1.2 k.0.0.1.1.1.2 k.0.0.1.1.2 k.0.0.1.2 k.0.0.2 k.0.1) g2);
    }
