-- The code of stores and of deletions, from that of their parts.
use Rattle.std.proofs.Common.{◌≡◌, ℕ, suc, Bool, true, false, List, [], ◌∷◌, ◌++◌, length, map, refl, sym, ap, ◌∙◌, subst, arith}
use Rattle.std.specs.Prelude.{◌||◌}
use Rattle.emit_expr.specs.bc_machine.bc_ops.declared.instr.Op.TheVariants as ops
use Rattle.emit_expr.specs.bc_machine.bc_ops.declared.instr.Instr.TheVariants as instrs
use Rattle.emit_expr.specs.bc_machine.Library.{Names}
use Rattle.py_tree.specs.declared.stmt.Target as aims
use Rattle.emit_expr.specs.py_meaning.Tree.{Name, Expr, Target, ToName, ToAttr, ToIndex, ToEach, Targets, target_count, Stmt, Assign, Delete, Pass}
use Rattle.emit_expr.specs.py_meaning.Plain.{plain_target, targets, from_targets}
use Rattle.emit_expr.specs.bc_scheme.Context.{Context, Has, plain, number, stores, deletes}
use Rattle.emit_expr.specs.bc_scheme.Expressions.{StandsE}
use Rattle.emit_expr.specs.bc_scheme.Statements as stands
use Rattle.emit_expr.specs.bc_scheme.Statements.{Around, StandsT, StandsTs, StandsA, StandsG, StandsGs, StandsS}
use Rattle.emit_expr.specs.emit_draft.declared.draft.Draft.{Draft}
use Rattle.emit_expr.specs.emit_draft.declared.draft.DraftItem.TheVariants as drafts
use Rattle.emit_expr.specs.emit_draft.declared.scope.Scope.{Scope}
use Rattle.emit_expr.specs.emit_draft.Draft.{Puts, PutsCount, passes_items}
use Rattle.emit_expr.specs.emit_draft.Emits.{Emits, IsPut, put}
use Rattle.emit_expr.proofs.emit_draft_lemmas.Lists.{or_false, or_assoc}
use Rattle.emit_expr.proofs.emit_draft_lemmas.Emits.{put_emits, count_emits, no_emits, then_emits, put_after, as_emits, size_emits}
use Rattle.emit_expr.specs.Crowded.{crowded}
use Rattle.emit_expr.specs.Emits.{PutsAs, EmitsE}
use Rattle.emit_stmt.specs.declared.jumps.Loop.{Loop}
use Rattle.emit_stmt.specs.SimpleCrowded.{crowded_target, crowded_targets, crowded_gone, crowded_gones, crowded_simple}
use Rattle.emit_stmt.specs.SimpleEmits.{around_of, EmitsT, EmitsG, EmitsS}
use Rattle.emit_stmt.proofs.SimpleRows.{Row, any_crowds, crowded_emits}

pub as_target : {a b : Draft} {s : Scope} {line : ℕ} {x y : Target} → EmitsT a b s line x → y ≡ x → EmitsT a b s line y
as_target {a = a} {b = b} {s = s} {line = line} h e = subst (EmitsT a b s line) (sym e) h

pub as_gone : {a b : Draft} {s : Scope} {line : ℕ} {x y : Target} → EmitsG a b s line x → y ≡ x → EmitsG a b s line y
as_gone {a = a} {b = b} {s = s} {line = line} h e = subst (EmitsG a b s line) (sym e) h

-- ---- one store

name_row : {c : Context} {line p q : ℕ} {n : Name} → IsPut c line p (stores c n) q → StandsT c line p (ToName n) q
name_row (put h) = stands.to_name h

pub name_store : {a b : Draft} {s : Scope} {line : ℕ} {n : Name} → PutsAs a b s line (λ c. stores c n) → EmitsT a b s line (ToName n)
name_store {line = line} {n = n} g = record { by = as_emits (λ c labels p q. StandsT c line p (ToName n) q) (λ c labels p q h. name_row h) g.by }

attr_row : {c : Context} {line p m q : ℕ} {e : Expr} {n : Name} → StandsE c line p e m → IsPut c line m (Names ops.StoreAttr n) q → StandsT c line p (ToAttr e n) q
attr_row se (put h) = stands.to_attr se h

pub attr_store : {a b d : Draft} {s : Scope} {line : ℕ} {e : Expr} {n : Name} → EmitsE a b s line e → Puts b d line (drafts.Named ops.StoreAttr n) → EmitsT a d s line (ToAttr e n)
attr_store {line = line} {e = e} {n = n} ee p = record { by = as_emits (λ c labels p q. StandsT c line p (ToAttr e n) q) (λ c labels p q k. attr_row k.1 k.2) (put_after ee.by p) }

index_row : {c : Context} {line p m n q : ℕ} {x y : Expr} → StandsE c line p x m → StandsE c line m y n → IsPut c line n (plain ops.StoreSubscr) q → StandsT c line p (ToIndex x y) q
index_row sx sy (put h) = stands.to_index sx sy h

pub index_store : {a b d f : Draft} {s : Scope} {line : ℕ} {x y : Expr} → EmitsE a b s line x → EmitsE b d s line y → Puts d f line (drafts.Plain (instrs.Plain ops.StoreSubscr)) → EmitsT a f s line (ToIndex x y)
index_store {line = line} {x = x} {y = y} ex ey p = record { by = as_emits (λ c labels p q. StandsT c line p (ToIndex x y) q) (λ c labels p q k. index_row k.1.1 k.1.2 k.2) (put_after (then_emits ex.by ey.by) p) }

-- ---- stores of members

abbrev pub store_crowds : aims.Target → Bool
store_crowds t = crowded_target (plain_target t)

abbrev pub Stored : (line : ℕ) → Context → ℕ → aims.Target → ℕ → Type 0
Stored line c p t q = StandsT c line p (plain_target t) q

each_row : {c : Context} {line p q : ℕ} (t : aims.Target) (ts : List aims.Target) → Row (Stored line c) p (t ∷ ts) q → StandsTs c line p (targets (plain_target t) (map plain_target ts)) q
each_row {c = c} {line = line} {p = p} t [] row = stands.one_store (subst (StandsT c line p (plain_target t)) row.2 row.1)
each_row {c = c} {line = line} {p = p} {q = q} t (u ∷ us) row = stands.next_store row.1 (each_row {p = row.0} u us row.2)

each_count : (t : aims.Target) (ts : List aims.Target) → length (t ∷ ts) ≡ target_count (targets (plain_target t) (map plain_target ts))
each_count t [] = refl
each_count t (u ∷ us) = ap suc (each_count u us)

each_crowds : (t : aims.Target) (ts : List aims.Target) → any_crowds store_crowds (t ∷ ts) ≡ crowded_targets (targets (plain_target t) (map plain_target ts))
each_crowds t [] = or_false (store_crowds t)
each_crowds t (u ∷ us) = ap (λ z. store_crowds t || z) (each_crowds u us)

unpack_row : {c : Context} {line p m q : ℕ} {ts : Targets} → IsPut c line p (number ops.UnpackSequence (target_count ts)) m → StandsTs c line m ts q → StandsT c line p (ToEach ts) q
unpack_row (put h) st = stands.to_each h st

pub each_store : {a b d : Draft} {s : Scope} {line n : ℕ} (xs : List aims.Target) → (xs ≡ [] → ⊥) → n ≡ length xs → PutsCount a b line ops.UnpackSequence (passes_items n) n
    → Emits (length b.labels.items) b d s false (any_crowds store_crowds xs) (λ c labels p q. Row (Stored line c) p xs q) → EmitsT a d s line (from_targets (ToName []) ToEach (map plain_target xs))
each_store [] some is p row = absurd (some refl)
each_store {a = a} {b = b} {s = s} {line = line} (t ∷ ts) some is p row =
    let us : Targets = targets (plain_target t) (map plain_target ts) in
    let h = subst (λ z. PutsCount a b line ops.UnpackSequence (passes_items z) z) (is ∙ each_count t ts) p in
    record {
      by = size_emits (ap (λ z. passes_items (target_count us) || z) (each_crowds t ts))
          (as_emits (λ c labels p q. StandsT c line p (ToEach us) q) (λ c labels p q k. unpack_row k.1.1 (each_row t ts k.2)) (then_emits (count_emits a b s line ops.UnpackSequence _ _ h) row));
    }

pub no_store : {a b : Draft} {s : Scope} {line : ℕ} {n : Name} (xs : List aims.Target) → xs ≡ [] → n ≡ [] → PutsAs a b s line (λ c. stores c n) → EmitsT a b s line (from_targets (ToName []) ToEach (map plain_target xs))
no_store {n = n} xs none is g = as_target (name_store g) (ap (λ z. from_targets (ToName []) ToEach (map plain_target z)) none ∙ ap ToName (sym is))

-- ---- assignments

-- a store behind a doubling
abbrev pub Doubled : (line : ℕ) → Context → ℕ → aims.Target → ℕ → Type 0
Doubled line c p t q = Has c line p (plain ops.DupTop) × StandsT c line (suc p) (plain_target t) q

doubled_row : {c : Context} {line p m q : ℕ} (t : aims.Target) → IsPut c line p (plain ops.DupTop) m → StandsT c line m (plain_target t) q → Has c line p (plain ops.DupTop) × StandsT c line (suc p) (plain_target t) q
doubled_row t (put h) st = (h, st)

pub doubled : {a b d : Draft} {s : Scope} {line : ℕ} (t : aims.Target) → Puts a b line (drafts.Plain (instrs.Plain ops.DupTop)) → EmitsT b d s line (plain_target t)
    → Emits (length a.labels.items) a d s false (store_crowds t) (λ c labels p q. Doubled line c p t q)
doubled {a = a} {b = b} {s = s} {line = line} t p et = as_emits (λ c labels p q. Doubled line c p t q) (λ c labels p q k. doubled_row t k.1 k.2) (then_emits (put_emits a b s line _ p) et.by)

assigned : {c : Context} {line p m n : ℕ} {q : ℕ} (t : aims.Target) (ts : List aims.Target) (last : aims.Target) → Doubled line c p t n → Row (Doubled line c) n ts m → StandsT c line m (plain_target last) q
    → StandsA c line p (targets (plain_target t) (map plain_target (ts ++ last ∷ []))) q
assigned {c = c} {line = line} {q = q} t [] last d row st = stands.next_assign d.0 d.1 (stands.one_assign (subst (λ z. StandsT c line z (plain_target last) q) (sym row) st))
assigned {c = c} {line = line} {p = p} {m = m} {n = n} {q = q} t (u ∷ us) last d row st = stands.next_assign d.0 d.1 (assigned {p = n} {n = row.0} u us last row.1 row.2 st)

abbrev pub assign_of : Expr → List aims.Target → Stmt
assign_of e ts = from_targets Pass (λ us. Assign us e) (map plain_target ts)

assign_row : {c : Context} {a : Around} {line p k m q : ℕ} {e : Expr} (front : List aims.Target) (last : aims.Target) → StandsE c line p e k → Row (Doubled line c) k front m → StandsT c line m (plain_target last) q
    → StandsS c a line p (assign_of e (front ++ last ∷ [])) q
assign_row {c = c} {line = line} {q = q} [] last se row st = stands.assign se (stands.one_assign (subst (λ z. StandsT c line z (plain_target last) q) (sym row) st))
assign_row (t ∷ ts) last se row st = stands.assign se (assigned t ts last row.1 row.2 st)

all_crowds : (t : aims.Target) (ts : List aims.Target) (last : aims.Target) → (any_crowds store_crowds (t ∷ ts) || store_crowds last) ≡ crowded_targets (targets (plain_target t) (map plain_target (ts ++ last ∷ [])))
all_crowds t [] last = ap (λ z. z || store_crowds last) (or_false (store_crowds t))
all_crowds t (u ∷ us) last = or_assoc (store_crowds t) (any_crowds store_crowds (u ∷ us)) (store_crowds last) ∙ ap (λ z. store_crowds t || z) (all_crowds u us last)

assign_crowds : (level entries : ℕ) (e : Expr) (front : List aims.Target) (last : aims.Target) → (crowded e || (any_crowds store_crowds front || store_crowds last)) ≡ crowded_simple level entries (assign_of e (front ++ last ∷ []))
assign_crowds level entries e [] last = refl
assign_crowds level entries e (t ∷ ts) last = ap (λ z. crowded e || z) (all_crowds t ts last)

pub assign_emits : {a b d f : Draft} {s : Scope} {line : ℕ} {e : Expr} (around : Loop) (all front : List aims.Target) (last : aims.Target) → all ≡ front ++ last ∷ [] → EmitsE a b s line e
    → Emits (length b.labels.items) b d s false (any_crowds store_crowds front) (λ c labels p q. Row (Doubled line c) p front q) → EmitsT d f s line (plain_target last) → EmitsS a f s around line (assign_of e all)
assign_emits {a = a} {f = f} {s = s} {line = line} {e = e} around all front last is ee row et = subst (λ z. EmitsS a f s around line (assign_of e z)) (sym is) (record {
  by = size_emits (assign_crowds a.level around.entries e front last)
      (as_emits (λ c labels p q. StandsS c (around_of labels around) line p (assign_of e (front ++ last ∷ [])) q) (λ c labels p q k. assign_row front last k.1 k.2.1 k.2.2) (then_emits ee.by (then_emits row et.by)));
})

-- with no target there is no code
pub assign_nothing : (a : Draft) (s : Scope) (around : Loop) (line : ℕ) (e : Expr) (ts : List aims.Target) → length ts ≡ 0 → EmitsS a a s around line (assign_of e ts)
assign_nothing a s around line e [] h = record { by = no_emits a s false (λ c labels p q. StandsS c (around_of labels around) line p Pass q) (λ c labels p. stands.pass) }
assign_nothing a s around line e (t ∷ ts) h = absurd (omega arith)

-- ---- one deletion

gone_name_row : {c : Context} {line p q : ℕ} {n : Name} → IsPut c line p (deletes c n) q → StandsG c line p (ToName n) q
gone_name_row (put h) = stands.gone_name h

pub name_gone : {a b : Draft} {s : Scope} {line : ℕ} {n : Name} → PutsAs a b s line (λ c. deletes c n) → EmitsG a b s line (ToName n)
name_gone {line = line} {n = n} g = record { by = as_emits (λ c labels p q. StandsG c line p (ToName n) q) (λ c labels p q h. gone_name_row h) g.by }

gone_index_row : {c : Context} {line p m n n1 n2 q : ℕ} {x y : Expr} → StandsE c line p x m → StandsE c line m y n → IsPut c line n (plain ops.LoadNull) n1 → IsPut c line n1 (plain ops.RotThree) n2 → IsPut c line n2 (plain ops.StoreSubscr) q
    → StandsG c line p (ToIndex x y) q
gone_index_row sx sy (put h1) (put h2) (put h3) = stands.gone_index sx sy h1 h2 h3

pub index_gone : {a b d f g h : Draft} {s : Scope} {line : ℕ} {x y : Expr} → EmitsE a b s line x → EmitsE b d s line y → Puts d f line (drafts.Plain (instrs.Plain ops.LoadNull)) → Puts f g line (drafts.Plain (instrs.Plain ops.RotThree))
    → Puts g h line (drafts.Plain (instrs.Plain ops.StoreSubscr)) → EmitsG a h s line (ToIndex x y)
index_gone {line = line} {x = x} {y = y} ex ey p1 p2 p3 = record {
  by = as_emits (λ c labels p q. StandsG c line p (ToIndex x y) q) (λ c labels p q k. gone_index_row k.1.1.1.1 k.1.1.1.2 k.1.1.2 k.1.2 k.2) (put_after (put_after (put_after (then_emits ex.by ey.by) p1) p2) p3);
}

-- what has no deletion
pub none_gone : (a b : Draft) (s : Scope) (line : ℕ) (t : Target) → crowded_gone t ≡ true → b.lines ≡ a.lines → b.labels.items ≡ a.labels.items → b.level ≡ a.level → b.crowded ≡ true → EmitsG a b s line t
none_gone a b s line t is lines labels level crowds = record { by = size_emits (sym is) (crowded_emits a b s (λ c labels p q. StandsG c line p t q) lines labels level crowds) }

pub unpack_gone : (ts : List aims.Target) → (ts ≡ [] → ⊥) → crowded_gone (from_targets (ToName []) ToEach (map plain_target ts)) ≡ true
unpack_gone [] some = absurd (some refl)
unpack_gone (t ∷ ts) some = refl

-- ---- deletions

abbrev pub gone_crowds : aims.Target → Bool
gone_crowds t = crowded_gone (plain_target t)

abbrev pub Gone : (line : ℕ) → Context → ℕ → aims.Target → ℕ → Type 0
Gone line c p t q = StandsG c line p (plain_target t) q

gones_row : {c : Context} {line p q : ℕ} (t : aims.Target) (ts : List aims.Target) → Row (Gone line c) p (t ∷ ts) q → StandsGs c line p (targets (plain_target t) (map plain_target ts)) q
gones_row {c = c} {line = line} {p = p} t [] row = stands.one_gone (subst (StandsG c line p (plain_target t)) row.2 row.1)
gones_row {c = c} {line = line} {p = p} {q = q} t (u ∷ us) row = stands.next_gone row.1 (gones_row {p = row.0} u us row.2)

gones_crowds : (t : aims.Target) (ts : List aims.Target) → any_crowds gone_crowds (t ∷ ts) ≡ crowded_gones (targets (plain_target t) (map plain_target ts))
gones_crowds t [] = or_false (gone_crowds t)
gones_crowds t (u ∷ us) = ap (λ z. gone_crowds t || z) (gones_crowds u us)

abbrev pub delete_of : List aims.Target → Stmt
delete_of ts = from_targets Pass Delete (map plain_target ts)

delete_row : {c : Context} {a : Around} {line p q : ℕ} (ts : List aims.Target) → Row (Gone line c) p ts q → StandsS c a line p (delete_of ts) q
delete_row {c = c} {a = a} {line = line} {p = p} [] row = subst (StandsS c a line p Pass) row stands.pass
delete_row (t ∷ ts) row = stands.delete (gones_row t ts row)

delete_crowds : (level entries : ℕ) (ts : List aims.Target) → any_crowds gone_crowds ts ≡ crowded_simple level entries (delete_of ts)
delete_crowds level entries [] = refl
delete_crowds level entries (t ∷ ts) = gones_crowds t ts

pub delete_emits : {a b : Draft} {s : Scope} {line : ℕ} (around : Loop) (ts : List aims.Target) → Emits (length a.labels.items) a b s false (any_crowds gone_crowds ts) (λ c labels p q. Row (Gone line c) p ts q)
    → EmitsS a b s around line (delete_of ts)
delete_emits {a = a} {line = line} around ts row = record {
  by = size_emits (delete_crowds a.level around.entries ts) (as_emits (λ c labels p q. StandsS c (around_of labels around) line p (delete_of ts) q) (λ c labels p q k. delete_row ts k) row);
}
