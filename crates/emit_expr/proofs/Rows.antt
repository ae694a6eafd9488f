-- Parts in a row: what stands so far, and what the rest will stand behind.
use Rattle.std.proofs.Common.{◌≡◌, ℕ, suc, ◌+◌, ◌<◌, ◌≤◌, Bool, true, false, List, [], ◌∷◌, ◌++◌, length, drop, get_or, map, Some, None, refl, sym, ap, ◌∙◌, subst, arith, add-one}
use Rattle.std.specs.Prelude.{slice_get, ◌||◌, ◌==◌, ◌↔◌, IsTrue}
use Rattle.std.proofs.Math.Seq.{drop-cons}
use Rattle.std.proofs.lemmas.Bool.{eqb-true, eq-eqb}
use Rattle.std.proofs.lemmas.List.{drop_all, map-append}
use Rattle.std.proofs.lemmas.Option.{slice_get_within}
use Rattle.emit_draft.specs.bc_scheme.bc_ops.declared.instr.Op.{Op}
use Rattle.emit_draft.specs.bc_scheme.bc_ops.declared.instr.Op.TheVariants as ops
use Rattle.emit_draft.specs.bc_scheme.bc_ops.declared.instr.Instr.TheVariants as instrs
use Rattle.emit_draft.specs.bc_scheme.bc_machine.Library.{Names, Jumps}
use Rattle.mpy_base.specs.Val.{Nil}
use Rattle.py_tree.specs.declared.expr.CompareOp.{CompareOp}
use Rattle.emit_draft.specs.bc_scheme.py_meaning.Tree.{Name, Expr, Constant, Exprs, NoExpr, More, Links, Last, Pairs, NoPair, Pair, Keys, NoKey, Key}
use Rattle.py_tree.specs.declared.expr.Expr as trees
use Rattle.emit_draft.specs.bc_scheme.py_meaning.Plain.{plain_expr, exprs, operands, pairs_of, keys_of, compares}
use Rattle.emit_draft.specs.bc_scheme.Context.{Context, plain}
use Rattle.emit_draft.specs.bc_scheme.Expressions as stands
use Rattle.emit_draft.specs.bc_scheme.Expressions.{StandsE, StandsEs, StandsO, StandsL, StandsD, StandsK}
use Rattle.emit_draft.specs.declared.draft.Draft.{Draft}
use Rattle.emit_draft.specs.declared.draft.DraftItem.TheVariants as drafts
use Rattle.emit_draft.specs.declared.scope.Scope.{Scope}
use Rattle.emit_draft.specs.Draft.{Puts, Adds, Binds}
use Rattle.emit_draft.specs.Emits.{label_at, Emits, IsPut, put}
use Rattle.emit_draft.proofs.Lists.{or_false}
use Rattle.emit_draft.proofs.Steps.{adds_grown, free_added, free_on, free_put, free_later}
use Rattle.emit_draft.proofs.Emits.{no_emits, then_emits, more_emits, put_after, label_after, label_before, bind_after, as_emits, size_emits}
use Rattle.emit_expr.specs.declared.expr.Connective.{Connective}
use Rattle.emit_expr.specs.declared.expr.Connective.TheVariants as connectives
use Rattle.emit_expr.specs.Crowded.{crowded, crowded_all, crowded_in, crowded_pairs, crowded_keys}
use Rattle.emit_expr.specs.Emits.{joins, jump_of, plain_links, plain_pairs, plain_keys, EmitsC, EmitsE, EmitsEs, EmitsD, EmitsK, EmitsLinks}
use Rattle.emit_expr.proofs.Links.{before, crowded_append, link_row, one_row, chain_row}

pub drop_item : {X : Type 0} (xs : List X) (i : ℕ) (x : X) → i < length xs → x ≡ get_or xs i x → drop i xs ≡ x ∷ drop (i + 1) xs
drop_item xs i x h is = drop-cons xs i x h ∙ ap (λ z. z ∷ drop (suc i) xs) (sym is) ∙ ap (λ n. x ∷ drop n xs) (sym (add-one i))

pub empty_slice : {X : Type 0} (xs : List X) (b : Bool) → b ≡ (length xs == 0) → b ≡ true → xs ≡ []
empty_slice [] b e h = refl
empty_slice (x ∷ xs) b e h = let none : length (x ∷ xs) ≡ 0 = eqb-true (length (x ∷ xs)) 0 (sym e ∙ h) in absurd (omega arith)

pub filled_slice : {X : Type 0} (xs : List X) (b : Bool) → b ≡ (length xs == 0) → b ≡ false → xs ≡ [] → ⊥
filled_slice xs b e h n =
    let full : (length xs == 0) ≡ true = eq-eqb (length xs) 0 (ap length n) in
    let clash : true ≡ false = sym full ∙ (sym e ∙ h) in
    cc

pub filled_items : {X : Type 0} (b : Bool) (xs : List X) → (IsTrue b ↔ (xs ≡ [])) → b ≡ false → xs ≡ [] → ⊥
filled_items b xs h e n = let clash : true ≡ false = sym (h.1 n) ∙ e in cc

pub plain_filled : (links : List (CompareOp × trees.Expr)) → (links ≡ [] → ⊥) → plain_links links ≡ [] → ⊥
plain_filled [] some e = some refl
plain_filled (x ∷ xs) some e = cc

-- ---- expressions

pub record BuildsEs (a b : Draft) (s : Scope) (line : ℕ) (rest all : Exprs) : Type 0 where
  pub by : Emits (length a.labels.items) a b s (crowded_all rest) (crowded_all all) (λ c labels p q. (r : ℕ) → StandsEs c line q rest r → StandsEs c line p all r)

pub all_begun : (a : Draft) (s : Scope) (line : ℕ) (all : Exprs) → BuildsEs a a s line all all
all_begun a s line all = record { by = no_emits a s (crowded_all all) (λ c labels p q. (r : ℕ) → StandsEs c line q all r → StandsEs c line p all r) (λ c labels p r h. h) }

pub all_more : {a b d : Draft} {s : Scope} {line : ℕ} {e : Expr} {es all : Exprs} → BuildsEs a b s line (More e es) all → EmitsE b d s line e → BuildsEs a d s line es all
all_more {line = line} {e = e} {es = es} {all = all} g ee = record {
  by = as_emits (λ c labels p q. (r : ℕ) → StandsEs c line q es r → StandsEs c line p all r) (λ c labels p q k r h. k.1 r (stands.next k.2 h)) (more_emits {v = crowded e} {r = crowded_all es} g.by ee.by);
}

pub all_ended : {a b : Draft} {s : Scope} {line : ℕ} {all : Exprs} → BuildsEs a b s line NoExpr all → EmitsEs a b s line all
all_ended {line = line} {all = all} g = record { by = as_emits (λ c labels p q. StandsEs c line p all q) (λ c labels p q k. k q stands.no_expr) g.by }

pub all_step : {a b d : Draft} {s : Scope} {line : ℕ} {all : Exprs} (xs : List trees.Expr) (i : ℕ) (x : trees.Expr)
    → BuildsEs a b s line (exprs (map plain_expr (drop i xs))) all → EmitsE b d s line (plain_expr x) → drop i xs ≡ x ∷ drop (i + 1) xs → BuildsEs a d s line (exprs (map plain_expr (drop (i + 1) xs))) all
all_step {a = a} {b = b} {s = s} {line = line} {all = all} xs i x g ee e = all_more (subst (λ z. BuildsEs a b s line (exprs (map plain_expr z)) all) e g) ee

pub all_done : {a b : Draft} {s : Scope} {line : ℕ} {all : Exprs} (xs : List trees.Expr) (i : ℕ) → BuildsEs a b s line (exprs (map plain_expr (drop i xs))) all → length xs ≤ i → EmitsEs a b s line all
all_done {a = a} {b = b} {s = s} {line = line} {all = all} xs i g h = all_ended (subst (λ z. BuildsEs a b s line (exprs (map plain_expr z)) all) (drop_all i xs h) g)

-- ---- keyword arguments

pub record BuildsK (a b : Draft) (s : Scope) (line : ℕ) (rest all : Keys) : Type 0 where
  pub by : Emits (length a.labels.items) a b s (crowded_keys rest) (crowded_keys all) (λ c labels p q. (r : ℕ) → StandsK c line q rest r → StandsK c line p all r)

pub keys_begun : (a : Draft) (s : Scope) (line : ℕ) (all : Keys) → BuildsK a a s line all all
keys_begun a s line all = record { by = no_emits a s (crowded_keys all) (λ c labels p q. (r : ℕ) → StandsK c line q all r → StandsK c line p all r) (λ c labels p r h. h) }

key_row : {c : Context} {line p m n q : ℕ} {name : Name} {e : Expr} {keys : Keys} → IsPut c line p (Names ops.LoadConstString name) m → StandsE c line m e n → StandsK c line n keys q → StandsK c line p (Key name e keys) q
key_row (put h) se sk = stands.key h se sk

pub keys_more : {a b d f : Draft} {s : Scope} {line : ℕ} {name : Name} {e : Expr} {keys all : Keys} → BuildsK a b s line (Key name e keys) all → Puts b d line (drafts.Named ops.LoadConstString name) → EmitsE d f s line e → BuildsK a f s line keys all
keys_more {line = line} {e = e} {keys = keys} {all = all} g p ee = record {
  by = as_emits (λ c labels p q. (r : ℕ) → StandsK c line q keys r → StandsK c line p all r) (λ c labels p q k r h. k.1.1 r (key_row k.1.2 k.2 h)) (more_emits {v = crowded e} {r = crowded_keys keys} (put_after g.by p) ee.by);
}

pub keys_ended : {a b : Draft} {s : Scope} {line : ℕ} {all : Keys} → BuildsK a b s line NoKey all → EmitsK a b s line all
keys_ended {line = line} {all = all} g = record { by = as_emits (λ c labels p q. StandsK c line p all q) (λ c labels p q k. k q stands.no_key) g.by }

pub keys_step : {a b d f : Draft} {s : Scope} {line : ℕ} {all : Keys} {name : Name} (xs : List (Name × trees.Expr)) (i : ℕ) (x : Name × trees.Expr)
    → BuildsK a b s line (keys_of (plain_keys (drop i xs))) all → name ≡ x.0 → Puts b d line (drafts.Named ops.LoadConstString name) → EmitsE d f s line (plain_expr x.1) → drop i xs ≡ x ∷ drop (i + 1) xs
    → BuildsK a f s line (keys_of (plain_keys (drop (i + 1) xs))) all
keys_step {a = a} {b = b} {d = d} {s = s} {line = line} {all = all} xs i x g is p ee e =
    keys_more (subst (λ z. BuildsK a b s line (keys_of (plain_keys z)) all) e g) (subst (λ n. Puts b d line (drafts.Named ops.LoadConstString n)) is p) ee

pub keys_done : {a b : Draft} {s : Scope} {line : ℕ} {all : Keys} (xs : List (Name × trees.Expr)) (i : ℕ) → BuildsK a b s line (keys_of (plain_keys (drop i xs))) all → length xs ≤ i → EmitsK a b s line all
keys_done {a = a} {b = b} {s = s} {line = line} {all = all} xs i g h = keys_ended (subst (λ z. BuildsK a b s line (keys_of (plain_keys z)) all) (drop_all i xs h) g)

-- ---- pairs

pub record BuildsD (a b : Draft) (s : Scope) (line : ℕ) (rest all : Pairs) : Type 0 where
  pub by : Emits (length a.labels.items) a b s (crowded_pairs rest) (crowded_pairs all) (λ c labels p q. (r : ℕ) → StandsD c line q rest r → StandsD c line p all r)

pub pairs_begun : (a : Draft) (s : Scope) (line : ℕ) (all : Pairs) → BuildsD a a s line all all
pairs_begun a s line all = record { by = no_emits a s (crowded_pairs all) (λ c labels p q. (r : ℕ) → StandsD c line q all r → StandsD c line p all r) (λ c labels p r h. h) }

pair_row : {c : Context} {line p m n o q : ℕ} {key value : Expr} {pairs : Pairs} → StandsE c line p value m → StandsE c line m key n → IsPut c line n (plain ops.StoreMap) o → StandsD c line o pairs q → StandsD c line p (Pair key value pairs) q
pair_row sv sk (put h) sd = stands.pair sv sk h sd

pub pairs_more : {a b d f g : Draft} {s : Scope} {line : ℕ} {key value : Expr} {pairs all : Pairs} → BuildsD a b s line (Pair key value pairs) all → EmitsE b d s line value → EmitsE d f s line key → Puts f g line (drafts.Plain (instrs.Plain ops.StoreMap)) → BuildsD a g s line pairs all
pairs_more {line = line} {key = key} {value = value} {pairs = pairs} {all = all} built ev ek p = record {
  by = as_emits (λ c labels p q. (r : ℕ) → StandsD c line q pairs r → StandsD c line p all r) (λ c labels p q k r h. k.1 r (pair_row k.2.1.1 k.2.1.2 k.2.2 h))
      (more_emits {v = crowded value || crowded key} {r = crowded_pairs pairs} built.by (put_after (then_emits ev.by ek.by) p));
}

pub pairs_ended : {a b : Draft} {s : Scope} {line : ℕ} {all : Pairs} → BuildsD a b s line NoPair all → EmitsD a b s line all
pairs_ended {line = line} {all = all} g = record { by = as_emits (λ c labels p q. StandsD c line p all q) (λ c labels p q k. k q stands.no_pair) g.by }

pub pairs_step : {a b d f g : Draft} {s : Scope} {line : ℕ} {all : Pairs} (xs : List (trees.Expr × trees.Expr)) (i : ℕ) (x : trees.Expr × trees.Expr)
    → BuildsD a b s line (pairs_of (plain_pairs (drop i xs))) all → EmitsE b d s line (plain_expr x.1) → EmitsE d f s line (plain_expr x.0) → Puts f g line (drafts.Plain (instrs.Plain ops.StoreMap)) → drop i xs ≡ x ∷ drop (i + 1) xs
    → BuildsD a g s line (pairs_of (plain_pairs (drop (i + 1) xs))) all
pairs_step {a = a} {b = b} {s = s} {line = line} {all = all} xs i x built ev ek p e = pairs_more (subst (λ z. BuildsD a b s line (pairs_of (plain_pairs z)) all) e built) ev ek p

pub pairs_done : {a b : Draft} {s : Scope} {line : ℕ} {all : Pairs} (xs : List (trees.Expr × trees.Expr)) (i : ℕ) → BuildsD a b s line (pairs_of (plain_pairs (drop i xs))) all → length xs ≤ i → EmitsD a b s line all
pairs_done {a = a} {b = b} {s = s} {line = line} {all = all} xs i g h = pairs_ended (subst (λ z. BuildsD a b s line (pairs_of (plain_pairs z)) all) (drop_all i xs h) g)

-- ---- operands of `and` and `or`

pub record BuildsO (a b : Draft) (s : Scope) (line : ℕ) (op : Op) (end : ℕ) (rest all : Exprs) : Type 0 where
  pub by :
      Emits (length a.labels.items) a b s (crowded_all rest) (crowded_all all)
      (λ c labels p q. (r : ℕ) → StandsO c line op (label_at labels end) q rest r → StandsO c line op (label_at labels end) p all r)

pub joined_begun : (a : Draft) (s : Scope) (line : ℕ) (op : Op) (end : ℕ) (all : Exprs) → BuildsO a a s line op end all all
joined_begun a s line op end all = record {
  by = no_emits a s (crowded_all all) (λ c labels p q. (r : ℕ) → StandsO c line op (label_at labels end) q all r → StandsO c line op (label_at labels end) p all r) (λ c labels p r h. h);
}

operand_row : {c : Context} {line end p m n q : ℕ} {op : Op} {e : Expr} {es : Exprs} → IsPut c line p (Jumps op end) m → StandsE c line m e n → StandsO c line op end n es q → StandsO c line op end p (More e es) q
operand_row (put h) se so = stands.operand h se so

pub joined_more : {a b d f : Draft} {s : Scope} {line end : ℕ} {op : Op} {e : Expr} {es all : Exprs} → BuildsO a b s line op end (More e es) all → Puts b d line (drafts.Jump op end) → EmitsE d f s line e → BuildsO a f s line op end es all
joined_more {line = line} {end = end} {op = op} {e = e} {es = es} {all = all} g p ee = record {
  by = as_emits (λ c labels p q. (r : ℕ) → StandsO c line op (label_at labels end) q es r → StandsO c line op (label_at labels end) p all r)
      (λ c labels p q k r h. k.1.1 r (operand_row k.1.2 k.2 h)) (more_emits {v = crowded e} {r = crowded_all es} (put_after g.by p) ee.by);
}

pub joined_step : {a b d f : Draft} {s : Scope} {line end : ℕ} {op : Op} {all : Exprs} (xs : List trees.Expr) (i : ℕ) (x : trees.Expr)
    → BuildsO a b s line op end (exprs (map plain_expr (drop i xs))) all → Puts b d line (drafts.Jump op end) → EmitsE d f s line (plain_expr x) → drop i xs ≡ x ∷ drop (i + 1) xs
    → BuildsO a f s line op end (exprs (map plain_expr (drop (i + 1) xs))) all
joined_step {a = a} {b = b} {s = s} {line = line} {end = end} {op = op} {all = all} xs i x g p ee e = joined_more (subst (λ z. BuildsO a b s line op end (exprs (map plain_expr z)) all) e g) p ee

pub joined_all : {a b : Draft} {s : Scope} {line end : ℕ} {op : Op} {all : Exprs} (xs : List trees.Expr) (i : ℕ) → BuildsO a b s line op end (exprs (map plain_expr (drop i xs))) all → length xs ≤ i → BuildsO a b s line op end NoExpr all
joined_all {a = a} {b = b} {s = s} {line = line} {end = end} {op = op} {all = all} xs i g h = subst (λ z. BuildsO a b s line op end (exprs (map plain_expr z)) all) (drop_all i xs h) g

join_row : {c : Context} {line end p m q : ℕ} {e : Expr} {es : Exprs} (connective : Connective) → StandsE c line p e m → StandsO c line (jump_of connective) end m es q → end ≡ q → StandsE c line p (joins connective e es) q
join_row {c = c} {line = line} {m = m} {q = q} {es = es} connectives.And se so is = stands.«and» se (subst (λ z. StandsO c line ops.JumpIfFalseOrPop z m es q) is so)
join_row {c = c} {line = line} {m = m} {q = q} {es = es} connectives.Or se so is = stands.«or» se (subst (λ z. StandsO c line ops.JumpIfTrueOrPop z m es q) is so)

crowded_joined : (connective : Connective) (e : Expr) (es : Exprs) → (crowded e || crowded_all es) ≡ crowded (joins connective e es)
crowded_joined connectives.And e es = refl
crowded_joined connectives.Or e es = refl

pub joined_free : {b c1 d : Draft} {s : Scope} {line end : ℕ} {op : Op} {rest all : Exprs} → Adds b c1 end → BuildsO c1 d s line op end rest all → slice_get d.labels.items end ≡ Some None
joined_free {b = b} {c1 = c1} {d = d} {end = end} l g = free_on c1 d end g.by.grown (free_added b c1 end l)

pub joined_ended : {a b c1 d f : Draft} {s : Scope} {line end : ℕ} {first : Expr} {all : Exprs} (connective : Connective) → EmitsE a b s line first → Adds b c1 end → BuildsO c1 d s line (jump_of connective) end NoExpr all → Binds d f end → EmitsE a f s line (joins connective first all)
joined_ended {line = line} {first = first} {all = all} connective ef l g bound = record {
  by = size_emits (crowded_joined connective first all) (as_emits (λ c labels p q. StandsE c line p (joins connective first all) q)
      (λ c labels p q k. join_row connective k.0.1 (k.0.2 q stands.no_operand) k.1)
      (bind_after (then_emits (label_after ef.by l) g.by) bound (omega (arith, l.number, ef.by.grown.count)) (joined_free l g)));
}

pub joined_whole : {a b c1 d f : Draft} {s : Scope} {line end : ℕ} (connective : Connective) (op : Op) (items rest : List trees.Expr) (first : trees.Expr) (i : ℕ) → op ≡ jump_of connective → items ≡ first ∷ rest
    → EmitsE a b s line (plain_expr first) → Adds b c1 end → BuildsO c1 d s line op end (exprs (map plain_expr (drop i rest))) (exprs (map plain_expr rest)) → length rest ≤ i → Binds d f end
    → EmitsE a f s line (operands (joins connective) (map plain_expr items))
joined_whole {a = a} {c1 = c1} {d = d} {f = f} {s = s} {line = line} {end = end} connective op items rest first i is all ef l g h bound =
    subst (λ z. EmitsE a f s line (operands (joins connective) (map plain_expr z))) (sym all)
    (joined_ended connective ef l (subst (λ z. BuildsO c1 d s line z end NoExpr (exprs (map plain_expr rest))) is (joined_all rest i g h)) bound)

-- ---- links

pub record BuildsL (a b : Draft) (s : Scope) (line fail : ℕ) (rest all : List (CompareOp × Expr)) : Type 0 where
  pub by :
      Emits (length a.labels.items) a b s (crowded_in rest) (crowded_in all)
      (λ c labels p q. (others : Links) (r : ℕ) → StandsL c line (label_at labels fail) q (before rest others) r → StandsL c line (label_at labels fail) p (before all others) r)

pub links_begun : (a : Draft) (s : Scope) (line fail : ℕ) (all : List (CompareOp × Expr)) → BuildsL a a s line fail all all
links_begun a s line fail all = record {
  by = no_emits a s (crowded_in all) (λ c labels p q. (others : Links) (r : ℕ) → StandsL c line (label_at labels fail) q (before all others) r → StandsL c line (label_at labels fail) p (before all others) r) (λ c labels p others r h. h);
}

pub links_more : {a b d1 d2 d3 d4 d5 : Draft} {s : Scope} {line fail : ℕ} {op : CompareOp} {e : Expr} {rest all : List (CompareOp × Expr)}
    → BuildsL a b s line fail ((op, e) ∷ rest) all → EmitsE b d1 s line e → Puts d1 d2 line (drafts.Plain (instrs.Plain ops.DupTop)) → Puts d2 d3 line (drafts.Plain (instrs.Plain ops.RotThree))
    → EmitsC d3 d4 s line op → Puts d4 d5 line (drafts.Jump ops.JumpIfFalseOrPop fail) → BuildsL a d5 s line fail rest all
links_more {line = line} {fail = fail} {op = op} {e = e} {rest = rest} {all = all} g ee p1 p2 ec p3 = record {
  by = as_emits (λ c labels p q. (others : Links) (r : ℕ) → StandsL c line (label_at labels fail) q (before rest others) r → StandsL c line (label_at labels fail) p (before all others) r)
      (λ c labels p q k others r h. k.1.1.1.1.1 others r (link_row k.1.1.1.1.2 k.1.1.1.2 k.1.1.2 k.1.2 k.2 h))
      (put_after (more_emits {v = false} {r = crowded_in rest} (put_after (put_after (more_emits {v = crowded e} {r = crowded_in rest} g.by ee.by) p1) p2) ec.by) p3);
}

pub links_step : {a b d1 d2 d3 d4 d5 : Draft} {s : Scope} {line fail : ℕ} {all : List (CompareOp × Expr)} (xs : List (CompareOp × trees.Expr)) (i : ℕ) (x : CompareOp × trees.Expr)
    → BuildsL a b s line fail (plain_links (drop i xs)) all → EmitsE b d1 s line (plain_expr x.1) → Puts d1 d2 line (drafts.Plain (instrs.Plain ops.DupTop)) → Puts d2 d3 line (drafts.Plain (instrs.Plain ops.RotThree))
    → EmitsC d3 d4 s line x.0 → Puts d4 d5 line (drafts.Jump ops.JumpIfFalseOrPop fail) → drop i xs ≡ x ∷ drop (i + 1) xs → BuildsL a d5 s line fail (plain_links (drop (i + 1) xs)) all
links_step {a = a} {b = b} {s = s} {line = line} {fail = fail} {all = all} xs i x g ee p1 p2 ec p3 e = links_more (subst (λ z. BuildsL a b s line fail (plain_links z) all) e g) ee p1 p2 ec p3

pub links_all : {a b : Draft} {s : Scope} {line fail : ℕ} {all : List (CompareOp × Expr)} (xs : List (CompareOp × trees.Expr)) (i : ℕ) → BuildsL a b s line fail (plain_links (drop i xs)) all → length xs ≤ i → BuildsL a b s line fail [] all
links_all {a = a} {b = b} {s = s} {line = line} {fail = fail} {all = all} xs i g h = subst (λ z. BuildsL a b s line fail (plain_links z) all) (drop_all i xs h) g

-- the last link behind the others
pub record EndsL (a b : Draft) (s : Scope) (line fail : ℕ) (front : List (CompareOp × Expr)) (op : CompareOp) (e : Expr) : Type 0 where
  pub by : Emits (length a.labels.items) a b s false (crowded_in front || crowded e) (λ c labels p q. StandsL c line (label_at labels fail) p (before front (Last op e)) q)
  pub free : slice_get b.labels.items fail ≡ Some None
  pub later : length a.labels.items ≤ fail

pub links_last : {a c1 b d f : Draft} {s : Scope} {line fail : ℕ} {op : CompareOp} {e : Expr} {front : List (CompareOp × Expr)} → Adds a c1 fail → BuildsL c1 b s line fail [] front → EmitsE b d s line e → EmitsC d f s line op → EndsL a f s line fail front op e
links_last {a = a} {c1 = c1} {b = b} {d = d} {f = f} {line = line} {fail = fail} {op = op} {e = e} {front = front} l g ee ec = record {
  by = label_before l (as_emits (λ c labels p q. StandsL c line (label_at labels fail) p (before front (Last op e)) q) (λ c labels p q k. k.1.1 (Last op e) q (stands.last k.1.2 k.2))
      (more_emits {v = false} {r = false} (then_emits g.by ee.by) ec.by));
  free = free_on d f fail ec.by.grown (free_on b d fail ee.by.grown (free_on c1 b fail g.by.grown (free_added a c1 fail l)));
  later = omega (arith, l.number);
}

pub links_one : {a b : Draft} {s : Scope} {line fail : ℕ} {op : CompareOp} {e : Expr} → EndsL a b s line fail [] op e → EmitsLinks a b s line ((op, e) ∷ [])
links_one {line = line} {op = op} {e = e} g = record {
  by = size_emits (sym (or_false (crowded e))) (as_emits (λ c labels p q. (x : Expr) (from : ℕ) → StandsE c line from x p → StandsE c line from (compares x ((op, e) ∷ [])) q) (λ c labels p q k x from sx. one_row k sx) g.by);
}

pub chain_fail_free : {a b c1 c2 : Draft} {s : Scope} {line fail end : ℕ} {op : CompareOp} {e : Expr} {front : List (CompareOp × Expr)} → EndsL a b s line fail front op e → Adds b c1 end → Puts c1 c2 line (drafts.Jump ops.Jump end) → slice_get c2.labels.items fail ≡ Some None
chain_fail_free {b = b} {c1 = c1} {c2 = c2} {line = line} {fail = fail} {end = end} g l p = free_put c1 c2 line _ fail p (free_on b c1 fail (adds_grown b c1 end l) g.free)

pub chain_end_free : {a b c1 c2 c3 c4 c5 : Draft} {s : Scope} {line fail end : ℕ} {op : CompareOp} {e : Expr} {front : List (CompareOp × Expr)}
    → EndsL a b s line fail front op e → Adds b c1 end → Puts c1 c2 line (drafts.Jump ops.Jump end) → Binds c2 c3 fail → Puts c3 c4 line (drafts.Plain (instrs.Plain ops.RotTwo)) → Puts c4 c5 line (drafts.Plain (instrs.Plain ops.PopTop))
    → slice_get c5.labels.items end ≡ Some None
chain_end_free {b = b} {c1 = c1} {c2 = c2} {c3 = c3} {c4 = c4} {c5 = c5} {line = line} {fail = fail} {end = end} g l p1 b1 p2 p3 =
    free_put c4 c5 line _ end p3 (free_put c3 c4 line _ end p2
    (free_later c2 c3 fail end b1 (omega (arith, l.number, slice_get_within b.labels.items fail None g.free)) (free_put c1 c2 line _ end p1 (free_added b c1 end l))))

pub links_chain : {a b c1 c2 c3 c4 c5 c6 : Draft} {s : Scope} {line fail end : ℕ} {op : CompareOp} {e : Expr} {front : List (CompareOp × Expr)} → (front ≡ [] → ⊥)
    → EndsL a b s line fail front op e → Adds b c1 end → Puts c1 c2 line (drafts.Jump ops.Jump end) → Binds c2 c3 fail → Puts c3 c4 line (drafts.Plain (instrs.Plain ops.RotTwo))
    → Puts c4 c5 line (drafts.Plain (instrs.Plain ops.PopTop)) → Binds c5 c6 end → EmitsLinks a c6 s line (front ++ (op, e) ∷ [])
links_chain {b = b} {c1 = c1} {c2 = c2} {c3 = c3} {c4 = c4} {c5 = c5} {line = line} {fail = fail} {end = end} {op = op} {e = e} {front = front} some g l p1 b1 p2 p3 b2 =
    let link : CompareOp × Expr = (op, e) in
    let g1 = put_after (label_after g.by l) p1 in
    let g2 = bind_after g1 b1 g.later (chain_fail_free g l p1) in
    let g3 = put_after (put_after g2 p2) p3 in
    let g4 = bind_after g3 b2 (omega (arith, l.number, g.by.grown.below, g.by.grown.count)) (chain_end_free g l p1 b1 p2 p3) in
    record {
      by = size_emits (crowded_append front link) (as_emits (λ c labels p q. (x : Expr) (from : ℕ) → StandsE c line from x p → StandsE c line from (compares x (front ++ link ∷ [])) q)
          (λ c labels p q k x from sx. chain_row x front link some k.0.1.1.0.1 k.0.1.1.0.2 k.0.1.1.1 k.0.1.2 k.0.2 k.1 sx) g4);
    }

-- the links of a comparison with one operand, and with several
pub one_link : {a b : Draft} {s : Scope} {line fail : ℕ} (all front : List (CompareOp × trees.Expr)) (l : CompareOp × trees.Expr) → all ≡ front ++ l ∷ [] → front ≡ [] → EndsL a b s line fail (plain_links front) l.0 (plain_expr l.1) → EmitsLinks a b s line (plain_links all)
one_link {a = a} {b = b} {s = s} {line = line} {fail = fail} all front l is none g =
    subst (λ z. EmitsLinks a b s line (plain_links z)) (sym (is ∙ ap (λ z. z ++ l ∷ []) none)) (links_one (subst (λ z. EndsL a b s line fail (plain_links z) l.0 (plain_expr l.1)) none g))

pub many_links : {a b c1 c2 c3 c4 c5 c6 : Draft} {s : Scope} {line fail end : ℕ} (all front : List (CompareOp × trees.Expr)) (l : CompareOp × trees.Expr) → all ≡ front ++ l ∷ [] → (front ≡ [] → ⊥)
    → EndsL a b s line fail (plain_links front) l.0 (plain_expr l.1) → Adds b c1 end → Puts c1 c2 line (drafts.Jump ops.Jump end) → Binds c2 c3 fail → Puts c3 c4 line (drafts.Plain (instrs.Plain ops.RotTwo))
    → Puts c4 c5 line (drafts.Plain (instrs.Plain ops.PopTop)) → Binds c5 c6 end → EmitsLinks a c6 s line (plain_links all)
many_links {a = a} {c6 = c6} {s = s} {line = line} all front l is some g l1 p1 b1 p2 p3 b2 =
    subst (EmitsLinks a c6 s line) (sym (ap plain_links is ∙ map-append _ front (l ∷ []))) (links_chain (plain_filled front some) g l1 p1 b1 p2 p3 b2)

pub no_links : (a : Draft) (s : Scope) (line : ℕ) (all : List (CompareOp × trees.Expr)) → length all ≡ 0 → EmitsLinks a a s line (plain_links all)
no_links a s line [] e = record { by = no_emits a s false (λ c labels p q. (x : Expr) (from : ℕ) → StandsE c line from x p → StandsE c line from x q) (λ c labels p x from sx. sx) }
no_links a s line (l ∷ ls) e = absurd (omega arith)

pub no_operands : (make : Expr → Exprs → Expr) (xs : List trees.Expr) → length xs ≡ 0 → operands make (map plain_expr xs) ≡ Constant Nil
no_operands make [] e = refl
no_operands make (x ∷ xs) e = absurd (omega arith)
