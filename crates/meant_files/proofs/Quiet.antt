-- The instructions of expressions and stores import nothing.
use Rattle.std.proofs.Common.{◌≡◌, ℕ, zero, suc, Bool, true, false, List, [], ◌∷◌, ◌++◌, length, drop, Option, Some, None, refl, ap, ◌∙◌, slice_get, if◌then◌else◌}
use Rattle.std.specs.Prelude.{nat_le}
use Rattle.meant_runs.specs.mpy_base.Val.{Val, Nil, Truth, Int, Str}
use Rattle.tr_source.specs.bc_scheme.bc_ops.declared.instr.Op.{Op}
use Rattle.tr_source.specs.bc_scheme.bc_ops.declared.instr.Op.TheVariants as ops
use Rattle.tr_source.specs.py_tree.declared.expr.CompareOp.{CompareOp}
use Rattle.tr_source.specs.py_tree.declared.stmt.Alias.{Alias}
use Rattle.tr_source.specs.bc_scheme.py_meaning.Tree.{Name, Expr, Exprs, Links, Pairs, Keys, Target, Targets}
use Rattle.tr_source.specs.bc_scheme.py_meaning.Statements.{from_name}
use Rattle.tr_source.specs.bc_scheme.bc_machine.Library.{Item, Names, Loads, Line}
use Rattle.tr_source.specs.bc_scheme.Context.{Context, loads, stores, deletes, load_by, store_by, delete_by, slot_of, constant}
use Rattle.tr_source.specs.bc_scheme.Expressions.{StandsC, StandsE, StandsEs, StandsO, StandsL, StandsD, StandsK, straight, negated, literal, name, one, «not», two, «and», «or», compare, chain, cond, tuple, items, dict, attr, index, call, method, no_expr, next, no_operand, operand, last, link, no_pair, pair, no_key, key}
use Rattle.tr_source.specs.bc_scheme.Statements.{StandsT, StandsTs, StandsA, StandsG, StandsGs, StandsR, StandsN, StandsF, StandsJ, StandsDef, to_name, to_attr, to_index, to_each, one_store, next_store, one_assign, next_assign, gone_name, gone_index, one_gone, next_gone, no_part, part, no_text, text, no_name, taken, jumped, popped, unwound, bare, with_defaults}

-- the name that an instruction imports
abbrev pub imported_by : Item → List Name
imported_by (Names ops.ImportName n) = n ∷ []
imported_by _ = []

abbrev pub imported : List Line → List Name
imported [] = []
imported (l ∷ ls) = imported_by l.item ++ imported ls

pub one_line : (ls : List Line) (p : ℕ) (l : Line) → slice_get ls p ≡ Some l → imported (drop p ls) ≡ imported_by l.item ++ imported (drop (suc p) ls)
one_line [] p l e = absurd cc
one_line (x ∷ ls) zero l e = let same : x ≡ l = cc in ap (λ (y : Line). imported_by y.item ++ imported ls) same
one_line (x ∷ ls) (suc p) l e = one_line ls p l e

chosen : (b : Bool) (x y : Item) → imported_by x ≡ [] → imported_by y ≡ [] → imported_by (if b then x else y) ≡ []
chosen true x y e f = e
chosen false x y e f = f

named_by : (b : Bool) (own other : Op) (n : Name) → imported_by (Names own n) ≡ [] → imported_by (Names other n) ≡ [] → imported_by (Names (if b then own else other) n) ≡ []
named_by true own other n e f = e
named_by false own other n e f = f

none_constant : (v : Val) → imported_by (constant v) ≡ []
none_constant Nil = refl
none_constant (Truth true) = refl
none_constant (Truth false) = refl
none_constant (Int z) = refl
none_constant (Str t) = chosen (nat_le (length t) 10) (Names ops.LoadConstString t) (Loads (Str t)) refl refl
none_constant v = refl

none_load : (c : Context) (n : Name) (o : Option ℕ) → imported_by (load_by c n o) ≡ []
none_load c n (Some slot) = refl
none_load c n None = named_by c.is_module ops.LoadName ops.LoadGlobal n refl refl

none_store : (c : Context) (n : Name) (o : Option ℕ) → imported_by (store_by c n o) ≡ []
none_store c n (Some slot) = refl
none_store c n None = named_by c.is_module ops.StoreName ops.StoreGlobal n refl refl

none_delete : (c : Context) (n : Name) (o : Option ℕ) → imported_by (delete_by c n o) ≡ []
none_delete c n (Some slot) = refl
none_delete c n None = named_by c.is_module ops.DeleteName ops.DeleteGlobal n refl refl

-- what is imported from a position on
abbrev pub from_at : Context → ℕ → List Name
from_at c p = imported (drop p c.lines)

-- nothing is imported between two positions
pub record Quiet (c : Context) (p q : ℕ) : Type 0 where
  pub same : from_at c p ≡ from_at c q

infixr 20 ◌>>◌
pub ◌>>◌ : {c : Context} {p m q : ℕ} → Quiet c p m → Quiet c m q → Quiet c p q
a >> b = record { same = a.same ∙ b.same }

pub nowhere : {c : Context} {p : ℕ} → Quiet c p p
nowhere = record { same = refl }

pub quiet : {c : Context} {n p : ℕ} {item : Item} → slice_get c.lines p ≡ Some (record { item = item; line = n }) → imported_by item ≡ [] → Quiet c p (suc p)
quiet {c = c} {n = n} {p = p} {item = item} h none = record { same = one_line c.lines p (record { item = item; line = n }) h ∙ ap (λ (z : List Name). z ++ from_at c (suc p)) none }

pub quiet_load : {c : Context} {n p : ℕ} (x : Name) → slice_get c.lines p ≡ Some (record { item = loads c x; line = n }) → Quiet c p (suc p)
quiet_load {c = c} x h = quiet h (none_load c x (slot_of c x))

pub quiet_store : {c : Context} {n p : ℕ} (x : Name) → slice_get c.lines p ≡ Some (record { item = stores c x; line = n }) → Quiet c p (suc p)
quiet_store {c = c} x h = quiet h (none_store c x (slot_of c x))

pub quiet_delete : {c : Context} {n p : ℕ} (x : Name) → slice_get c.lines p ≡ Some (record { item = deletes c x; line = n }) → Quiet c p (suc p)
quiet_delete {c = c} x h = quiet h (none_delete c x (slot_of c x))

quiet_c : {c : Context} {line p q : ℕ} {op : CompareOp} → StandsC c line p op q → Quiet c p q
quiet_c (straight x h) = quiet h refl
quiet_c (negated x h h1) = quiet h refl >> quiet h1 refl

mutual
  pub quiet_e : {c : Context} {line p q : ℕ} {e : Expr} → StandsE c line p e q → Quiet c p q
  quiet_e (literal {v = v} h) = quiet h (none_constant v)
  quiet_e (name {n = n} h) = quiet_load n h
  quiet_e (one d h) = quiet_e d >> quiet h refl
  quiet_e («not» d h) = quiet_e d >> quiet h refl
  quiet_e (two d d1 h) = quiet_e d >> quiet_e d1 >> quiet h refl
  quiet_e («and» d d1) = quiet_e d >> quiet_o d1
  quiet_e («or» d d1) = quiet_e d >> quiet_o d1
  quiet_e (compare d d1 d2) = quiet_e d >> quiet_e d1 >> quiet_c d2
  quiet_e (chain d d1 h h1 h2) = quiet_e d >> quiet_l d1 >> quiet h refl >> quiet h1 refl >> quiet h2 refl
  quiet_e (cond d h d1 h1 d2) = quiet_e d >> quiet h refl >> quiet_e d1 >> quiet h1 refl >> quiet_e d2
  quiet_e (tuple d h) = quiet_es d >> quiet h refl
  quiet_e (items d h) = quiet_es d >> quiet h refl
  quiet_e (dict h d) = quiet h refl >> quiet_d d
  quiet_e (attr d h) = quiet_e d >> quiet h refl
  quiet_e (index d d1 h) = quiet_e d >> quiet_e d1 >> quiet h refl
  quiet_e (call few d d1 d2 h) = quiet_e d >> quiet_es d1 >> quiet_k d2 >> quiet h refl
  quiet_e (method few d h d1 d2 h1) = quiet_e d >> quiet h refl >> quiet_es d1 >> quiet_k d2 >> quiet h1 refl

  pub quiet_es : {c : Context} {line p q : ℕ} {es : Exprs} → StandsEs c line p es q → Quiet c p q
  quiet_es no_expr = nowhere
  quiet_es (next d d1) = quiet_e d >> quiet_es d1

  quiet_o : {c : Context} {line end p q : ℕ} {op : Op} {es : Exprs} → StandsO c line op end p es q → Quiet c p q
  quiet_o no_operand = nowhere
  quiet_o (operand h d d1) = quiet h refl >> quiet_e d >> quiet_o d1

  quiet_l : {c : Context} {line fail p q : ℕ} {links : Links} → StandsL c line fail p links q → Quiet c p q
  quiet_l (last d d1) = quiet_e d >> quiet_c d1
  quiet_l (link d h h1 d1 h2 d2) = quiet_e d >> quiet h refl >> quiet h1 refl >> quiet_c d1 >> quiet h2 refl >> quiet_l d2

  quiet_d : {c : Context} {line p q : ℕ} {pairs : Pairs} → StandsD c line p pairs q → Quiet c p q
  quiet_d no_pair = nowhere
  quiet_d (pair d d1 h d2) = quiet_e d >> quiet_e d1 >> quiet h refl >> quiet_d d2

  quiet_k : {c : Context} {line p q : ℕ} {keys : Keys} → StandsK c line p keys q → Quiet c p q
  quiet_k no_key = nowhere
  quiet_k (key h d d1) = quiet h refl >> quiet_e d >> quiet_k d1

mutual
  pub quiet_t : {c : Context} {line p q : ℕ} {t : Target} → StandsT c line p t q → Quiet c p q
  quiet_t (to_name {n = n} h) = quiet_store n h
  quiet_t (to_attr d h) = quiet_e d >> quiet h refl
  quiet_t (to_index d d1 h) = quiet_e d >> quiet_e d1 >> quiet h refl
  quiet_t (to_each h d) = quiet h refl >> quiet_ts d

  quiet_ts : {c : Context} {line p q : ℕ} {ts : Targets} → StandsTs c line p ts q → Quiet c p q
  quiet_ts (one_store d) = quiet_t d
  quiet_ts (next_store d d1) = quiet_t d >> quiet_ts d1

pub quiet_a : {c : Context} {line p q : ℕ} {ts : Targets} → StandsA c line p ts q → Quiet c p q
quiet_a (one_assign d) = quiet_t d
quiet_a (next_assign h d d1) = quiet h refl >> quiet_t d >> quiet_a d1

quiet_g : {c : Context} {line p q : ℕ} {t : Target} → StandsG c line p t q → Quiet c p q
quiet_g (gone_name {n = n} h) = quiet_delete n h
quiet_g (gone_index d d1 h h1 h2) = quiet_e d >> quiet_e d1 >> quiet h refl >> quiet h1 refl >> quiet h2 refl

pub quiet_gs : {c : Context} {line p q : ℕ} {ts : Targets} → StandsGs c line p ts q → Quiet c p q
quiet_gs (one_gone d) = quiet_g d
quiet_gs (next_gone d d1) = quiet_g d >> quiet_gs d1

pub quiet_r : {c : Context} {line p q : ℕ} {ns : List Name} → StandsR c line p ns q → Quiet c p q
quiet_r no_part = nowhere
quiet_r (part h d) = quiet h refl >> quiet_r d

pub quiet_n : {c : Context} {line p q : ℕ} {aliases : List Alias} → StandsN c line p aliases q → Quiet c p q
quiet_n no_text = nowhere
quiet_n (text h d) = quiet h refl >> quiet_n d

pub quiet_f : {c : Context} {line p q : ℕ} {aliases : List Alias} → StandsF c line p aliases q → Quiet c p q
quiet_f no_name = nowhere
quiet_f (taken {a = a} h h1 d) = quiet h refl >> quiet_store (from_name a.name a.bound) h1 >> quiet_f d

pub quiet_j : {c : Context} {line target count p q : ℕ} {iterator : Bool} → StandsJ c line target count iterator p q → Quiet c p q
quiet_j (jumped h) = quiet h refl
quiet_j (popped h h1 h2 h3 h4) = quiet h refl >> quiet h1 refl >> quiet h2 refl >> quiet h3 refl >> quiet h4 refl
quiet_j (unwound few h) = quiet h refl

pub quiet_def : {c : Context} {line number_of p q : ℕ} {es : Exprs} → StandsDef c line number_of p es q → Quiet c p q
quiet_def (bare child h) = quiet h refl
quiet_def (with_defaults child d h h1 h2) = quiet_es d >> quiet h refl >> quiet h1 refl >> quiet h2 refl
