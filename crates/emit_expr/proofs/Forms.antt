-- The code of each form of expression, from that of its parts.
use Rattle.std.proofs.Common.{◌≡◌, ℕ, suc, ◌+◌, ◌*◌, ◌<◌, ◌≤◌, true, false, List, [], ◌∷◌, length, Some, None, nat_lt, refl, sym, ap, ◌∙◌, subst, arith}
use Rattle.std.specs.Prelude.{slice_get, ◌||◌, Result, Ok, Err, OnOk, if◌then◌else◌}
use Rattle.std.proofs.lemmas.Bool.{ltb-false, lt-ltb, le-leb, lt-leb}
use Rattle.mpy_base.specs.Val.{Val, Str}
use Rattle.emit_draft.specs.bc_scheme.bc_ops.declared.instr.Op.{Op}
use Rattle.emit_draft.specs.bc_scheme.bc_ops.declared.instr.Op.TheVariants as ops
use Rattle.emit_draft.specs.bc_scheme.bc_ops.declared.instr.Instr.TheVariants as instrs
use Rattle.emit_draft.specs.bc_scheme.bc_machine.Library.{Item, Plain, Names, Loads, Jumps}
use Rattle.py_tree.specs.declared.expr.UnaryOp.{UnaryOp}
use Rattle.py_tree.specs.declared.expr.BinaryOp.{BinaryOp}
use Rattle.py_tree.specs.declared.expr.CompareOp.{CompareOp}
use Rattle.emit_draft.specs.bc_scheme.py_meaning.Tree.{Name, Expr, Constant, Named, Unary, Not, Binary, And, Or, Compare, Cond, TupleOf, ListOf, DictOf, Attr, Index, Call, Method, Exprs, Pairs, Keys, count, pair_count, key_count}
use Rattle.emit_draft.specs.bc_scheme.py_meaning.Plain.{call_of, compares}
use Rattle.emit_draft.specs.bc_scheme.Context.{Context, Has, plain, number, loads, constant, unary_number, negation, comparing, is_negated, arithmetic, binary}
use Rattle.emit_draft.specs.bc_scheme.Expressions as stands
use Rattle.emit_draft.specs.bc_scheme.Expressions.{StandsE, StandsEs, StandsC, StandsD, StandsK}
use Rattle.emit_draft.specs.declared.draft.Draft.{Draft}
use Rattle.emit_draft.specs.declared.draft.DraftItem.{DraftItem}
use Rattle.emit_draft.specs.declared.draft.DraftItem.TheVariants as drafts
use Rattle.emit_draft.specs.declared.scope.Scope.{Scope}
use Rattle.emit_draft.specs.Draft.{Labels, Puts, Adds, Binds, PutsCount, passes_items, passes_members}
use Rattle.emit_draft.specs.Emits.{item_at, IsPut, put, IsItem}
use Rattle.emit_draft.proofs.Lists.{left_false}
use Rattle.emit_draft.proofs.Steps.{adds_grown, free_added, free_on, free_put, free_later}
use Rattle.emit_draft.proofs.Emits.{put_emits, count_emits, then_emits, put_after, count_after, label_after, bind_after, as_emits, size_emits}
use Rattle.emit_expr.specs.Crowded.{crowded, crowded_all, crowded_keys}
use Rattle.emit_expr.specs.Emits.{PutsAs, EmitsC, EmitsE, EmitsEs, EmitsD, EmitsK, EmitsLinks, EmitsCallee}
use Rattle.emit_expr.proofs.Links.{crowded_compares}
use Rattle.emit_expr.proofs.Plains.{IsCalled}

pub on_ok : {T E P Q : Type 0} (r : Result T E) → OnOk r P → (P → Q) → OnOk r Q
on_ok (Ok x) h f = f h
on_ok (Err e) h f = h

pub as_plain : {a b : Draft} {s : Scope} {line : ℕ} {x y : Expr} → EmitsE a b s line x → y ≡ x → EmitsE a b s line y
as_plain {a = a} {b = b} {s = s} {line = line} h e = subst (EmitsE a b s line) (sym e) h

-- ---- one instruction

pub puts_name : {a b : Draft} {s : Scope} {line : ℕ} {item : DraftItem} (of : Context → Item) → Puts a b line item → IsItem s item of → PutsAs a b s line of
puts_name {a = a} {b = b} {s = s} {line = line} {item = item} of p i =
    let g = put_emits a b s line item p in
    record {
      by = record {
        grown = g.grown;
        crowded = g.crowded;
        stands = λ c labels f. subst (λ z. IsPut c line (length a.lines) z (length b.lines)) (i.is c labels f.reads) (g.stands c labels f);
      };
    }

pub puts_item : {a b : Draft} {line : ℕ} {item : DraftItem} (s : Scope) (i : Item) → Puts a b line item → ((labels : Labels) → item_at labels item ≡ i) → PutsAs a b s line (λ c. i)
puts_item s i p e = puts_name (λ c. i) p (record { is = λ c labels r. e labels })

literal_row : {c : Context} {line p q : ℕ} {v : Val} → IsPut c line p (constant v) q → StandsE c line p (Constant v) q
literal_row (put h) = stands.literal h

pub literal_emits : {a b : Draft} {s : Scope} {line : ℕ} {v : Val} → PutsAs a b s line (λ c. constant v) → EmitsE a b s line (Constant v)
literal_emits {line = line} {v = v} g = record { by = as_emits (λ c labels p q. StandsE c line p (Constant v) q) (λ c labels p q h. literal_row h) g.by }

name_row : {c : Context} {line p q : ℕ} {n : Name} → IsPut c line p (loads c n) q → StandsE c line p (Named n) q
name_row (put h) = stands.name h

pub name_emits : {a b : Draft} {s : Scope} {line : ℕ} {n : Name} → PutsAs a b s line (λ c. loads c n) → EmitsE a b s line (Named n)
name_emits {line = line} {n = n} g = record { by = as_emits (λ c labels p q. StandsE c line p (Named n) q) (λ c labels p q h. name_row h) g.by }

-- a str by its length
pub short_str : (labels : Labels) (text copy : List ℕ) → copy ≡ text → length text ≤ 10 → item_at labels (drafts.Named ops.LoadConstString copy) ≡ constant (Str text)
short_str labels text copy is h =
    ap (Names ops.LoadConstString) is ∙ sym (ap (λ b. if b then Names ops.LoadConstString text else Loads (Str text)) (le-leb (length text) 10 h))

pub long_str : (labels : Labels) (text copy : List ℕ) → copy ≡ text → 10 < length text → item_at labels (drafts.Str copy) ≡ constant (Str text)
long_str labels text copy is h =
    ap (λ t. Loads (Str t)) is ∙ sym (ap (λ b. if b then Names ops.LoadConstString text else Loads (Str text)) (lt-leb (length text) 10 h))

-- ---- comparisons

straight_row : {c : Context} {line p q : ℕ} {op : CompareOp} → is_negated op ≡ false → IsPut c line p (Plain (instrs.Binary (comparing op))) q → StandsC c line p op q
straight_row e (put h) = stands.straight e h

negated_row : {c : Context} {line p m q : ℕ} {op : CompareOp} → is_negated op ≡ true → IsPut c line p (Plain (instrs.Binary (comparing op))) m → IsPut c line m negation q → StandsC c line p op q
negated_row e (put h) (put k) = stands.negated e h k

pub straight_emits : {a b : Draft} {line n : ℕ} (s : Scope) (op : CompareOp) → n ≡ comparing op → is_negated op ≡ false → Puts a b line (drafts.Plain (instrs.Binary n)) → EmitsC a b s line op
straight_emits {a = a} {b = b} {line = line} s op is e p =
    let h = subst (λ z. Puts a b line (drafts.Plain (instrs.Binary z))) is p in
    record { by = as_emits (λ c labels p q. StandsC c line p op q) (λ c labels p q k. straight_row e k) (put_emits a b s line _ h) }

pub negated_emits : {a b d : Draft} {line n : ℕ} (s : Scope) (op : CompareOp) → n ≡ comparing op → is_negated op ≡ true → Puts a b line (drafts.Plain (instrs.Binary n)) → Puts b d line (drafts.Plain (instrs.Unary 3)) → EmitsC a d s line op
negated_emits {a = a} {b = b} {line = line} s op is e p p2 =
    let h = subst (λ z. Puts a b line (drafts.Plain (instrs.Binary z))) is p in
    record { by = as_emits (λ c labels p q. StandsC c line p op q) (λ c labels p q k. negated_row e k.1 k.2) (put_after (put_emits a b s line _ h) p2) }

-- ---- one and two operands

one_row : {c : Context} {line p m q : ℕ} {e : Expr} {op : UnaryOp} → StandsE c line p e m → IsPut c line m (Plain (instrs.Unary (unary_number op))) q → StandsE c line p (Unary op e) q
one_row se (put h) = stands.one se h

pub unary_emits : {a b d : Draft} {s : Scope} {line n : ℕ} {e : Expr} (op : UnaryOp) → n ≡ unary_number op → EmitsE a b s line e → Puts b d line (drafts.Plain (instrs.Unary n)) → EmitsE a d s line (Unary op e)
unary_emits {b = b} {d = d} {line = line} {e = e} op is ee p =
    let h = subst (λ z. Puts b d line (drafts.Plain (instrs.Unary z))) is p in
    record { by = as_emits (λ c labels p q. StandsE c line p (Unary op e) q) (λ c labels p q k. one_row k.1 k.2) (put_after ee.by h) }

not_row : {c : Context} {line p m q : ℕ} {e : Expr} → StandsE c line p e m → IsPut c line m negation q → StandsE c line p (Not e) q
not_row se (put h) = stands.«not» se h

pub not_emits : {a b d : Draft} {s : Scope} {line : ℕ} {e : Expr} → EmitsE a b s line e → Puts b d line (drafts.Plain (instrs.Unary 3)) → EmitsE a d s line (Not e)
not_emits {line = line} {e = e} ee p = record { by = as_emits (λ c labels p q. StandsE c line p (Not e) q) (λ c labels p q k. not_row k.1 k.2) (put_after ee.by p) }

attr_row : {c : Context} {line p m q : ℕ} {e : Expr} {n : Name} → StandsE c line p e m → IsPut c line m (Names ops.LoadAttr n) q → StandsE c line p (Attr e n) q
attr_row se (put h) = stands.attr se h

pub attr_emits : {a b d : Draft} {s : Scope} {line : ℕ} {e : Expr} {n : Name} → EmitsE a b s line e → Puts b d line (drafts.Named ops.LoadAttr n) → EmitsE a d s line (Attr e n)
attr_emits {line = line} {e = e} {n = n} ee p = record { by = as_emits (λ c labels p q. StandsE c line p (Attr e n) q) (λ c labels p q k. attr_row k.1 k.2) (put_after ee.by p) }

two_row : {c : Context} {line p m n q : ℕ} {x y : Expr} {op : BinaryOp} → StandsE c line p x m → StandsE c line m y n → IsPut c line n (binary op) q → StandsE c line p (Binary op x y) q
two_row sx sy (put h) = stands.two sx sy h

pub binary_emits : {a b d f : Draft} {s : Scope} {line n : ℕ} {x y : Expr} (op : BinaryOp) → n ≡ arithmetic op → EmitsE a b s line x → EmitsE b d s line y → Puts d f line (drafts.Plain (instrs.Binary (n + 13))) → EmitsE a f s line (Binary op x y)
binary_emits {d = d} {f = f} {line = line} {x = x} {y = y} op is ex ey p =
    let h = subst (λ z. Puts d f line (drafts.Plain (instrs.Binary (z + 13)))) is p in
    record { by = as_emits (λ c labels p q. StandsE c line p (Binary op x y) q) (λ c labels p q k. two_row k.1.1 k.1.2 k.2) (put_after (then_emits ex.by ey.by) h) }

index_row : {c : Context} {line p m n q : ℕ} {x y : Expr} → StandsE c line p x m → StandsE c line m y n → IsPut c line n (plain ops.LoadSubscr) q → StandsE c line p (Index x y) q
index_row sx sy (put h) = stands.index sx sy h

pub index_emits : {a b d f : Draft} {s : Scope} {line : ℕ} {x y : Expr} → EmitsE a b s line x → EmitsE b d s line y → Puts d f line (drafts.Plain (instrs.Plain ops.LoadSubscr)) → EmitsE a f s line (Index x y)
index_emits {line = line} {x = x} {y = y} ex ey p = record { by = as_emits (λ c labels p q. StandsE c line p (Index x y) q) (λ c labels p q k. index_row k.1.1 k.1.2 k.2) (put_after (then_emits ex.by ey.by) p) }

-- ---- a choice

cond_row : {c : Context} {line p m m1 n n1 q o e : ℕ} {test x y : Expr} → StandsE c line p test m → IsPut c line m (Jumps ops.PopJumpIfFalse o) m1 → StandsE c line m1 x n → IsPut c line n (Jumps ops.Jump e) n1 → o ≡ n1 → StandsE c line n1 y q → e ≡ q → StandsE c line p (Cond test x y) q
cond_row {c = c} {line = line} {m = m} {n = n} st (put h1) sx (put h2) f sy g = stands.cond st (subst (λ z. Has c line m (Jumps ops.PopJumpIfFalse z)) f h1) sx (subst (λ z. Has c line n (Jumps ops.Jump z)) g h2) sy

pub other_free : {b c1 c2 c3 c4 c5 : Draft} {s : Scope} {line other end : ℕ} {x : Expr} {i j : DraftItem} → Adds b c1 other → Adds c1 c2 end → Puts c2 c3 line i → EmitsE c3 c4 s line x → Puts c4 c5 line j → slice_get c5.labels.items other ≡ Some None
other_free {b = b} {c1 = c1} {c2 = c2} {c3 = c3} {c4 = c4} {c5 = c5} {line = line} {other = other} {end = end} {i = i} {j = j} l1 l2 p1 ex p2 =
    free_put c4 c5 line j other p2 (free_on c3 c4 other ex.by.grown (free_put c2 c3 line i other p1 (free_on c1 c2 other (adds_grown c1 c2 end l2) (free_added b c1 other l1))))

pub end_free : {b c1 c2 c3 c4 c5 c6 c7 : Draft} {s : Scope} {line other end : ℕ} {x y : Expr} {i j : DraftItem} → Adds b c1 other → Adds c1 c2 end → Puts c2 c3 line i → EmitsE c3 c4 s line x → Puts c4 c5 line j → Binds c5 c6 other → EmitsE c6 c7 s line y → slice_get c7.labels.items end ≡ Some None
end_free {b = b} {c1 = c1} {c2 = c2} {c3 = c3} {c4 = c4} {c5 = c5} {c6 = c6} {c7 = c7} {line = line} {other = other} {end = end} {i = i} {j = j} l1 l2 p1 ex p2 b1 ey =
    free_on c6 c7 end ey.by.grown
    (free_later c5 c6 other end b1 (omega (arith, l1.number, l2.number, (adds_grown b c1 other l1).count, Rattle.std.proofs.Common.length-append b.labels.items (None ∷ []), ap length l1.labels))
    (free_put c4 c5 line j end p2 (free_on c3 c4 end ex.by.grown (free_put c2 c3 line i end p1 (free_added c1 c2 end l2)))))

pub cond_emits : {a b c1 c2 c3 c4 c5 c6 c7 c8 : Draft} {s : Scope} {line other end : ℕ} {test x y : Expr}
    → EmitsE a b s line test → Adds b c1 other → Adds c1 c2 end → Puts c2 c3 line (drafts.Jump ops.PopJumpIfFalse other) → EmitsE c3 c4 s line x
    → Puts c4 c5 line (drafts.Jump ops.Jump end) → Binds c5 c6 other → EmitsE c6 c7 s line y → Binds c7 c8 end → EmitsE a c8 s line (Cond test x y)
cond_emits {b = b} {c1 = c1} {line = line} {other = other} {end = end} {test = test} {x = x} {y = y} et l1 l2 p1 ex p2 b1 ey b2 =
    let low : length b.labels.items ≤ length c1.labels.items = (adds_grown b c1 other l1).count in
    let g1 = put_after (label_after (label_after et.by l1) l2) p1 in
    let g2 = put_after (then_emits g1 ex.by) p2 in
    let g3 = bind_after g2 b1 (omega (arith, l1.number, et.by.grown.count)) (other_free l1 l2 p1 ex p2) in
    let g4 = bind_after (then_emits g3 ey.by) b2 (omega (arith, l2.number, low, et.by.grown.count)) (end_free l1 l2 p1 ex p2 b1 ey) in
    record {
      by = as_emits (λ c labels p q. StandsE c line p (Cond test x y) q)
          (λ c labels p q k. cond_row k.0.1.0.1.1.1 k.0.1.0.1.1.2 k.0.1.0.1.2 k.0.1.0.2 k.0.1.1 k.0.2 k.1) g4;
    }

-- ---- displays

tuple_row : {c : Context} {line p m q : ℕ} {es : Exprs} → StandsEs c line p es m → IsPut c line m (number ops.BuildTuple (count es)) q → StandsE c line p (TupleOf es) q
tuple_row se (put h) = stands.tuple se h

pub tuple_emits : {a b d : Draft} {s : Scope} {line n : ℕ} {es : Exprs} → EmitsEs a b s line es → n ≡ count es → PutsCount b d line ops.BuildTuple (passes_items n) n → EmitsE a d s line (TupleOf es)
tuple_emits {b = b} {d = d} {line = line} {es = es} ee is p =
    let h = subst (λ z. PutsCount b d line ops.BuildTuple (passes_items z) z) is p in
    record { by = as_emits (λ c labels p q. StandsE c line p (TupleOf es) q) (λ c labels p q k. tuple_row k.1 k.2.1) (count_after ee.by h) }

items_row : {c : Context} {line p m q : ℕ} {es : Exprs} → StandsEs c line p es m → IsPut c line m (number ops.BuildList (count es)) q → StandsE c line p (ListOf es) q
items_row se (put h) = stands.items se h

pub list_emits : {a b d : Draft} {s : Scope} {line n : ℕ} {es : Exprs} → EmitsEs a b s line es → n ≡ count es → PutsCount b d line ops.BuildList (passes_items n) n → EmitsE a d s line (ListOf es)
list_emits {b = b} {d = d} {line = line} {es = es} ee is p =
    let h = subst (λ z. PutsCount b d line ops.BuildList (passes_items z) z) is p in
    record { by = as_emits (λ c labels p q. StandsE c line p (ListOf es) q) (λ c labels p q k. items_row k.1 k.2.1) (count_after ee.by h) }

dict_row : {c : Context} {line p m q : ℕ} {pairs : Pairs} → IsPut c line p (number ops.BuildMap (pair_count pairs)) m → StandsD c line m pairs q → StandsE c line p (DictOf pairs) q
dict_row (put h) sd = stands.dict h sd

pub dict_emits : {a b d : Draft} {s : Scope} {line n : ℕ} {pairs : Pairs} → n ≡ pair_count pairs → PutsCount a b line ops.BuildMap (passes_items n) n → EmitsD b d s line pairs → EmitsE a d s line (DictOf pairs)
dict_emits {a = a} {b = b} {s = s} {line = line} {pairs = pairs} is p ed =
    let h = subst (λ z. PutsCount a b line ops.BuildMap (passes_items z) z) is p in
    record { by = as_emits (λ c labels p q. StandsE c line p (DictOf pairs) q) (λ c labels p q k. dict_row k.1.1 k.2) (then_emits (count_emits a b s line ops.BuildMap _ _ h) ed.by) }

-- ---- calls

few_args : (args keys : ℕ) → passes_members args keys ≡ false → nat_lt args 256 ≡ true
few_args args keys e =
    let few : args ≤ 255 = ltb-false 255 args (left_false (nat_lt 255 args) (nat_lt 255 keys) e) in
    lt-ltb args 256 (omega arith)

callee_row : {c : Context} {line p q : ℕ} {f : Expr} → IsCalled f → StandsE c line p f q → (args : Exprs) (keys : Keys) (m n : ℕ) → nat_lt (count args) 256 ≡ true → StandsEs c line q args m → StandsK c line m keys n → Has c line n (number ops.CallFunction (count args + 256 * key_count keys)) → StandsE c line p (call_of f args keys) (suc n)
callee_row {c = c} {line = line} {p = p} {f = f} is sf args keys m n few sa sk h = subst (λ z. StandsE c line p z (suc n)) (sym (is.is args keys)) (stands.call few sf sa sk h)

pub function_emits : {a b : Draft} {s : Scope} {line : ℕ} {f : Expr} → IsCalled f → EmitsE a b s line f → EmitsCallee a b s line f ops.CallFunction
function_emits is g = record { by = as_emits _ (λ c labels p q k. callee_row is k) g.by }

method_row : {c : Context} {line p m q : ℕ} {e : Expr} {name : Name} → StandsE c line p e m → IsPut c line m (Names ops.LoadMethod name) q → (args : Exprs) (keys : Keys) (n k : ℕ) → nat_lt (count args) 256 ≡ true → StandsEs c line q args n → StandsK c line n keys k → Has c line k (number ops.CallMethod (count args + 256 * key_count keys)) → StandsE c line p (Method e name args keys) (suc k)
method_row se (put h) args keys n k few sa sk i = stands.method few se h sa sk i

pub method_emits : {a b d : Draft} {s : Scope} {line : ℕ} {e : Expr} {name : Name} → EmitsE a b s line e → Puts b d line (drafts.Named ops.LoadMethod name) → EmitsCallee a d s line (Attr e name) ops.CallMethod
method_emits ee p = record { by = as_emits _ (λ c labels p q k. method_row k.1 k.2) (put_after ee.by p) }

pub as_callee : {a b : Draft} {s : Scope} {line : ℕ} {op : Op} {x y : Expr} → EmitsCallee a b s line x op → y ≡ x → EmitsCallee a b s line y op
as_callee {a = a} {b = b} {s = s} {line = line} {op = op} h e = subst (λ z. EmitsCallee a b s line z op) (sym e) h

crowded_call : (f : Expr) (args : Exprs) (keys : Keys) → (((crowded f || crowded_all args) || crowded_keys keys) || passes_members (count args) (key_count keys)) ≡ crowded (call_of f args keys)
crowded_call (Constant v) args keys = refl
crowded_call (Named n) args keys = refl
crowded_call (Unary op x) args keys = refl
crowded_call (Not x) args keys = refl
crowded_call (Binary op x y) args keys = refl
crowded_call (And x xs) args keys = refl
crowded_call (Or x xs) args keys = refl
crowded_call (Compare x links) args keys = refl
crowded_call (Cond x y z) args keys = refl
crowded_call (TupleOf xs) args keys = refl
crowded_call (ListOf xs) args keys = refl
crowded_call (DictOf xs) args keys = refl
crowded_call (Attr x n) args keys = refl
crowded_call (Index x y) args keys = refl
crowded_call (Call x xs ks) args keys = refl
crowded_call (Method x n xs ks) args keys = refl

call_row : {c : Context} {line p q : ℕ} {args : Exprs} {keys : Keys} {op : Op} {r m n : ℕ} (f : Expr)
    → ((args : Exprs) (keys : Keys) (m n : ℕ) → nat_lt (count args) 256 ≡ true → StandsEs c line r args m → StandsK c line m keys n → Has c line n (number op (count args + 256 * key_count keys)) → StandsE c line p (call_of f args keys) (suc n))
    → StandsEs c line r args m → StandsK c line m keys n → passes_members (count args) (key_count keys) ≡ false → IsPut c line n (number op (count args + 256 * key_count keys)) q → StandsE c line p (call_of f args keys) q
call_row {args = args} {keys = keys} {m = m} {n = n} f callee sa sk few (put h) = callee args keys m n (few_args (count args) (key_count keys) few) sa sk h

pub call_emits : {a b d f g : Draft} {s : Scope} {line n k : ℕ} {op : Op} {callee : Expr} {args : Exprs} {keys : Keys} → EmitsCallee a b s line callee op → EmitsEs b d s line args → EmitsK d f s line keys → n ≡ count args → k ≡ key_count keys → PutsCount f g line op (passes_members n k) (n + 256 * k) → EmitsE a g s line (call_of callee args keys)
call_emits {f = f} {g = g} {line = line} {n = n} {k = k} {op = op} {callee = callee} {args = args} {keys = keys} ec ea ek n_is k_is p =
    let h1 = subst (λ z. PutsCount f g line op (passes_members z k) (z + 256 * k)) n_is p in
    let h2 = subst (λ z. PutsCount f g line op (passes_members (count args) z) (count args + 256 * z)) k_is h1 in
    record {
      by = size_emits (crowded_call callee args keys) (as_emits (λ c labels p q. StandsE c line p (call_of callee args keys) q)
          (λ c labels p q x. call_row callee x.1.1.1 x.1.1.2 x.1.2 x.2.0 x.2.1) (count_after (then_emits (then_emits ec.by ea.by) ek.by) h2));
    }

pub compare_emits : {a b d : Draft} {s : Scope} {line : ℕ} {first : Expr} {links : List (CompareOp × Expr)} → EmitsE a b s line first → EmitsLinks b d s line links → EmitsE a d s line (compares first links)
compare_emits {line = line} {first = first} {links = links} ef el = record {
  by = size_emits (crowded_compares first links) (as_emits (λ c labels p q. StandsE c line p (compares first links) q) (λ c labels p q k. k.2 first p k.1) (then_emits ef.by el.by));
}
