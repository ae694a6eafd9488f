-- The code of functions' defaults and stores, from that of their parts.
use Rattle.std.proofs.Common.{◌≡◌, ℕ, suc, ◌+◌, Bool, true, false, List, [], ◌∷◌, length, Option, Some, None, refl, sym, ap, ◌∙◌, subst, arith}
use Rattle.std.specs.Prelude.{slice_get, ◌||◌, filter, is_some, if◌then◌else◌}
use Rattle.emit_expr.specs.bc_machine.bc_ops.declared.instr.Op.TheVariants as ops
use Rattle.emit_expr.specs.bc_machine.bc_ops.declared.instr.Instr.TheVariants as instrs
use Rattle.emit_expr.specs.bc_machine.Library.{Name}
use Rattle.py_tree.specs.declared.expr.Expr as trees
use Rattle.py_tree.specs.declared.stmt.Param.{Param}
use Rattle.emit_expr.specs.py_meaning.Tree.{Expr, Exprs, NoExpr, More, Def, Block, count}
use Rattle.emit_expr.specs.py_meaning.Plain.{plain_expr, on_option, defaults_of}
use Rattle.emit_expr.specs.bc_scheme.Context.{Context, IsChild, plain, number, stores}
use Rattle.emit_expr.specs.bc_scheme.Expressions.{StandsEs, no_expr, next}
use Rattle.emit_expr.specs.bc_scheme.Statements as stands
use Rattle.emit_expr.specs.bc_scheme.Statements.{Around, StandsDef, StandsS}
use Rattle.emit_expr.specs.emit_draft.declared.draft.Draft.{Draft}
use Rattle.emit_expr.specs.emit_draft.declared.draft.DraftItem.TheVariants as drafts
use Rattle.emit_expr.specs.emit_draft.declared.scope.Scope.{Scope}
use Rattle.emit_expr.specs.emit_draft.Draft.{Puts, PutsCount, passes_items}
use Rattle.emit_expr.specs.emit_draft.Emits.{Emits, IsPut, put}
use Rattle.emit_expr.proofs.emit_draft_lemmas.Lists.{or_false}
use Rattle.emit_expr.proofs.emit_draft_lemmas.Emits.{put_emits, no_emits, then_emits, put_after, count_after, as_emits, size_emits}
use Rattle.emit_expr.specs.Crowded.{crowded, crowded_all}
use Rattle.emit_expr.specs.Emits.{PutsAs, EmitsE, EmitsEs}
use Rattle.emit_stmt.specs.SimpleCrowded.{crowded_defaults}
use Rattle.emit_stmt.specs.SimpleEmits.{EmitsMaking, EmitsDef}
use Rattle.emit_stmt.proofs.SimpleRows.{Row, any_crowds}

-- ---- defaults

-- that of one parameter
abbrev pub default_of : Option trees.Expr → Exprs
default_of default = on_option NoExpr (λ e. More e NoExpr) default

pub no_default : (a : Draft) (s : Scope) (line : ℕ) (default : Option trees.Expr) → default ≡ None → EmitsEs a a s line (default_of default)
no_default a s line default is = subst (λ z. EmitsEs a a s line (default_of z)) (sym is) (record { by = no_emits a s false (λ c labels p q. StandsEs c line p NoExpr q) (λ c labels p. no_expr) })

pub some_default : {a b : Draft} {s : Scope} {line : ℕ} (default : Option trees.Expr) (x : trees.Expr) → default ≡ Some x → EmitsE a b s line (plain_expr x) → EmitsEs a b s line (default_of default)
some_default {a = a} {b = b} {s = s} {line = line} default x is e = subst (λ z. EmitsEs a b s line (default_of z)) (sym is) (record {
  by = size_emits (sym (or_false (crowded (plain_expr x)))) (as_emits (λ c labels p q. StandsEs c line p (More (plain_expr x) NoExpr) q) (λ c labels p q k. next k no_expr) e.by);
})

abbrev pub default_crowds : Param → Bool
default_crowds param = crowded_all (default_of param.default)

abbrev pub Default : (line : ℕ) → Context → ℕ → Param → ℕ → Type 0
Default line c p param q = StandsEs c line p (default_of param.default) q

one_more : {c : Context} {line p m q : ℕ} (x : Option trees.Expr) (rest : Exprs) → StandsEs c line p (default_of x) m → StandsEs c line m rest q → StandsEs c line p (on_option rest (λ e. More e rest) x) q
one_more None rest no_expr k = k
one_more (Some x) rest (next h no_expr) k = next h k

default_row : {c : Context} {line p q : ℕ} (params : List Param) → Row (Default line c) p params q → StandsEs c line p (defaults_of params) q
default_row {c = c} {line = line} {p = p} [] row = subst (StandsEs c line p NoExpr) row no_expr
default_row {c = c} {line = line} {p = p} {q = q} (param ∷ params) row = one_more param.default (defaults_of params) row.1 (default_row {p = row.0} params row.2)

one_crowds : (x : Option trees.Expr) (rest : Exprs) → (crowded_all (default_of x) || crowded_all rest) ≡ crowded_all (on_option rest (λ e. More e rest) x)
one_crowds None rest = refl
one_crowds (Some x) rest = ap (λ z. z || crowded_all rest) (or_false (crowded (plain_expr x)))

default_all : (params : List Param) → any_crowds default_crowds params ≡ crowded_all (defaults_of params)
default_all [] = refl
default_all (param ∷ params) = ap (λ z. default_crowds param || z) (default_all params) ∙ one_crowds param.default (defaults_of params)

pub defaults_emit : {a b : Draft} {s : Scope} {line : ℕ} (params : List Param) → Emits (length a.labels.items) a b s false (any_crowds default_crowds params) (λ c labels p q. Row (Default line c) p params q) → EmitsEs a b s line (defaults_of params)
defaults_emit {line = line} params g = record { by = size_emits (default_all params) (as_emits (λ c labels p q. StandsEs c line p (defaults_of params) q) (λ c labels p q k. default_row params k) g) }

given_more : (x : Option trees.Expr) (rest : Exprs) (n : ℕ) → n ≡ count rest → (if is_some x then suc n else n) ≡ count (on_option rest (λ e. More e rest) x)
given_more None rest n is = is
given_more (Some x) rest n is = ap suc is

given_length : (b : Bool) (param : Param) (params : List Param) → length (if b then param ∷ params else params) ≡ (if b then suc (length params) else length params)
given_length true param params = refl
given_length false param params = refl

pub given_count : (params : List Param) → length (filter (λ (param : Param). is_some param.default) params) ≡ count (defaults_of params)
given_count [] = refl
given_count (param ∷ params) =
    given_length (is_some param.default) param (filter (λ (p : Param). is_some p.default) params) ∙ given_more param.default (defaults_of params) _ (given_count params)

-- ---- making

bare_row : {c : Context} {line number_of child p q : ℕ} → slice_get c.children child ≡ Some number_of → IsPut c line p (number ops.MakeFunction child) q → StandsDef c line number_of p NoExpr q
bare_row is (put h) = stands.bare is h

pub bare_emits : {a b : Draft} {line child : ℕ} (s : Scope) (defaults : Exprs) → count defaults ≡ 0 → Puts a b line (drafts.Plain (instrs.Num ops.MakeFunction child)) → EmitsMaking a b s line child defaults
bare_emits {a = a} {b = b} {line = line} {child = child} s NoExpr none p = record {
  by = as_emits (λ c labels p q. (number_of : ℕ) → slice_get c.children child ≡ Some number_of → StandsDef c line number_of p NoExpr q) (λ c labels p q k n is. bare_row is k) (put_emits a b s line _ p);
}
bare_emits s (More e es) none p = absurd (omega arith)

with_row : {c : Context} {line number_of child p m m1 m2 q : ℕ} {e : Expr} {es : Exprs} → slice_get c.children child ≡ Some number_of → StandsEs c line p (More e es) m → IsPut c line m (number ops.BuildTuple (count (More e es))) m1
    → IsPut c line m1 (plain ops.LoadNull) m2 → IsPut c line m2 (number ops.MakeFunctionDefargs child) q → StandsDef c line number_of p (More e es) q
with_row is se (put h1) (put h2) (put h3) = stands.with_defaults is se h1 h2 h3

pub with_emits : {a b d f g : Draft} {s : Scope} {line child n : ℕ} (defaults : Exprs) → (count defaults ≡ 0 → ⊥) → n ≡ count defaults → EmitsEs a b s line defaults → PutsCount b d line ops.BuildTuple (passes_items n) n
    → Puts d f line (drafts.Plain (instrs.Plain ops.LoadNull)) → Puts f g line (drafts.Plain (instrs.Num ops.MakeFunctionDefargs child)) → EmitsMaking a g s line child defaults
with_emits NoExpr some is ee p1 p2 p3 = absurd (some refl)
with_emits {b = b} {d = d} {line = line} {child = child} (More e es) some is ee p1 p2 p3 =
    let h = subst (λ z. PutsCount b d line ops.BuildTuple (passes_items z) z) is p1 in
    record {
      by = as_emits (λ c labels p q. (number_of : ℕ) → slice_get c.children child ≡ Some number_of → StandsDef c line number_of p (More e es) q) (λ c labels p q k n at. with_row at k.1.1.1 k.1.1.2.1 k.1.2 k.2)
          (put_after (put_after (count_after ee.by h) p2) p3);
    }

-- ---- functions

def_row : {c : Context} {a : Around} {line p m q n : ℕ} {x : Name} {ps : List Name} {ds : Exprs} {body : Block} → IsChild c (c.base + n) x (count ds) → StandsDef c line (c.base + n) p ds m → IsPut c line m (stores c x) q → StandsS c a line p (Def n x ps ds body) q
def_row child sd (put h) = stands.def child sd h

pub def_emits : {a b d : Draft} {s : Scope} {line child : ℕ} {name : Name} {defaults : Exprs} (number_of : ℕ) → EmitsMaking a b s line child defaults → PutsAs b d s line (λ c. stores c name) → EmitsDef a d s line child number_of name defaults
def_emits {line = line} {child = child} {name = name} {defaults = defaults} n em p = record {
  by = size_emits (or_false (crowded_defaults defaults)) (as_emits
      (λ c labels p q. slice_get c.children child ≡ Some (c.base + n) → IsChild c (c.base + n) name (count defaults) → (around : Around) (params : List Name) (body : Block) → StandsS c around line p (Def n name params defaults body) q)
      (λ c labels p q k at is around params body. def_row is (k.1 (c.base + n) at) k.2) (then_emits em.by p.by));
}
