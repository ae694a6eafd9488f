-- Kinds of exceptions, and what is under which.
use Rattle.std.proofs.Common.{◌≡◌, ℕ, zero, suc, ◌<◌, Bool, true, false, ◌||◌, Option, Some, None, refl, sym, ap, ◌∙◌, subst, arith}
use Rattle.std.specs.Bool.{Decides}
use Rattle.std.specs.List.{list_any}
use Rattle.std.proofs.Math.Bool.{or-true}
use Rattle.std.proofs.lemmas.Slice.Eq.{bytes_eq-Decides}
use Rattle.mpy_base.specs.declared.builtin.Builtin.TheVariants as builtins
use Rattle.mpy_base.specs.declared.kind.Kind.{Kind}
use Rattle.mpy_base.specs.declared.kind.Kind.TheVariants as kinds
use Rattle.mpy_base.specs.Kind.{parent_of, IsUnder, itself, below, kind_name}
use Rattle.mpy_base.proofs.KindTree.{depth, depth_falls}
use Rattle.prim_builtins.specs.py_primitives.Builtins.{global_named}
use Rattle.prim_builtins.specs.py_primitives.Operators.{lineage, is_kind, is_under}

-- a kind is found by its name
found : (kind : Kind) → global_named (kind_name kind) ≡ Some (builtins.Kind kind)
found kinds.BaseException = refl
found kinds.SystemExit = refl
found kinds.KeyboardInterrupt = refl
found kinds.Exception = refl
found kinds.ArithmeticError = refl
found kinds.OverflowError = refl
found kinds.ZeroDivisionError = refl
found kinds.AssertionError = refl
found kinds.AttributeError = refl
found kinds.EofError = refl
found kinds.ImportError = refl
found kinds.LookupError = refl
found kinds.IndexError = refl
found kinds.KeyError = refl
found kinds.MemoryError = refl
found kinds.NameError = refl
found kinds.OsError = refl
found kinds.RuntimeError = refl
found kinds.NotImplementedError = refl
found kinds.StopIteration = refl
found kinds.SyntaxError = refl
found kinds.TypeError = refl
found kinds.ValueError = refl

-- so no two kinds have one name
one_kind : (a b : Kind) → kind_name a ≡ kind_name b → a ≡ b
one_kind a b e =
    let same : Some (builtins.Kind a) ≡ Some (builtins.Kind b) = sym (found a) ∙ (ap global_named e ∙ found b) in
    cc

above : (kind other : Kind) (n : ℕ) (b : Bool) (p : Option Kind) → is_kind other kind ≡ b → parent_of kind ≡ p → ((up : Kind) → list_any (is_kind other) (lineage n (Some up)) ≡ true → IsUnder up other)
    → (b || list_any (is_kind other) (lineage n p)) ≡ true → IsUnder kind other
above kind other n true p e f each t = subst (λ (k : Kind). IsUnder kind k) (sym (one_kind other kind ((bytes_eq-Decides (kind_name other) (kind_name kind)).0 e))) itself
above kind other n false (Some up) e f each t = below f (each up t)
above kind other zero false None e f each t = absurd cc
above kind other (suc n) false None e f each t = absurd cc

in_lineage : (n : ℕ) (kind other : Kind) → list_any (is_kind other) (lineage n (Some kind)) ≡ true → IsUnder kind other
in_lineage zero kind other t = absurd cc
in_lineage (suc n) kind other t = above kind other n (is_kind other kind) (parent_of kind) refl refl (λ up. in_lineage n up other) t

of_lineage : (n : ℕ) (kind other : Kind) → depth kind < n → IsUnder kind other → list_any (is_kind other) (lineage n (Some kind)) ≡ true
of_lineage zero kind other lt under = absurd (omega arith)
of_lineage (suc n) kind other lt itself = ap (λ (b : Bool). b || list_any (is_kind kind) (lineage n (parent_of kind))) ((bytes_eq-Decides (kind_name kind) (kind_name kind)).1 refl)
of_lineage (suc n) kind other lt (below {parent = up} f under) =
    let shallow = depth_falls kind up f in
    ap (λ (p : Option Kind). is_kind other kind || list_any (is_kind other) (lineage n p)) f
    ∙ (ap (λ (b : Bool). is_kind other kind || b) (of_lineage n up other (omega (arith, shallow, lt)) under) ∙ or-true (is_kind other kind))

shallow : (kind : Kind) → depth kind < 4
shallow kinds.BaseException = omega arith
shallow kinds.SystemExit = omega arith
shallow kinds.KeyboardInterrupt = omega arith
shallow kinds.Exception = omega arith
shallow kinds.ArithmeticError = omega arith
shallow kinds.OverflowError = omega arith
shallow kinds.ZeroDivisionError = omega arith
shallow kinds.AssertionError = omega arith
shallow kinds.AttributeError = omega arith
shallow kinds.EofError = omega arith
shallow kinds.ImportError = omega arith
shallow kinds.LookupError = omega arith
shallow kinds.IndexError = omega arith
shallow kinds.KeyError = omega arith
shallow kinds.MemoryError = omega arith
shallow kinds.NameError = omega arith
shallow kinds.OsError = omega arith
shallow kinds.RuntimeError = omega arith
shallow kinds.NotImplementedError = omega arith
shallow kinds.StopIteration = omega arith
shallow kinds.SyntaxError = omega arith
shallow kinds.TypeError = omega arith
shallow kinds.ValueError = omega arith

pub is_under_decides : (kind other : Kind) → Decides (is_under kind other) (IsUnder kind other)
is_under_decides kind other = (in_lineage 4 kind other, of_lineage 4 kind other (shallow kind))
