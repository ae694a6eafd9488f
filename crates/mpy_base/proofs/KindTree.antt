-- The tree of exception kinds is walked upwards.
use Rattle.std.proofs.Common.{◌≡◌, ℕ, ap, unwrap_or, ◌<◌, Option, Some, None, refl, sym, ◌∙◌, subst, arith}
use Rattle.mpy_base.specs.declared.kind.Kind.{Kind}
use Rattle.mpy_base.specs.declared.kind.Kind.TheVariants as kinds
use Rattle.mpy_base.specs.Kind.{parent_of, IsUnder, itself, below}

-- how many kinds lie above
abbrev pub depth : Kind → ℕ
depth kinds.BaseException = 0
depth kinds.SystemExit = 1
depth kinds.KeyboardInterrupt = 1
depth kinds.Exception = 1
depth kinds.ArithmeticError = 2
depth kinds.OverflowError = 3
depth kinds.ZeroDivisionError = 3
depth kinds.AssertionError = 2
depth kinds.AttributeError = 2
depth kinds.EofError = 2
depth kinds.ImportError = 2
depth kinds.LookupError = 2
depth kinds.IndexError = 3
depth kinds.KeyError = 3
depth kinds.MemoryError = 2
depth kinds.NameError = 2
depth kinds.OsError = 2
depth kinds.RuntimeError = 2
depth kinds.NotImplementedError = 3
depth kinds.StopIteration = 2
depth kinds.SyntaxError = 2
depth kinds.TypeError = 2
depth kinds.ValueError = 2

abbrev IsHigher : Kind → Option Kind → Type 0
IsHigher kind None = Unit {0}
IsHigher kind (Some parent) = depth parent < depth kind

higher : (kind : Kind) → IsHigher kind (parent_of kind)
higher kinds.BaseException = tt
higher kinds.SystemExit = omega arith
higher kinds.KeyboardInterrupt = omega arith
higher kinds.Exception = omega arith
higher kinds.ArithmeticError = omega arith
higher kinds.OverflowError = omega arith
higher kinds.ZeroDivisionError = omega arith
higher kinds.AssertionError = omega arith
higher kinds.AttributeError = omega arith
higher kinds.EofError = omega arith
higher kinds.ImportError = omega arith
higher kinds.LookupError = omega arith
higher kinds.IndexError = omega arith
higher kinds.KeyError = omega arith
higher kinds.MemoryError = omega arith
higher kinds.NameError = omega arith
higher kinds.OsError = omega arith
higher kinds.RuntimeError = omega arith
higher kinds.NotImplementedError = omega arith
higher kinds.StopIteration = omega arith
higher kinds.SyntaxError = omega arith
higher kinds.TypeError = omega arith
higher kinds.ValueError = omega arith

pub depth_falls : (kind parent : Kind) → parent_of kind ≡ Some parent → depth parent < depth kind
depth_falls kind parent e = subst (IsHigher kind) e (higher kind)

-- another kind stands above this one exactly where it stands above the parent, or is it
pub from_parent : {kind parent other : Kind} → parent_of kind ≡ Some parent → (kind ≡ other → ⊥) → IsUnder kind other → IsUnder parent other
from_parent e ne itself = absurd (ne refl)
from_parent {kind} {parent} {other} e ne (below {parent = up} f under) =
    let same : Some parent ≡ Some up = sym e ∙ f in
    subst (λ (p : Kind). IsUnder p other) (sym (ap (λ (o : Option Kind). unwrap_or o up) same)) under

pub not_above_top : {kind other : Kind} → parent_of kind ≡ None → (kind ≡ other → ⊥) → IsUnder kind other → ⊥
not_above_top e ne itself = ne refl
not_above_top {kind} {other} e ne (below {parent = up} f under) = let clash : None ≡ Some up = sym e ∙ f in cc
