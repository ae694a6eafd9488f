-- Steps of single targets, and of the targets of a `for`.
use Rattle.std.proofs.Common.{◌≡◌, ℕ, suc, ◌+◌, true, false, Option, Result, Err, refl, sym, ap, ◌∙◌, add-one}
use Rattle.mpy_base.specs.declared.refused.Refused.{Refused}
use Rattle.mpy_base.specs.declared.refused.Refused.TheVariants as refused
use Rattle.py_tree.specs.declared.expr.Expr.{Expr}
use Rattle.py_tree.specs.declared.stmt.Target.{Target}
use Rattle.py_expressions.specs.declared.cursor.Cursor.{Cursor}
use Rattle.py_expressions.specs.declared.cursor.Syntax.{Syntax}
use Rattle.py_expressions.specs.declared.grammar.Rule.{Rule}
use Rattle.py_expressions.specs.declared.grammar.Rule.TheVariants as rule
use Rattle.py_expressions.specs.Input.{Input, Outcome, Parser, Reads, kind, turns}
use Rattle.py_expressions.specs.Reading.{Listed, all_trailers, atom, begins_trailer, expr, is_name, members, primary, tuple_of}
use Rattle.py_expressions.specs.Targets.{all_targets, alone_of, given, item_of, one_gone, one_target, part_of, single, target_of, targets}
use Rattle.py_expressions.proofs.Steps.{done, stopped}

-- a refusal of a part that is one of the whole
pub passes_on : {A B : Type 0} (o : Outcome A) (p : Outcome B) (e : Refused Syntax) (new more : Cursor) → ((d : ℕ) → o ≡ stopped d → p ≡ stopped d)
    → (let r : Result A (Refused Syntax) = Err e in Reads o r new) → (let r : Result B (Refused Syntax) = Err e in Reads p r more)
passes_on o p (refused.Fault e) new more f h = f e.left h
passes_on o p refused.NoMemory new more f h = tt

module _ (whole_of : Expr → Option Target) (inner : Rule → Parser Expr) where
  pub stops_at_atom : (i : Input) (d : ℕ) → atom inner i ≡ stopped d → single whole_of inner i ≡ stopped d
  unfolding single
  stops_at_atom i d h = rw h refl

  pub stands_alone : (i j : Input) (x : Expr) → atom inner i ≡ done x j → begins_trailer (kind j) ≡ false → single whole_of inner i ≡ given (alone_of (is_name (kind i)) x) j
  unfolding single
  stands_alone i j x h b = rw (h, b) refl

  pub stops_at_trailers : (i j : Input) (x : Expr) (d : ℕ) → atom inner i ≡ done x j → begins_trailer (kind j) ≡ true → all_trailers inner x j ≡ stopped d → single whole_of inner i ≡ stopped d
  unfolding single
  stops_at_trailers i j x d h b e = rw (h, b, e) refl

  pub goes_on : (i j m : Input) (x y : Expr) → atom inner i ≡ done x j → begins_trailer (kind j) ≡ true → all_trailers inner x j ≡ done y m → single whole_of inner i ≡ given (whole_of y) m
  unfolding single
  goes_on i j m x y h b e = rw (h, b, e) refl

-- with as many turns as there are tokens ahead
pub one_by : (i : Input) (n : ℕ) → n ≡ turns i → one_target i ≡ single part_of (expr n) i
unfolding one_target
one_by i n e = ap (λ m. single part_of (expr m) i) (sym e)

pub gone_by : (i : Input) (n : ℕ) → n ≡ turns i → one_gone i ≡ single item_of (expr n) i
unfolding one_gone
gone_by i n e = ap (λ m. single item_of (expr m) i) (sym e)

all_by : (i : Input) (n : ℕ) → n ≡ turns i → all_targets i ≡ targets n i
unfolding all_targets
all_by i n e = ap (λ m. targets m i) (sym e)

targets_stop : (i : Input) (n d : ℕ) → members (primary (expr n)) i ≡ stopped d → targets n i ≡ stopped d
unfolding targets
targets_stop i n d h = rw h refl

targets_give : (i j : Input) (n : ℕ) (found : Listed) → members (primary (expr n)) i ≡ done found j → targets n i ≡ given (target_of (suc n) (tuple_of found.0 found.1)) j
unfolding targets
targets_give i j n found h = rw h refl

-- one level of nesting less
primaries_by : (n : ℕ) (i : Input) → members (expr (n + 1) rule.Primary) i ≡ members (primary (expr n)) i
unfolding expr
primaries_by n i = ap (λ m. members (expr m rule.Primary) i) (add-one n)

pub stops_at_primaries : (i : Input) (n : ℕ) → n ≡ turns i → (d : ℕ) → members (expr (n + 1) rule.Primary) i ≡ stopped d → all_targets i ≡ stopped d
stops_at_primaries i n e d h = all_by i n e ∙ targets_stop i n d (sym (primaries_by n i) ∙ h)

pub gives_targets : (i j : Input) (n : ℕ) (found : Listed) (x : Expr) (t : Option Target) → n ≡ turns i → members (expr (n + 1) rule.Primary) i ≡ done found j → x ≡ tuple_of found.0 found.1 → t ≡ target_of (n + 1) x → all_targets i ≡ given t j
gives_targets i j n found x t e h is made =
    all_by i n e ∙ targets_give i j n found (sym (primaries_by n i) ∙ h) ∙ ap (λ q. given q j) (ap (target_of (suc n)) (sym is) ∙ ap (λ m. target_of m x) (sym (add-one n)) ∙ sym made)
