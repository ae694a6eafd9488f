-- Members of which the first stands apart, and operands alone.
use Rattle.std.proofs.Common.{◌≡◌, ℕ, zero, suc, ◌-◌, ◌<◌, Bool, true, false, cond, List, [], ◌∷◌, length, Ok, Err, Result, refl, sym, ap, subst, ◌∙◌, arith}
use Rattle.mpy_base.specs.declared.refused.Refused.{Refused}
use Rattle.mpy_base.specs.declared.refused.Refused.TheVariants as refused
use Rattle.py_tokens.specs.declared.word.Word.{Word}
use Rattle.py_tokens.specs.declared.operator.Op.TheVariants as op
use Rattle.py_tree.specs.declared.expr.Expr.{Expr}
use Rattle.py_tree.specs.declared.expr.Expr.TheVariants as ex
use Rattle.py_expressions.specs.declared.cursor.Mark.{Mark}
use Rattle.py_expressions.specs.declared.cursor.Mark.TheVariants as mark
use Rattle.py_expressions.specs.declared.cursor.Syntax.{Syntax}
use Rattle.py_expressions.specs.declared.cursor.Cursor.{Cursor}
use Rattle.py_expressions.specs.declared.grammar.Rule.TheVariants as rule
use Rattle.py_expressions.specs.Apart.{first_apart, closed_tests}
use Rattle.py_expressions.specs.Input.{Input, Outcome, Parser, Reads, and_then, ◌>>=◌, ◌>>◌, pure, kind, peek, sees, after, eat, expect, closed, input_of}
use Rattle.py_expressions.specs.Reading.{Listed, begins_test, expr, tuple_of, joined, operands, junction, members, members_from, some_members, round, index, tests}
use Rattle.py_expressions.proofs.Steps.{done, stopped}
use Rattle.py_expressions.proofs.Turns.{deeper}
use Rattle.py_expressions.proofs.Forward as forward

-- ---- operands

-- an operand with no word behind it is read alone
pub operand_alone : (operand : Parser Expr) (between : Word) (make : List Expr → Expr) (i j : Input) (x : Expr) → operand i ≡ done x j → sees (mark.Word between) j ≡ false
    → junction operand between make i ≡ done x j
unfolding junction operands joined
operand_alone operand between make i j x e ends =
    ap (λ (o : Outcome Expr). and_then o (λ first. operands operand between first >>= λ found. pure (joined make found))) e
    ∙ ap (λ (o : Outcome (List Expr)). and_then o (λ found. pure (joined make found))) (forward.operands_end operand between (length j.ahead) (x ∷ []) j.ahead j.front ends)

-- ---- members

abbrev as_one : Listed → Parser Expr
as_one found = pure (tuple_of found.0 found.1)

module _ (item : Parser Expr) (n : ℕ) where
  -- behind a comma
  behind_comma : (x : Expr) (goes_on : Bool) (k : Input)
      → and_then (cond goes_on (members_from item n (x ∷ [])) (pure (x ∷ [], true)) k) as_one ≡ cond goes_on (members_from item n (x ∷ []) >>= as_one) (pure (tuple_of (x ∷ []) true)) k
  behind_comma x true k = refl
  behind_comma x false k = refl

  -- behind a first one
  behind_first : (x : Expr) (comma : Bool) (k : Input)
      → and_then (cond comma (peek >>= λ next. cond (begins_test next) (members_from item n (x ∷ [])) (pure (x ∷ [], true))) (pure (x ∷ [], false)) k) as_one
      ≡ cond comma (peek >>= λ next. cond (begins_test next) (members_from item n (x ∷ []) >>= as_one) (pure (tuple_of (x ∷ []) true))) (pure x) k
  unfolding tuple_of
  behind_first x true k = behind_comma x (begins_test (kind k)) k
  behind_first x false k = refl

  apart_by : (o : Outcome Expr) → and_then (and_then o (λ x. eat (mark.Op op.Comma) >>= λ comma. cond comma (peek >>= λ next. cond (begins_test next) (members_from item n (x ∷ [])) (pure (x ∷ [], true))) (pure (x ∷ [], false)))) as_one
      ≡ and_then o (λ x. eat (mark.Op op.Comma) >>= λ comma. cond comma (peek >>= λ next. cond (begins_test next) (members_from item n (x ∷ []) >>= as_one) (pure (tuple_of (x ∷ []) true))) (pure x))
  apart_by (Ok p) = behind_first p.0 (sees (mark.Op op.Comma) p.1) (after (mark.Op op.Comma) p.1)
  apart_by (Err d) = refl

pub apart : (item : Parser Expr) (i : Input) → 0 < length i.ahead → (members item >>= as_one) i ≡ first_apart item (length i.ahead - 1) i
unfolding members members_from
apart item i some =
    ap (λ (o : Outcome Listed). and_then o as_one) (deeper (λ n. members_from item n [] i) (length i.ahead) some)
    ∙ apart_by item (length i.ahead - 1) (item i)

pub none_ahead : (item : Parser Expr) (i : Input) → length i.ahead ≡ 0 → (members item >>= as_one) i ≡ stopped i.front
unfolding members members_from
none_ahead item i none = ap (λ n. and_then (members_from item n [] i) as_one) none

-- ---- behind brackets

mapped : {A B C : Type 0} (f : A → B) (g : B → Parser C) (o : Outcome A) → and_then (and_then o (λ x. pure (f x))) g ≡ and_then o (λ x. g (f x))
mapped f g (Ok p) = refl
mapped f g (Err d) = refl

pub round_some : (depth : ℕ) (i : Input) → begins_test (kind i) ≡ true → round (expr depth) i ≡ closed_tests depth (mark.Op op.CloseParen) i
unfolding round some_members tests
round_some depth i begins =
    ap (λ (b : Bool). and_then (cond b (members (expr depth rule.Test)) (pure ([], false)) i) (λ (found : Listed). closed (mark.Op op.CloseParen) (tuple_of found.0 found.1))) begins
    ∙ sym (mapped (λ (found : Listed). tuple_of found.0 found.1) (closed (mark.Op op.CloseParen)) (members (expr depth rule.Test) i))

pub round_none : (depth : ℕ) (i : Input) → begins_test (kind i) ≡ false → round (expr depth) i ≡ closed (mark.Op op.CloseParen) (tuple_of [] false) i
unfolding round some_members
round_none depth i begins =
    ap (λ (b : Bool). and_then (cond b (members (expr depth rule.Test)) (pure ([], false)) i) (λ (found : Listed). closed (mark.Op op.CloseParen) (tuple_of found.0 found.1))) begins

indexed : (object : Expr) (m : Mark) (x : Expr) (o : Outcome (Unit {0})) → and_then o (λ _. pure (ex.Index object x)) ≡ and_then (and_then o (λ _. pure x)) (λ y. pure (ex.Index object y))
indexed object m x (Ok p) = refl
indexed object m x (Err d) = refl

index_behind : (object : Expr) (o : Outcome Listed) → and_then o (λ found. expect (mark.Op op.CloseBracket) >> pure (ex.Index object (tuple_of found.0 found.1)))
    ≡ and_then (and_then (and_then o as_one) (closed (mark.Op op.CloseBracket))) (λ x. pure (ex.Index object x))
index_behind object (Ok p) = indexed object (mark.Op op.CloseBracket) (tuple_of p.0.0 p.0.1) (expect (mark.Op op.CloseBracket) p.1)
index_behind object (Err d) = refl

pub index_by : (depth : ℕ) (object : Expr) (i : Input) → index (expr depth) object i ≡ (closed_tests depth (mark.Op op.CloseBracket) >>= λ x. pure (ex.Index object x)) i
unfolding index tests
index_by depth object i = index_behind object (members (expr depth rule.Test) i)

-- ---- what a function that reads ensures

pub reads_by : {A : Type 0} (o p : Outcome A) (r : Result A (Refused Syntax)) (new : Cursor) → o ≡ p → Reads p r new → Reads o r new
reads_by {A} o p r new e = subst (λ (q : Outcome A). Reads q r new) (sym e)

pub refused_by : {A : Type 0} (o : Outcome A) (r : Refused Syntax) (left : ℕ) (new : Cursor) → o ≡ stopped left → r ≡ refused.Fault (record { left = left }) → Reads o (Err r) new
refused_by o r left new e is = subst (λ (q : Refused Syntax). Reads o (Err q) new) (sym is) e

pub passes : {A B : Type 0} (o : Outcome A) (f : A → Parser B) (e : Refused Syntax) (new : Cursor) → Reads o (Err e) new → Reads (and_then o f) (Err e) new
passes {A} o f (refused.Fault s) new h = ap (λ (q : Outcome A). and_then q f) h
passes o f refused.NoMemory new h = tt
