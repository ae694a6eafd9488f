-- What may stand behind a statement and its parts.
use Rattle.std.proofs.Common.{◌≡◌, ◌≤◌, ◌⊎◌, inl, inr, Bool, true, false, List, [], ◌∷◌, drop, Some, None, refl, arith}
use Rattle.py_tokens.specs.declared.token.Token.{Token}
use Rattle.py_tokens.specs.declared.token.Tok.{Tok}
use Rattle.py_tokens.specs.declared.token.Tok.TheVariants as tok
use Rattle.py_tokens.specs.declared.word.Word.TheVariants as word
use Rattle.py_tokens.specs.declared.operator.Op.TheVariants as op
use Rattle.py_tree.specs.declared.expr.BinaryOp.{BinaryOp}
use Rattle.py_expressions.specs.declared.cursor.Mark.{Mark}
use Rattle.py_expressions.specs.declared.cursor.Mark.TheVariants as mark
use Rattle.py_expressions.specs.Input.{Input, Place, at, kind_at, is_mark, sees, sees_at, after}
use Rattle.py_expressions.specs.Follow.{joins, rank}
use Rattle.py_expressions.specs.Reading.{begins_test}
use Rattle.py_expressions.proofs.Steps.{tok_of, taken, after_false}
use Rattle.py_statements.specs.Reading.{augments, ends_small, begins_line}

-- a mark that was eaten, or nothing was
pub eaten : (m : Mark) (i : Input) → ((sees m i ≡ true) × ((l : Place) × (i.ahead ≡ at l (tok_of m) ∷ (after m i).ahead) × (i.front ≡ (after m i).front))) ⊎ ((sees m i ≡ false) × (after m i ≡ i))
eaten m i = go (sees m i) refl
  where
    go : (b : Bool) → sees m i ≡ b → ((sees m i ≡ true) × ((l : Place) × (i.ahead ≡ at l (tok_of m) ∷ (after m i).ahead) × (i.front ≡ (after m i).front))) ⊎ ((sees m i ≡ false) × (after m i ≡ i))
    go true e = inl (e, taken m i e)
    go false e = inr (e, after_false m i e)

-- ---- in front of what ends a statement

ends_rank_by : (kind : Tok) → ends_small kind ≡ true → joins kind ≡ 14
ends_rank_by (tok.Op op.Semicolon) e = refl
ends_rank_by tok.Newline e = refl
ends_rank_by _ e = absurd cc

pub ends_rank : (ts : List Token) → ends_small (kind_at ts) ≡ true → rank ts ≡ 14
ends_rank [] e = refl
ends_rank (t ∷ ts) e = ends_rank_by t.kind e

ends_as_by : (kind : Tok) → ends_small kind ≡ true → is_mark (mark.Word word.As) kind ≡ false
ends_as_by (tok.Op op.Semicolon) e = refl
ends_as_by tok.Newline e = refl
ends_as_by _ e = absurd cc

pub ends_as : (ts : List Token) → ends_small (kind_at ts) ≡ true → sees_at (mark.Word word.As) ts ≡ false
ends_as [] e = refl
ends_as (t ∷ ts) e = ends_as_by t.kind e

ends_assign_by : (kind : Tok) → ends_small kind ≡ true → is_mark (mark.Op op.Assign) kind ≡ false
ends_assign_by (tok.Op op.Semicolon) e = refl
ends_assign_by tok.Newline e = refl
ends_assign_by _ e = absurd cc

pub ends_assign : (ts : List Token) → ends_small (kind_at ts) ≡ true → sees_at (mark.Op op.Assign) ts ≡ false
ends_assign [] e = refl
ends_assign (t ∷ ts) e = ends_assign_by t.kind e

pub ends_augments : (kind : Tok) → ends_small kind ≡ true → augments kind ≡ None
ends_augments (tok.Op op.Semicolon) e = refl
ends_augments tok.Newline e = refl
ends_augments _ e = absurd cc

pub test_not_ends : (kind : Tok) → begins_test kind ≡ true → ends_small kind ≡ false
test_not_ends (tok.Op op.Semicolon) e = absurd cc
test_not_ends tok.Newline e = absurd cc
test_not_ends _ e = refl

-- ---- in front of what ends a part

no_dot_by : (kind : Tok) → 13 ≤ joins kind → is_mark (mark.Op op.Dot) kind ≡ false
no_dot_by (tok.Op op.Dot) h = absurd (omega (arith, h))
no_dot_by _ h = refl

pub no_dot_at : (ts : List Token) → 13 ≤ rank ts → sees_at (mark.Op op.Dot) ts ≡ false
no_dot_at [] h = refl
no_dot_at (t ∷ ts) h = no_dot_by t.kind h

no_comma_by : (kind : Tok) → 14 ≤ joins kind → is_mark (mark.Op op.Comma) kind ≡ false
no_comma_by (tok.Op op.Comma) h = absurd (omega (arith, h))
no_comma_by _ h = refl

pub no_comma_at : (ts : List Token) → 14 ≤ rank ts → sees_at (mark.Op op.Comma) ts ≡ false
no_comma_at [] h = refl
no_comma_at (t ∷ ts) h = no_comma_by t.kind h

-- ---- augmented signs

pub augments_joins : (kind : Tok) (how : BinaryOp) → augments kind ≡ Some how → joins kind ≡ 14
augments_joins (tok.Op op.PlusAssign) how e = refl
augments_joins (tok.Op op.MinusAssign) how e = refl
augments_joins (tok.Op op.StarAssign) how e = refl
augments_joins (tok.Op op.DoubleSlashAssign) how e = refl
augments_joins (tok.Op op.PercentAssign) how e = refl
augments_joins (tok.Op op.DoubleStarAssign) how e = refl
augments_joins (tok.Op op.AmpersandAssign) how e = refl
augments_joins (tok.Op op.BarAssign) how e = refl
augments_joins (tok.Op op.CaretAssign) how e = refl
augments_joins (tok.Op op.ShiftLeftAssign) how e = refl
augments_joins (tok.Op op.ShiftRightAssign) how e = refl
augments_joins _ how e = absurd cc

pub augments_there : (ts : List Token) (how : BinaryOp) → augments (kind_at ts) ≡ Some how → (l : Place) × (ts ≡ at l (kind_at ts) ∷ drop 1 ts)
augments_there [] how e = absurd cc
augments_there (t ∷ ts) how e = (record { at = t.at; end = t.end; line = t.line }, refl)

-- ---- how a line begins

line_newline_by : (kind : Tok) → begins_line kind ≡ true → is_mark mark.Newline kind ≡ false
line_newline_by tok.Newline e = absurd cc
line_newline_by _ e = refl

pub line_newline : (ts : List Token) → begins_line (kind_at ts) ≡ true → sees_at mark.Newline ts ≡ false
line_newline [] e = refl
line_newline (t ∷ ts) e = line_newline_by t.kind e

pub test_begins_line : (kind : Tok) → begins_test kind ≡ true → begins_line kind ≡ true
test_begins_line (tok.Word word.Del) e = refl
test_begins_line (tok.Word word.Pass) e = refl
test_begins_line (tok.Word word.Break) e = refl
test_begins_line (tok.Word word.Continue) e = refl
test_begins_line (tok.Word word.Return) e = refl
test_begins_line (tok.Word word.Raise) e = refl
test_begins_line (tok.Word word.Global) e = refl
test_begins_line (tok.Word word.Assert) e = refl
test_begins_line (tok.Word word.Import) e = refl
test_begins_line (tok.Word word.From) e = refl
test_begins_line _ e = e
