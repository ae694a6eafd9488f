-- The tables of operators beside the ranks of tokens.
use Rattle.std.proofs.Common.{◌≡◌, ℕ, zero, suc, ◌+◌, ◌≤◌, true, false, List, [], ◌∷◌, drop, Some, None, refl, arith}
use Rattle.py_tokens.specs.declared.token.Token.{Token}
use Rattle.py_tokens.specs.declared.token.Tok.{Tok}
use Rattle.py_tokens.specs.declared.token.Tok.TheVariants as tok
use Rattle.py_tokens.specs.declared.word.Word.TheVariants as word
use Rattle.py_tokens.specs.declared.operator.Op.TheVariants as op
use Rattle.py_tree.specs.declared.expr.UnaryOp.{UnaryOp}
use Rattle.py_tree.specs.declared.expr.BinaryOp.{BinaryOp}
use Rattle.py_tree.specs.declared.expr.CompareOp.{CompareOp}
use Rattle.py_expressions.specs.declared.cursor.Mark.TheVariants as mark
use Rattle.py_expressions.specs.Input.{kind_at, Place, at, sees, is_mark}
use Rattle.py_expressions.specs.Follow.{joins, rank}
use Rattle.py_expressions.specs.Reading.{sign, operator, comparison, begins_operand, begins_test, begins_trailer}
use Rattle.py_expressions.specs.Laws.{input}

no_operator_by : (n : ℕ) (kind : Tok) → n + 4 ≤ joins kind → operator (suc n) kind ≡ None
no_operator_by zero (tok.Op op.Star) h = absurd (omega (arith, h))
no_operator_by zero (tok.Op op.DoubleSlash) h = absurd (omega (arith, h))
no_operator_by zero (tok.Op op.Percent) h = absurd (omega (arith, h))
no_operator_by zero _ h = refl
no_operator_by (suc zero) (tok.Op op.Plus) h = absurd (omega (arith, h))
no_operator_by (suc zero) (tok.Op op.Minus) h = absurd (omega (arith, h))
no_operator_by (suc zero) _ h = refl
no_operator_by (suc (suc zero)) (tok.Op op.ShiftLeft) h = absurd (omega (arith, h))
no_operator_by (suc (suc zero)) (tok.Op op.ShiftRight) h = absurd (omega (arith, h))
no_operator_by (suc (suc zero)) _ h = refl
no_operator_by (suc (suc (suc zero))) (tok.Op op.Ampersand) h = absurd (omega (arith, h))
no_operator_by (suc (suc (suc zero))) _ h = refl
no_operator_by (suc (suc (suc (suc zero)))) (tok.Op op.Caret) h = absurd (omega (arith, h))
no_operator_by (suc (suc (suc (suc zero)))) _ h = refl
no_operator_by (suc (suc (suc (suc (suc zero))))) (tok.Op op.Bar) h = absurd (omega (arith, h))
no_operator_by (suc (suc (suc (suc (suc zero))))) _ h = refl
no_operator_by (suc (suc (suc (suc (suc (suc n)))))) _ h = refl

pub no_operator_at : (n : ℕ) (ts : List Token) → n + 4 ≤ rank ts → operator (suc n) (kind_at ts) ≡ None
no_operator_at zero [] h = refl
no_operator_at (suc zero) [] h = refl
no_operator_at (suc (suc zero)) [] h = refl
no_operator_at (suc (suc (suc zero))) [] h = refl
no_operator_at (suc (suc (suc (suc zero)))) [] h = refl
no_operator_at (suc (suc (suc (suc (suc zero))))) [] h = refl
no_operator_at (suc (suc (suc (suc (suc (suc n)))))) [] h = refl
no_operator_at n (t ∷ ts) h = no_operator_by n t.kind h

pub operator_joins : (n : ℕ) (kind : Tok) (how : BinaryOp) → operator (suc n) kind ≡ Some how → joins kind ≡ n + 3
operator_joins zero (tok.Op op.Star) how e = refl
operator_joins zero (tok.Op op.DoubleSlash) how e = refl
operator_joins zero (tok.Op op.Percent) how e = refl
operator_joins zero _ how e = absurd cc
operator_joins (suc zero) (tok.Op op.Plus) how e = refl
operator_joins (suc zero) (tok.Op op.Minus) how e = refl
operator_joins (suc zero) _ how e = absurd cc
operator_joins (suc (suc zero)) (tok.Op op.ShiftLeft) how e = refl
operator_joins (suc (suc zero)) (tok.Op op.ShiftRight) how e = refl
operator_joins (suc (suc zero)) _ how e = absurd cc
operator_joins (suc (suc (suc zero))) (tok.Op op.Ampersand) how e = refl
operator_joins (suc (suc (suc zero))) _ how e = absurd cc
operator_joins (suc (suc (suc (suc zero)))) (tok.Op op.Caret) how e = refl
operator_joins (suc (suc (suc (suc zero)))) _ how e = absurd cc
operator_joins (suc (suc (suc (suc (suc zero))))) (tok.Op op.Bar) how e = refl
operator_joins (suc (suc (suc (suc (suc zero))))) _ how e = absurd cc
operator_joins (suc (suc (suc (suc (suc (suc n)))))) _ how e = absurd cc

pub operator_there : (level : ℕ) (ts : List Token) (how : BinaryOp) → operator (suc level) (kind_at ts) ≡ Some how → (l : Place) × (ts ≡ at l (kind_at ts) ∷ drop 1 ts)
operator_there zero [] how e = absurd cc
operator_there (suc zero) [] how e = absurd cc
operator_there (suc (suc zero)) [] how e = absurd cc
operator_there (suc (suc (suc zero))) [] how e = absurd cc
operator_there (suc (suc (suc (suc zero)))) [] how e = absurd cc
operator_there (suc (suc (suc (suc (suc zero))))) [] how e = absurd cc
operator_there (suc (suc (suc (suc (suc (suc n)))))) [] how e = absurd cc
operator_there level (t ∷ ts) how e = (record { at = t.at; end = t.end; line = t.line }, refl)

pub comparison_joins : (kind : Tok) (how : CompareOp) → comparison kind ≡ Some how → joins kind ≡ 9
comparison_joins (tok.Op op.Less) how e = refl
comparison_joins (tok.Op op.Greater) how e = refl
comparison_joins (tok.Op op.Equal) how e = refl
comparison_joins (tok.Op op.LessEqual) how e = refl
comparison_joins (tok.Op op.GreaterEqual) how e = refl
comparison_joins (tok.Op op.NotEqual) how e = refl
comparison_joins (tok.Word word.In) how e = refl
comparison_joins _ how e = absurd cc

no_trailer_by : (kind : Tok) → 2 ≤ joins kind → begins_trailer kind ≡ false
no_trailer_by (tok.Op op.OpenParen) h = absurd (omega (arith, h))
no_trailer_by (tok.Op op.OpenBracket) h = absurd (omega (arith, h))
no_trailer_by (tok.Op op.Dot) h = absurd (omega (arith, h))
no_trailer_by _ h = refl

pub no_trailer_at : (ts : List Token) → 2 ≤ rank ts → begins_trailer (kind_at ts) ≡ false
no_trailer_at [] h = refl
no_trailer_at (t ∷ ts) h = no_trailer_by t.kind h

no_test_by : (kind : Tok) → 14 ≤ joins kind → begins_test kind ≡ false
no_test_by (tok.Name text) h = absurd (omega (arith, h))
no_test_by (tok.Int n) h = absurd (omega (arith, h))
no_test_by (tok.Str text) h = absurd (omega (arith, h))
no_test_by (tok.Word word.None) h = absurd (omega (arith, h))
no_test_by (tok.Word word.True) h = absurd (omega (arith, h))
no_test_by (tok.Word word.False) h = absurd (omega (arith, h))
no_test_by (tok.Word word.Not) h = absurd (omega (arith, h))
no_test_by (tok.Op op.OpenParen) h = absurd (omega (arith, h))
no_test_by (tok.Op op.OpenBracket) h = absurd (omega (arith, h))
no_test_by (tok.Op op.OpenBrace) h = absurd (omega (arith, h))
no_test_by (tok.Op op.Plus) h = absurd (omega (arith, h))
no_test_by (tok.Op op.Minus) h = absurd (omega (arith, h))
no_test_by (tok.Op op.Tilde) h = absurd (omega (arith, h))
no_test_by _ h = refl

pub no_test_at : (ts : List Token) → 14 ≤ rank ts → begins_test (kind_at ts) ≡ false
no_test_at [] h = refl
no_test_at (t ∷ ts) h = no_test_by t.kind h

pub operand_begins_test : (kind : Tok) → begins_operand kind ≡ true → begins_test kind ≡ true
operand_begins_test (tok.Word word.Not) e = refl
operand_begins_test _ e = e

pub sign_begins : (kind : Tok) (how : UnaryOp) → sign kind ≡ Some how → begins_operand kind ≡ true
sign_begins (tok.Op op.Plus) how e = refl
sign_begins (tok.Op op.Minus) how e = refl
sign_begins (tok.Op op.Tilde) how e = refl
sign_begins _ how e = absurd cc

pub sign_there : (ts : List Token) (how : UnaryOp) → sign (kind_at ts) ≡ Some how → (l : Place) × (ts ≡ at l (kind_at ts) ∷ drop 1 ts)
sign_there [] how e = absurd cc
sign_there (t ∷ ts) how e = (record { at = t.at; end = t.end; line = t.line }, refl)

-- ---- marks that don't come next

no_power_by : (kind : Tok) → 3 ≤ joins kind → is_mark (mark.Op op.DoubleStar) kind ≡ false
no_power_by (tok.Op op.DoubleStar) h = absurd (omega (arith, h))
no_power_by _ h = refl

pub no_power_at : (ts : List Token) (front : ℕ) → 3 ≤ rank ts → sees (mark.Op op.DoubleStar) (input ts front) ≡ false
unfolding sees
no_power_at [] front h = refl
no_power_at (t ∷ ts) front h = no_power_by t.kind h

no_and_by : (kind : Tok) → 11 ≤ joins kind → is_mark (mark.Word word.And) kind ≡ false
no_and_by (tok.Word word.And) h = absurd (omega (arith, h))
no_and_by _ h = refl

pub no_and_at : (ts : List Token) (front : ℕ) → 11 ≤ rank ts → sees (mark.Word word.And) (input ts front) ≡ false
unfolding sees
no_and_at [] front h = refl
no_and_at (t ∷ ts) front h = no_and_by t.kind h

no_or_by : (kind : Tok) → 12 ≤ joins kind → is_mark (mark.Word word.Or) kind ≡ false
no_or_by (tok.Word word.Or) h = absurd (omega (arith, h))
no_or_by _ h = refl

pub no_or_at : (ts : List Token) (front : ℕ) → 12 ≤ rank ts → sees (mark.Word word.Or) (input ts front) ≡ false
unfolding sees
no_or_at [] front h = refl
no_or_at (t ∷ ts) front h = no_or_by t.kind h

no_if_by : (kind : Tok) → 13 ≤ joins kind → is_mark (mark.Word word.If) kind ≡ false
no_if_by (tok.Word word.If) h = absurd (omega (arith, h))
no_if_by _ h = refl

pub no_if_at : (ts : List Token) (front : ℕ) → 13 ≤ rank ts → sees (mark.Word word.If) (input ts front) ≡ false
unfolding sees
no_if_at [] front h = refl
no_if_at (t ∷ ts) front h = no_if_by t.kind h

no_comma_by : (kind : Tok) → 14 ≤ joins kind → is_mark (mark.Op op.Comma) kind ≡ false
no_comma_by (tok.Op op.Comma) h = absurd (omega (arith, h))
no_comma_by _ h = refl

pub no_comma_at : (ts : List Token) (front : ℕ) → 14 ≤ rank ts → sees (mark.Op op.Comma) (input ts front) ≡ false
unfolding sees
no_comma_at [] front h = refl
no_comma_at (t ∷ ts) front h = no_comma_by t.kind h

no_not_by : (kind : Tok) → begins_operand kind ≡ true → is_mark (mark.Word word.Not) kind ≡ false
no_not_by (tok.Word word.Not) e = absurd cc
no_not_by _ e = refl

-- an operand doesn't begin with `not`
pub no_not_at : (ts : List Token) (front : ℕ) → begins_operand (kind_at ts) ≡ true → sees (mark.Word word.Not) (input ts front) ≡ false
unfolding sees
no_not_at [] front e = refl
no_not_at (t ∷ ts) front e = no_not_by t.kind e
