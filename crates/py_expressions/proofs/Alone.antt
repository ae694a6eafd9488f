-- A token that is a whole test, and an operand with no operator behind it.
use Rattle.std.proofs.Common.{◌≡◌, ℕ, zero, suc, ◌+◌, ◌≤◌, true, false, List, [], ◌∷◌, length, Some, None, Ok, refl, sym, ap, ◌∙◌, arith, Bool, cond}
use Rattle.py_tokens.specs.declared.token.Token.{Token}
use Rattle.py_tokens.specs.declared.token.Tok.{Tok}
use Rattle.py_tokens.specs.declared.token.Tok.TheVariants as tok
use Rattle.py_tokens.specs.declared.word.Word.TheVariants as word
use Rattle.py_tokens.specs.declared.operator.Op.TheVariants as op
use Rattle.py_tree.specs.declared.expr.Expr.{Expr}
use Rattle.py_tree.specs.declared.expr.Expr.TheVariants as ex
use Rattle.py_expressions.specs.declared.grammar.Rule.{Rule}
use Rattle.py_expressions.specs.Alone.{is_operand, ends_test, alone_at, operates}
use Rattle.py_expressions.specs.Follow.{joins, rank}
use Rattle.py_expressions.specs.Grammar as g
use Rattle.py_expressions.specs.Input.{Input, Place, at, Parser, Outcome, kind, kind_at}
use Rattle.py_expressions.specs.Laws.{input}
use Rattle.py_expressions.specs.Reading.{begins_operand, operator, atom, primary, power, factor, sum, compare, compared, not_test, and_test, or_test, whole_test, chain, whole_chain}
use Rattle.py_expressions.proofs.Steps.{done}
use Rattle.py_expressions.proofs.Tables.{no_and_at, no_or_at}
use Rattle.py_expressions.proofs.Apart.{operand_alone}
use Rattle.py_expressions.proofs.Forward

-- ---- operators

no_operator : (level : ℕ) (kind : Tok) → operates kind ≡ false → operator level kind ≡ None
no_operator zero kind e = refl
no_operator (suc zero) (tok.Op op.Star) e = absurd cc
no_operator (suc zero) (tok.Op op.DoubleSlash) e = absurd cc
no_operator (suc zero) (tok.Op op.Percent) e = absurd cc
no_operator (suc zero) _ e = refl
no_operator (suc (suc zero)) (tok.Op op.Plus) e = absurd cc
no_operator (suc (suc zero)) (tok.Op op.Minus) e = absurd cc
no_operator (suc (suc zero)) _ e = refl
no_operator (suc (suc (suc zero))) (tok.Op op.ShiftLeft) e = absurd cc
no_operator (suc (suc (suc zero))) (tok.Op op.ShiftRight) e = absurd cc
no_operator (suc (suc (suc zero))) _ e = refl
no_operator (suc (suc (suc (suc zero)))) (tok.Op op.Ampersand) e = absurd cc
no_operator (suc (suc (suc (suc zero)))) _ e = refl
no_operator (suc (suc (suc (suc (suc zero))))) (tok.Op op.Caret) e = absurd cc
no_operator (suc (suc (suc (suc (suc zero))))) _ e = refl
no_operator (suc (suc (suc (suc (suc (suc zero)))))) (tok.Op op.Bar) e = absurd cc
no_operator (suc (suc (suc (suc (suc (suc zero)))))) _ e = refl
no_operator (suc (suc (suc (suc (suc (suc (suc n))))))) _ e = refl

no_chain : (operand : Parser Expr) (level n : ℕ) (left : Expr) (j : Input) → operator level (kind j) ≡ None → chain operand level n left j ≡ done left j
unfolding chain
no_chain operand level zero left j e = refl
no_chain operand level (suc n) left j e = rw e refl

module _ (inner : Rule → Parser Expr) (i : Input) where
  -- a factor with no operator behind it is the sum of each level
  pub sum_ends : (level : ℕ) (x : Expr) (j : Input) → factor inner i ≡ done x j → operates (kind j) ≡ false → sum inner level i ≡ done x j
  unfolding sum whole_chain
  sum_ends zero x j h ends = h
  sum_ends (suc level) x j h ends = rw (sum_ends level x j h ends) (no_chain (sum inner level) (suc level) (length j.ahead) x j (no_operator (suc level) (kind j) ends))

-- ---- one token

ended : (kind : Tok) → ends_test kind ≡ true → 13 ≤ joins kind
ended (tok.Op op.Comma) e = omega arith
ended (tok.Op op.CloseParen) e = omega arith
ended (tok.Op op.CloseBracket) e = omega arith
ended (tok.Op op.CloseBrace) e = omega arith
ended (tok.Op op.Colon) e = omega arith
ended (tok.Op op.Assign) e = omega arith
ended tok.Newline e = omega arith
ended _ e = absurd cc

module _ (inner : Rule → Parser Expr) (a : g.Atom) (x : Expr) (rest : List Token) (front : ℕ) where
  whole : atom inner (input (g.atom_text a rest) front) ≡ done x (input rest front) → begins_operand (kind_at (g.atom_text a rest)) ≡ true → 13 ≤ rank rest
      → whole_test inner (input (g.atom_text a rest) front) ≡ done x (input rest front)
  unfolding compared and_test or_test
  whole h begins ends =
      let i = input (g.atom_text a rest) front in
      let j = input rest front in
      let p = Forward.primary_by inner i j x (done x j) h (Forward.no_trailer_left inner (length rest) x rest front (omega arith)) in
      let f = Forward.factor_power inner a rest front ∙ Forward.power_alone inner i x rest front p (omega arith) in
      let s₀ = Forward.sum_operand inner i ∙ f in
      let s₁ = Forward.sum_grouped inner 0 i j x (done x j) s₀ (Forward.no_operator_left (sum inner 0) 0 (length rest) x rest front (omega arith)) in
      let s₂ = Forward.sum_grouped inner 1 i j x (done x j) s₁ (Forward.no_operator_left (sum inner 1) 1 (length rest) x rest front (omega arith)) in
      let s₃ = Forward.sum_grouped inner 2 i j x (done x j) s₂ (Forward.no_operator_left (sum inner 2) 2 (length rest) x rest front (omega arith)) in
      let s₄ = Forward.sum_grouped inner 3 i j x (done x j) s₃ (Forward.no_operator_left (sum inner 3) 3 (length rest) x rest front (omega arith)) in
      let s₅ = Forward.sum_grouped inner 4 i j x (done x j) s₄ (Forward.no_operator_left (sum inner 4) 4 (length rest) x rest front (omega arith)) in
      let s₆ = Forward.sum_grouped inner 5 i j x (done x j) s₅ (Forward.no_operator_left (sum inner 5) 5 (length rest) x rest front (omega arith)) in
      let c = Forward.compare_by inner i j j x [] s₆ (Forward.no_comparison_left inner (length rest) [] rest front (omega arith)) in
      let n = Forward.not_compare inner (g.atom_text a rest) front (done x j) begins c in
      let both = operand_alone (not_test inner) word.And ex.And i j x n (no_and_at rest front (omega arith)) in
      let either = operand_alone (and_test inner) word.Or ex.Or i j x both (no_or_at rest front (omega arith)) in
      Forward.test_plain inner i x rest front either ends

module _ (inner : Rule → Parser Expr) where
  one_string : (l : Place) (text : List ℕ) (rest : List Token) (front : ℕ) → 13 ≤ rank rest → atom inner (input (at l (tok.Str text) ∷ rest) front) ≡ done (ex.Str text) (input rest front)
  one_string l text rest front ends =
      Forward.atom_strings inner l text text rest rest front (Forward.string_then (length rest) [] text l rest front ∙ Forward.no_string_left (length rest) text rest front (omega arith))

  by_kind : (l : Place) (kind : Tok) (rest : List Token) (front : ℕ) → is_operand kind ≡ true → 13 ≤ rank rest
      → whole_test inner (input (at l kind ∷ rest) front) ≡ atom inner (input (at l kind ∷ rest) front)
  by_kind l (tok.Name text) rest front e ends =
      let h = Forward.atom_name inner l text rest front in whole inner (g.name l text) (ex.Name text) rest front h refl ends ∙ sym h
  by_kind l (tok.Int n) rest front e ends =
      let h = Forward.atom_int inner l n rest front in whole inner (g.int l n) (ex.Int n) rest front h refl ends ∙ sym h
  by_kind l (tok.Str text) rest front e ends =
      let h = one_string l text rest front ends in whole inner (g.strings l text g.no_string) (ex.Str text) rest front h refl ends ∙ sym h
  by_kind l (tok.Word word.None) rest front e ends =
      let h = Forward.atom_none inner l rest front in whole inner (g.none l) ex.None rest front h refl ends ∙ sym h
  by_kind l (tok.Word word.True) rest front e ends =
      let h = Forward.atom_truth inner l rest front in whole inner (g.truth l) ex.True rest front h refl ends ∙ sym h
  by_kind l (tok.Word word.False) rest front e ends =
      let h = Forward.atom_falsity inner l rest front in whole inner (g.falsity l) ex.False rest front h refl ends ∙ sym h
  by_kind l _ rest front e ends = absurd cc

  -- a token that is a whole test is read as the atom that it is
  pub test_alone : (i : Input) → alone_at i.ahead ≡ true → whole_test inner i ≡ atom inner i
  test_alone i e = go i.ahead i.front e
    where
      two : (b : Bool) (t u : Token) (ts : List Token) (front : ℕ) → is_operand t.kind ≡ b → cond b (ends_test u.kind) false ≡ true → whole_test inner (input (t ∷ u ∷ ts) front) ≡ atom inner (input (t ∷ u ∷ ts) front)
      two true t u ts front is ends = by_kind (record { at = t.at; end = t.end; line = t.line }) t.kind (u ∷ ts) front is (ended u.kind ends)
      two false t u ts front is ends = absurd cc

      go : (ts : List Token) (front : ℕ) → alone_at ts ≡ true → whole_test inner (input ts front) ≡ atom inner (input ts front)
      go [] front e = absurd cc
      go (t ∷ []) front e = absurd cc
      go (t ∷ u ∷ ts) front e = two (is_operand t.kind) t u ts front refl e
