-- One step of each reading function, from what its parts give.
use Rattle.std.proofs.Common.{◌≡◌, ℕ, ℤ, zero, suc, ◌+◌, ◌≤◌, true, false, List, [], ◌∷◌, ◌++◌, length, Some, None, Ok, refl, ap, arith}
use Rattle.py_tokens.specs.declared.token.Token.{Token}
use Rattle.py_tokens.specs.declared.token.Tok.{Tok}
use Rattle.py_tokens.specs.declared.token.Tok.TheVariants as tok
use Rattle.py_tokens.specs.declared.word.Word.{Word}
use Rattle.py_tokens.specs.declared.word.Word.TheVariants as word
use Rattle.py_tokens.specs.declared.operator.Op.TheVariants as op
use Rattle.py_tree.specs.declared.expr.Expr.{Expr}
use Rattle.py_tree.specs.declared.expr.Expr.TheVariants as ex
use Rattle.py_tree.specs.declared.expr.UnaryOp.{UnaryOp}
use Rattle.py_tree.specs.declared.expr.BinaryOp.{BinaryOp}
use Rattle.py_tree.specs.declared.expr.BinaryOp.TheVariants as binary
use Rattle.py_tree.specs.declared.expr.CompareOp.{CompareOp}
use Rattle.py_expressions.specs.declared.cursor.Mark.TheVariants as mark
use Rattle.py_expressions.specs.declared.grammar.Rule.{Rule}
use Rattle.py_expressions.specs.declared.grammar.Rule.TheVariants as rule
use Rattle.py_expressions.specs.declared.calls.Arguments.{Arguments}
use Rattle.py_expressions.specs.Input.{Input, Place, at, Outcome, Parser, kind_at, sees, after, expect, name, next}
use Rattle.py_expressions.specs.Follow.{joins, rank}
use Rattle.py_expressions.specs.Grammar as g
use Rattle.py_expressions.specs.Reading as read
use Rattle.py_expressions.specs.Laws.{input}
use Rattle.py_expressions.proofs.Tables.{no_operator_at, no_trailer_at, no_test_at, no_power_at, no_if_at, no_not_at}

-- ---- members

module _ (item : Parser Expr) where
  pub members_end : (n : ℕ) (found : List Expr) (i : Input) (x : Expr) (rest : List Token) (front : ℕ) → item i ≡ Ok (x, input rest front) → sees (mark.Op op.Comma) (input rest front) ≡ false
      → read.members_from item (suc n) found i ≡ Ok ((found ++ x ∷ [], false), input rest front)
  unfolding read.members_from after
  members_end n found i x rest front h ends = rw (h, ends) refl

  pub members_last : (n : ℕ) (found : List Expr) (i : Input) (x : Expr) (l : Place) (rest : List Token) (front : ℕ) → item i ≡ Ok (x, input (at l (tok.Op op.Comma) ∷ rest) front) → read.begins_test (kind_at rest) ≡ false
      → read.members_from item (suc n) found i ≡ Ok ((found ++ x ∷ [], true), input rest front)
  unfolding read.members_from after sees
  members_last n found i x l rest front h ends = rw (h, ends) refl

  pub members_then : (n : ℕ) (found : List Expr) (i : Input) (x : Expr) (l : Place) (ts : List Token) (front : ℕ) → item i ≡ Ok (x, input (at l (tok.Op op.Comma) ∷ ts) front) → read.begins_test (kind_at ts) ≡ true
      → read.members_from item (suc n) found i ≡ read.members_from item n (found ++ x ∷ []) (input ts front)
  unfolding read.members_from after sees
  members_then n found i x l ts front h goes = rw (h, goes) refl

  pub members_turns : (i : Input) (n : ℕ) (o : Outcome read.Listed) → length i.ahead ≡ n → read.members_from item n [] i ≡ o → read.members item i ≡ o
  unfolding read.members
  members_turns i n o len h = rw len h

-- ---- strings

no_string_by : (n : ℕ) (found : List ℕ) (kind : Tok) (i : Input) → 1 ≤ joins kind → read.strings_by (read.strings n) found kind i ≡ Ok (found, i)
no_string_by n found (tok.Str text) i h = absurd (omega (arith, h))
no_string_by n found _ i h = refl

pub no_string_left : (n : ℕ) (found : List ℕ) (rest : List Token) (front : ℕ) → 1 ≤ rank rest → read.strings n found (input rest front) ≡ Ok (found, input rest front)
unfolding read.strings
no_string_left zero found rest front h = refl
no_string_left (suc n) found [] front h = refl
no_string_left (suc n) found (t ∷ ts) front h = no_string_by n found t.kind (input (t ∷ ts) front) h

pub string_then : (n : ℕ) (found text : List ℕ) (l : Place) (ts : List Token) (front : ℕ) → read.strings (suc n) found (input (at l (tok.Str text) ∷ ts) front) ≡ read.strings n (found ++ text) (input ts front)
unfolding read.strings
string_then n found text l ts front = refl

-- ---- the operators of comparisons

no_compare_op_by : (kind : Tok) (i : Input) → 10 ≤ joins kind → read.compare_op_by kind i ≡ Ok (None, i)
no_compare_op_by (tok.Op op.Less) i h = absurd (omega (arith, h))
no_compare_op_by (tok.Op op.Greater) i h = absurd (omega (arith, h))
no_compare_op_by (tok.Op op.Equal) i h = absurd (omega (arith, h))
no_compare_op_by (tok.Op op.LessEqual) i h = absurd (omega (arith, h))
no_compare_op_by (tok.Op op.GreaterEqual) i h = absurd (omega (arith, h))
no_compare_op_by (tok.Op op.NotEqual) i h = absurd (omega (arith, h))
no_compare_op_by (tok.Word word.In) i h = absurd (omega (arith, h))
no_compare_op_by (tok.Word word.Not) i h = absurd (omega (arith, h))
no_compare_op_by (tok.Word word.Is) i h = absurd (omega (arith, h))
no_compare_op_by _ i h = refl

pub no_compare_op : (rest : List Token) (front : ℕ) → 10 ≤ rank rest → read.compare_op (input rest front) ≡ Ok (None, input rest front)
unfolding read.compare_op
no_compare_op [] front h = refl
no_compare_op (t ∷ ts) front h = no_compare_op_by t.kind (input (t ∷ ts) front) h

alone_by : (kind : Tok) (how : CompareOp) (i : Input) → read.comparison kind ≡ Some how → read.compare_op_by kind i ≡ Ok (Some how, next i)
alone_by (tok.Word word.Not) how i e = absurd cc
alone_by (tok.Word word.Is) how i e = absurd cc
alone_by kind how i e = ap (λ o. read.compare_op_with o i) e

pub compare_op_then : (c : g.Comparison) (ts : List Token) (front : ℕ) → read.begins_operand (kind_at ts) ≡ true → read.compare_op (input (g.comparison_text c ts) front) ≡ Ok (Some (g.comparison_tree c), input ts front)
unfolding read.compare_op expect sees after
compare_op_then (g.alone l kind how e) ts front b = alone_by kind how (input (at l kind ∷ ts) front) e
compare_op_then (g.not_in l r) ts front b = refl
compare_op_then (g.is_ l) ts front b = rw (no_not_at ts front b) refl
compare_op_then (g.is_not l r) ts front b = refl

-- ---- operators of one level

pub no_operator_left : (operand : Parser Expr) (level n : ℕ) (left : Expr) (rest : List Token) (front : ℕ) → level + 4 ≤ rank rest → read.chain operand (suc level) n left (input rest front) ≡ Ok (left, input rest front)
unfolding read.chain
no_operator_left operand level zero left rest front h = refl
no_operator_left operand level (suc n) left rest front h = rw (no_operator_at level rest h) refl

pub operator_then : (operand : Parser Expr) (level n : ℕ) (left : Expr) (l : Place) (kind : Tok) (how : BinaryOp) (ts : List Token) (front : ℕ) (x : Expr) (j : Input) → read.operator (suc level) kind ≡ Some how → operand (input ts front) ≡ Ok (x, j)
    → read.chain operand (suc level) (suc n) left (input (at l kind ∷ ts) front) ≡ read.chain operand (suc level) n (ex.Binary how left x) j
unfolding read.chain
operator_then operand level n left l kind how ts front x j is h = rw (is, h) refl

-- ---- operands with a word between

module _ (operand : Parser Expr) (between : Word) where
  pub operands_end : (n : ℕ) (found : List Expr) (rest : List Token) (front : ℕ) → sees (mark.Word between) (input rest front) ≡ false → read.operands_from operand between n found (input rest front) ≡ Ok (found, input rest front)
  unfolding read.operands_from after
  operands_end zero found rest front ends = refl
  operands_end (suc n) found rest front ends = rw ends refl

  pub operands_then : (n : ℕ) (found : List Expr) (t : Token) (ts : List Token) (front : ℕ) (x : Expr) (j : Input) → sees (mark.Word between) (input (t ∷ ts) front) ≡ true → operand (input ts front) ≡ Ok (x, j)
      → read.operands_from operand between (suc n) found (input (t ∷ ts) front) ≡ read.operands_from operand between n (found ++ x ∷ []) j
  unfolding read.operands_from after
  operands_then n found t ts front x j goes h = rw (goes, h) refl

  pub junction_by : (make : List Expr → Expr) (i j m : Input) (x : Expr) (xs : List Expr) → operand i ≡ Ok (x, j) → read.operands_from operand between (length j.ahead) (x ∷ []) j ≡ Ok (xs, m)
      → read.junction operand between make i ≡ Ok (read.joined make xs, m)
  unfolding read.junction read.operands
  junction_by make i j m x xs h e = rw (h, e) refl

-- ---- the rules

module _ (inner : Rule → Parser Expr) where
  pub some_members_none : (rest : List Token) (front : ℕ) → 14 ≤ rank rest → read.some_members inner (input rest front) ≡ Ok (([], false), input rest front)
  unfolding read.some_members
  some_members_none rest front h = rw (no_test_at rest h) refl

  pub some_members_some : (ts : List Token) (front : ℕ) (o : Outcome read.Listed) → read.begins_test (kind_at ts) ≡ true → read.members (inner rule.Test) (input ts front) ≡ o → read.some_members inner (input ts front) ≡ o
  unfolding read.some_members
  some_members_some ts front o b h = rw b h

  pub atom_name : (l : Place) (text : List ℕ) (rest : List Token) (front : ℕ) → read.atom inner (input (at l (tok.Name text) ∷ rest) front) ≡ Ok (ex.Name text, input rest front)
  unfolding read.atom
  atom_name l text rest front = refl

  pub atom_int : (l : Place) (n : ℤ) (rest : List Token) (front : ℕ) → read.atom inner (input (at l (tok.Int n) ∷ rest) front) ≡ Ok (ex.Int n, input rest front)
  unfolding read.atom
  atom_int l n rest front = refl

  pub atom_strings : (l : Place) (text found : List ℕ) (ts rest : List Token) (front : ℕ) → read.strings (length (at l (tok.Str text) ∷ ts)) [] (input (at l (tok.Str text) ∷ ts) front) ≡ Ok (found, input rest front)
      → read.atom inner (input (at l (tok.Str text) ∷ ts) front) ≡ Ok (ex.Str found, input rest front)
  unfolding read.atom read.all_strings
  atom_strings l text found ts rest front h = rw h refl

  pub atom_none : (l : Place) (rest : List Token) (front : ℕ) → read.atom inner (input (at l (tok.Word word.None) ∷ rest) front) ≡ Ok (ex.None, input rest front)
  unfolding read.atom
  atom_none l rest front = refl

  pub atom_truth : (l : Place) (rest : List Token) (front : ℕ) → read.atom inner (input (at l (tok.Word word.True) ∷ rest) front) ≡ Ok (ex.True, input rest front)
  unfolding read.atom
  atom_truth l rest front = refl

  pub atom_falsity : (l : Place) (rest : List Token) (front : ℕ) → read.atom inner (input (at l (tok.Word word.False) ∷ rest) front) ≡ Ok (ex.False, input rest front)
  unfolding read.atom
  atom_falsity l rest front = refl

  pub atom_round : (l r : Place) (ts rest : List Token) (front : ℕ) (m : read.Listed) → read.some_members inner (input ts front) ≡ Ok (m, input (at r (tok.Op op.CloseParen) ∷ rest) front)
      → read.atom inner (input (at l (tok.Op op.OpenParen) ∷ ts) front) ≡ Ok (read.tuple_of m.0 m.1, input rest front)
  unfolding read.atom read.round expect sees
  atom_round l r ts rest front m h = rw h refl

  pub atom_square : (l r : Place) (ts rest : List Token) (front : ℕ) (m : read.Listed) → read.some_members inner (input ts front) ≡ Ok (m, input (at r (tok.Op op.CloseBracket) ∷ rest) front)
      → read.atom inner (input (at l (tok.Op op.OpenBracket) ∷ ts) front) ≡ Ok (ex.List m.0, input rest front)
  unfolding read.atom read.square expect sees
  atom_square l r ts rest front m h = rw h refl

  pub atom_brace : (l r : Place) (ts rest : List Token) (front : ℕ) (found : List (Expr × Expr)) → read.pairs_from inner (length ts) [] (input ts front) ≡ Ok (found, input (at r (tok.Op op.CloseBrace) ∷ rest) front)
      → read.atom inner (input (at l (tok.Op op.OpenBrace) ∷ ts) front) ≡ Ok (ex.Dict found, input rest front)
  unfolding read.atom read.brace read.pairs expect sees
  atom_brace l r ts rest front found h = rw h refl

  -- ---- pairs

  pub pairs_none : (n : ℕ) (found : List (Expr × Expr)) (rest : List Token) (front : ℕ) → 14 ≤ rank rest → read.pairs_from inner n found (input rest front) ≡ Ok (found, input rest front)
  unfolding read.pairs_from
  pairs_none zero found rest front h = refl
  pairs_none (suc n) found rest front h = rw (no_test_at rest h) refl

  pub pair_by : (i : Input) (k v : Expr) (l : Place) (ts : List Token) (front : ℕ) (j : Input) → inner rule.Test i ≡ Ok (k, input (at l (tok.Op op.Colon) ∷ ts) front) → inner rule.Test (input ts front) ≡ Ok (v, j)
      → read.pair inner i ≡ Ok ((k, v), j)
  unfolding read.pair expect sees
  pair_by i k v l ts front j h e = rw (h, e) refl

  pub pairs_last : (n : ℕ) (found : List (Expr × Expr)) (i : Input) (p : Expr × Expr) (rest : List Token) (front : ℕ) → read.begins_test (kind_at i.ahead) ≡ true → read.pair inner i ≡ Ok (p, input rest front) → sees (mark.Op op.Comma) (input rest front) ≡ false
      → read.pairs_from inner (suc n) found i ≡ Ok (found ++ p ∷ [], input rest front)
  unfolding read.pairs_from after
  pairs_last n found i p rest front b h ends = rw (b, h, ends) refl

  pub pairs_then : (n : ℕ) (found : List (Expr × Expr)) (i : Input) (p : Expr × Expr) (l : Place) (ts : List Token) (front : ℕ) → read.begins_test (kind_at i.ahead) ≡ true → read.pair inner i ≡ Ok (p, input (at l (tok.Op op.Comma) ∷ ts) front)
      → read.pairs_from inner (suc n) found i ≡ read.pairs_from inner n (found ++ p ∷ []) (input ts front)
  unfolding read.pairs_from after sees
  pairs_then n found i p l ts front b h = rw (b, h) refl

  -- ---- arguments

  pub arguments_none : (n : ℕ) (given : Arguments) (rest : List Token) (front : ℕ) → 14 ≤ rank rest → read.arguments_from inner n given (input rest front) ≡ Ok (given, input rest front)
  unfolding read.arguments_from
  arguments_none zero given rest front h = refl
  arguments_none (suc n) given rest front h = rw (no_test_at rest h) refl

  pub argument_positional : (args : List Expr) (i : Input) (x : Expr) (j : Input) → read.keyword_at i.ahead ≡ false → inner rule.Test i ≡ Ok (x, j)
      → read.argument inner (read.arguments_of args []) i ≡ Ok (read.arguments_of (args ++ x ∷ []) [], j)
  unfolding read.argument read.positional read.sees_keyword
  argument_positional args i x j k h = rw (k, h) refl

  pub argument_keyword : (args : List Expr) (keys : List (List ℕ × Expr)) (l r : Place) (text : List ℕ) (ts : List Token) (front : ℕ) (x : Expr) (j : Input) → read.is_new text (read.names keys) ≡ true → inner rule.Test (input ts front) ≡ Ok (x, j)
      → read.argument inner (read.arguments_of args keys) (input (at l (tok.Name text) ∷ at r (tok.Op op.Assign) ∷ ts) front) ≡ Ok (read.arguments_of args (keys ++ (text, x) ∷ []), j)
  unfolding read.argument read.keyword read.sees_keyword expect sees name
  argument_keyword args keys l r text ts front x j new h = rw (h, new) refl

  pub arguments_last : (n : ℕ) (given more : Arguments) (i : Input) (rest : List Token) (front : ℕ) → read.begins_test (kind_at i.ahead) ≡ true → read.argument inner given i ≡ Ok (more, input rest front) → sees (mark.Op op.Comma) (input rest front) ≡ false
      → read.arguments_from inner (suc n) given i ≡ Ok (more, input rest front)
  unfolding read.arguments_from after
  arguments_last n given more i rest front b h ends = rw (b, h, ends) refl

  pub arguments_then : (n : ℕ) (given more : Arguments) (i : Input) (l : Place) (ts : List Token) (front : ℕ) → read.begins_test (kind_at i.ahead) ≡ true → read.argument inner given i ≡ Ok (more, input (at l (tok.Op op.Comma) ∷ ts) front)
      → read.arguments_from inner (suc n) given i ≡ read.arguments_from inner n more (input ts front)
  unfolding read.arguments_from after sees
  arguments_then n given more i l ts front b h = rw (b, h) refl

  -- ---- trailers

  pub no_trailer_left : (n : ℕ) (left : Expr) (rest : List Token) (front : ℕ) → 2 ≤ rank rest → read.trailers inner n left (input rest front) ≡ Ok (left, input rest front)
  unfolding read.trailers
  no_trailer_left zero left rest front h = refl
  no_trailer_left (suc n) left rest front h = rw (no_trailer_at rest h) refl

  pub trailers_call : (n : ℕ) (left : Expr) (l r : Place) (ts rest : List Token) (front : ℕ) (given : Arguments) → read.arguments_from inner (length ts) (read.arguments_of [] []) (input ts front) ≡ Ok (given, input (at r (tok.Op op.CloseParen) ∷ rest) front)
      → read.trailers inner (suc n) left (input (at l (tok.Op op.OpenParen) ∷ ts) front) ≡ read.trailers inner n (ex.Call left given.args given.keys) (input rest front)
  unfolding read.trailers read.trailer read.call read.arguments expect sees
  trailers_call n left l r ts rest front given h = rw h refl

  pub trailers_index : (n : ℕ) (left : Expr) (l r : Place) (ts rest : List Token) (front : ℕ) (m : read.Listed) → read.members (inner rule.Test) (input ts front) ≡ Ok (m, input (at r (tok.Op op.CloseBracket) ∷ rest) front)
      → read.trailers inner (suc n) left (input (at l (tok.Op op.OpenBracket) ∷ ts) front) ≡ read.trailers inner n (ex.Index left (read.tuple_of m.0 m.1)) (input rest front)
  unfolding read.trailers read.trailer read.index expect sees
  trailers_index n left l r ts rest front m h = rw h refl

  pub trailers_attribute : (n : ℕ) (left : Expr) (l r : Place) (text : List ℕ) (rest : List Token) (front : ℕ)
      → read.trailers inner (suc n) left (input (at l (tok.Op op.Dot) ∷ at r (tok.Name text) ∷ rest) front) ≡ read.trailers inner n (ex.Attr left text) (input rest front)
  unfolding read.trailers read.trailer name
  trailers_attribute n left l r text rest front = refl

  pub primary_by : (i j : Input) (x : Expr) (o : Outcome Expr) → read.atom inner i ≡ Ok (x, j) → read.trailers inner (length j.ahead) x j ≡ o → read.primary inner i ≡ o
  unfolding read.primary read.all_trailers
  primary_by i j x o h e = rw h e

  -- ---- operators

  pub power_alone : (i : Input) (x : Expr) (rest : List Token) (front : ℕ) → read.primary inner i ≡ Ok (x, input rest front) → 3 ≤ rank rest → read.power inner i ≡ Ok (x, input rest front)
  unfolding read.power after
  power_alone i x rest front h r = rw (h, no_power_at rest front r) refl

  pub power_raised : (i : Input) (x y : Expr) (l : Place) (ts : List Token) (front : ℕ) (j : Input) → read.primary inner i ≡ Ok (x, input (at l (tok.Op op.DoubleStar) ∷ ts) front) → inner rule.Factor (input ts front) ≡ Ok (y, j)
      → read.power inner i ≡ Ok (ex.Binary binary.Pow x y, j)
  unfolding read.power after sees
  power_raised i x y l ts front j h e = rw (h, e) refl

  pub factor_signed : (l : Place) (kind : Tok) (how : UnaryOp) (ts : List Token) (front : ℕ) (x : Expr) (j : Input) → read.sign kind ≡ Some how → inner rule.Factor (input ts front) ≡ Ok (x, j)
      → read.factor inner (input (at l kind ∷ ts) front) ≡ Ok (ex.Unary how x, j)
  unfolding read.factor
  factor_signed l kind how ts front x j is h = rw (is, h) refl

  pub factor_power : (a : g.Atom) (rest : List Token) (front : ℕ) → read.factor inner (input (g.atom_text a rest) front) ≡ read.power inner (input (g.atom_text a rest) front)
  unfolding read.factor
  factor_power (g.name l text) rest front = refl
  factor_power (g.int l n) rest front = refl
  factor_power (g.strings l text ss) rest front = refl
  factor_power (g.none l) rest front = refl
  factor_power (g.truth l) rest front = refl
  factor_power (g.falsity l) rest front = refl
  factor_power (g.round l m r) rest front = refl
  factor_power (g.square l m r) rest front = refl
  factor_power (g.brace l ps r) rest front = refl

  pub sum_operand : (i : Input) → read.sum inner 0 i ≡ read.factor inner i
  unfolding read.sum
  sum_operand i = refl

  pub sum_grouped : (level : ℕ) (i j : Input) (x : Expr) (o : Outcome Expr) → read.sum inner level i ≡ Ok (x, j) → read.chain (read.sum inner level) (suc level) (length j.ahead) x j ≡ o → read.sum inner (suc level) i ≡ o
  unfolding read.sum read.whole_chain
  sum_grouped level i j x o h e = rw h e

  -- ---- tests

  pub no_comparison_left : (n : ℕ) (found : List (CompareOp × Expr)) (rest : List Token) (front : ℕ) → 10 ≤ rank rest → read.comparisons inner n found (input rest front) ≡ Ok (found, input rest front)
  unfolding read.comparisons
  no_comparison_left zero found rest front h = refl
  no_comparison_left (suc n) found rest front h = rw (no_compare_op rest front h) refl

  pub comparison_then : (n : ℕ) (found : List (CompareOp × Expr)) (i j m : Input) (how : CompareOp) (x : Expr) → read.compare_op i ≡ Ok (Some how, j) → read.sum inner 6 j ≡ Ok (x, m)
      → read.comparisons inner (suc n) found i ≡ read.comparisons inner n (found ++ (how, x) ∷ []) m
  unfolding read.comparisons
  comparison_then n found i j m how x h e = rw (h, e) refl

  pub compare_by : (i j m : Input) (x : Expr) (cs : List (CompareOp × Expr)) → read.sum inner 6 i ≡ Ok (x, j) → read.comparisons inner (length j.ahead) [] j ≡ Ok (cs, m) → read.compare inner i ≡ Ok (read.compared x cs, m)
  unfolding read.compare read.all_comparisons
  compare_by i j m x cs h e = rw (h, e) refl

  pub not_negated : (l : Place) (ts : List Token) (front : ℕ) (x : Expr) (j : Input) → inner rule.NotTest (input ts front) ≡ Ok (x, j) → read.not_test inner (input (at l (tok.Word word.Not) ∷ ts) front) ≡ Ok (ex.Not x, j)
  unfolding read.not_test after sees
  not_negated l ts front x j h = rw h refl

  pub not_compare : (ts : List Token) (front : ℕ) (o : Outcome Expr) → read.begins_operand (kind_at ts) ≡ true → read.compare inner (input ts front) ≡ o → read.not_test inner (input ts front) ≡ o
  unfolding read.not_test after
  not_compare ts front o b h = rw (no_not_at ts front b) h

  pub test_plain : (i : Input) (x : Expr) (rest : List Token) (front : ℕ) → read.or_test inner i ≡ Ok (x, input rest front) → 13 ≤ rank rest → read.whole_test inner i ≡ Ok (x, input rest front)
  unfolding read.whole_test after
  test_plain i x rest front h r = rw (h, no_if_at rest front r) refl

  pub test_conditional : (i : Input) (x c y : Expr) (l r : Place) (ts us : List Token) (front : ℕ) (j : Input) → read.or_test inner i ≡ Ok (x, input (at l (tok.Word word.If) ∷ ts) front) → read.or_test inner (input ts front) ≡ Ok (c, input (at r (tok.Word word.Else) ∷ us) front)
      → inner rule.Test (input us front) ≡ Ok (y, j) → read.whole_test inner i ≡ Ok (ex.Cond c x y, j)
  unfolding read.whole_test read.conditional after sees expect
  test_conditional i x c y l r ts us front j h e f = rw (h, e, f) refl

-- ---- one level of nesting

pub expr_test : (d : ℕ) (i : Input) → read.expr (suc d) rule.Test i ≡ read.whole_test (read.expr d) i
unfolding read.expr
expr_test d i = refl

pub expr_not : (d : ℕ) (i : Input) → read.expr (suc d) rule.NotTest i ≡ read.not_test (read.expr d) i
unfolding read.expr
expr_not d i = refl

pub expr_factor : (d : ℕ) (i : Input) → read.expr (suc d) rule.Factor i ≡ read.factor (read.expr d) i
unfolding read.expr
expr_factor d i = refl
