-- Readers stop only at the front that they were given.
use Rattle.std.proofs.Common.{◌≡◌, ℕ, zero, suc, Bool, true, false, cond, List, [], ◌∷◌, ◌++◌, length, Option, Some, None, refl, sym, ap, ◌∙◌, inl, inr}
use Rattle.py_tokens.specs.declared.token.Tok.{Tok}
use Rattle.py_tokens.specs.declared.token.Tok.TheVariants as tok
use Rattle.py_tokens.specs.declared.word.Word.{Word}
use Rattle.py_tokens.specs.declared.word.Word.TheVariants as word
use Rattle.py_tokens.specs.declared.operator.Op.TheVariants as op
use Rattle.py_tree.specs.declared.expr.Expr.{Expr}
use Rattle.py_tree.specs.declared.expr.Expr.TheVariants as ex
use Rattle.py_tree.specs.declared.expr.UnaryOp.{UnaryOp}
use Rattle.py_tree.specs.declared.expr.BinaryOp.{BinaryOp}
use Rattle.py_tree.specs.declared.expr.BinaryOp.TheVariants as binary
use Rattle.py_tree.specs.declared.expr.CompareOp.{CompareOp}
use Rattle.py_tree.specs.declared.expr.CompareOp.TheVariants as compares
use Rattle.py_expressions.specs.declared.cursor.Mark.{Mark}
use Rattle.py_expressions.specs.declared.cursor.Mark.TheVariants as mark
use Rattle.py_expressions.specs.declared.grammar.Rule.{Rule}
use Rattle.py_expressions.specs.declared.grammar.Rule.TheVariants as rule
use Rattle.py_expressions.specs.declared.calls.Arguments.{Arguments}
use Rattle.py_expressions.specs.Input.{Input, Parser, ◌>>=◌, pure, refuse, peek, take_token, kind, kind_at, sees, after, eat, expect, name, name_by, next}
use Rattle.py_expressions.specs.Reading as read
use Rattle.py_expressions.specs.Laws.{Sound, Fails}
use Rattle.py_expressions.proofs.Steps.{done, stopped, bind_ok, bind_err, done_is, no_err, no_ok, err_is, chosen, after_front, name_sound}
use Rattle.py_expressions.proofs.Backward.{RulesSound, expr_sound, members_sound, strings_sound, compare_op_sound, some_members_sound, pair_sound, pairs_sound, atom_sound, argument_sound, arguments_sound, trailer_sound, primary_sound, sum_sound, comparisons_sound, read_not_sound, and_sound, or_sound}

-- ---- what keeps the front

-- it leaves the front as it was
abbrev pub Keeps : {A : Type 0} → Parser A → Type 0
Keeps {A} p = (i : Input) (x : A) (j : Input) → p i ≡ done x j → i.front ≡ j.front

pub expect_fails : (m : Mark) → Fails (expect m)
unfolding expect
expect_fails m i d e = go (sees m i) e
  where
    go : (b : Bool) → cond b (done (tt {0}) (next i)) (stopped i.front) ≡ stopped d → d ≡ i.front
    go true e = absurd (no_ok (tt {0}) (next i) d e)
    go false e = sym (err_is {A = Unit {0}} i.front d e)

pub sound_keeps : {C A : Type 0} (text : C → List _ → List _) (tree : C → A) (p : Parser A) → Sound text tree p → Keeps p
sound_keeps text tree p h i x j e = (h i x j e).kept

pub fails_bind : {A B : Type 0} (p : Parser A) (f : A → Parser B) → Keeps p → Fails p → ((x : A) → Fails (f x)) → Fails (p >>= f)
fails_bind p f kp fp ff i d e = elim (bind_err (p i) f d e) [
  | inl h ↦ fp i d h
  | inr b ↦ ff b.0 b.1 d b.3 ∙ sym (kp i b.0 b.1 b.2)
]

pub keeps_bind : {A B : Type 0} (p : Parser A) (f : A → Parser B) → Keeps p → ((x : A) → Keeps (f x)) → Keeps (p >>= f)
keeps_bind p f kp kf i x j e = let b = bind_ok (p i) f x j e in kp i b.0 b.1 b.2 ∙ kf b.0 b.1 x j b.3

pub fails_pure : {A : Type 0} (x : A) → Fails (pure x)
fails_pure x i d e = absurd (no_ok x i d e)

pub keeps_pure : {A : Type 0} (x : A) → Keeps (pure x)
keeps_pure x i y j e = ap (λ (q : Input). q.front) (done_is x y i j e).1

pub fails_refuse : {A : Type 0} → Fails (refuse {A = A})
fails_refuse {A} i d e = sym (err_is {A = A} i.front d e)

pub fails_if : {A : Type 0} (b : Bool) (p q : Parser A) → Fails p → Fails q → Fails (cond b p q)
fails_if true p q f h = f
fails_if false p q f h = h

pub keeps_if : {A : Type 0} (b : Bool) (p q : Parser A) → Keeps p → Keeps q → Keeps (cond b p q)
keeps_if true p q f h = f
keeps_if false p q f h = h

pub fails_peek : {A : Type 0} (f : Tok → Parser A) → ((c : Tok) → Fails (f c)) → Fails (peek >>= f)
fails_peek f h i d e = h (kind i) i d e

pub fails_take : {A : Type 0} (q : Parser A) → Fails q → Fails (take_token >>= (λ _. q))
fails_take q f i d e = f (next i) d e

pub keeps_take : {A : Type 0} (f : Unit {0} → Parser A) → Keeps (f tt) → Keeps (take_token >>= f)
keeps_take f h i x j e = h (next i) x j e

pub fails_eat : {A : Type 0} (m : Mark) (f : Bool → Parser A) → ((b : Bool) → Fails (f b)) → Fails (eat m >>= f)
fails_eat m f h i d e = h (sees m i) (after m i) d e ∙ after_front m i

pub keeps_eat : {A : Type 0} (m : Mark) (f : Bool → Parser A) → ((b : Bool) → Keeps (f b)) → Keeps (eat m >>= f)
keeps_eat m f h i x j e = sym (after_front m i) ∙ h (sees m i) (after m i) x j e

pub keeps_expect : (m : Mark) → Keeps (expect m)
unfolding expect
keeps_expect m i x j e = go (sees m i) e
  where
    go : (b : Bool) → cond b (done (tt {0}) (next i)) (stopped i.front) ≡ done x j → i.front ≡ j.front
    go true e = ap (λ (q : Input). q.front) (done_is (tt {0}) x (next i) j e).1
    go false e = absurd (no_err i.front x j e)

pub fails_expect : {A : Type 0} (m : Mark) (f : Unit {0} → Parser A) → Fails (f tt) → Fails (expect m >>= f)
fails_expect m f h = fails_bind (expect m) f (keeps_expect m) (expect_fails m) (λ u. h)

-- ---- parts

name_by_fails : (c : Tok) → Fails (name_by c)
name_by_fails (tok.Name text) = fails_take (pure text) (fails_pure text)
name_by_fails _ = fails_refuse

pub name_fails : Fails name
unfolding name
name_fails = fails_peek name_by name_by_fails

pub name_keeps : Keeps name
name_keeps i x j e = (name_sound i j x e).2

strings_by_fails : (go : List ℕ → Parser (List ℕ)) (found : List ℕ) (c : Tok) → ((more : List ℕ) → Fails (go more)) → Fails (read.strings_by go found c)
strings_by_fails go found (tok.Str text) f = fails_take (go (found ++ text)) (f (found ++ text))
strings_by_fails go found _ f = fails_pure found

strings_fails : (n : ℕ) (found : List ℕ) → Fails (read.strings n found)
unfolding read.strings
strings_fails zero found = fails_pure found
strings_fails (suc n) found = fails_peek _ (λ c. strings_by_fails (read.strings n) found c (λ more. strings_fails n more))

all_strings_fails : Fails read.all_strings
unfolding read.all_strings
all_strings_fails i d e = strings_fails (length i.ahead) [] i d e

all_strings_keeps : Keeps read.all_strings
unfolding read.all_strings
all_strings_keeps i x j e = (strings_sound (length i.ahead) [] i x j e).kept

compare_op_with_fails : (o : Option CompareOp) → Fails (read.compare_op_with o)
compare_op_with_fails None = fails_pure None
compare_op_with_fails (Some how) = fails_take (pure (Some how)) (fails_pure (Some how))

compare_op_by_fails : (c : Tok) → Fails (read.compare_op_by c)
compare_op_by_fails (tok.Word word.Not) = fails_take _ (fails_expect (mark.Word word.In) _ (fails_pure (Some compares.NotIn)))
compare_op_by_fails (tok.Word word.Is) = fails_take _ (fails_eat (mark.Word word.Not) _ (λ b. fails_pure (Some (cond b compares.IsNot compares.Is))))
compare_op_by_fails c = compare_op_with_fails (read.comparison c)

compare_op_fails : Fails read.compare_op
unfolding read.compare_op
compare_op_fails = fails_peek _ compare_op_by_fails

compare_op_keeps : Keeps read.compare_op
compare_op_keeps i x j e = elim (compare_op_sound i x j e) [
  | inl w ↦ ap (λ (q : Input). q.front) w.1
  | inr w ↦ w.3
]

chain_by_fails : (operand : Parser Expr) (level : ℕ) (go : Expr → Parser Expr) (left : Expr) (o : Option BinaryOp) → Keeps operand → Fails operand → ((x : Expr) → Fails (go x)) → Fails (read.chain_by operand level go left o)
chain_by_fails operand level go left None kp fp f = fails_pure left
chain_by_fails operand level go left (Some how) kp fp f = fails_take _ (fails_bind operand _ kp fp (λ right. f (ex.Binary how left right)))

chain_fails : (level : ℕ) (operand : Parser Expr) → Keeps operand → Fails operand → (n : ℕ) (left : Expr) → Fails (read.chain operand (suc level) n left)
unfolding read.chain
chain_fails level operand kp fp zero left = fails_pure left
chain_fails level operand kp fp (suc n) left = fails_peek _ (λ c. chain_by_fails operand (suc level) (read.chain operand (suc level) n) left (read.operator (suc level) c) kp fp (chain_fails level operand kp fp n))

module _ (operand : Parser Expr) (between : Word) (kp : Keeps operand) (fp : Fails operand) where
  operands_from_fails : (n : ℕ) (found : List Expr) → Fails (read.operands_from operand between n found)
  unfolding read.operands_from
  operands_from_fails zero found = fails_pure found
  operands_from_fails (suc n) found = fails_eat (mark.Word between) _ (λ b. fails_if b _ _ (fails_bind operand _ kp fp (λ x. operands_from_fails n (found ++ x ∷ []))) (fails_pure found))

  operands_from_keeps : (n : ℕ) (found : List Expr) → Keeps (read.operands_from operand between n found)
  unfolding read.operands_from
  operands_from_keeps zero found = keeps_pure found
  operands_from_keeps (suc n) found = keeps_eat (mark.Word between) _ (λ b. keeps_if b _ _ (keeps_bind operand _ kp (λ x. operands_from_keeps n (found ++ x ∷ []))) (keeps_pure found))

  operands_fails : (first : Expr) → Fails (read.operands operand between first)
  unfolding read.operands
  operands_fails first i d e = operands_from_fails (length i.ahead) (first ∷ []) i d e

  operands_keeps : (first : Expr) → Keeps (read.operands operand between first)
  unfolding read.operands
  operands_keeps first i x j e = operands_from_keeps (length i.ahead) (first ∷ []) i x j e

  junction_fails : (make : List Expr → Expr) → Fails (read.junction operand between make)
  unfolding read.junction
  junction_fails make = fails_bind operand _ kp fp (λ x. fails_bind (read.operands operand between x) _ (operands_keeps x) (operands_fails x) (λ xs. fails_pure (read.joined make xs)))

module _ (item : Parser Expr) (kp : Keeps item) (fp : Fails item) where
  members_from_fails : (n : ℕ) (found : List Expr) → Fails (read.members_from item n found)
  unfolding read.members_from
  members_from_fails zero found = fails_refuse
  members_from_fails (suc n) found = fails_bind item _ kp fp (λ x. fails_eat (mark.Op op.Comma) _ (λ c. fails_if c _ _
      (fails_peek _ (λ kd. fails_if (read.begins_test kd) _ _ (members_from_fails n (found ++ x ∷ [])) (fails_pure (found ++ x ∷ [], true)))) (fails_pure (found ++ x ∷ [], false))))

  pub members_fails : Fails (read.members item)
  unfolding read.members
  members_fails i d e = members_from_fails (length i.ahead) [] i d e

-- ---- the rules

pub record RulesFail (inner : Rule → Parser Expr) : Type 0 where
  pub test : Fails (inner rule.Test)
  pub negation : Fails (inner rule.NotTest)
  pub factor : Fails (inner rule.Factor)

module _ (inner : Rule → Parser Expr) (s : RulesSound inner) (f : RulesFail inner) where
  test_keeps : Keeps (inner rule.Test)
  test_keeps i x j e = (s.test i x j e).kept

  test_members_fails : Fails (read.members (inner rule.Test))
  test_members_fails = members_fails (inner rule.Test) test_keeps f.test

  test_members_keeps : Keeps (read.members (inner rule.Test))
  test_members_keeps i x j e = (members_sound (inner rule.Test) s.test i x j e).kept

  some_members_fails : Fails (read.some_members inner)
  unfolding read.some_members
  some_members_fails = fails_peek _ (λ kd. fails_if (read.begins_test kd) _ _ test_members_fails (fails_pure ([], false)))

  some_members_keeps : Keeps (read.some_members inner)
  some_members_keeps i x j e = (some_members_sound inner s.test s.negation s.factor i x j e).kept

  pair_fails : Fails (read.pair inner)
  unfolding read.pair
  pair_fails = fails_bind (inner rule.Test) _ test_keeps f.test (λ key. fails_expect (mark.Op op.Colon) _ (fails_bind (inner rule.Test) _ test_keeps f.test (λ value. fails_pure (key, value))))

  pair_keeps : Keeps (read.pair inner)
  pair_keeps i x j e = (pair_sound inner s.test s.negation s.factor i x j e).kept

  pairs_from_fails : (n : ℕ) (found : List (Expr × Expr)) → Fails (read.pairs_from inner n found)
  unfolding read.pairs_from
  pairs_from_fails zero found = fails_pure found
  pairs_from_fails (suc n) found = fails_peek _ (λ kd. fails_if (read.begins_test kd) _ _
      (fails_bind (read.pair inner) _ pair_keeps pair_fails (λ p. fails_eat (mark.Op op.Comma) _ (λ c. fails_if c _ _ (pairs_from_fails n (found ++ p ∷ [])) (fails_pure (found ++ p ∷ [])))))
      (fails_pure found))

  pairs_fails : Fails (read.pairs inner)
  unfolding read.pairs
  pairs_fails i d e = pairs_from_fails (length i.ahead) [] i d e

  pairs_keeps : Keeps (read.pairs inner)
  pairs_keeps i x j e = (pairs_sound inner s.test s.negation s.factor i x j e).kept

  atom_by_fails : (c : Tok) → Fails (read.atom_by inner c)
  unfolding read.round read.square read.brace
  atom_by_fails (tok.Name text) = fails_take _ (fails_pure (ex.Name text))
  atom_by_fails (tok.Int n) = fails_take _ (fails_pure (ex.Int n))
  atom_by_fails (tok.Str text) = fails_bind read.all_strings _ all_strings_keeps all_strings_fails (λ found. fails_pure (ex.Str found))
  atom_by_fails (tok.Word word.None) = fails_take _ (fails_pure ex.None)
  atom_by_fails (tok.Word word.True) = fails_take _ (fails_pure ex.True)
  atom_by_fails (tok.Word word.False) = fails_take _ (fails_pure ex.False)
  atom_by_fails (tok.Op op.OpenParen) = fails_take _ (fails_bind (read.some_members inner) _ some_members_keeps some_members_fails (λ found. fails_expect (mark.Op op.CloseParen) _ (fails_pure (read.tuple_of found.0 found.1))))
  atom_by_fails (tok.Op op.OpenBracket) = fails_take _ (fails_bind (read.some_members inner) _ some_members_keeps some_members_fails (λ found. fails_expect (mark.Op op.CloseBracket) _ (fails_pure (ex.List found.0))))
  atom_by_fails (tok.Op op.OpenBrace) = fails_take _ (fails_bind (read.pairs inner) _ pairs_keeps pairs_fails (λ found. fails_expect (mark.Op op.CloseBrace) _ (fails_pure (ex.Dict found))))
  atom_by_fails _ = fails_refuse

  pub atom_fails : Fails (read.atom inner)
  unfolding read.atom
  atom_fails = fails_peek _ atom_by_fails

  pub atom_keeps : Keeps (read.atom inner)
  atom_keeps i x j e = (atom_sound inner s.test s.negation s.factor i x j e).kept

  position_fails : (x : Expr) (args : List Expr) (keys : List (List ℕ × Expr)) → Fails (read.position inner x args keys)
  position_fails x args [] = fails_pure (read.arguments_of (args ++ x ∷ []) [])
  position_fails x args (key ∷ keys) = fails_refuse

  argument_fails : (given : Arguments) → Fails (read.argument inner given)
  unfolding read.argument read.positional read.keyword
  argument_fails given i d e =
      elim (chosen (read.sees_keyword i) _ _ i (stopped d) e) [
        | inl w ↦ fails_bind name _ name_keeps name_fails (λ text. fails_expect (mark.Op op.Assign) _ (fails_bind (inner rule.Test) _ test_keeps f.test (λ x. fails_if (read.is_new text (read.names given.keys)) _ _ (fails_pure (read.arguments_of given.args (given.keys ++ (text, x) ∷ []))) fails_refuse))) i d w.1
        | inr w ↦ fails_bind (inner rule.Test) _ test_keeps f.test (λ x. position_fails x given.args given.keys) i d w.1
      ]

  argument_keeps : (given : Arguments) → Keeps (read.argument inner given)
  argument_keeps given i x j e = (argument_sound inner s.test s.negation s.factor (read.names given.keys) given i x j refl e).kept

  arguments_from_fails : (n : ℕ) (given : Arguments) → Fails (read.arguments_from inner n given)
  unfolding read.arguments_from
  arguments_from_fails zero given = fails_pure given
  arguments_from_fails (suc n) given = fails_peek _ (λ kd. fails_if (read.begins_test kd) _ _
      (fails_bind (read.argument inner given) _ (argument_keeps given) (argument_fails given) (λ more. fails_eat (mark.Op op.Comma) _ (λ c. fails_if c _ _ (arguments_from_fails n more) (fails_pure more))))
      (fails_pure given))

  arguments_fails : Fails (read.arguments inner)
  unfolding read.arguments
  arguments_fails i d e = arguments_from_fails (length i.ahead) (read.arguments_of [] []) i d e

  arguments_keeps : Keeps (read.arguments inner)
  arguments_keeps i x j e = (arguments_sound inner s.test s.negation s.factor i x j e).kept

  trailer_by_fails : (left : Expr) (c : Tok) → Fails (read.trailer_by inner left c)
  unfolding read.call read.index
  trailer_by_fails left (tok.Op op.OpenParen) = fails_take _ (fails_bind (read.arguments inner) _ arguments_keeps arguments_fails (λ given. fails_expect (mark.Op op.CloseParen) _ (fails_pure (ex.Call left given.args given.keys))))
  trailer_by_fails left (tok.Op op.OpenBracket) = fails_take _ (fails_bind (read.members (inner rule.Test)) _ test_members_keeps test_members_fails (λ found. fails_expect (mark.Op op.CloseBracket) _ (fails_pure (ex.Index left (read.tuple_of found.0 found.1)))))
  trailer_by_fails left _ = fails_take _ (fails_bind name _ name_keeps name_fails (λ text. fails_pure (ex.Attr left text)))

  trailer_fails : (left : Expr) → Fails (read.trailer inner left)
  unfolding read.trailer
  trailer_fails left = fails_peek _ (trailer_by_fails left)

  pub trailers_fails : (n : ℕ) (left : Expr) → Fails (read.trailers inner n left)
  unfolding read.trailers
  trailers_fails zero left i d e = fails_pure left i d e
  trailers_fails (suc n) left i d e =
      elim (chosen (read.begins_trailer (kind_at i.ahead)) _ _ i (stopped d) e) [
        | inl w ↦ elim (bind_err (read.trailer inner left i) (read.trailers inner n) d w.1) [
          | inl h ↦ trailer_fails left i d h
          | inr b ↦ trailers_fails n b.0 b.1 d b.3 ∙ sym (trailer_sound inner s.test s.negation s.factor left i b.0 b.1 w.0 b.2).kept
        ]
        | inr w ↦ absurd (no_ok left i d w.1)
      ]

  pub primary_fails : Fails (read.primary inner)
  unfolding read.primary read.all_trailers
  primary_fails = fails_bind (read.atom inner) _ atom_keeps atom_fails (λ x i d e. trailers_fails (length i.ahead) x i d e)

  pub primary_keeps : Keeps (read.primary inner)
  primary_keeps i x j e = (primary_sound inner s.test s.negation s.factor i x j e).kept

  factor_keeps : Keeps (inner rule.Factor)
  factor_keeps i x j e = (s.factor i x j e).kept

  power_fails : Fails (read.power inner)
  unfolding read.power
  power_fails = fails_bind (read.primary inner) _ primary_keeps primary_fails (λ x. fails_eat (mark.Op op.DoubleStar) _ (λ b. fails_if b _ _ (fails_bind (inner rule.Factor) _ factor_keeps f.factor (λ y. fails_pure (ex.Binary binary.Pow x y))) (fails_pure x)))

  factor_by_fails : (o : Option UnaryOp) → Fails (read.factor_by inner o)
  factor_by_fails None = power_fails
  factor_by_fails (Some how) = fails_take _ (fails_bind (inner rule.Factor) _ factor_keeps f.factor (λ x. fails_pure (ex.Unary how x)))

  read_factor_fails : Fails (read.factor inner)
  unfolding read.factor
  read_factor_fails = fails_peek _ (λ c. factor_by_fails (read.sign c))

  sum_keeps : (level : ℕ) → Keeps (read.sum inner level)
  sum_keeps level i x j e = (sum_sound inner s.test s.negation s.factor level i x j e).kept

  sum_fails : (level : ℕ) → Fails (read.sum inner level)
  unfolding read.sum read.whole_chain
  sum_fails zero = read_factor_fails
  sum_fails (suc level) = fails_bind (read.sum inner level) _ (sum_keeps level) (sum_fails level) (λ x i d e. chain_fails level (read.sum inner level) (sum_keeps level) (sum_fails level) (length i.ahead) x i d e)

  comparisons_by_fails : (go : List (CompareOp × Expr) → Parser (List (CompareOp × Expr))) (found : List (CompareOp × Expr)) (o : Option CompareOp) → ((more : List (CompareOp × Expr)) → Fails (go more)) → Fails (read.comparisons_by inner go found o)
  comparisons_by_fails go found None h = fails_pure found
  comparisons_by_fails go found (Some how) h = fails_bind (read.sum inner 6) _ (sum_keeps 6) (sum_fails 6) (λ right. h (found ++ (how, right) ∷ []))

  comparisons_fails : (n : ℕ) (found : List (CompareOp × Expr)) → Fails (read.comparisons inner n found)
  unfolding read.comparisons
  comparisons_fails zero found = fails_pure found
  comparisons_fails (suc n) found = fails_bind read.compare_op _ compare_op_keeps compare_op_fails (λ o. comparisons_by_fails (read.comparisons inner n) found o (comparisons_fails n))

  all_comparisons_fails : Fails (read.all_comparisons inner)
  unfolding read.all_comparisons
  all_comparisons_fails i d e = comparisons_fails (length i.ahead) [] i d e

  all_comparisons_keeps : Keeps (read.all_comparisons inner)
  unfolding read.all_comparisons
  all_comparisons_keeps i x j e = (comparisons_sound inner s.test s.negation s.factor (length i.ahead) [] i x j e).kept

  compare_fails : Fails (read.compare inner)
  unfolding read.compare
  compare_fails = fails_bind (read.sum inner 6) _ (sum_keeps 6) (sum_fails 6) (λ first. fails_bind (read.all_comparisons inner) _ all_comparisons_keeps all_comparisons_fails (λ more. fails_pure (read.compared first more)))

  negation_keeps : Keeps (inner rule.NotTest)
  negation_keeps i x j e = (s.negation i x j e).kept

  read_not_fails : Fails (read.not_test inner)
  unfolding read.not_test
  read_not_fails = fails_eat (mark.Word word.Not) _ (λ b. fails_if b _ _ (fails_bind (inner rule.NotTest) _ negation_keeps f.negation (λ x. fails_pure (ex.Not x))) compare_fails)

  and_fails : Fails (read.and_test inner)
  unfolding read.and_test
  and_fails = junction_fails (read.not_test inner) word.And (λ i x j e. (read_not_sound inner s.test s.negation s.factor i x j e).kept) read_not_fails ex.And

  or_fails : Fails (read.or_test inner)
  unfolding read.or_test
  or_fails = junction_fails (read.and_test inner) word.Or (λ i x j e. (and_sound inner s.test s.negation s.factor i x j e).kept) and_fails ex.Or

  or_keeps : Keeps (read.or_test inner)
  or_keeps i x j e = (or_sound inner s.test s.negation s.factor i x j e).kept

  conditional_fails : (first : Expr) → Fails (read.conditional inner first)
  unfolding read.conditional
  conditional_fails first = fails_bind (read.or_test inner) _ or_keeps or_fails (λ asked. fails_expect (mark.Word word.Else) _ (fails_bind (inner rule.Test) _ test_keeps f.test (λ other. fails_pure (ex.Cond asked first other))))

  read_test_fails : Fails (read.whole_test inner)
  unfolding read.whole_test
  read_test_fails = fails_bind (read.or_test inner) _ or_keeps or_fails (λ first. fails_eat (mark.Word word.If) _ (λ b. fails_if b (read.conditional inner first) (pure first) (conditional_fails first) (fails_pure first)))

pub expr_fails : (d : ℕ) → RulesFail (read.expr d)
unfolding read.expr
expr_fails zero = record { test = fails_refuse; negation = fails_refuse; factor = fails_refuse }
expr_fails (suc d) =
    let s = expr_sound d in
    let f = expr_fails d in
    record { test = read_test_fails (read.expr d) s f; negation = read_not_fails (read.expr d) s f; factor = read_factor_fails (read.expr d) s f }

pub tests_fails : (d : ℕ) → Fails (read.tests d)
unfolding read.tests
tests_fails d = fails_bind (read.members (read.expr d rule.Test)) _ (test_members_keeps (read.expr d) (expr_sound d) (expr_fails d)) (test_members_fails (read.expr d) (expr_sound d) (expr_fails d)) (λ found. fails_pure (read.tuple_of found.0 found.1))
