-- How long readings are, how they begin, and what stands behind their parts.
use Rattle.std.proofs.Common.{◌≡◌, ℕ, zero, suc, ◌+◌, ◌<◌, ◌≤◌, Bool, true, false, List, [], ◌∷◌, length, Some, refl, arith}
use Rattle.py_tokens.specs.declared.token.Token.{Token}
use Rattle.py_tokens.specs.declared.token.Tok.{Tok}
use Rattle.py_tokens.specs.declared.token.Tok.TheVariants as tok
use Rattle.py_tokens.specs.declared.word.Word.TheVariants as word
use Rattle.py_tokens.specs.declared.operator.Op.TheVariants as op
use Rattle.py_tree.specs.declared.expr.UnaryOp.{UnaryOp}
use Rattle.py_tree.specs.declared.expr.BinaryOp.{BinaryOp}
use Rattle.py_expressions.specs.declared.cursor.Mark.TheVariants as mark
use Rattle.py_expressions.specs.Input.{kind_at, is_mark, at}
use Rattle.py_expressions.specs.Follow.{joins, rank}
use Rattle.py_expressions.specs.Reading.{sign, operator, begins_operand, begins_test, is_name, keyword_at}
use Rattle.py_expressions.specs.Grammar as g
use Rattle.py_expressions.proofs.Tables.{operator_joins, comparison_joins, operand_begins_test, sign_begins}

-- ---- a reading is not empty, and what comes behind it is shorter

pub strings_grows : (ss : g.Strings) (rest : List Token) → length rest ≤ length (g.strings_text ss rest)
strings_grows g.no_string rest = omega arith
strings_grows (g.string l text ss) rest = let h = strings_grows ss rest in omega arith

pub comparison_grows : (c : g.Comparison) (rest : List Token) → length rest < length (g.comparison_text c rest)
comparison_grows (g.alone l kind how e) rest = omega arith
comparison_grows (g.not_in l r) rest = omega arith
comparison_grows (g.is_ l) rest = omega arith
comparison_grows (g.is_not l r) rest = omega arith

mutual
  pub factor_grows : (f : g.Factor) (rest : List Token) → length rest < length (g.factor_text f rest)
  factor_grows (g.signed l kind how e f) rest = let h = factor_grows f rest in omega arith
  factor_grows (g.primary a ts) rest = let h = trailers_grows ts rest in let k = atom_grows a (g.trailers_text ts rest) in omega arith
  factor_grows (g.power a ts l f) rest =
      let h = factor_grows f rest in
      let k = trailers_grows ts (at l (tok.Op op.DoubleStar) ∷ g.factor_text f rest) in
      let m = atom_grows a (g.trailers_text ts (at l (tok.Op op.DoubleStar) ∷ g.factor_text f rest)) in
      omega arith

  pub atom_grows : (a : g.Atom) (rest : List Token) → length rest < length (g.atom_text a rest)
  atom_grows (g.name l text) rest = omega arith
  atom_grows (g.int l n) rest = omega arith
  atom_grows (g.strings l text ss) rest = let h = strings_grows ss rest in omega arith
  atom_grows (g.none l) rest = omega arith
  atom_grows (g.truth l) rest = omega arith
  atom_grows (g.falsity l) rest = omega arith
  atom_grows (g.round l m r) rest = let h = inside_grows m (at r (tok.Op op.CloseParen) ∷ rest) in omega arith
  atom_grows (g.square l m r) rest = let h = inside_grows m (at r (tok.Op op.CloseBracket) ∷ rest) in omega arith
  atom_grows (g.brace l ps r) rest = let h = pairs_grows ps (at r (tok.Op op.CloseBrace) ∷ rest) in omega arith

  pub inside_grows : (m : g.Inside) (rest : List Token) → length rest ≤ length (g.inside_text m rest)
  inside_grows g.nothing rest = omega arith
  inside_grows (g.inside m) rest = let h = members_grows m rest in omega arith

  pub pairs_grows : (ps : g.Pairs) (rest : List Token) → length rest ≤ length (g.pairs_text ps rest)
  pairs_grows g.no_pair rest = omega arith
  pairs_grows (g.pair k l v b) rest =
      let h = behind_pair_grows b rest in
      let m = test_grows v (g.behind_pair_text b rest) in
      let n = test_grows k (at l (tok.Op op.Colon) ∷ g.test_text v (g.behind_pair_text b rest)) in
      omega arith

  pub behind_pair_grows : (b : g.BehindPair) (rest : List Token) → length rest ≤ length (g.behind_pair_text b rest)
  behind_pair_grows g.pair_end rest = omega arith
  behind_pair_grows (g.pair_comma l ps) rest = let h = pairs_grows ps rest in omega arith

  pub trailers_grows : (ts : g.Trailers) (rest : List Token) → length rest ≤ length (g.trailers_text ts rest)
  trailers_grows g.no_trailer rest = omega arith
  trailers_grows (g.call l gs r ts) rest = let h = trailers_grows ts rest in let k = arguments_grows gs (at r (tok.Op op.CloseParen) ∷ g.trailers_text ts rest) in omega arith
  trailers_grows (g.index l m r ts) rest = let h = trailers_grows ts rest in let k = members_grows m (at r (tok.Op op.CloseBracket) ∷ g.trailers_text ts rest) in omega arith
  trailers_grows (g.attribute l r text ts) rest = let h = trailers_grows ts rest in omega arith

  pub arguments_grows : {names : List (List ℕ)} (gs : g.Arguments names) (rest : List Token) → length rest ≤ length (g.arguments_text gs rest)
  arguments_grows g.no_argument rest = omega arith
  arguments_grows (g.positional e t b) rest = let h = behind_argument_grows b rest in let k = test_grows t (g.behind_argument_text b rest) in omega arith
  arguments_grows (g.keyword l text e r t b) rest = let h = behind_argument_grows b rest in let k = test_grows t (g.behind_argument_text b rest) in omega arith

  pub behind_argument_grows : {names : List (List ℕ)} (b : g.BehindArgument names) (rest : List Token) → length rest ≤ length (g.behind_argument_text b rest)
  behind_argument_grows g.argument_end rest = omega arith
  behind_argument_grows (g.argument_comma l gs) rest = let h = arguments_grows gs rest in omega arith

  pub members_grows : (m : g.Members) (rest : List Token) → length rest < length (g.members_text m rest)
  members_grows (g.listed t cs) rest = let h = commas_grows cs rest in let k = test_grows t (g.commas_text cs rest) in omega arith

  pub commas_grows : (cs : g.Commas) (rest : List Token) → length rest ≤ length (g.commas_text cs rest)
  commas_grows g.no_comma rest = omega arith
  commas_grows (g.last_comma l) rest = omega arith
  commas_grows (g.comma l t cs) rest = let h = commas_grows cs rest in let k = test_grows t (g.commas_text cs rest) in omega arith

  pub test_grows : (t : g.Test) (rest : List Token) → length rest < length (g.test_text t rest)
  test_grows (g.plain o) rest = or_grows o rest
  test_grows (g.conditional o l c r t) rest =
      let h = test_grows t rest in
      let k = or_grows c (at r (tok.Word word.Else) ∷ g.test_text t rest) in
      let m = or_grows o (at l (tok.Word word.If) ∷ g.or_text c (at r (tok.Word word.Else) ∷ g.test_text t rest)) in
      omega arith

  pub or_grows : (o : g.OrTest) (rest : List Token) → length rest < length (g.or_text o rest)
  or_grows (g.or_test a os) rest = let h = or_more_grows os rest in let k = and_grows a (g.or_more_text os rest) in omega arith

  pub or_more_grows : (os : g.OrMore) (rest : List Token) → length rest ≤ length (g.or_more_text os rest)
  or_more_grows g.no_or rest = omega arith
  or_more_grows (g.or_more l a os) rest = let h = or_more_grows os rest in let k = and_grows a (g.or_more_text os rest) in omega arith

  pub and_grows : (a : g.AndTest) (rest : List Token) → length rest < length (g.and_text a rest)
  and_grows (g.and_test n ns) rest = let h = and_more_grows ns rest in let k = not_grows n (g.and_more_text ns rest) in omega arith

  pub and_more_grows : (ns : g.AndMore) (rest : List Token) → length rest ≤ length (g.and_more_text ns rest)
  and_more_grows g.no_and rest = omega arith
  and_more_grows (g.and_more l n ns) rest = let h = and_more_grows ns rest in let k = not_grows n (g.and_more_text ns rest) in omega arith

  pub not_grows : (n : g.NotTest) (rest : List Token) → length rest < length (g.not_text n rest)
  not_grows (g.negated l n) rest = let h = not_grows n rest in omega arith
  not_grows (g.compare s cs) rest = let h = comparisons_grows cs rest in let k = sum_grows s (g.comparisons_text cs rest) in omega arith

  pub comparisons_grows : (cs : g.Comparisons) (rest : List Token) → length rest ≤ length (g.comparisons_text cs rest)
  comparisons_grows g.no_comparison rest = omega arith
  comparisons_grows (g.comparing c s cs) rest =
      let h = comparisons_grows cs rest in
      let k = sum_grows s (g.comparisons_text cs rest) in
      let m = comparison_grows c (g.sum_text s (g.comparisons_text cs rest)) in
      omega arith

  pub sum_grows : {level : ℕ} (s : g.Sum level) (rest : List Token) → length rest < length (g.sum_text s rest)
  sum_grows (g.operand f) rest = let h = factor_grows f rest in omega arith
  sum_grows (g.grouped s c) rest = let h = chain_grows c rest in let k = sum_grows s (g.chain_text c rest) in omega arith

  pub chain_grows : {level : ℕ} (c : g.Chain level) (rest : List Token) → length rest ≤ length (g.chain_text c rest)
  chain_grows g.no_operator rest = omega arith
  chain_grows (g.operated l kind how e s c) rest = let h = chain_grows c rest in let k = sum_grows s (g.chain_text c rest) in omega arith

-- ---- how a reading begins

pub atom_starts : (a : g.Atom) (rest : List Token) → begins_operand (kind_at (g.atom_text a rest)) ≡ true
atom_starts (g.name l text) rest = refl
atom_starts (g.int l n) rest = refl
atom_starts (g.strings l text ss) rest = refl
atom_starts (g.none l) rest = refl
atom_starts (g.truth l) rest = refl
atom_starts (g.falsity l) rest = refl
atom_starts (g.round l m r) rest = refl
atom_starts (g.square l m r) rest = refl
atom_starts (g.brace l ps r) rest = refl

pub factor_starts : (f : g.Factor) (rest : List Token) → begins_operand (kind_at (g.factor_text f rest)) ≡ true
factor_starts (g.signed l kind how e f) rest = sign_begins kind how e
factor_starts (g.primary a ts) rest = atom_starts a (g.trailers_text ts rest)
factor_starts (g.power a ts l f) rest = atom_starts a (g.trailers_text ts (at l (tok.Op op.DoubleStar) ∷ g.factor_text f rest))

pub sum_starts : {level : ℕ} (s : g.Sum level) (rest : List Token) → begins_operand (kind_at (g.sum_text s rest)) ≡ true
sum_starts (g.operand f) rest = factor_starts f rest
sum_starts (g.grouped s c) rest = sum_starts s (g.chain_text c rest)

pub not_starts : (n : g.NotTest) (rest : List Token) → begins_test (kind_at (g.not_text n rest)) ≡ true
not_starts (g.negated l n) rest = refl
not_starts (g.compare s cs) rest = operand_begins_test (kind_at (g.sum_text s (g.comparisons_text cs rest))) (sum_starts s (g.comparisons_text cs rest))

pub or_starts : (o : g.OrTest) (rest : List Token) → begins_test (kind_at (g.or_text o rest)) ≡ true
or_starts (g.or_test (g.and_test n ns) os) rest = not_starts n (g.and_more_text ns (g.or_more_text os rest))

pub test_starts : (t : g.Test) (rest : List Token) → begins_test (kind_at (g.test_text t rest)) ≡ true
test_starts (g.plain o) rest = or_starts o rest
test_starts (g.conditional o l c r t) rest = or_starts o (at l (tok.Word word.If) ∷ g.or_text c (at r (tok.Word word.Else) ∷ g.test_text t rest))

pub members_start : (m : g.Members) (rest : List Token) → begins_test (kind_at (g.members_text m rest)) ≡ true
members_start (g.listed t cs) rest = test_starts t (g.commas_text cs rest)

-- ---- what comes behind a part

pub strings_rank : (ts : g.Trailers) (rest : List Token) → 2 ≤ rank rest → 1 ≤ rank (g.trailers_text ts rest)
strings_rank g.no_trailer rest h = omega arith
strings_rank (g.call l gs r ts) rest h = omega arith
strings_rank (g.index l m r ts) rest h = omega arith
strings_rank (g.attribute l r text ts) rest h = omega arith

pub chain_rank : {level : ℕ} (c : g.Chain level) (rest : List Token) → level + 4 ≤ rank rest → level + 3 ≤ rank (g.chain_text c rest)
chain_rank g.no_operator rest h = omega arith
chain_rank {level = level} (g.operated l kind how e s c) rest h = omega (arith, operator_joins level kind how e)

comparison_rank : (c : g.Comparison) (rest : List Token) → 9 ≤ rank (g.comparison_text c rest)
comparison_rank (g.alone l kind how e) rest = omega (arith, comparison_joins kind how e)
comparison_rank (g.not_in l r) rest = omega arith
comparison_rank (g.is_ l) rest = omega arith
comparison_rank (g.is_not l r) rest = omega arith

pub comparisons_rank : (cs : g.Comparisons) (rest : List Token) → 10 ≤ rank rest → 9 ≤ rank (g.comparisons_text cs rest)
comparisons_rank g.no_comparison rest h = omega arith
comparisons_rank (g.comparing c s cs) rest h = comparison_rank c (g.sum_text s (g.comparisons_text cs rest))

pub and_more_rank : (ns : g.AndMore) (rest : List Token) → 11 ≤ rank rest → 10 ≤ rank (g.and_more_text ns rest)
and_more_rank g.no_and rest h = omega arith
and_more_rank (g.and_more l n ns) rest h = omega arith

pub or_more_rank : (os : g.OrMore) (rest : List Token) → 12 ≤ rank rest → 11 ≤ rank (g.or_more_text os rest)
or_more_rank g.no_or rest h = omega arith
or_more_rank (g.or_more l a os) rest h = omega arith

pub commas_rank : (cs : g.Commas) (rest : List Token) → 14 ≤ rank rest → 13 ≤ rank (g.commas_text cs rest)
commas_rank g.no_comma rest h = omega arith
commas_rank (g.last_comma l) rest h = omega arith
commas_rank (g.comma l t cs) rest h = omega arith

pub behind_pair_rank : (b : g.BehindPair) (rest : List Token) → 14 ≤ rank rest → 13 ≤ rank (g.behind_pair_text b rest)
behind_pair_rank g.pair_end rest h = omega arith
behind_pair_rank (g.pair_comma l ps) rest h = omega arith

pub behind_argument_rank : {names : List (List ℕ)} (b : g.BehindArgument names) (rest : List Token) → 14 ≤ rank rest → 13 ≤ rank (g.behind_argument_text b rest)
behind_argument_rank g.argument_end rest h = omega arith
behind_argument_rank (g.argument_comma l gs) rest h = omega arith

-- ---- a test that is no keyword argument

abbrev pub assigns : List Token → Bool
assigns ts = is_mark (mark.Op op.Assign) (kind_at ts)

no_assign_below : (kind : Tok) → joins kind ≤ 13 → is_mark (mark.Op op.Assign) kind ≡ false
no_assign_below (tok.Op op.Assign) h = absurd (omega (arith, h))
no_assign_below _ h = refl

operator_level : (n : ℕ) (kind : Tok) (how : BinaryOp) → operator (suc n) kind ≡ Some how → n ≤ 5
operator_level zero kind how e = omega arith
operator_level (suc zero) kind how e = omega arith
operator_level (suc (suc zero)) kind how e = omega arith
operator_level (suc (suc (suc zero))) kind how e = omega arith
operator_level (suc (suc (suc (suc zero)))) kind how e = omega arith
operator_level (suc (suc (suc (suc (suc zero))))) kind how e = omega arith
operator_level (suc (suc (suc (suc (suc (suc n)))))) kind how e = absurd cc

trailers_assign : (ts : g.Trailers) (rest : List Token) → assigns rest ≡ false → assigns (g.trailers_text ts rest) ≡ false
trailers_assign g.no_trailer rest h = h
trailers_assign (g.call l gs r ts) rest h = refl
trailers_assign (g.index l m r ts) rest h = refl
trailers_assign (g.attribute l r text ts) rest h = refl

chain_assign : {level : ℕ} (c : g.Chain level) (rest : List Token) → assigns rest ≡ false → assigns (g.chain_text c rest) ≡ false
chain_assign g.no_operator rest h = h
chain_assign {level = level} (g.operated l kind how e s c) rest h = no_assign_below kind (omega (arith, operator_joins level kind how e, operator_level level kind how e))

comparisons_assign : (cs : g.Comparisons) (rest : List Token) → assigns rest ≡ false → assigns (g.comparisons_text cs rest) ≡ false
comparisons_assign g.no_comparison rest h = h
comparisons_assign (g.comparing (g.alone l kind how e) s cs) rest h = no_assign_below kind (omega (arith, comparison_joins kind how e))
comparisons_assign (g.comparing (g.not_in l r) s cs) rest h = refl
comparisons_assign (g.comparing (g.is_ l) s cs) rest h = refl
comparisons_assign (g.comparing (g.is_not l r) s cs) rest h = refl

and_more_assign : (ns : g.AndMore) (rest : List Token) → assigns rest ≡ false → assigns (g.and_more_text ns rest) ≡ false
and_more_assign g.no_and rest h = h
and_more_assign (g.and_more l n ns) rest h = refl

or_more_assign : (os : g.OrMore) (rest : List Token) → assigns rest ≡ false → assigns (g.or_more_text os rest) ≡ false
or_more_assign g.no_or rest h = h
or_more_assign (g.or_more l a os) rest h = refl

pub behind_argument_assign : {names : List (List ℕ)} (b : g.BehindArgument names) (rest : List Token) → assigns rest ≡ false → assigns (g.behind_argument_text b rest) ≡ false
behind_argument_assign g.argument_end rest h = h
behind_argument_assign (g.argument_comma l gs) rest h = refl

no_name : (t : Token) (ts : List Token) → is_name t.kind ≡ false → keyword_at (t ∷ ts) ≡ false
no_name t [] e = refl
no_name t (u ∷ ts) e = rw e refl

name_alone : (t : Token) (ts : List Token) → is_name t.kind ≡ true → assigns ts ≡ false → keyword_at (t ∷ ts) ≡ false
name_alone t [] e h = refl
name_alone t (u ∷ ts) e h = rw e h

atom_keyword : (a : g.Atom) (rest : List Token) → assigns rest ≡ false → keyword_at (g.atom_text a rest) ≡ false
atom_keyword (g.name l text) rest h = name_alone (at l (tok.Name text)) rest refl h
atom_keyword (g.int l n) rest h = no_name (at l (tok.Int n)) rest refl
atom_keyword (g.strings l text ss) rest h = no_name (at l (tok.Str text)) (g.strings_text ss rest) refl
atom_keyword (g.none l) rest h = no_name (at l (tok.Word word.None)) rest refl
atom_keyword (g.truth l) rest h = no_name (at l (tok.Word word.True)) rest refl
atom_keyword (g.falsity l) rest h = no_name (at l (tok.Word word.False)) rest refl
atom_keyword (g.round l m r) rest h = no_name (at l (tok.Op op.OpenParen)) (g.inside_text m (at r (tok.Op op.CloseParen) ∷ rest)) refl
atom_keyword (g.square l m r) rest h = no_name (at l (tok.Op op.OpenBracket)) (g.inside_text m (at r (tok.Op op.CloseBracket) ∷ rest)) refl
atom_keyword (g.brace l ps r) rest h = no_name (at l (tok.Op op.OpenBrace)) (g.pairs_text ps (at r (tok.Op op.CloseBrace) ∷ rest)) refl

sign_name : (kind : Tok) (how : UnaryOp) → sign kind ≡ Some how → is_name kind ≡ false
sign_name (tok.Name text) how e = absurd cc
sign_name _ how e = refl

factor_keyword : (f : g.Factor) (rest : List Token) → assigns rest ≡ false → keyword_at (g.factor_text f rest) ≡ false
factor_keyword (g.signed l kind how e f) rest h = no_name (at l kind) (g.factor_text f rest) (sign_name kind how e)
factor_keyword (g.primary a ts) rest h = atom_keyword a (g.trailers_text ts rest) (trailers_assign ts rest h)
factor_keyword (g.power a ts l f) rest h =
    let raised = at l (tok.Op op.DoubleStar) ∷ g.factor_text f rest in
    atom_keyword a (g.trailers_text ts raised) (trailers_assign ts raised refl)

sum_keyword : {level : ℕ} (s : g.Sum level) (rest : List Token) → assigns rest ≡ false → keyword_at (g.sum_text s rest) ≡ false
sum_keyword (g.operand f) rest h = factor_keyword f rest h
sum_keyword (g.grouped s c) rest h = sum_keyword s (g.chain_text c rest) (chain_assign c rest h)

not_keyword : (n : g.NotTest) (rest : List Token) → assigns rest ≡ false → keyword_at (g.not_text n rest) ≡ false
not_keyword (g.negated l n) rest h = no_name (at l (tok.Word word.Not)) (g.not_text n rest) refl
not_keyword (g.compare s cs) rest h = sum_keyword s (g.comparisons_text cs rest) (comparisons_assign cs rest h)

or_keyword : (o : g.OrTest) (rest : List Token) → assigns rest ≡ false → keyword_at (g.or_text o rest) ≡ false
or_keyword (g.or_test (g.and_test n ns) os) rest h = not_keyword n (g.and_more_text ns (g.or_more_text os rest)) (and_more_assign ns (g.or_more_text os rest) (or_more_assign os rest h))

pub test_keyword : (t : g.Test) (rest : List Token) → assigns rest ≡ false → keyword_at (g.test_text t rest) ≡ false
test_keyword (g.plain o) rest h = or_keyword o rest h
test_keyword (g.conditional o l c r t) rest h = or_keyword o (at l (tok.Word word.If) ∷ g.or_text c (at r (tok.Word word.Else) ∷ g.test_text t rest)) refl
