-- Targets are tests.
use Rattle.std.proofs.Common.{◌≡◌, ℕ, zero, suc, ◌≤◌, ◌<◌, List, [], ◌∷◌, length, Option, Some, refl, sym, ap, ◌∙◌, arith}
use Rattle.py_tokens.specs.declared.token.Token.{Token}
use Rattle.py_tokens.specs.declared.token.Tok.TheVariants as tok
use Rattle.py_tokens.specs.declared.operator.Op.TheVariants as op
use Rattle.py_tree.specs.declared.expr.Expr.{Expr}
use Rattle.py_tree.specs.declared.expr.Expr.TheVariants as ex
use Rattle.py_tree.specs.declared.stmt.Target.{Target}
use Rattle.py_expressions.specs.Input.{at}
use Rattle.py_expressions.specs.Grammar as g
use Rattle.py_expressions.specs.Reading.{joined}
use Rattle.py_expressions.specs.Targets as t
use Rattle.py_expressions.specs.Targets.{target_of, unpack, unpacked, each, both, unpacks}
use Rattle.py_expressions.proofs.Sizes.{factor_grows, commas_grows}
use Rattle.py_expressions.proofs.Aimed.{target_name, target_tuple, target_list, target_attribute, target_index, unpack_cons, each_cons, each_nil, compared_none, joined_alone, tuple_alone, tuple_last, tuple_more, unpacks_alone, unpacks_last, unpacks_more}

-- ---- the reading of a test that the reading of a target is

unfoldable pub as_trailers : g.Trailers → t.Ending → g.Trailers
as_trailers g.no_trailer (t.attribute l r text) = g.attribute l r text g.no_trailer
as_trailers g.no_trailer (t.index l m r) = g.index l m r g.no_trailer
as_trailers (g.call l gs r ts) e = g.call l gs r (as_trailers ts e)
as_trailers (g.index l m r ts) e = g.index l m r (as_trailers ts e)
as_trailers (g.attribute l r text ts) e = g.attribute l r text (as_trailers ts e)

pub trailers_same : (ts : g.Trailers) (e : t.Ending) (rest : List Token) → g.trailers_text (as_trailers ts e) rest ≡ g.trailers_text ts (t.ending_text e rest)
unfolding as_trailers
trailers_same g.no_trailer (t.attribute l r text) rest = refl
trailers_same g.no_trailer (t.index l m r) rest = refl
trailers_same (g.call l gs r ts) e rest = ap (λ q. at l (tok.Op op.OpenParen) ∷ g.arguments_text gs (at r (tok.Op op.CloseParen) ∷ q)) (trailers_same ts e rest)
trailers_same (g.index l m r ts) e rest = ap (λ q. at l (tok.Op op.OpenBracket) ∷ g.members_text m (at r (tok.Op op.CloseBracket) ∷ q)) (trailers_same ts e rest)
trailers_same (g.attribute l r text ts) e rest = ap (λ q. at l (tok.Op op.Dot) ∷ at r (tok.Name text) ∷ q) (trailers_same ts e rest)

trailers_target : (ts : g.Trailers) (e : t.Ending) (left : Expr) (d : ℕ) → target_of (suc d) (g.trailers_tree (as_trailers ts e) left) ≡ Some (t.ending_tree e (g.trailers_tree ts left))
unfolding as_trailers
trailers_target g.no_trailer (t.attribute l r text) left d = target_attribute d left text
trailers_target g.no_trailer (t.index l m r) left d = target_index d left (g.members_tree m)
trailers_target (g.call l gs r ts) e left d = trailers_target ts e (ex.Call left (g.positional_list gs) (g.keyword_list gs)) d
trailers_target (g.index l m r ts) e left d = trailers_target ts e (ex.Index left (g.members_tree m)) d
trailers_target (g.attribute l r text ts) e left d = trailers_target ts e (ex.Attr left text) d

pub as_test : g.Factor → g.Test
as_test f = g.plain (g.or_test (g.and_test (g.compare (g.grouped (g.grouped (g.grouped (g.grouped (g.grouped (g.grouped (g.operand f) g.no_operator) g.no_operator) g.no_operator) g.no_operator) g.no_operator) g.no_operator) g.no_comparison) g.no_and) g.no_or)

pub test_same : (f : g.Factor) (rest : List Token) → g.test_text (as_test f) rest ≡ g.factor_text f rest
unfolding as_test
test_same f rest = refl

pub test_tree_same : (f : g.Factor) → g.test_tree (as_test f) ≡ g.factor_tree f
unfolding as_test
test_tree_same f = ap (λ q. joined ex.Or (joined ex.And (q ∷ []) ∷ [])) (compared_none (g.factor_tree f)) ∙ ap (λ q. joined ex.Or (q ∷ [])) (joined_alone ex.And (g.factor_tree f)) ∙ joined_alone ex.Or (g.factor_tree f)

abbrev pub Primary : Type 0
Primary = g.Atom × g.Trailers

pub as_one : t.One → Primary
as_one (t.One.variable l text) = (g.name l text, g.no_trailer)
as_one (t.part a ts e) = (a, as_trailers ts e)

unfoldable mutual
  pub as_primary : t.Aim → Primary
  as_primary (t.one o) = as_one o
  as_primary (t.round l gs r) = (g.round l (g.inside (as_members gs)) r, g.no_trailer)
  as_primary (t.square l gs r) = (g.square l (g.inside (as_members gs)) r, g.no_trailer)

  pub as_members : t.Aims → g.Members
  as_members (t.listed a cs) = g.listed (as_test (g.primary (as_primary a).0 (as_primary a).1)) (as_commas cs)

  pub as_commas : t.MoreAims → g.Commas
  as_commas t.no_comma = g.no_comma
  as_commas (t.last_comma l) = g.last_comma l
  as_commas (t.comma l a cs) = g.comma l (as_test (g.primary (as_primary a).0 (as_primary a).1)) (as_commas cs)

abbrev pub as_factor : t.Aim → g.Factor
as_factor a = g.primary (as_primary a).0 (as_primary a).1

pub one_same : (o : t.One) (rest : List Token) → g.atom_text (as_one o).0 (g.trailers_text (as_one o).1 rest) ≡ t.one_text o rest
unfolding as_one
one_same (t.One.variable l text) rest = refl
one_same (t.part a ts e) rest = ap (g.atom_text a) (trailers_same ts e rest)

-- ---- its tokens

mutual
  unfolding as_primary

  pub factor_same : (a : t.Aim) (rest : List Token) → g.factor_text (as_factor a) rest ≡ t.aim_text a rest
  factor_same (t.one o) rest = one_same o rest
  factor_same (t.round l gs r) rest = ap (λ q. at l (tok.Op op.OpenParen) ∷ q) (members_same gs (at r (tok.Op op.CloseParen) ∷ rest))
  factor_same (t.square l gs r) rest = ap (λ q. at l (tok.Op op.OpenBracket) ∷ q) (members_same gs (at r (tok.Op op.CloseBracket) ∷ rest))

  pub members_same : (gs : t.Aims) (rest : List Token) → g.members_text (as_members gs) rest ≡ t.aims_text gs rest
  members_same (t.listed a cs) rest = test_same (as_factor a) (g.commas_text (as_commas cs) rest) ∙ ap (g.factor_text (as_factor a)) (commas_same cs rest) ∙ factor_same a (t.more_text cs rest)

  pub commas_same : (cs : t.MoreAims) (rest : List Token) → g.commas_text (as_commas cs) rest ≡ t.more_text cs rest
  commas_same t.no_comma rest = refl
  commas_same (t.last_comma l) rest = refl
  commas_same (t.comma l a cs) rest = ap (λ q. at l (tok.Op op.Comma) ∷ q) (test_same (as_factor a) (g.commas_text (as_commas cs) rest) ∙ ap (g.factor_text (as_factor a)) (commas_same cs rest) ∙ factor_same a (t.more_text cs rest))

pub aim_grows : (a : t.Aim) (rest : List Token) → length rest < length (t.aim_text a rest)
aim_grows a rest = let h = factor_grows (as_factor a) rest in let e = ap length (factor_same a rest) in omega arith

pub more_grows : (cs : t.MoreAims) (rest : List Token) → length rest ≤ length (t.more_text cs rest)
more_grows cs rest = let h = commas_grows (as_commas cs) rest in let e = ap length (commas_same cs rest) in omega arith

pub commas_last_same : (cs : t.MoreAims) → g.commas_last (as_commas cs) ≡ t.more_last cs
unfolding as_primary
commas_last_same t.no_comma = refl
commas_last_same (t.last_comma l) = refl
commas_last_same (t.comma l a cs) = commas_last_same cs

-- ---- its target

one_is : (o : t.One) (d : ℕ) → target_of (suc d) (g.trailers_tree (as_one o).1 (g.atom_tree (as_one o).0)) ≡ Some (t.one_tree o)
unfolding as_one
one_is (t.One.variable l text) d = target_name d text
one_is (t.part a ts e) d = trailers_target ts e (g.atom_tree a) d

both_is : (o : Option Target) (p : Option (List Target)) (x : Target) (xs : List Target) → o ≡ Some x → p ≡ Some xs → both o p ≡ Some (x ∷ xs)
both_is o p x xs e f = ap (λ q. both q p) e ∙ ap (both (Some x)) f

mutual
  unfolding as_primary

  pub factor_target : (a : t.Aim) (d : ℕ) (rest : List Token) → length (t.aim_text a rest) ≤ d → target_of d (g.factor_tree (as_factor a)) ≡ Some (t.aim_tree a)
  factor_target a zero rest le = let h = aim_grows a rest in absurd (omega arith)
  factor_target (t.one o) (suc d) rest le = one_is o d
  factor_target (t.round l gs r) (suc d) rest le = members_target gs d (at r (tok.Op op.CloseParen) ∷ rest) (omega arith)
  factor_target (t.square l (t.listed a cs) r) (suc d) rest le =
      let end = at r (tok.Op op.CloseBracket) ∷ rest in
      let h = aim_grows a (t.more_text cs (at r (tok.Op op.CloseBracket) ∷ rest)) in
      let k = more_grows cs (at r (tok.Op op.CloseBracket) ∷ rest) in
      let first = ap (target_of d) (test_tree_same (as_factor a)) ∙ factor_target a d (t.more_text cs (at r (tok.Op op.CloseBracket) ∷ rest)) (omega arith) in
      target_list d (g.test_tree (as_test (as_factor a)) ∷ g.commas_list (as_commas cs)) ∙ unpack_cons (target_of d) (g.test_tree (as_test (as_factor a))) (g.commas_list (as_commas cs))
      ∙ ap unpacked (both_is (target_of d (g.test_tree (as_test (as_factor a)))) (each (target_of d) (g.commas_list (as_commas cs))) (t.aim_tree a) (t.more_list cs) first (commas_target cs d (at r (tok.Op op.CloseBracket) ∷ rest) (omega arith)))

  pub members_target : (gs : t.Aims) (d : ℕ) (rest : List Token) → length (t.aims_text gs rest) ≤ d → target_of (suc d) (g.members_tree (as_members gs)) ≡ Some (t.aims_tree gs)
  members_target (t.listed a t.no_comma) d rest le =
      ap (target_of (suc d)) (tuple_alone (g.test_tree (as_test (as_factor a))) ∙ test_tree_same (as_factor a)) ∙ factor_target a (suc d) rest (omega arith) ∙ ap (λ q. Some q) (sym (unpacks_alone (t.aim_tree a)))
  members_target (t.listed a (t.last_comma l)) d rest le =
      let x = g.test_tree (as_test (as_factor a)) in
      let first = ap (target_of d) (test_tree_same (as_factor a)) ∙ factor_target a d (at l (tok.Op op.Comma) ∷ rest) le in
      ap (target_of (suc d)) (tuple_last x) ∙ target_tuple d (x ∷ []) ∙ unpack_cons (target_of d) x [] ∙ ap unpacked (both_is (target_of d x) (each (target_of d) []) (t.aim_tree a) [] first (each_nil (target_of d))) ∙ ap (λ q. Some q) (sym (unpacks_last (t.aim_tree a)))
  members_target (t.listed a (t.comma l b cs)) d rest le =
      let x = g.test_tree (as_test (as_factor a)) in
      let y = g.test_tree (as_test (as_factor b)) in
      let xs = g.commas_list (as_commas cs) in
      let h = aim_grows a (at l (tok.Op op.Comma) ∷ t.aim_text b (t.more_text cs rest)) in
      let k = aim_grows b (t.more_text cs rest) in
      let first = ap (target_of d) (test_tree_same (as_factor a)) ∙ factor_target a d (at l (tok.Op op.Comma) ∷ t.aim_text b (t.more_text cs rest)) le in
      let second = ap (target_of d) (test_tree_same (as_factor b)) ∙ factor_target b d (t.more_text cs rest) (omega arith) in
      let others = each_cons (target_of d) y xs ∙ both_is (target_of d y) (each (target_of d) xs) (t.aim_tree b) (t.more_list cs) second (commas_target cs d rest (omega arith)) in
      ap (target_of (suc d)) (tuple_more x y xs (g.commas_last (as_commas cs))) ∙ target_tuple d (x ∷ y ∷ xs) ∙ unpack_cons (target_of d) x (y ∷ xs)
      ∙ ap unpacked (both_is (target_of d x) (each (target_of d) (y ∷ xs)) (t.aim_tree a) (t.aim_tree b ∷ t.more_list cs) first others) ∙ ap (λ q. Some q) (sym (unpacks_more (t.aim_tree a) (t.aim_tree b) (t.more_list cs) (t.more_last cs)))

  pub commas_target : (cs : t.MoreAims) (d : ℕ) (rest : List Token) → length (t.more_text cs rest) ≤ d → each (target_of d) (g.commas_list (as_commas cs)) ≡ Some (t.more_list cs)
  commas_target t.no_comma d rest le = each_nil (target_of d)
  commas_target (t.last_comma l) d rest le = each_nil (target_of d)
  commas_target (t.comma l a cs) d rest le =
      let x = g.test_tree (as_test (as_factor a)) in
      let h = aim_grows a (t.more_text cs rest) in
      let first = ap (target_of d) (test_tree_same (as_factor a)) ∙ factor_target a d (t.more_text cs rest) (omega arith) in
      each_cons (target_of d) x (g.commas_list (as_commas cs)) ∙ both_is (target_of d x) (each (target_of d) (g.commas_list (as_commas cs))) (t.aim_tree a) (t.more_list cs) first (commas_target cs d rest (omega arith))
