-- The tree of formed tokens is formed. What else is known of the tokens is known of those behind a reading.
use Rattle.std.proofs.Common.{◌≡◌, ℕ, ℤ, pos, negsuc, Bool, true, false, ◌&&◌, List, [], ◌∷◌, ◌++◌, refl, ap, ◌∙◌}
use Rattle.std.specs.Prelude.{nat_lt}
use Rattle.std.specs.List.{list_all}
use Rattle.std.proofs.lemmas.List.Folds.{list_all-append}
use Rattle.py_tokens.specs.declared.token.Tok.TheVariants as tok
use Rattle.py_tokens.specs.declared.token.Token.{Token}
use Rattle.py_tokens.specs.declared.operator.Op.TheVariants as op
use Rattle.py_tokens.specs.declared.word.Word.TheVariants as word
use Rattle.py_tree.specs.declared.expr.BinaryOp.TheVariants as binary
use Rattle.py_tree.specs.declared.expr.CompareOp.{CompareOp}
use Rattle.py_tree.specs.declared.expr.Expr.{Expr}
use Rattle.py_tree.specs.declared.expr.Expr.TheVariants as ex
use Rattle.py_tree.specs.declared.stmt.Target.{Target, out-Target}
use Rattle.py_tree.specs.Formed as tree
use Rattle.py_tree.specs.Formed.{is_ascii, expr_formed, target_formed, is_single, is_gone}
use Rattle.py_tree.proofs.Formed.{both, pair_formed, compared_formed, key_formed, formed_None, formed_True, formed_False, formed_Int, formed_Str, formed_Name, formed_Unary, formed_Binary, formed_Not, formed_Cond, formed_Attr, formed_Index, formed_Tuple, formed_List, formed_And, formed_Or, formed_Compare, formed_Dict, formed_Call, formed_name, formed_attribute, formed_index, formed_unpack, name_is, attribute_is, index_is}
use Rattle.py_tokens.specs.Formed.{token_formed, is_number as token_number}
use Rattle.py_expressions.specs.Input.{at}
use Rattle.py_expressions.specs.Reading.{tuple_of, compared, joined}
use Rattle.py_expressions.specs.Grammar.{Strings, no_string, string, strings_text, strings_tree}
use Rattle.py_expressions.specs.Grammar as g
use Rattle.py_expressions.specs.Targets as t

number_same : (n : ℤ) → tree.is_number n ≡ token_number n
number_same (pos n) = refl
number_same (negsuc n) = refl

-- ---- trees of lists

all_of : (x : Expr) (xs : List Expr) → expr_formed x ≡ true → list_all expr_formed xs ≡ true → list_all expr_formed (x ∷ xs) ≡ true
all_of x xs e f = both (expr_formed x) (list_all expr_formed xs) e f

pub first_is : (a b : Bool) → (a && b) ≡ true → a ≡ true
first_is true b e = refl
first_is false b e = e

alone : (x : Expr) → list_all expr_formed (x ∷ []) ≡ true → expr_formed x ≡ true
alone x e = first_is (expr_formed x) true e

pub tuple_formed : (xs : List Expr) (comma : Bool) → list_all expr_formed xs ≡ true → expr_formed (tuple_of xs comma) ≡ true
unfolding tuple_of
tuple_formed [] comma e = formed_Tuple []
tuple_formed (x ∷ []) false e = alone x e
tuple_formed (x ∷ []) true e = formed_Tuple (x ∷ []) ∙ e
tuple_formed (x ∷ y ∷ zs) comma e = formed_Tuple (x ∷ y ∷ zs) ∙ e

or_formed : (x : Expr) (xs : List Expr) → list_all expr_formed (x ∷ xs) ≡ true → expr_formed (joined ex.Or (x ∷ xs)) ≡ true
unfolding joined
or_formed x [] e = alone x e
or_formed x (y ∷ ys) e = formed_Or x y ys ∙ e

and_formed : (x : Expr) (xs : List Expr) → list_all expr_formed (x ∷ xs) ≡ true → expr_formed (joined ex.And (x ∷ xs)) ≡ true
unfolding joined
and_formed x [] e = alone x e
and_formed x (y ∷ ys) e = formed_And x y ys ∙ e

compare_formed : (x : Expr) (cs : List (CompareOp × Expr)) → expr_formed x ≡ true → list_all compared_formed cs ≡ true → expr_formed (compared x cs) ≡ true
unfolding compared
compare_formed x [] e f = e
compare_formed x (c ∷ cs) e f = formed_Compare x c cs ∙ both (expr_formed x) (list_all compared_formed (c ∷ cs)) e f

unpacks_formed : (x : Target) (xs : List Target) (comma : Bool) → list_all target_formed (x ∷ xs) ≡ true → target_formed (t.unpacks (x ∷ xs) comma) ≡ true
unfolding t.unpacks
unpacks_formed x [] false e = first_is (target_formed x) true e
unpacks_formed x [] true e = formed_unpack x [] ∙ e
unpacks_formed x (y ∷ ys) comma e = formed_unpack x (y ∷ ys) ∙ e

-- ---- readings

module _ (Known : List Token → Type 0) (next : (t : Token) (ts : List Token) → Known (t ∷ ts) → Known ts) (here : (t : Token) (ts : List Token) → Known (t ∷ ts) → token_formed t.kind ≡ true) where
  -- it is formed, and these tokens are known
  abbrev pub Formed : Bool → List Token → Type 0
  Formed formed rest = (formed ≡ true) × Known rest

  strings_formed : (ss : Strings) (rest : List Token) → Known (strings_text ss rest) → Formed (is_ascii (strings_tree ss)) rest
  strings_formed no_string rest k = (refl, k)
  strings_formed (string l text ss) rest k =
      let p = strings_formed ss rest (next (at l (tok.Str text)) (strings_text ss rest) k) in
      (list_all-append (λ byte. nat_lt byte 128) text (strings_tree ss) ∙ both (is_ascii text) (is_ascii (strings_tree ss)) (here (at l (tok.Str text)) (strings_text ss rest) k) p.0, p.1)

  comparison_known : (c : g.Comparison) (rest : List Token) → Known (g.comparison_text c rest) → Known rest
  comparison_known (g.alone l kind how is) rest k = next _ _ k
  comparison_known (g.not_in l r) rest k = next _ _ (next _ _ k)
  comparison_known (g.is_ l) rest k = next _ _ k
  comparison_known (g.is_not l r) rest k = next _ _ (next _ _ k)

  mutual
    pub factor_formed : (f : g.Factor) (rest : List Token) → Known (g.factor_text f rest) → Formed (expr_formed (g.factor_tree f)) rest
    factor_formed (g.signed l kind how is f) rest k =
        let p = factor_formed f rest (next _ _ k) in
        (formed_Unary how (g.factor_tree f) ∙ p.0, p.1)
    factor_formed (g.primary a ts) rest k =
        let p = atom_formed a (g.trailers_text ts rest) k in
        trailers_formed ts (g.atom_tree a) rest p.0 p.1
    factor_formed (g.power a ts l f) rest k =
        let p = atom_formed a (g.trailers_text ts (at l (tok.Op op.DoubleStar) ∷ g.factor_text f rest)) k in
        let q = trailers_formed ts (g.atom_tree a) (at l (tok.Op op.DoubleStar) ∷ g.factor_text f rest) p.0 p.1 in
        let r = factor_formed f rest (next _ _ q.1) in
        (formed_Binary binary.Pow (g.trailers_tree ts (g.atom_tree a)) (g.factor_tree f) ∙ both _ _ q.0 r.0, r.1)

    pub atom_formed : (a : g.Atom) (rest : List Token) → Known (g.atom_text a rest) → Formed (expr_formed (g.atom_tree a)) rest
    atom_formed (g.name l text) rest k = (formed_Name text ∙ here _ _ k, next _ _ k)
    atom_formed (g.int l n) rest k = (formed_Int n ∙ number_same n ∙ here _ _ k, next _ _ k)
    atom_formed (g.strings l text ss) rest k =
        let p = strings_formed (string l text ss) rest k in
        (formed_Str (text ++ strings_tree ss) ∙ p.0, p.1)
    atom_formed (g.none l) rest k = (formed_None, next _ _ k)
    atom_formed (g.truth l) rest k = (formed_True, next _ _ k)
    atom_formed (g.falsity l) rest k = (formed_False, next _ _ k)
    atom_formed (g.round l m r) rest k =
        let p = inside_formed m (at r (tok.Op op.CloseParen) ∷ rest) (next _ _ k) in
        (tuple_formed (g.inside_list m) (g.inside_comma m) p.0, next _ _ p.1)
    atom_formed (g.square l m r) rest k =
        let p = inside_formed m (at r (tok.Op op.CloseBracket) ∷ rest) (next _ _ k) in
        (formed_List (g.inside_list m) ∙ p.0, next _ _ p.1)
    atom_formed (g.brace l ps r) rest k =
        let p = pairs_formed ps (at r (tok.Op op.CloseBrace) ∷ rest) (next _ _ k) in
        (formed_Dict (g.pairs_list ps) ∙ p.0, next _ _ p.1)

    pub inside_formed : (m : g.Inside) (rest : List Token) → Known (g.inside_text m rest) → Formed (list_all expr_formed (g.inside_list m)) rest
    inside_formed g.nothing rest k = (refl, k)
    inside_formed (g.inside m) rest k = members_formed m rest k

    pub pairs_formed : (ps : g.Pairs) (rest : List Token) → Known (g.pairs_text ps rest) → Formed (list_all pair_formed (g.pairs_list ps)) rest
    pairs_formed g.no_pair rest k = (refl, k)
    pairs_formed (g.pair x l v b) rest k =
        let p = test_formed x (at l (tok.Op op.Colon) ∷ g.test_text v (g.behind_pair_text b rest)) k in
        let q = test_formed v (g.behind_pair_text b rest) (next _ _ p.1) in
        let r = behind_pair_formed b rest q.1 in
        (both (pair_formed (g.test_tree x, g.test_tree v)) (list_all pair_formed (g.behind_pair_list b)) (both (expr_formed (g.test_tree x)) (expr_formed (g.test_tree v)) p.0 q.0) r.0, r.1)

    pub behind_pair_formed : (b : g.BehindPair) (rest : List Token) → Known (g.behind_pair_text b rest) → Formed (list_all pair_formed (g.behind_pair_list b)) rest
    behind_pair_formed g.pair_end rest k = (refl, k)
    behind_pair_formed (g.pair_comma l ps) rest k = pairs_formed ps rest (next _ _ k)

    pub trailers_formed : (ts : g.Trailers) (left : Expr) (rest : List Token) → expr_formed left ≡ true → Known (g.trailers_text ts rest) → Formed (expr_formed (g.trailers_tree ts left)) rest
    trailers_formed g.no_trailer left rest e k = (e, k)
    trailers_formed (g.call l gs r ts) left rest e k =
        let p = arguments_formed gs (at r (tok.Op op.CloseParen) ∷ g.trailers_text ts rest) (next _ _ k) in
        trailers_formed ts (ex.Call left (g.positional_list gs) (g.keyword_list gs)) rest
        (formed_Call left (g.positional_list gs) (g.keyword_list gs)
        ∙ both (expr_formed left) (list_all expr_formed (g.positional_list gs) && list_all key_formed (g.keyword_list gs)) e (both (list_all expr_formed (g.positional_list gs)) (list_all key_formed (g.keyword_list gs)) p.0 p.1))
        (next _ _ p.2)
    trailers_formed (g.index l m r ts) left rest e k =
        let p = members_formed m (at r (tok.Op op.CloseBracket) ∷ g.trailers_text ts rest) (next _ _ k) in
        let x = g.members_tree m in
        trailers_formed ts (ex.Index left x) rest (formed_Index left x ∙ both (expr_formed left) (expr_formed x) e (tuple_formed (g.members_list m) (g.members_comma m) p.0)) (next _ _ p.1)
    trailers_formed (g.attribute l r text ts) left rest e k =
        let h = next _ _ k in
        trailers_formed ts (ex.Attr left text) rest (formed_Attr left text ∙ both (expr_formed left) (is_ascii text) e (here _ _ h)) (next _ _ h)

    pub arguments_formed : {names : List (List ℕ)} (gs : g.Arguments names) (rest : List Token) → Known (g.arguments_text gs rest)
        → (list_all expr_formed (g.positional_list gs) ≡ true) × (list_all key_formed (g.keyword_list gs) ≡ true) × Known rest
    arguments_formed g.no_argument rest k = (refl, refl, k)
    arguments_formed (g.positional first t b) rest k =
        let p = test_formed t (g.behind_argument_text b rest) k in
        let q = behind_argument_formed b rest p.1 in
        (all_of (g.test_tree t) (g.behind_positional_list b) p.0 q.0, q.1, q.2)
    arguments_formed (g.keyword l text new r t b) rest k =
        let p = test_formed t (g.behind_argument_text b rest) (next _ _ (next _ _ k)) in
        let q = behind_argument_formed b rest p.1 in
        (q.0, both (key_formed (text, g.test_tree t)) (list_all key_formed (g.behind_keyword_list b)) (both (is_ascii text) (expr_formed (g.test_tree t)) (here _ _ k) p.0) q.1, q.2)

    pub behind_argument_formed : {names : List (List ℕ)} (b : g.BehindArgument names) (rest : List Token) → Known (g.behind_argument_text b rest)
        → (list_all expr_formed (g.behind_positional_list b) ≡ true) × (list_all key_formed (g.behind_keyword_list b) ≡ true) × Known rest
    behind_argument_formed g.argument_end rest k = (refl, refl, k)
    behind_argument_formed (g.argument_comma l gs) rest k = arguments_formed gs rest (next _ _ k)

    pub members_formed : (m : g.Members) (rest : List Token) → Known (g.members_text m rest) → Formed (list_all expr_formed (g.members_list m)) rest
    members_formed (g.listed t cs) rest k =
        let p = test_formed t (g.commas_text cs rest) k in
        let q = commas_formed cs rest p.1 in
        (all_of (g.test_tree t) (g.commas_list cs) p.0 q.0, q.1)

    pub commas_formed : (cs : g.Commas) (rest : List Token) → Known (g.commas_text cs rest) → Formed (list_all expr_formed (g.commas_list cs)) rest
    commas_formed g.no_comma rest k = (refl, k)
    commas_formed (g.last_comma l) rest k = (refl, next _ _ k)
    commas_formed (g.comma l t cs) rest k =
        let p = test_formed t (g.commas_text cs rest) (next _ _ k) in
        let q = commas_formed cs rest p.1 in
        (all_of (g.test_tree t) (g.commas_list cs) p.0 q.0, q.1)

    pub test_formed : (t : g.Test) (rest : List Token) → Known (g.test_text t rest) → Formed (expr_formed (g.test_tree t)) rest
    test_formed (g.plain o) rest k = or_test_formed o rest k
    test_formed (g.conditional o l c r t) rest k =
        let p = or_test_formed o (at l (tok.Word word.If) ∷ g.or_text c (at r (tok.Word word.Else) ∷ g.test_text t rest)) k in
        let q = or_test_formed c (at r (tok.Word word.Else) ∷ g.test_text t rest) (next _ _ p.1) in
        let s = test_formed t rest (next _ _ q.1) in
        (formed_Cond (g.or_tree c) (g.or_tree o) (g.test_tree t) ∙ both (expr_formed (g.or_tree c)) (expr_formed (g.or_tree o) && expr_formed (g.test_tree t)) q.0 (both (expr_formed (g.or_tree o)) (expr_formed (g.test_tree t)) p.0 s.0), s.1)

    pub or_test_formed : (o : g.OrTest) (rest : List Token) → Known (g.or_text o rest) → Formed (expr_formed (g.or_tree o)) rest
    or_test_formed (g.or_test a os) rest k =
        let p = and_test_formed a (g.or_more_text os rest) k in
        let q = or_more_formed os rest p.1 in
        (or_formed (g.and_tree a) (g.or_list os) (all_of (g.and_tree a) (g.or_list os) p.0 q.0), q.1)

    pub or_more_formed : (os : g.OrMore) (rest : List Token) → Known (g.or_more_text os rest) → Formed (list_all expr_formed (g.or_list os)) rest
    or_more_formed g.no_or rest k = (refl, k)
    or_more_formed (g.or_more l a os) rest k =
        let p = and_test_formed a (g.or_more_text os rest) (next _ _ k) in
        let q = or_more_formed os rest p.1 in
        (all_of (g.and_tree a) (g.or_list os) p.0 q.0, q.1)

    pub and_test_formed : (a : g.AndTest) (rest : List Token) → Known (g.and_text a rest) → Formed (expr_formed (g.and_tree a)) rest
    and_test_formed (g.and_test n ns) rest k =
        let p = not_test_formed n (g.and_more_text ns rest) k in
        let q = and_more_formed ns rest p.1 in
        (and_formed (g.not_tree n) (g.and_list ns) (all_of (g.not_tree n) (g.and_list ns) p.0 q.0), q.1)

    pub and_more_formed : (ns : g.AndMore) (rest : List Token) → Known (g.and_more_text ns rest) → Formed (list_all expr_formed (g.and_list ns)) rest
    and_more_formed g.no_and rest k = (refl, k)
    and_more_formed (g.and_more l n ns) rest k =
        let p = not_test_formed n (g.and_more_text ns rest) (next _ _ k) in
        let q = and_more_formed ns rest p.1 in
        (all_of (g.not_tree n) (g.and_list ns) p.0 q.0, q.1)

    pub not_test_formed : (n : g.NotTest) (rest : List Token) → Known (g.not_text n rest) → Formed (expr_formed (g.not_tree n)) rest
    not_test_formed (g.negated l n) rest k =
        let p = not_test_formed n rest (next _ _ k) in
        (formed_Not (g.not_tree n) ∙ p.0, p.1)
    not_test_formed (g.compare s cs) rest k =
        let p = sum_formed s (g.comparisons_text cs rest) k in
        let q = comparisons_formed cs rest p.1 in
        (compare_formed (g.sum_tree s) (g.comparisons_list cs) p.0 q.0, q.1)

    pub comparisons_formed : (cs : g.Comparisons) (rest : List Token) → Known (g.comparisons_text cs rest) → Formed (list_all compared_formed (g.comparisons_list cs)) rest
    comparisons_formed g.no_comparison rest k = (refl, k)
    comparisons_formed (g.comparing c s cs) rest k =
        let h = comparison_known c (g.sum_text s (g.comparisons_text cs rest)) k in
        let p = sum_formed s (g.comparisons_text cs rest) h in
        let q = comparisons_formed cs rest p.1 in
        (both (compared_formed (g.comparison_tree c, g.sum_tree s)) (list_all compared_formed (g.comparisons_list cs)) p.0 q.0, q.1)

    pub sum_formed : {level : ℕ} (s : g.Sum level) (rest : List Token) → Known (g.sum_text s rest) → Formed (expr_formed (g.sum_tree s)) rest
    sum_formed (g.operand f) rest k = factor_formed f rest k
    sum_formed (g.grouped s c) rest k =
        let p = sum_formed s (g.chain_text c rest) k in
        chain_formed c (g.sum_tree s) rest p.0 p.1

    pub chain_formed : {level : ℕ} (c : g.Chain level) (left : Expr) (rest : List Token) → expr_formed left ≡ true → Known (g.chain_text c rest) → Formed (expr_formed (g.chain_tree c left)) rest
    chain_formed g.no_operator left rest e k = (e, k)
    chain_formed (g.operated l kind how is s c) left rest e k =
        let p = sum_formed s (g.chain_text c rest) (next _ _ k) in
        chain_formed c (ex.Binary how left (g.sum_tree s)) rest (formed_Binary how left (g.sum_tree s) ∙ both (expr_formed left) (expr_formed (g.sum_tree s)) e p.0) p.1

  pub tests_formed : (m : g.Members) (rest : List Token) → Known (g.members_text m rest) → Formed (expr_formed (g.members_tree m)) rest
  tests_formed m rest k = let p = members_formed m rest k in (tuple_formed (g.members_list m) (g.members_comma m) p.0, p.1)

  -- ---- targets

  ending_formed : (e : t.Ending) (object : Expr) (rest : List Token) → expr_formed object ≡ true → Known (t.ending_text e rest) → Formed (target_formed (t.ending_tree e object)) rest
  ending_formed (t.attribute l r text) object rest e k =
      let h = next _ _ k in
      (formed_attribute object text ∙ both (expr_formed object) (is_ascii text) e (here _ _ h), next _ _ h)
  ending_formed (t.index l m r) object rest e k =
      let p = tests_formed m (at r (tok.Op op.CloseBracket) ∷ rest) (next _ _ k) in
      (formed_index object (g.members_tree m) ∙ both (expr_formed object) (expr_formed (g.members_tree m)) e p.0, next _ _ p.1)

  pub one_formed : (o : t.One) (rest : List Token) → Known (t.one_text o rest) → Formed (target_formed (t.one_tree o)) rest
  one_formed (t.One.variable l text) rest k = (formed_name text ∙ here _ _ k, next _ _ k)
  one_formed (t.part a ts e) rest k =
      let p = atom_formed a (g.trailers_text ts (t.ending_text e rest)) k in
      let q = trailers_formed ts (g.atom_tree a) (t.ending_text e rest) p.0 p.1 in
      ending_formed e (g.trailers_tree ts (g.atom_tree a)) rest q.0 q.1

  pub gone_formed : (o : t.Gone) (rest : List Token) → Known (t.gone_text o rest) → Formed (target_formed (t.gone_tree o)) rest
  gone_formed (t.Gone.variable l text) rest k = (formed_name text ∙ here _ _ k, next _ _ k)
  gone_formed (t.item a ts l m r) rest k =
      let p = atom_formed a (g.trailers_text ts (t.ending_text (t.index l m r) rest)) k in
      let q = trailers_formed ts (g.atom_tree a) (t.ending_text (t.index l m r) rest) p.0 p.1 in
      ending_formed (t.index l m r) (g.trailers_tree ts (g.atom_tree a)) rest q.0 q.1

  mutual
    pub aim_formed : (a : t.Aim) (rest : List Token) → Known (t.aim_text a rest) → Formed (target_formed (t.aim_tree a)) rest
    aim_formed (t.one o) rest k = one_formed o rest k
    aim_formed (t.round l gs r) rest k =
        let p = aims_formed gs (at r (tok.Op op.CloseParen) ∷ rest) (next _ _ k) in
        (p.0, next _ _ p.1)
    aim_formed (t.square l (t.listed a cs) r) rest k =
        let p = aim_formed a (t.more_text cs (at r (tok.Op op.CloseBracket) ∷ rest)) (next _ _ k) in
        let q = more_formed cs (at r (tok.Op op.CloseBracket) ∷ rest) p.1 in
        (formed_unpack (t.aim_tree a) (t.more_list cs) ∙ both (target_formed (t.aim_tree a)) (list_all target_formed (t.more_list cs)) p.0 q.0, next _ _ q.1)

    pub aims_formed : (gs : t.Aims) (rest : List Token) → Known (t.aims_text gs rest) → Formed (target_formed (t.aims_tree gs)) rest
    aims_formed (t.listed a cs) rest k =
        let p = aim_formed a (t.more_text cs rest) k in
        let q = more_formed cs rest p.1 in
        (unpacks_formed (t.aim_tree a) (t.more_list cs) (t.more_last cs) (both (target_formed (t.aim_tree a)) (list_all target_formed (t.more_list cs)) p.0 q.0), q.1)

    pub more_formed : (cs : t.MoreAims) (rest : List Token) → Known (t.more_text cs rest) → Formed (list_all target_formed (t.more_list cs)) rest
    more_formed t.no_comma rest k = (refl, k)
    more_formed (t.last_comma l) rest k = (refl, next _ _ k)
    more_formed (t.comma l a cs) rest k =
        let p = aim_formed a (t.more_text cs rest) (next _ _ k) in
        let q = more_formed cs rest p.1 in
        (both (target_formed (t.aim_tree a)) (list_all target_formed (t.more_list cs)) p.0 q.0, q.1)

-- ---- which targets are single, and which may be removed

pub one_single : (o : t.One) → is_single (out-Target (t.one_tree o)) ≡ true
one_single (t.One.variable l text) = ap is_single (name_is text)
one_single (t.part a ts (t.attribute l r text)) = ap is_single (attribute_is (g.trailers_tree ts (g.atom_tree a)) text)
one_single (t.part a ts (t.index l m r)) = ap is_single (index_is (g.trailers_tree ts (g.atom_tree a)) (g.members_tree m))

pub gone_gone : (o : t.Gone) → is_gone (out-Target (t.gone_tree o)) ≡ true
gone_gone (t.Gone.variable l text) = ap is_gone (name_is text)
gone_gone (t.item a ts l m r) = ap is_gone (index_is (g.trailers_tree ts (g.atom_tree a)) (g.members_tree m))
