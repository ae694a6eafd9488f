-- The grammar of expressions. A value of these types is a reading by the grammar's rules: one type for each rule, one
-- constructor for each of its alternatives, and a place for each token. It says where the brackets were, and the tree
-- doesn't.
use Rattle.std.specs.Prelude.{◌≡◌, ℕ, ℤ, zero, suc, Bool, true, false, List, [], ◌∷◌, ◌++◌, Some}
use Rattle.py_tokens.specs.declared.token.Tok.{Tok}
use Rattle.py_tokens.specs.declared.token.Tok.TheVariants as tok
use Rattle.py_tokens.specs.declared.token.Token.{Token}
use Rattle.py_tokens.specs.declared.word.Word.TheVariants as word
use Rattle.py_tokens.specs.declared.operator.Op.TheVariants as op
use Rattle.py_tree.specs.declared.expr.Expr.{Expr}
use Rattle.py_tree.specs.declared.expr.Expr.TheVariants as ex
use Rattle.py_tree.specs.declared.expr.UnaryOp.{UnaryOp}
use Rattle.py_tree.specs.declared.expr.BinaryOp.{BinaryOp}
use Rattle.py_tree.specs.declared.expr.BinaryOp.TheVariants as binary
use Rattle.py_tree.specs.declared.expr.CompareOp.{CompareOp}
use Rattle.py_tree.specs.declared.expr.CompareOp.TheVariants as compares
use Rattle.py_expressions.specs.Input.{Place, at}
use Rattle.py_expressions.specs.Reading.{sign, operator, comparison, tuple_of, compared, joined, is_new}

-- ---- parts without expressions

-- further strings
pub data Strings : Type 0 where
  no_string : Strings
  string : Place → List ℕ → Strings → Strings

-- the operator of a comparison
pub data Comparison : Type 0 where
  alone : Place → (kind : Tok) (how : CompareOp) → comparison kind ≡ Some how → Comparison
  not_in : Place → Place → Comparison
  is_ : Place → Comparison
  is_not : Place → Place → Comparison

-- ---- the rules

mutual
  -- factor = ("+" | "-" | "~") factor | power       power = primary [ "**" factor ]       primary = atom { trailer }
  pub data Factor : Type 0 where
    signed : Place → (kind : Tok) (how : UnaryOp) → sign kind ≡ Some how → Factor → Factor
    primary : Atom → Trailers → Factor
    power : Atom → Trailers → Place → Factor → Factor

  -- atom = NAME | INT | STRING { STRING } | "None" | "True" | "False" | "(" [ tests ] ")" | "[" [ tests ] "]" | "{" pairs "}"
  pub data Atom : Type 0 where
    name : Place → List ℕ → Atom
    int : Place → ℤ → Atom
    strings : Place → List ℕ → Strings → Atom
    none : Place → Atom
    truth : Place → Atom
    falsity : Place → Atom
    round : Place → Inside → Place → Atom
    square : Place → Inside → Place → Atom
    brace : Place → Pairs → Place → Atom

  -- [ tests ]
  pub data Inside : Type 0 where
    nothing : Inside
    inside : Members → Inside

  -- [ test ":" test { "," test ":" test } [ "," ] ]
  pub data Pairs : Type 0 where
    no_pair : Pairs
    pair : Test → Place → Test → BehindPair → Pairs

  -- nothing, or a comma and what is left of the pairs
  pub data BehindPair : Type 0 where
    pair_end : BehindPair
    pair_comma : Place → Pairs → BehindPair

  -- what a primary goes on with
  pub data Trailers : Type 0 where
    no_trailer : Trailers
    call : Place → Arguments [] → Place → Trailers → Trailers
    index : Place → Members → Place → Trailers → Trailers
    attribute : Place → Place → List ℕ → Trailers → Trailers

  -- [ arg { "," arg } [ "," ] ], behind keyword arguments of these names: a positional one stands behind none, and a
  -- keyword one has a name of its own
  pub data Arguments : List (List ℕ) → Type 0 where
    no_argument : {names : List (List ℕ)} → Arguments names
    positional : {names : List (List ℕ)} → names ≡ [] → Test → BehindArgument names → Arguments names
    keyword : {names : List (List ℕ)} → Place → (text : List ℕ) → is_new text names ≡ true → Place → Test
        → BehindArgument (names ++ text ∷ []) → Arguments names

  -- nothing, or a comma and what is left of the arguments
  pub data BehindArgument : List (List ℕ) → Type 0 where
    argument_end : {names : List (List ℕ)} → BehindArgument names
    argument_comma : {names : List (List ℕ)} → Place → Arguments names → BehindArgument names

  -- tests = test { "," test } [ "," ]
  pub data Members : Type 0 where
    listed : Test → Commas → Members

  -- { "," test } [ "," ]
  pub data Commas : Type 0 where
    no_comma : Commas
    last_comma : Place → Commas
    comma : Place → Test → Commas → Commas

  -- test = ortest [ "if" ortest "else" test ]
  pub data Test : Type 0 where
    plain : OrTest → Test
    conditional : OrTest → Place → OrTest → Place → Test → Test

  -- ortest = andtest { "or" andtest }
  pub data OrTest : Type 0 where
    or_test : AndTest → OrMore → OrTest

  -- { "or" andtest }
  pub data OrMore : Type 0 where
    no_or : OrMore
    or_more : Place → AndTest → OrMore → OrMore

  -- andtest = nottest { "and" nottest }
  pub data AndTest : Type 0 where
    and_test : NotTest → AndMore → AndTest

  -- { "and" nottest }
  pub data AndMore : Type 0 where
    no_and : AndMore
    and_more : Place → NotTest → AndMore → AndMore

  -- nottest = "not" nottest | compare       compare = bor { comparison bor }
  pub data NotTest : Type 0 where
    negated : Place → NotTest → NotTest
    compare : Sum 6 → Comparisons → NotTest

  -- { comparison bor }
  pub data Comparisons : Type 0 where
    no_comparison : Comparisons
    comparing : Comparison → Sum 6 → Comparisons → Comparisons

  -- A sum of level 0 is a factor; one of level n + 1 is one of level n, and operators of level n + 1 with further ones.
  pub data Sum : ℕ → Type 0 where
    operand : Factor → Sum zero
    grouped : {level : ℕ} → Sum level → Chain level → Sum (suc level)

  -- operators of one level above, each with its right operand
  pub data Chain : ℕ → Type 0 where
    no_operator : {level : ℕ} → Chain level
    operated : {level : ℕ} → Place → (kind : Tok) (how : BinaryOp) → operator (suc level) kind ≡ Some how → Sum level → Chain level → Chain level

-- ---- the tokens of a reading, and then these

-- the tokens of further strings, and then these
abbrev pub strings_text : Strings → List Token → List Token
strings_text no_string rest = rest
strings_text (string l text ss) rest = at l (tok.Str text) ∷ strings_text ss rest

-- the tokens of the operator of a comparison, and then these
abbrev pub comparison_text : Comparison → List Token → List Token
comparison_text (alone l kind how is) rest = at l kind ∷ rest
comparison_text (not_in l r) rest = at l (tok.Word word.Not) ∷ at r (tok.Word word.In) ∷ rest
comparison_text (is_ l) rest = at l (tok.Word word.Is) ∷ rest
comparison_text (is_not l r) rest = at l (tok.Word word.Is) ∷ at r (tok.Word word.Not) ∷ rest

abbrev mutual
  pub factor_text : Factor → List Token → List Token
  factor_text (signed l kind how is f) rest = at l kind ∷ factor_text f rest
  factor_text (primary a ts) rest = atom_text a (trailers_text ts rest)
  factor_text (power a ts l f) rest = atom_text a (trailers_text ts (at l (tok.Op op.DoubleStar) ∷ factor_text f rest))

  pub atom_text : Atom → List Token → List Token
  atom_text (name l text) rest = at l (tok.Name text) ∷ rest
  atom_text (int l n) rest = at l (tok.Int n) ∷ rest
  atom_text (strings l text ss) rest = at l (tok.Str text) ∷ strings_text ss rest
  atom_text (none l) rest = at l (tok.Word word.None) ∷ rest
  atom_text (truth l) rest = at l (tok.Word word.True) ∷ rest
  atom_text (falsity l) rest = at l (tok.Word word.False) ∷ rest
  atom_text (round l m r) rest = at l (tok.Op op.OpenParen) ∷ inside_text m (at r (tok.Op op.CloseParen) ∷ rest)
  atom_text (square l m r) rest = at l (tok.Op op.OpenBracket) ∷ inside_text m (at r (tok.Op op.CloseBracket) ∷ rest)
  atom_text (brace l ps r) rest = at l (tok.Op op.OpenBrace) ∷ pairs_text ps (at r (tok.Op op.CloseBrace) ∷ rest)

  pub inside_text : Inside → List Token → List Token
  inside_text nothing rest = rest
  inside_text (inside m) rest = members_text m rest

  pub pairs_text : Pairs → List Token → List Token
  pairs_text no_pair rest = rest
  pairs_text (pair k l v b) rest = test_text k (at l (tok.Op op.Colon) ∷ test_text v (behind_pair_text b rest))

  pub behind_pair_text : BehindPair → List Token → List Token
  behind_pair_text pair_end rest = rest
  behind_pair_text (pair_comma l ps) rest = at l (tok.Op op.Comma) ∷ pairs_text ps rest

  pub trailers_text : Trailers → List Token → List Token
  trailers_text no_trailer rest = rest
  trailers_text (call l gs r ts) rest = at l (tok.Op op.OpenParen) ∷ arguments_text gs (at r (tok.Op op.CloseParen) ∷ trailers_text ts rest)
  trailers_text (index l m r ts) rest = at l (tok.Op op.OpenBracket) ∷ members_text m (at r (tok.Op op.CloseBracket) ∷ trailers_text ts rest)
  trailers_text (attribute l r text ts) rest = at l (tok.Op op.Dot) ∷ at r (tok.Name text) ∷ trailers_text ts rest

  pub arguments_text : {names : List (List ℕ)} → Arguments names → List Token → List Token
  arguments_text no_argument rest = rest
  arguments_text (positional first t b) rest = test_text t (behind_argument_text b rest)
  arguments_text (keyword l text new r t b) rest = at l (tok.Name text) ∷ at r (tok.Op op.Assign) ∷ test_text t (behind_argument_text b rest)

  pub behind_argument_text : {names : List (List ℕ)} → BehindArgument names → List Token → List Token
  behind_argument_text argument_end rest = rest
  behind_argument_text (argument_comma l gs) rest = at l (tok.Op op.Comma) ∷ arguments_text gs rest

  pub members_text : Members → List Token → List Token
  members_text (listed t cs) rest = test_text t (commas_text cs rest)

  pub commas_text : Commas → List Token → List Token
  commas_text no_comma rest = rest
  commas_text (last_comma l) rest = at l (tok.Op op.Comma) ∷ rest
  commas_text (comma l t cs) rest = at l (tok.Op op.Comma) ∷ test_text t (commas_text cs rest)

  pub test_text : Test → List Token → List Token
  test_text (plain o) rest = or_text o rest
  test_text (conditional o l c r t) rest = or_text o (at l (tok.Word word.If) ∷ or_text c (at r (tok.Word word.Else) ∷ test_text t rest))

  pub or_text : OrTest → List Token → List Token
  or_text (or_test a os) rest = and_text a (or_more_text os rest)

  pub or_more_text : OrMore → List Token → List Token
  or_more_text no_or rest = rest
  or_more_text (or_more l a os) rest = at l (tok.Word word.Or) ∷ and_text a (or_more_text os rest)

  pub and_text : AndTest → List Token → List Token
  and_text (and_test n ns) rest = not_text n (and_more_text ns rest)

  pub and_more_text : AndMore → List Token → List Token
  and_more_text no_and rest = rest
  and_more_text (and_more l n ns) rest = at l (tok.Word word.And) ∷ not_text n (and_more_text ns rest)

  pub not_text : NotTest → List Token → List Token
  not_text (negated l n) rest = at l (tok.Word word.Not) ∷ not_text n rest
  not_text (compare s cs) rest = sum_text s (comparisons_text cs rest)

  pub comparisons_text : Comparisons → List Token → List Token
  comparisons_text no_comparison rest = rest
  comparisons_text (comparing c s cs) rest = comparison_text c (sum_text s (comparisons_text cs rest))

  pub sum_text : {level : ℕ} → Sum level → List Token → List Token
  sum_text (operand f) rest = factor_text f rest
  sum_text (grouped s c) rest = sum_text s (chain_text c rest)

  pub chain_text : {level : ℕ} → Chain level → List Token → List Token
  chain_text no_operator rest = rest
  chain_text (operated l kind how is s c) rest = at l kind ∷ sum_text s (chain_text c rest)

-- ---- the tree of a reading

-- the text of adjacent strings
abbrev pub strings_tree : Strings → List ℕ
strings_tree no_string = []
strings_tree (string l text ss) = text ++ strings_tree ss

-- the operator of a comparison
abbrev pub comparison_tree : Comparison → CompareOp
comparison_tree (alone l kind how is) = how
comparison_tree (not_in l r) = compares.NotIn
comparison_tree (is_ l) = compares.Is
comparison_tree (is_not l r) = compares.IsNot

abbrev mutual
  pub factor_tree : Factor → Expr
  factor_tree (signed l kind how is f) = ex.Unary how (factor_tree f)
  factor_tree (primary a ts) = trailers_tree ts (atom_tree a)
  factor_tree (power a ts l f) = ex.Binary binary.Pow (trailers_tree ts (atom_tree a)) (factor_tree f)

  pub atom_tree : Atom → Expr
  atom_tree (name l text) = ex.Name text
  atom_tree (int l n) = ex.Int n
  atom_tree (strings l text ss) = ex.Str (text ++ strings_tree ss)
  atom_tree (none l) = ex.None
  atom_tree (truth l) = ex.True
  atom_tree (falsity l) = ex.False
  atom_tree (round l m r) = tuple_of (inside_list m) (inside_comma m)
  atom_tree (square l m r) = ex.List (inside_list m)
  atom_tree (brace l ps r) = ex.Dict (pairs_list ps)

  pub inside_list : Inside → List Expr
  inside_list nothing = []
  inside_list (inside m) = members_list m

  pub inside_comma : Inside → Bool
  inside_comma nothing = false
  inside_comma (inside m) = members_comma m

  pub pairs_list : Pairs → List (Expr × Expr)
  pairs_list no_pair = []
  pairs_list (pair k l v b) = (test_tree k, test_tree v) ∷ behind_pair_list b

  pub behind_pair_list : BehindPair → List (Expr × Expr)
  behind_pair_list pair_end = []
  behind_pair_list (pair_comma l ps) = pairs_list ps

  pub trailers_tree : Trailers → Expr → Expr
  trailers_tree no_trailer left = left
  trailers_tree (call l gs r ts) left = trailers_tree ts (ex.Call left (positional_list gs) (keyword_list gs))
  trailers_tree (index l m r ts) left = trailers_tree ts (ex.Index left (tuple_of (members_list m) (members_comma m)))
  trailers_tree (attribute l r text ts) left = trailers_tree ts (ex.Attr left text)

  pub positional_list : {names : List (List ℕ)} → Arguments names → List Expr
  positional_list no_argument = []
  positional_list (positional first t b) = test_tree t ∷ behind_positional_list b
  positional_list (keyword l text new r t b) = behind_positional_list b

  pub behind_positional_list : {names : List (List ℕ)} → BehindArgument names → List Expr
  behind_positional_list argument_end = []
  behind_positional_list (argument_comma l gs) = positional_list gs

  pub keyword_list : {names : List (List ℕ)} → Arguments names → List (List ℕ × Expr)
  keyword_list no_argument = []
  keyword_list (positional first t b) = behind_keyword_list b
  keyword_list (keyword l text new r t b) = (text, test_tree t) ∷ behind_keyword_list b

  pub behind_keyword_list : {names : List (List ℕ)} → BehindArgument names → List (List ℕ × Expr)
  behind_keyword_list argument_end = []
  behind_keyword_list (argument_comma l gs) = keyword_list gs

  pub members_list : Members → List Expr
  members_list (listed t cs) = test_tree t ∷ commas_list cs

  -- whether a comma stands behind the last
  pub members_comma : Members → Bool
  members_comma (listed t cs) = commas_last cs

  pub commas_list : Commas → List Expr
  commas_list no_comma = []
  commas_list (last_comma l) = []
  commas_list (comma l t cs) = test_tree t ∷ commas_list cs

  pub commas_last : Commas → Bool
  commas_last no_comma = false
  commas_last (last_comma l) = true
  commas_last (comma l t cs) = commas_last cs

  pub test_tree : Test → Expr
  test_tree (plain o) = or_tree o
  test_tree (conditional o l c r t) = ex.Cond (or_tree c) (or_tree o) (test_tree t)

  pub or_tree : OrTest → Expr
  or_tree (or_test a os) = joined ex.Or (and_tree a ∷ or_list os)

  pub or_list : OrMore → List Expr
  or_list no_or = []
  or_list (or_more l a os) = and_tree a ∷ or_list os

  pub and_tree : AndTest → Expr
  and_tree (and_test n ns) = joined ex.And (not_tree n ∷ and_list ns)

  pub and_list : AndMore → List Expr
  and_list no_and = []
  and_list (and_more l n ns) = not_tree n ∷ and_list ns

  pub not_tree : NotTest → Expr
  not_tree (negated l n) = ex.Not (not_tree n)
  not_tree (compare s cs) = compared (sum_tree s) (comparisons_list cs)

  pub comparisons_list : Comparisons → List (CompareOp × Expr)
  comparisons_list no_comparison = []
  comparisons_list (comparing c s cs) = (comparison_tree c, sum_tree s) ∷ comparisons_list cs

  pub sum_tree : {level : ℕ} → Sum level → Expr
  sum_tree (operand f) = factor_tree f
  sum_tree (grouped s c) = chain_tree c (sum_tree s)

  -- to the left
  pub chain_tree : {level : ℕ} → Chain level → Expr → Expr
  chain_tree no_operator left = left
  chain_tree (operated l kind how is s c) left = chain_tree c (ex.Binary how left (sum_tree s))

-- one test without a comma is itself, and others are a tuple
abbrev pub members_tree : Members → Expr
members_tree m = tuple_of (members_list m) (members_comma m)
