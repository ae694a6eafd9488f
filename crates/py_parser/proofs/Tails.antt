-- What stands behind a reading is the tail of its tokens, and no End stands in front of that.
use Rattle.std.proofs.Common.{◌≡◌, ℕ, zero, suc, ◌+◌, ◌-◌, ◌<◌, ◌≤◌, Bool, true, false, ◌&&◌, List, [], ◌∷◌, ◌++◌, length, drop, Option, Some, None, refl, sym, ap, ◌∙◌, arith, append_assoc}
use Rattle.std.proofs.Math.Seq.{drop-append_seam}
use Rattle.std.proofs.lemmas.List.{append-nil, length-append}
use Rattle.py_tokens.specs.declared.token.Tok.{Tok}
use Rattle.py_tokens.specs.declared.token.Tok.TheVariants as tok
use Rattle.py_tokens.specs.declared.token.Token.{Token}
use Rattle.py_tokens.specs.declared.word.Word.{Word}
use Rattle.py_tokens.specs.declared.word.Word.TheVariants as word
use Rattle.py_tokens.specs.declared.operator.Op.{Op}
use Rattle.py_tokens.specs.declared.operator.Op.TheVariants as op
use Rattle.py_tree.specs.declared.expr.UnaryOp.{UnaryOp}
use Rattle.py_tree.specs.declared.expr.BinaryOp.{BinaryOp}
use Rattle.py_tree.specs.declared.expr.CompareOp.{CompareOp}
use Rattle.py_expressions.specs.Input.{Place, at}
use Rattle.py_expressions.specs.Reading.{sign, operator, comparison}
use Rattle.py_expressions.specs.Grammar as e
use Rattle.py_expressions.specs.Targets as t
use Rattle.py_statements.specs.Reading.{augments}
use Rattle.py_statements.specs.Grammar as s
use Rattle.py_parser.specs.declared.clause.Stage.{Stage}
use Rattle.py_parser.specs.Grammar as g
use Rattle.py_parser.specs.Fronts as f

-- ---- tails

abbrev is_plain : Tok → Bool
is_plain tok.End = false
is_plain _ = true

abbrev all_plain : List Token → Bool
all_plain [] = true
all_plain (t ∷ ts) = is_plain t.kind && all_plain ts

pub record IsTail (rest tokens : List Token) : Type 0 where
  front : List Token
  splits : tokens ≡ front ++ rest
  plain : all_plain front ≡ true

both_true : (a b : Bool) → a ≡ true → b ≡ true → (a && b) ≡ true
both_true true true p q = refl
both_true true false p q = q
both_true false b p q = p

left_true : (a b : Bool) → (a && b) ≡ true → a ≡ true
left_true true b p = refl
left_true false b p = p

right_true : (a b : Bool) → (a && b) ≡ true → b ≡ true
right_true true b p = p
right_true false b p = absurd cc

all_plain_append : (a b : List Token) → all_plain a ≡ true → all_plain b ≡ true → all_plain (a ++ b) ≡ true
all_plain_append [] b p q = q
all_plain_append (t ∷ ts) b p q =
    both_true (is_plain t.kind) (all_plain (ts ++ b)) (left_true (is_plain t.kind) (all_plain ts) p) (all_plain_append ts b (right_true (is_plain t.kind) (all_plain ts) p) q)

here : (rest : List Token) → IsTail rest rest
here rest = record { front = []; splits = refl; plain = refl }

step : {rest tokens : List Token} (l : Place) (kind : Tok) → is_plain kind ≡ true → IsTail rest tokens → IsTail rest (at l kind ∷ tokens)
step l kind is x = record { front = at l kind ∷ x.front; splits = ap (λ q. at l kind ∷ q) x.splits; plain = both_true (is_plain kind) (all_plain x.front) is x.plain }

op_step : {rest tokens : List Token} (l : Place) (o : Op) → IsTail rest tokens → IsTail rest (at l (tok.Op o) ∷ tokens)
op_step l o x = step l (tok.Op o) refl x

word_step : {rest tokens : List Token} (l : Place) (w : Word) → IsTail rest tokens → IsTail rest (at l (tok.Word w) ∷ tokens)
word_step l w x = step l (tok.Word w) refl x

name_step : {rest tokens : List Token} (l : Place) (text : List ℕ) → IsTail rest tokens → IsTail rest (at l (tok.Name text) ∷ tokens)
name_step l text x = step l (tok.Name text) refl x

-- a tail of a tail
deep : {tokens behind rest : List Token} → IsTail behind tokens → IsTail rest behind → IsTail rest tokens
deep {rest} x y = record {
  front = x.front ++ y.front;
  splits = x.splits ∙ ap (λ q. x.front ++ q) y.splits ∙ sym (append_assoc x.front y.front rest);
  plain = all_plain_append x.front y.front x.plain y.plain;
}

-- ---- tokens that tables give

sign_plain : (kind : Tok) (how : UnaryOp) → sign kind ≡ Some how → is_plain kind ≡ true
sign_plain tok.End how e = absurd cc
sign_plain _ how e = refl

operator_plain : (n : ℕ) (kind : Tok) (how : BinaryOp) → operator (suc n) kind ≡ Some how → is_plain kind ≡ true
operator_plain zero tok.End how e = absurd cc
operator_plain (suc zero) tok.End how e = absurd cc
operator_plain (suc (suc zero)) tok.End how e = absurd cc
operator_plain (suc (suc (suc zero))) tok.End how e = absurd cc
operator_plain (suc (suc (suc (suc zero)))) tok.End how e = absurd cc
operator_plain (suc (suc (suc (suc (suc zero))))) tok.End how e = absurd cc
operator_plain (suc (suc (suc (suc (suc (suc n)))))) tok.End how e = absurd cc
operator_plain n _ how e = refl

comparison_plain : (kind : Tok) (how : CompareOp) → comparison kind ≡ Some how → is_plain kind ≡ true
comparison_plain tok.End how e = absurd cc
comparison_plain _ how e = refl

augments_plain : (kind : Tok) (how : BinaryOp) → augments kind ≡ Some how → is_plain kind ≡ true
augments_plain tok.End how e = absurd cc
augments_plain _ how e = refl

-- ---- expressions

strings_tail : (ss : e.Strings) (rest : List Token) → IsTail rest (e.strings_text ss rest)
strings_tail e.no_string rest = here rest
strings_tail (e.string l text ss) rest = step l (tok.Str text) refl (strings_tail ss rest)

comparison_tail : (c : e.Comparison) (rest : List Token) → IsTail rest (e.comparison_text c rest)
comparison_tail (e.alone l kind how is) rest = step l kind (comparison_plain kind how is) (here rest)
comparison_tail (e.not_in l r) rest = word_step l word.Not (word_step r word.In (here rest))
comparison_tail (e.is_ l) rest = word_step l word.Is (here rest)
comparison_tail (e.is_not l r) rest = word_step l word.Is (word_step r word.Not (here rest))

mutual
  factor_tail : (x : e.Factor) (rest : List Token) → IsTail rest (e.factor_text x rest)
  factor_tail (e.signed l kind how is x) rest = step l kind (sign_plain kind how is) (factor_tail x rest)
  factor_tail (e.primary a ts) rest = deep (atom_tail a (e.trailers_text ts rest)) (trailers_tail ts rest)
  factor_tail (e.power a ts l x) rest =
      deep (atom_tail a (e.trailers_text ts (at l (tok.Op op.DoubleStar) ∷ e.factor_text x rest)))
      (deep (trailers_tail ts (at l (tok.Op op.DoubleStar) ∷ e.factor_text x rest)) (op_step l op.DoubleStar (factor_tail x rest)))

  atom_tail : (a : e.Atom) (rest : List Token) → IsTail rest (e.atom_text a rest)
  atom_tail (e.name l text) rest = name_step l text (here rest)
  atom_tail (e.int l n) rest = step l (tok.Int n) refl (here rest)
  atom_tail (e.strings l text ss) rest = step l (tok.Str text) refl (strings_tail ss rest)
  atom_tail (e.none l) rest = word_step l word.None (here rest)
  atom_tail (e.truth l) rest = word_step l word.True (here rest)
  atom_tail (e.falsity l) rest = word_step l word.False (here rest)
  atom_tail (e.round l m r) rest = op_step l op.OpenParen (deep (inside_tail m (at r (tok.Op op.CloseParen) ∷ rest)) (op_step r op.CloseParen (here rest)))
  atom_tail (e.square l m r) rest = op_step l op.OpenBracket (deep (inside_tail m (at r (tok.Op op.CloseBracket) ∷ rest)) (op_step r op.CloseBracket (here rest)))
  atom_tail (e.brace l ps r) rest = op_step l op.OpenBrace (deep (pairs_tail ps (at r (tok.Op op.CloseBrace) ∷ rest)) (op_step r op.CloseBrace (here rest)))

  inside_tail : (m : e.Inside) (rest : List Token) → IsTail rest (e.inside_text m rest)
  inside_tail e.nothing rest = here rest
  inside_tail (e.inside m) rest = members_tail m rest

  pairs_tail : (ps : e.Pairs) (rest : List Token) → IsTail rest (e.pairs_text ps rest)
  pairs_tail e.no_pair rest = here rest
  pairs_tail (e.pair k l v b) rest =
      deep (test_tail k (at l (tok.Op op.Colon) ∷ e.test_text v (e.behind_pair_text b rest)))
      (op_step l op.Colon (deep (test_tail v (e.behind_pair_text b rest)) (behind_pair_tail b rest)))

  behind_pair_tail : (b : e.BehindPair) (rest : List Token) → IsTail rest (e.behind_pair_text b rest)
  behind_pair_tail e.pair_end rest = here rest
  behind_pair_tail (e.pair_comma l ps) rest = op_step l op.Comma (pairs_tail ps rest)

  trailers_tail : (ts : e.Trailers) (rest : List Token) → IsTail rest (e.trailers_text ts rest)
  trailers_tail e.no_trailer rest = here rest
  trailers_tail (e.call l gs r ts) rest =
      op_step l op.OpenParen (deep (arguments_tail gs (at r (tok.Op op.CloseParen) ∷ e.trailers_text ts rest)) (op_step r op.CloseParen (trailers_tail ts rest)))
  trailers_tail (e.index l m r ts) rest =
      op_step l op.OpenBracket (deep (members_tail m (at r (tok.Op op.CloseBracket) ∷ e.trailers_text ts rest)) (op_step r op.CloseBracket (trailers_tail ts rest)))
  trailers_tail (e.attribute l r text ts) rest = op_step l op.Dot (name_step r text (trailers_tail ts rest))

  arguments_tail : {names : List (List ℕ)} (gs : e.Arguments names) (rest : List Token) → IsTail rest (e.arguments_text gs rest)
  arguments_tail e.no_argument rest = here rest
  arguments_tail (e.positional first x b) rest = deep (test_tail x (e.behind_argument_text b rest)) (behind_argument_tail b rest)
  arguments_tail (e.keyword l text new r x b) rest = name_step l text (op_step r op.Assign (deep (test_tail x (e.behind_argument_text b rest)) (behind_argument_tail b rest)))

  behind_argument_tail : {names : List (List ℕ)} (b : e.BehindArgument names) (rest : List Token) → IsTail rest (e.behind_argument_text b rest)
  behind_argument_tail e.argument_end rest = here rest
  behind_argument_tail (e.argument_comma l gs) rest = op_step l op.Comma (arguments_tail gs rest)

  members_tail : (m : e.Members) (rest : List Token) → IsTail rest (e.members_text m rest)
  members_tail (e.listed x cs) rest = deep (test_tail x (e.commas_text cs rest)) (commas_tail cs rest)

  commas_tail : (cs : e.Commas) (rest : List Token) → IsTail rest (e.commas_text cs rest)
  commas_tail e.no_comma rest = here rest
  commas_tail (e.last_comma l) rest = op_step l op.Comma (here rest)
  commas_tail (e.comma l x cs) rest = op_step l op.Comma (deep (test_tail x (e.commas_text cs rest)) (commas_tail cs rest))

  test_tail : (x : e.Test) (rest : List Token) → IsTail rest (e.test_text x rest)
  test_tail (e.plain o) rest = or_tail o rest
  test_tail (e.conditional o l c r x) rest =
      deep (or_tail o (at l (tok.Word word.If) ∷ e.or_text c (at r (tok.Word word.Else) ∷ e.test_text x rest)))
      (word_step l word.If (deep (or_tail c (at r (tok.Word word.Else) ∷ e.test_text x rest)) (word_step r word.Else (test_tail x rest))))

  or_tail : (o : e.OrTest) (rest : List Token) → IsTail rest (e.or_text o rest)
  or_tail (e.or_test a os) rest = deep (and_tail a (e.or_more_text os rest)) (or_more_tail os rest)

  or_more_tail : (os : e.OrMore) (rest : List Token) → IsTail rest (e.or_more_text os rest)
  or_more_tail e.no_or rest = here rest
  or_more_tail (e.or_more l a os) rest = word_step l word.Or (deep (and_tail a (e.or_more_text os rest)) (or_more_tail os rest))

  and_tail : (a : e.AndTest) (rest : List Token) → IsTail rest (e.and_text a rest)
  and_tail (e.and_test n ns) rest = deep (not_tail n (e.and_more_text ns rest)) (and_more_tail ns rest)

  and_more_tail : (ns : e.AndMore) (rest : List Token) → IsTail rest (e.and_more_text ns rest)
  and_more_tail e.no_and rest = here rest
  and_more_tail (e.and_more l n ns) rest = word_step l word.And (deep (not_tail n (e.and_more_text ns rest)) (and_more_tail ns rest))

  not_tail : (n : e.NotTest) (rest : List Token) → IsTail rest (e.not_text n rest)
  not_tail (e.negated l n) rest = word_step l word.Not (not_tail n rest)
  not_tail (e.compare x cs) rest = deep (sum_tail x (e.comparisons_text cs rest)) (comparisons_tail cs rest)

  comparisons_tail : (cs : e.Comparisons) (rest : List Token) → IsTail rest (e.comparisons_text cs rest)
  comparisons_tail e.no_comparison rest = here rest
  comparisons_tail (e.comparing c x cs) rest =
      deep (comparison_tail c (e.sum_text x (e.comparisons_text cs rest))) (deep (sum_tail x (e.comparisons_text cs rest)) (comparisons_tail cs rest))

  sum_tail : {level : ℕ} (x : e.Sum level) (rest : List Token) → IsTail rest (e.sum_text x rest)
  sum_tail (e.operand x) rest = factor_tail x rest
  sum_tail (e.grouped x c) rest = deep (sum_tail x (e.chain_text c rest)) (chain_tail c rest)

  chain_tail : {level : ℕ} (c : e.Chain level) (rest : List Token) → IsTail rest (e.chain_text c rest)
  chain_tail e.no_operator rest = here rest
  chain_tail {level} (e.operated l kind how is x c) rest = step l kind (operator_plain level kind how is) (deep (sum_tail x (e.chain_text c rest)) (chain_tail c rest))

-- ---- targets

ending_tail : (x : t.Ending) (rest : List Token) → IsTail rest (t.ending_text x rest)
ending_tail (t.attribute l r text) rest = op_step l op.Dot (name_step r text (here rest))
ending_tail (t.index l m r) rest = op_step l op.OpenBracket (deep (members_tail m (at r (tok.Op op.CloseBracket) ∷ rest)) (op_step r op.CloseBracket (here rest)))

one_tail : (x : t.One) (rest : List Token) → IsTail rest (t.one_text x rest)
one_tail (t.One.variable l text) rest = name_step l text (here rest)
one_tail (t.part a ts x) rest = deep (atom_tail a (e.trailers_text ts (t.ending_text x rest))) (deep (trailers_tail ts (t.ending_text x rest)) (ending_tail x rest))

gone_tail : (x : t.Gone) (rest : List Token) → IsTail rest (t.gone_text x rest)
gone_tail (t.Gone.variable l text) rest = name_step l text (here rest)
gone_tail (t.item a ts l m r) rest =
    deep (atom_tail a (e.trailers_text ts (t.ending_text (t.index l m r) rest))) (deep (trailers_tail ts (t.ending_text (t.index l m r) rest)) (ending_tail (t.index l m r) rest))

mutual
  aim_tail : (x : t.Aim) (rest : List Token) → IsTail rest (t.aim_text x rest)
  aim_tail (t.one o) rest = one_tail o rest
  aim_tail (t.round l gs r) rest = op_step l op.OpenParen (deep (aims_tail gs (at r (tok.Op op.CloseParen) ∷ rest)) (op_step r op.CloseParen (here rest)))
  aim_tail (t.square l gs r) rest = op_step l op.OpenBracket (deep (aims_tail gs (at r (tok.Op op.CloseBracket) ∷ rest)) (op_step r op.CloseBracket (here rest)))

  aims_tail : (gs : t.Aims) (rest : List Token) → IsTail rest (t.aims_text gs rest)
  aims_tail (t.listed a cs) rest = deep (aim_tail a (t.more_text cs rest)) (more_tail cs rest)

  more_tail : (cs : t.MoreAims) (rest : List Token) → IsTail rest (t.more_text cs rest)
  more_tail t.no_comma rest = here rest
  more_tail (t.last_comma l) rest = op_step l op.Comma (here rest)
  more_tail (t.comma l a cs) rest = op_step l op.Comma (deep (aim_tail a (t.more_text cs rest)) (more_tail cs rest))

-- ---- lines

abbrev Keeps : {A : Type 0} → (A → List Token → List Token) → Type 0
Keeps {A} text = (x : A) (rest : List Token) → IsTail rest (text x rest)

name_tail : Keeps s.name_text
name_tail n rest = name_step n.place n.text (here rest)

dotted_tail : (d : s.Dotted) (rest : List Token) → IsTail rest (s.dotted_text d rest)
dotted_tail (s.Dotted.last n) rest = name_tail n rest
dotted_tail (s.dotted n l d) rest = deep (name_tail n (at l (tok.Op op.Dot) ∷ s.dotted_text d rest)) (op_step l op.Dot (dotted_tail d rest))

renamed_tail : {P : Type 0} (text : P → List Token → List Token) → Keeps text → (x : s.Renamed P) (rest : List Token) → IsTail rest (s.renamed_text text x rest)
renamed_tail text keeps (s.same p) rest = keeps p rest
renamed_tail text keeps (s.renamed p l n) rest = deep (keeps p (at l (tok.Word word.As) ∷ s.name_text n rest)) (word_step l word.As (name_tail n rest))

series_tail : {A : Type 0} {bracketed : Bool} (text : A → List Token → List Token) → Keeps text → (xs : s.Series A bracketed) (rest : List Token) → IsTail rest (s.series_text text xs rest)
series_tail text keeps (s.Series.last x) rest = keeps x rest
series_tail text keeps (s.last_comma x l) rest = deep (keeps x (at l (tok.Op op.Comma) ∷ rest)) (op_step l op.Comma (here rest))
series_tail text keeps (s.comma x l xs) rest = deep (keeps x (at l (tok.Op op.Comma) ∷ s.series_text text xs rest)) (op_step l op.Comma (series_tail text keeps xs rest))

option_tail : {A : Type 0} (text : A → List Token → List Token) → Keeps text → (x : Option A) (rest : List Token) → IsTail rest (s.option_text text x rest)
option_tail text keeps None rest = here rest
option_tail text keeps (Some x) rest = keeps x rest

assigned_tail : (a : s.Assigned) (rest : List Token) → IsTail rest (s.assigned_text a rest)
assigned_tail (s.value gs l m) rest = deep (aims_tail gs (at l (tok.Op op.Assign) ∷ e.members_text m rest)) (op_step l op.Assign (members_tail m rest))
assigned_tail (s.again gs l a) rest = deep (aims_tail gs (at l (tok.Op op.Assign) ∷ s.assigned_text a rest)) (op_step l op.Assign (assigned_tail a rest))

imported_tail : (x : s.Imported) (rest : List Token) → IsTail rest (s.imported_text x rest)
imported_tail (s.bare ns) rest = series_tail (s.renamed_text s.name_text) (renamed_tail s.name_text name_tail) ns rest
imported_tail (s.round l ns r) rest =
    op_step l op.OpenParen (deep (series_tail (s.renamed_text s.name_text) (renamed_tail s.name_text name_tail) ns (at r (tok.Op op.CloseParen) ∷ rest)) (op_step r op.CloseParen (here rest)))

message_tail : Keeps s.message_text
message_tail m rest = op_step m.place op.Comma (test_tail m.test rest)

small_tail : (x : s.Small) (rest : List Token) → IsTail rest (s.small_text x rest)
small_tail (s.tests m) rest = members_tail m rest
small_tail (s.assigned a) rest = assigned_tail a rest
small_tail (s.augmented o l kind how is m) rest = deep (one_tail o (at l kind ∷ e.members_text m rest)) (step l kind (augments_plain kind how is) (members_tail m rest))
small_tail (s.del l gs) rest = word_step l word.Del (series_tail t.gone_text gone_tail gs rest)
small_tail (s.pass l) rest = word_step l word.Pass (here rest)
small_tail (s.break l) rest = word_step l word.Break (here rest)
small_tail (s.continue l) rest = word_step l word.Continue (here rest)
small_tail (s.return l m) rest = word_step l word.Return (option_tail e.members_text members_tail m rest)
small_tail (s.raise l x) rest = word_step l word.Raise (option_tail e.test_text test_tail x rest)
small_tail (s.global l ns) rest = word_step l word.Global (series_tail s.name_text name_tail ns rest)
small_tail (s.assert l x m) rest = word_step l word.Assert (deep (test_tail x (s.option_text s.message_text m rest)) (option_tail s.message_text message_tail m rest))
small_tail (s.import l ns) rest = word_step l word.Import (series_tail (s.renamed_text s.dotted_text) (renamed_tail s.dotted_text dotted_tail) ns rest)
small_tail (s.from l d r ns) rest = word_step l word.From (deep (dotted_tail d (at r (tok.Word word.Import) ∷ s.imported_text ns rest)) (word_step r word.Import (imported_tail ns rest)))

line_tail : (one : s.Line) (rest : List Token) → IsTail rest (s.line_text one rest)
line_tail (s.Line.last one n) rest = deep (small_tail one (at n tok.Newline ∷ rest)) (step n tok.Newline refl (here rest))
line_tail (s.last_semicolon one l n) rest = deep (small_tail one (at l (tok.Op op.Semicolon) ∷ at n tok.Newline ∷ rest)) (op_step l op.Semicolon (step n tok.Newline refl (here rest)))
line_tail (s.semicolon one l others) rest = deep (small_tail one (at l (tok.Op op.Semicolon) ∷ s.line_text others rest)) (op_step l op.Semicolon (line_tail others rest))

-- ---- compound statements

parameter_tail : Keeps g.parameter_text
parameter_tail (g.plain n) rest = name_tail n rest
parameter_tail (g.default n l x) rest = deep (name_tail n (at l (tok.Op op.Assign) ∷ e.test_text x rest)) (op_step l op.Assign (test_tail x rest))

parameters_tail : (ps : g.Parameters) (rest : List Token) → IsTail rest (g.parameters_text ps rest)
parameters_tail g.none rest = here rest
parameters_tail (g.some ps) rest = series_tail g.parameter_text parameter_tail ps rest

colon : (c : Place) (rest : List Token) → IsTail rest (at c (tok.Op op.Colon) ∷ rest)
colon c rest = op_step c op.Colon (here rest)

first_tail : (x : g.First) (rest : List Token) → IsTail rest (g.first_text x rest)
first_tail (g.if_ l x c) rest = word_step l word.If (deep (test_tail x (at c (tok.Op op.Colon) ∷ rest)) (colon c rest))
first_tail (g.while_ l x c) rest = word_step l word.While (deep (test_tail x (at c (tok.Op op.Colon) ∷ rest)) (colon c rest))
first_tail (g.for_ l gs r m c) rest =
    word_step l word.For (deep (aims_tail gs (at r (tok.Word word.In) ∷ e.members_text m (at c (tok.Op op.Colon) ∷ rest)))
    (word_step r word.In (deep (members_tail m (at c (tok.Op op.Colon) ∷ rest)) (colon c rest))))
first_tail (g.try_ l c) rest = word_step l word.Try (colon c rest)
first_tail (g.def_ l n b ps fit r c) rest =
    word_step l word.Def (deep (name_tail n (at b (tok.Op op.OpenParen) ∷ g.parameters_text ps (at r (tok.Op op.CloseParen) ∷ at c (tok.Op op.Colon) ∷ rest)))
    (op_step b op.OpenParen (deep (parameters_tail ps (at r (tok.Op op.CloseParen) ∷ at c (tok.Op op.Colon) ∷ rest)) (op_step r op.CloseParen (colon c rest)))))

naming_tail : (n : Option g.Naming) (rest : List Token) → IsTail rest (g.naming_text n rest)
naming_tail None rest = here rest
naming_tail (Some n) rest = word_step n.place word.As (name_tail n.name rest)

later_tail : (x : g.Later) (rest : List Token) → IsTail rest (g.later_text x rest)
later_tail (g.elif l x c) rest = word_step l word.Elif (deep (test_tail x (at c (tok.Op op.Colon) ∷ rest)) (colon c rest))
later_tail (g.else_ l c) rest = word_step l word.Else (colon c rest)
later_tail (g.except l x n c) rest =
    word_step l word.Except (deep (test_tail x (g.naming_text n (at c (tok.Op op.Colon) ∷ rest))) (deep (naming_tail n (at c (tok.Op op.Colon) ∷ rest)) (colon c rest)))
later_tail (g.except_all l c) rest = word_step l word.Except (colon c rest)
later_tail (g.finally l c) rest = word_step l word.Finally (colon c rest)

mutual
  statement_tail : (x : g.Statement) (rest : List Token) → IsTail rest (g.statement_text x rest)
  statement_tail (g.simple one) rest = line_tail one rest
  statement_tail (g.compound x b cs) rest =
      deep (first_tail x (g.suite_text b (g.clauses_text cs rest))) (deep (suite_tail b (g.clauses_text cs rest)) (clauses_tail cs rest))

  suite_tail : (b : g.Suite) (rest : List Token) → IsTail rest (g.suite_text b rest)
  suite_tail (g.inline one) rest = line_tail one rest
  suite_tail (g.block n i x others d) rest =
      step n tok.Newline refl (step i tok.Indent refl (deep (statement_tail x (g.statements_text others (at d tok.Dedent ∷ rest)))
      (deep (statements_tail others (at d tok.Dedent ∷ rest)) (step d tok.Dedent refl (here rest)))))

  statements_tail : (xs : g.Statements) (rest : List Token) → IsTail rest (g.statements_text xs rest)
  statements_tail g.no_statement rest = here rest
  statements_tail (g.more one others) rest = deep (statement_tail one (g.statements_text others rest)) (statements_tail others rest)

  clauses_tail : {stage : Stage} (cs : g.Clauses stage) (rest : List Token) → IsTail rest (g.clauses_text cs rest)
  clauses_tail (g.ends e) rest = here rest
  clauses_tail (g.clause x follows b cs) rest =
      deep (later_tail x (g.suite_text b (g.clauses_text cs rest))) (deep (suite_tail b (g.clauses_text cs rest)) (clauses_tail cs rest))

-- ---- fronts

mutual
  pub front_tail : (x : f.Front) (rest : List Token) → IsTail rest (f.front_text x rest)
  front_tail (f.whole xs) rest = statements_tail xs rest
  front_tail (f.opened xs o) rest = deep (statements_tail xs (f.open_text o rest)) (open_tail o rest)

  open_tail : (o : f.Open) (rest : List Token) → IsTail rest (f.open_text o rest)
  open_tail (f.in_first x n i y) rest =
      deep (first_tail x (at n tok.Newline ∷ at i tok.Indent ∷ f.front_text y rest)) (step n tok.Newline refl (step i tok.Indent refl (front_tail y rest)))
  open_tail (f.behind_first x b os) rest =
      deep (first_tail x (g.suite_text b (f.open_clauses_text os rest))) (deep (suite_tail b (f.open_clauses_text os rest)) (open_clauses_tail os rest))

  open_clauses_tail : {stage : Stage} (os : f.OpenClauses stage) (rest : List Token) → IsTail rest (f.open_clauses_text os rest)
  open_clauses_tail (f.in_later x follows n i y) rest =
      deep (later_tail x (at n tok.Newline ∷ at i tok.Indent ∷ f.front_text y rest)) (step n tok.Newline refl (step i tok.Indent refl (front_tail y rest)))
  open_clauses_tail (f.behind_later x follows b os) rest =
      deep (later_tail x (g.suite_text b (f.open_clauses_text os rest))) (deep (suite_tail b (f.open_clauses_text os rest)) (open_clauses_tail os rest))

-- ---- what a tail is

pub tail_dropped : (tokens rest : List Token) → IsTail rest tokens → drop (length tokens - length rest) tokens ≡ rest
tail_dropped tokens rest x =
    let long = ap length x.splits ∙ length-append x.front rest in
    let at_front : length tokens - length rest ≡ length x.front = omega arith in
    ap (λ n. drop n tokens) at_front ∙ ap (drop (length x.front)) x.splits ∙ drop-append_seam x.front rest

not_plain : (front : List Token) (l : Place) → all_plain (front ++ at l tok.End ∷ []) ≡ true → ⊥
not_plain [] l p = cc
not_plain (u ∷ us) l p = not_plain us l (right_true (is_plain u.kind) (all_plain (us ++ at l tok.End ∷ [])) p)

some_left : (front rest : List Token) (before : List Token) (l : Place) → front ++ at l tok.End ∷ [] ≡ before ++ rest → all_plain before ≡ true → 0 < length rest
some_left front [] before l e plain = absurd (not_plain front l (ap all_plain (e ∙ append-nil before) ∙ plain))
some_left front (u ∷ us) before l e plain = omega arith

-- an End isn't read by a front
pub end_left : (front rest : List Token) (l : Place) → IsTail rest (front ++ at l tok.End ∷ []) → 0 < length rest
end_left front rest l x = some_left front rest x.front l x.splits x.plain
