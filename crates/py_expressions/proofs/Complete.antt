-- What the grammar reads is read.
use Rattle.std.proofs.Common.{◌≡◌, ℕ, zero, suc, ◌+◌, ◌-◌, ◌≤◌, true, false, List, [], ◌∷◌, ◌++◌, length, Ok, refl, sym, ap, ◌∙◌, arith, append_assoc}
use Rattle.std.proofs.lemmas.List.{append-nil}
use Rattle.py_tokens.specs.declared.token.Token.{Token}
use Rattle.py_tokens.specs.declared.token.Tok.TheVariants as tok
use Rattle.py_tokens.specs.declared.word.Word.TheVariants as word
use Rattle.py_tokens.specs.declared.operator.Op.TheVariants as op
use Rattle.py_tree.specs.declared.expr.Expr.{Expr}
use Rattle.py_tree.specs.declared.expr.Expr.TheVariants as ex
use Rattle.py_tree.specs.declared.expr.CompareOp.{CompareOp}
use Rattle.py_expressions.specs.declared.cursor.Mark.TheVariants as mark
use Rattle.py_expressions.specs.declared.grammar.Rule.{Rule}
use Rattle.py_expressions.specs.declared.grammar.Rule.TheVariants as rule
use Rattle.py_expressions.specs.declared.calls.Arguments.{Arguments}
use Rattle.py_expressions.specs.Input.{Input, Place, at, Parser, kind_at, sees}
use Rattle.py_expressions.specs.Follow.{rank}
use Rattle.py_expressions.specs.Grammar as g
use Rattle.py_expressions.specs.Reading as read
use Rattle.py_expressions.specs.Laws.{input}
use Rattle.py_expressions.proofs.Tables.{no_and_at, no_or_at, no_comma_at, no_test_at}
use Rattle.py_expressions.proofs.Forward
use Rattle.py_expressions.proofs.Sizes.{assigns, comparison_grows, atom_grows, trailers_grows, arguments_grows, members_grows, test_grows, or_grows, and_grows, not_grows, sum_grows, sum_starts, test_starts, members_start, strings_rank, chain_rank, comparisons_rank, and_more_rank, or_more_rank, commas_rank, behind_pair_rank, behind_argument_rank, behind_argument_assign, test_keyword}

-- ---- keyword arguments

pub names_snoc : (keys : List (List ℕ × Expr)) (text : List ℕ) (x : Expr) → read.names (keys ++ (text, x) ∷ []) ≡ read.names keys ++ text ∷ []
names_snoc [] text x = refl
names_snoc (key ∷ keys) text x = ap (λ q. key.0 ∷ q) (names_snoc keys text x)

-- ---- parts

strings_complete : (ss : g.Strings) (n : ℕ) (found : List ℕ) (rest : List Token) (front : ℕ) → length (g.strings_text ss rest) ≤ n → 1 ≤ rank rest
    → read.strings n found (input (g.strings_text ss rest) front) ≡ Ok (found ++ g.strings_tree ss, input rest front)
strings_complete g.no_string n found rest front le h = Forward.no_string_left n found rest front h ∙ ap (λ (xs : List ℕ). Ok (xs, input rest front)) (sym (append-nil found))
strings_complete (g.string l text ss) zero found rest front le h = absurd (omega arith)
strings_complete (g.string l text ss) (suc n) found rest front le h =
    Forward.string_then n found text l (g.strings_text ss rest) front ∙ strings_complete ss n (found ++ text) rest front (omega arith) h
    ∙ ap (λ (xs : List ℕ). Ok (xs, input rest front)) (append_assoc found text (g.strings_tree ss))

and_is : (inner : Rule → Parser Expr) (i : Input) → read.and_test inner i ≡ read.junction (read.not_test inner) word.And ex.And i
unfolding read.and_test
and_is inner i = refl

or_is : (inner : Rule → Parser Expr) (i : Input) → read.or_test inner i ≡ read.junction (read.and_test inner) word.Or ex.Or i
unfolding read.or_test
or_is inner i = refl

sees_and : (l : Place) (ts : List Token) (front : ℕ) → sees (mark.Word word.And) (input (at l (tok.Word word.And) ∷ ts) front) ≡ true
unfolding sees
sees_and l ts front = refl

sees_or : (l : Place) (ts : List Token) (front : ℕ) → sees (mark.Word word.Or) (input (at l (tok.Word word.Or) ∷ ts) front) ≡ true
unfolding sees
sees_or l ts front = refl

-- ---- a reading with room for it
mutual
  pub factor_complete : (f : g.Factor) (d : ℕ) (rest : List Token) (front : ℕ) → length (g.factor_text f rest) ≤ d → 3 ≤ rank rest → read.factor (read.expr d) (input (g.factor_text f rest) front) ≡ Ok (g.factor_tree f, input rest front)
  factor_complete (g.signed l kind how e f) zero rest front le h = absurd (omega arith)
  factor_complete (g.signed l kind how e f) (suc d) rest front le h =
      Forward.factor_signed (read.expr (suc d)) l kind how (g.factor_text f rest) front (g.factor_tree f) (input rest front) e (Forward.expr_factor d (input (g.factor_text f rest) front) ∙ factor_complete f d rest front (omega arith) h)
  factor_complete (g.primary a ts) d rest front le h =
      let k = atom_grows a (g.trailers_text ts rest) in
      Forward.factor_power (read.expr d) a (g.trailers_text ts rest) front
      ∙ Forward.power_alone (read.expr d) (input (g.atom_text a (g.trailers_text ts rest)) front) (g.trailers_tree ts (g.atom_tree a)) rest front
      (Forward.primary_by (read.expr d) (input (g.atom_text a (g.trailers_text ts rest)) front) (input (g.trailers_text ts rest) front) (g.atom_tree a) (Ok (g.trailers_tree ts (g.atom_tree a), input rest front))
      (atom_complete a d (g.trailers_text ts rest) front le (strings_rank ts rest (omega arith)))
      (trailers_complete ts (length (g.trailers_text ts rest)) d (g.atom_tree a) rest front (omega arith) (omega arith) (omega arith)))
      h
  factor_complete (g.power a ts l f) zero rest front le h = let k = atom_grows a (g.trailers_text ts (at l (tok.Op op.DoubleStar) ∷ g.factor_text f rest)) in absurd (omega arith)
  factor_complete (g.power a ts l f) (suc d) rest front le h =
      let raised = at l (tok.Op op.DoubleStar) ∷ g.factor_text f rest in
      let k = atom_grows a (g.trailers_text ts (at l (tok.Op op.DoubleStar) ∷ g.factor_text f rest)) in
      let m = trailers_grows ts (at l (tok.Op op.DoubleStar) ∷ g.factor_text f rest) in
      Forward.factor_power (read.expr (suc d)) a (g.trailers_text ts raised) front
      ∙ Forward.power_raised (read.expr (suc d)) (input (g.atom_text a (g.trailers_text ts raised)) front) (g.trailers_tree ts (g.atom_tree a)) (g.factor_tree f) l (g.factor_text f rest) front (input rest front)
      (Forward.primary_by (read.expr (suc d)) (input (g.atom_text a (g.trailers_text ts raised)) front) (input (g.trailers_text ts raised) front) (g.atom_tree a) (Ok (g.trailers_tree ts (g.atom_tree a), input raised front))
      (atom_complete a (suc d) (g.trailers_text ts raised) front le (strings_rank ts (at l (tok.Op op.DoubleStar) ∷ g.factor_text f rest) (omega arith)))
      (trailers_complete ts (length (g.trailers_text ts raised)) (suc d) (g.atom_tree a) (at l (tok.Op op.DoubleStar) ∷ g.factor_text f rest) front (omega arith) (omega arith) (omega arith)))
      (Forward.expr_factor d (input (g.factor_text f rest) front) ∙ factor_complete f d rest front (omega arith) h)

  pub atom_complete : (a : g.Atom) (d : ℕ) (rest : List Token) (front : ℕ) → length (g.atom_text a rest) ≤ d → 1 ≤ rank rest → read.atom (read.expr d) (input (g.atom_text a rest) front) ≡ Ok (g.atom_tree a, input rest front)
  atom_complete (g.name l text) d rest front le h = Forward.atom_name (read.expr d) l text rest front
  atom_complete (g.int l n) d rest front le h = Forward.atom_int (read.expr d) l n rest front
  atom_complete (g.strings l text ss) d rest front le h =
      Forward.atom_strings (read.expr d) l text (text ++ g.strings_tree ss) (g.strings_text ss rest) rest front
      (strings_complete (g.string l text ss) (length (at l (tok.Str text) ∷ g.strings_text ss rest)) [] rest front (omega arith) h)
  atom_complete (g.none l) d rest front le h = Forward.atom_none (read.expr d) l rest front
  atom_complete (g.truth l) d rest front le h = Forward.atom_truth (read.expr d) l rest front
  atom_complete (g.falsity l) d rest front le h = Forward.atom_falsity (read.expr d) l rest front
  atom_complete (g.round l m r) zero rest front le h = absurd (omega arith)
  atom_complete (g.round l m r) (suc d) rest front le h =
      Forward.atom_round (read.expr (suc d)) l r (g.inside_text m (at r (tok.Op op.CloseParen) ∷ rest)) rest front (g.inside_list m, g.inside_comma m)
      (inside_complete m d (at r (tok.Op op.CloseParen) ∷ rest) front (omega arith) (omega arith))
  atom_complete (g.square l m r) zero rest front le h = absurd (omega arith)
  atom_complete (g.square l m r) (suc d) rest front le h =
      Forward.atom_square (read.expr (suc d)) l r (g.inside_text m (at r (tok.Op op.CloseBracket) ∷ rest)) rest front (g.inside_list m, g.inside_comma m)
      (inside_complete m d (at r (tok.Op op.CloseBracket) ∷ rest) front (omega arith) (omega arith))
  atom_complete (g.brace l ps r) zero rest front le h = absurd (omega arith)
  atom_complete (g.brace l ps r) (suc d) rest front le h =
      Forward.atom_brace (read.expr (suc d)) l r (g.pairs_text ps (at r (tok.Op op.CloseBrace) ∷ rest)) rest front (g.pairs_list ps)
      (pairs_complete ps (length (g.pairs_text ps (at r (tok.Op op.CloseBrace) ∷ rest))) d [] (at r (tok.Op op.CloseBrace) ∷ rest) front (omega arith) (omega arith) (omega arith))

  pub inside_complete : (m : g.Inside) (d : ℕ) (rest : List Token) (front : ℕ) → length (g.inside_text m rest) ≤ d → 14 ≤ rank rest → read.some_members (read.expr (suc d)) (input (g.inside_text m rest) front) ≡ Ok ((g.inside_list m, g.inside_comma m), input rest front)
  inside_complete g.nothing d rest front le h = Forward.some_members_none (read.expr (suc d)) rest front h
  inside_complete (g.inside m) d rest front le h =
      Forward.some_members_some (read.expr (suc d)) (g.members_text m rest) front (Ok ((g.members_list m, g.members_comma m), input rest front)) (members_start m rest) (members_complete m d rest front le h)

  pub pairs_complete : (ps : g.Pairs) (n d : ℕ) (found : List (Expr × Expr)) (rest : List Token) (front : ℕ) → length (g.pairs_text ps rest) ≤ n → length (g.pairs_text ps rest) ≤ d → 14 ≤ rank rest
      → read.pairs_from (read.expr (suc d)) n found (input (g.pairs_text ps rest) front) ≡ Ok (found ++ g.pairs_list ps, input rest front)
  pairs_complete g.no_pair n d found rest front le ld h = Forward.pairs_none (read.expr (suc d)) n found rest front h ∙ ap (λ (xs : List (Expr × Expr)). Ok (xs, input rest front)) (sym (append-nil found))
  pairs_complete (g.pair k l v b) zero d found rest front le ld h = let m = test_grows k (at l (tok.Op op.Colon) ∷ g.test_text v (g.behind_pair_text b rest)) in absurd (omega arith)
  pairs_complete (g.pair k l v b) (suc n) d found rest front le ld h =
      let behind = at l (tok.Op op.Colon) ∷ g.test_text v (g.behind_pair_text b rest) in
      let m = test_grows k (at l (tok.Op op.Colon) ∷ g.test_text v (g.behind_pair_text b rest)) in
      let o = test_grows v (g.behind_pair_text b rest) in
      behind_pair_complete b n d found (input (g.test_text k behind) front) (g.test_tree k, g.test_tree v) rest front (omega arith) (omega arith) h (test_starts k behind)
      (Forward.pair_by (read.expr (suc d)) (input (g.test_text k behind) front) (g.test_tree k) (g.test_tree v) l (g.test_text v (g.behind_pair_text b rest)) front (input (g.behind_pair_text b rest) front)
      (Forward.expr_test d (input (g.test_text k behind) front) ∙ test_complete k d (at l (tok.Op op.Colon) ∷ g.test_text v (g.behind_pair_text b rest)) front ld (omega arith))
      (Forward.expr_test d (input (g.test_text v (g.behind_pair_text b rest)) front) ∙ test_complete v d (g.behind_pair_text b rest) front (omega arith) (behind_pair_rank b rest h)))

  pub behind_pair_complete : (b : g.BehindPair) (n d : ℕ) (found : List (Expr × Expr)) (i : Input) (p : Expr × Expr) (rest : List Token) (front : ℕ) → length (g.behind_pair_text b rest) ≤ n → length (g.behind_pair_text b rest) ≤ d → 14 ≤ rank rest
      → read.begins_test (kind_at i.ahead) ≡ true → read.pair (read.expr (suc d)) i ≡ Ok (p, input (g.behind_pair_text b rest) front)
      → read.pairs_from (read.expr (suc d)) (suc n) found i ≡ Ok (found ++ p ∷ g.behind_pair_list b, input rest front)
  behind_pair_complete g.pair_end n d found i p rest front le ld h starts e = Forward.pairs_last (read.expr (suc d)) n found i p rest front starts e (no_comma_at rest front h)
  behind_pair_complete (g.pair_comma l ps) n d found i p rest front le ld h starts e =
      Forward.pairs_then (read.expr (suc d)) n found i p l (g.pairs_text ps rest) front starts e
      ∙ pairs_complete ps n d (found ++ p ∷ []) rest front (omega arith) (omega arith) h
      ∙ ap (λ (xs : List (Expr × Expr)). Ok (xs, input rest front)) (append_assoc found (p ∷ []) (g.pairs_list ps))

  pub trailers_complete : (ts : g.Trailers) (n d : ℕ) (left : Expr) (rest : List Token) (front : ℕ) → length (g.trailers_text ts rest) ≤ n → length (g.trailers_text ts rest) ≤ d → 2 ≤ rank rest
      → read.trailers (read.expr d) n left (input (g.trailers_text ts rest) front) ≡ Ok (g.trailers_tree ts left, input rest front)
  trailers_complete g.no_trailer n d left rest front le ld h = Forward.no_trailer_left (read.expr d) n left rest front h
  trailers_complete (g.call l gs r ts) zero d left rest front le ld h = absurd (omega arith)
  trailers_complete (g.call l gs r ts) (suc n) zero left rest front le ld h = absurd (omega arith)
  trailers_complete (g.call l gs r ts) (suc n) (suc d) left rest front le ld h =
      let k = arguments_grows gs (at r (tok.Op op.CloseParen) ∷ g.trailers_text ts rest) in
      Forward.trailers_call (read.expr (suc d)) n left l r (g.arguments_text gs (at r (tok.Op op.CloseParen) ∷ g.trailers_text ts rest)) (g.trailers_text ts rest) front (read.arguments_of (g.positional_list gs) (g.keyword_list gs))
      (arguments_complete gs (length (g.arguments_text gs (at r (tok.Op op.CloseParen) ∷ g.trailers_text ts rest))) d [] [] (at r (tok.Op op.CloseParen) ∷ g.trailers_text ts rest) front refl (omega arith) (omega arith) (omega arith) refl)
      ∙ trailers_complete ts n (suc d) (ex.Call left (g.positional_list gs) (g.keyword_list gs)) rest front (omega arith) (omega arith) h
  trailers_complete (g.index l m r ts) zero d left rest front le ld h = absurd (omega arith)
  trailers_complete (g.index l m r ts) (suc n) zero left rest front le ld h = absurd (omega arith)
  trailers_complete (g.index l m r ts) (suc n) (suc d) left rest front le ld h =
      let k = members_grows m (at r (tok.Op op.CloseBracket) ∷ g.trailers_text ts rest) in
      Forward.trailers_index (read.expr (suc d)) n left l r (g.members_text m (at r (tok.Op op.CloseBracket) ∷ g.trailers_text ts rest)) (g.trailers_text ts rest) front (g.members_list m, g.members_comma m)
      (members_complete m d (at r (tok.Op op.CloseBracket) ∷ g.trailers_text ts rest) front (omega arith) (omega arith))
      ∙ trailers_complete ts n (suc d) (ex.Index left (g.members_tree m)) rest front (omega arith) (omega arith) h
  trailers_complete (g.attribute l r text ts) zero d left rest front le ld h = absurd (omega arith)
  trailers_complete (g.attribute l r text ts) (suc n) d left rest front le ld h =
      Forward.trailers_attribute (read.expr d) n left l r text (g.trailers_text ts rest) front ∙ trailers_complete ts n d (ex.Attr left text) rest front (omega arith) (omega arith) h

  pub arguments_complete : {names : List (List ℕ)} (gs : g.Arguments names) (n d : ℕ) (args : List Expr) (keys : List (List ℕ × Expr)) (rest : List Token) (front : ℕ) → read.names keys ≡ names
      → length (g.arguments_text gs rest) ≤ n → length (g.arguments_text gs rest) ≤ d → 14 ≤ rank rest → assigns rest ≡ false
      → read.arguments_from (read.expr (suc d)) n (read.arguments_of args keys) (input (g.arguments_text gs rest) front) ≡ Ok (read.arguments_of (args ++ g.positional_list gs) (keys ++ g.keyword_list gs), input rest front)
  arguments_complete g.no_argument n d args keys rest front same le ld h free =
      Forward.arguments_none (read.expr (suc d)) n (read.arguments_of args keys) rest front h
      ∙ ap (λ (xs : List Expr). Ok (read.arguments_of xs keys, input rest front)) (sym (append-nil args))
      ∙ ap (λ (xs : List (List ℕ × Expr)). Ok (read.arguments_of (args ++ []) xs, input rest front)) (sym (append-nil keys))
  arguments_complete (g.positional e t b) zero d args keys rest front same le ld h free = let k = test_grows t (g.behind_argument_text b rest) in absurd (omega arith)
  arguments_complete (g.positional e t b) (suc n) d args (key ∷ keys) rest front same le ld h free = let clash : key.0 ∷ read.names keys ≡ [] = same ∙ e in absurd cc
  arguments_complete (g.positional e t b) (suc n) d args [] rest front same le ld h free =
      let k = test_grows t (g.behind_argument_text b rest) in
      let behind = g.behind_argument_text b rest in
      behind_argument_complete b n d (read.arguments_of args []) (args ++ g.test_tree t ∷ []) [] (input (g.test_text t behind) front) rest front same (omega arith) (omega arith) h free (test_starts t behind)
      (Forward.argument_positional (read.expr (suc d)) args (input (g.test_text t behind) front) (g.test_tree t) (input behind front) (test_keyword t behind (behind_argument_assign b rest free))
      (Forward.expr_test d (input (g.test_text t behind) front) ∙ test_complete t d (g.behind_argument_text b rest) front ld (behind_argument_rank b rest h)))
      ∙ ap (λ (xs : List Expr). Ok (read.arguments_of xs (g.behind_keyword_list b), input rest front)) (append_assoc args (g.test_tree t ∷ []) (g.behind_positional_list b))
  arguments_complete (g.keyword l text new r t b) zero d args keys rest front same le ld h free = absurd (omega arith)
  arguments_complete (g.keyword l text new r t b) (suc n) d args keys rest front same le ld h free =
      let k = test_grows t (g.behind_argument_text b rest) in
      let behind = g.behind_argument_text b rest in
      behind_argument_complete b n d (read.arguments_of args keys) args (keys ++ (text, g.test_tree t) ∷ []) (input (at l (tok.Name text) ∷ at r (tok.Op op.Assign) ∷ g.test_text t behind) front) rest front
      (names_snoc keys text (g.test_tree t) ∙ ap (λ (q : List (List ℕ)). q ++ text ∷ []) same) (omega arith) (omega arith) h free refl
      (Forward.argument_keyword (read.expr (suc d)) args keys l r text (g.test_text t behind) front (g.test_tree t) (input behind front) (ap (read.is_new text) same ∙ new)
      (Forward.expr_test d (input (g.test_text t behind) front) ∙ test_complete t d (g.behind_argument_text b rest) front (omega arith) (behind_argument_rank b rest h)))
      ∙ ap (λ (xs : List (List ℕ × Expr)). Ok (read.arguments_of (args ++ g.behind_positional_list b) xs, input rest front)) (append_assoc keys ((text, g.test_tree t) ∷ []) (g.behind_keyword_list b))

  pub behind_argument_complete : {names : List (List ℕ)} (b : g.BehindArgument names) (n d : ℕ) (given : Arguments) (args : List Expr) (keys : List (List ℕ × Expr)) (i : Input) (rest : List Token) (front : ℕ) → read.names keys ≡ names
      → length (g.behind_argument_text b rest) ≤ n → length (g.behind_argument_text b rest) ≤ d → 14 ≤ rank rest → assigns rest ≡ false
      → read.begins_test (kind_at i.ahead) ≡ true → read.argument (read.expr (suc d)) given i ≡ Ok (read.arguments_of args keys, input (g.behind_argument_text b rest) front)
      → read.arguments_from (read.expr (suc d)) (suc n) given i ≡ Ok (read.arguments_of (args ++ g.behind_positional_list b) (keys ++ g.behind_keyword_list b), input rest front)
  behind_argument_complete g.argument_end n d given args keys i rest front same le ld h free starts e =
      Forward.arguments_last (read.expr (suc d)) n given (read.arguments_of args keys) i rest front starts e (no_comma_at rest front h)
      ∙ ap (λ (xs : List Expr). Ok (read.arguments_of xs keys, input rest front)) (sym (append-nil args))
      ∙ ap (λ (xs : List (List ℕ × Expr)). Ok (read.arguments_of (args ++ []) xs, input rest front)) (sym (append-nil keys))
  behind_argument_complete (g.argument_comma l gs) n d given args keys i rest front same le ld h free starts e =
      Forward.arguments_then (read.expr (suc d)) n given (read.arguments_of args keys) i l (g.arguments_text gs rest) front starts e
      ∙ arguments_complete gs n d args keys rest front same (omega arith) (omega arith) h free

  pub members_complete : (m : g.Members) (d : ℕ) (rest : List Token) (front : ℕ) → length (g.members_text m rest) ≤ d → 14 ≤ rank rest → read.members (read.expr (suc d) rule.Test) (input (g.members_text m rest) front) ≡ Ok ((g.members_list m, g.members_comma m), input rest front)
  members_complete (g.listed t cs) d rest front le h =
      let k = test_grows t (g.commas_text cs rest) in
      let first = Forward.expr_test d (input (g.test_text t (g.commas_text cs rest)) front) ∙ test_complete t d (g.commas_text cs rest) front le (commas_rank cs rest h) in
      let some : length (g.test_text t (g.commas_text cs rest)) ≡ suc (length (g.test_text t (g.commas_text cs rest)) - 1) = omega arith in
      Forward.members_turns (read.expr (suc d) rule.Test) (input (g.test_text t (g.commas_text cs rest)) front) (suc (length (g.test_text t (g.commas_text cs rest)) - 1)) (Ok ((g.test_tree t ∷ g.commas_list cs, g.commas_last cs), input rest front)) some
      (commas_complete cs (length (g.test_text t (g.commas_text cs rest)) - 1) d [] (input (g.test_text t (g.commas_text cs rest)) front) (g.test_tree t) rest front (omega arith) (omega arith) h first)

  pub commas_complete : (cs : g.Commas) (n d : ℕ) (found : List Expr) (i : Input) (x : Expr) (rest : List Token) (front : ℕ) → length (g.commas_text cs rest) ≤ n → length (g.commas_text cs rest) ≤ d → 14 ≤ rank rest → read.expr (suc d) rule.Test i ≡ Ok (x, input (g.commas_text cs rest) front)
      → read.members_from (read.expr (suc d) rule.Test) (suc n) found i ≡ Ok ((found ++ x ∷ g.commas_list cs, g.commas_last cs), input rest front)
  commas_complete g.no_comma n d found i x rest front le ld h e = Forward.members_end (read.expr (suc d) rule.Test) n found i x rest front e (no_comma_at rest front h)
  commas_complete (g.last_comma l) n d found i x rest front le ld h e = Forward.members_last (read.expr (suc d) rule.Test) n found i x l rest front e (no_test_at rest h)
  commas_complete (g.comma l t cs) zero d found i x rest front le ld h e = absurd (omega arith)
  commas_complete (g.comma l t cs) (suc n) d found i x rest front le ld h e =
      let k = test_grows t (g.commas_text cs rest) in
      let first = Forward.expr_test d (input (g.test_text t (g.commas_text cs rest)) front) ∙ test_complete t d (g.commas_text cs rest) front (omega arith) (commas_rank cs rest h) in
      Forward.members_then (read.expr (suc d) rule.Test) (suc n) found i x l (g.test_text t (g.commas_text cs rest)) front e (test_starts t (g.commas_text cs rest))
      ∙ commas_complete cs n d (found ++ x ∷ []) (input (g.test_text t (g.commas_text cs rest)) front) (g.test_tree t) rest front (omega arith) (omega arith) h first
      ∙ ap (λ (xs : List Expr). Ok ((xs, g.commas_last cs), input rest front)) (append_assoc found (x ∷ []) (g.test_tree t ∷ g.commas_list cs))

  pub test_complete : (t : g.Test) (d : ℕ) (rest : List Token) (front : ℕ) → length (g.test_text t rest) ≤ d → 13 ≤ rank rest → read.whole_test (read.expr d) (input (g.test_text t rest) front) ≡ Ok (g.test_tree t, input rest front)
  test_complete (g.plain o) d rest front le h = Forward.test_plain (read.expr d) (input (g.or_text o rest) front) (g.or_tree o) rest front (or_complete o d rest front le (omega arith)) h
  test_complete (g.conditional o l c r t) zero rest front le h = let k = or_grows o (at l (tok.Word word.If) ∷ g.or_text c (at r (tok.Word word.Else) ∷ g.test_text t rest)) in absurd (omega arith)
  test_complete (g.conditional o l c r t) (suc d) rest front le h =
      let k = or_grows o (at l (tok.Word word.If) ∷ g.or_text c (at r (tok.Word word.Else) ∷ g.test_text t rest)) in
      let m = or_grows c (at r (tok.Word word.Else) ∷ g.test_text t rest) in
      let asked = g.or_text c (at r (tok.Word word.Else) ∷ g.test_text t rest) in
      Forward.test_conditional (read.expr (suc d)) (input (g.or_text o (at l (tok.Word word.If) ∷ asked)) front) (g.or_tree o) (g.or_tree c) (g.test_tree t) l r asked (g.test_text t rest) front (input rest front)
      (or_complete o (suc d) (at l (tok.Word word.If) ∷ g.or_text c (at r (tok.Word word.Else) ∷ g.test_text t rest)) front le (omega arith))
      (or_complete c (suc d) (at r (tok.Word word.Else) ∷ g.test_text t rest) front (omega arith) (omega arith))
      (Forward.expr_test d (input (g.test_text t rest) front) ∙ test_complete t d rest front (omega arith) h)

  pub or_complete : (o : g.OrTest) (d : ℕ) (rest : List Token) (front : ℕ) → length (g.or_text o rest) ≤ d → 12 ≤ rank rest → read.or_test (read.expr d) (input (g.or_text o rest) front) ≡ Ok (g.or_tree o, input rest front)
  or_complete (g.or_test a os) d rest front le h =
      let k = and_grows a (g.or_more_text os rest) in
      or_is (read.expr d) (input (g.and_text a (g.or_more_text os rest)) front)
      ∙ Forward.junction_by (read.and_test (read.expr d)) word.Or ex.Or (input (g.and_text a (g.or_more_text os rest)) front) (input (g.or_more_text os rest) front) (input rest front) (g.and_tree a) (g.and_tree a ∷ g.or_list os)
      (and_complete a d (g.or_more_text os rest) front le (or_more_rank os rest h))
      (or_more_complete os (length (g.or_more_text os rest)) d (g.and_tree a ∷ []) rest front (omega arith) (omega arith) h)

  pub or_more_complete : (os : g.OrMore) (n d : ℕ) (found : List Expr) (rest : List Token) (front : ℕ) → length (g.or_more_text os rest) ≤ n → length (g.or_more_text os rest) ≤ d → 12 ≤ rank rest
      → read.operands_from (read.and_test (read.expr d)) word.Or n found (input (g.or_more_text os rest) front) ≡ Ok (found ++ g.or_list os, input rest front)
  or_more_complete g.no_or n d found rest front le ld h = Forward.operands_end (read.and_test (read.expr d)) word.Or n found rest front (no_or_at rest front h) ∙ ap (λ (xs : List Expr). Ok (xs, input rest front)) (sym (append-nil found))
  or_more_complete (g.or_more l a os) zero d found rest front le ld h = absurd (omega arith)
  or_more_complete (g.or_more l a os) (suc n) d found rest front le ld h =
      let k = and_grows a (g.or_more_text os rest) in
      Forward.operands_then (read.and_test (read.expr d)) word.Or n found (at l (tok.Word word.Or)) (g.and_text a (g.or_more_text os rest)) front (g.and_tree a) (input (g.or_more_text os rest) front)
      (sees_or l (g.and_text a (g.or_more_text os rest)) front) (and_complete a d (g.or_more_text os rest) front (omega arith) (or_more_rank os rest h))
      ∙ or_more_complete os n d (found ++ g.and_tree a ∷ []) rest front (omega arith) (omega arith) h
      ∙ ap (λ (xs : List Expr). Ok (xs, input rest front)) (append_assoc found (g.and_tree a ∷ []) (g.or_list os))

  pub and_complete : (a : g.AndTest) (d : ℕ) (rest : List Token) (front : ℕ) → length (g.and_text a rest) ≤ d → 11 ≤ rank rest → read.and_test (read.expr d) (input (g.and_text a rest) front) ≡ Ok (g.and_tree a, input rest front)
  and_complete (g.and_test m ns) d rest front le h =
      let k = not_grows m (g.and_more_text ns rest) in
      and_is (read.expr d) (input (g.not_text m (g.and_more_text ns rest)) front)
      ∙ Forward.junction_by (read.not_test (read.expr d)) word.And ex.And (input (g.not_text m (g.and_more_text ns rest)) front) (input (g.and_more_text ns rest) front) (input rest front) (g.not_tree m) (g.not_tree m ∷ g.and_list ns)
      (not_complete m d (g.and_more_text ns rest) front le (and_more_rank ns rest h))
      (and_more_complete ns (length (g.and_more_text ns rest)) d (g.not_tree m ∷ []) rest front (omega arith) (omega arith) h)

  pub and_more_complete : (ns : g.AndMore) (n d : ℕ) (found : List Expr) (rest : List Token) (front : ℕ) → length (g.and_more_text ns rest) ≤ n → length (g.and_more_text ns rest) ≤ d → 11 ≤ rank rest
      → read.operands_from (read.not_test (read.expr d)) word.And n found (input (g.and_more_text ns rest) front) ≡ Ok (found ++ g.and_list ns, input rest front)
  and_more_complete g.no_and n d found rest front le ld h = Forward.operands_end (read.not_test (read.expr d)) word.And n found rest front (no_and_at rest front h) ∙ ap (λ (xs : List Expr). Ok (xs, input rest front)) (sym (append-nil found))
  and_more_complete (g.and_more l m ns) zero d found rest front le ld h = absurd (omega arith)
  and_more_complete (g.and_more l m ns) (suc n) d found rest front le ld h =
      let k = not_grows m (g.and_more_text ns rest) in
      Forward.operands_then (read.not_test (read.expr d)) word.And n found (at l (tok.Word word.And)) (g.not_text m (g.and_more_text ns rest)) front (g.not_tree m) (input (g.and_more_text ns rest) front)
      (sees_and l (g.not_text m (g.and_more_text ns rest)) front) (not_complete m d (g.and_more_text ns rest) front (omega arith) (and_more_rank ns rest h))
      ∙ and_more_complete ns n d (found ++ g.not_tree m ∷ []) rest front (omega arith) (omega arith) h
      ∙ ap (λ (xs : List Expr). Ok (xs, input rest front)) (append_assoc found (g.not_tree m ∷ []) (g.and_list ns))

  pub not_complete : (m : g.NotTest) (d : ℕ) (rest : List Token) (front : ℕ) → length (g.not_text m rest) ≤ d → 10 ≤ rank rest → read.not_test (read.expr d) (input (g.not_text m rest) front) ≡ Ok (g.not_tree m, input rest front)
  not_complete (g.negated l m) zero rest front le h = absurd (omega arith)
  not_complete (g.negated l m) (suc d) rest front le h =
      Forward.not_negated (read.expr (suc d)) l (g.not_text m rest) front (g.not_tree m) (input rest front) (Forward.expr_not d (input (g.not_text m rest) front) ∙ not_complete m d rest front (omega arith) h)
  not_complete (g.compare s cs) d rest front le h =
      let k = sum_grows s (g.comparisons_text cs rest) in
      Forward.not_compare (read.expr d) (g.sum_text s (g.comparisons_text cs rest)) front (Ok (read.compared (g.sum_tree s) (g.comparisons_list cs), input rest front)) (sum_starts s (g.comparisons_text cs rest))
      (Forward.compare_by (read.expr d) (input (g.sum_text s (g.comparisons_text cs rest)) front) (input (g.comparisons_text cs rest) front) (input rest front) (g.sum_tree s) (g.comparisons_list cs)
      (sum_complete s d (g.comparisons_text cs rest) front le (comparisons_rank cs rest h))
      (comparisons_complete cs (length (g.comparisons_text cs rest)) d [] rest front (omega arith) (omega arith) h))

  pub comparisons_complete : (cs : g.Comparisons) (n d : ℕ) (found : List (CompareOp × Expr)) (rest : List Token) (front : ℕ) → length (g.comparisons_text cs rest) ≤ n → length (g.comparisons_text cs rest) ≤ d → 10 ≤ rank rest
      → read.comparisons (read.expr d) n found (input (g.comparisons_text cs rest) front) ≡ Ok (found ++ g.comparisons_list cs, input rest front)
  comparisons_complete g.no_comparison n d found rest front le ld h = Forward.no_comparison_left (read.expr d) n found rest front h ∙ ap (λ (xs : List (CompareOp × Expr)). Ok (xs, input rest front)) (sym (append-nil found))
  comparisons_complete (g.comparing c s cs) zero d found rest front le ld h = let m = comparison_grows c (g.sum_text s (g.comparisons_text cs rest)) in absurd (omega arith)
  comparisons_complete (g.comparing c s cs) (suc n) d found rest front le ld h =
      let k = sum_grows s (g.comparisons_text cs rest) in
      let m = comparison_grows c (g.sum_text s (g.comparisons_text cs rest)) in
      let one : CompareOp × Expr = (g.comparison_tree c, g.sum_tree s) in
      Forward.comparison_then (read.expr d) n found (input (g.comparison_text c (g.sum_text s (g.comparisons_text cs rest))) front) (input (g.sum_text s (g.comparisons_text cs rest)) front) (input (g.comparisons_text cs rest) front) (g.comparison_tree c) (g.sum_tree s)
      (Forward.compare_op_then c (g.sum_text s (g.comparisons_text cs rest)) front (sum_starts s (g.comparisons_text cs rest)))
      (sum_complete s d (g.comparisons_text cs rest) front (omega arith) (comparisons_rank cs rest h))
      ∙ comparisons_complete cs n d (found ++ one ∷ []) rest front (omega arith) (omega arith) h
      ∙ ap (λ (xs : List (CompareOp × Expr)). Ok (xs, input rest front)) (append_assoc found (one ∷ []) (g.comparisons_list cs))

  pub sum_complete : {level : ℕ} (s : g.Sum level) (d : ℕ) (rest : List Token) (front : ℕ) → length (g.sum_text s rest) ≤ d → level + 3 ≤ rank rest → read.sum (read.expr d) level (input (g.sum_text s rest) front) ≡ Ok (g.sum_tree s, input rest front)
  sum_complete (g.operand f) d rest front le h = Forward.sum_operand (read.expr d) (input (g.factor_text f rest) front) ∙ factor_complete f d rest front le h
  sum_complete {level = suc level} (g.grouped s c) d rest front le h =
      let k = sum_grows s (g.chain_text c rest) in
      Forward.sum_grouped (read.expr d) level (input (g.sum_text s (g.chain_text c rest)) front) (input (g.chain_text c rest) front) (g.sum_tree s) (Ok (g.chain_tree c (g.sum_tree s), input rest front))
      (sum_complete s d (g.chain_text c rest) front le (chain_rank c rest (omega arith)))
      (chain_complete c (length (g.chain_text c rest)) d (g.sum_tree s) rest front (omega arith) (omega arith) (omega arith))

  pub chain_complete : {level : ℕ} (c : g.Chain level) (n d : ℕ) (left : Expr) (rest : List Token) (front : ℕ) → length (g.chain_text c rest) ≤ n → length (g.chain_text c rest) ≤ d → level + 4 ≤ rank rest
      → read.chain (read.sum (read.expr d) level) (suc level) n left (input (g.chain_text c rest) front) ≡ Ok (g.chain_tree c left, input rest front)
  chain_complete {level = level} g.no_operator n d left rest front le ld h = Forward.no_operator_left (read.sum (read.expr d) level) level n left rest front h
  chain_complete (g.operated l kind how e s c) zero d left rest front le ld h = absurd (omega arith)
  chain_complete {level = level} (g.operated l kind how e s c) (suc n) d left rest front le ld h =
      let k = sum_grows s (g.chain_text c rest) in
      Forward.operator_then (read.sum (read.expr d) level) level n left l kind how (g.sum_text s (g.chain_text c rest)) front (g.sum_tree s) (input (g.chain_text c rest) front) e (sum_complete s d (g.chain_text c rest) front (omega arith) (chain_rank c rest h))
      ∙ chain_complete c n d (ex.Binary how left (g.sum_tree s)) rest front (omega arith) (omega arith) h

pub primary_complete : (a : g.Atom) (ts : g.Trailers) (d : ℕ) (rest : List Token) (front : ℕ) → length (g.atom_text a (g.trailers_text ts rest)) ≤ d → 2 ≤ rank rest
    → read.primary (read.expr d) (input (g.atom_text a (g.trailers_text ts rest)) front) ≡ Ok (g.trailers_tree ts (g.atom_tree a), input rest front)
primary_complete a ts d rest front le h =
    let k = atom_grows a (g.trailers_text ts rest) in
    Forward.primary_by (read.expr d) (input (g.atom_text a (g.trailers_text ts rest)) front) (input (g.trailers_text ts rest) front) (g.atom_tree a) (Ok (g.trailers_tree ts (g.atom_tree a), input rest front))
    (atom_complete a d (g.trailers_text ts rest) front le (strings_rank ts rest h))
    (trailers_complete ts (length (g.trailers_text ts rest)) d (g.atom_tree a) rest front (omega arith) (omega arith) h)
