-- What is read is read by the grammar.
use Rattle.std.proofs.Common.{◌≡◌, ℕ, zero, suc, Bool, true, false, cond, List, [], ◌∷◌, ◌++◌, length, Option, Some, None, refl, sym, ap, ◌∙◌, append_assoc, ◌⊎◌, inl, inr}
use Rattle.std.proofs.lemmas.List.{append-nil}
use Rattle.py_tokens.specs.declared.token.Token.{Token}
use Rattle.py_tokens.specs.declared.token.Tok.{Tok}
use Rattle.py_tokens.specs.declared.token.Tok.TheVariants as tok
use Rattle.py_tokens.specs.declared.word.Word.TheVariants as word
use Rattle.py_tokens.specs.declared.operator.Op.TheVariants as op
use Rattle.py_tree.specs.declared.expr.Expr.{Expr}
use Rattle.py_tree.specs.declared.expr.Expr.TheVariants as ex
use Rattle.py_tree.specs.declared.expr.UnaryOp.{UnaryOp}
use Rattle.py_tree.specs.declared.expr.BinaryOp.{BinaryOp}
use Rattle.py_tree.specs.declared.expr.BinaryOp.TheVariants as binary
use Rattle.py_tree.specs.declared.expr.CompareOp.{CompareOp}
use Rattle.py_tree.specs.declared.expr.CompareOp.TheVariants as compares
use Rattle.py_expressions.specs.declared.cursor.Mark.{Mark}
use Rattle.py_expressions.specs.declared.cursor.Mark.TheVariants as mark
use Rattle.py_expressions.specs.declared.grammar.Rule.{Rule}
use Rattle.py_expressions.specs.declared.grammar.Rule.TheVariants as rule
use Rattle.py_expressions.specs.declared.calls.Arguments.{Arguments}
use Rattle.py_expressions.specs.Input.{Input, Place, at, Outcome, Parser, and_then, ◌>>=◌, pure, kind_at, sees, after, expect, name, next}
use Rattle.py_expressions.specs.Grammar as g
use Rattle.py_expressions.specs.Reading as read
use Rattle.py_expressions.specs.Laws.{input, Found, Sound}
use Rattle.py_expressions.proofs.Steps.{done, bind_ok, done_is, no_err, chosen, tok_of, taken, after_false, expect_ok, name_sound, named_anew}
use Rattle.py_expressions.proofs.Tables.{operator_there, sign_there}
use Rattle.py_expressions.proofs.Complete.{names_snoc}

abbrev place : Token → Place
place t = record { at = t.at; end = t.end; line = t.line }

abbrev pub listed_both : g.Members → read.Listed
listed_both m = (g.members_list m, g.members_comma m)

abbrev pub inside_both : g.Inside → read.Listed
inside_both m = (g.inside_list m, g.inside_comma m)

-- ---- members

-- one more member in front
member_before : Place → g.Test → g.Members → g.Members
member_before l t (g.listed u cs) = g.listed t (g.comma l u cs)

member_before_text : (l : Place) (t : g.Test) (m : g.Members) (rest : List Token) → g.members_text (member_before l t m) rest ≡ g.test_text t (at l (tok.Op op.Comma) ∷ g.members_text m rest)
unfolding member_before
member_before_text l t (g.listed u cs) rest = refl

abbrev with_found : List Expr → g.Members → read.Listed
with_found found m = (found ++ g.members_list m, g.members_comma m)

member_before_both : (l : Place) (t : g.Test) (m : g.Members) (found : List Expr) → with_found found (member_before l t m) ≡ with_found (found ++ g.test_tree t ∷ []) m
unfolding member_before
member_before_both l t (g.listed u cs) found = ap (λ (xs : List Expr). (xs, g.commas_last cs)) (sym (append_assoc found (g.test_tree t ∷ []) (g.test_tree u ∷ g.commas_list cs)))

module _ (item : Parser Expr) (item_sound : Sound g.test_text g.test_tree item) where
  members_from_sound : (n : ℕ) (found : List Expr) → Sound g.members_text (with_found found) (read.members_from item n found)
  unfolding read.members_from
  members_from_sound zero found i x j e = absurd (no_err i.front x j e)
  members_from_sound (suc n) found i x j e =
      let b = bind_ok (item i) _ x j e in
      let t = item_sound i b.0 b.1 b.2 in
      elim (chosen (sees (mark.Op op.Comma) b.1) _ _ (after (mark.Op op.Comma) b.1) (done x j) b.3) [
        | inl w ↦
            let c = taken (mark.Op op.Comma) b.1 w.0 in
            let to_comma : i.ahead ≡ g.test_text t.reading (at c.0 (tok.Op op.Comma) ∷ (after (mark.Op op.Comma) b.1).ahead) = t.spelled ∙ ap (g.test_text t.reading) c.1 in
            elim (chosen (read.begins_test (kind_at (after (mark.Op op.Comma) b.1).ahead)) _ _ (after (mark.Op op.Comma) b.1) (done x j) w.1) [
              | inl v ↦
                  let f = members_from_sound n (found ++ b.0 ∷ []) (after (mark.Op op.Comma) b.1) x j v.1 in
                  record {
                    reading = member_before c.0 t.reading f.reading;
                    spelled = to_comma ∙ ap (λ q. g.test_text t.reading (at c.0 (tok.Op op.Comma) ∷ q)) f.spelled ∙ sym (member_before_text c.0 t.reading f.reading j.ahead);
                    is = member_before_both c.0 t.reading f.reading found ∙ ap (λ h. with_found (found ++ h ∷ []) f.reading) t.is ∙ f.is;
                    kept = t.kept ∙ c.2 ∙ f.kept;
                  }
              | inr v ↦ named_anew g.members_text (with_found found) i (found ++ b.0 ∷ [], true) x (after (mark.Op op.Comma) b.1) j v.1
                  (record { reading = g.listed t.reading (g.last_comma c.0); spelled = to_comma; is = ap (λ h. (found ++ h ∷ [], true)) t.is; kept = t.kept ∙ c.2 })
            ]
        | inr w ↦
            let a = after_false (mark.Op op.Comma) b.1 w.0 in
            named_anew g.members_text (with_found found) i (found ++ b.0 ∷ [], false) x (after (mark.Op op.Comma) b.1) j w.1
            (record { reading = g.listed t.reading g.no_comma; spelled = t.spelled ∙ ap (λ (m : Input). g.test_text t.reading m.ahead) (sym a); is = ap (λ h. (found ++ h ∷ [], false)) t.is; kept = t.kept ∙ ap (λ (m : Input). m.front) (sym a) })
      ]

  pub members_sound : Sound g.members_text listed_both (read.members item)
  unfolding read.members
  members_sound i x j e = let f = members_from_sound (length i.ahead) [] i x j e in record { reading = f.reading; spelled = f.spelled; is = f.is; kept = f.kept }

-- ---- strings

strings_by_sound : (go : List ℕ → Parser (List ℕ)) → ((found : List ℕ) → Sound g.strings_text (λ ss. found ++ g.strings_tree ss) (go found)) → (found : List ℕ) (kind : Tok) (t : Token) (ts : List Token) (front : ℕ) (x : List ℕ) (j : Input) → t.kind ≡ kind
    → read.strings_by go found kind (input (t ∷ ts) front) ≡ done x j → Found g.strings_text (λ ss. found ++ g.strings_tree ss) (input (t ∷ ts) front) x j
strings_by_sound go sound found (tok.Str text) t ts front x j is e =
    let f = sound (found ++ text) (input ts front) x j e in
    record {
      reading = g.string (place t) text f.reading;
      spelled = ap (λ q. at (place t) q ∷ ts) is ∙ ap (λ q. at (place t) (tok.Str text) ∷ q) f.spelled;
      is = sym (append_assoc found text (g.strings_tree f.reading)) ∙ f.is;
      kept = f.kept;
    }
strings_by_sound go sound found _ t ts front x j is e = named_anew g.strings_text (λ ss. found ++ g.strings_tree ss) (input (t ∷ ts) front) found x (input (t ∷ ts) front) j e (record { reading = g.no_string; spelled = refl; is = append-nil found; kept = refl })

strings_at_sound : (go : List ℕ → Parser (List ℕ)) → ((found : List ℕ) → Sound g.strings_text (λ ss. found ++ g.strings_tree ss) (go found)) → (found : List ℕ) (ts : List Token) (front : ℕ) (x : List ℕ) (j : Input)
    → read.strings_by go found (kind_at ts) (input ts front) ≡ done x j → Found g.strings_text (λ ss. found ++ g.strings_tree ss) (input ts front) x j
strings_at_sound go sound found [] front x j e = named_anew g.strings_text (λ ss. found ++ g.strings_tree ss) (input [] front) found x (input [] front) j e (record { reading = g.no_string; spelled = refl; is = append-nil found; kept = refl })
strings_at_sound go sound found (t ∷ ts) front x j e = strings_by_sound go sound found t.kind t ts front x j refl e

pub strings_sound : (n : ℕ) (found : List ℕ) → Sound g.strings_text (λ ss. found ++ g.strings_tree ss) (read.strings n found)
unfolding read.strings
strings_sound zero found i x j e = named_anew g.strings_text (λ ss. found ++ g.strings_tree ss) i found x i j e (record { reading = g.no_string; spelled = refl; is = append-nil found; kept = refl })
strings_sound (suc n) found i x j e = strings_at_sound (read.strings n) (λ more. strings_sound n more) found i.ahead i.front x j e

first_string : (t : Token) (ts : List Token) (front : ℕ) (text : List ℕ) → t.kind ≡ tok.Str text → read.all_strings (input (t ∷ ts) front) ≡ read.strings (length ts) text (input ts front)
unfolding read.all_strings read.strings
first_string t ts front text is = rw is refl

-- ---- the operators of comparisons

-- no comparison comes next, or it was read
abbrev pub ReadsComparison : Input → Option CompareOp → Input → Type 0
ReadsComparison i o j = ((o ≡ None) × (i ≡ j)) ⊎ ((c : g.Comparison) × (o ≡ Some (g.comparison_tree c)) × (i.ahead ≡ g.comparison_text c j.ahead) × (i.front ≡ j.front))

alone_sound : (kind : Tok) (o : Option CompareOp) (t : Token) (ts : List Token) (front : ℕ) (x : Option CompareOp) (j : Input) → t.kind ≡ kind → read.comparison kind ≡ o
    → read.compare_op_with o (input (t ∷ ts) front) ≡ done x j → ReadsComparison (input (t ∷ ts) front) x j
alone_sound kind None t ts front x j is h e = let d = done_is None x (input (t ∷ ts) front) j e in inl (sym d.0, d.1)
alone_sound kind (Some how) t ts front x j is h e =
    let d = done_is (Some how) x (input ts front) j e in
    inr (g.alone (place t) kind how h, sym d.0, ap (λ q. at (place t) q ∷ ts) is ∙ ap (λ (q : Input). at (place t) kind ∷ q.ahead) d.1, ap (λ (q : Input). q.front) d.1)

is_sound : (t : Token) (ts : List Token) (front : ℕ) (x : Option CompareOp) (j : Input) (b : Bool) → t.kind ≡ tok.Word word.Is → sees (mark.Word word.Not) (input ts front) ≡ b
    → done (Some (cond b compares.IsNot compares.Is)) (after (mark.Word word.Not) (input ts front)) ≡ done x j → ReadsComparison (input (t ∷ ts) front) x j
is_sound t ts front x j true is h e =
    let d = done_is (Some compares.IsNot) x (after (mark.Word word.Not) (input ts front)) j e in
    let n = taken (mark.Word word.Not) (input ts front) h in
    inr (g.is_not (place t) n.0, sym d.0, ap (λ q. at (place t) q ∷ ts) is ∙ ap (λ q. at (place t) (tok.Word word.Is) ∷ q) (n.1 ∙ ap (λ (q : Input). at n.0 (tok.Word word.Not) ∷ q.ahead) d.1), n.2 ∙ ap (λ (q : Input). q.front) d.1)
is_sound t ts front x j false is h e =
    let d = done_is (Some compares.Is) x (after (mark.Word word.Not) (input ts front)) j e in
    let a = sym (after_false (mark.Word word.Not) (input ts front) h) ∙ d.1 in
    inr (g.is_ (place t), sym d.0, ap (λ q. at (place t) q ∷ ts) is ∙ ap (λ (q : Input). at (place t) (tok.Word word.Is) ∷ q.ahead) a, ap (λ (q : Input). q.front) a)

compare_op_by_sound : (kind : Tok) (t : Token) (ts : List Token) (front : ℕ) (x : Option CompareOp) (j : Input) → t.kind ≡ kind → read.compare_op_by kind (input (t ∷ ts) front) ≡ done x j → ReadsComparison (input (t ∷ ts) front) x j
compare_op_by_sound (tok.Word word.Not) t ts front x j is e =
    let b = bind_ok (expect (mark.Word word.In) (input ts front)) _ x j e in
    let r = expect_ok (mark.Word word.In) (input ts front) b.1 b.0 b.2 in
    let d = done_is (Some compares.NotIn) x b.1 j b.3 in
    inr (g.not_in (place t) r.0, sym d.0, ap (λ q. at (place t) q ∷ ts) is ∙ ap (λ q. at (place t) (tok.Word word.Not) ∷ q) (r.1 ∙ ap (λ (q : Input). at r.0 (tok.Word word.In) ∷ q.ahead) d.1), r.2 ∙ ap (λ (q : Input). q.front) d.1)
compare_op_by_sound (tok.Word word.Is) t ts front x j is e = is_sound t ts front x j (sees (mark.Word word.Not) (input ts front)) is refl e
compare_op_by_sound kind t ts front x j is e = alone_sound kind (read.comparison kind) t ts front x j is refl e

pub compare_op_sound : (i : Input) (x : Option CompareOp) (j : Input) → read.compare_op i ≡ done x j → ReadsComparison i x j
unfolding read.compare_op
compare_op_sound i x j e = go i.ahead e
  where
    go : (ts : List Token) → read.compare_op_by (kind_at ts) (input ts i.front) ≡ done x j → ReadsComparison (input ts i.front) x j
    go [] e = let d = done_is None x (input [] i.front) j e in inl (sym d.0, d.1)
    go (t ∷ ts) e = compare_op_by_sound t.kind t ts i.front x j refl e

-- ---- choices by a table

operated_or : (o : Option BinaryOp) (go : Expr → Parser Expr) (left : Expr) (operand : Parser Expr) (level : ℕ) (i : Input) (r : Outcome Expr) → read.chain_by operand level go left o i ≡ r
    → ((how : BinaryOp) × (o ≡ Some how) × (and_then (operand (next i)) (λ right. go (ex.Binary how left right)) ≡ r)) ⊎ (done left i ≡ r)
operated_or None go left operand level i r e = inr e
operated_or (Some how) go left operand level i r e = inl (how, refl, e)

signed_or : (o : Option UnaryOp) (inner : Rule → Parser Expr) (i : Input) (r : Outcome Expr) → read.factor_by inner o i ≡ r
    → ((how : UnaryOp) × (o ≡ Some how) × (and_then (inner rule.Factor (next i)) (λ x. pure (ex.Unary how x)) ≡ r)) ⊎ (read.power inner i ≡ r)
signed_or None inner i r e = inr e
signed_or (Some how) inner i r e = inl (how, refl, e)

-- ---- readings of parts

-- whether there is one
abbrev pub has_trailer : g.Trailers → Bool
has_trailer g.no_trailer = false
has_trailer _ = true

-- a trailer, for any further ones
pub record Grows (left : Expr) (i : Input) (x : Expr) (j : Input) : Type 0 where
  pub more : g.Trailers → g.Trailers
  pub some : (ts : g.Trailers) → has_trailer (more ts) ≡ true
  pub spelled : (ts : g.Trailers) (rest : List Token) → j.ahead ≡ g.trailers_text ts rest → i.ahead ≡ g.trailers_text (more ts) rest
  pub is : (ts : g.Trailers) → g.trailers_tree (more ts) left ≡ g.trailers_tree ts x
  pub kept : i.front ≡ j.front

-- an argument, for any further ones
pub record GrowsArguments (names : List (List ℕ)) (given : Arguments) (i : Input) (more : Arguments) (j : Input) : Type 0 where
  pub behind : List (List ℕ)
  pub same : read.names more.keys ≡ behind
  pub add : g.BehindArgument behind → g.Arguments names
  pub spelled : (b : g.BehindArgument behind) (rest : List Token) → j.ahead ≡ g.behind_argument_text b rest → i.ahead ≡ g.arguments_text (add b) rest
  pub is : (b : g.BehindArgument behind) → read.arguments_of (given.args ++ g.positional_list (add b)) (given.keys ++ g.keyword_list (add b)) ≡ read.arguments_of (more.args ++ g.behind_positional_list b) (more.keys ++ g.behind_keyword_list b)
  pub kept : i.front ≡ j.front

abbrev pub PairReading : Type 0
PairReading = g.Test × Place × g.Test

abbrev pub pair_text : PairReading → List Token → List Token
pair_text p rest = g.test_text p.0 (at p.1 (tok.Op op.Colon) ∷ g.test_text p.2 rest)

abbrev pub pair_tree : PairReading → Expr × Expr
pair_tree p = (g.test_tree p.0, g.test_tree p.2)

abbrev pub Primary : Type 0
Primary = g.Atom × g.Trailers

abbrev pub primary_text : Primary → List Token → List Token
primary_text p rest = g.atom_text p.0 (g.trailers_text p.1 rest)

abbrev pub primary_tree : Primary → Expr
primary_tree p = g.trailers_tree p.1 (g.atom_tree p.0)

abbrev pub given_of : {names : List (List ℕ)} → Arguments → g.Arguments names → Arguments
given_of given gs = read.arguments_of (given.args ++ g.positional_list gs) (given.keys ++ g.keyword_list gs)

module _ (inner : Rule → Parser Expr) (test_sound : Sound g.test_text g.test_tree (inner rule.Test)) (nested_not_sound : Sound g.not_text g.not_tree (inner rule.NotTest)) (factor_sound : Sound g.factor_text g.factor_tree (inner rule.Factor)) where
  -- ---- brackets

  pub some_members_sound : Sound g.inside_text inside_both (read.some_members inner)
  unfolding read.some_members
  some_members_sound i x j e =
      elim (chosen (read.begins_test (kind_at i.ahead)) _ _ i (done x j) e) [
        | inl w ↦ let f = members_sound (inner rule.Test) test_sound i x j w.1 in record { reading = g.inside f.reading; spelled = f.spelled; is = f.is; kept = f.kept }
        | inr w ↦ named_anew g.inside_text inside_both i ([], false) x i j w.1 (record { reading = g.nothing; spelled = refl; is = refl; kept = refl })
      ]

  pub pair_sound : Sound pair_text pair_tree (read.pair inner)
  unfolding read.pair
  pair_sound i x j e =
      let b = bind_ok (inner rule.Test i) _ x j e in
      let k = test_sound i b.0 b.1 b.2 in
      let c = bind_ok (expect (mark.Op op.Colon) b.1) _ x j b.3 in
      let r = expect_ok (mark.Op op.Colon) b.1 c.1 c.0 c.2 in
      let d = bind_ok (inner rule.Test c.1) _ x j c.3 in
      let v = test_sound c.1 d.0 d.1 d.2 in
      let both : Expr × Expr = (b.0, d.0) in
      named_anew pair_text pair_tree i both x d.1 j d.3
      (record {
        reading = (k.reading, r.0, v.reading);
        spelled = k.spelled ∙ ap (g.test_text k.reading) (r.1 ∙ ap (λ q. at r.0 (tok.Op op.Colon) ∷ q) v.spelled);
        is = ap (λ (q : Expr). (q, g.test_tree v.reading)) k.is ∙ ap (λ (q : Expr). (b.0, q)) v.is;
        kept = k.kept ∙ r.2 ∙ v.kept;
      })

  pairs_from_sound : (n : ℕ) (found : List (Expr × Expr)) → Sound g.pairs_text (λ ps. found ++ g.pairs_list ps) (read.pairs_from inner n found)
  unfolding read.pairs_from
  pairs_from_sound zero found i x j e = named_anew g.pairs_text (λ ps. found ++ g.pairs_list ps) i found x i j e (record { reading = g.no_pair; spelled = refl; is = append-nil found; kept = refl })
  pairs_from_sound (suc n) found i x j e =
      elim (chosen (read.begins_test (kind_at i.ahead)) _ _ i (done x j) e) [
        | inl u ↦
            let b = bind_ok (read.pair inner i) _ x j u.1 in
            let p = pair_sound i b.0 b.1 b.2 in
            elim (chosen (sees (mark.Op op.Comma) b.1) _ _ (after (mark.Op op.Comma) b.1) (done x j) b.3) [
              | inl w ↦
                  let c = taken (mark.Op op.Comma) b.1 w.0 in
                  let f = pairs_from_sound n (found ++ b.0 ∷ []) (after (mark.Op op.Comma) b.1) x j w.1 in
                  record {
                    reading = g.pair p.reading.0 p.reading.1 p.reading.2 (g.pair_comma c.0 f.reading);
                    spelled = p.spelled ∙ ap (pair_text p.reading) (c.1 ∙ ap (λ q. at c.0 (tok.Op op.Comma) ∷ q) f.spelled);
                    is = ap (λ q. found ++ q ∷ g.pairs_list f.reading) p.is ∙ sym (append_assoc found (b.0 ∷ []) (g.pairs_list f.reading)) ∙ f.is;
                    kept = p.kept ∙ c.2 ∙ f.kept;
                  }
              | inr w ↦
                  let a = after_false (mark.Op op.Comma) b.1 w.0 in
                  named_anew g.pairs_text (λ ps. found ++ g.pairs_list ps) i (found ++ b.0 ∷ []) x (after (mark.Op op.Comma) b.1) j w.1
                  (record { reading = g.pair p.reading.0 p.reading.1 p.reading.2 g.pair_end; spelled = p.spelled ∙ ap (λ (m : Input). pair_text p.reading m.ahead) (sym a); is = ap (λ q. found ++ q ∷ []) p.is; kept = p.kept ∙ ap (λ (m : Input). m.front) (sym a) })
            ]
        | inr w ↦ named_anew g.pairs_text (λ ps. found ++ g.pairs_list ps) i found x i j w.1 (record { reading = g.no_pair; spelled = refl; is = append-nil found; kept = refl })
      ]

  pub pairs_sound : Sound g.pairs_text g.pairs_list (read.pairs inner)
  unfolding read.pairs
  pairs_sound i x j e = let f = pairs_from_sound (length i.ahead) [] i x j e in record { reading = f.reading; spelled = f.spelled; is = f.is; kept = f.kept }

  -- what stands in brackets, and the closing one
  closed : (close : Mark) {C M A : Type 0} (text : C → List Token → List Token) (tree : C → M) (p : Parser M) → Sound text tree p → (i : Input) (y : A) (make : M → A) (j : Input)
      → and_then (p i) (λ found. expect close >>= λ _. pure (make found)) ≡ done y j
      → (c : C) × (r : Place) × (i.ahead ≡ text c (at r (tok_of close) ∷ j.ahead)) × (make (tree c) ≡ y) × (i.front ≡ j.front)
  closed close text tree p sound i y make j e =
      let b = bind_ok (p i) _ y j e in
      let a = sound i b.0 b.1 b.2 in
      let c = bind_ok (expect close b.1) _ y j b.3 in
      let r = expect_ok close b.1 c.1 c.0 c.2 in
      let d = done_is (make b.0) y c.1 j c.3 in
      (a.reading, r.0, a.spelled ∙ ap (text a.reading) (r.1 ∙ ap (λ (m : Input). at r.0 (tok_of close) ∷ m.ahead) d.1), ap make a.is ∙ d.0, a.kept ∙ r.2 ∙ ap (λ (m : Input). m.front) d.1)

  -- ---- atoms

  atom_by_sound : (kind : Tok) (t : Token) (ts : List Token) (front : ℕ) (x : Expr) (j : Input) → t.kind ≡ kind → read.atom_by inner kind (input (t ∷ ts) front) ≡ done x j → Found g.atom_text g.atom_tree (input (t ∷ ts) front) x j
  unfolding read.round read.square read.brace
  atom_by_sound (tok.Name text) t ts front x j is e = named_anew g.atom_text g.atom_tree (input (t ∷ ts) front) (ex.Name text) x (input ts front) j e (record { reading = g.name (place t) text; spelled = ap (λ q. at (place t) q ∷ ts) is; is = refl; kept = refl })
  atom_by_sound (tok.Int n) t ts front x j is e = named_anew g.atom_text g.atom_tree (input (t ∷ ts) front) (ex.Int n) x (input ts front) j e (record { reading = g.int (place t) n; spelled = ap (λ q. at (place t) q ∷ ts) is; is = refl; kept = refl })
  atom_by_sound (tok.Str text) t ts front x j is e =
      let b = bind_ok (read.all_strings (input (t ∷ ts) front)) _ x j e in
      let f = strings_sound (length ts) text (input ts front) b.0 b.1 (sym (first_string t ts front text is) ∙ b.2) in
      named_anew g.atom_text g.atom_tree (input (t ∷ ts) front) (ex.Str b.0) x b.1 j b.3
      (record { reading = g.strings (place t) text f.reading; spelled = ap (λ q. at (place t) q ∷ ts) is ∙ ap (λ q. at (place t) (tok.Str text) ∷ q) f.spelled; is = ap ex.Str f.is; kept = f.kept })
  atom_by_sound (tok.Word word.None) t ts front x j is e = named_anew g.atom_text g.atom_tree (input (t ∷ ts) front) ex.None x (input ts front) j e (record { reading = g.none (place t); spelled = ap (λ q. at (place t) q ∷ ts) is; is = refl; kept = refl })
  atom_by_sound (tok.Word word.True) t ts front x j is e = named_anew g.atom_text g.atom_tree (input (t ∷ ts) front) ex.True x (input ts front) j e (record { reading = g.truth (place t); spelled = ap (λ q. at (place t) q ∷ ts) is; is = refl; kept = refl })
  atom_by_sound (tok.Word word.False) t ts front x j is e = named_anew g.atom_text g.atom_tree (input (t ∷ ts) front) ex.False x (input ts front) j e (record { reading = g.falsity (place t); spelled = ap (λ q. at (place t) q ∷ ts) is; is = refl; kept = refl })
  atom_by_sound (tok.Op op.OpenParen) t ts front x j is e =
      let c = closed (mark.Op op.CloseParen) g.inside_text inside_both (read.some_members inner) some_members_sound (input ts front) x (λ found. read.tuple_of found.0 found.1) j e in
      record { reading = g.round (place t) c.0 c.1; spelled = ap (λ q. at (place t) q ∷ ts) is ∙ ap (λ q. at (place t) (tok.Op op.OpenParen) ∷ q) c.2; is = c.3; kept = c.4 }
  atom_by_sound (tok.Op op.OpenBracket) t ts front x j is e =
      let c = closed (mark.Op op.CloseBracket) g.inside_text inside_both (read.some_members inner) some_members_sound (input ts front) x (λ found. ex.List found.0) j e in
      record { reading = g.square (place t) c.0 c.1; spelled = ap (λ q. at (place t) q ∷ ts) is ∙ ap (λ q. at (place t) (tok.Op op.OpenBracket) ∷ q) c.2; is = c.3; kept = c.4 }
  atom_by_sound (tok.Op op.OpenBrace) t ts front x j is e =
      let c = closed (mark.Op op.CloseBrace) g.pairs_text g.pairs_list (read.pairs inner) pairs_sound (input ts front) x (λ found. ex.Dict found) j e in
      record { reading = g.brace (place t) c.0 c.1; spelled = ap (λ q. at (place t) q ∷ ts) is ∙ ap (λ q. at (place t) (tok.Op op.OpenBrace) ∷ q) c.2; is = c.3; kept = c.4 }
  atom_by_sound _ t ts front x j is e = absurd (no_err front x j e)

  pub atom_sound : Sound g.atom_text g.atom_tree (read.atom inner)
  unfolding read.atom
  atom_sound i x j e = go i.ahead e
    where
      go : (ts : List Token) → read.atom_by inner (kind_at ts) (input ts i.front) ≡ done x j → Found g.atom_text g.atom_tree (input ts i.front) x j
      go [] e = absurd (no_err i.front x j e)
      go (t ∷ ts) e = atom_by_sound t.kind t ts i.front x j refl e

  -- ---- calls

  positional_sound : (names : List (List ℕ)) (args : List Expr) (keys : List (List ℕ × Expr)) (i : Input) (x : Expr) (m : Input) (more : Arguments) (j : Input) → read.names keys ≡ names
      → Found g.test_text g.test_tree i x m → read.position inner x args keys m ≡ done more j → GrowsArguments names (read.arguments_of args keys) i more j
  positional_sound names args [] i x m more j same t e =
      let d = done_is (read.arguments_of (args ++ x ∷ []) []) more m j e in
      record {
        behind = names;
        same = ap (λ (q : Arguments). read.names q.keys) (sym d.0) ∙ same;
        add = λ b. g.positional (sym same) t.reading b;
        spelled = λ b rest h. t.spelled ∙ ap (g.test_text t.reading) (ap (λ (q : Input). q.ahead) d.1 ∙ h);
        is = λ b. ap (λ (xs : List Expr). read.arguments_of xs (g.behind_keyword_list b)) (sym (append_assoc args (g.test_tree t.reading ∷ []) (g.behind_positional_list b)))
            ∙ ap (λ q. read.arguments_of ((args ++ q ∷ []) ++ g.behind_positional_list b) (g.behind_keyword_list b)) t.is
            ∙ ap (λ (q : Arguments). read.arguments_of (q.args ++ g.behind_positional_list b) (q.keys ++ g.behind_keyword_list b)) d.0;
        kept = t.kept ∙ ap (λ (q : Input). q.front) d.1;
      }
  positional_sound names args (key ∷ keys) i x m more j same t e = absurd (no_err m.front more j e)

  keyword_sound : (names : List (List ℕ)) (given : Arguments) (i : Input) (more : Arguments) (j : Input) → read.names given.keys ≡ names → read.keyword inner given i ≡ done more j → GrowsArguments names given i more j
  unfolding read.keyword
  keyword_sound names given i more j same e =
      let b = bind_ok (name i) _ more j e in
      let n = name_sound i b.1 b.0 b.2 in
      let c = bind_ok (expect (mark.Op op.Assign) b.1) _ more j b.3 in
      let r = expect_ok (mark.Op op.Assign) b.1 c.1 c.0 c.2 in
      let v = bind_ok (inner rule.Test c.1) _ more j c.3 in
      let t = test_sound c.1 v.0 v.1 v.2 in
      elim (chosen (read.is_new b.0 (read.names given.keys)) _ _ v.1 (done more j) v.3) [
        | inl w ↦
            let d = done_is (read.arguments_of given.args (given.keys ++ (b.0, v.0) ∷ [])) more v.1 j w.1 in
            record {
              behind = names ++ b.0 ∷ [];
              same = ap (λ (q : Arguments). read.names q.keys) (sym d.0) ∙ names_snoc given.keys b.0 v.0 ∙ ap (λ (q : List (List ℕ)). q ++ b.0 ∷ []) same;
              add = λ k. g.keyword n.0 b.0 (ap (read.is_new b.0) (sym same) ∙ w.0) r.0 t.reading k;
              spelled = λ k rest h. n.1 ∙ ap (λ q. at n.0 (tok.Name b.0) ∷ q) (r.1 ∙ ap (λ q. at r.0 (tok.Op op.Assign) ∷ q) (t.spelled ∙ ap (g.test_text t.reading) (ap (λ (q : Input). q.ahead) d.1 ∙ h)));
              is = λ k. ap (λ (xs : List (List ℕ × Expr)). read.arguments_of (given.args ++ g.behind_positional_list k) xs) (sym (append_assoc given.keys ((b.0, g.test_tree t.reading) ∷ []) (g.behind_keyword_list k)))
                  ∙ ap (λ q. read.arguments_of (given.args ++ g.behind_positional_list k) ((given.keys ++ (b.0, q) ∷ []) ++ g.behind_keyword_list k)) t.is
                  ∙ ap (λ (q : Arguments). read.arguments_of (q.args ++ g.behind_positional_list k) (q.keys ++ g.behind_keyword_list k)) d.0;
              kept = n.2 ∙ r.2 ∙ t.kept ∙ ap (λ (q : Input). q.front) d.1;
            }
        | inr w ↦ absurd (no_err v.1.front more j w.1)
      ]

  pub argument_sound : (names : List (List ℕ)) (given : Arguments) (i : Input) (more : Arguments) (j : Input) → read.names given.keys ≡ names → read.argument inner given i ≡ done more j → GrowsArguments names given i more j
  unfolding read.argument read.positional
  argument_sound names given i more j same e =
      elim (chosen (read.sees_keyword i) _ _ i (done more j) e) [
        | inl w ↦ keyword_sound names given i more j same w.1
        | inr w ↦ let b = bind_ok (inner rule.Test i) _ more j w.1 in positional_sound names given.args given.keys i b.0 b.1 more j same (test_sound i b.0 b.1 b.2) b.3
      ]

  arguments_from_sound : (n : ℕ) (given : Arguments) (names : List (List ℕ)) → read.names given.keys ≡ names → Sound (g.arguments_text {names = names}) (given_of given) (read.arguments_from inner n given)
  unfolding read.arguments_from
  arguments_from_sound zero given names same i x j e =
      named_anew (g.arguments_text {names = names}) (given_of given) i given x i j e
      (record { reading = g.no_argument; spelled = refl; is = ap (λ (xs : List Expr). read.arguments_of xs (given.keys ++ [])) (append-nil given.args) ∙ ap (λ (xs : List (List ℕ × Expr)). read.arguments_of given.args xs) (append-nil given.keys); kept = refl })
  arguments_from_sound (suc n) given names same i x j e =
      elim (chosen (read.begins_test (kind_at i.ahead)) _ _ i (done x j) e) [
        | inl u ↦
            let b = bind_ok (read.argument inner given i) _ x j u.1 in
            let p = argument_sound names given i b.0 b.1 same b.2 in
            elim (chosen (sees (mark.Op op.Comma) b.1) _ _ (after (mark.Op op.Comma) b.1) (done x j) b.3) [
              | inl w ↦
                  let c = taken (mark.Op op.Comma) b.1 w.0 in
                  let f = arguments_from_sound n b.0 p.behind p.same (after (mark.Op op.Comma) b.1) x j w.1 in
                  record {
                    reading = p.add (g.argument_comma c.0 f.reading);
                    spelled = p.spelled (g.argument_comma c.0 f.reading) j.ahead (c.1 ∙ ap (λ q. at c.0 (tok.Op op.Comma) ∷ q) f.spelled);
                    is = p.is (g.argument_comma c.0 f.reading) ∙ f.is;
                    kept = p.kept ∙ c.2 ∙ f.kept;
                  }
              | inr w ↦
                  let a = after_false (mark.Op op.Comma) b.1 w.0 in
                  let d = done_is b.0 x (after (mark.Op op.Comma) b.1) j w.1 in
                  record {
                    reading = p.add g.argument_end;
                    spelled = p.spelled g.argument_end j.ahead (ap (λ (q : Input). q.ahead) (sym a ∙ d.1));
                    is = p.is g.argument_end ∙ ap (λ (xs : List Expr). read.arguments_of xs (b.0.keys ++ [])) (append-nil b.0.args) ∙ ap (λ (xs : List (List ℕ × Expr)). read.arguments_of b.0.args xs) (append-nil b.0.keys) ∙ d.0;
                    kept = p.kept ∙ ap (λ (q : Input). q.front) (sym a ∙ d.1);
                  }
            ]
        | inr w ↦ named_anew (g.arguments_text {names = names}) (given_of given) i given x i j w.1
            (record { reading = g.no_argument; spelled = refl; is = ap (λ (xs : List Expr). read.arguments_of xs (given.keys ++ [])) (append-nil given.args) ∙ ap (λ (xs : List (List ℕ × Expr)). read.arguments_of given.args xs) (append-nil given.keys); kept = refl })
      ]

  pub arguments_sound : Sound (g.arguments_text {names = []}) (λ gs. read.arguments_of (g.positional_list gs) (g.keyword_list gs)) (read.arguments inner)
  unfolding read.arguments
  arguments_sound i x j e = let f = arguments_from_sound (length i.ahead) (read.arguments_of [] []) [] refl i x j e in record { reading = f.reading; spelled = f.spelled; is = f.is; kept = f.kept }

  trailer_by_sound : (left : Expr) (kind : Tok) (t : Token) (ts : List Token) (front : ℕ) (x : Expr) (j : Input) → t.kind ≡ kind → read.begins_trailer kind ≡ true → read.trailer_by inner left kind (input (t ∷ ts) front) ≡ done x j → Grows left (input (t ∷ ts) front) x j
  unfolding read.call read.index
  trailer_by_sound left (tok.Op op.OpenParen) t ts front x j is b e =
      let c = closed (mark.Op op.CloseParen) (g.arguments_text {names = []}) (λ gs. read.arguments_of (g.positional_list gs) (g.keyword_list gs)) (read.arguments inner) arguments_sound (input ts front) x (λ given. ex.Call left given.args given.keys) j e in
      record {
        more = λ us. g.call (place t) c.0 c.1 us;
        some = λ us. refl;
        spelled = λ us rest h. ap (λ q. at (place t) q ∷ ts) is ∙ ap (λ q. at (place t) (tok.Op op.OpenParen) ∷ q) (c.2 ∙ ap (λ q. g.arguments_text c.0 (at c.1 (tok.Op op.CloseParen) ∷ q)) h);
        is = λ us. ap (g.trailers_tree us) c.3;
        kept = c.4;
      }
  trailer_by_sound left (tok.Op op.OpenBracket) t ts front x j is b e =
      let c = closed (mark.Op op.CloseBracket) g.members_text listed_both (read.members (inner rule.Test)) (members_sound (inner rule.Test) test_sound) (input ts front) x (λ found. ex.Index left (read.tuple_of found.0 found.1)) j e in
      record {
        more = λ us. g.index (place t) c.0 c.1 us;
        some = λ us. refl;
        spelled = λ us rest h. ap (λ q. at (place t) q ∷ ts) is ∙ ap (λ q. at (place t) (tok.Op op.OpenBracket) ∷ q) (c.2 ∙ ap (λ q. g.members_text c.0 (at c.1 (tok.Op op.CloseBracket) ∷ q)) h);
        is = λ us. ap (g.trailers_tree us) c.3;
        kept = c.4;
      }
  trailer_by_sound left (tok.Op op.Dot) t ts front x j is b e =
      let m = bind_ok (name (input ts front)) _ x j e in
      let n = name_sound (input ts front) m.1 m.0 m.2 in
      let d = done_is (ex.Attr left m.0) x m.1 j m.3 in
      record {
        more = λ us. g.attribute (place t) n.0 m.0 us;
        some = λ us. refl;
        spelled = λ us rest h. ap (λ q. at (place t) q ∷ ts) is ∙ ap (λ q. at (place t) (tok.Op op.Dot) ∷ q) (n.1 ∙ ap (λ q. at n.0 (tok.Name m.0) ∷ q) (ap (λ (m : Input). m.ahead) d.1 ∙ h));
        is = λ us. ap (g.trailers_tree us) d.0;
        kept = n.2 ∙ ap (λ (m : Input). m.front) d.1;
      }
  trailer_by_sound left _ t ts front x j is b e = absurd cc

  pub trailer_sound : (left : Expr) (i : Input) (x : Expr) (j : Input) → read.begins_trailer (kind_at i.ahead) ≡ true → read.trailer inner left i ≡ done x j → Grows left i x j
  unfolding read.trailer
  trailer_sound left i x j b e = go i.ahead b e
    where
      go : (ts : List Token) → read.begins_trailer (kind_at ts) ≡ true → read.trailer_by inner left (kind_at ts) (input ts i.front) ≡ done x j → Grows left (input ts i.front) x j
      go [] b e = absurd cc
      go (t ∷ ts) b e = trailer_by_sound left t.kind t ts i.front x j refl b e

  pub trailers_sound : (n : ℕ) (left : Expr) → Sound g.trailers_text (λ ts. g.trailers_tree ts left) (read.trailers inner n left)
  unfolding read.trailers
  trailers_sound zero left i x j e = named_anew g.trailers_text (λ ts. g.trailers_tree ts left) i left x i j e (record { reading = g.no_trailer; spelled = refl; is = refl; kept = refl })
  trailers_sound (suc n) left i x j e =
      elim (chosen (read.begins_trailer (kind_at i.ahead)) _ _ i (done x j) e) [
        | inl w ↦
            let b = bind_ok (read.trailer inner left i) _ x j w.1 in
            let h = trailer_sound left i b.0 b.1 w.0 b.2 in
            let f = trailers_sound n b.0 b.1 x j b.3 in
            record { reading = h.more f.reading; spelled = h.spelled f.reading j.ahead f.spelled; is = h.is f.reading ∙ f.is; kept = h.kept ∙ f.kept }
        | inr w ↦ named_anew g.trailers_text (λ ts. g.trailers_tree ts left) i left x i j w.1 (record { reading = g.no_trailer; spelled = refl; is = refl; kept = refl })
      ]

  pub primary_sound : Sound primary_text primary_tree (read.primary inner)
  unfolding read.primary read.all_trailers
  primary_sound i x j e =
      let b = bind_ok (read.atom inner i) _ x j e in
      let a = atom_sound i b.0 b.1 b.2 in
      let f = trailers_sound (length b.1.ahead) b.0 b.1 x j b.3 in
      record { reading = (a.reading, f.reading); spelled = a.spelled ∙ ap (g.atom_text a.reading) f.spelled; is = ap (g.trailers_tree f.reading) a.is ∙ f.is; kept = a.kept ∙ f.kept }

  -- ---- operators

  pub power_sound : Sound g.factor_text g.factor_tree (read.power inner)
  unfolding read.power
  power_sound i x j e =
      let b = bind_ok (read.primary inner i) _ x j e in
      let p = primary_sound i b.0 b.1 b.2 in
      elim (chosen (sees (mark.Op op.DoubleStar) b.1) _ _ (after (mark.Op op.DoubleStar) b.1) (done x j) b.3) [
        | inl w ↦
            let c = taken (mark.Op op.DoubleStar) b.1 w.0 in
            let r = bind_ok (inner rule.Factor (after (mark.Op op.DoubleStar) b.1)) _ x j w.1 in
            let f = factor_sound (after (mark.Op op.DoubleStar) b.1) r.0 r.1 r.2 in
            named_anew g.factor_text g.factor_tree i (ex.Binary binary.Pow b.0 r.0) x r.1 j r.3
            (record {
              reading = g.power p.reading.0 p.reading.1 c.0 f.reading;
              spelled = p.spelled ∙ ap (primary_text p.reading) (c.1 ∙ ap (λ q. at c.0 (tok.Op op.DoubleStar) ∷ q) f.spelled);
              is = ap (λ q. ex.Binary binary.Pow q (g.factor_tree f.reading)) p.is ∙ ap (ex.Binary binary.Pow b.0) f.is;
              kept = p.kept ∙ c.2 ∙ f.kept;
            })
        | inr w ↦
            let a = after_false (mark.Op op.DoubleStar) b.1 w.0 in
            named_anew g.factor_text g.factor_tree i b.0 x (after (mark.Op op.DoubleStar) b.1) j w.1
            (record { reading = g.primary p.reading.0 p.reading.1; spelled = p.spelled ∙ ap (λ (m : Input). primary_text p.reading m.ahead) (sym a); is = p.is; kept = p.kept ∙ ap (λ (m : Input). m.front) (sym a) })
      ]

  pub read_factor_sound : Sound g.factor_text g.factor_tree (read.factor inner)
  unfolding read.factor
  read_factor_sound i x j e =
      elim (signed_or (read.sign (kind_at i.ahead)) inner i (done x j) e) [
        | inl w ↦
            let b = bind_ok (inner rule.Factor (next i)) _ x j w.2 in
            let f = factor_sound (next i) b.0 b.1 b.2 in
            let t = sign_there i.ahead w.0 w.1 in
            named_anew g.factor_text g.factor_tree i (ex.Unary w.0 b.0) x b.1 j b.3
            (record { reading = g.signed t.0 (kind_at i.ahead) w.0 w.1 f.reading; spelled = t.1 ∙ ap (λ q. at t.0 (kind_at i.ahead) ∷ q) f.spelled; is = ap (ex.Unary w.0) f.is; kept = f.kept })
        | inr w ↦ power_sound i x j w
      ]

  module _ (level : ℕ) (operand : Parser Expr) (operand_sound : Sound (g.sum_text {level = level}) g.sum_tree operand) where
    chain_sound : (n : ℕ) (left : Expr) → Sound (g.chain_text {level = level}) (λ c. g.chain_tree c left) (read.chain operand (suc level) n left)
    unfolding read.chain
    chain_sound zero left i x j e = named_anew g.chain_text (λ c. g.chain_tree c left) i left x i j e (record { reading = g.no_operator; spelled = refl; is = refl; kept = refl })
    chain_sound (suc n) left i x j e =
        let go = chain_sound n in
        elim (operated_or (read.operator (suc level) (kind_at i.ahead)) (read.chain operand (suc level) n) left operand level i (done x j) e) [
          | inl w ↦
              let b = bind_ok (operand (next i)) _ x j w.2 in
              let s = operand_sound (next i) b.0 b.1 b.2 in
              let f = go (ex.Binary w.0 left b.0) b.1 x j b.3 in
              let t = operator_there level i.ahead w.0 w.1 in
              record {
                reading = g.operated t.0 (kind_at i.ahead) w.0 w.1 s.reading f.reading;
                spelled = t.1 ∙ ap (λ q. at t.0 (kind_at i.ahead) ∷ q) (s.spelled ∙ ap (g.sum_text s.reading) f.spelled);
                is = ap (λ q. g.chain_tree f.reading (ex.Binary w.0 left q)) s.is ∙ f.is;
                kept = s.kept ∙ f.kept;
              }
          | inr w ↦ named_anew g.chain_text (λ c. g.chain_tree c left) i left x i j w (record { reading = g.no_operator; spelled = refl; is = refl; kept = refl })
        ]

  pub sum_sound : (level : ℕ) → Sound (g.sum_text {level = level}) g.sum_tree (read.sum inner level)
  unfolding read.sum read.whole_chain
  sum_sound zero i x j e = let f = read_factor_sound i x j e in record { reading = g.operand f.reading; spelled = f.spelled; is = f.is; kept = f.kept }
  sum_sound (suc level) i x j e =
      let b = bind_ok (read.sum inner level i) _ x j e in
      let s = sum_sound level i b.0 b.1 b.2 in
      let c = chain_sound level (read.sum inner level) (sum_sound level) (length b.1.ahead) b.0 b.1 x j b.3 in
      record { reading = g.grouped s.reading c.reading; spelled = s.spelled ∙ ap (g.sum_text s.reading) c.spelled; is = ap (g.chain_tree c.reading) s.is ∙ c.is; kept = s.kept ∙ c.kept }

  -- ---- tests

  pub comparisons_sound : (n : ℕ) (found : List (CompareOp × Expr)) → Sound g.comparisons_text (λ cs. found ++ g.comparisons_list cs) (read.comparisons inner n found)
  unfolding read.comparisons
  comparisons_sound zero found i x j e = named_anew g.comparisons_text (λ cs. found ++ g.comparisons_list cs) i found x i j e (record { reading = g.no_comparison; spelled = refl; is = append-nil found; kept = refl })
  comparisons_sound (suc n) found i x j e =
      let o = bind_ok (read.compare_op i) _ x j e in
      elim (compare_op_sound i o.0 o.1 o.2) [
        | inl w ↦
            let h : done found o.1 ≡ done x j = ap (λ q. read.comparisons_by inner (read.comparisons inner n) found q o.1) (sym w.0) ∙ o.3 in
            named_anew g.comparisons_text (λ cs. found ++ g.comparisons_list cs) i found x o.1 j h (record { reading = g.no_comparison; spelled = ap (λ (q : Input). q.ahead) w.1; is = append-nil found; kept = ap (λ (q : Input). q.front) w.1 })
        | inr w ↦
            let b = bind_ok (read.sum inner 6 o.1) _ x j (ap (λ q. read.comparisons_by inner (read.comparisons inner n) found q o.1) (sym w.1) ∙ o.3) in
            let s = sum_sound 6 o.1 b.0 b.1 b.2 in
            let one : Expr → CompareOp × Expr = λ q. (g.comparison_tree w.0, q) in
            let f = comparisons_sound n (found ++ one b.0 ∷ []) b.1 x j b.3 in
            record {
              reading = g.comparing w.0 s.reading f.reading;
              spelled = w.2 ∙ ap (g.comparison_text w.0) (s.spelled ∙ ap (g.sum_text s.reading) f.spelled);
              is = ap (λ q. found ++ one q ∷ g.comparisons_list f.reading) s.is ∙ sym (append_assoc found (one b.0 ∷ []) (g.comparisons_list f.reading)) ∙ f.is;
              kept = w.3 ∙ s.kept ∙ f.kept;
            }
      ]

  pub compare_sound : Sound g.not_text g.not_tree (read.compare inner)
  unfolding read.compare read.all_comparisons
  compare_sound i x j e =
      let b = bind_ok (read.sum inner 6 i) _ x j e in
      let s = sum_sound 6 i b.0 b.1 b.2 in
      let c = bind_ok (read.comparisons inner (length b.1.ahead) [] b.1) _ x j b.3 in
      let f = comparisons_sound (length b.1.ahead) [] b.1 c.0 c.1 c.2 in
      named_anew g.not_text g.not_tree i (read.compared b.0 c.0) x c.1 j c.3
      (record { reading = g.compare s.reading f.reading; spelled = s.spelled ∙ ap (g.sum_text s.reading) f.spelled; is = ap (λ q. read.compared q (g.comparisons_list f.reading)) s.is ∙ ap (read.compared b.0) f.is; kept = s.kept ∙ f.kept })

  pub read_not_sound : Sound g.not_text g.not_tree (read.not_test inner)
  unfolding read.not_test
  read_not_sound i x j e =
      elim (chosen (sees (mark.Word word.Not) i) _ _ (after (mark.Word word.Not) i) (done x j) e) [
        | inl w ↦
            let c = taken (mark.Word word.Not) i w.0 in
            let b = bind_ok (inner rule.NotTest (after (mark.Word word.Not) i)) _ x j w.1 in
            let f = nested_not_sound (after (mark.Word word.Not) i) b.0 b.1 b.2 in
            named_anew g.not_text g.not_tree i (ex.Not b.0) x b.1 j b.3
            (record { reading = g.negated c.0 f.reading; spelled = c.1 ∙ ap (λ q. at c.0 (tok.Word word.Not) ∷ q) f.spelled; is = ap ex.Not f.is; kept = c.2 ∙ f.kept })
        | inr w ↦
            let a = after_false (mark.Word word.Not) i w.0 in
            compare_sound i x j (ap (read.compare inner) (sym a) ∙ w.1)
      ]

  and_more_sound : (n : ℕ) (found : List Expr) → Sound g.and_more_text (λ ns. found ++ g.and_list ns) (read.operands_from (read.not_test inner) word.And n found)
  unfolding read.operands_from
  and_more_sound zero found i x j e = named_anew g.and_more_text (λ ns. found ++ g.and_list ns) i found x i j e (record { reading = g.no_and; spelled = refl; is = append-nil found; kept = refl })
  and_more_sound (suc n) found i x j e =
      elim (chosen (sees (mark.Word word.And) i) _ _ (after (mark.Word word.And) i) (done x j) e) [
        | inl w ↦
            let c = taken (mark.Word word.And) i w.0 in
            let b = bind_ok (read.not_test inner (after (mark.Word word.And) i)) _ x j w.1 in
            let s = read_not_sound (after (mark.Word word.And) i) b.0 b.1 b.2 in
            let f = and_more_sound n (found ++ b.0 ∷ []) b.1 x j b.3 in
            record {
              reading = g.and_more c.0 s.reading f.reading;
              spelled = c.1 ∙ ap (λ q. at c.0 (tok.Word word.And) ∷ q) (s.spelled ∙ ap (g.not_text s.reading) f.spelled);
              is = ap (λ q. found ++ q ∷ g.and_list f.reading) s.is ∙ sym (append_assoc found (b.0 ∷ []) (g.and_list f.reading)) ∙ f.is;
              kept = c.2 ∙ s.kept ∙ f.kept;
            }
        | inr w ↦
            let a = after_false (mark.Word word.And) i w.0 in
            named_anew g.and_more_text (λ ns. found ++ g.and_list ns) i found x (after (mark.Word word.And) i) j w.1
            (record { reading = g.no_and; spelled = ap (λ (q : Input). q.ahead) (sym a); is = append-nil found; kept = ap (λ (q : Input). q.front) (sym a) })
      ]

  pub and_sound : Sound g.and_text g.and_tree (read.and_test inner)
  unfolding read.and_test read.junction read.operands
  and_sound i x j e =
      let b = bind_ok (read.not_test inner i) _ x j e in
      let s = read_not_sound i b.0 b.1 b.2 in
      let c = bind_ok (read.operands_from (read.not_test inner) word.And (length b.1.ahead) (b.0 ∷ []) b.1) _ x j b.3 in
      let f = and_more_sound (length b.1.ahead) (b.0 ∷ []) b.1 c.0 c.1 c.2 in
      named_anew g.and_text g.and_tree i (read.joined ex.And c.0) x c.1 j c.3
      (record { reading = g.and_test s.reading f.reading; spelled = s.spelled ∙ ap (g.not_text s.reading) f.spelled; is = ap (λ q. read.joined ex.And (q ∷ g.and_list f.reading)) s.is ∙ ap (read.joined ex.And) f.is; kept = s.kept ∙ f.kept })

  or_more_sound : (n : ℕ) (found : List Expr) → Sound g.or_more_text (λ os. found ++ g.or_list os) (read.operands_from (read.and_test inner) word.Or n found)
  unfolding read.operands_from
  or_more_sound zero found i x j e = named_anew g.or_more_text (λ os. found ++ g.or_list os) i found x i j e (record { reading = g.no_or; spelled = refl; is = append-nil found; kept = refl })
  or_more_sound (suc n) found i x j e =
      elim (chosen (sees (mark.Word word.Or) i) _ _ (after (mark.Word word.Or) i) (done x j) e) [
        | inl w ↦
            let c = taken (mark.Word word.Or) i w.0 in
            let b = bind_ok (read.and_test inner (after (mark.Word word.Or) i)) _ x j w.1 in
            let s = and_sound (after (mark.Word word.Or) i) b.0 b.1 b.2 in
            let f = or_more_sound n (found ++ b.0 ∷ []) b.1 x j b.3 in
            record {
              reading = g.or_more c.0 s.reading f.reading;
              spelled = c.1 ∙ ap (λ q. at c.0 (tok.Word word.Or) ∷ q) (s.spelled ∙ ap (g.and_text s.reading) f.spelled);
              is = ap (λ q. found ++ q ∷ g.or_list f.reading) s.is ∙ sym (append_assoc found (b.0 ∷ []) (g.or_list f.reading)) ∙ f.is;
              kept = c.2 ∙ s.kept ∙ f.kept;
            }
        | inr w ↦
            let a = after_false (mark.Word word.Or) i w.0 in
            named_anew g.or_more_text (λ os. found ++ g.or_list os) i found x (after (mark.Word word.Or) i) j w.1
            (record { reading = g.no_or; spelled = ap (λ (q : Input). q.ahead) (sym a); is = append-nil found; kept = ap (λ (q : Input). q.front) (sym a) })
      ]

  pub or_sound : Sound g.or_text g.or_tree (read.or_test inner)
  unfolding read.or_test read.junction read.operands
  or_sound i x j e =
      let b = bind_ok (read.and_test inner i) _ x j e in
      let s = and_sound i b.0 b.1 b.2 in
      let c = bind_ok (read.operands_from (read.and_test inner) word.Or (length b.1.ahead) (b.0 ∷ []) b.1) _ x j b.3 in
      let f = or_more_sound (length b.1.ahead) (b.0 ∷ []) b.1 c.0 c.1 c.2 in
      named_anew g.or_text g.or_tree i (read.joined ex.Or c.0) x c.1 j c.3
      (record { reading = g.or_test s.reading f.reading; spelled = s.spelled ∙ ap (g.and_text s.reading) f.spelled; is = ap (λ q. read.joined ex.Or (q ∷ g.or_list f.reading)) s.is ∙ ap (read.joined ex.Or) f.is; kept = s.kept ∙ f.kept })

  pub read_test_sound : Sound g.test_text g.test_tree (read.whole_test inner)
  unfolding read.whole_test read.conditional
  read_test_sound i x j e =
      let b = bind_ok (read.or_test inner i) _ x j e in
      let o = or_sound i b.0 b.1 b.2 in
      elim (chosen (sees (mark.Word word.If) b.1) _ _ (after (mark.Word word.If) b.1) (done x j) b.3) [
        | inl w ↦
            let k = taken (mark.Word word.If) b.1 w.0 in
            let c = bind_ok (read.or_test inner (after (mark.Word word.If) b.1)) _ x j w.1 in
            let p = or_sound (after (mark.Word word.If) b.1) c.0 c.1 c.2 in
            let s = bind_ok (expect (mark.Word word.Else) c.1) _ x j c.3 in
            let r = expect_ok (mark.Word word.Else) c.1 s.1 s.0 s.2 in
            let m = bind_ok (inner rule.Test s.1) _ x j s.3 in
            let t = test_sound s.1 m.0 m.1 m.2 in
            named_anew g.test_text g.test_tree i (ex.Cond c.0 b.0 m.0) x m.1 j m.3
            (record {
              reading = g.conditional o.reading k.0 p.reading r.0 t.reading;
              spelled = o.spelled ∙ ap (g.or_text o.reading) (k.1 ∙ ap (λ q. at k.0 (tok.Word word.If) ∷ q) (p.spelled ∙ ap (g.or_text p.reading) (r.1 ∙ ap (λ q. at r.0 (tok.Word word.Else) ∷ q) t.spelled)));
              is = ap (λ q. ex.Cond q (g.or_tree o.reading) (g.test_tree t.reading)) p.is ∙ ap (λ q. ex.Cond c.0 q (g.test_tree t.reading)) o.is ∙ ap (ex.Cond c.0 b.0) t.is;
              kept = o.kept ∙ k.2 ∙ p.kept ∙ r.2 ∙ t.kept;
            })
        | inr w ↦
            let a = after_false (mark.Word word.If) b.1 w.0 in
            named_anew g.test_text g.test_tree i b.0 x (after (mark.Word word.If) b.1) j w.1
            (record { reading = g.plain o.reading; spelled = o.spelled ∙ ap (λ (m : Input). g.or_text o.reading m.ahead) (sym a); is = o.is; kept = o.kept ∙ ap (λ (m : Input). m.front) (sym a) })
      ]

pub record RulesSound (inner : Rule → Parser Expr) : Type 0 where
  pub test : Sound g.test_text g.test_tree (inner rule.Test)
  pub negation : Sound g.not_text g.not_tree (inner rule.NotTest)
  pub factor : Sound g.factor_text g.factor_tree (inner rule.Factor)

pub expr_sound : (d : ℕ) → RulesSound (read.expr d)
unfolding read.expr
expr_sound zero = record { test = λ i x j e. absurd (no_err i.front x j e); negation = λ i x j e. absurd (no_err i.front x j e); factor = λ i x j e. absurd (no_err i.front x j e) }
expr_sound (suc d) =
    let h = expr_sound d in
    record {
      test = read_test_sound (read.expr d) h.test h.negation h.factor;
      negation = read_not_sound (read.expr d) h.test h.negation h.factor;
      factor = read_factor_sound (read.expr d) h.test h.negation h.factor;
    }

pub tests_sound : (d : ℕ) → Sound g.members_text g.members_tree (read.tests d)
unfolding read.tests
tests_sound d i x j e =
    let b = bind_ok (read.members (read.expr d rule.Test) i) _ x j e in
    let f = members_sound (read.expr d rule.Test) (expr_sound d).test i b.0 b.1 b.2 in
    named_anew g.members_text g.members_tree i (read.tuple_of b.0.0 b.0.1) x b.1 j b.3 (record { reading = f.reading; spelled = f.spelled; is = ap (λ (q : read.Listed). read.tuple_of q.0 q.1) f.is; kept = f.kept })
