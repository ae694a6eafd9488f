-- Headers are read as the grammar says.
use Rattle.std.proofs.Common.{◌≡◌, ℕ, zero, suc, ◌+◌, ◌<◌, ◌≤◌, ◌⊎◌, inl, inr, Bool, true, false, cond, List, [], ◌∷◌, ◌++◌, length, Option, Some, None, Ok, Err, refl, sym, ap, subst, ◌∙◌, arith, append_assoc}
use Rattle.py_tokens.specs.declared.token.Tok.{Tok}
use Rattle.py_tokens.specs.declared.token.Tok.TheVariants as tok
use Rattle.py_tokens.specs.declared.token.Token.{Token}
use Rattle.py_tokens.specs.declared.word.Word.TheVariants as word
use Rattle.py_tokens.specs.declared.operator.Op.TheVariants as op
use Rattle.py_tree.specs.declared.expr.Expr.{Expr}
use Rattle.py_tree.specs.declared.stmt.Param.{Param}
use Rattle.py_tree.specs.declared.stmt.Target.{Target}
use Rattle.py_expressions.specs.declared.cursor.Mark.TheVariants as mark
use Rattle.py_expressions.specs.Input.{Place, at, Input, Outcome, Parser, and_then, ◌>>=◌, ◌>>◌, pure, kind_at, is_mark, sees, sees_at, after, expect, next, name}
use Rattle.py_expressions.specs.Follow.{rank}
use Rattle.py_expressions.specs.Grammar.{Test, Members, test_text, test_tree, members_text, members_tree}
use Rattle.py_expressions.specs.Targets.{aims_text, aims_tree, all_targets}
use Rattle.py_expressions.specs.Reading.{one_test, all_tests, begins_test}
use Rattle.py_expressions.specs.Laws.{input, Found, Sound, Fails}
use Rattle.py_expressions.proofs.Steps.{done, bind_ok, done_is, no_err, chosen, after_false, taken, expect_ok}
use Rattle.py_expressions.proofs.Sizes.{test_grows, members_grows, test_starts}
use Rattle.py_expressions.proofs.Whole.{one_test_sound, one_test_complete, one_test_fails, all_tests_sound, all_tests_complete, all_tests_fails}
use Rattle.py_expressions.proofs.Aims.{all_targets_sound, all_targets_complete, all_targets_fails}
use Rattle.py_expressions.proofs.Faults.{Keeps, sound_keeps, expect_fails, keeps_expect, keeps_take, keeps_bind, keeps_pure, fails_bind, fails_pure, fails_refuse, fails_if, fails_peek, fails_take, fails_eat, fails_expect, name_fails, name_keeps}
use Rattle.py_statements.specs.Grammar.{Name, name_text, name_tree, Series, last_comma, comma, series_text, series_list}
use Rattle.py_statements.specs.Reading.{closes, is_closed, series, series_from}
use Rattle.py_statements.proofs.Starts.{aims_grow}
use Rattle.py_statements.proofs.Named.{name_reads}
use Rattle.py_statements.proofs.Series.{series_sound, series_fails}
use Rattle.py_parser.specs.declared.clause.Head.{Head}
use Rattle.py_parser.specs.declared.clause.Head.TheVariants as head
use Rattle.py_parser.specs.declared.clause.Header.{Header}
use Rattle.py_parser.specs.declared.clause.Header.TheVariants as header
use Rattle.py_parser.specs.Clauses.{params_fit}
use Rattle.py_parser.specs.Grammar.{Parameter, plain, default, Parameters, none, some, First, if_, while_, for_, try_, def_, Naming, Later, elif, else_, except, except_all, finally, parameter_text, parameter_tree, parameters_text, parameters_list, first_text, first_tree, naming_text, naming_tree, later_text, later_tree}
use Rattle.py_parser.specs.Reading.{word_alone, condition, iterated, for_head, param_of, parameter, parameters, fitting, defined, def_head, first_by, first, naming, catching, except_header, later_by, later}

-- ---- sizes

parameter_grows : (p : Parameter) (rest : List Token) → length rest < length (parameter_text p rest)
parameter_grows (plain n) rest = omega arith
parameter_grows (default n l t) rest = let g = test_grows t rest in omega arith

series_grows : (ps : Series Parameter true) (rest : List Token) → length rest < length (series_text parameter_text ps rest)
series_grows (Series.last p) rest = parameter_grows p rest
series_grows (last_comma p l) rest = let g = parameter_grows p (at l (tok.Op op.Comma) ∷ rest) in omega arith
series_grows (comma p l ps) rest = let g = series_grows ps rest in let h = parameter_grows p (at l (tok.Op op.Comma) ∷ series_text parameter_text ps rest) in omega arith

parameters_grow : (ps : Parameters) (rest : List Token) → length rest ≤ length (parameters_text ps rest)
parameters_grow none rest = omega arith
parameters_grow (some ps) rest = let g = series_grows ps rest in omega arith

pub first_grows : (one : First) (rest : List Token) → length rest < length (first_text one rest)
first_grows (if_ l t c) rest = let g = test_grows t (at c (tok.Op op.Colon) ∷ rest) in omega arith
first_grows (while_ l t c) rest = let g = test_grows t (at c (tok.Op op.Colon) ∷ rest) in omega arith
first_grows (for_ l gs r m c) rest =
    let g = members_grows m (at c (tok.Op op.Colon) ∷ rest) in let h = aims_grow gs (at r (tok.Word word.In) ∷ members_text m (at c (tok.Op op.Colon) ∷ rest)) in omega arith
first_grows (try_ l c) rest = omega arith
first_grows (def_ l n b ps fit e c) rest = let g = parameters_grow ps (at e (tok.Op op.CloseParen) ∷ at c (tok.Op op.Colon) ∷ rest) in omega arith

naming_grows : (n : Option Naming) (rest : List Token) → length rest ≤ length (naming_text n rest)
naming_grows None rest = omega arith
naming_grows (Some n) rest = omega arith

pub later_grows : (one : Later) (rest : List Token) → length rest < length (later_text one rest)
later_grows (elif l t c) rest = let g = test_grows t (at c (tok.Op op.Colon) ∷ rest) in omega arith
later_grows (else_ l c) rest = omega arith
later_grows (except l t n c) rest = let g = naming_grows n (at c (tok.Op op.Colon) ∷ rest) in let h = test_grows t (naming_text n (at c (tok.Op op.Colon) ∷ rest)) in omega arith
later_grows (except_all l c) rest = omega arith
later_grows (finally l c) rest = omega arith

-- ---- what the grammar reads is read

condition_complete : (w : Token) (t : Test) (c : Place) (rest : List Token) (front : ℕ) → condition (input (w ∷ test_text t (at c (tok.Op op.Colon) ∷ rest)) front) ≡ Ok (test_tree t, input rest front)
unfolding condition expect sees
condition_complete w t c rest front = rw (one_test_complete t (at c (tok.Op op.Colon) ∷ rest) front (omega arith)) refl

parameter_complete : (p : Parameter) (rest : List Token) (front : ℕ) → 13 ≤ rank rest → sees_at (mark.Op op.Assign) rest ≡ false → parameter (input (parameter_text p rest) front) ≡ Ok (parameter_tree p, input rest front)
unfolding parameter name after sees
parameter_complete (plain n) rest front h b = rw b refl
parameter_complete (default n l t) rest front h b = rw (one_test_complete t rest front h) refl

series_open : (ps : Series Parameter true) (rest : List Token) → sees_at (mark.Op op.CloseParen) (series_text parameter_text ps rest) ≡ false
series_open (Series.last (plain n)) rest = refl
series_open (Series.last (default n l t)) rest = refl
series_open (last_comma (plain n) c) rest = refl
series_open (last_comma (default n l t) c) rest = refl
series_open (comma (plain n) c ps) rest = refl
series_open (comma (default n l t) c ps) rest = refl

from_complete : (ps : Series Parameter true) (n : ℕ) (found : List Param) (l : Place) (rest : List Token) (front : ℕ) → length (series_text parameter_text ps (at l (tok.Op op.CloseParen) ∷ rest)) ≤ n
    → series_from parameter true n found (input (series_text parameter_text ps (at l (tok.Op op.CloseParen) ∷ rest)) front) ≡ Ok (found ++ series_list parameter_tree ps, input (at l (tok.Op op.CloseParen) ∷ rest) front)
unfolding series_from after sees
from_complete ps zero found l rest front le = let g = series_grows ps (at l (tok.Op op.CloseParen) ∷ rest) in absurd (omega arith)
from_complete (Series.last p) (suc n) found l rest front le = rw (parameter_complete p (at l (tok.Op op.CloseParen) ∷ rest) front (omega arith) refl) refl
from_complete (last_comma p c) (suc n) found l rest front le = rw (parameter_complete p (at c (tok.Op op.Comma) ∷ at l (tok.Op op.CloseParen) ∷ rest) front (omega arith) refl) refl
from_complete (comma p c ps) (suc n) found l rest front le =
    let more = series_text parameter_text ps (at l (tok.Op op.CloseParen) ∷ rest) in
    let g = parameter_grows p (at c (tok.Op op.Comma) ∷ more) in
    let step : series_from parameter true (suc n) found (input (parameter_text p (at c (tok.Op op.Comma) ∷ more)) front) ≡ series_from parameter true n (found ++ parameter_tree p ∷ []) (input more front) =
    rw (parameter_complete p (at c (tok.Op op.Comma) ∷ more) front (omega arith) refl, series_open ps (at l (tok.Op op.CloseParen) ∷ rest)) refl in
    step ∙ from_complete ps n (found ++ parameter_tree p ∷ []) l rest front (omega arith)
    ∙ ap (λ (xs : List Param). Ok (xs, input (at l (tok.Op op.CloseParen) ∷ rest) front)) (append_assoc found (parameter_tree p ∷ []) (series_list parameter_tree ps))

parameters_complete : (ps : Parameters) (l : Place) (rest : List Token) (front : ℕ) → parameters (input (parameters_text ps (at l (tok.Op op.CloseParen) ∷ rest)) front) ≡ Ok (parameters_list ps, input (at l (tok.Op op.CloseParen) ∷ rest) front)
unfolding parameters series sees
parameters_complete none l rest front = refl
parameters_complete (some ps) l rest front =
    let more = series_text parameter_text ps (at l (tok.Op op.CloseParen) ∷ rest) in
    rw (series_open ps (at l (tok.Op op.CloseParen) ∷ rest)) (from_complete ps (length more) [] l rest front (omega arith))

pub first_complete : (one : First) (rest : List Token) (front : ℕ) → first (input (first_text one rest) front) ≡ Ok (first_tree one, input rest front)
unfolding first word_alone for_head iterated def_head defined expect sees name
first_complete (if_ l t c) rest front = rw (condition_complete (at l (tok.Word word.If)) t c rest front) refl
first_complete (while_ l t c) rest front = rw (condition_complete (at l (tok.Word word.While)) t c rest front) refl
first_complete (for_ l gs r m c) rest front =
    rw (all_targets_complete gs r (members_text m (at c (tok.Op op.Colon) ∷ rest)) front, all_tests_complete m (at c (tok.Op op.Colon) ∷ rest) front (omega arith)) refl
first_complete (try_ l c) rest front = refl
first_complete (def_ l n b ps fit e c) rest front = rw (parameters_complete ps e (at c (tok.Op op.Colon) ∷ rest) front, fit) refl

naming_complete : (n : Option Naming) (c : Place) (rest : List Token) (front : ℕ) → naming (input (naming_text n (at c (tok.Op op.Colon) ∷ rest)) front) ≡ Ok (naming_tree n, input (at c (tok.Op op.Colon) ∷ rest) front)
unfolding naming name after sees
naming_complete None c rest front = refl
naming_complete (Some n) c rest front = refl

naming_rank : (n : Option Naming) (c : Place) (rest : List Token) → 13 ≤ rank (naming_text n (at c (tok.Op op.Colon) ∷ rest))
naming_rank None c rest = omega arith
naming_rank (Some n) c rest = omega arith

no_colon_by : (kind : Tok) → begins_test kind ≡ true → is_mark (mark.Op op.Colon) kind ≡ false
no_colon_by (tok.Op op.Colon) b = absurd cc
no_colon_by (tok.Name text) b = refl
no_colon_by (tok.Int n) b = refl
no_colon_by (tok.Str text) b = refl
no_colon_by (tok.Word w) b = refl
no_colon_by (tok.Op op.OpenParen) b = refl
no_colon_by (tok.Op op.OpenBracket) b = refl
no_colon_by (tok.Op op.OpenBrace) b = refl
no_colon_by (tok.Op op.Plus) b = refl
no_colon_by (tok.Op op.Minus) b = refl
no_colon_by (tok.Op op.Tilde) b = refl
no_colon_by _ b = absurd cc

no_colon : (ts : List Token) → begins_test (kind_at ts) ≡ true → sees_at (mark.Op op.Colon) ts ≡ false
no_colon [] b = refl
no_colon (t ∷ ts) b = no_colon_by t.kind b

test_no_colon : (t : Test) (rest : List Token) → sees_at (mark.Op op.Colon) (test_text t rest) ≡ false
test_no_colon t rest = no_colon (test_text t rest) (test_starts t rest)

catching_complete : (t : Test) (n : Option Naming) (c : Place) (rest : List Token) (front : ℕ) → catching (input (test_text t (naming_text n (at c (tok.Op op.Colon) ∷ rest))) front) ≡ Ok (header.Except (Some (test_tree t)) (naming_tree n), input rest front)
unfolding catching expect sees
catching_complete t n c rest front = rw (one_test_complete t (naming_text n (at c (tok.Op op.Colon) ∷ rest)) front (naming_rank n c rest), naming_complete n c rest front) refl

pub later_complete : (one : Later) (rest : List Token) (front : ℕ) → later (input (later_text one rest) front) ≡ Ok (later_tree one, input rest front)
unfolding later word_alone except_header expect after sees
later_complete (elif l t c) rest front = rw (condition_complete (at l (tok.Word word.Elif)) t c rest front) refl
later_complete (else_ l c) rest front = refl
later_complete (except l t n c) rest front = rw (test_no_colon t (naming_text n (at c (tok.Op op.Colon) ∷ rest))) (catching_complete t n c rest front)
later_complete (except_all l c) rest front = refl
later_complete (finally l c) rest front = refl

-- ---- what is read is read by the grammar

abbrev place_of : Token → Place
place_of t = record { at = t.at; end = t.end; line = t.line }

-- a token of that kind
abbrev of_kind : Token → Tok → Token
of_kind t kind = at (place_of t) kind

alone_sound : (t : Token) (ts : List Token) (front : ℕ) (u : Unit {0}) (j : Input) → word_alone (input (t ∷ ts) front) ≡ done u j → (c : Place) × (ts ≡ at c (tok.Op op.Colon) ∷ j.ahead) × (front ≡ j.front)
unfolding word_alone
alone_sound t ts front u j e = expect_ok (mark.Op op.Colon) (input ts front) j u e

-- a test and a colon
record Conditioned (ts : List Token) (front : ℕ) (x : Expr) (j : Input) : Type 0 where
  test : Test
  colon : Place
  spelled : ts ≡ test_text test (at colon (tok.Op op.Colon) ∷ j.ahead)
  is : test_tree test ≡ x
  kept : front ≡ j.front

condition_sound : (t : Token) (ts : List Token) (front : ℕ) (x : Expr) (j : Input) → condition (input (t ∷ ts) front) ≡ done x j → Conditioned ts front x j
unfolding condition
condition_sound t ts front x j e =
    let b = bind_ok (one_test (input ts front)) _ x j e in
    let s = one_test_sound (input ts front) b.0 b.1 b.2 in
    let c = bind_ok (expect (mark.Op op.Colon) b.1) _ x j b.3 in
    let r = expect_ok (mark.Op op.Colon) b.1 c.1 c.0 c.2 in
    let d = done_is b.0 x c.1 j c.3 in
    record {
      test = s.reading;
      colon = r.0;
      spelled = s.spelled ∙ ap (test_text s.reading) (r.1 ∙ ap (λ (q : Input). at r.0 (tok.Op op.Colon) ∷ q.ahead) d.1);
      is = s.is ∙ d.0;
      kept = s.kept ∙ r.2 ∙ ap (λ (q : Input). q.front) d.1;
    }

parameter_sound : Sound parameter_text parameter_tree parameter
unfolding parameter
parameter_sound i x j e =
    let b = bind_ok (name i) _ x j e in
    let s = name_reads i b.0 b.1 b.2 in
    elim (chosen (sees (mark.Op op.Assign) b.1) _ _ (after (mark.Op op.Assign) b.1) (done x j) b.3) [
      | inl w ↦
          let c = taken (mark.Op op.Assign) b.1 w.0 in
          let d = bind_ok (one_test (after (mark.Op op.Assign) b.1)) _ x j w.1 in
          let t = one_test_sound (after (mark.Op op.Assign) b.1) d.0 d.1 d.2 in
          let u = done_is (param_of b.0 (Some d.0)) x d.1 j d.3 in
          record {
            reading = default s.reading c.0 t.reading;
            spelled = s.spelled ∙ ap (name_text s.reading) (c.1 ∙ ap (λ q. at c.0 (tok.Op op.Assign) ∷ q) (t.spelled ∙ ap (λ (q : Input). test_text t.reading q.ahead) u.1));
            is = ap (λ (q : List ℕ). param_of q (Some (test_tree t.reading))) s.is ∙ ap (λ (q : Expr). param_of b.0 (Some q)) t.is ∙ u.0;
            kept = s.kept ∙ c.2 ∙ t.kept ∙ ap (λ (q : Input). q.front) u.1;
          }
      | inr w ↦
          let a = after_false (mark.Op op.Assign) b.1 w.0 in
          let u = done_is (param_of b.0 None) x (after (mark.Op op.Assign) b.1) j w.1 in
          let to : b.1 ≡ j = sym a ∙ u.1 in
          record {
            reading = plain s.reading;
            spelled = s.spelled ∙ ap (λ (q : Input). name_text s.reading q.ahead) to;
            is = ap (λ (q : List ℕ). param_of q None) s.is ∙ u.0;
            kept = s.kept ∙ ap (λ (q : Input). q.front) to;
          }
    ]

parameters_sound : Sound parameters_text parameters_list parameters
unfolding parameters
parameters_sound i x j e =
    elim (chosen (sees (mark.Op op.CloseParen) i) _ _ i (done x j) e) [
      | inl w ↦ let d = done_is [] x i j w.1 in record { reading = none; spelled = ap (λ (q : Input). q.ahead) d.1; is = d.0; kept = ap (λ (q : Input). q.front) d.1 }
      | inr w ↦ let f = series_sound parameter_text parameter_tree parameter parameter_sound true i x j w.1 in record { reading = some f.reading; spelled = f.spelled; is = f.is; kept = f.kept }
    ]

fitting_ok : (text : List ℕ) (params : List Param) (i : Input) (x : Head) (j : Input) → fitting text params i ≡ done x j → (params_fit params ≡ true) × (head.Def text params ≡ x) × (i ≡ j)
fitting_ok text params i x j e =
    elim (chosen (params_fit params) _ _ i (done x j) e) [
      | inl w ↦ let d = done_is (head.Def text params) x i j w.1 in (w.0, d.0, d.1)
      | inr w ↦ absurd (no_err i.front x j w.1)
    ]

for_sound : (t : Token) (ts : List Token) (front : ℕ) (x : Head) (j : Input) → t.kind ≡ tok.Word word.For → for_head (input (t ∷ ts) front) ≡ done x j → Found first_text first_tree (input (t ∷ ts) front) x j
unfolding for_head iterated
for_sound t ts front x j is e =
    let a = bind_ok (all_targets (input ts front)) _ x j e in
    let s = all_targets_sound (input ts front) a.0 a.1 a.2 in
    let b = bind_ok (expect (mark.Word word.In) a.1) _ x j a.3 in
    let r = expect_ok (mark.Word word.In) a.1 b.1 b.0 b.2 in
    let c = bind_ok (all_tests b.1) _ x j b.3 in
    let m = all_tests_sound b.1 c.0 c.1 c.2 in
    let d = bind_ok (expect (mark.Op op.Colon) c.1) _ x j c.3 in
    let z = expect_ok (mark.Op op.Colon) c.1 d.1 d.0 d.2 in
    let u = done_is (head.For a.0 c.0) x d.1 j d.3 in
    record {
      reading = for_ (place_of t) s.reading r.0 m.reading z.0;
      spelled = ap (λ q. of_kind t q ∷ ts) is ∙ ap (λ q. of_kind t (tok.Word word.For) ∷ q) (s.spelled ∙ ap (aims_text s.reading) (r.1 ∙ ap (λ q. at r.0 (tok.Word word.In) ∷ q) (m.spelled ∙ ap (members_text m.reading) (z.1 ∙ ap (λ (q : Input). at z.0 (tok.Op op.Colon) ∷ q.ahead) u.1))));
      is = ap (λ (q : Target). head.For q (members_tree m.reading)) s.is ∙ ap (λ (q : Expr). head.For a.0 q) m.is ∙ u.0;
      kept = s.kept ∙ r.2 ∙ m.kept ∙ z.2 ∙ ap (λ (q : Input). q.front) u.1;
    }

def_sound : (t : Token) (ts : List Token) (front : ℕ) (x : Head) (j : Input) → t.kind ≡ tok.Word word.Def → def_head (input (t ∷ ts) front) ≡ done x j → Found first_text first_tree (input (t ∷ ts) front) x j
unfolding def_head defined
def_sound t ts front x j is e =
    let a = bind_ok (name (input ts front)) _ x j e in
    let s = name_reads (input ts front) a.0 a.1 a.2 in
    let b = bind_ok (expect (mark.Op op.OpenParen) a.1) _ x j a.3 in
    let r = expect_ok (mark.Op op.OpenParen) a.1 b.1 b.0 b.2 in
    let c = bind_ok (parameters b.1) _ x j b.3 in
    let p = parameters_sound b.1 c.0 c.1 c.2 in
    let d = bind_ok (expect (mark.Op op.CloseParen) c.1) _ x j c.3 in
    let z = expect_ok (mark.Op op.CloseParen) c.1 d.1 d.0 d.2 in
    let f = bind_ok (expect (mark.Op op.Colon) d.1) _ x j d.3 in
    let y = expect_ok (mark.Op op.Colon) d.1 f.1 f.0 f.2 in
    let u = fitting_ok a.0 c.0 f.1 x j f.3 in
    record {
      reading = def_ (place_of t) s.reading r.0 p.reading (ap params_fit p.is ∙ u.0) z.0 y.0;
      spelled = ap (λ q. of_kind t q ∷ ts) is ∙ ap (λ q. of_kind t (tok.Word word.Def) ∷ q) (s.spelled ∙ ap (name_text s.reading) (r.1 ∙ ap (λ q. at r.0 (tok.Op op.OpenParen) ∷ q) (p.spelled ∙ ap (parameters_text p.reading) (z.1 ∙ ap (λ q. at z.0 (tok.Op op.CloseParen) ∷ q) (y.1 ∙ ap (λ (q : Input). at y.0 (tok.Op op.Colon) ∷ q.ahead) u.2)))));
      is = ap (λ (q : List ℕ). head.Def q (parameters_list p.reading)) s.is ∙ ap (λ (q : List Param). head.Def a.0 q) p.is ∙ u.1;
      kept = s.kept ∙ r.2 ∙ p.kept ∙ z.2 ∙ y.2 ∙ ap (λ (q : Input). q.front) u.2;
    }

first_by_sound : (kind : Tok) (t : Token) (ts : List Token) (front : ℕ) (x : Head) (j : Input) → t.kind ≡ kind → first_by kind (input (t ∷ ts) front) ≡ done x j → Found first_text first_tree (input (t ∷ ts) front) x j
first_by_sound (tok.Word word.If) t ts front x j is e =
    let b = bind_ok (condition (input (t ∷ ts) front)) _ x j e in
    let c = condition_sound t ts front b.0 b.1 b.2 in
    let d = done_is (head.If b.0) x b.1 j b.3 in
    record { reading = if_ (place_of t) c.test c.colon; spelled = ap (λ q. of_kind t q ∷ ts) is ∙ ap (λ q. of_kind t (tok.Word word.If) ∷ q) (c.spelled ∙ ap (λ (q : Input). test_text c.test (at c.colon (tok.Op op.Colon) ∷ q.ahead)) d.1); is = ap head.If c.is ∙ d.0; kept = c.kept ∙ ap (λ (q : Input). q.front) d.1 }
first_by_sound (tok.Word word.While) t ts front x j is e =
    let b = bind_ok (condition (input (t ∷ ts) front)) _ x j e in
    let c = condition_sound t ts front b.0 b.1 b.2 in
    let d = done_is (head.While b.0) x b.1 j b.3 in
    record { reading = while_ (place_of t) c.test c.colon; spelled = ap (λ q. of_kind t q ∷ ts) is ∙ ap (λ q. of_kind t (tok.Word word.While) ∷ q) (c.spelled ∙ ap (λ (q : Input). test_text c.test (at c.colon (tok.Op op.Colon) ∷ q.ahead)) d.1); is = ap head.While c.is ∙ d.0; kept = c.kept ∙ ap (λ (q : Input). q.front) d.1 }
first_by_sound (tok.Word word.For) t ts front x j is e = for_sound t ts front x j is e
first_by_sound (tok.Word word.Try) t ts front x j is e =
    let b = bind_ok (word_alone (input (t ∷ ts) front)) _ x j e in
    let c = alone_sound t ts front b.0 b.1 b.2 in
    let d = done_is head.Try x b.1 j b.3 in
    record { reading = try_ (place_of t) c.0; spelled = ap (λ q. of_kind t q ∷ ts) is ∙ ap (λ q. of_kind t (tok.Word word.Try) ∷ q) (c.1 ∙ ap (λ (q : Input). at c.0 (tok.Op op.Colon) ∷ q.ahead) d.1); is = d.0; kept = c.2 ∙ ap (λ (q : Input). q.front) d.1 }
first_by_sound (tok.Word word.Def) t ts front x j is e = def_sound t ts front x j is e
first_by_sound _ t ts front x j is e = absurd (no_err front x j e)

pub first_sound : Sound first_text first_tree first
unfolding first
first_sound i x j e = go i.ahead e
  where
    go : (ts : List Token) → first_by (kind_at ts) (input ts i.front) ≡ done x j → Found first_text first_tree (input ts i.front) x j
    go [] e = absurd (no_err i.front x j e)
    go (t ∷ ts) e = first_by_sound t.kind t ts i.front x j refl e

naming_sound : Sound naming_text naming_tree naming
unfolding naming
naming_sound i x j e =
    elim (chosen (sees (mark.Word word.As) i) _ _ (after (mark.Word word.As) i) (done x j) e) [
      | inl w ↦
          let c = taken (mark.Word word.As) i w.0 in
          let b = bind_ok (name (after (mark.Word word.As) i)) _ x j w.1 in
          let s = name_reads (after (mark.Word word.As) i) b.0 b.1 b.2 in
          let u = done_is (Some b.0) x b.1 j b.3 in
          record {
            reading = Some (record { place = c.0; name = s.reading });
            spelled = c.1 ∙ ap (λ q. at c.0 (tok.Word word.As) ∷ q) (s.spelled ∙ ap (λ (q : Input). name_text s.reading q.ahead) u.1);
            is = ap (λ (q : List ℕ). Some q) s.is ∙ u.0;
            kept = c.2 ∙ s.kept ∙ ap (λ (q : Input). q.front) u.1;
          }
      | inr w ↦
          let a = after_false (mark.Word word.As) i w.0 in
          let u = done_is None x (after (mark.Word word.As) i) j w.1 in
          let to : i ≡ j = sym a ∙ u.1 in
          record { reading = None; spelled = ap (λ (q : Input). q.ahead) to; is = u.0; kept = ap (λ (q : Input). q.front) to }
    ]

except_sound : (t : Token) (ts : List Token) (front : ℕ) (x : Header) (j : Input) → t.kind ≡ tok.Word word.Except → except_header (input (t ∷ ts) front) ≡ done x j → Found later_text later_tree (input (t ∷ ts) front) x j
unfolding except_header catching
except_sound t ts front x j is e =
    let i = input ts front in
    elim (chosen (sees (mark.Op op.Colon) i) _ _ (after (mark.Op op.Colon) i) (done x j) e) [
      | inl w ↦
          let c = taken (mark.Op op.Colon) (input ts front) w.0 in
          let u = done_is (header.Except None None) x (after (mark.Op op.Colon) (input ts front)) j w.1 in
          record {
            reading = except_all (place_of t) c.0;
            spelled = ap (λ q. of_kind t q ∷ ts) is ∙ ap (λ q. of_kind t (tok.Word word.Except) ∷ q) (c.1 ∙ ap (λ (q : Input). at c.0 (tok.Op op.Colon) ∷ q.ahead) u.1);
            is = u.0;
            kept = c.2 ∙ ap (λ (q : Input). q.front) u.1;
          }
      | inr w ↦
          let k = after_false (mark.Op op.Colon) (input ts front) w.0 in
          let a = bind_ok (one_test (after (mark.Op op.Colon) (input ts front))) _ x j w.1 in
          let s = one_test_sound (after (mark.Op op.Colon) (input ts front)) a.0 a.1 a.2 in
          let b = bind_ok (naming a.1) _ x j a.3 in
          let n = naming_sound a.1 b.0 b.1 b.2 in
          let c = bind_ok (expect (mark.Op op.Colon) b.1) _ x j b.3 in
          let r = expect_ok (mark.Op op.Colon) b.1 c.1 c.0 c.2 in
          let u = done_is (header.Except (Some a.0) b.0) x c.1 j c.3 in
          record {
            reading = except (place_of t) s.reading n.reading r.0;
            spelled = ap (λ q. of_kind t q ∷ ts) is ∙ ap (λ q. of_kind t (tok.Word word.Except) ∷ q) (ap (λ (q : Input). q.ahead) (sym k) ∙ s.spelled ∙ ap (test_text s.reading) (n.spelled ∙ ap (naming_text n.reading) (r.1 ∙ ap (λ (q : Input). at r.0 (tok.Op op.Colon) ∷ q.ahead) u.1)));
            is = ap (λ (q : Expr). header.Except (Some q) (naming_tree n.reading)) s.is ∙ ap (λ (q : Option (List ℕ)). header.Except (Some a.0) q) n.is ∙ u.0;
            kept = ap (λ (q : Input). q.front) (sym k) ∙ s.kept ∙ n.kept ∙ r.2 ∙ ap (λ (q : Input). q.front) u.1;
          }
    ]

later_by_sound : (kind : Tok) (t : Token) (ts : List Token) (front : ℕ) (x : Header) (j : Input) → t.kind ≡ kind → later_by kind (input (t ∷ ts) front) ≡ done x j → Found later_text later_tree (input (t ∷ ts) front) x j
later_by_sound (tok.Word word.Elif) t ts front x j is e =
    let b = bind_ok (condition (input (t ∷ ts) front)) _ x j e in
    let c = condition_sound t ts front b.0 b.1 b.2 in
    let d = done_is (header.Elif b.0) x b.1 j b.3 in
    record { reading = elif (place_of t) c.test c.colon; spelled = ap (λ q. of_kind t q ∷ ts) is ∙ ap (λ q. of_kind t (tok.Word word.Elif) ∷ q) (c.spelled ∙ ap (λ (q : Input). test_text c.test (at c.colon (tok.Op op.Colon) ∷ q.ahead)) d.1); is = ap header.Elif c.is ∙ d.0; kept = c.kept ∙ ap (λ (q : Input). q.front) d.1 }
later_by_sound (tok.Word word.Else) t ts front x j is e =
    let b = bind_ok (word_alone (input (t ∷ ts) front)) _ x j e in
    let c = alone_sound t ts front b.0 b.1 b.2 in
    let d = done_is header.Else x b.1 j b.3 in
    record { reading = else_ (place_of t) c.0; spelled = ap (λ q. of_kind t q ∷ ts) is ∙ ap (λ q. of_kind t (tok.Word word.Else) ∷ q) (c.1 ∙ ap (λ (q : Input). at c.0 (tok.Op op.Colon) ∷ q.ahead) d.1); is = d.0; kept = c.2 ∙ ap (λ (q : Input). q.front) d.1 }
later_by_sound (tok.Word word.Except) t ts front x j is e = except_sound t ts front x j is e
later_by_sound (tok.Word word.Finally) t ts front x j is e =
    let b = bind_ok (word_alone (input (t ∷ ts) front)) _ x j e in
    let c = alone_sound t ts front b.0 b.1 b.2 in
    let d = done_is header.Finally x b.1 j b.3 in
    record { reading = finally (place_of t) c.0; spelled = ap (λ q. of_kind t q ∷ ts) is ∙ ap (λ q. of_kind t (tok.Word word.Finally) ∷ q) (c.1 ∙ ap (λ (q : Input). at c.0 (tok.Op op.Colon) ∷ q.ahead) d.1); is = d.0; kept = c.2 ∙ ap (λ (q : Input). q.front) d.1 }
later_by_sound _ t ts front x j is e = absurd (no_err front x j e)

pub later_sound : Sound later_text later_tree later
unfolding later
later_sound i x j e = go i.ahead e
  where
    go : (ts : List Token) → later_by (kind_at ts) (input ts i.front) ≡ done x j → Found later_text later_tree (input ts i.front) x j
    go [] e = absurd (no_err i.front x j e)
    go (t ∷ ts) e = later_by_sound t.kind t ts i.front x j refl e

-- ---- where it stops

test_keeps : Keeps one_test
test_keeps = sound_keeps test_text test_tree one_test one_test_sound

alone_fails : Fails word_alone
unfolding word_alone
alone_fails = fails_take _ (expect_fails (mark.Op op.Colon))

alone_keeps : Keeps word_alone
unfolding word_alone
alone_keeps = keeps_take (λ _. expect (mark.Op op.Colon)) (keeps_expect (mark.Op op.Colon))

condition_fails : Fails condition
unfolding condition
condition_fails = fails_take _ (fails_bind one_test _ test_keeps one_test_fails (λ x. fails_expect (mark.Op op.Colon) _ (fails_pure x)))

condition_keeps : Keeps condition
unfolding condition
condition_keeps = keeps_take (λ _. one_test >>= (λ test. expect (mark.Op op.Colon) >> pure test)) (keeps_bind one_test _ test_keeps (λ x. keeps_bind (expect (mark.Op op.Colon)) _ (keeps_expect (mark.Op op.Colon)) (λ _. keeps_pure x)))

for_fails : Fails for_head
unfolding for_head iterated
for_fails = fails_take _ (fails_bind all_targets _ (sound_keeps aims_text aims_tree all_targets all_targets_sound) all_targets_fails (λ target. fails_expect (mark.Word word.In) _
    (fails_bind all_tests _ (sound_keeps members_text members_tree all_tests all_tests_sound) all_tests_fails (λ over. fails_expect (mark.Op op.Colon) _ (fails_pure (head.For target over))))))

parameter_fails : Fails parameter
unfolding parameter
parameter_fails = fails_bind name _ name_keeps name_fails (λ text. fails_eat (mark.Op op.Assign) _ (λ b. fails_if b _ _
    (fails_bind one_test _ test_keeps one_test_fails (λ x. fails_pure (param_of text (Some x)))) (fails_pure (param_of text None))))

parameters_fails : Fails parameters
unfolding parameters
parameters_fails i d e = fails_if (sees (mark.Op op.CloseParen) i) (pure []) (series parameter true) (fails_pure []) (series_fails parameter true (sound_keeps parameter_text parameter_tree parameter parameter_sound) parameter_fails) i d e

fitting_fails : (text : List ℕ) (params : List Param) → Fails (fitting text params)
fitting_fails text params = fails_if (params_fit params) _ _ (fails_pure (head.Def text params)) fails_refuse

def_fails : Fails def_head
unfolding def_head defined
def_fails = fails_take _ (fails_bind name _ name_keeps name_fails (λ text. fails_expect (mark.Op op.OpenParen) _
    (fails_bind parameters _ (sound_keeps parameters_text parameters_list parameters parameters_sound) parameters_fails (λ params. fails_expect (mark.Op op.CloseParen) _ (fails_expect (mark.Op op.Colon) _ (fitting_fails text params))))))

first_by_fails : (kind : Tok) → Fails (first_by kind)
first_by_fails (tok.Word word.If) = fails_bind condition _ condition_keeps condition_fails (λ x. fails_pure (head.If x))
first_by_fails (tok.Word word.While) = fails_bind condition _ condition_keeps condition_fails (λ x. fails_pure (head.While x))
first_by_fails (tok.Word word.For) = for_fails
first_by_fails (tok.Word word.Try) = fails_bind word_alone _ alone_keeps alone_fails (λ _. fails_pure head.Try)
first_by_fails (tok.Word word.Def) = def_fails
first_by_fails _ = fails_refuse

pub first_fails : Fails first
unfolding first
first_fails = fails_peek first_by first_by_fails

naming_fails : Fails naming
unfolding naming
naming_fails = fails_eat (mark.Word word.As) _ (λ b. fails_if b _ _ (fails_bind name _ name_keeps name_fails (λ text. fails_pure (Some text))) (fails_pure None))

catching_fails : Fails catching
unfolding catching
catching_fails = fails_bind one_test _ test_keeps one_test_fails (λ test. fails_bind naming _ (sound_keeps naming_text naming_tree naming naming_sound) naming_fails (λ text. fails_expect (mark.Op op.Colon) _ (fails_pure (header.Except (Some test) text))))

except_fails : Fails except_header
unfolding except_header
except_fails = fails_take _ (fails_eat (mark.Op op.Colon) _ (λ all. fails_if all _ _ (fails_pure (header.Except None None)) catching_fails))

later_by_fails : (kind : Tok) → Fails (later_by kind)
later_by_fails (tok.Word word.Elif) = fails_bind condition _ condition_keeps condition_fails (λ x. fails_pure (header.Elif x))
later_by_fails (tok.Word word.Else) = fails_bind word_alone _ alone_keeps alone_fails (λ _. fails_pure header.Else)
later_by_fails (tok.Word word.Except) = except_fails
later_by_fails (tok.Word word.Finally) = fails_bind word_alone _ alone_keeps alone_fails (λ _. fails_pure header.Finally)
later_by_fails _ = fails_refuse

pub later_fails : Fails later
unfolding later
later_fails = fails_peek later_by later_by_fails
