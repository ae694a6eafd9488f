-- What is read as statements is read by the grammar.
use Rattle.std.proofs.Common.{◌≡◌, ℕ, zero, suc, ◌+◌, ◌<◌, ◌≤◌, ◌⊎◌, inl, inr, Bool, true, false, cond, List, [], ◌∷◌, ◌++◌, length, Option, Some, None, Ok, Err, refl, sym, ap, subst, ◌∙◌, arith, append_assoc}
use Rattle.std.proofs.lemmas.List.{append-nil}
use Rattle.py_tokens.specs.declared.token.Tok.{Tok}
use Rattle.py_tokens.specs.declared.token.Tok.TheVariants as tok
use Rattle.py_tokens.specs.declared.token.Token.{Token}
use Rattle.py_tree.specs.declared.stmt.Stmt.{Stmt}
use Rattle.py_expressions.specs.declared.cursor.Mark.TheVariants as mark
use Rattle.py_expressions.specs.Input.{Place, at, Input, Outcome, Parser, and_then, ◌>>=◌, pure, kind_at, sees, after, expect, next}
use Rattle.py_expressions.specs.Laws.{input, Found, Sound}
use Rattle.py_expressions.proofs.Steps.{done, bind_ok, done_is, no_err, chosen, after_false, taken, expect_ok}
use Rattle.py_statements.specs.Reading.{line_at, stmt_of, one_line}
use Rattle.py_statements.specs.Grammar.{Line, line_text, line_tree}
use Rattle.py_parser.specs.declared.clause.Head.{Head}
use Rattle.py_parser.specs.declared.clause.Header.{Header}
use Rattle.py_parser.specs.declared.clause.Stage.{Stage}
use Rattle.py_parser.specs.declared.clause.Parts.{Parts}
use Rattle.py_parser.specs.Clauses.{may_follow, may_end, first_stage, behind, begins_compound, goes_on, no_parts, with_clause, kind_of}
use Rattle.py_parser.specs.Grammar.{First, first_text, first_tree, first_line, Later, if_, while_, for_, try_, def_, elif, else_, except, except_all, finally, later_text, later_tree, later_line, later_word, Statement, simple, compound, Suite, inline, block, Statements, no_statement, more, Clauses, ends, clause, statement_text, suite_text, statements_text, clauses_text, statement_list, suite_list, statements_list, clauses_parts}
use Rattle.py_parser.specs.Reading as read
use Rattle.py_parser.specs.Reading.{marked, marked_if, ended}
use Rattle.py_parser.proofs.Below.{Below}

-- a reading of what was read, wherever the front has come to
pub record Seen {C A : Type 0} (text : C → List Token → List Token) (tree : C → A) (i : Input) (x : A) (j : Input) : Type 0 where
  pub reading : C
  pub spelled : i.ahead ≡ text reading j.ahead
  pub is : tree reading ≡ x

abbrev pub Sees : {C A : Type 0} → (C → List Token → List Token) → (C → A) → Parser A → Type 0
Sees {A} text tree p = (i : Input) (x : A) (j : Input) → p i ≡ done x j → Seen text tree i x j

pub first_line_is : (one : First) (rest : List Token) → first_line one ≡ line_at (first_text one rest)
first_line_is (if_ l t c) rest = refl
first_line_is (while_ l t c) rest = refl
first_line_is (for_ l gs r m c) rest = refl
first_line_is (try_ l c) rest = refl
first_line_is (def_ l n b ps fit e c) rest = refl

pub first_begins : (one : First) (rest : List Token) → begins_compound (kind_at (first_text one rest)) ≡ true
first_begins (if_ l t c) rest = refl
first_begins (while_ l t c) rest = refl
first_begins (for_ l gs r m c) rest = refl
first_begins (try_ l c) rest = refl
first_begins (def_ l n b ps fit e c) rest = refl

pub later_line_is : (one : Later) (rest : List Token) → later_line one ≡ line_at (later_text one rest)
later_line_is (elif l t c) rest = refl
later_line_is (else_ l c) rest = refl
later_line_is (except l t n c) rest = refl
later_line_is (except_all l c) rest = refl
later_line_is (finally l c) rest = refl

pub later_begins : (one : Later) (rest : List Token) → kind_at (later_text one rest) ≡ tok.Word (later_word one)
later_begins (elif l t c) rest = refl
later_begins (else_ l c) rest = refl
later_begins (except l t n c) rest = refl
later_begins (except_all l c) rest = refl
later_begins (finally l c) rest = refl

pub marked_ahead : (b : Bool) (i : Input) → (marked_if b i).ahead ≡ i.ahead
marked_ahead true i = refl
marked_ahead false i = refl

pub ended_ok : (b : Bool) (parts x : Parts) (i j : Input) → ended b parts i ≡ done x j → (b ≡ true) × (parts ≡ x) × (i ≡ j)
ended_ok true parts x i j e = let d = done_is parts x i j e in (refl, d.0, d.1)
ended_ok false parts x i j e = absurd (no_err i.front x j e)

-- one statement at least, and the Dedent
pub record Blocked (found : List Stmt) (i : Input) (x : List Stmt) (j : Input) : Type 0 where
  pub one : Statement
  pub others : Statements
  pub last : Place
  pub spelled : i.ahead ≡ statement_text one (statements_text others (at last tok.Dedent ∷ j.ahead))
  pub is : found ++ (statement_list one ++ statements_list others) ≡ x

pub record Claused (stage : Stage) (parts : Parts) (i : Input) (x : Stage × Parts) (j : Input) : Type 0 where
  pub its : Later
  pub body : Suite
  pub spelled : i.ahead ≡ later_text its (suite_text body j.ahead)
  pub is : (behind stage (later_tree its), with_clause (later_line its) (later_tree its) (suite_list body) parts) ≡ x

module _ (laws : Below) where
  module _ (inner : Parser (List Stmt)) (inner_sound : Sees statement_text statement_list inner) where
    pub block_from_sound : (n : ℕ) (found : List Stmt) (i : Input) (x : List Stmt) (j : Input) → read.block_from inner n found i ≡ done x j → Blocked found i x j
    unfolding read.block_from
    block_from_sound zero found i x j e = absurd (no_err i.front x j e)
    block_from_sound (suc n) found i x j e =
        let b = bind_ok (inner i) _ x j e in
        let t = inner_sound i b.0 b.1 b.2 in
        elim (chosen (sees mark.Dedent (marked b.1)) _ _ (after mark.Dedent (marked b.1)) (done x j) b.3) [
          | inl w ↦
              let c = taken mark.Dedent (marked b.1) w.0 in
              let d = done_is (found ++ b.0) x (after mark.Dedent (marked b.1)) j w.1 in
              record {
                one = t.reading;
                others = no_statement;
                last = c.0;
                spelled = t.spelled ∙ ap (statement_text t.reading) (c.1 ∙ ap (λ (m : Input). at c.0 tok.Dedent ∷ m.ahead) d.1);
                is = ap (λ h. found ++ h) (append-nil (statement_list t.reading) ∙ t.is) ∙ d.0;
              }
          | inr w ↦
              let a = after_false mark.Dedent (marked b.1) w.0 in
              let f = block_from_sound n (found ++ b.0) (after mark.Dedent (marked b.1)) x j w.1 in
              record {
                one = t.reading;
                others = more f.one f.others;
                last = f.last;
                spelled = t.spelled ∙ ap (statement_text t.reading) (ap (λ (m : Input). m.ahead) (sym a) ∙ f.spelled);
                is = ap (λ h. found ++ (h ++ (statement_list f.one ++ statements_list f.others))) t.is ∙ sym (append_assoc found b.0 (statement_list f.one ++ statements_list f.others)) ∙ f.is;
              }
        ]

    pub suite_sound : Sees suite_text suite_list (read.suite inner)
    unfolding read.suite read.block read.whole_block
    suite_sound i x j e =
        elim (chosen (sees mark.Newline i) _ _ (after mark.Newline i) (done x j) e) [
          | inl w ↦
              let c = taken mark.Newline i w.0 in
              let b = bind_ok (expect mark.Indent (after mark.Newline i)) _ x j w.1 in
              let d = expect_ok mark.Indent (after mark.Newline i) b.1 b.0 b.2 in
              let f = block_from_sound (length b.1.ahead) [] (marked b.1) x j b.3 in
              record { reading = block c.0 d.0 f.one f.others f.last; spelled = c.1 ∙ ap (λ q. at c.0 tok.Newline ∷ q) (d.1 ∙ ap (λ q. at d.0 tok.Indent ∷ q) f.spelled); is = f.is }
          | inr w ↦
              let a = after_false mark.Newline i w.0 in
              let f = laws.line_sound (after mark.Newline i) x j w.1 in
              record { reading = inline f.reading; spelled = ap (λ (m : Input). m.ahead) (sym a) ∙ f.spelled; is = f.is }
        ]

    pub one_clause_sound : (stage : Stage) (parts : Parts) (i : Input) (x : Stage × Parts) (j : Input) → read.one_clause inner stage parts i ≡ done x j → Claused stage parts i x j
    unfolding read.one_clause
    one_clause_sound stage parts i x j e =
        let b = bind_ok (read.later i) _ x j e in
        let f = laws.later_sound i b.0 b.1 b.2 in
        let c = bind_ok (read.suite inner b.1) _ x j b.3 in
        let g = suite_sound b.1 c.0 c.1 c.2 in
        let d = done_is (behind stage b.0, with_clause (line_at i.ahead) b.0 c.0 parts) x c.1 j c.3 in
        let line : later_line f.reading ≡ line_at i.ahead = later_line_is f.reading b.1.ahead ∙ sym (ap line_at f.spelled) in
        record {
          its = f.reading;
          body = g.reading;
          spelled = f.spelled ∙ ap (later_text f.reading) (g.spelled ∙ ap (λ (m : Input). suite_text g.reading m.ahead) d.1);
          is = ap (λ (h : Header). (behind stage h, with_clause (later_line f.reading) h (suite_list g.reading) parts)) f.is
              ∙ ap (λ (q : List Stmt). (behind stage b.0, with_clause (later_line f.reading) b.0 q parts)) g.is
              ∙ ap (λ (n : ℕ). (behind stage b.0, with_clause n b.0 c.0 parts)) line ∙ d.0;
        }

    pub clauses_sound : (n : ℕ) (stage : Stage) (parts : Parts) (i : Input) (x : Parts) (j : Input) → read.clauses inner n stage parts i ≡ done x j → Seen (clauses_text {stage = stage}) (λ cs. clauses_parts cs parts) i x j
    unfolding read.clauses
    clauses_sound zero stage parts i x j e =
        let d = ended_ok (may_end stage) parts x (marked_if (may_end stage) i) j e in
        record { reading = ends d.0; spelled = sym (marked_ahead (may_end stage) i) ∙ ap (λ (q : Input). q.ahead) d.2; is = d.1 }
    clauses_sound (suc n) stage parts i x j e =
        let m = marked_if (may_end stage) i in
        elim (chosen (goes_on stage (kind_at m.ahead)) _ _ m (done x j) e) [
          | inl w ↦
              let b = bind_ok (read.one_clause inner stage parts m) _ x j w.1 in
              let f = one_clause_sound stage parts m b.0 b.1 b.2 in
              let g = clauses_sound n b.0.0 b.0.1 b.1 x j b.3 in
              let h = subst (λ (q : Stage × Parts). Seen (clauses_text {stage = q.0}) (λ cs. clauses_parts cs q.1) b.1 x j) (sym f.is) g in
              let follows : may_follow stage (later_word f.its) ≡ true = sym (ap (goes_on stage) (ap kind_at f.spelled ∙ later_begins f.its (suite_text f.body b.1.ahead))) ∙ w.0 in
              record {
                reading = clause f.its follows f.body h.reading;
                spelled = sym (marked_ahead (may_end stage) i) ∙ f.spelled ∙ ap (λ q. later_text f.its (suite_text f.body q)) h.spelled;
                is = h.is;
              }
          | inr w ↦
              let d = ended_ok (may_end stage) parts x m j w.1 in
              record { reading = ends d.0; spelled = sym (marked_ahead (may_end stage) i) ∙ ap (λ (q : Input). q.ahead) d.2; is = d.1 }
        ]

    compound_sound : Sees statement_text statement_list (read.stmt_if inner true)
    unfolding read.compound read.finished read.all_clauses
    compound_sound i x j e =
        let a = bind_ok (read.compound inner i) _ x j e in
        let b = bind_ok (read.first i) _ a.0 a.1 a.2 in
        let f = laws.first_sound i b.0 b.1 b.2 in
        let c = bind_ok (read.suite inner b.1) _ a.0 a.1 b.3 in
        let g = suite_sound b.1 c.0 c.1 c.2 in
        let d = bind_ok (read.clauses inner (length c.1.ahead) (first_stage b.0) no_parts c.1) _ a.0 a.1 c.3 in
        let h = clauses_sound (length c.1.ahead) (first_stage b.0) no_parts c.1 d.0 d.1 d.2 in
        let k = subst (λ (q : Head). Seen (clauses_text {stage = first_stage q}) (λ cs. clauses_parts cs no_parts) c.1 d.0 d.1) (sym f.is) h in
        let u = done_is (stmt_of (line_at i.ahead) (kind_of (line_at i.ahead) b.0 c.0 d.0)) a.0 d.1 a.1 d.3 in
        let v = done_is (a.0 ∷ []) x a.1 j a.3 in
        let line : first_line f.reading ≡ line_at i.ahead = first_line_is f.reading b.1.ahead ∙ sym (ap line_at f.spelled) in
        let l = first_line f.reading in
        record {
          reading = compound f.reading g.reading k.reading;
          spelled = f.spelled ∙ ap (first_text f.reading) (g.spelled ∙ ap (suite_text g.reading) (k.spelled ∙ ap (λ (q : Input). clauses_text k.reading q.ahead) (u.1 ∙ v.1)));
          is = ap (λ (q : Head). stmt_of l (kind_of l q (suite_list g.reading) (clauses_parts k.reading no_parts)) ∷ []) f.is
              ∙ ap (λ (q : List Stmt). stmt_of l (kind_of l b.0 q (clauses_parts k.reading no_parts)) ∷ []) g.is
              ∙ ap (λ (q : Parts). stmt_of l (kind_of l b.0 c.0 q) ∷ []) k.is
              ∙ ap (λ (n : ℕ). stmt_of n (kind_of n b.0 c.0 d.0) ∷ []) line ∙ ap (λ (q : Stmt). q ∷ []) u.0 ∙ v.0;
        }

    stmt_if_sound : (b : Bool) → Sees statement_text statement_list (read.stmt_if inner b)
    stmt_if_sound true i x j e = compound_sound i x j e
    stmt_if_sound false i x j e = let f = laws.line_sound i x j e in record { reading = simple f.reading; spelled = f.spelled; is = f.is }

    pub stmt_with_sound : Sees statement_text statement_list (read.stmt_with inner)
    unfolding read.stmt_with
    stmt_with_sound i x j e = stmt_if_sound (begins_compound (kind_at i.ahead)) i x j e

    -- a front ends before the Dedent of a block
    pub block_from_mark : (n : ℕ) (found : List Stmt) (i : Input) (x : List Stmt) (j : Input) → read.block_from inner n found i ≡ done x j → j.front ≡ suc (length j.ahead)
    unfolding read.block_from
    block_from_mark zero found i x j e = absurd (no_err i.front x j e)
    block_from_mark (suc n) found i x j e =
        let b = bind_ok (inner i) _ x j e in
        elim (chosen (sees mark.Dedent (marked b.1)) _ _ (after mark.Dedent (marked b.1)) (done x j) b.3) [
          | inl w ↦
              let c = taken mark.Dedent (marked b.1) w.0 in
              let d = done_is (found ++ b.0) x (after mark.Dedent (marked b.1)) j w.1 in
              sym (c.2 ∙ ap (λ (q : Input). q.front) d.1) ∙ ap length (c.1 ∙ ap (λ (q : Input). at c.0 tok.Dedent ∷ q.ahead) d.1)
          | inr w ↦ block_from_mark n (found ++ b.0) (after mark.Dedent (marked b.1)) x j w.1
        ]

    -- where the front is behind a suite
    pub record InBlockRead (i j : Input) : Type 0 where
      pub newline : Place
      pub indent : Place
      pub all : Statements
      pub last : Place
      pub spelled : i.ahead ≡ at newline tok.Newline ∷ at indent tok.Indent ∷ statements_text all (at last tok.Dedent ∷ j.ahead)
      pub mark : j.front ≡ suc (length j.ahead)

    pub suite_mark : (i : Input) (x : List Stmt) (j : Input) → read.suite inner i ≡ done x j → (i.front ≡ j.front) ⊎ InBlockRead i j
    unfolding read.suite read.block read.whole_block
    suite_mark i x j e =
        elim (chosen (sees mark.Newline i) _ _ (after mark.Newline i) (done x j) e) [
          | inl w ↦
              let c = taken mark.Newline i w.0 in
              let b = bind_ok (expect mark.Indent (after mark.Newline i)) _ x j w.1 in
              let d = expect_ok mark.Indent (after mark.Newline i) b.1 b.0 b.2 in
              let f = block_from_sound (length b.1.ahead) [] (marked b.1) x j b.3 in
              inr (record {
                newline = c.0;
                indent = d.0;
                all = more f.one f.others;
                last = f.last;
                spelled = c.1 ∙ ap (λ q. at c.0 tok.Newline ∷ q) (d.1 ∙ ap (λ q. at d.0 tok.Indent ∷ q) f.spelled);
                mark = block_from_mark (length b.1.ahead) [] (marked b.1) x j b.3;
              })
          | inr w ↦
              let a = after_false mark.Newline i w.0 in
              let f = laws.line_sound (after mark.Newline i) x j w.1 in
              inl (ap (λ (q : Input). q.front) (sym a) ∙ f.kept)
        ]

  pub stmt_sound : (d : ℕ) → Sees statement_text statement_list (read.stmt d)
  unfolding read.stmt
  stmt_sound zero i x j e = absurd (no_err i.front x j e)
  stmt_sound (suc d) i x j e = stmt_with_sound (read.stmt d) (stmt_sound d) i x j e
