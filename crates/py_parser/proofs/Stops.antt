-- Where reading stops, a front ends.
use Rattle.std.proofs.Common.{◌≡◌, ℕ, zero, suc, ◌+◌, ◌<◌, ◌≤◌, ◌⊎◌, inl, inr, Bool, true, false, cond, List, [], ◌∷◌, ◌++◌, length, Option, Some, None, Ok, Err, refl, sym, ap, subst, ◌∙◌, arith}
use Rattle.py_tokens.specs.declared.token.Tok.{Tok}
use Rattle.py_tokens.specs.declared.token.Tok.TheVariants as tok
use Rattle.py_tokens.specs.declared.token.Token.{Token}
use Rattle.py_tree.specs.declared.stmt.Stmt.{Stmt}
use Rattle.py_expressions.specs.declared.cursor.Mark.{Mark}
use Rattle.py_expressions.specs.declared.cursor.Mark.TheVariants as mark
use Rattle.py_expressions.specs.Input.{Place, at, Input, Outcome, Parser, and_then, ◌>>=◌, pure, kind_at, sees, after, expect, next}
use Rattle.py_expressions.specs.Laws.{input, Found, Sound, Fails}
use Rattle.py_expressions.proofs.Steps.{done, stopped, bind_ok, bind_err, done_is, no_err, no_ok, err_is, chosen, after_false, after_front, taken, expect_ok}
use Rattle.py_statements.specs.Reading.{line_at, stmt_of, one_line}
use Rattle.py_parser.specs.declared.clause.Head.{Head}
use Rattle.py_parser.specs.declared.clause.Header.{Header}
use Rattle.py_parser.specs.declared.clause.Stage.{Stage}
use Rattle.py_parser.specs.declared.clause.Stage.TheVariants.{Tried, Handlers, LastHandler}
use Rattle.py_parser.specs.declared.clause.Parts.{Parts}
use Rattle.py_parser.specs.declared.clause.Header.TheVariants as header
use Rattle.py_parser.specs.Clauses.{may_follow, may_end, first_stage, behind, behind_else, behind_except, begins_compound, goes_on, no_parts, with_clause, kind_of}
use Rattle.py_parser.specs.Grammar.{First, first_text, first_tree, Later, later_text, later_tree, later_word, Statement, simple, compound, Suite, Statements, no_statement, more, Clauses, ends, clause, statement_text, suite_text, statements_text, clauses_text, statement_list}
use Rattle.py_parser.specs.Fronts.{Front, whole, opened, Open, in_first, behind_first, OpenClauses, in_later, behind_later, front_text, open_text, open_clauses_text}
use Rattle.py_parser.specs.Reading as read
use Rattle.py_parser.specs.Reading.{marked, marked_if, ended}
use Rattle.py_parser.proofs.Below.{Below}
use Rattle.py_parser.proofs.Sounder.{Seen, Sees, marked_ahead, later_begins, block_from_sound, suite_sound, suite_mark, one_clause_sound, stmt_sound}

pub expect_fails : (m : Mark) → Fails (expect m)
unfolding expect
expect_fails m i d e = go (sees m i) e
  where
    go : (b : Bool) → cond b (done (tt {0}) (next i)) (Err i.front) ≡ stopped d → d ≡ i.front
    go true e = absurd (no_ok (tt {0}) (next i) d e)
    go false e = sym (err_is {A = Unit {0}} i.front d e)

-- a front ends where it stops
pub record Stop (i : Input) (d : ℕ) : Type 0 where
  pub front : Front
  pub rest : List Token
  pub spelled : i.ahead ≡ front_text front rest
  pub is : d ≡ length rest

pub record InBlock (i : Input) (d : ℕ) : Type 0 where
  pub newline : Place
  pub indent : Place
  pub front : Front
  pub rest : List Token
  pub spelled : i.ahead ≡ at newline tok.Newline ∷ at indent tok.Indent ∷ front_text front rest
  pub is : d ≡ length rest

-- in the block of a further clause
pub record InClause (i : Input) (d : ℕ) : Type 0 where
  pub its : Later
  pub newline : Place
  pub indent : Place
  pub front : Front
  pub rest : List Token
  pub spelled : i.ahead ≡ later_text its (at newline tok.Newline ∷ at indent tok.Indent ∷ front_text front rest)
  pub is : d ≡ length rest

-- behind clauses with which the statement may end
pub record BehindClauses (stage : Stage) (i : Input) (d : ℕ) : Type 0 where
  pub clauses : Clauses stage
  pub rest : List Token
  pub spelled : i.ahead ≡ clauses_text clauses rest
  pub is : d ≡ length rest

-- in a clause
pub record InClauses (stage : Stage) (i : Input) (d : ℕ) : Type 0 where
  pub clauses : OpenClauses stage
  pub rest : List Token
  pub spelled : i.ahead ≡ open_clauses_text clauses rest
  pub is : d ≡ length rest

-- Where no further clause can be read: nothing was noted, since the statement may not end, or one of these.
abbrev pub Ending : Stage → Input → ℕ → Type 0
Ending stage i d = ((may_end stage ≡ false) × (d ≡ i.front)) ⊎ (BehindClauses stage i d ⊎ InClauses stage i d)

pub not_both : {b : Bool} → b ≡ true → b ≡ false → ⊥
not_both t f = cc

-- one more statement in front
abbrev pub front_before : Statement → Front → Front
front_before one (whole ss) = whole (more one ss)
front_before one (opened ss o) = opened (more one ss) o

pub front_before_text : (one : Statement) (f : Front) (rest : List Token) → front_text (front_before one f) rest ≡ statement_text one (front_text f rest)
front_before_text one (whole ss) rest = refl
front_before_text one (opened ss o) rest = refl

abbrev pub Stops : Parser (List Stmt) → Type 0
Stops p = (i : Input) (d : ℕ) → i.front ≡ length i.ahead → p i ≡ stopped d → Stop i d

-- nothing was read
pub stop_here : (i : Input) (d : ℕ) → i.front ≡ length i.ahead → d ≡ i.front → Stop i d
stop_here i d m e = record { front = whole no_statement; rest = i.ahead; spelled = refl; is = e ∙ m }

-- a statement may end behind each further clause
pub behind_ends : (stage : Stage) (h : Header) → may_end (behind stage h) ≡ true
behind_ends stage (header.Elif test) = refl
behind_ends Handlers header.Else = refl
behind_ends LastHandler header.Else = refl
behind_ends _ header.Else = refl
behind_ends stage (header.Except (Some test) text) = refl
behind_ends stage (header.Except None text) = refl
behind_ends stage header.Finally = refl

pub marked_front : (b : Bool) (i : Input) → b ≡ true → (marked_if b i).front ≡ length i.ahead
marked_front true i e = refl
marked_front false i e = absurd cc

pub unmarked : (b : Bool) (i : Input) → b ≡ false → marked_if b i ≡ i
unmarked true i e = absurd cc
unmarked false i e = refl

pub ended_err : (b : Bool) (parts : Parts) (i : Input) (d : ℕ) → ended b parts i ≡ stopped d → (b ≡ false) × (d ≡ i.front)
ended_err true parts i d e = absurd (no_ok parts i d e)
ended_err false parts i d e = (refl, sym (err_is {A = Parts} i.front d e))

module _ (laws : Below) where
  module _ (inner : Parser (List Stmt)) (inner_sound : Sees statement_text statement_list inner) (inner_stops : Stops inner) where
    pub block_from_stops : (n : ℕ) (found : List Stmt) (i : Input) (d : ℕ) → i.front ≡ length i.ahead → read.block_from inner n found i ≡ stopped d → Stop i d
    unfolding read.block_from
    block_from_stops zero found i d m e = stop_here i d m (sym (err_is {A = List Stmt} i.front d e))
    block_from_stops (suc n) found i d m e =
        elim (bind_err (inner i) _ d e) [
          | inl h ↦ inner_stops i d m h
          | inr b ↦
              let t = inner_sound i b.0 b.1 b.2 in
              elim (chosen (sees mark.Dedent (marked b.1)) _ _ (after mark.Dedent (marked b.1)) (stopped d) b.3) [
                | inl w ↦ absurd (no_ok (found ++ b.0) (after mark.Dedent (marked b.1)) d w.1)
                | inr w ↦
                    let a = after_false mark.Dedent (marked b.1) w.0 in
                    let f = block_from_stops n (found ++ b.0) (after mark.Dedent (marked b.1)) d (ap (λ (q : Input). q.front) a ∙ ap (λ (q : Input). length q.ahead) (sym a)) w.1 in
                    record {
                      front = front_before t.reading f.front;
                      rest = f.rest;
                      spelled = t.spelled ∙ ap (statement_text t.reading) (ap (λ (q : Input). q.ahead) (sym a) ∙ f.spelled) ∙ sym (front_before_text t.reading f.front f.rest);
                      is = f.is;
                    }
              ]
        ]

    pub suite_stops : (i : Input) (d : ℕ) → read.suite inner i ≡ stopped d → (d ≡ i.front) ⊎ InBlock i d
    unfolding read.suite read.block read.whole_block
    suite_stops i d e =
        elim (chosen (sees mark.Newline i) _ _ (after mark.Newline i) (stopped d) e) [
          | inl w ↦
              let c = taken mark.Newline i w.0 in
              elim (bind_err (expect mark.Indent (after mark.Newline i)) _ d w.1) [
                | inl h ↦ inl (expect_fails mark.Indent (after mark.Newline i) d h ∙ sym c.2)
                | inr b ↦
                    let r = expect_ok mark.Indent (after mark.Newline i) b.1 b.0 b.2 in
                    let f = block_from_stops (length b.1.ahead) [] (marked b.1) d refl b.3 in
                    inr (record { newline = c.0; indent = r.0; front = f.front; rest = f.rest; spelled = c.1 ∙ ap (λ q. at c.0 tok.Newline ∷ q) (r.1 ∙ ap (λ q. at r.0 tok.Indent ∷ q) f.spelled); is = f.is })
              ]
          | inr w ↦
              let a = after_false mark.Newline i w.0 in
              inl (laws.line_fails (after mark.Newline i) d w.1 ∙ ap (λ (q : Input). q.front) a)
        ]

    pub one_clause_stops : (stage : Stage) (parts : Parts) (i : Input) (d : ℕ) → read.one_clause inner stage parts i ≡ stopped d → (d ≡ i.front) ⊎ InClause i d
    unfolding read.one_clause
    one_clause_stops stage parts i d e =
        elim (bind_err (read.later i) _ d e) [
          | inl h ↦ inl (laws.later_fails i d h)
          | inr b ↦
              let t = laws.later_sound i b.0 b.1 b.2 in
              elim (bind_err (read.suite inner b.1) _ d b.3) [
                | inl h ↦
                    elim (suite_stops b.1 d h) [
                      | inl v ↦ inl (v ∙ sym t.kept)
                      | inr v ↦ inr (record { its = t.reading; newline = v.newline; indent = v.indent; front = v.front; rest = v.rest; spelled = t.spelled ∙ ap (later_text t.reading) v.spelled; is = v.is })
                    ]
                | inr c ↦ absurd (no_ok (behind stage b.0, with_clause (line_at i.ahead) b.0 c.0 parts) c.1 d c.3)
              ]
        ]

    -- what was noted where a clause can't be read
    noted : (stage : Stage) (b : Bool) → may_end stage ≡ b → (i : Input) (d : ℕ) → d ≡ (marked_if (may_end stage) i).front → Ending stage i d
    noted stage true is i d e = inr (inl (record { clauses = ends is; rest = i.ahead; spelled = refl; is = e ∙ marked_front (may_end stage) i is }))
    noted stage false is i d e = inl (is, e ∙ ap (λ (q : Input). q.front) (unmarked (may_end stage) i is))

    pub clauses_stops : (n : ℕ) (stage : Stage) (parts : Parts) (i : Input) (d : ℕ) → read.clauses inner n stage parts i ≡ stopped d → Ending stage i d
    unfolding read.clauses
    clauses_stops zero stage parts i d e =
        let v = ended_err (may_end stage) parts (marked_if (may_end stage) i) d e in
        noted stage (may_end stage) refl i d v.1
    clauses_stops (suc n) stage parts i d e =
        let m = marked_if (may_end stage) i in
        elim (chosen (goes_on stage (kind_at m.ahead)) _ _ m (stopped d) e) [
          | inl w ↦
              elim (bind_err (read.one_clause inner stage parts m) _ d w.1) [
                | inl h ↦
                    elim (one_clause_stops stage parts m d h) [
                      | inl v ↦ noted stage (may_end stage) refl i d v
                      | inr v ↦
                          let follows : may_follow stage (later_word v.its) ≡ true = sym (ap (goes_on stage) (ap kind_at v.spelled ∙ later_begins v.its (at v.newline tok.Newline ∷ at v.indent tok.Indent ∷ front_text v.front v.rest))) ∙ w.0 in
                          inr (inr (record { clauses = in_later v.its follows v.newline v.indent v.front; rest = v.rest; spelled = sym (marked_ahead (may_end stage) i) ∙ v.spelled; is = v.is }))
                    ]
                | inr b ↦
                    let f = one_clause_sound laws inner inner_sound stage parts m b.0 b.1 b.2 in
                    let g = subst (λ (q : Stage × Parts). Ending q.0 b.1 d) (sym f.is) (clauses_stops n b.0.0 b.0.1 b.1 d b.3) in
                    let follows : may_follow stage (later_word f.its) ≡ true = sym (ap (goes_on stage) (ap kind_at f.spelled ∙ later_begins f.its (suite_text f.body b.1.ahead))) ∙ w.0 in
                    let first' = sym (marked_ahead (may_end stage) i) ∙ f.spelled in
                    elim g [
                      | inl v ↦ absurd (not_both (behind_ends stage (later_tree f.its)) v.0)
                      | inr p ↦
                          elim p [
                            | inl v ↦ inr (inl (record { clauses = clause f.its follows f.body v.clauses; rest = v.rest; spelled = first' ∙ ap (λ q. later_text f.its (suite_text f.body q)) v.spelled; is = v.is }))
                            | inr v ↦ inr (inr (record { clauses = behind_later f.its follows f.body v.clauses; rest = v.rest; spelled = first' ∙ ap (λ q. later_text f.its (suite_text f.body q)) v.spelled; is = v.is }))
                          ]
                    ]
              ]
          | inr w ↦ let v = ended_err (may_end stage) parts m d w.1 in noted stage (may_end stage) refl i d v.1
        ]

    compound_stops : (i : Input) (d : ℕ) → i.front ≡ length i.ahead → read.compound inner i ≡ stopped d → Stop i d
    unfolding read.compound read.finished read.all_clauses
    compound_stops i d m e =
        elim (bind_err (read.first i) _ d e) [
          | inl h ↦ stop_here i d m (laws.first_fails i d h)
          | inr b ↦
              let f = laws.first_sound i b.0 b.1 b.2 in
              elim (bind_err (read.suite inner b.1) _ d b.3) [
                | inl h ↦
                    elim (suite_stops b.1 d h) [
                      | inl v ↦ stop_here i d m (v ∙ sym f.kept)
                      | inr v ↦ record { front = opened no_statement (in_first f.reading v.newline v.indent v.front); rest = v.rest; spelled = f.spelled ∙ ap (first_text f.reading) v.spelled; is = v.is }
                    ]
                | inr c ↦
                    let g = suite_sound laws inner inner_sound b.1 c.0 c.1 c.2 in
                    elim (bind_err (read.clauses inner (length c.1.ahead) (first_stage b.0) no_parts c.1) _ d c.3) [
                      | inl h ↦
                          let k = subst (λ (q : Head). Ending (first_stage q) c.1 d) (sym f.is) (clauses_stops (length c.1.ahead) (first_stage b.0) no_parts c.1 d h) in
                          elim k [
                            | inl v ↦
                                elim (suite_mark laws inner inner_sound b.1 c.0 c.1 c.2) [
                                  | inl w ↦ stop_here i d m (v.1 ∙ sym (f.kept ∙ w))
                                  | inr w ↦ record { front = opened no_statement (in_first f.reading w.newline w.indent (whole w.all)); rest = at w.last tok.Dedent ∷ c.1.ahead; spelled = f.spelled ∙ ap (first_text f.reading) w.spelled; is = v.1 ∙ w.mark }
                                ]
                            | inr p ↦
                                elim p [
                                  | inl v ↦ record { front = whole (more (compound f.reading g.reading v.clauses) no_statement); rest = v.rest; spelled = f.spelled ∙ ap (first_text f.reading) (g.spelled ∙ ap (suite_text g.reading) v.spelled); is = v.is }
                                  | inr v ↦ record { front = opened no_statement (behind_first f.reading g.reading v.clauses); rest = v.rest; spelled = f.spelled ∙ ap (first_text f.reading) (g.spelled ∙ ap (suite_text g.reading) v.spelled); is = v.is }
                                ]
                          ]
                      | inr u ↦ absurd (no_ok (stmt_of (line_at i.ahead) (kind_of (line_at i.ahead) b.0 c.0 u.0)) u.1 d u.3)
                    ]
              ]
        ]

    stmt_if_stops : (b : Bool) → Stops (read.stmt_if inner b)
    stmt_if_stops true i d m e =
        elim (bind_err (read.compound inner i) _ d e) [
          | inl h ↦ compound_stops i d m h
          | inr a ↦ absurd (no_ok (a.0 ∷ []) a.1 d a.3)
        ]
    stmt_if_stops false i d m e = stop_here i d m (laws.line_fails i d e)

    pub stmt_with_stops : Stops (read.stmt_with inner)
    unfolding read.stmt_with
    stmt_with_stops i d m e = stmt_if_stops (begins_compound (kind_at i.ahead)) i d m e

  pub stmt_stops : (d : ℕ) → Stops (read.stmt d)
  unfolding read.stmt
  stmt_stops zero i d m e = stop_here i d m (sym (err_is {A = List Stmt} i.front d e))
  stmt_stops (suc n) i d m e = stmt_with_stops (read.stmt n) (stmt_sound laws n) (stmt_stops n) i d m e
