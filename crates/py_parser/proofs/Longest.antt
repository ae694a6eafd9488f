-- Reading does not stop inside a front.
use Rattle.std.proofs.Common.{◌≡◌, ℕ, zero, suc, ◌+◌, ◌-◌, ◌<◌, ◌≤◌, ◌⊎◌, inl, inr, Bool, true, false, cond, List, [], ◌∷◌, ◌++◌, length, Option, Some, None, Ok, Err, refl, sym, ap, subst, ◌∙◌, arith, append_assoc}
use Rattle.py_tokens.specs.declared.token.Tok.{Tok}
use Rattle.py_tokens.specs.declared.token.Tok.TheVariants as tok
use Rattle.py_tokens.specs.declared.token.Token.{Token}
use Rattle.py_tree.specs.declared.stmt.Stmt.{Stmt}
use Rattle.py_expressions.specs.declared.cursor.Mark.TheVariants as mark
use Rattle.py_expressions.specs.Input.{Place, at, Input, Outcome, Parser, and_then, ◌>>=◌, pure, kind_at, sees, after, next}
use Rattle.py_expressions.specs.Laws.{input}
use Rattle.py_expressions.proofs.Steps.{done, stopped, bind_ok, bind_err, done_is, after_true, after_false, taken}
use Rattle.py_statements.specs.Reading.{line_at, stmt_of, one_line}
use Rattle.py_statements.specs.Grammar.{line_text, line_tree}
use Rattle.py_parser.specs.declared.clause.Head.{Head}
use Rattle.py_parser.specs.declared.clause.Header.{Header}
use Rattle.py_parser.specs.declared.clause.Stage.{Stage}
use Rattle.py_parser.specs.declared.clause.Parts.{Parts}
use Rattle.py_parser.specs.Clauses.{may_follow, may_end, first_stage, behind, begins_compound, goes_on, no_parts, with_clause, kind_of}
use Rattle.py_parser.specs.Grammar.{First, first_text, first_tree, first_line, Later, later_text, later_tree, later_line, later_word, Statement, simple, compound, Suite, inline, block, Statements, no_statement, more, Clauses, ends, clause, statement_text, suite_text, statements_text, clauses_text, statement_list, suite_list, statements_list, clauses_parts}
use Rattle.py_parser.specs.Fronts.{Front, whole, opened, Open, in_first, behind_first, OpenClauses, in_later, behind_later, front_text, open_text, open_clauses_text}
use Rattle.py_parser.specs.Reading as read
use Rattle.py_parser.specs.Reading.{marked, marked_if}
use Rattle.py_parser.proofs.Below.{Below}
use Rattle.py_parser.proofs.Sizes.{statement_grows, suite_grows, statements_grow, clauses_grow, front_grows, open_clauses_grow}
use Rattle.py_parser.proofs.Sounder.{Seen, Sees, first_begins, later_begins, later_line_is, block_from_sound, block_from_mark, clauses_sound, stmt_sound}
use Rattle.py_parser.proofs.Completer.{begins_stmt, is_later, begins_no_later, compound_begins, no_dedent, marked_if_is, suite_block, clause_done, clauses_is, tail, compound_is, line_done, stmt_is, block_next, Done, statement_starts, statement_complete, suite_complete}
use Rattle.py_parser.proofs.Stops.{Stop, Stops, behind_ends, not_both, block_from_stops, clauses_stops, stmt_stops}

-- no more than `r` tokens are left
abbrev pub Bound : {A : Type 0} → Outcome A → ℕ → Type 0
Bound (Ok p) r = length p.1.ahead ≤ r
Bound (Err d) r = d ≤ r

pub bound_less : {A : Type 0} (o : Outcome A) (m r : ℕ) → m ≤ r → Bound o m → Bound o r
bound_less (Ok p) m r le h = omega (arith, h)
bound_less (Err d) m r le h = omega (arith, h)

pub bound_of : {A : Type 0} (o : Outcome A) (r : ℕ) → ((x : A) (j : Input) → o ≡ done x j → length j.ahead ≤ r) → ((d : ℕ) → o ≡ stopped d → d ≤ r) → Bound o r
bound_of (Ok p) r f g = f p.0 p.1 refl
bound_of (Err d) r f g = g d refl

pub bound_then : {A B : Type 0} (o : Outcome A) (q : A → Parser B) (r : ℕ) → Bound o r → ((x : A) (j : Input) → Bound (q x j) (length j.ahead)) → Bound (and_then o q) r
bound_then (Ok p) q r h g = bound_less (q p.0 p.1) (length p.1.ahead) r h (g p.0 p.1)
bound_then (Err d) q r h g = h

bound_pure : {A B : Type 0} (o : Outcome A) (f : A → B) (r : ℕ) → Bound o r → Bound (and_then o (λ x. pure (f x))) r
bound_pure (Ok p) f r h = h
bound_pure (Err d) f r h = h

-- what comes behind a value that was made of another
bound_made : {A B C : Type 0} (o : Outcome A) (f : A → B) (q : B → Parser C) (r : ℕ) → Bound o r → ((x : A) (j : Input) → Bound (q (f x) j) (length j.ahead)) → Bound (and_then (and_then o (λ x. pure (f x))) q) r
bound_made (Ok p) f q r h g = bound_less (q (f p.0) p.1) (length p.1.ahead) r h (g p.0 p.1)
bound_made (Err d) f q r h g = h

pub bound_is : {A : Type 0} (o q : Outcome A) (r : ℕ) → o ≡ q → Bound q r → Bound o r
bound_is o q r e h = subst (λ w. Bound w r) (sym e) h

bound_done : {A : Type 0} (o : Outcome A) (x : A) (rest : List Token) → Done o x rest → Bound o (length rest)
bound_done o x rest h = let le : length rest ≤ length rest = omega arith in bound_is o (Ok (x, input rest h.0)) (length rest) h.1 le

-- the same of a block, whose Dedent stands behind the front
abbrev pub Closed : {A : Type 0} → Outcome A → ℕ → Type 0
Closed (Ok p) r = (suc (length p.1.ahead) ≤ r) × (p.1.front ≡ suc (length p.1.ahead))
Closed (Err d) r = d ≤ r

closed_bound : {A : Type 0} (o : Outcome A) (r : ℕ) → Closed o r → Bound o r
closed_bound (Ok p) r h = omega (arith, h.0)
closed_bound (Err d) r h = h

closed_less : {A : Type 0} (o : Outcome A) (m r : ℕ) → m ≤ r → Closed o m → Closed o r
closed_less (Ok p) m r le h = (omega (arith, h.0), h.1)
closed_less (Err d) m r le h = omega (arith, h)

closed_of : {A : Type 0} (o : Outcome A) (r : ℕ) → ((x : A) (j : Input) → o ≡ done x j → (suc (length j.ahead) ≤ r) × (j.front ≡ suc (length j.ahead))) → ((d : ℕ) → o ≡ stopped d → d ≤ r) → Closed o r
closed_of (Ok p) r f g = f p.0 p.1 refl
closed_of (Err d) r f g = g d refl

closed_then : {A B : Type 0} (o : Outcome A) (q : A → Parser B) (r : ℕ) → Bound o r → ((x : A) (j : Input) → Closed (q x j) (length j.ahead)) → Closed (and_then o q) r
closed_then (Ok p) q r h g = closed_less (q p.0 p.1) (length p.1.ahead) r h (g p.0 p.1)
closed_then (Err d) q r h g = h

closed_is : {A : Type 0} (o q : Outcome A) (r : ℕ) → o ≡ q → Closed q r → Closed o r
closed_is o q r e h = subst (λ w. Closed w r) (sym e) h

-- what comes behind a block that was closed
bound_closed : {A B : Type 0} (o : Outcome A) (q : A → Parser B) (r : ℕ) → Closed o r → ((x : A) (j : Input) → j.front ≡ suc (length j.ahead) → Bound (q x j) (suc (length j.ahead))) → Bound (and_then o q) r
bound_closed (Ok p) q r h g = bound_less (q p.0 p.1) (suc (length p.1.ahead)) r h.0 (g p.0 p.1 h.1)
bound_closed (Err d) q r h g = h

block_is : (inner : Parser (List Stmt)) (n : ℕ) (found : List Stmt) (i : Input) → read.block_from inner (suc n) found i ≡ and_then (inner i) (λ some j. cond (sees mark.Dedent (marked j)) (pure (found ++ some)) (read.block_from inner n (found ++ some)) (after mark.Dedent (marked j)))
unfolding read.block_from
block_is inner n found i = refl

module _ (laws : Below) where
  pub stop_within : (i : Input) (d : ℕ) → Stop i d → d ≤ length i.ahead
  stop_within i d st = let g = front_grows laws st.front st.rest in let e = ap length st.spelled in let f = st.is in omega arith

  module _ (inner : Parser (List Stmt)) (inner_sound : Sees statement_text statement_list inner) (inner_stops : Stops inner) where
    -- clauses go on, and do not go back
    clauses_shrink : (n : ℕ) (stage : Stage) (parts : Parts) (i : Input) (r : ℕ) → length i.ahead ≤ r → (may_end stage ≡ false → i.front ≤ r) → Bound (read.clauses inner n stage parts i) r
    clauses_shrink n stage parts i r le lf = bound_of (read.clauses inner n stage parts i) r
        (λ x j e.
        let f = clauses_sound laws inner inner_sound n stage parts i x j e in
        let g = clauses_grow laws f.reading j.ahead in
        let len = ap length f.spelled in omega arith)
        (λ d e. elim (clauses_stops laws inner inner_sound inner_stops n stage parts i d e) [
          | inl v ↦ (let h = lf v.0 in let is = v.1 in omega arith)
          | inr p ↦
              elim p [
                | inl v ↦ (let g = clauses_grow laws v.clauses v.rest in let len = ap length v.spelled in let is = v.is in omega arith)
                | inr v ↦ (let g = open_clauses_grow laws v.clauses v.rest in let len = ap length v.spelled in let is = v.is in omega arith)
              ]
        ])

    tail_shrinks : (l : ℕ) (h : Head) (body : List Stmt) (i : Input) (r : ℕ) → length i.ahead ≤ r → i.front ≤ r → Bound (tail inner l h body i) r
    tail_shrinks l h body i r le lf =
        let o = read.clauses inner (length i.ahead) (first_stage h) no_parts i in
        bound_pure (and_then o (λ parts. pure (stmt_of l (kind_of l h body parts)))) (λ one. one ∷ []) r
        (bound_pure o (λ parts. stmt_of l (kind_of l h body parts)) r (clauses_shrink (length i.ahead) (first_stage h) no_parts i r le (λ _. lf)))

    block_shrinks : (n : ℕ) (found : List Stmt) (i : Input) → i.front ≡ length i.ahead → Closed (read.block_from inner n found i) (length i.ahead)
    block_shrinks n found i m = closed_of (read.block_from inner n found i) (length i.ahead)
        (λ x j e.
        let f = block_from_sound laws inner inner_sound n found i x j e in
        let e1 = ap length f.spelled in
        let g1 = statements_grow laws f.others (at f.last tok.Dedent ∷ j.ahead) in
        let g2 = statement_grows laws f.one (statements_text f.others (at f.last tok.Dedent ∷ j.ahead)) in
        (omega arith, block_from_mark laws inner inner_sound n found i x j e))
        (λ d e. stop_within i d (block_from_stops laws inner inner_sound inner_stops n found i d m e))

    -- the rest of a block
    block_goes_on : (n : ℕ) (found : List Stmt) (i : Input) (r : ℕ) → Bound (inner i) r → Closed (read.block_from inner (suc n) found i) r
    block_goes_on n found i r h = closed_is (read.block_from inner (suc n) found i) _ r (block_is inner n found i) (closed_then (inner i) _ r h (λ some j. by_end (found ++ some) j (sees mark.Dedent (marked j)) refl))
      where
        by_end : (all : List Stmt) (j : Input) (b : Bool) → sees mark.Dedent (marked j) ≡ b → Closed (cond b (pure all) (read.block_from inner n all) (after mark.Dedent (marked j))) (length j.ahead)
        by_end all j true e =
            let c = taken mark.Dedent (marked j) e in
            let len : length j.ahead ≡ suc (length (after mark.Dedent (marked j)).ahead) = ap length c.1 in
            (omega arith, sym c.2 ∙ len)
        by_end all j false e =
            let a = after_false mark.Dedent (marked j) e in
            let le : length (after mark.Dedent (marked j)).ahead ≤ length j.ahead = (let len = ap (λ (q : Input). length q.ahead) a in omega arith) in
            closed_less (read.block_from inner n all (after mark.Dedent (marked j))) (length (after mark.Dedent (marked j)).ahead) (length j.ahead) le
            (block_shrinks n all (after mark.Dedent (marked j)) (ap (λ (q : Input). q.front) a ∙ ap (λ (q : Input). length q.ahead) (sym a)))

  shrinks : (d n : ℕ) (stage : Stage) (parts : Parts) (i : Input) (r : ℕ) → length i.ahead ≤ r → (may_end stage ≡ false → i.front ≤ r) → Bound (read.clauses (read.stmt d) n stage parts i) r
  shrinks d = clauses_shrink (read.stmt d) (stmt_sound laws d) (stmt_stops laws d)

  clauses_reach : {stage : Stage} (cs : Clauses stage) (n d : ℕ) (parts : Parts) (rest : List Token) (front : ℕ) → length (clauses_text cs rest) ≤ n → length (clauses_text cs rest) ≤ suc d
      → Bound (read.clauses (read.stmt (suc d)) n stage parts (input (clauses_text cs rest) front)) (length rest)
  clauses_reach {stage} (ends e) n d parts rest front le ld =
      let here : length rest ≤ length rest = omega arith in
      shrinks (suc d) n stage parts (input rest front) (length rest) here (λ no. absurd (not_both e no))
  clauses_reach {stage} (clause l follows b cs) zero d parts rest front le ld = let g = laws.later_grows l (suite_text b (clauses_text cs rest)) in absurd (omega arith)
  clauses_reach {stage} (clause l follows b cs) (suc n) d parts rest front le ld =
      let end = clauses_text cs rest in
      let us = suite_text b end in
      let ts = later_text l us in
      let g = laws.later_grows l us in
      let h = suite_grows laws b end in
      let m = marked_if_is (may_end stage) ts front in
      let body = suite_complete laws b d end m.0 (omega arith) in
      let begins : goes_on stage (kind_at ts) ≡ true = ap (goes_on stage) (later_begins l us) ∙ follows in
      bound_is (read.clauses (read.stmt (suc d)) (suc n) stage parts (input ts front)) (read.clauses (read.stmt (suc d)) n (behind stage (later_tree l)) (with_clause (line_at ts) (later_tree l) (suite_list b) parts) (input end body.0)) (length rest)
      (clauses_is (read.stmt (suc d)) n stage parts ts front m.0 m.1 begins
      ∙ ap (λ o. and_then o (λ more. read.clauses (read.stmt (suc d)) n more.0 more.1)) (clause_done (read.stmt (suc d)) stage parts ts us m.0 m.0 (later_tree l) (Ok (suite_list b, input end body.0)) (laws.later_complete l us m.0) body.1))
      (clauses_reach cs n d (with_clause (line_at ts) (later_tree l) (suite_list b) parts) rest body.0 (omega arith) (omega arith))

  -- a statement, whatever comes behind it
  statement_reaches : (one : Statement) (d : ℕ) (rest : List Token) (front : ℕ) → length (statement_text one rest) ≤ d → Bound (read.stmt_with (read.stmt d) (input (statement_text one rest) front)) (length rest)
  statement_reaches (simple one) d rest front le =
      bound_done (read.stmt_with (read.stmt d) (input (line_text one rest) front)) (line_tree one) rest (front, line_done (read.stmt d) (line_text one rest) front (laws.line_starts one rest) ∙ laws.line_complete one rest front)
  statement_reaches (compound f b cs) zero rest front le = let g = statement_grows laws (compound f b cs) rest in absurd (omega arith)
  statement_reaches (compound f b cs) (suc d) rest front le =
      let end = clauses_text cs rest in
      let us = suite_text b end in
      let ts = first_text f us in
      let g = laws.first_grows f us in
      let h = suite_grows laws b end in
      let body = suite_complete laws b d end front (omega arith) in
      let o = read.clauses (read.stmt (suc d)) (length end) (first_stage (first_tree f)) no_parts (input end body.0) in
      bound_is (read.stmt_with (read.stmt (suc d)) (input ts front)) (tail (read.stmt (suc d)) (line_at ts) (first_tree f) (suite_list b) (input end body.0)) (length rest)
      (compound_is (read.stmt (suc d)) ts us front front (first_tree f) (Ok (suite_list b, input end body.0)) (first_begins f us) (laws.first_complete f us front) body.1)
      (bound_pure (and_then o (λ parts. pure (stmt_of (line_at ts) (kind_of (line_at ts) (first_tree f) (suite_list b) parts)))) (λ one. one ∷ []) (length rest)
      (bound_pure o (λ parts. stmt_of (line_at ts) (kind_of (line_at ts) (first_tree f) (suite_list b) parts)) (length rest)
      (clauses_reach cs (length end) d no_parts rest body.0 (omega arith) (omega arith))))

  -- what is known of a front in a block
  abbrev Inside : ℕ → Front → List Token → Type 0
  Inside e f rest = length (front_text f rest) ≤ e → Closed (read.block_from (read.stmt (suc e)) (length (front_text f rest)) [] (input (front_text f rest) (length (front_text f rest)))) (length rest)

  open_clauses_reach : {stage : Stage} (os : OpenClauses stage) (n e : ℕ) (parts : Parts) (rest : List Token) (front : ℕ) → ((f : Front) → Inside e f rest) → length (open_clauses_text os rest) ≤ n → length (open_clauses_text os rest) ≤ suc e
      → Bound (read.clauses (read.stmt (suc e)) n stage parts (input (open_clauses_text os rest) front)) (length rest)
  open_clauses_reach {stage} (in_later l follows nl ind f) zero e parts rest front inside le ld = let g = laws.later_grows l (at nl tok.Newline ∷ at ind tok.Indent ∷ front_text f rest) in absurd (omega arith)
  open_clauses_reach {stage} (in_later l follows nl ind f) (suc n) e parts rest front inside le ld =
      let is = front_text f rest in
      let us = at nl tok.Newline ∷ at ind tok.Indent ∷ is in
      let ts = later_text l us in
      let g = laws.later_grows l us in
      let m = marked_if_is (may_end stage) ts front in
      let o = read.block_from (read.stmt (suc e)) (length is) [] (input is (length is)) in
      let begins : goes_on stage (kind_at ts) ≡ true = ap (goes_on stage) (later_begins l us) ∙ follows in
      bound_is (read.clauses (read.stmt (suc e)) (suc n) stage parts (input ts front)) (and_then (and_then o (λ body. pure (behind stage (later_tree l), with_clause (line_at ts) (later_tree l) body parts))) (λ more. read.clauses (read.stmt (suc e)) n more.0 more.1)) (length rest)
      (clauses_is (read.stmt (suc e)) n stage parts ts front m.0 m.1 begins
      ∙ ap (λ q. and_then q (λ more. read.clauses (read.stmt (suc e)) n more.0 more.1)) (clause_done (read.stmt (suc e)) stage parts ts us m.0 m.0 (later_tree l) o (laws.later_complete l us m.0) (suite_block (read.stmt (suc e)) nl ind is m.0 o refl)))
      (bound_made o (λ body. (behind stage (later_tree l), with_clause (line_at ts) (later_tree l) body parts)) (λ more. read.clauses (read.stmt (suc e)) n more.0 more.1) (length rest) (closed_bound o (length rest) (inside f (omega arith)))
      (λ body j. let here : length j.ahead ≤ length j.ahead = omega arith in shrinks (suc e) n (behind stage (later_tree l)) (with_clause (line_at ts) (later_tree l) body parts) j (length j.ahead) here (λ no. absurd (not_both (behind_ends stage (later_tree l)) no))))
  open_clauses_reach {stage} (behind_later l follows b os) zero e parts rest front inside le ld = let g = laws.later_grows l (suite_text b (open_clauses_text os rest)) in absurd (omega arith)
  open_clauses_reach {stage} (behind_later l follows b os) (suc n) e parts rest front inside le ld =
      let end = open_clauses_text os rest in
      let us = suite_text b end in
      let ts = later_text l us in
      let g = laws.later_grows l us in
      let h = suite_grows laws b end in
      let m = marked_if_is (may_end stage) ts front in
      let body = suite_complete laws b e end m.0 (omega arith) in
      let begins : goes_on stage (kind_at ts) ≡ true = ap (goes_on stage) (later_begins l us) ∙ follows in
      bound_is (read.clauses (read.stmt (suc e)) (suc n) stage parts (input ts front)) (read.clauses (read.stmt (suc e)) n (behind stage (later_tree l)) (with_clause (line_at ts) (later_tree l) (suite_list b) parts) (input end body.0)) (length rest)
      (clauses_is (read.stmt (suc e)) n stage parts ts front m.0 m.1 begins
      ∙ ap (λ o. and_then o (λ more. read.clauses (read.stmt (suc e)) n more.0 more.1)) (clause_done (read.stmt (suc e)) stage parts ts us m.0 m.0 (later_tree l) (Ok (suite_list b, input end body.0)) (laws.later_complete l us m.0) body.1))
      (open_clauses_reach os n e (with_clause (line_at ts) (later_tree l) (suite_list b) parts) rest body.0 inside (omega arith) (omega arith))

  open_reaches : (o : Open) (e : ℕ) (rest : List Token) (front : ℕ) → ((f : Front) → Inside e f rest) → length (open_text o rest) ≤ suc e → Bound (read.stmt_with (read.stmt (suc e)) (input (open_text o rest) front)) (length rest)
  open_reaches (in_first h nl ind f) e rest front inside ld =
      let is = front_text f rest in
      let us = at nl tok.Newline ∷ at ind tok.Indent ∷ is in
      let ts = first_text h us in
      let g = laws.first_grows h us in
      let o = read.block_from (read.stmt (suc e)) (length is) [] (input is (length is)) in
      bound_is (read.stmt_with (read.stmt (suc e)) (input ts front)) (and_then o (tail (read.stmt (suc e)) (line_at ts) (first_tree h))) (length rest)
      (compound_is (read.stmt (suc e)) ts us front front (first_tree h) o (first_begins h us) (laws.first_complete h us front) (suite_block (read.stmt (suc e)) nl ind is front o refl))
      (bound_closed o (tail (read.stmt (suc e)) (line_at ts) (first_tree h)) (length rest) (inside f (omega arith))
      (λ body j m. tail_shrinks (read.stmt (suc e)) (stmt_sound laws (suc e)) (stmt_stops laws (suc e)) (line_at ts) (first_tree h) body j (suc (length j.ahead)) (omega arith) (omega arith)))
  open_reaches (behind_first h b os) e rest front inside ld =
      let end = open_clauses_text os rest in
      let us = suite_text b end in
      let ts = first_text h us in
      let g = laws.first_grows h us in
      let u = suite_grows laws b end in
      let body = suite_complete laws b e end front (omega arith) in
      let o = read.clauses (read.stmt (suc e)) (length end) (first_stage (first_tree h)) no_parts (input end body.0) in
      bound_is (read.stmt_with (read.stmt (suc e)) (input ts front)) (tail (read.stmt (suc e)) (line_at ts) (first_tree h) (suite_list b) (input end body.0)) (length rest)
      (compound_is (read.stmt (suc e)) ts us front front (first_tree h) (Ok (suite_list b, input end body.0)) (first_begins h us) (laws.first_complete h us front) body.1)
      (bound_pure (and_then o (λ parts. pure (stmt_of (line_at ts) (kind_of (line_at ts) (first_tree h) (suite_list b) parts)))) (λ one. one ∷ []) (length rest)
      (bound_pure o (λ parts. stmt_of (line_at ts) (kind_of (line_at ts) (first_tree h) (suite_list b) parts)) (length rest)
      (open_clauses_reach os (length end) e no_parts rest body.0 inside (omega arith) (omega arith))))

  open_starts : (o : Open) (rest : List Token) → begins_stmt (kind_at (open_text o rest)) ≡ true
  open_starts (in_first h nl ind f) rest = compound_begins (kind_at (first_text h (at nl tok.Newline ∷ at ind tok.Indent ∷ front_text f rest))) (first_begins h (at nl tok.Newline ∷ at ind tok.Indent ∷ front_text f rest))
  open_starts (behind_first h b os) rest = compound_begins (kind_at (first_text h (suite_text b (open_clauses_text os rest)))) (first_begins h (suite_text b (open_clauses_text os rest)))

  open_some : (o : Open) (rest : List Token) → 1 ≤ length (open_text o rest)
  open_some (in_first h nl ind f) rest = let g = laws.first_grows h (at nl tok.Newline ∷ at ind tok.Indent ∷ front_text f rest) in omega arith
  open_some (behind_first h b os) rest = let g = laws.first_grows h (suite_text b (open_clauses_text os rest)) in omega arith

  -- ---- fronts in a block, and at the top

  -- A loop over statements: what it does behind one that is followed by another, and how far it comes behind any.
  pub record Loop (Kept : Outcome (List Stmt) → ℕ → Type 0) (d : ℕ) (loop : ℕ → List Stmt → Parser (List Stmt)) : Type 0 where
    pub next : (n : ℕ) (found : List Stmt) (i : Input) (some : List Stmt) (ts : List Token) (f : ℕ) → begins_stmt (kind_at i.ahead) ≡ true → begins_stmt (kind_at ts) ≡ true → read.stmt d i ≡ Ok (some, input ts f) → loop (suc n) found i ≡ loop n (found ++ some) (input ts (length ts))
    pub goes : (n : ℕ) (found : List Stmt) (i : Input) (r : ℕ) → begins_stmt (kind_at i.ahead) ≡ true → Bound (read.stmt d i) r → Kept (loop (suc n) found i) r
    pub here : (n : ℕ) (found : List Stmt) (i : Input) → i.front ≡ length i.ahead → Kept (loop n found i) (length i.ahead)

  block_loop : (d : ℕ) → Loop Closed d (read.block_from (read.stmt d))
  block_loop d = record {
    next = λ n found i some ts f b c h. block_next (read.stmt d) n found i some ts f h (no_dedent ts (length ts) c);
    goes = λ n found i r b h. block_goes_on (read.stmt d) (stmt_sound laws d) (stmt_stops laws d) n found i r h;
    here = λ n found i m. block_shrinks (read.stmt d) (stmt_sound laws d) (stmt_stops laws d) n found i m;
  }

  statements_start : (ss : Statements) (ts : List Token) → begins_stmt (kind_at ts) ≡ true → begins_stmt (kind_at (statements_text ss ts)) ≡ true
  statements_start no_statement ts h = h
  statements_start (more one others) ts h = statement_starts laws one (statements_text others ts)

  module _ (Kept : Outcome (List Stmt) → ℕ → Type 0) (d : ℕ) (loop : ℕ → List Stmt → Parser (List Stmt)) (is_loop : Loop Kept (suc d) loop) where
    kept_is : (o q : Outcome (List Stmt)) (r : ℕ) → o ≡ q → Kept q r → Kept o r
    kept_is o q r e h = subst (λ w. Kept w r) (sym e) h

    -- whole statements, and then a statement that is read at least so far
    before_open : (ss : Statements) (n : ℕ) (found : List Stmt) (ts : List Token) (r : ℕ) → begins_stmt (kind_at ts) ≡ true → length (statements_text ss ts) ≤ n → length (statements_text ss ts) ≤ d → 1 ≤ length ts
        → ((front : ℕ) → Bound (read.stmt_with (read.stmt d) (input ts front)) r) → Kept (loop n found (input (statements_text ss ts) (length (statements_text ss ts)))) r
    before_open no_statement zero found ts r b le ld some h = absurd (omega arith)
    before_open no_statement (suc n) found ts r b le ld some h = is_loop.goes n found (input ts (length ts)) r b (bound_is (read.stmt (suc d) (input ts (length ts))) (read.stmt_with (read.stmt d) (input ts (length ts))) r (stmt_is d (input ts (length ts))) (h (length ts)))
    before_open (more one others) zero found ts r b le ld some h = let g = statement_grows laws one (statements_text others ts) in absurd (omega arith)
    before_open (more one others) (suc n) found ts r b le ld some h =
        let us = statements_text others ts in
        let all = statement_text one us in
        let g = statement_grows laws one us in
        let starts : begins_stmt (kind_at us) ≡ true = statements_start others ts b in
        let first = statement_complete laws one d us (length all) ld (begins_no_later (kind_at us) starts) in
        kept_is (loop (suc n) found (input all (length all))) (loop n (found ++ statement_list one) (input us (length us))) r
        (is_loop.next n found (input all (length all)) (statement_list one) us first.0 (statement_starts laws one us) starts (stmt_is d (input all (length all)) ∙ first.1))
        (before_open others n (found ++ statement_list one) ts r b (omega arith) (omega arith) some h)

    whole_reaches : (ss : Statements) (n : ℕ) (found : List Stmt) (rest : List Token) → length (statements_text ss rest) ≤ n → length (statements_text ss rest) ≤ d → Kept (loop n found (input (statements_text ss rest) (length (statements_text ss rest)))) (length rest)
    whole_reaches no_statement n found rest le ld = is_loop.here n found (input rest (length rest)) refl
    whole_reaches (more one no_statement) zero found rest le ld = let g = statement_grows laws one rest in absurd (omega arith)
    whole_reaches (more one no_statement) (suc n) found rest le ld =
        let all = statement_text one rest in
        is_loop.goes n found (input all (length all)) (length rest) (statement_starts laws one rest)
        (bound_is (read.stmt (suc d) (input all (length all))) (read.stmt_with (read.stmt d) (input all (length all))) (length rest) (stmt_is d (input all (length all))) (statement_reaches one d rest (length all) ld))
    whole_reaches (more one (more two others)) zero found rest le ld = let g = statement_grows laws one (statement_text two (statements_text others rest)) in absurd (omega arith)
    whole_reaches (more one (more two others)) (suc n) found rest le ld =
        let us = statement_text two (statements_text others rest) in
        let all = statement_text one us in
        let g = statement_grows laws one us in
        let starts = statement_starts laws two (statements_text others rest) in
        let first = statement_complete laws one d us (length all) ld (begins_no_later (kind_at us) starts) in
        kept_is (loop (suc n) found (input all (length all))) (loop n (found ++ statement_list one) (input us (length us))) (length rest)
        (is_loop.next n found (input all (length all)) (statement_list one) us first.0 (statement_starts laws one us) starts (stmt_is d (input all (length all)) ∙ first.1))
        (whole_reaches (more two others) n (found ++ statement_list one) rest (omega arith) (omega arith))

  -- a front, from what is known of the fronts in blocks
  front_step : (Kept : Outcome (List Stmt) → ℕ → Type 0) (e : ℕ) (loop : ℕ → List Stmt → Parser (List Stmt)) → Loop Kept (suc (suc e)) loop → ((f : Front) (rest : List Token) → Inside e f rest) → (f : Front) (n : ℕ) (found : List Stmt) (rest : List Token) → length (front_text f rest) ≤ n → length (front_text f rest) ≤ suc e
      → Kept (loop n found (input (front_text f rest) (length (front_text f rest)))) (length rest)
  front_step Kept e loop is_loop h (whole ss) n found rest le ld = whole_reaches Kept (suc e) loop is_loop ss n found rest le ld
  front_step Kept e loop is_loop h (opened ss o) n found rest le ld =
      let ts = open_text o rest in
      let g = statements_grow laws ss ts in
      before_open Kept (suc e) loop is_loop ss n found ts (length rest) (open_starts o rest) le ld (open_some o rest) (λ front. open_reaches o e rest front (λ f. h f rest) (omega arith))

  inside : (e : ℕ) (f : Front) (rest : List Token) → Inside e f rest
  inside zero f rest le =
      let g = front_grows laws f rest in
      closed_less (read.block_from (read.stmt 1) (length (front_text f rest)) [] (input (front_text f rest) (length (front_text f rest)))) (length (front_text f rest)) (length rest) (omega arith)
      (block_shrinks (read.stmt 1) (stmt_sound laws 1) (stmt_stops laws 1) (length (front_text f rest)) [] (input (front_text f rest) (length (front_text f rest))) refl)
  inside (suc e) f rest le =
      let refl_le : length (front_text f rest) ≤ length (front_text f rest) = omega arith in
      front_step Closed e (read.block_from (read.stmt (suc (suc e)))) (block_loop (suc (suc e))) (inside e) f (length (front_text f rest)) [] rest refl_le le

  -- a front of what any loop of statements reads
  pub front_reaches : (Kept : Outcome (List Stmt) → ℕ → Type 0) (e : ℕ) (loop : ℕ → List Stmt → Parser (List Stmt)) → Loop Kept (suc (suc e)) loop → (f : Front) (n : ℕ) (found : List Stmt) (rest : List Token) → length (front_text f rest) ≤ n → length (front_text f rest) ≤ suc e
      → Kept (loop n found (input (front_text f rest) (length (front_text f rest)))) (length rest)
  front_reaches Kept e loop is_loop f n found rest le ld = front_step Kept e loop is_loop (inside e) f n found rest le ld
