-- What the grammar reads as statements is read.
use Rattle.std.proofs.Common.{◌≡◌, ℕ, zero, suc, ◌+◌, ◌-◌, ◌<◌, ◌≤◌, ◌⊎◌, inl, inr, Bool, true, false, cond, List, [], ◌∷◌, ◌++◌, length, Option, Some, None, Ok, Err, refl, sym, ap, subst, ◌∙◌, arith, append_assoc}
use Rattle.std.proofs.lemmas.List.{append-nil}
use Rattle.py_tokens.specs.declared.token.Tok.{Tok}
use Rattle.py_tokens.specs.declared.token.Tok.TheVariants as tok
use Rattle.py_tokens.specs.declared.token.Token.{Token}
use Rattle.py_tokens.specs.declared.word.Word.{Word}
use Rattle.py_tokens.specs.declared.word.Word.TheVariants as word
use Rattle.py_tokens.specs.declared.operator.Op.TheVariants as op
use Rattle.py_tree.specs.declared.stmt.Stmt.{Stmt}
use Rattle.py_expressions.specs.declared.cursor.Mark.TheVariants as mark
use Rattle.py_expressions.specs.Input.{Place, at, Input, Outcome, Parser, and_then, ◌>>=◌, pure, kind_at, is_mark, sees, sees_at, after, expect, next}
use Rattle.py_expressions.specs.Laws.{input}
use Rattle.py_statements.specs.Reading.{line_at, stmt_of, one_line, begins_line}
use Rattle.py_statements.specs.Grammar.{Line, line_text, line_tree}
use Rattle.py_parser.specs.declared.clause.Head.{Head}
use Rattle.py_parser.specs.declared.clause.Header.{Header}
use Rattle.py_parser.specs.declared.clause.Stage.{Stage}
use Rattle.py_parser.specs.declared.clause.Stage.TheVariants.{Branches, Loop, Tried, Handlers, LastHandler, Rest, Ended}
use Rattle.py_parser.specs.declared.clause.Parts.{Parts}
use Rattle.py_parser.specs.Clauses.{may_follow, may_end, first_stage, behind, begins_compound, goes_on, no_parts, with_clause, kind_of}
use Rattle.py_parser.specs.Grammar.{First, first_text, first_tree, first_line, Later, later_text, later_tree, later_line, later_word, Statement, simple, compound, Suite, inline, block, Statements, no_statement, more, Clauses, ends, clause, statement_text, suite_text, statements_text, clauses_text, statement_list, suite_list, statements_list, clauses_parts}
use Rattle.py_parser.specs.Reading as read
use Rattle.py_parser.specs.Reading.{marked, marked_if, ended}
use Rattle.py_parser.proofs.Below.{Below}
use Rattle.py_parser.proofs.Sizes.{statement_grows, suite_grows, statements_grow, clauses_grow}
use Rattle.py_parser.proofs.Sounder.{first_line_is, first_begins, later_line_is, later_begins}

-- ---- what may come behind

-- a word of a further clause
abbrev pub is_later : Tok → Bool
is_later (tok.Word word.Elif) = true
is_later (tok.Word word.Else) = true
is_later (tok.Word word.Except) = true
is_later (tok.Word word.Finally) = true
is_later kind = false

abbrev pub begins_stmt : Tok → Bool
begins_stmt (tok.Word word.If) = true
begins_stmt (tok.Word word.While) = true
begins_stmt (tok.Word word.For) = true
begins_stmt (tok.Word word.Try) = true
begins_stmt (tok.Word word.Def) = true
begins_stmt kind = begins_line kind

no_word : (stage : Stage) (w : Word) → is_later (tok.Word w) ≡ false → may_follow stage w ≡ false
no_word stage word.Elif h = absurd cc
no_word stage word.Else h = absurd cc
no_word stage word.Except h = absurd cc
no_word stage word.Finally h = absurd cc
no_word Branches _ h = refl
no_word Loop _ h = refl
no_word Tried _ h = refl
no_word Handlers _ h = refl
no_word LastHandler _ h = refl
no_word Rest _ h = refl
no_word Ended _ h = refl

pub no_goes_on : (stage : Stage) (kind : Tok) → is_later kind ≡ false → goes_on stage kind ≡ false
no_goes_on stage (tok.Word w) h = no_word stage w h
no_goes_on stage _ h = refl

pub begins_no_later : (kind : Tok) → begins_stmt kind ≡ true → is_later kind ≡ false
begins_no_later (tok.Word word.Elif) h = absurd cc
begins_no_later (tok.Word word.Else) h = absurd cc
begins_no_later (tok.Word word.Except) h = absurd cc
begins_no_later (tok.Word word.Finally) h = absurd cc
begins_no_later _ h = refl

line_no_compound : (kind : Tok) → begins_line kind ≡ true → begins_compound kind ≡ false
line_no_compound (tok.Word word.If) h = absurd cc
line_no_compound (tok.Word word.While) h = absurd cc
line_no_compound (tok.Word word.For) h = absurd cc
line_no_compound (tok.Word word.Try) h = absurd cc
line_no_compound (tok.Word word.Def) h = absurd cc
line_no_compound _ h = refl

line_begins : (kind : Tok) → begins_line kind ≡ true → begins_stmt kind ≡ true
line_begins (tok.Word word.If) h = refl
line_begins (tok.Word word.While) h = refl
line_begins (tok.Word word.For) h = refl
line_begins (tok.Word word.Try) h = refl
line_begins (tok.Word word.Def) h = refl
line_begins _ h = h

pub compound_begins : (kind : Tok) → begins_compound kind ≡ true → begins_stmt kind ≡ true
compound_begins (tok.Word word.If) h = refl
compound_begins (tok.Word word.While) h = refl
compound_begins (tok.Word word.For) h = refl
compound_begins (tok.Word word.Try) h = refl
compound_begins (tok.Word word.Def) h = refl
compound_begins _ h = absurd cc

no_newline_by : (kind : Tok) → begins_stmt kind ≡ true → is_mark mark.Newline kind ≡ false
no_newline_by tok.Newline h = absurd cc
no_newline_by _ h = refl

pub no_newline : (ts : List Token) (front : ℕ) → begins_stmt (kind_at ts) ≡ true → sees mark.Newline (input ts front) ≡ false
unfolding sees
no_newline [] front b = refl
no_newline (t ∷ ts) front b = no_newline_by t.kind b

no_dedent_by : (kind : Tok) → begins_stmt kind ≡ true → is_mark mark.Dedent kind ≡ false
no_dedent_by tok.Dedent h = absurd cc
no_dedent_by _ h = refl

pub no_dedent : (ts : List Token) (front : ℕ) → begins_stmt (kind_at ts) ≡ true → sees mark.Dedent (input ts front) ≡ false
unfolding sees
no_dedent [] front b = refl
no_dedent (t ∷ ts) front b = no_dedent_by t.kind b

-- ---- steps

pub marked_if_is : (b : Bool) (ts : List Token) (front : ℕ) → (f : ℕ) × (marked_if b (input ts front) ≡ input ts f)
marked_if_is true ts front = (length ts, refl)
marked_if_is false ts front = (front, refl)

module _ (inner : Parser (List Stmt)) where
  pub block_last : (n : ℕ) (found : List Stmt) (i : Input) (some : List Stmt) (l : Place) (rest : List Token) (f : ℕ) → inner i ≡ Ok (some, input (at l tok.Dedent ∷ rest) f)
      → read.block_from inner (suc n) found i ≡ Ok (found ++ some, input rest (length (at l tok.Dedent ∷ rest)))
  unfolding read.block_from after sees
  block_last n found i some l rest f h = rw h refl

  pub block_next : (n : ℕ) (found : List Stmt) (i : Input) (some : List Stmt) (ts : List Token) (f : ℕ) → inner i ≡ Ok (some, input ts f) → sees mark.Dedent (input ts (length ts)) ≡ false
      → read.block_from inner (suc n) found i ≡ read.block_from inner n (found ++ some) (input ts (length ts))
  unfolding read.block_from after
  block_next n found i some ts f h b = rw (h, b) refl

  pub suite_block : (n m : Place) (ts : List Token) (front : ℕ) (o : Outcome (List Stmt)) → read.block_from inner (length ts) [] (input ts (length ts)) ≡ o → read.suite inner (input (at n tok.Newline ∷ at m tok.Indent ∷ ts) front) ≡ o
  unfolding read.suite read.block read.whole_block after sees expect
  suite_block n m ts front o h = h

  pub suite_inline : (ts : List Token) (front : ℕ) (o : Outcome (List Stmt)) → sees mark.Newline (input ts front) ≡ false → one_line (input ts front) ≡ o → read.suite inner (input ts front) ≡ o
  unfolding read.suite after
  suite_inline ts front o b h = rw b h

  pub clause_done : (stage : Stage) (parts : Parts) (ts us : List Token) (front f : ℕ) (h : Header) (o : Outcome (List Stmt)) → read.later (input ts front) ≡ Ok (h, input us f) → read.suite inner (input us f) ≡ o
      → read.one_clause inner stage parts (input ts front) ≡ and_then o (λ body. pure (behind stage h, with_clause (line_at ts) h body parts))
  unfolding read.one_clause
  clause_done stage parts ts us front f h o e g = rw (e, g) refl

  pub clauses_end : (n : ℕ) (stage : Stage) (parts : Parts) (ts : List Token) (front : ℕ) → may_end stage ≡ true → goes_on stage (kind_at ts) ≡ false → read.clauses inner n stage parts (input ts front) ≡ Ok (parts, input ts (length ts))
  unfolding read.clauses
  clauses_end zero stage parts ts front w b = rw w refl
  clauses_end (suc n) stage parts ts front w b = rw (w, b) refl

  pub clauses_is : (n : ℕ) (stage : Stage) (parts : Parts) (ts : List Token) (front f : ℕ) → marked_if (may_end stage) (input ts front) ≡ input ts f → goes_on stage (kind_at ts) ≡ true
      → read.clauses inner (suc n) stage parts (input ts front) ≡ and_then (read.one_clause inner stage parts (input ts f)) (λ more. read.clauses inner n more.0 more.1)
  unfolding read.clauses
  clauses_is n stage parts ts front f e b = rw (e, b) refl

  -- behind the suite of the first clause
  abbrev pub tail : ℕ → Head → List Stmt → Parser (List Stmt)
  tail l h body = λ i. and_then (and_then (read.clauses inner (length i.ahead) (first_stage h) no_parts i) (λ parts. pure (stmt_of l (kind_of l h body parts)))) (λ one. pure (one ∷ []))

  pub compound_is : (ts us : List Token) (front f : ℕ) (h : Head) (o : Outcome (List Stmt)) → begins_compound (kind_at ts) ≡ true → read.first (input ts front) ≡ Ok (h, input us f) → read.suite inner (input us f) ≡ o
      → read.stmt_with inner (input ts front) ≡ and_then o (tail (line_at ts) h)
  unfolding read.stmt_with read.compound read.finished read.all_clauses
  compound_is ts us front f h (Ok p) b e g = rw (b, e, g) refl
  compound_is ts us front f h (Err d) b e g = rw (b, e, g) refl

  pub line_done : (ts : List Token) (front : ℕ) → begins_line (kind_at ts) ≡ true → read.stmt_with inner (input ts front) ≡ one_line (input ts front)
  unfolding read.stmt_with
  line_done ts front b = rw (line_no_compound (kind_at ts) b) refl

pub stmt_is : (d : ℕ) (i : Input) → read.stmt (suc d) i ≡ read.stmt_with (read.stmt d) i
unfolding read.stmt
stmt_is d i = refl

-- something was read, and this is left
abbrev pub Done : {A : Type 0} → Outcome A → A → List Token → Type 0
Done o x rest = (f : ℕ) × (o ≡ Ok (x, input rest f))

module _ (laws : Below) where
  pub statement_starts : (one : Statement) (rest : List Token) → begins_stmt (kind_at (statement_text one rest)) ≡ true
  statement_starts (simple one) rest = line_begins (kind_at (line_text one rest)) (laws.line_starts one rest)
  statement_starts (compound f b cs) rest = compound_begins (kind_at (first_text f (suite_text b (clauses_text cs rest)))) (first_begins f (suite_text b (clauses_text cs rest)))

  -- the next statement, or the Dedent, does not go on with the one before
  pub statements_stop : (ss : Statements) (rest : List Token) → is_later (kind_at rest) ≡ false → is_later (kind_at (statements_text ss rest)) ≡ false
  statements_stop no_statement rest h = h
  statements_stop (more one others) rest h = begins_no_later (kind_at (statement_text one (statements_text others rest))) (statement_starts one (statements_text others rest))

  mutual
    pub statement_complete : (one : Statement) (d : ℕ) (rest : List Token) (front : ℕ) → length (statement_text one rest) ≤ d → is_later (kind_at rest) ≡ false → Done (read.stmt_with (read.stmt d) (input (statement_text one rest) front)) (statement_list one) rest
    statement_complete (simple one) d rest front le stop = (front, line_done (read.stmt d) (line_text one rest) front (laws.line_starts one rest) ∙ laws.line_complete one rest front)
    statement_complete (compound f b cs) zero rest front le stop = let g = statement_grows laws (compound f b cs) rest in absurd (omega arith)
    statement_complete (compound f b cs) (suc d) rest front le stop =
        let end = clauses_text cs rest in
        let us = suite_text b end in
        let ts = first_text f us in
        let g = laws.first_grows f us in
        let h = suite_grows laws b end in
        let body = suite_complete b d end front (omega arith) in
        let all = clauses_complete cs (length end) d no_parts rest body.0 (omega arith) (omega arith) stop in
        let l = line_at ts in (
          all.0,
          compound_is (read.stmt (suc d)) ts us front front (first_tree f) (Ok (suite_list b, input end body.0)) (first_begins f us) (laws.first_complete f us front) body.1
              ∙ ap (λ o. and_then (and_then o (λ parts. pure (stmt_of l (kind_of l (first_tree f) (suite_list b) parts)))) (λ one. pure (one ∷ []))) all.1
              ∙ ap (λ (n : ℕ). Ok (stmt_of n (kind_of n (first_tree f) (suite_list b) (clauses_parts cs no_parts)) ∷ [], input rest all.0)) (sym (first_line_is f us)),
        )

    pub suite_complete : (b : Suite) (d : ℕ) (rest : List Token) (front : ℕ) → length (suite_text b rest) ≤ d → Done (read.suite (read.stmt (suc d)) (input (suite_text b rest) front)) (suite_list b) rest
    suite_complete (inline one) d rest front le =
        let ts = line_text one rest in
        (front, suite_inline (read.stmt (suc d)) ts front (Ok (line_tree one, input rest front)) (no_newline ts front (line_begins (kind_at ts) (laws.line_starts one rest))) (laws.line_complete one rest front))
    suite_complete (block n i first others last) d rest front le =
        let end = at last tok.Dedent ∷ rest in
        let ts = statement_text first (statements_text others end) in
        let g = statement_grows laws first (statements_text others end) in
        let one = statement_complete first d (statements_text others end) (length ts) (omega arith) (statements_stop others end refl) in
        let some : length ts ≡ suc (length ts - 1) = omega arith in
        let all = block_complete others (length ts - 1) d [] (input ts (length ts)) (statement_list first) last rest (omega arith) (omega arith) (one.0, stmt_is d (input ts (length ts)) ∙ one.1) in
        (all.0, suite_block (read.stmt (suc d)) n i ts front (Ok (statement_list first ++ statements_list others, input rest all.0)) (ap (λ m. read.block_from (read.stmt (suc d)) m [] (input ts (length ts))) some ∙ all.1))

    pub block_complete : (ss : Statements) (n d : ℕ) (found : List Stmt) (i : Input) (one : List Stmt) (last : Place) (rest : List Token) → length (statements_text ss (at last tok.Dedent ∷ rest)) ≤ suc n → length (statements_text ss (at last tok.Dedent ∷ rest)) ≤ d
        → Done (read.stmt (suc d) i) one (statements_text ss (at last tok.Dedent ∷ rest)) → Done (read.block_from (read.stmt (suc d)) (suc n) found i) (found ++ (one ++ statements_list ss)) rest
    block_complete no_statement n d found i one last rest le ld h =
        (length (at last tok.Dedent ∷ rest), block_last (read.stmt (suc d)) n found i one last rest h.0 h.1 ∙ ap (λ (xs : List Stmt). Ok (found ++ xs, input rest (length (at last tok.Dedent ∷ rest)))) (sym (append-nil one)))
    block_complete (more two others) zero d found i one last rest le ld h = let g = statement_grows laws two (statements_text others (at last tok.Dedent ∷ rest)) in let u = statements_grow laws others (at last tok.Dedent ∷ rest) in absurd (omega arith)
    block_complete (more two others) (suc n) d found i one last rest le ld h =
        let end = at last tok.Dedent ∷ rest in
        let ts = statement_text two (statements_text others end) in
        let g = statement_grows laws two (statements_text others end) in
        let next' = statement_complete two d (statements_text others end) (length ts) ld (statements_stop others end refl) in
        let all = block_complete others n d (found ++ one) (input ts (length ts)) (statement_list two) last rest (omega arith) (omega arith) (next'.0, stmt_is d (input ts (length ts)) ∙ next'.1) in (
          all.0,
          block_next (read.stmt (suc d)) (suc n) found i one ts h.0 h.1 (no_dedent ts (length ts) (statement_starts two (statements_text others end)))
              ∙ all.1 ∙ ap (λ (xs : List Stmt). Ok (xs, input rest all.0)) (append_assoc found one (statement_list two ++ statements_list others)),
        )

    pub clauses_complete : {stage : Stage} (cs : Clauses stage) (n d : ℕ) (parts : Parts) (rest : List Token) (front : ℕ) → length (clauses_text cs rest) ≤ n → length (clauses_text cs rest) ≤ suc d → is_later (kind_at rest) ≡ false
        → Done (read.clauses (read.stmt (suc d)) n stage parts (input (clauses_text cs rest) front)) (clauses_parts cs parts) rest
    clauses_complete {stage} (ends e) n d parts rest front le ld stop = (length rest, clauses_end (read.stmt (suc d)) n stage parts rest front e (no_goes_on stage (kind_at rest) stop))
    clauses_complete {stage} (clause l follows b cs) zero d parts rest front le ld stop = let g = laws.later_grows l (suite_text b (clauses_text cs rest)) in absurd (omega arith)
    clauses_complete {stage} (clause l follows b cs) (suc n) d parts rest front le ld stop =
        let end = clauses_text cs rest in
        let us = suite_text b end in
        let ts = later_text l us in
        let g = laws.later_grows l us in
        let h = suite_grows laws b end in
        let m = marked_if_is (may_end stage) ts front in
        let body = suite_complete b d end m.0 (omega arith) in
        let begins : goes_on stage (kind_at ts) ≡ true = ap (goes_on stage) (later_begins l us) ∙ follows in
        let all = clauses_complete cs n d (with_clause (later_line l) (later_tree l) (suite_list b) parts) rest body.0 (omega arith) (omega arith) stop in (
          all.0,
          clauses_is (read.stmt (suc d)) n stage parts ts front m.0 m.1 begins
              ∙ ap (λ o. and_then o (λ more. read.clauses (read.stmt (suc d)) n more.0 more.1)) (clause_done (read.stmt (suc d)) stage parts ts us m.0 m.0 (later_tree l) (Ok (suite_list b, input end body.0)) (laws.later_complete l us m.0) body.1)
              ∙ ap (λ (q : ℕ). read.clauses (read.stmt (suc d)) n (behind stage (later_tree l)) (with_clause q (later_tree l) (suite_list b) parts) (input end body.0)) (sym (later_line_is l us))
              ∙ all.1,
        )
