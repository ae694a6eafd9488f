-- What reading gives, from what reading its parts gives.
use Rattle.std.proofs.Common.{◌≡◌, ℕ, zero, suc, true, false, List, [], ◌∷◌, ◌++◌, Result, Ok, Err, refl, sym, ap, subst}
use Rattle.mpy_base.specs.declared.refused.Refused.{Refused}
use Rattle.py_tree.specs.declared.stmt.Stmt.{Stmt}
use Rattle.py_expressions.specs.declared.cursor.Cursor.{Cursor}
use Rattle.py_expressions.specs.declared.cursor.Mark.TheVariants as mark
use Rattle.py_expressions.specs.declared.cursor.Syntax.{Syntax}
use Rattle.py_expressions.specs.Input.{Input, Outcome, Parser, Reads, and_then, pure, kind, sees, after, expect}
use Rattle.py_expressions.proofs.Singles.{passes_on}
use Rattle.py_expressions.proofs.Steps.{done, stopped}
use Rattle.py_statements.specs.Reading.{line_at, stmt_of, one_line}
use Rattle.py_parser.specs.declared.clause.Head.{Head}
use Rattle.py_parser.specs.declared.clause.Header.{Header}
use Rattle.py_parser.specs.declared.clause.Parts.{Parts}
use Rattle.py_parser.specs.declared.clause.Stage.{Stage}
use Rattle.py_parser.specs.Clauses.{first_stage, behind, begins_compound, goes_on, may_end, with_clause, kind_of}
use Rattle.py_parser.specs.Reading.{first, later, marked, marked_if, ended, suite, block, whole_block, block_from, one_clause, clauses, all_clauses, finished, behind_head, compound, stmt_with, stmt, is_end, file_from}

-- the same outcome
pub reads_by : {A : Type 0} (p o : Outcome A) (r : Result A (Refused Syntax)) (new : Cursor) → p ≡ o → Reads o r new → Reads p r new
reads_by p o r new e h = subst (λ q. Reads q r new) (sym e) h

-- what was made of a value that was read
pub made_stops : {A B : Type 0} (o : Outcome A) (f : A → B) (e : Refused Syntax) (new : Cursor) → (let r : Result A (Refused Syntax) = Err e in Reads o r new)
    → (let r : Result B (Refused Syntax) = Err e in Reads (and_then o (λ x. pure (f x))) r new)
made_stops o f e new h = passes_on o (and_then o (λ x. pure (f x))) e new new (λ d is. rw is refl) h

pub made_gives : {A B : Type 0} (o : Outcome A) (f : A → B) (x : A) (y : B) (j : Input) → y ≡ f x → o ≡ done x j → and_then o (λ z. pure (f z)) ≡ done y j
made_gives o f x y j e h = rw h (ap (λ q. done q j) (sym e))

bind_one : {A B C : Type 0} (o : Outcome A) (g : A → B) (f : B → C) → and_then o (λ a. pure (f (g a))) ≡ and_then (and_then o (λ a. pure (g a))) (λ b. pure (f b))
bind_one (Err d) g f = refl
bind_one (Ok p) g f = refl

abbrev paired : {A B : Type 0} → A → B → A × B
paired a b = (a, b)

bind_both : {A B C : Type 0} (o : Outcome A) (q : Parser B) (f : A → B → C) → and_then o (λ a m. and_then (q m) (λ b. pure (f a b))) ≡ and_then (and_then o (λ a m. and_then (q m) (λ b. pure (paired a b)))) (λ (p : A × B). pure (f p.0 p.1))
bind_both (Err d) q f = refl
bind_both {A} {B} (Ok p) q f = bind_one (q p.1) (paired p.0) (λ (r : A × B). f r.0 r.1)

module _ (inner : Parser (List Stmt)) where
  pub from_none : (found : List Stmt) (i : Input) → block_from inner zero found i ≡ stopped i.front
  unfolding block_from
  from_none found i = refl

  pub from_stops : (n : ℕ) (found : List Stmt) (i : Input) (d : ℕ) → inner i ≡ stopped d → block_from inner (suc n) found i ≡ stopped d
  unfolding block_from
  from_stops n found i d h = rw h refl

  pub from_closed : (n : ℕ) (found some : List Stmt) (i j : Input) → inner i ≡ done some j → sees mark.Dedent (marked j) ≡ true → block_from inner (suc n) found i ≡ done (found ++ some) (after mark.Dedent (marked j))
  unfolding block_from
  from_closed n found some i j h b = rw (h, b) refl

  pub from_goes_on : (n : ℕ) (found some : List Stmt) (i j : Input) → inner i ≡ done some j → sees mark.Dedent (marked j) ≡ false → block_from inner (suc n) found i ≡ block_from inner n (found ++ some) (after mark.Dedent (marked j))
  unfolding block_from
  from_goes_on n found some i j h b = rw (h, b) refl

  pub block_stops : (i : Input) (d : ℕ) → expect mark.Indent i ≡ stopped d → block inner i ≡ stopped d
  unfolding block
  block_stops i d h = rw h refl

  pub block_gives : (i j : Input) → expect mark.Indent i ≡ done tt j → block inner i ≡ whole_block inner (marked j)
  unfolding block
  block_gives i j h = rw h refl

  pub suite_block : (i : Input) → sees mark.Newline i ≡ true → suite inner i ≡ block inner (after mark.Newline i)
  unfolding suite
  suite_block i b = rw b refl

  pub suite_line : (i : Input) → sees mark.Newline i ≡ false → suite inner i ≡ one_line (after mark.Newline i)
  unfolding suite
  suite_line i b = rw b refl

  module _ (stage : Stage) (parts : Parts) where
    pub clause_stops_header : (i : Input) (d : ℕ) → later i ≡ stopped d → one_clause inner stage parts i ≡ stopped d
    unfolding one_clause
    clause_stops_header i d h = rw h refl

    pub clause_stops_suite : (i j : Input) (its : Header) (d : ℕ) → later i ≡ done its j → suite inner j ≡ stopped d → one_clause inner stage parts i ≡ stopped d
    unfolding one_clause
    clause_stops_suite i j its d h g = rw (h, g) refl

    pub clause_gives : (i j m : Input) (its : Header) (body : List Stmt) → later i ≡ done its j → suite inner j ≡ done body m
        → one_clause inner stage parts i ≡ done (behind stage its, with_clause (line_at i.ahead) its body parts) m
    unfolding one_clause
    clause_gives i j m its body h g = rw (h, g) refl

    pub clauses_none : (i : Input) → clauses inner zero stage parts i ≡ ended (may_end stage) parts (marked_if (may_end stage) i)
    unfolding clauses
    clauses_none i = refl

    pub clauses_end : (n : ℕ) (i : Input) → goes_on stage (kind (marked_if (may_end stage) i)) ≡ false → clauses inner (suc n) stage parts i ≡ ended (may_end stage) parts (marked_if (may_end stage) i)
    unfolding clauses
    clauses_end n i b = rw b refl

    pub clauses_stop : (n : ℕ) (i : Input) (d : ℕ) → goes_on stage (kind (marked_if (may_end stage) i)) ≡ true → one_clause inner stage parts (marked_if (may_end stage) i) ≡ stopped d
        → clauses inner (suc n) stage parts i ≡ stopped d
    unfolding clauses
    clauses_stop n i d b h = rw (b, h) refl

    pub clauses_go_on : (n : ℕ) (i j : Input) (next : Stage) (more : Parts) → goes_on stage (kind (marked_if (may_end stage) i)) ≡ true
        → one_clause inner stage parts (marked_if (may_end stage) i) ≡ done (next, more) j → clauses inner (suc n) stage parts i ≡ clauses inner n next more j
    unfolding clauses
    clauses_go_on n i j next more b h = rw (b, h) refl

  pub behind_head_stops : (stage : Stage) (i : Input) (d : ℕ) → suite inner i ≡ stopped d → behind_head inner stage i ≡ stopped d
  unfolding behind_head
  behind_head_stops stage i d h = rw h refl

  pub behind_suite_stops : (stage : Stage) (i j : Input) (body : List Stmt) (d : ℕ) → suite inner i ≡ done body j → all_clauses inner stage j ≡ stopped d → behind_head inner stage i ≡ stopped d
  unfolding behind_head
  behind_suite_stops stage i j body d h g = rw (h, g) refl

  pub behind_head_gives : (stage : Stage) (i j m : Input) (body : List Stmt) (parts : Parts) → suite inner i ≡ done body j → all_clauses inner stage j ≡ done parts m → behind_head inner stage i ≡ done (body, parts) m
  unfolding behind_head
  behind_head_gives stage i j m body parts h g = rw (h, g) refl

  pub compound_stops_first : (i : Input) (d : ℕ) → first i ≡ stopped d → compound inner i ≡ stopped d
  unfolding compound
  compound_stops_first i d h = rw h refl

  pub compound_gives : (i j : Input) (l : ℕ) (its : Head) → l ≡ line_at i.ahead → first i ≡ done its j
      → compound inner i ≡ and_then (behind_head inner (first_stage its) j) (λ p. pure (stmt_of l (kind_of l its p.0 p.1)))
  unfolding compound finished behind_head
  compound_gives i j l its e h =
      rw h (subst (λ (q : ℕ). and_then (suite inner j) (λ body m. and_then (all_clauses inner (first_stage its) m) (λ parts. pure (stmt_of q (kind_of q its body parts))))
      ≡ and_then (and_then (suite inner j) (λ body m. and_then (all_clauses inner (first_stage its) m) (λ parts. pure (paired body parts)))) (λ (p : List Stmt × Parts). pure (stmt_of l (kind_of l its p.0 p.1))))
      e (bind_both (suite inner j) (all_clauses inner (first_stage its)) (λ body parts. stmt_of l (kind_of l its body parts))))

  pub compound_passes : (i : Input) (d : ℕ) → begins_compound (kind i) ≡ true → compound inner i ≡ stopped d → stmt_with inner i ≡ stopped d
  unfolding stmt_with
  compound_passes i d b h = rw (b, h) refl

  pub compound_only : (i j : Input) (one : Stmt) → begins_compound (kind i) ≡ true → compound inner i ≡ done one j → stmt_with inner i ≡ done (one ∷ []) j
  unfolding stmt_with
  compound_only i j one b h = rw (b, h) refl

  pub line_instead : (i : Input) → begins_compound (kind i) ≡ false → stmt_with inner i ≡ one_line i
  unfolding stmt_with
  line_instead i b = rw b refl

module _ (depth : ℕ) where
  pub file_none : (found : List Stmt) (i : Input) → file_from depth zero found i ≡ stopped i.front
  unfolding file_from
  file_none found i = refl

  pub file_end : (n : ℕ) (found : List Stmt) (i : Input) → is_end i ≡ true → file_from depth (suc n) found i ≡ done found i
  unfolding file_from
  file_end n found i b = rw b refl

  pub file_stops : (n : ℕ) (found : List Stmt) (i : Input) (d : ℕ) → is_end i ≡ false → stmt depth i ≡ stopped d → file_from depth (suc n) found i ≡ stopped d
  unfolding file_from
  file_stops n found i d b h = rw (b, h) refl

  pub file_goes_on : (n : ℕ) (found some : List Stmt) (i j : Input) → is_end i ≡ false → stmt depth i ≡ done some j → file_from depth (suc n) found i ≡ file_from depth n (found ++ some) (marked j)
  unfolding file_from
  file_goes_on n found some i j b h = rw (b, h) refl
