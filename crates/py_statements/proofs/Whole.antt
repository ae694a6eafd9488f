-- A line is read as the grammar says.
use Rattle.std.proofs.Common.{◌≡◌, ℕ, zero, suc, ◌≤◌, inl, inr, true, false, List, [], ◌∷◌, ◌++◌, length, Ok, refl, sym, ap, ◌∙◌, arith, append_assoc}
use Rattle.py_tokens.specs.declared.token.Token.{Token}
use Rattle.py_tokens.specs.declared.token.Tok.TheVariants as tok
use Rattle.py_tokens.specs.declared.operator.Op.TheVariants as op
use Rattle.py_tree.specs.declared.stmt.Stmt.{Stmt}
use Rattle.py_tree.specs.declared.stmt.StmtKind.{StmtKind}
use Rattle.py_expressions.specs.declared.cursor.Mark.TheVariants as mark
use Rattle.py_expressions.specs.Input.{Input, Place, at, kind_at, sees, sees_at, after}
use Rattle.py_expressions.specs.Laws.{input, Sound, Fails}
use Rattle.py_expressions.proofs.Steps.{done, bind_ok, done_is, no_err, chosen, taken, after_false, named_anew}
use Rattle.py_expressions.proofs.Faults.{fails_bind, fails_pure, fails_refuse, fails_if, fails_eat}
use Rattle.py_statements.specs.Grammar.{Small, Line, last_semicolon, semicolon, small_text, small_tree, statement_tree, line_text, line_tree}
use Rattle.py_statements.specs.Reading as read
use Rattle.py_statements.specs.Reading.{ends_small, line_at, stmt_of, one_line}
use Rattle.py_statements.proofs.Ends.{eaten, line_newline}
use Rattle.py_statements.proofs.Starts.{small_grows, small_line, line_starts, line_grows}
use Rattle.py_statements.proofs.Smalls.{small_sound, small_complete, small_fails}

-- ---- statements

statement_sound : Sound small_text statement_tree read.statement
unfolding read.statement
statement_sound i x j e =
    let b = bind_ok (read.small i) _ x j e in
    let f = small_sound i b.0 b.1 b.2 in
    named_anew small_text statement_tree i (stmt_of (line_at i.ahead) b.0) x b.1 j b.3
    (record {
      reading = f.reading;
      spelled = f.spelled;
      is = ap (λ q. stmt_of q (small_tree f.reading)) (small_line f.reading [] b.1.ahead ∙ ap line_at (sym f.spelled)) ∙ ap (stmt_of (line_at i.ahead)) f.is;
      kept = f.kept;
    })

statement_done : (ts : List Token) (front : ℕ) (kind : StmtKind) (j : Input) → read.small (input ts front) ≡ Ok (kind, j) → read.statement (input ts front) ≡ Ok (stmt_of (line_at ts) kind, j)
unfolding read.statement
statement_done ts front kind j h = rw h refl

statement_complete : (one : Small) (rest : List Token) (front : ℕ) → ends_small (kind_at rest) ≡ true → read.statement (input (small_text one rest) front) ≡ Ok (statement_tree one, input rest front)
statement_complete one rest front ends =
    statement_done (small_text one rest) front (small_tree one) (input rest front) (small_complete one rest front ends)
    ∙ ap (λ q. Ok (stmt_of q (small_tree one), input rest front)) (small_line one rest [])

statement_fails : Fails read.statement
unfolding read.statement
statement_fails i d e = fails_bind read.small _ (λ i x j e. (small_sound i x j e).kept) small_fails (λ kind. fails_pure (stmt_of (line_at i.ahead) kind)) i d e

-- ---- one step of a line

line_end : (n : ℕ) (found : List Stmt) (i : Input) (x : Stmt) (r : Place) (rest : List Token) (front : ℕ) → read.statement i ≡ Ok (x, input (at r tok.Newline ∷ rest) front) → read.statements (suc n) found i ≡ Ok (found ++ x ∷ [], input rest front)
unfolding read.statements after sees
line_end n found i x r rest front h = rw h refl

line_end_semicolon : (n : ℕ) (found : List Stmt) (i : Input) (x : Stmt) (l r : Place) (rest : List Token) (front : ℕ) → read.statement i ≡ Ok (x, input (at l (tok.Op op.Semicolon) ∷ at r tok.Newline ∷ rest) front)
    → read.statements (suc n) found i ≡ Ok (found ++ x ∷ [], input rest front)
unfolding read.statements after sees
line_end_semicolon n found i x l r rest front h = rw h refl

line_then : (n : ℕ) (found : List Stmt) (i : Input) (x : Stmt) (l : Place) (ts : List Token) (front : ℕ) → read.statement i ≡ Ok (x, input (at l (tok.Op op.Semicolon) ∷ ts) front) → sees_at mark.Newline ts ≡ false
    → read.statements (suc n) found i ≡ read.statements n (found ++ x ∷ []) (input ts front)
unfolding read.statements after sees
line_then n found i x l ts front h goes = rw (h, goes) refl

-- ---- what the grammar reads is read

from_complete : (one : Line) (n : ℕ) (found : List Stmt) (rest : List Token) (front : ℕ) → length (line_text one rest) ≤ n → read.statements n found (input (line_text one rest) front) ≡ Ok (found ++ line_tree one, input rest front)
from_complete one zero found rest front le = let h = line_grows one rest in absurd (omega arith)
from_complete (Line.last one r) (suc n) found rest front le =
    line_end n found (input (small_text one (at r tok.Newline ∷ rest)) front) (statement_tree one) r rest front (statement_complete one (at r tok.Newline ∷ rest) front refl)
from_complete (last_semicolon one l r) (suc n) found rest front le =
    let behind = at l (tok.Op op.Semicolon) ∷ at r tok.Newline ∷ rest in
    line_end_semicolon n found (input (small_text one behind) front) (statement_tree one) l r rest front (statement_complete one behind front refl)
from_complete (semicolon one l others) (suc n) found rest front le =
    let behind = at l (tok.Op op.Semicolon) ∷ line_text others rest in
    let grows = small_grows one (at l (tok.Op op.Semicolon) ∷ line_text others rest) in
    line_then n found (input (small_text one behind) front) (statement_tree one) l (line_text others rest) front (statement_complete one behind front refl) (line_newline (line_text others rest) (line_starts others rest))
    ∙ from_complete others n (found ++ statement_tree one ∷ []) rest front (omega arith)
    ∙ ap (λ (xs : List Stmt). Ok (xs, input rest front)) (append_assoc found (statement_tree one ∷ []) (line_tree others))

pub line_complete : (one : Line) (rest : List Token) (front : ℕ) → one_line (input (line_text one rest) front) ≡ Ok (line_tree one, input rest front)
unfolding one_line
line_complete one rest front = from_complete one (length (line_text one rest)) [] rest front (omega arith)

-- ---- what is read is read by the grammar

from_sound : (n : ℕ) (found : List Stmt) → Sound line_text (λ one. found ++ line_tree one) (read.statements n found)
unfolding read.statements
from_sound zero found i x j e = absurd (no_err i.front x j e)
from_sound (suc n) found i x j e =
    let b = bind_ok (read.statement i) _ x j e in
    let s = statement_sound i b.0 b.1 b.2 in
    let k = after (mark.Op op.Semicolon) b.1 in
    elim (chosen (sees mark.Newline (after (mark.Op op.Semicolon) b.1)) _ _ (after mark.Newline (after (mark.Op op.Semicolon) b.1)) (done x j) b.3) [
      | inl w ↦
          let r = taken mark.Newline (after (mark.Op op.Semicolon) b.1) w.0 in
          named_anew line_text (λ one. found ++ line_tree one) i (found ++ b.0 ∷ []) x (after mark.Newline (after (mark.Op op.Semicolon) b.1)) j w.1
          (elim (eaten (mark.Op op.Semicolon) b.1) [
            | inl v ↦ record {
              reading = last_semicolon s.reading v.1.0 r.0;
              spelled = s.spelled ∙ ap (small_text s.reading) (v.1.1 ∙ ap (λ q. at v.1.0 (tok.Op op.Semicolon) ∷ q) r.1);
              is = ap (λ q. found ++ q ∷ []) s.is;
              kept = s.kept ∙ v.1.2 ∙ r.2;
            }
            | inr v ↦ record {
              reading = Line.last s.reading r.0;
              spelled = s.spelled ∙ ap (small_text s.reading) (ap (λ (q : Input). q.ahead) (sym v.1) ∙ r.1);
              is = ap (λ q. found ++ q ∷ []) s.is;
              kept = s.kept ∙ ap (λ (q : Input). q.front) (sym v.1) ∙ r.2;
            }
          ])
      | inr w ↦
          let a = after_false mark.Newline (after (mark.Op op.Semicolon) b.1) w.0 in
          elim (chosen (sees (mark.Op op.Semicolon) b.1) _ _ (after mark.Newline (after (mark.Op op.Semicolon) b.1)) (done x j) w.1) [
            | inl v ↦
                let c = taken (mark.Op op.Semicolon) b.1 v.0 in
                let f = from_sound n (found ++ b.0 ∷ []) (after mark.Newline (after (mark.Op op.Semicolon) b.1)) x j v.1 in
                record {
                  reading = semicolon s.reading c.0 f.reading;
                  spelled = s.spelled ∙ ap (small_text s.reading) (c.1 ∙ ap (λ q. at c.0 (tok.Op op.Semicolon) ∷ q) (ap (λ (q : Input). q.ahead) (sym a) ∙ f.spelled));
                  is = ap (λ q. found ++ q ∷ line_tree f.reading) s.is ∙ sym (append_assoc found (b.0 ∷ []) (line_tree f.reading)) ∙ f.is;
                  kept = s.kept ∙ c.2 ∙ ap (λ (q : Input). q.front) (sym a) ∙ f.kept;
                }
            | inr v ↦ absurd (no_err (after mark.Newline (after (mark.Op op.Semicolon) b.1)).front x j v.1)
          ]
    ]

pub line_sound : Sound line_text line_tree one_line
unfolding one_line
line_sound i x j e = let f = from_sound (length i.ahead) [] i x j e in record { reading = f.reading; spelled = f.spelled; is = f.is; kept = f.kept }

-- ---- where it stops

from_fails : (n : ℕ) (found : List Stmt) → Fails (read.statements n found)
unfolding read.statements
from_fails zero found = fails_refuse
from_fails (suc n) found = fails_bind read.statement _ (λ i x j e. (statement_sound i x j e).kept) statement_fails (λ one. fails_eat (mark.Op op.Semicolon) _ (λ goes_on. fails_eat mark.Newline _ (λ ends. fails_if ends _ _
    (fails_pure (found ++ one ∷ [])) (fails_if goes_on _ _ (from_fails n (found ++ one ∷ [])) fails_refuse))))

pub line_fails : Fails one_line
unfolding one_line
line_fails i d e = from_fails (length i.ahead) [] i d e

-- ---- one reading at most

pub one_reading : (one other : Line) (rest more : List Token) → line_text one rest ≡ line_text other more → (line_tree one ≡ line_tree other) × (rest ≡ more)
one_reading one other rest more e =
    let q = done_is (line_tree one) (line_tree other) (input rest 0) (input more 0) (sym (line_complete one rest 0) ∙ ap (λ ts. one_line (input ts 0)) e ∙ line_complete other more 0) in
    (q.0, ap (λ (i : Input). i.ahead) q.1)
