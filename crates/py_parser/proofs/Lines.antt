-- The lines of the tree of formed tokens never fall.
use Rattle.std.proofs.Common.{◌≡◌, ℕ, ◌<◌, ◌≤◌, true, List, [], ◌∷◌, ◌++◌, length, Option, None, refl, sym, ap, subst, ◌∙◌, arith}
use Rattle.std.specs.List.{flat_map}
use Rattle.std.proofs.lemmas.Grind.{flat_map-append}
use Rattle.std.proofs.lemmas.List.{append-nil}
use Rattle.py_tokens.specs.declared.token.Tok.TheVariants as tok
use Rattle.py_tokens.specs.declared.token.Token.{Token}
use Rattle.py_tokens.specs.declared.operator.Op.TheVariants as op
use Rattle.py_tree.specs.declared.stmt.Stmt.{Stmt}
use Rattle.py_tree.specs.declared.stmt.Module.{Module}
use Rattle.py_tree.specs.Formed.{never_fall, kind_rows, branch_rows, handler_rows, stmt_lines}
use Rattle.py_tree.proofs.Lines as rows
use Rattle.py_tree.proofs.Lines.{option_rows}
use Rattle.py_tree.proofs.Climbs.{Climbs, spans, lowered, raised, climbs_on, never_falls, none_climbs, climbs_more}
use Rattle.py_expressions.specs.Input.{at}
use Rattle.py_statements.specs.Reading.{line_at, stmt_of}
use Rattle.py_statements.specs.Grammar.{Small, Line, last_semicolon, semicolon, small_text, line_text}
use Rattle.py_statements.proofs.Formed as lines
use Rattle.py_statements.proofs.Rows.{own_line, line_rows, rows_line}
use Rattle.py_statements.proofs.Starts.{small_line, small_grows}
use Rattle.py_parser.specs.declared.clause.Head.{Head}
use Rattle.py_parser.specs.declared.clause.Head.TheVariants as head
use Rattle.py_parser.specs.declared.clause.Header.{Header}
use Rattle.py_parser.specs.declared.clause.Header.TheVariants as header
use Rattle.py_parser.specs.declared.clause.Stage.{Stage}
use Rattle.py_parser.specs.declared.clause.Stage.TheVariants.{Branches, Loop, Tried, Handlers, LastHandler, Rest, Ended}
use Rattle.py_parser.specs.declared.clause.Parts.{Parts}
use Rattle.py_parser.specs.Clauses.{may_follow, first_stage, behind, branch_of, handler_of, no_parts, with_clause, kind_of}
use Rattle.py_tokens.specs.Formed.{FormedFrom, AreFormed}
use Rattle.py_parser.specs.Grammar as g
use Rattle.py_parser.proofs.Formed.{next_from, here_from, first_formed, later_formed}
use Rattle.py_parser.proofs.Headers.{first_grows, later_grows}

-- the lines go from one on up to another, and the tokens go on from there
abbrev Reaches : ℕ → List ℕ → List Token → Type 0
Reaches least lines rest = (last : ℕ) × Climbs least lines last × FormedFrom last rest

abbrev block_rows : List Stmt → List ℕ
block_rows body = flat_map stmt_lines body

-- ---- the first token

from_first : (least : ℕ) (ts : List Token) → 0 < length ts → FormedFrom least ts → (least ≤ line_at ts) × FormedFrom (line_at ts) ts
from_first least [] h k = absurd (omega arith)
from_first least (t ∷ ts) h k = (k.1, (k.0, (let le : t.line ≤ t.line = omega arith in le), k.2))

begins_in : (least line : ℕ) (ts : List Token) → 0 < length ts → line_at ts ≡ line → FormedFrom least ts → (least ≤ line) × FormedFrom line ts
begins_in least line ts h is k = subst (λ n. (least ≤ n) × FormedFrom n ts) is (from_first least ts h k)

-- ---- a line

small_climbs : (one : Small) (rest : List Token) (least : ℕ) → FormedFrom least (small_text one rest) → (least ≤ own_line one) × FormedFrom (own_line one) rest
small_climbs one rest least k =
    let long : 0 < length (small_text one rest) = (let h = small_grows one rest in omega arith) in
    let p = begins_in least (own_line one) (small_text one rest) long (small_line one rest []) k in
    (p.0, (lines.small_formed (FormedFrom (own_line one)) (next_from (own_line one)) (here_from (own_line one)) one rest p.1).1)

line_climbs : (one : Line) (rest : List Token) (least : ℕ) → FormedFrom least (line_text one rest) → Reaches least (line_rows one) rest
line_climbs (Line.last one n) rest least k =
    let p = small_climbs one (at n tok.Newline ∷ rest) least k in
    let line = own_line one in
    (line, (p.0, (let le : line ≤ line = omega arith in le)), next_from line (at n tok.Newline) rest p.1)
line_climbs (last_semicolon one l n) rest least k =
    let p = small_climbs one (at l (tok.Op op.Semicolon) ∷ at n tok.Newline ∷ rest) least k in
    let line = own_line one in
    (line, (p.0, (let le : line ≤ line = omega arith in le)), next_from line (at n tok.Newline) rest (next_from line (at l (tok.Op op.Semicolon)) (at n tok.Newline ∷ rest) p.1))
line_climbs (semicolon one l others) rest least k =
    let p = small_climbs one (at l (tok.Op op.Semicolon) ∷ line_text others rest) least k in
    let q = line_climbs others rest (own_line one) (next_from (own_line one) (at l (tok.Op op.Semicolon)) (line_text others rest) p.1) in
    (q.0, (p.0, q.1), q.2)

-- ---- headers

first_at : (first : g.First) (rest : List Token) → line_at (g.first_text first rest) ≡ g.first_line first
first_at (g.if_ l x c) rest = refl
first_at (g.while_ l x c) rest = refl
first_at (g.for_ l gs r m c) rest = refl
first_at (g.try_ l c) rest = refl
first_at (g.def_ l n b ps fit r c) rest = refl

first_climbs : (first : g.First) (rest : List Token) (least : ℕ) → FormedFrom least (g.first_text first rest) → (least ≤ g.first_line first) × FormedFrom (g.first_line first) rest
first_climbs first rest least k =
    let line = g.first_line first in
    let long : 0 < length (g.first_text first rest) = (let h = first_grows first rest in omega arith) in
    let p = begins_in least line (g.first_text first rest) long (first_at first rest) k in
    (p.0, (first_formed (FormedFrom line) (next_from line) (here_from line) first rest p.1).1)

later_at : (later : g.Later) (rest : List Token) → line_at (g.later_text later rest) ≡ g.later_line later
later_at (g.elif l x c) rest = refl
later_at (g.else_ l c) rest = refl
later_at (g.except l x n c) rest = refl
later_at (g.except_all l c) rest = refl
later_at (g.finally l c) rest = refl

later_climbs : (later : g.Later) (rest : List Token) (least : ℕ) → FormedFrom least (g.later_text later rest) → (least ≤ g.later_line later) × FormedFrom (g.later_line later) rest
later_climbs later rest least k =
    let line = g.later_line later in
    let long : 0 < length (g.later_text later rest) = (let h = later_grows later rest in omega arith) in
    let p = begins_in least line (g.later_text later rest) long (later_at later rest) k in
    (p.0, (later_formed (FormedFrom line) (next_from line) (here_from line) later rest p.1).1)

-- ---- clauses

-- the lines of the parts, one part behind another
record Ordered (least : ℕ) (parts : Parts) (last : ℕ) : Type 0 where
  behind_branches : ℕ
  behind_handlers : ℕ
  behind_rest : ℕ
  branches : Climbs least (flat_map branch_rows parts.branches) behind_branches
  handlers : Climbs behind_branches (flat_map handler_rows parts.handlers) behind_handlers
  rest : Climbs behind_handlers (block_rows parts.rest) behind_rest
  ending : Climbs behind_rest (option_rows parts.last) last

-- the parts behind that of a clause are empty
abbrev Fits : Header → Parts → Type 0
Fits (header.Elif test) parts = (parts.handlers ≡ []) × (parts.rest ≡ []) × (parts.last ≡ None)
Fits header.Else parts = parts.last ≡ None
Fits (header.Except test text) parts = (parts.rest ≡ []) × (parts.last ≡ None)
Fits header.Finally parts = Unit {0}

-- which parts are still empty
abbrev Room : Stage → Parts → Type 0
Room Branches parts = (parts.handlers ≡ []) × (parts.rest ≡ []) × (parts.last ≡ None)
Room Loop parts = parts.last ≡ None
Room Tried parts = (parts.rest ≡ []) × (parts.last ≡ None)
Room Handlers parts = (parts.rest ≡ []) × (parts.last ≡ None)
Room LastHandler parts = (parts.rest ≡ []) × (parts.last ≡ None)
Room Rest parts = parts.last ≡ None
Room Ended parts = Unit {0}

room_first : (its : Head) → Room (first_stage its) no_parts
room_first (head.If test) = (refl, refl, refl)
room_first (head.While test) = refl
room_first (head.For target over) = refl
room_first head.Try = (refl, refl)
room_first (head.Def text params) = tt

room_on : (stage : Stage) (later : g.Later) (line : ℕ) (body : List Stmt) (parts : Parts) → may_follow stage (g.later_word later) ≡ true → Room stage parts
    → Fits (g.later_tree later) parts × Room (behind stage (g.later_tree later)) (with_clause line (g.later_tree later) body parts)
room_on Branches (g.elif l x c) line body parts h k = (k, k)
room_on Branches (g.else_ l c) line body parts h k = (k.2, tt)
room_on Branches (g.except l x n c) line body parts h k = absurd cc
room_on Branches (g.except_all l c) line body parts h k = absurd cc
room_on Branches (g.finally l c) line body parts h k = absurd cc
room_on Loop (g.elif l x c) line body parts h k = absurd cc
room_on Loop (g.else_ l c) line body parts h k = (k, tt)
room_on Loop (g.except l x n c) line body parts h k = absurd cc
room_on Loop (g.except_all l c) line body parts h k = absurd cc
room_on Loop (g.finally l c) line body parts h k = absurd cc
room_on Tried (g.elif l x c) line body parts h k = absurd cc
room_on Tried (g.else_ l c) line body parts h k = absurd cc
room_on Tried (g.except l x n c) line body parts h k = (k, k)
room_on Tried (g.except_all l c) line body parts h k = (k, k)
room_on Tried (g.finally l c) line body parts h k = (tt, tt)
room_on Handlers (g.elif l x c) line body parts h k = absurd cc
room_on Handlers (g.else_ l c) line body parts h k = (k.1, k.1)
room_on Handlers (g.except l x n c) line body parts h k = (k, k)
room_on Handlers (g.except_all l c) line body parts h k = (k, k)
room_on Handlers (g.finally l c) line body parts h k = (tt, tt)
room_on LastHandler (g.elif l x c) line body parts h k = absurd cc
room_on LastHandler (g.else_ l c) line body parts h k = (k.1, k.1)
room_on LastHandler (g.except l x n c) line body parts h k = absurd cc
room_on LastHandler (g.except_all l c) line body parts h k = absurd cc
room_on LastHandler (g.finally l c) line body parts h k = (tt, tt)
room_on Rest (g.elif l x c) line body parts h k = absurd cc
room_on Rest (g.else_ l c) line body parts h k = absurd cc
room_on Rest (g.except l x n c) line body parts h k = absurd cc
room_on Rest (g.except_all l c) line body parts h k = absurd cc
room_on Rest (g.finally l c) line body parts h k = (tt, tt)
room_on Ended later line body parts h k = absurd cc

none_last : (o : Option (List Stmt)) (least : ℕ) → o ≡ None → Climbs least (option_rows o) least
none_last o least e = subst (λ q. Climbs least (option_rows q) least) (sym e) (let h : least ≤ least = omega arith in h)

ordered_none : (least : ℕ) → Ordered least no_parts least
ordered_none least =
    let le : least ≤ least = omega arith in
    record { behind_branches = least; behind_handlers = least; behind_rest = least; branches = le; handlers = le; rest = le; ending = le }

ordered_on : (line : ℕ) (its : Header) (body : List Stmt) (parts : Parts) (least last end : ℕ) → Fits its parts → Ordered least parts last → last ≤ line → Climbs line (block_rows body) end → Ordered least (with_clause line its body parts) end
ordered_on line (header.Elif test) body parts least last end fits o le k =
    let b = spans o.behind_branches (flat_map handler_rows parts.handlers) o.behind_handlers o.handlers in
    let c = spans o.behind_handlers (block_rows parts.rest) o.behind_rest o.rest in
    let d = spans o.behind_rest (option_rows parts.last) last o.ending in
    let up : o.behind_branches ≤ line = omega arith in
    record {
      behind_branches = end;
      behind_handlers = end;
      behind_rest = end;
      branches = climbs_more branch_rows parts.branches (branch_of line test body) line (block_rows body) least o.behind_branches end (rows.lines_branch line test body) o.branches up k;
      handlers = none_climbs handler_rows parts.handlers end fits.0;
      rest = none_climbs stmt_lines parts.rest end fits.1;
      ending = none_last parts.last end fits.2;
    }
ordered_on line header.Else body parts least last end fits o le k =
    let c = spans o.behind_handlers (block_rows parts.rest) o.behind_rest o.rest in
    let d = spans o.behind_rest (option_rows parts.last) last o.ending in
    let up : o.behind_handlers ≤ line = omega arith in
    record {
      behind_branches = o.behind_branches;
      behind_handlers = o.behind_handlers;
      behind_rest = end;
      branches = o.branches;
      handlers = o.handlers;
      rest = lowered o.behind_handlers line (block_rows body) end up k;
      ending = none_last parts.last end fits;
    }
ordered_on line (header.Except test text) body parts least last end fits o le k =
    let c = spans o.behind_handlers (block_rows parts.rest) o.behind_rest o.rest in
    let d = spans o.behind_rest (option_rows parts.last) last o.ending in
    let up : o.behind_handlers ≤ line = omega arith in
    record {
      behind_branches = o.behind_branches;
      behind_handlers = end;
      behind_rest = end;
      branches = o.branches;
      handlers = climbs_more handler_rows parts.handlers (handler_of line test text body) line (block_rows body) o.behind_branches o.behind_handlers end (rows.lines_handler line test text body) o.handlers up k;
      rest = none_climbs stmt_lines parts.rest end fits.0;
      ending = none_last parts.last end fits.1;
    }
ordered_on line header.Finally body parts least last end fits o le k =
    let d = spans o.behind_rest (option_rows parts.last) last o.ending in
    let up : o.behind_rest ≤ line = omega arith in
    record {
      behind_branches = o.behind_branches;
      behind_handlers = o.behind_handlers;
      behind_rest = o.behind_rest;
      branches = o.branches;
      handlers = o.handlers;
      rest = o.rest;
      ending = lowered o.behind_rest line (block_rows body) end up k;
    }

-- ---- a compound statement

loop_climbs : (line : ℕ) (body : List Stmt) (parts : Parts) (middle last : ℕ) → Climbs line (block_rows body) middle → Ordered middle parts last → Climbs line (block_rows body ++ block_rows parts.rest) last
loop_climbs line body parts middle last k o =
    let a = spans middle (flat_map branch_rows parts.branches) o.behind_branches o.branches in
    let b = spans o.behind_branches (flat_map handler_rows parts.handlers) o.behind_handlers o.handlers in
    let d = spans o.behind_rest (option_rows parts.last) last o.ending in
    let up : middle ≤ o.behind_handlers = omega arith in
    climbs_on line (block_rows body) middle (block_rows parts.rest) last k (raised middle (block_rows parts.rest) o.behind_rest last d (lowered middle o.behind_handlers (block_rows parts.rest) o.behind_rest up o.rest))

kind_climbs : (line : ℕ) (its : Head) (body : List Stmt) (parts : Parts) (middle last : ℕ) → Climbs line (block_rows body) middle → Ordered middle parts last → Climbs line (kind_rows (kind_of line its body parts)) last
kind_climbs line (head.If test) body parts middle last k o =
    let b = spans o.behind_branches (flat_map handler_rows parts.handlers) o.behind_handlers o.handlers in
    let d = spans o.behind_rest (option_rows parts.last) last o.ending in
    let own : Climbs line (branch_rows (branch_of line test body)) middle = subst (λ q. Climbs line q middle) (sym (rows.lines_branch line test body)) ((let le : line ≤ line = omega arith in le), k) in
    let front = climbs_on line (branch_rows (branch_of line test body)) middle (flat_map branch_rows parts.branches) o.behind_branches own o.branches in
    let back = raised o.behind_branches (block_rows parts.rest) o.behind_rest last d (lowered o.behind_branches o.behind_handlers (block_rows parts.rest) o.behind_rest b o.rest) in
    subst (λ q. Climbs line q last) (sym (rows.lines_If (branch_of line test body ∷ parts.branches) parts.rest))
    (climbs_on line (branch_rows (branch_of line test body) ++ flat_map branch_rows parts.branches) o.behind_branches (block_rows parts.rest) last front back)
kind_climbs line (head.While test) body parts middle last k o = subst (λ q. Climbs line q last) (sym (rows.lines_While test body parts.rest)) (loop_climbs line body parts middle last k o)
kind_climbs line (head.For target over) body parts middle last k o = subst (λ q. Climbs line q last) (sym (rows.lines_For target over body parts.rest)) (loop_climbs line body parts middle last k o)
kind_climbs line head.Try body parts middle last k o =
    let a = spans middle (flat_map branch_rows parts.branches) o.behind_branches o.branches in
    let back = climbs_on o.behind_handlers (block_rows parts.rest) o.behind_rest (option_rows parts.last) last o.rest o.ending in
    let further = climbs_on o.behind_branches (flat_map handler_rows parts.handlers) o.behind_handlers (block_rows parts.rest ++ option_rows parts.last) last o.handlers back in
    subst (λ q. Climbs line q last) (sym (rows.lines_Try body parts.handlers parts.rest parts.last))
    (climbs_on line (block_rows body) o.behind_branches (flat_map handler_rows parts.handlers ++ (block_rows parts.rest ++ option_rows parts.last)) last (raised line (block_rows body) middle o.behind_branches a k) further)
kind_climbs line (head.Def text params) body parts middle last k o =
    let a = spans middle (flat_map branch_rows parts.branches) o.behind_branches o.branches in
    let b = spans o.behind_branches (flat_map handler_rows parts.handlers) o.behind_handlers o.handlers in
    let c = spans o.behind_handlers (block_rows parts.rest) o.behind_rest o.rest in
    let d = spans o.behind_rest (option_rows parts.last) last o.ending in
    let up : middle ≤ last = omega arith in
    subst (λ q. Climbs line q last) (sym (rows.lines_Def text params body)) (raised line (block_rows body) middle last up k)

-- ---- readings

joined : (xs ys : List Stmt) (a b c : ℕ) → Climbs a (block_rows xs) b → Climbs b (block_rows ys) c → Climbs a (block_rows (xs ++ ys)) c
joined xs ys a b c h k = subst (λ q. Climbs a q c) (sym (flat_map-append stmt_lines xs ys)) (climbs_on a (block_rows xs) b (block_rows ys) c h k)

mutual
  statement_climbs : (one : g.Statement) (rest : List Token) (least : ℕ) → FormedFrom least (g.statement_text one rest) → Reaches least (block_rows (g.statement_list one)) rest
  statement_climbs (g.simple one) rest least k = subst (λ xs. Reaches least xs rest) (sym (rows_line one)) (line_climbs one rest least k)
  statement_climbs (g.compound first b cs) rest least k =
      let line = g.first_line first in
      let its = g.first_tree first in
      let body = g.suite_list b in
      let p = first_climbs first (g.suite_text b (g.clauses_text cs rest)) least k in
      let q = suite_climbs b (g.clauses_text cs rest) line p.1 in
      let r = clauses_climb cs no_parts rest q.0 q.0 (ordered_none q.0) (room_first its) q.2 in
      let parts = g.clauses_parts cs no_parts in
      let kind = kind_of line its body parts in
      let inner = kind_climbs line its body parts q.0 r.0 q.1 r.1 in
      (r.0, subst (λ xs. Climbs least xs r.0) (sym (append-nil (stmt_lines (stmt_of line kind)) ∙ rows.lines_stmt line kind)) (p.0, inner), r.2)

  suite_climbs : (b : g.Suite) (rest : List Token) (least : ℕ) → FormedFrom least (g.suite_text b rest) → Reaches least (block_rows (g.suite_list b)) rest
  suite_climbs (g.inline one) rest least k = subst (λ xs. Reaches least xs rest) (sym (rows_line one)) (line_climbs one rest least k)
  suite_climbs (g.block n i first others d) rest least k =
      let tail = at d tok.Dedent ∷ rest in
      let inside = g.statement_text first (g.statements_text others tail) in
      let p = statement_climbs first (g.statements_text others tail) least (next_from least (at i tok.Indent) inside (next_from least (at n tok.Newline) (at i tok.Indent ∷ inside) k)) in
      let q = statements_climb others tail p.0 p.2 in
      (q.0, joined (g.statement_list first) (g.statements_list others) least p.0 q.0 p.1 q.1, next_from q.0 (at d tok.Dedent) rest q.2)

  statements_climb : (ss : g.Statements) (rest : List Token) (least : ℕ) → FormedFrom least (g.statements_text ss rest) → Reaches least (block_rows (g.statements_list ss)) rest
  statements_climb g.no_statement rest least k = (least, (let le : least ≤ least = omega arith in le), k)
  statements_climb (g.more one others) rest least k =
      let p = statement_climbs one (g.statements_text others rest) least k in
      let q = statements_climb others rest p.0 p.2 in
      (q.0, joined (g.statement_list one) (g.statements_list others) least p.0 q.0 p.1 q.1, q.2)

  clauses_climb : {stage : Stage} (cs : g.Clauses stage) (parts : Parts) (rest : List Token) (least last : ℕ) → Ordered least parts last → Room stage parts → FormedFrom last (g.clauses_text cs rest)
      → (end : ℕ) × Ordered least (g.clauses_parts cs parts) end × FormedFrom end rest
  clauses_climb (g.ends whole) parts rest least last o room k = (last, o, k)
  clauses_climb (g.clause {stage} later follows b cs) parts rest least last o room k =
      let line = g.later_line later in
      let its = g.later_tree later in
      let body = g.suite_list b in
      let p = later_climbs later (g.suite_text b (g.clauses_text cs rest)) last k in
      let q = suite_climbs b (g.clauses_text cs rest) line p.1 in
      let r = room_on stage later line body parts follows room in
      clauses_climb cs (with_clause line its body parts) rest least q.0 (ordered_on line its body parts least last q.0 r.0 o p.0 q.1) r.1 q.2

-- ---- whole sources

-- The lines of the tree of formed tokens never fall.
pub lines_formed : (tokens : List Token) (tree : Module) → AreFormed tokens → g.IsTree tokens tree → never_fall 1 (flat_map stmt_lines tree.body) ≡ true
lines_formed tokens tree k is =
    let end = at is.last tok.End ∷ [] in
    let p = statements_climb is.reading end 1 (subst (FormedFrom 1) is.spelled k.each) in
    ap (λ body. never_fall 1 (flat_map stmt_lines body)) (sym is.is) ∙ never_falls 1 (flat_map stmt_lines (g.statements_list is.reading)) p.0 p.1
