-- From what reading gives to what the parser owes.
use Rattle.std.proofs.Common.{◌≡◌, ℕ, suc, ◌+◌, ◌-◌, ◌<◌, ◌≤◌, ◌⊎◌, inl, inr, length, drop, List, [], ◌∷◌, Result, Ok, Err, refl, sym, ap, subst, ◌∙◌, arith}
use Rattle.std.specs.Prelude.{IfOk, MatchResult}
use Rattle.mpy_base.specs.declared.refused.Refused.{Refused}
use Rattle.mpy_base.specs.declared.refused.Refused.TheVariants as refused
use Rattle.mpy_base.specs.declared.source.SourceCode.TheVariants.{Syntax, TooDeep}
use Rattle.mpy_base.specs.declared.source.SourceFault.{SourceFault}
use Rattle.py_tokens.specs.declared.token.Token.{Token}
use Rattle.py_tree.specs.declared.stmt.Stmt.{Stmt}
use Rattle.py_tree.specs.declared.stmt.Module.{Module}
use Rattle.py_expressions.specs.declared.cursor.Cursor.{Cursor}
use Rattle.py_expressions.specs.declared.cursor.Syntax.{Syntax as Stopped}
use Rattle.py_expressions.specs.Input.{Input, Outcome, Reads, input_of}
use Rattle.py_expressions.proofs.Steps.{done, stopped, done_is, no_err}
use Rattle.py_nest.specs.Nest.{Nests, IsTooDeep}
use Rattle.py_nest.proofs.Shortest.{one_line, not_too_deep}
use Rattle.py_statements.specs.Reading.{line_at}
use Rattle.py_parser.specs.Grammar.{IsTree}
use Rattle.py_parser.specs.Fronts.{IsLongest}
use Rattle.py_parser.specs.Reading.{file, file_from}
use Rattle.py_parser.specs.Parsed.{ReadsAll, fault_of, IsBehindLongest, IsEnded, IsDeepFault, IsSyntaxFault, IsFault}
use Rattle.py_parser.proofs.Tails.{IsTail, front_tail, tail_dropped, end_left}
use Rattle.py_parser.proofs.Whole.{read_tree, tree_read, stops_longest, one_tree}

pub reads_all : (o : Outcome (List Stmt)) (r : Result (List Stmt) (Refused Stopped)) (new : Cursor) → Reads o r new → ReadsAll o r
reads_all o (Ok x) new h = (input_of new, h)
reads_all o (Err (refused.Fault e)) new h = h
reads_all o (Err refused.NoMemory) new h = tt

-- what stopped is no tree
no_tree : (ts : List Token) (n : ℕ) → file ts ≡ stopped n → (tree : Module) → ¬ IsTree ts tree
no_tree ts n h tree t = let a = tree_read ts tree t in no_err n tree.body a.0 (sym h ∙ a.1)

longest_tail : (ts rest : List Token) → IsLongest ts rest → IsTail rest ts
longest_tail ts rest x = subst (λ q. IsTail rest q) (sym x.splits) (front_tail x.front rest)

syntax_fault : (ts : List Token) (n : ℕ) (fault : SourceFault) → Nests ts → file ts ≡ stopped n → fault ≡ fault_of Syntax (line_at (drop (length ts - n) ts)) → IsSyntaxFault ts fault
syntax_fault ts n fault nests h is =
    let l = stops_longest ts n h in
    record {
      nests = nests;
      no_tree = no_tree ts n h;
      line = line_at (drop (length ts - n) ts);
      behind = record { rest = l.0; longest = l.2; stands = ap (λ m. line_at (drop (length ts - m) ts)) l.1 ∙ ap line_at (tail_dropped ts l.0 (longest_tail ts l.0 l.2)) };
      is = is;
    }

same_length : (ts : List Token) (a b : List Token) → IsLongest ts a → IsLongest ts b → length a ≡ length b
same_length ts a b x y =
    let p = x.longest y.front b y.splits in
    let q = y.longest x.front a x.splits in
    omega arith

same_rest : (ts : List Token) (a b : List Token) → IsLongest ts a → IsLongest ts b → a ≡ b
same_rest ts a b x y =
    sym (tail_dropped ts a (longest_tail ts a x)) ∙ ap (λ k. drop (length ts - k) ts) (same_length ts a b x y) ∙ tail_dropped ts b (longest_tail ts b y)

one_syntax_line : (ts : List Token) (m n : ℕ) → IsBehindLongest ts m → IsBehindLongest ts n → m ≡ n
one_syntax_line ts m n x y = x.stands ∙ ap line_at (same_rest ts x.rest y.rest x.longest y.longest) ∙ sym y.stands

first_of_some : (rest : List Token) → 0 < length rest → (token : Token) × (more : List Token) × (rest ≡ token ∷ more)
first_of_some [] h = absurd (omega arith)
first_of_some (t ∷ ts) h = (t, ts, refl)

-- an End isn't passed
pub token_stands : (ts rest : List Token) → IsEnded ts → IsLongest ts rest → (token : Token) × (more : List Token) × (rest ≡ token ∷ more)
token_stands ts rest e l = first_of_some rest (end_left e.front rest e.last (subst (λ q. IsTail rest q) e.is (longest_tail ts rest l)))

pub one_fault : (ts : List Token) (first second : SourceFault) → IsFault ts first → IsFault ts second → first ≡ second
one_fault ts a b x y =
    elim x [
      | inl p ↦
          elim y [
            | inl q ↦ p.is ∙ ap (fault_of TooDeep) (one_line ts p.line q.line p.deep q.deep) ∙ sym q.is
            | inr q ↦ absurd (not_too_deep ts p.line q.nests p.deep)
          ]
      | inr p ↦
          elim y [
            | inl q ↦ absurd (not_too_deep ts q.line p.nests q.deep)
            | inr q ↦ p.is ∙ ap (fault_of Syntax) (one_syntax_line ts p.line q.line p.behind q.behind) ∙ sym q.is
          ]
    ]

-- what the parser owes at an answer
pub record Owed (ts : List Token) (r : Result Module (Refused SourceFault)) : Type 0 where
  pub found : IfOk r (λ tree. IsTree ts tree)
  pub nests : IfOk r (λ _. Nests ts)
  pub only : (tree : Module) → Nests ts → IsTree ts tree → MatchResult r (λ found. found ≡ tree) (λ error. error ≡ refused.NoMemory)
  pub fault : (f : SourceFault) → r ≡ Err (refused.Fault f) → IsFault ts f
  pub fault_only : (f : SourceFault) → IsFault ts f → (r ≡ Err (refused.Fault f)) ⊎ (r ≡ Err refused.NoMemory)

same_fault : (f g : SourceFault) → (let r : Result Module (Refused SourceFault) = Err (refused.Fault f) in r ≡ Err (refused.Fault g)) → f ≡ g
same_fault f g e = cc

fault_owed : (ts : List Token) (f : SourceFault) → IsFault ts f → ((tree : Module) → Nests ts → ¬ IsTree ts tree) → Owed ts (Err (refused.Fault f))
fault_owed ts f is none = record {
  found = tt;
  nests = tt;
  only = λ tree nests t. absurd (none tree nests t);
  fault = λ g e. subst (λ q. IsFault ts q) (same_fault f g e) is;
  fault_only = λ g h. inl (ap (λ (q : SourceFault). Err (refused.Fault q)) (one_fault ts f g is h));
}

pub deep_owed : (ts : List Token) (line : ℕ) (f : SourceFault) → IsTooDeep ts line → f ≡ fault_of TooDeep line → Owed ts (Err (refused.Fault f))
deep_owed ts line f deep is = fault_owed ts f (inl (record { line = line; deep = deep; is = is })) (λ tree nests t. not_too_deep ts line nests deep)

pub syntax_owed : (ts : List Token) (stop : Stopped) (f : SourceFault) → Nests ts → ReadsAll (file ts) (Err (refused.Fault stop)) → f ≡ fault_of Syntax (line_at (drop (length ts - stop.left) ts)) → Owed ts (Err (refused.Fault f))
syntax_owed ts stop f nests h is = fault_owed ts f (inr (syntax_fault ts stop.left f nests h is)) (λ tree _ t. no_tree ts stop.left h tree t)

pub tree_owed : (ts : List Token) (body : List Stmt) → Nests ts → ReadsAll (file ts) (Ok body) → Owed ts (Ok (record { body = body }))
tree_owed ts body nests h = record {
  found = read_tree ts body h.0 h.1;
  nests = nests;
  only = λ tree _ t. one_tree ts (record { body = body }) tree (read_tree ts body h.0 h.1) t;
  fault = λ g e. absurd cc;
  fault_only = λ g f. absurd (elim f [ inl p ↦ not_too_deep ts p.line nests p.deep | inr p ↦ p.no_tree (record { body = body }) (read_tree ts body h.0 h.1) ]);
}

pub memory_owed : (ts : List Token) → Owed ts (Err refused.NoMemory)
memory_owed ts = record { found = tt; nests = tt; only = λ tree _ t. refl; fault = λ g e. absurd cc; fault_only = λ g f. inr refl }

pub room : (ts : List Token) → file_from (length ts + 2) (length ts + 1) [] (record { ahead = ts; front = length ts }) ≡ file ts
unfolding file
room ts =
    let d : length ts + 2 ≡ suc (suc (length ts)) = omega arith in
    let n : length ts + 1 ≡ suc (length ts) = omega arith in
    ap (λ m. file_from m (length ts + 1) [] (record { ahead = ts; front = length ts })) d ∙ ap (λ m. file_from (suc (suc (length ts))) m [] (record { ahead = ts; front = length ts })) n

-- tokens with a tree have no fault
pub not_both : (ts : List Token) (tree : Module) (fault : SourceFault) → Nests ts → IsTree ts tree → IsFault ts fault → ⊥
not_both ts tree fault nests is (inl deep) = not_too_deep ts deep.line nests deep.deep
not_both ts tree fault nests is (inr syntax) = syntax.no_tree tree is
