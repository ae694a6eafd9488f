-- How much the texts of readings add.
use Rattle.std.proofs.Common.{◌≡◌, ℕ, suc, ◌+◌, ◌<◌, ◌≤◌, List, [], ◌∷◌, length, arith}
use Rattle.py_tokens.specs.declared.token.Tok.TheVariants as tok
use Rattle.py_tokens.specs.declared.token.Token.{Token}
use Rattle.py_expressions.specs.Input.{Place, at}
use Rattle.py_parser.specs.declared.clause.Stage.{Stage}
use Rattle.py_parser.specs.Grammar.{First, first_text, Later, later_text, Statement, simple, compound, Suite, inline, block, Statements, no_statement, more, Clauses, ends, clause, statement_text, suite_text, statements_text, clauses_text}
use Rattle.py_parser.specs.Fronts.{Front, whole, opened, Open, in_first, behind_first, OpenClauses, in_later, behind_later, front_text, open_text, open_clauses_text}
use Rattle.py_parser.proofs.Below.{Below}

module _ (laws : Below) where
  mutual
    pub statement_grows : (one : Statement) (rest : List Token) → length rest < length (statement_text one rest)
    statement_grows (simple one) rest = laws.line_grows one rest
    statement_grows (compound f b cs) rest =
        let g = clauses_grow cs rest in let h = suite_grows b (clauses_text cs rest) in let u = laws.first_grows f (suite_text b (clauses_text cs rest)) in omega arith

    pub suite_grows : (b : Suite) (rest : List Token) → length rest < length (suite_text b rest)
    suite_grows (inline one) rest = laws.line_grows one rest
    suite_grows (block n i first others d) rest = let g = statements_grow others (at d tok.Dedent ∷ rest) in let h = statement_grows first (statements_text others (at d tok.Dedent ∷ rest)) in omega arith

    pub statements_grow : (ss : Statements) (rest : List Token) → length rest ≤ length (statements_text ss rest)
    statements_grow no_statement rest = omega arith
    statements_grow (more one others) rest = let g = statements_grow others rest in let h = statement_grows one (statements_text others rest) in omega arith

    pub clauses_grow : {stage : Stage} (cs : Clauses stage) (rest : List Token) → length rest ≤ length (clauses_text cs rest)
    clauses_grow (ends e) rest = omega arith
    clauses_grow (clause l follows b cs) rest =
        let g = clauses_grow cs rest in let h = suite_grows b (clauses_text cs rest) in let u = laws.later_grows l (suite_text b (clauses_text cs rest)) in omega arith

  mutual
    pub front_grows : (f : Front) (rest : List Token) → length rest ≤ length (front_text f rest)
    front_grows (whole ss) rest = statements_grow ss rest
    front_grows (opened ss o) rest = let g = open_grows o rest in let h = statements_grow ss (open_text o rest) in omega arith

    pub open_grows : (o : Open) (rest : List Token) → length rest ≤ length (open_text o rest)
    open_grows (in_first f n i front) rest =
        let g = front_grows front rest in let h = laws.first_grows f (at n tok.Newline ∷ at i tok.Indent ∷ front_text front rest) in omega arith
    open_grows (behind_first f b os) rest =
        let g = open_clauses_grow os rest in let h = suite_grows b (open_clauses_text os rest) in let u = laws.first_grows f (suite_text b (open_clauses_text os rest)) in omega arith

    pub open_clauses_grow : {stage : Stage} (os : OpenClauses stage) (rest : List Token) → length rest ≤ length (open_clauses_text os rest)
    open_clauses_grow (in_later l follows n i front) rest =
        let g = front_grows front rest in let h = laws.later_grows l (at n tok.Newline ∷ at i tok.Indent ∷ front_text front rest) in omega arith
    open_clauses_grow (behind_later l follows b os) rest =
        let g = open_clauses_grow os rest in let h = suite_grows b (open_clauses_text os rest) in let u = laws.later_grows l (suite_text b (open_clauses_text os rest)) in omega arith
