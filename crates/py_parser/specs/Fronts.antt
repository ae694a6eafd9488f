-- Fronts: what may stand in front of the first token that can't be read.
use Rattle.std.specs.Prelude.{◌≡◌, ◌≤◌, Bool, true, List, [], ◌∷◌, length}
use Rattle.py_tokens.specs.declared.token.Tok.TheVariants as tok
use Rattle.py_tokens.specs.declared.token.Token.{Token}
use Rattle.py_expressions.specs.Input.{Place, at}
use Rattle.py_parser.specs.declared.clause.Stage.{Stage}
use Rattle.py_parser.specs.Clauses.{may_follow, first_stage, behind}
use Rattle.py_parser.specs.Grammar.{First, first_text, first_tree, Later, later_text, later_tree, later_word, Suite, suite_text, Statements, statements_text}

mutual
  -- whole statements, and then nothing or an open one
  pub data Front : Type 0 where
    whole : Statements → Front
    opened : Statements → Open → Front

  -- The clauses of one compound statement, up to and with a colon of its own, and then Newline, Indent and again a front.
  pub data Open : Type 0 where
    in_first : First → Place → Place → Front → Open
    behind_first : (first : First) → Suite → OpenClauses (first_stage (first_tree first)) → Open

  -- the further clauses of an open statement that has come to that stage: the last of them is open
  pub data OpenClauses : Stage → Type 0 where
    in_later : {stage : Stage} → (later : Later) → may_follow stage (later_word later) ≡ true → Place → Place → Front → OpenClauses stage
    behind_later : {stage : Stage} → (later : Later) → may_follow stage (later_word later) ≡ true → Suite
        → OpenClauses (behind stage (later_tree later)) → OpenClauses stage

abbrev mutual
  pub front_text : Front → List Token → List Token
  front_text (whole ss) rest = statements_text ss rest
  front_text (opened ss o) rest = statements_text ss (open_text o rest)

  pub open_text : Open → List Token → List Token
  open_text (in_first first n i f) rest = first_text first (at n tok.Newline ∷ at i tok.Indent ∷ front_text f rest)
  open_text (behind_first first b os) rest = first_text first (suite_text b (open_clauses_text os rest))

  pub open_clauses_text : {stage : Stage} → OpenClauses stage → List Token → List Token
  open_clauses_text (in_later later follows n i f) rest = later_text later (at n tok.Newline ∷ at i tok.Indent ∷ front_text f rest)
  open_clauses_text (behind_later later follows b os) rest = later_text later (suite_text b (open_clauses_text os rest))

-- the longest front of the tokens, and what stands behind it
pub record IsLongest (tokens rest : List Token) : Type 0 where
  pub front : Front
  pub splits : tokens ≡ front_text front rest
  pub longest : (other : Front) (more : List Token) → tokens ≡ front_text other more → length rest ≤ length more
