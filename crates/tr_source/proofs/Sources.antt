-- A source takes no name with a dot.
use Rattle.std.proofs.Common.{◌≡◌, ℕ, true, List, [], ◌∷◌, sym, ap, subst, ◌∙◌}
use Rattle.std.specs.List.{list_all}
use Rattle.py_source.specs.py_tokens.declared.token.Tok.TheVariants as tok
use Rattle.py_source.specs.py_tokens.declared.token.Token.{Token}
use Rattle.py_source.specs.py_tokens.Formed.{FormedFrom}
use Rattle.py_source.specs.py_tokens.Tokens.{IsTokens}
use Rattle.py_source.proofs.py_tokens_lemmas.Fewer.{sources_formed}
use Rattle.py_source.proofs.py_tokens_lemmas.Named.{tokens_named}
use Rattle.py_meaning.specs.py_tree.declared.stmt.Module.{Module}
use Rattle.py_source.specs.py_expressions.Input.{at}
use Rattle.py_source.proofs.py_expressions_lemmas.Formed.{first_is}
use Rattle.py_source.specs.py_parser.Grammar.{IsTree}
use Rattle.py_source.proofs.py_parser_lemmas.Formed.{next_from, here_from}
use Rattle.py_source.specs.declared.source.Accepted.{Accepted}
use Rattle.py_source.specs.Source.{IsAccepted}
use Rattle.tr_source.specs.Names.{token_undotted, tokens_undotted, stmt_undotted, TakesUndotted}
use Rattle.tr_source.proofs.Tokens.{second_is, named_undotted}
use Rattle.tr_source.proofs.Statements.{statements_undotted}

abbrev Known : List Token → Type 0
Known list = FormedFrom 1 list × (tokens_undotted list ≡ true)

next : (t : Token) (ts : List Token) → Known (t ∷ ts) → Known ts
next t ts k = (next_from 1 t ts k.0, second_is (token_undotted t.kind) (tokens_undotted ts) k.1)

here : (t : Token) (ts : List Token) → Known (t ∷ ts) → token_undotted t.kind ≡ true
here t ts k = first_is (token_undotted t.kind) (tokens_undotted ts) k.1

-- the tree of tokens whose names have no dot
pub grammar_undotted : (list : List Token) (tree : Module) → Known list → IsTree list tree → TakesUndotted tree
grammar_undotted list tree k is =
    let end = at is.last tok.End ∷ [] in
    ap (list_all stmt_undotted) (sym is.is) ∙ (statements_undotted Known next (λ t ts known. here_from 1 t ts known.0) here is.reading end (subst Known is.spelled k)).0

pub list_undotted : (level : ℕ) (source : List ℕ) (list : List Token) → IsTokens level source list → tokens_undotted list ≡ true
list_undotted level source list is = named_undotted list (tokens_named level source list is)

pub source_undotted : (level : ℕ) (source : List ℕ) (accepted : Accepted) → IsAccepted level source accepted → TakesUndotted accepted.tree
source_undotted level source accepted is =
    let s = is.is_source in
    grammar_undotted s.list accepted.tree ((sources_formed level source s.list s.are_tokens).each, list_undotted level source s.list s.are_tokens) s.is_tree
