-- Compound statements are the productions.
use Rattle.std.proofs.Common.{◌≡◌, List, [], ◌∷◌, ◌++◌, map, Option, Some, None, inl, inr, refl, sym, ap, subst, ◌∙◌, append_assoc, append-nil}
use Rattle.py_tokens.specs.declared.token.Token.{Token}
use Rattle.py_tree.specs.declared.stmt.Stmt.{Stmt}
use Rattle.py_expressions.specs.Input.{Place}
use Rattle.py_expressions.specs.Grammar.{Test}
use Rattle.py_statements.specs.Reading.{stmt_of}
use Rattle.py_parser.specs.declared.clause.Parts.{Parts}
use Rattle.py_parser.specs.Clauses.{first_stage, no_parts, kind_of}
use Rattle.py_parser.specs.Grammar as g
use Rattle.py_parser.specs.Productions as p
use Rattle.py_parser.proofs.Produced.{Shape, shape_text, shape_parts, with_elifs, with_else, with_except, with_tested, with_untested, with_excepts, with_finally, shape_of, same_text, same_parts, clauses_of, shape_back}

-- ---- the lists of branches and handlers

elifs_given : (es : List p.Elif) (parts : Parts) → with_elifs es parts ≡ record parts { branches = parts.branches ++ map p.elif_branch es }
elifs_given [] parts = ap (λ xs. record parts { branches = xs }) (sym (append-nil parts.branches))
elifs_given (e ∷ es) parts =
    elifs_given es (record parts { branches = parts.branches ++ p.elif_branch e ∷ [] })
    ∙ ap (λ xs. record parts { branches = xs }) (append_assoc parts.branches (p.elif_branch e ∷ []) (map p.elif_branch es))

tested_given : (es : List p.Except) (parts : Parts) → with_tested es parts ≡ record parts { handlers = parts.handlers ++ map p.except_handler es }
tested_given [] parts = ap (λ xs. record parts { handlers = xs }) (sym (append-nil parts.handlers))
tested_given (e ∷ es) parts =
    tested_given es (record parts { handlers = parts.handlers ++ p.except_handler e ∷ [] })
    ∙ ap (λ xs. record parts { handlers = xs }) (append_assoc parts.handlers (p.except_handler e ∷ []) (map p.except_handler es))

untested_given : (all : Option p.ExceptAll) (parts : Parts) → with_untested all parts ≡ record parts { handlers = parts.handlers ++ p.untested_list all }
untested_given None parts = ap (λ xs. record parts { handlers = xs }) (sym (append-nil parts.handlers))
untested_given (Some a) parts = refl

excepts_given : (es : p.Excepts) → with_excepts es no_parts ≡ record no_parts { handlers = p.excepts_list es }
excepts_given (p.tested e es all) = ap (with_untested all) (tested_given es (with_except e no_parts)) ∙ untested_given all (record no_parts { handlers = p.except_handler e ∷ map p.except_handler es })
excepts_given (p.untested a) = refl

-- ---- a compound statement as a production

pub production_of : (first : g.First) → g.Suite → Shape (first_stage (g.first_tree first)) → p.Production
production_of (g.if_ l t c) b (es, e) = p.if_ l t c b es e
production_of (g.while_ l t c) b e = p.while_ l t c b e
production_of (g.for_ l gs i m c) b e = p.for_ l gs i m c b e
production_of (g.try_ l c) b (inl f) = p.try_finally l c b f
production_of (g.try_ l c) b (inr (es, (e, f))) = p.try_excepts l c b es e f
production_of (g.def_ l n o ps fit r c) b u = p.def_ l n o ps fit r c b

production_spelled : (first : g.First) (b : g.Suite) (u : Shape (first_stage (g.first_tree first))) (rest : List Token)
    → g.first_text first (g.suite_text b (shape_text (first_stage (g.first_tree first)) u rest)) ≡ p.production_text (production_of first b u) rest
unfolding production_of
production_spelled (g.if_ l t c) b (es, e) rest = refl
production_spelled (g.while_ l t c) b e rest = refl
production_spelled (g.for_ l gs i m c) b e rest = refl
production_spelled (g.try_ l c) b (inl f) rest = refl
production_spelled (g.try_ l c) b (inr (es, (e, f))) rest = refl
production_spelled (g.def_ l n o ps fit r c) b u rest = refl

-- the statement that the header, the suite and the parts give
abbrev pub made : g.First → g.Suite → Parts → Stmt
made first b parts = stmt_of (g.first_line first) (kind_of (g.first_line first) (g.first_tree first) (g.suite_list b) parts)

if_else : (l : Place) (t : Test) (c : Place) (b : g.Suite) (es : List p.Elif) (e : Option p.Else)
    → made (g.if_ l t c) b (with_else e (record no_parts { branches = map p.elif_branch es })) ≡ p.production_tree (p.if_ l t c b es e)
if_else l t c b es None = refl
if_else l t c b es (Some e) = refl

try_else : (l c : Place) (b : g.Suite) (es : p.Excepts) (e : Option p.Else) (f : Option p.Finally)
    → made (g.try_ l c) b (with_finally f (with_else e (record no_parts { handlers = p.excepts_list es }))) ≡ p.production_tree (p.try_excepts l c b es e f)
try_else l c b es None None = refl
try_else l c b es None (Some f) = refl
try_else l c b es (Some e) None = refl
try_else l c b es (Some e) (Some f) = refl

production_is : (first : g.First) (b : g.Suite) (u : Shape (first_stage (g.first_tree first)))
    → made first b (shape_parts (first_stage (g.first_tree first)) u no_parts) ≡ p.production_tree (production_of first b u)
unfolding production_of
production_is (g.if_ l t c) b (es, e) = ap (λ parts. made (g.if_ l t c) b (with_else e parts)) (elifs_given es no_parts) ∙ if_else l t c b es e
production_is (g.while_ l t c) b None = refl
production_is (g.while_ l t c) b (Some e) = refl
production_is (g.for_ l gs i m c) b None = refl
production_is (g.for_ l gs i m c) b (Some e) = refl
production_is (g.try_ l c) b (inl f) = refl
production_is (g.try_ l c) b (inr (es, (e, f))) = ap (λ parts. made (g.try_ l c) b (with_finally f (with_else e parts))) (excepts_given es) ∙ try_else l c b es e f
production_is (g.def_ l n o ps fit r c) b u = refl

pub produced : (first : g.First) (b : g.Suite) (cs : g.Clauses (first_stage (g.first_tree first))) → p.Agree (g.compound first b cs) (production_of first b (shape_of cs))
produced first b cs =
    record {
      spelled = λ rest. ap (λ q. g.first_text first (g.suite_text b q)) (same_text cs rest) ∙ production_spelled first b (shape_of cs) rest;
      is = ap (λ (x : Stmt). x ∷ []) (ap (made first b) (same_parts cs no_parts) ∙ production_is first b (shape_of cs));
    }

pub is_produced : (first : g.First) (b : g.Suite) (cs : g.Clauses (first_stage (g.first_tree first))) → p.IsProduced first b cs
is_produced first b cs = record { production = production_of first b (shape_of cs); agree = produced first b cs }

-- ---- a production as a compound statement

compound_of : (first : g.First) (b : g.Suite) (u : Shape (first_stage (g.first_tree first))) → p.IsCompound (production_of first b u)
compound_of first b u =
    let cs = clauses_of (first_stage (g.first_tree first)) u in
    record {
      first = first;
      body = b;
      clauses = cs;
      agree = subst (λ v. p.Agree (g.compound first b cs) (production_of first b v)) (shape_back (first_stage (g.first_tree first)) u) (produced first b cs);
    }

pub is_compound : (production : p.Production) → p.IsCompound production
unfolding production_of
is_compound (p.if_ l t c b es e) = compound_of (g.if_ l t c) b (es, e)
is_compound (p.while_ l t c b e) = compound_of (g.while_ l t c) b e
is_compound (p.for_ l gs i m c b e) = compound_of (g.for_ l gs i m c) b e
is_compound (p.try_finally l c b f) = compound_of (g.try_ l c) b (inl f)
is_compound (p.try_excepts l c b es e f) = compound_of (g.try_ l c) b (inr (es, (e, f)))
is_compound (p.def_ l n o ps fit r c b) = compound_of (g.def_ l n o ps fit r c) b tt
