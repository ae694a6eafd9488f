-- The further clauses of a compound statement, stage by stage, are those of the productions.
use Rattle.std.proofs.Common.{◌≡◌, List, [], ◌∷◌, true, Option, Some, None, ◌⊎◌, inl, inr, refl, ap, ◌∙◌}
use Rattle.py_tokens.specs.declared.token.Token.{Token}
use Rattle.py_expressions.specs.Grammar.{test_tree}
use Rattle.py_parser.specs.declared.clause.Header.TheVariants as header
use Rattle.py_parser.specs.declared.clause.Stage.{Stage}
use Rattle.py_parser.specs.declared.clause.Stage.TheVariants.{Branches, Loop, Tried, Handlers, LastHandler, Rest, Ended}
use Rattle.py_parser.specs.declared.clause.Parts.{Parts}
use Rattle.py_parser.specs.Clauses.{may_follow, may_end, behind, with_clause}
use Rattle.py_parser.specs.Grammar as g
use Rattle.py_parser.specs.Productions as p

-- ---- what stands behind a clause, by the stage that it leaves

abbrev pub Shape : Stage → Type 0
Shape Branches = List p.Elif × Option p.Else
Shape Loop = Option p.Else
Shape Tried = p.Finally ⊎ (p.Excepts × (Option p.Else × Option p.Finally))
Shape Handlers = List p.Except × (Option p.ExceptAll × (Option p.Else × Option p.Finally))
Shape LastHandler = Option p.Else × Option p.Finally
Shape Rest = Option p.Finally
Shape Ended = Unit {0}

abbrev pub shape_text : (stage : Stage) → Shape stage → List Token → List Token
shape_text Branches (es, e) rest = p.elifs_text es (p.else_text e rest)
shape_text Loop e rest = p.else_text e rest
shape_text Tried (inl f) rest = p.last_text f rest
shape_text Tried (inr (es, (e, f))) rest = p.excepts_text es (p.else_text e (p.finally_text f rest))
shape_text Handlers (es, (all, (e, f))) rest = p.tested_text es (p.untested_text all (p.else_text e (p.finally_text f rest)))
shape_text LastHandler (e, f) rest = p.else_text e (p.finally_text f rest)
shape_text Rest f rest = p.finally_text f rest
shape_text Ended u rest = rest

-- ---- what they make of the parts

abbrev pub with_elifs : List p.Elif → Parts → Parts
with_elifs [] parts = parts
with_elifs (e ∷ es) parts = with_elifs es (with_clause e.place.line (header.Elif (test_tree e.test)) (g.suite_list e.body) parts)

abbrev pub with_else : Option p.Else → Parts → Parts
with_else None parts = parts
with_else (Some e) parts = with_clause e.place.line header.Else (g.suite_list e.body) parts

abbrev pub with_except : p.Except → Parts → Parts
with_except e parts = with_clause e.place.line (header.Except (Some (test_tree e.test)) (g.naming_tree e.naming)) (g.suite_list e.body) parts

abbrev pub with_tested : List p.Except → Parts → Parts
with_tested [] parts = parts
with_tested (e ∷ es) parts = with_tested es (with_except e parts)

abbrev pub with_except_all : p.ExceptAll → Parts → Parts
with_except_all e parts = with_clause e.place.line (header.Except None None) (g.suite_list e.body) parts

abbrev pub with_untested : Option p.ExceptAll → Parts → Parts
with_untested None parts = parts
with_untested (Some e) parts = with_except_all e parts

abbrev pub with_excepts : p.Excepts → Parts → Parts
with_excepts (p.tested e es all) parts = with_untested all (with_tested es (with_except e parts))
with_excepts (p.untested e) parts = with_except_all e parts

abbrev pub with_last : p.Finally → Parts → Parts
with_last f parts = with_clause f.place.line header.Finally (g.suite_list f.body) parts

abbrev pub with_finally : Option p.Finally → Parts → Parts
with_finally None parts = parts
with_finally (Some f) parts = with_last f parts

abbrev pub shape_parts : (stage : Stage) → Shape stage → Parts → Parts
shape_parts Branches (es, e) parts = with_else e (with_elifs es parts)
shape_parts Loop e parts = with_else e parts
shape_parts Tried (inl f) parts = with_last f parts
shape_parts Tried (inr (es, (e, f))) parts = with_finally f (with_else e (with_excepts es parts))
shape_parts Handlers (es, (all, (e, f))) parts = with_finally f (with_else e (with_untested all (with_tested es parts)))
shape_parts LastHandler (e, f) parts = with_finally f (with_else e parts)
shape_parts Rest f parts = with_finally f parts
shape_parts Ended u parts = parts

-- ---- the clauses of the grammar are such a shape

-- no clause more
pub nothing : (stage : Stage) → may_end stage ≡ true → Shape stage
nothing Branches whole = ([], None)
nothing Loop whole = None
nothing Tried whole = absurd cc
nothing Handlers whole = ([], (None, (None, None)))
nothing LastHandler whole = (None, None)
nothing Rest whole = None
nothing Ended whole = tt

nothing_text : (stage : Stage) (whole : may_end stage ≡ true) (rest : List Token) → rest ≡ shape_text stage (nothing stage whole) rest
unfolding nothing
nothing_text Branches whole rest = refl
nothing_text Loop whole rest = refl
nothing_text Tried whole rest = absurd cc
nothing_text Handlers whole rest = refl
nothing_text LastHandler whole rest = refl
nothing_text Rest whole rest = refl
nothing_text Ended whole rest = refl

nothing_parts : (stage : Stage) (whole : may_end stage ≡ true) (parts : Parts) → parts ≡ shape_parts stage (nothing stage whole) parts
unfolding nothing
nothing_parts Branches whole parts = refl
nothing_parts Loop whole parts = refl
nothing_parts Tried whole parts = absurd cc
nothing_parts Handlers whole parts = refl
nothing_parts LastHandler whole parts = refl
nothing_parts Rest whole parts = refl
nothing_parts Ended whole parts = refl

-- a clause, and what stands behind it
pub added : (stage : Stage) (later : g.Later) → may_follow stage (g.later_word later) ≡ true → g.Suite → Shape (behind stage (g.later_tree later)) → Shape stage
added Branches (g.elif l t c) follows b (es, e) = (record { place = l; test = t; colon = c; body = b } ∷ es, e)
added Branches (g.else_ l c) follows b u = ([], Some (record { place = l; colon = c; body = b }))
added Branches (g.except l t n c) follows b u = absurd cc
added Branches (g.except_all l c) follows b u = absurd cc
added Branches (g.finally l c) follows b u = absurd cc
added Loop (g.elif l t c) follows b u = absurd cc
added Loop (g.else_ l c) follows b u = Some (record { place = l; colon = c; body = b })
added Loop (g.except l t n c) follows b u = absurd cc
added Loop (g.except_all l c) follows b u = absurd cc
added Loop (g.finally l c) follows b u = absurd cc
added Tried (g.elif l t c) follows b u = absurd cc
added Tried (g.else_ l c) follows b u = absurd cc
added Tried (g.except l t n c) follows b (es, (all, (e, f))) = inr (p.tested (record { place = l; test = t; naming = n; colon = c; body = b }) es all, (e, f))
added Tried (g.except_all l c) follows b (e, f) = inr (p.untested (record { place = l; colon = c; body = b }), (e, f))
added Tried (g.finally l c) follows b u = inl (record { place = l; colon = c; body = b })
added Handlers (g.elif l t c) follows b u = absurd cc
added Handlers (g.else_ l c) follows b f = ([], (None, (Some (record { place = l; colon = c; body = b }), f)))
added Handlers (g.except l t n c) follows b (es, (all, (e, f))) = (record { place = l; test = t; naming = n; colon = c; body = b } ∷ es, (all, (e, f)))
added Handlers (g.except_all l c) follows b (e, f) = ([], (Some (record { place = l; colon = c; body = b }), (e, f)))
added Handlers (g.finally l c) follows b u = ([], (None, (None, Some (record { place = l; colon = c; body = b }))))
added LastHandler (g.elif l t c) follows b u = absurd cc
added LastHandler (g.else_ l c) follows b f = (Some (record { place = l; colon = c; body = b }), f)
added LastHandler (g.except l t n c) follows b u = absurd cc
added LastHandler (g.except_all l c) follows b u = absurd cc
added LastHandler (g.finally l c) follows b u = (None, Some (record { place = l; colon = c; body = b }))
added Rest (g.elif l t c) follows b u = absurd cc
added Rest (g.else_ l c) follows b u = absurd cc
added Rest (g.except l t n c) follows b u = absurd cc
added Rest (g.except_all l c) follows b u = absurd cc
added Rest (g.finally l c) follows b u = Some (record { place = l; colon = c; body = b })
added Ended (g.elif l t c) follows b u = absurd cc
added Ended (g.else_ l c) follows b u = absurd cc
added Ended (g.except l t n c) follows b u = absurd cc
added Ended (g.except_all l c) follows b u = absurd cc
added Ended (g.finally l c) follows b u = absurd cc

added_text : (stage : Stage) (later : g.Later) (follows : may_follow stage (g.later_word later) ≡ true) (b : g.Suite) (u : Shape (behind stage (g.later_tree later))) (rest : List Token)
    → g.later_text later (g.suite_text b (shape_text (behind stage (g.later_tree later)) u rest)) ≡ shape_text stage (added stage later follows b u) rest
unfolding added
added_text Branches (g.elif l t c) follows b (es, e) rest = refl
added_text Branches (g.else_ l c) follows b u rest = refl
added_text Branches (g.except l t n c) follows b u rest = absurd cc
added_text Branches (g.except_all l c) follows b u rest = absurd cc
added_text Branches (g.finally l c) follows b u rest = absurd cc
added_text Loop (g.elif l t c) follows b u rest = absurd cc
added_text Loop (g.else_ l c) follows b u rest = refl
added_text Loop (g.except l t n c) follows b u rest = absurd cc
added_text Loop (g.except_all l c) follows b u rest = absurd cc
added_text Loop (g.finally l c) follows b u rest = absurd cc
added_text Tried (g.elif l t c) follows b u rest = absurd cc
added_text Tried (g.else_ l c) follows b u rest = absurd cc
added_text Tried (g.except l t n c) follows b (es, (all, (e, f))) rest = refl
added_text Tried (g.except_all l c) follows b (e, f) rest = refl
added_text Tried (g.finally l c) follows b u rest = refl
added_text Handlers (g.elif l t c) follows b u rest = absurd cc
added_text Handlers (g.else_ l c) follows b f rest = refl
added_text Handlers (g.except l t n c) follows b (es, (all, (e, f))) rest = refl
added_text Handlers (g.except_all l c) follows b (e, f) rest = refl
added_text Handlers (g.finally l c) follows b u rest = refl
added_text LastHandler (g.elif l t c) follows b u rest = absurd cc
added_text LastHandler (g.else_ l c) follows b f rest = refl
added_text LastHandler (g.except l t n c) follows b u rest = absurd cc
added_text LastHandler (g.except_all l c) follows b u rest = absurd cc
added_text LastHandler (g.finally l c) follows b u rest = refl
added_text Rest (g.elif l t c) follows b u rest = absurd cc
added_text Rest (g.else_ l c) follows b u rest = absurd cc
added_text Rest (g.except l t n c) follows b u rest = absurd cc
added_text Rest (g.except_all l c) follows b u rest = absurd cc
added_text Rest (g.finally l c) follows b u rest = refl
added_text Ended (g.elif l t c) follows b u rest = absurd cc
added_text Ended (g.else_ l c) follows b u rest = absurd cc
added_text Ended (g.except l t n c) follows b u rest = absurd cc
added_text Ended (g.except_all l c) follows b u rest = absurd cc
added_text Ended (g.finally l c) follows b u rest = absurd cc

added_parts : (stage : Stage) (later : g.Later) (follows : may_follow stage (g.later_word later) ≡ true) (b : g.Suite) (u : Shape (behind stage (g.later_tree later))) (parts : Parts)
    → shape_parts (behind stage (g.later_tree later)) u (with_clause (g.later_line later) (g.later_tree later) (g.suite_list b) parts) ≡ shape_parts stage (added stage later follows b u) parts
unfolding added
added_parts Branches (g.elif l t c) follows b (es, e) parts = refl
added_parts Branches (g.else_ l c) follows b u parts = refl
added_parts Branches (g.except l t n c) follows b u parts = absurd cc
added_parts Branches (g.except_all l c) follows b u parts = absurd cc
added_parts Branches (g.finally l c) follows b u parts = absurd cc
added_parts Loop (g.elif l t c) follows b u parts = absurd cc
added_parts Loop (g.else_ l c) follows b u parts = refl
added_parts Loop (g.except l t n c) follows b u parts = absurd cc
added_parts Loop (g.except_all l c) follows b u parts = absurd cc
added_parts Loop (g.finally l c) follows b u parts = absurd cc
added_parts Tried (g.elif l t c) follows b u parts = absurd cc
added_parts Tried (g.else_ l c) follows b u parts = absurd cc
added_parts Tried (g.except l t n c) follows b (es, (all, (e, f))) parts = refl
added_parts Tried (g.except_all l c) follows b (e, f) parts = refl
added_parts Tried (g.finally l c) follows b u parts = refl
added_parts Handlers (g.elif l t c) follows b u parts = absurd cc
added_parts Handlers (g.else_ l c) follows b f parts = refl
added_parts Handlers (g.except l t n c) follows b (es, (all, (e, f))) parts = refl
added_parts Handlers (g.except_all l c) follows b (e, f) parts = refl
added_parts Handlers (g.finally l c) follows b u parts = refl
added_parts LastHandler (g.elif l t c) follows b u parts = absurd cc
added_parts LastHandler (g.else_ l c) follows b f parts = refl
added_parts LastHandler (g.except l t n c) follows b u parts = absurd cc
added_parts LastHandler (g.except_all l c) follows b u parts = absurd cc
added_parts LastHandler (g.finally l c) follows b u parts = refl
added_parts Rest (g.elif l t c) follows b u parts = absurd cc
added_parts Rest (g.else_ l c) follows b u parts = absurd cc
added_parts Rest (g.except l t n c) follows b u parts = absurd cc
added_parts Rest (g.except_all l c) follows b u parts = absurd cc
added_parts Rest (g.finally l c) follows b u parts = refl
added_parts Ended (g.elif l t c) follows b u parts = absurd cc
added_parts Ended (g.else_ l c) follows b u parts = absurd cc
added_parts Ended (g.except l t n c) follows b u parts = absurd cc
added_parts Ended (g.except_all l c) follows b u parts = absurd cc
added_parts Ended (g.finally l c) follows b u parts = absurd cc

unfoldable pub shape_of : {stage : Stage} → g.Clauses stage → Shape stage
shape_of (g.ends {stage} whole) = nothing stage whole
shape_of (g.clause {stage} later follows b cs) = added stage later follows b (shape_of cs)

pub same_text : {stage : Stage} (cs : g.Clauses stage) (rest : List Token) → g.clauses_text cs rest ≡ shape_text stage (shape_of cs) rest
unfolding shape_of
same_text (g.ends {stage} whole) rest = nothing_text stage whole rest
same_text (g.clause {stage} later follows b cs) rest = ap (λ q. g.later_text later (g.suite_text b q)) (same_text cs rest) ∙ added_text stage later follows b (shape_of cs) rest

pub same_parts : {stage : Stage} (cs : g.Clauses stage) (parts : Parts) → g.clauses_parts cs parts ≡ shape_parts stage (shape_of cs) parts
unfolding shape_of
same_parts (g.ends {stage} whole) parts = nothing_parts stage whole parts
same_parts (g.clause {stage} later follows b cs) parts =
    same_parts cs (with_clause (g.later_line later) (g.later_tree later) (g.suite_list b) parts) ∙ added_parts stage later follows b (shape_of cs) parts

-- ---- each such shape is clauses of the grammar

pub ended : g.Clauses Ended
ended = g.ends refl

pub elifs_of : List p.Elif → Option p.Else → g.Clauses Branches
elifs_of [] None = g.ends refl
elifs_of [] (Some e) = g.clause (g.else_ e.place e.colon) refl e.body ended
elifs_of (x ∷ es) e = g.clause (g.elif x.place x.test x.colon) refl x.body (elifs_of es e)

pub loop_of : Option p.Else → g.Clauses Loop
loop_of None = g.ends refl
loop_of (Some e) = g.clause (g.else_ e.place e.colon) refl e.body ended

pub rest_of : Option p.Finally → g.Clauses Rest
rest_of None = g.ends refl
rest_of (Some f) = g.clause (g.finally f.place f.colon) refl f.body ended

pub last_of : Option p.Else → Option p.Finally → g.Clauses LastHandler
last_of None None = g.ends refl
last_of None (Some f) = g.clause (g.finally f.place f.colon) refl f.body ended
last_of (Some e) f = g.clause (g.else_ e.place e.colon) refl e.body (rest_of f)

pub behind_tested : Option p.ExceptAll → Option p.Else → Option p.Finally → g.Clauses Handlers
behind_tested (Some a) e f = g.clause (g.except_all a.place a.colon) refl a.body (last_of e f)
behind_tested None (Some e) f = g.clause (g.else_ e.place e.colon) refl e.body (rest_of f)
behind_tested None None (Some f) = g.clause (g.finally f.place f.colon) refl f.body ended
behind_tested None None None = g.ends refl

pub tested_of : List p.Except → Option p.ExceptAll → Option p.Else → Option p.Finally → g.Clauses Handlers
tested_of [] all e f = behind_tested all e f
tested_of (x ∷ es) all e f = g.clause (g.except x.place x.test x.naming x.colon) refl x.body (tested_of es all e f)

pub clauses_of : (stage : Stage) → Shape stage → g.Clauses stage
clauses_of Branches (es, e) = elifs_of es e
clauses_of Loop e = loop_of e
clauses_of Tried (inl f) = g.clause (g.finally f.place f.colon) refl f.body ended
clauses_of Tried (inr (p.tested x es all, (e, f))) = g.clause (g.except x.place x.test x.naming x.colon) refl x.body (tested_of es all e f)
clauses_of Tried (inr (p.untested a, (e, f))) = g.clause (g.except_all a.place a.colon) refl a.body (last_of e f)
clauses_of Handlers (es, (all, (e, f))) = tested_of es all e f
clauses_of LastHandler (e, f) = last_of e f
clauses_of Rest f = rest_of f
clauses_of Ended u = ended

elifs_back : (es : List p.Elif) (e : Option p.Else) → shape_of (elifs_of es e) ≡ (es, e)
unfolding shape_of elifs_of added nothing
elifs_back [] None = refl
elifs_back [] (Some e) = refl
elifs_back (x ∷ es) e = ap (added Branches (g.elif x.place x.test x.colon) refl x.body) (elifs_back es e)

loop_back : (e : Option p.Else) → shape_of (loop_of e) ≡ e
unfolding shape_of loop_of added nothing
loop_back None = refl
loop_back (Some e) = refl

rest_back : (f : Option p.Finally) → shape_of (rest_of f) ≡ f
unfolding shape_of rest_of added nothing
rest_back None = refl
rest_back (Some f) = refl

last_back : (e : Option p.Else) (f : Option p.Finally) → shape_of (last_of e f) ≡ (e, f)
unfolding shape_of last_of added nothing
last_back None None = refl
last_back None (Some f) = refl
last_back (Some e) f = ap (added LastHandler (g.else_ e.place e.colon) refl e.body) (rest_back f)

behind_tested_back : (all : Option p.ExceptAll) (e : Option p.Else) (f : Option p.Finally) → shape_of (behind_tested all e f) ≡ ([], (all, (e, f)))
unfolding shape_of behind_tested added nothing
behind_tested_back (Some a) e f = ap (added Handlers (g.except_all a.place a.colon) refl a.body) (last_back e f)
behind_tested_back None (Some e) f = ap (added Handlers (g.else_ e.place e.colon) refl e.body) (rest_back f)
behind_tested_back None None (Some f) = refl
behind_tested_back None None None = refl

tested_back : (es : List p.Except) (all : Option p.ExceptAll) (e : Option p.Else) (f : Option p.Finally) → shape_of (tested_of es all e f) ≡ (es, (all, (e, f)))
unfolding shape_of tested_of added
tested_back [] all e f = behind_tested_back all e f
tested_back (x ∷ es) all e f = ap (added Handlers (g.except x.place x.test x.naming x.colon) refl x.body) (tested_back es all e f)

pub shape_back : (stage : Stage) (u : Shape stage) → shape_of (clauses_of stage u) ≡ u
unfolding shape_of clauses_of added
shape_back Branches (es, e) = elifs_back es e
shape_back Loop e = loop_back e
shape_back Tried (inl f) = refl
shape_back Tried (inr (p.tested x es all, (e, f))) = ap (added Tried (g.except x.place x.test x.naming x.colon) refl x.body) (tested_back es all e f)
shape_back Tried (inr (p.untested a, (e, f))) = ap (added Tried (g.except_all a.place a.colon) refl a.body) (last_back e f)
shape_back Handlers (es, (all, (e, f))) = tested_back es all e f
shape_back LastHandler (e, f) = last_back e f
shape_back Rest f = rest_back f
shape_back Ended u = refl
