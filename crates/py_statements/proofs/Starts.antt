-- How statements begin, and that what stands behind them is shorter.
use Rattle.std.proofs.Common.{◌≡◌, ℕ, ◌≤◌, ◌<◌, Bool, true, false, List, ◌∷◌, length, Option, Some, None, refl, sym, ap, ◌∙◌, arith}
use Rattle.py_tokens.specs.declared.token.Token.{Token}
use Rattle.py_tokens.specs.declared.token.Tok.TheVariants as tok
use Rattle.py_tokens.specs.declared.word.Word.TheVariants as word
use Rattle.py_tokens.specs.declared.operator.Op.TheVariants as op
use Rattle.py_expressions.specs.declared.cursor.Mark.TheVariants as mark
use Rattle.py_expressions.specs.Input.{at, kind_at, sees_at}
use Rattle.py_expressions.specs.Grammar as e
use Rattle.py_expressions.specs.Targets as t
use Rattle.py_expressions.specs.Reading.{begins_test}
use Rattle.py_expressions.proofs.Sizes.{members_start, members_grows, atom_grows, trailers_grows, test_grows}
use Rattle.py_expressions.proofs.Embedded.{as_members, members_same}
use Rattle.py_statements.specs.Grammar as g
use Rattle.py_statements.specs.Grammar.{Series, Small, Line, Assigned, series_text, assigned_text, small_text, line_text}
use Rattle.py_statements.specs.Reading.{begins_line, line_at}
use Rattle.py_statements.proofs.Ends.{test_begins_line}
use Rattle.py_statements.proofs.Named.{dotted_grows, plain_grows, dotted_alias_grows}

-- ---- targets

pub aims_begin : (gs : t.Aims) (rest : List Token) → begins_test (kind_at (t.aims_text gs rest)) ≡ true
aims_begin gs rest = ap (λ q. begins_test (kind_at q)) (sym (members_same gs rest)) ∙ members_start (as_members gs) rest

pub aims_grow : (gs : t.Aims) (rest : List Token) → length rest < length (t.aims_text gs rest)
aims_grow gs rest = let h = members_grows (as_members gs) rest in let same = ap length (members_same gs rest) in omega arith

abbrev pub alone_aims : t.One → t.Aims
alone_aims o = t.listed (t.one o) t.no_comma

atom_open : (a : e.Atom) (rest : List Token) → sees_at (mark.Op op.CloseParen) (e.atom_text a rest) ≡ false
atom_open (e.name l text) rest = refl
atom_open (e.int l n) rest = refl
atom_open (e.strings l text ss) rest = refl
atom_open (e.none l) rest = refl
atom_open (e.truth l) rest = refl
atom_open (e.falsity l) rest = refl
atom_open (e.round l m r) rest = refl
atom_open (e.square l m r) rest = refl
atom_open (e.brace l ps r) rest = refl

pub gone_starts : (o : t.Gone) (rest : List Token) → sees_at (mark.Op op.CloseParen) (t.gone_text o rest) ≡ false
gone_starts (t.Gone.variable l text) rest = refl
gone_starts (t.item a ts l m r) rest = atom_open a (e.trailers_text ts (t.ending_text (t.index l m r) rest))

pub gone_grows : (o : t.Gone) (rest : List Token) → length rest < length (t.gone_text o rest)
gone_grows (t.Gone.variable l text) rest = omega arith
gone_grows (t.item a ts l m r) rest =
    let x = atom_grows a (e.trailers_text ts (t.ending_text (t.index l m r) rest)) in
    let y = trailers_grows ts (t.ending_text (t.index l m r) rest) in
    let z = members_grows m (at r (tok.Op op.CloseBracket) ∷ rest) in
    omega arith

-- ---- the line of the first token doesn't depend on what stands behind

atom_line : (a : e.Atom) (rest more : List Token) → line_at (e.atom_text a rest) ≡ line_at (e.atom_text a more)
atom_line (e.name l text) rest more = refl
atom_line (e.int l n) rest more = refl
atom_line (e.strings l text ss) rest more = refl
atom_line (e.none l) rest more = refl
atom_line (e.truth l) rest more = refl
atom_line (e.falsity l) rest more = refl
atom_line (e.round l m r) rest more = refl
atom_line (e.square l m r) rest more = refl
atom_line (e.brace l ps r) rest more = refl

factor_line : (f : e.Factor) (rest more : List Token) → line_at (e.factor_text f rest) ≡ line_at (e.factor_text f more)
factor_line (e.signed l kind how is f) rest more = refl
factor_line (e.primary a ts) rest more = atom_line a (e.trailers_text ts rest) (e.trailers_text ts more)
factor_line (e.power a ts l f) rest more =
    atom_line a (e.trailers_text ts (at l (tok.Op op.DoubleStar) ∷ e.factor_text f rest)) (e.trailers_text ts (at l (tok.Op op.DoubleStar) ∷ e.factor_text f more))

sum_line : {level : ℕ} (s : e.Sum level) (rest more : List Token) → line_at (e.sum_text s rest) ≡ line_at (e.sum_text s more)
sum_line (e.operand f) rest more = factor_line f rest more
sum_line (e.grouped s c) rest more = sum_line s (e.chain_text c rest) (e.chain_text c more)

not_line : (n : e.NotTest) (rest more : List Token) → line_at (e.not_text n rest) ≡ line_at (e.not_text n more)
not_line (e.negated l n) rest more = refl
not_line (e.compare s cs) rest more = sum_line s (e.comparisons_text cs rest) (e.comparisons_text cs more)

or_line : (o : e.OrTest) (rest more : List Token) → line_at (e.or_text o rest) ≡ line_at (e.or_text o more)
or_line (e.or_test (e.and_test n ns) os) rest more = not_line n (e.and_more_text ns (e.or_more_text os rest)) (e.and_more_text ns (e.or_more_text os more))

test_line : (t : e.Test) (rest more : List Token) → line_at (e.test_text t rest) ≡ line_at (e.test_text t more)
test_line (e.plain o) rest more = or_line o rest more
test_line (e.conditional o l c r t) rest more =
    or_line o (at l (tok.Word word.If) ∷ e.or_text c (at r (tok.Word word.Else) ∷ e.test_text t rest)) (at l (tok.Word word.If) ∷ e.or_text c (at r (tok.Word word.Else) ∷ e.test_text t more))

members_line : (m : e.Members) (rest more : List Token) → line_at (e.members_text m rest) ≡ line_at (e.members_text m more)
members_line (e.listed t cs) rest more = test_line t (e.commas_text cs rest) (e.commas_text cs more)

aims_line : (gs : t.Aims) (rest more : List Token) → line_at (t.aims_text gs rest) ≡ line_at (t.aims_text gs more)
aims_line gs rest more = ap line_at (sym (members_same gs rest)) ∙ members_line (as_members gs) rest more ∙ ap line_at (members_same gs more)

assigned_line : (a : Assigned) (rest more : List Token) → line_at (assigned_text a rest) ≡ line_at (assigned_text a more)
assigned_line (g.value gs l m) rest more = aims_line gs (at l (tok.Op op.Assign) ∷ e.members_text m rest) (at l (tok.Op op.Assign) ∷ e.members_text m more)
assigned_line (g.again gs l a) rest more = aims_line gs (at l (tok.Op op.Assign) ∷ assigned_text a rest) (at l (tok.Op op.Assign) ∷ assigned_text a more)

pub small_line : (one : Small) (rest more : List Token) → line_at (small_text one rest) ≡ line_at (small_text one more)
small_line (g.tests m) rest more = members_line m rest more
small_line (g.assigned a) rest more = assigned_line a rest more
small_line (g.augmented o l kind how is m) rest more = aims_line (alone_aims o) (at l kind ∷ e.members_text m rest) (at l kind ∷ e.members_text m more)
small_line (g.del l gs) rest more = refl
small_line (g.pass l) rest more = refl
small_line (g.break l) rest more = refl
small_line (g.continue l) rest more = refl
small_line (g.return l m) rest more = refl
small_line (g.raise l t) rest more = refl
small_line (g.global l ns) rest more = refl
small_line (g.assert l t m) rest more = refl
small_line (g.import l ns) rest more = refl
small_line (g.from l d r ns) rest more = refl

-- ---- what a statement may begin with

pub assigned_begins : (a : Assigned) (rest : List Token) → begins_test (kind_at (assigned_text a rest)) ≡ true
assigned_begins (g.value gs l m) rest = aims_begin gs (at l (tok.Op op.Assign) ∷ e.members_text m rest)
assigned_begins (g.again gs l a) rest = aims_begin gs (at l (tok.Op op.Assign) ∷ assigned_text a rest)

small_starts : (one : Small) (rest : List Token) → begins_line (kind_at (small_text one rest)) ≡ true
small_starts (g.tests m) rest = test_begins_line (kind_at (e.members_text m rest)) (members_start m rest)
small_starts (g.assigned a) rest = test_begins_line (kind_at (assigned_text a rest)) (assigned_begins a rest)
small_starts (g.augmented o l kind how is m) rest = test_begins_line (kind_at (t.one_text o (at l kind ∷ e.members_text m rest))) (aims_begin (alone_aims o) (at l kind ∷ e.members_text m rest))
small_starts (g.del l gs) rest = refl
small_starts (g.pass l) rest = refl
small_starts (g.break l) rest = refl
small_starts (g.continue l) rest = refl
small_starts (g.return l m) rest = refl
small_starts (g.raise l t) rest = refl
small_starts (g.global l ns) rest = refl
small_starts (g.assert l t m) rest = refl
small_starts (g.import l ns) rest = refl
small_starts (g.from l d r ns) rest = refl

pub line_starts : (one : Line) (rest : List Token) → begins_line (kind_at (line_text one rest)) ≡ true
line_starts (Line.last one n) rest = small_starts one (at n tok.Newline ∷ rest)
line_starts (g.last_semicolon one l n) rest = small_starts one (at l (tok.Op op.Semicolon) ∷ at n tok.Newline ∷ rest)
line_starts (g.semicolon one l others) rest = small_starts one (at l (tok.Op op.Semicolon) ∷ line_text others rest)

-- ---- what comes behind is shorter

series_grows : {Item : Type 0} {bracketed : Bool} (text : Item → List Token → List Token) (grows : (x : Item) (rest : List Token) → length rest < length (text x rest)) (xs : Series Item bracketed) (rest : List Token)
    → length rest < length (series_text text xs rest)
series_grows text grows (Series.last x) rest = grows x rest
series_grows text grows (g.last_comma x l) rest = let h = grows x (at l (tok.Op op.Comma) ∷ rest) in omega arith
series_grows text grows (g.comma x l xs) rest = let h = grows x (at l (tok.Op op.Comma) ∷ series_text text xs rest) in let k = series_grows text grows xs rest in omega arith

assigned_grows : (a : Assigned) (rest : List Token) → length rest < length (assigned_text a rest)
assigned_grows (g.value gs l m) rest = let h = aims_grow gs (at l (tok.Op op.Assign) ∷ e.members_text m rest) in let k = members_grows m rest in omega arith
assigned_grows (g.again gs l a) rest = let h = aims_grow gs (at l (tok.Op op.Assign) ∷ assigned_text a rest) in let k = assigned_grows a rest in omega arith

imported_grows : (ns : g.Imported) (rest : List Token) → length rest < length (g.imported_text ns rest)
imported_grows (g.bare ns) rest = series_grows (g.renamed_text g.name_text) plain_grows ns rest
imported_grows (g.round l ns r) rest = let h = series_grows (g.renamed_text g.name_text) plain_grows ns (at r (tok.Op op.CloseParen) ∷ rest) in omega arith

optional_members_grows : (o : Option e.Members) (rest : List Token) → length rest ≤ length (g.option_text e.members_text o rest)
optional_members_grows None rest = omega arith
optional_members_grows (Some m) rest = let h = members_grows m rest in omega arith

optional_test_grows : (o : Option e.Test) (rest : List Token) → length rest ≤ length (g.option_text e.test_text o rest)
optional_test_grows None rest = omega arith
optional_test_grows (Some t) rest = let h = test_grows t rest in omega arith

message_grows : (o : Option g.Message) (rest : List Token) → length rest ≤ length (g.option_text g.message_text o rest)
message_grows None rest = omega arith
message_grows (Some m) rest = let h = test_grows m.test rest in omega arith

pub small_grows : (one : Small) (rest : List Token) → length rest < length (small_text one rest)
small_grows (g.tests m) rest = members_grows m rest
small_grows (g.assigned a) rest = assigned_grows a rest
small_grows (g.augmented o l kind how is m) rest = let h = aims_grow (alone_aims o) (at l kind ∷ e.members_text m rest) in let k = members_grows m rest in omega arith
small_grows (g.del l gs) rest = let h = series_grows t.gone_text gone_grows gs rest in omega arith
small_grows (g.pass l) rest = omega arith
small_grows (g.break l) rest = omega arith
small_grows (g.continue l) rest = omega arith
small_grows (g.return l m) rest = let h = optional_members_grows m rest in omega arith
small_grows (g.raise l t) rest = let h = optional_test_grows t rest in omega arith
small_grows (g.global l ns) rest = let h = series_grows g.name_text (λ n more. omega arith) ns rest in omega arith
small_grows (g.assert l t m) rest = let h = test_grows t (g.option_text g.message_text m rest) in let k = message_grows m rest in omega arith
small_grows (g.import l ns) rest = let h = series_grows (g.renamed_text g.dotted_text) dotted_alias_grows ns rest in omega arith
small_grows (g.from l d r ns) rest =
    let h = dotted_grows d (at r (tok.Word word.Import) ∷ g.imported_text ns rest) in
    let k = imported_grows ns rest in
    omega arith

pub line_grows : (one : Line) (rest : List Token) → length rest < length (line_text one rest)
line_grows (Line.last one n) rest = let h = small_grows one (at n tok.Newline ∷ rest) in omega arith
line_grows (g.last_semicolon one l n) rest = let h = small_grows one (at l (tok.Op op.Semicolon) ∷ at n tok.Newline ∷ rest) in omega arith
line_grows (g.semicolon one l others) rest = let h = small_grows one (at l (tok.Op op.Semicolon) ∷ line_text others rest) in let k = line_grows others rest in omega arith
