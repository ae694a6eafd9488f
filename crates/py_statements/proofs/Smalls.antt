-- Small statements are read as the grammar says.
use Rattle.std.proofs.Common.{◌≡◌, ℕ, ◌≤◌, inl, inr, Bool, true, false, cond, List, [], ◌∷◌, Option, Some, None, Ok, refl, sym, ap, ◌∙◌, arith}
use Rattle.std.specs.Option.{option_map}
use Rattle.py_tokens.specs.declared.token.Token.{Token}
use Rattle.py_tokens.specs.declared.token.Tok.{Tok}
use Rattle.py_tokens.specs.declared.token.Tok.TheVariants as tok
use Rattle.py_tokens.specs.declared.word.Word.TheVariants as word
use Rattle.py_tokens.specs.declared.operator.Op.TheVariants as op
use Rattle.py_tree.specs.declared.expr.Expr.{Expr}
use Rattle.py_tree.specs.declared.stmt.Alias.{Alias}
use Rattle.py_tree.specs.declared.stmt.Target.{Target}
use Rattle.py_tree.specs.declared.stmt.StmtKind.{StmtKind}
use Rattle.py_tree.specs.declared.stmt.StmtKind.TheVariants as s
use Rattle.py_expressions.specs.declared.cursor.Mark.TheVariants as mark
use Rattle.py_expressions.specs.Input.{Input, Place, at, Outcome, Parser, ◌>>=◌, ◌>>◌, pure, kind_at, sees, sees_at, after, expect, name}
use Rattle.py_expressions.specs.Follow.{rank}
use Rattle.py_expressions.specs.Grammar.{Members, Test, members_text, members_tree, test_text, test_tree}
use Rattle.py_expressions.specs.Reading.{begins_test, all_tests, one_test}
use Rattle.py_expressions.specs.Targets.{gone_text, gone_tree, one_gone}
use Rattle.py_expressions.specs.Laws.{input, Found, Sound, Fails}
use Rattle.py_expressions.proofs.Steps.{done, bind_ok, chosen, taken, after_false, expect_ok, named_anew}
use Rattle.py_expressions.proofs.Sizes.{members_start, test_starts}
use Rattle.py_expressions.proofs.Faults.{Keeps, fails_bind, fails_pure, fails_if, fails_eat, fails_peek, fails_take, fails_expect, sound_keeps, name_fails, name_keeps}
use Rattle.py_expressions.proofs.Whole.{all_tests_sound, all_tests_complete, all_tests_fails, one_test_sound, one_test_complete, one_test_fails}
use Rattle.py_expressions.proofs.Aims.{one_gone_sound, one_gone_complete, one_gone_fails}
use Rattle.py_statements.specs.Grammar as g
use Rattle.py_statements.specs.Grammar.{Name, Dotted, Renamed, Series, Imported, Message, Small, series_text, series_list, name_text, name_tree, dotted_text, dotted_tree, renamed_text, renamed_tree, option_text, message_text, message_tree, imported_text, imported_list, small_text, small_tree}
use Rattle.py_statements.specs.Reading as read
use Rattle.py_statements.specs.Reading.{ends_small, series}
use Rattle.py_statements.proofs.Ends.{ends_rank, ends_as, test_not_ends, no_comma_at}
use Rattle.py_statements.proofs.Series.{series_complete, series_sound, series_fails}
use Rattle.py_statements.proofs.Named.{name_reads, name_read, dotted_sound, dotted_complete, dotted_fails, dotted_keeps, alias_sound, plain_complete, dotted_alias_complete, plain_starts, dotted_alias_starts, plain_grows, dotted_alias_grows, alias_fails}
use Rattle.py_statements.proofs.Starts.{gone_starts, gone_grows, aims_begin, assigned_begins, alone_aims}
use Rattle.py_statements.proofs.Assigned.{tests_complete, assigned_complete, augmented_complete, expression_sound, expression_fails, all_tests_keeps}

abbrev place : Token → Place
place t = record { at = t.at; end = t.end; line = t.line }

-- ---- series

not_closed : false ≡ true → (ts : List Token) → sees_at (mark.Op op.CloseParen) ts ≡ true
not_closed e ts = absurd cc

names_complete : (ns : Series Name false) (rest : List Token) (front : ℕ) → ends_small (kind_at rest) ≡ true → series name false (input (series_text name_text ns rest) front) ≡ Ok (series_list name_tree ns, input rest front)
names_complete ns rest front ends =
    series_complete name_text name_tree name (λ n more front h. name_read n more front) (λ n more. refl) (λ n more. omega arith) ns rest front (omega (arith, ends_rank rest ends)) (ends_as rest ends) (λ e. not_closed e rest)

gone_complete : (gs : Series _ false) (rest : List Token) (front : ℕ) → ends_small (kind_at rest) ≡ true → series one_gone false (input (series_text gone_text gs rest) front) ≡ Ok (series_list gone_tree gs, input rest front)
gone_complete gs rest front ends =
    series_complete gone_text gone_tree one_gone (λ o more front h. one_gone_complete o more front (omega (arith, h.0))) gone_starts gone_grows gs rest front (omega (arith, ends_rank rest ends)) (ends_as rest ends) (λ e. not_closed e rest)

imports_complete : (ns : Series (Renamed Dotted) false) (rest : List Token) (front : ℕ) → ends_small (kind_at rest) ≡ true
    → series (read.alias true) false (input (series_text (renamed_text dotted_text) ns rest) front) ≡ Ok (series_list (renamed_tree dotted_tree) ns, input rest front)
imports_complete ns rest front ends =
    series_complete (renamed_text dotted_text) (renamed_tree dotted_tree) (read.alias true) dotted_alias_complete dotted_alias_starts dotted_alias_grows ns rest front (omega (arith, ends_rank rest ends)) (ends_as rest ends) (λ e. not_closed e rest)

plain_series : {bracketed : Bool} (ns : Series (Renamed Name) bracketed) (rest : List Token) (front : ℕ) → 14 ≤ rank rest → sees_at (mark.Word word.As) rest ≡ false → (bracketed ≡ true → sees_at (mark.Op op.CloseParen) rest ≡ true)
    → series (read.alias false) bracketed (input (series_text (renamed_text name_text) ns rest) front) ≡ Ok (series_list (renamed_tree name_tree) ns, input rest front)
plain_series ns rest front h free closed = series_complete (renamed_text name_text) (renamed_tree name_tree) (read.alias false) plain_complete plain_starts plain_grows ns rest front h free closed

-- ---- what `from` imports

no_bracket : {bracketed : Bool} (ns : Series (Renamed Name) bracketed) (rest : List Token) → sees_at (mark.Op op.OpenParen) (series_text (renamed_text name_text) ns rest) ≡ false
no_bracket (Series.last (g.same n)) rest = refl
no_bracket (Series.last (g.renamed n l m)) rest = refl
no_bracket (g.last_comma (g.same n) l) rest = refl
no_bracket (g.last_comma (g.renamed n k m) l) rest = refl
no_bracket (g.comma (g.same n) l ns) rest = refl
no_bracket (g.comma (g.renamed n k m) l ns) rest = refl

bare_done : (ts rest : List Token) (front : ℕ) (names : List Alias) → sees_at (mark.Op op.OpenParen) ts ≡ false → series (read.alias false) false (input ts front) ≡ Ok (names, input rest front) → read.imported (input ts front) ≡ Ok (names, input rest front)
unfolding read.imported after sees
bare_done ts rest front names open_ h = rw (open_, h) refl

round_done : (l r : Place) (ts rest : List Token) (front : ℕ) (names : List Alias) → series (read.alias false) true (input ts front) ≡ Ok (names, input (at r (tok.Op op.CloseParen) ∷ rest) front)
    → read.imported (input (at l (tok.Op op.OpenParen) ∷ ts) front) ≡ Ok (names, input rest front)
unfolding read.imported after sees expect
round_done l r ts rest front names h = rw h refl

imported_complete : (ns : Imported) (rest : List Token) (front : ℕ) → ends_small (kind_at rest) ≡ true → read.imported (input (imported_text ns rest) front) ≡ Ok (imported_list ns, input rest front)
imported_complete (g.bare ns) rest front ends =
    bare_done (series_text (renamed_text name_text) ns rest) rest front (series_list (renamed_tree name_tree) ns) (no_bracket ns rest)
    (plain_series ns rest front (omega (arith, ends_rank rest ends)) (ends_as rest ends) (λ e. not_closed e rest))
imported_complete (g.round l ns r) rest front ends =
    round_done l r (series_text (renamed_text name_text) ns (at r (tok.Op op.CloseParen) ∷ rest)) rest front (series_list (renamed_tree name_tree) ns)
    (plain_series ns (at r (tok.Op op.CloseParen) ∷ rest) front (omega arith) refl (λ e. refl))

plain_sound : (bracketed : Bool) → Sound (series_text (renamed_text name_text)) (λ (ns : Series (Renamed Name) bracketed). series_list (renamed_tree name_tree) ns) (series (read.alias false) bracketed)
plain_sound bracketed = series_sound (renamed_text name_text) (renamed_tree name_tree) (read.alias false) (alias_sound name_text name_tree false name_reads) bracketed

-- behind the bracket, if there is one
abbrev behind_bracket : Bool → Parser (List Alias)
behind_bracket bracketed = series (read.alias false) bracketed >>= λ names. cond bracketed (expect (mark.Op op.CloseParen) >> pure names) (pure names)

imported_by : (b : Bool) (i : Input) (x : List Alias) (j : Input) → sees (mark.Op op.OpenParen) i ≡ b → behind_bracket b (after (mark.Op op.OpenParen) i) ≡ done x j → Found imported_text imported_list i x j
imported_by true i x j is e =
    let c = taken (mark.Op op.OpenParen) i is in
    let b = bind_ok (series (read.alias false) true (after (mark.Op op.OpenParen) i)) _ x j e in
    let f = plain_sound true (after (mark.Op op.OpenParen) i) b.0 b.1 b.2 in
    let k = bind_ok (expect (mark.Op op.CloseParen) b.1) _ x j b.3 in
    let r = expect_ok (mark.Op op.CloseParen) b.1 k.1 k.0 k.2 in
    named_anew imported_text imported_list i b.0 x k.1 j k.3
    (record {
      reading = g.round c.0 f.reading r.0;
      spelled = c.1 ∙ ap (λ q. at c.0 (tok.Op op.OpenParen) ∷ q) (f.spelled ∙ ap (series_text (renamed_text name_text) f.reading) r.1);
      is = f.is;
      kept = c.2 ∙ f.kept ∙ r.2;
    })
imported_by false i x j is e =
    let a = after_false (mark.Op op.OpenParen) i is in
    let b = bind_ok (series (read.alias false) false (after (mark.Op op.OpenParen) i)) _ x j e in
    let f = plain_sound false (after (mark.Op op.OpenParen) i) b.0 b.1 b.2 in
    named_anew imported_text imported_list i b.0 x b.1 j b.3
    (record { reading = g.bare f.reading; spelled = ap (λ (q : Input). q.ahead) (sym a) ∙ f.spelled; is = f.is; kept = ap (λ (q : Input). q.front) (sym a) ∙ f.kept })

imported_sound : Sound imported_text imported_list read.imported
unfolding read.imported
imported_sound i x j e = imported_by (sees (mark.Op op.OpenParen) i) i x j refl e

-- ---- values that may be left out

optional_none : {A : Type 0} (item : Parser A) (rest : List Token) (front : ℕ) → ends_small (kind_at rest) ≡ true → read.optional item (input rest front) ≡ Ok (None, input rest front)
unfolding read.optional
optional_none item rest front h = rw h refl

optional_some : {A : Type 0} (item : Parser A) (ts rest : List Token) (front : ℕ) (x : A) → begins_test (kind_at ts) ≡ true → item (input ts front) ≡ Ok (x, input rest front) → read.optional item (input ts front) ≡ Ok (Some x, input rest front)
unfolding read.optional
optional_some item ts rest front x b h = rw (test_not_ends (kind_at ts) b, h) refl

optional_tests_complete : (o : Option Members) (rest : List Token) (front : ℕ) → ends_small (kind_at rest) ≡ true → read.optional all_tests (input (option_text members_text o rest) front) ≡ Ok (option_map members_tree o, input rest front)
optional_tests_complete None rest front ends = optional_none all_tests rest front ends
optional_tests_complete (Some m) rest front ends = optional_some all_tests (members_text m rest) rest front (members_tree m) (members_start m rest) (all_tests_complete m rest front (omega (arith, ends_rank rest ends)))

optional_test_complete : (o : Option Test) (rest : List Token) (front : ℕ) → ends_small (kind_at rest) ≡ true → read.optional one_test (input (option_text test_text o rest) front) ≡ Ok (option_map test_tree o, input rest front)
optional_test_complete None rest front ends = optional_none one_test rest front ends
optional_test_complete (Some t) rest front ends = optional_some one_test (test_text t rest) rest front (test_tree t) (test_starts t rest) (one_test_complete t rest front (omega (arith, ends_rank rest ends)))

optional_sound : {C A : Type 0} (text : C → List Token → List Token) (tree : C → A) (item : Parser A) → Sound text tree item → Sound (option_text text) (option_map tree) (read.optional item)
unfolding read.optional
optional_sound text tree item sound i x j e =
    elim (chosen (ends_small (kind_at i.ahead)) _ _ i (done x j) e) [
      | inl w ↦ named_anew (option_text text) (option_map tree) i None x i j w.1 (record { reading = None; spelled = refl; is = refl; kept = refl })
      | inr w ↦
          let b = bind_ok (item i) _ x j w.1 in
          let f = sound i b.0 b.1 b.2 in
          named_anew (option_text text) (option_map tree) i (Some b.0) x b.1 j b.3 (record { reading = Some f.reading; spelled = f.spelled; is = ap (λ y. Some y) f.is; kept = f.kept })
    ]

-- ---- asserts

assert_alone : (l : Place) (ts rest : List Token) (front : ℕ) (x : Expr) → one_test (input ts front) ≡ Ok (x, input rest front) → sees_at (mark.Op op.Comma) rest ≡ false → read.assertion (input (at l (tok.Word word.Assert) ∷ ts) front) ≡ Ok (s.Assert x None, input rest front)
unfolding read.assertion after sees
assert_alone l ts rest front x h ends = rw (h, ends) refl

assert_message : (l r : Place) (ts us rest : List Token) (front : ℕ) (x y : Expr) → one_test (input ts front) ≡ Ok (x, input (at r (tok.Op op.Comma) ∷ us) front) → one_test (input us front) ≡ Ok (y, input rest front)
    → read.assertion (input (at l (tok.Word word.Assert) ∷ ts) front) ≡ Ok (s.Assert x (Some y), input rest front)
unfolding read.assertion after sees
assert_message l r ts us rest front x y h e = rw (h, e) refl

assert_complete : (l : Place) (t : Test) (m : Option Message) (rest : List Token) (front : ℕ) → ends_small (kind_at rest) ≡ true
    → read.assertion (input (at l (tok.Word word.Assert) ∷ test_text t (option_text message_text m rest)) front) ≡ Ok (s.Assert (test_tree t) (option_map message_tree m), input rest front)
assert_complete l t None rest front ends = assert_alone l (test_text t rest) rest front (test_tree t) (one_test_complete t rest front (omega (arith, ends_rank rest ends))) (no_comma_at rest (omega (arith, ends_rank rest ends)))
assert_complete l t (Some m) rest front ends =
    assert_message l m.place (test_text t (message_text m rest)) (test_text m.test rest) rest front (test_tree t) (test_tree m.test)
    (one_test_complete t (at m.place (tok.Op op.Comma) ∷ test_text m.test rest) front (omega arith)) (one_test_complete m.test rest front (omega (arith, ends_rank rest ends)))

-- ---- what the grammar reads is read

del_done : (l : Place) (ts : List Token) (front : ℕ) (gs : List Target) (j : Input) → series one_gone false (input ts front) ≡ Ok (gs, j) → read.small (input (at l (tok.Word word.Del) ∷ ts) front) ≡ Ok (s.Del gs, j)
unfolding read.small read.deletion
del_done l ts front gs j h = rw h refl

pass_done : (l : Place) (ts : List Token) (front : ℕ) → read.small (input (at l (tok.Word word.Pass) ∷ ts) front) ≡ Ok (s.Pass, input ts front)
unfolding read.small
pass_done l ts front = refl

break_done : (l : Place) (ts : List Token) (front : ℕ) → read.small (input (at l (tok.Word word.Break) ∷ ts) front) ≡ Ok (s.Break, input ts front)
unfolding read.small
break_done l ts front = refl

continue_done : (l : Place) (ts : List Token) (front : ℕ) → read.small (input (at l (tok.Word word.Continue) ∷ ts) front) ≡ Ok (s.Continue, input ts front)
unfolding read.small
continue_done l ts front = refl

return_done : (l : Place) (ts : List Token) (front : ℕ) (x : Option Expr) (j : Input) → read.optional all_tests (input ts front) ≡ Ok (x, j) → read.small (input (at l (tok.Word word.Return) ∷ ts) front) ≡ Ok (s.Return x, j)
unfolding read.small read.returned
return_done l ts front x j h = rw h refl

raise_done : (l : Place) (ts : List Token) (front : ℕ) (x : Option Expr) (j : Input) → read.optional one_test (input ts front) ≡ Ok (x, j) → read.small (input (at l (tok.Word word.Raise) ∷ ts) front) ≡ Ok (s.Raise x, j)
unfolding read.small read.raised
raise_done l ts front x j h = rw h refl

global_done : (l : Place) (ts : List Token) (front : ℕ) (ns : List (List ℕ)) (j : Input) → series name false (input ts front) ≡ Ok (ns, j) → read.small (input (at l (tok.Word word.Global) ∷ ts) front) ≡ Ok (s.Global ns, j)
unfolding read.small read.globals
global_done l ts front ns j h = rw h refl

assert_done : (l : Place) (ts : List Token) (front : ℕ) → read.small (input (at l (tok.Word word.Assert) ∷ ts) front) ≡ read.assertion (input (at l (tok.Word word.Assert) ∷ ts) front)
unfolding read.small
assert_done l ts front = refl

import_done : (l : Place) (ts : List Token) (front : ℕ) (ns : List Alias) (j : Input) → series (read.alias true) false (input ts front) ≡ Ok (ns, j) → read.small (input (at l (tok.Word word.Import) ∷ ts) front) ≡ Ok (s.Import ns, j)
unfolding read.small read.imports
import_done l ts front ns j h = rw h refl

from_done : (l r : Place) (ts us : List Token) (front : ℕ) (text : List ℕ) (ns : List Alias) (j : Input) → read.dotted (input ts front) ≡ Ok (text, input (at r (tok.Word word.Import) ∷ us) front) → read.imported (input us front) ≡ Ok (ns, j)
    → read.small (input (at l (tok.Word word.From) ∷ ts) front) ≡ Ok (s.From text ns, j)
unfolding read.small read.imports_from expect sees
from_done l r ts us front text ns j h e = rw (h, e) refl

by_test : (kind : Tok) → begins_test kind ≡ true → read.small_by kind ≡ read.expression
by_test (tok.Word word.Del) b = absurd cc
by_test (tok.Word word.Pass) b = absurd cc
by_test (tok.Word word.Break) b = absurd cc
by_test (tok.Word word.Continue) b = absurd cc
by_test (tok.Word word.Return) b = absurd cc
by_test (tok.Word word.Raise) b = absurd cc
by_test (tok.Word word.Global) b = absurd cc
by_test (tok.Word word.Assert) b = absurd cc
by_test (tok.Word word.Import) b = absurd cc
by_test (tok.Word word.From) b = absurd cc
by_test _ b = refl

test_done : (ts : List Token) (front : ℕ) (o : Outcome StmtKind) → begins_test (kind_at ts) ≡ true → read.expression (input ts front) ≡ o → read.small (input ts front) ≡ o
unfolding read.small
test_done ts front o b h = ap (λ (p : Parser StmtKind). p (input ts front)) (by_test (kind_at ts) b) ∙ h

pub small_complete : (one : Small) (rest : List Token) (front : ℕ) → ends_small (kind_at rest) ≡ true → read.small (input (small_text one rest) front) ≡ Ok (small_tree one, input rest front)
small_complete (g.tests m) rest front ends = test_done (members_text m rest) front (Ok (s.Expr (members_tree m), input rest front)) (members_start m rest) (tests_complete m rest front ends)
small_complete (g.assigned a) rest front ends = test_done (g.assigned_text a rest) front (Ok (small_tree (g.assigned a), input rest front)) (assigned_begins a rest) (assigned_complete a rest front ends)
small_complete (g.augmented o l kind how is m) rest front ends =
    test_done (small_text (g.augmented o l kind how is m) rest) front (Ok (small_tree (g.augmented o l kind how is m), input rest front)) (aims_begin (alone_aims o) (at l kind ∷ members_text m rest)) (augmented_complete o l kind how is m rest front ends)
small_complete (g.del l gs) rest front ends = del_done l (series_text gone_text gs rest) front (series_list gone_tree gs) (input rest front) (gone_complete gs rest front ends)
small_complete (g.pass l) rest front ends = pass_done l rest front
small_complete (g.break l) rest front ends = break_done l rest front
small_complete (g.continue l) rest front ends = continue_done l rest front
small_complete (g.return l m) rest front ends = return_done l (option_text members_text m rest) front (option_map members_tree m) (input rest front) (optional_tests_complete m rest front ends)
small_complete (g.raise l t) rest front ends = raise_done l (option_text test_text t rest) front (option_map test_tree t) (input rest front) (optional_test_complete t rest front ends)
small_complete (g.global l ns) rest front ends = global_done l (series_text name_text ns rest) front (series_list name_tree ns) (input rest front) (names_complete ns rest front ends)
small_complete (g.assert l t m) rest front ends = assert_done l (test_text t (option_text message_text m rest)) front ∙ assert_complete l t m rest front ends
small_complete (g.import l ns) rest front ends = import_done l (series_text (renamed_text dotted_text) ns rest) front (series_list (renamed_tree dotted_tree) ns) (input rest front) (imports_complete ns rest front ends)
small_complete (g.from l d r ns) rest front ends =
    let behind = at r (tok.Word word.Import) ∷ imported_text ns rest in
    from_done l r (dotted_text d behind) (imported_text ns rest) front (dotted_tree d) (imported_list ns) (input rest front) (dotted_complete d behind front refl) (imported_complete ns rest front ends)

-- ---- what is read is read by the grammar

-- a small statement that begins with this token, behind which stands what a part reads
abbrev Finds : Token → List Token → ℕ → StmtKind → Input → Type 0
Finds t ts front x j = Found small_text small_tree (input (t ∷ ts) front) x j

alone_sound : (kind : StmtKind) (one : Place → Small) (w : Tok) → ((l : Place) (rest : List Token) → small_text (one l) rest ≡ at l w ∷ rest) → ((l : Place) → small_tree (one l) ≡ kind)
    → (t : Token) (ts : List Token) (front : ℕ) (x : StmtKind) (j : Input) → t.kind ≡ w → read.alone kind (input (t ∷ ts) front) ≡ done x j → Finds t ts front x j
alone_sound kind one w text tree t ts front x j is e =
    named_anew small_text small_tree (input (t ∷ ts) front) kind x (input ts front) j e
    (record { reading = one (place t); spelled = ap (λ q. at (place t) q ∷ ts) is ∙ sym (text (place t) ts); is = tree (place t); kept = refl })

deletion_sound : (t : Token) (ts : List Token) (front : ℕ) (x : StmtKind) (j : Input) → t.kind ≡ tok.Word word.Del → read.deletion (input (t ∷ ts) front) ≡ done x j → Finds t ts front x j
unfolding read.deletion
deletion_sound t ts front x j is e =
    let b = bind_ok (series one_gone false (input ts front)) _ x j e in
    let f = series_sound gone_text gone_tree one_gone one_gone_sound false (input ts front) b.0 b.1 b.2 in
    named_anew small_text small_tree (input (t ∷ ts) front) (s.Del b.0) x b.1 j b.3
    (record { reading = g.del (place t) f.reading; spelled = ap (λ q. at (place t) q ∷ ts) is ∙ ap (λ q. at (place t) (tok.Word word.Del) ∷ q) f.spelled; is = ap s.Del f.is; kept = f.kept })

returned_sound : (t : Token) (ts : List Token) (front : ℕ) (x : StmtKind) (j : Input) → t.kind ≡ tok.Word word.Return → read.returned (input (t ∷ ts) front) ≡ done x j → Finds t ts front x j
unfolding read.returned
returned_sound t ts front x j is e =
    let b = bind_ok (read.optional all_tests (input ts front)) _ x j e in
    let f = optional_sound members_text members_tree all_tests all_tests_sound (input ts front) b.0 b.1 b.2 in
    named_anew small_text small_tree (input (t ∷ ts) front) (s.Return b.0) x b.1 j b.3
    (record { reading = g.return (place t) f.reading; spelled = ap (λ q. at (place t) q ∷ ts) is ∙ ap (λ q. at (place t) (tok.Word word.Return) ∷ q) f.spelled; is = ap s.Return f.is; kept = f.kept })

raised_sound : (t : Token) (ts : List Token) (front : ℕ) (x : StmtKind) (j : Input) → t.kind ≡ tok.Word word.Raise → read.raised (input (t ∷ ts) front) ≡ done x j → Finds t ts front x j
unfolding read.raised
raised_sound t ts front x j is e =
    let b = bind_ok (read.optional one_test (input ts front)) _ x j e in
    let f = optional_sound test_text test_tree one_test one_test_sound (input ts front) b.0 b.1 b.2 in
    named_anew small_text small_tree (input (t ∷ ts) front) (s.Raise b.0) x b.1 j b.3
    (record { reading = g.raise (place t) f.reading; spelled = ap (λ q. at (place t) q ∷ ts) is ∙ ap (λ q. at (place t) (tok.Word word.Raise) ∷ q) f.spelled; is = ap s.Raise f.is; kept = f.kept })

globals_sound : (t : Token) (ts : List Token) (front : ℕ) (x : StmtKind) (j : Input) → t.kind ≡ tok.Word word.Global → read.globals (input (t ∷ ts) front) ≡ done x j → Finds t ts front x j
unfolding read.globals
globals_sound t ts front x j is e =
    let b = bind_ok (series name false (input ts front)) _ x j e in
    let f = series_sound name_text name_tree name name_reads false (input ts front) b.0 b.1 b.2 in
    named_anew small_text small_tree (input (t ∷ ts) front) (s.Global b.0) x b.1 j b.3
    (record { reading = g.global (place t) f.reading; spelled = ap (λ q. at (place t) q ∷ ts) is ∙ ap (λ q. at (place t) (tok.Word word.Global) ∷ q) f.spelled; is = ap s.Global f.is; kept = f.kept })

assertion_sound : (t : Token) (ts : List Token) (front : ℕ) (x : StmtKind) (j : Input) → t.kind ≡ tok.Word word.Assert → read.assertion (input (t ∷ ts) front) ≡ done x j → Finds t ts front x j
unfolding read.assertion
assertion_sound t ts front x j is e =
    let b = bind_ok (one_test (input ts front)) _ x j e in
    let f = one_test_sound (input ts front) b.0 b.1 b.2 in
    let begun : t ∷ ts ≡ at (place t) (tok.Word word.Assert) ∷ test_text f.reading b.1.ahead = ap (λ q. at (place t) q ∷ ts) is ∙ ap (λ q. at (place t) (tok.Word word.Assert) ∷ q) f.spelled in
    elim (chosen (sees (mark.Op op.Comma) b.1) _ _ (after (mark.Op op.Comma) b.1) (done x j) b.3) [
      | inl w ↦
          let c = taken (mark.Op op.Comma) b.1 w.0 in
          let d = bind_ok (one_test (after (mark.Op op.Comma) b.1)) _ x j w.1 in
          let m = one_test_sound (after (mark.Op op.Comma) b.1) d.0 d.1 d.2 in
          named_anew small_text small_tree (input (t ∷ ts) front) (s.Assert b.0 (Some d.0)) x d.1 j d.3
          (record {
            reading = g.assert (place t) f.reading (Some (record { place = c.0; test = m.reading }));
            spelled = begun ∙ ap (λ q. at (place t) (tok.Word word.Assert) ∷ test_text f.reading q) (c.1 ∙ ap (λ q. at c.0 (tok.Op op.Comma) ∷ q) m.spelled);
            is = ap (λ q. s.Assert q (Some (test_tree m.reading))) f.is ∙ ap (λ q. s.Assert b.0 (Some q)) m.is;
            kept = f.kept ∙ c.2 ∙ m.kept;
          })
      | inr w ↦
          let a = after_false (mark.Op op.Comma) b.1 w.0 in
          named_anew small_text small_tree (input (t ∷ ts) front) (s.Assert b.0 None) x (after (mark.Op op.Comma) b.1) j w.1
          (record {
            reading = g.assert (place t) f.reading None;
            spelled = begun ∙ ap (λ (q : Input). at (place t) (tok.Word word.Assert) ∷ test_text f.reading q.ahead) (sym a);
            is = ap (λ q. s.Assert q None) f.is;
            kept = f.kept ∙ ap (λ (q : Input). q.front) (sym a);
          })
    ]

imports_sound : (t : Token) (ts : List Token) (front : ℕ) (x : StmtKind) (j : Input) → t.kind ≡ tok.Word word.Import → read.imports (input (t ∷ ts) front) ≡ done x j → Finds t ts front x j
unfolding read.imports
imports_sound t ts front x j is e =
    let b = bind_ok (series (read.alias true) false (input ts front)) _ x j e in
    let f = series_sound (renamed_text dotted_text) (renamed_tree dotted_tree) (read.alias true) (alias_sound dotted_text dotted_tree true dotted_sound) false (input ts front) b.0 b.1 b.2 in
    named_anew small_text small_tree (input (t ∷ ts) front) (s.Import b.0) x b.1 j b.3
    (record { reading = g.import (place t) f.reading; spelled = ap (λ q. at (place t) q ∷ ts) is ∙ ap (λ q. at (place t) (tok.Word word.Import) ∷ q) f.spelled; is = ap s.Import f.is; kept = f.kept })

imports_from_sound : (t : Token) (ts : List Token) (front : ℕ) (x : StmtKind) (j : Input) → t.kind ≡ tok.Word word.From → read.imports_from (input (t ∷ ts) front) ≡ done x j → Finds t ts front x j
unfolding read.imports_from
imports_from_sound t ts front x j is e =
    let b = bind_ok (read.dotted (input ts front)) _ x j e in
    let d = dotted_sound (input ts front) b.0 b.1 b.2 in
    let k = bind_ok (expect (mark.Word word.Import) b.1) _ x j b.3 in
    let r = expect_ok (mark.Word word.Import) b.1 k.1 k.0 k.2 in
    let c = bind_ok (read.imported k.1) _ x j k.3 in
    let f = imported_sound k.1 c.0 c.1 c.2 in
    named_anew small_text small_tree (input (t ∷ ts) front) (s.From b.0 c.0) x c.1 j c.3
    (record {
      reading = g.from (place t) d.reading r.0 f.reading;
      spelled = ap (λ q. at (place t) q ∷ ts) is ∙ ap (λ q. at (place t) (tok.Word word.From) ∷ q) (d.spelled ∙ ap (dotted_text d.reading) (r.1 ∙ ap (λ q. at r.0 (tok.Word word.Import) ∷ q) f.spelled));
      is = ap (λ q. s.From q (imported_list f.reading)) d.is ∙ ap (s.From b.0) f.is;
      kept = d.kept ∙ r.2 ∙ f.kept;
    })

by_sound : (kind : Tok) (t : Token) (ts : List Token) (front : ℕ) (x : StmtKind) (j : Input) → t.kind ≡ kind → read.small_by kind (input (t ∷ ts) front) ≡ done x j → Finds t ts front x j
by_sound (tok.Word word.Del) t ts front x j is e = deletion_sound t ts front x j is e
by_sound (tok.Word word.Pass) t ts front x j is e = alone_sound s.Pass g.pass (tok.Word word.Pass) (λ l rest. refl) (λ l. refl) t ts front x j is e
by_sound (tok.Word word.Break) t ts front x j is e = alone_sound s.Break g.break (tok.Word word.Break) (λ l rest. refl) (λ l. refl) t ts front x j is e
by_sound (tok.Word word.Continue) t ts front x j is e = alone_sound s.Continue g.continue (tok.Word word.Continue) (λ l rest. refl) (λ l. refl) t ts front x j is e
by_sound (tok.Word word.Return) t ts front x j is e = returned_sound t ts front x j is e
by_sound (tok.Word word.Raise) t ts front x j is e = raised_sound t ts front x j is e
by_sound (tok.Word word.Global) t ts front x j is e = globals_sound t ts front x j is e
by_sound (tok.Word word.Assert) t ts front x j is e = assertion_sound t ts front x j is e
by_sound (tok.Word word.Import) t ts front x j is e = imports_sound t ts front x j is e
by_sound (tok.Word word.From) t ts front x j is e = imports_from_sound t ts front x j is e
by_sound _ t ts front x j is e = expression_sound (input (t ∷ ts) front) x j e

pub small_sound : Sound small_text small_tree read.small
unfolding read.small
small_sound i x j e = go i.ahead e
  where
    go : (ts : List Token) → read.small_by (kind_at ts) (input ts i.front) ≡ done x j → Found small_text small_tree (input ts i.front) x j
    go [] e = expression_sound (input [] i.front) x j e
    go (t ∷ ts) e = by_sound t.kind t ts i.front x j refl e

-- ---- where they stop

optional_fails : {A : Type 0} (item : Parser A) → Keeps item → Fails item → Fails (read.optional item)
unfolding read.optional
optional_fails item kp fp = fails_peek _ (λ kind. fails_if (ends_small kind) _ _ (fails_pure None) (fails_bind item _ kp fp (λ x. fails_pure (Some x))))

one_test_keeps : Keeps one_test
one_test_keeps = sound_keeps test_text test_tree one_test one_test_sound

one_gone_keeps : Keeps one_gone
one_gone_keeps = sound_keeps gone_text gone_tree one_gone one_gone_sound

plain_keeps : Keeps (read.alias false)
plain_keeps i x j e = (alias_sound name_text name_tree false name_reads i x j e).kept

dotted_alias_keeps : Keeps (read.alias true)
dotted_alias_keeps i x j e = (alias_sound dotted_text dotted_tree true dotted_sound i x j e).kept

imported_fails : Fails read.imported
unfolding read.imported
imported_fails = fails_eat (mark.Op op.OpenParen) _ (λ b. fails_bind (series (read.alias false) b) _ (λ i x j e. (plain_sound b i x j e).kept)
    (series_fails (read.alias false) b plain_keeps (alias_fails false)) (λ names. fails_if b _ _ (fails_expect (mark.Op op.CloseParen) (λ _. pure names) (fails_pure names)) (fails_pure names)))

by_fails : (kind : Tok) → Fails (read.small_by kind)
unfolding read.deletion read.returned read.raised read.globals read.assertion read.imports read.imports_from
by_fails (tok.Word word.Del) = fails_take _ (fails_bind (series one_gone false) _ (λ i x j e. (series_sound gone_text gone_tree one_gone one_gone_sound false i x j e).kept) (series_fails one_gone false one_gone_keeps one_gone_fails) (λ gs. fails_pure (s.Del gs)))
by_fails (tok.Word word.Pass) = fails_take _ (fails_pure s.Pass)
by_fails (tok.Word word.Break) = fails_take _ (fails_pure s.Break)
by_fails (tok.Word word.Continue) = fails_take _ (fails_pure s.Continue)
by_fails (tok.Word word.Return) = fails_take _ (fails_bind (read.optional all_tests) _ (λ i x j e. (optional_sound members_text members_tree all_tests all_tests_sound i x j e).kept) (optional_fails all_tests all_tests_keeps all_tests_fails) (λ x. fails_pure (s.Return x)))
by_fails (tok.Word word.Raise) = fails_take _ (fails_bind (read.optional one_test) _ (λ i x j e. (optional_sound test_text test_tree one_test one_test_sound i x j e).kept) (optional_fails one_test one_test_keeps one_test_fails) (λ x. fails_pure (s.Raise x)))
by_fails (tok.Word word.Global) = fails_take _ (fails_bind (series name false) _ (λ i x j e. (series_sound name_text name_tree name name_reads false i x j e).kept) (series_fails name false name_keeps name_fails) (λ ns. fails_pure (s.Global ns)))
by_fails (tok.Word word.Assert) = fails_take _ (fails_bind one_test _ one_test_keeps one_test_fails (λ x. fails_eat (mark.Op op.Comma) _ (λ b. fails_if b _ _ (fails_bind one_test _ one_test_keeps one_test_fails (λ y. fails_pure (s.Assert x (Some y)))) (fails_pure (s.Assert x None)))))
by_fails (tok.Word word.Import) = fails_take _ (fails_bind (series (read.alias true) false) _ (λ i x j e. (series_sound (renamed_text dotted_text) (renamed_tree dotted_tree) (read.alias true) (alias_sound dotted_text dotted_tree true dotted_sound) false i x j e).kept)
    (series_fails (read.alias true) false dotted_alias_keeps (alias_fails true)) (λ ns. fails_pure (s.Import ns)))
by_fails (tok.Word word.From) = fails_take _ (fails_bind read.dotted _ dotted_keeps dotted_fails (λ text. fails_expect (mark.Word word.Import) _ (fails_bind read.imported _ (λ i x j e. (imported_sound i x j e).kept) imported_fails (λ ns. fails_pure (s.From text ns)))))
by_fails _ = expression_fails

pub small_fails : Fails read.small
unfolding read.small
small_fails = fails_peek _ by_fails
