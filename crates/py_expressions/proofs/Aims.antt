-- Targets are read as the grammar says.
use Rattle.std.proofs.Common.{◌≡◌, ℕ, zero, suc, ◌-◌, ◌≤◌, ◌⊎◌, inl, inr, Bool, true, false, List, [], ◌∷◌, ◌++◌, length, Option, Some, None, Ok, refl, sym, ap, ◌∙◌, arith, rules, append_assoc}
use Rattle.std.specs.Bool.{then_some}
use Rattle.py_tokens.specs.declared.token.Token.{Token}
use Rattle.py_tokens.specs.declared.token.Tok.TheVariants as tok
use Rattle.py_tokens.specs.declared.word.Word.TheVariants as word
use Rattle.py_tokens.specs.declared.operator.Op.TheVariants as op
use Rattle.py_tree.specs.declared.expr.Expr.{Expr, the_lemmas}
use Rattle.py_tree.specs.declared.expr.Expr.TheVariants as ex
use Rattle.py_tree.specs.declared.stmt.Target.{Target}
use Rattle.py_tree.specs.declared.stmt.Target.TheVariants as target
use Rattle.py_expressions.specs.declared.cursor.Mark.TheVariants as mark
use Rattle.py_expressions.specs.declared.grammar.Rule.{Rule}
use Rattle.py_expressions.specs.Input.{Input, Place, at, Parser, ◌>>=◌, kind_at, sees}
use Rattle.py_expressions.specs.Follow.{rank, behind_primary}
use Rattle.py_expressions.specs.Grammar as g
use Rattle.py_expressions.specs.Reading as read
use Rattle.py_expressions.specs.Targets as t
use Rattle.py_expressions.specs.Targets.{target_of, part_of, item_of, alone_of, given, single}
use Rattle.py_expressions.specs.Laws.{input, Sound, Complete, Fails}
use Rattle.py_expressions.proofs.Steps.{done, bind_ok, done_is, no_err, chosen}
use Rattle.py_expressions.proofs.Tables.{no_trailer_at, operand_begins_test}
use Rattle.py_expressions.proofs.Sizes.{atom_grows, atom_starts, strings_rank}
use Rattle.py_expressions.proofs.Forward
use Rattle.py_expressions.proofs.Complete.{atom_complete, trailers_complete, primary_complete}
use Rattle.py_expressions.proofs.Backward.{RulesSound, expr_sound, members_sound, atom_sound, trailer_sound, trailers_sound, primary_sound, has_trailer}
use Rattle.py_expressions.proofs.Faults.{Keeps, RulesFail, expr_fails, fails_bind, fails_pure, fails_refuse, fails_if, fails_peek, members_fails, atom_fails, atom_keeps, trailers_fails, primary_fails, primary_keeps}
use Rattle.py_expressions.proofs.Aimed.{EndsAs, members_aimed}
use Rattle.py_expressions.proofs.Embedded.{as_trailers, trailers_same, as_test, test_same, test_tree_same, as_primary, as_factor, as_members, as_commas, factor_same, aim_grows, members_target}

-- ---- what a primary with trailers may be

part_call : (x : Expr) (xs : List Expr) (keys : List (List ℕ × Expr)) → part_of (ex.Call x xs keys) ≡ None
unfolding part_of
part_call x xs keys = first_of (search (rules, the_lemmas), grind (arith, the_lemmas))

pub part_index : (x y : Expr) → part_of (ex.Index x y) ≡ Some (target.Index x y)
unfolding part_of
part_index x y = first_of (search (rules, the_lemmas), grind (arith, the_lemmas))

pub part_attribute : (x : Expr) (text : List ℕ) → part_of (ex.Attr x text) ≡ Some (target.Attr x text)
unfolding part_of
part_attribute x text = first_of (search (rules, the_lemmas), grind (arith, the_lemmas))

item_call : (x : Expr) (xs : List Expr) (keys : List (List ℕ × Expr)) → item_of (ex.Call x xs keys) ≡ None
unfolding item_of
item_call x xs keys = first_of (search (rules, the_lemmas), grind (arith, the_lemmas))

pub item_index : (x y : Expr) → item_of (ex.Index x y) ≡ Some (target.Index x y)
unfolding item_of
item_index x y = first_of (search (rules, the_lemmas), grind (arith, the_lemmas))

item_attribute : (x : Expr) (text : List ℕ) → item_of (ex.Attr x text) ≡ None
unfolding item_of
item_attribute x text = first_of (search (rules, the_lemmas), grind (arith, the_lemmas))

pub alone_name : (b : Bool) (text : List ℕ) → alone_of b (ex.Name text) ≡ then_some b (target.Name text)
unfolding alone_of
alone_name true text = first_of (search (rules, the_lemmas), grind (arith, the_lemmas))
alone_name false text = refl

some_is : (x y : Target) → (let o : Option Target = Some x in o ≡ Some y) → x ≡ y
some_is x y e = cc

none_some : (o : Option Target) (x : Target) → o ≡ None → o ≡ Some x → ⊥
none_some o x e f = cc

-- no trailers, or some that end in a target
part_end : (ts : g.Trailers) (left : Expr) (x : Target) → part_of (g.trailers_tree ts left) ≡ Some x
    → ((has_trailer ts ≡ false) × ((rest : List Token) → g.trailers_text ts rest ≡ rest) × (part_of left ≡ Some x)) ⊎ EndsAs ts left x
part_end g.no_trailer left x e = inl (refl, λ rest. refl, e)
part_end (g.call l gs r ts) left x e =
    elim (part_end ts (ex.Call left (g.positional_list gs) (g.keyword_list gs)) x e) [
      | inl w ↦ absurd (none_some (part_of (ex.Call left (g.positional_list gs) (g.keyword_list gs))) x (part_call left (g.positional_list gs) (g.keyword_list gs)) w.2)
      | inr w ↦ inr (record { front = g.call l gs r w.front; ending = w.ending; spelled = λ rest. ap (λ q. at l (tok.Op op.OpenParen) ∷ g.arguments_text gs (at r (tok.Op op.CloseParen) ∷ q)) (w.spelled rest); is = w.is })
    ]
part_end (g.index l m r ts) left x e =
    elim (part_end ts (ex.Index left (g.members_tree m)) x e) [
      | inl w ↦ inr (record { front = g.no_trailer; ending = t.index l m r; spelled = λ rest. ap (λ q. at l (tok.Op op.OpenBracket) ∷ g.members_text m (at r (tok.Op op.CloseBracket) ∷ q)) (w.1 rest); is = some_is (target.Index left (g.members_tree m)) x (sym (part_index left (g.members_tree m)) ∙ w.2) })
      | inr w ↦ inr (record { front = g.index l m r w.front; ending = w.ending; spelled = λ rest. ap (λ q. at l (tok.Op op.OpenBracket) ∷ g.members_text m (at r (tok.Op op.CloseBracket) ∷ q)) (w.spelled rest); is = w.is })
    ]
part_end (g.attribute l r text ts) left x e =
    elim (part_end ts (ex.Attr left text) x e) [
      | inl w ↦ inr (record { front = g.no_trailer; ending = t.attribute l r text; spelled = λ rest. ap (λ q. at l (tok.Op op.Dot) ∷ at r (tok.Name text) ∷ q) (w.1 rest); is = some_is (target.Attr left text) x (sym (part_attribute left text) ∙ w.2) })
      | inr w ↦ inr (record { front = g.attribute l r text w.front; ending = w.ending; spelled = λ rest. ap (λ q. at l (tok.Op op.Dot) ∷ at r (tok.Name text) ∷ q) (w.spelled rest); is = w.is })
    ]

-- trailers that end in an index
record EndsItem (ts : g.Trailers) (left : Expr) (x : Target) : Type 0 where
  front : g.Trailers
  open_ : Place
  inside : g.Members
  close : Place
  spelled : (rest : List Token) → g.trailers_text ts rest ≡ g.trailers_text front (t.ending_text (t.index open_ inside close) rest)
  is : target.Index (g.trailers_tree front left) (g.members_tree inside) ≡ x

item_end : (ts : g.Trailers) (left : Expr) (x : Target) → item_of (g.trailers_tree ts left) ≡ Some x
    → ((has_trailer ts ≡ false) × ((rest : List Token) → g.trailers_text ts rest ≡ rest) × (item_of left ≡ Some x)) ⊎ EndsItem ts left x
item_end g.no_trailer left x e = inl (refl, λ rest. refl, e)
item_end (g.call l gs r ts) left x e =
    elim (item_end ts (ex.Call left (g.positional_list gs) (g.keyword_list gs)) x e) [
      | inl w ↦ absurd (none_some (item_of (ex.Call left (g.positional_list gs) (g.keyword_list gs))) x (item_call left (g.positional_list gs) (g.keyword_list gs)) w.2)
      | inr w ↦ inr (record { front = g.call l gs r w.front; open_ = w.open_; inside = w.inside; close = w.close; spelled = λ rest. ap (λ q. at l (tok.Op op.OpenParen) ∷ g.arguments_text gs (at r (tok.Op op.CloseParen) ∷ q)) (w.spelled rest); is = w.is })
    ]
item_end (g.index l m r ts) left x e =
    elim (item_end ts (ex.Index left (g.members_tree m)) x e) [
      | inl w ↦ inr (record { front = g.no_trailer; open_ = l; inside = m; close = r; spelled = λ rest. ap (λ q. at l (tok.Op op.OpenBracket) ∷ g.members_text m (at r (tok.Op op.CloseBracket) ∷ q)) (w.1 rest); is = some_is (target.Index left (g.members_tree m)) x (sym (item_index left (g.members_tree m)) ∙ w.2) })
      | inr w ↦ inr (record { front = g.index l m r w.front; open_ = w.open_; inside = w.inside; close = w.close; spelled = λ rest. ap (λ q. at l (tok.Op op.OpenBracket) ∷ g.members_text m (at r (tok.Op op.CloseBracket) ∷ q)) (w.spelled rest); is = w.is })
    ]
item_end (g.attribute l r text ts) left x e =
    elim (item_end ts (ex.Attr left text) x e) [
      | inl w ↦ absurd (none_some (item_of (ex.Attr left text)) x (item_attribute left text) w.2)
      | inr w ↦ inr (record { front = g.attribute l r text w.front; open_ = w.open_; inside = w.inside; close = w.close; spelled = λ rest. ap (λ q. at l (tok.Op op.Dot) ∷ at r (tok.Name text) ∷ q) (w.spelled rest); is = w.is })
    ]

-- ---- what a single target says

given_ok : (o : Option Target) (i : Input) (x : Target) (j : Input) → given o i ≡ done x j → (o ≡ Some x) × (i ≡ j)
given_ok None i x j e = absurd (no_err i.front x j e)
given_ok (Some y) i x j e = let d = done_is y x i j e in (ap (λ q. Some q) d.0, d.1)

alone_atom : (a : g.Atom) (rest : List Token) (x : Target) → alone_of (read.is_name (kind_at (g.atom_text a rest))) (g.atom_tree a) ≡ Some x → (l : Place) × (text : List ℕ) × (g.atom_text a rest ≡ at l (tok.Name text) ∷ rest) × (target.Name text ≡ x)
unfolding alone_of
alone_atom (g.name l text) rest x e = (l, text, refl, some_is (target.Name text) x (sym (alone_name true text) ∙ e))
alone_atom (g.int l n) rest x e = absurd cc
alone_atom (g.strings l text ss) rest x e = absurd cc
alone_atom (g.none l) rest x e = absurd cc
alone_atom (g.truth l) rest x e = absurd cc
alone_atom (g.falsity l) rest x e = absurd cc
alone_atom (g.round l m r) rest x e = absurd cc
alone_atom (g.square l m r) rest x e = absurd cc
alone_atom (g.brace l ps r) rest x e = absurd cc

-- a name alone
record Named (i : Input) (x : Target) (j : Input) : Type 0 where
  at_ : Place
  text : List ℕ
  spelled : i.ahead ≡ at at_ (tok.Name text) ∷ j.ahead
  is : target.Name text ≡ x
  kept : i.front ≡ j.front

-- a primary with trailers
record Whole (whole_of : Expr → Option Target) (i : Input) (x : Target) (j : Input) : Type 0 where
  atom : g.Atom
  trailers : g.Trailers
  some : has_trailer trailers ≡ true
  spelled : i.ahead ≡ g.atom_text atom (g.trailers_text trailers j.ahead)
  is : whole_of (g.trailers_tree trailers (g.atom_tree atom)) ≡ Some x
  kept : i.front ≡ j.front

module _ (inner : Rule → Parser Expr) (s : RulesSound inner) where
  trailers_taken : (ts : List Token) (front : ℕ) (left x : Expr) (j : Input) → read.begins_trailer (kind_at ts) ≡ true → read.all_trailers inner left (input ts front) ≡ done x j
      → (us : g.Trailers) × (has_trailer us ≡ true) × (ts ≡ g.trailers_text us j.ahead) × (g.trailers_tree us left ≡ x) × (front ≡ j.front)
  unfolding read.all_trailers read.trailers
  trailers_taken [] front left x j b e = absurd cc
  trailers_taken (u ∷ ts) front left x j b e =
      let c = elim (chosen (read.begins_trailer u.kind) _ _ (input (u ∷ ts) front) (done x j) e) as (λ q. (read.begins_trailer u.kind ≡ true) × (((read.trailer inner left) >>= (read.trailers inner (length ts))) (input (u ∷ ts) front) ≡ done x j)) [
        | inl w ↦ w
        | inr w ↦ let clash : true ≡ false = sym b ∙ w.0 in absurd cc
      ] in
      let h = bind_ok (read.trailer inner left (input (u ∷ ts) front)) _ x j c.1 in
      let p = trailer_sound inner s.test s.negation s.factor left (input (u ∷ ts) front) h.0 h.1 b h.2 in
      let f = trailers_sound inner s.test s.negation s.factor (length ts) h.0 h.1 x j h.3 in
      (p.more f.reading, p.some f.reading, p.spelled f.reading j.ahead f.spelled, p.is f.reading ∙ f.is, p.kept ∙ f.kept)

  single_says : (whole_of : Expr → Option Target) (i : Input) (x : Target) (j : Input) → single whole_of inner i ≡ done x j → Named i x j ⊎ Whole whole_of i x j
  unfolding single
  single_says whole_of i x j e =
      let b = bind_ok (read.atom inner i) _ x j e in
      let a = atom_sound inner s.test s.negation s.factor i b.0 b.1 b.2 in
      elim (chosen (read.begins_trailer (kind_at b.1.ahead)) _ _ b.1 (done x j) b.3) [
        | inl w ↦
            let c = bind_ok (read.all_trailers inner b.0 b.1) _ x j w.1 in
            let f = trailers_taken b.1.ahead b.1.front b.0 c.0 c.1 w.0 c.2 in
            let v = given_ok (whole_of c.0) c.1 x j c.3 in
            inr (record {
              atom = a.reading;
              trailers = f.0;
              some = f.1;
              spelled = a.spelled ∙ ap (g.atom_text a.reading) (f.2 ∙ ap (λ (q : Input). g.trailers_text f.0 q.ahead) v.1);
              is = ap whole_of (ap (g.trailers_tree f.0) a.is ∙ f.3) ∙ v.0;
              kept = a.kept ∙ f.4 ∙ ap (λ (q : Input). q.front) v.1;
            })
        | inr w ↦
            let v = given_ok (alone_of (read.is_name (kind_at i.ahead)) b.0) b.1 x j w.1 in
            let n = alone_atom a.reading b.1.ahead x (ap (λ ts. alone_of (read.is_name (kind_at ts)) (g.atom_tree a.reading)) (sym a.spelled) ∙ ap (alone_of (read.is_name (kind_at i.ahead))) a.is ∙ v.0) in
            inl (record {
              at_ = n.0;
              text = n.1;
              spelled = a.spelled ∙ n.2 ∙ ap (λ (q : Input). at n.0 (tok.Name n.1) ∷ q.ahead) v.1;
              is = n.3;
              kept = a.kept ∙ ap (λ (q : Input). q.front) v.1;
            })
      ]

clash : (b : Bool) → b ≡ true → b ≡ false → ⊥
clash b e f = cc

pub one_target_sound : Sound t.one_text t.one_tree t.one_target
unfolding t.one_target
one_target_sound i x j e =
    elim (single_says (read.expr (length i.ahead)) (expr_sound (length i.ahead)) part_of i x j e) [
      | inl w ↦ record { reading = t.One.variable w.at_ w.text; spelled = w.spelled; is = w.is; kept = w.kept }
      | inr w ↦ elim (part_end w.trailers (g.atom_tree w.atom) x w.is) [
        | inl v ↦ absurd (clash (has_trailer w.trailers) w.some v.0)
        | inr v ↦ record { reading = t.part w.atom v.front v.ending; spelled = w.spelled ∙ ap (g.atom_text w.atom) (v.spelled j.ahead); is = v.is; kept = w.kept }
      ]
    ]

pub one_gone_sound : Sound t.gone_text t.gone_tree t.one_gone
unfolding t.one_gone
one_gone_sound i x j e =
    elim (single_says (read.expr (length i.ahead)) (expr_sound (length i.ahead)) item_of i x j e) [
      | inl w ↦ record { reading = t.Gone.variable w.at_ w.text; spelled = w.spelled; is = w.is; kept = w.kept }
      | inr w ↦ elim (item_end w.trailers (g.atom_tree w.atom) x w.is) [
        | inl v ↦ absurd (clash (has_trailer w.trailers) w.some v.0)
        | inr v ↦ record { reading = t.item w.atom v.front v.open_ v.inside v.close; spelled = w.spelled ∙ ap (g.atom_text w.atom) (v.spelled j.ahead); is = v.is; kept = w.kept }
      ]
    ]

-- ---- single targets are read

single_variable : (whole_of : Expr → Option Target) (inner : Rule → Parser Expr) (l : Place) (text : List ℕ) (rest : List Token) (front : ℕ) → 2 ≤ rank rest
    → single whole_of inner (input (at l (tok.Name text) ∷ rest) front) ≡ Ok (target.Name text, input rest front)
unfolding single
single_variable whole_of inner l text rest front h = rw (Forward.atom_name inner l text rest front, no_trailer_at rest h, alone_name true text) refl

single_whole : (whole_of : Expr → Option Target) (inner : Rule → Parser Expr) (i j m : Input) (x y : Expr) (z : Target) → read.atom inner i ≡ Ok (x, j) → read.begins_trailer (kind_at j.ahead) ≡ true → read.trailers inner (length j.ahead) x j ≡ Ok (y, m) → whole_of y ≡ Some z
    → single whole_of inner i ≡ Ok (z, m)
unfolding single read.all_trailers
single_whole whole_of inner i j m x y z a b e is = rw (a, b, e, is) refl

ending_begins : (ts : g.Trailers) (e : t.Ending) (rest : List Token) → read.begins_trailer (kind_at (g.trailers_text ts (t.ending_text e rest))) ≡ true
ending_begins g.no_trailer (t.attribute l r text) rest = refl
ending_begins g.no_trailer (t.index l m r) rest = refl
ending_begins (g.call l gs r ts) e rest = refl
ending_begins (g.index l m r ts) e rest = refl
ending_begins (g.attribute l r text ts) e rest = refl

part_is : (ts : g.Trailers) (e : t.Ending) (left : Expr) → part_of (g.trailers_tree (as_trailers ts e) left) ≡ Some (t.ending_tree e (g.trailers_tree ts left))
unfolding as_trailers
part_is g.no_trailer (t.attribute l r text) left = part_attribute left text
part_is g.no_trailer (t.index l m r) left = part_index left (g.members_tree m)
part_is (g.call l gs r ts) e left = part_is ts e (ex.Call left (g.positional_list gs) (g.keyword_list gs))
part_is (g.index l m r ts) e left = part_is ts e (ex.Index left (g.members_tree m))
part_is (g.attribute l r text ts) e left = part_is ts e (ex.Attr left text)

item_is : (ts : g.Trailers) (l : Place) (m : g.Members) (r : Place) (left : Expr) → item_of (g.trailers_tree (as_trailers ts (t.index l m r)) left) ≡ Some (target.Index (g.trailers_tree ts left) (g.members_tree m))
unfolding as_trailers
item_is g.no_trailer l m r left = item_index left (g.members_tree m)
item_is (g.call k gs q ts) l m r left = item_is ts l m r (ex.Call left (g.positional_list gs) (g.keyword_list gs))
item_is (g.index k n q ts) l m r left = item_is ts l m r (ex.Index left (g.members_tree n))
item_is (g.attribute k q text ts) l m r left = item_is ts l m r (ex.Attr left text)

-- a primary that ends in a target
whole_complete : (whole_of : Expr → Option Target) (a : g.Atom) (ts : g.Trailers) (e : t.Ending) (z : Target) (d : ℕ) (rest : List Token) (front : ℕ) → whole_of (g.trailers_tree (as_trailers ts e) (g.atom_tree a)) ≡ Some z
    → length (g.atom_text a (g.trailers_text (as_trailers ts e) rest)) ≤ d → 2 ≤ rank rest
    → single whole_of (read.expr d) (input (g.atom_text a (g.trailers_text (as_trailers ts e) rest)) front) ≡ Ok (z, input rest front)
whole_complete whole_of a ts e z d rest front is le h =
    let us = as_trailers ts e in
    let k = atom_grows a (g.trailers_text (as_trailers ts e) rest) in
    single_whole whole_of (read.expr d) (input (g.atom_text a (g.trailers_text us rest)) front) (input (g.trailers_text us rest) front) (input rest front) (g.atom_tree a) (g.trailers_tree us (g.atom_tree a)) z
    (atom_complete a d (g.trailers_text us rest) front le (strings_rank us rest h))
    (ap (λ q. read.begins_trailer (kind_at q)) (trailers_same ts e rest) ∙ ending_begins ts e rest)
    (trailers_complete us (length (g.trailers_text us rest)) d (g.atom_tree a) rest front (omega arith) (omega arith) h)
    is

pub one_target_complete : Complete t.one_text t.one_tree behind_primary t.one_target
unfolding t.one_target
one_target_complete (t.One.variable l text) rest front h = single_variable part_of (read.expr (length (at l (tok.Name text) ∷ rest))) l text rest front h
one_target_complete (t.part a ts e) rest front h =
    ap (λ q. single part_of (read.expr (length (g.atom_text a q))) (input (g.atom_text a q) front)) (sym (trailers_same ts e rest))
    ∙ whole_complete part_of a ts e (t.ending_tree e (g.trailers_tree ts (g.atom_tree a))) (length (g.atom_text a (g.trailers_text (as_trailers ts e) rest))) rest front (part_is ts e (g.atom_tree a)) (omega arith) h

pub one_gone_complete : Complete t.gone_text t.gone_tree behind_primary t.one_gone
unfolding t.one_gone
one_gone_complete (t.Gone.variable l text) rest front h = single_variable item_of (read.expr (length (at l (tok.Name text) ∷ rest))) l text rest front h
one_gone_complete (t.item a ts l m r) rest front h =
    let e = t.index l m r in
    ap (λ q. single item_of (read.expr (length (g.atom_text a q))) (input (g.atom_text a q) front)) (sym (trailers_same ts e rest))
    ∙ whole_complete item_of a ts e (target.Index (g.trailers_tree ts (g.atom_tree a)) (g.members_tree m)) (length (g.atom_text a (g.trailers_text (as_trailers ts e) rest))) rest front (item_is ts l m r (g.atom_tree a)) (omega arith) h

-- ---- single targets stop at their front

given_fails : (o : Option Target) → Fails (given o)
given_fails None = fails_refuse
given_fails (Some x) = fails_pure x

module _ (inner : Rule → Parser Expr) (s : RulesSound inner) (f : RulesFail inner) where
  all_trailers_fails : (left : Expr) → Fails (read.all_trailers inner left)
  unfolding read.all_trailers
  all_trailers_fails left i d e = trailers_fails inner s f (length i.ahead) left i d e

  all_trailers_keeps : (left : Expr) → Keeps (read.all_trailers inner left)
  unfolding read.all_trailers
  all_trailers_keeps left i x j e = (trailers_sound inner s.test s.negation s.factor (length i.ahead) left i x j e).kept

  single_fails : (whole_of : Expr → Option Target) → Fails (single whole_of inner)
  unfolding single
  single_fails whole_of = fails_peek _ (λ kd. fails_bind (read.atom inner) _ (atom_keeps inner s f) (atom_fails inner s f) (λ first. fails_peek _ (λ behind. fails_if (read.begins_trailer behind) _ _
      (fails_bind (read.all_trailers inner first) _ (all_trailers_keeps first) (all_trailers_fails first) (λ whole. given_fails (whole_of whole)))
      (given_fails (alone_of (read.is_name kd) first)))))

pub one_target_fails : Fails t.one_target
unfolding t.one_target
one_target_fails i d e = single_fails (read.expr (length i.ahead)) (expr_sound (length i.ahead)) (expr_fails (length i.ahead)) part_of i d e

pub one_gone_fails : Fails t.one_gone
unfolding t.one_gone
one_gone_fails i d e = single_fails (read.expr (length i.ahead)) (expr_sound (length i.ahead)) (expr_fails (length i.ahead)) item_of i d e

-- ---- the targets of a `for`

-- a primary is a test
primary_test_sound : (inner : Rule → Parser Expr) → RulesSound inner → Sound g.test_text g.test_tree (read.primary inner)
primary_test_sound inner s i x j e =
    let p = primary_sound inner s.test s.negation s.factor i x j e in
    let f = g.primary p.reading.0 p.reading.1 in
    record { reading = as_test f; spelled = p.spelled ∙ sym (test_same f j.ahead); is = test_tree_same f ∙ p.is; kept = p.kept }

targets_sound : (d : ℕ) → Sound t.aims_text t.aims_tree (t.targets d)
unfolding t.targets
targets_sound d i x j e =
    let b = bind_ok (read.members (read.primary (read.expr d)) i) _ x j e in
    let m = members_sound (read.primary (read.expr d)) (primary_test_sound (read.expr d) (expr_sound d)) i b.0 b.1 b.2 in
    let v = given_ok (target_of (suc d) (read.tuple_of b.0.0 b.0.1)) b.1 x j b.3 in
    let a = members_aimed m.reading (suc d) x (ap (λ (q : read.Listed). target_of (suc d) (read.tuple_of q.0 q.1)) m.is ∙ v.0) in
    record {
      reading = a.aims;
      spelled = m.spelled ∙ a.spelled b.1.ahead ∙ ap (λ (q : Input). t.aims_text a.aims q.ahead) v.1;
      is = a.is;
      kept = m.kept ∙ ap (λ (q : Input). q.front) v.1;
    }

pub all_targets_sound : Sound t.aims_text t.aims_tree t.all_targets
unfolding t.all_targets
all_targets_sound i x j e = targets_sound (length i.ahead) i x j e

aim_starts : (a : t.Aim) (rest : List Token) → read.begins_test (kind_at (t.aim_text a rest)) ≡ true
aim_starts a rest =
    let p = as_primary a in
    ap (λ q. read.begins_test (kind_at q)) (sym (factor_same a rest)) ∙ operand_begins_test (kind_at (g.atom_text p.0 (g.trailers_text p.1 rest))) (atom_starts p.0 (g.trailers_text p.1 rest))

aim_complete : (a : t.Aim) (d : ℕ) (rest : List Token) (front : ℕ) → length (t.aim_text a rest) ≤ d → 2 ≤ rank rest → read.primary (read.expr d) (input (t.aim_text a rest) front) ≡ Ok (g.factor_tree (as_factor a), input rest front)
aim_complete a d rest front le h =
    let p = as_primary a in
    let k = ap length (factor_same a rest) in
    ap (λ q. read.primary (read.expr d) (input q front)) (sym (factor_same a rest)) ∙ primary_complete p.0 p.1 d rest front (omega arith) h

abbrev in_ : Place → List Token → List Token
in_ l rest = at l (tok.Word word.In) ∷ rest

no_comma_in : (l : Place) (rest : List Token) (front : ℕ) → sees (mark.Op op.Comma) (input (in_ l rest) front) ≡ false
unfolding sees
no_comma_in l rest front = refl

more_rank : (cs : t.MoreAims) (l : Place) (rest : List Token) → 2 ≤ rank (t.more_text cs (in_ l rest))
more_rank t.no_comma l rest = omega arith
more_rank (t.last_comma k) l rest = omega arith
more_rank (t.comma k a cs) l rest = omega arith

more_complete : (cs : t.MoreAims) (n d : ℕ) (found : List Expr) (i : Input) (x : Expr) (l : Place) (rest : List Token) (front : ℕ) → length (t.more_text cs (in_ l rest)) ≤ n → length (t.more_text cs (in_ l rest)) ≤ d
    → read.primary (read.expr d) i ≡ Ok (x, input (t.more_text cs (in_ l rest)) front)
    → read.members_from (read.primary (read.expr d)) (suc n) found i ≡ Ok ((found ++ x ∷ g.commas_list (as_commas cs), g.commas_last (as_commas cs)), input (in_ l rest) front)
unfolding as_primary
more_complete t.no_comma n d found i x l rest front le ld e = Forward.members_end (read.primary (read.expr d)) n found i x (in_ l rest) front e (no_comma_in l rest front)
more_complete (t.last_comma k) n d found i x l rest front le ld e = Forward.members_last (read.primary (read.expr d)) n found i x k (in_ l rest) front e refl
more_complete (t.comma k a cs) zero d found i x l rest front le ld e = absurd (omega arith)
more_complete (t.comma k a cs) (suc n) d found i x l rest front le ld e =
    let q = aim_grows a (t.more_text cs (in_ l rest)) in
    let y = g.factor_tree (as_factor a) in
    Forward.members_then (read.primary (read.expr d)) (suc n) found i x k (t.aim_text a (t.more_text cs (in_ l rest))) front e (aim_starts a (t.more_text cs (in_ l rest)))
    ∙ more_complete cs n d (found ++ x ∷ []) (input (t.aim_text a (t.more_text cs (in_ l rest))) front) y l rest front (omega arith) (omega arith)
    (aim_complete a d (t.more_text cs (in_ l rest)) front (omega arith) (more_rank cs l rest))
    ∙ ap (λ (xs : List Expr). Ok ((xs, g.commas_last (as_commas cs)), input (in_ l rest) front)) (append_assoc found (x ∷ []) (y ∷ g.commas_list (as_commas cs)))
    ∙ ap (λ v. Ok ((found ++ x ∷ v ∷ g.commas_list (as_commas cs), g.commas_last (as_commas cs)), input (in_ l rest) front)) (sym (test_tree_same (as_factor a)))

aims_complete : (gs : t.Aims) (d : ℕ) (l : Place) (rest : List Token) (front : ℕ) → length (t.aims_text gs (in_ l rest)) ≤ d
    → read.members (read.primary (read.expr d)) (input (t.aims_text gs (in_ l rest)) front) ≡ Ok ((g.members_list (as_members gs), g.members_comma (as_members gs)), input (in_ l rest) front)
unfolding as_primary
aims_complete (t.listed a cs) d l rest front le =
    let q = aim_grows a (t.more_text cs (in_ l rest)) in
    let y = g.factor_tree (as_factor a) in
    let some : length (t.aim_text a (t.more_text cs (in_ l rest))) ≡ suc (length (t.aim_text a (t.more_text cs (in_ l rest))) - 1) = omega arith in
    Forward.members_turns (read.primary (read.expr d)) (input (t.aim_text a (t.more_text cs (in_ l rest))) front) (suc (length (t.aim_text a (t.more_text cs (in_ l rest))) - 1)) (Ok ((y ∷ g.commas_list (as_commas cs), g.commas_last (as_commas cs)), input (in_ l rest) front)) some
    (more_complete cs (length (t.aim_text a (t.more_text cs (in_ l rest))) - 1) d [] (input (t.aim_text a (t.more_text cs (in_ l rest))) front) y l rest front (omega arith) (omega arith)
    (aim_complete a d (t.more_text cs (in_ l rest)) front le (more_rank cs l rest)))
    ∙ ap (λ v. Ok ((v ∷ g.commas_list (as_commas cs), g.commas_last (as_commas cs)), input (in_ l rest) front)) (sym (test_tree_same (as_factor a)))

pub all_targets_complete : (gs : t.Aims) (l : Place) (rest : List Token) (front : ℕ)
    → t.all_targets (input (t.aims_text gs (at l (tok.Word word.In) ∷ rest)) front) ≡ Ok (t.aims_tree gs, input (at l (tok.Word word.In) ∷ rest) front)
unfolding t.all_targets t.targets
all_targets_complete gs l rest front =
    let d = length (t.aims_text gs (in_ l rest)) in
    rw (aims_complete gs d l rest front (omega arith), members_target gs d (in_ l rest) (omega arith)) refl

targets_fails : (d : ℕ) → Fails (t.targets d)
unfolding t.targets
targets_fails d =
    let s = expr_sound d in
    let f = expr_fails d in
    fails_bind (read.members (read.primary (read.expr d))) _ (λ i x j e. (members_sound (read.primary (read.expr d)) (primary_test_sound (read.expr d) s) i x j e).kept)
    (members_fails (read.primary (read.expr d)) (primary_keeps (read.expr d) s f) (primary_fails (read.expr d) s f)) (λ found. given_fails (target_of (suc d) (read.tuple_of found.0 found.1)))

pub all_targets_fails : Fails t.all_targets
unfolding t.all_targets
all_targets_fails i d e = targets_fails (length i.ahead) i d e
