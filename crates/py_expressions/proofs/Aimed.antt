-- Tests that are targets, and targets as tests.
use Rattle.std.proofs.Common.{◌≡◌, ℕ, ℤ, zero, suc, ◌⊎◌, inl, inr, Bool, true, false, List, [], ◌∷◌, ◌++◌, Option, Some, None, refl, sym, ap, ◌∙◌, arith, rules}
use Rattle.py_tokens.specs.declared.token.Token.{Token}
use Rattle.py_tokens.specs.declared.token.Tok.TheVariants as tok
use Rattle.py_tokens.specs.declared.operator.Op.TheVariants as op
use Rattle.py_tree.specs.declared.expr.Expr.{Expr, the_lemmas}
use Rattle.py_tree.specs.declared.expr.Expr.TheVariants as ex
use Rattle.py_tree.specs.declared.expr.UnaryOp.{UnaryOp}
use Rattle.py_tree.specs.declared.expr.BinaryOp.{BinaryOp}
use Rattle.py_tree.specs.declared.expr.BinaryOp.TheVariants as binary
use Rattle.py_tree.specs.declared.expr.CompareOp.{CompareOp}
use Rattle.py_tree.specs.declared.stmt.Target.{Target}
use Rattle.py_tree.specs.declared.stmt.Target.TheVariants as target
use Rattle.py_expressions.specs.Input.{at}
use Rattle.py_expressions.specs.Grammar as g
use Rattle.py_expressions.specs.Reading.{tuple_of, compared, joined}
use Rattle.py_expressions.specs.Targets as t
use Rattle.py_expressions.specs.Targets.{target_of, unpack, unpacked, each, both, unpacks, AimedMembers}

-- ---- the target of each kind of expression

pub target_name : (d : ℕ) (text : List ℕ) → target_of (suc d) (ex.Name text) ≡ Some (target.Name text)
unfolding target_of
target_name d text = first_of (search (rules, the_lemmas), grind (arith, the_lemmas))

pub target_tuple : (d : ℕ) (xs : List Expr) → target_of (suc d) (ex.Tuple xs) ≡ unpack (target_of d) xs
unfolding target_of
target_tuple d xs = first_of (search (rules, the_lemmas), grind (arith, the_lemmas))

pub target_list : (d : ℕ) (xs : List Expr) → target_of (suc d) (ex.List xs) ≡ unpack (target_of d) xs
unfolding target_of
target_list d xs = first_of (search (rules, the_lemmas), grind (arith, the_lemmas))

pub target_attribute : (d : ℕ) (x : Expr) (text : List ℕ) → target_of (suc d) (ex.Attr x text) ≡ Some (target.Attr x text)
unfolding target_of
target_attribute d x text = first_of (search (rules, the_lemmas), grind (arith, the_lemmas))

pub target_index : (d : ℕ) (x y : Expr) → target_of (suc d) (ex.Index x y) ≡ Some (target.Index x y)
unfolding target_of
target_index d x y = first_of (search (rules, the_lemmas), grind (arith, the_lemmas))

-- it is no target, whatever the depth
abbrev pub NoTarget : Expr → Type 0
NoTarget x = (d : ℕ) → target_of d x ≡ None

target_zero : (x : Expr) → target_of zero x ≡ None
unfolding target_of
target_zero x = refl

no_int : (n : ℤ) → NoTarget (ex.Int n)
unfolding target_of
no_int n zero = refl
no_int n (suc d) = first_of (search (rules, the_lemmas), grind (arith, the_lemmas))

no_str : (text : List ℕ) → NoTarget (ex.Str text)
unfolding target_of
no_str text zero = refl
no_str text (suc d) = first_of (search (rules, the_lemmas), grind (arith, the_lemmas))

no_none : NoTarget ex.None
unfolding target_of
no_none zero = refl
no_none (suc d) = first_of (search (rules, the_lemmas), grind (arith, the_lemmas))

no_true : NoTarget ex.True
unfolding target_of
no_true zero = refl
no_true (suc d) = first_of (search (rules, the_lemmas), grind (arith, the_lemmas))

no_false : NoTarget ex.False
unfolding target_of
no_false zero = refl
no_false (suc d) = first_of (search (rules, the_lemmas), grind (arith, the_lemmas))

no_unary : (how : UnaryOp) (x : Expr) → NoTarget (ex.Unary how x)
unfolding target_of
no_unary how x zero = refl
no_unary how x (suc d) = first_of (search (rules, the_lemmas), grind (arith, the_lemmas))

no_binary : (how : BinaryOp) (x y : Expr) → NoTarget (ex.Binary how x y)
unfolding target_of
no_binary how x y zero = refl
no_binary how x y (suc d) = first_of (search (rules, the_lemmas), grind (arith, the_lemmas))

no_and : (xs : List Expr) → NoTarget (ex.And xs)
unfolding target_of
no_and xs zero = refl
no_and xs (suc d) = first_of (search (rules, the_lemmas), grind (arith, the_lemmas))

no_or : (xs : List Expr) → NoTarget (ex.Or xs)
unfolding target_of
no_or xs zero = refl
no_or xs (suc d) = first_of (search (rules, the_lemmas), grind (arith, the_lemmas))

no_not : (x : Expr) → NoTarget (ex.Not x)
unfolding target_of
no_not x zero = refl
no_not x (suc d) = first_of (search (rules, the_lemmas), grind (arith, the_lemmas))

no_compare : (x : Expr) (cs : List (CompareOp × Expr)) → NoTarget (ex.Compare x cs)
unfolding target_of
no_compare x cs zero = refl
no_compare x cs (suc d) = first_of (search (rules, the_lemmas), grind (arith, the_lemmas))

no_cond : (c x y : Expr) → NoTarget (ex.Cond c x y)
unfolding target_of
no_cond c x y zero = refl
no_cond c x y (suc d) = first_of (search (rules, the_lemmas), grind (arith, the_lemmas))

no_dict : (ps : List (Expr × Expr)) → NoTarget (ex.Dict ps)
unfolding target_of
no_dict ps zero = refl
no_dict ps (suc d) = first_of (search (rules, the_lemmas), grind (arith, the_lemmas))

no_call : (x : Expr) (xs : List Expr) (keys : List (List ℕ × Expr)) → NoTarget (ex.Call x xs keys)
unfolding target_of
no_call x xs keys zero = refl
no_call x xs keys (suc d) = first_of (search (rules, the_lemmas), grind (arith, the_lemmas))

-- ---- options and lists

none_some : {A : Type 0} (o : Option A) (x : A) → o ≡ None → o ≡ Some x → ⊥
none_some o x e f = cc

some_is : (x y : Target) → (let o : Option Target = Some x in o ≡ Some y) → x ≡ y
some_is x y e = cc

somes_are : (x y : List Target) → (let o : Option (List Target) = Some x in o ≡ Some y) → x ≡ y
somes_are x y e = cc

refused : (d : ℕ) (x : Expr) (y : Target) → NoTarget x → target_of d x ≡ Some y → ⊥
refused d x y no_target e = none_some (target_of d x) y (no_target d) e

both_some : (o : Option Target) (p : Option (List Target)) (ts : List Target) → both o p ≡ Some ts → (x : Target) × (xs : List Target) × (o ≡ Some x) × (p ≡ Some xs) × (x ∷ xs ≡ ts)
both_some None p ts e = absurd cc
both_some (Some x) None ts e = absurd cc
both_some (Some x) (Some xs) ts e = (x, xs, refl, refl, somes_are (x ∷ xs) ts e)

unpacked_some : (o : Option (List Target)) (x : Target) → unpacked o ≡ Some x → (xs : List Target) × (o ≡ Some xs) × (target.Unpack xs ≡ x)
unpacked_some None x e = absurd cc
unpacked_some (Some xs) x e = (xs, refl, some_is (target.Unpack xs) x e)

pub unpack_cons : (go : Expr → Option Target) (x : Expr) (xs : List Expr) → unpack go (x ∷ xs) ≡ unpacked (both (go x) (each go xs))
unfolding unpack each
unpack_cons go x xs = refl

unpack_nil : (go : Expr → Option Target) → unpack go [] ≡ None
unfolding unpack
unpack_nil go = refl

pub each_cons : (go : Expr → Option Target) (x : Expr) (xs : List Expr) → each go (x ∷ xs) ≡ both (go x) (each go xs)
unfolding each
each_cons go x xs = refl

pub each_nil : (go : Expr → Option Target) → each go [] ≡ Some []
unfolding each
each_nil go = refl

pub compared_none : (x : Expr) → compared x [] ≡ x
unfolding compared
compared_none x = refl

compared_some : (x : Expr) (c : CompareOp × Expr) (cs : List (CompareOp × Expr)) → compared x (c ∷ cs) ≡ ex.Compare x (c ∷ cs)
unfolding compared
compared_some x c cs = refl

pub joined_alone : (make : List Expr → Expr) (x : Expr) → joined make (x ∷ []) ≡ x
unfolding joined
joined_alone make x = refl

joined_more : (make : List Expr → Expr) (x y : Expr) (xs : List Expr) → joined make (x ∷ y ∷ xs) ≡ make (x ∷ y ∷ xs)
unfolding joined
joined_more make x y xs = refl

pub tuple_alone : (x : Expr) → tuple_of (x ∷ []) false ≡ x
unfolding tuple_of
tuple_alone x = refl

pub tuple_last : (x : Expr) → tuple_of (x ∷ []) true ≡ ex.Tuple (x ∷ [])
unfolding tuple_of
tuple_last x = refl

pub tuple_more : (x y : Expr) (xs : List Expr) (c : Bool) → tuple_of (x ∷ y ∷ xs) c ≡ ex.Tuple (x ∷ y ∷ xs)
unfolding tuple_of
tuple_more x y xs c = refl

tuple_none : (c : Bool) → tuple_of [] c ≡ ex.Tuple []
unfolding tuple_of
tuple_none c = refl

pub unpacks_alone : (x : Target) → unpacks (x ∷ []) false ≡ x
unfolding unpacks
unpacks_alone x = refl

pub unpacks_last : (x : Target) → unpacks (x ∷ []) true ≡ target.Unpack (x ∷ [])
unfolding unpacks
unpacks_last x = refl

pub unpacks_more : (x y : Target) (xs : List Target) (c : Bool) → unpacks (x ∷ y ∷ xs) c ≡ target.Unpack (x ∷ y ∷ xs)
unfolding unpacks
unpacks_more x y xs c = refl

-- ---- trailers that end in a target

-- the last trailer of some
pub record EndsAs (ts : g.Trailers) (left : Expr) (x : Target) : Type 0 where
  pub front : g.Trailers
  pub ending : t.Ending
  pub spelled : (rest : List Token) → g.trailers_text ts rest ≡ g.trailers_text front (t.ending_text ending rest)
  pub is : t.ending_tree ending (g.trailers_tree front left) ≡ x

trailers_aim : (ts : g.Trailers) (left : Expr) (d : ℕ) (x : Target) → target_of d (g.trailers_tree ts left) ≡ Some x → (((rest : List Token) → g.trailers_text ts rest ≡ rest) × (target_of d left ≡ Some x)) ⊎ EndsAs ts left x
trailers_aim g.no_trailer left d x e = inl (λ rest. refl, e)
trailers_aim (g.call l gs r ts) left d x e =
    elim (trailers_aim ts (ex.Call left (g.positional_list gs) (g.keyword_list gs)) d x e) [
      | inl w ↦ absurd (refused d (ex.Call left (g.positional_list gs) (g.keyword_list gs)) x (no_call left (g.positional_list gs) (g.keyword_list gs)) w.1)
      | inr w ↦ inr (record { front = g.call l gs r w.front; ending = w.ending; spelled = λ rest. ap (λ q. at l (tok.Op op.OpenParen) ∷ g.arguments_text gs (at r (tok.Op op.CloseParen) ∷ q)) (w.spelled rest); is = w.is })
    ]
trailers_aim (g.index l m r ts) left zero x e = absurd (none_some (target_of 0 (g.trailers_tree (g.index l m r ts) left)) x (target_zero (g.trailers_tree (g.index l m r ts) left)) e)
trailers_aim (g.index l m r ts) left (suc d) x e =
    elim (trailers_aim ts (ex.Index left (g.members_tree m)) (suc d) x e) [
      | inl w ↦ inr (record { front = g.no_trailer; ending = t.index l m r; spelled = λ rest. ap (λ q. at l (tok.Op op.OpenBracket) ∷ g.members_text m (at r (tok.Op op.CloseBracket) ∷ q)) (w.0 rest); is = some_is (target.Index left (g.members_tree m)) x (sym (target_index d left (g.members_tree m)) ∙ w.1) })
      | inr w ↦ inr (record { front = g.index l m r w.front; ending = w.ending; spelled = λ rest. ap (λ q. at l (tok.Op op.OpenBracket) ∷ g.members_text m (at r (tok.Op op.CloseBracket) ∷ q)) (w.spelled rest); is = w.is })
    ]
trailers_aim (g.attribute l r text ts) left zero x e = absurd (none_some (target_of 0 (g.trailers_tree (g.attribute l r text ts) left)) x (target_zero (g.trailers_tree (g.attribute l r text ts) left)) e)
trailers_aim (g.attribute l r text ts) left (suc d) x e =
    elim (trailers_aim ts (ex.Attr left text) (suc d) x e) [
      | inl w ↦ inr (record { front = g.no_trailer; ending = t.attribute l r text; spelled = λ rest. ap (λ q. at l (tok.Op op.Dot) ∷ at r (tok.Name text) ∷ q) (w.0 rest); is = some_is (target.Attr left text) x (sym (target_attribute d left text) ∙ w.1) })
      | inr w ↦ inr (record { front = g.attribute l r text w.front; ending = w.ending; spelled = λ rest. ap (λ q. at l (tok.Op op.Dot) ∷ at r (tok.Name text) ∷ q) (w.spelled rest); is = w.is })
    ]

-- ---- a test that is a target is spelled as one

pub record AimedAs (text : List Token → List Token) (x : Target) : Type 0 where
  pub aim : t.Aim
  pub spelled : (rest : List Token) → text rest ≡ t.aim_text aim rest
  pub is : t.aim_tree aim ≡ x

chain_binary : {level : ℕ} (c : g.Chain level) (how : BinaryOp) (x y : Expr) → NoTarget (g.chain_tree c (ex.Binary how x y))
chain_binary g.no_operator how x y = no_binary how x y
chain_binary (g.operated l kind how' e s c) how x y = chain_binary c how' (ex.Binary how x y) (g.sum_tree s)

mutual
  factor_aimed : (f : g.Factor) (d : ℕ) (x : Target) → target_of d (g.factor_tree f) ≡ Some x → AimedAs (g.factor_text f) x
  factor_aimed (g.signed l kind how h f) d x e = absurd (refused d (ex.Unary how (g.factor_tree f)) x (no_unary how (g.factor_tree f)) e)
  factor_aimed (g.power a ts l f) d x e = absurd (refused d (g.factor_tree (g.power a ts l f)) x (no_binary binary.Pow (g.trailers_tree ts (g.atom_tree a)) (g.factor_tree f)) e)
  factor_aimed (g.primary a ts) d x e =
      elim (trailers_aim ts (g.atom_tree a) d x e) [
        | inl w ↦ let f = atom_aimed a d x w.1 in record { aim = f.aim; spelled = λ rest. ap (g.atom_text a) (w.0 rest) ∙ f.spelled rest; is = f.is }
        | inr w ↦ record { aim = t.one (t.part a w.front w.ending); spelled = λ rest. ap (g.atom_text a) (w.spelled rest); is = w.is }
      ]

  atom_aimed : (a : g.Atom) (d : ℕ) (x : Target) → target_of d (g.atom_tree a) ≡ Some x → AimedAs (g.atom_text a) x
  atom_aimed (g.name l text) zero x e = absurd (none_some (target_of 0 (ex.Name text)) x (target_zero (ex.Name text)) e)
  atom_aimed (g.name l text) (suc d) x e = record { aim = t.one (t.One.variable l text); spelled = λ rest. refl; is = some_is (target.Name text) x (sym (target_name d text) ∙ e) }
  atom_aimed (g.int l n) d x e = absurd (refused d (ex.Int n) x (no_int n) e)
  atom_aimed (g.strings l text ss) d x e = absurd (refused d (g.atom_tree (g.strings l text ss)) x (no_str (text ++ g.strings_tree ss)) e)
  atom_aimed (g.none l) d x e = absurd (refused d ex.None x no_none e)
  atom_aimed (g.truth l) d x e = absurd (refused d ex.True x no_true e)
  atom_aimed (g.falsity l) d x e = absurd (refused d ex.False x no_false e)
  atom_aimed (g.brace l ps r) d x e = absurd (refused d (ex.Dict (g.pairs_list ps)) x (no_dict (g.pairs_list ps)) e)
  atom_aimed (g.round l m r) d x e = let f = inside_aimed m d x e in record { aim = t.round l f.aims r; spelled = λ rest. ap (λ q. at l (tok.Op op.OpenParen) ∷ q) (f.spelled (at r (tok.Op op.CloseParen) ∷ rest)); is = f.is }
  atom_aimed (g.square l m r) zero x e = absurd (none_some (target_of 0 (ex.List (g.inside_list m))) x (target_zero (ex.List (g.inside_list m))) e)
  atom_aimed (g.square l g.nothing r) (suc d) x e = absurd (none_some (target_of (suc d) (ex.List [])) x (target_list d [] ∙ unpack_nil (target_of d)) e)
  atom_aimed (g.square l (g.inside (g.listed u cs)) r) (suc d) x e =
      let xs = g.commas_list cs in
      let p = unpacked_some (both (target_of d (g.test_tree u)) (each (target_of d) xs)) x (sym (target_list d (g.test_tree u ∷ xs) ∙ unpack_cons (target_of d) (g.test_tree u) xs) ∙ e) in
      let b = both_some (target_of d (g.test_tree u)) (each (target_of d) xs) p.0 p.1 in
      let f = test_aimed u d b.0 b.2 in
      let o = commas_aimed cs d b.1 b.3 in
      record {
        aim = t.square l (t.listed f.aim o.0) r;
        spelled = λ rest. ap (λ q. at l (tok.Op op.OpenBracket) ∷ q) (f.spelled (g.commas_text cs (at r (tok.Op op.CloseBracket) ∷ rest)) ∙ ap (t.aim_text f.aim) (o.1 (at r (tok.Op op.CloseBracket) ∷ rest)));
        is = ap (λ q. target.Unpack (q ∷ t.more_list o.0)) f.is ∙ ap (λ q. target.Unpack (b.0 ∷ q)) o.2 ∙ ap target.Unpack b.4 ∙ p.2;
      }

  inside_aimed : (m : g.Inside) (d : ℕ) (x : Target) → target_of d (tuple_of (g.inside_list m) (g.inside_comma m)) ≡ Some x → AimedMembers (g.inside_text m) x
  inside_aimed g.nothing zero x e = absurd (none_some (target_of 0 (tuple_of [] false)) x (target_zero (tuple_of [] false)) e)
  inside_aimed g.nothing (suc d) x e = absurd (none_some (target_of (suc d) (tuple_of [] false)) x (ap (target_of (suc d)) (tuple_none false) ∙ target_tuple d [] ∙ unpack_nil (target_of d)) e)
  inside_aimed (g.inside m) d x e = members_aimed m d x e

  pub members_aimed : (m : g.Members) (d : ℕ) (x : Target) → target_of d (g.members_tree m) ≡ Some x → AimedMembers (g.members_text m) x
  members_aimed (g.listed u g.no_comma) d x e =
      let f = test_aimed u d x (ap (target_of d) (sym (tuple_alone (g.test_tree u))) ∙ e) in
      record { aims = t.listed f.aim t.no_comma; spelled = λ rest. f.spelled rest; is = unpacks_alone (t.aim_tree f.aim) ∙ f.is }
  members_aimed (g.listed u (g.last_comma l)) zero x e = absurd (none_some (target_of 0 (tuple_of (g.test_tree u ∷ []) true)) x (target_zero (tuple_of (g.test_tree u ∷ []) true)) e)
  members_aimed (g.listed u (g.last_comma l)) (suc d) x e =
      let p = unpacked_some (both (target_of d (g.test_tree u)) (each (target_of d) [])) x (sym (ap (target_of (suc d)) (tuple_last (g.test_tree u)) ∙ target_tuple d (g.test_tree u ∷ []) ∙ unpack_cons (target_of d) (g.test_tree u) []) ∙ e) in
      let b = both_some (target_of d (g.test_tree u)) (each (target_of d) []) p.0 p.1 in
      let f = test_aimed u d b.0 b.2 in
      let none : [] ≡ b.1 = somes_are [] b.1 (sym (each_nil (target_of d)) ∙ b.3) in
      record {
        aims = t.listed f.aim (t.last_comma l);
        spelled = λ rest. f.spelled (at l (tok.Op op.Comma) ∷ rest);
        is = unpacks_last (t.aim_tree f.aim) ∙ ap (λ q. target.Unpack (q ∷ [])) f.is ∙ ap (λ q. target.Unpack (b.0 ∷ q)) none ∙ ap target.Unpack b.4 ∙ p.2;
      }
  members_aimed (g.listed u (g.comma l v cs)) zero x e = absurd (none_some (target_of 0 (tuple_of (g.test_tree u ∷ g.test_tree v ∷ g.commas_list cs) (g.commas_last cs))) x (target_zero (tuple_of (g.test_tree u ∷ g.test_tree v ∷ g.commas_list cs) (g.commas_last cs))) e)
  members_aimed (g.listed u (g.comma l v cs)) (suc d) x e =
      let xs = g.test_tree v ∷ g.commas_list cs in
      let p = unpacked_some (both (target_of d (g.test_tree u)) (each (target_of d) xs)) x (sym (ap (target_of (suc d)) (tuple_more (g.test_tree u) (g.test_tree v) (g.commas_list cs) (g.commas_last cs)) ∙ target_tuple d (g.test_tree u ∷ xs) ∙ unpack_cons (target_of d) (g.test_tree u) xs) ∙ e) in
      let b = both_some (target_of d (g.test_tree u)) (each (target_of d) xs) p.0 p.1 in
      let f = test_aimed u d b.0 b.2 in
      let q = both_some (target_of d (g.test_tree v)) (each (target_of d) (g.commas_list cs)) b.1 (sym (each_cons (target_of d) (g.test_tree v) (g.commas_list cs)) ∙ b.3) in
      let h = test_aimed v d q.0 q.2 in
      let o = commas_aimed cs d q.1 q.3 in
      record {
        aims = t.listed f.aim (t.comma l h.aim o.0);
        spelled = λ rest. f.spelled (at l (tok.Op op.Comma) ∷ g.test_text v (g.commas_text cs rest)) ∙ ap (λ k. t.aim_text f.aim (at l (tok.Op op.Comma) ∷ k)) (h.spelled (g.commas_text cs rest) ∙ ap (t.aim_text h.aim) (o.1 rest));
        is = unpacks_more (t.aim_tree f.aim) (t.aim_tree h.aim) (t.more_list o.0) (t.more_last o.0)
            ∙ ap (λ k. target.Unpack (k ∷ t.aim_tree h.aim ∷ t.more_list o.0)) f.is ∙ ap (λ k. target.Unpack (b.0 ∷ k ∷ t.more_list o.0)) h.is ∙ ap (λ k. target.Unpack (b.0 ∷ q.0 ∷ k)) o.2 ∙ ap (λ k. target.Unpack (b.0 ∷ k)) q.4 ∙ ap target.Unpack b.4 ∙ p.2;
      }

  commas_aimed : (cs : g.Commas) (d : ℕ) (xs : List Target) → each (target_of d) (g.commas_list cs) ≡ Some xs → (o : t.MoreAims) × ((rest : List Token) → g.commas_text cs rest ≡ t.more_text o rest) × (t.more_list o ≡ xs)
  commas_aimed g.no_comma d xs e = (t.no_comma, λ rest. refl, somes_are [] xs (sym (each_nil (target_of d)) ∙ e))
  commas_aimed (g.last_comma l) d xs e = (t.last_comma l, λ rest. refl, somes_are [] xs (sym (each_nil (target_of d)) ∙ e))
  commas_aimed (g.comma l u cs) d xs e =
      let b = both_some (target_of d (g.test_tree u)) (each (target_of d) (g.commas_list cs)) xs (sym (each_cons (target_of d) (g.test_tree u) (g.commas_list cs)) ∙ e) in
      let f = test_aimed u d b.0 b.2 in
      let o = commas_aimed cs d b.1 b.3 in
      (t.comma l f.aim o.0, λ rest. ap (λ q. at l (tok.Op op.Comma) ∷ q) (f.spelled (g.commas_text cs rest) ∙ ap (t.aim_text f.aim) (o.1 rest)), ap (λ q. q ∷ t.more_list o.0) f.is ∙ ap (λ q. b.0 ∷ q) o.2 ∙ b.4)

  test_aimed : (u : g.Test) (d : ℕ) (x : Target) → target_of d (g.test_tree u) ≡ Some x → AimedAs (g.test_text u) x
  test_aimed (g.plain o) d x e = let f = or_aimed o d x e in record { aim = f.aim; spelled = f.spelled; is = f.is }
  test_aimed (g.conditional o l c r u) d x e = absurd (refused d (g.test_tree (g.conditional o l c r u)) x (no_cond (g.or_tree c) (g.or_tree o) (g.test_tree u)) e)

  or_aimed : (o : g.OrTest) (d : ℕ) (x : Target) → target_of d (g.or_tree o) ≡ Some x → AimedAs (g.or_text o) x
  or_aimed (g.or_test a g.no_or) d x e = let f = and_aimed a d x (ap (target_of d) (sym (joined_alone ex.Or (g.and_tree a))) ∙ e) in record { aim = f.aim; spelled = f.spelled; is = f.is }
  or_aimed (g.or_test a (g.or_more l b os)) d x e =
      absurd (refused d (ex.Or (g.and_tree a ∷ g.and_tree b ∷ g.or_list os)) x (no_or (g.and_tree a ∷ g.and_tree b ∷ g.or_list os)) (ap (target_of d) (sym (joined_more ex.Or (g.and_tree a) (g.and_tree b) (g.or_list os))) ∙ e))

  and_aimed : (a : g.AndTest) (d : ℕ) (x : Target) → target_of d (g.and_tree a) ≡ Some x → AimedAs (g.and_text a) x
  and_aimed (g.and_test n g.no_and) d x e = let f = not_aimed n d x (ap (target_of d) (sym (joined_alone ex.And (g.not_tree n))) ∙ e) in record { aim = f.aim; spelled = f.spelled; is = f.is }
  and_aimed (g.and_test n (g.and_more l m ns)) d x e =
      absurd (refused d (ex.And (g.not_tree n ∷ g.not_tree m ∷ g.and_list ns)) x (no_and (g.not_tree n ∷ g.not_tree m ∷ g.and_list ns)) (ap (target_of d) (sym (joined_more ex.And (g.not_tree n) (g.not_tree m) (g.and_list ns))) ∙ e))

  not_aimed : (n : g.NotTest) (d : ℕ) (x : Target) → target_of d (g.not_tree n) ≡ Some x → AimedAs (g.not_text n) x
  not_aimed (g.negated l n) d x e = absurd (refused d (ex.Not (g.not_tree n)) x (no_not (g.not_tree n)) e)
  not_aimed (g.compare s g.no_comparison) d x e = let f = sum_aimed s d x (ap (target_of d) (sym (compared_none (g.sum_tree s))) ∙ e) in record { aim = f.aim; spelled = f.spelled; is = f.is }
  not_aimed (g.compare s (g.comparing c u cs)) d x e =
      let more = g.comparisons_list (g.comparing c u cs) in
      absurd (refused d (ex.Compare (g.sum_tree s) more) x (no_compare (g.sum_tree s) more) (ap (target_of d) (sym (compared_some (g.sum_tree s) (g.comparison_tree c, g.sum_tree u) (g.comparisons_list cs))) ∙ e))

  sum_aimed : {level : ℕ} (s : g.Sum level) (d : ℕ) (x : Target) → target_of d (g.sum_tree s) ≡ Some x → AimedAs (g.sum_text s) x
  sum_aimed (g.operand f) d x e = let h = factor_aimed f d x e in record { aim = h.aim; spelled = h.spelled; is = h.is }
  sum_aimed (g.grouped s g.no_operator) d x e = let h = sum_aimed s d x e in record { aim = h.aim; spelled = h.spelled; is = h.is }
  sum_aimed (g.grouped s (g.operated l kind how h u c)) d x e = absurd (refused d (g.chain_tree c (ex.Binary how (g.sum_tree s) (g.sum_tree u))) x (chain_binary c how (g.sum_tree s) (g.sum_tree u)) e)
