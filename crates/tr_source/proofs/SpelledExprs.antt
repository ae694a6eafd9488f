-- Formed expressions and targets are spelled: by induction, from layer to layer.
use Rattle.std.proofs.Common.{◌≡◌, suc, ◌≤◌, ◌<◌, Bool, true, ◌&&◌, List, [], ◌∷◌, map, Option, Some, None, sym, subst, ◌∙◌, arith}
use Rattle.std.specs.Prelude.{length}
use Rattle.std.specs.List.{list_all}
use Rattle.std.proofs.lemmas.List.Elements.{All-nil}
use Rattle.py_meaning.specs.py_tree.declared.expr.CompareOp.{CompareOp}
use Rattle.py_meaning.specs.py_tree.declared.expr.Expr.{Expr, roll-Expr, map-Expr}
use Rattle.py_meaning.specs.py_tree.declared.expr.Expr.TheOpen.{Expr-F}
use Rattle.py_meaning.specs.py_tree.declared.expr.Expr.TheFolds.{fold-roll-Expr, ind-Expr}
use Rattle.py_meaning.specs.py_tree.declared.stmt.Param.{Param}
use Rattle.py_meaning.specs.py_tree.declared.stmt.Target.{Target, roll-Target, map-Target}
use Rattle.py_meaning.specs.py_tree.declared.stmt.Target.TheOpen.{Target-F}
use Rattle.py_meaning.specs.py_tree.declared.stmt.Target.TheFolds.{fold-roll-Target, ind-Target}
use Rattle.py_meaning.specs.py_tree.Formed as formed
use Rattle.emit_measures.specs.bc_scheme.py_meaning.Tree as tree
use Rattle.emit_measures.specs.bc_scheme.py_meaning.Tree.{Name}
use Rattle.emit_measures.specs.bc_scheme.py_meaning.Plain as plain
use Rattle.tr_source.proofs.SpelledSteps.{and_left, and_right}
use Rattle.tr_source.specs.Spelled.{IsSpelled, AreSpelled, LinksSpelled, PairsSpelled, KeysSpelled, TargetSpelled, TargetsSpelled, AllAscii, IsAscii}
use Rattle.tr_source.proofs.Texts.{ascii, number}

abbrev Good : Expr → Type 0
Good e = formed.expr_formed e ≡ true → IsSpelled (plain.plain_expr e)

rolled : (x : Expr-F Expr) → (formed.expr_step (map-Expr Expr Bool formed.expr_formed x) ≡ true → IsSpelled (plain.expr_step (map-Expr Expr tree.Expr plain.plain_expr x))) → Good (roll-Expr x)
rolled x h e = subst IsSpelled (sym (fold-roll-Expr tree.Expr plain.expr_step x)) (h (sym (fold-roll-Expr Bool formed.expr_step x) ∙ e))

-- ---- rows of parts

module _ {P Q : Type 0} (part : P → Q) (bools : Q → Bool) (trees : Q → tree.Expr) (h : (s : P) → bools (part s) ≡ true → IsSpelled (trees (part s))) where
  exprs_row : (ss : List P) → list_all (λ item. item) (map bools (map part ss)) ≡ true → AreSpelled (plain.exprs (map trees (map part ss)))
  exprs_row [] e = tt
  exprs_row (s ∷ ss) e = (h s (and_left _ _ e), exprs_row ss (and_right (bools (part s)) _ e))

module _ {P Q : Type 0} (part : P → Q) (bools : Q → CompareOp × Bool) (trees : Q → CompareOp × tree.Expr) (h : (s : P) → (bools (part s)).1 ≡ true → IsSpelled (trees (part s)).1) where
  links_row : (s : P) (ss : List P) → list_all (λ (pair : CompareOp × Bool). pair.1) (map bools (map part (s ∷ ss))) ≡ true → LinksSpelled (plain.links (trees (part s)).0 (trees (part s)).1 (map trees (map part ss)))
  links_row s [] e = h s (and_left _ _ e)
  links_row s (t ∷ ss) e = (h s (and_left _ _ e), links_row t ss (and_right (bools (part s)).1 _ e))

  compare_row : (first : tree.Expr) (ss : List P) → IsSpelled first → list_all (λ (pair : CompareOp × Bool). pair.1) (map bools (map part ss)) ≡ true → IsSpelled (plain.compares first (map trees (map part ss)))
  compare_row first [] k e = k
  compare_row first (s ∷ ss) k e = (k, links_row s ss e)

module _ {P Q : Type 0} (part : P → Q) (bools : Q → Bool × Bool) (trees : Q → tree.Expr × tree.Expr)
    (h : (s : P) → (bools (part s)).0 ≡ true → IsSpelled (trees (part s)).0) (k : (s : P) → (bools (part s)).1 ≡ true → IsSpelled (trees (part s)).1) where
  pairs_row : (ss : List P) → list_all (λ (pair : Bool × Bool). pair.0 && pair.1) (map bools (map part ss)) ≡ true → PairsSpelled (plain.pairs_of (map trees (map part ss)))
  pairs_row [] e = tt
  pairs_row (s ∷ ss) e =
      let own = and_left ((bools (part s)).0 && (bools (part s)).1) _ e in
      (h s (and_left _ _ own), k s (and_right (bools (part s)).0 _ own), pairs_row ss (and_right ((bools (part s)).0 && (bools (part s)).1) _ e))

module _ {P Q : Type 0} (part : P → Q) (bools : Q → Name × Bool) (trees : Q → Name × tree.Expr)
    (h : (s : P) → formed.is_ascii (bools (part s)).0 ≡ true → IsAscii (trees (part s)).0) (k : (s : P) → (bools (part s)).1 ≡ true → IsSpelled (trees (part s)).1) where
  keys_row : (ss : List P) → list_all (λ (key : Name × Bool). formed.is_ascii key.0 && key.1) (map bools (map part ss)) ≡ true → KeysSpelled (plain.keys_of (map trees (map part ss)))
  keys_row [] e = tt
  keys_row (s ∷ ss) e =
      let own = and_left (formed.is_ascii (bools (part s)).0 && (bools (part s)).1) _ e in
      (h s (and_left _ _ own), k s (and_right (formed.is_ascii (bools (part s)).0) _ own), keys_row ss (and_right (formed.is_ascii (bools (part s)).0 && (bools (part s)).1) _ e))

operands_spelled : (make : tree.Expr → tree.Exprs → tree.Expr) → ((e : tree.Expr) (es : tree.Exprs) → IsSpelled e → AreSpelled es → IsSpelled (make e es)) → (es : List tree.Expr) → AreSpelled (plain.exprs es) → IsSpelled (plain.operands make es)
operands_spelled make h [] k = tt
operands_spelled make h (e ∷ es) k = h e (plain.exprs es) k.0 k.1

call_spelled : (f : tree.Expr) (args : tree.Exprs) (keys : tree.Keys) → IsSpelled f → AreSpelled args → KeysSpelled keys → IsSpelled (plain.call_of f args keys)
call_spelled (tree.Attr object name) args keys h a k = (h.0, h.1, a, k)
call_spelled f args keys h a k = (h, a, k)

module _ {S : Type 0} (f : S → Expr) (h : (s : S) → Good (f s)) where
  layer : (y : Expr-F S) → formed.expr_step (map-Expr Expr Bool formed.expr_formed (map-Expr S Expr f y)) ≡ true → IsSpelled (plain.expr_step (map-Expr Expr tree.Expr plain.plain_expr (map-Expr S Expr f y)))
  layer Expr-F.None e = tt
  layer Expr-F.True e = tt
  layer Expr-F.False e = tt
  layer (Expr-F.Int n) e = number n e
  layer (Expr-F.Str text) e = ascii text e
  layer (Expr-F.Name name) e = ascii name e
  layer (Expr-F.Unary op value) e = h value e
  layer (Expr-F.Binary op left right) e = (h left (and_left _ _ e), h right (and_right _ _ e))
  layer (Expr-F.And items) e = operands_spelled tree.And (λ x xs a b. (a, b)) _ (exprs_row _ _ _ h items (and_right _ _ e))
  layer (Expr-F.Or items) e = operands_spelled tree.Or (λ x xs a b. (a, b)) _ (exprs_row _ _ _ h items (and_right _ _ e))
  layer (Expr-F.Not value) e = h value e
  layer (Expr-F.Compare first rest) e = compare_row _ _ _ (λ pair. h pair.1) _ rest (h first (and_left _ _ e)) (and_right _ _ (and_right (formed.expr_formed (f first)) _ e))
  layer (Expr-F.Cond test on off) e = (h test (and_left _ _ e), h on (and_left _ _ (and_right (formed.expr_formed (f test)) _ e)), h off (and_right _ _ (and_right (formed.expr_formed (f test)) _ e)))
  layer (Expr-F.Tuple items) e = exprs_row _ _ _ h items e
  layer (Expr-F.List items) e = exprs_row _ _ _ h items e
  layer (Expr-F.Dict pairs) e = pairs_row _ _ _ (λ pair. h pair.0) (λ pair. h pair.1) pairs e
  layer (Expr-F.Attr object name) e = (h object (and_left _ _ e), ascii name (and_right _ _ e))
  layer (Expr-F.Index object index) e = (h object (and_left _ _ e), h index (and_right _ _ e))
  layer (Expr-F.Call callee args keys) e =
      let behind = and_right (formed.expr_formed (f callee)) _ e in
      call_spelled _ _ _ (h callee (and_left _ _ e)) (exprs_row _ _ _ h args (and_left _ _ behind)) (keys_row _ _ _ (λ key. ascii key.0) (λ key. h key.1) keys (and_right _ _ behind))

pub spelled : (e : Expr) → formed.expr_formed e ≡ true → IsSpelled (plain.plain_expr e)
spelled = ind-Expr Good (λ x y is. subst (λ z. Good (roll-Expr z)) is (rolled _ (layer (λ s. s.0) (λ s. s.1) y)))

-- ---- targets

abbrev Aimed : Target → Type 0
Aimed t = formed.target_formed t ≡ true → TargetSpelled (plain.plain_target t)

target_rolled : (x : Target-F Target) → (formed.target_step (map-Target Target Bool formed.target_formed x) ≡ true → TargetSpelled (plain.target_step (map-Target Target tree.Target plain.plain_target x))) → Aimed (roll-Target x)
target_rolled x h e = subst TargetSpelled (sym (fold-roll-Target tree.Target plain.target_step x)) (h (sym (fold-roll-Target Bool formed.target_step x) ∙ e))

module _ {P Q : Type 0} (part : P → Q) (bools : Q → Bool) (trees : Q → tree.Target) (h : (s : P) → bools (part s) ≡ true → TargetSpelled (trees (part s))) where
  targets_row : (s : P) (ss : List P) → list_all (λ item. item) (map bools (map part (s ∷ ss))) ≡ true → TargetsSpelled (plain.targets (trees (part s)) (map trees (map part ss)))
  targets_row s [] e = h s (and_left _ _ e)
  targets_row s (t ∷ ss) e = (h s (and_left _ _ e), targets_row t ss (and_right (bools (part s)) _ e))

  unpack_row : (ss : List P) → list_all (λ item. item) (map bools (map part ss)) ≡ true → TargetSpelled (plain.from_targets (tree.ToName []) tree.ToEach (map trees (map part ss)))
  unpack_row [] e = All-nil (λ byte. byte < 128)
  unpack_row (s ∷ ss) e = targets_row s ss e

module _ {S : Type 0} (f : S → Target) (h : (s : S) → Aimed (f s)) where
  target_layer : (y : Target-F S) → formed.target_step (map-Target Target Bool formed.target_formed (map-Target S Target f y)) ≡ true → TargetSpelled (plain.target_step (map-Target Target tree.Target plain.plain_target (map-Target S Target f y)))
  target_layer (Target-F.Name name) e = ascii name e
  target_layer (Target-F.Attr object name) e = (spelled object (and_left _ _ e), ascii name (and_right _ _ e))
  target_layer (Target-F.Index object index) e = (spelled object (and_left _ _ e), spelled index (and_right _ _ e))
  target_layer (Target-F.Unpack targets) e = unpack_row _ _ _ h targets (and_right _ _ e)

pub aimed : (t : Target) → formed.target_formed t ≡ true → TargetSpelled (plain.plain_target t)
aimed = ind-Target Aimed (λ x y is. subst (λ z. Aimed (roll-Target z)) is (target_rolled _ (target_layer (λ s. s.0) (λ s. s.1) y)))

-- those of one statement
pub aimed_row : (t : Target) (ts : List Target) → list_all formed.target_formed (t ∷ ts) ≡ true → TargetsSpelled (plain.targets (plain.plain_target t) (map plain.plain_target ts))
aimed_row t [] e = aimed t (and_left _ _ e)
aimed_row t (u ∷ us) e = (aimed t (and_left _ _ e), aimed_row u us (and_right (formed.target_formed t) _ e))

-- ---- parameters

pub names_ascii : (params : List Param) → list_all formed.param_formed params ≡ true → AllAscii (map (λ (param : Param). param.name) params)
names_ascii [] e = tt
names_ascii (param ∷ params) e = (ascii param.name (and_left _ _ (and_left (formed.param_formed param) _ e)), names_ascii params (and_right (formed.param_formed param) _ e))

one_default : (value : Option Expr) (es : tree.Exprs) → formed.option_formed value ≡ true → AreSpelled es → AreSpelled (plain.on_option es (λ e. tree.More e es) value)
one_default None es e k = k
one_default (Some x) es e k = (spelled x e, k)

pub defaults_spelled : (params : List Param) → list_all formed.param_formed params ≡ true → AreSpelled (plain.defaults_of params)
defaults_spelled [] e = tt
defaults_spelled (param ∷ params) e =
    one_default param.default (plain.defaults_of params) (and_right (formed.is_ascii param.name) _ (and_left (formed.param_formed param) _ e)) (defaults_spelled params (and_right (formed.param_formed param) _ e))

more_defaults : (value : Option Expr) (es : tree.Exprs) → tree.count (plain.on_option es (λ e. tree.More e es) value) ≤ suc (tree.count es)
more_defaults None es = omega arith
more_defaults (Some x) es = omega arith

pub fewer_defaults : (params : List Param) → tree.count (plain.defaults_of params) ≤ length (map (λ (param : Param). param.name) params)
fewer_defaults [] = omega arith
fewer_defaults (param ∷ params) = let more = more_defaults param.default (plain.defaults_of params) in let rest = fewer_defaults params in omega (arith, more, rest)
