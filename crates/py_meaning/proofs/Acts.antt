-- What expressions and targets tell of names.
use Rattle.std.proofs.Common.{◌≡◌, Bool, true, false, ◌&&◌, List, [], ◌∷◌, ◌++◌, map, Option, Some, None, refl, sym, ap, ap₂, subst, ◌∙◌}
use Rattle.std.specs.List.{filter_map, flat_map, list_all}
use Rattle.std.proofs.lemmas.List.Elements.{filter_map-append}
use Rattle.std.proofs.lemmas.List.{append-nil}
use Rattle.std.proofs.lemmas.List.Folds.{flat_map-map, list_all-map}
use Rattle.py_scopes.specs.py_tree.declared.expr.Expr.{Expr, roll-Expr, map-Expr}
use Rattle.py_scopes.specs.py_tree.declared.expr.Expr.TheOpen.{Expr-F}
use Rattle.py_scopes.specs.py_tree.declared.expr.Expr.TheFolds.{fold-roll-Expr, ind-Expr}
use Rattle.py_scopes.specs.py_tree.declared.stmt.Target.{Target, roll-Target, map-Target, out-Target, out-roll-Target}
use Rattle.py_scopes.specs.py_tree.declared.stmt.Target.TheOpen.{Target-F}
use Rattle.py_scopes.specs.py_tree.declared.stmt.Target.TheFolds.{fold-roll-Target, ind-Target}
use Rattle.py_scopes.specs.py_tree.Formed as formed
use Rattle.py_scopes.specs.declared.event.Act.{Act}
use Rattle.py_scopes.specs.declared.event.Act.TheVariants.{Use, Bind, Declare}
use Rattle.py_scopes.specs.declared.names.Tells.TheVariants.{Bound, Declared}
use Rattle.py_scopes.specs.Scopes.{told}
use Rattle.py_scopes.specs.Events.{acts_of, acts_of_option, target_acts, expr_step, target_step}
use Rattle.py_meaning.specs.Tree as tree
use Rattle.py_meaning.specs.Tree.{Name}
use Rattle.py_meaning.specs.Plain as plain
use Rattle.py_meaning.specs.Locals.{names_to, names_to_each}
use Rattle.py_meaning.proofs.Weaves.{AllStay}

-- acts that begin and end no function, and the names that they bind and declare
pub record Says (acts : List Act) (bound declared : List Name) : Type 0 where
  pub stays : AllStay acts
  pub binds : filter_map (told Bound) acts ≡ bound
  pub declares : filter_map (told Declared) acts ≡ declared

abbrev pub Quiet : List Act → Type 0
Quiet acts = Says acts [] []

pub nothing : Quiet []
nothing = record { stays = tt; binds = refl; declares = refl }

all_stay : (first second : List Act) → AllStay first → AllStay second → AllStay (first ++ second)
all_stay [] second h k = k
all_stay (act ∷ first) second h k = (h.0, all_stay first second h.1 k)

pub said : {first second : List Act} {bound declared more others : List Name} → Says first bound declared → Says second more others → Says (first ++ second) (bound ++ more) (declared ++ others)
said {first = first} {second = second} a b = record {
  stays = all_stay first second a.stays b.stays;
  binds = filter_map-append (told Bound) first second ∙ ap₂ (λ (x y : List Name). x ++ y) a.binds b.binds;
  declares = filter_map-append (told Declared) first second ∙ ap₂ (λ (x y : List Name). x ++ y) a.declares b.declares;
}

pub used : (name : Name) → Quiet (Use name ∷ [])
used name = record { stays = (tt, tt); binds = refl; declares = refl }

pub bound_once : (name : Name) → Says (Bind name ∷ []) (name ∷ []) []
bound_once name = record { stays = (tt, tt); binds = refl; declares = refl }

pub declared_once : (name : Name) → Says (Declare name ∷ []) [] (name ∷ [])
declared_once name = record { stays = (tt, tt); binds = refl; declares = refl }

-- the parts of a row
pub quiet_row : {S A B : Type 0} (acts : B → List Act) (step : A → B) (part : S → A) → ((s : S) → Quiet (acts (step (part s)))) → (ss : List S) → Quiet (flat_map acts (map step (map part ss)))
quiet_row acts step part h [] = nothing
quiet_row acts step part h (s ∷ ss) = said (h s) (quiet_row acts step part h ss)

-- ---- expressions

abbrev IsQuiet : Expr → Type 0
IsQuiet e = Quiet (acts_of e)

rolled : (x : Expr-F Expr) → Quiet (expr_step (map-Expr Expr (List Act) acts_of x)) → IsQuiet (roll-Expr x)
rolled x h = subst Quiet (sym (fold-roll-Expr (List Act) expr_step x)) h

module _ {S : Type 0} (f : S → Expr) (h : (s : S) → IsQuiet (f s)) where
  quiet_layer : (y : Expr-F S) → Quiet (expr_step (map-Expr Expr (List Act) acts_of (map-Expr S Expr f y)))
  quiet_layer Expr-F.None = nothing
  quiet_layer Expr-F.True = nothing
  quiet_layer Expr-F.False = nothing
  quiet_layer (Expr-F.Int n) = nothing
  quiet_layer (Expr-F.Str text) = nothing
  quiet_layer (Expr-F.Name name) = used name
  quiet_layer (Expr-F.Unary op value) = h value
  quiet_layer (Expr-F.Binary op left right) = said (h left) (h right)
  quiet_layer (Expr-F.And items) = quiet_row _ _ _ h items
  quiet_layer (Expr-F.Or items) = quiet_row _ _ _ h items
  quiet_layer (Expr-F.Not value) = h value
  quiet_layer (Expr-F.Compare first rest) = said (h first) (quiet_row _ _ _ (λ pair. h pair.1) rest)
  quiet_layer (Expr-F.Cond test on off) = said (h on) (said (h test) (h off))
  quiet_layer (Expr-F.Tuple items) = quiet_row _ _ _ h items
  quiet_layer (Expr-F.List items) = quiet_row _ _ _ h items
  quiet_layer (Expr-F.Dict pairs) = quiet_row _ _ _ (λ pair. said (h pair.0) (h pair.1)) pairs
  quiet_layer (Expr-F.Attr object name) = h object
  quiet_layer (Expr-F.Index object index) = said (h object) (h index)
  quiet_layer (Expr-F.Call callee args keys) = said (h callee) (said (quiet_row _ _ _ h args) (quiet_row _ _ _ (λ key. h key.1) keys))

pub quiet : (e : Expr) → Quiet (acts_of e)
quiet = ind-Expr IsQuiet (λ x y is. subst (λ z. IsQuiet (roll-Expr z)) is (rolled _ (quiet_layer (λ s. s.0) (λ s. s.1) y)))

pub quiet_option : (e : Option Expr) → Quiet (acts_of_option e)
quiet_option None = nothing
quiet_option (Some e) = quiet e

-- ---- targets

abbrev IsNamed : Target → Type 0
IsNamed t = formed.target_formed t ≡ true → Says (target_acts t) (names_to (plain.plain_target t)) []

abbrev AreNamed : List Target → Type 0
AreNamed [] = Unit {0}
AreNamed (t ∷ ts) = IsNamed t × AreNamed ts

pub and_left : (a b : Bool) → (a && b) ≡ true → a ≡ true
and_left true b e = refl
and_left false b e = e

pub and_right : (a b : Bool) → (a && b) ≡ true → b ≡ true
and_right true b e = e
and_right false b e = cc

-- one or more, by the names of each
row_named : (t : Target) (ts : List Target) → IsNamed t → AreNamed ts → list_all formed.target_formed (t ∷ ts) ≡ true
    → Says (flat_map target_acts (t ∷ ts)) (names_to_each (plain.targets (plain.plain_target t) (map plain.plain_target ts))) []
row_named t [] h hs e = subst (λ acts. Says acts (names_to (plain.plain_target t)) []) (sym (append-nil (target_acts t))) (h (and_left _ _ e))
row_named t (u ∷ us) h hs e = said (h (and_left _ _ e)) (row_named u us hs.0 hs.1 (and_right _ _ e))

named_rolled : (x : Target-F Target) → (formed.target_step (map-Target Target Bool formed.target_formed x) ≡ true → Says (target_step (map-Target Target (List Act) target_acts x)) (names_to (plain.target_step (map-Target Target tree.Target plain.plain_target x))) [])
    → IsNamed (roll-Target x)
named_rolled x h e =
    subst (λ acts. Says acts (names_to (plain.plain_target (roll-Target x))) []) (sym (fold-roll-Target (List Act) target_step x))
    (subst (λ t. Says (target_step (map-Target Target (List Act) target_acts x)) (names_to t) []) (sym (fold-roll-Target tree.Target plain.target_step x))
    (h (sym (fold-roll-Target Bool formed.target_step x) ∙ e)))

module _ {S : Type 0} (f : S → Target) (h : (s : S) → IsNamed (f s)) where
  all_named : (ss : List S) → AreNamed (map f ss)
  all_named [] = tt
  all_named (s ∷ ss) = (h s, all_named ss)

  named_unpack : (ss : List S) → formed.target_step (Target-F.Unpack (map formed.target_formed (map f ss))) ≡ true
      → Says (flat_map (λ acts. acts) (map target_acts (map f ss))) (names_to (plain.from_targets (tree.ToName []) tree.ToEach (map plain.plain_target (map f ss)))) []
  named_unpack [] e = cc
  named_unpack (s ∷ ss) e =
      subst (λ acts. Says acts (names_to_each (plain.targets (plain.plain_target (f s)) (map plain.plain_target (map f ss)))) []) (sym (flat_map-map (λ acts. acts) target_acts (map f (s ∷ ss))))
      (row_named (f s) (map f ss) (h s) (all_named ss) (sym (list_all-map (λ b. b) formed.target_formed (map f (s ∷ ss))) ∙ e))

  named_layer : (y : Target-F S) → formed.target_step (map-Target Target Bool formed.target_formed (map-Target S Target f y)) ≡ true
      → Says (target_step (map-Target Target (List Act) target_acts (map-Target S Target f y))) (names_to (plain.target_step (map-Target Target tree.Target plain.plain_target (map-Target S Target f y)))) []
  named_layer (Target-F.Name name) e = bound_once name
  named_layer (Target-F.Attr object name) e = quiet object
  named_layer (Target-F.Index object index) e = said (quiet object) (quiet index)
  named_layer (Target-F.Unpack targets) e = named_unpack targets e

pub named : (t : Target) → formed.target_formed t ≡ true → Says (target_acts t) (names_to (plain.plain_target t)) []
named = ind-Target IsNamed (λ x y is. subst (λ z. IsNamed (roll-Target z)) is (named_rolled _ (named_layer (λ s. s.0) (λ s. s.1) y)))

are_named : (ts : List Target) → AreNamed ts
are_named [] = tt
are_named (t ∷ ts) = (named t, are_named ts)

-- the targets of one statement
pub named_each : (t : Target) (ts : List Target) → list_all formed.target_formed (t ∷ ts) ≡ true
    → Says (flat_map target_acts (t ∷ ts)) (names_to_each (plain.targets (plain.plain_target t) (map plain.plain_target ts))) []
named_each t ts e = row_named t ts (named t) (are_named ts) e

-- a target that isn't several
abbrev pub IsSingle : tree.Target → Type 0
IsSingle (tree.ToName name) = Unit {0}
IsSingle (tree.ToAttr object name) = Unit {0}
IsSingle (tree.ToIndex object index) = Unit {0}
IsSingle (tree.ToEach targets) = ⊥

abbrev StaysSingle : Target → Type 0
StaysSingle t = formed.is_single (out-Target t) ≡ true → IsSingle (plain.plain_target t)

single_rolled : (x : Target-F Target) → (formed.is_single x ≡ true → IsSingle (plain.target_step (map-Target Target tree.Target plain.plain_target x))) → StaysSingle (roll-Target x)
single_rolled x h e = subst IsSingle (sym (fold-roll-Target tree.Target plain.target_step x)) (h (ap formed.is_single (sym (out-roll-Target x)) ∙ e))

single_layer : {S : Type 0} (f : S → Target) (y : Target-F S) → formed.is_single (map-Target S Target f y) ≡ true → IsSingle (plain.target_step (map-Target Target tree.Target plain.plain_target (map-Target S Target f y)))
single_layer f (Target-F.Name name) e = tt
single_layer f (Target-F.Attr object name) e = tt
single_layer f (Target-F.Index object index) e = tt
single_layer f (Target-F.Unpack targets) e = cc

pub single : (t : Target) → formed.is_single (out-Target t) ≡ true → IsSingle (plain.plain_target t)
single = ind-Target StaysSingle (λ x y is. subst (λ z. StaysSingle (roll-Target z)) is (single_rolled _ (single_layer (λ s. s.0) y)))
