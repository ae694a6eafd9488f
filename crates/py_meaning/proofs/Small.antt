-- Statements of one line fit their events.
use Rattle.std.proofs.Common.{◌≡◌, ℕ, ◌+◌, Bool, true, false, not, ◌&&◌, ◌||◌, List, [], ◌∷◌, ◌++◌, map, Option, Some, None, refl, sym, ap, subst, ◌∙◌, arith}
use Rattle.std.specs.List.{list_all, list_any, filter, flat_map}
use Rattle.std.specs.Str.{bytes_eq}
use Rattle.std.proofs.lemmas.Slice.Eq.{bytes_eq-Decides}
use Rattle.py_scopes.specs.Names.{firsts}
use Rattle.std.proofs.lemmas.List.{append-nil}
use Rattle.py_scopes.specs.py_tree.declared.expr.BinaryOp.{BinaryOp}
use Rattle.py_scopes.specs.py_tree.declared.expr.Expr.{Expr}
use Rattle.py_scopes.specs.py_tree.declared.stmt.Alias.{Alias}
use Rattle.py_scopes.specs.py_tree.declared.stmt.Param.{Param}
use Rattle.py_scopes.specs.py_tree.declared.stmt.Target.{Target, out-Target}
use Rattle.py_scopes.specs.py_tree.declared.stmt.StmtKind.TheOpen.{StmtKind-F}
use Rattle.py_scopes.specs.py_tree.Formed as formed
use Rattle.py_scopes.proofs.py_tree_lemmas.Formed.{both}
use Rattle.py_scopes.specs.declared.event.Act.{Act}
use Rattle.py_scopes.specs.declared.event.Act.TheVariants.{Declare, Jump, Return}
use Rattle.py_scopes.specs.Events as events
use Rattle.py_meaning.specs.Tree as tree
use Rattle.py_meaning.specs.Tree.{Name, Function}
use Rattle.py_meaning.specs.Plain as plain
use Rattle.py_meaning.specs.Locals.{names_to}
use Rattle.py_meaning.specs.Globals.{none}
use Rattle.py_meaning.proofs.Acts.{Says, Quiet, nothing, said, bound_once, declared_once, quiet, quiet_option, named_each, IsSingle, and_left, and_right}
use Rattle.py_meaning.proofs.Fits.{Fits, FitsStmt, Nothing, acts_fit, with_words, param_names}
use Rattle.py_meaning.proofs.Parts.{KindFits}

-- ---- small statements

pub quiet_fits : (n line : ℕ) (acts : List Act) → Quiet acts → Fits n (n + 0) (events.at line acts) [] [] [] Nothing none
quiet_fits n line acts q = acts_fit n (n + 0) line acts [] [] (omega arith) q

pub named_fits : (n line : ℕ) (acts : List Act) (bound : List Name) → Says acts bound [] → Fits n (n + 0) (events.at line acts) bound [] [] Nothing none
named_fits n line acts bound q = acts_fit n (n + 0) line acts bound [] (omega arith) q

-- quiet acts behind others
pub behind : {first second : List Act} {bound : List Name} → Says first bound [] → Quiet second → Says (first ++ second) bound []
behind {first = first} {second = second} {bound = bound} a q = subst (λ names. Says (first ++ second) names []) (append-nil bound) (said a q)

pub assign_fits : (ts : List Target) (value : Expr) → formed.kind_step (StmtKind-F.Assign ts value) ≡ true → KindFits (plain.kind_step (StmtKind-F.Assign ts value)) (events.kind_step (StmtKind-F.Assign ts value)) none
assign_fits [] value e n line looped = cc
assign_fits (t ∷ ts) value e n line looped = named_fits n line _ _ (behind (named_each t ts (and_left _ _ e)) (quiet value))

pub is_gone_each : (ts : List Target) → list_all (λ target. formed.is_gone (out-Target target) && formed.target_formed target) ts ≡ true → list_all formed.target_formed ts ≡ true
is_gone_each [] e = refl
is_gone_each (t ∷ ts) e =
    both (formed.target_formed t) (list_all formed.target_formed ts) (and_right (formed.is_gone (out-Target t)) (formed.target_formed t) (and_left _ _ e)) (is_gone_each ts (and_right _ _ e))

pub delete_fits : (ts : List Target) → formed.kind_step (StmtKind-F.Del ts) ≡ true → KindFits (plain.kind_step (StmtKind-F.Del ts)) (events.kind_step (StmtKind-F.Del ts)) none
delete_fits [] e n line looped = cc
delete_fits (t ∷ ts) e n line looped = named_fits n line _ _ (named_each t ts (is_gone_each (t ∷ ts) e))

pub augmented_fits : (t : tree.Target) (how : BinaryOp) (value : tree.Expr) (n line : ℕ) (looped : Bool) (acts : List Act) → IsSingle t → Says acts (names_to t) [] → FitsStmt n (n + 0) looped (events.at line acts) (plain.augmented t how value) none
augmented_fits (tree.ToName name) how value n line looped acts h s = named_fits n line acts _ s
augmented_fits (tree.ToAttr object name) how value n line looped acts h s = named_fits n line acts _ s
augmented_fits (tree.ToIndex object index) how value n line looped acts h s = named_fits n line acts _ s
augmented_fits (tree.ToEach ts) how value n line looped acts h s = absurd h

pub jump_fits : (n line : ℕ) (looped : Bool) → Fits n (n + 0) (events.at line (Jump looped ∷ [])) [] [] [] (λ inside. looped ≡ true) none
jump_fits n line looped = with_words (quiet_fits n line (Jump looped ∷ []) (record { stays = (tt, tt); binds = refl; declares = refl })) (λ m around right. right.0)

pub return_fits : (n line : ℕ) (value : Option Expr) (looped : Bool) → FitsStmt n (n + 0) looped (events.at line (Return ∷ events.acts_of_option value)) (plain.on_option tree.ReturnNone tree.Return value) none
return_fits n line None looped = with_words (quiet_fits n line (Return ∷ []) (record { stays = (tt, tt); binds = refl; declares = refl })) (λ m around right. right.0)
return_fits n line (Some value) looped =
    with_words (quiet_fits n line (Return ∷ events.acts_of value) (said {first = Return ∷ []} (record { stays = (tt, tt); binds = refl; declares = refl }) (quiet value))) (λ m around right. right.0)

pub raise_fits : (n line : ℕ) (value : Option Expr) (looped : Bool) → FitsStmt n (n + 0) looped (events.at line (events.acts_of_option value)) (plain.on_option tree.Reraise tree.Raise value) none
raise_fits n line None looped = quiet_fits n line [] nothing
raise_fits n line (Some value) looped = quiet_fits n line _ (quiet value)

pub assert_fits : (n line : ℕ) (test : Expr) (message : Option Expr) (looped : Bool)
    → FitsStmt n (n + 0) looped (events.at line (events.acts_of test ++ events.acts_of_option message)) (plain.on_option (tree.Assert (plain.plain_expr test)) (tree.AssertWith (plain.plain_expr test)) message) none
assert_fits n line test None looped = quiet_fits n line _ (said (quiet test) nothing)
assert_fits n line test (Some message) looped = quiet_fits n line _ (said (quiet test) (quiet message))

pub imports_say : (names : List Alias) → Says (events.import_acts names) (map events.bound_by names) []
imports_say [] = nothing
imports_say (alias ∷ names) = said (bound_once (events.bound_by alias)) (imports_say names)

pub declarations_say : (names : List Name) → Says (map Declare names) [] names
declarations_say [] = nothing
declarations_say (name ∷ names) = said (declared_once name) (declarations_say names)

pub defaults_quiet : (params : List Param) → Quiet (flat_map (λ (param : Param). events.acts_of_option param.default) params)
defaults_quiet [] = nothing
defaults_quiet (param ∷ params) = said (quiet_option param.default) (defaults_quiet params)

-- ---- parameters

or_left : (a b : Bool) → (a || b) ≡ false → a ≡ false
or_left false b e = refl
or_left true b e = e

or_right : (a b : Bool) → (a || b) ≡ false → b ≡ false
or_right false b e = e
or_right true b e = cc

not_false : (b : Bool) → not b ≡ true → b ≡ false
not_false true e = cc
not_false false e = refl

kept_first : (p : Name → Bool) (name : Name) (names : List Name) → p name ≡ true → filter p (name ∷ names) ≡ name ∷ filter p names
kept_first p name names e = rw e

one_out : (name : Name) (q : Param) (params : List Param) → bytes_eq q.name name ≡ false → filter (λ other. not (bytes_eq name other)) (param_names params) ≡ param_names params → (b : Bool) → bytes_eq name q.name ≡ b
    → filter (λ other. not (bytes_eq name other)) (param_names (q ∷ params)) ≡ param_names (q ∷ params)
one_out name q params other rest true is = let same = (bytes_eq-Decides q.name name).1 (sym ((bytes_eq-Decides name q.name).0 is)) in absurd cc
one_out name q params other rest false is = kept_first _ q.name (param_names params) (ap not is) ∙ ap (λ (names : List Name). q.name ∷ names) rest

-- a name that none of others is stays when it's taken out of them
none_out : (name : Name) (params : List Param) → list_any (λ (q : Param). bytes_eq q.name name) params ≡ false → filter (λ other. not (bytes_eq name other)) (param_names params) ≡ param_names params
none_out name [] e = refl
none_out name (q ∷ params) e = one_out name q params (or_left (bytes_eq q.name name) _ e) (none_out name params (or_right (bytes_eq q.name name) _ e)) (bytes_eq name q.name) refl

pub params_differ : (params : List Param) → formed.names_differ params ≡ true → firsts (param_names params) ≡ param_names params
params_differ [] e = refl
params_differ (p ∷ params) e =
    ap (λ (names : List Name). p.name ∷ filter (λ other. not (bytes_eq p.name other)) names) (params_differ params (and_right _ _ e))
    ∙ ap (λ (names : List Name). p.name ∷ names) (none_out p.name params (not_false (list_any (λ q. bytes_eq q.name p.name) params) (and_left _ _ e)))
