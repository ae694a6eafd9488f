-- The acts of an expression, by those of its parts.
use Rattle.std.proofs.Common.{◌≡◌, ℕ, List, ◌++◌, map, sym, ap, ◌∙◌}
use Rattle.std.specs.List.{flat_map}
use Rattle.std.proofs.lemmas.List.Folds.{flat_map-map}
use Rattle.py_tree.specs.declared.expr.CompareOp.{CompareOp}
use Rattle.py_tree.specs.declared.expr.Expr.{Expr}
use Rattle.py_tree.specs.declared.expr.Expr.TheOpen.{Expr-F}
use Rattle.py_tree.specs.declared.expr.Expr.TheVariants as ex
use Rattle.py_tree.specs.declared.expr.Expr.TheFolds.{fold-roll-Expr}
use Rattle.py_tree.specs.declared.stmt.Target.{Target}
use Rattle.py_tree.specs.declared.stmt.Target.TheOpen.{Target-F}
use Rattle.py_tree.specs.declared.stmt.Target.TheVariants as aim
use Rattle.py_tree.specs.declared.stmt.Target.TheFolds.{fold-roll-Target}
use Rattle.py_scopes.specs.declared.event.Act.{Act}
use Rattle.py_scopes.specs.Events.{expr_step, acts_of, target_step, target_acts}

pub acts_And : (items : List Expr) → acts_of (ex.And items) ≡ flat_map acts_of items
acts_And items = ap acts_of (sym (ex.rolls-And items)) ∙ (fold-roll-Expr (List Act) expr_step (Expr-F.And items) ∙ flat_map-map (λ x. x) acts_of items)

pub acts_Or : (items : List Expr) → acts_of (ex.Or items) ≡ flat_map acts_of items
acts_Or items = ap acts_of (sym (ex.rolls-Or items)) ∙ (fold-roll-Expr (List Act) expr_step (Expr-F.Or items) ∙ flat_map-map (λ x. x) acts_of items)

pub acts_Tuple : (items : List Expr) → acts_of (ex.Tuple items) ≡ flat_map acts_of items
acts_Tuple items = ap acts_of (sym (ex.rolls-Tuple items)) ∙ (fold-roll-Expr (List Act) expr_step (Expr-F.Tuple items) ∙ flat_map-map (λ x. x) acts_of items)

pub acts_List : (items : List Expr) → acts_of (ex.List items) ≡ flat_map acts_of items
acts_List items = ap acts_of (sym (ex.rolls-List items)) ∙ (fold-roll-Expr (List Act) expr_step (Expr-F.List items) ∙ flat_map-map (λ x. x) acts_of items)

pub acts_Dict : (pairs : List (Expr × Expr)) → acts_of (ex.Dict pairs) ≡ flat_map (λ (pair : Expr × Expr). acts_of pair.0 ++ acts_of pair.1) pairs
acts_Dict pairs =
    ap acts_of (sym (ex.rolls-Dict pairs)) ∙ (fold-roll-Expr (List Act) expr_step (Expr-F.Dict pairs)
    ∙ flat_map-map (λ (pair : List Act × List Act). pair.0 ++ pair.1) (λ (pair : Expr × Expr). (acts_of pair.0, acts_of pair.1)) pairs)

pub acts_Compare : (first : Expr) (rest : List (CompareOp × Expr)) → acts_of (ex.Compare first rest) ≡ acts_of first ++ flat_map (λ (pair : CompareOp × Expr). acts_of pair.1) rest
acts_Compare first rest =
    ap acts_of (sym (ex.rolls-Compare first rest)) ∙ (fold-roll-Expr (List Act) expr_step (Expr-F.Compare first rest)
    ∙ ap (λ (acts : List Act). acts_of first ++ acts) (flat_map-map (λ (pair : CompareOp × List Act). pair.1) (λ (pair : CompareOp × Expr). (pair.0, acts_of pair.1)) rest))

pub acts_Call : (callee : Expr) (args : List Expr) (keys : List (List ℕ × Expr)) → acts_of (ex.Call callee args keys) ≡ acts_of callee ++ (flat_map acts_of args ++ flat_map (λ (key : List ℕ × Expr). acts_of key.1) keys)
acts_Call callee args keys =
    ap acts_of (sym (ex.rolls-Call callee args keys)) ∙ (fold-roll-Expr (List Act) expr_step (Expr-F.Call callee args keys)
    ∙ ap (λ (acts : List Act). acts_of callee ++ acts) (
    ap (λ (acts : List Act). acts ++ flat_map (λ (key : List ℕ × List Act). key.1) (map (λ (key : List ℕ × Expr). (key.0, acts_of key.1)) keys)) (flat_map-map (λ x. x) acts_of args)
    ∙ ap (λ (acts : List Act). flat_map acts_of args ++ acts) (flat_map-map (λ (key : List ℕ × List Act). key.1) (λ (key : List ℕ × Expr). (key.0, acts_of key.1)) keys)))

pub acts_Unpack : (targets : List Target) → target_acts (aim.Unpack targets) ≡ flat_map target_acts targets
acts_Unpack targets = ap target_acts (sym (aim.rolls-Unpack targets)) ∙ (fold-roll-Target (List Act) target_step (Target-F.Unpack targets) ∙ flat_map-map (λ x. x) target_acts targets)
