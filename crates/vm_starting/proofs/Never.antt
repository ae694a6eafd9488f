-- The making of a module raises nothing.
use Rattle.std.proofs.Common.{◌≡◌, ℕ, List, [], length, Bool, true, false, cond, None, Result, Ok, Err, refl, ap}
use Rattle.std.specs.Prelude.{codes}
use Rattle.mpy_base.specs.World.{Object, ModuleObject, DictObject, with_names, pairs_at}
use Rattle.mpy_base.specs.Weights.{used, does_fit, cells_of, bytes_of, with_made, dict_growth, with_pairs}
use Rattle.mpy_base.specs.Val.{Val, Nil, Str, At, PlainWorld}
use Rattle.bc_progress.specs.py_effects.py_values.Shown.{PlainHeap}
use Rattle.bc_progress.specs.py_effects.py_values.Keys.{with_key}
use Rattle.bc_progress.specs.py_effects.py_primitives.Faults.{Fault}
use Rattle.bc_progress.specs.py_effects.py_primitives.Outcome as primitives
use Rattle.bc_progress.specs.py_effects.py_primitives.Outcome.{Outcome, Raises, gives, is_full, making, followed_by, go_on_with}
use Rattle.bc_progress.specs.py_effects.py_primitives.Uses.{put_pair}
use Rattle.bc_progress.specs.py_effects.Effect.{Effect, number_of}
use Rattle.bc_progress.specs.py_effects.Modules as plain
use Rattle.bc_progress.specs.py_effects.Modules.{make_module, making_module, on_made}

abbrev Never : {A : Type 0} → Outcome A → Type 0
Never o = (fault : Fault) → o.answer ≡ Err (Raises fault) → ⊥

never_either : {A : Type 0} (b : Bool) (x y : Outcome A) → Never x → Never y → Never (cond b x y)
never_either true x y n m = n
never_either false x y n m = m

never_gives : {A : Type 0} (a : A) (heap : PlainHeap) → Never (gives a heap)
never_gives a heap fault e = cc

never_full : {A : Type 0} (heap : PlainHeap) (cells bytes : ℕ) → Never (is_full {A = A} heap cells bytes)
never_full heap cells bytes fault e = cc

never_on : {A B : Type 0} (answer : Result A primitives.Stop) (heap : PlainHeap) (visits : ℕ) (next : A → PlainHeap → Outcome B)
    → ((fault : Fault) → answer ≡ Err (Raises fault) → ⊥) → ((a : A) (h : PlainHeap) → Never (next a h)) → Never (go_on_with answer heap visits next)
never_on (Ok a) heap visits next first n fault e = n a heap fault e
never_on {A = A} (Err stop) heap visits next first n fault e =
    let same : stop ≡ Raises fault = cc in first fault (ap (λ (s : primitives.Stop). let r : Result A primitives.Stop = Err s in r) same)

never_making : (heap : PlainHeap) (o : Object Val (List ℕ)) → Never (making heap o)
never_making heap o =
    never_either (does_fit heap (cells_of o) (bytes_of o)) (gives (At (used heap)) (with_made heap o)) (is_full heap (cells_of o) (bytes_of o))
    (never_gives (At (used heap)) (with_made heap o)) (never_full heap (cells_of o) (bytes_of o))

never_put : (heap : PlainHeap) (d : ℕ) (key v : Val) → Never (put_pair heap d key v)
never_put heap d key v =
    let pairs : List (Val × Val) = with_key heap (pairs_at heap d) key v in
    never_either (does_fit heap (dict_growth heap d (length pairs)) 0) (gives Nil (with_pairs heap d pairs)) (is_full heap (dict_growth heap d (length pairs)) 0)
    (never_gives Nil (with_pairs heap d pairs)) (never_full heap (dict_growth heap d (length pairs)) 0)

never_titled : (name : List ℕ) (m names : Val) (last : PlainHeap)
    → Never (followed_by (put_pair (with_names last (number_of m) (number_of names)) (number_of names) (Str (codes "__name__")) (Str name)) (λ stored end.
    gives (let made : plain.Made = record { number = number_of m; names = number_of names } in made) end))
never_titled name m names last =
    let put = put_pair (with_names last (number_of m) (number_of names)) (number_of names) (Str (codes "__name__")) (Str name) in
    never_on put.answer put.heap put.visits (λ stored end. gives (let made : plain.Made = record { number = number_of m; names = number_of names } in made) end)
    (never_put (with_names last (number_of m) (number_of names)) (number_of names) (Str (codes "__name__")) (Str name)) (λ a h. never_gives _ h)

making_never : (w : PlainWorld) (name : List ℕ) (fault : Fault) → (making_module w name).answer ≡ Err (Raises fault) → ⊥
making_never w name =
    let one = making w.heap (ModuleObject name None) in
    never_on one.answer one.heap one.visits _ (never_making w.heap (ModuleObject name None)) (λ m behind.
    let two = making behind (DictObject [] 4) in
    never_on two.answer two.heap two.visits _ (never_making behind (DictObject [] 4)) (λ names last. never_titled name m names last))

registered_never : (w : PlainWorld) (name : List ℕ) (effect : Effect plain.Made) (answer : Result plain.Made primitives.Stop) (fault : Fault) → effect.answer ≡ answer
    → (effect.answer ≡ Err (Raises fault) → ⊥) → (let after : Effect plain.Made = elim answer [ Ok made ↦ record { answer = Ok made; world = plain.registered effect.world name made; visits = 0 } | Err stop ↦ effect ] in after.answer) ≡ Err (Raises fault) → ⊥
registered_never w name effect (Ok made) fault is never e = cc
registered_never w name effect (Err stop) fault is never e = never e

pub make_never : (w : PlainWorld) (name : List ℕ) (fault : Fault) → (make_module w name).answer ≡ Err (Raises fault) → ⊥
make_never w name fault e = registered_never w name (making_module w name) (making_module w name).answer fault refl (making_never w name fault) e
