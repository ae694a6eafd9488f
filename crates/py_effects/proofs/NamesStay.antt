-- Every effect keeps what is registered, and so whatever follows from that.
use Rattle.std.proofs.Common.{◌≡◌, ℕ, List, [], ◌∷◌, ◌++◌, filter, Bool, true, false, not, Option, Some, None, Result, Ok, Err, cond, refl, sym, ap, ◌∙◌}
use Rattle.std.specs.Prelude.{bytes_eq}
use Rattle.std.proofs.lemmas.Slice.Eq.{bytes_eq-Decides}
use Rattle.py_primitives.specs.mpy_base.World.{FunctionObject, MethodObject, object}
use Rattle.py_primitives.specs.mpy_base.Val.{Val, At, Built, PlainWorld}
use Rattle.py_primitives.specs.Operators.{named_kind, exception_kind}
use Rattle.py_primitives.specs.Outcome.{Stop, making_fault}
use Rattle.py_primitives.specs.Uses.{attribute}
use Rattle.py_effects.specs.Effect.{Effect}
use Rattle.py_effects.specs.Names.{named_in}
use Rattle.py_effects.specs.Calling.{callee_object, callee_of}
use Rattle.py_effects.specs.Modules.{Made, registered, registered_as, make_module, making_module, forget_module, outer_name}
use Rattle.py_effects.specs.Growth.{IsRegistered, NamesKept, Keeps, Growth}
use Rattle.py_effects.proofs.HeapSteps.{Obj}
use Rattle.py_effects.proofs.ModuleGrows.{made_modules, raise_modules, deleted_modules, looked_modules, built_modules, under_modules}

pub names_on : (these : List ℕ → Type 0) (a b c : PlainWorld) → NamesKept these a b → NamesKept these b c → NamesKept these a c
names_on these a b c p q = record { kept = λ name o i. q.kept name o (p.kept name o i) }

-- the modules are the same
pub same_names : (these : List ℕ → Type 0) (a b : PlainWorld) → b.modules ≡ a.modules → NamesKept these a b
same_names these a b e = record { kept = λ name o i. record { number = i.number; is = ap (λ ms. registered_as ms name) e ∙ i.is } }

-- ---- a module more

more_by : (b : Bool) (k n : ℕ) (x y : Option ℕ) → (x ≡ Some n → y ≡ Some n) → cond b (Some k) x ≡ Some n → cond b (Some k) y ≡ Some n
more_by true k n x y h q = q
more_by false k n x y h q = h q

more_has : (ms : List (List ℕ × ℕ)) (m : List ℕ × ℕ) (name : List ℕ) (n : ℕ) → registered_as ms name ≡ Some n → registered_as (ms ++ m ∷ []) name ≡ Some n
more_has [] m name n e = absurd cc
more_has (a ∷ ms) m name n e = more_by (bytes_eq (a.0) name) (a.1) n (registered_as ms name) (registered_as (ms ++ m ∷ []) name) (more_has ms m name n) e

abbrev In : Option ℕ → Type 0
In o = (n : ℕ) × (o ≡ Some n)

in_by : (b : Bool) (k : ℕ) (x : Option ℕ) → In x → In (cond b (Some k) x)
in_by true k x i = (k, refl)
in_by false k x i = i

last_in : (ms : List (List ℕ × ℕ)) (name : List ℕ) (n : ℕ) → In (registered_as (ms ++ (name, n) ∷ []) name)
last_in [] name n = (n, ap (λ b. cond b (Some n) None) ((bytes_eq-Decides name name).1 refl))
last_in (a ∷ ms) name n = in_by (bytes_eq (a.0) name) (a.1) (registered_as (ms ++ (name, n) ∷ []) name) (last_in ms name n)

made_by : (these : List ℕ → Type 0) (w : PlainWorld) (name : List ℕ) (e : Effect Made) (r : Result Made Stop) → e.world.modules ≡ w.modules
    → NamesKept these w (Effect.world (elim r [ Ok m ↦ record { answer = Ok m; world = registered e.world name m; visits = 0 } | Err stop ↦ e ]))
made_by these w name e (Ok m) same = record { kept = λ other o i. record { number = i.number; is = more_has e.world.modules (name, m.number) other i.number (ap (λ ms. registered_as ms other) same ∙ i.is) } }
made_by these w name e (Err stop) same = same_names these w e.world same

pub made_names : (these : List ℕ → Type 0) (w : PlainWorld) (name : List ℕ) → NamesKept these w (make_module w name).world
made_names these w name = made_by these w name (making_module w name) (making_module w name).answer refl

made_in : (w : PlainWorld) (name : List ℕ) (e : Effect Made) (r : Result Made Stop) (m : Made) → e.answer ≡ r
    → Effect.answer (elim r [ Ok m ↦ record { answer = Ok m; world = registered e.world name m; visits = 0 } | Err stop ↦ e ]) ≡ Ok m
    → IsRegistered name (Effect.world (elim r [ Ok m ↦ record { answer = Ok m; world = registered e.world name m; visits = 0 } | Err stop ↦ e ]))
made_in w name e (Ok k) m is q = let x = last_in e.world.modules name k.number in record { number = x.0; is = x.1 }
made_in w name e (Err stop) m is q = let same : Err stop ≡ Ok m = sym is ∙ q in absurd cc

-- a module that is made is registered
pub made_registered : (w : PlainWorld) (name : List ℕ) (m : Made) → (make_module w name).answer ≡ Ok m → IsRegistered name (make_module w name).world
made_registered w name m e = made_in w name (making_module w name) (making_module w name).answer m refl e

-- ---- a module less: only one of its name

-- the first one goes or stays, by whether it is the one that is forgotten, and whether it is the one that is looked for
less_by : (b c : Bool) (m : List ℕ × ℕ) (name : List ℕ) (n : ℕ) (x : Option ℕ) (rest : List (List ℕ × ℕ)) → (b ≡ true → c ≡ true → ⊥) → bytes_eq (m.0) name ≡ c → (x ≡ Some n → registered_as rest name ≡ Some n)
    → cond c (Some (m.1)) x ≡ Some n → registered_as (cond (not b) (m ∷ rest) rest) name ≡ Some n
less_by true true m name n x rest ne q h e = absurd (ne refl refl)
less_by true false m name n x rest ne q h e = h e
less_by false true m name n x rest ne q h e = ap (λ c. cond c (Some (m.1)) (registered_as rest name)) q ∙ e
less_by false false m name n x rest ne q h e = ap (λ c. cond c (Some (m.1)) (registered_as rest name)) q ∙ h e

less_has : (ms : List (List ℕ × ℕ)) (gone name : List ℕ) (n : ℕ) → (gone ≡ name → ⊥) → registered_as ms name ≡ Some n → registered_as (filter (λ m. not (bytes_eq (m.0) gone)) ms) name ≡ Some n
less_has [] gone name n ne e = e
less_has (m ∷ ms) gone name n ne e =
    less_by (bytes_eq (m.0) gone) (bytes_eq (m.0) name) m name n (registered_as ms name) (filter (λ m. not (bytes_eq (m.0) gone)) ms)
    (λ p q. ne (sym ((bytes_eq-Decides (m.0) gone).0 p) ∙ (bytes_eq-Decides (m.0) name).0 q)) refl (less_has ms gone name n ne) e

-- what is registered under another name still is
pub forgotten_other : (w : PlainWorld) (gone name : List ℕ) → (gone ≡ name → ⊥) → IsRegistered name w → IsRegistered name (forget_module w gone)
forgotten_other w gone name ne i = record { number = i.number; is = less_has w.modules gone name i.number ne i.is }

pub forgotten_names : (these : List ℕ → Type 0) (w w1 : PlainWorld) (name : List ℕ) → registered_as w.modules name ≡ None → NamesKept these w w1 → NamesKept these w (forget_module w1 name)
forgotten_names these w w1 name none p = record {
  kept = λ other o i.
      let differs : name ≡ other → ⊥ = λ q. let same : None ≡ Some i.number = sym none ∙ ap (registered_as w.modules) q ∙ i.is in absurd cc in
      forgotten_other w1 name other differs (p.kept other o i);
}

-- ---- all effects

module _ (these : List ℕ → Type 0) (P : PlainWorld → Type 0) (stays : (a b : PlainWorld) → NamesKept these a b → P a → P b) where
  callee_by : (w : PlainWorld) (n : ℕ) (o : Obj) → P w → Keeps (NamesKept these) (λ n w. P w) w (callee_object w (At n) o)
  callee_by w n (Some (FunctionObject name module_name code names defaults)) p = p
  callee_by w n (Some (MethodObject obj m)) p = λ args keys. same_names these w _ refl
  callee_by w n _ p = λ args keys. same_names these w _ refl

  pub callee_names : (w : PlainWorld) (v : Val) → P w → Keeps (NamesKept these) (λ n w. P w) w (callee_of w v)
  callee_names w (At n) p = callee_by w n (object w.heap.objects n) p
  callee_names w (Built b) p = λ args keys. same_names these w _ (built_modules w b args keys)
  callee_names w v p = λ args keys. same_names these w _ refl

  -- what is registered stays so, where something holds that this keeps
  abbrev pub registrations : Growth
  registrations = record {
    rel = NamesKept these;
    sound = P;
    fits = λ n w. P w;
    fits_sound = λ n w p. p;
    same = λ w. same_names these w w refl;
    on = names_on these;
    stays = λ n a b r p. stays a b r p;
    fault = λ place w f. same_names these w _ (made_modules place w (making_fault w.heap f));
    raise = λ place w v. same_names these w _ (raise_modules place w v (named_kind v) (exception_kind w.heap v));
    store = λ n w name v p. same_names these w _ refl;
    delete = λ n w name p. same_names these w _ (deleted_modules w n name (named_in w n name));
    method = λ w v name. same_names these w _ (looked_modules w v name (attribute w.heap v name));
    from = λ w v name. same_names these w _ refl;
    callee = λ n w v p. callee_names w v p;
    method_call = λ w m o args keys. same_names these w _ refl;
    function = λ n w name module_name code d p. same_names these w _ refl;
    made = made_names these;
    made_fits = λ w name m p e. stays w (make_module w name).world (made_names these w name) p;
    store_made = λ w name m. same_names these w _ (under_modules w name m (outer_name name));
    forget = forgotten_names these;
    op_binary = λ w op u v. same_names these w _ refl;
    op_in_place = λ w op u v. same_names these w _ refl;
    tuples = λ w vs. same_names these w _ refl;
    lists = λ w vs. same_names these w _ refl;
    dicts = λ w room. same_names these w _ refl;
    get = λ w o i. same_names these w _ refl;
    set = λ w o i v. same_names these w _ refl;
    remove = λ w o i. same_names these w _ refl;
    get_attribute = λ w o name. same_names these w _ refl;
    set_attribute = λ w o name v. same_names these w _ refl;
    unpacks = λ w n v. same_names these w _ refl;
    item = λ w v at. same_names these w _ refl;
  }
