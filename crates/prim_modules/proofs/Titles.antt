-- Modules that are made, and get their namespace and their own name in it.
use Rattle.std.proofs.Common.{◌≡◌, ℕ, List, [], ◌∷◌, map, set, Option, Some, None, Result, Ok, Err, refl, sym, ap, ◌∙◌, subst, inl, inr, zero-add, get_or-set_same, get_or-set_other}
use Rattle.std.specs.Prelude.{All, codes}
use Rattle.std.proofs.lemmas.Bool.{cases_eq}
use Rattle.std.proofs.lemmas.List.{map-set, map-append}
use Rattle.std.proofs.lemmas.List.Elements.{All-nil, All-cons}
use Rattle.prim_assignments.specs.arena_heap.declared.value.Value.{Value}
use Rattle.prim_assignments.specs.arena_heap.declared.value.Value.TheVariants as values
use Rattle.prim_assignments.specs.arena_heap.declared.value.StrNo.{StrNo}
use Rattle.prim_assignments.specs.arena_heap.declared.value.ConstNo.{ConstNo}
use Rattle.mpy_base.specs.World.{Object, ListObject, TupleObject, TextObject, DictObject, FunctionObject, ExceptionObject, MethodObject, RangeObject, ModuleObject, Heap, AModule, IsA, Later, object, kind_of, named, with_names}
use Rattle.mpy_base.specs.Val.{Val, Str, PlainWorld}
use Rattle.mpy_base.proofs.Worlds.{is_within, later_later}
use Rattle.prim_assignments.specs.arena_heap.Values.{ArenaObject, held}
use Rattle.prim_assignments.specs.arena_heap.Constants.{IsTold}
use Rattle.prim_assignments.specs.arena_objects.Keys.{AllTold}
use Rattle.py_effects.specs.py_values.Shown.{PlainHeap}
use Rattle.py_effects.specs.py_primitives.Outcome as primitives
use Rattle.py_effects.specs.py_primitives.Outcome.{Outcome, gives, making, with_visits, go_on_with, followed_by}
use Rattle.py_effects.specs.py_primitives.Uses.{put_pair}
use Rattle.py_effects.specs.Effect.{Effect, on_heap, number_of}
use Rattle.py_effects.specs.Modules as plain
use Rattle.py_effects.specs.Modules.{on_made, registered}
use Rattle.prim_assignments.specs.prim_walks.Plain.{plain as plain_value, plain_name, plain_object, plain_heap}
use Rattle.prim_assignments.proofs.prim_walks_lemmas.PlainValues.{object_plain}
use Rattle.prim_assignments.specs.prim_faults.declared.stop.Stop.{Stop}
use Rattle.prim_assignments.specs.prim_faults.Outcomes.{plain_stop, plain_answer, IsOutcome}
use Rattle.prim_modules.specs.declared.makings.Made.{Made}
use Rattle.prim_modules.specs.Registry.{Registry, plain_entry, plain_modules, with_entry}
use Rattle.prim_assignments.specs.prim_faults.Sights.{world_over}
use Rattle.prim_modules.specs.Effects.{world_with, made_answer, IsMade, IsMaking}

-- the namespace of a module
-- =========================

pub named_module : {V N : Type 0} (o : Option (Object V N)) (names : ℕ) → kind_of o ≡ Some AModule → (title : N) × (named o names ≡ Some (ModuleObject title (Some names)))
named_module (Some (ModuleObject title old)) names is = (title, refl)
named_module _ names is = absurd cc

held_named : (P : Value → Type 0) (o : Option ArenaObject) (names : ℕ) → P (values.Dict (record { cell = names })) → All P (held o) → All P (held (named o names))
held_named P None names p all = all
held_named P (Some (ListObject items room)) names p all = all
held_named P (Some (TupleObject items)) names p all = all
held_named P (Some (TextObject bytes)) names p all = all
held_named P (Some (DictObject pairs room)) names p all = all
held_named P (Some (FunctionObject name module_name code dict defaults)) names p all = all
held_named P (Some (ExceptionObject kind args file line name)) names p all = all
held_named P (Some (MethodObject v method)) names p all = all
held_named P (Some (RangeObject start stop step)) names p all = all
held_named P (Some (ModuleObject title old)) names p all = All-cons P (values.Dict (record { cell = names })) [] p (All-nil P)

-- the module with its namespace
pub named_here : (h : Heap Value ℕ) (n names : ℕ) → IsA h.objects AModule n → (title : ℕ) × (object (with_names h n names).objects n ≡ Some (ModuleObject title (Some names)))
named_here h n names is =
    let m = named_module (object h.objects n) names is in
    (m.0, get_or-set_same h.objects n (named (object h.objects n) names) None (is_within h.objects AModule n is) ∙ m.1)

module _ (texts : StrNo → Option (List ℕ)) (tuples : ConstNo → Option (List Value)) where
  pub told_named : (h : Heap Value ℕ) (n names : ℕ) → IsA h.objects AModule n → AllTold texts tuples h.objects → AllTold texts tuples (with_names h n names).objects
  told_named h n names is all =
      let o : Option ArenaObject = named (object h.objects n) names in
      let here : object (set h.objects n o) n ≡ o = get_or-set_same h.objects n o None (is_within h.objects AModule n is) in
      record {
        told = λ m. elim (cases_eq m n) [
          | inl q ↦ subst (λ (x : Option ArenaObject). All (IsTold texts tuples) (held x)) (sym (subst (λ (j : ℕ). object (set h.objects n o) j ≡ o) (sym q) here))
              (held_named (IsTold texts tuples) (object h.objects n) names tt (all.told n))
          | inr apart ↦ subst (λ (x : Option ArenaObject). All (IsTold texts tuples) (held x)) (sym (get_or-set_other h.objects n m o None apart)) (all.told m)
        ];
      }

  named_plain : (o : Option ArenaObject) (names : ℕ) → plain_object texts tuples (named o names) ≡ named (plain_object texts tuples o) names
  named_plain None names = refl
  named_plain (Some (ListObject items room)) names = refl
  named_plain (Some (TupleObject items)) names = refl
  named_plain (Some (TextObject bytes)) names = refl
  named_plain (Some (DictObject pairs room)) names = refl
  named_plain (Some (FunctionObject name module_name code dict defaults)) names = refl
  named_plain (Some (ExceptionObject kind args file line name)) names = refl
  named_plain (Some (MethodObject v method)) names = refl
  named_plain (Some (RangeObject start stop step)) names = refl
  named_plain (Some (ModuleObject title old)) names = refl

  pub names_plain : (h : Heap Value ℕ) (n names : ℕ) → plain_heap texts tuples (with_names h n names) ≡ with_names (plain_heap texts tuples h) n names
  names_plain h n names =
      let as_plain : List (Option ArenaObject) → List (Option (Object Val (List ℕ))) = map (plain_object texts tuples) in
      ap (λ (os : List (Option (Object Val (List ℕ)))). record (plain_heap texts tuples h) { objects = os })
      (map-set (plain_object texts tuples) h.objects n (named (object h.objects n) names)
      ∙ (ap (λ (o : Option (Object Val (List ℕ))). set (as_plain h.objects) n o) (named_plain (object h.objects n) names)
      ∙ ap (λ (o : Option (Object Val (List ℕ))). set (as_plain h.objects) n (named o names)) (sym (object_plain texts tuples h.objects n))))

  -- the same outcome, from an earlier heap on
  pub from_before : (old mid new : Heap Value ℕ) (result : Result Value Stop) (a b : Outcome Val) → Later old.objects mid.objects → IsOutcome texts tuples mid new result a → a ≡ b → IsOutcome texts tuples old new result b
  from_before old mid new result a b later is same = record {
    answer = is.answer ∙ ap (λ (o : Outcome Val). o.answer) same;
    heap = is.heap ∙ ap (λ (o : Outcome Val). o.heap) same;
    known = is.known;
    later = later_later later is.later;
    all_told = is.all_told;
  }

  -- makings one after another
  -- =========================

  pub record MadeAs (new : Heap Value ℕ) (result : Result Made Stop) (outcome : Outcome plain.Made) : Type 0 where
    pub answer : made_answer texts tuples new result ≡ outcome.answer
    pub heap : plain_heap texts tuples new ≡ outcome.heap
    pub visits : outcome.visits ≡ 0

  module _ (new : Heap Value ℕ) (first : Outcome Val) (free : first.visits ≡ 0) (next : Val → PlainHeap → Outcome plain.Made) where
    pub stops_here : (stop : Stop) → plain_answer texts tuples new (Err stop) ≡ first.answer → plain_heap texts tuples new ≡ first.heap → MadeAs new (Err stop) (followed_by first next)
    stops_here stop answer heap =
        let is : followed_by first next ≡ record { answer = Err (plain_stop texts tuples new stop); heap = first.heap; visits = first.visits } =
        ap (λ (r : Result Val primitives.Stop). go_on_with r first.heap first.visits next) (sym answer) in
        record {
          answer = sym (ap (λ (o : Outcome plain.Made). o.answer) is);
          heap = heap ∙ sym (ap (λ (o : Outcome plain.Made). o.heap) is);
          visits = ap (λ (o : Outcome plain.Made). o.visits) is ∙ free;
        }

    pub goes_on : (mid : Heap Value ℕ) (v : Value) (result : Result Made Stop) → plain_answer texts tuples mid (Ok v) ≡ first.answer → plain_heap texts tuples mid ≡ first.heap
        → MadeAs new result (next (plain_value texts tuples v) (plain_heap texts tuples mid)) → MadeAs new result (followed_by first next)
    goes_on mid v result answer heap rest =
        let a = plain_value texts tuples v in
        let is : followed_by first next ≡ with_visits 0 (next a (plain_heap texts tuples mid)) =
        ap (λ (r : Result Val primitives.Stop). go_on_with r first.heap first.visits next) (sym answer)
        ∙ (ap (λ (hp : PlainHeap). with_visits first.visits (next a hp)) (sym heap) ∙ ap (λ (n : ℕ). with_visits n (next a (plain_heap texts tuples mid))) free) in
        record {
          answer = rest.answer ∙ sym (ap (λ (o : Outcome plain.Made). o.answer) is);
          heap = rest.heap ∙ sym (ap (λ (o : Outcome plain.Made). o.heap) is);
          visits = ap (λ (o : Outcome plain.Made). o.visits) is ∙ (zero-add (next a (plain_heap texts tuples mid)).visits ∙ rest.visits);
        }

  pub made_by : (old new : Heap Value ℕ) (result : Result Made Stop) (outcome : Outcome plain.Made) → MadeAs new result outcome → (effect : PlainWorld → Effect plain.Made)
      → ((w : PlainWorld) → effect (world_over texts tuples w old) ≡ on_heap (world_over texts tuples w old) outcome) → IsMade texts tuples old new result effect
  made_by old new result outcome is effect does = record {
    answer = λ w. is.answer ∙ sym (ap (λ (e : Effect plain.Made). e.answer) (does w));
    world = λ w. ap (λ (heap : PlainHeap). record (world_over texts tuples w old) { heap = heap }) is.heap ∙ sym (ap (λ (e : Effect plain.Made). e.world) (does w));
    visits = λ w. ap (λ (e : Effect plain.Made). e.visits) (does w) ∙ is.visits;
  }

  -- registering
  -- ===========

  on_ok : (w : PlainWorld) (name : List ℕ) (effect : Effect plain.Made) (made : plain.Made) (answer : Result plain.Made primitives.Stop) → answer ≡ Ok made
      → ◌≡◌ {A = Effect plain.Made} (elim answer [ Ok m ↦ record { answer = Ok m; world = registered effect.world name m; visits = 0 } | Err stop ↦ effect ]) (record { answer = Ok made; world = registered effect.world name made; visits = 0 })
  on_ok w name effect made (Ok m) is =
      let same : m ≡ made = cc in
      ap (λ (x : plain.Made). let e : Effect plain.Made = record { answer = Ok x; world = registered effect.world name x; visits = 0 } in e) same
  on_ok w name effect made (Err stop) is = absurd cc

  on_err : (w : PlainWorld) (name : List ℕ) (effect : Effect plain.Made) (stop : primitives.Stop) (answer : Result plain.Made primitives.Stop) → answer ≡ Err stop
      → ◌≡◌ {A = Effect plain.Made} (elim answer [ Ok m ↦ record { answer = Ok m; world = registered effect.world name m; visits = 0 } | Err stop ↦ effect ]) effect
  on_err w name effect stop (Ok m) is = absurd cc
  on_err w name effect stop (Err s) is = refl

  module _ (old new : Heap Value ℕ) (registry : Registry) (name : ℕ) (effect : PlainWorld → Effect plain.Made) where
    abbrev before : PlainWorld → PlainWorld
    before w = world_with texts tuples w old registry

    abbrev as_given : PlainWorld → PlainWorld
    as_given w = record w { modules = plain_modules texts tuples registry }

    pub registers : (made : Made) → IsMade texts tuples old new (Ok made) effect
        → IsMaking texts tuples old new registry (with_entry registry (record { name = name; object = made.number })) (Ok made) (λ w. on_made w (plain_name texts tuples name) (effect w))
    registers made is =
        let m : plain.Made = record { number = made.number.cell; names = made.names.cell } in
        let does : (w : PlainWorld) → on_made (before w) (plain_name texts tuples name) (effect (before w)) ≡ record { answer = Ok m; world = registered (effect (before w)).world (plain_name texts tuples name) m; visits = 0 } =
        λ w. on_ok (before w) (plain_name texts tuples name) (effect (before w)) m (effect (before w)).answer (sym (is.answer (as_given w))) in
        record {
          answer = λ w. sym (ap (λ (e : Effect plain.Made). e.answer) (does w));
          world = λ w.
              ap (λ (ms : List (List ℕ × ℕ)). record (world_over texts tuples w new) { modules = ms }) (map-append (plain_entry texts tuples) registry.entries (record { name = name; object = made.number } ∷ []))
              ∙ (ap (λ (x : PlainWorld). registered x (plain_name texts tuples name) m) (is.world (as_given w)) ∙ sym (ap (λ (e : Effect plain.Made). e.world) (does w)));
          visits = λ w. ap (λ (e : Effect plain.Made). e.visits) (does w);
        }

    pub registers_none : (stop : Stop) → IsMade texts tuples old new (Err stop) effect → IsMaking texts tuples old new registry registry (Err stop) (λ w. on_made w (plain_name texts tuples name) (effect w))
    registers_none stop is =
        let does : (w : PlainWorld) → on_made (before w) (plain_name texts tuples name) (effect (before w)) ≡ effect (before w) =
        λ w. on_err (before w) (plain_name texts tuples name) (effect (before w)) (plain_stop texts tuples new stop) (effect (before w)).answer (sym (is.answer (as_given w))) in
        record {
          answer = λ w. is.answer (as_given w) ∙ sym (ap (λ (e : Effect plain.Made). e.answer) (does w));
          world = λ w. is.world (as_given w) ∙ sym (ap (λ (e : Effect plain.Made). e.world) (does w));
          visits = λ w. ap (λ (e : Effect plain.Made). e.visits) (does w) ∙ is.visits (as_given w);
        }

-- the making of a module with its parts, one after another
abbrev pub titled : List ℕ → Val → Val → PlainHeap → Outcome plain.Made
titled name m names last =
    followed_by (put_pair (with_names last (number_of m) (number_of names)) (number_of names) (Str (codes "__name__")) (Str name))
    (λ stored end. gives (record { number = number_of m; names = number_of names }) end)

abbrev pub with_dict_made : List ℕ → Val → PlainHeap → Outcome plain.Made
with_dict_made name m heap = followed_by (making heap (DictObject [] 4)) (titled name m)

abbrev pub whole_making : List ℕ → PlainHeap → Outcome plain.Made
whole_making name heap = followed_by (making heap (ModuleObject name None)) (with_dict_made name)
