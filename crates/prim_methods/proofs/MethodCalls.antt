-- Calls of methods with their objects and arguments.
use Rattle.std.proofs.Common.{◌≡◌, ℕ, suc, ◌-◌, ◌<◌, ◌≤◌, Bool, true, false, nat_eq, List, [], ◌∷◌, length, map, take, drop, get_or, refl, Option, None, Result, Ok, Err, sym, ap, ◌∙◌, subst, arith}
use Rattle.std.proofs.lemmas.List.{length-map, take_all}
use Rattle.mpy_base.specs.declared.builtin.Builtin.{Builtin}
use Rattle.mpy_base.specs.World.{Heap, Objects, AList, ADict, IsA, items_at, pairs_at}
use Rattle.mpy_base.specs.Val.{Val, Nil}
use Rattle.prim_assignments.specs.arena_heap.declared.value.Value.{Value}
use Rattle.prim_assignments.specs.arena_heap.declared.value.Value.TheVariants as values
use Rattle.prim_assignments.specs.arena_heap.declared.value.StrNo.{StrNo}
use Rattle.prim_assignments.specs.arena_heap.declared.value.ConstNo.{ConstNo}
use Rattle.prim_assignments.specs.arena_heap.declared.value.ListNo.{ListNo}
use Rattle.prim_assignments.specs.arena_heap.declared.value.DictNo.{DictNo}
use Rattle.prim_assignments.specs.arena_heap.Values.{Leads}
use Rattle.prim_builtins.specs.py_values.Shown.{Shown, Items, Pairs, shown}
use Rattle.prim_builtins.specs.py_primitives.Faults.{Fault}
use Rattle.prim_builtins.specs.py_primitives.Outcome as primitives
use Rattle.prim_builtins.specs.py_primitives.Outcome.{Outcome, gives, go_on_with, followed_by}
use Rattle.prim_builtins.specs.py_primitives.Calls.{Exactly, Between, counts_of, count_fault, unless_fault}
use Rattle.prim_builtins.specs.py_primitives.Methods.{list_method, dict_method, method_shown, call_method}
use Rattle.prim_assignments.specs.prim_walks.Plain.{plain, plain_pair, plain_heap}
use Rattle.prim_assignments.specs.prim_faults.declared.stop.Stop.{Stop}
use Rattle.prim_assignments.specs.prim_faults.Outcomes.{IsOutcome}
use Rattle.prim_assignments.proofs.prim_operators_lemmas.IndexUses.{list_shown, dict_shown}

-- counts that are taken
pub exactly : (n given : ℕ) → given ≡ n → count_fault (Exactly n) given ≡ None
exactly n given e = grind arith

pub between : (least most given : ℕ) → least ≤ given → given ≤ most → count_fault (Between least most) given ≡ None
between least most given le ge = grind arith

-- no arguments, and some
pub none_are : (b : Bool) (n : ℕ) → b ≡ nat_eq n 0 → b ≡ true → n ≡ 0
none_are b n e t = grind arith

pub some_are : (b : Bool) (n : ℕ) → b ≡ nat_eq n 0 → b ≡ false → 0 < n
some_are b n e t = grind arith

module _ (texts : StrNo → Option (List ℕ)) (tuples : ConstNo → Option (List Value)) (h : Heap Value ℕ) (b : Builtin) (args : List Value) (keys : List (Value × Value)) (v : Value) (none : keys ≡ [])
    (fits : count_fault (counts_of b) (length args) ≡ None) where
  shown_as : (s : Shown) → shown (plain_heap texts tuples h) (plain texts tuples v) ≡ s
      → call_method (plain_heap texts tuples h) b (plain texts tuples v) (map (plain texts tuples) args) (map (plain_pair texts tuples) keys)
      ≡ method_shown (plain_heap texts tuples h) b (plain texts tuples v) (map (plain texts tuples) args) s
  shown_as s is =
      let heap = plain_heap texts tuples h in
      let object = plain texts tuples v in
      let vs = map (plain texts tuples) args in
      let next = method_shown heap b object vs (shown heap object) in
      ap (λ (ks : List (Value × Value)). call_method heap b object vs (map (plain_pair texts tuples) ks)) none
      ∙ (ap (λ (n : ℕ). unless_fault heap (count_fault (counts_of b) n) next) (length-map args (plain texts tuples))
      ∙ (ap (λ (o : Option Fault). unless_fault heap o next) fits
      ∙ ap (λ (t : Shown). method_shown heap b object vs t) is))

  -- a method of a list, with a count of arguments that it takes
  pub list_called : (l : ListNo) → v ≡ values.List l → Leads h.objects v
      → call_method (plain_heap texts tuples h) b (plain texts tuples v) (map (plain texts tuples) args) (map (plain_pair texts tuples) keys)
      ≡ list_method (plain_heap texts tuples h) b l.cell (map (plain texts tuples) (items_at h l.cell)) (map (plain texts tuples) args)
  list_called l is leads =
      shown_as (Items (map (plain texts tuples) (items_at h l.cell))) (list_shown texts tuples h v l is leads)
      ∙ ap (λ (w : Value). method_shown (plain_heap texts tuples h) b (plain texts tuples w) (map (plain texts tuples) args) (Items (map (plain texts tuples) (items_at h l.cell)))) is

  pub list_done : (l : ListNo) → v ≡ values.List l → Leads h.objects v → (new : Heap Value ℕ) (result : Result Value Stop)
      → IsOutcome texts tuples h new result (list_method (plain_heap texts tuples h) b l.cell (map (plain texts tuples) (items_at h l.cell)) (map (plain texts tuples) args))
      → IsOutcome texts tuples h new result (call_method (plain_heap texts tuples h) b (plain texts tuples v) (map (plain texts tuples) args) (map (plain_pair texts tuples) keys))
  list_done l is leads new result done = subst (λ (o : Outcome Val). IsOutcome texts tuples h new result o) (sym (list_called l is leads)) done

  -- the same of a dict
  pub dict_called : (d : DictNo) → v ≡ values.Dict d → Leads h.objects v
      → call_method (plain_heap texts tuples h) b (plain texts tuples v) (map (plain texts tuples) args) (map (plain_pair texts tuples) keys)
      ≡ dict_method (plain_heap texts tuples h) b d.cell (map (plain_pair texts tuples) (pairs_at h d.cell)) (map (plain texts tuples) args)
  dict_called d is leads =
      shown_as (Pairs (map (plain_pair texts tuples) (pairs_at h d.cell))) (dict_shown texts tuples h v d is leads)
      ∙ ap (λ (w : Value). method_shown (plain_heap texts tuples h) b (plain texts tuples w) (map (plain texts tuples) args) (Pairs (map (plain_pair texts tuples) (pairs_at h d.cell)))) is

  pub dict_done : (d : DictNo) → v ≡ values.Dict d → Leads h.objects v → (new : Heap Value ℕ) (result : Result Value Stop)
      → IsOutcome texts tuples h new result (dict_method (plain_heap texts tuples h) b d.cell (map (plain_pair texts tuples) (pairs_at h d.cell)) (map (plain texts tuples) args))
      → IsOutcome texts tuples h new result (call_method (plain_heap texts tuples h) b (plain texts tuples v) (map (plain texts tuples) args) (map (plain_pair texts tuples) keys))
  dict_done d is leads new result done = subst (λ (o : Outcome Val). IsOutcome texts tuples h new result o) (sym (dict_called d is leads)) done

-- the object of a method is of its kind
pub is_list : (objects : Objects Value ℕ) (v : Value) (l : ListNo) → v ≡ values.List l → Leads objects v → IsA objects AList l.cell
is_list objects v l is leads = (subst (Leads objects) is leads).meets

pub is_dict : (objects : Objects Value ℕ) (v : Value) (d : DictNo) → v ≡ values.Dict d → Leads objects v → IsA objects ADict d.cell
is_dict objects v d is leads = (subst (Leads objects) is leads).meets

-- two arguments
pub two_are : (args : List Value) (d : Value) → length args ≡ 2 → args ≡ get_or args 0 d ∷ get_or args 1 d ∷ []
two_are [] d e = absurd (omega arith)
two_are (a ∷ []) d e = absurd (omega arith)
two_are (a ∷ b ∷ []) d e = refl
two_are (a ∷ b ∷ c ∷ rest) d e = absurd (omega arith)

pub parted : (args : List Value) (d : Value) → 0 < length args → args ≡ get_or args 0 d ∷ take (length args - 1) (drop 1 args)
parted [] d some = absurd (omega arith)
parted (arg ∷ args) d some = ap (λ (rest : List Value). arg ∷ rest) (sym (take_all (suc (length args) - 1) args (omega arith)))

-- a call whose value is let go
module _ (texts : StrNo → Option (List ℕ)) (tuples : ConstNo → Option (List Value)) (h new : Heap Value ℕ) (outcome : Outcome Val) where
  abbrev after : Result Val primitives.Stop → Outcome Val
  after answer = go_on_with answer outcome.heap outcome.visits (λ v behind. gives Nil behind)

  pub then_nothing : (v : Value) → IsOutcome texts tuples h new (Ok v) outcome → IsOutcome texts tuples h new (Ok values.None) (followed_by outcome (λ v behind. gives Nil behind))
  then_nothing v is =
      let e = ap after is.answer in
      record {
        answer = ap (λ (o : Outcome Val). o.answer) e;
        heap = is.heap ∙ ap (λ (o : Outcome Val). o.heap) e;
        known = record { leads = record { meets = tt; small = tt }; told = tt };
        later = is.later;
        all_told = is.all_told;
      }

  pub then_stopped : (stop : Stop) → IsOutcome texts tuples h new (Err stop) outcome → IsOutcome texts tuples h new (Err stop) (followed_by outcome (λ v behind. gives Nil behind))
  then_stopped stop is =
      let e = ap after is.answer in
      record {
        answer = ap (λ (o : Outcome Val). o.answer) e;
        heap = is.heap ∙ ap (λ (o : Outcome Val). o.heap) e;
        known = is.known;
        later = is.later;
        all_told = is.all_told;
      }
