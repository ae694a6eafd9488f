-- What changes of the objects keep of their values.
use Rattle.std.proofs.Common.{ℕ, suc, ◌+◌, ◌-◌, ◌≤◌, ◌<◌, ◌≡◌, List, [], ◌∷◌, ◌++◌, length, Option, Some, None, set, replicate, refl, sym, ◌∙◌, ap, subst, inl, inr, arith, length-append, get_or-set_same, get_or-set_other}
use Rattle.std.proofs.lemmas.List.{get_or_append_left, get_or-append_right, set_at, length-replicate}
use Rattle.std.proofs.lemmas.List.Elements.{All-weaker, All-nil, All-cons}
use Rattle.std.proofs.lemmas.Bool.{cases_eq, cases_lt}
use Rattle.std.specs.List.{All}
use Rattle.arena_heap.specs.declared.value.Value.{Value}
use Rattle.qstr_pool.specs.mpy_base.World.{ObjectKind, object, kind_of, IsA, Later}
use Rattle.qstr_pool.proofs.mpy_base_lemmas.Worlds.{object_nones, later_append, later_set}
use Rattle.arena_heap.specs.Values.{ArenaObject, needs, Meets, Leads, held, IsFormed, Sound}

meets_later : {obs obs' : List (Option ArenaObject)} → Later obs obs' → (o : Option (ObjectKind × ℕ)) → Meets obs o → Meets obs' o
meets_later l None m = tt
meets_later l (Some p) m = l.keeps p.0 p.1 m

pub leads_later : {obs obs' : List (Option ArenaObject)} → Later obs obs' → (v : Value) → Leads obs v → Leads obs' v
leads_later l v m = record { meets = meets_later l (needs v) m.meets; small = m.small }

-- values go on leading somewhere
pub all_later : {obs obs' : List (Option ArenaObject)} → Later obs obs' → (vs : List Value) → All (Leads obs) vs → All (Leads obs') vs
all_later {obs} {obs'} l vs a = All-weaker (Leads obs) (Leads obs') (leads_later l) vs a

pub sound_set : (obs : List (Option ArenaObject)) (n : ℕ) (o : Option ArenaObject) → Sound obs → n < length obs → ((kind : ObjectKind) → IsA obs kind n → kind_of o ≡ Some kind)
    → All (Leads obs) (held o) → IsFormed o → Sound (set obs n o)
sound_set obs n o s low keeps a f =
    let l = later_set obs n o keeps in
    record {
      leads = λ m. elim (cases_eq m n) [
        | inl q ↦ subst (λ (y : ℕ). All (Leads (set obs n o)) (held (object (set obs n o) y))) (sym q)
            (subst (λ (y : Option ArenaObject). All (Leads (set obs n o)) (held y)) (sym (get_or-set_same obs n o None low)) (all_later l (held o) a))
        | inr ne ↦ subst (λ (y : Option ArenaObject). All (Leads (set obs n o)) (held y)) (sym (get_or-set_other obs n m o None ne)) (all_later l (held (object obs m)) (s.leads m))
      ];
      formed = λ m. elim (cases_eq m n) [
        | inl q ↦ subst (λ (y : ℕ). IsFormed (object (set obs n o) y)) (sym q) (subst IsFormed (sym (get_or-set_same obs n o None low)) f)
        | inr ne ↦ subst IsFormed (sym (get_or-set_other obs n m o None ne)) (s.formed m)
      ];
    }

pub sound_used : (obs : List (Option ArenaObject)) (m : ℕ) → Sound obs → Sound (obs ++ replicate m None)
sound_used obs m s =
    let l = later_append obs (replicate m None) in
    let none : Option ArenaObject = None in
    let old : (n : ℕ) → n < length obs → object (obs ++ replicate m none) n ≡ object obs n = λ n h. get_or_append_left obs (replicate m none) none n h in
    let new : (n : ℕ) → length obs ≤ n → object (obs ++ replicate m none) n ≡ None =
    λ n h. get_or-append_right obs (replicate m none) (length obs) n none refl h ∙ object_nones m (n - length obs) in
    record {
      leads = λ n. elim (cases_lt n (length obs)) [
        | inl h ↦ subst (λ (y : Option ArenaObject). All (Leads (obs ++ replicate m None)) (held y)) (sym (old n h)) (all_later l (held (object obs n)) (s.leads n))
        | inr h ↦ subst (λ (y : Option ArenaObject). All (Leads (obs ++ replicate m None)) (held y)) (sym (new n h)) (All-nil (Leads (obs ++ replicate m None)))
      ];
      formed = λ n. elim (cases_lt n (length obs)) [
        | inl h ↦ subst IsFormed (sym (old n h)) (s.formed n)
        | inr h ↦ subst IsFormed (sym (new n h)) tt
      ];
    }

pub sound_made : (obs : List (Option ArenaObject)) (o : ArenaObject) (more : ℕ) → Sound obs → All (Leads obs) (held (Some o)) → IsFormed (Some o) → Sound (obs ++ Some o ∷ replicate more None)
sound_made obs o more s a f =
    let none : Option ArenaObject = None in
    let was : List (Option ArenaObject) = obs ++ replicate (suc more) None in
    let l : length was ≡ length obs + suc more = length-append obs (replicate (suc more) None) ∙ ap (λ j. length obs + j) (length-replicate (suc more) none) in
    subst Sound (set_at obs None (replicate more None) (Some o) (length obs) refl)
    (sound_set was (length obs) (Some o) (sound_used obs (suc more) s) (omega arith)
    (λ k e. absurd (let q : object was (length obs) ≡ None = get_or-append_right obs (replicate (suc more) None) (length obs) (length obs) None refl (omega arith) ∙ object_nones (suc more) (length obs - length obs) in
    let r : kind_of none ≡ Some k = sym (ap kind_of q) ∙ e in cc))
    (all_later (later_append obs (replicate (suc more) None)) (held (Some o)) a) f)

-- one, two and three values
pub all_one : (P : Value → Type 0) (v : Value) → P v → All P (v ∷ [])
all_one P v p = All-cons P v [] p (All-nil P)

pub all_two : (P : Value → Type 0) (v w : Value) → P v → P w → All P (v ∷ w ∷ [])
all_two P v w p q = All-cons P v (w ∷ []) p (all_one P w q)

pub all_three : (P : Value → Type 0) (u v w : Value) → P u → P v → P w → All P (u ∷ v ∷ w ∷ [])
all_three P u v w p q r = All-cons P u (v ∷ w ∷ []) p (all_two P v w q r)
