-- The least assignment with some rooms for slots and entries is the least one with each others: where it meets one that keeps the rules
-- with others, it keeps them with its own.
use Rattle.std.proofs.Common.{◌≡◌, ℕ, Bool, true, false, List, [], ◌∷◌, Option, Some, None, refl, sym, ap, ◌∙◌, subst, if◌then◌else◌}
use Rattle.std.specs.Prelude.{slice_get, option_map}
use Rattle.std.proofs.lemmas.Bool.{false≢true}
use Rattle.bc_flow.specs.bc_shapes.declared.kinds.Kind.{Kind}
use Rattle.bc_flow.specs.bc_shapes.declared.kinds.Kind.TheVariants as kinds
use Rattle.bc_flow.specs.bc_shapes.declared.shape.Entry.{Entry}
use Rattle.bc_flow.specs.bc_shapes.Shape.{At, Below, same, value, cause, Belows, none, also, Under, both, same_entries}
use Rattle.bc_flow.specs.Code.{Code}
use Rattle.bc_flow.specs.Action.{Action}
use Rattle.bc_flow.specs.Edges.{Edge, Way, edge_of, edges, ways}
use Rattle.bc_flow.specs.Verified.{Assigned, Leads, Each, none as no_more, also as more, Fine, Holds, Grows, IsLeastOf, begin}
use Rattle.bc_flow.proofs.bc_shapes_lemmas.Joins.{On, Has, under_trans, same_entries_is, same_entries_from}
use Rattle.bc_flow.proofs.Mono.{fine_under, edges_under}

-- kinds
-- =====

-- the greatest kind below both, if there is one
abbrev meet : Kind → Kind → Option Kind
meet kinds.Value kinds.Value = Some kinds.Value
meet kinds.Value kinds.Cause = Some kinds.Either
meet kinds.Value kinds.Either = Some kinds.Either
meet kinds.Cause kinds.Cause = Some kinds.Cause
meet kinds.Cause kinds.Value = Some kinds.Either
meet kinds.Cause kinds.Either = Some kinds.Either
meet kinds.Either kinds.Value = Some kinds.Either
meet kinds.Either kinds.Cause = Some kinds.Either
meet kinds.Either kinds.Either = Some kinds.Either
meet kinds.Iter1 kinds.Iter1 = Some kinds.Iter1
meet kinds.Iter2 kinds.Iter2 = Some kinds.Iter2
meet kinds.Iter3 kinds.Iter3 = Some kinds.Iter3
meet kinds.Iter4 kinds.Iter4 = Some kinds.Iter4
meet kinds.Null kinds.Null = Some kinds.Null
meet kinds.Method kinds.Method = Some kinds.Method
meet _ _ = None

meet_on : (k l : Kind) → On (meet k l) (λ m. Below m k × Below m l)
meet_on kinds.Value kinds.Value = (same, same)
meet_on kinds.Value kinds.Cause = (value, cause)
meet_on kinds.Value kinds.Either = (value, same)
meet_on kinds.Cause kinds.Cause = (same, same)
meet_on kinds.Cause kinds.Value = (cause, value)
meet_on kinds.Cause kinds.Either = (cause, same)
meet_on kinds.Either kinds.Value = (same, value)
meet_on kinds.Either kinds.Cause = (same, cause)
meet_on kinds.Either kinds.Either = (same, same)
meet_on kinds.Iter1 kinds.Iter1 = (same, same)
meet_on kinds.Iter2 kinds.Iter2 = (same, same)
meet_on kinds.Iter3 kinds.Iter3 = (same, same)
meet_on kinds.Iter4 kinds.Iter4 = (same, same)
meet_on kinds.Null kinds.Null = (same, same)
meet_on kinds.Method kinds.Method = (same, same)
meet_on _ _ = tt

meet_same : (k : Kind) → Has (meet k k) (λ m. Below k m)
meet_same kinds.Value = same
meet_same kinds.Cause = same
meet_same kinds.Either = same
meet_same kinds.Iter1 = same
meet_same kinds.Iter2 = same
meet_same kinds.Iter3 = same
meet_same kinds.Iter4 = same
meet_same kinds.Null = same
meet_same kinds.Method = same

meet_has : (z k l : Kind) → Below z k → Below z l → Has (meet k l) (λ m. Below z m)
meet_has z k l same same = meet_same z
meet_has z k l same value = same
meet_has z k l same cause = same
meet_has z k l value same = same
meet_has z k l value value = value
meet_has z k l value cause = same
meet_has z k l cause same = same
meet_has z k l cause value = same
meet_has z k l cause cause = cause

-- slots
-- =====

abbrev meets : List Kind → List Kind → Option (List Kind)
meets [] [] = Some []
meets (k ∷ ks) (l ∷ ls) = both (meet k l) (meets ks ls)
meets _ _ = None

both_on : (o : Option Kind) (r : Option (List Kind)) (k l : Kind) (ks ls : List Kind) → On o (λ m. Below m k × Below m l) → On r (λ ms. Belows ms ks × Belows ms ls)
    → On (both o r) (λ ms. Belows ms (k ∷ ks) × Belows ms (l ∷ ls))
both_on (Some m) (Some ms) k l ks ls h r = (also h.0 r.0, also h.1 r.1)
both_on (Some m) None k l ks ls h r = tt
both_on None r k l ks ls h s = tt

meets_on : (ks ls : List Kind) → On (meets ks ls) (λ ms. Belows ms ks × Belows ms ls)
meets_on [] [] = (none, none)
meets_on [] (l ∷ ls) = tt
meets_on (k ∷ ks) [] = tt
meets_on (k ∷ ks) (l ∷ ls) = both_on (meet k l) (meets ks ls) k l ks ls (meet_on k l) (meets_on ks ls)

both_has : (o : Option Kind) (r : Option (List Kind)) (z : Kind) (zs : List Kind) → Has o (λ m. Below z m) → Has r (λ ms. Belows zs ms) → Has (both o r) (λ ms. Belows (z ∷ zs) ms)
both_has (Some m) (Some ms) z zs h r = also h r
both_has (Some m) None z zs h r = absurd r
both_has None r z zs h s = absurd h

meets_has : (zs ks ls : List Kind) → Belows zs ks → Belows zs ls → Has (meets ks ls) (λ ms. Belows zs ms)
meets_has zs ks ls none none = none
meets_has zs ks ls (also {k = z} {l = k} {ks = us} {ls = js} h r) (also {l = l} {ls = ms} g s) = both_has (meet k l) (meets js ms) z us (meet_has z k l h g) (meets_has us js ms r s)

-- shapes
-- ======

abbrev shape_of : List Entry → List Kind → At
shape_of es ks = record { slots = ks; entries = es }

abbrev slots_where : Bool → At → At → Option At
slots_where true x y = option_map (shape_of x.entries) (meets x.slots y.slots)
slots_where false x y = None

-- where two shapes meet from above
abbrev meet_of : Option At → Option At → Option At
meet_of None o = None
meet_of (Some x) None = None
meet_of (Some x) (Some y) = slots_where (same_entries x.entries y.entries) x y

-- what is there where both have something
record Met (o r : Option At) (z : At) : Type 0 where
  left : At
  right : At
  left_is : o ≡ Some left
  right_is : r ≡ Some right
  under_left : Under z left
  under_right : Under z right

slots_met : (x y z : At) (o : Option (List Kind)) → x.entries ≡ y.entries → On o (λ ms. Belows ms x.slots × Belows ms y.slots) → option_map (shape_of x.entries) o ≡ Some z → Under z x × Under z y
slots_met x y z None e h is = cc
slots_met x y z (Some ms) e h is =
    subst (λ (w : At). Under w x × Under w y) (some_is _ z is) (record { slots = h.0; entries = refl }, record { slots = h.1; entries = e })
  where
    some_is : (u v : At) → Some u ≡ Some v → u ≡ v
    some_is u v e = cc

where_met : (b : Bool) (x y z : At) → (b ≡ true → x.entries ≡ y.entries) → slots_where b x y ≡ Some z → Under z x × Under z y
where_met true x y z e is = slots_met x y z (meets x.slots y.slots) (e refl) (meets_on x.slots y.slots) is
where_met false x y z e is = cc

met : (o r : Option At) (z : At) → meet_of o r ≡ Some z → Met o r z
met None r z is = cc
met (Some x) None z is = cc
met (Some x) (Some y) z is =
    let u = where_met (same_entries x.entries y.entries) x y z (same_entries_is x.entries y.entries) is in
    record { left = x; right = y; left_is = refl; right_is = refl; under_left = u.0; under_right = u.1 }

-- what lies below both lies below where they meet
record Above (o : Option At) (z : At) : Type 0 where
  at : At
  is : o ≡ Some at
  under : Under z at

slots_above : (x z : At) (o : Option (List Kind)) → z.entries ≡ x.entries → Has o (λ ms. Belows z.slots ms) → Above (option_map (shape_of x.entries) o) z
slots_above x z None e h = absurd h
slots_above x z (Some ms) e h = record { at = shape_of x.entries ms; is = refl; under = record { slots = h; entries = e } }

where_above : (b : Bool) (x y z : At) → b ≡ true → Under z x → Under z y → Above (slots_where b x y) z
where_above true x y z t u v = slots_above x z (meets x.slots y.slots) u.entries (meets_has z.slots x.slots y.slots u.slots v.slots)
where_above false x y z t u v = absurd (false≢true t)

above : (o r : Option At) (x y z : At) → o ≡ Some x → r ≡ Some y → Under z x → Under z y → Above (meet_of o r) z
above o r x y z e f u v =
    subst (λ (w : Option At). Above (meet_of w r) z) (sym e)
    (subst (λ (w : Option At). Above (meet_of (Some x) w) z) (sym f)
    (where_above (same_entries x.entries y.entries) x y z (same_entries_from x.entries y.entries (sym u.entries ∙ v.entries)) u v))

-- assignments
-- ===========

abbrev meet_at : Assigned → Assigned → Assigned
meet_at a b p = meet_of (a p) (b p)

each_meet : (a b : Assigned) (es : List Edge) → Each a es → Each b es → Each (meet_at a b) es
each_meet a b [] h g = no_more
each_meet a b (e ∷ es) (more l h) (more m g) =
    let r = above (a e.to) (b e.to) l.at m.at e.at l.is m.is l.under m.under in
    more (record { at = r.at; is = r.is; under = r.under }) (each_meet a b es h g)

-- a code with other rooms
abbrev with_rooms : Code → (n_state n_exc : ℕ) → Code
with_rooms code n_state n_exc = record code { n_state = n_state; n_exc = n_exc }

action_is : (o : Option Action) (i j : Action) → o ≡ Some i → o ≡ Some j → j ≡ i
action_is o i j e f = cc

module _ (code : Code) (a b : Assigned) (n m : ℕ) (h : Holds code a) (g : Holds (with_rooms code n m) b) where
  same_edges : (i : Action) (p : ℕ) (z : At) → edges (with_rooms code n m) i p z ≡ edges code i p z
  unfolding ways
  same_edges i p z = refl

  fine_meet : (p : ℕ) (z : At) → meet_at a b p ≡ Some z → Fine code (meet_at a b) p z
  fine_meet p z is =
      let w = met (a p) (b p) z is in
      let f = fine_under code a p z w.left w.under_left (h.closed p w.left w.left_is) in
      let k = fine_under (with_rooms code n m) b p z w.right w.under_right (g.closed p w.right w.right_is) in
      let other = subst (λ j. Each b (edges (with_rooms code n m) j p z)) (action_is (slice_get code.actions p) f.action k.action f.is k.is) k.along in
      record {
        action = f.action;
        is = f.is;
        handlers = f.handlers;
        height = f.height;
        state = f.state;
        falls = f.falls;
        along = each_meet a b (edges code f.action p z) f.along (subst (λ es. Each b es) (same_edges f.action p z) other);
      }

  holds_meet : Holds code (meet_at a b)
  holds_meet =
      let r = above (a 0) (b 0) h.start.at g.start.at begin h.start.is g.start.is h.start.under g.start.under in
      record { start = record { at = r.at; is = r.is; under = r.under }; closed = fine_meet }

  leads_on : (p : ℕ) (x : At) → Leads (meet_at a b) (record { to = p; at = x }) → Leads b (record { to = p; at = x })
  leads_on p x l = let w = met (a p) (b p) l.at l.is in record { at = w.right; is = w.right_is; under = under_trans x l.at w.right l.under w.under_right }

  pub grows_on : IsLeastOf code a → Grows a b
  grows_on least = record { each = λ p x is. leads_on p x ((least (meet_at a b) holds_meet).each p x is) }

pub least_anywhere : (code : Code) (a : Assigned) (n_state n_exc : ℕ) → Holds code a → IsLeastOf code a → IsLeastOf (record code { n_state = n_state; n_exc = n_exc }) a
least_anywhere code a n_state n_exc h least b g = grows_on code a b n_state n_exc h g least
