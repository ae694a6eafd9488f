-- Which rule a position breaks at its first visit.
use Rattle.std.proofs.Common.{◌≡◌, ℕ, zero, suc, ◌<◌, ◌≤◌, inl, inr, Bool, true, false, ◌&&◌, List, [], ◌∷◌, length, map, get_or, Option, Some, None, refl, sym, ap, subst, ◌∙◌, arith}
use Rattle.std.specs.Prelude.{slice_get, not, ◌||◌, nat_eq}
use Rattle.std.proofs.lemmas.Bool.{false≢true, true≢false}
use Rattle.bc_flow.specs.bc_shapes.declared.shape.Entry.{Entry}
use Rattle.bc_flow.specs.bc_shapes.Shape.{At, Belows, Under, same_entries}
use Rattle.bc_flow.proofs.bc_shapes_lemmas.Joins.{Has, has_at, join_has, on_at}
use Rattle.bc_flow.specs.Action.{Action}
use Rattle.bc_flow.specs.Code.{Code}
use Rattle.bc_flow.specs.Edges.{Edge, Way, edge_of, edges, finds, holds, room, stays, ways}
use Rattle.bc_flow.specs.declared.code.Rule.{Rule}
use Rattle.bc_flow.specs.declared.code.Rule.TheVariants.{Handlers, Height, State, Falls}
use Rattle.bc_flow.specs.Verified.{Assigned, Bad, Each, also, FirstFault, Grows, IsLeast, Leads, Pending, Done, Table, Unseen, after_holds, after_put, agree, agrees, at, done_at, others, put_next, visit}
use Rattle.bc_flow.proofs.Mono.{edges_under, finds_under, holds_under, room_under, ways_under}
use Rattle.bc_flow.proofs.Puts.{leads_on, some_is}
use Rattle.bc_flow.proofs.Visits.{PutsAll, agree_below, done-at, done-long, pending_is, puts_all, puts_has}
use Rattle.bc_flow.proofs.Walks.{visit_at}
use Rattle.bc_refusals.specs.Stages.{Agrees, AnyApart, AnyClash, Apart, ApartFrom, Between, Breaks, Clashes, IsNext, IsSet, LeadAll, Staged, come, opened, within}
use Rattle.bc_refusals.proofs.Stages.{come-long, come_kept, lead_each, set_inside, settled, table_size, within_is, within_there}

-- What entries say.

others_ways : (i : Action) (x y : At) (w : Way) (ws : List Way) → others (edge_of i x w) (map (edge_of i x) ws) ≡ others (edge_of i y w) (map (edge_of i y) ws)
others_ways i x y w [] = refl
others_ways i x y w (v ∷ ws) = ap (λ z. (not (nat_eq w.to v.to) || same_entries w.entries v.entries) && z) (others_ways i x y w ws)

agree_ways : (t : Table) (i : Action) (x y : At) (ws : List Way) → agree t (map (edge_of i x) ws) ≡ agree t (map (edge_of i y) ws)
agree_ways t i x y [] = refl
agree_ways t i x y (w ∷ ws) =
    ap (λ z. agrees t w.to w.entries && z && agree t (map (edge_of i x) ws)) (others_ways i x y w ws)
    ∙ ap (λ z. agrees t w.to w.entries && others (edge_of i y w) (map (edge_of i y) ws) && z) (agree_ways t i x y ws)

agree_same : (code : Code) (t : Table) (i : Action) (p : ℕ) (x y : At) → Under y x → agree t (edges code i p y) ≡ agree t (edges code i p x)
agree_same code t i p x y u =
    agree_ways t i y x (ways code i p (length y.slots) y.entries)
    ∙ ap (λ ws. agree t (map (edge_of i x) ws)) (sym (ways_under code i p y x u))

pub agrees_past : (t : Table) (n : ℕ) (es : List Entry) → length t ≤ n → agrees t n es ≡ false
agrees_past [] n es le = refl
agrees_past (c ∷ t) zero es le = absurd (omega (arith, le))
agrees_past (c ∷ t) (suc n) es le = agrees_past t n es (omega (arith, le))

agrees_new : (t : Table) (n : ℕ) (es : List Entry) → n < length t → ((x : At) → at t n ≡ Some x → ⊥) → agrees t n es ≡ true
agrees_new [] n es lt f = absurd (omega (arith, lt))
agrees_new (Unseen ∷ t) zero es lt f = refl
agrees_new (Pending y ∷ t) zero es lt f = absurd (f y refl)
agrees_new (Done y ∷ t) zero es lt f = absurd (f y refl)
agrees_new (c ∷ t) (suc n) es lt f = agrees_new t n es (omega (arith, lt)) f

agrees_seen : (t : Table) (n : ℕ) (es : List Entry) (x : At) → at t n ≡ Some x → agrees t n es ≡ same_entries x.entries es
agrees_seen [] n es x e = cc
agrees_seen (Unseen ∷ t) zero es x e = cc
agrees_seen (Pending y ∷ t) zero es x e = ap (λ z. same_entries z.entries es) (some_is y x e)
agrees_seen (Done y ∷ t) zero es x e = ap (λ z. same_entries z.entries es) (some_is y x e)
agrees_seen (c ∷ t) (suc n) es x e = agrees_seen t n es x e

module _ (a : Assigned) (came : List Bool) (t : Table) (m : Between a came t) where
  -- nothing came there
  pub agrees_unset : (n : ℕ) (es : List Entry) → n < length t → get_or came n false ≡ false → agrees t n es ≡ true
  agrees_unset n es lt f = agrees_new t n es lt (λ x e. let l = m.below.each n x e in true≢false (sym (within_is came a n l.at l.is) ∙ f))

  -- something did
  pub agrees_set : (n : ℕ) (es : List Entry) (x : At) → IsSet came n → a n ≡ Some x → agrees t n es ≡ same_entries x.entries es
  agrees_set n es x c e =
      let l = m.above n x (within_there came a n c ∙ e) in
      agrees_seen t n es l.at l.is ∙ ap (λ z. same_entries z es) (sym l.under.entries)

-- Rules.

not_true : (b : Bool) → (b ≡ true → ⊥) → b ≡ false
not_true true f = absurd (f refl)
not_true false f = refl

-- by what a test answers
pub missed_from : (b : Bool) → not b ≡ true → b ≡ false
missed_from false e = refl
missed_from true e = absurd (false≢true e)

pub found_from : (b : Bool) → not b ≡ false → b ≡ true
found_from true e = refl
found_from false e = absurd (true≢false e)

none_bad : (r s : Bool) → after_put r s None ≡ Bad Height
none_bad true true = refl
none_bad true false = refl
none_bad false true = refl
none_bad false false = refl

state_bad : (s : Bool) (u : Table) → after_put false s (Some u) ≡ Bad State
state_bad true u = refl
state_bad false u = refl

-- Edges that an assignment leads along meet where they end.

meets : (b : Assigned) (e f : Edge) → Leads b e → Leads b f → Apart e f → ⊥
meets b e f l m k =
    let same : m.at ≡ l.at = some_is m.at l.at (sym m.is ∙ sym (ap b k.together) ∙ l.is) in
    subst (λ o. Has o (λ z. Belows z l.at.slots)) k.apart
    (join_has e.at.slots f.at.slots l.at.slots l.under.slots (subst (λ z. Belows f.at.slots z.slots) same m.under.slots))

meets_each : (b : Assigned) (e : Edge) (es : List Edge) → Leads b e → Each b es → ApartFrom e es → ⊥
meets_each b e [] l each k = k
meets_each b e (f ∷ es) l (also m each) (inl k) = meets b e f l m k
meets_each b e (f ∷ es) l (also m each) (inr k) = meets_each b e es l each k

all_meet : (b : Assigned) (es : List Edge) → Each b es → AnyApart es → ⊥
all_meet b [] each k = k
all_meet b (e ∷ es) (also l each) (inl k) = meets_each b e es l each k
all_meet b (e ∷ es) (also l each) (inr k) = all_meet b es each k

module _ (code : Code) (a : Assigned) (came : List Bool) (p : ℕ) (x : At) (i : Action) (is : slice_get code.actions p ≡ Some i) (there : a p ≡ Some x) (c : IsSet came p) where
  abbrev es : List Edge
  es = edges code i p x

  below_at : (t : Table) (y : At) → Between a came t → IsLeast t p y → Under y x
  below_at t y m l = let v = m.below.each p y (pending_is t p y l.pending) in subst (Under y) (some_is v.at x (sym v.is ∙ within_there came a p c ∙ there)) v.under

  above_at : (t : Table) (y : At) → Between a came t → IsLeast t p y → Under (opened x) y
  above_at t y m l = let v = m.above p x (within_there came a p c ∙ there) in subst (Under (opened x)) (some_is v.at y (sym v.is ∙ pending_is t p y l.pending)) v.under

  -- a visit by what is found out
  visit_is : (t : Table) (y : At) (h f r s : Bool) → h ≡ (holds code i p (length y.slots) y.entries && agree t (edges code i p y)) → f ≡ finds i y → r ≡ room code i y → s ≡ stays code i p → visit code t p y ≡ after_holds h f r s (put_next (edges code i p y) (Some (done_at t p y)))
  visit_is t y h f r s eh ef er ez = sym (visit_at code t p y i h f r s (edges code i p y) is eh ef er ez refl)

  pub breaks_holds : holds code i p (length x.slots) x.entries ≡ false → Breaks code a came p Handlers
  breaks_holds e t y long m l =
      let u = below_at t y m l in
      visit_is t y false (finds i y) (room code i y) (stays code i p) (sym (ap (λ b. b && agree t (edges code i p y)) (sym (holds_under code i p y x u) ∙ e))) refl refl refl

  module _ (h : holds code i p (length x.slots) x.entries ≡ true) where
    held : (t : Table) (y : At) (b : Bool) → Under y x → agree t es ≡ b → b ≡ (holds code i p (length y.slots) y.entries && agree t (edges code i p y))
    held t y b u e = sym (ap (λ z. z && agree t (edges code i p y)) (sym (holds_under code i p y x u) ∙ h) ∙ agree_same code t i p x y u ∙ e)

    same_long : length came ≡ length code.actions → (t : Table) → length t ≡ length code.actions → length t ≡ length came
    same_long n t e = e ∙ sym n

    pub breaks_agree : length came ≡ length code.actions → Agrees a came es false → Breaks code a came p Handlers
    breaks_agree n g t y long m l =
        visit_is t y false (finds i y) (room code i y) (stays code i p) (held t y false (below_at t y m l) (g t (same_long n t long) m)) refl refl refl

    pub breaks_finds : length came ≡ length code.actions → Agrees a came es true → finds i (opened x) ≡ false → Breaks code a came p Height
    breaks_finds n g e t y long m l =
        visit_is t y true false (room code i y) (stays code i p) (held t y true (below_at t y m l) (g t (same_long n t long) m))
        (sym (not_true (finds i y) (λ q. true≢false (sym (finds_under i (opened x) y (above_at t y m l) q) ∙ e)))) refl refl

    module _ (f : finds i x ≡ true) where
      found : (y : At) → Under y x → true ≡ finds i y
      found y u = sym (finds_under i y x u f)

      -- what came first doesn't meet
      clashes : (t u : Table) (fs : List Edge) → Between a came t → Grows (at t) (at u) → Each (at u) fs → AnyClash a came fs → ⊥
      clashes t u [] m g each k = k
      clashes t u (e ∷ fs) m g (also l each) (inl k) =
          let v = leads_on (at t) (at u) (record { to = e.to; at = opened k.there }) g (m.above e.to k.there (within_there came a e.to k.came_there ∙ k.is)) in
          let same : l.at ≡ v.at = some_is l.at v.at (sym l.is ∙ v.is) in
          subst (λ o. Has o (λ z. Belows z v.at.slots)) k.apart
          (join_has (opened k.there).slots e.at.slots v.at.slots v.under.slots (subst (λ z. Belows e.at.slots z.slots) same l.under.slots))
      clashes t u (e ∷ fs) m g (also l each) (inr k) = clashes t u fs m g each k

      -- nor do those that come at once
      no_meeting : (t u : Table) (fs : List Edge) → Between a came t → Grows (at t) (at u) → Each (at u) fs → Clashes a came fs → ⊥
      no_meeting t u fs m g each (inl k) = clashes t u fs m g each k
      no_meeting t u fs m g each (inr k) = all_meet (at u) fs each k

      no_put : (t : Table) (y : At) → Between a came t → IsLeast t p y → Clashes a came (edges code i p (opened x)) → (o : Option Table) → put_next (edges code i p y) (Some (done_at t p y)) ≡ o → o ≡ None
      no_put t y m l k None e = refl
      no_put t y m l k (Some u) e =
          let v = on_at (put_next (edges code i p y) (Some (done_at t p y))) (PutsAll (done_at t p y) (edges code i p y)) u e (puts_all (edges code i p y) (done_at t p y)) in
          let grows : Grows (at t) (at u) = record { each = λ q z r. v.grows.each q z (done-at t p y l.pending q ∙ r) } in
          absurd (no_meeting t u (edges code i p (opened x)) m grows (edges_under code (at u) i p (opened x) y (above_at t y m l) v.along) k)

      pub breaks_put : length came ≡ length code.actions → Agrees a came es true → Clashes a came (edges code i p (opened x)) → Breaks code a came p Height
      breaks_put n g k t y long m l =
          visit_is t y true true (room code i y) (stays code i p) (held t y true (below_at t y m l) (g t (same_long n t long) m)) (found y (below_at t y m l)) refl refl
          ∙ ap (after_holds true true (room code i y) (stays code i p)) (no_put t y m l k (put_next (edges code i p y) (Some (done_at t p y))) refl)
          ∙ none_bad (room code i y) (stays code i p)

      module _ (n : length came ≡ length code.actions) (lead : LeadAll a came es) where
        abbrev b2 : Assigned
        b2 = within (come came es) a

        inside2 : (q : ℕ) (z : At) → b2 q ≡ Some z → q < length code.actions
        inside2 q z e = let lt = set_inside (come came es) q (within_is (come came es) a q z e) in let w = come-long came es in omega (arith, lt, w, n)

        each2 : (y : At) → Under y x → Each b2 (edges code i p y)
        each2 y u = edges_under code b2 i p y x u (lead_each a came came es refl lead)

        grows2 : (t : Table) → Between a came t → Grows (at t) b2
        grows2 t m = record { each = λ q z e. let v = m.below.each q z e in let s = within_is came a q v.at v.is in record { at = v.at; is = within_there (come came es) a q (come_kept came es q s) ∙ sym (within_there came a q s) ∙ v.is; under = v.under } }

        agrees2 : (t : Table) (y : At) → length t ≡ length code.actions → Between a came t → Under y x → agree t es ≡ true
        agrees2 t y long m u = sym (agree_same code t i p x y u) ∙ agree_below b2 (length code.actions) inside2 t long (grows2 t m) (edges code i p y) (each2 y u)

        put2 : (t : Table) (y : At) → length t ≡ length code.actions → Between a came t → IsLeast t p y → Has (put_next (edges code i p y) (Some (done_at t p y))) (λ u. Grows (at u) b2)
        put2 t y long m l =
            puts_has b2 (length code.actions) inside2 (edges code i p y) (done_at t p y) (done-long t p y ∙ long)
            (record { each = λ q z e. (grows2 t m).each q z (sym (done-at t p y l.pending q) ∙ e) }) (each2 y (below_at t y m l))

        pub breaks_state : room code i x ≡ false → Breaks code a came p State
        breaks_state e t y long m l =
            let u = below_at t y m l in
            let some = has_at _ _ (put2 t y long m l) in
            visit_is t y true true false (stays code i p) (held t y true u (agrees2 t y long m u)) (found y u) (sym (sym (room_under code i y x u) ∙ e)) refl
            ∙ ap (after_holds true true false (stays code i p)) some.1
            ∙ state_bad (stays code i p) some.0

        pub breaks_falls : room code i x ≡ true → stays code i p ≡ false → Breaks code a came p Falls
        breaks_falls r e t y long m l =
            let u = below_at t y m l in
            let some = has_at _ _ (put2 t y long m l) in
            visit_is t y true true true false (held t y true u (agrees2 t y long m u)) (found y u) (sym (sym (room_under code i y x u) ∙ r)) (sym e)
            ∙ ap (after_holds true true true false) some.1

-- the rule that the next position breaks is the first fault
pub first_fault : (code : Code) (a : Assigned) (came gone : List Bool) (p : ℕ) (r : Rule) → Staged code a came gone → IsNext came gone p → Breaks code a came p r → FirstFault code r p
first_fault code a came gone p r s next k =
    let m = settled code a came gone s p next in
    FirstFault.broken m.stage.comes m.least (k m.table m.shape (table_size code m.table p (let lt = set_inside came p next.came_there in let n = m.stage.long in omega (arith, lt, n)) m.stage.comes) m.stage.between m.least)
