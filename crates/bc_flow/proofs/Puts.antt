-- What arrives at a position meets what is there.
use Rattle.std.proofs.Common.{◌≡◌, ℕ, zero, suc, ◌+◌, ◌*◌, ◌<◌, ◌≤◌, Bool, true, false, List, [], ◌∷◌, length, Option, Some, None, refl, sym, ap, ◌∙◌, subst, arith, if◌then◌else◌}
use Rattle.std.specs.Prelude.{nat_eq, option_map}
use Rattle.std.proofs.lemmas.Bool.{eqb-true, eqb-false}
use Rattle.bc_shapes.specs.Shape.{At, Belows, Under, join, opens, same_entries}
use Rattle.bc_shapes.proofs.Joins.{On, Has, join_on, join_has, same_entries_is, same_entries_from, under_refl, under_trans, opens_below, belows_same}
use Rattle.bc_flow.specs.Edges.{Edge}
use Rattle.bc_flow.specs.Verified.{Grows, Assigned, Leads, Each, none, also, Cell, Unseen, Pending, Done, Table, seen, at, meet_at, settle, meet, put}

pub on_map : {A B : Type 0} → (o : Option A) (f : A → B) (P : A → Type 0) (Q : B → Type 0) → ((x : A) → P x → Q (f x)) → On o P → On (option_map f o) Q
on_map None f P Q k h = tt
on_map (Some x) f P Q k h = k x h

pub has_map : {A B : Type 0} → (o : Option A) (f : A → B) (P : A → Type 0) (Q : B → Type 0) → ((x : A) → P x → Q (f x)) → Has o P → Has (option_map f o) Q
has_map None f P Q k h = h
has_map (Some x) f P Q k h = k x h

pub some_is : {A : Type 0} → (x y : A) → Some x ≡ Some y → x ≡ y
some_is x y e = cc

pub grows_refl : (a : Assigned) → Grows a a
grows_refl a = record { each = λ p x e. record { at = x; is = e; under = under_refl x } }

pub leads_on : (a b : Assigned) (e : Edge) → Grows a b → Leads a e → Leads b e
leads_on a b e g l = let m = g.each e.to l.at l.is in record { at = m.at; is = m.is; under = under_trans e.at l.at m.at l.under m.under }

pub each_on : (a b : Assigned) (es : List Edge) → Grows a b → Each a es → Each b es
each_on a b es g none = none
each_on a b es g (also {e = e} {es = fs} l h) = also (leads_on a b e g l) (each_on a b fs g h)

pub grows_on : (a b c : Assigned) → Grows a b → Grows b c → Grows a c
grows_on a b c f g = record { each = λ p x e. leads_on b c (record { to = p; at = x }) g (f.each p x e) }

-- a position that was worked through, and not changed since
pub data IsDone : Table → ℕ → At → Type 0 where
  at_here : {x : At} {t : Table} → IsDone (Done x ∷ t) 0 x
  at_later : {c : Cell} {t : Table} {p : ℕ} {x : At} → IsDone t p x → IsDone (c ∷ t) (suc p) x

-- The measure: what is still to come at a position, where shapes have at most `most` slots.
abbrev pub weigh_cell : ℕ → Cell → ℕ
weigh_cell most Unseen = 2 * most + 2
weigh_cell most (Pending x) = 2 * opens x.slots + 1
weigh_cell most (Done x) = 2 * opens x.slots

abbrev pub weigh : ℕ → Table → ℕ
weigh most [] = 0
weigh most (c ∷ t) = weigh_cell most c + weigh most t

meet_if : (b : Bool) (y x : At) → (same_entries y.entries x.entries ≡ b) → On (if b then option_map (λ s. let z : At = record { slots = s; entries = y.entries } in z) (join y.slots x.slots) else None) (λ z. Under y z × Under x z)
meet_if false y x e = tt
meet_if true y x e = on_map (join y.slots x.slots) (λ s. let z : At = record { slots = s; entries = y.entries } in z) (λ s. Belows y.slots s × Belows x.slots s) (λ z. Under y z × Under x z)
    (λ s h. (record { slots = h.0; entries = refl }, record { slots = h.1; entries = sym (same_entries_is y.entries x.entries e) })) (join_on y.slots x.slots)

meet_at_on : (y x : At) → On (meet_at y x) (λ z. Under y z × Under x z)
meet_at_on y x = meet_if (same_entries y.entries x.entries) y x refl

pub meet_at_has : (y x u : At) → Under y u → Under x u → Has (meet_at y x) (λ z. Under z u)
meet_at_has y x u f g =
    let t : same_entries y.entries x.entries ≡ true = same_entries_from y.entries x.entries (f.entries ∙ sym g.entries) in
    subst (λ b. Has (if b then option_map (λ s. let z : At = record { slots = s; entries = y.entries } in z) (join y.slots x.slots) else None) (λ z. Under z u)) (sym t)
    (has_map (join y.slots x.slots) (λ s. let z : At = record { slots = s; entries = y.entries } in z) (λ s. Belows s u.slots) (λ z. Under z u) (λ s h. record { slots = h; entries = f.entries }) (join_has y.slots x.slots u.slots f.slots g.slots))

-- a cell after something arrived
pub record Meets (c : Cell) (x : At) (d : Cell) : Type 0 where
  pub is : At
  pub seen_is : seen d ≡ Some is
  pub old : (y : At) → seen c ≡ Some y → Under y is
  pub new : Under x is
  pub done : (z : At) → d ≡ Done z → c ≡ Done z
  pub lighter : (most : ℕ) → opens x.slots ≤ most → weigh_cell most d ≤ weigh_cell most c

not_done : (x z : At) → Pending x ≡ Done z → ⊥
not_done x z e = cc

settle_if : (b : Bool) (y x z : At) → nat_eq (opens z.slots) (opens y.slots) ≡ b → Under y z → Under x z → Meets (Done y) x (if b then Done z else Pending z)
settle_if true y x z e u v =
    let s : z.slots ≡ y.slots = belows_same y.slots z.slots u.slots (eqb-true (opens z.slots) (opens y.slots) e) in
    let zy : z ≡ y = ap (λ l. let w : At = record { slots = l; entries = z.entries } in w) s ∙ ap (λ l. let w : At = record { slots = y.slots; entries = l } in w) (sym u.entries) in
    record {
      is = z;
      seen_is = refl;
      old = λ w h. subst (λ q. Under q z) (some_is y w h) u;
      new = v;
      done = λ w h. ap Done (sym zy) ∙ h;
      lighter = λ most le. let o = opens_below y.slots z.slots u.slots in omega (arith, o);
    }
settle_if false y x z e u v =
    let ne = eqb-false (opens z.slots) (opens y.slots) e in
    record {
      is = z;
      seen_is = refl;
      old = λ w h. subst (λ q. Under q z) (some_is y w h) u;
      new = v;
      done = λ w h. absurd (not_done z w h);
      lighter = λ most le. let o = opens_below y.slots z.slots u.slots in omega (arith, o, ne);
    }

meet_on : (c : Cell) (x : At) → On (meet c x) (Meets c x)
meet_on Unseen x = record {
  is = x;
  seen_is = refl;
  old = λ y e. cc;
  new = under_refl x;
  done = λ z e. absurd (not_done x z e);
  lighter = λ most le. omega (arith, le);
}
meet_on (Pending y) x = on_map (meet_at y x) Pending (λ z. Under y z × Under x z) (Meets (Pending y) x)
    (λ z h. record {
      is = z;
      seen_is = refl;
      old = λ w e. subst (λ q. Under q z) (some_is y w e) h.0;
      new = h.1;
      done = λ w e. absurd (not_done z w e);
      lighter = λ most le. let o = opens_below y.slots z.slots h.0.slots in omega (arith, o);
    }) (meet_at_on y x)
meet_on (Done y) x = on_map (meet_at y x) (settle y) (λ z. Under y z × Under x z) (Meets (Done y) x)
    (λ z h. settle_if (nat_eq (opens z.slots) (opens y.slots)) y x z refl h.0 h.1) (meet_at_on y x)

-- a table after something arrived
pub record Puts (t : Table) (n : ℕ) (x : At) (u : Table) : Type 0 where
  pub grows : Grows (at t) (at u)
  pub leads : Leads (at u) (record { to = n; at = x })
  pub done : (q : ℕ) (z : At) → IsDone u q z → IsDone t q z
  pub lighter : (most : ℕ) → opens x.slots ≤ most → weigh most u ≤ weigh most t
  pub long : length u ≡ length t

done_head : (c d : Cell) (t : Table) → ((z : At) → d ≡ Done z → c ≡ Done z) → (q : ℕ) (z : At) → IsDone (d ∷ t) q z → IsDone (c ∷ t) q z
done_head c d t f q z at_here = subst (λ b. IsDone (b ∷ t) 0 z) (sym (f z refl)) at_here
done_head c d t f q z (at_later h) = at_later h

done_tail : (c : Cell) (t u : Table) → ((q : ℕ) (z : At) → IsDone u q z → IsDone t q z) → (q : ℕ) (z : At) → IsDone (c ∷ u) q z → IsDone (c ∷ t) q z
done_tail c t u f q z at_here = at_here
done_tail c t u f q z (at_later {p = r} h) = at_later (f r z h)

grows_head : (c d : Cell) (t : Table) (is : At) → seen d ≡ Some is → ((y : At) → seen c ≡ Some y → Under y is) → Grows (at (c ∷ t)) (at (d ∷ t))
grows_head c d t is e f = record { each = each }
  where
    each : (p : ℕ) (x : At) → at (c ∷ t) p ≡ Some x → Leads (at (d ∷ t)) (record { to = p; at = x })
    each zero x h = record { at = is; is = e; under = f x h }
    each (suc p) x h = record { at = x; is = h; under = under_refl x }

grows_tail : (c : Cell) (t u : Table) → Grows (at t) (at u) → Grows (at (c ∷ t)) (at (c ∷ u))
grows_tail c t u g = record { each = each }
  where
    each : (p : ℕ) (x : At) → at (c ∷ t) p ≡ Some x → Leads (at (c ∷ u)) (record { to = p; at = x })
    each zero x h = record { at = x; is = h; under = under_refl x }
    each (suc p) x h = let l = g.each p x h in record { at = l.at; is = l.is; under = l.under }

pub put_on : (t : Table) (n : ℕ) (x : At) → On (put t n x) (Puts t n x)
put_on [] n x = tt
put_on (c ∷ t) zero x = on_map (meet c x) (λ d. d ∷ t) (Meets c x) (Puts (c ∷ t) zero x)
    (λ d m. record {
      grows = grows_head c d t m.is m.seen_is m.old;
      leads = record { at = m.is; is = m.seen_is; under = m.new };
      done = done_head c d t m.done;
      lighter = λ most le. let h = m.lighter most le in omega (arith, h);
      long = refl;
    }) (meet_on c x)
put_on (c ∷ t) (suc n) x = on_map (put t n x) (λ u. c ∷ u) (Puts t n x) (Puts (c ∷ t) (suc n) x)
    (λ u m. record {
      grows = grows_tail c t u m.grows;
      leads = record { at = m.leads.at; is = m.leads.is; under = m.leads.under };
      done = done_tail c t u m.done;
      lighter = λ most le. let h = m.lighter most le in omega (arith, h);
      long = ap suc m.long;
    }) (put_on t n x)

-- below an assignment there is always room
meet_has : (c : Cell) (x u : At) → ((y : At) → seen c ≡ Some y → Under y u) → Under x u → Has (meet c x) (λ d. (z : At) → seen d ≡ Some z → Under z u)
meet_has Unseen x u f g = λ z e. subst (λ q. Under q u) (some_is x z e) g
meet_has (Pending y) x u f g = has_map (meet_at y x) Pending (λ z. Under z u) (λ d. (z : At) → seen d ≡ Some z → Under z u) (λ z h w e. subst (λ q. Under q u) (some_is z w e) h) (meet_at_has y x u (f y refl) g)
meet_has (Done y) x u f g = has_map (meet_at y x) (settle y) (λ z. Under z u) (λ d. (z : At) → seen d ≡ Some z → Under z u) (λ z h w e. settled (nat_eq (opens z.slots) (opens y.slots)) z w h e) (meet_at_has y x u (f y refl) g)
  where
    settled : (b : Bool) (z w : At) → Under z u → seen (if b then Done z else Pending z) ≡ Some w → Under w u
    settled true z w h e = subst (λ q. Under q u) (some_is z w e) h
    settled false z w h e = subst (λ q. Under q u) (some_is z w e) h

abbrev pub next_of : Assigned → Assigned
next_of a p = a (suc p)

pub put_has : (a : Assigned) (t : Table) (n : ℕ) (x : At) → n < length t → Grows (at t) a → Leads a (record { to = n; at = x }) → Has (put t n x) (λ u. Grows (at u) a)
put_has a [] n x lt g l = absurd (omega (arith, lt))
put_has a (c ∷ t) zero x lt g l = has_map (meet c x) (λ d. d ∷ t) (λ d. (z : At) → seen d ≡ Some z → Under z l.at) (λ u. Grows (at u) a)
    (λ d h. record { each = each d h })
    (meet_has c x l.at (λ y e. let m = g.each 0 y e in subst (λ q. Under y q) (some_is m.at l.at (sym m.is ∙ l.is)) m.under) l.under)
  where
    each : (d : Cell) → ((z : At) → seen d ≡ Some z → Under z l.at) → (p : ℕ) (y : At) → at (d ∷ t) p ≡ Some y → Leads a (record { to = p; at = y })
    each d h zero y e = record { at = l.at; is = l.is; under = h y e }
    each d h (suc p) y e = g.each (suc p) y e
put_has a (c ∷ t) (suc n) x lt g l = has_map (put t n x) (λ u. c ∷ u) (λ u. Grows (at u) (next_of a)) (λ u. Grows (at u) a)
    (λ u h. record { each = each u h })
    (put_has (next_of a) t n x (omega (arith, lt)) (record { each = λ p y e. let m = g.each (suc p) y e in record { at = m.at; is = m.is; under = m.under } }) (record { at = l.at; is = l.is; under = l.under }))
  where
    each : (u : Table) → Grows (at u) (next_of a) → (p : ℕ) (y : At) → at (c ∷ u) p ≡ Some y → Leads a (record { to = p; at = y })
    each u h zero y e = g.each 0 y e
    each u h (suc p) y e = let m = h.each p y e in record { at = m.at; is = m.is; under = m.under }
