-- The order of kinds and shapes, and where two meet.
use Rattle.std.proofs.Common.{◌≡◌, ℕ, zero, suc, ◌≤◌, Bool, true, false, List, [], ◌∷◌, ◌++◌, length, map, get_or, drop, Option, Some, None, refl, ap, ◌∙◌, subst, arith}
use Rattle.std.proofs.lemmas.Bool.{and_parts, and_from, eqb-true, eq-eqb}
use Rattle.bc_shapes.specs.declared.kinds.Kind.{Kind}
use Rattle.bc_shapes.specs.declared.kinds.Kind.TheVariants as kinds
use Rattle.bc_shapes.specs.declared.kinds.Want.{Want}
use Rattle.bc_shapes.specs.declared.kinds.Want.TheVariants as wants
use Rattle.bc_shapes.specs.declared.kinds.Give.{Give}
use Rattle.bc_shapes.specs.declared.kinds.Give.TheVariants.{New, Again}
use Rattle.bc_shapes.specs.declared.shape.Entry.{Entry}
use Rattle.bc_shapes.specs.Shape.{At, Below, same, value, cause, Belows, none, also, Under, stands, fits, give_of, after, join_kind, both, join, opens, same_bool, same_entry, same_entries}

-- P of what there is, if anything is
abbrev pub On : {A : Type 0} → Option A → (A → Type 0) → Type 0
On None P = Unit {0}
On (Some x) P = P x

-- something is there, and P of it
abbrev pub Has : {A : Type 0} → Option A → (A → Type 0) → Type 0
Has None P = ⊥
Has (Some x) P = P x

pub on_at : {A : Type 0} → (o : Option A) (P : A → Type 0) (x : A) → o ≡ Some x → On o P → P x
on_at o P x e h = subst (λ q. On q P) e h

pub has_at : {A : Type 0} → (o : Option A) (P : A → Type 0) → Has o P → (x : A) × (o ≡ Some x) × P x
has_at None P h = absurd h
has_at (Some x) P h = (x, refl, h)

pub below_trans : (k l m : Kind) → Below k l → Below l m → Below k m
below_trans k l m same h = h
below_trans k l m value same = value
below_trans k l m cause same = cause

pub belows_refl : (ks : List Kind) → Belows ks ks
belows_refl [] = none
belows_refl (k ∷ ks) = also same (belows_refl ks)

pub belows_trans : (ks ls ms : List Kind) → Belows ks ls → Belows ls ms → Belows ks ms
belows_trans ks ls ms none none = none
belows_trans ks ls ms (also a aas) (also b bbs) = also (below_trans _ _ _ a b) (belows_trans _ _ _ aas bbs)

pub belows-length : (ks ls : List Kind) → Belows ks ls → length ks ≡ length ls
belows-length ks ls none = refl
belows-length ks ls (also {ks = js} {ls = ms} a aas) = ap suc (belows-length js ms aas)

pub belows_drop : (n : ℕ) (ks ls : List Kind) → Belows ks ls → Belows (drop n ks) (drop n ls)
belows_drop zero ks ls h = h
belows_drop (suc n) ks ls none = none
belows_drop (suc n) ks ls (also {ks = js} {ls = ms} a aas) = belows_drop n js ms aas

pub belows_get : (n : ℕ) (ks ls : List Kind) → Belows ks ls → Below (get_or ks n kinds.Either) (get_or ls n kinds.Either)
belows_get n ks ls none = same
belows_get zero ks ls (also a aas) = a
belows_get (suc n) ks ls (also {ks = js} {ls = ms} a aas) = belows_get n js ms aas

pub belows_give : (g : Give) (ks ls : List Kind) → Belows ks ls → Below (give_of ks g) (give_of ls g)
belows_give (New k) ks ls h = same
belows_give (Again n) ks ls h = belows_get n ks ls h

belows_append : (gs : List Give) (ks ls js ms : List Kind) → Belows ks ls → Belows js ms → Belows (map (give_of ks) gs ++ js) (map (give_of ls) gs ++ ms)
belows_append [] ks ls js ms h r = r
belows_append (g ∷ gs) ks ls js ms h r = also (belows_give g ks ls h) (belows_append gs ks ls js ms h r)

pub belows_after : (gs : List Give) (n : ℕ) (ks ls : List Kind) → Belows ks ls → Belows (after gs n ks) (after gs n ls)
belows_after gs n ks ls h = belows_append gs ks ls (drop n ks) (drop n ls) h (belows_drop n ks ls h)

stands_value : (w : Want) → stands w kinds.Value ≡ true → stands w kinds.Either ≡ true
stands_value wants.Value e = refl
stands_value wants.Top e = refl
stands_value wants.Cause e = cc
stands_value wants.Iter1 e = cc
stands_value wants.Iter2 e = cc
stands_value wants.Iter3 e = cc
stands_value wants.Iter4 e = cc
stands_value wants.ValueOrNull e = refl
stands_value wants.Null e = cc
stands_value wants.Method e = cc

stands_cause : (w : Want) → stands w kinds.Cause ≡ true → stands w kinds.Either ≡ true
stands_cause wants.Cause e = refl
stands_cause wants.Value e = refl
stands_cause wants.Top e = refl
stands_cause wants.Iter1 e = cc
stands_cause wants.Iter2 e = cc
stands_cause wants.Iter3 e = cc
stands_cause wants.Iter4 e = cc
stands_cause wants.ValueOrNull e = cc
stands_cause wants.Null e = cc
stands_cause wants.Method e = cc

pub stands_below : (w : Want) (k l : Kind) → Below k l → stands w l ≡ true → stands w k ≡ true
stands_below w k l same e = e
stands_below w k l value e = stands_value w e
stands_below w k l cause e = stands_cause w e

pub fits_below : (ws : List Want) (ks ls : List Kind) → Belows ks ls → fits ws ls ≡ true → fits ws ks ≡ true
fits_below [] ks ls h e = refl
fits_below (w ∷ ws) ks ls none e = e
fits_below (w ∷ ws) ks ls (also {k = k} {l = l} {ks = js} {ls = ms} a aas) e =
    let p = and_parts (stands w l) (fits ws ms) e in
    and_from (stands w k) (fits ws js) (stands_below w k l a p.0) (fits_below ws js ms aas p.1)

pub under_refl : (x : At) → Under x x
under_refl x = record { slots = belows_refl x.slots; entries = refl }

pub under_trans : (x y z : At) → Under x y → Under y z → Under x z
under_trans x y z f g = record { slots = belows_trans x.slots y.slots z.slots f.slots g.slots; entries = f.entries ∙ g.entries }

-- Where two meet: above both, below all that are above both, with fewer b or the same.

pub join_kind_on : (k l : Kind) → On (join_kind k l) (λ m. Below k m × Below l m)
join_kind_on kinds.Value kinds.Value = (same, same)
join_kind_on kinds.Value kinds.Either = (same, value)
join_kind_on kinds.Cause kinds.Cause = (same, same)
join_kind_on kinds.Cause kinds.Either = (same, cause)
join_kind_on kinds.Either kinds.Value = (value, same)
join_kind_on kinds.Either kinds.Cause = (cause, same)
join_kind_on kinds.Either kinds.Either = (same, same)
join_kind_on kinds.Iter1 kinds.Iter1 = (same, same)
join_kind_on kinds.Iter2 kinds.Iter2 = (same, same)
join_kind_on kinds.Iter3 kinds.Iter3 = (same, same)
join_kind_on kinds.Iter4 kinds.Iter4 = (same, same)
join_kind_on kinds.Null kinds.Null = (same, same)
join_kind_on kinds.Method kinds.Method = (same, same)
join_kind_on _ _ = tt

both_on : (o : Option Kind) (os : Option (List Kind)) (k l : Kind) (ks ls : List Kind) → On o (λ m. Below k m × Below l m) → On os (λ ms. Belows ks ms × Belows ls ms) → On (both o os) (λ ms. Belows (k ∷ ks) ms × Belows (l ∷ ls) ms)
both_on (Some m) (Some ms) k l ks ls h hs = (also h.0 hs.0, also h.1 hs.1)
both_on (Some m) None k l ks ls h hs = tt
both_on None os k l ks ls h hs = tt

pub join_on : (ks ls : List Kind) → On (join ks ls) (λ ms. Belows ks ms × Belows ls ms)
join_on [] [] = (none, none)
join_on (k ∷ ks) (l ∷ ls) = both_on (join_kind k l) (join ks ls) k l ks ls (join_kind_on k l) (join_on ks ls)
join_on [] (l ∷ ls) = tt
join_on (k ∷ ks) [] = tt

join_same : (k : Kind) → Has (join_kind k k) (λ m. Below m k)
join_same kinds.Value = same
join_same kinds.Cause = same
join_same kinds.Either = same
join_same kinds.Iter1 = same
join_same kinds.Iter2 = same
join_same kinds.Iter3 = same
join_same kinds.Iter4 = same
join_same kinds.Null = same
join_same kinds.Method = same

join_kind_has : (k l u : Kind) → Below k u → Below l u → Has (join_kind k l) (λ m. Below m u)
join_kind_has k l u same same = join_same u
join_kind_has k l u same value = same
join_kind_has k l u same cause = same
join_kind_has k l u value same = same
join_kind_has k l u cause same = same
join_kind_has k l u value value = value
join_kind_has k l u cause cause = cause

both_has : (o : Option Kind) (os : Option (List Kind)) (u : Kind) (us : List Kind) → Has o (λ m. Below m u) → Has os (λ ms. Belows ms us) → Has (both o os) (λ ms. Belows ms (u ∷ us))
both_has (Some m) (Some ms) u us h hs = also h hs
both_has (Some m) None u us h hs = absurd hs
both_has None os u us h hs = absurd h

pub join_has : (ks ls us : List Kind) → Belows ks us → Belows ls us → Has (join ks ls) (λ ms. Belows ms us)
join_has ks ls us none none = none
join_has ks ls us (also {k = k} {l = u} {ks = js} {ls = vs} a aas) (also {k = l} {ks = ms} b bs) =
    both_has (join_kind k l) (join js ms) u vs (join_kind_has k l u a b) (join_has js ms vs aas bs)

-- what is above has no more b, and as many only where it is the same
pub opens_below : (ks ls : List Kind) → Belows ks ls → opens ls ≤ opens ks
opens_below ks ls none = omega arith
opens_below ks ls (also {k = k} {ks = js} {ls = ms} same aas) = opens_step k js ms (opens_below js ms aas)
  where
    opens_step : (k : Kind) (js ms : List Kind) → opens ms ≤ opens js → opens (k ∷ ms) ≤ opens (k ∷ js)
    opens_step kinds.Either js ms h = omega (arith, h)
    opens_step kinds.Value js ms h = h
    opens_step kinds.Cause js ms h = h
    opens_step kinds.Iter1 js ms h = h
    opens_step kinds.Iter2 js ms h = h
    opens_step kinds.Iter3 js ms h = h
    opens_step kinds.Iter4 js ms h = h
    opens_step kinds.Null js ms h = h
    opens_step kinds.Method js ms h = h
opens_below ks ls (also {ks = js} {ls = ms} value aas) = let h = opens_below js ms aas in omega (arith, h)
opens_below ks ls (also {ks = js} {ls = ms} cause aas) = let h = opens_below js ms aas in omega (arith, h)

-- Entries that agree are the same.

same_bool_is : (a b : Bool) → same_bool a b ≡ true → a ≡ b
same_bool_is true true e = refl
same_bool_is false false e = refl
same_bool_is true false e = cc
same_bool_is false true e = cc

same_bool_refl : (a : Bool) → same_bool a a ≡ true
same_bool_refl true = refl
same_bool_refl false = refl

entry_of : ℕ → Bool → Bool → ℕ → Entry
entry_of h f a n = record { handler = h; is_finally = f; active = a; height = n }

same_entry_is : (d e : Entry) → same_entry d e ≡ true → d ≡ e
same_entry_is d e t =
    let p = and_parts _ _ t in
    let q = and_parts _ _ p.0 in
    let r = and_parts _ _ q.0 in
    let h : d.handler ≡ e.handler = eqb-true d.handler e.handler r.0 in
    let f : d.is_finally ≡ e.is_finally = same_bool_is d.is_finally e.is_finally r.1 in
    let a : d.active ≡ e.active = same_bool_is d.active e.active q.1 in
    let n : d.height ≡ e.height = eqb-true d.height e.height p.1 in
    ap (λ z. let w : Entry = record { handler = z; is_finally = d.is_finally; active = d.active; height = d.height } in w) h
    ∙ ap (λ z. let w : Entry = record { handler = e.handler; is_finally = z; active = d.active; height = d.height } in w) f
    ∙ ap (λ z. let w : Entry = record { handler = e.handler; is_finally = e.is_finally; active = z; height = d.height } in w) a
    ∙ ap (λ z. let w : Entry = record { handler = e.handler; is_finally = e.is_finally; active = e.active; height = z } in w) n

same_entry_refl : (d : Entry) → same_entry d d ≡ true
same_entry_refl d = and_from _ _ (and_from _ _ (and_from _ _ (eq-eqb d.handler d.handler refl) (same_bool_refl d.is_finally)) (same_bool_refl d.active)) (eq-eqb d.height d.height refl)

pub same_entries_is : (ds es : List Entry) → same_entries ds es ≡ true → ds ≡ es
same_entries_is [] [] t = refl
same_entries_is (d ∷ ds) (e ∷ es) t =
    let p = and_parts (same_entry d e) (same_entries ds es) t in
    ap (λ z. z ∷ ds) (same_entry_is d e p.0) ∙ ap (λ zs. e ∷ zs) (same_entries_is ds es p.1)
same_entries_is [] (e ∷ es) t = cc
same_entries_is (d ∷ ds) [] t = cc

same_entries_refl : (ds : List Entry) → same_entries ds ds ≡ true
same_entries_refl [] = refl
same_entries_refl (d ∷ ds) = and_from (same_entry d d) (same_entries ds ds) (same_entry_refl d) (same_entries_refl ds)

pub same_entries_from : (ds es : List Entry) → ds ≡ es → same_entries ds es ≡ true
same_entries_from ds es e = subst (λ zs. same_entries ds zs ≡ true) e (same_entries_refl ds)

opens_tail : (k : Kind) (js ms : List Kind) → opens (k ∷ js) ≡ opens (k ∷ ms) → opens js ≡ opens ms
opens_tail kinds.Either js ms h = omega (arith, h)
opens_tail kinds.Value js ms h = h
opens_tail kinds.Cause js ms h = h
opens_tail kinds.Iter1 js ms h = h
opens_tail kinds.Iter2 js ms h = h
opens_tail kinds.Iter3 js ms h = h
opens_tail kinds.Iter4 js ms h = h
opens_tail kinds.Null js ms h = h
opens_tail kinds.Method js ms h = h

pub belows_same : (ks ls : List Kind) → Belows ks ls → opens ls ≡ opens ks → ls ≡ ks
belows_same ks ls none e = refl
belows_same ks ls (also {k = k} {ks = js} {ls = ms} same h) e = ap (λ z. k ∷ z) (belows_same js ms h (opens_tail k ms js e))
belows_same ks ls (also {ks = js} {ls = ms} value h) e = let le = opens_below js ms h in absurd (omega (arith, le, e))
belows_same ks ls (also {ks = js} {ls = ms} cause h) e = let le = opens_below js ms h in absurd (omega (arith, le, e))

pub opens_most : (ks : List Kind) → opens ks ≤ length ks
opens_most [] = omega arith
opens_most (k ∷ ks) = most_step k ks (opens_most ks)
  where
    most_step : (k : Kind) (ks : List Kind) → opens ks ≤ length ks → opens (k ∷ ks) ≤ length (k ∷ ks)
    most_step kinds.Either ks h = omega (arith, h)
    most_step kinds.Value ks h = omega (arith, h)
    most_step kinds.Cause ks h = omega (arith, h)
    most_step kinds.Iter1 ks h = omega (arith, h)
    most_step kinds.Iter2 ks h = omega (arith, h)
    most_step kinds.Iter3 ks h = omega (arith, h)
    most_step kinds.Iter4 ks h = omega (arith, h)
    most_step kinds.Null ks h = omega (arith, h)
    most_step kinds.Method ks h = omega (arith, h)
