-- Instructions that take and give slots, where there are no entries.
use Rattle.std.proofs.Common.{◌≡◌, ℕ, suc, ◌-◌, ◌≤◌, true, ◌&&◌, List, [], ◌∷◌, length, map, Some, None, refl, sym, ap, subst, ◌∙◌, arith}
use Rattle.std.specs.Prelude.{IfSome, nat_le, slice_get}
use Rattle.std.proofs.lemmas.Bool.{and_from, and_parts, false≢true}
use Rattle.std.proofs.lemmas.Bool.Decides.{nat_tests}
use Rattle.bc_flow.specs.bc_shapes.declared.kinds.Kind.{Kind}
use Rattle.bc_flow.specs.bc_shapes.declared.kinds.Want.{Want}
use Rattle.bc_flow.specs.bc_shapes.declared.shape.Entry.{Entry}
use Rattle.bc_flow.specs.bc_shapes.Shape.{At, Under, fits, stands}
use Rattle.bc_flow.specs.declared.edges.Change.TheVariants.{Keep}
use Rattle.bc_flow.specs.Action.{Action, Straight}
use Rattle.bc_flow.specs.Code.{Code}
use Rattle.bc_flow.specs.Edges.{Next, asks, base, behind, change, deep, edge_of, falls, finds, is_marked, jump_way, mark, raise_ways, room, slots_of, stays, takes, target}
use Rattle.bc_certificates.specs.Rows.{Rows, brought, fall, row}
use Rattle.bc_certificates.specs.Checking.{Falls, Kept, Lead, Stands, fits_entries, is_plain, is_straight, ordered}
use Rattle.bc_certificates.proofs.Checks.{brings_is, goes_from, lead_none}

plain_straight : (i : Action) (es : List Entry) → is_plain i es ≡ true → is_straight i ≡ true
plain_straight i [] h = h
plain_straight i (e ∷ es) h = absurd (false≢true h)

plain_alone : (i : Action) (es : List Entry) → is_plain i es ≡ true → es ≡ []
plain_alone i [] h = refl
plain_alone i (e ∷ es) h = absurd (false≢true h)

change_is : (i : Action) → is_straight i ≡ true → change i ≡ Keep
unfolding change
change_is (Straight wants given) t = refl
change_is i t = absurd (false≢true t)

falls_is : (i : Action) → is_straight i ≡ true → falls i ≡ true
unfolding falls
falls_is (Straight wants given) t = refl
falls_is i t = absurd (false≢true t)

target_is : (i : Action) → is_straight i ≡ true → target i ≡ None
unfolding target
target_is (Straight wants given) t = refl
target_is i t = absurd (false≢true t)

fits_long : (ws : List Want) (ks : List Kind) → fits ws ks ≡ true → length ws ≤ length ks
fits_long [] ks h = omega arith
fits_long (w ∷ ws) [] h = absurd (false≢true h)
fits_long (w ∷ ws) (k ∷ ks) h =
    let le = fits_long ws ks (and_parts (stands w k) (fits ws ks) h).1 in omega (arith, le)

no_more : (n : ℕ) → nat_le 0 n ≡ true
no_more n = grind (arith, nat_tests)

deep_is : (taken n : ℕ) → taken ≤ n → deep Keep [] taken n ≡ true
deep_is taken n le = and_from (nat_le taken n && nat_le 0 (n - taken)) true (and_from (nat_le taken n) (nat_le 0 (n - taken)) (grind (arith, nat_tests, le)) (no_more (n - taken))) refl

finds_is : (i : Action) (x : At) → is_straight i ≡ true → x.entries ≡ [] → fits (takes i) (base i x) ≡ true → finds i x ≡ true
unfolding finds
finds_is i x t e f =
    let le = fits_long (takes i) (base i x) f in
    and_from (fits (takes i) (base i x)) (deep (change i) x.entries (length (takes i)) (length (base i x))) f
    (ap (λ c. deep c x.entries (length (takes i)) (length (base i x))) (change_is i t)
    ∙ ap (λ es. deep Keep es (length (takes i)) (length (base i x))) e
    ∙ deep_is (length (takes i)) (length (base i x)) le)

-- no entries are behind it
behind_is : (i : Action) (n : ℕ) (es : List Entry) → is_straight i ≡ true → es ≡ [] → behind (change i) n es ≡ []
behind_is i n es t e = ap (λ c. behind c n es) (change_is i t) ∙ e

entries_are : (code : Code) (i : Action) (n : ℕ) (es : List Entry) → is_straight i ≡ true → es ≡ [] → fits_entries code i n es ≡ true
entries_are code i n es t e =
    and_from (asks (change i) es) (nat_le (length (behind (change i) n es)) code.n_exc) (ap (λ c. asks c es) (change_is i t))
    (ap (λ bs. nat_le (length bs) code.n_exc) (behind_is i n es t e) ∙ no_more code.n_exc)

arrives : (i : Action) (n q : ℕ) (es : List Entry) → is_straight i ≡ true → es ≡ [] → map (mark q) (behind (change i) n es) ≡ []
arrives i n q es t e = ap (map (mark q)) (behind_is i n es t e)

module _ (code : Code) (i : Action) (p : ℕ) (x : At) (plain : is_plain i x.entries ≡ true) (is : slice_get code.actions p ≡ Some i) (s : stays code i p ≡ true) where
  t : is_straight i ≡ true
  t = plain_straight i x.entries plain

  e : x.entries ≡ []
  e = plain_alone i x.entries plain

  stands_plain : (rows : Rows) → fits (takes i) (base i x) ≡ true → room code i x ≡ true → Stands code rows i p x
  stands_plain rows f r = record {
    entries = entries_are code i (length x.slots) x.entries t e;
    order = ap (ordered (length x.slots) p) e;
    height = finds_is i x t e f;
    state = r;
    falls = s;
    jumps = subst (λ o. Lead rows (map (edge_of i x) (jump_way o (behind (change i) (length x.slots) x.entries)))) (sym (target_is i t)) (lead_none rows);
    raises = subst (λ es. Lead rows (map (edge_of i x) (raise_ways es))) (sym e) (lead_none rows);
  }

  falls_plain : (rows : Rows) → row rows (suc p) ≡ None → Falls rows (fall p i x)
  falls_plain rows none = record {
    marked = ap (is_marked (suc p)) (arrives i (length x.slots) (suc p) x.entries t e);
    below = subst (λ o. IfSome o (λ y. Under (fall p i x).at y)) (sym none) tt;
  }

  pub kept_plain : (rows : Rows) → row rows (suc p) ≡ None → fits (takes i) (base i x) ≡ true → room code i x ≡ true → Kept code rows p x
  kept_plain rows none f r = record { action = i; is = is; stands = stands_plain rows f r; next = λ g. falls_plain rows none }

  pub brings_plain : (ks : List Kind) → ks ≡ slots_of i x Next → (let y : At = record { slots = ks; entries = x.entries } in Some y) ≡ brought code p (Some x)
  brings_plain ks h =
      let same : x.entries ≡ map (mark (suc p)) (behind (change i) (length x.slots) x.entries) = e ∙ sym (arrives i (length x.slots) (suc p) x.entries t e) in
      ap (λ (z : List Kind). let y : At = record { slots = z; entries = x.entries } in Some y) h
      ∙ ap (λ (es : List Entry). let y : At = record { slots = slots_of i x Next; entries = es } in Some y) same
      ∙ brings_is code p i x true is (goes_from code i p s (falls_is i t))
