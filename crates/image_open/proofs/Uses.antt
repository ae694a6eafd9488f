-- The texts that were used are the first ones of the pool.
use Rattle.std.proofs.Common.{◌≡◌, ◌⊎◌, ℕ, ◌+◌, ◌-◌, ◌<◌, ◌≤◌, Bool, true, false, cond, nat_lt, List, [], ◌∷◌, ◌++◌, length, get_or, take, Some, None, refl, sym, ap, subst, ◌∙◌, arith, inl, inr}
use Rattle.std.specs.Prelude.{slice_get}
use Rattle.std.specs.List.{list_any}
use Rattle.std.specs.Str.{bytes_eq}
use Rattle.std.proofs.lemmas.Bool.Decides.{nat_tests}
use Rattle.std.proofs.lemmas.List.Folds.{list_any_at}
use Rattle.std.proofs.lemmas.List.{length-take, get_or-take}
use Rattle.std.proofs.lemmas.Option.{slice_get_within, get_or_from_slice_get}
use Rattle.std.proofs.lemmas.Slice.Eq.{bytes_eq-Decides}
use Rattle.qstr_pool.specs.declared.table.TheConstants.{FIRST_OWN}
use Rattle.qstr_pool.specs.Pool.{Texts, interned, all_differ}
use Rattle.qstr_pool.specs.Static.{static_pool, static_number_of}
use Rattle.qstr_pool.proofs.Pools.{one_to_one}
use Rattle.image_grammar.specs.bc_library.Own.{IsOwnPool}
use Rattle.image_grammar.specs.bc_library.Texts.{text_numbered, with_text}
use Rattle.image_grammar.proofs.bc_library_lemmas.Pools.{Copied, next_copied, with_static, with_own, below_first, from_first_own, text_there}
use Rattle.image_grammar.specs.Opening.{IsUse, used_with}

-- a pool of texts that are no static ones, each once
pub record IsProper (pool : Texts) : Type 0 where
  pub own : IsOwnPool pool
  pub differ : all_differ pool.texts ≡ true

-- the texts now are the first of the pool, as many as are used
pub record Used (pool : Texts) (used : ℕ) (now : Texts) : Type 0 where
  pub copied : Copied pool used now
  pub within : used ≤ length pool.texts

abbrev pub Next : Texts → Texts → ℕ → ℕ → List ℕ → Type 0
Next pool now used n text = Used pool (used_with used n) (with_text now text)

pub static_is : (pool : Texts) (n : ℕ) (text : List ℕ) → n < FIRST_OWN → text_numbered pool n ≡ Some text → static_number_of text ≡ Some n
static_is pool n text lt e = ((one_to_one static_pool refl).inverse text n).1 (below_first pool n lt ∙ e)

pub static_used : (pool now : Texts) (used n : ℕ) (text : List ℕ) → n < FIRST_OWN → IsUse pool used n text → Used pool used now → Next pool now used n text
static_used pool now used n text lt u s =
    let same : now ≡ with_text now text = with_static now text n (static_is pool n text lt u.text_is) in
    let count : used ≡ used_with used n = omega (arith, lt) in
    subst (λ (z : ℕ). Used pool z (with_text now text)) count (subst (λ (z : Texts). Used pool used z) same s)

pub below_by : (b : Bool) (i u : ℕ) → b ≡ nat_lt i u → (i < u) ⊎ (u ≤ i)
below_by true i u e = inl (grind (arith, nat_tests))
below_by false i u e = inr (grind (arith, nat_tests))

pub below_or_from : (i u : ℕ) → (i < u) ⊎ (u ≤ i)
below_or_from i u = below_by (nat_lt i u) i u refl

-- a text of the pool, by its place
pub place_of : (pool : Texts) (n : ℕ) (text : List ℕ) → IsOwnPool pool → FIRST_OWN ≤ n → text_numbered pool n ≡ Some text → slice_get pool.texts (n - FIRST_OWN) ≡ Some text
place_of pool n text own le e = sym (text_there pool (n - FIRST_OWN) n own.first (omega (arith, le))) ∙ (from_first_own pool n le ∙ e)

pub is_there : (texts : List (List ℕ)) (text : List ℕ) (used i : ℕ) → i < used → used ≤ length texts → slice_get texts i ≡ Some text → list_any (bytes_eq text) (take used texts) ≡ true
is_there texts text used i lt le e =
    let within : i < length (take used texts) = omega (arith, lt, le, length-take used texts) in
    let same : get_or (take used texts) i [] ≡ text = get_or-take used texts i [] lt ∙ get_or_from_slice_get texts i text [] e in
    list_any_at (bytes_eq text) (take used texts) i [] within ((bytes_eq-Decides text (get_or (take used texts) i [])).1 (sym same))

pub known_used : (pool now : Texts) (used i : ℕ) (text : List ℕ) → static_number_of text ≡ None → i < used → slice_get pool.texts i ≡ Some text → Used pool used now → now ≡ with_text now text
known_used pool now used i text own lt at s =
    let there : list_any (bytes_eq text) now.texts ≡ true = ap (list_any (bytes_eq text)) s.copied.texts_are ∙ is_there pool.texts text used i lt s.within at in
    let more : Texts = record { first = now.first; texts = now.texts ++ text ∷ [] } in
    let same : interned now text ≡ now = ap (λ (b : Bool). cond b now more) there in
    sym same ∙ with_own now text own

pub own_used : (pool now : Texts) (used n : ℕ) (text : List ℕ) → IsProper pool → FIRST_OWN ≤ n → IsUse pool used n text → Used pool used now → Next pool now used n text
own_used pool now used n text proper le u s =
    let i : ℕ = n - FIRST_OWN in
    let at = place_of pool n text proper.own le u.text_is in
    let own = (proper.own.each i text at).own in
    let turn = u.in_turn in
    let inside = slice_get_within pool.texts i text at in
    elim (below_or_from i used) [
      | inl lt ↦
          let count : used ≡ used_with used n = omega (arith, lt, le) in
          subst (λ (z : ℕ). Used pool z (with_text now text)) count (subst (λ (z : Texts). Used pool used z) (known_used pool now used i text own lt at s) s)
      | inr ge ↦
          let same : i ≡ used = omega (arith, ge, turn, le) in
          let count : i + 1 ≡ used_with used n = omega (arith, same, le) in
          let more = next_copied pool now (interned now text) i text proper.differ at (subst (λ (z : ℕ). Copied pool z now) (sym same) s.copied) refl in
          let whole : Used pool (i + 1) (with_text now text) = record { copied = subst (λ (z : Texts). Copied pool (i + 1) z) (with_own now text own) more; within = omega (arith, inside) } in
          subst (λ (z : ℕ). Used pool z (with_text now text)) count whole
    ]

-- a use of a number
pub used_further : (pool now : Texts) (used n : ℕ) (text : List ℕ) → IsProper pool → IsUse pool used n text → Used pool used now → Used pool (used_with used n) (with_text now text)
used_further pool now used n text proper u s = by (nat_lt n FIRST_OWN) n refl u
  where
    by : (b : Bool) (n : ℕ) → b ≡ nat_lt n FIRST_OWN → IsUse pool used n text → Next pool now used n text
    by true n e u = let lt : n < FIRST_OWN = grind (arith, nat_tests) in static_used pool now used n text lt u s
    by false n e u = let le : FIRST_OWN ≤ n = grind (arith, nat_tests) in own_used pool now used n text proper le u s
