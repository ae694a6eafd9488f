-- Texts that are used in the order of the pool come in turn.
use Rattle.std.proofs.Common.{◌≡◌, ℕ, zero, suc, ◌+◌, ◌-◌, ◌<◌, ◌≤◌, Bool, true, false, not, cond, nat_lt, ◌&&◌, ◌||◌, List, [], ◌∷◌, ◌++◌, length, length-append, get_or, take, Option, Some, None, refl, sym, ap, ap₂, ◌∙◌, append_assoc, arith, inl, inr}
use Rattle.std.specs.Prelude.{slice_get, option_map, position}
use Rattle.std.specs.List.{list_any}
use Rattle.std.specs.Option.{option_or}
use Rattle.std.specs.Str.{bytes_eq}
use Rattle.std.proofs.lemmas.Bool.Decides.{nat_tests}
use Rattle.std.proofs.lemmas.List.{append-nil, take_at, length-take, take_all}
use Rattle.std.proofs.lemmas.List.Folds.{list_any_at}
use Rattle.std.proofs.lemmas.Option.{slice_get_within, get_or_from_slice_get}
use Rattle.std.proofs.lemmas.Slice.Eq.{bytes_eq-Decides}
use Rattle.qstr_pool.specs.declared.table.TheConstants.{FIRST_OWN}
use Rattle.qstr_pool.specs.Pool.{Texts, number_of, interned, all_differ}
use Rattle.qstr_pool.specs.Static.{static_number_of}
use Rattle.qstr_pool.proofs.Places.{absent}
use Rattle.image_grammar.specs.bc_library.Texts.{text_numbered, with_text, with_texts}
use Rattle.image_grammar.proofs.bc_library_lemmas.Pools.{Grown, same, grown, grows, with_own}
use Rattle.image_grammar.specs.Opening.{IsUse, number_in}
use Rattle.image_open.proofs.Uses.{IsProper, Used, below_or_from, place_of, is_there}

-- a pool begins with what it grew from
-- ====================================

abbrev pub with_behind : Texts → List (List ℕ) → Texts
with_behind now more = record { first = now.first; texts = now.texts ++ more }

abbrev pub Begins : Texts → Texts → Type 0
Begins now pool = (more : List (List ℕ)) × (pool ≡ with_behind now more)

pub begins_by : (now new : Texts) (text : List ℕ) → Grown now new text → Begins now new
begins_by now new text (same e) = ([], e ∙ ap (λ (z : List (List ℕ)). record { first = now.first; texts = z }) (sym (append-nil now.texts)))
begins_by now new text (grown e) = (text ∷ [], e)

pub begins_further : (a b c : Texts) → Begins a b → Begins b c → Begins a c
begins_further a b c (xs, e) (ys, f) =
    (xs ++ ys, f ∙ (ap (λ (z : Texts). with_behind z ys) e ∙ ap (λ (z : List (List ℕ)). record { first = a.first; texts = z }) (append_assoc a.texts xs ys)))

pub begins : (now : Texts) (left : List (List ℕ)) → Begins now (with_texts now left)
begins now [] = begins_by now now [] (same refl)
begins now (text ∷ left) = begins_further now (with_text now text) (with_texts (with_text now text) left) (begins_by now (with_text now text) text (grows now text)) (begins (with_text now text) left)

-- so all of its texts are used
pub used_all : (pool now : Texts) (left : List (List ℕ)) → pool ≡ with_texts now left → Used pool (length now.texts) now
used_all pool now left e =
    let b = begins now left in
    let whole : pool ≡ with_behind now b.0 = e ∙ b.1 in
    let texts : pool.texts ≡ now.texts ++ b.0 = ap (λ (z : Texts). z.texts) whole in
    let lengths : length pool.texts ≡ length now.texts + length b.0 = ap length texts ∙ length-append now.texts b.0 in
    record {
      copied = record { same_first = sym (ap (λ (z : Texts). z.first) whole); texts_are = sym (ap (take (length now.texts)) texts ∙ take_at now.texts b.0 (length now.texts) refl) };
      within = omega (arith, lengths);
    }

pub used_length : (pool now : Texts) (used : ℕ) → Used pool used now → length now.texts ≡ used
used_length pool now used s =
    let within = s.within in
    omega (arith, within, ap length s.copied.texts_are, length-take used pool.texts)

-- places
-- ======

pub any_further : (p : List ℕ → Bool) (xs : List (List ℕ)) (i k : ℕ) → i ≤ k → list_any p (take i xs) ≡ true → list_any p (take k xs) ≡ true
any_further p [] zero k le e = absurd cc
any_further p [] (suc i) k le e = absurd cc
any_further p (x ∷ xs) zero k le e = absurd cc
any_further p (x ∷ xs) (suc i) zero le e = absurd (omega (arith, le))
any_further p (x ∷ xs) (suc i) (suc k) le e = by (p x) e (λ f. any_further p xs i k (omega (arith, le)) f)
  where
    by : (a : Bool) → (a || list_any p (take i xs)) ≡ true → (list_any p (take i xs) ≡ true → list_any p (take k xs) ≡ true) → (a || list_any p (take k xs)) ≡ true
    by true e f = refl
    by false e f = f e

pub parts : (a b : Bool) → (not a && b) ≡ true → (a ≡ false) × (b ≡ true)
parts true b e = cc
parts false b e = (refl, e)

pub false_unless : (b : Bool) → (b ≡ true → true ≡ false) → b ≡ false
false_unless true e = e refl
false_unless false e = refl

pub no_other : (x text : List ℕ) (texts : List (List ℕ)) (i : ℕ) → list_any (bytes_eq x) texts ≡ false → slice_get texts i ≡ Some text → bytes_eq text x ≡ false
no_other x text texts i none e =
    false_unless (bytes_eq text x) (λ same.
    let is : text ≡ x = (bytes_eq-Decides text x).0 same in
    let there : get_or texts i [] ≡ text = get_or_from_slice_get texts i text [] e in
    let hit : bytes_eq x (get_or texts i []) ≡ true = (bytes_eq-Decides x (get_or texts i [])).1 (sym is ∙ sym there) in
    sym (list_any_at (bytes_eq x) texts i [] (slice_get_within texts i text e) hit) ∙ none)

-- no text before a place is the text there
pub not_before : (texts : List (List ℕ)) (text : List ℕ) (i : ℕ) → all_differ texts ≡ true → slice_get texts i ≡ Some text → list_any (bytes_eq text) (take i texts) ≡ false
not_before [] text i differ e = absurd cc
not_before (x ∷ texts) text zero differ e = refl
not_before (x ∷ texts) text (suc i) differ e =
    let p = parts (list_any (bytes_eq x) texts) (all_differ texts) differ in
    ap₂ (λ a b. a || b) (no_other x text texts i p.0 e) (not_before texts text i p.1 e)

pub last_is : (xs : List (List ℕ)) (x : List ℕ) → slice_get (xs ++ x ∷ []) (length xs) ≡ Some x
last_is [] x = refl
last_is (y ∷ ys) x = last_is ys x

pub at_place : (xs ys : List (List ℕ)) (n : ℕ) (x : List ℕ) → n < length xs → xs ≡ take (length xs) ys → slice_get xs n ≡ Some x → slice_get ys n ≡ Some x
at_place [] ys n x lt e h = absurd (omega (arith, lt))
at_place (z ∷ zs) [] n x lt e h = absurd cc
at_place (z ∷ zs) (y ∷ ys) zero x lt e h = let same : z ≡ y = cc in let is : z ≡ x = cc in ap Some (sym same ∙ is)
at_place (z ∷ zs) (y ∷ ys) (suc n) x lt e h = let rest : zs ≡ take (length zs) ys = cc in at_place zs ys n x (omega (arith, lt)) rest h

pub pushed_is : (now : Texts) (text : List ℕ) → static_number_of text ≡ None → list_any (bytes_eq text) now.texts ≡ false → (with_text now text).texts ≡ now.texts ++ text ∷ []
pushed_is now text own none =
    let more : Texts = record { first = now.first; texts = now.texts ++ text ∷ [] } in
    let is : interned now text ≡ more = ap (λ (b : Bool). cond b now more) none in
    ap (λ (z : Texts). z.texts) (sym (with_own now text own) ∙ is)

-- a text that is used now stands among the texts that are used, or next
pub turn_by : (pool now : Texts) (i : ℕ) (text : List ℕ) (b : Bool) → IsProper pool → static_number_of text ≡ None → slice_get pool.texts i ≡ Some text → Used pool (length now.texts) now → Used pool (length (with_text now text).texts) (with_text now text) → b ≡ list_any (bytes_eq text) now.texts → i < length now.texts + 1
turn_by pool now i text true proper own at s next e =
    let u = length now.texts in
    let there : list_any (bytes_eq text) (take u pool.texts) ≡ true = sym (ap (list_any (bytes_eq text)) s.copied.texts_are) ∙ sym e in
    let none = not_before pool.texts text i proper.differ at in
    elim (below_or_from i u) [
      | inl lt ↦ omega (arith, lt)
      | inr ge ↦ absurd (let more = any_further (bytes_eq text) pool.texts u i ge there in cc)
    ]
turn_by pool now i text false proper own at s next e =
    let u = length now.texts in
    let pushed = pushed_is now text own (sym e) in
    let count : length (with_text now text).texts ≡ u + 1 = ap length pushed ∙ length-append now.texts (text ∷ []) in
    let last : slice_get (with_text now text).texts u ≡ Some text = ap (λ (z : List (List ℕ)). slice_get z u) pushed ∙ last_is now.texts text in
    let there : slice_get pool.texts u ≡ Some text = at_place (with_text now text).texts pool.texts u text (omega (arith, count)) next.copied.texts_are last in
    let none = not_before pool.texts text i proper.differ at in
    elim (below_or_from u i) [
      | inr le ↦ omega (arith, le)
      | inl gt ↦ absurd (let more = is_there pool.texts text i u gt (let w = slice_get_within pool.texts i text at in omega (arith, w)) there in cc)
    ]

pub in_turn : (pool now : Texts) (n : ℕ) (text : List ℕ) (left : List (List ℕ)) → IsProper pool → pool ≡ with_texts now (text ∷ left) → text_numbered pool n ≡ Some text → IsUse pool (length now.texts) n text
in_turn pool now n text left proper e is = record { text_is = is; in_turn = by (nat_lt n FIRST_OWN) refl }
  where
    by : (b : Bool) → b ≡ nat_lt n FIRST_OWN → n ≤ FIRST_OWN + length now.texts
    by true k = let lt : n < FIRST_OWN = grind (arith, nat_tests) in omega (arith, lt)
    by false k =
        let le : FIRST_OWN ≤ n = grind (arith, nat_tests) in
        let at = place_of pool n text proper.own le is in
        let own = (proper.own.each (n - FIRST_OWN) text at).own in
        let turn = turn_by pool now (n - FIRST_OWN) text (list_any (bytes_eq text) now.texts) proper own at (used_all pool now (text ∷ left) e) (used_all pool (with_text now text) left e) refl in
        omega (arith, turn, le)

-- a text that is used has a number
-- ================================

pub present_by : (now : Texts) (text : List ℕ) (b : Bool) → static_number_of text ≡ None → b ≡ list_any (bytes_eq text) now.texts → list_any (bytes_eq text) (with_text now text).texts ≡ true
present_by now text true own e =
    let more : Texts = record { first = now.first; texts = now.texts ++ text ∷ [] } in
    let is : interned now text ≡ now = ap (λ (b : Bool). cond b now more) (sym e) in
    ap (λ (z : Texts). list_any (bytes_eq text) z.texts) (sym (with_own now text own) ∙ is) ∙ sym e
present_by now text false own e =
    let pushed = pushed_is now text own (sym e) in
    let all : List (List ℕ) = now.texts ++ text ∷ [] in
    let last : get_or all (length now.texts) [] ≡ text = get_or_from_slice_get all (length now.texts) text [] (last_is now.texts text) in
    ap (list_any (bytes_eq text)) pushed ∙ list_any_at (bytes_eq text) all (length now.texts) [] (let w = length-append now.texts (text ∷ []) in omega (arith, w)) ((bytes_eq-Decides text (get_or all (length now.texts) [])).1 (sym last))

pub unnumbered : (first : ℕ) (r : Option ℕ) → option_map (λ place. first + place) r ≡ None → r ≡ None
unnumbered first None e = refl
unnumbered first (Some i) e = cc

pub numbered_own : (pool now : Texts) (text : List ℕ) (left : List (List ℕ)) (r : Option ℕ) → pool ≡ with_texts now (text ∷ left) → static_number_of text ≡ None → r ≡ number_of pool text → (n : ℕ) × (r ≡ Some n)
numbered_own pool now text left (Some n) e own is = (n, refl)
numbered_own pool now text left None e own is =
    let none : list_any (bytes_eq text) pool.texts ≡ false = absent pool.texts text (unnumbered pool.first (position (bytes_eq text) pool.texts) (sym is)) in
    let s = used_all pool (with_text now text) left e in
    let k = length (with_text now text).texts in
    let there : list_any (bytes_eq text) (take k pool.texts) ≡ true = sym (ap (list_any (bytes_eq text)) s.copied.texts_are) ∙ present_by now text (list_any (bytes_eq text) now.texts) own refl in
    let all : list_any (bytes_eq text) (take (length pool.texts) pool.texts) ≡ true = any_further (bytes_eq text) pool.texts k (length pool.texts) s.within there in
    let whole : list_any (bytes_eq text) pool.texts ≡ true = ap (list_any (bytes_eq text)) (sym (take_all (length pool.texts) pool.texts (omega arith))) ∙ all in
    absurd cc

pub has_number : (pool now : Texts) (text : List ℕ) (left : List (List ℕ)) → pool ≡ with_texts now (text ∷ left) → (n : ℕ) × (number_in pool text ≡ Some n)
has_number pool now text left e = by (static_number_of text) refl
  where
    by : (o : Option ℕ) → o ≡ static_number_of text → (n : ℕ) × (option_or o (number_of pool text) ≡ Some n)
    by (Some n) is = (n, refl)
    by None is = numbered_own pool now text left (number_of pool text) e (sym is) refl
