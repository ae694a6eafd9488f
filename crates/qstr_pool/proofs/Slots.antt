-- Each of the texts is found in its slot, and a text that isn't the one in its slot is none of them.
use Rattle.std.proofs.Common.{◌≡◌, ℕ, zero, suc, ◌+◌, Bool, true, false, ◌&&◌, nat_eq, nat_lt, List, [], ◌∷◌, length, map, get_or, Bor, Option, Some, None, is_some, option_map, option_copied, position, slice_get, refl, sym, ap, ◌∙◌, zero-add, eqb-true, arith}
use Rattle.std.specs.Prelude.{IfSome}
use Rattle.std.specs.Str.{bytes_eq}
use Rattle.std.proofs.lemmas.Bool.{ltb-true}
use Rattle.std.proofs.lemmas.Bool.Decides.{nat_tests}
use Rattle.std.proofs.lemmas.Option.{slice_get_read, slice_get_past, slice_get-map}
use Rattle.qstr_pool.specs.Pool as specs
use Rattle.qstr_pool.specs.Slot.{slot}
use Rattle.qstr_pool.specs.Static.{static_texts, static_number_of}
use Rattle.qstr_pool.specs.declared.table.TheConstants.{PLACES}
use Rattle.qstr_pool.proofs.Places.{found, stands}

-- the place in the slot of a text
unfoldable pub slotted : List ℕ → ℕ
slotted text = get_or PLACES (slot text) 0

-- whether these texts, the first of which has the place that is given, have slots with their places
are_slotted : ℕ → List (List ℕ) → Bool
are_slotted place [] = true
are_slotted place (text ∷ texts) = nat_eq (slotted text) place && are_slotted (suc place) texts

all_slotted : are_slotted 0 static_texts ≡ true
unfolding are_slotted slotted
all_slotted = refl

pub all_differ : specs.all_differ static_texts ≡ true
all_differ = refl

both : (a b : Bool) → (a && b) ≡ true → (a ≡ true) × (b ≡ true)
both true b e = (refl, e)
both false b e = cc

-- a text that stands among them is the one in its slot
in_slot : (place : ℕ) (texts : List (List ℕ)) (text : List ℕ) (i : ℕ) → are_slotted place texts ≡ true → slice_get texts i ≡ Some text → slotted text ≡ place + i
unfolding are_slotted
in_slot place [] text i e at = cc
in_slot place (x ∷ texts) text zero e at =
    let p = both (nat_eq (slotted x) place) (are_slotted (suc place) texts) e in
    let is : x ≡ text = cc in
    sym (ap slotted is) ∙ (eqb-true (slotted x) place p.0 ∙ omega arith)
in_slot place (x ∷ texts) text (suc i) e at =
    let p = both (nat_eq (slotted x) place) (are_slotted (suc place) texts) e in
    in_slot (suc place) texts text i p.1 at ∙ omega arith

-- the number of the text at a place
pub number_at : (text : List ℕ) (place : ℕ) → slice_get static_texts place ≡ Some text → Some (1 + place) ≡ static_number_of text
number_at text place at = sym (ap (option_map (λ i. 1 + i)) (stands static_texts text place all_differ at))

none_by : (text : List ℕ) (r : Option ℕ) → position (bytes_eq text) static_texts ≡ r → (slice_get static_texts (slotted text) ≡ Some text → ⊥) → None ≡ option_map (λ i. 1 + i) r
none_by text None e other = refl
none_by text (Some i) e other =
    let at = found static_texts text i e in
    absurd (other (ap (slice_get static_texts) (in_slot 0 static_texts text i all_slotted at ∙ zero-add i) ∙ at))

-- a text that isn't the one in its slot has no number
pub no_number : (text : List ℕ) → (slice_get static_texts (slotted text) ≡ Some text → ⊥) → None ≡ static_number_of text
no_number text other = none_by text (position (bytes_eq text) static_texts) refl other

-- what `get` and `copied` read of texts behind references
pub read : (texts : List (Bor (List ℕ))) (i : ℕ) (r : Option (Bor (Bor (List ℕ)))) → is_some r ≡ nat_lt i (length texts) → IfSome r (λ x. x.now ≡ get_or texts i x.now) → option_copied (option_copied r) ≡ option_map (λ text. text.now) (slice_get texts i)
read texts i None e h = ap (option_map (λ text. text.now)) (sym (slice_get_past texts i (grind (arith, nat_tests))))
read texts i (Some x) e h = ap (option_map (λ text. text.now)) (sym (slice_get_read texts (length texts) i x.now refl (ltb-true i (length texts) (sym e)) h))

abbrev bytes_of : Bor (List ℕ) → List ℕ
bytes_of text = text.now

-- the place in the slot of a text, as the code reads it
pub its_place : (text : List ℕ) (slot_is place : ℕ) → slot_is ≡ slot text → place ≡ get_or PLACES slot_is 0 → place ≡ slotted text
unfolding slotted
its_place text slot_is place at is = is ∙ ap (λ s. get_or PLACES s 0) at

-- and what stands there
pub stands_there : (text : List ℕ) (texts : List (Bor (List ℕ))) (slot_is place : ℕ) (r : Option (Bor (Bor (List ℕ)))) → slot_is ≡ slot text → place ≡ get_or PLACES slot_is 0 → map bytes_of texts ≡ static_texts → is_some r ≡ nat_lt place (length texts) → IfSome r (λ x. x.now ≡ get_or texts place x.now)
    → option_copied (option_copied r) ≡ slice_get static_texts (slotted text)
stands_there text texts slot_is place r at is are e h =
    read texts place r e h ∙ (sym (slice_get-map bytes_of texts place) ∙ (ap (λ (ts : List (List ℕ)). slice_get ts place) are ∙ ap (slice_get static_texts) (its_place text slot_is place at is)))
