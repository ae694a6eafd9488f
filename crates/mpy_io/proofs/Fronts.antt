-- A piece of which a front goes out, and whether a call is listed.
use Rattle.std.proofs.Common.{◌≡◌, ◌↔◌, ℕ, List, ◌++◌, drop, get_or, Some, Bool, true, false, not, ◌||◌, IsTrue, Contains, Result, Ok, Err, OnOk, OnErr, is_ok, is_err, eqb, refl, sym, ap, subst, inl, inr, arith}
use Rattle.std.proofs.lemmas.List.{take-append-drop}
use Rattle.std.proofs.lemmas.Bool.Decides.{nat_tests, Decides-eqb}
use Rattle.std.specs.List.{IsAnyAnswer}
use Rattle.mpy_io.specs.Told.{AppendsFront}
use Rattle.mpy_io.specs.Files.{Sets, appended, BecomesFront, AppendsFileFront}
use Rattle.mpy_io.specs.Memory.{half, left_of, file_of}

pub half_parts : (piece : List ℕ) → (rest : List ℕ) × (piece ≡ half piece ++ rest)
half_parts piece = (drop _ piece, sym (take-append-drop _ piece))

pub half_added : (old new piece : List ℕ) → new ≡ old ++ half piece → AppendsFront (Some old) (Some new) piece
half_added old new piece e =
    record { front = half piece; rest = (half_parts piece).0; parts = (half_parts piece).1; added = e }

differs : (y x : ℕ) → eqb y x ≡ false → y ≡ x → ⊥
differs y x apart same = grind (arith, nat_tests)

-- what `contains` answers
pub listed_is : (xs : List ℕ) (x : ℕ) (r : Bool) → IsAnyAnswer (λ y b. eqb y x ≡ b) xs r → IsTrue r ↔ Contains xs x
listed_is xs x true h = (λ _. (h.0, h.1, (Decides-eqb (get_or xs h.0 x) x).0 (h.2 x)), λ _. refl)
listed_is xs x false h =
    (λ no_such. cc, λ found. absurd (differs (get_or xs found.0 x) x (h found.0 x (omega arith) found.1) found.2))

pub is_listed : (xs ys : List ℕ) (x y : ℕ) (r : Bool) → IsAnyAnswer (λ z b. eqb z x ≡ b) xs r → xs ≡ ys → x ≡ y → IsTrue r ↔ Contains ys y
is_listed xs ys x y r h e f =
    let P : List ℕ → Type 0 = λ zs. IsTrue r ↔ Contains zs y in
    let Q : ℕ → Type 0 = λ z. IsTrue r ↔ Contains xs z in
    subst P e (subst Q f (listed_is xs x r h))

abbrev Entries : Type 0
Entries = List (List ℕ × List ℕ)

-- after a write that failed
written_front : {X E A B : Type 0} (r : Result X E) (stored : Result A B) (listed : Bool) (held later : Entries) (name bytes : List ℕ) → is_err r ≡ (listed || not (is_ok stored)) → OnOk stored (Sets (file_of held) (file_of later) name (left_of listed bytes)) → OnErr stored (later ≡ held) → OnErr r (BecomesFront (Some (file_of held)) (Some (file_of later)) name bytes)
written_front (Ok _) stored listed held later name bytes failed sets kept = tt
written_front (Err _) (Ok _) true held later name bytes failed sets kept =
    inr (half bytes, (half_parts bytes).0, (half_parts bytes).1, (file_of later, refl, sets))
written_front (Err _) (Ok _) false held later name bytes failed sets kept = cc
written_front (Err _) (Err _) listed held later name bytes failed sets kept = inl (ap (λ (e : Entries). Some (file_of e)) kept)

pub write_front : {X E A B : Type 0} (r : Result X E) (stored : Result A B) (listed : Bool) (held later old new : Entries) (name bytes left : List ℕ) → is_err r ≡ (listed || not (is_ok stored)) → OnOk stored (Sets (file_of held) (file_of later) name left) → OnErr stored (later ≡ held) → left ≡ left_of listed bytes → held ≡ old → later ≡ new → OnErr r (BecomesFront (Some (file_of old)) (Some (file_of new)) name bytes)
write_front r stored listed held later old new name bytes left failed sets kept cut before after =
    let P : List ℕ → Type 0 = λ piece. OnOk stored (Sets (file_of held) (file_of later) name piece) in
    let front = written_front r stored listed held later name bytes failed (subst P cut sets) kept in
    let Q : Entries → Type 0 = λ e. OnErr r (BecomesFront (Some (file_of e)) (Some (file_of later)) name bytes) in
    let R : Entries → Type 0 = λ e. OnErr r (BecomesFront (Some (file_of old)) (Some (file_of e)) name bytes) in
    subst R after (subst Q before front)

-- after an append that failed
appended_front : {X E A B : Type 0} (r : Result X E) (stored : Result A B) (listed : Bool) (held later : Entries) (name bytes : List ℕ) → is_err r ≡ (listed || not (is_ok stored)) → OnOk stored (Sets (file_of held) (file_of later) name (appended (file_of held name) (left_of listed bytes))) → OnErr stored (later ≡ held) → OnErr r (AppendsFileFront (Some (file_of held)) (Some (file_of later)) name bytes)
appended_front (Ok _) stored listed held later name bytes failed sets kept = tt
appended_front (Err _) (Ok _) true held later name bytes failed sets kept =
    inr (half bytes, (half_parts bytes).0, (half_parts bytes).1, (file_of later, refl, sets))
appended_front (Err _) (Ok _) false held later name bytes failed sets kept = cc
appended_front (Err _) (Err _) listed held later name bytes failed sets kept = inl (ap (λ (e : Entries). Some (file_of e)) kept)

pub append_front : {X E A B : Type 0} (r : Result X E) (stored : Result A B) (listed : Bool) (held later old new : Entries) (name bytes left : List ℕ) → is_err r ≡ (listed || not (is_ok stored)) → OnOk stored (Sets (file_of held) (file_of later) name (appended (file_of held name) left)) → OnErr stored (later ≡ held) → left ≡ left_of listed bytes → held ≡ old → later ≡ new → OnErr r (AppendsFileFront (Some (file_of old)) (Some (file_of new)) name bytes)
append_front r stored listed held later old new name bytes left failed sets kept cut before after =
    let P : List ℕ → Type 0 = λ piece. OnOk stored (Sets (file_of held) (file_of later) name (appended (file_of held name) piece)) in
    let front = appended_front r stored listed held later name bytes failed (subst P cut sets) kept in
    let Q : Entries → Type 0 = λ e. OnErr r (AppendsFileFront (Some (file_of e)) (Some (file_of later)) name bytes) in
    let R : Entries → Type 0 = λ e. OnErr r (AppendsFileFront (Some (file_of old)) (Some (file_of e)) name bytes) in
    subst R after (subst Q before front)
