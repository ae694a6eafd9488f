-- One put after another.
use Rattle.std.proofs.Common.{◌≡◌, ℕ, ◌+◌, ◌<◌, ◌≤◌, List, [], ◌∷◌, ◌++◌, length, map, drop, get_or, Option, Some, None, Result, Ok, Err, IsErr, refl, ap, sym, subst, ◌∙◌, append_assoc}
use Rattle.std.specs.Io.KnownBytes.{Appends}
use Rattle.std.proofs.KnownBytes.{Appends-trans}
use Rattle.std.proofs.lemmas.List.{append-nil, drop_more, drop_all}
use Rattle.std.specs.List.{flat_map}
use Rattle.mpy_io.specs.declared.fault.Failed.{Failed}
use Rattle.mpy_io.specs.Count.{Rose}
use Rattle.mpy_dump.specs.Numbered.{numbered}
use Rattle.mpy_dump.specs.Puts.{Puts}

-- a front of the text was put, and the rest is still to be put
pub record Partway {S : Type 0} (told : S → Option (List ℕ)) (count : S → ℕ) (old now : S) (text rest : List ℕ) : Type 0 where
  pub front : List ℕ
  pub parts : text ≡ front ++ rest
  pub put : Appends (told old) (told now) front
  pub count_is : count now ≡ count old

appends_none : (a : Option (List ℕ)) → Appends a a []
appends_none None = tt
appends_none (Some xs) = sym (append-nil xs)

pub begin : {S : Type 0} (told : S → Option (List ℕ)) (count : S → ℕ) (s : S) (text : List ℕ) → Partway told count s s text text
begin told count s text = record { front = []; parts = refl; put = appends_none (told s); count_is = refl }

pub step : {S : Type 0} {told : S → Option (List ℕ)} {count : S → ℕ} {old now next : S} {text piece : List ℕ} (rest : List ℕ) {u : Unit {0}} → Partway told count old now text (piece ++ rest) → Puts told count now next piece (Ok u) → Partway told count old next text rest
step {S} {told} {count} {old} {now} {next} {text} {piece} rest p q = record {
  front = p.front ++ piece;
  parts = p.parts ∙ sym (append_assoc p.front piece rest);
  put = Appends-trans (told old) (told now) (told next) p.front piece p.put q.ok;
  count_is = q.cause ∙ p.count_is;
}

pub stop : {S : Type 0} {told : S → Option (List ℕ)} {count : S → ℕ} {old now next : S} {text piece : List ℕ} (rest : List ℕ) (r : Result (Unit {0}) Failed) {f : Failed} → IsErr r → Partway told count old now text (piece ++ rest) → Puts told count now next piece (Err f) → Puts told count old next text r
stop rest (Ok u) e p q = absurd cc
stop {S} {told} {count} {old} {now} {next} {text} {piece} rest (Err g) e p q = record {
  ok = tt;
  err = record {
    front = p.front ++ q.err.front;
    rest = q.err.rest ++ rest;
    parts = p.parts ∙ (ap (λ (z : List ℕ). p.front ++ (z ++ rest)) q.err.parts
        ∙ (ap (λ (z : List ℕ). p.front ++ z) (append_assoc q.err.front q.err.rest rest) ∙ sym (append_assoc p.front q.err.front (q.err.rest ++ rest))));
    added = Appends-trans (told old) (told now) (told next) p.front q.err.front p.put q.err.added;
  };
  cause = subst (λ (n : ℕ). Rose n (count next)) p.count_is q.cause;
}

pub done : {S : Type 0} {told : S → Option (List ℕ)} {count : S → ℕ} {old now : S} {text : List ℕ} (u : Unit {0}) → Partway told count old now text [] → Puts told count old now text (Ok u)
done {S} {told} {count} {old} {now} {text} u p = record {
  ok = subst (Appends (told old) (told now)) (sym (p.parts ∙ append-nil p.front)) p.put;
  err = tt;
  cause = p.count_is;
}

to_nil : {S : Type 0} {told : S → Option (List ℕ)} {count : S → ℕ} {old now : S} {text : List ℕ} (rest : List ℕ) → Partway told count old now text rest → Partway told count old now text (rest ++ [])
to_nil {S} {told} {count} {old} {now} {text} rest p = subst (Partway told count old now text) (sym (append-nil rest)) p

pub last : {S : Type 0} {told : S → Option (List ℕ)} {count : S → ℕ} {old now next : S} {text rest : List ℕ} (r : Result (Unit {0}) Failed) → Partway told count old now text rest → Puts told count now next rest r → Puts told count old next text r
last {S} {told} {count} {old} {now} {next} {text} {rest} (Ok u) p q = done u (step [] (to_nil rest p) q)
last {S} {told} {count} {old} {now} {next} {text} {rest} (Err f) p q = stop [] (Err f) refl (to_nil rest p) q

-- the same for what is put for each item of a list
at_item : {A : Type 0} (f : A → List ℕ) (xs : List A) (i : ℕ) (d : A) → i < length xs → flat_map f (drop i xs) ≡ f (get_or xs i d) ++ flat_map f (drop (i + 1) xs)
at_item f xs i d within = ap (flat_map f) (drop_more xs i d within)

pub step_at : {S A : Type 0} {told : S → Option (List ℕ)} {count : S → ℕ} {old now next : S} {text : List ℕ} (f : A → List ℕ) (xs : List A) (i : ℕ) (d : A) {u : Unit {0}} → i < length xs → Partway told count old now text (flat_map f (drop i xs)) → Puts told count now next (f (get_or xs i d)) (Ok u) → Partway told count old next text (flat_map f (drop (i + 1) xs))
step_at {S} {A} {told} {count} {old} {now} {next} {text} f xs i d within p q =
    step (flat_map f (drop (i + 1) xs)) (subst (Partway told count old now text) (at_item f xs i d within) p) q

pub stop_at : {S A : Type 0} {told : S → Option (List ℕ)} {count : S → ℕ} {old now next : S} {text : List ℕ} (f : A → List ℕ) (xs : List A) (i : ℕ) (d : A) (r : Result (Unit {0}) Failed) {e : Failed} → IsErr r → i < length xs → Partway told count old now text (flat_map f (drop i xs)) → Puts told count now next (f (get_or xs i d)) (Err e) → Puts told count old next text r
stop_at {S} {A} {told} {count} {old} {now} {next} {text} f xs i d r is within p q =
    stop (flat_map f (drop (i + 1) xs)) r is (subst (Partway told count old now text) (at_item f xs i d within) p) q

-- and for what is put by numbers
at_number : {A : Type 0} (f : ℕ → A → List ℕ) (xs : List A) (i : ℕ) (d : A) (rest : List ℕ) → i < length xs → numbered f i (drop i xs) ++ rest ≡ f i (get_or xs i d) ++ (numbered f (i + 1) (drop (i + 1) xs) ++ rest)
at_number f xs i d rest within =
    ap (λ z. numbered f i z ++ rest) (drop_more xs i d within) ∙ append_assoc (f i (get_or xs i d)) (numbered f (i + 1) (drop (i + 1) xs)) rest

pub number : {S A : Type 0} {told : S → Option (List ℕ)} {count : S → ℕ} {old now : S} {text : List ℕ} (f : ℕ → A → List ℕ) (xs : List A) (i : ℕ) (x : A) (rest : List ℕ) → i < length xs → x ≡ get_or xs i x → Partway told count old now text (numbered f i (drop i xs) ++ rest) → Partway told count old now text (f i x ++ (numbered f (i + 1) (drop (i + 1) xs) ++ rest))
number {S} {A} {told} {count} {old} {now} {text} f xs i x rest within read p =
    subst (Partway told count old now text) (at_number f xs i x rest within ∙ ap (λ z. f i z ++ (numbered f (i + 1) (drop (i + 1) xs) ++ rest)) (sym read)) p

pub numbers_end : {S A : Type 0} {told : S → Option (List ℕ)} {count : S → ℕ} {old now : S} {text : List ℕ} (f : ℕ → A → List ℕ) (xs : List A) (i : ℕ) (rest : List ℕ) → length xs ≤ i → Partway told count old now text (numbered f i (drop i xs) ++ rest) → Partway told count old now text rest
numbers_end {S} {A} {told} {count} {old} {now} {text} f xs i rest past p = subst (Partway told count old now text) (ap (λ z. numbered f i z ++ rest) (drop_all i xs past)) p

pub numbered-map : {A B : Type 0} (f : ℕ → B → List ℕ) (g : A → B) (n : ℕ) (xs : List A) → numbered f n (map g xs) ≡ numbered (λ i x. f i (g x)) n xs
numbered-map f g n [] = refl
numbered-map f g n (x ∷ xs) = ap (λ z. f n (g x) ++ z) (numbered-map f g (n + 1) xs)

-- a piece or a text that is told by what it equals
pub puts_is : {S : Type 0} {told : S → Option (List ℕ)} {count : S → ℕ} {old new : S} {text other : List ℕ} {r : Result (Unit {0}) Failed} → text ≡ other → Puts told count old new text r → Puts told count old new other r
puts_is {S} {told} {count} {old} {new} {text} {other} {r} e p = subst (λ (z : List ℕ). Puts told count old new z r) e p

pub rest_is : {S : Type 0} {told : S → Option (List ℕ)} {count : S → ℕ} {old now : S} {text rest other : List ℕ} → rest ≡ other → Partway told count old now text rest → Partway told count old now text other
rest_is {S} {told} {count} {old} {now} {text} {rest} {other} e p = subst (Partway told count old now text) e p
