-- A piece that is written in parts.
use Rattle.std.proofs.Common.{◌≡◌, ℕ, ◌-◌, ◌<◌, ◌≤◌, List, [], ◌++◌, length, take, drop, Option, Some, None, IfSome, Result, Ok, Err, OnErr, option_map, sym, ap, subst, ◌∙◌, append_assoc, arith}
use Rattle.std.proofs.lemmas.List.{take-append-drop, take_rest, take_all, length-take-le}
use Rattle.std.proofs.KnownBytes.{Appends-trans}
use Rattle.std.specs.Io.KnownBytes.{Appends, Keeps}
use Rattle.mpy_io.specs.declared.fault.Failed.{Failed}
use Rattle.mpy_io.specs.Told.{AppendsFront}

-- the front of the piece was written, and the rest is left
pub record Halfway (old new : Option (List ℕ)) (piece rest : List ℕ) : Type 0 where
  pub front : List ℕ
  pub parts : piece ≡ front ++ rest
  pub added : Appends old new front

pub wrote_more : (old mid new : Option (List ℕ)) (piece rest later : List ℕ) (n : ℕ) → Halfway old mid piece rest → Appends mid new (take n rest) → later ≡ take (length rest - n) (drop n rest) → Halfway old new piece later
wrote_more old mid new piece rest later n half more e = record {
  front = half.front ++ take n rest;
  parts = half.parts ∙ (ap (λ (xs : List ℕ). half.front ++ xs) (sym (take-append-drop n rest)) ∙ (sym (append_assoc half.front (take n rest) (drop n rest)) ∙ ap (λ (xs : List ℕ). (half.front ++ take n rest) ++ xs) (sym (take_rest rest n) ∙ sym e)));
  added = Appends-trans old mid new half.front (take n rest) half.added more;
}

still_added : (old mid new : Option (List ℕ)) (front : List ℕ) → Appends old mid front → Keeps mid new → Appends old new front
still_added None mid new front p q = tt
still_added (Some x) None new front p q = absurd p
still_added (Some x) (Some y) None front p q = absurd q
still_added (Some x) (Some y) (Some z) front p q = q ∙ p

pub wrote_none : (old mid new : Option (List ℕ)) (piece rest later : List ℕ) → Halfway old mid piece rest → Keeps mid new → later ≡ rest → Halfway old new piece later
wrote_none old mid new piece rest later half same e = record {
  front = half.front;
  parts = half.parts ∙ ap (λ (xs : List ℕ). half.front ++ xs) (sym e);
  added = still_added old mid new half.front half.added same;
}

parts_of : (piece later : List ℕ) (n : ℕ) → later ≡ take (length piece - n) (drop n piece) → piece ≡ take n piece ++ later
parts_of piece later n e =
    sym (take-append-drop n piece) ∙ ap (λ (xs : List ℕ). take n piece ++ xs) (sym (take_rest piece n) ∙ sym e)

-- behind the front that a first write took, the rest was cut
pub cut_in_rest : (old mid new : Option (List ℕ)) (piece later : List ℕ) (n : ℕ) (r : Result (Unit {0}) Failed) → Appends old mid (take n piece) → later ≡ take (length piece - n) (drop n piece) → OnErr r (AppendsFront mid new later) → OnErr r (AppendsFront old new piece)
cut_in_rest old mid new piece later n (Ok _) added e cut = tt
cut_in_rest old mid new piece later n (Err _) added e cut = record {
  front = take n piece ++ cut.front;
  rest = cut.rest;
  parts = parts_of piece later n e ∙ (ap (λ (xs : List ℕ). take n piece ++ xs) cut.parts ∙ sym (append_assoc (take n piece) cut.front cut.rest));
  added = Appends-trans old mid new (take n piece) cut.front added cut.added;
}

is_shorter : (xs : List ℕ) (limit : ℕ) → length (take limit xs) < limit → length xs < limit
is_shorter xs limit below = grind (arith, length-take-le limit xs)

-- what was read below the limit is all that there was
read_whole : (known : Option (List ℕ)) (limit : ℕ) (old new : List ℕ) → IfSome (option_map (take limit) known) (λ xs. new ≡ old ++ xs) → old ≡ [] → length new < limit → IfSome known (λ xs. Some xs ≡ Some new)
read_whole None limit old new read empty below = tt
read_whole (Some xs) limit old new read empty below =
    let taken : new ≡ take limit xs = read ∙ ap (λ (ys : List ℕ). ys ++ take limit xs) empty in
    let short : length xs < limit = is_shorter xs limit (subst (λ (ys : List ℕ). length ys < limit) taken below) in
    let whole : length xs ≤ limit = omega arith in
    ap (λ (ys : List ℕ). Some ys) (sym (taken ∙ take_all limit xs whole))

pub read_is_whole : (known before : Option (List ℕ)) (limit : ℕ) (old new : List ℕ) → IfSome (option_map (take limit) before) (λ xs. new ≡ old ++ xs) → before ≡ known → old ≡ [] → length new < limit → IfSome known (λ xs. Some xs ≡ Some new)
read_is_whole known before limit old new read same empty below =
    subst (λ (all : Option (List ℕ)). IfSome all (λ xs. Some xs ≡ Some new)) same (read_whole before limit old new read empty below)
