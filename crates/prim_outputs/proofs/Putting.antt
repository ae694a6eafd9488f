-- What a pen over a sink puts.
use Rattle.std.proofs.Common.{◌≡◌, ℕ, List, [], ◌∷◌, ◌++◌, Bool, true, false, Option, refl, sym, ap, ◌∙◌, subst, append_assoc}
use Rattle.std.specs.Io.KnownBytes.{Appends}
use Rattle.std.specs.List.{flat_map}
use Rattle.std.proofs.KnownBytes.{Appends-nil, Appends-trans}
use Rattle.mpy_io.specs.Count.{Counts}
use Rattle.mpy_io.specs.Told.{AppendsFront}
use Rattle.prim_builtins.specs.prim_walks.Pens.{Chain, Wrote}
use Rattle.prim_outputs.specs.Prints.{Puts, PutsOn}

front_more : (a b : Option (List ℕ)) (x y : List ℕ) → AppendsFront a b x → AppendsFront a b (x ++ y)
front_more a b x y f = record { front = f.front; rest = f.rest ++ y; parts = ap (λ (z : List ℕ). z ++ y) f.parts ∙ append_assoc f.front f.rest y; added = f.added }

front_behind : (a b c : Option (List ℕ)) (x y : List ℕ) → Appends a b x → AppendsFront b c y → AppendsFront a c (x ++ y)
front_behind a b c x y p f = record {
  front = x ++ f.front;
  rest = f.rest;
  parts = ap (λ (z : List ℕ). x ++ z) f.parts ∙ sym (append_assoc x f.front f.rest);
  added = Appends-trans a b c x f.front p f.added;
}

module _ {S : Type 0} (told : S → Option (List ℕ)) (count : S → ℕ) where
  puts_nothing : (f : Bool) (s : S) → PutsOn told count f s s f []
  puts_nothing true s = (refl, refl)
  puts_nothing false s = record { whole = λ e. Appends-nil (told s); front = λ e. absurd cc; cause = refl }

  after_fine : (old mid new : S) (h : Bool) (x y : List ℕ) → Puts told count old mid false x → Puts told count mid new h y → Puts told count old new h (x ++ y)
  after_fine old mid new h x y p q = record {
    whole = λ e. Appends-trans (told old) (told mid) (told new) x y (p.whole refl) (q.whole e);
    front = λ e. front_behind (told old) (told mid) (told new) x y (p.whole refl) (q.front e);
    cause = subst (λ (n : ℕ). Counts n (count new) h) p.cause q.cause;
  }

  after_failed : (old mid new : S) (h : Bool) (x y : List ℕ) → Puts told count old mid true x → new ≡ mid → h ≡ true → Puts told count old new h (x ++ y)
  after_failed old mid new h x y p e failed =
      let same : Puts told count old mid true (x ++ y) = record { whole = λ f. absurd cc; front = λ f. front_more (told old) (told mid) x y (p.front refl); cause = p.cause } in
      subst (λ (b : Bool). Puts told count old new b (x ++ y)) (sym failed) (subst (λ (s : S). Puts told count old s true (x ++ y)) (sym e) same)

  puts_then : (f g h : Bool) (old mid new : S) (x y : List ℕ) → PutsOn told count f old mid g x → PutsOn told count g mid new h y → PutsOn told count f old new h (x ++ y)
  puts_then true true h old mid new x y p q = (q.0 ∙ p.0, q.1)
  puts_then true false h old mid new x y p q = absurd (let e = p.1 in cc)
  puts_then false true h old mid new x y p q = after_failed old mid new h x y p q.0 q.1
  puts_then false false h old mid new x y p q = after_fine old mid new h x y p q

  -- a pen that puts its pieces
  module _ {P N : Type 0} (Takes : P → List ℕ → P → Type 0) (name : P → N) (failed : P → Bool) (sink : P → S)
      (reads : (old : P) (piece : List ℕ) (new : P) → Takes old piece new → (name new ≡ name old) × PutsOn told count (failed old) (sink old) (sink new) (failed new) piece) where
    chain_puts : (pieces : List (List ℕ)) (old new : P) → Chain Takes old pieces new
        → (name new ≡ name old) × PutsOn told count (failed old) (sink old) (sink new) (failed new) (flat_map (λ (piece : List ℕ). piece) pieces)
    chain_puts [] old new h =
        subst (λ (p : P). (name p ≡ name old) × PutsOn told count (failed old) (sink old) (sink p) (failed p) []) (sym h) (refl, puts_nothing (failed old) (sink old))
    chain_puts (piece ∷ pieces) old new h =
        let first = reads old piece h.mid h.taken in
        let others = chain_puts pieces h.mid new h.rest in
        (others.0 ∙ first.0, puts_then (failed old) (failed h.mid) (failed new) (sink old) (sink h.mid) (sink new) piece (flat_map (λ (p : List ℕ). p) pieces) first.1 others.1)

    pub wrote_puts : (old new : P) (text : List ℕ) → Wrote Takes old text new → (name new ≡ name old) × PutsOn told count (failed old) (sink old) (sink new) (failed new) text
    wrote_puts old new text w =
        subst (λ (t : List ℕ). (name new ≡ name old) × PutsOn told count (failed old) (sink old) (sink new) (failed new) t) w.whole (chain_puts w.pieces old new w.chain)
