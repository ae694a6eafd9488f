-- Names of modules that are found one after another.
use Rattle.std.proofs.Common.{◌≡◌, ℕ, zero, suc, ◌+◌, ◌<◌, ◌≤◌, List, [], ◌∷◌, ◌++◌, length, Option, Some, None, refl, sym, ap, subst, ◌∙◌, length-append, arith}
use Rattle.std.specs.Prelude.{slice_get, IsSome}
use Rattle.std.proofs.lemmas.Option.{slice_get_within}
use Rattle.bc_library.specs.declared.texts.Title.{Title}
use Rattle.bc_library.specs.Shelf.{Shelf, Named}
use Rattle.bc_library.specs.Texts as texts
use Rattle.vm_kept.specs.state_calls.frame_exits.declared.names.ModuleName.{ModuleName}
use Rattle.vm_starting.specs.Titles.{IsTitle, AreTitles}

-- the names of the first modules
pub record Front (shelf : Shelf) (i : ℕ) (names : List ModuleName) : Type 0 where
  pub count : length names ≡ i
  pub within : i ≤ length shelf.modules
  pub each : (k : ℕ) (m : ModuleName) (n : Named) → slice_get names k ≡ Some m → slice_get shelf.modules k ≡ Some n → IsTitle shelf.pool n.name m

pub none_yet : (shelf : Shelf) (names : List ModuleName) → names ≡ [] → Front shelf 0 names
none_yet shelf names e = record {
  count = ap length e;
  within = omega arith;
  each = λ k m n f g. absurd (let none : slice_get [] k ≡ Some m = subst (λ (z : List ModuleName). slice_get z k ≡ Some m) e f in cc);
}

data Place {A : Type 0} (xs : List A) (y : A) (i : ℕ) (x : A) : Type 0 where
  old : slice_get xs i ≡ Some x → Place xs y i x
  new : i ≡ length xs → y ≡ x → Place xs y i x

place : {A : Type 0} (xs : List A) (y : A) (i : ℕ) (x : A) → slice_get (xs ++ y ∷ []) i ≡ Some x → Place xs y i x
place [] y zero x e = new refl cc
place [] y (suc i) x e = absurd cc
place (z ∷ xs) y zero x e = old e
place (z ∷ xs) y (suc i) x e = elim (place xs y i x e) [ old f ↦ old f | new f g ↦ new (ap suc f) g ]

module_there : (shelf : Shelf) (i : ℕ) → IsSome (slice_get shelf.modules i) → i < length shelf.modules
module_there shelf i some = by (slice_get shelf.modules i) refl some
  where
    by : (o : Option Named) → slice_get shelf.modules i ≡ o → IsSome o → i < length shelf.modules
    by None e f = absurd cc
    by (Some n) e f = slice_get_within shelf.modules i n e

pub one_more : (shelf : Shelf) (i : ℕ) (names next : List ModuleName) (title : Title) (m : ModuleName) → Front shelf i names → IsSome (slice_get shelf.modules i)
    → ((n : Named) → slice_get shelf.modules i ≡ Some n → texts.IsTitle shelf.pool n.name title) → m.name ≡ title.name → m.last ≡ title.last → next ≡ names ++ m ∷ [] → Front shelf (i + 1) next
one_more shelf i names next title m front some is name_is last_is e =
    let lt = module_there shelf i some in
    let count = front.count in
    let len = length-append names (m ∷ []) in
    let same = ap length e in
    record {
      count = omega (arith, same, len, count);
      within = omega (arith, lt);
      each = λ k x n f g. by (place names m k x (ap (λ (z : List ModuleName). slice_get z k) (sym e) ∙ f)) n g;
    }
  where
    by : {k : ℕ} {x : ModuleName} → Place names m k x → (n : Named) → slice_get shelf.modules k ≡ Some n → IsTitle shelf.pool n.name x
    by {k} {x} (old f) n g = front.each k x n f g
    by {k} {x} (new f h) n g =
        let at : k ≡ i = f ∙ front.count in
        let t = is n (ap (λ (j : ℕ). slice_get shelf.modules j) (sym at) ∙ g) in
        subst (λ (z : ModuleName). IsTitle shelf.pool n.name z) h (record {
          name_is = ap (λ (j : ℕ). texts.text_numbered shelf.pool j) name_is ∙ t.name_is;
          last_is = ap (λ (j : ℕ). texts.text_numbered shelf.pool j) last_is ∙ t.last_is;
        })

beyond : {A : Type 0} (xs : List A) (i : ℕ) → slice_get xs i ≡ None → length xs ≤ i
beyond [] i e = omega arith
beyond (x ∷ xs) zero e = absurd cc
beyond (x ∷ xs) (suc i) e = let le = beyond xs i e in omega (arith, le)

pub absent : (shelf : Shelf) (i : ℕ) → (IsSome (slice_get shelf.modules i) → ⊥) → length shelf.modules ≤ i
absent shelf i none = by (slice_get shelf.modules i) refl none
  where
    by : (o : Option Named) → slice_get shelf.modules i ≡ o → (IsSome o → ⊥) → length shelf.modules ≤ i
    by None e h = beyond shelf.modules i e
    by (Some n) e h = absurd (h refl)

pub whole : (shelf : Shelf) (i : ℕ) (names : List ModuleName) → Front shelf i names → length shelf.modules ≤ i → AreTitles shelf names
whole shelf i names front le = let count = front.count in let within = front.within in record { as_many = omega (arith, le, count, within); each = front.each }
