-- The names of modules below and of those that were read.
use Rattle.std.proofs.Common.{◌≡◌, ℕ, Bool, true, false, List, ◌++◌, refl, sym, ◌∙◌, subst, inl, inr}
use Rattle.std.specs.Prelude.{◌↔◌, Contains, IsTrue}
use Rattle.std.specs.List.{list_any}
use Rattle.std.specs.Str.{bytes_eq}
use Rattle.std.proofs.lemmas.List.Elements.{Contains-append_left, Contains-append_right, Contains-append_cases}
use Rattle.image_grammar.specs.bc_library.Shelf.{Shelf, names}
use Rattle.image_grammar.specs.declared.entry.Entry.{Entry}
use Rattle.image_grammar.specs.Opening.{names_of}
use Rattle.image_grammar.proofs.Fine.{named_there, not_named}
use Rattle.image_grammar.proofs.Steps.{not_true}

-- a module below or one of these has the name
abbrev pub IsNamed : Shelf → List Entry → List ℕ → Type 0
IsNamed below entries name = Contains (names below ++ names_of entries) name

abbrev pub among : List Entry → List ℕ → Bool
among entries name = list_any (λ (e : Entry). bytes_eq name e.name) entries

pub named_below : (below : Shelf) (entries : List Entry) (name : List ℕ) → Contains (names below) name → IsTrue true ↔ IsNamed below entries name
named_below below entries name has = (λ _. Contains-append_left (names below) (names_of entries) name has, λ _. refl)

is_among : (b : Bool) (below : Shelf) (entries : List Entry) (name : List ℕ) → b ≡ among entries name → Contains (names_of entries) name → b ≡ true
is_among true below entries name e has = refl
is_among false below entries name e has = absurd (not_named entries name (sym e) has)

pub named_here : (below : Shelf) (entries : List Entry) (name : List ℕ) (b c : Bool) → (Contains (names below) name → b ≡ true) → b ≡ false → c ≡ among entries name → IsTrue c ↔ IsNamed below entries name
named_here below entries name b c has none e = (
  λ is. Contains-append_right (names below) (names_of entries) name (named_there entries name (sym e ∙ is)),
  λ there. elim (Contains-append_cases (names below) (names_of entries) name there) [
    | inl front ↦ absurd (not_true b (has front) none)
    | inr behind ↦ is_among c below entries name e behind
  ],
)

pub other_name : (below : Shelf) (given entries : List Entry) (name : List ℕ) (b : Bool) → given ≡ entries → (IsTrue b ↔ IsNamed below given name) → b ≡ false → IsNamed below entries name → ⊥
other_name below given entries name b same is none has = not_true b (is.1 (subst (λ (z : List Entry). IsNamed below z name) (sym same) has)) none
