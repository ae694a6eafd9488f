-- The last part of a name: what stands behind its last dot.
use Rattle.std.proofs.Common.{◌≡◌, ◌==◌, ℕ, Bool, true, false, cond, nat_eq, arith, List, [], ◌∷◌, ◌++◌, reverse, Option, Some, None, refl, sym, ap, ◌∙◌}
use Rattle.std.specs.Prelude.{unwrap_or}
use Rattle.std.proofs.lemmas.Bool.Decides.{nat_tests}
use Rattle.std.proofs.lemmas.Grind.{reverse_onto}
use Rattle.std.specs.List.{slice_split, onto_first}
use Rattle.std.specs.Option.{option_or}
use Rattle.bc_progress.specs.py_effects.Modules.{first_of}
use Rattle.bc_progress.specs.py_effects.Modules as modules
use Rattle.vm_states.specs.bc_library.Texts.{last_part}
use Rattle.vm_starting.specs.Titles.{last_of}

-- the last of the parts
abbrev last_in : List (List ℕ) → List ℕ
last_in parts = first_of (reverse parts)

first_in : (xs ys : List (List ℕ)) (x : List ℕ) → first_of (xs ++ x ∷ ys) ≡ first_of (xs ++ x ∷ [])
first_in [] ys x = refl
first_in (z ∷ xs) ys x = refl

last_more : (part next : List ℕ) (parts : List (List ℕ)) → last_in (part ∷ next ∷ parts) ≡ last_in (next ∷ parts)
last_more part next parts =
    ap first_of (reverse_onto parts next (part ∷ [])) ∙ (first_in (reverse parts) (part ∷ []) next ∙ ap first_of (sym (reverse_onto parts next [])))

-- what the parts of a name say of its last one
abbrev Agrees : List ℕ → List (List ℕ) → Type 0
Agrees name [] = ⊥
Agrees name (part ∷ []) = (last_part name ≡ None) × (part ≡ name)
Agrees name (part ∷ next ∷ parts) = last_part name ≡ Some (last_in (next ∷ parts))

behind_dot : (x : ℕ) (name : List ℕ) (parts : List (List ℕ)) → (x == 46) ≡ true → Agrees name parts → Agrees (x ∷ name) ([] ∷ parts)
behind_dot x name [] dot h = absurd h
behind_dot x name (part ∷ []) dot h =
    ap (λ (b : Bool). option_or (last_part name) (cond b (Some name) None)) dot ∙ (ap (λ (o : Option (List ℕ)). option_or o (Some name)) h.0 ∙ ap Some (sym h.1))
behind_dot x name (part ∷ next ∷ parts) dot h =
    ap (λ (o : Option (List ℕ)). option_or o (cond (x == 46) (Some name) None)) h ∙ ap Some (sym (last_more part next parts))

no_dot : (x : ℕ) (name : List ℕ) (parts : List (List ℕ)) → (x == 46) ≡ false → Agrees name parts → Agrees (x ∷ name) (onto_first x parts)
no_dot x name [] other h = absurd h
no_dot x name (part ∷ []) other h = (
  ap (λ (b : Bool). option_or (last_part name) (cond b (Some name) None)) other ∙ ap (λ (o : Option (List ℕ)). option_or o None) h.0,
  ap (λ z. x ∷ z) h.1,
)
no_dot x name (part ∷ next ∷ parts) other h = ap (λ (o : Option (List ℕ)). option_or o (cond (x == 46) (Some name) None)) h

turned : (x : ℕ) → nat_eq 46 x ≡ (x == 46)
turned x = grind (arith, nat_tests)

agrees : (name : List ℕ) → Agrees name (slice_split (nat_eq 46) name)
agrees [] = (refl, refl)
agrees (x ∷ name) = by (nat_eq 46 x) (turned x) (agrees name)
  where
    by : (b : Bool) → b ≡ (x == 46) → Agrees name (slice_split (nat_eq 46) name) → Agrees (x ∷ name) (cond b ([] ∷ slice_split (nat_eq 46) name) (onto_first x (slice_split (nat_eq 46) name)))
    by true e h = behind_dot x name (slice_split (nat_eq 46) name) (sym e) h
    by false e h = no_dot x name (slice_split (nat_eq 46) name) (sym e) h

last_by : (name : List ℕ) (parts : List (List ℕ)) → Agrees name parts → last_in parts ≡ last_of name
last_by name [] h = absurd h
last_by name (part ∷ []) h = h.1 ∙ ap (λ (o : Option (List ℕ)). unwrap_or o name) (sym h.0)
last_by name (part ∷ next ∷ parts) h = last_more part next parts ∙ ap (λ (o : Option (List ℕ)). unwrap_or o name) (sym h)

-- it is the last of the parts between dots
pub last_is : (name : List ℕ) → modules.last_part name ≡ last_of name
last_is name = last_by name (slice_split (nat_eq 46) name) (agrees name)
