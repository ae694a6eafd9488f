-- The module that a name leads to.
use Rattle.std.proofs.Common.{◌≡◌, ℕ, zero, suc, ◌<◌, Bool, true, false, List, [], ◌∷◌, length, map, get_or, Option, Some, None, IsSome, position, refl, sym, ap, ◌∙◌, arith}
use Rattle.std.specs.Prelude.{slice_get}
use Rattle.std.specs.List.{list_any}
use Rattle.std.specs.Str.{bytes_eq}
use Rattle.std.proofs.lemmas.Slice.Eq.{bytes_eq-Decides}
use Rattle.std.proofs.lemmas.List.Quantifiers.{position-Some}
use Rattle.bc_library.specs.declared.fault.Member.{Member}
use Rattle.bc_library.specs.Shelf.{Shelf, Named, names, member_by, member_of}
use Rattle.board_plan.specs.declared.plan.Task.{Task}
use Rattle.board_tasks.specs.Opened.{number_by, number_of, missing_by, first_missing}

-- a module with this number and this name
pub record Has (shelf : Shelf) (name : List ℕ) (number : ℕ) : Type 0 where
  pub n : Named
  pub there : slice_get shelf.modules number ≡ Some n
  pub named : n.name ≡ name

name_at : (modules : List Named) (i : ℕ) → i < length (map (λ (n : Named). n.name) modules)
    → (n : Named) × (slice_get modules i ≡ Some n) × (get_or (map (λ (n : Named). n.name) modules) i [] ≡ n.name)
name_at [] i h = absurd (omega (arith, h))
name_at (m ∷ modules) zero h = (m, refl, refl)
name_at (m ∷ modules) (suc i) h = name_at modules i (omega (arith, h))

placed : (place : Option ℕ) (is_refused : Bool) (number : ℕ) → number_by (member_by place is_refused) ≡ Some number → place ≡ Some number
placed (Some place) is_refused number e = e
placed None true number e = absurd cc
placed None false number e = absurd cc

pub found : (shelf : Shelf) (name : List ℕ) (number : ℕ) → number_of shelf name ≡ Some number → Has shelf name number
found shelf name number e =
    let at = position-Some (bytes_eq name) (names shelf) number [] (placed (position (bytes_eq name) (names shelf)) (list_any (bytes_eq name) shelf.refused) number e) in
    let n = name_at shelf.modules number at.0 in
    record { n = n.0; there = n.1; named = sym ((bytes_eq-Decides name (get_or (names shelf) number [])).0 at.1 ∙ n.2) }

-- where none is missing each is there
first_there : (name : List ℕ) (number : Option ℕ) (others : Option (List ℕ)) → missing_by name number others ≡ None → IsSome number × (others ≡ None)
first_there name None others e = absurd cc
first_there name (Some number) others e = (refl, e)

pub each_there : (shelf : Shelf) (task : Task) (tasks : List Task) → first_missing shelf (task ∷ tasks) ≡ None → IsSome (number_of shelf task.«module») × (first_missing shelf tasks ≡ None)
each_there shelf task tasks e = first_there task.«module» (number_of shelf task.«module») (first_missing shelf tasks) e
