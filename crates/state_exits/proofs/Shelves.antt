-- The modules of a program by their names.
use Rattle.std.proofs.Common.{◌≡◌, ◌<◌, ℕ, zero, suc, List, [], ◌∷◌, length, get_or, Bool, true, false, Option, Some, None, slice_get, refl, sym, ap, ◌∙◌, subst}
use Rattle.std.specs.Prelude.{Contains, bytes_eq, position, is_some, ◌||◌, if◌then◌else◌}
use Rattle.std.specs.List.{list_any}
use Rattle.std.specs.Option.{option_map}
use Rattle.std.specs.Set.{is_member}
use Rattle.std.proofs.lemmas.Option.{none-some, same_Some, slice_get-map, slice_get-get_or, slice_get_within}
use Rattle.std.proofs.lemmas.Slice.Eq.{bytes_eq-Decides}
use Rattle.std.proofs.lemmas.List.Quantifiers.{position-Some}
use Rattle.std.proofs.lemmas.Map.Made.{is_member-Decides}
use Rattle.vm_states.specs.mpy_base.Val.{PlainWorld}
use Rattle.bc_progress.specs.py_effects.Modules.{registered_as, is_port}
use Rattle.vm_states.specs.bc_library.declared.fault.Member.TheVariants as members
use Rattle.vm_states.specs.bc_library.Shelf as shelves
use Rattle.vm_states.specs.bc_library.Shelf.{Shelf, Named, member_by, member_of}
use Rattle.vm_states.specs.bc_machine.Library.{Name}
use Rattle.vm_states.specs.bc_machine.Parts.{first_absent}

-- the module with the number has the name
pub record Stands (shelf : Shelf) (name : Name) (number : ℕ) : Type 0 where
  pub named : Named
  pub there : slice_get shelf.modules number ≡ Some named
  pub name_is : named.name ≡ name

found : (texts : List Name) (text : Name) (i : ℕ) → position (bytes_eq text) texts ≡ Some i → slice_get texts i ≡ Some text
found texts text i e =
    let at = position-Some (bytes_eq text) texts i [] e in
    let same : text ≡ get_or texts i [] = (bytes_eq-Decides text (get_or texts i [])).0 at.1 in
    slice_get-get_or texts i [] at.0 ∙ ap Some (sym same)

member_place : (place : Option ℕ) (b : Bool) (number : ℕ) → member_by place b ≡ Some (members.Module number) → place ≡ Some number
member_place (Some n) b number e = let same : n ≡ number = cc in ap (λ (k : ℕ). Some k) same
member_place None true number e = absurd cc
member_place None false number e = absurd cc

stands_by : (shelf : Shelf) (name : Name) (number : ℕ) (o : Option Named) → slice_get shelf.modules number ≡ o → option_map (λ (n : Named). n.name) o ≡ Some name → Stands shelf name number
stands_by shelf name number (Some n) there e = record { named = n; there = there; name_is = same_Some n.name name e }
stands_by shelf name number None there e = absurd (none-some name e)

pub member_stands : (shelf : Shelf) (name : Name) (number : ℕ) → member_of shelf name ≡ Some (members.Module number) → Stands shelf name number
member_stands shelf name number e =
    let place = member_place (position (bytes_eq name) (shelves.names shelf)) (list_any (bytes_eq name) shelf.refused) number e in
    stands_by shelf name number (slice_get shelf.modules number) refl
    (sym (slice_get-map (λ (n : Named). n.name) shelf.modules number) ∙ found (shelves.names shelf) name number place)

pub stands_within : (shelf : Shelf) (name : Name) (number : ℕ) → Stands shelf name number → number < length shelf.modules
stands_within shelf name number h = slice_get_within shelf.modules number h.named h.there

-- one of the names
member_at : (names : List Name) (i : ℕ) (name : Name) → slice_get names i ≡ Some name → is_member bytes_eq names name ≡ true
member_at [] i name e = absurd (none-some name e)
member_at (x ∷ names) zero name e = ap (λ (b : Bool). b || is_member bytes_eq names name) ((bytes_eq-Decides name x).1 (sym (same_Some x name e)))
member_at (x ∷ names) (suc i) name e = later (bytes_eq name x) (is_member bytes_eq names name) (member_at names i name e)
  where
    later : (a b : Bool) → b ≡ true → (a || b) ≡ true
    later true b h = refl
    later false b h = h

pub contains_at : (names : List Name) (i : ℕ) (name : Name) → slice_get names i ≡ Some name → Contains names name
contains_at names i name e = (is_member-Decides bytes_eq-Decides names name).0 (member_at names i name e)

pub stands_named : (shelf : Shelf) (name : Name) (number : ℕ) → Stands shelf name number → slice_get (shelves.names shelf) number ≡ Some name
stands_named shelf name number h =
    slice_get-map (λ (n : Named). n.name) shelf.modules number
    ∙ ap (λ (o : Option Named). option_map (λ (n : Named). n.name) o) h.there ∙ ap (λ (n : Name). Some n) h.name_is

-- an absent name is none of the registered ones
absent_by : (ms : List (Name × ℕ)) (name : Name) (o : Option ℕ) → registered_as ms name ≡ o → (b : Bool) → (is_some o || b) ≡ false → registered_as ms name ≡ None
absent_by ms name None e b h = e
absent_by ms name (Some n) e b h = absurd cc

either_absent : (w : PlainWorld) (name other : Name) (rest : Option Name) (b : Bool) → (is_some (registered_as w.modules name) || is_port name) ≡ b
    → (rest ≡ Some other → registered_as w.modules other ≡ None) → (if b then rest else Some name) ≡ Some other → registered_as w.modules other ≡ None
either_absent w name other rest true is f e = f e
either_absent w name other rest false is f e =
    subst (λ (n : Name). registered_as w.modules n ≡ None) (same_Some name other e) (absent_by w.modules name (registered_as w.modules name) refl (is_port name) is)

pub absent_none : (w : PlainWorld) (names : List Name) (other : Name) → first_absent w names ≡ Some other → registered_as w.modules other ≡ None
absent_none w [] other e = absurd (none-some other e)
absent_none w (name ∷ names) other e =
    either_absent w name other (first_absent w names) (is_some (registered_as w.modules name) || is_port name) refl (absent_none w names other) e
