-- Namespaces by their owners.
use Rattle.std.proofs.Common.{◌≡◌, ℕ, ◌<◌, ◌↔◌, Bool, List, length, get_or, Option, Some, None, IsTrue, refl, ap, ◌∙◌, arith}
use Rattle.std.specs.Prelude.{slice_get}
use Rattle.std.specs.Option.{option_map}
use Rattle.std.proofs.lemmas.Option.{slice_get_within, slice_get-get_or}
use Rattle.mpy_base.specs.World.{ADict}
use Rattle.snap_grammar.specs.declared.parts.ObjectPart.{ObjectPart}
use Rattle.snap_grammar.specs.declared.parts.Snapshot.{Snapshot}
use Rattle.snap_states.specs.declared.owners.Owner.{Owner}
use Rattle.snap_states.specs.declared.owners.Owner.TheVariants as owners
use Rattle.snap_states.specs.Knowing.{AreOwners, IsOwnedBelow}
use Rattle.snap_states.specs.Parts.{part_kind}
use Rattle.snap_states.specs.States.{IsAt, kind_at, IsNamespace, IsObject, NamesOf}
use Rattle.snap_states.proofs.Owning.{from_names, names_within, to_names}

module _ (s : Snapshot) (all : List Owner) (are : AreOwners s.objects all) (number : ℕ) where
  -- what the owner says
  abbrev Says : Owner → Type 0
  Says owner = IsOwnedBelow s.objects (length s.objects) number owner

  nobody_owns : Says owners.Nobody → (m : ℕ) → NamesOf s m number → ⊥
  nobody_owns says m n = says m (names_within s m number n) (to_names s m number n)

  one_is : Says owners.One → IsAt s ADict number → IsNamespace s number
  one_is says dict = record {
    dict = dict;
    owner = says.0;
    owns = from_names s says.0 number says.2;
    alone = λ m n. says.3 m (names_within s m number n) (to_names s m number n);
  }

  several_are_not : Says owners.Several → IsNamespace s number → ⊥
  several_are_not says n =
      let a = n.alone says.0 (from_names s says.0 number says.4) in
      let b = n.alone says.1 (from_names s says.1 number says.5) in
      omega (arith, says.2, a, b)

  -- a dict of one module
  pub by_one : slice_get all number ≡ Some owners.One → (r : Bool) → IsTrue r ↔ IsAt s ADict number → IsTrue r ↔ IsNamespace s number
  by_one at r dict = let says = are.each number owners.One at in (λ t. one_is says (dict.0 t), λ n. dict.1 n.dict)

  not_a_namespace : (o : Owner) → Says o → (o ≡ owners.One → ⊥) → IsNamespace s number → ⊥
  not_a_namespace owners.Nobody says never n = nobody_owns says n.owner n.owns
  not_a_namespace owners.One says never n = never refl
  not_a_namespace owners.Several says never n = several_are_not says n

  -- an object has an owner
  has_owner : number < length s.objects → (o : Owner) × (slice_get all number ≡ Some o)
  has_owner lt = (get_or all number owners.Nobody, slice_get-get_or all number owners.Nobody (omega (arith, lt, are.as_many)))

  dict_within : (o : Option ObjectPart) → slice_get s.objects number ≡ o → IsAt s ADict number → number < length s.objects
  dict_within None at dict = let none : kind_at s number ≡ None = ap (option_map part_kind) at in absurd cc
  dict_within (Some o) at dict = slice_get_within s.objects number o at

  -- no dict of one module
  pub by_other : (slice_get all number ≡ Some owners.One → ⊥) → IsNamespace s number → ⊥
  by_other never n =
      let owner = has_owner (dict_within (slice_get s.objects number) refl n.dict) in
      not_a_namespace owner.0 (are.each number owner.0 owner.1) (λ e. never (owner.1 ∙ ap Some e)) n

  -- an object that nobody owns
  pub by_nobody : slice_get all number ≡ Some owners.Nobody → IsObject s number
  by_nobody at = record {
    there = let lt = slice_get_within all number owners.Nobody at in omega (arith, lt, are.as_many);
    free = nobody_owns (are.each number owners.Nobody at);
  }

  owner_free : (o : Owner) → Says o → ((m : ℕ) → NamesOf s m number → ⊥) → o ≡ owners.Nobody
  owner_free owners.Nobody says free = refl
  owner_free owners.One says free = absurd (free says.0 (from_names s says.0 number says.2))
  owner_free owners.Several says free = absurd (free says.0 (from_names s says.0 number says.4))

  pub free_is : IsObject s number → slice_get all number ≡ Some owners.Nobody
  free_is o = let owner = has_owner o.there in owner.1 ∙ ap Some (owner_free owner.0 (are.each number owner.0 owner.1) o.free)

  owned_by_one : (o : Owner) → Says o → (o ≡ owners.Nobody → ⊥) → (m : ℕ) × NamesOf s m number
  owned_by_one owners.Nobody says never = absurd (never refl)
  owned_by_one owners.One says never = (says.0, from_names s says.0 number says.2)
  owned_by_one owners.Several says never = (says.0, from_names s says.0 number says.4)

  pub by_somebody : number < length s.objects → (slice_get all number ≡ Some owners.Nobody → ⊥) → (m : ℕ) × NamesOf s m number
  by_somebody lt never = let owner = has_owner lt in owned_by_one owner.0 (are.each number owner.0 owner.1) (λ e. never (owner.1 ∙ ap Some e))
