-- Counting the modules that have a dict as their own.
use Rattle.std.proofs.Common.{◌≡◌, ℕ, ◌+◌, ◌<◌, ◌≤◌, inl, inr, Bool, true, false, List, length, get_or, Some, refl, sym, ap, subst, ◌∙◌, arith, if◌then◌else◌}
use Rattle.std.specs.Prelude.{slice_get}
use Rattle.std.proofs.lemmas.Bool.{cases_lt, eqb-true, eq-eqb, false≢true}
use Rattle.std.proofs.lemmas.Option.{slice_get_within, slice_get_read, slice_get-get_or}
use Rattle.snap_grammar.specs.declared.parts.ObjectPart.{ObjectPart}
use Rattle.snap_grammar.specs.declared.parts.ObjectPart.TheVariants as objects
use Rattle.snap_grammar.specs.declared.parts.Snapshot.{Snapshot}
use Rattle.snap_states.specs.declared.owners.Owner.{Owner}
use Rattle.snap_states.specs.declared.owners.Owner.TheVariants as owners
use Rattle.snap_states.specs.Knowing.{AreOwners, AreOwnersBelow, IsOwnedBelow, Names, names_it, owned_by, owner_with}
use Rattle.snap_states.specs.States.{NamesOf}

module _ (all : List ObjectPart) where
  -- no module yet
  pub nobody_yet : (number : ℕ) → IsOwnedBelow all 0 number owners.Nobody
  nobody_yet number m lt n = omega (arith, lt)

  pub none_owned : (os : List Owner) → length os ≡ length all → ((number : ℕ) (o : Owner) → slice_get os number ≡ Some o → o ≡ owners.Nobody) → AreOwnersBelow all 0 os
  none_owned os count none = record {
    as_many = count;
    each = λ number o at. subst (IsOwnedBelow all 0 number) (sym (none number o at)) (nobody_yet number);
  }

  -- the object at a place names a dict just where it does so by itself
  names_here : (i : ℕ) (o : ObjectPart) (number : ℕ) → slice_get all i ≡ Some o → Names all i number → names_it o number ≡ true
  names_here i o number at n = let same : n.0 ≡ o = cc (n.1, at) in subst (λ z. names_it z number ≡ true) same n.2

  -- an object that names the dict
  owned_more : (i number : ℕ) (o : ObjectPart) → slice_get all i ≡ Some o → names_it o number ≡ true → (owner : Owner) → IsOwnedBelow all i number owner → IsOwnedBelow all (i + 1) number (owner_with owner)
  owned_more i number o at is owners.Nobody none = (
    i,
    omega arith,
    (o, at, is),
    λ k lt n. elim (cases_lt k i) [
      | inl low ↦ absurd (none k low n)
      | inr ge ↦ omega (arith, lt, ge)
    ],
  )
  owned_more i number o at is owners.One one = (one.0, i, one.1, omega arith, one.2, (o, at, is))
  owned_more i number o at is owners.Several two = (two.0, two.1, two.2, omega (arith, two.3), two.4, two.5)

  -- an object that doesn't
  owned_same : (i number : ℕ) (o : ObjectPart) → slice_get all i ≡ Some o → names_it o number ≡ false → (owner : Owner) → IsOwnedBelow all i number owner → IsOwnedBelow all (i + 1) number owner
  owned_same i number o at never owners.Nobody none = λ m lt n. elim (cases_lt m i) [
    | inl low ↦ none m low n
    | inr ge ↦
        let here : m ≡ i = omega (arith, lt, ge) in
        false≢true (sym never ∙ names_here i o number at (subst (λ k. Names all k number) here n))
  ]
  owned_same i number o at never owners.One one = (
    one.0,
    omega (arith, one.1),
    one.2,
    λ k lt n. elim (cases_lt k i) [
      | inl low ↦ one.3 k low n
      | inr ge ↦
          let here : k ≡ i = omega (arith, lt, ge) in
          absurd (false≢true (sym never ∙ names_here i o number at (subst (λ j. Names all j number) here n)))
    ],
  )
  owned_same i number o at never owners.Several two = (two.0, two.1, two.2, omega (arith, two.3), two.4, two.5)

  owned_either : (i number : ℕ) (o : ObjectPart) (owner : Owner) → slice_get all i ≡ Some o → (b : Bool) → names_it o number ≡ b → IsOwnedBelow all i number owner
      → IsOwnedBelow all (i + 1) number (if b then owner_with owner else owner)
  owned_either i number o owner at true is h = owned_more i number o at is owner h
  owned_either i number o owner at false is h = owned_same i number o at is owner h

  -- one object more is counted
  pub one_counted : (i : ℕ) (o : ObjectPart) (old new : List Owner) → i < length all → o ≡ get_or all i o → length new ≡ length old
      → ((n : ℕ) (owner : Owner) → slice_get old n ≡ Some owner → slice_get new n ≡ Some (owned_by o n owner)) → AreOwnersBelow all i old → AreOwnersBelow all (i + 1) new
  one_counted i o old new lt read count each below = record {
    as_many = count ∙ below.as_many;
    each = λ number owner at.
        let here : slice_get all i ≡ Some o = slice_get_read all (length all) i o refl lt read in
        let within : number < length old = omega (arith, slice_get_within new number owner at, count) in
        let was = get_or old number owner in
        let before : slice_get old number ≡ Some was = slice_get-get_or old number owner within in
        let same : owned_by o number was ≡ owner = cc (each number was before, at) in
        subst (IsOwnedBelow all (i + 1) number) same (owned_either i number o was here (names_it o number) refl (below.each number was before));
  }

  pub all_counted : (i : ℕ) (os : List Owner) → length all ≤ i → i ≤ length all → AreOwnersBelow all i os → AreOwners all os
  all_counted i os le ge h = let same : i ≡ length all = omega (arith, le, ge) in subst (λ n. AreOwnersBelow all n os) same h

-- what the definitions say of a snapshot
-- ======================================

names_of : (o : ObjectPart) (number : ℕ) → names_it o number ≡ true → (name : List ℕ) × (o ≡ objects.Module name number)
names_of (objects.Module name names) number e = (name, ap (objects.Module name) (eqb-true names number e))
names_of (objects.List room items) number e = absurd (false≢true e)
names_of (objects.Dict room pairs) number e = absurd (false≢true e)
names_of (objects.Tuple items) number e = absurd (false≢true e)
names_of (objects.Text bytes) number e = absurd (false≢true e)
names_of (objects.Function m code names defaults) number e = absurd (false≢true e)
names_of (objects.Exception kind args file line name) number e = absurd (false≢true e)
names_of (objects.Method v method) number e = absurd (false≢true e)
names_of (objects.Range start stop step) number e = absurd (false≢true e)

module _ (s : Snapshot) where
  pub to_names : (m number : ℕ) → NamesOf s m number → Names s.objects m number
  to_names m number n = (objects.Module n.name number, n.is, eq-eqb number number refl)

  pub from_names : (m number : ℕ) → Names s.objects m number → NamesOf s m number
  from_names m number n =
      let f = names_of n.0 number n.2 in
      record { name = f.0; is = n.1 ∙ ap Some f.1 }

  pub names_within : (m number : ℕ) → NamesOf s m number → m < length s.objects
  names_within m number n = slice_get_within s.objects m (objects.Module n.name number) n.is
