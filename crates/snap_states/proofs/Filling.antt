-- What the tests of whole objects say.
use Rattle.std.proofs.Common.{◌≡◌, ℕ, ◌+◌, ◌<◌, ◌≤◌, ◌↔◌, ◌⊎◌, inl, inr, Bool, List, length, get_or, Some, Result, Ok, Err, IsTrue, refl, sym, ap, subst, ◌∙◌, arith}
use Rattle.std.specs.Prelude.{All, IfOk, IsSome, option_and_then, slice_get}
use Rattle.std.proofs.lemmas.Bool.{cases_lt}
use Rattle.std.proofs.lemmas.Option.{slice_get_read, slice_get_within, slice_get-get_or}
use Rattle.bc_library.specs.mpy_tree.Codes.{Placed}
use Rattle.bc_library.specs.mpy_tree.bc_prelude.declared.prelude.Prelude.{Prelude}
use Rattle.bc_library.specs.mpy_tree.bc_prelude.Prelude.{Begins}
use Rattle.bc_library.specs.Shelf.{Shelf}
use Rattle.bc_rows.specs.declared.row.Row.{Row}
use Rattle.bc_rows.specs.Rows.{IsRow}
use Rattle.snap_grammar.specs.declared.parts.ValuePart.{ValuePart}
use Rattle.snap_grammar.specs.declared.parts.ValuePart.TheVariants as parts
use Rattle.snap_grammar.specs.declared.parts.PairPart.{PairPart}
use Rattle.snap_grammar.specs.declared.parts.ObjectPart.{ObjectPart}
use Rattle.snap_grammar.specs.declared.parts.Snapshot.{Snapshot}
use Rattle.snap_states.specs.Knowing.{AreOnce, HasParts}
use Rattle.snap_states.specs.Shapes.{HasDefaults}
use Rattle.snap_states.specs.States.{AreFineObjects, HasItems, HasName, IsFineDict, IsFineFunction, IsFineObject, IsFinePair, NamesOf, key_in_part, key_of_part, tuple_count}
use Rattle.snap_states.proofs.Judging.{some_one}

-- an answer that tells of something tells of what is so exactly then
pub ok_moved : {E P Q : Type 0} (r : Result Bool E) → IfOk r (λ b. IsTrue b ↔ P) → (P → Q) → (Q → P) → IfOk r (λ b. IsTrue b ↔ Q)
ok_moved (Ok b) h on back = (λ t. on (h.0 t), λ q. h.1 (back q))
ok_moved (Err e) h on back = h

-- a code's defaults are those of its row
pub given_is : (shelf : Shelf) (m code : ℕ) (row : Row) → IsRow shelf m code row → ((bytes : List ℕ) (p q : Prelude) → Begins bytes p → Begins bytes q → p ≡ q) → (count : ℕ)
    → HasDefaults shelf m code count ↔ (Some row.given ≡ Some count)
given_is shelf m code row r law count = (
  λ h.
      let same : h.placed ≡ r.code = some_one (sym h.there ∙ r.there) in
      let begins : Begins r.code.bytes h.prelude = subst (λ (p : Placed). Begins p.bytes h.prelude) same h.begins in
      let one : h.prelude ≡ r.is_row.prelude = law r.code.bytes h.prelude r.is_row.prelude begins r.is_row.begins in
      ap Some (r.is_row.given ∙ sym (h.defaults ∙ ap (λ (p : Prelude). p.defaults) one)),
  λ e. record { placed = r.code; there = r.there; prelude = r.is_row.prelude; begins = r.is_row.begins; defaults = sym (some_one e) ∙ r.is_row.given },
)

module _ (shelf : Shelf) (s : Snapshot) where
  -- a function whose code has so many defaults
  pub function_tested : (m code names : ℕ) (defaults : ValuePart) (count : ℕ) → HasDefaults shelf m code count → ((n : ℕ) → HasDefaults shelf m code n → n ≡ count)
      → (r : Bool) → IsTrue r ↔ HasParts shelf s count names defaults → IsTrue r ↔ IsFineFunction shelf s m code names defaults
  function_tested m code names defaults count has only r tested = (
    λ t. let p = tested.0 t in record { count = count; has = has; namespace = p.namespace; plain = p.plain; as_many = p.as_many },
    λ f. tested.1 (record { namespace = f.namespace; plain = f.plain; as_many = subst (λ (n : ℕ). (defaults ≡ parts.None) ⊎ (tuple_count shelf s defaults ≡ Some n)) (only f.count f.has) f.as_many }),
  )

  -- the keys of fine pairs are keys
  pub keys_there : (pairs : List PairPart) → All (IsFinePair shelf s) pairs → (i : ℕ) → i < length pairs → IsSome (key_in_part s pairs i)
  keys_there pairs fine i lt =
      let d : PairPart = record { key = parts.None; value = parts.None } in
      let here : key_in_part s pairs i ≡ key_of_part s (get_or pairs i d).key = ap (option_and_then (λ (p : PairPart). key_of_part s p.key)) (slice_get-get_or pairs i d lt) in
      subst IsSome (sym here) (fine i d lt).is_key

  -- a dict all of whose other conditions hold
  pub dict_moved : {E : Type 0} (number room : ℕ) (pairs : List PairPart) (r : Result Bool E) → HasItems room (length pairs) → All (IsFinePair shelf s) pairs → ((m : ℕ) → NamesOf s m number → All (HasName shelf s) pairs)
      → IfOk r (λ b. IsTrue b ↔ AreOnce s pairs (length pairs)) → IfOk r (λ b. IsTrue b ↔ IsFineDict shelf s number room pairs)
  dict_moved number room pairs r has fine named h =
      ok_moved r h (λ once. record { has = has; fine = fine; once = once; named = named }) (λ d. d.once)

  -- objects one after another
  abbrev pub ObjectsTo : ℕ → Type 0
  ObjectsTo n = (k : ℕ) (o : ObjectPart) → k < n → slice_get s.objects k ≡ Some o → IsFineObject shelf s k o

  pub no_object : ObjectsTo 0
  no_object k o lt at = absurd (omega (arith, lt))

  at_place : (all : List ObjectPart) → all ≡ s.objects → (i : ℕ) (o : ObjectPart) → i < length all → o ≡ get_or all i o → slice_get s.objects i ≡ Some o
  at_place all same i o lt is = ap (λ os. slice_get os i) (sym same) ∙ slice_get_read all (length all) i o refl lt is

  pub next_object : (all : List ObjectPart) → all ≡ s.objects → (i : ℕ) (o : ObjectPart) → i < length all → o ≡ get_or all i o → IsFineObject shelf s i o → ObjectsTo i → ObjectsTo (i + 1)
  next_object all same i o lt is fine before k x below at = elim (cases_lt k i) [
    | inl low ↦ before k x low at
    | inr ge ↦
        let here : i ≡ k = omega (arith, below, ge) in
        let one : o ≡ x = some_one (sym (at_place all same i o lt is) ∙ (ap (slice_get s.objects) here ∙ at)) in
        subst (λ (n : ℕ). IsFineObject shelf s n x) here (subst (IsFineObject shelf s i) one fine)
  ]

  pub other_object : (all : List ObjectPart) → all ≡ s.objects → (i : ℕ) (o : ObjectPart) → i < length all → o ≡ get_or all i o → (IsFineObject shelf s i o → ⊥) → AreFineObjects shelf s → ⊥
  other_object all same i o lt is never fine = never (fine i o (at_place all same i o lt is))

  pub all_objects : (all : List ObjectPart) → all ≡ s.objects → (i : ℕ) → length all ≤ i → ObjectsTo i → AreFineObjects shelf s
  all_objects all same i le before k x at = before k x (let lt = slice_get_within s.objects k x at in omega (arith, lt, le, ap length same)) at
