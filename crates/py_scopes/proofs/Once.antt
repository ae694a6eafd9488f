-- A tree has one first fault at most.
use Rattle.std.proofs.Common.{◌≡◌, ℕ, Option, Some, None, inl, inr, ap, ◌∙◌, arith}
use Rattle.std.specs.Prelude.{List}
use Rattle.std.proofs.lemmas.Bool.{cases_lt}
use Rattle.mpy_base.specs.declared.source.SourceFault.{SourceFault}
use Rattle.py_tree.specs.declared.stmt.Module.{Module}
use Rattle.py_scopes.specs.Scopes.{Mark, fault_at, IsFirstFault, IsFaultless, marks_of}

apart : (o : Option SourceFault) (f : SourceFault) → o ≡ None → o ≡ Some f → ⊥
apart o f e k = cc

same_place : (ms : List Mark) (m n : ℕ) (f g : SourceFault) → m ≡ n → fault_at ms m ≡ Some f → fault_at ms n ≡ Some g → f ≡ g
same_place ms m n f g same here there = let at : fault_at ms m ≡ Some g = ap (fault_at ms) same ∙ there in cc

pub one_fault : (tree : Module) (f g : SourceFault) → IsFirstFault tree f → IsFirstFault tree g → f ≡ g
one_fault tree f g a b =
    elim (cases_lt a.place b.place) [
      | inl h ↦ absurd (apart (fault_at (marks_of tree) a.place) f (b.none_before a.place h) a.here)
      | inr h ↦ elim (cases_lt b.place a.place) [
        | inl k ↦ absurd (apart (fault_at (marks_of tree) b.place) g (a.none_before b.place k) b.here)
        | inr k ↦ same_place (marks_of tree) a.place b.place f g (omega arith) a.here b.here
      ]
    ]

pub fault_apart : (tree : Module) (f : SourceFault) → IsFirstFault tree f → IsFaultless tree → ⊥
fault_apart tree f a none = apart (fault_at (marks_of tree) a.place) f (none a.place) a.here
