-- The built-ins that concern the heap alone and are no methods.
use Rattle.std.proofs.Common.{◌≡◌, refl}
use Rattle.mpy_base.specs.declared.builtin.Builtin.{Builtin}
use Rattle.mpy_base.specs.declared.builtin.Builtin.TheVariants as builtins
use Rattle.mpy_base.specs.declared.kind.Kind.{Kind}
use Rattle.prim_calls.specs.Families.{IsOnHeap, IsUnbound}

pub all_unbound : (b : Builtin) → IsOnHeap b
    → (b ≡ builtins.Bool → ⊥)
    → (b ≡ builtins.Int → ⊥)
    → (b ≡ builtins.Str → ⊥)
    → (b ≡ builtins.List → ⊥)
    → (b ≡ builtins.Tuple → ⊥)
    → (b ≡ builtins.Dict → ⊥)
    → (b ≡ builtins.Len → ⊥)
    → (b ≡ builtins.Abs → ⊥)
    → (b ≡ builtins.Range → ⊥)
    → (b ≡ builtins.Min → ⊥)
    → (b ≡ builtins.Max → ⊥)
    → (b ≡ builtins.Repr → ⊥)
    → (b ≡ builtins.Ord → ⊥)
    → (b ≡ builtins.Chr → ⊥)
    → (b ≡ builtins.IsInstance → ⊥)
    → ((kind : Kind) → b ≡ builtins.Kind kind → ⊥) → IsUnbound b
all_unbound builtins.Bool is a _ _ _ _ _ _ _ _ _ _ _ _ _ _ _ = absurd (a refl)
all_unbound builtins.Int is _ a _ _ _ _ _ _ _ _ _ _ _ _ _ _ = absurd (a refl)
all_unbound builtins.Str is _ _ a _ _ _ _ _ _ _ _ _ _ _ _ _ = absurd (a refl)
all_unbound builtins.List is _ _ _ a _ _ _ _ _ _ _ _ _ _ _ _ = absurd (a refl)
all_unbound builtins.Tuple is _ _ _ _ a _ _ _ _ _ _ _ _ _ _ _ = absurd (a refl)
all_unbound builtins.Dict is _ _ _ _ _ a _ _ _ _ _ _ _ _ _ _ = absurd (a refl)
all_unbound builtins.Len is _ _ _ _ _ _ a _ _ _ _ _ _ _ _ _ = absurd (a refl)
all_unbound builtins.Abs is _ _ _ _ _ _ _ a _ _ _ _ _ _ _ _ = absurd (a refl)
all_unbound builtins.Range is _ _ _ _ _ _ _ _ a _ _ _ _ _ _ _ = absurd (a refl)
all_unbound builtins.Min is _ _ _ _ _ _ _ _ _ a _ _ _ _ _ _ = absurd (a refl)
all_unbound builtins.Max is _ _ _ _ _ _ _ _ _ _ a _ _ _ _ _ = absurd (a refl)
all_unbound builtins.Repr is _ _ _ _ _ _ _ _ _ _ _ a _ _ _ _ = absurd (a refl)
all_unbound builtins.Ord is _ _ _ _ _ _ _ _ _ _ _ _ a _ _ _ = absurd (a refl)
all_unbound builtins.Chr is _ _ _ _ _ _ _ _ _ _ _ _ _ a _ _ = absurd (a refl)
all_unbound builtins.IsInstance is _ _ _ _ _ _ _ _ _ _ _ _ _ _ a _ = absurd (a refl)
all_unbound (builtins.Kind kind) is _ _ _ _ _ _ _ _ _ _ _ _ _ _ _ a = absurd (a kind refl)
all_unbound builtins.Print is _ _ _ _ _ _ _ _ _ _ _ _ _ _ _ _ = is
all_unbound builtins.Port is _ _ _ _ _ _ _ _ _ _ _ _ _ _ _ _ = is
all_unbound builtins.PortPut is _ _ _ _ _ _ _ _ _ _ _ _ _ _ _ _ = is
all_unbound builtins.PortGet is _ _ _ _ _ _ _ _ _ _ _ _ _ _ _ _ = is
all_unbound builtins.PortCount is _ _ _ _ _ _ _ _ _ _ _ _ _ _ _ _ = is
all_unbound _ is _ _ _ _ _ _ _ _ _ _ _ _ _ _ _ _ = tt
