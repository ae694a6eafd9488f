use Rattle.std.proofs.Common.{refl, sym, ◌∙◌}
use denote.Enum.Bare.{same_true, true_same}
use Rattle.bc_shapes.specs.contracts.kinds.Kind.{the_type}
use Rattle.bc_shapes.proofs.Order.{below_same, below_open, below_refl}
use Rattle.bc_shapes.proofs.shape.is_below.Goals as goal

pub returns-in-Value : goal.returns-in-Value
returns-in-Value c = (λ t. below_open c.args.one c.args.other c.in-Either.is c.in-Value.is, λ h. refl)

pub returns-in_default : goal.returns-in_default
returns-in_default c = (
  λ t. below_refl c.args.one c.args.other (same_true the_type (tt {0}) c.args.one c.args.other (sym c.eq.ensures ∙ t)),
  λ h. c.eq.ensures ∙ true_same the_type c.args.one c.args.other (below_same c.args.one c.args.other c.in_default.not-Either h),
)
