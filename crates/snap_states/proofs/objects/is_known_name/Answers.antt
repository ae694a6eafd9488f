use Rattle.std.specs.Prelude.{codes}
use Rattle.bc_library.specs.Shelf.{names}
use Rattle.snap_states.proofs.Judging.{first_name, later_name, other_name}
use Rattle.snap_states.proofs.Looping.{not_so, tests_yes}
use Rattle.snap_states.proofs.objects.is_known_name.Goals as goal

pub returns-then-is_main : goal.returns-then-is_main
returns-then-is_main c = tests_yes (first_name (codes "__main__") (names c.args.library.now) c.args.name.now (c.is_main.ensures.0 c.if-is_main.true))

pub returns : goal.returns
returns c = (
  λ t. later_name (codes "__main__") (names c.args.library.now) c.args.name.now (c.is_module_name.ensures.0 t),
  λ h. c.is_module_name.ensures.1 (other_name (codes "__main__") (names c.args.library.now) c.args.name.now (not_so c.is_main.result c.is_main.ensures.1 c.if-is_main.false) h),
)
