use Rattle.snap_states.proofs.Looping.{tests_yes}
use Rattle.snap_states.proofs.objects.have_names_if_owned.Goals as goal

pub returns-then-is_free : goal.returns-then-is_free
returns-then-is_free c = tests_yes (λ m n. absurd (c.is_free.ensures.free c.if-is_free.true m n))

pub returns : goal.returns
returns c = (
  λ t m n. c.have_names.ensures.0 t,
  λ h. let owned = c.is_free.ensures.owned c.if-is_free.false in c.have_names.ensures.1 (h owned.0 owned.1),
)
