use Rattle.arena_heap.specs.declared.value.StrNo.TheVariants as strs
use Rattle.snap_states.proofs.Judging.{constant_split}
use Rattle.snap_states.proofs.Looping.{not_so}
use Rattle.snap_states.proofs.known.is_constant.Goals as goal

pub returns-then-is_name : goal.returns-then-is_name
returns-then-is_name c = let n = c.is_name.ensures.0 c.if-is_name.true in (λ t. (strs.Pool n.0, n.1), λ h. c.if-is_name.true)

pub returns-else-is_name : goal.returns-else-is_name
returns-else-is_name c =
    constant_split c.args.known.now.library.now c.args.text.now (not_so c.is_name.result c.is_name.ensures.1 c.if-is_name.false) c.args.known.now.strs (c.requires.strs c.args.text.now) c.contains.result c.contains.ensures
