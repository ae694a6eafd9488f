use Rattle.std.proofs.Common.{Option, unwrap_or, ap, ◌∙◌}
use Rattle.std.specs.Option.{option_map}
use Rattle.arena_heap.specs.declared.value.ConstNo.{ConstNo}
use Rattle.arena_heap.specs.declared.value.StrNo.TheVariants as strs
use Rattle.snap_loading.proofs.values.constant_str.Goals as goal

pub returns-in-Some : goal.returns-in-Some
returns-in-Some c = ap (λ (o : Option ConstNo). unwrap_or (option_map strs.Object o) (strs.Pool 0)) (c.in-Some.ensures ∙ c.requires.strs c.args.text.now)

pub returns-in-None : goal.returns-in-None
returns-in-None c = ap (λ (o : Option ConstNo). unwrap_or (option_map strs.Object o) (strs.Pool 0)) (c.in-None.ensures ∙ c.requires.strs c.args.text.now)
