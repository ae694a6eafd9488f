use Rattle.std.proofs.Common.{ap, ◌∙◌}
use Rattle.arena_heap.specs.declared.value.Value.TheVariants as values
use Rattle.arena_heap.specs.declared.value.StrNo.{StrNo}
use Rattle.arena_objects.proofs.finding.number_of.Goals as goal

pub name_number-requires : goal.name_number-requires
name_number-requires g c = λ n q. c.requires n (c.in-Str.is ∙ ap (λ (s : StrNo). values.Str s) q)
