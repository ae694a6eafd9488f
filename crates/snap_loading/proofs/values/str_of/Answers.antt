use Rattle.std.proofs.Common.{ℕ, Option, unwrap_or, ap, ◌∙◌}
use Rattle.std.specs.Option.{option_map, option_or}
use Rattle.arena_heap.specs.declared.value.StrNo.TheVariants as strs
use Rattle.snap_states.specs.Decoded.{constant_from}
use Rattle.snap_loading.proofs.values.str_of.Goals as goal

pub returns-in-Some : goal.returns-in-Some
returns-in-Some c = ap (λ (o : Option ℕ). unwrap_or (option_or (option_map strs.Pool o) (option_map strs.Object (constant_from 0 c.args.lookup.now.library.now.modules c.args.text.now))) (strs.Pool 0)) c.in-Some.ensures

pub returns-in-None : goal.returns-in-None
returns-in-None c =
    c.constant_str.ensures
    ∙ ap (λ (o : Option ℕ). unwrap_or (option_or (option_map strs.Pool o) (option_map strs.Object (constant_from 0 c.args.lookup.now.library.now.modules c.args.text.now))) (strs.Pool 0)) c.in-None.ensures
