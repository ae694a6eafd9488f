use Rattle.std.proofs.Common.{◌≡◌, ℕ, ◌-◌, ◌^◌, List, length, min, Option, Some, None, refl, ap, ◌∙◌}
use Rattle.std.specs.Option.{option_map}
use Rattle.prim_builtins.specs.arena_objects.Iterables.{or_nothing, spelled}
use Rattle.prim_builtins.specs.py_primitives.Texts.{joined}
use Rattle.prim_builtins.specs.py_primitives.Iterables.{items_in}
use Rattle.prim_builtins.specs.prim_walks.Plain.{plain, plain_heap}
use Rattle.prim_builtins.specs.prim_faults.declared.fault.Fault.TheVariants as faults
use Rattle.prim_builtins.proofs.prim_faults_lemmas.Outcomes.{raises_outcome}
use Rattle.prim_str_methods.specs.Parts.{strs_of, all_strs, parts_in}
use Rattle.prim_str_methods.proofs.JoinParts.{known_parts, all_some, no_strs}
use Rattle.prim_str_methods.proofs.JoinOutcomes.{joined_behind}
use Rattle.prim_str_methods.proofs.joins.join_strs.Goals as goal

pub make_joined-requires-clause-len : goal.make_joined-requires-clause-len
make_joined-requires-clause-len g c =
    let texts = g.C.Constants.text_of c.args.consts.now in
    let tuples = g.C.Constants.items_of c.args.consts.now in
    let h = c.args.arena.now in
    let over = c.args.over in
    let heap = plain_heap texts tuples h in
    let separator = spelled texts h c.args.separator in
    let vs = or_nothing (items_in heap (plain texts tuples over)) in
    let parts = parts_in texts h tuples over in
    let all : all_strs (strs_of heap (plain texts tuples over)) ≡ Some parts =
    ap all_strs (known_parts texts tuples h over c.requires.over.leads c.items_law.ensures.nested c.in-Some.ensures.known) ∙ all_some parts in
    let both : Some c.in-Some.len ≡ Some (min (length (joined separator parts)) (2 ^ 64 - 1)) =
    c.in-Some.ensures.len ∙ ap (λ (o : Option (List (List ℕ))). option_map (λ (ps : List (List ℕ)). min (length (joined separator ps)) (2 ^ 64 - 1)) o) all in
    cc

pub returns-in-Some : goal.returns-in-Some
returns-in-Some g c =
    let texts = g.C.Constants.text_of c.args.consts.now in
    let tuples = g.C.Constants.items_of c.args.consts.now in
    let h = c.args.arena.now in
    let over = c.args.over in
    let heap = plain_heap texts tuples h in
    let separator = spelled texts h c.args.separator in
    let vs = or_nothing (items_in heap (plain texts tuples over)) in
    let parts = parts_in texts h tuples over in
    let all : all_strs (strs_of heap (plain texts tuples over)) ≡ Some parts =
    ap all_strs (known_parts texts tuples h over c.requires.over.leads c.items_law.ensures.nested c.in-Some.ensures.known) ∙ all_some parts in
    joined_behind texts tuples h c.make_joined.new.arena c.make_joined.result separator vs (Some parts) all c.make_joined.ensures

pub returns-in-None : goal.returns-in-None
returns-in-None g c =
    let texts = g.C.Constants.text_of c.args.consts.now in
    let tuples = g.C.Constants.items_of c.args.consts.now in
    let h = c.args.arena.now in
    let over = c.args.over in
    let heap = plain_heap texts tuples h in
    let separator = spelled texts h c.args.separator in
    let vs = or_nothing (items_in heap (plain texts tuples over)) in
    let none : all_strs (strs_of heap (plain texts tuples over)) ≡ None = no_strs _ (all_strs (strs_of heap (plain texts tuples over))) c.in-None.ensures.len in
    joined_behind texts tuples h h _ separator vs None none (raises_outcome texts tuples h faults.JoinsNoStr _ c.requires.all_told tt refl)
