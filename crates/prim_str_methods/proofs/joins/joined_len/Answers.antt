use Rattle.std.proofs.Common.{get_or, ◌≡◌, ℕ, ◌-◌, ◌^◌, ◌<◌, List, length, min, Option, None, sym, ap, arith}
use Rattle.std.specs.Option.{option_map}
use Rattle.prim_builtins.specs.arena_objects.Iterables.{items_in, spelled}
use Rattle.prim_builtins.specs.py_primitives.Texts.{joined}
use Rattle.prim_builtins.specs.prim_walks.Plain.{plain, plain_heap}
use Rattle.prim_builtins.specs.prim_faults.Faults.{IsKnownStr}
use Rattle.prim_str_methods.specs.Parts.{strs_of}
use Rattle.prim_str_methods.proofs.JoinParts.{none_there, none_is}
use Rattle.prim_str_methods.proofs.Joinings.{far_none, far_more, far_all, fewer_items, all_seen, one_seen}
use Rattle.prim_str_methods.proofs.joins.joined_len.Goals as goal

pub loop-at-init : goal.loop-at-init
loop-at-init g c =
    let texts = g.C.Constants.text_of c.args.consts.now in
    let tuples = g.C.Constants.items_of c.args.consts.now in
    let h = c.args.arena.now in
    let separator = spelled texts h c.args.separator in
    let strs = strs_of (plain_heap texts tuples h) (plain texts tuples c.args.over) in
    let items = items_in tuples h c.args.over in
    let P = IsKnownStr texts tuples h.objects in
    (far_none separator strs, λ k v lt e. absurd (omega arith))

pub part_len-requires-clause-within : goal.part_len-requires-clause-within
part_len-requires-clause-within g c =
    let texts = g.C.Constants.text_of c.args.consts.now in
    let tuples = g.C.Constants.items_of c.args.consts.now in
    let h = c.args.arena.now in
    let separator = spelled texts h c.args.separator in
    let strs = strs_of (plain_heap texts tuples h) (plain texts tuples c.args.over) in
    let items = items_in tuples h c.args.over in
    let P = IsKnownStr texts tuples h.objects in
    omega (arith, c.loop-at-test.true, c.part_count-at-end.ensures.strs)

pub loop-at-preserved : goal.loop-at-preserved
loop-at-preserved g c =
    let texts = g.C.Constants.text_of c.args.consts.now in
    let tuples = g.C.Constants.items_of c.args.consts.now in
    let h = c.args.arena.now in
    let separator = spelled texts h c.args.separator in
    let strs = strs_of (plain_heap texts tuples h) (plain texts tuples c.args.over) in
    let items = items_in tuples h c.args.over in
    let P = IsKnownStr texts tuples h.objects in
    let at = c.loop-at.at in
    let lt : at < length strs = omega (arith, c.loop-at-test.true, c.part_count-at-end.ensures.strs) in
    let same : c.str_len-between.result ≡ length separator = c.str_len-between.ensures in
    let step = c.step_len.ensures in (
      far_more separator strs at c.loop-at.len c.in-Some.part c.step_len.result c.saturating_add-len.result c.loop-at.invariant.0 lt c.in-Some.ensures.len
          step.first (λ ne. let e = step.others ne in omega (arith, e, same)) c.saturating_add-len.ensures,
      one_seen texts tuples h P items at c.loop-at.invariant.1 c.in-Some.ensures.known,
    )

pub returns-in-None-clause-len : goal.returns-in-None-clause-len
returns-in-None-clause-len g c =
    let texts = g.C.Constants.text_of c.args.consts.now in
    let tuples = g.C.Constants.items_of c.args.consts.now in
    let h = c.args.arena.now in
    let separator = spelled texts h c.args.separator in
    let strs = strs_of (plain_heap texts tuples h) (plain texts tuples c.args.over) in
    let items = items_in tuples h c.args.over in
    let P = IsKnownStr texts tuples h.objects in
    let at = c.loop-at.at in
    let lt : at < length strs = omega (arith, c.loop-at-test.true, c.part_count-at-end.ensures.strs) in
    sym (ap (λ (o : Option (List (List ℕ))). option_map (λ (parts : List (List ℕ)). min (length (joined separator parts)) (2 ^ 64 - 1)) o) (none_there strs at lt (none_is (get_or strs at None) c.in-None.ensures.len)))

pub returns-clause-len : goal.returns-clause-len
returns-clause-len g c =
    let texts = g.C.Constants.text_of c.args.consts.now in
    let tuples = g.C.Constants.items_of c.args.consts.now in
    let h = c.args.arena.now in
    let separator = spelled texts h c.args.separator in
    let strs = strs_of (plain_heap texts tuples h) (plain texts tuples c.args.over) in
    let items = items_in tuples h c.args.over in
    let P = IsKnownStr texts tuples h.objects in
    far_all separator strs c.loop-at.at c.loop-at.len (omega (arith, c.part_count-at-end.ensures.strs)) c.loop-at.invariant.0

pub returns-clause-known : goal.returns-clause-known
returns-clause-known g c =
    let texts = g.C.Constants.text_of c.args.consts.now in
    let tuples = g.C.Constants.items_of c.args.consts.now in
    let h = c.args.arena.now in
    let separator = spelled texts h c.args.separator in
    let strs = strs_of (plain_heap texts tuples h) (plain texts tuples c.args.over) in
    let items = items_in tuples h c.args.over in
    let P = IsKnownStr texts tuples h.objects in
    all_seen texts tuples h P items c.loop-at.at (let fewer = fewer_items texts tuples h c.args.over c.requires.over.leads c.items_law.ensures.nested in omega (arith, fewer, c.part_count-at-end.ensures.strs)) c.loop-at.invariant.1
