use Rattle.std.proofs.Common.{ℕ, ◌≡◌, ◌<◌, List, length, map, Some, Ok, sym, ap, ◌∙◌, subst, arith}
use Rattle.std.proofs.lemmas.List.{length-map}
use Rattle.prim_builtins.specs.mpy_base.Val.{Val}
use Rattle.prim_builtins.specs.arena_objects.Iterables.{spelled}
use Rattle.prim_builtins.specs.py_values.Shown.{Text}
use Rattle.prim_builtins.specs.py_primitives.Outcome.{Outcome}
use Rattle.prim_builtins.specs.py_primitives.Iterables.{letter}
use Rattle.prim_builtins.specs.py_primitives.Calls.{gives_best, made_letter}
use Rattle.prim_builtins.specs.prim_walks.Plain.{plain_heap}
use Rattle.prim_builtins.specs.prim_faults.declared.fault.Fault.TheVariants as faults
use Rattle.prim_builtins.specs.prim_faults.Outcomes.{IsOutcome}
use Rattle.prim_builtins.proofs.prim_faults_lemmas.Outcomes.{raises_outcome}
use Rattle.prim_collections.specs.Best.{plain_extreme, best_among}
use Rattle.prim_collections.proofs.BestOutcomes.{is_zero, is_more, nothing, something, walked, str_is, str_searched}
use Rattle.prim_collections.proofs.best_calls.best_letter.Goals as goal

pub returns-then-is_empty : goal.returns-then-is_empty
returns-then-is_empty g c =
    let texts = g.C.Constants.text_of c.args.consts.now in
    let tuples = g.C.Constants.items_of c.args.consts.now in
    let h = c.args.arena.now in
    let heap = plain_heap texts tuples h in
    let sign = plain_extreme c.args.extreme in
    let v = c.args.s in
    let bytes = spelled texts h v in
    let next = made_letter heap (Text bytes) in
    let str = str_is v c.requires.str in
    let searched = str_searched texts tuples h sign v c.requires.leads str in
    let none : length (map letter bytes) ≡ 0 = omega (arith, length-map bytes letter, is_zero (length c.spelled_bytes-bytes.result.now) (sym c.is_empty.ensures ∙ c.if-is_empty.true), ap (λ (bs : List ℕ). length bs) c.spelled_bytes-bytes.ensures.bytes) in
    raises_outcome texts tuples h faults.NothingToCompare _ c.requires.all_told tt (searched ∙ nothing heap sign next (map letter bytes) none)

pub returns : goal.returns
returns g c =
    let texts = g.C.Constants.text_of c.args.consts.now in
    let tuples = g.C.Constants.items_of c.args.consts.now in
    let h = c.args.arena.now in
    let heap = plain_heap texts tuples h in
    let sign = plain_extreme c.args.extreme in
    let v = c.args.s in
    let bytes = spelled texts h v in
    let next = made_letter heap (Text bytes) in
    let str = str_is v c.requires.str in
    let searched = str_searched texts tuples h sign v c.requires.leads str in
    let byte = c.best_byte-byte.result in
    let some : 0 < length (map letter bytes) = omega (arith, length-map bytes letter, is_more (length c.spelled_bytes-bytes.result.now) (sym c.is_empty.ensures ∙ c.if-is_empty.false), ap (λ (bs : List ℕ). length bs) c.spelled_bytes-bytes.ensures.bytes) in
    let answer : (best_among heap sign (map letter bytes)).answer ≡ Some (Ok (letter byte)) =
    ap (λ (bs : List ℕ). (best_among heap sign (map letter bs)).answer) (sym c.spelled_bytes-bytes.ensures.bytes) ∙ c.best_byte-byte.ensures.answer heap in
    subst (λ (o : Outcome Val). IsOutcome texts tuples h c.letter.new.arena c.letter.result o) (sym (searched ∙ something heap sign next (map letter bytes) some))
    (walked texts tuples h c.letter.new.arena (best_among heap sign (map letter bytes)) (gives_best heap sign next) (Ok (letter byte)) c.letter.result answer c.letter.ensures)
