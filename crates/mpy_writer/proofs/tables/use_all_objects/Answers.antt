use Rattle.std.proofs.Common.{◌+◌, map, drop}
use Rattle.std.specs.List.{flat_map}
use Rattle.std.proofs.lemmas.Result.{err_from_is_err_and}
use Rattle.mpy_writer.specs.Codes.{objects_in}
use Rattle.mpy_writer.specs.Tables.{spelled}
use Rattle.mpy_writer.specs.Writable.{IsNumberedCode}
use Rattle.mpy_writer.proofs.Lists.{next_seen, mapped, seen}
use Rattle.mpy_writer.proofs.Uses.{goes_on, exit_passing}
use Rattle.mpy_writer.proofs.tables.use_all_objects.Goals as goal

pub use_objects_in-requires : goal.use_objects_in-requires
use_objects_in-requires c = seen IsNumberedCode (λ x. x.now) c.args.codes.now c.loop-code.code-index c.code-item.result c.requires c.loop-code-test.true c.code-item.is

pub returns-in_err-use_objects_in-clause-fault : goal.returns-in_err-use_objects_in-clause-fault
returns-in_err-use_objects_in-clause-fault c =
    let p = err_from_is_err_and c.from_residual.result c.from_residual.ensures.1 in
    let codes = map (λ x. x.now) c.args.codes.now in
    exit_passing c.args.pool.now c.loop-code.pool (map spelled (flat_map objects_in codes)) (map spelled (flat_map objects_in (drop c.loop-code.code-index codes))) (map spelled (objects_in c.code-item.result.now))
    (map spelled (flat_map objects_in (drop (c.loop-code.code-index + 1) codes))) _ _ _ p.1 p.2 c.in_err-use_objects_in.ensures.fault c.loop-code.invariant
    (mapped spelled _ _ _ (next_seen (λ x. x.now) objects_in c.args.codes.now c.loop-code.code-index c.code-item.result c.loop-code-test.true c.code-item.is))

pub loop-code-preserved : goal.loop-code-preserved
loop-code-preserved c =
    let codes = map (λ x. x.now) c.args.codes.now in
    goes_on c.args.pool.now c.loop-code.pool c.use_objects_in.new.pool (map spelled (flat_map objects_in codes)) (map spelled (flat_map objects_in (drop c.loop-code.code-index codes))) (map spelled (objects_in c.code-item.result.now)) (map spelled (flat_map objects_in (drop (c.loop-code.code-index + 1) codes)))
    c.loop-code.invariant (mapped spelled _ _ _ (next_seen (λ x. x.now) objects_in c.args.codes.now c.loop-code.code-index c.code-item.result c.loop-code-test.true c.code-item.is)) c.in_ok-use_objects_in.ensures.ok
