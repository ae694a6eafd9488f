use Rattle.mpy_reader.proofs.Files.{result_found, result_only, result_resolves, result_first, result_fault}
use Rattle.mpy_reader.proofs.file.read.Goals as goal

pub returns-clause-found : goal.returns-clause-found
returns-clause-found c = result_found c.args.bytes.now c.file.result c.file.ensures

pub returns-clause-only : goal.returns-clause-only
returns-clause-only c = λ m is. result_only c.args.bytes.now m c.file.result c.file.ensures is

pub returns-clause-resolves : goal.returns-clause-resolves
returns-clause-resolves c = λ tree reads. result_resolves c.args.bytes.now tree c.file.result c.file.ensures reads

pub returns-clause-first : goal.returns-clause-first
returns-clause-first c = λ fault e. result_first c.args.bytes.now fault c.file.result c.file.ensures e

pub returns-clause-fault : goal.returns-clause-fault
returns-clause-fault c = λ fault is. result_fault c.args.bytes.now fault c.file.result c.file.ensures is
