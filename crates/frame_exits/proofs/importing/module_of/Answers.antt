use Rattle.frame_exits.specs.Importing.{registered, port}
use Rattle.frame_exits.proofs.importing.module_of.Goals as goal

pub returns-in-Some-clause-is : goal.returns-in-Some-clause-is
returns-in-Some-clause-is g c = registered c.in-Some.m

pub returns-in-None-clause-is : goal.returns-in-None-clause-is
returns-in-None-clause-is g c = port
