use Rattle.std.proofs.Common.{◌≡◌, ◌∙◌, length, Result, Ok, Err, ap, subst, rules, arith}
use Rattle.std.proofs.lemmas.Grind.{common_steps}
use Rattle.mpy_base.specs.declared.refused.Refused.{Refused}
use Rattle.mpy_base.specs.declared.refused.Refused.TheVariants as refused
use Rattle.mpy_base.specs.declared.source.SourceCode.TheVariants.{Syntax}
use Rattle.py_nest.specs.Nest.{Nests}
use Rattle.py_parser.specs.Parsed.{ReadsAll, fault_of}
use Rattle.py_parser.specs.Reading as read
use Rattle.py_parser.proofs.Parses.{Owed, deep_owed, syntax_owed, tree_owed}
use Rattle.py_parser.proofs.source.parse.Goals as goal
use Rattle.py_parser.proofs.source.parse.Goals.{In-Ok, After-fault_of-in-Err-Fault}

pub returns-in-Some : goal.returns-in-Some
returns-in-Some c =
    let o = deep_owed c.args.tokens.now c.in-Some.line c.fault_of.result ((c.nest_fault.ensures.fault c.in-Some.line).0 c.in-Some.is) c.fault_of.ensures in
    record { found = o.found; nests = o.nests; only = o.only; fault = o.fault; fault_only = o.fault_only }

-- a tree
whole : (c : In-Ok) → Owed c.args.tokens.now (Ok (record { body = c.in-Ok.body }))
whole c =
    let nests : Nests c.args.tokens.now = first_of (search rules, grind (arith, common_steps)) in
    let is : c.file.result ≡ Ok c.in-Ok.body = cc in
    tree_owed c.args.tokens.now c.in-Ok.body nests (subst (λ r. ReadsAll (read.file c.args.tokens.now) r) is c.file.ensures)

pub returns-in-Ok-clause-found : goal.returns-in-Ok-clause-found
returns-in-Ok-clause-found c = (whole c).found

pub returns-in-Ok-clause-only : goal.returns-in-Ok-clause-only
returns-in-Ok-clause-only c = (whole c).only

pub returns-in-Ok-clause-fault_only : goal.returns-in-Ok-clause-fault_only
returns-in-Ok-clause-fault_only c = (whole c).fault_only

-- no tree
refusal : (c : After-fault_of-in-Err-Fault) → Owed c.args.tokens.now (Err (refused.Fault c.fault_of-in-Err-Fault.result))
refusal c =
    let nests : Nests c.args.tokens.now = first_of (search rules, grind (arith, common_steps)) in
    let is : c.file.result ≡ Err (refused.Fault c.in-Err-Fault.syntax) = cc in
    syntax_owed c.args.tokens.now c.in-Err-Fault.syntax c.fault_of-in-Err-Fault.result nests (subst (λ r. ReadsAll (read.file c.args.tokens.now) r) is c.file.ensures)
    (c.fault_of-in-Err-Fault.ensures ∙ ap (fault_of Syntax) c.line_with-line.ensures)

pub returns-in-Err-Fault-clause-only : goal.returns-in-Err-Fault-clause-only
returns-in-Err-Fault-clause-only c = (refusal c).only

pub returns-in-Err-Fault-clause-fault : goal.returns-in-Err-Fault-clause-fault
returns-in-Err-Fault-clause-fault c = (refusal c).fault

pub returns-in-Err-Fault-clause-fault_only : goal.returns-in-Err-Fault-clause-fault_only
returns-in-Err-Fault-clause-fault_only c = (refusal c).fault_only
