use Rattle.std.proofs.Common.{◌≡◌, Some, None, inl, sym, ap, ◌∙◌}
use Rattle.image_open.specs.bc_library.declared.fault.Member.TheVariants as members
use Rattle.image_open.specs.bc_library.Shelf.{member_of}
use Rattle.image_runs.proofs.Found.{main_at, found_only, found_no_fault, lacking_only, unopened_only, unopened_fault}
use Rattle.image_runs.proofs.main_module.image_library.Goals as goal

pub returns-in-Err-Fault-clause-only : goal.returns-in-Err-Fault-clause-only
returns-in-Err-Fault-clause-only c = λ shelf place h.
    absurd (unopened_only c.args.below.now c.args.bytes.now c.args.main.now c.in-Err-Fault.field-0 c.in-Err-Fault.fault c.in-Err-Fault.field-0-is c.in-Err-Fault.ensures.only shelf place h)

pub returns-in-Err-Fault-clause-fault : goal.returns-in-Err-Fault-clause-fault
returns-in-Err-Fault-clause-fault c =
    rw c.in-Err-Fault.field-0-is
    (unopened_fault c.args.below.now c.args.bytes.now c.args.main.now c.in-Err-Fault.field-0 c.in-Err-Fault.fault c.in-Err-Fault.field-0-is c.in-Err-Fault.ensures.only c.in-Err-Fault.ensures.fault)

pub returns-in-Some-Module-clause-there : goal.returns-in-Some-Module-clause-there
returns-in-Some-Module-clause-there c =
    let place = c.in-Some-Module.place in
    let found : member_of c.in-Ok.library c.args.main.now ≡ Some (members.Module place) = sym c.find.ensures ∙ (c.in-Some-Module.is ∙ ap Some c.in-Some-Module.field-0-is) in
    rw c.in-Some-Module.field-0-is (main_at c.args.main.now c.in-Ok.library place found)

pub returns-in-Some-Module-clause-only : goal.returns-in-Some-Module-clause-only
returns-in-Some-Module-clause-only c = λ shelf other h.
    let place = c.in-Some-Module.place in
    let found : member_of c.in-Ok.library c.args.main.now ≡ Some (members.Module place) = sym c.find.ensures ∙ (c.in-Some-Module.is ∙ ap Some c.in-Some-Module.field-0-is) in
    rw c.in-Some-Module.field-0-is (inl (found_only c.args.below.now c.args.bytes.now c.args.main.now c.in-Ok.library place c.in-Ok.ensures.only found shelf other h))

pub returns-in-Some-Module-clause-fault : goal.returns-in-Some-Module-clause-fault
returns-in-Some-Module-clause-fault c = λ fault h.
    let place = c.in-Some-Module.place in
    let found : member_of c.in-Ok.library c.args.main.now ≡ Some (members.Module place) = sym c.find.ensures ∙ (c.in-Some-Module.is ∙ ap Some c.in-Some-Module.field-0-is) in
    absurd (found_no_fault c.args.below.now c.args.bytes.now c.args.main.now c.in-Ok.library place c.in-Ok.ensures.only c.in-Ok.ensures.fault found fault h)

pub returns-in-None-clause-only : goal.returns-in-None-clause-only
returns-in-None-clause-only c = λ shelf place h.
    let none : None ≡ member_of c.in-Ok.library c.args.main.now = sym c.in-None.is ∙ c.find.ensures in
    absurd (lacking_only c.args.below.now c.args.bytes.now c.args.main.now c.in-Ok.library c.in-Ok.ensures.only none shelf place h)

pub returns-in-Some-Module-clause-holds : goal.returns-in-Some-Module-clause-holds
returns-in-Some-Module-clause-holds c = record {
  distinct = c.modules_law.ensures.distinct;
  are_modules = c.modules_law.ensures.files;
  are_verified = c.modules_law.ensures.verified;
}
