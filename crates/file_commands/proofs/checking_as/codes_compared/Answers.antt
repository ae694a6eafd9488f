use Rattle.std.proofs.Common.{◌≡◌, ◌-◌, ◌^◌, ◌∙◌, [], ℕ, List, None, length, ap, subst}
use Rattle.std.specs.Prelude.{min}
use Rattle.mpy_base.specs.declared.limits.TheConstants.{MAX_DEPTH}
use Rattle.mpy_base.specs.declared.refused.Refused.TheVariants as refused
use Rattle.command_files.specs.mpy_writer.mpy_tree.declared.raw.RawCode.{RawCode}
use Rattle.command_files.specs.mpy_writer.mpy_tree.Codes.{codes_to}
use Rattle.command_files.specs.mpy_compile.Compiled.{IsCompiled}
use Rattle.file_commands.specs.Check.{count_of}
use Rattle.file_commands.proofs.CheckedAs.{named, refused_as, unaccepted, same, different}
use Rattle.file_commands.proofs.checking_as.codes_compared.Goals as goal

pub returns-in-Err-Fault-clause-refused : goal.returns-in-Err-Fault-clause-refused
returns-in-Err-Fault-clause-refused c files source file bytes told has holds is =
    let own = named c.resolves_law.ensures.tree c.args.have.now c.module_law.ensures c.stored_source.result.now c.stored_source.ensures.named in
    let fault = c.in-Err-Fault.fault in
    let accepted_not = refused_as c.args.level c.args.text.now c.stored_source.result.now own.tree.source c.in-Err-Fault.field-0 fault c.in-Err-Fault.field-0-is own.name c.in-Err-Fault.ensures in
    rw c.in-Err-Fault.field-0-is (unaccepted c.args.level files source file told bytes holds c.args.have.now is own.tree own.resolves c.args.text.now has fault accepted_not)

pub returns-in-Ok-Same-clause-same : goal.returns-in-Ok-Same-clause-same
returns-in-Ok-Same-clause-same c files source file bytes has holds is =
    let own = named c.resolves_law.ensures.tree c.args.have.now c.module_law.ensures c.stored_source.result.now c.stored_source.ensures.named in
    let compiled = subst (λ (name : List ℕ). IsCompiled c.args.level c.args.text.now name c.in-Ok.want) own.name c.in-Ok.ensures.1 in
    let made = c.in-Ok.ensures.2 in
    let counted : c.count.result ≡ count_of c.args.have.now =
    c.count.ensures ∙ ap (λ (code : RawCode). min (length (codes_to MAX_DEPTH [] 0 code)) (2 ^ 64 - 1)) c.code.ensures in
    same c.args.level files source file None bytes holds c.args.have.now is own.tree own.resolves c.args.text.now has c.in-Ok.want c.in-Ok.ensures.0 compiled made c.in-Ok-Same.field-0
    c.in-Ok-Same.field-0-is (c.in-Ok-Same.ensures made.reads.tree.code own.tree.code made.reads.code own.resolves.code) c.count.result counted

pub returns-in-Ok-Differs-clause-refused : goal.returns-in-Ok-Differs-clause-refused
returns-in-Ok-Differs-clause-refused c files source file bytes told has holds is =
    let own = named c.resolves_law.ensures.tree c.args.have.now c.module_law.ensures c.stored_source.result.now c.stored_source.ensures.named in
    let compiled = subst (λ (name : List ℕ). IsCompiled c.args.level c.args.text.now name c.in-Ok.want) own.name c.in-Ok.ensures.1 in
    let made = c.in-Ok.ensures.2 in
    let found = c.in-Ok-Differs in
    different c.args.level files source file told bytes holds c.args.have.now is own.tree own.resolves c.args.text.now has c.in-Ok.want c.in-Ok.ensures.0 compiled made found.field-0 found.path found.what found.at
    found.field-0-is (found.ensures made.reads.tree.code own.tree.code made.reads.code own.resolves.code)
