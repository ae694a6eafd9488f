use Rattle.std.proofs.Common.{Ok, ap, inl}
use Rattle.std.proofs.lemmas.Result.{err_from_is_err_and}
use Rattle.image_open.specs.Opens.{opened}
use Rattle.image_open.proofs.Opened.{entries_differ, few_entries, plain, texts_fit}
use Rattle.image_open.proofs.Results.{known, passed_on, refused_end}
use Rattle.image_open.proofs.opening.read_library.Goals as goal

pub returns-in_err-entries-clause-ends : goal.returns-in_err-entries-clause-ends
returns-in_err-entries-clause-ends c =
    let p = err_from_is_err_and c.from_residual.result c.from_residual.ensures.1 in
    refused_end c.args.below.now c.args.bytes.now _ _ _ p.1 p.2 c.in_err-entries.ensures.read

pub returns-in_err-entries-clause-proper : goal.returns-in_err-entries-clause-proper
returns-in_err-entries-clause-proper c =
    let p = err_from_is_err_and c.from_residual.result c.from_residual.ensures.1 in
    passed_on _ _ _ _ p.1 p.2 c.in_err-entries.ensures.proper

pub together-requires-clause-differ : goal.together-requires-clause-differ
together-requires-clause-differ c =
    entries_differ c.args.below.now c.args.bytes.now c.in_ok-entries.entries c.requires (known _ _ c.in_ok-entries.ensures.proper) c.library_law.ensures.few c.in_ok-entries.ensures.read

pub together-requires-clause-few : goal.together-requires-clause-few
together-requires-clause-few c =
    few_entries c.args.below.now c.args.bytes.now c.in_ok-entries.entries c.requires (known _ _ c.in_ok-entries.ensures.proper) c.library_law.ensures.few c.in_ok-entries.ensures.read

pub together-requires-clause-fit : goal.together-requires-clause-fit
together-requires-clause-fit c =
    texts_fit c.args.below.now c.args.bytes.now c.in_ok-entries.entries c.requires (known _ _ c.in_ok-entries.ensures.proper) c.library_law.ensures.few c.in_ok-entries.ensures.read

pub together-requires-clause-plain : goal.together-requires-clause-plain
together-requires-clause-plain c =
    plain c.args.below.now c.args.bytes.now c.in_ok-entries.entries c.requires (known _ _ c.in_ok-entries.ensures.proper) c.library_law.ensures.few c.in_ok-entries.ensures.read

pub returns-clause-ends : goal.returns-clause-ends
returns-clause-ends c = opened c.in_ok-entries.entries c.in_ok-entries.ensures.read (ap (λ z. Ok z) c.in_ok-together.ensures)

pub returns-clause-proper : goal.returns-clause-proper
returns-clause-proper c = inl (known _ _ c.in_ok-entries.ensures.proper)
