use Rattle.std.proofs.Common.{rules, tests}
use Rattle.std.proofs.lemmas.Iterator.Search.{all_from_yields_List}
use Rattle.std.proofs.lemmas.Iterator.Splits.{YieldsList-from_slice_split}
use Rattle.pkg_paths.specs.Plain.{is_part}
use Rattle.library_files.proofs.asked.is_plain.Goals as goal

pub returns : goal.returns
returns c =
    all_from_yields_List is_part _ _ c.all.result c.all.ensures.ran
    (YieldsList-from_slice_split _ _ c.args.name.now c.split.ensures.rest c.split.ensures.done c.split.ensures.closure (λ x r q k. search (rules, tests)))
    (λ x b q k. search (rules, tests))
