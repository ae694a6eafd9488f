use Rattle.std.proofs.Common.{◌≡◌, ◌<◌, ◌≤◌, true, false, None, length, subst, refl, arith, rules}
use Rattle.std.specs.List.{All}
use Rattle.std.proofs.lemmas.List.{take_all}
use Rattle.std.proofs.lemmas.List.Elements.{All-more}
use Rattle.snap_grammar.specs.declared.parts.EntryPart.{EntryPart}
use Rattle.snap_states.specs.States.{KeepsFine}
use Rattle.snap_states.proofs.frames.keep_fine.Goals as goal

abbrev no_part : EntryPart
no_part = record { handler = 0; is_finally = false; active = false; height = 0; kept = None }

pub loop-entry-preserved : goal.loop-entry-preserved
loop-entry-preserved c =
    let i = c.loop-entry.entry-index in
    let lt : i < length c.args.entries.now = omega arith in
    let yes : c.keeps_fine.result ≡ true = search rules in
    All-more (KeepsFine c.args.known.now.snapshot.now) c.args.entries.now i no_part lt c.loop-entry.invariant (c.keeps_fine.ensures.0 yes)

pub returns : goal.returns
returns c =
    let i = c.loop-entry.entry-index in
    let le : length c.args.entries.now ≤ i = omega arith in
    (λ t. subst (All (KeepsFine c.args.known.now.snapshot.now)) (take_all i c.args.entries.now le) c.loop-entry.invariant, λ h. refl)
