use Rattle.std.proofs.Common.{◌≡◌, sym, ap, ◌∙◌}
use Rattle.snap_grammar.specs.declared.parts.Snapshot.{Snapshot}
use Rattle.snap_loading.specs.Saved.{snapshot_in}
use Rattle.snap_loading.proofs.suspended.continues_law.Goals as goal

pub returns : goal.returns
returns c shelf main cells bytes ports n snap vm other tabled named s loaded =
    let same : snapshot_in shelf vm ≡ loaded.s = c.spelling_law.ensures (snapshot_in shelf vm) loaded.s s.fits loaded.fits (sym s.spelled ∙ loaded.spelled) in
    c.goes_on_law.ensures shelf main cells bytes ports n vm other loaded.s tabled named s.is_vm (c.kept_law.ensures.saved shelf main cells bytes ports n snap vm s)
    s.runs same
    (record {
      goes_on = loaded.goes_on;
      paid = ap (λ (z : Snapshot). z.paid) loaded.shown;
      shaped = loaded.is_state.shaped;
      decoded = loaded.decoded;
    })
