use Rattle.std.proofs.Common.{◌≡◌, ◌<◌, ◌≤◌, true, false, None, length, sym, ◌∙◌, refl, arith, rules}
use Rattle.std.proofs.lemmas.Bool.{false≢true}
use Rattle.bc_library.specs.bc_shapes.declared.shape.Entry.{Entry}
use Rattle.snap_grammar.specs.declared.parts.EntryPart.{EntryPart}
use Rattle.snap_states.proofs.Framing.{entries_next, entries_end, entries_apart}
use Rattle.snap_states.proofs.frames.are_entries_at.Goals as goal

abbrev no_part : EntryPart
no_part = record { handler = 0; is_finally = false; active = false; height = 0; kept = None }

abbrev no_entry : Entry
no_entry = record { handler = 0; is_finally = false; active = false; height = 0 }

pub returns-then-parts-entries : goal.returns-then-parts-entries
returns-then-parts-entries c = (λ t. absurd (false≢true t), λ h. absurd (entries_apart c.args.offsets.now c.args.parts.now c.args.entries.now c.if-parts-entries.true h))

pub returns-then-not-is_entry_at : goal.returns-then-not-is_entry_at
returns-then-not-is_entry_at c =
    let i = c.loop-i.i in
    let le : i < length c.args.entries.now = omega arith in
    let lt : i < length c.args.parts.now = omega arith in
    let next = entries_next c.args.offsets.now c.args.parts.now c.args.entries.now i no_part no_entry lt le in
    let no : c.is_entry_at.result ≡ false = search rules in
    (λ t. absurd (false≢true t), λ h. absurd (false≢true (sym no ∙ c.is_entry_at.ensures.1 (next.0 (c.loop-i.invariant.0 h)).0)))

pub loop-i-preserved : goal.loop-i-preserved
loop-i-preserved c =
    let i = c.loop-i.i in
    let le : i < length c.args.entries.now = omega arith in
    let lt : i < length c.args.parts.now = omega arith in
    let next = entries_next c.args.offsets.now c.args.parts.now c.args.entries.now i no_part no_entry lt le in
    let yes : c.is_entry_at.result ≡ true = search rules in
    (λ h. (next.0 (c.loop-i.invariant.0 h)).1, λ h. c.loop-i.invariant.1 (next.1 (c.is_entry_at.ensures.0 yes, h)))

pub returns : goal.returns
returns c =
    let i = c.loop-i.i in
    let le : length c.args.entries.now ≤ i = omega arith in
    let lt : length c.args.parts.now ≤ i = omega arith in
    (λ t. c.loop-i.invariant.1 (entries_end c.args.offsets.now c.args.parts.now c.args.entries.now i lt le), λ h. refl)
