use Rattle.std.proofs.Common.{◌≡◌, ◌<◌, ℕ, List, All, length, refl, sym, ap, ◌∙◌, subst}
use Rattle.std.proofs.lemmas.List.Elements.{All-weaker}
use Rattle.frame_moves.specs.vm_frames.declared.slot.Slot.{Slot}
use Rattle.frame_moves.specs.vm_frames.Calls.{Call, Calls, OfRunning, change_first}
use Rattle.frame_moves.specs.vm_frames.Placed.{IsPlaced}
use Rattle.frame_moves.specs.Shown.{view_of, IsTop, IsNext}
use Rattle.frame_moves.specs.Outcomes.{world_of}
use Rattle.frame_exits.specs.declared.causes.Cause.{Cause}
use Rattle.frame_exits.specs.Causes.{KeepsCause, cause_slot, FitsEntries, GoesOn, unkept, resumed, resuming_of}
use Rattle.frame_exits.specs.Ends.{with_modules}
use Rattle.frame_exits.specs.Known.{HasModule, IsKnownCall}
use Rattle.frame_exits.proofs.Finishes.{slot_known, keeps_cause, some_cause, one_cause, end_resumes, end_known, unkept_is, goes_unkept, next_unkept}
use Rattle.frame_exits.proofs.Keeping.{slot_later, call_later}
use Rattle.frame_exits.proofs.Leaves.{popped, popped_placed, changed_all, of_changed}
use Rattle.frame_exits.proofs.finishing.end_finally.Goals as goal

pub cause_of-cause-requires : goal.cause_of-cause-requires
cause_of-cause-requires g c =
    let cause = c.requires.cause.0 in
    subst KeepsCause (some_cause cause c.pop.result c.args.frames.now.calls c.requires.cause.1 c.pop.ensures.top) (keeps_cause cause)

pub drop_entry-requires : goal.drop_entry-requires
drop_entry-requires g c =
    let E : Call → Type 0 = λ (d : Call). 0 < length d.entries in
    subst (OfRunning E) (sym (ap (λ (z : Calls). z.calls) c.pop.ensures.rest)) (of_changed E E popped (λ d h. h) c.args.frames.now.calls c.requires.entry)

pub resume-requires-clause-fits : goal.resume-requires-clause-fits
resume-requires-clause-fits g c =
    let old = c.args.frames.now in
    let cause = c.requires.cause.0 in
    let same = one_cause cause c.cause_of-cause.result (some_cause cause c.pop.result old.calls c.requires.cause.1 c.pop.ensures.top ∙ c.cause_of-cause.ensures) in
    let gone = unkept_is old c.pop.new.self c.drop_entry.new.self c.pop.ensures.rest c.drop_entry.ensures in
    subst (λ (z : Cause). OfRunning (FitsEntries z) c.drop_entry.new.self.calls) same
    (subst (OfRunning (FitsEntries cause)) (sym (ap (λ (z : Calls). z.calls) gone)) (of_changed (λ d. FitsEntries cause (unkept d)) (FitsEntries cause) unkept (λ d h. h) old.calls c.requires.cause.2))

pub resume-requires-clause-named : goal.resume-requires-clause-named
resume-requires-clause-named g c =
    let old = c.args.frames.now in
    let N : Call → Type 0 = λ (d : Call). d.module_number < length c.args.names.now in
    let gone = unkept_is old c.pop.new.self c.drop_entry.new.self c.pop.ensures.rest c.drop_entry.ensures in
    subst (All N) (sym (ap (λ (z : Calls). z.calls) gone)) (changed_all N N unkept (λ d h. h) (λ d h. h) old.calls c.requires.named)

pub resume-requires-clause-role : goal.resume-requires-clause-role
resume-requires-clause-role g c =
    let old = c.args.frames.now in
    let H : Call → Type 0 = λ (d : Call). HasModule c.args.arena.now.objects d.role in
    let gone = unkept_is old c.pop.new.self c.drop_entry.new.self c.pop.ensures.rest c.drop_entry.ensures in
    subst (OfRunning H) (sym (ap (λ (z : Calls). z.calls) gone)) (of_changed H H unkept (λ d h. h) old.calls c.requires.role)

pub returns-clause-steps : goal.returns-clause-steps
returns-clause-steps g c tables place w are next placed library paid =
    let old = c.args.frames.now in
    let cause = c.cause_of-cause.result in
    let top : IsTop (cause_slot cause) old.calls = subst (λ (z : Slot). IsTop z old.calls) c.cause_of-cause.ensures c.pop.ensures.top in
    let same = ap (λ (z : Calls). z.calls) (unkept_is old c.pop.new.self c.drop_entry.new.self c.pop.ensures.rest c.drop_entry.ensures) in
    let w0 = world_of tables (with_modules tables w c.args.modules.now) c.args.arena.now in
    let P : Call → Type 0 = λ (d : Call). IsPlaced (view_of tables) d in
    end_resumes tables library place paid w0 cause old.calls top c.requires.entry
    ∙ ap (λ (z : List Call). resuming_of tables cause z w0) (sym same)
    ∙ c.resume.ensures.state tables w are
    (subst (λ (z : List Call). IsNext tables c.args.end z) (sym same) (next_unkept tables c.args.end old.calls next))
    (subst (All P) (sym same) (changed_all P P unkept (λ d p. popped_placed (view_of tables) (record d { entries = Rattle.std.proofs.Common.drop 1 d.entries }) (c.placed_law.ensures.drops (view_of tables) d p)) (λ d p. p) old.calls placed))

pub returns-clause-calls : goal.returns-clause-calls
returns-clause-calls g c other there =
    let old = c.args.frames.now in
    let cause = c.cause_of-cause.result in
    let gone = unkept_is old c.pop.new.self c.drop_entry.new.self c.pop.ensures.rest c.drop_entry.ensures in
    let same = sym (one_cause other cause (some_cause other c.pop.result old.calls there c.pop.ensures.top ∙ c.cause_of-cause.ensures)) in
    c.resume.ensures.calls
    ∙ ap (λ (z : Calls). record z { calls = resumed cause c.args.end z.calls }) gone
    ∙ ap (λ (z : Cause). record old { calls = resumed z c.args.end (change_first unkept old.calls) }) same

pub returns-clause-placed : goal.returns-clause-placed
returns-clause-placed g c view other there on h =
    let old = c.args.frames.now in
    let cause = c.cause_of-cause.result in
    let calls_are = ap (λ (z : Calls). z.calls) (unkept_is old c.pop.new.self c.drop_entry.new.self c.pop.ensures.rest c.drop_entry.ensures) in
    let same = one_cause other cause (some_cause other c.pop.result old.calls there c.pop.ensures.top ∙ c.cause_of-cause.ensures) in
    let G : Call → Type 0 = λ (d : Call). GoesOn view c.args.end other d in
    let P : Call → Type 0 = λ (d : Call). IsPlaced view d in
    c.resume.ensures.placed view
    (subst (λ (z : Cause). OfRunning (GoesOn view c.args.end z) c.drop_entry.new.self.calls) same (subst (OfRunning G) (sym calls_are) (of_changed G G unkept (λ d k. goes_unkept view c.args.end other d k) old.calls on)))
    (subst (All P) (sym calls_are) (changed_all P P unkept (λ d p. popped_placed view (record d { entries = Rattle.std.proofs.Common.drop 1 d.entries }) (c.placed_law.ensures.drops view d p)) (λ d p. p) old.calls h))

pub returns-clause-keeps : goal.returns-clause-keeps
returns-clause-keeps g c =
    let texts = g.C.Constants.text_of c.args.consts.now in
    let tuples = g.C.Constants.items_of c.args.consts.now in
    let old = c.args.frames.now in
    let cause = c.cause_of-cause.result in
    let count = length c.args.names.now in
    let before = c.args.arena.now.objects in
    let behind = c.resume.new.arena.objects in
    let top : IsTop (cause_slot cause) old.calls = subst (λ (z : Slot). IsTop z old.calls) c.cause_of-cause.ensures c.pop.ensures.top in
    let gone = unkept_is old c.pop.new.self c.drop_entry.new.self c.pop.ensures.rest c.drop_entry.ensures in
    let same = ap (λ (z : Calls). z.calls) (c.resume.ensures.calls ∙ ap (λ (z : Calls). record z { calls = resumed cause c.args.end z.calls }) gone) in
    let O : Call → Type 0 = λ (d : Call). IsKnownCall texts tuples count before d in
    let N : Call → Type 0 = λ (d : Call). IsKnownCall texts tuples count behind d in
    record {
      known = λ h. subst (All N) (sym same) (end_known texts tuples count behind cause c.args.end old.calls top (All-weaker O N (λ d k. call_later texts tuples count before behind c.resume.ensures.later d k) old.calls h));
      later = c.resume.ensures.later;
      all_told = c.resume.ensures.all_told;
    }

pub returns-clause-after : goal.returns-clause-after
returns-clause-after g c h =
    let texts = g.C.Constants.text_of c.args.consts.now in
    let tuples = g.C.Constants.items_of c.args.consts.now in
    let old = c.args.frames.now.calls in
    let count = length c.args.names.now in
    let before = c.args.arena.now.objects in
    let behind = c.resume.new.arena.objects in
    let cause = c.cause_of-cause.result in
    let top : IsTop (cause_slot cause) old = subst (λ (z : Slot). IsTop z old) c.cause_of-cause.ensures c.pop.ensures.top in
    c.resume.ensures.after behind (slot_later texts tuples c.resume.ensures.later (cause_slot cause) (slot_known texts tuples count before (cause_slot cause) old top h))
