use Rattle.std.proofs.Common.{◌≡◌, ◌+◌, ℕ, suc, Some, slice_get, subst, arith}
use Rattle.frame_moves.specs.bc_ops.declared.instr.Op.TheVariants as ops
use Rattle.frame_moves.specs.bc_ops.declared.instr.Instr.TheVariants as instrs
use Rattle.frame_moves.specs.bc_machine.Library.{Plain}
use Rattle.frame_moves.specs.vm_frames.declared.slot.Slot.{Slot}
use Rattle.frame_calls.specs.Invoking.{Invokes}
use Rattle.frame_calls.specs.Known.{IsKnownSlot}
use Rattle.frame_calls.specs.Layouts.{tables_of}
use Rattle.frame_calls.specs.Operands.{running_slots, args_in, keys_in, operands_count}
use Rattle.frame_calls.proofs.Invokings.{method_invokes, looked_same}
use Rattle.frame_calls.proofs.Knowns.{all_at}
use Rattle.frame_calls.proofs.Slots.{slot_within}
use Rattle.frame_calls.proofs.calling.call_method.Goals as goal

pub slot_at-upper-requires : goal.slot_at-upper-requires
slot_at-upper-requires g c =
    let less = slot_within c.args.frames.now.calls (operands_count c.args.number) c.requires.looked.upper c.requires.looked.upper_there in
    omega (arith, less, c.operands_count-above.ensures.count)

pub slot_at-lower-requires : goal.slot_at-lower-requires
slot_at-lower-requires g c =
    let less = slot_within c.args.frames.now.calls (suc (operands_count c.args.number)) c.requires.looked.lower c.requires.looked.lower_there in
    omega (arith, less, c.operands_count-above.ensures.count)

pub looked_callee-callee-requires : goal.looked_callee-callee-requires
looked_callee-callee-requires g c =
    let st = running_slots c.args.frames.now.calls in
    let above = c.operands_count-above.result in
    let P : Slot → Type 0 = IsKnownSlot (g.C.Constants.text_of c.args.consts.now) (g.C.Constants.items_of c.args.consts.now) c.args.arena.now.objects in
    record {
      looked = looked_same st (operands_count c.args.number) above c.slot_at-upper.result c.slot_at-lower.result c.operands_count-above.ensures.count c.requires.looked c.slot_at-upper.ensures c.slot_at-lower.ensures;
      known_upper = all_at P st above c.slot_at-upper.result c.requires.known c.slot_at-upper.ensures;
      known_lower = all_at P st (above + 1) c.slot_at-lower.result c.requires.known c.slot_at-lower.ensures;
      all_told = c.requires.all_told;
    }

pub returns-clause-invokes : goal.returns-clause-invokes
returns-clause-invokes g c layout =
    let t = tables_of (g.C.Constants.text_of c.args.consts.now) (g.C.Constants.items_of c.args.consts.now) layout in
    let calls = c.args.frames.now.calls in
    let st = running_slots calls in
    let n = operands_count c.args.number in
    let above = c.operands_count-above.result in
    let count = c.operands_count-above.ensures.count in
    let next : above + 1 ≡ suc n = omega (arith, count) in
    let size : suc (suc n) ≡ above + 2 = omega (arith, count) in
    let upper = c.slot_at-upper.result in
    let lower = c.slot_at-lower.result in
    subst (λ (m : ℕ). Invokes t (Plain (instrs.Num ops.CallMethod c.args.number)) m c.args.arena.now calls (args_in c.args.number st) (keys_in c.args.number st) c.looked_callee-callee.result) size
    (method_invokes t c.args.number c.args.arena.now c.looked_callee-callee.result calls upper lower
    (subst (λ (i : ℕ). slice_get st i ≡ Some upper) count c.slot_at-upper.ensures) (subst (λ (i : ℕ). slice_get st i ≡ Some lower) next c.slot_at-lower.ensures)
    (c.looked_callee-callee.ensures.called layout))

pub returns-clause-there : goal.returns-clause-there
returns-clause-there g c =
    let less = slot_within c.args.frames.now.calls (suc (operands_count c.args.number)) c.requires.looked.lower c.requires.looked.lower_there in
    omega (arith, less, c.operands_count-above.ensures.count)
