use Rattle.std.proofs.Common.{◌≡◌, ◌+◌, ℕ, suc, map, Some, slice_get, subst, arith}
use Rattle.frame_moves.specs.bc_ops.declared.instr.Op.TheVariants as ops
use Rattle.frame_moves.specs.bc_ops.declared.instr.Instr.TheVariants as instrs
use Rattle.frame_moves.specs.bc_machine.Library.{Plain}
use Rattle.frame_moves.specs.vm_frames.declared.slot.Slot.TheVariants as slots
use Rattle.frame_moves.specs.arena_heap.declared.value.Value.{Value}
use Rattle.frame_calls.specs.Invoking.{Invokes}
use Rattle.frame_calls.specs.Layouts.{tables_of}
use Rattle.frame_calls.specs.Operands.{running_slots, value_in, args_in, keys_in, operands_count}
use Rattle.frame_calls.proofs.Invokings.{function_invokes}
use Rattle.frame_calls.proofs.Knowns.{read_known}
use Rattle.frame_calls.proofs.Slots.{slot_within, read_value}
use Rattle.frame_calls.proofs.calling.call_function.Goals as goal

pub value_at-requires : goal.value_at-requires
value_at-requires g c =
    let less = slot_within c.args.frames.now.calls (operands_count c.args.number) (slots.Value c.requires.callee.0) c.requires.callee.1 in
    omega (arith, less, c.operands_count-above.ensures.count)

pub callee_of-callee-requires-clause-known : goal.callee_of-callee-requires-clause-known
callee_of-callee-requires-clause-known g c =
    read_known (g.C.Constants.text_of c.args.consts.now) (g.C.Constants.items_of c.args.consts.now) c.args.arena.now.objects (running_slots c.args.frames.now.calls) c.operands_count-above.result c.value_at.result c.requires.known c.value_at.ensures

pub returns-clause-invokes : goal.returns-clause-invokes
returns-clause-invokes g c layout =
    let t = tables_of (g.C.Constants.text_of c.args.consts.now) (g.C.Constants.items_of c.args.consts.now) layout in
    let calls = c.args.frames.now.calls in
    let st = running_slots calls in
    let above = c.operands_count-above.result in
    let count = c.operands_count-above.ensures.count in
    let size : suc (operands_count c.args.number) ≡ above + 1 = omega (arith, count) in
    let got = subst (λ (i : ℕ). slice_get (map value_in st) i ≡ Some c.value_at.result) count c.value_at.ensures in
    let same = read_value st (operands_count c.args.number) c.requires.callee.0 c.value_at.result c.requires.callee.1 got in
    let there = subst (λ (v : Value). slice_get st (operands_count c.args.number) ≡ Some (slots.Value v)) same c.requires.callee.1 in
    subst (λ (n : ℕ). Invokes t (Plain (instrs.Num ops.CallFunction c.args.number)) n c.args.arena.now calls (args_in c.args.number st) (keys_in c.args.number st) c.callee_of-callee.result) size
    (function_invokes t c.args.number c.args.arena.now c.callee_of-callee.result calls c.value_at.result there c.callee_of-callee.ensures.callee)

pub returns-clause-there : goal.returns-clause-there
returns-clause-there g c =
    let less = slot_within c.args.frames.now.calls (operands_count c.args.number) (slots.Value c.requires.callee.0) c.requires.callee.1 in
    omega (arith, less, c.operands_count-above.ensures.count)
