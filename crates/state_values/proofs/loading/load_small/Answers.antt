use Rattle.std.proofs.Common.{◌≡◌, ◌∷◌, ℤ, subst, rules, SFits, w32}
use Rattle.std.proofs.lemmas.Int.{to_z-of_z}
use Rattle.vm_states.specs.bc_ops.declared.instr.Instr.TheVariants as instrs
use Rattle.vm_states.specs.prim_names.arena_heap.declared.value.Value.TheVariants as values
use Rattle.vm_states.specs.bc_machine.Library.{Plain}
use Rattle.vm_states.specs.vm_frames.declared.slot.Slot.TheVariants as slots
use Rattle.vm_states.specs.vm_frames.Calls.{on_running}
use Rattle.vm_states.specs.frame_moves.Shown.{Steps}
use Rattle.vm_states.specs.frame_moves.Stacks.{gone}
use Rattle.vm_states.specs.vm_fetching.Instructions as fetched
use Rattle.state_values.proofs.Moves as moves
use Rattle.state_values.proofs.loading.load_small.Goals as goal

pub load_int-requires : goal.load_int-requires
load_int-requires c = let h = c.requires.runs in moves.room h.program c.args.frames.now h.row (record { instruction = fetched.int c.args.n; end = c.args.end }) h.ready

pub returns-clause-goes : goal.returns-clause-goes
returns-clause-goes c p row means run r =
    let fits : SFits w32 c.args.n = search rules in
    let same = to_z-of_z w32 c.args.n fits in
    let old = c.args.frames.now in
    let new = c.load_int.new.frames in
    moves.goes_behind c.keeps_law.ensures.goes_on old new (record { instruction = fetched.int c.args.n; end = c.args.end }) (λ d. slots.Value (values.Int c.args.n) ∷ d.slots) (λ d. d.locals) p row means run r tt
    (λ w next. subst (λ (z : ℤ). Steps p.tables w (Plain (instrs.Int z)) old.calls new.calls) same (c.load_int.ensures.steps p.tables w next))
    (subst (λ (z : ℤ). new ≡ on_running (λ c1. gone c.args.end (slots.Value (values.Int z) ∷ c1.slots) c1) old) same c.load_int.ensures.moved)
