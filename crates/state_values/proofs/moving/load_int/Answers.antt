use Rattle.std.proofs.Common.{◌≡◌, ◌∷◌, ℤ, subst, sym, rules, SFits, w32}
use Rattle.std.proofs.lemmas.Int.{to_z-of_z}
use Rattle.vm_states.specs.prim_names.arena_heap.declared.value.Value.TheVariants as values
use Rattle.vm_states.specs.vm_frames.declared.slot.Slot.TheVariants as slots
use Rattle.vm_states.specs.vm_frames.Calls.{on_running}
use Rattle.vm_states.specs.frame_moves.Stacks.{gone}
use Rattle.vm_states.specs.vm_fetching.Instructions as fetched
use Rattle.state_values.specs.Moving.{Runs, GoesBehind}
use Rattle.state_values.proofs.Constancy as constancy
use Rattle.state_values.proofs.Finding as finding
use Rattle.state_values.proofs.Shifting as shifting
use Rattle.state_values.proofs.moving.load_int.Goals as goal

pub load_small-requires : goal.load_small-requires
load_small-requires g c =
    let fits : SFits w32 c.args.n = search rules in
    let same = to_z-of_z w32 c.args.n fits in
    record { runs = subst (λ (z : ℤ). Runs c.args.frames.now (record { instruction = fetched.int z; end = c.args.end })) (sym same) (finding.runs c.requires.runs) }

pub returns : goal.returns
returns g c =
    let texts = g.C.Constants.text_of c.args._consts.now in
    let tuples = g.C.Constants.items_of c.args._consts.now in
    let heap = c.args._arena.now in
    let old = c.args.frames.now in
    let new = c.load_small.new.frames in
    let fits : SFits w32 c.args.n = search rules in
    let same = to_z-of_z w32 c.args.n fits in
    record {
      acts = c.acting_law.ensures.moves texts tuples (record { instruction = fetched.int c.args.n; end = c.args.end }) heap old new
          (subst (λ (z : ℤ). GoesBehind (record { instruction = fetched.int z; end = c.args.end }) old new) same c.load_small.ensures.goes)
          (shifting.pushed texts tuples heap.objects old new c.args.end (slots.Value (values.Int c.args.n)) (constancy.int_known texts tuples heap.objects c.args.n c.requires.runs.ready.constant)
          (subst (λ (z : ℤ). new ≡ on_running (λ d. gone c.args.end (slots.Value (values.Int z) ∷ d.slots) d) old) same c.load_small.ensures.moved));
    }
