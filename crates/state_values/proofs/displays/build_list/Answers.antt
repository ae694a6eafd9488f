use Rattle.std.proofs.Common.{ℕ, refl, subst, arith}
use Rattle.vm_states.specs.bc_ops.declared.instr.Op.TheVariants as ops
use Rattle.vm_states.specs.bc_ops.declared.instr.Instr.TheVariants as instrs
use Rattle.vm_states.specs.bc_machine.Library.{Plain}
use Rattle.vm_states.specs.frame_values.Effects.{Steps}
use Rattle.vm_states.specs.frame_values.Slots.{Puts, with_value}
use Rattle.vm_states.specs.vm_fetching.Instructions as fetched
use Rattle.vm_states.specs.vm_fetching.declared.operations.BuildOp.TheVariants as build_ops
use Rattle.state_values.proofs.Collecting as collecting
use Rattle.state_values.proofs.Ending as ending
use Rattle.state_values.proofs.Finding as finding
use Rattle.state_values.proofs.displays.build_list.Goals as goal

pub build_list-requires-clause-few : goal.build_list-requires-clause-few
build_list-requires-clause-few g c = let k = c.ranges.n in let m = c.requires.places in omega (arith, k, m)

pub build_list-requires-clause-known : goal.build_list-requires-clause-known
build_list-requires-clause-known g c slot less =
    let m = c.requires.places in
    collecting.items_known c.requires.runs c.tops_law.ensures.items c.args.n c.requires.runs.ready.finds.0 slot (omega (arith, less, m))

pub build_list-requires-clause-room : goal.build_list-requires-clause-room
build_list-requires-clause-room g c none = finding.has_room c.requires.runs

pub build_list-requires-clause-all_told : goal.build_list-requires-clause-all_told
build_list-requires-clause-all_told g c = finding.all_told c.requires.runs

pub returns : goal.returns
returns g c =
    let texts = g.C.Constants.text_of c.args.consts.now in
    let tuples = g.C.Constants.items_of c.args.consts.now in
    let before = c.args.arena.now in
    let behind = c.build_list.new.arena in
    let old = c.args.frames.now in
    let new = c.build_list.new.frames in
    let e = c.build_list.ensures in
    record {
      acts = ending.puts c.acting_law.ensures.acts (record { instruction = fetched.build build_ops.BuildList c.args.n; end = c.args.end }) (λ p s row r. r.begins tt) 0 (Plain (instrs.Num ops.BuildList c.args.n)) old new
          e.leaves (λ p d tells. refl)
          (subst (λ (k : ℕ). Steps texts tuples (Plain (instrs.Num ops.BuildList k)) 0 c.args.end before behind old.calls new.calls c.build_list.result) c.requires.places e.steps)
          c.args.n (subst (λ (k : ℕ). Puts texts tuples behind.objects (with_value c.args.end k) old new c.build_list.result) c.requires.places e.moved);
    }
