use Rattle.std.proofs.Common.{◌<◌, Some, drop, length}
use Rattle.std.specs.Prelude.{slice_set}
use Rattle.vm_states.specs.vm_fetching.declared.instruction.Fetched.{Fetched}
use Rattle.vm_states.specs.vm_fetching.Instructions as fetched
use Rattle.state_values.proofs.Moves as moves
use Rattle.state_values.proofs.Stores as stores
use Rattle.state_values.proofs.storing.store_local.Goals as goal

pub store_fast-requires-clause-value : goal.store_fast-requires-clause-value
store_fast-requires-clause-value c =
    let h = c.requires.runs in
    stores.value_there c.tops_law.ensures.one h.program c.args.frames.now h.row c.args.op c.args.n c.args.end h.ready c.requires.stores

pub store_fast-requires-clause-local : goal.store_fast-requires-clause-local
store_fast-requires-clause-local c =
    let h = c.requires.runs in
    moves.of_first (λ d. c.args.n < length d.locals) h.program c.args.frames.now h.row (record { instruction = fetched.local c.args.op c.args.n; end = c.args.end }) h.ready
    h.ready.local

pub returns-clause-goes : goal.returns-clause-goes
returns-clause-goes c p row means run r =
    let f : Fetched = record { instruction = fetched.local c.args.op c.args.n; end = c.args.end } in
    let v = stores.value_there c.tops_law.ensures.one p c.args.frames.now row c.args.op c.args.n c.args.end r c.requires.stores in
    moves.goes_behind c.keeps_law.ensures.goes_on c.args.frames.now c.store_fast.new.frames f (λ d. drop 1 d.slots) (λ d. slice_set d.locals c.args.n (Some v.0)) p row means run r tt
    (stores.stores c.args.op c.args.n c.args.end c.args.frames.now.calls c.store_fast.new.frames.calls c.requires.stores c.store_fast.ensures.short c.store_fast.ensures.long p.tables) (c.store_fast.ensures.moved v.0 v.1)
