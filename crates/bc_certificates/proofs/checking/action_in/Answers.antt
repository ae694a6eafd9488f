use Rattle.std.proofs.Common.{◌≡◌, length, rules}
use Rattle.bc_flow.specs.Views.{action_of}
use Rattle.bc_flow.proofs.Walks.{action_there}
use Rattle.bc_certificates.proofs.checking.action_in.Goals as goal

pub returns : goal.returns
returns c =
    let items = c.args.code.now.items.items in
    let size : c.len.result ≡ length items = search rules in
    action_there (length items) c.len.result items c.args.p c.index.result.now (action_of c.action_at.result) size c.requires c.index.ensures c.action_at.ensures
