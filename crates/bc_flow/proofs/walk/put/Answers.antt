use Rattle.std.proofs.Common.{◌<◌, sym, subst, set, length, rules}
use Rattle.bc_flow.specs.Spans.{Keeps, Outside}
use Rattle.bc_flow.specs.Verified.{at, seen}
use Rattle.bc_flow.specs.Views.{edge_of_rust, cell_of, table_of}
use Rattle.bc_flow.proofs.Spans.{on_true_map, seen_here, seen_set}
use Rattle.bc_flow.proofs.Tables.{agrees_within, agrees_here, put_meets}
use Rattle.bc_flow.proofs.Walks.{if_ok_map}
use Rattle.bc_flow.proofs.walk.put.Goals as goal

pub index_mut-requires : goal.index_mut-requires
index_mut-requires c =
    let lt : c.args.edge.to < length c.args.states.now.items = agrees_within c.args.states.now.items c.args.edge.to (edge_of_rust c.args.edge).at.entries c.requires.agrees in
    search rules

pub meet-requires-clause-agrees : goal.meet-requires-clause-agrees
meet-requires-clause-agrees c = agrees_here c.args.states.now.items c.args.edge.to (edge_of_rust c.args.edge).at.entries c.index_mut.result.now c.requires.agrees c.index_mut.ensures.value

pub meet-requires-clause-outside : goal.meet-requires-clause-outside
meet-requires-clause-outside c =
    let cells = c.args.states.now.items in
    let lt = agrees_within cells c.args.edge.to (edge_of_rust c.args.edge).at.entries c.requires.agrees in
    subst (Outside c.args.among (edge_of_rust c.args.edge).at) (seen_here cells c.args.edge.to c.index_mut.result.now lt c.index_mut.ensures.value) c.requires.outside

pub returns-clause-puts : goal.returns-clause-puts
returns-clause-puts c =
    if_ok_map c.meet.result _ _
    (λ b h. put_meets c.args.states.now.items c.args.edge.to (edge_of_rust c.args.edge).at c.index_mut.result.now c.meet.new.state b
    (agrees_within c.args.states.now.items c.args.edge.to (edge_of_rust c.args.edge).at.entries c.requires.agrees) c.index_mut.ensures.value h)
    c.meet.ensures.meets

pub returns-clause-keeps : goal.returns-clause-keeps
returns-clause-keeps c =
    let cells = c.args.states.now.items in
    let n = c.args.edge.to in
    let lt = agrees_within cells n (edge_of_rust c.args.edge).at.entries c.requires.agrees in
    if_ok_map c.meet.result _ _
    (λ b. on_true_map b _ _ (λ h. subst (λ o. Keeps c.meet.new.span o (at (table_of (set cells n c.meet.new.state)) n)) (sym (seen_here cells n c.index_mut.result.now lt c.index_mut.ensures.value))
    (subst (λ o. Keeps c.meet.new.span (seen (cell_of c.index_mut.result.now)) o) (sym (seen_set cells n c.meet.new.state lt)) h)))
    c.meet.ensures.keeps
