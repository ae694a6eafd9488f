use Rattle.std.proofs.Common.{◌≡◌, ◌∙◌, [], Some, ap, sym, subst, true}
use Rattle.bc_flow.specs.Spans.{EachOutside}
use Rattle.bc_flow.specs.Verified.{agree, at, put, put_next}
use Rattle.bc_flow.specs.Views.{edge_of_rust, table_of}
use Rattle.bc_flow.proofs.Holes.{next_nil, one_of}
use Rattle.bc_flow.proofs.Tables.{agree_first}
use Rattle.bc_flow.proofs.Walks.{if_ok_map}
use Rattle.bc_flow.proofs.passing.put_if.Goals as goal

pub put_edge-requires-clause-agrees : goal.put_edge-requires-clause-agrees
put_edge-requires-clause-agrees c = agree_first (table_of c.args.states.now.items) (edge_of_rust c.in-Some.edge) [] (subst (λ o. agree (table_of c.args.states.now.items) (one_of o) ≡ true) c.in-Some.is c.requires.agree)

pub put_edge-requires-clause-outside : goal.put_edge-requires-clause-outside
put_edge-requires-clause-outside c = (subst (λ o. EachOutside c.args.among (at (table_of c.args.states.now.items)) (one_of o)) c.in-Some.is c.requires.outside).0

pub returns-in-Some-clause-table : goal.returns-in-Some-clause-table
returns-in-Some-clause-table c = if_ok_map c.put_edge.result _ _ (λ b h. h ∙ sym (next_nil (put (table_of c.args.states.now.items) c.in-Some.edge.to (edge_of_rust c.in-Some.edge).at)) ∙ ap (λ o. put_next (one_of o) (Some (table_of c.args.states.now.items))) (sym c.in-Some.is)) c.put_edge.ensures.table
