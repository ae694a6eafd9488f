use Rattle.std.proofs.Common.{◌≡◌, ◌∙◌, ◌++◌, ap, length, map, sym, subst, rules, true, Some, None}
use Rattle.std.specs.Prelude.{◌&&◌, nat_lt, suc}
use Rattle.std.specs.BinaryHeap.{heap_items}
use Rattle.bc_shapes.specs.Views.{at_of}
use Rattle.bc_flow.specs.Edges.{behind, change, edge_of, falls, jump_way, next_way, target}
use Rattle.bc_flow.specs.Holes.{going, jumping, raising}
use Rattle.bc_flow.specs.Spans.{EachOutside}
use Rattle.bc_flow.specs.Verified.{agree, at, put_next}
use Rattle.bc_flow.specs.Views.{action_of, behind_of, has_if, table_of}
use Rattle.bc_flow.proofs.Holes.{agree_one, agree_past, next_past, next_stop, one_of, outside_one, outside_past}
use Rattle.bc_flow.proofs.Queues.{on_true}
use Rattle.bc_flow.proofs.Walks.{if_ok_map}
use Rattle.bc_flow.proofs.passing.put_leaving.Goals as goal

pub put_if-requires-clause-agree : goal.put_if-requires-clause-agree
put_if-requires-clause-agree c =
    let a = action_of c.args.action.now in
    let x = at_of c.args.x.now in
    let t = table_of c.args.states.now.items in
    let b : behind_of c.entries_behind-behind.result ≡ behind (change a) (length x.slots) x.entries = search rules in
    let g : one_of c.next_if-next.result ≡ going a c.args.p c.args.size x = c.next_if-next.ensures x c.base-base.ensures ∙ ap (λ z. map (edge_of a x) (next_way (falls a && nat_lt (suc c.args.p) c.args.size) c.args.p z)) b in
    let rest = jumping a x ++ raising a x in
    let ag : agree t (one_of c.next_if-next.result ++ rest) ≡ true = subst (λ z. agree t (z ++ rest) ≡ true) (sym g) c.requires.agree in
    agree_one t c.next_if-next.result rest ag

pub put_if-requires-clause-outside : goal.put_if-requires-clause-outside
put_if-requires-clause-outside c =
    let a = action_of c.args.action.now in
    let x = at_of c.args.x.now in
    let t = table_of c.args.states.now.items in
    let b : behind_of c.entries_behind-behind.result ≡ behind (change a) (length x.slots) x.entries = search rules in
    let g : one_of c.next_if-next.result ≡ going a c.args.p c.args.size x = c.next_if-next.ensures x c.base-base.ensures ∙ ap (λ z. map (edge_of a x) (next_way (falls a && nat_lt (suc c.args.p) c.args.size) c.args.p z)) b in
    let rest = jumping a x ++ raising a x in
    let ou : EachOutside c.args.among (at t) (one_of c.next_if-next.result ++ rest) = subst (λ z. EachOutside c.args.among (at t) (z ++ rest)) (sym g) c.requires.outside in
    outside_one c.args.among (at t) c.next_if-next.result rest ou

pub returns-then-not-branch-clause-table : goal.returns-then-not-branch-clause-table
returns-then-not-branch-clause-table c =
    let a = action_of c.args.action.now in
    let x = at_of c.args.x.now in
    let t = table_of c.args.states.now.items in
    let b : behind_of c.entries_behind-behind.result ≡ behind (change a) (length x.slots) x.entries = search rules in
    let g : one_of c.next_if-next.result ≡ going a c.args.p c.args.size x = c.next_if-next.ensures x c.base-base.ensures ∙ ap (λ z. map (edge_of a x) (next_way (falls a && nat_lt (suc c.args.p) c.args.size) c.args.p z)) b in
    let rest = jumping a x ++ raising a x in
    let n : None ≡ put_next (one_of c.next_if-next.result) (Some t) = ap (λ z. has_if z c.put_if.new.states.items) (sym c.if-not-branch.true) ∙ c.in_ok-put_if.ensures.table in
    next_stop t c.next_if-next.result rest n ∙ ap (λ z. put_next (z ++ rest) (Some t)) g

pub put_if-requires-2-clause-agree : goal.put_if-requires-2-clause-agree
put_if-requires-2-clause-agree c =
    let a = action_of c.args.action.now in
    let x = at_of c.args.x.now in
    let t = table_of c.args.states.now.items in
    let b : behind_of c.entries_behind-behind.result ≡ behind (change a) (length x.slots) x.entries = search rules in
    let g : one_of c.next_if-next.result ≡ going a c.args.p c.args.size x = c.next_if-next.ensures x c.base-base.ensures ∙ ap (λ z. map (edge_of a x) (next_way (falls a && nat_lt (suc c.args.p) c.args.size) c.args.p z)) b in
    let rest = jumping a x ++ raising a x in
    let ag : agree t (one_of c.next_if-next.result ++ rest) ≡ true = subst (λ z. agree t (z ++ rest) ≡ true) (sym g) c.requires.agree in
    let u = table_of c.put_if.new.states.items in
    let e1 : Some u ≡ put_next (one_of c.next_if-next.result) (Some t) = ap (λ z. has_if z c.put_if.new.states.items) (sym c.if-not-branch.false) ∙ c.in_ok-put_if.ensures.table in
    let j : one_of c.jump_edge-jump.result ≡ jumping a x = c.jump_edge-jump.ensures x c.base-base.ensures ∙ ap (λ z. map (edge_of a x) (jump_way (target a) z)) b in
    let ag2 : agree u (one_of c.jump_edge-jump.result ++ raising a x) ≡ true = subst (λ z. agree u (z ++ raising a x) ≡ true) (sym j) (agree_past t u c.next_if-next.result rest e1 ag) in
    agree_one u c.jump_edge-jump.result (raising a x) ag2

pub put_if-requires-2-clause-outside : goal.put_if-requires-2-clause-outside
put_if-requires-2-clause-outside c =
    let a = action_of c.args.action.now in
    let x = at_of c.args.x.now in
    let t = table_of c.args.states.now.items in
    let b : behind_of c.entries_behind-behind.result ≡ behind (change a) (length x.slots) x.entries = search rules in
    let g : one_of c.next_if-next.result ≡ going a c.args.p c.args.size x = c.next_if-next.ensures x c.base-base.ensures ∙ ap (λ z. map (edge_of a x) (next_way (falls a && nat_lt (suc c.args.p) c.args.size) c.args.p z)) b in
    let rest = jumping a x ++ raising a x in
    let ou : EachOutside c.args.among (at t) (one_of c.next_if-next.result ++ rest) = subst (λ z. EachOutside c.args.among (at t) (z ++ rest)) (sym g) c.requires.outside in
    let u = table_of c.put_if.new.states.items in
    let e1 : Some u ≡ put_next (one_of c.next_if-next.result) (Some t) = ap (λ z. has_if z c.put_if.new.states.items) (sym c.if-not-branch.false) ∙ c.in_ok-put_if.ensures.table in
    let j : one_of c.jump_edge-jump.result ≡ jumping a x = c.jump_edge-jump.ensures x c.base-base.ensures ∙ ap (λ z. map (edge_of a x) (jump_way (target a) z)) b in
    let ou2 : EachOutside c.args.among (at u) (one_of c.jump_edge-jump.result ++ raising a x) = subst (λ z. EachOutside c.args.among (at u) (z ++ raising a x)) (sym j) (outside_past c.args.among t u c.next_if-next.result rest e1 ou) in
    outside_one c.args.among (at u) c.jump_edge-jump.result (raising a x) ou2

pub returns-then-not-branch-2-clause-table : goal.returns-then-not-branch-2-clause-table
returns-then-not-branch-2-clause-table c =
    let a = action_of c.args.action.now in
    let x = at_of c.args.x.now in
    let t = table_of c.args.states.now.items in
    let b : behind_of c.entries_behind-behind.result ≡ behind (change a) (length x.slots) x.entries = search rules in
    let g : one_of c.next_if-next.result ≡ going a c.args.p c.args.size x = c.next_if-next.ensures x c.base-base.ensures ∙ ap (λ z. map (edge_of a x) (next_way (falls a && nat_lt (suc c.args.p) c.args.size) c.args.p z)) b in
    let rest = jumping a x ++ raising a x in
    let u = table_of c.put_if.new.states.items in
    let e1 : Some u ≡ put_next (one_of c.next_if-next.result) (Some t) = ap (λ z. has_if z c.put_if.new.states.items) (sym c.if-not-branch.false) ∙ c.in_ok-put_if.ensures.table in
    let j : one_of c.jump_edge-jump.result ≡ jumping a x = c.jump_edge-jump.ensures x c.base-base.ensures ∙ ap (λ z. map (edge_of a x) (jump_way (target a) z)) b in
    let n : None ≡ put_next (one_of c.jump_edge-jump.result) (Some u) = ap (λ z. has_if z c.put_if-2.new.states.items) (sym c.if-not-branch-2.true) ∙ c.in_ok-put_if-2.ensures.table in
    next_stop u c.jump_edge-jump.result (raising a x) n ∙ ap (λ z. put_next (z ++ raising a x) (Some u)) j ∙ sym (next_past t u c.next_if-next.result rest e1) ∙ ap (λ z. put_next (z ++ rest) (Some t)) g

pub put_if-requires-3-clause-agree : goal.put_if-requires-3-clause-agree
put_if-requires-3-clause-agree c =
    let a = action_of c.args.action.now in
    let x = at_of c.args.x.now in
    let t = table_of c.args.states.now.items in
    let b : behind_of c.entries_behind-behind.result ≡ behind (change a) (length x.slots) x.entries = search rules in
    let g : one_of c.next_if-next.result ≡ going a c.args.p c.args.size x = c.next_if-next.ensures x c.base-base.ensures ∙ ap (λ z. map (edge_of a x) (next_way (falls a && nat_lt (suc c.args.p) c.args.size) c.args.p z)) b in
    let rest = jumping a x ++ raising a x in
    let ag : agree t (one_of c.next_if-next.result ++ rest) ≡ true = subst (λ z. agree t (z ++ rest) ≡ true) (sym g) c.requires.agree in
    let u = table_of c.put_if.new.states.items in
    let e1 : Some u ≡ put_next (one_of c.next_if-next.result) (Some t) = ap (λ z. has_if z c.put_if.new.states.items) (sym c.if-not-branch.false) ∙ c.in_ok-put_if.ensures.table in
    let j : one_of c.jump_edge-jump.result ≡ jumping a x = c.jump_edge-jump.ensures x c.base-base.ensures ∙ ap (λ z. map (edge_of a x) (jump_way (target a) z)) b in
    let ag2 : agree u (one_of c.jump_edge-jump.result ++ raising a x) ≡ true = subst (λ z. agree u (z ++ raising a x) ≡ true) (sym j) (agree_past t u c.next_if-next.result rest e1 ag) in
    let v = table_of c.put_if-2.new.states.items in
    let e2 : Some v ≡ put_next (one_of c.jump_edge-jump.result) (Some u) = ap (λ z. has_if z c.put_if-2.new.states.items) (sym c.if-not-branch-2.false) ∙ c.in_ok-put_if-2.ensures.table in
    let r : one_of c.raise_edge.result ≡ raising a x = c.raise_edge.ensures a in
    subst (λ z. agree v z ≡ true) (sym r) (agree_past u v c.jump_edge-jump.result (raising a x) e2 ag2)

pub put_if-requires-3-clause-outside : goal.put_if-requires-3-clause-outside
put_if-requires-3-clause-outside c =
    let a = action_of c.args.action.now in
    let x = at_of c.args.x.now in
    let t = table_of c.args.states.now.items in
    let b : behind_of c.entries_behind-behind.result ≡ behind (change a) (length x.slots) x.entries = search rules in
    let g : one_of c.next_if-next.result ≡ going a c.args.p c.args.size x = c.next_if-next.ensures x c.base-base.ensures ∙ ap (λ z. map (edge_of a x) (next_way (falls a && nat_lt (suc c.args.p) c.args.size) c.args.p z)) b in
    let rest = jumping a x ++ raising a x in
    let ou : EachOutside c.args.among (at t) (one_of c.next_if-next.result ++ rest) = subst (λ z. EachOutside c.args.among (at t) (z ++ rest)) (sym g) c.requires.outside in
    let u = table_of c.put_if.new.states.items in
    let e1 : Some u ≡ put_next (one_of c.next_if-next.result) (Some t) = ap (λ z. has_if z c.put_if.new.states.items) (sym c.if-not-branch.false) ∙ c.in_ok-put_if.ensures.table in
    let j : one_of c.jump_edge-jump.result ≡ jumping a x = c.jump_edge-jump.ensures x c.base-base.ensures ∙ ap (λ z. map (edge_of a x) (jump_way (target a) z)) b in
    let ou2 : EachOutside c.args.among (at u) (one_of c.jump_edge-jump.result ++ raising a x) = subst (λ z. EachOutside c.args.among (at u) (z ++ raising a x)) (sym j) (outside_past c.args.among t u c.next_if-next.result rest e1 ou) in
    let v = table_of c.put_if-2.new.states.items in
    let e2 : Some v ≡ put_next (one_of c.jump_edge-jump.result) (Some u) = ap (λ z. has_if z c.put_if-2.new.states.items) (sym c.if-not-branch-2.false) ∙ c.in_ok-put_if-2.ensures.table in
    let r : one_of c.raise_edge.result ≡ raising a x = c.raise_edge.ensures a in
    subst (EachOutside c.args.among (at v)) (sym r) (outside_past c.args.among u v c.jump_edge-jump.result (raising a x) e2 ou2)

pub returns-clause-table : goal.returns-clause-table
returns-clause-table c =
    let a = action_of c.args.action.now in
    let x = at_of c.args.x.now in
    let t = table_of c.args.states.now.items in
    let b : behind_of c.entries_behind-behind.result ≡ behind (change a) (length x.slots) x.entries = search rules in
    let g : one_of c.next_if-next.result ≡ going a c.args.p c.args.size x = c.next_if-next.ensures x c.base-base.ensures ∙ ap (λ z. map (edge_of a x) (next_way (falls a && nat_lt (suc c.args.p) c.args.size) c.args.p z)) b in
    let rest = jumping a x ++ raising a x in
    let u = table_of c.put_if.new.states.items in
    let e1 : Some u ≡ put_next (one_of c.next_if-next.result) (Some t) = ap (λ z. has_if z c.put_if.new.states.items) (sym c.if-not-branch.false) ∙ c.in_ok-put_if.ensures.table in
    let j : one_of c.jump_edge-jump.result ≡ jumping a x = c.jump_edge-jump.ensures x c.base-base.ensures ∙ ap (λ z. map (edge_of a x) (jump_way (target a) z)) b in
    let v = table_of c.put_if-2.new.states.items in
    let e2 : Some v ≡ put_next (one_of c.jump_edge-jump.result) (Some u) = ap (λ z. has_if z c.put_if-2.new.states.items) (sym c.if-not-branch-2.false) ∙ c.in_ok-put_if-2.ensures.table in
    let r : one_of c.raise_edge.result ≡ raising a x = c.raise_edge.ensures a in
    if_ok_map c.put_if-3.result _ _ (λ z h. h ∙ ap (λ q. put_next q (Some v)) r ∙ sym (next_past u v c.jump_edge-jump.result (raising a x) e2) ∙ ap (λ z. put_next (z ++ raising a x) (Some u)) j ∙ sym (next_past t u c.next_if-next.result rest e1) ∙ ap (λ z. put_next (z ++ rest) (Some t)) g) c.put_if-3.ensures.table

pub returns-clause-queued : goal.returns-clause-queued
returns-clause-queued c q =
    c.put_if-3.ensures.queued (on_true _ _ c.if-not-branch-2.false (c.in_ok-put_if-2.ensures.queued (on_true _ _ c.if-not-branch.false (c.in_ok-put_if.ensures.queued q))))

pub returns-clause-since : goal.returns-clause-since
returns-clause-since c old h =
    c.put_if-3.ensures.since old (on_true _ _ c.if-not-branch-2.false (c.in_ok-put_if-2.ensures.since old (on_true _ _ c.if-not-branch.false (c.in_ok-put_if.ensures.since old h))))
