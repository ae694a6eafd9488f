-- What is judged of one position.
use Rattle.std.proofs.Common.{◌≡◌, ℕ, ◌+◌, ◌-◌, ◌&&◌, List, length, map, sym, ap, ◌∙◌}
use Rattle.std.specs.Prelude.{nat_le}
use Rattle.bc_shapes.specs.declared.kinds.Kind.{Kind}
use Rattle.bc_shapes.specs.declared.kinds.Give.{Give}
use Rattle.bc_shapes.specs.declared.shape.Entry.{Entry}
use Rattle.bc_shapes.specs.Shape.{At, after}
use Rattle.bc_shapes.proofs.Loops.{after_size}
use Rattle.bc_flow.specs.Action.{Action}
use Rattle.bc_flow.specs.Code.{Code}
use Rattle.bc_flow.specs.Edges.{Edge, edge_of, edges, ways, takes, gives, gives_there, change, behind, asks, holds, holds_over, base, room, has_room, slots_of, How, Next, There, mark, arrive}
use Rattle.bc_flow.proofs.Loops.{marks_are}

pub holds_is : (code : Code) (a : Action) (p : ℕ) (x : At) (es : List Edge) → es ≡ edges code a p x → holds_over code a x es ≡ holds code a p (length x.slots) x.entries
unfolding holds
holds_is code a p x es e =
    ap (holds_over code a x) e
    ∙ ap (λ z. asks (change a) x.entries && nat_le (length (behind (change a) (length x.slots) x.entries)) code.n_exc && z) (marks_are a x (ways code a p (length x.slots) x.entries))

next_size : (a : Action) (x : At) → length (slots_of a x Next) ≡ length (gives a) + (length (base a x) - length (takes a))
unfolding slots_of
next_size a x = after_size (gives a) (length (takes a)) (base a x)

there_size : (a : Action) (x : At) → length (slots_of a x There) ≡ length (gives_there a) + (length (base a x) - length (takes a))
unfolding slots_of
there_size a x = after_size (gives_there a) (length (takes a)) (base a x)

pub room_is : (code : Code) (a : Action) (x : At) (locals next there : ℕ) (bs : List Kind) → locals ≡ code.locals → bs ≡ base a x → next ≡ length (gives a) + (length bs - length (takes a)) → there ≡ length (gives_there a) + (length bs - length (takes a)) → has_room locals code.n_state (length x.slots) next there ≡ room code a x
unfolding room
room_is code a x locals next there bs l b n t =
    ap (λ z. has_room z code.n_state (length x.slots) next there) l
    ∙ ap (λ z. has_room code.locals code.n_state (length x.slots) z there) (n ∙ ap (λ z. length (gives a) + (length z - length (takes a))) b ∙ sym (next_size a x))
    ∙ ap (λ z. has_room code.locals code.n_state (length x.slots) (length (slots_of a x Next)) z) (t ∙ ap (λ z. length (gives_there a) + (length z - length (takes a))) b ∙ sym (there_size a x))

-- The edges that are pushed.

pub next_slots : (a : Action) (x : At) (gs : List Give) (n : ℕ) (bs sl : List Kind) → bs ≡ base a x → gs ≡ gives a → n ≡ length (takes a) → sl ≡ after gs n bs → sl ≡ slots_of a x Next
unfolding slots_of
next_slots a x gs n bs sl b g l s = s ∙ ap (λ z. after z n bs) g ∙ ap (λ z. after (gives a) z bs) l ∙ ap (after (gives a) (length (takes a))) b

pub there_slots : (a : Action) (x : At) (gs : List Give) (n : ℕ) (bs sl : List Kind) → bs ≡ base a x → gs ≡ gives_there a → n ≡ length (takes a) → sl ≡ after gs n bs → sl ≡ slots_of a x There
unfolding slots_of
there_slots a x gs n bs sl b g l s = s ∙ ap (λ z. after z n bs) g ∙ ap (λ z. after (gives_there a) z bs) l ∙ ap (after (gives_there a) (length (takes a))) b

pub edge_is : (a : Action) (x : At) (how : How) (q to : ℕ) (es : List Entry) (sl : List Kind) (e : Edge) → e ≡ record { to = q; at = record { slots = sl; entries = map (mark q) es } } → q ≡ to → sl ≡ slots_of a x how → e ≡ edge_of a x (arrive to es how)
edge_is a x how q to es sl e h l s =
    h
    ∙ ap (λ z. let d : Edge = record { to = z; at = record { slots = sl; entries = map (mark z) es } } in d) l
    ∙ ap (λ z. let d : Edge = record { to = to; at = record { slots = z; entries = map (mark to) es } } in d) s
