-- What holds of a shape holds of each below it.
use Rattle.std.proofs.Common.{◌≡◌, ℕ, ◌-◌, true, false, List, [], ◌∷◌, length, map, drop, refl, sym, ap, ◌∙◌, subst}
use Rattle.std.proofs.lemmas.Bool.{and_parts, and_from}
use Rattle.bc_shapes.specs.Shape.{At, same, Belows, also, Under}
use Rattle.bc_shapes.proofs.Joins.{belows-length, belows_drop, belows_after, fits_below, under_trans}
use Rattle.bc_flow.specs.Action.{Action}
use Rattle.bc_flow.specs.Edges.{How, Next, There, Run, takes, change, gives, gives_there, left, deep, Way, ways, holds, base, finds, slots_of, has_room, room, edge_of, edges}
use Rattle.bc_flow.specs.Code.{Code}
use Rattle.bc_flow.specs.Verified.{Assigned, Each, none as no_more, also as more, Fine}

pub holds_under : (code : Code) (i : Action) (p : ℕ) (x y : At) → Under x y → holds code i p (length y.slots) y.entries ≡ holds code i p (length x.slots) x.entries
holds_under code i p x y u = ap (λ n. holds code i p n y.entries) (sym (belows-length x.slots y.slots u.slots)) ∙ ap (holds code i p (length x.slots)) (sym u.entries)

pub ways_under : (code : Code) (i : Action) (p : ℕ) (x y : At) → Under x y → ways code i p (length y.slots) y.entries ≡ ways code i p (length x.slots) x.entries
ways_under code i p x y u = ap (λ n. ways code i p n y.entries) (sym (belows-length x.slots y.slots u.slots)) ∙ ap (ways code i p (length x.slots)) (sym u.entries)

pub base_under : (i : Action) (x y : At) → Under x y → Belows (base i x) (base i y)
unfolding base
base_under i x y u =
    let n = length x.slots - left (change i) x.entries (length x.slots) in
    let e : n ≡ length y.slots - left (change i) y.entries (length y.slots) =
    ap (λ m. m - left (change i) x.entries m) (belows-length x.slots y.slots u.slots) ∙ ap (λ es. length y.slots - left (change i) es (length y.slots)) u.entries in
    subst (λ m. Belows (base i x) (drop m y.slots)) e (belows_drop n x.slots y.slots u.slots)

pub finds_under : (i : Action) (x y : At) → Under x y → finds i y ≡ true → finds i x ≡ true
unfolding finds
finds_under i x y u t =
    let p = and_parts _ _ t in
    let b = base_under i x y u in
    let len : length (base i y) ≡ length (base i x) = sym (belows-length (base i x) (base i y) b) in
    and_from _ _ (fits_below (takes i) (base i x) (base i y) b p.0)
    (sym (ap (λ n. deep (change i) y.entries (length (takes i)) n) len ∙ ap (λ z. deep (change i) z (length (takes i)) (length (base i x))) (sym u.entries)) ∙ p.1)

pub slots_under : (i : Action) (h : How) (x y : At) → Under x y → Belows (slots_of i x h) (slots_of i y h)
unfolding slots_of
slots_under i Next x y u = belows_after (gives i) (length (takes i)) (base i x) (base i y) (base_under i x y u)
slots_under i There x y u = belows_after (gives_there i) (length (takes i)) (base i x) (base i y) (base_under i x y u)
slots_under i (Run h true) x y u = also same (subst (λ n. Belows (drop (length x.slots - h) x.slots) (drop (n - h) y.slots)) (belows-length x.slots y.slots u.slots) (belows_drop (length x.slots - h) x.slots y.slots u.slots))
slots_under i (Run h false) x y u = also same (subst (λ n. Belows (drop (length x.slots - h) x.slots) (drop (n - h) y.slots)) (belows-length x.slots y.slots u.slots) (belows_drop (length x.slots - h) x.slots y.slots u.slots))

pub room_under : (code : Code) (i : Action) (x y : At) → Under x y → room code i y ≡ room code i x
unfolding room
room_under code i x y u =
    ap (λ n. has_room code.locals code.n_state n (length (slots_of i y Next)) (length (slots_of i y There))) (sym (belows-length x.slots y.slots u.slots))
    ∙ ap (λ n. has_room code.locals code.n_state (length x.slots) n (length (slots_of i y There))) (sym (belows-length (slots_of i x Next) (slots_of i y Next) (slots_under i Next x y u)))
    ∙ ap (λ n. has_room code.locals code.n_state (length x.slots) (length (slots_of i x Next)) n) (sym (belows-length (slots_of i x There) (slots_of i y There) (slots_under i There x y u)))

edge_under : (i : Action) (w : Way) (x y : At) → Under x y → Under (edge_of i x w).at (edge_of i y w).at
edge_under i w x y u = record { slots = slots_under i w.how x y u; entries = refl }

each_under : (a : Assigned) (i : Action) (x y : At) (ws : List Way) → Under x y → Each a (map (edge_of i y) ws) → Each a (map (edge_of i x) ws)
each_under a i x y [] u h = no_more
each_under a i x y (w ∷ ws) u (more l h) =
    more (record { at = l.at; is = l.is; under = under_trans (edge_of i x w).at (edge_of i y w).at l.at (edge_under i w x y u) l.under }) (each_under a i x y ws u h)

pub edges_under : (code : Code) (a : Assigned) (i : Action) (p : ℕ) (x y : At) → Under x y → Each a (edges code i p y) → Each a (edges code i p x)
edges_under code a i p x y u h = each_under a i x y (ways code i p (length x.slots) x.entries) u (subst (λ ws. Each a (map (edge_of i y) ws)) (ways_under code i p x y u) h)

-- the rules hold below
pub fine_under : (code : Code) (a : Assigned) (p : ℕ) (x y : At) → Under x y → Fine code a p y → Fine code a p x
fine_under code a p x y u f = record {
  action = f.action;
  is = f.is;
  handlers = sym (holds_under code f.action p x y u) ∙ f.handlers;
  height = finds_under f.action x y u f.height;
  state = sym (room_under code f.action x y u) ∙ f.state;
  falls = f.falls;
  along = edges_under code a f.action p x y u f.along;
}
