-- What may have come to a position first lies below what holds there, and so does what leaves it.
use Rattle.std.proofs.Common.{◌≡◌, ℕ, zero, suc, ◌-◌, true, false, List, [], ◌∷◌, ◌++◌, length, map, drop, get_or, refl, sym, ap, subst, ◌∙◌}
use Rattle.std.proofs.lemmas.List.{length-map, drop-map}
use Rattle.bc_flow.specs.bc_shapes.declared.kinds.Kind.{Kind}
use Rattle.bc_flow.specs.bc_shapes.declared.kinds.Kind.TheVariants as kinds
use Rattle.bc_flow.specs.bc_shapes.declared.kinds.Give.{Give}
use Rattle.bc_flow.specs.bc_shapes.declared.kinds.Give.TheVariants.{New, Again}
use Rattle.bc_flow.specs.bc_shapes.Shape.{At, Below, same, value, Belows, none, also, Under, after, give_of}
use Rattle.bc_flow.proofs.bc_shapes_lemmas.Joins.{belows_refl}
use Rattle.bc_flow.specs.Action.{Action}
use Rattle.bc_flow.specs.Edges.{How, Next, There, Run, Way, base, change, edge_of, gives, gives_there, left, slots_of, takes}
use Rattle.bc_refusals.specs.Stages.{open_kind, opened}

open_below : (k : Kind) → Below (open_kind k) k
open_below kinds.Value = value
open_below kinds.Cause = same
open_below kinds.Either = same
open_below kinds.Iter1 = same
open_below kinds.Iter2 = same
open_below kinds.Iter3 = same
open_below kinds.Iter4 = same
open_below kinds.Null = same
open_below kinds.Method = same

belows_open : (ks : List Kind) → Belows (map open_kind ks) ks
belows_open [] = none
belows_open (k ∷ ks) = also (open_below k) (belows_open ks)

pub opened_under : (x : At) → Under (opened x) x
opened_under x = record { slots = belows_open x.slots; entries = refl }

get_open : (ks : List Kind) (n : ℕ) → open_kind (get_or ks n kinds.Either) ≡ get_or (map open_kind ks) n kinds.Either
get_open [] n = refl
get_open (k ∷ ks) zero = refl
get_open (k ∷ ks) (suc n) = get_open ks n

give_open : (g : Give) (ks : List Kind) → Below (open_kind (give_of ks g)) (give_of (map open_kind ks) g)
give_open (New k) ks = open_below k
give_open (Again n) ks = subst (Below (open_kind (get_or ks n kinds.Either))) (get_open ks n) same

gives_open : (gs : List Give) (ks js : List Kind) → Belows (map open_kind (map (give_of ks) gs ++ js)) (map (give_of (map open_kind ks)) gs ++ map open_kind js)
gives_open [] ks js = belows_refl (map open_kind js)
gives_open (g ∷ gs) ks js = also (give_open g ks) (gives_open gs ks js)

after_open : (gs : List Give) (n : ℕ) (ks : List Kind) → Belows (map open_kind (after gs n ks)) (after gs n (map open_kind ks))
after_open gs n ks = subst (λ z. Belows (map open_kind (after gs n ks)) (map (give_of (map open_kind ks)) gs ++ z)) (sym (drop-map open_kind n ks)) (gives_open gs ks (drop n ks))

-- the slots that it works on
base_open : (i : Action) (x : At) → base i (opened x) ≡ map open_kind (base i x)
unfolding base
base_open i x =
    ap (λ n. drop (n - left (change i) x.entries n) (map open_kind x.slots)) (length-map x.slots open_kind)
    ∙ drop-map open_kind (length x.slots - left (change i) x.entries (length x.slots)) x.slots

after_base : (i : Action) (x : At) (gs : List Give) → Belows (map open_kind (after gs (length (takes i)) (base i x))) (after gs (length (takes i)) (base i (opened x)))
after_base i x gs = subst (λ z. Belows (map open_kind (after gs (length (takes i)) (base i x))) (after gs (length (takes i)) z)) (sym (base_open i x)) (after_open gs (length (takes i)) (base i x))

cut_open : (h : ℕ) (ks : List Kind) → map open_kind (drop (length ks - h) ks) ≡ drop (length (map open_kind ks) - h) (map open_kind ks)
cut_open h ks = sym (drop-map open_kind (length ks - h) ks) ∙ ap (λ n. drop (n - h) (map open_kind ks)) (sym (length-map ks open_kind))

slots_open : (i : Action) (h : How) (x : At) → Belows (map open_kind (slots_of i x h)) (slots_of i (opened x) h)
unfolding slots_of
slots_open i Next x = after_base i x (gives i)
slots_open i There x = after_base i x (gives_there i)
slots_open i (Run h true) x = also same (subst (Belows (map open_kind (drop (length x.slots - h) x.slots))) (cut_open h x.slots) (belows_refl _))
slots_open i (Run h false) x = also same (subst (Belows (map open_kind (drop (length x.slots - h) x.slots))) (cut_open h x.slots) (belows_refl _))

-- what an edge brings
pub edge_open : (i : Action) (w : Way) (x : At) → Under (opened (edge_of i x w).at) (edge_of i (opened x) w).at
edge_open i w x = record { slots = slots_open i w.how x; entries = refl }
