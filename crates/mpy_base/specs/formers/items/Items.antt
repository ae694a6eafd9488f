-- Where a list keeps its elements, so that a type may hold lists of itself.
use mathlib.Core.Path.{◌≡◌, refl, sym}
use mathlib.Core.List.{List, []}
use mathlib.Core.Former.{Former, this, list, via, children}
use base.Stored.{code_map}
use denote.RattleType.{RattleType}
use denote.HoleLaws.{Alike}
use denote.HolePlaces.{Recodes, struct_places, laid}
use denote.Hole.Carrier.{listed, list-listed}
use denote.Hole.Fix.{over}
use denote.Param.Weighed.{Weighed, w_list}
use denote.Model.Placed.{view_places}
use Rattle.std.specs.formers.vec.Vec as vectors
use Rattle.std.specs.declared.alloc.Global.{Global}
use Rattle.std.specs.contracts.alloc.Global as heap
use Rattle.std.specs.contracts.impls.GlobalAllocator.TheImpl.{ghosts}
use Rattle.mpy_base.specs.declared.items.Items.TheInside.{Inside}
use Rattle.mpy_base.specs.declared.items.Items.TheView.{view, invariant}
use Rattle.mpy_base.specs.contracts.items.Items as outer
use Rattle.mpy_base.specs.contracts.items.Items.TheInside as inner

-- seen from outside: a list of the elements
abbrev pub the_former : Former {0} → Former {0}
the_former g = list g

-- what a list holds is weighed as its elements are
abbrev pub the_weighed : {g : Former {0}} → Weighed g → Weighed (the_former g)
the_weighed w = w_list w

pub the_empty : List ⊥
the_empty = []

-- the elements of a list
abbrev pub the_items : (X : Type 0) → List X → List X
the_items X elements = elements

pub the_items_listed : (X : Type 0) (elements : List X) → listed _ (children (the_former this) X elements) ≡ the_items X elements
the_items_listed X elements = list-listed X elements

-- seen from inside: the one field, a vector
abbrev field : Former {0}
field = via (vectors.the_former this Global) Inside (λ X fields. fields.items) (λ X items. record { items = items }) (λ X fields. refl) (λ X items. refl)

module _ (R S : RattleType) (h : R.Denot → S.Denot) where
  pub the_places : Alike R S h → Alike (outer.the_row R) (outer.the_row S) ((the_former this).map R.Denot S.Denot h)
  the_places alike = view_places field (list this) view (λ X Y k fields. refl) (λ X fields. refl) R.Denot S.Denot h
      (outer.the_row R).coded (outer.the_row S).coded (invariant R.Denot) (invariant S.Denot) (λ _ _ _. refl) (λ _ _ _. refl) (λ _ _. tt) (λ _ _. tt)
      (over (inner.the_row R)) (over (inner.the_row S))
      (struct_places (inner.the_type R) (inner.the_type S) (vectors.mapped h, tt) _ (λ _. refl) refl
      (laid _ _ _ (vectors.the_places heap.the_row ghosts R S h alike), tt))

  pub the_codes_placed : Recodes R S h → Recodes (outer.the_row R) (outer.the_row S) ((the_former this).map R.Denot S.Denot h)
  the_codes_placed same elements = sym (code_map R.coded.code S.coded.code h (λ x. sym (same x)) elements)
