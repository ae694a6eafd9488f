-- What the library of an image has under the name of its main module.
use Rattle.std.proofs.Common.{◌≡◌, ◌⊎◌, ℕ, Bool, true, false, List, [], Option, Some, None, Result, Ok, Err, position, get_or, inl, inr, refl, sym, ap, subst, ◌∙◌}
use Rattle.std.specs.Prelude.{slice_get, option_map}
use Rattle.std.specs.List.{list_any}
use Rattle.std.specs.Str.{bytes_eq}
use Rattle.std.proofs.lemmas.List.Quantifiers.{position-Some}
use Rattle.std.proofs.lemmas.Option.{slice_get-get_or, slice_get-map}
use Rattle.std.proofs.lemmas.Slice.Eq.{bytes_eq-Decides}
use Rattle.mpy_base.specs.declared.refused.Refused.{Refused}
use Rattle.mpy_base.specs.declared.refused.Refused.TheVariants as refused
use Rattle.image_open.specs.mpy_tree.Raw.{Module}
use Rattle.image_open.specs.bc_library.declared.fault.Member.{Member}
use Rattle.image_open.specs.bc_library.declared.fault.Member.TheVariants as members
use Rattle.image_open.specs.bc_library.Shelf.{Named, Shelf, member_by, member_of, names}
use Rattle.image_open.specs.image_grammar.Base.{IsOpened, base_of}
use Rattle.image_open.specs.image_grammar.declared.fault.ImageFault.{ImageFault}
use Rattle.image_open.specs.image_grammar.Opening.{FirstFault}
use Rattle.image_open.specs.Opens.{Opens}
use Rattle.image_runs.specs.declared.fault.MainFault.{MainFault}
use Rattle.image_runs.specs.declared.fault.MainFault.TheVariants.{Image, NoMain}
use Rattle.image_runs.specs.Main.{FaultIs, HoldsMain, IsMainAt, RefusesMain}

-- no name of such a library is refused
-- ====================================

none_refused : (name : List ℕ) (place : Option ℕ) (refused : List (List ℕ)) → refused ≡ [] → member_by place (list_any (bytes_eq name) refused) ≡ Some members.Refused → ⊥
none_refused name (Some i) refused none e = cc
none_refused name None refused none e =
    let same : member_by None (list_any (bytes_eq name) []) ≡ Some members.Refused = subst (λ (r : List (List ℕ)). member_by None (list_any (bytes_eq name) r) ≡ Some members.Refused) none e in cc

pub not_refused : (name : List ℕ) (shelf : Shelf) (member : Member) → IsOpened shelf → Some member ≡ member_of shelf name → member ≡ members.Refused → ⊥
not_refused name shelf member is found refused = none_refused name (position (bytes_eq name) (names shelf)) shelf.refused is.alone (sym found ∙ ap Some refused)

-- the module at a place has the name
-- ==================================

member_place : (place : Option ℕ) (is_refused : Bool) (i : ℕ) → member_by place is_refused ≡ Some (members.Module i) → place ≡ Some i
member_place (Some k) is_refused i e = cc
member_place None true i e = absurd cc
member_place None false i e = absurd cc

named_so : (name : List ℕ) (o : Option Named) → option_map (λ (n : Named). n.name) o ≡ Some name → (m : Module) × (o ≡ Some (record { name = name; held = m }))
named_so name (Some n) e = let same : n.name ≡ name = cc in (n.held, ap (λ (x : List ℕ). Some (record { name = x; held = n.held })) same)
named_so name None e = absurd cc

pub main_at : (name : List ℕ) (shelf : Shelf) (place : ℕ) → member_of shelf name ≡ Some (members.Module place) → (m : Module) × IsMainAt name place m shelf
main_at name shelf place e =
    let found = position-Some (bytes_eq name) (names shelf) place [] (member_place (position (bytes_eq name) (names shelf)) (list_any (bytes_eq name) shelf.refused) place e) in
    let same : name ≡ get_or (names shelf) place [] = (bytes_eq-Decides name (get_or (names shelf) place [])).0 found.1 in
    let there : slice_get (names shelf) place ≡ Some name = slice_get-get_or (names shelf) place [] found.0 ∙ ap Some (sym same) in
    named_so name (slice_get shelf.modules place) (sym (slice_get-map (λ (n : Named). n.name) shelf.modules place) ∙ there)

-- what is answered
-- ================

module _ (below : Shelf) (bytes main : List ℕ) where
  pub is_found : (shelf : Shelf) (member : Member) (place : ℕ) → Opens below bytes shelf → Some member ≡ member_of shelf main → member ≡ members.Module place → HoldsMain below bytes main shelf place
  is_found shelf member place h found is = record { opens = h; found = sym found ∙ ap Some is }

  pub lacks : (shelf : Shelf) (refusal : Refused MainFault) → Opens below bytes shelf → None ≡ member_of shelf main → (refusal ≡ refused.Fault (NoMain main)) ⊎ (refusal ≡ refused.NoMemory) → FaultIs (RefusesMain below bytes main) refusal
  lacks shelf refusal h none (inl e) = subst (FaultIs (RefusesMain below bytes main)) (sym e) (refl, record { shelf = shelf; opens = h; none = sym none })
  lacks shelf refusal h none (inr e) = subst (FaultIs (RefusesMain below bytes main)) (sym e) tt

  -- where the bytes are opened there is no other library, and no fault
  abbrev Opening : Type 0
  Opening = Result Shelf (Refused ImageFault)

  abbrev opened_so : Shelf → Opening
  opened_so shelf = Ok shelf

  abbrev refused_by : Refused ImageFault → Opening
  refused_by refusal = Err refusal

  abbrev pub Only : Opening → Type 0
  Only r = (shelf : Shelf) → Opens below bytes shelf → (r ≡ Ok shelf) ⊎ (r ≡ Err refused.NoMemory)

  abbrev pub Told : Opening → Type 0
  Told r = (fault : ImageFault) → FirstFault (base_of below) bytes fault → (r ≡ Err (refused.Fault fault)) ⊎ (r ≡ Err refused.NoMemory)

  one_shelf : (a shelf : Shelf) → Only (Ok a) → Opens below bytes shelf → a ≡ shelf
  one_shelf a shelf only h = by (only shelf h)
    where
      by : (opened_so a ≡ Ok shelf) ⊎ (opened_so a ≡ Err refused.NoMemory) → a ≡ shelf
      by (inl e) = cc
      by (inr e) = absurd cc

  no_fault : (a : Shelf) (fault : ImageFault) → Told (Ok a) → FirstFault (base_of below) bytes fault → ⊥
  no_fault a fault told h = by (told fault h)
    where
      by : (opened_so a ≡ Err (refused.Fault fault)) ⊎ (opened_so a ≡ Err refused.NoMemory) → ⊥
      by (inl e) = cc
      by (inr e) = cc

  abbrev Answer : Type 0
  Answer = Result (Shelf × ℕ) (Refused MainFault)

  abbrev found_at : Shelf → ℕ → Answer
  found_at shelf place = Ok (shelf, place)

  abbrev refuses : Refused MainFault → Answer
  refuses refusal = Err refusal

  -- the main module was found
  pub found_only : (a : Shelf) (place : ℕ) → Only (Ok a) → member_of a main ≡ Some (members.Module place) → (shelf : Shelf) (other : ℕ) → HoldsMain below bytes main shelf other → found_at a place ≡ found_at shelf other
  found_only a place only at shelf other h =
      let same : a ≡ shelf = one_shelf a shelf only h.opens in
      let both : Some (members.Module place) ≡ Some (members.Module other) = sym at ∙ (ap (λ (s : Shelf). member_of s main) same ∙ h.found) in
      let places : place ≡ other = cc in
      ap (λ (s : Shelf). found_at s place) same ∙ ap (found_at shelf) places

  pub found_no_fault : (a : Shelf) (place : ℕ) → Only (Ok a) → Told (Ok a) → member_of a main ≡ Some (members.Module place) → (fault : MainFault) → RefusesMain below bytes main fault → ⊥
  found_no_fault a place only told at (Image fault) h = no_fault a fault told h
  found_no_fault a place only told at (NoMain name) h =
      let same : a ≡ h.1.shelf = one_shelf a h.1.shelf only h.1.opens in
      let both : Some (members.Module place) ≡ None = sym at ∙ (ap (λ (s : Shelf). member_of s main) same ∙ h.1.none) in
      cc

  -- there is none of the name
  pub lacking_only : (a : Shelf) → Only (Ok a) → None ≡ member_of a main → (shelf : Shelf) (place : ℕ) → HoldsMain below bytes main shelf place → ⊥
  lacking_only a only none shelf place h =
      let same : a ≡ shelf = one_shelf a shelf only h.opens in
      let both : None ≡ Some (members.Module place) = none ∙ (ap (λ (s : Shelf). member_of s main) same ∙ h.found) in
      cc

  pub lacking_fault : (a : Shelf) (refusal : Refused MainFault) → Told (Ok a) → (refusal ≡ refused.Fault (NoMain main)) ⊎ (refusal ≡ refused.NoMemory) → (fault : MainFault) → RefusesMain below bytes main fault
      → (refuses refusal ≡ refuses (refused.Fault fault)) ⊎ (refuses refusal ≡ refuses refused.NoMemory)
  lacking_fault a refusal told is (Image fault) h = absurd (no_fault a fault told h)
  lacking_fault a refusal told (inl e) (NoMain name) h = inl (ap refuses (e ∙ ap (λ (n : List ℕ). refused.Fault (NoMain n)) (sym h.0)))
  lacking_fault a refusal told (inr e) (NoMain name) h = inr (ap refuses e)

  -- the bytes are no image
  not_opened : (f : ImageFault) → Only (refused_by (refused.Fault f)) → (shelf : Shelf) → Opens below bytes shelf → ⊥
  not_opened f only shelf h = by (only shelf h)
    where
      by : (refused_by (refused.Fault f) ≡ Ok shelf) ⊎ (refused_by (refused.Fault f) ≡ Err refused.NoMemory) → ⊥
      by (inl e) = cc
      by (inr e) = cc

  by_fault_fault : (f : ImageFault) → Only (refused_by (refused.Fault f)) → Told (refused_by (refused.Fault f)) → (fault : MainFault) → RefusesMain below bytes main fault
      → (refuses (refused.Fault (Image f)) ≡ refuses (refused.Fault fault)) ⊎ (refuses (refused.Fault (Image f)) ≡ refuses refused.NoMemory)
  by_fault_fault f only told (Image fault) h = by (told fault h)
    where
      by : (refused_by (refused.Fault f) ≡ Err (refused.Fault fault)) ⊎ (refused_by (refused.Fault f) ≡ Err refused.NoMemory) → (refuses (refused.Fault (Image f)) ≡ refuses (refused.Fault (Image fault))) ⊎ (refuses (refused.Fault (Image f)) ≡ refuses refused.NoMemory)
      by (inl e) = let faults : f ≡ fault = cc in inl (ap (λ (g : ImageFault). refuses (refused.Fault (Image g))) faults)
      by (inr e) = absurd cc
  by_fault_fault f only told (NoMain name) h = absurd (not_opened f only h.1.shelf h.1.opens)

  pub unopened_only : (refusal : Refused ImageFault) (f : ImageFault) → refusal ≡ refused.Fault f → Only (Err refusal) → (shelf : Shelf) (place : ℕ) → HoldsMain below bytes main shelf place → ⊥
  unopened_only refusal f is only shelf place h = not_opened f (subst (λ (e : Refused ImageFault). Only (Err e)) is only) shelf h.opens

  pub unopened_fault : (refusal : Refused ImageFault) (f : ImageFault) → refusal ≡ refused.Fault f → Only (Err refusal) → Told (Err refusal) → (fault : MainFault) → RefusesMain below bytes main fault
      → (refuses (refused.Fault (Image f)) ≡ refuses (refused.Fault fault)) ⊎ (refuses (refused.Fault (Image f)) ≡ refuses refused.NoMemory)
  unopened_fault refusal f is only told =
      by_fault_fault f (subst (λ (e : Refused ImageFault). Only (Err e)) is only) (subst (λ (e : Refused ImageFault). Told (Err e)) is told)
