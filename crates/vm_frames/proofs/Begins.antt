-- The frame of a call that begins.
use Rattle.std.proofs.Common.{◌≡◌, ℕ, zero, suc, ◌-◌, List, [], ◌∷◌, ◌++◌, map, length, replicate, Option, None, refl, sym, ap, ◌∙◌}
use Rattle.std.specs.Option.{option_map}
use Rattle.mpy_base.specs.Val.{Val}
use Rattle.arena_heap.specs.declared.value.Value.{Value}
use Rattle.arena_heap.specs.declared.value.DictNo.{DictNo}
use Rattle.vm_frames.specs.declared.slot.Role.{Role}
use Rattle.bc_labels.specs.Positions.{CodeList, Listed, position_in}
use Rattle.bc_labels.proofs.Order.{first}
use Rattle.bc_machine.specs.Library.{Code}
use Rattle.bc_machine.specs.State as states
use Rattle.bc_machine.specs.Parts.{new_frame}
use Rattle.vm_frames.specs.Views.{View, role_of, locals_of, frame_of}
use Rattle.vm_frames.proofs.Lists.{map-length}

empty : {A B : Type 0} (f : A → B) (n : ℕ) → map (option_map f) (replicate n None) ≡ replicate n None
empty f zero = refl
empty {B = B} f (suc n) = ap (λ (z : List (Option B)). None ∷ z) (empty f n)

joined : (view : View) (vs : List (Option Value)) (n : ℕ) → locals_of view (vs ++ replicate n None) ≡ locals_of view vs ++ replicate n None
joined view [] n = empty view.plain n
joined view (v ∷ vs) n = ap (λ (z : List (Option Val)). option_map view.plain v ∷ z) (joined view vs n)

pub begins : (view : View) (module_number number : ℕ) (code : Code) (vs : List (Option Value)) (names : DictNo) (role : Role) (bytes : List ℕ) (l : CodeList)
    → Listed bytes l → view.starts module_number number ≡ l.offsets
    → new_frame (view.module_name module_number) number code (locals_of view vs) names.cell (role_of view (view.module_name module_number) role)
    ≡ frame_of view (record { module_number = module_number; code = number; at = 0; names = names; role = role; locals = vs ++ replicate (code.locals - length vs) None; slots = []; entries = [] })
begins view module_number number code vs names role bytes l ls e =
    let at : ℕ → List (Option Val) → states.Frame = λ q zs. record { module_name = view.module_name module_number; code = number; position = q; locals = zs; slots = []; entries = []; names = names.cell; role = role_of view (view.module_name module_number) role } in
    let p : position_in (view.starts module_number number) 0 ≡ 0 = ap (λ (z : List ℕ). position_in z 0) e ∙ first bytes l ls in
    ap (λ (n : ℕ). at 0 (locals_of view vs ++ replicate (code.locals - n) None)) (map-length (option_map view.plain) vs)
    ∙ (ap (at 0) (sym (joined view vs (code.locals - length vs))) ∙ ap (λ (q : ℕ). at q (locals_of view (vs ++ replicate (code.locals - length vs) None))) (sym p))
