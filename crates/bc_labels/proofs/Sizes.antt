-- The sizes of items and their places.
use Rattle.std.proofs.Common.{◌≡◌, ℕ, zero, suc, ◌<◌, ◌≤◌, Bool, true, false, List, [], ◌∷◌, length, get_or, All, refl, ap, sym, subst, ◌∙◌, inl, inr, arith}
use Rattle.std.proofs.lemmas.List.{length_push, get_or_push, get_or_append_left}
use Rattle.std.proofs.lemmas.List.Elements.{All-get_or}
use Rattle.bc_ops.specs.declared.form.Form.{Form}
use Rattle.bc_ops.specs.declared.form.Form.TheVariants as forms
use Rattle.bc_ops.specs.declared.instr.Instr.{Instr}
use Rattle.bc_ops.specs.Table.{form_of}
use Rattle.bc_ops.specs.Code.{Operand, Spells, spelling}
use Rattle.bc_ops.proofs.Law.{spelled}
use Rattle.bc_ops.specs.mpy_base.Vuint.{Groups}
use Rattle.bc_labels.specs.declared.labelled.Labelled.{Labelled}
use Rattle.bc_labels.specs.declared.labelled.Labelled.TheVariants.{At, Plain, Jump, Unwind}
use Rattle.bc_labels.specs.Labels.{IsSound, HasNoOffset}
use Rattle.bc_labels.specs.Places.{item_at, size_of, place, places_to}
use Rattle.bc_labels.proofs.Standing.{last_or_before}

pub sound_at : (items : List Labelled) (i : ℕ) → All (IsSound items) items → i < length items → IsSound items (item_at items i)
sound_at items i sound within = All-get_or (IsSound items) items i (At 0) within sound

-- an instruction has at most six bytes
few_groups : (bytes : List ℕ) (n : ℕ) → Groups bytes n → length bytes ≤ 5
few_groups bytes n g = omega (arith, ap length g.bytes_are, length_push g.high g.last, g.short)

few_bytes : (form : Form) (bytes : List ℕ) (instr : Instr) → HasNoOffset instr → Operand form bytes instr → length bytes ≤ 5
few_bytes (forms.Whole whole) bytes instr none s = omega (arith, ap length s.0)
few_bytes (forms.Name op) bytes instr none s = few_groups bytes s.0 s.1.groups
few_bytes (forms.Number op) bytes instr none s = few_groups bytes s.0 s.1.groups
few_bytes (forms.Call op) bytes instr none s = few_groups bytes s.0 s.1.groups
few_bytes forms.Signed bytes instr none s = few_groups bytes s.1.n s.1.groups
few_bytes (forms.Offset op signed) bytes instr none s = absurd (subst HasNoOffset s.3 none)
few_bytes forms.Unwind bytes instr none s = absurd (subst HasNoOffset s.6 none)
few_bytes form bytes instr none s = absurd s

short_spelling : (text : List ℕ) (instr : Instr) → HasNoOffset instr → Spells text instr → length text ≤ 6
short_spelling text instr none s = omega (arith, ap length s.parts, few_bytes (form_of s.first) s.behind instr none s.operand)

pub size_bound : (items : List Labelled) (item : Labelled) (wide : Bool) → IsSound items item → size_of item wide ≤ 6
size_bound items (At label) wide sound = omega arith
size_bound items (Plain instr) wide sound = short_spelling (spelling instr) instr sound.1 (spelled instr sound.0)
size_bound items (Jump op label) true sound = omega arith
size_bound items (Jump op label) false sound = omega arith
size_bound items (Unwind label byte) true sound = omega arith
size_bound items (Unwind label byte) false sound = omega arith

pub length-places_to : (items : List Labelled) (widths : List Bool) (n : ℕ) → length (places_to items widths n) ≡ n
length-places_to items widths zero = refl
length-places_to items widths (suc n) = omega (arith, length_push (places_to items widths n) (place items widths n), length-places_to items widths n)

pub get_or-places_to : (items : List Labelled) (widths : List Bool) (n k d : ℕ) → k < n → get_or (places_to items widths n) k d ≡ place items widths k
get_or-places_to items widths zero k d h = absurd (omega arith)
get_or-places_to items widths (suc n) k d h =
    elim (last_or_before k n (omega arith)) [
      | inl before ↦ get_or_append_left (places_to items widths n) (place items widths n ∷ []) d k (omega (arith, length-places_to items widths n)) ∙ get_or-places_to items widths n k d before
      | inr last ↦ get_or_push (places_to items widths n) (place items widths n) d k (length-places_to items widths n ∙ sym last) ∙ ap (place items widths) (sym last)
    ]
