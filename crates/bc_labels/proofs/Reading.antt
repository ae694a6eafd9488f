-- The instructions of items may be written.
use Rattle.std.proofs.Common.{◌≡◌, ℕ, zero, suc, ◌<◌, ◌≤◌, Bool, true, false, List, [], ◌∷◌, length, All, ℤ, refl, ap, sym, subst, ◌∙◌, arith}
use Rattle.std.specs.List.{flat_map}
use Rattle.std.proofs.lemmas.List.{append-nil, length-append}
use Rattle.std.proofs.lemmas.List.Concat.{flat_map-append}
use Rattle.std.proofs.lemmas.List.Elements.{All-nil, All-cons, All-append}
use Rattle.bc_ops.specs.declared.form.Form.{Form}
use Rattle.bc_ops.specs.declared.form.Form.TheVariants as forms
use Rattle.bc_ops.specs.declared.instr.Op.{Op}
use Rattle.bc_ops.specs.declared.instr.Instr.{Instr}
use Rattle.bc_ops.specs.declared.instr.Instr.TheVariants as instrs
use Rattle.bc_ops.specs.Table.{code_of, form_of}
use Rattle.bc_ops.specs.Offset.{Fits}
use Rattle.bc_ops.specs.Code.{is_signed, spelling, TakesOffset, IsEncodable}
use Rattle.bc_labels.specs.declared.labelled.Labelled.{Labelled}
use Rattle.bc_labels.specs.declared.labelled.Labelled.TheVariants.{At, Plain, Jump, Unwind}
use Rattle.bc_labels.specs.Labels.{IsSound, HasOffset, is_jump, signed_of}
use Rattle.bc_labels.specs.Places.{item_at, width_at, size_of, place, offset}
use Rattle.bc_labels.specs.Choice.{FitsAt, AllFit, ShortFit, IsLayout, IsCode, instr_of, instrs_to}
use Rattle.bc_labels.proofs.Sizes.{sound_at}

takes : (form : Form) (op : Op) (wide : Bool) (z : ℤ) → HasOffset form op → Fits (is_signed form) wide z → TakesOffset form op wide z
takes (forms.Offset o signed) op wide z h fits = (h, fits)
takes form op wide z h fits = absurd h

single : (instr : Instr) → IsEncodable instr → All IsEncodable (instr ∷ [])
single instr h = All-cons IsEncodable instr [] h (All-nil IsEncodable)

pub encodable_item : (items : List Labelled) (item : Labelled) (z : ℤ) (wide : Bool) → IsSound items item → (is_jump item ≡ true → Fits (signed_of item) wide z) → All IsEncodable (instr_of item z wide)
encodable_item items (At label) z wide sound fits = All-nil IsEncodable
encodable_item items (Plain instr) z wide sound fits = single instr sound.0
encodable_item items (Jump op label) z wide sound fits = single (instrs.Jump op z wide) (takes (form_of (code_of op)) op wide z sound.0 (fits refl))
encodable_item items (Unwind label byte) z wide sound fits = single (instrs.Unwind z wide byte) (fits refl)

either : (items : List Labelled) (widths : List Bool) (i : ℕ) (b : Bool) → width_at widths i ≡ b → (width_at widths i ≡ false → FitsAt items widths i false) → (width_at widths i ≡ true → FitsAt items widths i true) → FitsAt items widths i (width_at widths i)
either items widths i true e short wide = subst (λ (b : Bool). FitsAt items widths i b) (sym e) (wide e)
either items widths i false e short wide = subst (λ (b : Bool). FitsAt items widths i b) (sym e) (short e)

pub encodable_to : (items : List Labelled) (widths : List Bool) (n : ℕ) → All (IsSound items) items → ShortFit items widths → AllFit items widths true → n ≤ length items → All IsEncodable (instrs_to items widths n)
encodable_to items widths zero sound short wide within = All-nil IsEncodable
encodable_to items widths (suc n) sound short wide within =
    let here : n < length items = omega arith in
    All-append IsEncodable (instrs_to items widths n) _ (encodable_to items widths n sound short wide (omega arith))
    (encodable_item items (item_at items n) (offset items widths n) (width_at widths n) (sound_at items n sound here)
    (λ jumps. either items widths n (width_at widths n) refl (short n here jumps) (wide n here jumps)))

pub is_code : (items : List Labelled) (bytes : List ℕ) → All (IsSound items) items → IsLayout items bytes → IsCode bytes
is_code items bytes sound f = record {
  instrs = instrs_to items f.widths (length items);
  bytes_are = f.bytes_are;
  encodable = encodable_to items f.widths (length items) sound f.fewest.short_fit f.wide_fit (omega arith);
}

-- the bytes of an item are as many as its size, and those in front of it as many as its place
length-instr : (item : Labelled) (z : ℤ) (wide : Bool) → length (flat_map spelling (instr_of item z wide)) ≡ size_of item wide
length-instr (At label) z wide = refl
length-instr (Plain instr) z wide = ap length (append-nil (spelling instr))
length-instr (Jump op label) z true = refl
length-instr (Jump op label) z false = refl
length-instr (Unwind label byte) z true = refl
length-instr (Unwind label byte) z false = refl

pub length-instrs : (items : List Labelled) (widths : List Bool) (i : ℕ) → length (flat_map spelling (instrs_to items widths i)) ≡ place items widths i
length-instrs items widths zero = refl
length-instrs items widths (suc i) =
    let here = instr_of (item_at items i) (offset items widths i) (width_at widths i) in
    ap length (flat_map-append spelling (instrs_to items widths i) here)
    ∙ omega (arith, length-append (flat_map spelling (instrs_to items widths i)) (flat_map spelling here), length-instrs items widths i, length-instr (item_at items i) (offset items widths i) (width_at widths i))
