-- How a code with its numbers moved is made.
use Rattle.std.proofs.Common.{◌≡◌, ℕ, ◌≤◌, List, [], ◌∷◌, length, map, drop, Result, Ok, Err, Vec, Global, refl, sym, ap, subst, ◌∙◌, inl, inr, arith}
use Rattle.std.specs.Prelude.{IfOk}
use Rattle.std.specs.List.{AllZip}
use Rattle.mpy_base.specs.declared.refused.Refused.{Refused}
use Rattle.mpy_base.specs.declared.refused.Refused.TheVariants as refusals
use Rattle.mpy_base.specs.declared.limits.TheConstants.{MAX_CODE_BYTES}
use Rattle.bc_scheme.specs.bc_ops.declared.listing.Item as listings
use Rattle.bc_scheme.specs.bc_ops.Listing.{starts, IsListOf, Lists}
use Rattle.bc_scheme.proofs.bc_ops_lemmas.Lists.{one_listing}
use Rattle.bc_verify.specs.bc_prelude.declared.prelude.Prelude.{Prelude}
use Rattle.bc_verify.specs.bc_prelude.Prelude.{Begins}
use Rattle.bc_verify.specs.bc_prelude.Lines.{line_of}
use Rattle.bc_verify.proofs.bc_prelude_lemmas.Preludes.{same_prelude}
use Rattle.mpy_writer.specs.mpy_tree.declared.module.Code.{Code, Code-F, out-Code}
use Rattle.mpy_writer.specs.mpy_tree.Raw.{Module}
use Rattle.mpy_writer.specs.declared.tables.Tables.{Tables}
use Rattle.mpy_writer.specs.declared.fault.WriteFault.{WriteFault}
use Rattle.mpy_writer.specs.declared.fault.WriteFault.TheVariants.{TooManyNames, TooFar, TooBig}
use Rattle.mpy_writer.specs.Outcome.{IfFault}
use Rattle.mpy_writer.specs.File.{IsOwn, IsCodeFault}
use Rattle.mpy_merge.specs.Far.{IsFarOwn}
use Rattle.mpy_merge.specs.Kept.{IsKeptCode}
use Rattle.mpy_merge.specs.Moved.{text_at, IsMovedItem, IsMovedCode, IsMovedOwn}
use Rattle.bc_verify.proofs.bc_prelude_lemmas.Pieces.{instructions_at, parts_short}
use Rattle.mpy_merge.proofs.Sound.{short_list}

-- the instructions of a kept code, wherever it is read
pub list_there : (m : Module) (bytes : List ℕ) (k : IsKeptCode m bytes) (prelude : Prelude) (b : Begins bytes prelude) → IsListOf b.instructions k.items
list_there m bytes k prelude b =
    let same : k.prelude ≡ prelude = same_prelude bytes k.prelude prelude k.begins b in
    subst (λ (z : List ℕ). IsListOf z k.items) (sym (instructions_at bytes k.prelude k.begins) ∙ (ap (λ (z : Prelude). drop z.code_at bytes) same ∙ instructions_at bytes prelude b)) k.is_list

pub items_kept : (m : Module) (bytes : List ℕ) (k : IsKeptCode m bytes) (prelude : Prelude) (b : Begins bytes prelude) (text : List ℕ) (xs : List listings.Item) (offsets : List ℕ) → text ≡ b.instructions → Lists text xs offsets → xs ≡ k.items
items_kept m bytes k prelude b text xs offsets is l =
    let there = list_there m bytes k prelude b in
    let theirs : Lists b.instructions k.items (starts 0 there.pieces) = record { is_list = there; offsets_are = refl } in
    (one_listing b.instructions xs k.items offsets (starts 0 there.pieces) (subst (λ (z : List ℕ). Lists z xs offsets) is l) theirs).0

pub few_kept : (m : Module) (bytes : List ℕ) (k : IsKeptCode m bytes) → length k.items ≤ MAX_CODE_BYTES
few_kept m bytes k =
    let short = short_list k.begins.instructions k.items k.is_list in
    let parts = parts_short bytes k.prelude k.begins in
    let few = k.short in
    omega (arith, short, parts, few)

-- a code by its fields
pub record IsMovedForm (tables : Tables) (base : ℕ) (m : Module) (bytes : List ℕ) (r : Code-F Code) : Type 0 where
  pub prelude : Prelude
  pub begins : Begins bytes prelude
  pub names : r.name ∷ r.args ≡ map (text_at m) begins.indexes
  pub defaults : r.defaults ≡ prelude.defaults
  pub n_state : r.n_state ≡ prelude.n_state
  pub n_exc : r.n_exc ≡ prelude.n_exc
  pub items : List listings.Item
  pub offsets : List ℕ
  pub lists : Lists begins.instructions items offsets
  pub instrs : AllZip (IsMovedItem tables base m) items r.instrs
  pub lines : r.lines ≡ map (line_of begins.lines) offsets
  pub alone : r.children ≡ []

pub moved_by : (tables : Tables) (base : ℕ) (m : Module) (bytes : List ℕ) (code : Code) (r : Code-F Code) → out-Code code ≡ r → IsMovedForm tables base m bytes r → IsMovedCode tables base m bytes code
moved_by tables base m bytes code r e f = record {
  prelude = f.prelude;
  begins = f.begins;
  names = ap (λ (z : Code-F Code). z.name ∷ z.args) e ∙ f.names;
  defaults = ap (λ (z : Code-F Code). z.defaults) e ∙ f.defaults;
  n_state = ap (λ (z : Code-F Code). z.n_state) e ∙ f.n_state;
  n_exc = ap (λ (z : Code-F Code). z.n_exc) e ∙ f.n_exc;
  items = f.items;
  offsets = f.offsets;
  lists = f.lists;
  instrs = subst (λ (z : Code-F Code). AllZip (IsMovedItem tables base m) f.items z.instrs) (sym e) f.instrs;
  lines = ap (λ (z : Code-F Code). z.lines) e ∙ f.lines;
  alone = ap (λ (z : Code-F Code). z.children) e ∙ f.alone;
}

-- the end of writing it
module _ (tables : Tables) (base : ℕ) (m : Module) (bytes : List ℕ) (code : Code) (moved : IsMovedCode tables base m bytes code) where
  pub own_ok : (r : Result (Vec ℕ Global) (Refused WriteFault)) → IfOk r (λ own. IsOwn tables code own.items × (length own.items ≤ MAX_CODE_BYTES)) → IfOk r (λ own. IsMovedOwn tables base m bytes own.items)
  own_ok (Ok own) h = record { code = code; moved = moved; is_own = h.0; short = h.1 }
  own_ok (Err refusal) h = tt

  pub own_fault : (r : Result (Vec ℕ Global) (Refused WriteFault)) → IfFault r (IsCodeFault tables code) → IfFault r (λ fault. IsFarOwn tables base m bytes)
  own_fault (Ok own) h = tt
  own_fault (Err refusals.NoMemory) h = tt
  own_fault (Err (refusals.Fault TooManyNames)) h = absurd h
  own_fault (Err (refusals.Fault TooFar)) h = record { code = code; moved = moved; far = inl h }
  own_fault (Err (refusals.Fault TooBig)) h = record { code = code; moved = moved; far = inr h }
