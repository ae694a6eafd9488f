-- Functions of the program that are entered.
use Rattle.std.specs.Prelude.{◌≡◌, ℕ, ◌-◌, ◌<◌, List, [], ◌∷◌, ◌++◌, length, map, drop, replicate, Bool, true, false, Option}
use Rattle.std.specs.Prelude.{Some, None, Result, Ok, Err, IfSome, All}
use Rattle.mpy_base.specs.World.{Objects}
use Rattle.frame_moves.specs.arena_heap.declared.value.Value.{Value}
use Rattle.frame_moves.specs.arena_heap.declared.value.StrNo.{StrNo}
use Rattle.frame_moves.specs.arena_heap.declared.value.StrNo.TheVariants as strs
use Rattle.frame_moves.specs.arena_heap.declared.value.ConstNo.{ConstNo}
use Rattle.frame_moves.specs.bc_labels.Positions.{CodeList, Listed}
use Rattle.frame_moves.specs.bc_machine.Library.{Code, Library, code_at}
use Rattle.frame_moves.specs.prim_walks.Plain.{plain_name}
use Rattle.frame_moves.specs.prim_faults.declared.fault.Fault.TheVariants as faults
use Rattle.frame_moves.specs.prim_faults.declared.stop.Stop.{Stop}
use Rattle.frame_moves.specs.prim_faults.declared.stop.Stop.TheVariants as stops
use Rattle.frame_moves.specs.prim_faults.Faults.{IsKnown}
use Rattle.prim_calls.specs.declared.callees.Function.{Function}
use Rattle.frame_moves.specs.vm_frames.declared.slot.Role.TheVariants as roles
use Rattle.frame_moves.specs.vm_frames.Calls.{Call, Calls, change_first}
use Rattle.frame_calls.specs.declared.binding.FunctionCode.{FunctionCode}
use Rattle.frame_moves.specs.Shown.{Tables, text_of}

-- in the library the function's code is this one, in the module of this number. Its instructions have bytes, one at least
pub record IsCodeOf (tables : Tables) (library : Library) (f : Function) (module_number : ℕ) (code : FunctionCode) : Type 0 where
  pub found : Code
  pub there : code_at library (plain_name tables.texts tables.tuples f.module_name) f.code ≡ Some found
  pub module_is : tables.module_name module_number ≡ plain_name tables.texts tables.tuples f.module_name
  pub params : map (λ n. text_of tables (strs.Pool n)) code.params.now ≡ found.params
  pub given : code.given ≡ found.given
  pub locals : code.locals ≡ found.locals
  pub bytes : List ℕ
  pub list : CodeList
  pub listed : Listed bytes list
  pub starts_are : tables.starts module_number f.code ≡ list.offsets
  pub some : 0 < length bytes

-- a call of the function begins, with these values in its first locals
abbrev pub begun : Function → (module_number locals : ℕ) → List (Option Value) → Call
begun f module_number locals vs = record {
  module_number = module_number;
  code = f.code;
  at = 0;
  names = f.names;
  role = roles.Call;
  locals = vs ++ replicate (locals - length vs) None;
  slots = [];
  entries = [];
}

-- the call begins over the running one, which waits at its instruction without the slots that were taken
abbrev pub entered : (taken : ℕ) → Call → Calls → Calls
entered taken new s = record s { calls = new ∷ change_first (λ c. record c { slots = drop taken c.slots }) s.calls }

-- it begins where there is depth, and else the calls stay
abbrev pub IsEntered : Bool → (taken : ℕ) → Call → (old new : Calls) → Result (Unit {0}) Stop → Type 0
IsEntered true taken call old new result = (result ≡ Ok tt) × (new ≡ entered taken call old)
IsEntered false taken call old new result = (result ≡ Err (stops.Raises faults.TooDeep)) × (new ≡ old)

module _ (texts : StrNo → Option (List ℕ)) (tuples : ConstNo → Option (List Value)) where
  -- a call of the function begins, whose locals are known values or empty. Where it stops, the calls stay
  abbrev pub Enters : Objects Value ℕ → Function → (module_number locals taken : ℕ) → (old new : Calls) → Result (Unit {0}) Stop → Type 0
  Enters objects f module_number locals taken old new (Ok done) =
      (vs : List (Option Value)) × All (λ v. IfSome v (IsKnown texts tuples objects)) vs × (new ≡ entered taken (begun f module_number locals vs) old)
  Enters objects f module_number locals taken old new (Err stop) = new ≡ old
