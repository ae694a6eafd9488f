-- What the verifier knows of a code at an offset, and the way of a kept jump through it.
use Rattle.std.specs.Prelude.{◌≡◌, ◌⊎◌, ℕ, zero, suc, ◌≤◌, Bool, true, List, [], ◌∷◌, ◌++◌, length, map, drop, Some, slice_get}
use Rattle.bc_library.specs.mpy_tree.Codes.{Placed}
use Rattle.bc_library.specs.mpy_tree.bc_prelude.declared.prelude.Prelude.{Prelude}
use Rattle.bc_library.specs.mpy_tree.bc_prelude.Prelude.{Begins}
use Rattle.bc_library.specs.bc_shapes.declared.kinds.Kind.{Kind}
use Rattle.bc_library.specs.bc_shapes.declared.kinds.Kind.TheVariants as kinds
use Rattle.bc_library.specs.bc_shapes.declared.shape.Entry.{Entry}
use Rattle.bc_library.specs.bc_shapes.Shape.{At}
use Rattle.bc_library.specs.bc_flow.Code.{Code}
use Rattle.bc_library.specs.bc_flow.Edges.{iterator_if}
use Rattle.bc_library.specs.bc_flow.Machine.{Stack, KeptJump, all_wanted, cut, remark, is_run}
use Rattle.bc_library.specs.bc_flow.Verified.{Assigned, Holds, IsLeastOf}
use Rattle.bc_library.specs.bc_verify.Body.{Body, Says, flow_of}
use Rattle.bc_library.specs.Shelf.{Shelf}
use Rattle.vm_starting.specs.vm_states.bc_rows.Codes.{code_numbered}
use Rattle.bc_flow.proofs.Sound.{Fits, Stands}

-- the code is there, with so many defaults
pub record HasDefaults (shelf : Shelf) (m code count : ℕ) : Type 0 where
  pub placed : Placed
  pub there : code_numbered shelf m code ≡ Some placed
  pub prelude : Prelude
  pub begins : Begins placed.bytes prelude
  pub defaults : count ≡ prelude.defaults

-- the code is there, and a reachable instruction of it starts at the offset: the least of its assignments has a shape there
pub record StandsAt (shelf : Shelf) (m code at : ℕ) : Type 0 where
  pub placed : Placed
  pub there : code_numbered shelf m code ≡ Some placed
  pub body : Body
  pub offsets : List ℕ
  pub says : Says placed.bytes body offsets
  pub a : Assigned
  pub holds : Holds (flow_of body) a
  pub least : IsLeastOf (flow_of body) a
  pub position : ℕ
  pub here : slice_get offsets position ≡ Some at
  pub shape : At
  pub is : a position ≡ Some shape

-- one of the entries has this height
abbrev pub HasHeight : List Entry → ℕ → Type 0
HasHeight [] h = ⊥
HasHeight (e ∷ es) h = (e.height ≡ h) ⊎ HasHeight es h

-- each cause lies on the height of an entry
abbrev pub LieOnEntries : List Entry → List Kind → Type 0
LieOnEntries es [] = Unit {0}
LieOnEntries es (k ∷ ks) = (k ≡ kinds.Cause → HasHeight es (length ks)) × LieOnEntries es ks

-- a shape whose entries have their room: their heights fall, none is above the slots, and what a finally keeps lies on one of them
pub record IsOrderly (code : Code) (x : At) : Type 0 where
  pub heights : Fits x.entries (length x.slots)
  pub few : length x.entries ≤ code.n_exc
  pub causes : LieOnEntries x.entries x.slots

-- the assignment's shape at a position is that of these slots and entries
pub record IsShapeAt (a : Assigned) (p : ℕ) (st : Stack) (es : List Entry) : Type 0 where
  pub shape : At
  pub is : a p ≡ Some shape
  pub entries : shape.entries ≡ map (remark p) es
  pub slots : Stands st shape.slots

-- a jump to `t` out of `d` more entries, which takes an iterator or not, finds the shape at each finally that it runs and at `t`
abbrev pub LeadsOn : Assigned → ℕ → Bool → (d : ℕ) → List Entry → Stack → Type 0
LeadsOn a t it zero es st = (all_wanted (iterator_if it) st ≡ true) × IsShapeAt a t (drop (length (iterator_if it)) st) es
LeadsOn a t it (suc d) [] st = ⊥
LeadsOn a t it (suc d) (e ∷ es) st = (is_run e ≡ true → IsShapeAt a e.handler (KeptJump t d it ∷ cut e.height st) (e ∷ es))
    × LeadsOn a t it d es (cut e.height st)

-- a jump that is kept on the height of an entry leads on below that entry
abbrev pub JumpsLeadOn : Assigned → List Entry → Stack → Type 0
JumpsLeadOn a [] st = Unit {0}
JumpsLeadOn a (e ∷ es) st =
    ((above rest : Stack) (t d : ℕ) (it : Bool) → st ≡ above ++ KeptJump t d it ∷ rest → length rest ≡ e.height → LeadsOn a t it d es rest)
    × JumpsLeadOn a es (cut e.height st)
