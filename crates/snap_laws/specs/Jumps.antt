-- Kept jumps that lead on: what an assignment has where they go.
use Rattle.std.specs.Prelude.{◌≡◌, ℕ, zero, suc, Bool, true, List, [], ◌∷◌, ◌++◌, length, map, drop, Some}
use Rattle.bc_flow.specs.bc_shapes.declared.shape.Entry.{Entry}
use Rattle.bc_flow.specs.bc_shapes.Shape.{At}
use Rattle.bc_flow.specs.Edges.{iterator_if}
use Rattle.bc_flow.specs.Machine.{Stack, KeptJump, all_wanted, cut, remark}
use Rattle.bc_flow.specs.Verified.{Assigned}
use Rattle.bc_flow.proofs.Sound.{Stands}

-- what the assignment has at a position is the shape of these slots and entries
pub record IsShapeAt (a : Assigned) (p : ℕ) (st : Stack) (es : List Entry) : Type 0 where
  pub at : At
  pub is : a p ≡ Some at
  pub entries : at.entries ≡ map (remark p) es
  pub slots : Stands st at.slots

-- a jump out of as many more entries leads to its target, whatever finallys it runs on its way
abbrev pub LeadsOn : Assigned → ℕ → Bool → ℕ → List Entry → Stack → Type 0
LeadsOn a t it zero es st = (all_wanted (iterator_if it) st ≡ true) × IsShapeAt a t (drop (length (iterator_if it)) st) es
LeadsOn a t it (suc d) [] st = ⊥
LeadsOn a t it (suc d) (e ∷ es) st = LeadsOn a t it d es (cut e.height st)

-- each kept jump leads on out of entries below its own
abbrev pub JumpsLeadOn : Assigned → List Entry → Stack → Type 0
JumpsLeadOn a [] st = Unit {0}
JumpsLeadOn a (e ∷ es) st =
    ((above rest : Stack) (t d : ℕ) (it : Bool) → st ≡ above ++ KeptJump t d it ∷ rest → length rest ≡ e.height → LeadsOn a t it d es rest)
    × JumpsLeadOn a es (cut e.height st)
