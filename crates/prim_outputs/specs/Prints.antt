-- What print puts on a sink, and what it answers.
use Rattle.std.specs.Prelude.{◌≡◌, ℕ, zero, suc, List, [], map, Option, Bool, true, false, Result, Ok, Err}
use Rattle.std.specs.Io.KnownBytes.{Appends}
use Rattle.mpy_base.specs.World.{Heap}
use Rattle.mpy_io.specs.Count.{Counts}
use Rattle.mpy_io.specs.Told.{AppendsFront}
use Rattle.prim_builtins.specs.arena_heap.declared.value.Value.{Value}
use Rattle.prim_builtins.specs.arena_heap.declared.value.Value.TheVariants as values
use Rattle.prim_builtins.specs.arena_heap.declared.value.StrNo.{StrNo}
use Rattle.prim_builtins.specs.arena_heap.declared.value.ConstNo.{ConstNo}
use Rattle.prim_builtins.specs.arena_heap.declared.constants.Constants.{Ghosts}
use Rattle.prim_builtins.specs.py_values.Shown.{PlainHeap}
use Rattle.prim_builtins.specs.py_primitives.Outcome.{Outcome, Raises}
use Rattle.prim_builtins.specs.py_primitives.Texts.{str_of}
use Rattle.prim_builtins.specs.py_primitives.Walks.{walk_all}
use Rattle.prim_builtins.specs.prim_faults.declared.fault.Fault.{Fault}
use Rattle.prim_builtins.specs.prim_faults.Faults.{plain_fault, IsKnownFault}
use Rattle.prim_builtins.specs.prim_faults.Sights.{Sight, sight}
use Rattle.prim_outputs.specs.declared.prints.PrintStop.{PrintStop}
use Rattle.prim_outputs.specs.declared.prints.PrintStop.TheVariants as stops

-- what stands in front of the text at a place: nothing in front of the first
abbrev pub in_front : List ℕ → ℕ → List ℕ
in_front sep zero = []
in_front sep (suc at) = sep

module _ {S : Type 0} (told : S → Option (List ℕ)) (count : S → ℕ) where
  -- the text was put, or a front of it where that failed, and the count of faults rose exactly then
  pub record Puts (old new : S) (failed : Bool) (text : List ℕ) : Type 0 where
    pub whole : failed ≡ false → Appends (told old) (told new) text
    pub front : failed ≡ true → AppendsFront (told old) (told new) text
    pub cause : Counts (count old) (count new) failed

  -- the same of what has failed already, which puts nothing more
  abbrev pub PutsOn : Bool → S → S → Bool → List ℕ → Type 0
  PutsOn true old new failed text = (new ≡ old) × (failed ≡ true)
  PutsOn false old new failed text = Puts old new failed text

  module _ (texts : StrNo → Option (List ℕ)) (tuples : ConstNo → Option (List Value)) (heap : Heap Value ℕ) where
    -- a print that was made
    pub record Printed (old new : S) (failed : Bool) (outcome : Outcome (List ℕ)) : Type 0 where
      pub text : List ℕ
      pub is : outcome.answer ≡ Ok text
      pub puts : Puts old new failed text

    -- one that raises, and puts nothing
    pub record Raised (old new : S) (fault : Fault) (outcome : Outcome (List ℕ)) : Type 0 where
      pub is : outcome.answer ≡ Err (Raises (plain_fault texts tuples heap fault))
      pub known : IsKnownFault texts tuples heap.objects fault
      pub unchanged : new ≡ old

    -- a call that answers so does what print does
    abbrev pub IsPrint : S → S → Result Value PrintStop → Outcome (List ℕ) → Type 0
    IsPrint old new (Ok v) outcome = (v ≡ values.None) × Printed old new false outcome
    IsPrint old new (Err (stops.Raises fault)) outcome = Raised old new fault outcome
    IsPrint old new (Err (stops.Out failed)) outcome = Printed old new true outcome

module _ {T : Type 0} (C : Ghosts T) (consts : T) (arena : Heap Value ℕ) where
  -- the texts of values, where the walk of each ends
  abbrev pub str_texts : List Value → Option (List (List ℕ))
  str_texts args = let see = sight C consts in (walk_all (str_of (see.heap arena)) (map see.value args)).answer

  -- a call over an arena prints what this does
  abbrev pub DoesPrint : {S : Type 0} → (S → Option (List ℕ)) → (S → ℕ) → (old new : S) → Result Value PrintStop
      → (PlainHeap → Sight → Outcome (List ℕ)) → Type 0
  DoesPrint told count old new result primitive =
      let see = sight C consts in IsPrint told count see.texts see.tuples arena old new result (primitive (see.heap arena) see)
