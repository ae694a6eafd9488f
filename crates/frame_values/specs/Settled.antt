-- Calls behind what a primitive gave.
use Rattle.std.specs.Prelude.{◌≡◌, Result, Ok, Err}
use Rattle.prim_names.specs.prim_faults.declared.stop.Stop.{Stop}
use Rattle.frame_moves.specs.vm_frames.Calls.{Call, Calls, on_running}

-- the running call changes by what is given, or the stop that is given is passed on and the calls stay
abbrev pub Settles : {X : Type 0} → (X → Call → Call) → Result X Stop → (old new : Calls) → Result (Unit {0}) Stop → Type 0
Settles change (Ok x) old new result = (result ≡ Ok tt) × (new ≡ on_running (change x) old)
Settles change (Err stop) old new result = (result ≡ Err stop) × (new ≡ old)
