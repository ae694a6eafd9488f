-- What the finally keeps that the first of the calls is in.
use Rattle.vm_states.specs.vm_frames.Calls.{Call, Calls, OfRunning}
use Rattle.vm_states.specs.bc_labels.Positions.{Starts}
use Rattle.vm_states.specs.vm_frames.Views.{View, starts_of}
use Rattle.vm_states.specs.frame_moves.Shown.{view_of, IsTop}
use Rattle.vm_states.specs.frame_exits.declared.causes.Cause.{Cause}
use Rattle.vm_states.specs.frame_exits.declared.causes.Cause.TheVariants as causes
use Rattle.vm_states.specs.frame_exits.Causes.{cause_slot}
use Rattle.vm_states.specs.Means.{Program}

-- an instruction of the call starts at the target of a jump
abbrev pub TargetStarts : View → Cause → Call → Type 0
TargetStarts view causes.Nothing c = Unit {0}
TargetStarts view (causes.Exception x) c = Unit {0}
TargetStarts view (causes.Return v) c = Unit {0}
TargetStarts view (causes.Jump target count iterator) c = Starts (starts_of view c) target

-- a cause lies on top of the first of the calls
pub record KeepsCause (p : Program) (s : Calls) : Type 0 where
  pub cause : Cause
  pub top : IsTop (cause_slot cause) s.calls
  pub target : OfRunning (TargetStarts (view_of p.tables) cause) s.calls
