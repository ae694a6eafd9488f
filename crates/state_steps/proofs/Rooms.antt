-- The rooms of calls stay.
use Rattle.std.proofs.Common.{◌≡◌, ap, ◌∙◌}
use Rattle.state_values.specs.vm_frames.Calls.{Calls}

pub rooms_through : (old mid new : Calls) → mid ≡ record old { calls = mid.calls } → new ≡ record mid { calls = new.calls } → new ≡ record old { calls = new.calls }
rooms_through old mid new e moved = moved ∙ ap (λ (z : Calls). record z { calls = new.calls }) e
