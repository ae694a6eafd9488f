use Rattle.arena_heap.proofs.Seen.{seen_sound}
use Rattle.arena_heap.proofs.arena.Arena.sound_law.Goals as goal

pub returns : goal.returns
returns c = seen_sound c.self.inside c.self.invariant c.self.view_is
