use Rattle.arena_heap.proofs.Rooms.{seen_rooms, seen_own_rooms, seen_few_items, seen_left, seen_few_bytes}
use Rattle.arena_heap.proofs.Seen.{seen_few}
use Rattle.arena_heap.proofs.arena.Arena.room_law.Goals as goal

pub returns-clause-rooms : goal.returns-clause-rooms
returns-clause-rooms c = seen_rooms c.self.inside c.self.invariant c.self.view_is

pub returns-clause-own_rooms : goal.returns-clause-own_rooms
returns-clause-own_rooms c = seen_own_rooms c.self.inside c.self.invariant c.self.view_is

pub returns-clause-fits : goal.returns-clause-fits
returns-clause-fits c = seen_left c.self.inside c.self.invariant c.self.view_is

pub returns-clause-few : goal.returns-clause-few
returns-clause-few c = seen_few c.self.inside c.self.invariant c.self.view_is

pub returns-clause-few_bytes : goal.returns-clause-few_bytes
returns-clause-few_bytes c = seen_few_bytes c.self.inside c.self.invariant c.self.view_is

pub returns-clause-few_items : goal.returns-clause-few_items
returns-clause-few_items c = seen_few_items c.self.inside c.self.invariant c.self.view_is
