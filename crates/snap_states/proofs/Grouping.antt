-- All but the paid steps, of its parts.
use Rattle.std.proofs.Common.{◌≡◌, ◌↔◌, Bool, IsTrue, subst, sym}
use Rattle.bc_library.specs.Shelf.{Shelf}
use Rattle.snap_grammar.specs.declared.parts.Snapshot.{Snapshot}
use Rattle.snap_states.specs.Grouped.{HasCount, HasGroups}
use Rattle.snap_states.specs.States.{HasRoom, IsShaped}

shaped : (shelf : Shelf) (s : Snapshot) → HasRoom s → HasCount s.frames → HasGroups shelf s → IsShaped shelf s
shaped shelf s room count groups = record {
  objects = groups.objects;
  room = room;
  registered = groups.registered;
  some_frames = count.some;
  few_frames = count.few;
  frames = groups.frames;
}

groups_of : (shelf : Shelf) (s : Snapshot) → IsShaped shelf s → HasGroups shelf s
groups_of shelf s h = record { objects = h.objects; registered = h.registered; frames = h.frames }

pub count_of : (shelf : Shelf) (s : Snapshot) → IsShaped shelf s → HasCount s.frames
count_of shelf s h = record { some = h.some_frames; few = h.few_frames }

pub shaped_by : (shelf other : Shelf) (s t : Snapshot) (b : Bool) → other ≡ shelf → t ≡ s → HasRoom s → HasCount s.frames → IsTrue b ↔ HasGroups other t → IsTrue b ↔ IsShaped shelf s
shaped_by shelf other s t b e f room count g = (
  λ y. shaped shelf s room count (subst (λ z. HasGroups z s) e (subst (HasGroups other) f (g.0 y))),
  λ h. g.1 (subst (HasGroups other) (sym f) (subst (λ z. HasGroups z s) (sym e) (groups_of shelf s h))),
)
