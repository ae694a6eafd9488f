use Rattle.std.proofs.Common.{◌≡◌, ℕ, ◌<◌, length, refl, sym, ap, ◌∙◌, subst, arith}
use Rattle.bc_library.specs.Shelf.{Shelf}
use Rattle.vm_starting.specs.Programs.{FindsAll}
use Rattle.vm_machine.specs.Machine.{world_in}
use Rattle.snap_grammar.specs.declared.parts.Snapshot.{Snapshot}
use Rattle.snap_saving.specs.Shown.{snapshot_of}
use Rattle.snap_loading.proofs.Gathering.{gathered}
use Rattle.snap_loading.proofs.Joining.{states_same}
use Rattle.snap_loading.proofs.Likening.{alike, begins_too}
use Rattle.snap_loading.proofs.Readied.{library_of}
use Rattle.snap_loading.proofs.Matching.{count, before_count, parts_count, matching}
use Rattle.snap_loading.proofs.Saming.{parts_as_many}
use Rattle.snap_loading.proofs.Standing.{Laws}
use Rattle.snap_loading.proofs.same.loaded_law.Goals as goal

pub returns : goal.returns
returns c shelf vm other s tabled names own saved first e stands =
    let is = library_of shelf vm tabled own in
    let h = vm.arena in
    let k = other.arena in
    let laws : Laws = record {
      code = c.code_law.ensures;
      rooms = c.rooms_law.ensures.least;
      stands = c.frames_law.ensures.stands;
      waits = c.frames_law.ensures.waits;
      marks = c.frames_law.ensures.marks;
    } in
    let shown : snapshot_of shelf other.arena other.modules other.frames.calls s.paid ≡ s =
    c.shown_law.ensures shelf s other.arena other.modules other.frames.calls is own.runnable stands.shaped stands.decoded in
    let parts = ap (λ (z : Snapshot). z.objects) (e ∙ sym shown) in
    let many = parts_as_many shelf h k parts in
    let cells : length h.objects ≡ length k.objects = ap (λ (z : Snapshot). z.used_cells) (e ∙ sym shown) in
    let some = before_count h.objects 0 first.first in
    let as_many : length s.objects ≡ count h.objects = ap (λ (z : Snapshot). length z.objects) (sym e) ∙ parts_count _ h.objects in
    let second = begins_too shelf s stands.decoded.title k stands.decoded.heap_is (omega (arith, some, as_many)) in
    let r = matching h.objects k.objects many cells first.first second in
    record {
      renaming = r;
      states = λ p program w.
          let a = alike laws p vm other r s program.means (gathered shelf vm p own saved program) (own.runs saved.goes_on p program) (λ n. refl) (omega arith) (sym cells)
          shelf program.shelf_is names is tabled.rows (subst (λ (z : Shelf). FindsAll z p.library) program.shelf_is (c.program_law.ensures.finds p program.means)) stands.shaped stands.decoded e in
          states_same p r vm.end other.end vm.frames.calls other.frames.calls vm.paid other.paid (world_in p vm w) (world_in p other w)
          saved.goes_on stands.goes_on (ap (λ (z : Snapshot). z.paid) e ∙ sym stands.paid) (record { heap = a.0; modules = a.1; ports = refl; output = refl }) a.2;
      keeps = λ p program. c.constants_law.ensures r p.library (c.files_law.ensures shelf p program);
    }
