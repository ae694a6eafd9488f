use Rattle.std.proofs.Common.{◌≡◌, ℕ, List, All, Result, Ok, Err, Vec, Global, refl}
use Rattle.std.specs.Prelude.{IfOk}
use Rattle.mpy_base.specs.declared.refused.Refused.{Refused}
use Rattle.image_open.specs.image_grammar.declared.fault.ImageFault.{ImageFault}
use Rattle.image_open.specs.image_grammar.declared.entry.Entry.{Entry}
use Rattle.image_open.specs.image_grammar.Image.{IsImage}
use Rattle.image_open.specs.image_grammar.Opening.{Base}
use Rattle.image_open.specs.image_grammar.Base.{base_of}
use Rattle.image_open.specs.Opens.{Opens, with_entries}
use Rattle.image_freeze.specs.Ends.{Ends}
use Rattle.image_freeze.specs.Fronts.{front_of}
use Rattle.image_freeze.specs.Frozen.{entries_of, image_bytes}
use Rattle.image_freeze.proofs.Ended.{answered, told}
use Rattle.image_freeze.proofs.Exits.{if_ok_more}
use Rattle.image_freeze.proofs.Alike.{entries_verified}
use Rattle.image_freeze.proofs.image.freeze.Goals as goal

written : (front : List ℕ) (below : Base) (entries : List Entry) (r : Result (Vec ℕ Global) (Refused ImageFault)) → Ends front below entries (λ v. v.items) r → IfOk r (λ v. v.items ≡ image_bytes front below entries)
written front below entries (Ok v) ends = ends.bytes_are
written front below entries (Err e) ends = tt

pub returns-clause-written : goal.returns-clause-written
returns-clause-written c =
    let base = base_of c.args.below.now in
    written (front_of c.args.version base) base (entries_of c.args.modules.now) c.image_or_fault.result c.image_or_fault.ensures.ends

pub returns-clause-opens : goal.returns-clause-opens
returns-clause-opens c = λ verified.
    let entries = entries_of c.args.modules.now in
    if_ok_more (λ (v : Vec ℕ Global). IsImage (base_of c.args.below.now) entries v.items) (λ (v : Vec ℕ Global). Opens c.args.below.now v.items (with_entries c.args.below.now entries)) c.image_or_fault.result c.image_or_fault.ensures.image
    (λ v is. record { entries = entries; is_image = is; verified = entries_verified c.args.modules.now verified; shelf_is = refl })

pub returns-clause-first : goal.returns-clause-first
returns-clause-first c f is =
    let base = base_of c.args.below.now in
    told (front_of c.args.version base) base (entries_of c.args.modules.now) (λ v. v.items) c.image_or_fault.result c.image_or_fault.ensures.ends f is

pub returns-clause-fault : goal.returns-clause-fault
returns-clause-fault c f h =
    let base = base_of c.args.below.now in
    answered (front_of c.args.version base) base (entries_of c.args.modules.now) (λ v. v.items) c.image_or_fault.result c.image_or_fault.ensures.ends f h
