use Rattle.std.proofs.Common.{◌∷◌, [], refl}
use Rattle.bc_library.specs.Shelf.{no_entries}
use Rattle.tool_laws.proofs.ImageFiles.{never_no_image, no_image, one_library, one_no_image}
use Rattle.tool_laws.proofs.images.opened_law.Goals as goal

pub returns : goal.returns
returns c = record {
  nothing = refl;
  base = λ files base below h. (h.bytes ∷ [], (no_entries, refl, h.opens));
  one_library = λ opened below files name one other is. one_library c.image_laws.ensures opened below is files name one other;
  one_ending = λ opened below files name is one other s t p q.
      one_no_image c.image_laws.ensures opened below is files name one other (no_image below files name one s p) (no_image below files name other t q);
  not_both = λ opened below files name shelf ending is h s p.
      never_no_image c.image_laws.ensures opened below is files name shelf ending h (no_image below files name ending s p);
}
