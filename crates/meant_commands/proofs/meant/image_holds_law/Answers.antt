use Rattle.meant_commands.proofs.ImageMeaning.{OfImages, image_opened, image_program, image_holds}
use Rattle.meant_commands.proofs.meant.image_holds_law.Goals as goal

pub returns-clause-opened : goal.returns-clause-opened
returns-clause-opened c all sources below shelf files image is made h = image_opened all sources below files image is made shelf h

pub returns-clause-program : goal.returns-clause-program
returns-clause-program c all sources below files image main is made =
    let o : OfImages = record { program = c.images_law.ensures.program; units = c.images_law.ensures.units } in
    image_program all sources below files image is made o main

pub returns-clause-holds : goal.returns-clause-holds
returns-clause-holds c all sources below files image main is made =
    let o : OfImages = record { program = c.images_law.ensures.program; units = c.images_law.ensures.units } in
    image_holds all sources below files image is made o main
