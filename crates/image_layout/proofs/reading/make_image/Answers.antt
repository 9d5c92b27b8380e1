use Rattle.std.proofs.Common.{◌+◌, ◌-◌, arith}
use Rattle.image_layout.proofs.Listed.{image_is}
use Rattle.image_layout.proofs.reading.make_image.Goals as goal

pub returns : goal.returns
returns c =
    let offset = c.word_of-offset.result in
    let tables_offset = offset + c.word_of.result in
    image_is c.args.bytes.now c.args.lists c.word_of-3.result c.word_of-4.result c.word_of-5.result offset tables_offset
    (tables_offset - offset) ((tables_offset + c.word_of-2.result) - tables_offset)
    c.in_ok-code.code c.in_ok-tables.tables c.requires.lists c.word_of-3.ensures.number c.word_of-4.ensures.number
    c.word_of-5.ensures.number c.in_ok-code.ensures c.in_ok-tables.ensures c.word_of-offset.ensures.number
    (omega (arith, c.word_of-offset.ensures.number, c.word_of.ensures.number)) (omega (arith, c.word_of.ensures.number))
    (omega (arith, c.word_of-2.ensures.number))
