use Rattle.std.proofs.Common.{ap, length, arith}
use Rattle.image_layout.proofs.laws.Length.{lists_small, entry_small}
use Rattle.rup_top.proofs.commands.show.listing.Goals as goal

pub code_offset-offset-requires : goal.code_offset-offset-requires
code_offset-offset-requires c = lists_small c.args.image.now c.requires

pub put_words-requires : goal.put_words-requires
put_words-requires c =
    let size = ap length c.as_slice.ensures in
    omega (
      arith,
      size,
      c.code_offset-offset.ensures,
      c.requires.entry_from,
      entry_small c.args.image.now c.requires,
      c.requires.code_most,
    )
