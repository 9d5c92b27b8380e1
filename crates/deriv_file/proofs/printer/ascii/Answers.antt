use Rattle.deriv_file.proofs.NamesAscii.{name_utf8}
use Rattle.deriv_file.proofs.printer.ascii.Goals as goal

pub unreachable-requires : goal.unreachable-requires
unreachable-requires c = c.in-Err.ensures.cases.0 (name_utf8 c.args.name.now c.requires)
