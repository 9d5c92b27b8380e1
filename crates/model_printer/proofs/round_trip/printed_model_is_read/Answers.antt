use Rattle.model_printer.proofs.Round.{printed_model}
use Rattle.model_printer.proofs.round_trip.printed_model_is_read.Goals as goal

pub returns : goal.returns
returns c = printed_model
