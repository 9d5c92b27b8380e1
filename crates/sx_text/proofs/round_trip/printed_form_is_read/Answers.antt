use Rattle.sx_text.proofs.laws.Printed.{printed_is_read}
use Rattle.sx_text.proofs.round_trip.printed_form_is_read.Goals as goal

pub returns : goal.returns
returns c = printed_is_read
