use Rattle.std.proofs.Common.{arith}
use Rattle.serde_json.proofs.Views.{members_len-members_view}
use Rattle.deriv_file.proofs.header.has_four_members.Goals as goal

pub returns-in-Some : goal.returns-in-Some
returns-in-Some c = grind (arith, members_len-members_view)
