use Rattle.std.proofs.Common.{◌≡◌, ◌++◌, ◌∙◌, ap, ℕ, List, Result, Ok, Err, OnOk, append_assoc}
use Rattle.rup_top.specs.commands.Show.{column}
use Rattle.rup_top.proofs.commands.show.put_line.Goals as goal

-- a part behind a part
two_parts : {E : Type 0} (r : Result (Unit {0}) E) (old mid new one two : List ℕ) → mid ≡ old ++ one → OnOk r (new ≡ mid ++ two)
    → OnOk r (new ≡ old ++ (one ++ two))
two_parts (Ok u) old mid new one two first second = second ∙ ap (λ l. l ++ two) first ∙ append_assoc old one two
two_parts (Err e) old mid new one two first second = tt

pub returns : goal.returns
returns c =
    two_parts c.put_column-2.result c.args.out.now c.put_column.new.out c.put_column-2.new.out (column c.args.offset 32)
    (column c.args.word 10) c.in_ok-put_column.ensures c.put_column-2.ensures
