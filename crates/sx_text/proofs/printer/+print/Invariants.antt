use Rattle.std.proofs.Common.{◌≡◌, ◌++◌, map, drop}
use Rattle.rup_base.specs.Spelling as texts
use Rattle.sx_text.specs.Spelling as spelling
use Rattle.sx_text.proofs.printer.+print.Given as goal

abbrev pub invariant-print_spaced-loop-form : goal.invariant-print_spaced-loop-form
invariant-print_spaced-loop-form l =
    l.out ++ texts.behind_spaces (map spelling.text (drop l.form-index l.rest))
    ≡ l.fn.out ++ spelling.spaced (map spelling.text l.forms)
