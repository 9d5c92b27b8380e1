use Rattle.std.proofs.Common.{◌≡◌, ◌∷◌, take}
use Rattle.cert_search.proofs.search.led.Given as goal

-- the entry, and those that were passed
abbrev pub invariant-loop-e : goal.invariant-loop-e
invariant-loop-e l = l.entries ≡ l.fn.entry ∷ take l.e-index l.more
