use Rattle.std.proofs.Common.{ℕ, ◌+◌, ◌^◌, ◌≤◌, List, ◌∷◌, ◌++◌, length}
use Rattle.rv_memory.specs.Contents.{parts, IsRecut}
use Rattle.rv_memory.proofs.cutting.cut.Given as goal

abbrev pub invariant-loop-at : goal.invariant-loop-at
invariant-loop-at l =
    (l.at + length l.left ≤ 2 ^ 32)
    × ((rest : List (ℕ × List ℕ)) → IsRecut (parts l.fn.pages.items ++ (l.start, l.bytes) ∷ rest)
    (parts l.pages.items ++ (l.at, l.left) ∷ rest))

abbrev pub decreases-loop-at : goal.decreases-loop-at
decreases-loop-at l = length l.left
