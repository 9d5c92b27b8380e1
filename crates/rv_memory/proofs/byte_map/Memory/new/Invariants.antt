use Rattle.std.proofs.Common.{◌+◌, ◌^◌, ◌≤◌, ◌++◌, length, All}
use Rattle.rv_memory.specs.Contents.{parts, IsRecut}
use Rattle.rv_memory.proofs.byte_map.Memory.new.Given as goal

-- the pages and what is left are the regions
abbrev pub invariant-regions : goal.invariant-regions
invariant-regions l =
    All (λ region. region.0 + length region.1 ≤ 2 ^ 32) l.left × IsRecut l.fn.regions (parts l.pages.items ++ l.left)

abbrev pub decreases-regions : goal.decreases-regions
decreases-regions l = length l.left
