use Rattle.std.proofs.Common.{◌≡◌, ◌++◌, map, length}
use Rattle.rv_code.specs.Word.{word_of}
use Rattle.pipeline.specs.Written.{bytes_of}
use Rattle.pipeline.proofs.around.code_of.Given as goal

-- what is left completes the bytes
abbrev pub invariant-code : goal.invariant-code
invariant-code l = l.bytes ++ bytes_of (map word_of l.left) ≡ bytes_of (map word_of l.code)

abbrev pub decreases-code : goal.decreases-code
decreases-code l = length l.left
