use Rattle.std.proofs.Common.{◌≡◌, take, map, string_bytes}
use Rattle.run_setup.specs.Reading as spec
use Rattle.run_setup.proofs.reading.read_each.Given as goal

abbrev pub invariant-loop-k : goal.invariant-loop-k
invariant-loop-k g l =
    record {
      given : spec.AllGive (g.F.Files.held l.fn.files) (take l.k l.kinds) (take l.k (map string_bytes l.words)) l.args;
      held : g.F.Files.held l.files ≡ g.F.Files.held l.fn.files;
      count : g.F.Files.faults l.files ≡ g.F.Files.faults l.fn.files;
      last : g.F.Files.last l.files ≡ g.F.Files.last l.fn.files;
    }
