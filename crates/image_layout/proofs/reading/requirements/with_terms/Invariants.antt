use Rattle.std.proofs.Common.{◌≡◌, ◌+◌, ◌*◌, ◌-◌, ◌≤◌, length, true}
use Rattle.image_layout.specs.Reading as spec
use Rattle.image_layout.proofs.Entries.{OnTheWay}
use Rattle.side_certs.specs.LinearForm.{rises_from}
use Rattle.image_layout.proofs.reading.requirements.with_terms.Given as goal

abbrev pub invariant-loop : goal.invariant-loop
invariant-loop l =
    record {
      way : OnTheWay (spec.terms l.symbols l.bytes) l.count l.start l.form.terms (l.count - l.counter) l.at;
      constant : l.form.constant ≡ l.fn.constant.constant;
      rising : rises_from 0 l.form.terms ≡ true;
      next : l.least ≡ spec.next_symbol 0 l.form.terms;
      below : l.least ≤ l.symbols;
      count : length l.form.terms ≤ l.least;
      place : l.at ≡ l.start + 12 * length l.form.terms;
      inside : l.at ≤ length l.bytes;
    }
