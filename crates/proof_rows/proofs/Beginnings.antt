-- Numbers with which a list begins.
use Rattle.std.proofs.Common.{◌≡◌, sym, ℕ, true, List, length, take, nat_eq}
use Rattle.std.specs.List.{starts_with}
use Rattle.std.proofs.lemmas.Slice.Eq.{bytes_eq-Decides as bytes_decides}

pub first_taken : (numbers first : List ℕ) → starts_with nat_eq numbers first ≡ true → take (length first) numbers ≡ first
first_taken numbers first is = sym ((bytes_decides first (take (length first) numbers)).0 is)
