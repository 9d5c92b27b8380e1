-- The ranges of the numbers of a node in a file.
use Rattle.std.specs.Prelude.{◌^◌, Bool, ◌&&◌, nat_le, ℤ, nat_abs}
use Rattle.std.specs.List.{list_all}
use Rattle.side_certs.specs.declared.certificate.Cert.{Cert}
use Rattle.side_certs.specs.declared.certificate.Entry.{Entry}
use Rattle.deriv_tree.specs.declared.listed.Listed.{Listed}

-- a magnitude of at most 2^40
abbrev pub argument_in_range : ℤ → Bool
argument_in_range z = nat_le (nat_abs z) (2 ^ 40)

-- a kind from 0 to 2, a number below 2^32, a multiplier of at most 2^32
abbrev pub entry_in_range : Entry → Bool
entry_in_range e = nat_le e.kind 2 && (nat_le e.number 4294967295 && nat_le e.mult (2 ^ 32))

-- a divisor from 1 to 2^32
abbrev pub cert_in_range : Cert → Bool
cert_in_range c = nat_le 1 c.d && (nat_le c.d (2 ^ 32) && list_all entry_in_range c.entries)

abbrev pub node_in_range : Listed → Bool
node_in_range n = list_all argument_in_range n.step.args && list_all cert_in_range n.step.certs
