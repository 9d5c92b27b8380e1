-- The context at the start of a model. Argument k, in the order of registers, is local k.
use Rattle.std.specs.Prelude.{ℕ, ◌+◌, List, [], ◌∷◌, ◌++◌, length, map, Option, Some, None, pos}
use Rattle.side_certs.specs.LinearForm.{LinearForm, constant, symbol}
use Rattle.model_syntax.specs.declared.expr.Scalar.{Scalar}
use Rattle.model_syntax.specs.declared.expr.Scalar.TheVariants.{Word, Byte}
use Rattle.model_syntax.specs.declared.program.Len.{Len}
use Rattle.model_syntax.specs.declared.program.Len.TheVariants.{Fixed, Named}
use Rattle.model_syntax.specs.declared.program.Param.{Param}
use Rattle.model_syntax.specs.declared.program.Param.TheVariants as param
use Rattle.model_syntax.specs.declared.program.Model.{Model}
use Rattle.model_syntax.specs.Names.{Name}
use Rattle.sym_heap.specs.declared.parts.Clause.{Clause}
use Rattle.sym_heap.specs.Context.{Context, held, top_of, with_reserved}
use Rattle.sym_heap.specs.Sides.{form_in, difference}

abbrev pub empty : Context
empty = record { scalars = []; clauses = []; facts = []; tops = []; entries = 0; reserved = [] }

-- the local of a further argument: each scalar and each pointer has taken one
abbrev pub next_local : Context → ℕ
next_local c = length c.scalars + length c.clauses

-- a word, a byte or a length: it takes a local, and a symbol, which is its form
abbrev pub with_argument : Name → Scalar → Context → Context
with_argument x t c = record c {
  scalars = c.scalars ++ held x (next_local c) (symbol (length c.scalars)) t ∷ [];
  tops = c.tops ++ top_of t ∷ [];
}

abbrev pub clause : Name → ℕ → ℕ → ℕ → LinearForm → Option ℕ → Clause
clause a p size pointer len len_local =
    record { name = a; param = p; size = size; pointer = pointer; length = len; length_local = len_local; writes = 0 }

-- a pointer: it takes a local, which is reserved
abbrev pub with_pointer : ℕ → Name → ℕ → LinearForm → Option ℕ → Context → Context
with_pointer p a size len len_local c = record c {
  clauses = c.clauses ++ clause a p size (next_local c) len len_local ∷ [];
  reserved = c.reserved ++ next_local c ∷ [];
}

-- an array: a pointer, and then its length where that has a name; the length's local is reserved
abbrev pub with_array : ℕ → Name → ℕ → Len → Context → Context
with_array p a size (Fixed n) c = with_pointer p a size (constant (pos n)) None c
with_array p a size (Named x) c =
    with_reserved (next_local c + 1)
    (with_argument x Word (with_pointer p a size (symbol (length c.scalars)) (Some (next_local c + 1)) c))

-- the parameter of number p
abbrev pub with_param : ℕ → Param → Context → Context
with_param p (param.Word x) c = with_argument x Word c
with_param p (param.Byte x) c = with_argument x Byte c
with_param p (param.Bytes a n) c = with_array p a 1 n c
with_param p (param.Words a n) c = with_array p a 4 n c

-- the parameters from number p on
abbrev pub with_params : ℕ → List Param → Context → Context
with_params p [] c = c
with_params p (q ∷ qs) c = with_params (p + 1) qs (with_param p q c)

-- the symbols so far are the entry symbols, one for each scalar
abbrev pub with_entries : Context → Context
with_entries c = record c { entries = length c.scalars }

-- the context of the arguments
abbrev pub of_arguments : List Param → Context
of_arguments ps = with_entries (with_params 0 ps empty)

-- further facts
abbrev pub with_facts : List LinearForm → Context → Context
with_facts fs c = record c { facts = c.facts ++ fs }

-- the start: the requirements are the facts
abbrev pub start : Model → Context
start m = let c = of_arguments m.params in with_facts (map (difference (form_in c.scalars)) m.requires_) c

-- Registers.

abbrev pub length_registers : Len → ℕ
length_registers (Fixed n) = 0
length_registers (Named x) = 1

-- the registers that a parameter's argument takes
abbrev pub registers_of : Param → ℕ
registers_of (param.Word x) = 1
registers_of (param.Byte x) = 1
registers_of (param.Bytes a n) = 1 + length_registers n
registers_of (param.Words a n) = 1 + length_registers n

abbrev pub registers : List Param → ℕ
registers [] = 0
registers (p ∷ ps) = registers_of p + registers ps
