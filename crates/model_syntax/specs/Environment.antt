-- The values of names: a finite map, written as a list in which the first binding of a name counts.
use Rattle.std.specs.Prelude.{ℕ, ◌%◌, min, List, [], ◌∷◌, length, map, Option, Some, None, if◌then◌else◌}
use Rattle.std.proofs.Math.ListN.{set}
use Rattle.rup_base.specs.declared.arg.Arg.{Arg}
use Rattle.rup_base.specs.declared.arg.Arg.TheVariants.{Word, Bytes, Words}
use Rattle.model_syntax.specs.declared.scope.Binding.{Binding}
use Rattle.model_syntax.specs.Names.{Name, same}

abbrev pub Env : Type 0
Env = List Binding

-- the value of a name
abbrev pub value_of : Env → Name → Option Arg
value_of [] x = None
value_of (b ∷ bs) x = if same b.name x then Some b.value else value_of bs x

abbrev pub bound : Name → Arg → Binding
bound x v = record { name = x; value = v }

-- the environment in which a name has a value
abbrev pub put : Name → Arg → Env → Env
put x v [] = bound x v ∷ []
put x v (b ∷ bs) = if same b.name x then bound x v ∷ bs else b ∷ put x v bs

-- the same for a value that may be missing, which in a well typed model it never is
abbrev pub put_some : Name → Option Arg → Env → Env
put_some x None env = env
put_some x (Some v) env = put x v env

-- the number of a word, byte or flag
abbrev pub number : Option Arg → ℕ
number (Some (Word n)) = n
number v = 0

-- the elements of an array
abbrev pub elements : Option Arg → List ℕ
elements (Some (Bytes ns)) = ns
elements (Some (Words ns)) = ns
elements v = []

-- the number of elements as a word. An array that is an argument has at most 4294967295, so that this is its length.
abbrev pub size : List ℕ → ℕ
size ns = min (length ns) 4294967295

-- an array with an element put, which outside it changes nothing. An array of bytes takes the lowest byte of the number;
-- in a well typed model that is the number.
abbrev pub with_element : ℕ → ℕ → Option Arg → Option Arg
with_element i n (Some (Bytes ns)) = Some (Bytes (set ns i (n % 256)))
with_element i n (Some (Words ns)) = Some (Words (set ns i n))
with_element i n v = v

-- an array with another number for each element, of which an array of bytes takes the lowest byte too
abbrev pub with_each : (ℕ → ℕ) → Option Arg → Option Arg
with_each change (Some (Bytes ns)) = Some (Bytes (map (λ n. n % 256) (map change ns)))
with_each change (Some (Words ns)) = Some (Words (map change ns))
with_each change v = v

-- the environment after a block: only the listed names have their values from its end
abbrev pub carry : List Name → Env → Env → Env
carry [] inner outer = outer
carry (x ∷ xs) inner outer = carry xs inner (put_some x (value_of inner x) outer)
