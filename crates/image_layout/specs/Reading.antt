-- What the bytes of an image say, and the fields that are judged, in the order in which they are. What they say is told
-- by the numbers at their offsets, whether they are right or not.
use Rattle.std.specs.Prelude.{ℕ, zero, suc, ◌+◌, ◌-◌, ◌*◌, ◌%◌, Bool, true, false, not, ◌&&◌, ◌||◌, List, [], ◌∷◌, ◌++◌, length}
use Rattle.std.specs.Prelude.{take, drop, Option, Some, None, Result, Ok, Err, ℤ, pos, nat_eq, nat_lt, nat_le, sum_by, slice_get}
use Rattle.std.specs.Prelude.{if◌then◌else◌}
use Rattle.std.specs.Ordering.{int_eq}
use Rattle.std.specs.Int.{w32, w64, from_le_bytes, cast_signed, next_multiple_of}
use Rattle.rup_base.specs.declared.arg.Kind.{Kind}
use Rattle.rup_base.specs.declared.arg.Kind.TheVariants.{Word, Byte, Bytes, Words}
use Rattle.rup_base.specs.declared.refusal.Refusal.{Refusal}
use Rattle.rup_base.specs.declared.refusal.Refusal.TheVariants.{NotImage}
use Rattle.side_certs.specs.LinearForm.{LinearForm, is_small}
use Rattle.cost_poly.specs.declared.term.Term.{Term}
use Rattle.cost_poly.specs.Polynomial.{goes_behind, greatest_coefficient}
use Rattle.image_layout.specs.declared.image.Image.{Image}
use Rattle.image_layout.specs.declared.reading.lists.Counts.{Counts}
use Rattle.image_layout.specs.declared.reading.lists.Lists.{Lists}
use Rattle.image_layout.specs.Spelling.{registers_of, is_array, symbol_count}

-- The fields.

pub record Field : Type 0 where
  pub at : ℕ
  pub right : Bool

-- a field of so many bytes, right where it is whole and has a right value
abbrev pub field : List ℕ → ℕ → ℕ → Bool → Field
field bytes at size right = record { at = at; right = nat_le (at + size) (length bytes) && right }

abbrev pub first_wrong : List Field → Option ℕ
first_wrong [] = None
first_wrong (f ∷ fs) = if f.right then first_wrong fs else Some f.at

abbrev pub verdict : {A : Type 0} → Option ℕ → A → Result A Refusal
verdict None value = Ok value
verdict (Some at) value = Err (NotImage at)

-- the value, where all fields are right
abbrev pub judged : {A : Type 0} → List Field → A → Result A Refusal
judged fields value = verdict (first_wrong fields) value

-- The numbers at an offset.

abbrev pub word_at : List ℕ → ℕ → ℕ
word_at bytes at = from_le_bytes w32 (take 4 (drop at bytes))

abbrev pub wide_at : List ℕ → ℕ → ℕ
wide_at bytes at = from_le_bytes w64 (take 8 (drop at bytes))

abbrev pub long_at : List ℕ → ℕ → ℤ
long_at bytes at = cast_signed w64 (wide_at bytes at)

-- no symbol, and a scalar
abbrev pub none : ℕ
none = 0xffff_ffff

abbrev pub symbol_of : ℕ → Option ℕ
symbol_of n = if nat_eq n none then None else Some n

-- The entries of a list stand one after another. What an entry may be depends on those before it.

pub record Entries (A : Type 0) : Type 0 where
  pub fields : List A → ℕ → List Field
  pub value : ℕ → A
  pub size : A → ℕ

abbrev pub fields_of : {A : Type 0} → Entries A → List A → ℕ → ℕ → List Field
fields_of e before zero at = []
fields_of e before (suc n) at = e.fields before at ++ fields_of e (before ++ e.value at ∷ []) n (at + e.size (e.value at))

abbrev pub values_of : {A : Type 0} → Entries A → ℕ → ℕ → List A
values_of e zero at = []
values_of e (suc n) at = e.value at ∷ values_of e n (at + e.size (e.value at))

-- the offset behind the entries
abbrev pub end_of : {A : Type 0} → Entries A → ℕ → ℕ → ℕ
end_of e zero at = at
end_of e (suc n) at = end_of e n (at + e.size (e.value at))

-- A parameter is a kind, for which there are registers, and a number, which is 0 where the kind has no fixed length.

abbrev pub registers_for : ℕ → ℕ
registers_for code = if nat_eq code 2 || nat_eq code 3 then 2 else 1

abbrev pub kind_of : ℕ → ℕ → Kind
kind_of code n =
    if nat_eq code 0 then Word
    else (if nat_eq code 1 then Byte
    else (if nat_eq code 2 then Bytes None
    else (if nat_eq code 3 then Words None
    else (if nat_eq code 4 then Bytes (Some n)
    else Words (Some n)))))

-- the kind, behind parameters that take so many registers
abbrev pub kind_field : List ℕ → ℕ → ℕ → Field
kind_field bytes used at = field bytes at 4 (nat_lt (word_at bytes at) 6 && nat_le (used + registers_for (word_at bytes at)) 8)

abbrev pub parameter_fields : List ℕ → ℕ → ℕ → List Field
parameter_fields bytes used at =
    kind_field bytes used at
    ∷ field bytes (at + 4) 4 (nat_le 4 (word_at bytes at) || nat_eq (word_at bytes (at + 4)) 0)
    ∷ []

abbrev pub parameter_at : List ℕ → ℕ → Kind
parameter_at bytes at = kind_of (word_at bytes at) (word_at bytes (at + 4))

abbrev pub parameters : List ℕ → Entries Kind
parameters bytes = record {
  fields = λ before at. parameter_fields bytes (sum_by registers_of before) at;
  value = parameter_at bytes;
  size = λ kind. 8;
}

-- A term of a requirement is a symbol, which is below the count and after the one before it, and a coefficient.

abbrev pub next_symbol : ℕ → List (ℕ × ℤ) → ℕ
next_symbol least [] = least
next_symbol least (t ∷ ts) = next_symbol (t.0 + 1) ts

abbrev pub term_fields : ℕ → List ℕ → ℕ → ℕ → List Field
term_fields count bytes least at =
    field bytes at 4 (nat_le least (word_at bytes at) && nat_lt (word_at bytes at) count)
    ∷ field bytes (at + 4) 8 (not (int_eq (long_at bytes (at + 4)) (pos 0)) && is_small (long_at bytes (at + 4)))
    ∷ []

abbrev pub term_at : List ℕ → ℕ → ℕ × ℤ
term_at bytes at = (word_at bytes at, long_at bytes (at + 4))

abbrev pub terms : ℕ → List ℕ → Entries (ℕ × ℤ)
terms count bytes = record {
  fields = λ before at. term_fields count bytes (next_symbol 0 before) at;
  value = term_at bytes;
  size = λ term. 12;
}

-- A requirement is a constant, a number of terms and the terms.

abbrev pub requirement_fields : ℕ → List ℕ → ℕ → List Field
requirement_fields count bytes at =
    field bytes at 8 (is_small (long_at bytes at))
    ∷ field bytes (at + 8) 4 true
    ∷ fields_of (terms count bytes) [] (word_at bytes (at + 8)) (at + 12)

abbrev pub form_of : ℤ → List (ℕ × ℤ) → LinearForm
form_of constant terms = record { constant = constant; terms = terms }

abbrev pub requirement_at : ℕ → List ℕ → ℕ → LinearForm
requirement_at count bytes at = form_of (long_at bytes at) (values_of (terms count bytes) (word_at bytes (at + 8)) (at + 12))

abbrev pub requirements : ℕ → List ℕ → Entries LinearForm
requirements count bytes =
    record {
      fields = λ before at. requirement_fields count bytes at;
      value = requirement_at count bytes;
      size = λ form. 12 + 12 * length form.terms;
    }

-- A result is a scalar, one of two at most, or the array of a parameter that no result before it is.

abbrev pub scalars : List (Option ℕ) → ℕ
scalars [] = 0
scalars (None ∷ rets) = scalars rets + 1
scalars (Some p ∷ rets) = scalars rets

abbrev pub has_array : ℕ → List (Option ℕ) → Bool
has_array p [] = false
has_array p (None ∷ rets) = has_array p rets
has_array p (Some q ∷ rets) = nat_eq p q || has_array p rets

abbrev pub is_some_array : Option Kind → Bool
is_some_array None = false
is_some_array (Some kind) = is_array kind

abbrev pub is_result : List Kind → List (Option ℕ) → Option ℕ → Bool
is_result kinds before None = nat_lt (scalars before) 2
is_result kinds before (Some p) = is_some_array (slice_get kinds p) && not (has_array p before)

abbrev pub result_fields : List Kind → List ℕ → List (Option ℕ) → ℕ → List Field
result_fields kinds bytes before at = field bytes at 4 (is_result kinds before (symbol_of (word_at bytes at))) ∷ []

abbrev pub result_at : List ℕ → ℕ → Option ℕ
result_at bytes at = symbol_of (word_at bytes at)

abbrev pub results : List Kind → List ℕ → Entries (Option ℕ)
results kinds bytes = record { fields = result_fields kinds bytes; value = result_at bytes; size = λ ret. 4 }

-- A term of the bound is two symbols and a coefficient. The first is judged by itself, the second by the first, and
-- then the first again, by the terms before.

abbrev pub is_entry_symbol : ℕ → Option ℕ → Bool
is_entry_symbol count None = true
is_entry_symbol count (Some a) = nat_lt a count

-- a second symbol has a first one, that isn't after it
abbrev pub is_second : ℕ → Option ℕ → Option ℕ → Bool
is_second count a None = true
is_second count None (Some b) = false
is_second count (Some a) (Some b) = nat_le a b && nat_lt b count

abbrev pub first_at : List ℕ → ℕ → Option ℕ
first_at bytes at = symbol_of (word_at bytes at)

abbrev pub second_at : List ℕ → ℕ → Option ℕ
second_at bytes at = symbol_of (word_at bytes (at + 4))

abbrev pub coefficient_field : List ℕ → ℕ → Field
coefficient_field bytes at = field bytes at 8 (nat_le 1 (wide_at bytes at) && nat_le (wide_at bytes at) greatest_coefficient)

abbrev pub bound_term_fields : ℕ → List ℕ → List Term → ℕ → List Field
bound_term_fields count bytes before at =
    field bytes at 4 (is_entry_symbol count (first_at bytes at))
    ∷ field bytes (at + 4) 4 (is_second count (first_at bytes at) (second_at bytes at))
    ∷ field bytes at 4 (goes_behind before (first_at bytes at) (second_at bytes at))
    ∷ coefficient_field bytes (at + 8)
    ∷ []

abbrev pub bound_term_at : List ℕ → ℕ → Term
bound_term_at bytes at = record { first = first_at bytes at; second = second_at bytes at; coefficient = wide_at bytes (at + 8) }

abbrev pub bound_terms : ℕ → List ℕ → Entries Term
bound_terms count bytes = record { fields = bound_term_fields count bytes; value = bound_term_at bytes; size = λ term. 16 }

-- The lists, and the offset at which the header ends.

unfoldable pub params_of : List ℕ → List Kind
params_of bytes = values_of (parameters bytes) (word_at bytes 32) 48

unfoldable pub params_end : List ℕ → ℕ
params_end bytes = end_of (parameters bytes) (word_at bytes 32) 48

abbrev pub forms : List ℕ → Entries LinearForm
forms bytes = requirements (symbol_count (params_of bytes)) bytes

unfoldable pub requires_of : List ℕ → List LinearForm
requires_of bytes = values_of (forms bytes) (word_at bytes 36) (params_end bytes)

unfoldable pub requires_end : List ℕ → ℕ
requires_end bytes = end_of (forms bytes) (word_at bytes 36) (params_end bytes)

unfoldable pub rets_of : List ℕ → List (Option ℕ)
rets_of bytes = values_of (results (params_of bytes) bytes) (word_at bytes 40) (requires_end bytes)

unfoldable pub rets_end : List ℕ → ℕ
rets_end bytes = end_of (results (params_of bytes) bytes) (word_at bytes 40) (requires_end bytes)

unfoldable pub bound_of : List ℕ → List Term
bound_of bytes = values_of (bound_terms (symbol_count (params_of bytes)) bytes) (word_at bytes 44) (rets_end bytes)

unfoldable pub header_end : List ℕ → ℕ
header_end bytes = end_of (bound_terms (symbol_count (params_of bytes)) bytes) (word_at bytes 44) (rets_end bytes)

-- the four numbers of entries; there are at most 4,096 requirements
abbrev pub counts_of : List ℕ → Counts
counts_of bytes = record {
  params = word_at bytes 32;
  requires_ = word_at bytes 36;
  rets = word_at bytes 40;
  bound = word_at bytes 44;
}

abbrev pub count_fields : List ℕ → List Field
count_fields bytes = field bytes 32 4 true ∷ field bytes 36 4 (nat_le (word_at bytes 36) 4_096) ∷ field bytes 40 4 true
    ∷ field bytes 44 4 true ∷ []

unfoldable pub lists_of : List ℕ → Lists
lists_of bytes = record {
  params = params_of bytes;
  requires_ = requires_of bytes;
  rets = rets_of bytes;
  bound = bound_of bytes;
  header = header_end bytes;
}

unfoldable pub list_fields : List ℕ → List Field
list_fields bytes =
    count_fields bytes
    ++ (fields_of (parameters bytes) [] (word_at bytes 32) 48
    ++ (fields_of (forms bytes) [] (word_at bytes 36) (params_end bytes)
    ++ (fields_of (results (params_of bytes) bytes) [] (word_at bytes 40) (requires_end bytes)
    ++ fields_of (bound_terms (symbol_count (params_of bytes)) bytes) [] (word_at bytes 44) (rets_end bytes))))

-- The fixed fields: the mark, the version and the length, then the offset of the code, then the others.

abbrev pub mark : List ℕ
mark = 0x52 ∷ 0x55 ∷ 0x50 ∷ 0x31 ∷ []

abbrev pub start_fields : List ℕ → List Field
start_fields bytes =
    field bytes 0 4 (nat_eq (word_at bytes 0) (from_le_bytes w32 mark))
    ∷ field bytes 4 4 (nat_eq (word_at bytes 4) 1)
    ∷ field bytes 8 4 (nat_eq (word_at bytes 8) (length bytes))
    ∷ []

-- the offset of the code is judged where there is one to compare it with
abbrev pub offset_fields : List ℕ → Option ℕ → List Field
offset_fields bytes None = []
offset_fields bytes (Some offset) = field bytes 12 4 (nat_eq (word_at bytes 12) offset) ∷ []

-- the entry is judged by the offset of the code as it stands
abbrev pub entry_field : List ℕ → Field
entry_field bytes =
    field bytes 24 4 (nat_eq (word_at bytes 24 % 4) 0 && nat_le (word_at bytes 12) (word_at bytes 24)
    && nat_lt (word_at bytes 24) (word_at bytes 12 + word_at bytes 16))

abbrev pub code_field : List ℕ → Field
code_field bytes = field bytes 16 4
    (nat_eq (word_at bytes 16 % 4) 0 && nat_le 4 (word_at bytes 16) && nat_le (word_at bytes 16) 1_000_000)

abbrev pub tables_field : List ℕ → Field
tables_field bytes = field bytes 20 4 (nat_le (word_at bytes 20) 131_072)

abbrev pub stack_field : List ℕ → Field
stack_field bytes = field bytes 28 4 (nat_eq (word_at bytes 28 % 16) 0 && nat_le (word_at bytes 28) 4_096)

abbrev pub middle_fields : List ℕ → List Field
middle_fields bytes = code_field bytes ∷ tables_field bytes ∷ entry_field bytes ∷ stack_field bytes ∷ []

-- Behind the header: zeros up to the code, the code, the tables, and nothing more.

abbrev pub all_zeros : List ℕ → Bool
all_zeros [] = true
all_zeros (b ∷ bs) = nat_eq b 0 && all_zeros bs

abbrev pub filling_field : List ℕ → ℕ → ℕ → Field
filling_field bytes header offset = field bytes header (offset - header) (all_zeros (take (offset - header) (drop header bytes)))

abbrev pub rest_fields : List ℕ → ℕ → List Field
rest_fields bytes header =
    filling_field bytes header (word_at bytes 12)
    ∷ field bytes (word_at bytes 12) (word_at bytes 16) true
    ∷ field bytes (word_at bytes 12 + word_at bytes 16) (word_at bytes 20) true
    ∷ field bytes (word_at bytes 12 + word_at bytes 16 + word_at bytes 20) 0
    (nat_le (length bytes) (word_at bytes 12 + word_at bytes 16 + word_at bytes 20))
    ∷ []

-- the offset that the lists ask for, where they are right
abbrev pub offset_asked : List ℕ → Option ℕ → Option ℕ
offset_asked bytes None = Some (next_multiple_of (header_end bytes) 16)
offset_asked bytes (Some wrong) = None

-- the fields that are left where the lists are right
unfoldable pub rest_of : List ℕ → List Field
rest_of bytes = offset_fields bytes (Some (next_multiple_of (header_end bytes) 16))
    ++ (middle_fields bytes ++ rest_fields bytes (header_end bytes))

unfoldable pub fields : List ℕ → List Field
fields bytes =
    start_fields bytes
    ++ (offset_fields bytes (offset_asked bytes (first_wrong (list_fields bytes)))
    ++ (middle_fields bytes ++ (list_fields bytes ++ rest_fields bytes (header_end bytes))))

unfoldable pub image_of : List ℕ → Image
image_of bytes =
    record {
      version = word_at bytes 4;
      params = params_of bytes;
      requires_ = requires_of bytes;
      rets = rets_of bytes;
      bound = bound_of bytes;
      entry = word_at bytes 24;
      stack = word_at bytes 28;
      code = take (word_at bytes 16) (drop (word_at bytes 12) bytes);
      tables = take (word_at bytes 20) (drop (word_at bytes 12 + word_at bytes 16) bytes);
    }

-- the image that the bytes are, or the offset of the first wrong field
abbrev pub read : List ℕ → Result Image Refusal
read bytes = judged (fields bytes) (image_of bytes)
