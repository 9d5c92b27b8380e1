-- What it means that no field is wrong.
use Rattle.std.proofs.Common.{◌≡◌, ℕ, ◌+◌, ◌-◌, ◌%◌, ◌<◌, ◌≤◌, true, ◌&&◌, List, [], ◌∷◌, ◌++◌, length, take, drop, Some, None}
use Rattle.std.proofs.Common.{nat_le, nat_lt, nat_eq, refl, ◌∙◌, arith}
use Rattle.std.specs.Int.{w32, from_le_bytes, next_multiple_of}
use Rattle.std.proofs.lemmas.Bool.{leb-true, le-leb, ltb-true, lt-ltb, eqb-true}
use Rattle.std.proofs.lemmas.Bool.Decides.{nat_tests}
use Rattle.side_certs.proofs.laws.Terms.{both, and_parts}
use Rattle.image_layout.specs.Spelling.{symbol_count}
use Rattle.image_layout.specs.Reading.{field, first_wrong, word_at, fields_of, parameters, forms, results, bound_terms, params_of}
use Rattle.image_layout.specs.Reading.{params_end, requires_end, rets_end, header_end, count_fields, list_fields, mark}
use Rattle.image_layout.specs.Reading.{start_fields, offset_fields, offset_asked, code_field, tables_field, entry_field}
use Rattle.image_layout.specs.Reading.{stack_field, middle_fields, all_zeros, filling_field, rest_fields, fields}
use Rattle.image_layout.proofs.Entries.{wrong-none}
use Rattle.image_layout.proofs.Stands.{field_parts, fields_parts, field_made}

pub record Right (bytes : List ℕ) : Type 0 where
  pub fixed : 48 ≤ length bytes
  pub marked : word_at bytes 0 ≡ from_le_bytes w32 mark
  pub version : word_at bytes 4 ≡ 1
  pub size : word_at bytes 8 ≡ length bytes
  pub offset : word_at bytes 12 ≡ next_multiple_of (header_end bytes) 16
  pub code_whole : word_at bytes 16 % 4 ≡ 0
  pub code_some : 4 ≤ word_at bytes 16
  pub code_most : word_at bytes 16 ≤ 1_000_000
  pub tables_most : word_at bytes 20 ≤ 131_072
  pub entry_whole : word_at bytes 24 % 4 ≡ 0
  pub entry_from : word_at bytes 12 ≤ word_at bytes 24
  pub entry_below : word_at bytes 24 < word_at bytes 12 + word_at bytes 16
  pub stack_whole : word_at bytes 28 % 16 ≡ 0
  pub stack_most : word_at bytes 28 ≤ 4_096
  pub requires_most : word_at bytes 36 ≤ 4_096
  pub params : first_wrong (fields_of (parameters bytes) [] (word_at bytes 32) 48) ≡ None
  pub requires_ : first_wrong (fields_of (forms bytes) [] (word_at bytes 36) (params_end bytes)) ≡ None
  pub rets : first_wrong (fields_of (results (params_of bytes) bytes) [] (word_at bytes 40) (requires_end bytes)) ≡ None
  pub bound : first_wrong (fields_of (bound_terms (symbol_count (params_of bytes)) bytes) [] (word_at bytes 44) (rets_end bytes))
      ≡ None
  pub filled : all_zeros (take (word_at bytes 12 - header_end bytes) (drop (header_end bytes) bytes)) ≡ true
  pub header_inside : header_end bytes ≤ length bytes
  pub ends : word_at bytes 12 + word_at bytes 16 + word_at bytes 20 ≡ length bytes

record RightLists (bytes : List ℕ) : Type 0 where
  requires_most : word_at bytes 36 ≤ 4_096
  params : first_wrong (fields_of (parameters bytes) [] (word_at bytes 32) 48) ≡ None
  requires_ : first_wrong (fields_of (forms bytes) [] (word_at bytes 36) (params_end bytes)) ≡ None
  rets : first_wrong (fields_of (results (params_of bytes) bytes) [] (word_at bytes 40) (requires_end bytes)) ≡ None
  bound : first_wrong (fields_of (bound_terms (symbol_count (params_of bytes)) bytes) [] (word_at bytes 44) (rets_end bytes))
      ≡ None
  fixed : 48 ≤ length bytes

right_lists : (bytes : List ℕ) → first_wrong (list_fields bytes) ≡ None → RightLists bytes
unfolding list_fields
right_lists bytes h =
    let ps = fields_of (parameters bytes) [] (word_at bytes 32) 48 in
    let fs = fields_of (forms bytes) [] (word_at bytes 36) (params_end bytes) in
    let rs = fields_of (results (params_of bytes) bytes) [] (word_at bytes 40) (requires_end bytes) in
    let ts = fields_of (bound_terms (symbol_count (params_of bytes)) bytes) [] (word_at bytes 44) (rets_end bytes) in
    let a = fields_parts (count_fields bytes) (ps ++ (fs ++ (rs ++ ts))) h in
    let b = fields_parts ps (fs ++ (rs ++ ts)) a.1 in
    let d = fields_parts fs (rs ++ ts) b.1 in
    let e = fields_parts rs ts d.1 in
    let f1 = field bytes 32 4 true in
    let f2 = field bytes 36 4 (nat_le (word_at bytes 36) 4_096) in
    let f3 = field bytes 40 4 true in
    let f4 = field bytes 44 4 true in
    let k1 = field_parts f1 (f2 ∷ f3 ∷ f4 ∷ []) a.0 in
    let k2 = field_parts f2 (f3 ∷ f4 ∷ []) k1.1 in
    let k3 = field_parts f3 (f4 ∷ []) k2.1 in
    let k4 = field_parts f4 [] k3.1 in
    let most = and_parts (nat_le 40 (length bytes)) (nat_le (word_at bytes 36) 4_096) k2.0 in
    let last = and_parts (nat_le 48 (length bytes)) true k4.0 in
    record {
      requires_most = leb-true _ _ most.1;
      params = b.0;
      requires_ = d.0;
      rets = e.0;
      bound = e.1;
      fixed = leb-true _ _ last.0;
    }

lists_made : (bytes : List ℕ) → RightLists bytes → first_wrong (list_fields bytes) ≡ None
unfolding list_fields
lists_made bytes r =
    let ps = fields_of (parameters bytes) [] (word_at bytes 32) 48 in
    let fs = fields_of (forms bytes) [] (word_at bytes 36) (params_end bytes) in
    let rs = fields_of (results (params_of bytes) bytes) [] (word_at bytes 40) (requires_end bytes) in
    let ts = fields_of (bound_terms (symbol_count (params_of bytes)) bytes) [] (word_at bytes 44) (rets_end bytes) in
    let fixed = r.fixed in
    let w1 : nat_le 36 (length bytes) ≡ true = le-leb _ _ (omega (arith, fixed)) in
    let w2 : nat_le 40 (length bytes) ≡ true = le-leb _ _ (omega (arith, fixed)) in
    let w3 : nat_le 44 (length bytes) ≡ true = le-leb _ _ (omega (arith, fixed)) in
    let w4 : nat_le 48 (length bytes) ≡ true = le-leb _ _ fixed in
    let f1 = field bytes 32 4 true in
    let f2 = field bytes 36 4 (nat_le (word_at bytes 36) 4_096) in
    let f3 = field bytes 40 4 true in
    let f4 = field bytes 44 4 true in
    let counts : first_wrong (count_fields bytes) ≡ None =
    field_made f1 (f2 ∷ f3 ∷ f4 ∷ []) (both w1 refl)
    (field_made f2 (f3 ∷ f4 ∷ []) (both w2 (le-leb _ _ r.requires_most))
    (field_made f3 (f4 ∷ []) (both w3 refl) (field_made f4 [] (both w4 refl) refl))) in
    wrong-none (count_fields bytes) (ps ++ (fs ++ (rs ++ ts))) counts ∙ wrong-none ps (fs ++ (rs ++ ts)) r.params
    ∙ wrong-none fs (rs ++ ts) r.requires_ ∙ wrong-none rs ts r.rets ∙ r.bound

pub rights : (bytes : List ℕ) → first_wrong (fields bytes) ≡ None → Right bytes
unfolding fields
rights bytes h =
    let header = header_end bytes in
    let asked = offset_asked bytes (first_wrong (list_fields bytes)) in
    let a = fields_parts (start_fields bytes)
    (offset_fields bytes asked ++ (middle_fields bytes ++ (list_fields bytes ++ rest_fields bytes header))) h in
    let b = fields_parts (offset_fields bytes asked) (middle_fields bytes ++ (list_fields bytes ++ rest_fields bytes header)) a.1
    in
    let d = fields_parts (middle_fields bytes) (list_fields bytes ++ rest_fields bytes header) b.1 in
    let e = fields_parts (list_fields bytes) (rest_fields bytes header) d.1 in
    let none_wrong = e.0 in
    let lists = right_lists bytes e.0 in
    let offset : first_wrong (offset_fields bytes (Some (next_multiple_of header 16))) ≡ None = rw none_wrong at b.0 in
    let o1 = field_parts (field bytes 12 4 (nat_eq (word_at bytes 12) (next_multiple_of header 16))) [] offset in
    let o2 = and_parts (nat_le 16 (length bytes)) (nat_eq (word_at bytes 12) (next_multiple_of header 16)) o1.0 in
    let s1 = field bytes 0 4 (nat_eq (word_at bytes 0) (from_le_bytes w32 mark)) in
    let s2 = field bytes 4 4 (nat_eq (word_at bytes 4) 1) in
    let s3 = field bytes 8 4 (nat_eq (word_at bytes 8) (length bytes)) in
    let p1 = field_parts s1 (s2 ∷ s3 ∷ []) a.0 in
    let p2 = field_parts s2 (s3 ∷ []) p1.1 in
    let p3 = field_parts s3 [] p2.1 in
    let q1 = and_parts (nat_le 4 (length bytes)) (nat_eq (word_at bytes 0) (from_le_bytes w32 mark)) p1.0 in
    let q2 = and_parts (nat_le 8 (length bytes)) (nat_eq (word_at bytes 4) 1) p2.0 in
    let q3 = and_parts (nat_le 12 (length bytes)) (nat_eq (word_at bytes 8) (length bytes)) p3.0 in
    let m1 = field_parts (code_field bytes) (tables_field bytes ∷ entry_field bytes ∷ stack_field bytes ∷ []) d.0 in
    let m2 = field_parts (tables_field bytes) (entry_field bytes ∷ stack_field bytes ∷ []) m1.1 in
    let m3 = field_parts (entry_field bytes) (stack_field bytes ∷ []) m2.1 in
    let m4 = field_parts (stack_field bytes) [] m3.1 in
    let code = and_parts (nat_le 20 (length bytes))
    (nat_eq (word_at bytes 16 % 4) 0 && nat_le 4 (word_at bytes 16) && nat_le (word_at bytes 16) 1_000_000) m1.0 in
    let code2 = and_parts (nat_eq (word_at bytes 16 % 4) 0 && nat_le 4 (word_at bytes 16)) (nat_le (word_at bytes 16) 1_000_000)
    code.1 in
    let code3 = and_parts (nat_eq (word_at bytes 16 % 4) 0) (nat_le 4 (word_at bytes 16)) code2.0 in
    let tables = and_parts (nat_le 24 (length bytes)) (nat_le (word_at bytes 20) 131_072) m2.0 in
    let entry = and_parts (nat_le 28 (length bytes))
    (nat_eq (word_at bytes 24 % 4) 0 && nat_le (word_at bytes 12) (word_at bytes 24)
    && nat_lt (word_at bytes 24) (word_at bytes 12 + word_at bytes 16)) m3.0 in
    let entry2 = and_parts (nat_eq (word_at bytes 24 % 4) 0 && nat_le (word_at bytes 12) (word_at bytes 24))
    (nat_lt (word_at bytes 24) (word_at bytes 12 + word_at bytes 16)) entry.1 in
    let entry3 = and_parts (nat_eq (word_at bytes 24 % 4) 0) (nat_le (word_at bytes 12) (word_at bytes 24)) entry2.0 in
    let stack = and_parts (nat_le 32 (length bytes)) (nat_eq (word_at bytes 28 % 16) 0 && nat_le (word_at bytes 28) 4_096) m4.0 in
    let stack2 = and_parts (nat_eq (word_at bytes 28 % 16) 0) (nat_le (word_at bytes 28) 4_096) stack.1 in
    let r1 = filling_field bytes header (word_at bytes 12) in
    let r2 = field bytes (word_at bytes 12) (word_at bytes 16) true in
    let r3 = field bytes (word_at bytes 12 + word_at bytes 16) (word_at bytes 20) true in
    let r4 = field bytes (word_at bytes 12 + word_at bytes 16 + word_at bytes 20) 0
    (nat_le (length bytes) (word_at bytes 12 + word_at bytes 16 + word_at bytes 20)) in
    let t1 = field_parts r1 (r2 ∷ r3 ∷ r4 ∷ []) e.1 in
    let t2 = field_parts r2 (r3 ∷ r4 ∷ []) t1.1 in
    let t3 = field_parts r3 (r4 ∷ []) t2.1 in
    let t4 = field_parts r4 [] t3.1 in
    let filling = and_parts (nat_le (header + (word_at bytes 12 - header)) (length bytes))
    (all_zeros (take (word_at bytes 12 - header) (drop header bytes))) t1.0 in
    let in_tables = and_parts (nat_le (word_at bytes 12 + word_at bytes 16 + word_at bytes 20) (length bytes)) true t3.0 in
    let nothing = and_parts (nat_le (word_at bytes 12 + word_at bytes 16 + word_at bytes 20 + 0) (length bytes))
    (nat_le (length bytes) (word_at bytes 12 + word_at bytes 16 + word_at bytes 20)) t4.0 in
    let whole : header + (word_at bytes 12 - header) ≤ length bytes = leb-true _ _ filling.0 in
    let less : word_at bytes 12 + word_at bytes 16 + word_at bytes 20 ≤ length bytes = leb-true _ _ in_tables.0 in
    let more : length bytes ≤ word_at bytes 12 + word_at bytes 16 + word_at bytes 20 = leb-true _ _ nothing.1 in
    record {
      fixed = lists.fixed;
      marked = eqb-true _ _ q1.1;
      version = eqb-true _ _ q2.1;
      size = eqb-true _ _ q3.1;
      offset = eqb-true _ _ o2.1;
      code_whole = eqb-true _ _ code3.0;
      code_some = leb-true _ _ code3.1;
      code_most = leb-true _ _ code2.1;
      tables_most = leb-true _ _ tables.1;
      entry_whole = eqb-true _ _ entry3.0;
      entry_from = leb-true _ _ entry3.1;
      entry_below = ltb-true _ _ entry2.1;
      stack_whole = eqb-true _ _ stack2.0;
      stack_most = leb-true _ _ stack2.1;
      requires_most = lists.requires_most;
      params = lists.params;
      requires_ = lists.requires_;
      rets = lists.rets;
      bound = lists.bound;
      filled = filling.1;
      header_inside = omega (arith, whole);
      ends = omega (arith, less, more);
    }

same_true : (a b : ℕ) → a ≡ b → nat_eq a b ≡ true
same_true a b e = grind (arith, nat_tests)

whole_true : (n : ℕ) (bytes : List ℕ) → 48 ≤ length bytes → n ≤ 48 → nat_le n (length bytes) ≡ true
whole_true n bytes fixed le = le-leb _ _ (omega (arith, fixed, le))

pub none_wrong : (bytes : List ℕ) → header_end bytes ≤ word_at bytes 12 → Right bytes → first_wrong (fields bytes) ≡ None
unfolding fields
none_wrong bytes behind r =
    let header = header_end bytes in
    let lists = lists_made bytes (record {
      requires_most = r.requires_most;
      params = r.params;
      requires_ = r.requires_;
      rets = r.rets;
      bound = r.bound;
      fixed = r.fixed;
    }) in
    let s1 = field bytes 0 4 (nat_eq (word_at bytes 0) (from_le_bytes w32 mark)) in
    let s2 = field bytes 4 4 (nat_eq (word_at bytes 4) 1) in
    let s3 = field bytes 8 4 (nat_eq (word_at bytes 8) (length bytes)) in
    let start : first_wrong (start_fields bytes) ≡ None =
    field_made s1 (s2 ∷ s3 ∷ []) (both (whole_true 4 bytes r.fixed (omega arith)) (same_true _ _ r.marked))
    (field_made s2 (s3 ∷ []) (both (whole_true 8 bytes r.fixed (omega arith)) (same_true _ _ r.version))
    (field_made s3 [] (both (whole_true 12 bytes r.fixed (omega arith)) (same_true _ _ r.size)) refl)) in
    let offset : first_wrong (offset_fields bytes (Some (next_multiple_of header 16))) ≡ None =
    field_made (field bytes 12 4 (nat_eq (word_at bytes 12) (next_multiple_of header 16))) []
    (both (whole_true 16 bytes r.fixed (omega arith)) (same_true _ _ r.offset)) refl in
    let code : (code_field bytes).right
    ≡ true = both (whole_true 20 bytes r.fixed (omega arith))
    (both (both (same_true _ _ r.code_whole) (le-leb _ _ r.code_some)) (le-leb _ _ r.code_most)) in
    let tables : (tables_field bytes).right ≡ true = both (whole_true 24 bytes r.fixed (omega arith)) (le-leb _ _ r.tables_most)
    in
    let entry : (entry_field bytes).right
    ≡ true = both (whole_true 28 bytes r.fixed (omega arith))
    (both (both (same_true _ _ r.entry_whole) (le-leb _ _ r.entry_from)) (lt-ltb _ _ r.entry_below)) in
    let stack : (stack_field bytes).right
    ≡ true = both (whole_true 32 bytes r.fixed (omega arith)) (both (same_true _ _ r.stack_whole) (le-leb _ _ r.stack_most))
    in
    let middle : first_wrong (middle_fields bytes) ≡ None =
    field_made (code_field bytes) (tables_field bytes ∷ entry_field bytes ∷ stack_field bytes ∷ []) code
    (field_made (tables_field bytes) (entry_field bytes ∷ stack_field bytes ∷ []) tables
    (field_made (entry_field bytes) (stack_field bytes ∷ []) entry (field_made (stack_field bytes) [] stack refl))) in
    let r1 = filling_field bytes header (word_at bytes 12) in
    let r2 = field bytes (word_at bytes 12) (word_at bytes 16) true in
    let r3 = field bytes (word_at bytes 12 + word_at bytes 16) (word_at bytes 20) true in
    let r4 = field bytes (word_at bytes 12 + word_at bytes 16 + word_at bytes 20) 0
    (nat_le (length bytes) (word_at bytes 12 + word_at bytes 16 + word_at bytes 20)) in
    let i1 : header + (word_at bytes 12 - header) ≤ length bytes = omega (arith, r.ends, behind) in
    let i2 : word_at bytes 12 + word_at bytes 16 ≤ length bytes = omega (arith, r.ends) in
    let i3 : word_at bytes 12 + word_at bytes 16 + word_at bytes 20 ≤ length bytes = omega (arith, r.ends) in
    let i4 : word_at bytes 12 + word_at bytes 16 + word_at bytes 20 + 0 ≤ length bytes = omega (arith, r.ends) in
    let i5 : length bytes ≤ word_at bytes 12 + word_at bytes 16 + word_at bytes 20 = omega (arith, r.ends) in
    let t1 : r1.right ≡ true = both (le-leb _ _ i1) r.filled in
    let t2 : r2.right ≡ true = both (le-leb _ _ i2) refl in
    let t3 : r3.right ≡ true = both (le-leb _ _ i3) refl in
    let t4 : r4.right ≡ true = both (le-leb _ _ i4) (le-leb _ _ i5) in
    let rest : first_wrong (rest_fields bytes header)
    ≡ None = field_made r1 (r2 ∷ r3 ∷ r4 ∷ []) t1
    (field_made r2 (r3 ∷ r4 ∷ []) t2 (field_made r3 (r4 ∷ []) t3 (field_made r4 [] t4 refl))) in
    let all : first_wrong (start_fields bytes
    ++ (offset_fields bytes (Some (next_multiple_of header 16))
    ++ (middle_fields bytes ++ (list_fields bytes ++ rest_fields bytes header)))) ≡ None =
    wrong-none (start_fields bytes)
    (offset_fields bytes (Some (next_multiple_of header 16))
    ++ (middle_fields bytes ++ (list_fields bytes ++ rest_fields bytes header))) start
    ∙ wrong-none (offset_fields bytes (Some (next_multiple_of header 16)))
    (middle_fields bytes ++ (list_fields bytes ++ rest_fields bytes header)) offset
    ∙ wrong-none (middle_fields bytes) (list_fields bytes ++ rest_fields bytes header) middle
    ∙ wrong-none (list_fields bytes) (rest_fields bytes header) lists ∙ rest in
    rw lists all
