-- The four lists are read one after another.
use Rattle.std.proofs.Common.{◌≡◌, ℕ, ◌+◌, ◌≤◌, List, [], ◌∷◌, ◌++◌, take, drop, true, Option, Some, None, Ok, Err, refl, sym, ap}
use Rattle.std.proofs.Common.{◌∙◌, arith}
use Rattle.std.specs.Prelude.{sum_by}
use Rattle.std.proofs.lemmas.List.Sums.{sum_by-cons}
use Rattle.rup_base.specs.Answers.{Answers}
use Rattle.rup_base.specs.declared.arg.Kind.{Kind}
use Rattle.rup_base.specs.declared.arg.Kind.TheVariants.{Word, Byte, Bytes, Words}
use Rattle.rup_base.specs.declared.fail.Fail.{Fail}
use Rattle.side_certs.specs.LinearForm.{LinearForm}
use Rattle.cost_poly.specs.declared.term.Term.{Term}
use Rattle.image_layout.specs.declared.reading.lists.Counts.{Counts}
use Rattle.image_layout.specs.declared.reading.lists.Lists.{Lists}
use Rattle.image_layout.specs.Spelling.{registers_of, symbols_of, symbol_count}
use Rattle.image_layout.specs.Reading.{Field, first_wrong, verdict, judged, fields_of, values_of, end_of, word_at, parameters}
use Rattle.image_layout.specs.Reading.{requirements, forms, results, bound_terms, count_fields, counts_of, params_of, params_end}
use Rattle.image_layout.specs.Reading.{requires_of, requires_end, rets_of, rets_end, bound_of, header_end, list_fields, lists_of}
use Rattle.image_layout.specs.Reading.{image_of, field, filling_field, rest_fields}
use Rattle.image_layout.proofs.Entries.{done, verdict_ok, wrong_alone, wrong_first, wrong_second, wrong-none, given}

-- there is no more than one entry symbol for a register
one_each : (k : Kind) → symbols_of k ≤ registers_of k
one_each Word = omega arith
one_each Byte = omega arith
one_each (Bytes None) = omega arith
one_each (Bytes (Some n)) = omega arith
one_each (Words None) = omega arith
one_each (Words (Some n)) = omega arith

pub symbols_one : (k : Kind) → symbols_of k ≤ 1
symbols_one Word = omega arith
symbols_one Byte = omega arith
symbols_one (Bytes None) = omega arith
symbols_one (Bytes (Some n)) = omega arith
symbols_one (Words None) = omega arith
symbols_one (Words (Some n)) = omega arith

pub symbols_few : (kinds : List Kind) → sum_by symbols_of kinds ≤ sum_by registers_of kinds
symbols_few [] = omega arith
symbols_few (k ∷ ks) =
    let rest : sum_by symbols_of ks ≤ sum_by registers_of ks = symbols_few ks in
    omega (arith, one_each k, sum_by-cons symbols_of k ks, sum_by-cons registers_of k ks)

abbrev params_fields : List ℕ → List Field
params_fields bytes = fields_of (parameters bytes) [] (word_at bytes 32) 48

abbrev requires_fields : List ℕ → List Field
requires_fields bytes = fields_of (forms bytes) [] (word_at bytes 36) (params_end bytes)

abbrev rets_fields : List ℕ → List Field
rets_fields bytes = fields_of (results (params_of bytes) bytes) [] (word_at bytes 40) (requires_end bytes)

abbrev bound_fields : List ℕ → List Field
bound_fields bytes = fields_of (bound_terms (symbol_count (params_of bytes)) bytes) [] (word_at bytes 44) (rets_end bytes)

-- What has been read.

pub record Counted (bytes : List ℕ) (k : Counts) : Type 0 where
  pub right : first_wrong (count_fields bytes) ≡ None
  pub params : k.params ≡ word_at bytes 32
  pub requires_ : k.requires_ ≡ word_at bytes 36
  pub rets : k.rets ≡ word_at bytes 40
  pub bound : k.bound ≡ word_at bytes 44

pub counted : (bytes : List ℕ) (k : Counts) → judged (count_fields bytes) (counts_of bytes) ≡ Ok k → Counted bytes k
counted bytes k h =
    let p = verdict_ok (first_wrong (count_fields bytes)) (counts_of bytes) k h in
    record {
      right = p.0;
      params = sym (ap (λ (c : Counts). c.params) p.1);
      requires_ = sym (ap (λ (c : Counts). c.requires_) p.1);
      rets = sym (ap (λ (c : Counts). c.rets) p.1);
      bound = sym (ap (λ (c : Counts). c.bound) p.1);
    }

pub record HasParams (bytes : List ℕ) (xs : List Kind) (at : ℕ) : Type 0 where
  pub right : first_wrong (params_fields bytes) ≡ None
  pub list : xs ≡ params_of bytes
  pub place : at ≡ params_end bytes

pub has_params : (bytes : List ℕ) (n : ℕ) (xs : List Kind) (at : ℕ) → n ≡ word_at bytes 32
    → judged {A = List Kind × ℕ} (fields_of (parameters bytes) [] n 48)
    (values_of (parameters bytes) n 48, end_of (parameters bytes) n 48) ≡ Ok (xs, at) → HasParams bytes xs at
unfolding params_of params_end
has_params bytes n xs at e h = let p = given (parameters bytes) n 48 xs at h in
    record { right = rw (← e) p.0; list = rw (← e) p.1; place = rw (← e) p.2 }

pub record HasRequires (bytes : List ℕ) (xs : List LinearForm) (at : ℕ) : Type 0 where
  pub right : first_wrong (requires_fields bytes) ≡ None
  pub list : xs ≡ requires_of bytes
  pub place : at ≡ requires_end bytes

pub has_requires : (bytes : List ℕ) (symbols n start : ℕ) (xs : List LinearForm) (at : ℕ)
    → symbols ≡ symbol_count (params_of bytes) → n ≡ word_at bytes 36 → start ≡ params_end bytes
    → judged {A = List LinearForm × ℕ} (fields_of (requirements symbols bytes) [] n start)
    (values_of (requirements symbols bytes) n start, end_of (requirements symbols bytes) n start) ≡ Ok (xs, at)
    → HasRequires bytes xs at
unfolding requires_of requires_end
has_requires bytes symbols n start xs at a b d h =
    let p = given (requirements symbols bytes) n start xs at h in
    record { right = rw (← a, ← b, ← d) p.0; list = rw (← a, ← b, ← d) p.1; place = rw (← a, ← b, ← d) p.2 }

pub record HasRets (bytes : List ℕ) (xs : List (Option ℕ)) (at : ℕ) : Type 0 where
  pub right : first_wrong (rets_fields bytes) ≡ None
  pub list : xs ≡ rets_of bytes
  pub place : at ≡ rets_end bytes

pub has_rets : (bytes : List ℕ) (kinds : List Kind) (n start : ℕ) (xs : List (Option ℕ)) (at : ℕ) → kinds ≡ params_of bytes
    → n ≡ word_at bytes 40 → start ≡ requires_end bytes
    → judged {A = List (Option ℕ) × ℕ} (fields_of (results kinds bytes) [] n start)
    (values_of (results kinds bytes) n start, end_of (results kinds bytes) n start) ≡ Ok (xs, at)
    → HasRets bytes xs at
unfolding rets_of rets_end
has_rets bytes kinds n start xs at a b d h =
    let p = given (results kinds bytes) n start xs at h in
    record { right = rw (← a, ← b, ← d) p.0; list = rw (← a, ← b, ← d) p.1; place = rw (← a, ← b, ← d) p.2 }

pub record HasBound (bytes : List ℕ) (xs : List Term) (at : ℕ) : Type 0 where
  pub right : first_wrong (bound_fields bytes) ≡ None
  pub list : xs ≡ bound_of bytes
  pub place : at ≡ header_end bytes

pub has_bound : (bytes : List ℕ) (symbols n start : ℕ) (xs : List Term) (at : ℕ) → symbols ≡ symbol_count (params_of bytes)
    → n ≡ word_at bytes 44 → start ≡ rets_end bytes
    → judged {A = List Term × ℕ} (fields_of (bound_terms symbols bytes) [] n start)
    (values_of (bound_terms symbols bytes) n start, end_of (bound_terms symbols bytes) n start) ≡ Ok (xs, at)
    → HasBound bytes xs at
unfolding bound_of header_end
has_bound bytes symbols n start xs at a b d h =
    let p = given (bound_terms symbols bytes) n start xs at h in
    record { right = rw (← a, ← b, ← d) p.0; list = rw (← a, ← b, ← d) p.1; place = rw (← a, ← b, ← d) p.2 }

-- What is wrong in one of them.

pub counts_wrong : {T : Type 0} (bytes : List ℕ) (f : Fail) (v : T)
    → Answers {T = Counts} (Err f) (judged (count_fields bytes) (counts_of bytes))
    → Answers {T = T} (Err f) (judged (list_fields bytes) v)
unfolding list_fields
counts_wrong bytes f v h =
    wrong_first (count_fields bytes) (params_fields bytes ++ (requires_fields bytes ++ (rets_fields bytes ++ bound_fields bytes)))
    f (counts_of bytes) v h

pub params_wrong : {T : Type 0} (bytes : List ℕ) (k : Counts) (f : Fail) (v : T) → Counted bytes k
    → Answers {T = List Kind × ℕ} (Err f)
    (judged {A = List Kind × ℕ} (fields_of (parameters bytes) [] k.params 48)
    (values_of (parameters bytes) k.params 48, end_of (parameters bytes) k.params 48))
    → Answers {T = T} (Err f) (judged (list_fields bytes) v)
unfolding list_fields
params_wrong bytes k f v are h =
    let e = are.params in
    wrong_second (count_fields bytes)
    (params_fields bytes ++ (requires_fields bytes ++ (rets_fields bytes ++ bound_fields bytes))) f done v are.right
    (wrong_first (params_fields bytes) (requires_fields bytes ++ (rets_fields bytes ++ bound_fields bytes)) f _ done (rw e at h))

pub requires_wrong : {T : Type 0} (bytes : List ℕ) (k : Counts) (ps : List Kind) (symbols start : ℕ) (f : Fail) (v : T)
    → Counted bytes k → HasParams bytes ps start → symbols ≡ symbol_count ps
    → Answers {T = List LinearForm × ℕ} (Err f)
    (judged {A = List LinearForm × ℕ} (fields_of (requirements symbols bytes) [] k.requires_ start)
    (values_of (requirements symbols bytes) k.requires_ start, end_of (requirements symbols bytes) k.requires_ start))
    → Answers {T = T} (Err f) (judged (list_fields bytes) v)
unfolding list_fields
requires_wrong bytes k ps symbols start f v are has symbols_are h =
    let a : symbols ≡ symbol_count (params_of bytes) = symbols_are ∙ ap symbol_count has.list in
    let b = are.requires_ in
    let d = has.place in
    wrong_second (count_fields bytes)
    (params_fields bytes ++ (requires_fields bytes ++ (rets_fields bytes ++ bound_fields bytes))) f done v are.right
    (wrong_second (params_fields bytes) (requires_fields bytes ++ (rets_fields bytes ++ bound_fields bytes)) f done done has.right
    (wrong_first (requires_fields bytes) (rets_fields bytes ++ bound_fields bytes) f _ done (rw (a, b, d) at h)))

pub rets_wrong : {T : Type 0} (bytes : List ℕ) (k : Counts) (ps kinds : List Kind) (fs : List LinearForm) (after_params start : ℕ)
    (f : Fail) (v : T) → Counted bytes k → HasParams bytes ps after_params → HasRequires bytes fs start
    → kinds ≡ ps
    → Answers {T = List (Option ℕ) × ℕ} (Err f)
    (judged {A = List (Option ℕ) × ℕ} (fields_of (results kinds bytes) [] k.rets start)
    (values_of (results kinds bytes) k.rets start, end_of (results kinds bytes) k.rets start))
    → Answers {T = T} (Err f) (judged (list_fields bytes) v)
unfolding list_fields
rets_wrong bytes k ps kinds fs after_params start f v are has has_forms kinds_are h =
    let a : kinds ≡ params_of bytes = kinds_are ∙ has.list in
    let b = are.rets in
    let d = has_forms.place in
    wrong_second (count_fields bytes)
    (params_fields bytes ++ (requires_fields bytes ++ (rets_fields bytes ++ bound_fields bytes))) f done v are.right
    (wrong_second (params_fields bytes) (requires_fields bytes ++ (rets_fields bytes ++ bound_fields bytes)) f done done has.right
    (wrong_second (requires_fields bytes) (rets_fields bytes ++ bound_fields bytes) f done done has_forms.right
    (wrong_first (rets_fields bytes) (bound_fields bytes) f _ done (rw (a, b, d) at h))))

pub bound_wrong : {T : Type 0} (bytes : List ℕ) (k : Counts) (ps : List Kind) (fs : List LinearForm) (rs : List (Option ℕ))
    (symbols after_params after_requires start : ℕ) (f : Fail) (v : T)
    → Counted bytes k → HasParams bytes ps after_params → HasRequires bytes fs after_requires → HasRets bytes rs start
    → symbols ≡ symbol_count ps
    → Answers {T = List Term × ℕ} (Err f)
    (judged {A = List Term × ℕ} (fields_of (bound_terms symbols bytes) [] k.bound start)
    (values_of (bound_terms symbols bytes) k.bound start, end_of (bound_terms symbols bytes) k.bound start))
    → Answers {T = T} (Err f) (judged (list_fields bytes) v)
unfolding list_fields
bound_wrong bytes k ps fs rs symbols after_params after_requires start f v are has has_forms has_results symbols_are h =
    let a : symbols ≡ symbol_count (params_of bytes) = symbols_are ∙ ap symbol_count has.list in
    let b = are.bound in
    let d = has_results.place in
    wrong_second (count_fields bytes)
    (params_fields bytes ++ (requires_fields bytes ++ (rets_fields bytes ++ bound_fields bytes))) f done v are.right
    (wrong_second (params_fields bytes) (requires_fields bytes ++ (rets_fields bytes ++ bound_fields bytes)) f done done has.right
    (wrong_second (requires_fields bytes) (rets_fields bytes ++ bound_fields bytes) f done done has_forms.right
    (wrong_second (rets_fields bytes) (bound_fields bytes) f done done has_results.right
    (wrong_alone (bound_fields bytes) f _ done (rw (a, b, d) at h)))))

-- all four are right
pub lists_right : (bytes : List ℕ) (k : Counts) (ps : List Kind) (fs : List LinearForm) (rs : List (Option ℕ)) (ts : List Term)
    (after_params after_requires after_rets header : ℕ)
    → Counted bytes k → HasParams bytes ps after_params → HasRequires bytes fs after_requires → HasRets bytes rs after_rets
    → HasBound bytes ts header
    → judged (list_fields bytes) (lists_of bytes)
    ≡ Ok (record { params = ps; requires_ = fs; rets = rs; bound = ts; header = header })
unfolding list_fields lists_of
lists_right bytes k ps fs rs ts after_params after_requires after_rets header are p f r t =
    let all : first_wrong (list_fields bytes) ≡ None =
    wrong-none (count_fields bytes) (params_fields bytes ++ (requires_fields bytes ++ (rets_fields bytes ++ bound_fields bytes)))
    are.right
    ∙ wrong-none (params_fields bytes) (requires_fields bytes ++ (rets_fields bytes ++ bound_fields bytes)) p.right
    ∙ wrong-none (requires_fields bytes) (rets_fields bytes ++ bound_fields bytes) f.right
    ∙ wrong-none (rets_fields bytes) (bound_fields bytes) r.right
    ∙ t.right in
    ap (λ (o : Option ℕ). verdict o (lists_of bytes)) all
    ∙ rw (p.list, f.list, r.list, t.list, t.place) refl

pub image_is : (bytes : List ℕ) (l : Lists) (version entry stack offset tables_offset code_size tables_size : ℕ)
    (code tables : List ℕ) → l ≡ lists_of bytes → version ≡ word_at bytes 4 → entry ≡ word_at bytes 24
    → stack ≡ word_at bytes 28 → code ≡ take code_size (drop offset bytes) → tables ≡ take tables_size (drop tables_offset bytes)
    → offset ≡ word_at bytes 12 → tables_offset ≡ word_at bytes 12 + word_at bytes 16
    → code_size ≡ word_at bytes 16 → tables_size ≡ word_at bytes 20
    → record {
      version = version;
      params = l.params;
      requires_ = l.requires_;
      rets = l.rets;
      bound = l.bound;
      entry = entry;
      stack = stack;
      code = code;
      tables = tables;
    } ≡ image_of bytes
unfolding lists_of image_of
image_is bytes l version entry stack offset tables_offset code_size tables_size code tables a b d e f g h i j k =
    rw (a, b, d, e, f, g, h, i, j, k) refl

pub filling_wrong : (bytes : List ℕ) (header offset : ℕ) (f : Fail) → offset ≡ word_at bytes 12
    → Answers {T = Unit {0}} (Err f) (judged (filling_field bytes header offset ∷ []) tt)
    → Answers {T = Unit {0}} (Err f) (judged (rest_fields bytes header) tt)
filling_wrong bytes header offset f e h =
    wrong_first (filling_field bytes header (word_at bytes 12) ∷ []) (drop 1 (rest_fields bytes header)) f done done (rw e at h)

pub code_wrong : (bytes : List ℕ) (header offset size : ℕ) (f : Fail) → offset ≡ word_at bytes 12 → size ≡ word_at bytes 16
    → judged (filling_field bytes header offset ∷ []) done ≡ Ok done
    → Answers {T = Unit {0}} (Err f) (judged (field bytes offset size true ∷ []) tt)
    → Answers {T = Unit {0}} (Err f) (judged (rest_fields bytes header) tt)
code_wrong bytes header offset size f e d filled h =
    let p = verdict_ok (first_wrong (filling_field bytes header offset ∷ [])) done done filled in
    let right : first_wrong (filling_field bytes header (word_at bytes 12) ∷ []) ≡ None = rw e at p.0 in
    wrong_second (filling_field bytes header (word_at bytes 12) ∷ []) (drop 1 (rest_fields bytes header)) f done done right
    (wrong_first (field bytes (word_at bytes 12) (word_at bytes 16) true ∷ []) (drop 2 (rest_fields bytes header)) f done done
    (rw (e, d) at h))
