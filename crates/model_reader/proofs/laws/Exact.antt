-- The reader's definition and the relation between texts and models.
use Rattle.std.proofs.Common.{◌≡◌, subst, refl, sym, ◌∙◌, ap, ℕ, ◌+◌, ◌≤◌, nat_le, Bool, true, false, List, length, arith, Option}
use Rattle.std.proofs.Common.{Some, None, Ok, IfOk, Result, Err, if◌then◌else◌}
use Rattle.std.proofs.lemmas.Bool.Decides.{nat_tests}
use Rattle.rup_base.specs.Answers.{Answers, and_then}
use Rattle.rup_base.specs.declared.fail.Fail.{Fail}
use Rattle.rup_base.specs.declared.refusal.Refusal.{Refusal}
use Rattle.rup_base.specs.declared.refusal.Refusal.TheVariants.{OverLimit}
use Rattle.rup_base.specs.declared.refusal.Limit.{Limit}
use Rattle.rup_base.specs.declared.refusal.TextWhy.{TextWhy}
use Rattle.sx_text.specs.declared.tree.Sx.{Sx}
use Rattle.sx_text.specs.Forms.{place, read, judged, fault, rest_of}
use Rattle.model_syntax.specs.declared.program.Model.{Model}
use Rattle.model_syntax.specs.Limits.{Within, over_limit, statements, depth, blocks, tables}
use Rattle.model_syntax.specs.Formed.{model_formed}
use Rattle.model_syntax.specs.Spelling.{Spellable}
use Rattle.model_reader.specs.Parts.{Answer}
use Rattle.model_reader.specs.Reading.{Reads, read_model, model_of_forms, limited, not_model}
use Rattle.model_reader.proofs.Fine.{IsModel}
use Rattle.model_reader.proofs.Read.{whole_is_fine}

abbrev answer_of : Model → Answer Model
answer_of m = Ok m

-- an answer that goes on to a value is a value that goes on to it
first_part : {A B : Type 0} (a : Result A Refusal) (next : A → Result B Refusal) (b : B) → and_then a next ≡ Ok b
    → (x : A) × (a ≡ Ok x) × (next x ≡ Ok b)
first_part (Ok x) next b h = (x, refl, h)
first_part (Err r) next b h = absurd cc

model_of : (a : Answer Model) (m : Model) → not_model a ≡ Ok m → a ≡ Ok m
model_of (Ok n) m h = let same : n ≡ m = cc in ap answer_of same
model_of (Err at) m h = absurd cc

-- the forms of a text do not depend on the word that names its file
any_word : (v w : ℕ) (f : Option (ℕ × TextWhy)) (found forms : List Sx) → judged v f found ≡ Ok forms
    → judged w f found ≡ Ok forms
any_word v w None found forms h = h
any_word v w (Some fault) found forms h = absurd cc

same_forms : (v w : ℕ) (bytes : List ℕ) (forms : List Sx) → read v bytes ≡ Ok forms → read w bytes ≡ Ok forms
same_forms v w bytes forms h = any_word v w (fault 0 0 0 bytes) (rest_of 0 0 bytes).0 forms h

by_limit : (m n : Model) (o : Option (Limit × ℕ)) → over_limit m ≡ o → limited m ≡ Ok n → (m ≡ n) × (over_limit m ≡ None)
by_limit m n None is h = let e : limited m ≡ Ok m = rw (is, limited) refl in (cc, is)
by_limit m n (Some (which, count)) is h = let e : limited m ≡ Err (OverLimit which count) = rw (is, limited) refl in absurd cc

limited_same : (m n : Model) → limited m ≡ Ok n → (m ≡ n) × (over_limit m ≡ None)
limited_same m n h = by_limit m n (over_limit m) refl h

under : (n most : ℕ) → nat_le n most ≡ true → n ≤ most
under n most h = grind (arith, nat_tests)

none_of : (a b c d : Bool) (w x y z : Limit × ℕ)
    → (if a then (if b then (if c then (if d then None else Some z) else Some y) else Some x) else Some w) ≡ None
    → (a ≡ true) × (b ≡ true) × (c ≡ true) × (d ≡ true)
none_of true true true true w x y z h = (refl, refl, refl, refl)
none_of true true true false w x y z h = absurd cc
none_of true true false d w x y z h = absurd cc
none_of true false c d w x y z h = absurd cc
none_of false b c d w x y z h = absurd cc

none_within : (m : Model) → over_limit m ≡ None → Within m
none_within m h =
    let p =
    none_of (nat_le (statements m) 2000) (nat_le (depth m) 64) (nat_le (blocks m) 16) (nat_le (tables m) 65536) _ _ _ _ h in
    record {
      few_statements = under (statements m) 2000 p.0;
      shallow_expressions = under (depth m) 64 p.1;
      shallow_blocks = under (blocks m) 16 p.2;
      small_tables = under (tables m) 65536 p.3;
    }

passes : (n most : ℕ) → n ≤ most → nat_le n most ≡ true
passes n most h = grind (arith, nat_tests)

none_over : (m : Model) → Within m → over_limit m ≡ None
none_over m w =
    rw (
      passes (statements m) 2000 w.few_statements,
      passes (depth m) 64 w.shallow_expressions,
      passes (blocks m) 16 w.shallow_blocks,
      passes (tables m) 65536 w.small_tables,
    ) refl

pub within_limits : (m : Model) → Within m → limited m ≡ Ok m
within_limits m w = rw (none_over m w, limited) refl

-- a model that is read: the forms of its bytes, and their one model, which is within the limits
read_parts : (word : ℕ) (bytes : List ℕ) (m : Model) → read_model word bytes ≡ Ok m → Reads bytes m × Within m
read_parts word bytes m h =
    let (forms, r, rest) =
    first_part (read word bytes) (λ forms. and_then (not_model (model_of_forms (length bytes) forms)) limited) m h in
    let (n, s, l) = first_part (not_model (model_of_forms (length bytes) forms)) limited m rest in
    let (same, none) = limited_same n m l in (
      (forms, same_forms word 0 bytes forms r, model_of (model_of_forms (length bytes) forms) n s ∙ ap answer_of same),
      none_within m (sym (ap over_limit same) ∙ none),
    )

composed : (word : ℕ) (bytes : List ℕ) (m : Model) (forms : List Sx) → read word bytes ≡ Ok forms
    → model_of_forms (length bytes) forms ≡ Ok m → limited m ≡ Ok m → read_model word bytes ≡ Ok m
composed word bytes m forms r s l = rw (r, s) l

is_read : (word : ℕ) (bytes : List ℕ) (m : Model) → Reads bytes m → Within m → read_model word bytes ≡ Ok m
is_read word bytes m (forms, r, s) w = composed word bytes m forms (same_forms 0 word bytes forms r) s (within_limits m w)

-- what a call answers that answers as the definition does
pub answered_only : (word : ℕ) (bytes : List ℕ) (r : Result Model Fail) → Answers r (read_model word bytes)
    → IfOk r (λ m. Reads bytes m × Within m)
answered_only word bytes (Ok m) h = read_parts word bytes m h
answered_only word bytes (Err e) h = tt

pub answered_all : (word : ℕ) (bytes : List ℕ) (r : Result Model Fail) (m : Model) → Reads bytes m → Within m
    → Answers r (read_model word bytes) → Answers r (Ok m)
answered_all word bytes r m reads within h =
    let P : Result Model Refusal → Type 0 = λ a. Answers r a in
    subst P (is_read word bytes m reads within) h

-- a text of a model is one of a formed model, whose tables it spells
pub text_is_fine : (bytes : List ℕ) (m : Model) → Reads bytes m → IsModel m
text_is_fine bytes m (forms, r, s) = whole_is_fine (place 0 (length bytes + 1)) forms m s

fine_parts : (word : ℕ) (bytes : List ℕ) (m : Model) → read_model word bytes ≡ Ok m → IsModel m
fine_parts word bytes m h = let p = read_parts word bytes m h in text_is_fine bytes m p.0

pub answered_spellable : (word : ℕ) (bytes : List ℕ) (r : Result Model Fail) → Answers r (read_model word bytes)
    → IfOk r (λ m. Spellable m)
answered_spellable word bytes (Ok m) h = (fine_parts word bytes m h).0
answered_spellable word bytes (Err e) h = tt

pub answered_formed : (word : ℕ) (bytes : List ℕ) (r : Result Model Fail) → Answers r (read_model word bytes)
    → IfOk r (λ m. model_formed m ≡ true)
answered_formed word bytes (Ok m) h = (fine_parts word bytes m h).1
answered_formed word bytes (Err e) h = tt
