-- Parts that are put behind one another are the whole.
use Rattle.std.proofs.Common.{◌≡◌, ℕ, zero, suc, ℤ, ◌+◌, ◌-◌, ◌≤◌, add-one, Some, sym, slice_get, List, [], ◌∷◌, ◌++◌, length}
use Rattle.std.proofs.Common.{take, drop, get_or, replicate, Result, Ok, Err, refl, ap, ◌∙◌, append_assoc, arith}
use Rattle.std.specs.Prelude.{OnOk}
use Rattle.std.specs.List.{flat_map}
use Rattle.std.specs.Int.{next_multiple_of}
use Rattle.std.proofs.Math.Seq.{take-length}
use Rattle.std.proofs.lemmas.List.{take-replicate, flat_map_more}
use Rattle.rup_base.specs.declared.no_memory.NoMemory.{NoMemory}
use Rattle.side_certs.specs.LinearForm.{LinearForm}
use Rattle.cost_poly.specs.declared.term.Term.{Term}
use Rattle.image_layout.specs.declared.image.Image.{Image}
use Rattle.image_layout.specs.Spelling as spec

rest_is : {A : Type 0} (x : A) (xs : List A) → take (length (x ∷ xs) - 1) (drop 1 (x ∷ xs)) ≡ xs
rest_is x xs = let size : length (x ∷ xs) - 1 ≡ length xs = omega arith in rw size (take-length xs)

-- one more part is put, and the others are left
pub taken : {A : Type 0} (g : A → List ℕ) (old out : List ℕ) (left : List A) (d e : A) (whole : List ℕ) → 1 ≤ length left
    → d ≡ get_or left 0 e → out ≡ old ++ g d
    → old ++ flat_map g left ≡ whole → out ++ flat_map g (take (length left - 1) (drop 1 left)) ≡ whole
taken g old out [] d e whole some is put so_far = absurd (omega arith)
taken g old out (x ∷ xs) d e whole some is put so_far =
    rw (rest_is x xs, put, is) (append_assoc old (g x) (flat_map g xs) ∙ so_far)

pub requirement_parts : (old a b new : List ℕ) (f : LinearForm) (r : Result (Unit {0}) NoMemory) → a ≡ old ++ spec.long f.constant
    → b ≡ a ++ spec.number (length f.terms)
    → OnOk r (new ≡ b ++ flat_map spec.form_term f.terms) → OnOk r (new ≡ old ++ spec.requirement f)
requirement_parts old a b new f (Ok u) a_is b_is new_is =
    new_is ∙ ap (λ (x : List ℕ). x ++ flat_map spec.form_term f.terms)
    (b_is ∙ ap (λ (x : List ℕ). x ++ spec.number (length f.terms)) a_is)
    ∙ append_assoc (old ++ spec.long f.constant) (spec.number (length f.terms)) (flat_map spec.form_term f.terms)
    ∙ append_assoc old (spec.long f.constant) (spec.number (length f.terms) ++ flat_map spec.form_term f.terms)
requirement_parts old a b new f (Err e) a_is b_is new_is = tt

grouped : (a b c d e f : List ℕ) → ((((a ++ b) ++ c) ++ d) ++ e) ++ f ≡ (a ++ b) ++ (c ++ (d ++ (e ++ f)))
grouped a b c d e f = simp append_assoc

pub spelled : (i : Image) (lists numbered listed filled coded out numbers : List ℕ) (header offset : ℕ) → lists ≡ spec.lists i
    → header ≡ 48 + length lists → offset ≡ next_multiple_of header 16
    → offset - header ≤ 16 → numbered ≡ (82 ∷ 85 ∷ 80 ∷ 49 ∷ []) ++ flat_map spec.number numbers → numbers ≡ spec.fixed_numbers i
    → listed ≡ numbered ++ lists
    → filled ≡ listed ++ take (offset - header) (replicate 16 0) → coded ≡ filled ++ i.code → out ≡ coded ++ i.tables
    → out ≡ spec.spelling i
spelled i lists numbered listed filled coded out numbers header offset lists_are header_is offset_is short numbered_is numbers_are
    listed_is filled_is coded_is out_is =
    let header_now : header ≡ spec.header_length i = header_is ∙ ap (λ (x : List ℕ). 48 + length x) lists_are in
    let offset_now : offset ≡ spec.code_offset i = offset_is ∙ ap (λ (n : ℕ). next_multiple_of n 16) header_now in
    let zeros : take (offset - header) (replicate 16 0) ≡ replicate (spec.code_offset i - spec.header_length i) 0 =
    take-replicate (offset - header) 16 0 short ∙ ap (λ (n : ℕ). replicate (n - header) 0) offset_now
    ∙ ap (λ (n : ℕ). replicate (spec.code_offset i - n) 0) header_now in
    out_is
    ∙ ap (λ (x : List ℕ). x ++ i.tables) (coded_is
    ∙ ap (λ (x : List ℕ). x ++ i.code) (filled_is
    ∙ ap (λ (x : List ℕ). listed ++ x) zeros
    ∙ ap (λ (x : List ℕ). x ++ replicate (spec.code_offset i - spec.header_length i) 0) (listed_is
    ∙ ap (λ (x : List ℕ). numbered ++ x) lists_are
    ∙ ap (λ (x : List ℕ). x ++ spec.lists i)
    (numbered_is ∙ ap (λ (x : List ℕ). (82 ∷ 85 ∷ 80 ∷ 49 ∷ []) ++ flat_map spec.number x) numbers_are))))
    ∙ grouped (82 ∷ 85 ∷ 80 ∷ 49 ∷ []) (flat_map spec.number (spec.fixed_numbers i)) (spec.lists i)
    (replicate (spec.code_offset i - spec.header_length i) 0) i.code i.tables

pub term_parts : (old a new : List ℕ) (t : ℕ × ℤ) (r : Result (Unit {0}) NoMemory) → a ≡ old ++ spec.number t.0
    → OnOk r (new ≡ a ++ spec.long t.1) → OnOk r (new ≡ old ++ spec.form_term t)
term_parts old a new t (Ok u) a_is new_is =
    new_is ∙ ap (λ (x : List ℕ). x ++ spec.long t.1) a_is ∙ append_assoc old (spec.number t.0) (spec.long t.1)
term_parts old a new t (Err e) a_is new_is = tt

pub numbers_are : (i : Image) (offset : ℕ) (code tables : List ℕ) (params requires_ rets : ℕ) (bound : List Term)
    → offset ≡ spec.code_offset i → code ≡ i.code → tables ≡ i.tables
    → params ≡ length i.params → requires_ ≡ length i.requires_ → rets ≡ length i.rets → bound ≡ i.bound
    → i.version ∷ (offset + length code + length tables) ∷ offset ∷ length code ∷ length tables ∷ i.entry ∷ i.stack ∷ params
    ∷ requires_ ∷ rets ∷ length bound ∷ [] ≡ spec.fixed_numbers i
numbers_are i offset code tables params requires_ rets bound a b c d e f g = rw (a, b, c, d, e, f, g) refl

take_next : {A : Type 0} (xs : List A) (k : ℕ) (x : A) → slice_get xs k ≡ Some x → take (suc k) xs ≡ take k xs ++ x ∷ []
take_next [] k x e = absurd (cc)
take_next (y ∷ ys) zero x e = let same : y ≡ x = cc in rw same refl
take_next (y ∷ ys) (suc k) x e = ap (λ (zs : List _). y ∷ zs) (take_next ys k x e)

-- one more term is put behind those before it
pub put_next : (ts : List (ℕ × ℤ)) (k : ℕ) (t : ℕ × ℤ) (old out new : List ℕ) → slice_get ts k ≡ Some t
    → out ≡ old ++ flat_map spec.form_term (take k ts) → new ≡ out ++ spec.form_term t
    → new ≡ old ++ flat_map spec.form_term (take (k + 1) ts)
put_next ts k t old out new is so_far put =
    put ∙ ap (λ (x : List ℕ). x ++ spec.form_term t) so_far ∙ flat_map_more spec.form_term old (take k ts) t
    ∙ ap (λ (x : List (ℕ × ℤ)). old ++ flat_map spec.form_term x) (rw add-one (sym (take_next ts k t is)))
