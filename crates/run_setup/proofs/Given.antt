-- Words that give arguments, one after another, and the first that does not.
use Rattle.std.proofs.Common.{◌≡◌, ℕ, zero, suc, ◌+◌, ◌-◌, ◌<◌, true, nat_eq, List, [], ◌∷◌, ◌++◌, length, take, drop, map}
use Rattle.std.proofs.Common.{get_or, Option, Some, None, Result, Ok, Err, slice_get, refl, sym, ap, subst, ◌∙◌, add-one}
use Rattle.std.proofs.Common.{zero-add, length-drop, inr, arith}
use Rattle.std.proofs.lemmas.Bool.Decides.{nat_tests}
use Rattle.std.proofs.Math.Seq.{take-suc, take-length}
use Rattle.std.proofs.lemmas.List.{drop-map, length-map}
use Rattle.std.proofs.lemmas.Option.{slice_get-get_or, slice_get-map, slice_get_within, slice_get_past, get_or_from_slice_get}
use Rattle.rup_base.specs.declared.arg.Kind.{Kind}
use Rattle.rup_base.specs.declared.arg.Arg.{Arg}
use Rattle.run_setup.specs.declared.arguments.Source.{Source}
use Rattle.run_setup.specs.declared.reading.ArgsFail.{ArgsFail}
use Rattle.run_setup.specs.declared.reading.ArgsFail.TheVariants.{Refused, ReadFault, NoMemory}
use Rattle.run_setup.specs.Reading.{Files, Gives, AllGive, ReadsFrom, ReadsEach, ReadsAll, HasCause, only, name_from}

-- an element of a list is one of its image
pub in_map : {A B : Type 0} (f : A → B) (xs : List A) (k : ℕ) (x : A) → k < length xs → x ≡ get_or xs k x
    → slice_get (map f xs) k ≡ Some (f x)
in_map f xs k x within is =
    slice_get-map f xs k ∙ ap (λ o. elim o [ Some y ↦ Some (f y) | None ↦ None ])
    (slice_get-get_or xs k x within ∙ ap (λ y. Some y) (sym is))

take_more : {A : Type 0} (xs : List A) (k : ℕ) (x : A) → slice_get xs k ≡ Some x → take (k + 1) xs ≡ take k xs ++ x ∷ []
take_more xs k x e =
    rw add-one (take-suc xs k x (slice_get_within xs k x e) ∙ ap (λ y. take k xs ++ y ∷ []) (get_or_from_slice_get xs k x x e))

all_more : (held : Files) (kinds : List Kind) (texts : List (List ℕ)) (args : List Arg) (kind : Kind) (text : List ℕ) (a : Arg)
    → AllGive held kinds texts args → Gives held kind text a
    → AllGive held (kinds ++ kind ∷ []) (texts ++ text ∷ []) (args ++ a ∷ [])
all_more held [] [] [] kind text a all gives = (gives, tt)
all_more held (k ∷ kinds) (t ∷ texts) (b ∷ args) kind text a all gives =
    (all.0, all_more held kinds texts args kind text a all.1 gives)
all_more held [] [] (b ∷ args) kind text a all gives = absurd all
all_more held [] (t ∷ texts) args kind text a all gives = absurd all
all_more held (k ∷ kinds) [] args kind text a all gives = absurd all
all_more held (k ∷ kinds) (t ∷ texts) [] kind text a all gives = absurd all

-- one more word gives one more argument
pub given_more : (held now : Files) (kinds : List Kind) (texts : List (List ℕ)) (args new : List Arg) (k : ℕ) (kind : Kind)
    (text : List ℕ) (a : Arg)
    → AllGive held (take k kinds) (take k texts) args → slice_get kinds k ≡ Some kind → slice_get texts k ≡ Some text → now ≡ held
    → Gives now kind text a
    → new ≡ args ++ a ∷ [] → AllGive held (take (k + 1) kinds) (take (k + 1) texts) new
given_more held now kinds texts args new k kind text a all kind_is text_is same gives put =
    rw (take_more kinds k kind kind_is, take_more texts k text text_is, put)
    (all_more held (take k kinds) (take k texts) args kind text a all (subst (λ (h : Files). Gives h kind text a) same gives))

only_is : (place : ℕ) (text : List ℕ) → only place text place ≡ Some text
only_is place text = let same : nat_eq place place ≡ true = grind (arith, nat_tests) in rw same refl

-- the cause of a fault at word k is one among all words
pub cause_at : (held : Files) (first k place : ℕ) (kind : Kind) (text : List ℕ) (texts : List (List ℕ)) (source : Source)
    (before start now : ℕ) (last last_start last_now : Option (List ℕ)) (fault : ArgsFail)
    → ReadsFrom held place k kind text source (Err fault)
    → HasCause {A = Arg} before now last last_now (only place text) (Err fault)
    → place ≡ first + k → slice_get texts k ≡ Some text → before ≡ start → last ≡ last_start
    → HasCause {A = List Arg} start now last_start last_now (name_from first texts) (Err fault)
cause_at held first k place kind text texts source before start now last last_start last_now (Refused refusal) reads cause here is
    same kept =
    (cause.0 ∙ same, cause.1 ∙ kept)
cause_at held first k place kind text texts source before start now last last_start last_now NoMemory reads cause here is same
    kept =
    (cause.0 ∙ same, cause.1 ∙ kept)
cause_at held first k place kind text texts source before start now last last_start last_now (ReadFault at) reads cause here is
    same kept =
    let number : at - first ≡ k = omega (arith, reads.0, here) in
    let name : only place text at ≡ Some text = ap (only place text) reads.0 ∙ only_is place text in (
      rw (← same) cause.0,
      rw (← same) cause.1,
      cause.2 ∙ name ∙ sym is ∙ ap (slice_get texts) (sym number),
    )

-- where there are as many words as parameters, the answer for each is the answer for all
pub all_from_each : (held : Files) (first : ℕ) (kinds : List Kind) (texts : List (List ℕ)) (result : Result (List Arg) ArgsFail)
    → length texts ≡ length kinds → ReadsEach held first kinds texts result → ReadsAll held first kinds texts result
all_from_each held first kinds texts (Ok args) count reads = reads
all_from_each held first kinds texts (Err (Refused refusal)) count reads = inr (count, reads)
all_from_each held first kinds texts (Err (ReadFault at)) count reads = (count, reads)
all_from_each held first kinds texts (Err NoMemory) count reads = tt

-- the texts from the first place on
pub texts_from : {A B : Type 0} (f : A → B) (words : List A) (first : ℕ) → map f (take (length words - first) (drop first words))
    ≡ drop first (map f words)
texts_from f words first =
    let size : length words - first ≡ length (drop first words) = sym (length-drop first words) in
    rw (size, take-length (drop first words)) (sym (drop-map f first words))

pub count_from : {A B : Type 0} (f : A → B) (words : List A) (first : ℕ)
    → length (drop first (map f words)) ≡ length words - first
count_from f words first = omega (arith, length-drop first (map f words), length-map words f)

drop_at : {A : Type 0} (first k : ℕ) (xs : List A) → slice_get (drop first xs) k ≡ slice_get xs (first + k)
drop_at zero k xs = ap (slice_get xs) (sym (zero-add k))
drop_at (suc n) k [] = slice_get_past [] k (omega arith) ∙ sym (slice_get_past [] (suc n + k) (omega arith))
drop_at (suc n) k (x ∷ xs) = let next : suc n + k ≡ suc (n + k) = omega arith in rw next (drop_at n k xs)

-- the cause among the words from the first place on is one among all words
pub cause_among : (held : Files) (first before now : ℕ) (kinds : List Kind) (last last_now : Option (List ℕ))
    (texts : List (List ℕ)) (result : Result (List Arg) ArgsFail)
    → ReadsEach held first kinds (drop first texts) result
    → HasCause before now last last_now (name_from first (drop first texts)) result
    → HasCause before now last last_now (slice_get texts) result
cause_among held first before now kinds last last_now texts (Ok args) reads cause = cause
cause_among held first before now kinds last last_now texts (Err (Refused refusal)) reads cause = cause
cause_among held first before now kinds last last_now texts (Err NoMemory) reads cause = cause
cause_among held first before now kinds last last_now texts (Err (ReadFault at)) reads cause =
    let place : first + (at - first) ≡ at = omega (arith, reads.1.here.0) in
    (cause.0, cause.1, cause.2 ∙ drop_at first (at - first) texts ∙ ap (slice_get texts) place)
