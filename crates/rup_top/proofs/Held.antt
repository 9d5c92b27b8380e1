-- Where files are told, a script has one file of a name, and words give one list of arguments.
use Rattle.std.proofs.Common.{◌≡◌, ℕ, zero, suc, ◌≤◌, List, [], ◌∷◌, length, Option, Some, None, Ok, Err, inl, inr, refl, sym}
use Rattle.std.proofs.Common.{subst, ap, ◌∙◌, arith, slice_get}
use Rattle.rup_base.specs.declared.arg.Arg.{Arg}
use Rattle.rup_base.specs.declared.arg.Kind.{Kind}
use Rattle.rup_base.specs.declared.refusal.Refusal.{Refusal}
use Rattle.rup_io.specs.Files.{file_of}
use Rattle.run_setup.specs.declared.arguments.Source.{Source}
use Rattle.run_setup.specs.declared.arguments.Source.TheVariants.{ByItself, ByFile}
use Rattle.run_setup.specs.declared.reading.ArgsFail.TheVariants.{Refused}
use Rattle.run_setup.specs.Arguments.{source_of, array_of}
use Rattle.run_setup.specs.Reading.{GivesFrom, Gives, RefusesFrom, ReadsOne, ReadsAll, AllGive}
use Rattle.rup_top.specs.declared.answer.Answer.{Answer}
use Rattle.rup_top.specs.Frame.{Script, asks, takes, Comes}

same_some : {A : Type 0} (a b : A) → ◌≡◌ {A = Option A} (Some a) (Some b) → a ≡ b
same_some a b e = cc

same_file : (files : List (List ℕ × List ℕ)) (name a b : List ℕ) → file_of files name ≡ Some a → file_of files name ≡ Some b
    → a ≡ b
same_file files name a b p q = same_some a b (sym p ∙ q)

-- a script that asks for a file within its limit goes on with its bytes
pub comes_behind : (files : List (List ℕ × List ℕ)) (place : ℕ) (name : List ℕ) (limit : ℕ) (next : List ℕ → Script) (a : Answer)
    (bytes : List ℕ) → file_of files name ≡ Some bytes → length bytes ≤ limit
    → Comes (Some files) (asks place name limit next) a → Comes (Some files) (next bytes) a
comes_behind files place name limit next a bytes held fits (other, holds, inl (small, comes)) =
    let P : List ℕ → Type 0 = λ b. Comes (Some files) (next b) a in
    subst P (same_file files name other bytes holds held) comes
comes_behind files place name limit next a bytes held fits (other, holds, inr (long, is)) =
    let sizes : length other ≡ length bytes = ap length (same_file files name other bytes holds held) in
    absurd (omega (arith, sizes, long, fits))

some_is_not_none : {A : Type 0} (found : Option A) (a : A) → found ≡ Some a → found ≡ None → ⊥
some_is_not_none found a some none = let bad : ◌≡◌ {A = ℕ} 0 1 = cc in omega (arith, bad)

-- Where files are told, words that give arguments give no others, and are not refused.
module _ (files : List (List ℕ × List ℕ)) where
  gives_one : (kind : Kind) (text : List ℕ) (source : Source) (a b : Arg) → GivesFrom (Some files) kind text source a
      → GivesFrom (Some files) kind text source b → a ≡ b
  gives_one kind text (ByItself given) a b p q = same_some a b (sym p ∙ q)
  gives_one kind text ByFile a b (bytes, holds, fits, is) (other, held, small, are) =
      let same : bytes ≡ other = same_file files text bytes other holds held in
      same_some a b (sym is ∙ ap (array_of kind) same ∙ are)

  all_give_one : (kinds : List Kind) (texts : List (List ℕ)) (args others : List Arg) → AllGive (Some files) kinds texts args
      → AllGive (Some files) kinds texts others → args ≡ others
  all_give_one [] [] [] [] p q = refl
  all_give_one [] [] [] (b ∷ others) p q = absurd q
  all_give_one [] [] (a ∷ args) others p q = absurd p
  all_give_one [] (text ∷ texts) args others p q = absurd p
  all_give_one (kind ∷ kinds) [] args others p q = absurd p
  all_give_one (kind ∷ kinds) (text ∷ texts) [] others p q = absurd p
  all_give_one (kind ∷ kinds) (text ∷ texts) (a ∷ args) [] p q = absurd q
  all_give_one (kind ∷ kinds) (text ∷ texts) (a ∷ args) (b ∷ others) p q =
      ap (λ (x : Arg). x ∷ args) (gives_one kind text (source_of kind text) a b p.0 q.0)
      ∙ ap (λ (xs : List Arg). b ∷ xs) (all_give_one kinds texts args others p.1 q.1)

  as_many : (kinds : List Kind) (texts : List (List ℕ)) (args : List Arg) → AllGive (Some files) kinds texts args
      → length texts ≡ length kinds
  as_many [] [] [] p = refl
  as_many [] [] (a ∷ args) p = absurd p
  as_many [] (text ∷ texts) args p = absurd p
  as_many (kind ∷ kinds) [] args p = absurd p
  as_many (kind ∷ kinds) (text ∷ texts) [] p = absurd p
  as_many (kind ∷ kinds) (text ∷ texts) (a ∷ args) p = ap suc (as_many kinds texts args p.1)

  word_gives : (kinds : List Kind) (texts : List (List ℕ)) (args : List Arg) (k : ℕ) (kind : Kind) (text : List ℕ)
      → AllGive (Some files) kinds texts args
      → slice_get kinds k ≡ Some kind → slice_get texts k ≡ Some text → (a : Arg) × Gives (Some files) kind text a
  word_gives [] [] [] k kind text p here there = absurd (some_is_not_none _ kind here refl)
  word_gives [] [] (a ∷ args) k kind text p here there = absurd p
  word_gives [] (t ∷ texts) args k kind text p here there = absurd p
  word_gives (c ∷ kinds) [] args k kind text p here there = absurd p
  word_gives (c ∷ kinds) (t ∷ texts) [] k kind text p here there = absurd p
  word_gives (c ∷ kinds) (t ∷ texts) (a ∷ args) zero kind text p here there =
      let P : Kind → Type 0 = λ x. Gives (Some files) x text a in
      let Q : List ℕ → Type 0 = λ x. Gives (Some files) c x a in
      (a, subst P (same_some c kind here) (subst Q (same_some t text there) p.0))
  word_gives (c ∷ kinds) (t ∷ texts) (a ∷ args) (suc k) kind text p here there =
      word_gives kinds texts args k kind text p.1 here there

  not_refused : (place k : ℕ) (kind : Kind) (text : List ℕ) (source : Source) (a : Arg) (r : Refusal)
      → GivesFrom (Some files) kind text source a
      → RefusesFrom (Some files) place k kind text source r → ⊥
  not_refused place k kind text (ByItself given) a r p q = some_is_not_none given a p q.0
  not_refused place k kind text ByFile a r (bytes, holds, fits, is) (inl ((other, held, small, are), which)) =
      let same : bytes ≡ other = same_file files text bytes other holds held in
      some_is_not_none (array_of kind bytes) a is (ap (array_of kind) same ∙ are)
  not_refused place k kind text ByFile a r (bytes, holds, fits, is) (inr ((other, held, long), which)) =
      let sizes : length bytes ≡ length other = ap length (same_file files text bytes other holds held) in
      omega (arith, sizes, fits, long)

  none_refused : (kinds : List Kind) (texts : List (List ℕ)) (args : List Arg) (place k : ℕ) (kind : Kind) (text : List ℕ)
      (r : Refusal) → AllGive (Some files) kinds texts args
      → slice_get kinds k ≡ Some kind → slice_get texts k ≡ Some text → ReadsOne (Some files) place k kind text (Err (Refused r))
      → ⊥
  none_refused kinds texts args place k kind text r p here there refuses =
      let given = word_gives kinds texts args k kind text p here there in
      not_refused place k kind text (source_of kind text) given.0 r given.1 refuses

  -- a script that takes the words comes to the verdict on their arguments
  pub comes_allowed : (first : ℕ) (kinds : List Kind) (texts : List (List ℕ)) (args : List Arg)
      (verdict : List Arg → Answer → Type 0) (a : Answer)
      → ReadsAll (Some files) first kinds texts (Ok args) → Comes (Some files) (takes first kinds texts verdict) a
      → verdict args a
  comes_allowed first kinds texts args verdict a taken (inl (found, reads, allows)) =
      let P : List Arg → Type 0 = λ xs. verdict xs a in
      subst P (all_give_one kinds texts found args reads taken) allows
  comes_allowed first kinds texts args verdict a taken (inr (r, inl miscounted, is)) =
      absurd (miscounted.0 (as_many kinds texts args taken))
  comes_allowed first kinds texts args verdict a taken (inr (r, inr (count, (k, came)), is)) =
      absurd (none_refused kinds texts args _ k came.kind came.text r taken came.kind_is came.text_is came.here)
