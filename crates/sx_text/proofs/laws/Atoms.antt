-- An atom in front of bytes that go on no atom.
use Rattle.std.proofs.Common.{◌≡◌, refl, ap, ℕ, ◌+◌, Bool, true, false, ◌&&◌, List, [], ◌∷◌, ◌++◌, ◌≤◌, length, length-append}
use Rattle.std.proofs.Common.{take, arith}
use Rattle.std.proofs.Math.Seq.{drop-append_seam}
use Rattle.std.specs.List.{list_all}
use Rattle.sx_text.specs.declared.byte_class.Class.{Class}
use Rattle.sx_text.specs.declared.byte_class.Class.TheVariants.{Space, Note, Open, Close, Word, Bad}
use Rattle.sx_text.specs.Bytes.{class, is_word_class, in_atom, word_length}
use Rattle.sx_text.specs.Forms.{rest_of, fault, worded}
use Rattle.sx_text.proofs.Jumps.{rest_of-skipped, fault-skipped}

pub and_parts : (a b : Bool) → a && b ≡ true → (a ≡ true) × (b ≡ true)
and_parts true b h = (refl, h)
and_parts false b h = absurd cc

pub word_class : (k : Class) → is_word_class k ≡ true → k ≡ Word
word_class Space h = absurd cc
word_class Note h = absurd cc
word_class Open h = absurd cc
word_class Close h = absurd cc
word_class Word h = refl
word_class Bad h = absurd cc

pub word_length-append : (t more : List ℕ) → list_all in_atom t ≡ true → word_length more ≡ 0 → word_length (t ++ more) ≡ length t
word_length-append [] more h e = e
word_length-append (b ∷ bs) more h e =
    let p = and_parts (in_atom b) (list_all in_atom bs) h in
    rw (p.0, word_length-append bs more p.1 e) (omega arith)

take-seam : (t more : List ℕ) → take (length t) (t ++ more) ≡ t
take-seam [] more = refl
take-seam (b ∷ bs) more = ap (λ (l : List ℕ). b ∷ l) (take-seam bs more)

module _ (b : ℕ) (bs more : List ℕ) (at : ℕ) (h : in_atom b && list_all in_atom bs ≡ true) (ends : word_length more ≡ 0) where
  pub rest_of-atom : rest_of 0 at ((b ∷ bs) ++ more) ≡ worded at (b ∷ bs) (rest_of 0 (at + length (b ∷ bs)) more)
  unfolding rest_of
  rest_of-atom =
      let p = and_parts (in_atom b) (list_all in_atom bs) h in
      let moved : at + 1 + length bs ≡ at + length (b ∷ bs) = omega arith in
      rw (word_class (class b) p.0, rest_of)
      (rw (
        word_length-append bs more p.1 ends,
        take-seam bs more,
        rest_of-skipped (length bs) (at + 1) (bs ++ more),
        drop-append_seam bs more,
        moved,
      ) refl)

  pub fault-atom : (level : ℕ) → fault 0 level at ((b ∷ bs) ++ more) ≡ fault 0 level (at + length (b ∷ bs)) more
  unfolding fault
  fault-atom level =
      let p = and_parts (in_atom b) (list_all in_atom bs) h in
      let moved : at + 1 + length bs ≡ at + length (b ∷ bs) = omega arith in
      let fits : length bs ≤ length (bs ++ more) = omega (arith, length-append bs more) in
      rw (word_class (class b) p.0, fault)
      (rw (
        word_length-append bs more p.1 ends,
        fault-skipped (length bs) level (at + 1) (bs ++ more) fits,
        drop-append_seam bs
            more,
        moved,
      ) refl)
