-- Parts cut in two have the same bytes at the same addresses.
use Rattle.std.proofs.Common.{◌≡◌, ℕ, suc, ◌+◌, ◌<◌, List, [], ◌∷◌, ◌++◌, length, All, sym, ap, ◌∙◌, subst, arith}
use Rattle.std.proofs.lemmas.List.{append_assoc, append-nil, length-append}
use Rattle.std.proofs.lemmas.List.Elements.{All-cons, All-head, All-tail, All-weaker}
use Rattle.rv_memory.specs.Bytes.{numbered, entries, bytes_of, IsApart, AreDisjoint}
use Rattle.std.specs.FinMap.{from_entries}
use Rattle.rv_memory.specs.Contents.{IsRecut}
use Rattle.rv_memory.proofs.Lookup.{Part}

numbered_cut : (s : ℕ) (a b : List ℕ) → numbered s a ++ numbered (s + length a) b ≡ numbered s (a ++ b)
numbered_cut s [] b = let same : s + 0 ≡ s = omega arith in ap (λ n. numbered n b) same
numbered_cut s (x ∷ a) b =
    let next : s + suc (length a) ≡ s + 1 + length a = omega arith in
    ap (λ ps. (s, x) ∷ ps) (ap (λ n. numbered (s + 1) a ++ numbered n b) next ∙ numbered_cut (s + 1) a b)

entries_cut : (xs ys : List Part) (s : ℕ) (a b : List ℕ) → entries (xs ++ (s, a) ∷ (s + length a, b) ∷ ys)
    ≡ entries (xs ++ (s, a ++ b) ∷ ys)
entries_cut [] ys s a b =
    sym (append_assoc (numbered s a) (numbered (s + length a) b) (entries ys)) ∙ ap (λ ps. ps ++ entries ys) (numbered_cut s a b)
entries_cut (x ∷ xs) ys s a b = ap (λ ps. numbered x.0 x.1 ++ ps) (entries_cut xs ys s a b)

all_cut : (x : Part) (xs ys : List Part) (s : ℕ) (a b : List ℕ) → All (IsApart x) (xs ++ (s, a ++ b) ∷ ys)
    → All (IsApart x) (xs ++ (s, a) ∷ (s + length a, b) ∷ ys)
all_cut x [] ys s a b all =
    let whole : IsApart x (s, a ++ b) = All-head (IsApart x) (s, a ++ b) ys all in
    let long = length-append a b in
    All-cons (IsApart x) (s, a) ((s + length a, b) ∷ ys) (λ q low high low_a high_a. whole q low high low_a (omega (arith, long)))
    (All-cons (IsApart x) (s + length a, b) ys (λ q low high low_b high_b. whole q low high (omega arith) (omega (arith, long)))
    (All-tail (IsApart x) (s, a ++ b) ys all))
all_cut x (z ∷ xs) ys s a b all =
    All-cons (IsApart x) z (xs ++ (s, a) ∷ (s + length a, b) ∷ ys) (All-head (IsApart x) z (xs ++ (s, a ++ b) ∷ ys) all)
    (all_cut x xs ys s a b (All-tail (IsApart x) z (xs ++ (s, a ++ b) ∷ ys) all))

disjoint_cut : (xs ys : List Part) (s : ℕ) (a b : List ℕ) → AreDisjoint (xs ++ (s, a ++ b) ∷ ys)
    → AreDisjoint (xs ++ (s, a) ∷ (s + length a, b) ∷ ys)
disjoint_cut [] ys s a b apart =
    let long = length-append a b in (
      All-cons (IsApart (s, a)) (s + length a, b) ys (λ q low high low_b high_b. omega arith)
          (All-weaker (IsApart (s, a ++ b)) (IsApart (s, a))
          (λ r other q low high low_r high_r. other q low (omega (arith, long)) low_r high_r) ys apart.0),
      (
        All-weaker (IsApart (s, a ++ b)) (IsApart (s + length a, b))
            (λ r other q low high low_r high_r. other q (omega arith) (omega (arith, long)) low_r high_r) ys apart.0,
        apart.1,
      ),
    )
disjoint_cut (x ∷ xs) ys s a b apart = (all_cut x xs ys s a b apart.0, disjoint_cut xs ys s a b apart.1)

pub recut_itself : (rs qs : List Part) → rs ≡ qs → IsRecut rs qs
recut_itself rs qs e = (ap entries (sym e), λ apart. subst AreDisjoint e apart)

pub recut_then : (rs qs ps : List Part) → IsRecut rs qs → IsRecut qs ps → IsRecut rs ps
recut_then rs qs ps first second = (second.0 ∙ first.0, λ apart. second.1 (first.1 apart))

pub recut_two : (xs ys : List Part) (s : ℕ) (a b : List ℕ)
    → IsRecut (xs ++ (s, a ++ b) ∷ ys) (xs ++ (s, a) ∷ (s + length a, b) ∷ ys)
recut_two xs ys s a b = (entries_cut xs ys s a b, disjoint_cut xs ys s a b)

-- a part that stands at the end of a list stands before the rest
pub pushed : (xs zs ys : List Part) (p : Part) → zs ≡ xs ++ p ∷ [] → xs ++ p ∷ ys ≡ zs ++ ys
pushed xs zs ys p e = sym (append_assoc xs (p ∷ []) ys) ∙ ap (λ ps. ps ++ ys) (sym e)

pub recut_bytes : (rs qs left : List Part) → length left < 1 → IsRecut rs (qs ++ left) → bytes_of qs ≡ bytes_of rs
unfolding bytes_of
recut_bytes rs qs [] none h = ap (λ ps. from_entries (entries ps)) (sym (append-nil qs)) ∙ ap from_entries h.0
recut_bytes rs qs (p ∷ left) none h = absurd (omega arith)

pub recut_disjoint : (rs qs left : List Part) → length left < 1 → AreDisjoint rs → IsRecut rs (qs ++ left) → AreDisjoint qs
recut_disjoint rs qs [] none apart h = subst AreDisjoint (append-nil qs) (h.1 apart)
recut_disjoint rs qs (p ∷ left) none apart h = absurd (omega arith)
