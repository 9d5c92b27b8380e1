-- Forms that are tried, and a form as arguments, one step further.
use Rattle.std.proofs.Common.{◌≡◌, sym, ◌∙◌, ap, arith, ℕ, zero, suc, ◌+◌, ℤ, pos, List, [], ◌∷◌, ◌++◌, drop, Some, None}
use Rattle.std.proofs.Common.{slice_get, append_assoc}
use Rattle.side_certs.specs.LinearForm.{LinearForm, symbol}
use Rattle.derive_search.specs.Trips.{terms_as_args, entry_symbols}

drop_at : {A : Type 0} (xs : List A) (k : ℕ) (x : A) → slice_get xs k ≡ Some x → drop k xs ≡ x ∷ drop (k + 1) xs
drop_at [] k x at = absurd (let bad : None ≡ Some x = at in cc)
drop_at (y ∷ ys) zero x at = let is : y ≡ x = cc in ap (λ z. z ∷ ys) is
drop_at (y ∷ ys) (suc k) x at =
    drop_at ys k x at ∙ ap (λ n. x ∷ drop n (y ∷ ys)) (let next : suc (k + 1) ≡ suc k + 1 = omega arith in next)

-- a term's symbol and coefficient are put behind the arguments
pub args_on : (args : List ℤ) (ts : List (ℕ × ℤ)) (k : ℕ) (t : ℕ × ℤ) → slice_get ts k ≡ Some t
    → ((args ++ pos t.0 ∷ []) ++ t.1 ∷ []) ++ terms_as_args (drop (k + 1) ts) ≡ args ++ terms_as_args (drop k ts)
args_on args ts k t at =
    append_assoc (args ++ pos t.0 ∷ []) (t.1 ∷ []) (terms_as_args (drop (k + 1) ts))
    ∙ append_assoc args (pos t.0 ∷ []) (t.1 ∷ terms_as_args (drop (k + 1) ts))
    ∙ ap (λ (l : List (ℕ × ℤ)). args ++ terms_as_args l) (sym (drop_at ts k t at))

-- one symbol more
pub symbols_on : (forms : List LinearForm) (n : ℕ) → (forms ++ entry_symbols n) ++ symbol n ∷ [] ≡ forms ++ entry_symbols (n + 1)
symbols_on forms n =
    append_assoc forms (entry_symbols n) (symbol n ∷ [])
    ∙ ap (λ (k : ℕ). forms ++ entry_symbols k) (let next : suc n ≡ n + 1 = omega arith in next)
