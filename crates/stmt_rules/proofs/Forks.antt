-- The two sides of a conditional's node: their sizes, and where the second one stops; and statements whose kept facts are narrow.
use Rattle.std.proofs.Common.{◌≡◌, refl, sym, ◌∙◌, ap, subst, arith, ℕ, ◌+◌, ◌-◌, ◌<◌, ◌≤◌, true, false, List, [], ◌∷◌, length}
use Rattle.std.proofs.Common.{take, drop, map, slice_index_or, length-drop, OnOk, IsErr, IsErrAnd, Result, Ok, Err}
use Rattle.rup_base.specs.Word.{counted}
use Rattle.rup_base.specs.Answers.{AnswersWith}
use Rattle.rup_base.specs.declared.fail.Fail.{Fail}
use Rattle.rup_base.specs.declared.fail.Fail.TheVariants.{Refused, NoMemory}
use Rattle.side_certs.specs.LinearForm.{LinearForm}
use Rattle.side_certs.specs.declared.certificate.Cert.{Cert}
use Rattle.side_certs.proofs.laws.Combinations.{split_first}
use Rattle.model_syntax.specs.Names.{Name}
use Rattle.model_syntax.specs.declared.stmt.Le.{Le}
use Rattle.model_syntax.specs.declared.stmt.Stmt.{Stmt}
use Rattle.sym_heap.specs.Context.{Context}
use Rattle.sym_heap.proofs.laws.Moves.{take_all}
use Rattle.equations.specs.Book.{Turn}
use Rattle.deriv_tree.specs.declared.tree.Block.{Block}
use Rattle.expr_rules.specs.declared.output.ExprOut.{ExprOut}
use Rattle.expr_rules.specs.Words.{Rule}
use Rattle.stmt_rules.specs.declared.output.StmtOut.{StmtOut}
use Rattle.stmt_rules.specs.Narrow.{narrow, are_narrow}
use Rattle.stmt_rules.specs.Row.{block_judged, block_sizes}
use Rattle.stmt_rules.specs.rules.If.{Side, side, after}
use Rattle.stmt_rules.proofs.Sequence.{and_parts}

pair_is : {A : Type 0} (xs : List A) (a b : A) → 2 ≤ length xs → length xs < 3 → a ≡ slice_index_or xs 0 a
    → b ≡ slice_index_or xs 1 b → xs ≡ a ∷ b ∷ []
pair_is [] a b least most one two = absurd (omega (arith, least))
pair_is (x ∷ []) a b least most one two = absurd (omega (arith, least))
pair_is (x ∷ y ∷ []) a b least most one two =
    let first : a ≡ x = one in
    let second : b ≡ y = two in
    rw (first, second) refl
pair_is (x ∷ y ∷ z ∷ zs) a b least most one two = absurd (omega (arith, most))

-- the nodes of two blocks
pub two_sizes : (turn : Turn) (blocks : List Block) (one two : Block) → 2 ≤ length blocks → length blocks < 3
    → one ≡ slice_index_or blocks 0 one → two ≡ slice_index_or blocks 1 two
    → block_sizes (map (block_judged turn) blocks) ≡ (block_judged turn one).size + (block_judged turn two).size
two_sizes turn blocks one two least most is_one is_two =
    let sizes : block_sizes (block_judged turn one ∷ block_judged turn two ∷ [])
    ≡ (block_judged turn one).size + (block_judged turn two).size = omega arith in
    ap (λ (bs : List Block). block_sizes (map (block_judged turn) bs)) (pair_is blocks one two least most is_one is_two) ∙ sizes

pub sides_counted : (result : Result StmtOut Fail) (after_ mid next kids blocks one two : ℕ)
    → OnOk result (after_ ≡ mid + one + two) → mid ≡ next + kids → blocks ≡ one + two
    → OnOk result (after_ ≡ next + kids + blocks)
sides_counted (Ok out) after_ mid next kids blocks one two is counted total = omega (arith, is, counted, total)
sides_counted (Err f) after_ mid next kids blocks one two is counted total = tt

-- what is left of a list after its first elements
pub left_is : {A : Type 0} (n : ℕ) (xs : List A) → take (length xs - n) (drop n xs) ≡ drop n xs
left_is n xs = ap (λ k. take k (drop n xs)) (sym (length-drop n xs)) ∙ take_all (drop n xs)

-- the second side stops
pub second_stops : (at : ℕ) (names : List Name) (keep : List Le) (certs cs : List Cert) (p : ExprOut) (first : Rule StmtOut)
    (second : ℕ → Rule StmtOut) (place n m : ℕ) (facts : List LinearForm)
    (c d e other : Context) (one : Side) (stopped : Result Side Fail) (result : Result StmtOut Fail)
    → AnswersWith (Ok one) d (side at names keep 0 certs p.yes first c)
    → place ≡ counted (length keep) → cs ≡ drop (length keep) certs → facts ≡ p.no → n ≡ m
    → AnswersWith stopped e (side at names keep place cs facts (second n) d) → IsErr result
    → IsErrAnd result (λ f. stopped ≡ Err f)
    → AnswersWith result other (after at names keep certs p first (second m) c)
second_stops at names keep certs cs p first second place n m facts c d e other one stopped (Ok out) is at_place left never next
    stop failed same = absurd (let bad : false ≡ true = failed in cc)
second_stops at names keep certs cs p first second place n m facts c d e other one stopped (Err f) is at_place left never next
    stop failed same =
    by f (subst (λ (r : Result Side Fail). AnswersWith r e (Second d)) same told)
  where
    Second : Rule Side
    Second = side at names keep (counted (length keep)) (drop (length keep) certs) p.no (second m)

    told : AnswersWith stopped e (Second d)
    told = subst (λ (i : ℕ). AnswersWith stopped e (side at names keep i (drop (length keep) certs) p.no (second m) d)) at_place
        (subst (λ (ks : List Cert). AnswersWith stopped e (side at names keep place ks p.no (second m) d)) left
        (subst (λ (fs : List LinearForm). AnswersWith stopped e (side at names keep place cs fs (second m) d)) never
        (subst (λ (i : ℕ). AnswersWith stopped e (side at names keep place cs facts (second i) d)) next stop)))

    by : (g : Fail) → AnswersWith {T = Side} (Err g) e (Second d)
        → AnswersWith {T = StmtOut} (Err g) other (after at names keep certs p first (second m) c)
    by (Refused refusal) goes = rw (is, goes) refl
    by NoMemory goes = tt

-- the first statement, and those after it
pub narrow_on : (ts : List Stmt) (t : Stmt) → 1 ≤ length ts → t ≡ slice_index_or ts 0 t → are_narrow ts ≡ true
    → (narrow t ≡ true) × (are_narrow (take (length ts - 1) (drop 1 ts)) ≡ true)
narrow_on ts t many first all =
    and_parts (narrow t) (are_narrow (take (length ts - 1) (drop 1 ts))) (ap are_narrow (sym (split_first ts t many first)) ∙ all)
