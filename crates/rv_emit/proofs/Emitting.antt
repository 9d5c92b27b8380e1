-- Code that grows at its start by parts grows by the whole.
use Rattle.std.proofs.Common.{◌≡◌, ℕ, zero, suc, ◌+◌, ◌-◌, ◌%◌, ◌<◌, ◌≤◌, Bool, true, false, ◌&&◌, sum, drop, drop-cons}
use Rattle.std.proofs.Common.{slice_set, slice_index_or, List, [], ◌∷◌, ◌++◌, length, map, reverse, OnOk, Result, Ok, Err, refl}
use Rattle.std.proofs.Common.{sym, ap, ◌∙◌, subst, arith, length-append, append_assoc, append-nil}
use Rattle.std.proofs.lemmas.List.{length-map, map-append, reverse-append}
use Rattle.std.proofs.lemmas.Grind.{common_steps}
use Rattle.bed_syntax.specs.declared.weights.TheConstants as weights
use Rattle.flat_lang.specs.Count.{stmt_weight, code_weight}
use Rattle.flat_lang.specs.Whole.{is_whole, all_whole}
use Rattle.flat_lang.specs.declared.flat.FStmt.{FStmt, fold-roll-FStmt}
use Rattle.flat_lang.specs.declared.flat.FStmt as tree
use Rattle.flat_lang.specs.declared.flat.FStmt.TheOpen as o
use Rattle.flat_lang.specs.declared.flat.FStmt.TheVariants as v
use Rattle.rup_base.specs.Gather.{all_true}
use Rattle.reg_alloc.specs.declared.plan.At.{At}
use Rattle.rv_code.specs.Field.{reg, imm12}
use Rattle.rv_code.specs.declared.instruction.Instr.{Instr}
use Rattle.rv_code.specs.declared.instruction.Instr.TheVariants.{Addi}
use Rattle.rv_code.specs.Word.{word_of}
use Rattle.rv_emit.specs.Code.{Code, from_slot, register_of, over, jump, jump_back, if_code, while_code, stmt_code_step}
use Rattle.rv_emit.specs.Code.{stmt_code, block_code}
use Rattle.rv_emit.specs.Emission.{backwards, Puts}

pub on_ok : {T : Type 0} {E : Type 0} (r : Result T E) (A B : Type 0) → (A → B) → OnOk r A → OnOk r B
on_ok (Ok x) A B f h = f h
on_ok (Err e) A B f h = h

pub length-backwards : (is : List Instr) → length (backwards is) ≡ length is
length-backwards [] = refl
length-backwards (i ∷ is) =
    let rest = length-backwards is in
    let size = length-append (backwards is) (word_of i ∷ []) in
    omega arith

pub backwards-append : (a b : List Instr) → backwards (a ++ b) ≡ backwards b ++ backwards a
backwards-append [] b = sym (append-nil (backwards b))
backwards-append (i ∷ a) b = ap (λ x. x ++ word_of i ∷ []) (backwards-append a b)
    ∙ append_assoc (backwards b) (backwards a) (word_of i ∷ [])

pub puts_length : (old new more : List Instr) → Puts old new more → length new ≡ length old + length more
puts_length old new more puts =
    let words : length (map word_of new) ≡ length (map word_of old ++ backwards more) = ap length puts in
    let sum = length-append (map word_of old) (backwards more) in
    let a = length-map {A = Instr} {B = ℕ} new word_of in
    let b = length-map {A = Instr} {B = ℕ} old word_of in
    let c = length-backwards more in
    omega arith

-- first the later part, then the earlier one
pub puts_then : (a b c second first : List Instr) → Puts a b second → Puts b c first → Puts a c (first ++ second)
puts_then a b c second first one two =
    two ∙ ap (λ x. x ++ backwards first) one ∙ append_assoc (map word_of a) (backwards second) (backwards first)
    ∙ ap (λ x. map word_of a ++ x) (sym (backwards-append first second))

pub puts_one : (old mid new : List Instr) (i j : Instr) (rest : List Instr) → Puts old mid rest
    → map word_of new ≡ map word_of mid ++ word_of i ∷ [] → word_of i ≡ word_of j → Puts old new (j ∷ rest)
puts_one old mid new i j rest puts put same =
    put ∙ ap (λ w. map word_of mid ++ w ∷ []) same ∙ ap (λ x. x ++ word_of j ∷ []) puts
    ∙ append_assoc (map word_of old) (backwards rest) (word_of j ∷ [])

pub puts_none : (a : List Instr) → Puts a a []
puts_none a = sym (append-nil (map word_of a))

pub map-slice_set : (xs : List Instr) (k : ℕ) (i : Instr)
    → map word_of (slice_set xs k i) ≡ slice_set (map word_of xs) k (word_of i)
map-slice_set [] k i = refl
map-slice_set (x ∷ xs) zero i = refl
map-slice_set (x ∷ xs) (suc k) i = ap (λ ws. word_of x ∷ ws) (map-slice_set xs k i)

set_behind : (old : List ℕ) (x y : ℕ) (rest : List ℕ) → slice_set (old ++ x ∷ rest) (length old) y ≡ old ++ y ∷ rest
set_behind [] x y rest = refl
set_behind (z ∷ old) x y rest = ap (λ ws. z ∷ ws) (set_behind old x y rest)

-- the last of the instructions that were put is replaced
pub puts_last : (old mid new : List Instr) (i j : Instr) (more : List Instr) → Puts old mid (more ++ i ∷ [])
    → map word_of new ≡ slice_set (map word_of mid) (length old) (word_of j) → Puts old new (more ++ j ∷ [])
puts_last old mid new i j more puts is =
    let size = length-map {A = Instr} {B = ℕ} old word_of in
    let whole : map word_of mid ≡ map word_of old ++ word_of i ∷ backwards more =
    puts ∙ ap (λ x. map word_of old ++ x) (backwards-append more (i ∷ [])) in
    is ∙ ap (λ ws. slice_set ws (length old) (word_of j)) whole
    ∙ ap (λ n. slice_set (map word_of old ++ word_of i ∷ backwards more) n (word_of j)) (sym size)
    ∙ set_behind (map word_of old) (word_of i) (word_of j) (backwards more)
    ∙ ap (λ x. map word_of old ++ x) (sym (backwards-append more (j ∷ [])))

-- what is left of a list begins with its next element
pub item_dropped : {A : Type 0} (xs : List A) (i : ℕ) (x : A) → i < length xs → x ≡ slice_index_or xs i x
    → drop i xs ≡ x ∷ drop (i + 1) xs
item_dropped xs i x below is =
    let next : suc i ≡ i + 1 = omega arith in
    drop-cons xs i x below ∙ ap (λ y. y ∷ drop (suc i) xs) (sym is) ∙ ap (λ k. x ∷ drop k xs) next

-- the same of the element before what was done
pub item_before : {A : Type 0} (xs : List A) (k i : ℕ) (x : A) → 0 < k → k ≡ i + 1 → k ≤ length xs → x ≡ slice_index_or xs i x
    → drop i xs ≡ x ∷ drop k xs
item_before xs k i x some next within is = item_dropped xs i x (omega arith) is ∙ ap (λ n. x ∷ drop n xs) (sym next)

pub sum_cons : (x : ℕ) (xs : List ℕ) → sum (x ∷ xs) ≡ x + sum xs
sum_cons x xs = grind (arith, common_steps)

and_first : (a b : Bool) → (a && b) ≡ true → a ≡ true
and_first true b h = refl
and_first false b h = absurd (cc)

and_second : (a b : Bool) → (a && b) ≡ true → b ≡ true
and_second true b h = h
and_second false b h = absurd (cc)

and_both : (a b : Bool) → a ≡ true → b ≡ true → (a && b) ≡ true
and_both true b h g = g
and_both false b h g = absurd (cc)

pub true_dropped : (f : FStmt → Bool) (cs : List FStmt) (i : ℕ) → all_true (map f cs) ≡ true → all_true (map f (drop i cs)) ≡ true
true_dropped f cs zero all = all
true_dropped f [] (suc i) all = all
true_dropped f (c ∷ cs) (suc i) all = true_dropped f cs i (and_second (f c) (all_true (map f cs)) all)

pub sum_dropped : (g : FStmt → ℕ) (cs : List FStmt) (i : ℕ) → sum (map g (drop i cs)) ≤ sum (map g cs)
sum_dropped g cs zero = omega arith
sum_dropped g [] (suc i) = omega arith
sum_dropped g (c ∷ cs) (suc i) =
    let rest = sum_dropped g cs i in
    let whole = sum_cons (g c) (map g cs) in
    omega arith

-- of a statement that comes before what is left
pub first_true : (f : FStmt → Bool) (cs : List FStmt) (i : ℕ) (c : FStmt) (rest : List FStmt) → drop i cs ≡ c ∷ rest
    → all_true (map f cs) ≡ true → f c ≡ true
first_true f cs i c rest is all =
    and_first (f c) (all_true (map f rest)) (ap (λ ds. all_true (map f ds)) (sym is) ∙ true_dropped f cs i all)

pub first_sum : (g : FStmt → ℕ) (cs : List FStmt) (i : ℕ) (c : FStmt) (rest : List FStmt) → drop i cs ≡ c ∷ rest
    → sum (map g (drop i cs)) ≡ g c + sum (map g rest)
first_sum g cs i c rest is = ap (λ ds. sum (map g ds)) is ∙ sum_cons (g c) (map g rest)

pub more_true : (f : FStmt → Bool) (cs : List FStmt) (i : ℕ) (c : FStmt) (rest : List FStmt) → drop i cs ≡ c ∷ rest → f c ≡ true
    → all_true (map f rest) ≡ true → all_true (map f (drop i cs)) ≡ true
more_true f cs i c rest is first all = ap (λ ds. all_true (map f ds)) is ∙ and_both (f c) (all_true (map f rest)) first all

-- what the statement before those that are there may rely on
pub item_whole : (vars tables k : ℕ) (cs : List FStmt) (c : FStmt) → all_whole vars tables cs ≡ true
    → c ≡ slice_index_or cs (k - 1) c → 0 < k → k ≤ length cs → is_whole vars tables c ≡ true
item_whole vars tables k cs c whole is some within =
    first_true (is_whole vars tables) cs (k - 1) c (drop k cs) (item_before cs k (k - 1) c some (omega arith) within is) whole

pub item_room : (n c0 k : ℕ) (cs : List FStmt) (c : FStmt) → n ≤ c0 + code_weight weights.Weights.LARGE (drop k cs)
    → c0 + code_weight weights.Weights.LARGE cs ≤ 259000 → c ≡ slice_index_or cs (k - 1) c → 0 < k → k ≤ length cs
    → n + stmt_weight weights.Weights.LARGE c ≤ 259000
item_room n c0 k cs c counted room is some within =
    let first = first_sum (stmt_weight weights.Weights.LARGE) cs (k - 1) c (drop k cs)
    (item_before cs k (k - 1) c some (omega arith) within is) in
    let all = sum_dropped (stmt_weight weights.Weights.LARGE) cs (k - 1) in
    omega (arith, counted, room, first, all)

-- a statement comes before those that are there
pub block_step : (place : ℕ → At) (offset : ℕ → ℕ) (old mid new : List Instr) (c : FStmt) (rest : List FStmt)
    → Puts old mid (block_code place offset rest (length old)) → Puts mid new (stmt_code place offset c (length mid))
    → Puts old new (block_code place offset (c ∷ rest) (length old))
block_step place offset old mid new c rest behind here =
    let after = block_code place offset rest (length old) in
    let size = puts_length old mid after behind in
    let same : length mid ≡ length after + length old = omega arith in
    puts_then old mid new after (stmt_code place offset c (length after + length old)) behind
    (subst (λ n. Puts mid new (stmt_code place offset c n)) same here)

pub if_puts : (ca cb : Code) (p : At) (c0 c1 c2 c3 c4 : List Instr) → Puts c0 c1 (cb (length c0))
    → Puts c1 c2 (jump (length c1 - length c0 + 1) ∷ []) → Puts c2 c3 (ca (length c2))
    → Puts c3 c4 (from_slot 5 p ++ over (register_of 5 p) (length c3 - length c1)) → Puts c0 c4 (if_code p ca cb (length c0))
if_puts ca cb p c0 c1 c2 c3 c4 a1 a2 a3 a4 =
    let n = length c0 in
    let second = cb n in
    let first = ca (length second + suc n) in
    let r = register_of 5 p in
    let front = from_slot 5 p in
    let l1 = puts_length c0 c1 second a1 in
    let l2 = puts_length c1 c2 (jump (length c1 - n + 1) ∷ []) a2 in
    let s1 : length c1 - n + 1 ≡ length second + 1 = omega arith in
    let s2 : length c2 ≡ length second + suc n = omega arith in
    let b2 : Puts c1 c2 (jump (length second + 1) ∷ []) = subst (λ k. Puts c1 c2 (jump k ∷ [])) s1 a2 in
    let b3 : Puts c2 c3 first = subst (λ k. Puts c2 c3 (ca k)) s2 a3 in
    let l3 = puts_length c2 c3 first b3 in
    let s3 : length c3 - length c1 ≡ length first + 1 = omega arith in
    let b4 : Puts c3 c4 (front ++ over r (length first + 1)) = subst (λ k. Puts c3 c4 (front ++ over r k)) s3 a4 in
    let behind = jump (length second + 1) ∷ second in
    let d2 : Puts c0 c2 behind = puts_then c0 c1 c2 second (jump (length second + 1) ∷ []) a1 b2 in
    let d3 : Puts c0 c3 (first ++ behind) = puts_then c0 c2 c3 behind first d2 b3 in
    let d4 = puts_then c0 c3 c4 (first ++ behind) (front ++ over r (length first + 1)) d3 b4 in
    subst (λ is. Puts c0 c4 is) (append_assoc front (over r (length first + 1)) (first ++ behind)) d4

pub while_puts : (ca cb : Code) (p : At) (i : Instr) (c0 c1 c2 c3 c4 c5 : List Instr) → Puts c0 c1 (i ∷ [])
    → Puts c1 c2 (cb (length c1)) → Puts c2 c3 (from_slot 5 p ++ over (register_of 5 p) (length c2 - length c0))
    → Puts c3 c4 (ca (length c3)) → map word_of c5
    ≡ slice_set (map word_of c4) (length c0) (word_of (jump_back (length c4 - length c0 - 1)))
    → Puts c0 c5 (while_code ca p cb (length c0))
while_puts ca cb p i c0 c1 c2 c3 c4 c5 a1 a2 a3 a4 a5 =
    let n = length c0 in
    let r = register_of 5 p in
    let front = from_slot 5 p in
    let body = cb (suc n) in
    let test = over r (length body + 1) in
    let turn = front ++ (test ++ body) in
    let before = ca (length turn + suc n) in
    let l1 = puts_length c0 c1 (i ∷ []) a1 in
    let s1 : length c1 ≡ suc n = omega arith in
    let b2 : Puts c1 c2 body = subst (λ k. Puts c1 c2 (cb k)) s1 a2 in
    let l2 = puts_length c1 c2 body b2 in
    let s2 : length c2 - n ≡ length body + 1 = omega arith in
    let b3 : Puts c2 c3 (front ++ test) = subst (λ k. Puts c2 c3 (front ++ over r k)) s2 a3 in
    let l3 = puts_length c2 c3 (front ++ test) b3 in
    let size1 = length-append front test in
    let size2 = length-append front (test ++ body) in
    let size3 = length-append test body in
    let s3 : length c3 ≡ length turn + suc n = omega arith in
    let b4 : Puts c3 c4 before = subst (λ k. Puts c3 c4 (ca k)) s3 a4 in
    let l4 = puts_length c3 c4 before b4 in
    let s4 : length c4 - n - 1 ≡ length before + length turn = omega arith in
    let b5 : map word_of c5 ≡ slice_set (map word_of c4) n (word_of (jump_back (length before + length turn))) =
    a5 ∙ ap (λ k. slice_set (map word_of c4) n (word_of (jump_back k))) s4 in
    let d2 : Puts c0 c2 (body ++ i ∷ []) = puts_then c0 c1 c2 (i ∷ []) body a1 b2 in
    let d3 : Puts c0 c3 ((front ++ test) ++ (body ++ i ∷ [])) = puts_then c0 c2 c3 (body ++ i ∷ []) (front ++ test) d2 b3 in
    let d4 : Puts c0 c4 (before ++ ((front ++ test) ++ (body ++ i ∷ []))) =
    puts_then c0 c3 c4 ((front ++ test) ++ (body ++ i ∷ [])) before d3 b4 in
    let grouped : before ++ ((front ++ test) ++ (body ++ i ∷ [])) ≡ (before ++ turn) ++ i ∷ [] = simp append_assoc in
    let back = jump_back (length before + length turn) in
    let d5 = puts_last c0 c4 c5 i back (before ++ turn) (subst (λ is. Puts c0 c4 is) grouped d4) b5 in
    subst (λ is. Puts c0 c5 is) (append_assoc before turn (back ∷ [])) d5

-- the parts of a conditional and of a loop are those of the statement
pub if_is : (place : ℕ → At) (offset : ℕ → ℕ) (s : FStmt) (x : ℕ) (a b a0 b0 : List FStmt) (n : ℕ) → s ≡ v.If x a b → a0 ≡ a
    → b0 ≡ b → if_code (place x) (block_code place offset a0) (block_code place offset b0) n ≡ stmt_code place offset s n
unfolding tree.roll-FStmt denote.Hole.Carrier.roll
if_is place offset s x a b a0 b0 n is same also =
    ap (λ z. if_code (place x) (block_code place offset z) (block_code place offset b0) n) same
    ∙ ap (λ z. if_code (place x) (block_code place offset a) (block_code place offset z) n) also
    ∙ sym (ap (λ z. z n) (fold-roll-FStmt Code (stmt_code_step place offset) (o.If x a b)))
    ∙ ap (λ z. stmt_code place offset z n) (sym is)

pub loop_is : (place : ℕ → At) (offset : ℕ → ℕ) (s : FStmt) (x : ℕ) (a b a0 b0 : List FStmt) (n : ℕ) → s ≡ v.While a x b → a0 ≡ a
    → b0 ≡ b → while_code (block_code place offset a0) (place x) (block_code place offset b0) n ≡ stmt_code place offset s n
unfolding tree.roll-FStmt denote.Hole.Carrier.roll
loop_is place offset s x a b a0 b0 n is same also =
    ap (λ z. while_code (block_code place offset z) (place x) (block_code place offset b0) n) same
    ∙ ap (λ z. while_code (block_code place offset a) (place x) (block_code place offset z) n) also
    ∙ sym (ap (λ z. z n) (fold-roll-FStmt Code (stmt_code_step place offset) (o.While a x b)))
    ∙ ap (λ z. stmt_code place offset z n) (sym is)

words_reversed : (v : List Instr) → map word_of (reverse v) ≡ reverse (map word_of v)
words_reversed [] = refl
words_reversed (i ∷ v) =
    ap (map word_of) (reverse-append (i ∷ []) v) ∙ map-append word_of (reverse v) (i ∷ [])
    ∙ ap (λ ws. ws ++ word_of i ∷ []) (words_reversed v) ∙ sym (reverse-append (word_of i ∷ []) (map word_of v))

backwards_reversed : (is : List Instr) → reverse (backwards is) ≡ map word_of is
backwards_reversed [] = refl
backwards_reversed (i ∷ is) = reverse-append (backwards is) (word_of i ∷ []) ∙ ap (λ ws. word_of i ∷ ws) (backwards_reversed is)

-- code that was put together from its end to its start, turned round
pub turned_round : (code v : List Instr) → map word_of v ≡ backwards code → map word_of (reverse v) ≡ map word_of code
turned_round code v is = words_reversed v ∙ ap reverse is ∙ backwards_reversed code

pub sp_word : (n : ℕ) → word_of (Addi (reg 2) (reg 2) (imm12 (n % 4096))) ≡ word_of (Addi (reg 2) (reg 2) (imm12 n))
sp_word n = omega arith
