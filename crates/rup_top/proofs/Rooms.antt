-- No context that a rule leaves has more symbols than there are numbers for.
use Rattle.std.proofs.Common.{◌≡◌, refl, arith, ℕ, ◌≤◌, nat_lt, Bool, true, false, is_some, List, [], ◌∷◌, length, length-append}
use Rattle.std.proofs.Common.{Option, Some, None, Result}
use Rattle.std.proofs.lemmas.Bool.{ltb-true}
use Rattle.std.specs.List.{find, list_all}
use Rattle.rup_base.specs.declared.refusal.Refusal.{Refusal}
use Rattle.model_syntax.specs.Names.{Name}
use Rattle.model_syntax.specs.declared.expr.Scalar.{Scalar}
use Rattle.model_syntax.specs.declared.expr.Scalar.TheVariants.{Word}
use Rattle.model_syntax.specs.declared.stmt.Le.{Le}
use Rattle.side_certs.specs.LinearForm.{LinearForm, within}
use Rattle.sym_heap.specs.Context.{Context, own, scalar, most_symbols, has_symbol, has_room, is_scalar, top_of}
use Rattle.sym_heap.specs.Elements.{element_top}
use Rattle.sym_heap.specs.Ends.{Standing, standing}
use Rattle.sym_heap.specs.Sides.{form_in, difference}
use Rattle.sym_heap.specs.declared.parts.Clause.{Clause}
use Rattle.sym_heap.specs.declared.parts.Held.{Held}
use Rattle.bed_syntax.specs.declared.expression.BExpr.{BExpr}
use Rattle.expr_rules.specs.Sound.{Yields}
use Rattle.expr_rules.specs.Words.{Rule, ◌>>=◌, need, found, give, fresh, added, fact, fact_there}
use Rattle.expr_rules.proofs.laws.Yields.{yields_then}
use Rattle.expr_rules.specs.rules.Len as len
use Rattle.stmt_rules.specs.declared.loops.Counter.{Counter}
use Rattle.stmt_rules.specs.declared.loops.ElementLocals.{ElementLocals}
use Rattle.stmt_rules.specs.declared.loops.FoldLocals.{FoldLocals}
use Rattle.stmt_rules.specs.declared.output.StmtOut.{StmtOut}
use Rattle.stmt_rules.specs.Loops.{is_entry_form, length_code, has_trips, mentions, kept_unless, all_kept_but, element_kind}
use Rattle.stmt_rules.specs.Nesting.{all_added, all_kept, kept_fact, renewed, all_renewed, placed, taken, unlisted_reserved}
use Rattle.stmt_rules.specs.Nesting.{stands_alike, is_array_alike, now}
use Rattle.stmt_rules.specs.rules.Fold as fold_rule
use Rattle.stmt_rules.specs.rules.For as for_rule
use Rattle.stmt_rules.specs.rules.If as if_rule
use Rattle.stmt_rules.specs.rules.Map as map_rule
use Rattle.stmt_rules.specs.rules.Put as put_rule
use Rattle.derive_search.specs.Opening.{map_opens, fold_opens}

abbrev pub Room : Context → Type 0
Room c = length c.tops ≤ most_symbols

abbrev pub In : {A : Type 0} → A → Context → Type 0
In a d = Room d

-- the context that a rule leaves, where it gives something
abbrev pub After : {A : Type 0} → Result (A × Context) Refusal → Type 0
After r = Yields In r

-- so it is after the rule, where it was before
abbrev pub Keeps : {A : Type 0} → Rule A → Type 0
Keeps rule = (c : Context) → Room c → After (rule c)

keeps_then : {A B : Type 0} (m : Rule A) (k : A → Rule B) → Keeps m → ((a : A) → Keeps (k a)) → Keeps (m >>= k)
keeps_then m k one more c room = yields_then In c In m k (one c room) (λ a d there. more a d there)

keeps_need : (b : Bool) (at cond : ℕ) → Keeps (need b at cond)
keeps_need true at cond c room = room
keeps_need false at cond c room = tt

keeps_found : {A : Type 0} (o : Option A) (at cond : ℕ) → Keeps (found o at cond)
keeps_found (Some a) at cond c room = room
keeps_found None at cond c room = tt

keeps_fresh : (at top : ℕ) → Keeps (fresh at top)
keeps_fresh at top c room = by (has_symbol c) refl
  where
    by : (b : Bool) → has_symbol c ≡ b → After (fresh at top c)
    by true is =
        let below = ltb-true (length c.tops) most_symbols is in
        let size = length-append c.tops (top ∷ []) in
        rw is (omega (arith, below, size))
    by false is = rw is tt

-- Facts.

keeps_added : (at : ℕ) (f : LinearForm) → Keeps (added at f)
keeps_added at f c room = by (has_room c) refl
  where
    by : (b : Bool) → has_room c ≡ b → After (added at f c)
    by true is = rw is room
    by false is = rw is tt

keeps_there : (at : ℕ) (o : Option LinearForm) → Keeps (fact_there at o)
keeps_there at (Some f) c room = keeps_added at f c room
keeps_there at None c room = tt

keeps_fact : (at : ℕ) (f : LinearForm) → Keeps (fact at f)
keeps_fact at f = keeps_there at (within f)

keeps_all_added : (at : ℕ) (fs : List LinearForm) → Keeps (all_added at fs)
keeps_all_added at [] = λ c room. room
keeps_all_added at (f ∷ fs) = keeps_then (added at f) (λ u. all_added at fs) (keeps_added at f) (λ u. keeps_all_added at fs)

keeps_kept : (at : ℕ) (r : Le) → Keeps (kept_fact at r)
keeps_kept at r c room = keeps_fact at (difference (form_in c.scalars) r) c room

keeps_all_kept : (at : ℕ) (rs : List Le) → Keeps (all_kept at rs)
keeps_all_kept at [] = λ c room. room
keeps_all_kept at (r ∷ rs) = keeps_then (kept_fact at r) (λ u. all_kept at rs) (keeps_kept at r) (λ u. keeps_all_kept at rs)

keeps_unless : (b : Bool) (at : ℕ) (r : Le) → Keeps (kept_unless b at r)
keeps_unless true at r = λ c room. room
keeps_unless false at r = keeps_kept at r

keeps_kept_but : (at : ℕ) (x : Name) (rs : List Le) → Keeps (all_kept_but at x rs)
keeps_kept_but at x [] = λ c room. room
keeps_kept_but at x (r ∷ rs) =
    keeps_then (kept_unless (mentions x r) at r) (λ u. all_kept_but at x rs) (keeps_unless (mentions x r) at r)
    (λ u. keeps_kept_but at x rs)

-- Scalars.

keeps_renewed : (at : ℕ) (y : Name) (o : Option Held) → Keeps (renewed at y o)
keeps_renewed at y None = λ c room. room
keeps_renewed at y (Some h) = keeps_then (fresh at (top_of h.kind)) (λ s. placed y h.local s h.kind)
    (keeps_fresh at (top_of h.kind)) (λ s c room. room)

keeps_all_renewed : (at : ℕ) (ys : List Name) (hs : List Held) → Keeps (all_renewed at ys hs)
keeps_all_renewed at [] hs = λ c room. room
keeps_all_renewed at (y ∷ ys) hs =
    keeps_then (renewed at y (find (is_scalar y) hs)) (λ u. all_renewed at ys hs) (keeps_renewed at y (find (is_scalar y) hs))
    (λ u. keeps_all_renewed at ys hs)

-- Conditionals and loops.

pub if_begins : (at : ℕ) (names : List Name) (facts : List LinearForm) (hs : List Held) → Keeps (if_rule.begins at names facts hs)
if_begins at names facts hs = keeps_then (all_added at facts) (λ u. unlisted_reserved names hs) (keeps_all_added at facts)
    (λ u c room. room)

-- after the conditions on both ends
abbrev joined : ℕ → List Name → List Le → List Held → Rule (Unit {0})
joined at names keep hs = all_renewed at names hs >>= (λ x. all_kept at keep)

abbrev taken_joined : ℕ → List Name → List Le → Standing → Standing → Rule (Unit {0})
taken_joined at names keep one two = taken names one two >>= (λ w. joined at names keep one.scalars)

pub if_joins : (at : ℕ) (names : List Name) (keep : List Le) (one two : Standing) → Keeps (if_rule.joins at names keep one two)
if_joins at names keep one two =
    keeps_then (need (list_all (stands_alike one two) names) at 7)
    (λ u. need (list_all (is_array_alike one two) names) at 8 >>= (λ v. taken_joined at names keep one two))
    (keeps_need (list_all (stands_alike one two) names) at 7)
    (λ u. keeps_then (need (list_all (is_array_alike one two) names) at 8) (λ v. taken_joined at names keep one two)
    (keeps_need (list_all (is_array_alike one two) names) at 8)
    (λ v. keeps_then (taken names one two) (λ w. joined at names keep one.scalars) (λ c room. room)
    (λ w. keeps_then (all_renewed at names one.scalars) (λ x. all_kept at keep) (keeps_all_renewed at names one.scalars)
    (λ x. keeps_all_kept at keep))))

-- the last facts at the start of a loop's block, and what comes before them
abbrev bounded : ℕ → LinearForm → LinearForm → LinearForm → Rule (Unit {0})
bounded at low high s = fact at (for_rule.from_low s low) >>= (λ z. fact at (for_rule.below_high s high))

abbrev known : ℕ → List Le → LinearForm → LinearForm → LinearForm → Rule (Unit {0})
known at keep low high s = all_kept at keep >>= (λ y. bounded at low high s)

abbrev kept_apart : ℕ → List Name → List Le → Counter → LinearForm → LinearForm → List Held → LinearForm → Rule (Unit {0})
kept_apart at names keep k low high hs s = for_rule.loop_reserved names k hs >>= (λ w. known at keep low high s)

abbrev counts : ℕ → Name → List Name → List Le → Counter → LinearForm → LinearForm → List Held → LinearForm → Rule (Unit {0})
counts at x names keep k low high hs s = placed x k.count s Word >>= (λ v. kept_apart at names keep k low high hs s)

pub for_begins : (at : ℕ) (x : Name) (names : List Name) (keep : List Le) (k : Counter) (low high : LinearForm) (hs : List Held)
    → Keeps (for_rule.begins at x names keep k low high hs)
for_begins at x names keep k low high hs =
    keeps_then (all_renewed at names hs) (λ u. fresh at (top_of Word) >>= counts at x names keep k low high hs)
    (keeps_all_renewed at names hs)
    (λ u. keeps_then (fresh at (top_of Word)) (counts at x names keep k low high hs) (keeps_fresh at (top_of Word))
    (λ s. keeps_then (placed x k.count s Word) (λ v. kept_apart at names keep k low high hs s) (λ c room. room)
    (λ v. keeps_then (for_rule.loop_reserved names k hs) (λ w. known at keep low high s) (λ c room. room)
    (λ w. keeps_then (all_kept at keep) (λ y. bounded at low high s) (keeps_all_kept at keep)
    (λ y. keeps_then (fact at (for_rule.from_low s low)) (λ z. fact at (for_rule.below_high s high))
    (keeps_fact at (for_rule.from_low s low)) (λ z. keeps_fact at (for_rule.below_high s high)))))))

pub for_leaves : (at : ℕ) (x : Name) (names : List Name) (keep : List Le) (end_ : Standing)
    → Keeps (for_rule.leaves at x names keep end_)
for_leaves at x names keep end_ d room =
    keeps_then (taken names end_ end_) (λ u. all_renewed at names d.scalars >>= (λ v. all_kept_but at x keep)) (λ c there. there)
    (λ u. keeps_then (all_renewed at names d.scalars) (λ v. all_kept_but at x keep) (keeps_all_renewed at names d.scalars)
    (λ v. keeps_kept_but at x keep)) d room

-- Loops over arrays.

element_named : (at : ℕ) (x : Name) (l : ℕ) (k : Clause) → Keeps (map_rule.named_element at x l k)
element_named at x l k = keeps_then (fresh at (element_top k.size)) (λ s. placed x l s (element_kind k))
    (keeps_fresh at (element_top k.size)) (λ s c room. room)

map_begins : (at : ℕ) (a x : Name) (l : ElementLocals) (k : Clause) → Keeps (map_rule.begins at a x l k)
map_begins at a x l k =
    keeps_then (map_rule.dropped at a) (λ u. map_rule.named_element at x l.element k)
    (λ c room. keeps_then (need (is_some (own c a)) at 4) (λ u. map_rule.without a) (keeps_need (is_some (own c a)) at 4)
    (λ u d there. there) c room)
    (λ u. element_named at x l.element k)

pub map_starts : (at : ℕ) (a x : Name) (l : ElementLocals) → Keeps (map_opens at a x l)
map_starts at a x l =
    keeps_then (map_rule.array at a l) (λ k. now >>= (λ c. map_rule.begins at a x l k >>= (λ u. give (k, standing c))))
    (λ c room. keeps_then (found (own c a) at 4) (λ k. need (map_rule.are_unused l c) at 5 >>= (λ u. give k))
    (keeps_found (own c a) at 4)
    (λ k. keeps_then (need (map_rule.are_unused l c) at 5) (λ u. give k) (keeps_need (map_rule.are_unused l c) at 5)
    (λ u d there. there)) c room)
    (λ k c room. keeps_then (map_rule.begins at a x l k) (λ u. give (k, standing c)) (map_begins at a x l k) (λ u d there. there)
    c room)

before_end : (at : ℕ) (k : Clause) (ends : Rule (Unit {0})) (out : BExpr → StmtOut) → Keeps ends
    → Keeps (length_code at k >>= (λ high. has_trips at k >>= (λ u. ends >>= (λ v. give (out high)))))
before_end at k ends out keeps =
    keeps_then (length_code at k) (λ high. has_trips at k >>= (λ u. ends >>= (λ v. give (out high))))
    (keeps_found (len.code k) at 4)
    (λ high. keeps_then (has_trips at k) (λ u. ends >>= (λ v. give (out high)))
    (λ c room. keeps_need (is_entry_form c.entries k.length) at 4 c room)
    (λ u. keeps_then ends (λ v. give (out high)) keeps (λ v c room. room)))

pub map_after : (at : ℕ) (a : Name) (l : ElementLocals) (k : Clause) (before : Standing) (e : BExpr)
    → Keeps (map_rule.after at a l k before e)
map_after at a l k before e =
    before_end at k (map_rule.ends at a before) (λ high. map_rule.mapping l k high e)
    (keeps_then (map_rule.returned before) (λ u. map_rule.room at a >>= (λ v. put_rule.counted_write a)) (λ c room. room)
    (λ u. keeps_then (map_rule.room at a) (λ v. put_rule.counted_write a)
    (λ c room. keeps_then (found (own c a) at 4) (λ j. need (nat_lt j.writes put_rule.most_writes) at 3)
    (keeps_found (own c a) at 4) (λ j. keeps_need (nat_lt j.writes put_rule.most_writes) at 3) c room)
    (λ v c room. room)))

scalar_named : (at : ℕ) (s : Name) (l : FoldLocals) (t : Scalar) → Keeps (fold_rule.renamed at s l t)
scalar_named at s l t = keeps_then (fresh at (top_of t)) (λ f. placed s l.so_far f t) (keeps_fresh at (top_of t))
    (λ f c room. room)

pub fold_starts : (at : ℕ) (s a x : Name) (l : FoldLocals) → Keeps (fold_opens at s a x l)
fold_starts at s a x l =
    keeps_then (fold_rule.array at s a l)
    (λ k. fold_rule.start at s >>=
    (λ first. now >>= (λ c. fold_rule.begins at s x l k first.1 >>= (λ u. give (k, first, standing c)))))
    (λ c room. keeps_then (found (own c a) at 4) (λ k. need (fold_rule.are_unused s l c) at 5 >>= (λ u. give k))
    (keeps_found (own c a) at 4)
    (λ k. keeps_then (need (fold_rule.are_unused s l c) at 5) (λ u. give k) (keeps_need (fold_rule.are_unused s l c) at 5)
    (λ u d there. there)) c room)
    (λ k. keeps_then (fold_rule.start at s)
    (λ first. now >>= (λ c. fold_rule.begins at s x l k first.1 >>= (λ u. give (k, first, standing c))))
    (λ c room. keeps_then (found (scalar c s) at 1) (λ h. give (h.local, h.kind)) (keeps_found (scalar c s) at 1)
    (λ h d there. there) c room)
    (λ first c room. keeps_then (fold_rule.begins at s x l k first.1) (λ u. give (k, first, standing c))
    (keeps_then (fold_rule.renamed at s l first.1) (λ u. map_rule.named_element at x l.turn.element k)
    (scalar_named at s l first.1) (λ u. element_named at x l.turn.element k))
    (λ u d there. there) c room))

pub fold_after : (at : ℕ) (s : Name) (l : FoldLocals) (k : Clause) (first : ℕ × Scalar) (before : Standing) (e : BExpr)
    → Keeps (fold_rule.after at s l k first before e)
fold_after at s l k first before e =
    before_end at k (fold_rule.ends at s l first.1 before) (λ high. fold_rule.folding l k first.0 high e)
    (keeps_then (map_rule.returned before) (λ u. fold_rule.renamed at s l first.1) (λ c room. room)
    (λ u. scalar_named at s l first.1))
