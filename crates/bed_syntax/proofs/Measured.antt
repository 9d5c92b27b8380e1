-- What the pressure takes of a command, found node by node.
use Rattle.std.proofs.Common.{◌≡◌, refl, ◌∙◌, ap, ℕ, ◌+◌, max, Bool, false, not, ◌||◌, ◌&&◌, nat_eq, List, [], ◌∷◌, ◌++◌, map}
use Rattle.rup_base.specs.Gather.{joined, greatest}
use Rattle.bed_syntax.specs.Intervals.{Point, throughout, with_ends, most_covering}
use Rattle.bed_syntax.specs.Pressure.{occurs, occurs_step, points, points_step, Early, early, early_step, early_in_turn, pressure}
use Rattle.bed_syntax.specs.Shape.{is_known, expr_depth, expr_depth_step, cmd_depth, cmd_depth_step, all_noted, expr_locals}
use Rattle.bed_syntax.specs.Shape.{expr_locals_step, cmd_locals, cmd_locals_step, noted, in_turn, numbers}
use Rattle.bed_syntax.specs.declared.operation.BOp.{BOp}
use Rattle.bed_syntax.specs.declared.operation.Size.{Size}
use Rattle.bed_syntax.specs.declared.expression.BExpr.{BExpr}
use Rattle.bed_syntax.specs.declared.expression.BExpr.TheOpen as e
use Rattle.bed_syntax.specs.declared.expression.BExpr.TheVariants as expr
use Rattle.bed_syntax.specs.declared.command.Cmd.{Cmd}
use Rattle.bed_syntax.specs.declared.command.Cmd.TheOpen as c
use Rattle.bed_syntax.specs.declared.command.Cmd.TheVariants as cmd
use Rattle.bed_syntax.proofs.laws.Nodes.{fold_lit, fold_var, fold_bin, fold_load, fold_set, fold_cond, fold_seq, fold_while}

abbrev Noting : Type 0
Noting = List ℕ → List ℕ

-- an expression has these locals, this depth, and notes these locals
pub record Expr (a : BExpr) (marked : Point) (depth : ℕ) (noting : Noting) : Type 0 where
  pub marks : occurs a ≡ marked
  pub deep : expr_depth a ≡ depth
  pub notes : expr_locals a ≡ noting

-- a command has these points, reads these locals early, and has this depth and these locals
pub record Made (a : Cmd) (ps : List Point) (first : Early) (depth : ℕ) (noting : Noting) : Type 0 where
  pub marks : points a ≡ ps
  pub reads : early a ≡ first
  pub deep : cmd_depth a ≡ depth
  pub notes : cmd_locals a ≡ noting

pub lit : (n : ℕ) → Expr (expr.Lit n) (occurs_step (e.Lit n)) 1 (expr_locals_step (e.Lit n))
lit n = record {
  marks = fold_lit Point occurs_step n;
  deep = fold_lit ℕ expr_depth_step n;
  notes = fold_lit Noting expr_locals_step n;
}

pub var : (x : ℕ) → Expr (expr.Var x) (occurs_step (e.Var x)) 1 (expr_locals_step (e.Var x))
var x = record {
  marks = fold_var Point occurs_step x;
  deep = fold_var ℕ expr_depth_step x;
  notes = fold_var Noting expr_locals_step x;
}

pub bin : (op : BOp) {a b : BExpr} {m k : Point} {d f : ℕ} {l r : Noting} → Expr a m d l → Expr b k f r
    → Expr (expr.Bin op a b) (occurs_step (e.Bin op m k)) (1 + max d f) (expr_locals_step (e.Bin op l r))
bin op {a} {b} h j = record {
  marks = fold_bin Point occurs_step op a b ∙ rw (h.marks, j.marks) refl;
  deep = fold_bin ℕ expr_depth_step op a b ∙ rw (h.deep, j.deep) refl;
  notes = fold_bin Noting expr_locals_step op a b ∙ rw (h.notes, j.notes) refl;
}

pub load : (size : Size) {a : BExpr} {m : Point} {d : ℕ} {l : Noting} → Expr a m d l
    → Expr (expr.Load size a) (occurs_step (e.Load size m)) (1 + d) (expr_locals_step (e.Load size l))
load size {a} h = record {
  marks = fold_load Point occurs_step size a ∙ rw h.marks refl;
  deep = fold_load ℕ expr_depth_step size a ∙ rw h.deep refl;
  notes = fold_load Noting expr_locals_step size a ∙ rw h.notes refl;
}

pub set : (y : ℕ) {a : BExpr} {m : Point} {d : ℕ} {l : Noting} → Expr a m d l
    → Made (cmd.Set y a) ((λ x. nat_eq y x || m x) ∷ []) (λ x later. m x || (not (nat_eq y x) && later)) d (λ xs. noted y (l xs))
set y {a} h = record {
  marks = fold_set (List Point) points_step y a
      ∙ ap {B = List Point} (λ (o : Point). (λ (x : ℕ). nat_eq y x || o x) ∷ []) h.marks;
  reads = fold_set Early early_step y a
      ∙ ap {B = Early} (λ (o : Point) (x : ℕ) (later : Bool). o x || (not (nat_eq y x) && later)) h.marks;
  deep = fold_set ℕ cmd_depth_step y a ∙ h.deep;
  notes = fold_set Noting cmd_locals_step y a ∙ ap {B = Noting} (λ (g : Noting) (xs : List ℕ). noted y (g xs)) h.notes;
}

pub cond : {a : BExpr} {m : Point} {d : ℕ} {l : Noting} {p q : Cmd} {ps qs : List Point} {f g : Early} {j k : ℕ} {lp lq : Noting}
    → Expr a m d l → Made p ps f j lp → Made q qs g k lq
    → Made (cmd.Cond a p q) (m ∷ (ps ++ qs)) (λ x later. m x || (f x later || g x later)) (max d (max j k)) (λ xs. lq (lp (l xs)))
cond {a} {m} {d} {l} {p} {q} {ps} {qs} {f} {g} {j} {k} {lp} h one two = record {
  marks = fold_cond (List Point) points_step a p q
      ∙ ap {B = List Point} (λ (o : Point). o ∷ (points p ++ points q)) h.marks
      ∙ ap {B = List Point} (λ (r : List Point). m ∷ (r ++ points q)) one.marks
      ∙ ap {B = List Point} (λ (r : List Point). m ∷ (ps ++ r)) two.marks;
  reads = fold_cond Early early_step a p q
      ∙ ap {B = Early} (λ (o : Point) (x : ℕ) (later : Bool). o x || (early p x later || early q x later)) h.marks
      ∙ ap {B = Early} (λ (r : Early) (x : ℕ) (later : Bool). m x || (r x later || early q x later)) one.reads
      ∙ ap {B = Early} (λ (r : Early) (x : ℕ) (later : Bool). m x || (f x later || r x later)) two.reads;
  deep = fold_cond ℕ cmd_depth_step a p q ∙ rw (h.deep, one.deep, two.deep) refl;
  notes = fold_cond Noting cmd_locals_step a p q
      ∙ ap {B = Noting} (λ (r : Noting) (xs : List ℕ). cmd_locals q (cmd_locals p (r xs))) h.notes
      ∙ ap {B = Noting} (λ (r : Noting) (xs : List ℕ). cmd_locals q (r (l xs))) one.notes
      ∙ ap {B = Noting} (λ (r : Noting) (xs : List ℕ). r (lp (l xs))) two.notes;
}

pub loop : {a : BExpr} {m : Point} {d : ℕ} {l : Noting} {p : Cmd} {ps : List Point} {f : Early} {j : ℕ} {lp : Noting}
    → Expr a m d l → Made p ps f j lp
    → Made (cmd.While a p) (throughout (m ∷ ps)) (λ x later. m x || (later || f x false)) (max d j) (λ xs. lp (l xs))
loop {a} {m} {d} {l} {p} h one = record {
  marks = fold_while (List Point) points_step a p
      ∙ ap {B = List Point} (λ (o : Point). throughout (o ∷ points p)) h.marks
      ∙ ap {B = List Point} (λ (r : List Point). throughout (m ∷ r)) one.marks;
  reads = fold_while Early early_step a p
      ∙ ap {B = Early} (λ (o : Point) (x : ℕ) (later : Bool). o x || (later || early p x false)) h.marks
      ∙ ap {B = Early} (λ (r : Early) (x : ℕ) (later : Bool). m x || (later || r x false)) one.reads;
  deep = fold_while ℕ cmd_depth_step a p ∙ rw (h.deep, one.deep) refl;
  notes = fold_while Noting cmd_locals_step a p
      ∙ ap {B = Noting} (λ (r : Noting) (xs : List ℕ). cmd_locals p (r xs)) h.notes
      ∙ ap {B = Noting} (λ (r : Noting) (xs : List ℕ). r (l xs)) one.notes;
}

-- commands in a row
pub record Row (cs : List Cmd) (pss : List (List Point)) (fs : List Early) (ds : List ℕ) (ls : List Noting) : Type 0 where
  pub marks : map points cs ≡ pss
  pub reads : map early cs ≡ fs
  pub deep : map cmd_depth cs ≡ ds
  pub notes : map cmd_locals cs ≡ ls

pub no_more : Row [] [] [] [] []
no_more = record { marks = refl; reads = refl; deep = refl; notes = refl }

infixr 10 ◌and◌
pub ◌and◌ : {a : Cmd} {ps : List Point} {f : Early} {d : ℕ} {l : Noting} {cs : List Cmd} {pss : List (List Point)}
    {fs : List Early} {ds : List ℕ} {ls : List Noting}
    → Made a ps f d l → Row cs pss fs ds ls → Row (a ∷ cs) (ps ∷ pss) (f ∷ fs) (d ∷ ds) (l ∷ ls)
h and more = record {
  marks = rw (h.marks, more.marks) refl;
  reads = rw (h.reads, more.reads) refl;
  deep = rw (h.deep, more.deep) refl;
  notes = rw (h.notes, more.notes) refl;
}

pub seq : {cs : List Cmd} {pss : List (List Point)} {fs : List Early} {ds : List ℕ} {ls : List Noting} → Row cs pss fs ds ls
    → Made (cmd.Seq cs) (joined pss) (early_in_turn fs) (greatest ds) (in_turn ls)
seq {cs} h = record {
  marks = fold_seq (List Point) points_step cs ∙ ap joined h.marks;
  reads = fold_seq Early early_step cs ∙ ap early_in_turn h.reads;
  deep = fold_seq ℕ cmd_depth_step cs ∙ ap greatest h.deep;
  notes = fold_seq Noting cmd_locals_step cs ∙ ap in_turn h.notes;
}

pub pressure_is : {a : Cmd} {ps : List Point} {f : Early} {d : ℕ} {l : Noting} → Made a ps f d l → (args : ℕ) (rets : List ℕ)
    → pressure a args rets ≡ most_covering (with_ends args (is_known rets) (λ x. f x (is_known rets x)) ps)
    (all_noted rets (l (numbers args))) + d
pressure_is {a} {ps} {f} {d} {l} h args rets =
    ap (λ (p : List Point). most_covering (with_ends args (is_known rets) (λ x. early a x (is_known rets x)) p)
    (all_noted rets (cmd_locals a (numbers args))) + cmd_depth a) h.marks
    ∙ ap (λ (r : Early). most_covering (with_ends args (is_known rets) (λ x. r x (is_known rets x)) ps)
    (all_noted rets (cmd_locals a (numbers args))) + cmd_depth a) h.reads
    ∙ ap (λ (r : Noting). most_covering (with_ends args (is_known rets) (λ x. f x (is_known rets x)) ps)
    (all_noted rets (r (numbers args))) + cmd_depth a) h.notes
    ∙ ap (λ (n : ℕ). most_covering (with_ends args (is_known rets) (λ x. f x (is_known rets x)) ps)
    (all_noted rets (l (numbers args))) + n) h.deep
