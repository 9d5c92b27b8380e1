-- The points of the code of a command, and what it reads before it sets it, are those of the command.
use Rattle.std.proofs.Common.{◌≡◌, refl, sym, ap, subst, ◌∙◌, arith, ℕ, ◌+◌, ◌<◌, ◌≤◌, Bool, true, false, not, ◌||◌, ◌&&◌, nat_eq}
use Rattle.std.proofs.Common.{List, [], ◌∷◌, ◌++◌, append_assoc, append-nil, length, map}
use Rattle.rup_base.specs.Gather.{joined}
use Rattle.bed_syntax.specs.Intervals.{Point, throughout}
use Rattle.bed_syntax.specs.Pressure.{occurs, occurs_step, points, points_step, Early, early, early_step, early_in_turn}
use Rattle.bed_syntax.specs.declared.expression.BExpr.{BExpr, BExpr-F, map-BExpr, roll-BExpr, fold-roll-BExpr, ind-BExpr}
use Rattle.bed_syntax.specs.declared.expression.BExpr.TheOpen as e
use Rattle.bed_syntax.specs.declared.command.Cmd.{Cmd, Cmd-F, map-Cmd, roll-Cmd, fold-roll-Cmd, ind-Cmd}
use Rattle.bed_syntax.specs.declared.command.Cmd.TheOpen as c
use Rattle.flat_lang.specs.Backwards.{Walk, reads, sets, walk, walk_step, code_walk}
use Rattle.flat_lang.specs.Pressure as flat
use Rattle.flat_lang.specs.declared.flat.FStmt.{FStmt, FStmt-F, map-FStmt, roll-FStmt, fold-roll-FStmt}
use Rattle.flat_lang.specs.declared.flat.FStmt.TheOpen as o
use Rattle.flat_lang.specs.declared.flat.FStmt.TheVariants as f
use Rattle.flatten.specs.Code.{ExprCode, expr_code, expr_step, CmdCode, cmd_code, cmd_step, in_turn, place}
use Rattle.flatten.proofs.Fitting.{Under, AllUnder, Fits, all_weaker, all_both, fits_both, fits_throughout, fits_one, or_first}
use Rattle.flatten.proofs.Fitting.{or_second}
use Rattle.flatten.proofs.Places.{Known, same_place}

pub points_joined : (a b : List FStmt) → flat.body_points (a ++ b) ≡ flat.body_points a ++ flat.body_points b
points_joined [] b = refl
points_joined (s ∷ a) b = ap (λ (r : List Point). flat.stmt_points s ++ r) (points_joined a b)
    ∙ sym (append_assoc (flat.stmt_points s) (flat.body_points a) (flat.body_points b))

pub need_joined : (a b : List FStmt) (v : ℕ) (k : Bool)
    → (code_walk (a ++ b)).need v k ≡ (code_walk a).need v ((code_walk b).need v k)
need_joined [] b v k = refl
need_joined (s ∷ a) b v k = ap (λ z. (walk s).need v z) (need_joined a b v k)

-- a statement by its layer
pub one_points : (s : FStmt) (y : FStmt-F FStmt) → roll-FStmt y ≡ s
    → flat.body_points (s ∷ []) ≡ flat.points_step (map-FStmt FStmt (List Point) flat.stmt_points y)
one_points s y is = append-nil (flat.stmt_points s) ∙ ap flat.stmt_points (sym is)
    ∙ fold-roll-FStmt (List Point) flat.points_step y

pub one_need : (s : FStmt) (y : FStmt-F FStmt) → roll-FStmt y ≡ s → (v : ℕ) (k : Bool)
    → (code_walk (s ∷ [])).need v k ≡ (walk_step (map-FStmt FStmt Walk walk y)).need v k
one_need s y is v k = ap (λ (w : Walk). w.need v k) (ap walk (sym is) ∙ fold-roll-FStmt Walk walk_step y)

regroup : (a b k : Bool) → (a || (b || k)) ≡ ((a || b) || k)
regroup true b k = refl
regroup false b k = refl

pub or_false : (a : Bool) → (a || false) ≡ a
or_false true = refl
or_false false = refl

equal : (x y : ℕ) → x ≡ y → nat_eq x y ≡ true
equal x y h = grind (arith, h)

equals : (x y : ℕ) → nat_eq x y ≡ true → x ≡ y
equals x y h = grind (arith, h)

swapped : (x y : ℕ) → nat_eq x y ≡ nat_eq y x
swapped x y = grind (arith)

same_bool : (a b : Bool) → (a ≡ true → b ≡ true) → (b ≡ true → a ≡ true) → a ≡ b
same_bool true b f g = sym (f refl)
same_bool false true f g = g refl
same_bool false false f g = refl

reads_other : (x v : ℕ) (k : Bool) → nat_eq v x ≡ false → reads x v k ≡ k
reads_other x v k h = ap (λ b. b || k) h

sets_other : (x v : ℕ) (k : Bool) → nat_eq v x ≡ false → sets x v k ≡ k
sets_other x v k h = ap (λ b. not b && k) h

neither : (a b : Bool) → a ≡ false → b ≡ false → (a || b) ≡ false
neither a b h g = ap (λ t. t || b) h ∙ g

module _ (names : List ℕ) where
  -- a temporary is no local's variable
  past : (to x : ℕ) → length names ≤ to → Known names x → nat_eq (place names x) to ≡ false
  past to x above known = let k : place names x < length names = known in grind (arith, above, k)

  before : (to x : ℕ) → length names ≤ to → Known names x → nat_eq to (place names x) ≡ false
  before to x above known = swapped to (place names x) ∙ past to x above known

  pub same_test : (x y : ℕ) → Known names x → nat_eq (place names x) (place names y) ≡ nat_eq y x
  same_test x y known =
      same_bool (nat_eq (place names x) (place names y)) (nat_eq y x)
      (λ is. equal y x (sym (same_place names x y known (equals (place names x) (place names y) is))))
      (λ is. equal (place names x) (place names y) (ap (place names) (sym (equals y x is))))

  abbrev pub nothing : Point
  nothing x = false

  none_under : (p : Point) → ((x : ℕ) → Known names x → p (place names x) ≡ false) → (c : Point) → Under names p c
  none_under p h c x known is = absurd (let bad : false ≡ true = sym (h x known) ∙ is in cc)

  -- statements of an expression whose locals are those of a point
  pub record Good (fs : List FStmt) (marked : Point) : Type 0 where
    pub under : AllUnder names (flat.body_points fs) marked
    pub needs : (x : ℕ) (k : Bool) → Known names x → (code_walk fs).need (place names x) k ≡ (marked x || k)

  pub good_both : (a b : List FStmt) (m r : Point) → Good a m → Good b r → Good (a ++ b) (λ x. m x || r x)
  good_both a b m r h g = record {
    under = subst (λ (ps : List Point). AllUnder names ps (λ x. m x || r x)) (sym (points_joined a b))
        (all_both names (flat.body_points a) (flat.body_points b) (λ x. m x || r x)
        (all_weaker names (flat.body_points a) m (λ x. m x || r x) (λ x is. or_first (m x) (r x) is) h.under)
        (all_weaker names (flat.body_points b) r (λ x. m x || r x) (λ x is. or_second (m x) (r x) is) g.under));
    needs = λ x k known.
        need_joined a b (place names x) k ∙ h.needs x ((code_walk b).need (place names x) k) known
        ∙ ap (λ t. m x || t) (g.needs x k known) ∙ regroup (m x) (r x) k;
  }

  -- one more statement, over temporaries alone
  pub good_last : (a : List FStmt) (s : FStmt) (m : Point) → Good a m → Good (s ∷ []) nothing → Good (a ++ s ∷ []) m
  good_last a s m h g =
      let both = good_both a (s ∷ []) m nothing h g in
      record {
        under = all_weaker names (flat.body_points (a ++ s ∷ [])) (λ x. m x || nothing x) m (λ x is. sym (or_false (m x)) ∙ is)
            both.under;
        needs = λ x k known. both.needs x k known ∙ ap (λ t. t || k) (or_false (m x));
      }

  leaf_good : (s : FStmt) (y : FStmt-F FStmt) (p m : Point) → roll-FStmt y ≡ s
      → flat.points_step (map-FStmt FStmt (List Point) flat.stmt_points y) ≡ p ∷ [] → Under names p m
      → ((x : ℕ) (k : Bool) → Known names x → (walk_step (map-FStmt FStmt Walk walk y)).need (place names x) k ≡ (m x || k))
      → Good (s ∷ []) m
  leaf_good s y p m is marks under needs = record {
    under = subst (λ (ps : List Point). AllUnder names ps m) (sym (one_points s y is ∙ marks)) (under, tt);
    needs = λ x k known. one_need s y is (place names x) k ∙ needs x k known;
  }

  abbrev GoodExpr : ExprCode → Point → Type 0
  GoodExpr code m = (to k : ℕ) → length names ≤ to → Good (code.code to k) m

  lit_good : (n : ℕ) → GoodExpr (expr_step names (e.Lit n)) nothing
  lit_good n to k above =
      leaf_good (f.Lit to n) (o.Lit to n) (λ v. nat_eq to v) nothing (f.rolls-Lit to n) refl
      (none_under (λ v. nat_eq to v) (λ x known. before to x above known) nothing)
      (λ x k known. sets_other to (place names x) k (past to x above known))

  var_good : (y : ℕ) → GoodExpr (expr_step names (e.Var y)) (λ x. nat_eq y x)
  var_good y to k above =
      leaf_good (f.Copy to (place names y)) (o.Copy to (place names y)) (λ v. nat_eq to v || nat_eq (place names y) v)
      (λ x. nat_eq y x) (f.rolls-Copy to (place names y)) refl
      (λ x known is. sym (ap (λ b. b || nat_eq (place names y) (place names x)) (before to x above known)
      ∙ swapped (place names y) (place names x) ∙ same_test x y known) ∙ is)
      (λ x k known.
      ap (λ t. nat_eq (place names x) (place names y) || t) (sets_other to (place names x) k (past to x above known))
      ∙ ap (λ t. t || k) (same_test x y known))

  -- a statement whose variables are temporaries
  bin_last : (op : _) (to : ℕ) → length names ≤ to → Good (f.Bin op to to (to + 1) ∷ []) nothing
  bin_last op to above =
      let next : length names ≤ to + 1 = omega arith in
      leaf_good (f.Bin op to to (to + 1)) (o.Bin op to to (to + 1)) (λ v. nat_eq to v || (nat_eq to v || nat_eq (to + 1) v))
      nothing (f.rolls-Bin op to to (to + 1)) refl
      (none_under (λ v. nat_eq to v || (nat_eq to v || nat_eq (to + 1) v)) (λ x known.
      neither (nat_eq to (place names x)) (nat_eq to (place names x) || nat_eq (to + 1) (place names x)) (before to x above known)
      (neither (nat_eq to (place names x)) (nat_eq (to + 1) (place names x)) (before to x above known)
      (before (to + 1) x next known))) nothing)
      (λ x k known.
      reads_other to (place names x) (reads (to + 1) (place names x) (sets to (place names x) k)) (past to x above known)
      ∙ reads_other (to + 1) (place names x) (sets to (place names x) k) (past (to + 1) x next known)
      ∙ sets_other to (place names x) k (past to x above known))

  one_last : (s : FStmt) (y : FStmt-F FStmt) (to : ℕ) → length names ≤ to → roll-FStmt y ≡ s
      → flat.points_step (map-FStmt FStmt (List Point) flat.stmt_points y) ≡ (λ v. nat_eq to v || nat_eq to v) ∷ []
      → ((v : ℕ) (k : Bool) → (walk_step (map-FStmt FStmt Walk walk y)).need v k ≡ reads to v (sets to v k))
      → Good (s ∷ []) nothing
  one_last s y to above is marks needs =
      leaf_good s y (λ v. nat_eq to v || nat_eq to v) nothing is marks
      (none_under (λ v. nat_eq to v || nat_eq to v)
      (λ x known. neither (nat_eq to (place names x)) (nat_eq to (place names x)) (before to x above known)
      (before to x above known)) nothing)
      (λ x k known.
      needs (place names x) k ∙ reads_other to (place names x) (sets to (place names x) k) (past to x above known)
      ∙ sets_other to (place names x) k (past to x above known))

  bin_good : (op : _) (ca cb : ExprCode) (m r : Point) → GoodExpr ca m → GoodExpr cb r
      → GoodExpr (expr_step names (e.Bin op ca cb)) (λ x. m x || r x)
  bin_good op ca cb m r h g to k above =
      let next : ℕ = k + length ca.tables in
      good_both (ca.code to k) (cb.code (to + 1) next ++ f.Bin op to to (to + 1) ∷ []) m r (h to k above)
      (good_last (cb.code (to + 1) next) (f.Bin op to to (to + 1)) r (g (to + 1) next (omega arith)) (bin_last op to above))

  load_good : (size : _) (ca : ExprCode) (m : Point) → GoodExpr ca m → GoodExpr (expr_step names (e.Load size ca)) m
  load_good size ca m h to k above =
      good_last (ca.code to k) (f.Load size to to) m (h to k above)
      (one_last (f.Load size to to) (o.Load size to to) to above (f.rolls-Load size to to) refl (λ v k. refl))

  table_good : (size : _) (bytes : List ℕ) (ca : ExprCode) (m : Point) → GoodExpr ca m
      → GoodExpr (expr_step names (e.Table size bytes ca)) m
  table_good size bytes ca m h to k above =
      let number : ℕ = k + length ca.tables in
      good_last (ca.code to k) (f.Table size to number to) m (h to k above)
      (one_last (f.Table size to number to) (o.Table size to number to) to above (f.rolls-Table size to number to) refl
      (λ v k. refl))

  abbrev ExprGood : BExpr → Type 0
  ExprGood a = GoodExpr (expr_code names a) (occurs a)

  abbrev ExprProved : Type 0
  ExprProved = (a : BExpr) × ExprGood a

  abbrev bare_expr : BExpr-F ExprProved → BExpr-F BExpr
  bare_expr y = map-BExpr ExprProved BExpr (λ p. p.0) y

  abbrev ExprStepGood : BExpr-F BExpr → Type 0
  ExprStepGood y = GoodExpr (expr_step names (map-BExpr BExpr ExprCode (expr_code names) y))
      (occurs_step (map-BExpr BExpr Point occurs y))

  expr_step_good : (y : BExpr-F ExprProved) → ExprStepGood (bare_expr y)
  expr_step_good (e.Lit n) = lit_good n
  expr_step_good (e.Var y) = var_good y
  expr_step_good (e.Bin op a b) = bin_good op (expr_code names a.0) (expr_code names b.0) (occurs a.0) (occurs b.0) a.1 b.1
  expr_step_good (e.Load size a) = load_good size (expr_code names a.0) (occurs a.0) a.1
  expr_step_good (e.Table size bytes a) = table_good size bytes (expr_code names a.0) (occurs a.0) a.1

  expr_rolled : (y : BExpr-F BExpr) → ExprStepGood y → ExprGood (roll-BExpr y)
  expr_rolled y h = rw (fold-roll-BExpr ExprCode (expr_step names) y, fold-roll-BExpr Point occurs_step y) h

  pub expr_good : (a : BExpr) → ExprGood a
  expr_good = ind-BExpr ExprGood
      (λ z y is. subst (λ r. ExprGood (roll-BExpr r)) is (expr_rolled (bare_expr y) (expr_step_good y)))

  -- statements of a command with these points, which read these locals before they set them
  pub record Comes (fs : List FStmt) (ps : List Point) (early : Early) : Type 0 where
    pub fits : Fits names (flat.body_points fs) ps
    pub same : (x : ℕ) (k : Bool) → Known names x → (code_walk fs).need (place names x) k ≡ early x k

  pub nothing_comes : Comes [] [] (λ x k. k)
  nothing_comes = record { fits = refl; same = λ x k known. refl }

  pub then_comes : (a b : List FStmt) (ps qs : List Point) (m r : Early) → Comes a ps m → Comes b qs r
      → Comes (a ++ b) (ps ++ qs) (λ x k. m x (r x k))
  then_comes a b ps qs m r h g = record {
    fits = subst (λ (zs : List Point). Fits names zs (ps ++ qs)) (sym (points_joined a b))
        (fits_both names (flat.body_points a) ps (flat.body_points b) qs h.fits g.fits);
    same = λ x k known. need_joined a b (place names x) k ∙ h.same x ((code_walk b).need (place names x) k) known
        ∙ ap (λ t. m x t) (g.same x k known);
  }

  set_comes : (y : ℕ) (fs : List FStmt) (m : Point) → Good fs m
      → Comes (fs ++ f.Copy (place names y) (length names) ∷ []) ((λ x. nat_eq y x || m x) ∷ [])
      (λ x k. m x || (not (nat_eq y x) && k))
  set_comes y fs m h =
      let s : FStmt = f.Copy (place names y) (length names) in
      let layer : FStmt-F FStmt = o.Copy (place names y) (length names) in
      let is = f.rolls-Copy (place names y) (length names) in
      let p : Point = λ v. nat_eq (place names y) v || nat_eq (length names) v in
      let all : Point = λ x. nat_eq y x || m x in
      let under : Under names p all = λ x known marked.
      or_first (nat_eq y x) (m x)
      (sym (ap (λ b. nat_eq (place names y) (place names x) || b) (before (length names) x (omega arith) known)
      ∙ or_false (nat_eq (place names y) (place names x))
      ∙ swapped (place names y) (place names x) ∙ same_test x y known) ∙ marked) in
      let last : AllUnder names (flat.body_points (s ∷ [])) all =
      subst (λ (ps : List Point). AllUnder names ps all) (sym (one_points s layer is)) (under, tt) in
      record {
        fits = subst (λ (zs : List Point). Fits names zs (all ∷ [])) (sym (points_joined fs (s ∷ [])))
            (fits_one names (flat.body_points fs ++ flat.body_points (s ∷ [])) all
            (all_both names (flat.body_points fs) (flat.body_points (s ∷ [])) all
            (all_weaker names (flat.body_points fs) m all (λ x is. or_second (nat_eq y x) (m x) is) h.under) last));
        same = λ x k known.
            need_joined fs (s ∷ []) (place names x) k
            ∙ h.needs x ((code_walk (s ∷ [])).need (place names x) k) known
            ∙ ap (λ t. m x || t)
            (one_need s layer is (place names x) k
            ∙ reads_other (length names) (place names x) (sets (place names y) (place names x) k)
            (past (length names) x (omega arith) known)
            ∙ ap (λ b. not b && k) (same_test x y known));
      }

  store_last : (size : _) → Good (f.Store size (length names) (length names + 1) ∷ []) nothing
  store_last size =
      let first : ℕ = length names in
      let low : length names ≤ first = omega arith in
      let next : length names ≤ first + 1 = omega arith in
      leaf_good (f.Store size first (first + 1)) (o.Store size first (first + 1)) (λ v. nat_eq first v || nat_eq (first + 1) v)
      nothing (f.rolls-Store size first (first + 1)) refl
      (none_under (λ v. nat_eq first v || nat_eq (first + 1) v)
      (λ x known. neither (nat_eq first (place names x)) (nat_eq (first + 1) (place names x)) (before first x low known)
      (before (first + 1) x next known))
      nothing)
      (λ x k known.
      reads_other first (place names x) (reads (first + 1) (place names x) k) (past first x low known)
      ∙ reads_other (first + 1) (place names x) k (past (first + 1) x next known))

  store_comes : (size : _) (fs gs : List FStmt) (m r : Point) → Good fs m → Good gs r
      → Comes (fs ++ (gs ++ f.Store size (length names) (length names + 1) ∷ [])) ((λ x. m x || r x) ∷ [])
      (λ x k. m x || (r x || k))
  store_comes size fs gs m r h g =
      let s : FStmt = f.Store size (length names) (length names + 1) in
      let all = good_both fs (gs ++ s ∷ []) m r h (good_last gs s r g (store_last size)) in
      record {
        fits = fits_one names (flat.body_points (fs ++ (gs ++ s ∷ []))) (λ x. m x || r x) all.under;
        same = λ x k known. all.needs x k known ∙ sym (regroup (m x) (r x) k);
      }

  if_comes : (fs a b : List FStmt) (m : Point) (ps qs : List Point) (p q : Early) → Good fs m → Comes a ps p → Comes b qs q
      → Comes (fs ++ f.If (length names) a b ∷ []) (m ∷ (ps ++ qs)) (λ x k. m x || (p x k || q x k))
  if_comes fs a b m ps qs p q h first second =
      let s : FStmt = f.If (length names) a b in
      let layer : FStmt-F FStmt = o.If (length names) a b in
      let is = f.rolls-If (length names) a b in
      let test : Point = λ v. nat_eq (length names) v in
      let sides : List Point = flat.body_points a ++ flat.body_points b in
      let front : AllUnder names (flat.body_points fs ++ test ∷ []) m =
      all_both names (flat.body_points fs) (test ∷ []) m h.under
      (none_under test (λ x known. before (length names) x (omega arith) known) m, tt) in
      let whole : flat.body_points (fs ++ s ∷ []) ≡ (flat.body_points fs ++ test ∷ []) ++ sides =
      points_joined fs (s ∷ []) ∙ ap (λ (zs : List Point). flat.body_points fs ++ zs) (one_points s layer is)
      ∙ sym (append_assoc (flat.body_points fs) (test ∷ []) sides) in
      record {
        fits = subst (λ (zs : List Point). Fits names zs (m ∷ (ps ++ qs))) (sym whole)
            (fits_both names (flat.body_points fs ++ test ∷ []) (m ∷ []) sides (ps ++ qs)
            (fits_one names (flat.body_points fs ++ test ∷ []) m front)
            (fits_both names (flat.body_points a) ps (flat.body_points b) qs first.fits second.fits));
        same = λ x k known.
            need_joined fs (s ∷ []) (place names x) k
            ∙ h.needs x ((code_walk (s ∷ [])).need (place names x) k) known
            ∙ ap (λ t. m x || t)
            (one_need s layer is (place names x) k
            ∙ reads_other (length names) (place names x)
            ((code_walk a).need (place names x) k || (code_walk b).need (place names x) k)
            (past (length names) x (omega arith) known)
            ∙ ap (λ t. t || (code_walk b).need (place names x) k) (first.same x k known)
            ∙ ap (λ t. p x k || t) (second.same x k known));
      }

  while_comes : (fs b : List FStmt) (m : Point) (ps : List Point) (p : Early) → Good fs m → Comes b ps p
      → Comes (f.While fs (length names) b ∷ []) (throughout (m ∷ ps)) (λ x k. m x || (k || p x false))
  while_comes fs b m ps p h body =
      let s : FStmt = f.While fs (length names) b in
      let layer : FStmt-F FStmt = o.While fs (length names) b in
      let is = f.rolls-While fs (length names) b in
      let test : Point = λ v. nat_eq (length names) v in
      let front : AllUnder names (test ∷ flat.body_points fs) m =
      (none_under test (λ x known. before (length names) x (omega arith) known) m, h.under) in
      let inside : Fits names (test ∷ (flat.body_points fs ++ flat.body_points b)) (m ∷ ps) =
      (test ∷ flat.body_points fs, flat.body_points b, (refl, (front, body.fits))) in
      record {
        fits = subst (λ (zs : List Point). Fits names zs (throughout (m ∷ ps))) (sym (one_points s layer is))
            (fits_throughout names (test ∷ (flat.body_points fs ++ flat.body_points b)) (m ∷ ps) inside);
        same = λ x k known.
            one_need s layer is (place names x) k
            ∙ h.needs x (reads (length names) (place names x) (k || (code_walk b).need (place names x) false)) known
            ∙ ap (λ t. m x || t)
            (reads_other (length names) (place names x) (k || (code_walk b).need (place names x) false)
            (past (length names) x (omega arith) known)
            ∙ ap (λ t. k || t) (body.same x false known));
      }

  abbrev pub CmdComes : Cmd → Type 0
  CmdComes a = (k : ℕ) → Comes ((cmd_code names a).code k) (points a) (early a)

  abbrev CmdProved : Type 0
  CmdProved = (a : Cmd) × CmdComes a

  abbrev bare_cmd : Cmd-F CmdProved → Cmd-F Cmd
  bare_cmd y = map-Cmd CmdProved Cmd (λ p. p.0) y

  abbrev StepComes : Cmd-F Cmd → Type 0
  StepComes y =
      (k : ℕ) → Comes ((cmd_step names (map-Cmd Cmd CmdCode (cmd_code names) y)).code k)
      (points_step (map-Cmd Cmd (List Point) points y)) (early_step (map-Cmd Cmd Early early y))

  all_come : (cs : List CmdProved) (k : ℕ)
      → Comes ((in_turn (map (cmd_code names) (map (λ p. p.0) cs))).code k) (joined (map points (map (λ p. p.0) cs)))
      (early_in_turn (map early (map (λ p. p.0) cs)))
  all_come [] k = nothing_comes
  all_come (a ∷ cs) k =
      let others : CmdCode = in_turn (map (cmd_code names) (map (λ p. p.0) cs)) in
      let next : ℕ = k + length (cmd_code names a.0).tables in
      then_comes ((cmd_code names a.0).code k) (others.code next) (points a.0) (joined (map points (map (λ p. p.0) cs)))
      (early a.0) (early_in_turn (map early (map (λ p. p.0) cs))) (a.1 k)
      (all_come cs next)

  step_comes : (y : Cmd-F CmdProved) → StepComes (bare_cmd y)
  step_comes (c.Set x a) k = set_comes x ((expr_code names a).code (length names) k) (occurs a)
      (expr_good a (length names) k (omega arith))
  step_comes (c.Store size a b) k =
      let next : ℕ = k + length (expr_code names a).tables in
      store_comes size ((expr_code names a).code (length names) k) ((expr_code names b).code (length names + 1) next) (occurs a)
      (occurs b) (expr_good a (length names) k (omega arith))
      (expr_good b (length names + 1) next (omega arith))
  step_comes (c.Cond a p q) k =
      let next : ℕ = k + length (expr_code names a).tables in
      let last : ℕ = next + length (cmd_code names p.0).tables in
      if_comes ((expr_code names a).code (length names) k) ((cmd_code names p.0).code next) ((cmd_code names q.0).code last)
      (occurs a) (points p.0) (points q.0) (early p.0) (early q.0)
      (expr_good a (length names) k (omega arith)) (p.1 next) (q.1 last)
  step_comes (c.Seq cs) k = all_come cs k
  step_comes (c.While a p) k =
      let next : ℕ = k + length (expr_code names a).tables in
      while_comes ((expr_code names a).code (length names) k) ((cmd_code names p.0).code next) (occurs a) (points p.0) (early p.0)
      (expr_good a (length names) k (omega arith)) (p.1 next)

  cmd_rolled : (y : Cmd-F Cmd) → StepComes y → CmdComes (roll-Cmd y)
  cmd_rolled y h = rw (
    fold-roll-Cmd CmdCode (cmd_step names) y,
    fold-roll-Cmd (List Point) points_step y,
    fold-roll-Cmd Early
        early_step y,
  ) h

  pub cmd_comes : (a : Cmd) → CmdComes a
  cmd_comes = ind-Cmd CmdComes (λ z y is. subst (λ r. CmdComes (roll-Cmd r)) is (cmd_rolled (bare_cmd y) (step_comes y)))
