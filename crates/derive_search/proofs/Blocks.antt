-- What the search finds for the statements of a block, where it finds instances for each of them.
use Rattle.std.proofs.Common.{◌≡◌, refl, sym, ◌∙◌, subst, arith, ℕ, ◌+◌, List, [], ◌∷◌, ◌++◌, map, sum, append-nil}
use Rattle.std.proofs.lemmas.List.Sums.{sum_by-cons}
use Rattle.rup_base.specs.Gather.{greatest}
use Rattle.model_syntax.specs.declared.stmt.Stmt.{Stmt}
use Rattle.model_syntax.specs.Limits as limits
use Rattle.deriv_tree.specs.Measure as measure
use Rattle.deriv_tree.specs.Measure.{stmt_size}
use Rattle.deriv_tree.specs.declared.tree.StmtNode.{StmtNode}
use Rattle.stmt_rules.specs.Row.{judged}
use Rattle.stmt_rules.specs.Words.{joined}
use Rattle.derive_search.specs.Guide.{Guide}
use Rattle.derive_search.specs.declared.seeker.Seeker.{Seeker}
use Rattle.derive_search.specs.Words.{Seek, ◌>>=◌, give}
use Rattle.derive_search.specs.Nodes.{Adds, in_order}
use Rattle.derive_search.specs.Statements.{after_notes, seek_stmt}
use Rattle.derive_search.specs.Instance.{Gives, StmtDerives, BlockDerives}
use Rattle.derive_search.proofs.Adding.{Added, Notes, added_none, added_on, gives_more}
use Rattle.derive_search.proofs.Depth.{joined_top}
use Rattle.derive_search.proofs.laws.Walking.{gives_then}

module _ (guide : Guide) where
  none : (k : Seeker) → BlockDerives guide [] k [] k
  none k = record {
    outs = λ out. out;
    row = λ owner cond out. refl;
    entered = omega arith;
    sized = refl;
    few = λ few. few;
    shaped = refl;
    shallow = λ plain. omega arith;
  }

  further : (z : Stmt) (zs : List Stmt) (n : StmtNode) (own : List StmtNode) (k t u : Seeker)
      → StmtDerives guide z k n t → BlockDerives guide zs t own u → BlockDerives guide (z ∷ zs) k (n ∷ own) u
  further z zs n own k t u one rest =
      let entered = one.entered in let sized = one.sized in let more = rest.entered in
      let sum_is : sum (map stmt_size (n ∷ own)) ≡ stmt_size n + sum (map stmt_size own) =
      sum_by-cons (λ m. m) (stmt_size n) (map stmt_size own) in
      let more_sized = rest.sized in
      let sizes : List ℕ = map (λ m. m.size) (map (judged guide.turn) own) in
      let judged_is : sum (map (λ m. m.size) (map (judged guide.turn) (n ∷ own))) ≡ (judged guide.turn n).size + sum sizes =
      sum_by-cons (λ m. m) (judged guide.turn n).size sizes in
      record {
        outs = λ out. rest.outs (joined out one.out);
        row = λ owner cond out. rw (one.is_note, one.row) (rw (sym one.entered) (rest.row owner cond (joined out one.out)));
        entered = omega (arith, entered, sized, more, sum_is);
        sized = omega (arith, sized, more_sized, sum_is, judged_is);
        few = λ few. rest.few one.few;
        shaped = rw (one.shaped, rest.shaped) refl;
        shallow = λ plain.
            joined_top (measure.stmt_depth n) (greatest (map measure.stmt_depth own))
            (limits.stmt_depth z) (greatest (map limits.stmt_depth zs))
            (limits.stmt_blocks z) (greatest (map limits.stmt_blocks zs)) (one.shallow plain) (rest.shallow plain);
      }

  -- a statement after its notes
  pub noted_derives : (z : Stmt) (notes : Adds) (next : Seek StmtNode)
      → Notes guide notes → ((t : Seeker) → Gives (StmtDerives guide z t) (next t))
      → (done : List StmtNode) (k : Seeker) → Gives (Added guide (z ∷ []) done k) (after_notes notes next done k)
  noted_derives z notes next before own done k =
      gives_then (Added guide (z ∷ []) done k) k (Added guide [] done k) (notes done)
      (λ ns. next >>= (λ n. give (ns ++ n ∷ []))) (before done k)
      (λ ns t one. gives_then (Added guide (z ∷ []) done k) t (StmtDerives guide z t) next (λ n. give (ns ++ n ∷ [])) (own t)
      (λ n u d. added_on guide [] (z ∷ []) done ns (ns ++ n ∷ []) k t u one
      (record { own = n ∷ []; is = refl; leads = λ ts rest v more. further z ts n rest t u v d more })))

  module _ (deep : ℕ) where
    -- what is found for the statement, from whichever moment of the search, is an instance
    abbrev pub Derivable : Stmt → Type 0
    Derivable t = (done : List StmtNode) (k : Seeker) → Gives (Added guide (t ∷ []) done k) (seek_stmt guide deep t done k)

    -- the same of each of the statements
    abbrev pub Derivables : List Stmt → Type 0
    Derivables [] = Unit {0}
    Derivables (t ∷ ts) = Derivable t × Derivables ts

    abbrev pub searches : List Stmt → List Adds
    searches ts = map (seek_stmt guide deep) ts

    in_order_derives : (ts : List Stmt) → Derivables ts → (done : List StmtNode) (k : Seeker)
        → Gives (Added guide ts done k) (in_order (searches ts) done k)
    in_order_derives [] each done k = added_none guide done k
    in_order_derives (z ∷ zs) each done k =
        gives_then (Added guide (z ∷ zs) done k) k (Added guide (z ∷ []) done k) (seek_stmt guide deep z done)
        (λ ns. in_order (searches zs) ns) (each.0 done k)
        (λ ns t one. gives_more (Added guide zs ns t) (Added guide (z ∷ zs) done k)
        (λ ms u more. added_on guide (z ∷ []) zs done ns ms k t u one more)
        (in_order (searches zs) ns t) (in_order_derives zs each.1 ns t))

    pub block_derives : (ts : List Stmt) → Derivables ts → (k : Seeker)
        → Gives (BlockDerives guide ts k) (in_order (searches ts) [] k)
    block_derives ts each k =
        gives_more (Added guide ts [] k) (BlockDerives guide ts k)
        (λ ns t all.
        (let found : BlockDerives guide (ts ++ []) k (all.own ++ []) t = all.leads [] [] t (none t) in
        subst (λ (l : List StmtNode). BlockDerives guide ts k l t) (append-nil all.own ∙ sym all.is)
        (subst (λ (l : List Stmt). BlockDerives guide l k (all.own ++ []) t) (append-nil ts) found)))
        (in_order (searches ts) [] k) (in_order_derives ts each [] k)
