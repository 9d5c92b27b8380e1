-- What s-for gives is right, from its kids on.
use Rattle.std.proofs.Common.{◌≡◌, refl, sym, ◌∙◌, ap, subst, ℕ, ◌+◌, Bool, true, false, ℤ, pos, drop, List, length, map, Option}
use Rattle.std.proofs.Common.{Some, None, nat_lt}
use Rattle.std.specs.Int.Signed.{le_z}
use Rattle.std.specs.List.{list_all}
use Rattle.std.proofs.lemmas.Bool.{ltb-true}
use Rattle.rup_base.specs.Word.{counted}
use Rattle.side_certs.specs.LinearForm.{LinearForm}
use Rattle.side_certs.specs.declared.certificate.Cert.{Cert}
use Rattle.model_syntax.specs.declared.expr.Expr.{Expr}
use Rattle.model_syntax.specs.declared.expr.Scalar.TheVariants.{Word}
use Rattle.model_syntax.specs.declared.program.Param.{Param}
use Rattle.model_syntax.specs.declared.scope.NameType.TheVariants.{Scalar as One}
use Rattle.model_syntax.specs.declared.stmt.Le.{Le}
use Rattle.model_syntax.specs.declared.stmt.Stmt.{Stmt}
use Rattle.model_syntax.specs.Environment.{Env}
use Rattle.model_syntax.specs.Limits.{next}
use Rattle.model_syntax.specs.Names.{Name}
use Rattle.model_syntax.specs.Scope.{Scope, bind}
use Rattle.model_syntax.specs.Sound.{IsTyped}
use Rattle.model_syntax.specs.Types as types
use Rattle.model_syntax.specs.Value.{run, in_turn, eval, folded, loop_turn, numbers}
use Rattle.sym_heap.specs.Context.{Context, back_to}
use Rattle.sym_heap.specs.Ends.{Standing, standing}
use Rattle.sym_heap.specs.Fits.{Known}
use Rattle.sym_heap.proofs.laws.Moves.{restored_moves}
use Rattle.sym_heap.proofs.laws.States.{known_more, taken_length}
use Rattle.expr_rules.specs.declared.output.ExprOut.{ExprOut}
use Rattle.expr_rules.specs.Sound.{ExprDone, Yields}
use Rattle.expr_rules.specs.Words.{Rule, ◌>>=◌, give, found}
use Rattle.expr_rules.proofs.laws.Yields.{yields_then, yields_found}
use Rattle.stmt_rules.specs.declared.loops.Counter.{Counter}
use Rattle.stmt_rules.specs.declared.output.StmtOut.{StmtOut}
use Rattle.stmt_rules.specs.Nesting.{now}
use Rattle.stmt_rules.specs.Loops.{local_arg, is_entry_term, is_entry_form, entry_form, trip_form}
use Rattle.stmt_rules.specs.Sound.{StmtDone, AreSound}
use Rattle.stmt_rules.specs.Words.{flat}
use Rattle.stmt_rules.specs.rules.For as for_rule
use Rattle.stmt_rules.proofs.Sequence.{and_parts}
use Rattle.stmt_rules.proofs.sound.For.{LoopStarted, starts_yield, unused_parts, over as loop_after, for_done}
use Rattle.stmt_rules.proofs.sound.ForEnd.{LoopEnded, ends_yield, leaves_are, each_at}
use Rattle.stmt_rules.proofs.sound.ForStart.{begun_loop, begins_are, begun_good, begun_scoped, loop_began}
use Rattle.stmt_rules.proofs.sound.ForTurn.{LoopDone, follows, more_tops, entries_same}
use Rattle.stmt_rules.proofs.sound.ForTyped.{ForFormed, ForTyped}

-- The arguments.

-- the trip form mentions only entry symbols
pub counter_yields : (at : ℕ) (args : List ℤ) (c : Context)
    → Yields (λ k d. (d ≡ c) × Known c.entries k.trips) (for_rule.counter at args c)
counter_yields at args c =
    yields_found Q c (local_arg 0 args) at 3
    (λ li. found (local_arg 1 args) at 3
    >>= (λ lh. trip_form at (drop 2 args) >>= (λ t. give (record { count = li; last = lh; trips = t }))))
    (λ li is_li. yields_found Q c (local_arg 1 args) at 3
    (λ lh. trip_form at (drop 2 args) >>= (λ t. give (record { count = li; last = lh; trips = t })))
    (λ lh is_lh. yields_found Q c (entry_form c.entries (flat (drop 2 args))) at 3
    (λ t. give (record { count = li; last = lh; trips = t }))
    (λ t is_t. (refl, entries_known c.entries (flat (drop 2 args)) t is_t))))
  where
    Q : Counter → Context → Type 0
    Q k d = (d ≡ c) × Known c.entries k.trips

    known : (n : ℕ) (f : LinearForm) → is_entry_form n f ≡ true → Known n f
    known n f is i t there =
        let both = and_parts (le_z (pos 0) f.constant) (list_all (is_entry_term n) f.terms) is in
        let term = each_at (is_entry_term n) f.terms both.1 i t there in
        ltb-true t.0 n (and_parts (nat_lt t.0 n) (le_z (pos 0) t.1) term).0

    entries_known : (n : ℕ) (o : Option LinearForm) (t : LinearForm) → entry_form n o ≡ Some t → Known n t
    entries_known n None t is = absurd (let bad : None ≡ Some t = is in cc)
    entries_known n (Some f) t is = by (is_entry_form n f) refl where
      by : (b : Bool) → is_entry_form n f ≡ b → Known n t
      by false e = absurd (let bad : None ≡ Some t = rw e at is in cc)
      by true e = (let both : Some f ≡ Some t = rw e at is in let one : f ≡ t = cc in
          subst (λ (g : LinearForm). Known n g) one (known n f e))

-- From the kids on.

module _ (ps : List Param) (scope : Scope) (j : ℕ) (state : types.State) (x : Name) (low high : Expr) (names : List Name)
    (keep : List Le) (body : List Stmt) (at : ℕ) (certs : List Cert)
    (k : Counter) (block : Rule StmtOut) (formed : ForFormed low high body)
    (is_typed : ForTyped x low high names body j scope state) (block_sound : AreSound body block)
    (typed : (lengths : Name → ℕ) (env : Env) → IsTyped lengths scope env
    → IsTyped lengths scope (folded (loop_turn x names (map run body)) (numbers (eval low env) (eval high env)) env)) where
  abbrev pub Looped : Context → StmtOut → Context → Type 0
  Looped c0 = StmtDone ps scope scope
      (λ env. folded (loop_turn x names (map run body)) (numbers (eval low env) (eval high env)) env) c0

  module _ (c0 mid c : Context) (p q : ExprOut) (one : ExprDone ps scope (eval low) Word c0 p mid)
      (two : ExprDone ps scope (eval high) Word mid q c) (trips_known : Known c.entries k.trips) where
    abbrev begun : Context
    begun = begun_loop x names keep k p.form q.form c

    abbrev BlockDone : StmtOut → Context → Type 0
    BlockDone = StmtDone ps (bind x (One Word) scope) is_typed.last.1 (in_turn (map run body)) begun

    abbrev HasEnded : Context → Standing → Context → Type 0
    HasEnded e = LoopEnded x names keep (standing c) (standing begun) e

    low_known : Known (length c.tops) p.form
    low_known = known_more (length mid.tops) (length c.tops) p.form (taken_length mid.tops c.tops two.extends.tops) one.known

    loop_done : (s : LoopStarted x keep k p.form q.form c c) (out : StmtOut) (e : Context) → BlockDone out e
        → (s2 : Standing) (back : Context) → HasEnded e s2 back
        → LoopDone ps scope is_typed.last.1 x names keep body k p.form q.form c out e
    loop_done s out e done s2 back ended =
        let free = unused_parts k c s.unused in
        record {
          good = two.consistent;
          scoped = two.scoped;
          low_known = low_known;
          high_known = two.known;
          free_count = free.0;
          free_last = free.1.0;
          apart = free.1.1;
          may = is_typed.may;
          kept = is_typed.kept;
          done = done;
          places = ended.places;
          arrays = ended.arrays;
          hold = ended.hold;
        }

    abbrev leaving : StmtOut → Standing → Rule StmtOut
    leaving out end_ = for_rule.leaves at x names keep end_ >>= (λ _. give (for_rule.looping k p.code q.code out))

    abbrev ending : StmtOut → Rule StmtOut
    ending out = for_rule.ends at x names keep (counted (1 + length keep)) (drop (1 + length keep) certs) (standing c)
        (standing begun) >>= leaving out

    ends_all : (s : LoopStarted x keep k p.form q.form c c) (out : StmtOut) (e : Context) → BlockDone out e
        → Yields (Looped c0) (ending out e)
    ends_all s out e done =
        yields_then (Looped c0) e (HasEnded e)
        (for_rule.ends at x names keep (counted (1 + length keep)) (drop (1 + length keep) certs) (standing c)
        (standing begun)) (leaving out)
        (ends_yield at (counted (1 + length keep)) x names keep (drop (1 + length keep) certs) (standing c) (standing begun) e)
        (λ s2 back ended.
        let d = loop_done s out e done s2 back ended in
        let returns : back ≡ back_to c e =
        ended.after_is ∙ (restored_moves c e (loop_began x names keep k p.form q.form c e done.moves)).0 in
        rw (ended.stood, returns)
        (yields_then (Looped c0) (back_to c e) (λ _ f. f ≡ over d) (for_rule.leaves at x names keep (standing e))
        (λ _. give (for_rule.looping k p.code q.code out))
        (leaves_are ps x names keep scope is_typed.last.1 c e d.good d.done.consistent d.scoped d.done.scoped d.kept
        (follows ps scope is_typed.last.1 x names keep body k p.form q.form c out e d)
        (more_tops ps scope is_typed.last.1 x names keep body k p.form q.form c out e d)
        (entries_same ps scope is_typed.last.1 x names keep body k p.form q.form c out e d) d.places d.arrays at)
        (λ u f is. subst (λ (z : Context). Looped c0 (for_rule.looping k p.code q.code out) z) (sym is)
        (for_done ps scope is_typed.last.1 x names keep body low high k c0 mid c p q one two trips_known out e d s.trips s.facts
        typed))))
      where
        over : LoopDone ps scope is_typed.last.1 x names keep body k p.form q.form c out e → Context
        over d = loop_after ps scope is_typed.last.1 x names keep body low high k c0 mid c p q one two trips_known out e d s.trips
            s.facts typed

    -- at the start of the block
    record Opened (marks : Standing × Standing) (d : Context) : Type 0 where
      is : d ≡ begun
      stood : marks ≡ (standing c, standing begun)
      started : LoopStarted x keep k p.form q.form c c

    abbrev from_start : Unit {0} → Rule (Standing × Standing)
    from_start u before = (for_rule.begins at x names keep k p.form q.form before.scalars
        >>= (λ _. now >>= (λ d. give (standing before, standing d)))) before

    opens_yield : Yields Opened (for_rule.opens at x names keep certs k p.form q.form c)
    opens_yield =
        yields_then Opened c (λ _ d. LoopStarted x keep k p.form q.form c d) (for_rule.starts at x keep certs k p.form q.form)
        from_start
        (starts_yield at x keep certs k p.form q.form c)
        (λ u d s. subst (λ (z : Context). Yields Opened (from_start u z)) (sym s.is)
        (yields_then Opened c (λ _ f. f ≡ begun) (for_rule.begins at x names keep k p.form q.form c.scalars)
        (λ _. now >>= (λ f. give (standing c, standing f))) (begins_are x names keep k p.form q.form c at)
        (λ w f is. record {
          is = is;
          stood = ap (λ (z : Context). (standing c, standing z)) is;
          started = record { is = refl; unused = s.unused; trips = s.trips; facts = s.facts };
        })))

    abbrev from_block : Standing × Standing → Rule StmtOut
    from_block marks = block >>= for_rule.finishes at x names keep certs k p.code q.code marks

    begun_yields : LoopStarted x keep k p.form q.form c c → Yields (Looped c0) (from_block (standing c, standing begun) begun)
    begun_yields s =
        let free = unused_parts k c s.unused in
        yields_then (Looped c0) begun BlockDone block ending
        (block_sound ps (bind x (One Word) scope) (next j) is_typed.last begun
        (begun_good x names keep k p.form q.form c two.consistent low_known two.known free.0)
        (begun_scoped x names keep k p.form q.form c two.consistent low_known two.known free.0 ps scope is_typed.may two.scoped)
        formed.body_formed formed.body_spelled is_typed.body_typed)
        (λ out e done. ends_all s out e done)

    pub for_yields : Yields (Looped c0) (for_rule.after at x names keep certs k p q block c)
    for_yields =
        yields_then (Looped c0) c Opened (for_rule.opens at x names keep certs k p.form q.form) from_block opens_yield
        (λ marks d o. rw (o.is, o.stood) (begun_yields o.started))
