-- How a `Box` holds its value, so that the type of the value may hold itself through one: it is the value.
use mathlib.Core.Path.{refl}
use mathlib.Core.Former.{Former, this, const, pair, via}
use base.Stored.{gnil}
use base.Fml.{ftrue}
use denote.RattleType.{RattleType}
use denote.Memory.{part_of}
use denote.RawPtr.{Ptr}
use denote.Sharing.{nothing}
use denote.HoleLaws.{Alike}
use denote.HolePlaces.{Recodes, struct_places, laid, one_value}
use denote.Hole.Fix.{over}
use denote.Param.Weighed.{Weighed}
use denote.Model.Placed.{view_places}
use Rattle.std.specs.declared.boxed.Box as std_box
use Rattle.std.specs.contracts.boxed.Box as std_rows
use Rattle.std.specs.declared.alloc.Global.{Global}
use Rattle.std.specs.contracts.alloc.Global as heap
use Rattle.std.specs.contracts.impls.GlobalAllocator.TheImpl.{ghosts}
use Rattle.rup_base.specs.declared.boxed.Box.TheInside.{Inside}
use Rattle.rup_base.specs.declared.boxed.Box.TheView.{view, invariant}
use Rattle.rup_base.specs.contracts.boxed.Box as whole
use Rattle.rup_base.specs.contracts.boxed.Box.TheInside as fields

abbrev pub the_former : Former {0} → Former {0}
the_former value = value

abbrev pub the_weighed : {value : Former {0}} → Weighed value → Weighed (the_former value)
the_weighed w = w

-- the one field: a pointer, its allocator, and what it points to
abbrev held : Former {0}
held = via (pair (const (Ptr × Global)) this) Inside (λ X b. ((b.at.ptr, b.at.alloc), b.at.value))
    (λ X p. record { at = record { ptr = p.0.0; alloc = p.0.1; value = p.1 } }) (λ X b. refl) (λ X p. refl)

-- the same pointer, to another value
abbrev with_value : {X Y : Type 0} → std_box.Box X Global → Y → std_box.Box Y Global
with_value b y = record { ptr = b.ptr; alloc = b.alloc; value = y }

abbrev pointer_to : RattleType → RattleType
pointer_to R = std_rows.the_row R heap.the_row ghosts

module _ (R S : RattleType) (h : R.Denot → S.Denot) where
  pointer_places : Alike R S h → Alike (pointer_to R) (pointer_to S) (λ b. with_value b (h b.value))
  unfolding part_of
  pointer_places a = record {
    mir_same = λ i. (pointer_to (one_value R (a.mir_same i) (λ _. ftrue) (λ _ _. nothing) gnil)).mir;
    own_same = λ b i. (pointer_to (one_value R (a.mir_same i) (a.own_same b.value i) (a.shr_same b.value i) gnil)).own_val
        (with_value b tt);
    shr_same = λ b i. (pointer_to (one_value R (a.mir_same i) (a.own_same b.value i) (a.shr_same b.value i) gnil)).shr_at
        (with_value b tt);
  }

  pub the_places : Alike R S h → Alike (whole.the_row R) (whole.the_row S) ((the_former this).map R.Denot S.Denot h)
  the_places a = view_places held this view (λ X Y k u. refl) (λ X u. refl) R.Denot S.Denot h (whole.the_row R).coded
      (whole.the_row S).coded
      (invariant R.Denot) (invariant S.Denot) (λ u p q. refl) (λ u p q. refl) (λ u e. tt) (λ u e. tt)
      (over (fields.the_row R)) (over (fields.the_row S))
      (struct_places (fields.the_type R) (fields.the_type S) ((λ b. with_value b (h b.value)), tt) _ (λ d. refl) refl
      (laid _ _ _ (pointer_places a), tt))

  pub the_codes_placed : Recodes R S h → Recodes (whole.the_row R) (whole.the_row S) ((the_former this).map R.Denot S.Denot h)
  the_codes_placed e d = e d
