-- How a `List` holds its elements, so that the type of an element may hold itself through one: it is the
-- list of them.
use mathlib.Core.Path.{refl, sym}
use mathlib.Core.List as core
use mathlib.Core.Former.{Former, this, list, via, children}
use base.Stored.{code_map}
use denote.RattleType.{RattleType}
use denote.HoleLaws.{Alike}
use denote.HolePlaces.{Recodes, struct_places, laid}
use denote.Hole.Carrier.{listed, list-listed}
use denote.Hole.Fix.{over}
use denote.Param.Weighed.{Weighed, w_list}
use denote.Model.Placed.{view_places}
use mathlib.Core.Path.{◌≡◌}
use Rattle.std.specs.formers.vec.Vec as vec
use Rattle.std.specs.declared.alloc.Global.{Global}
use Rattle.std.specs.contracts.alloc.Global as heap
use Rattle.std.specs.contracts.impls.GlobalAllocator.TheImpl.{ghosts}
use Rattle.rup_base.specs.declared.list.List.TheInside.{Inside}
use Rattle.rup_base.specs.declared.list.List.TheView.{view, invariant}
use Rattle.rup_base.specs.contracts.list.List as whole
use Rattle.rup_base.specs.contracts.list.List.TheInside as fields

abbrev pub the_former : Former {0} → Former {0}
the_former element = list element

abbrev pub the_weighed : {element : Former {0}} → Weighed element → Weighed (the_former element)
the_weighed w = w_list w

abbrev pub the_empty : core.List ⊥
the_empty = core.[]

abbrev pub the_items : (X : Type 0) → core.List X → core.List X
the_items X elements = elements

pub the_items_listed : (X : Type 0) (elements : core.List X) → listed _ (children (the_former this) X elements)
    ≡ the_items X elements
the_items_listed X elements = list-listed X elements

-- the one field, a `Vec` of them
abbrev held : Former {0}
held = via (vec.the_former this Global) Inside (λ X l. l.elements) (λ X v. record { elements = v }) (λ X l. refl) (λ X v. refl)

module _ (R S : RattleType) (h : R.Denot → S.Denot) where
  pub the_places : Alike R S h → Alike (whole.the_row R) (whole.the_row S) ((the_former this).map R.Denot S.Denot h)
  the_places a = view_places held (list this) view (λ X Y k u. refl) (λ X u. refl) R.Denot S.Denot h (whole.the_row R).coded
      (whole.the_row S).coded
      (invariant R.Denot) (invariant S.Denot) (λ u p q. refl) (λ u p q. refl) (λ u e. tt) (λ u e. tt)
      (over (fields.the_row R)) (over (fields.the_row S))
      (struct_places (fields.the_type R) (fields.the_type S) (vec.mapped h, tt) _ (λ d. refl) refl
      (laid _ _ _ (vec.the_places heap.the_row ghosts R S h a), tt))

  pub the_codes_placed : Recodes R S h → Recodes (whole.the_row R) (whole.the_row S) ((the_former this).map R.Denot S.Denot h)
  the_codes_placed e d = sym (code_map R.coded.code S.coded.code h (λ x. sym (e x)) d)
