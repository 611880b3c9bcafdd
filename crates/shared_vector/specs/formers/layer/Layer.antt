-- `Layer` as a type that may hold the type that holds it.
use mathlib.Core.Path.{◌≡◌, refl, sym}
use mathlib.Core.List.{List, [], map}
use mathlib.Core.Former.{Former, this, const, pair, list, via, children}
use base.Stored.{code_map}
use denote.RattleType.{RattleType}
use denote.HoleLaws.{Alike}
use denote.HolePlaces.{Recodes, struct_places, laid, stays}
use denote.Hole.Carrier.{listed, list-listed}
use denote.Hole.Fix.{over}
use denote.Param.Weighed.{Weighed, w_list}
use denote.Model.Placed.{view_places}
use Rattle.std.specs.declared.alloc.Global.{Global}
use Rattle.std.specs.contracts.alloc.Global as heap
use Rattle.shared_vector.specs.PiecesPlaced.{keeps, natural, pieces, pieces-from, pieces-prop, pieces-to}
use Rattle.shared_vector.specs.contracts.shared.Shared as S
use Rattle.shared_vector.specs.formers.shared.Shared as shared
use Rattle.shared_vector.specs.declared.layer.Layer.TheInside.{Inside}
use Rattle.shared_vector.specs.declared.layer.Layer.TheView.{view, invariant}
use Rattle.shared_vector.specs.contracts.layer.Layer as C
use Rattle.shared_vector.specs.contracts.layer.Layer.TheInside as I

abbrev pub the_former : Former {0} → Former {0}
the_former g = list g

abbrev pub the_weighed : {g : Former {0}} → Weighed g → Weighed (the_former g)
the_weighed w = w_list w

pub the_empty : List ⊥
the_empty = []

abbrev pub the_items : (X : Type 0) → List X → List X
the_items X d = d

pub the_items_listed : (X : Type 0) (d : List X) → listed _ (children (the_former this) X d) ≡ the_items X d
the_items_listed X d = list-listed X d

abbrev fields : Former {0}
fields = via (pair (const Global) pieces) Inside (λ X a. (a.alloc, (a.full, a.rest))) (λ X v. record { alloc = v.0; full = v.1.0; rest = v.1.1 }) (λ X a. refl) (λ X v. refl)

module _ (R S' : RattleType) (h : R.Denot → S'.Denot) where
  pub the_places : Alike R S' h → Alike (C.the_row R) (C.the_row S') ((the_former this).map R.Denot S'.Denot h)
  the_places a =
      let piece = shared.the_places R S' h a in
      view_places fields (list this) view (λ X Y k u. natural k u.full u.rest) (λ X u. keeps u.full u.rest) R.Denot S'.Denot h (C.the_row R).coded (C.the_row S').coded
      (invariant R.Denot) (invariant S'.Denot) (λ u. pieces-prop 4294967296 u.full u.rest) (λ u. pieces-prop 4294967296 u.full u.rest)
      (λ u. pieces-to h 4294967296 u.full u.rest) (λ u. pieces-from h 4294967296 u.full u.rest)
      (over (I.the_row R)) (over (I.the_row S'))
      (struct_places (I.the_type R) (I.the_type S') ((λ g. g), (map (map h), (map h, tt))) _ (λ d. refl) refl
      (stays heap.the_row, (laid _ _ _ (shared.the_places (S.the_row R) (S.the_row S') (map h) piece), (laid _ _ _ piece, tt))))

  pub the_codes_placed : Recodes R S' h → Recodes (C.the_row R) (C.the_row S') ((the_former this).map R.Denot S'.Denot h)
  the_codes_placed e d = sym (code_map R.coded.code S'.coded.code h (λ x. sym (e x)) d)
