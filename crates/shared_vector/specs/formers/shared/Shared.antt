-- `Shared` as a type that may hold the type that holds it.
use mathlib.Core.Path.{◌≡◌, refl, sym}
use mathlib.Core.Logic.{◌⊎◌, inl, inr}
use mathlib.Core.List.{List, []}
use mathlib.Core.Former.{Former, this, const, pair, or, list, via, children}
use base.Stored.{code_map, gnil}
use base.Fml.{ftrue}
use denote.RattleType.{RattleType}
use denote.Memory.{part_of}
use denote.RawPtr.{Ptr}
use denote.Sharing.{nothing}
use denote.HoleLaws.{Alike}
use denote.HolePlaces.{Recodes, struct_places, enum_places, eachs, laid, stays, one_value}
use denote.Hole.Carrier.{listed, list-listed}
use denote.Hole.Fix.{over}
use denote.Param.Weighed.{Weighed, w_list}
use denote.Model.Placed.{held, view_places}
use Rattle.std.specs.Prelude.{Option, Some, None}
use Rattle.std.specs.contracts.option.Option as option
use Rattle.std.specs.formers.vec.Vec as vec
use Rattle.std.specs.declared.vec.Vec.{Vec}
use Rattle.std.specs.contracts.vec.Vec as vec_row
use Rattle.std.specs.declared.sync.Arc.{Arc}
use Rattle.std.specs.contracts.sync.Arc as arc
use Rattle.std.specs.declared.alloc.Global.{Global}
use Rattle.std.specs.contracts.alloc.Global as heap
use Rattle.std.specs.contracts.impls.GlobalAllocator.TheImpl.{ghosts}
use Rattle.shared_vector.specs.declared.shared.Shared.TheInside.{Inside}
use Rattle.shared_vector.specs.declared.shared.Shared.TheView.{view, invariant}
use Rattle.shared_vector.specs.Stored.{stored}
use Rattle.shared_vector.specs.contracts.shared.Shared as C
use Rattle.shared_vector.specs.contracts.shared.Shared.TheInside as I

abbrev pub the_former : Former {0} → Former {0}
the_former g = list g

abbrev pub the_weighed : {g : Former {0}} → Weighed g → Weighed (the_former g)
the_weighed w = w_list w

pub the_empty : List ⊥
the_empty = []

abbrev pub the_items : (X : Type 0) → List X → List X
the_items X d = d

pub the_items_listed : (X : Type 0) (d : List X) → listed _ (children (the_former this) X d) ≡ the_items X d
the_items_listed X d = list-listed X d

-- ---- a counted vector
abbrev Store : Type 0 → Type 0
Store X = Arc (Vec X Global) Global

abbrev stores : Former {0}
stores = via (pair (const Ptr) (vec.the_former this Global)) Store (λ X a. (a.ptr, a.value)) (λ X v. record { ptr = v.0; value = v.1 }) (λ X a. refl) (λ X v. refl)

abbrev with_value : {X Y : Type 0} → Arc X Global → Y → Arc Y Global
with_value a y = record { ptr = a.ptr; value = y }

abbrev store_over : {X Y : Type 0} → (X → Y) → Store X → Store Y
store_over h a = with_value a (vec.mapped h a.value)

-- ---- one or none
module _ {X : Type 0} where
  abbrev split : Option (Store X) → Unit {0} ⊎ Store X
  split None = inl tt
  split (Some a) = inr a

  abbrev join : Unit {0} ⊎ Store X → Option (Store X)
  join (inl u) = None
  join (inr a) = Some a

  join-split : (o : Option (Store X)) → join (split o) ≡ o
  join-split None = refl
  join-split (Some a) = refl

  split-join : (o : Unit {0} ⊎ Store X) → split (join o) ≡ o
  split-join (inl u) = refl
  split-join (inr a) = refl

abbrev options : Former {0}
options = via (or (const (Unit {0})) stores) (λ X. Option (Store X)) (λ X. split) (λ X. join) (λ X. join-split) (λ X. split-join)

abbrev option_over : {X Y : Type 0} → (X → Y) → Option (Store X) → Option (Store Y)
option_over h None = None
option_over h (Some a) = Some (store_over h a)

abbrev fields : Former {0}
fields = via (pair (const Global) options) Inside (λ X a. (a.alloc, a.store)) (λ X v. record { alloc = v.0; store = v.1 }) (λ X a. refl) (λ X v. refl)

module _ (X : Type 0) where
  abbrev with_store : Global → Option (Store X) → Inside X
  with_store g o = record { alloc = g; store = o }

  keeps : (g : Global) (o : Option (Store X)) → held (the_former this) X (stored o) ≡ held fields X (with_store g o)
  keeps g None = refl
  keeps g (Some a) = refl

  module _ (Y : Type 0) (h : X → Y) where
    over_options : (o : Option (Store X)) → options.map X Y h o ≡ option_over h o
    over_options None = refl
    over_options (Some a) = refl

    natural : (g : Global) (o : Option (Store X)) → stored (fields.map X Y h (with_store g o)).store ≡ (the_former this).map X Y h (stored o)
    natural g None = refl
    natural g (Some a) = refl

abbrev vec_of : RattleType → RattleType
vec_of R = vec_row.the_row R heap.the_row ghosts

abbrev arc_of : RattleType → RattleType
arc_of R = arc.the_row R heap.the_row ghosts

module _ (R S : RattleType) (h : R.Denot → S.Denot) where
  arc_places : Alike R S h → Alike (arc_of R) (arc_of S) (λ b. with_value b (h b.value))
  unfolding part_of
  arc_places a = record {
    mir_same = λ i. (arc_of (one_value R (a.mir_same i) (λ _. ftrue) (λ _ _. nothing) gnil)).mir;
    own_same = λ b i. (arc_of (one_value R (a.mir_same i) (a.own_same b.value i) (a.shr_same b.value i) gnil)).own_val (with_value b tt);
    shr_same = λ b i. (arc_of (one_value R (a.mir_same i) (a.own_same b.value i) (a.shr_same b.value i) gnil)).shr_at (with_value b tt);
  }

module _ (R S : RattleType) (h : R.Denot → S.Denot) where
  variant : (o : Option (Store R.Denot))
      → (option.enum (arc_of (vec_of S))).as_values (option_over h o)
      ≡ eachs (option.enum (arc_of (vec_of R))).parts (option.enum (arc_of (vec_of S))).parts (tt, ((store_over h, tt), tt)) ((option.enum (arc_of (vec_of R))).as_values o)
  variant None = refl
  variant (Some a) = refl

  store_places : Alike R S h → Alike (option.the_row (arc_of (vec_of R))) (option.the_row (arc_of (vec_of S))) (option_over h)
  store_places a =
      let below = arc_places (vec_of R) (vec_of S) (vec.mapped h) (vec.the_places heap.the_row ghosts R S h a) in
      enum_places (option.enum (arc_of (vec_of R))) (option.enum (arc_of (vec_of S))) (tt, ((store_over h, tt), tt)) (option_over h) variant refl (tt, ((laid _ _ _ below, tt), tt))

  mapped : (u : Inside R.Denot) → (fields.map R.Denot S.Denot h u).store ≡ option_over h u.store
  mapped u = over_options R.Denot S.Denot h u.store

  pub the_places : Alike R S h → Alike (C.the_row R) (C.the_row S) ((the_former this).map R.Denot S.Denot h)
  the_places a = view_places fields (list this) view (λ X Y k u. natural X Y k u.alloc u.store) (λ X u. keeps X u.alloc u.store) R.Denot S.Denot h (C.the_row R).coded (C.the_row S).coded
      (invariant R.Denot) (invariant S.Denot) (λ u p q. refl) (λ u p q. refl) (λ u e. tt) (λ u e. tt)
      (over (I.the_row R)) (over (I.the_row S))
      (struct_places (I.the_type R) (I.the_type S) ((λ g. g), (option_over h, tt)) _ (λ d i. (d.alloc, (mapped d i, tt))) refl (stays heap.the_row, (laid _ _ _ (store_places a), tt)))

  pub the_codes_placed : Recodes R S h → Recodes (C.the_row R) (C.the_row S) ((the_former this).map R.Denot S.Denot h)
  the_codes_placed e d = sym (code_map R.coded.code S.coded.code h (λ x. sym (e x)) d)
