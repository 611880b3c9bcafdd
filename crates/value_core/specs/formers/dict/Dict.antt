-- `Dict` as a type that may hold the type that holds it.
use mathlib.Core.Path.{◌≡◌, refl, sym, ap, subst}
use mathlib.Core.List.{List, [], ◌∷◌, map}
use mathlib.Core.Bool.{◌&&◌}
use mathlib.Core.Former.{Former, this, const, pair, list, via}
use base.Stored.{code_map, gcons}
use lib.Dec.{T, T_prop}
use denote.RattleType.{RattleType}
use denote.HoleLaws.{Alike}
use denote.HolePlaces.{Recodes, struct_places, laid, stays}
use denote.Hole.Fix.{over}
use denote.Param.Weighed.{Weighed, w_const, w_list, w_pair, w_via}
use denote.Model.Placed.{view_places}
use Rattle.std.specs.Ordering.{is_lt}
use Rattle.std.specs.formers.vec.Vec as vec
use Rattle.std.specs.declared.alloc.Global.{Global}
use Rattle.std.specs.contracts.alloc.Global as heap
use Rattle.std.specs.contracts.impls.GlobalAllocator.TheImpl.{ghosts}
use Rattle.value_core.specs.declared.key.Key.{Key}
use Rattle.value_core.specs.declared.pair.Pair.{Pair}
use Rattle.value_core.specs.declared.dict.Dict.TheInside.{Inside}
use Rattle.value_core.specs.declared.dict.Dict.TheView.{view, invariant}
use Rattle.value_core.specs.Key.{key_cmp}
use Rattle.value_core.specs.Pairs.{pair_code, before_all, keys_rise}
use Rattle.value_core.specs.contracts.key.Key as key
use Rattle.value_core.specs.contracts.pair.Pair as P
use Rattle.value_core.specs.contracts.dict.Dict as C
use Rattle.value_core.specs.contracts.dict.Dict.TheInside as I

-- a pair holds its value, beside a key that stays
abbrev pairs_of : Former {0} → Former {0}
pairs_of g = via (pair (const Key) g) (λ X. Pair (g.Of X)) (λ X p. (p.key, p.value)) (λ X v. record { key = v.0; value = v.1 }) (λ X p. refl) (λ X v. refl)

abbrev pub the_former : Former {0} → Former {0}
the_former g = list (pairs_of g)

abbrev pub the_weighed : {g : Former {0}} → Weighed g → Weighed (the_former g)
the_weighed {g} w = w_list (w_via (w_pair (w_const Key) w) (λ X. Pair (g.Of X)) (λ X p. (p.key, p.value)) (λ X v. record { key = v.0; value = v.1 }) (λ X p. refl) (λ X v. refl))

pub the_empty : List (Pair ⊥)
the_empty = []

abbrev fields : Former {0}
fields = via (vec.the_former (pairs_of this) Global) Inside (λ X a. a.pairs) (λ X v. record { pairs = v }) (λ X a. refl) (λ X v. refl)

abbrev with_value : {X Y : Type 0} → (X → Y) → Pair X → Pair Y
with_value h p = record { key = p.key; value = h p.value }

-- the keys stay, so their order does
before_all-map : {X Y : Type 0} (h : X → Y) (k : Key) (ps : List (Pair X)) → before_all k (map (with_value h) ps) ≡ before_all k ps
before_all-map h k [] = refl
before_all-map h k (p ∷ ps) = ap (λ b. is_lt (key_cmp k p.key) && b) (before_all-map h k ps)

keys_rise-map : {X Y : Type 0} (h : X → Y) (ps : List (Pair X)) → keys_rise (map (with_value h) ps) ≡ keys_rise ps
keys_rise-map h [] = refl
keys_rise-map h (p ∷ ps) = λ i. before_all-map h p.key ps i && keys_rise-map h ps i

module _ (R S : RattleType) (h : R.Denot → S.Denot) where
  pair_places : Alike R S h → Alike (P.the_row R) (P.the_row S) (with_value h)
  pair_places a = struct_places (P.the_type R) (P.the_type S) ((λ k. k), (h, tt)) _ (λ d. refl) refl (stays (key.the_row), (laid R S h a, tt))

  pub the_places : Alike R S h → Alike (C.the_row R) (C.the_row S) ((the_former this).map R.Denot S.Denot h)
  the_places a = view_places fields (the_former this) view (λ X Y k u. refl) (λ X u. refl) R.Denot S.Denot h (C.the_row R).coded (C.the_row S).coded
      (invariant R.Denot) (invariant S.Denot) (λ u. T_prop _) (λ u. T_prop _)
      (λ u. subst T (sym (keys_rise-map h u.pairs.items))) (λ u. subst T (keys_rise-map h u.pairs.items))
      (over (I.the_row R)) (over (I.the_row S))
      (struct_places (I.the_type R) (I.the_type S) (vec.mapped (with_value h), tt) _ (λ d. refl) refl
      (laid _ _ _ (vec.the_places heap.the_row ghosts (P.the_row R) (P.the_row S) (with_value h) (pair_places a)), tt))

  pub the_codes_placed : Recodes R S h → Recodes (C.the_row R) (C.the_row S) ((the_former this).map R.Denot S.Denot h)
  the_codes_placed e d = sym (code_map (pair_code R.coded).code (pair_code S.coded).code (with_value h) (λ p. sym (ap (gcons ((key.the_row).coded.code p.key)) (e p.value))) d)
