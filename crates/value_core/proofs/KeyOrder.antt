-- The order of keys is total, and equal keys are the same.
use Rattle.std.proofs.Common.{◌≡◌, refl, ap, Bool, true, false}
use Rattle.std.specs.declared.cmp.Ordering.{Ordering}
use Rattle.std.specs.declared.cmp.Ordering.TheVariants.{Less, Equal, Greater}
use Rattle.std.specs.Ordering.{bool_cmp, ordering_then, ordering_reverse}
use Rattle.std.specs.Cmp.{IsTotalOrder}
use Rattle.std.specs.FinMap.{IsAntisymmetric, nat_cmp-IsAntisymmetric, int_cmp-IsAntisymmetric, slice_cmp-IsAntisymmetric}
use Rattle.std.proofs.lemmas.Cmp.{on_total, then_total, nat_cmp_total, int_cmp_total, nat_list_cmp_total}
use Rattle.value_core.specs.declared.key.Key.TheVariants.{Bool as bool_key, Int as int_key, Kw as keyword_key, Str as string_key}
use Rattle.value_core.specs.Key.{kind_of, bool_of, int_of, bytes_of, key_cmp}

pub bool_cmp_total : IsTotalOrder bool_cmp
bool_cmp_total = record { antisymm = turned; trans = chained; congr = tied }
  where
    turned : (x y : Bool) → bool_cmp x y ≡ ordering_reverse (bool_cmp y x)
    turned false false = refl
    turned false true = refl
    turned true false = refl
    turned true true = refl

    chained : (x y z : Bool) → bool_cmp x y ≡ Less → bool_cmp y z ≡ Less → bool_cmp x z ≡ Less
    chained false false false p q = p
    chained false false true p q = refl
    chained false true false p q = cc
    chained false true true p q = refl
    chained true false false p q = cc
    chained true false true p q = cc
    chained true true false p q = cc
    chained true true true p q = cc

    tied : (x y z : Bool) → bool_cmp x y ≡ Equal → bool_cmp x z ≡ bool_cmp y z
    tied false false z p = refl
    tied false true z p = cc
    tied true false z p = cc
    tied true true z p = refl

pub key_cmp_total : IsTotalOrder key_cmp
unfolding key_cmp
key_cmp_total = then_total (on_total kind_of nat_cmp_total) (then_total (on_total bool_of bool_cmp_total) (then_total (on_total int_of int_cmp_total) (on_total bytes_of nat_list_cmp_total)))

first_equal : (o p : Ordering) → ordering_then o p ≡ Equal → o ≡ Equal
first_equal Less p e = e
first_equal Equal p e = refl
first_equal Greater p e = e

bool_cmp-IsAntisymmetric : IsAntisymmetric bool_cmp
bool_cmp-IsAntisymmetric false false e = refl
bool_cmp-IsAntisymmetric false true e = cc
bool_cmp-IsAntisymmetric true false e = cc
bool_cmp-IsAntisymmetric true true e = refl

pub key_cmp-IsAntisymmetric : IsAntisymmetric key_cmp
unfolding key_cmp
key_cmp-IsAntisymmetric (bool_key a) (bool_key b) e = ap bool_key (bool_cmp-IsAntisymmetric a b (first_equal _ _ e))
key_cmp-IsAntisymmetric (bool_key a) (int_key b) e = cc
key_cmp-IsAntisymmetric (bool_key a) (keyword_key b) e = cc
key_cmp-IsAntisymmetric (bool_key a) (string_key b) e = cc
key_cmp-IsAntisymmetric (int_key a) (bool_key b) e = cc
key_cmp-IsAntisymmetric (int_key a) (int_key b) e = ap int_key (int_cmp-IsAntisymmetric a b (first_equal _ _ e))
key_cmp-IsAntisymmetric (int_key a) (keyword_key b) e = cc
key_cmp-IsAntisymmetric (int_key a) (string_key b) e = cc
key_cmp-IsAntisymmetric (keyword_key a) (bool_key b) e = cc
key_cmp-IsAntisymmetric (keyword_key a) (int_key b) e = cc
key_cmp-IsAntisymmetric (keyword_key a) (keyword_key b) e = ap keyword_key (slice_cmp-IsAntisymmetric nat_cmp-IsAntisymmetric a b e)
key_cmp-IsAntisymmetric (keyword_key a) (string_key b) e = cc
key_cmp-IsAntisymmetric (string_key a) (bool_key b) e = cc
key_cmp-IsAntisymmetric (string_key a) (int_key b) e = cc
key_cmp-IsAntisymmetric (string_key a) (keyword_key b) e = cc
key_cmp-IsAntisymmetric (string_key a) (string_key b) e = ap string_key (slice_cmp-IsAntisymmetric nat_cmp-IsAntisymmetric a b e)
