-- What holds of the items or the values of a collection holds of what they become where some are put in or go.
use Rattle.std.proofs.Common.{ℤ, pos, negsuc, Bool, true, false, List, [], ◌∷◌, ◌++◌, length, cond}
use Rattle.std.specs.Prelude.{◌==◌, nat_lt, Option, None, Some, All, fold, slice_set}
use Rattle.std.specs.declared.cmp.Ordering.{Ordering}
use Rattle.std.specs.declared.cmp.Ordering.TheVariants.{Less, Equal, Greater}
use Rattle.std.specs.Ordering.{is_ne}
use Rattle.std.specs.Option.{option_map_or}
use Rattle.std.proofs.lemmas.List.Elements.{All-nil, All-cons, All-head, All-tail, All-push, All-set, All-filter}
use Rattle.value_core.specs.declared.key.Key.{Key}
use Rattle.value_core.specs.declared.pair.Pair.{Pair}
use Rattle.value_core.specs.declared.value.Value.{Value}
use Rattle.value_core.specs.Key.{key_cmp}
use Rattle.value_core.specs.Pairs.{put_key, without_key, by_order, pair_of}
use Rattle.value_core.specs.ToKey.{key_of}
use Rattle.value_core.specs.primitives.Kinds.{int_of}
use Rattle.value_core.specs.primitives.Parts.{paired, put_entry, placed, place_entry, drop_key}

-- it holds of what is there
abbrev pub OfOption : {X : Type 0} → (X → Type 0) → Option X → Type 0
OfOption P None = Unit {0}
OfOption P (Some x) = P x

pub option_by_test : {X : Type 0} (P : X → Type 0) (b : Bool) (r s : Option X) → OfOption P r → OfOption P s → OfOption P (cond b r s)
option_by_test P true r s first second = first
option_by_test P false r s first second = second

module _ (P : Value → Type 0) where
  abbrev pub OfPairs : List (Pair Value) → Type 0
  OfPairs ps = All (λ (p : Pair Value). P p.value) ps

  -- what stands behind the keys
  abbrev pub OfEntries : List (Value × Value) → Type 0
  OfEntries entries = All (λ (e : Value × Value). P e.1) entries

  pub paired-carries : (args : List Value) → All P args → OfEntries (paired args)
  paired-carries [] all = All-nil (λ (e : Value × Value). P e.1)
  paired-carries (key ∷ []) all = All-nil (λ (e : Value × Value). P e.1)
  paired-carries (key ∷ v ∷ rest) all =
      let tail = All-tail P key (v ∷ rest) all in
      All-cons (λ (e : Value × Value). P e.1) (key, v) (paired rest) (All-head P v rest tail) (paired-carries rest (All-tail P v rest tail))

  pub put_key-carries : (k : Key) (v : Value) (ps : List (Pair Value)) → P v → OfPairs ps → OfPairs (put_key k v ps)
  put_key-carries k v [] holds all = All-cons (λ (p : Pair Value). P p.value) (pair_of k v) [] holds all
  put_key-carries k v (p ∷ ps) holds all = on (key_cmp p.key k) (put_key-carries k v ps holds (All-tail (λ (p : Pair Value). P p.value) p ps all))
    where
      here : P p.value
      here = All-head (λ (p : Pair Value). P p.value) p ps all

      behind : OfPairs ps
      behind = All-tail (λ (p : Pair Value). P p.value) p ps all

      on : (order : Ordering) → OfPairs (put_key k v ps) → OfPairs (by_order order (p ∷ put_key k v ps) (pair_of k v ∷ ps) (pair_of k v ∷ p ∷ ps))
      on Less put = All-cons (λ (p : Pair Value). P p.value) p (put_key k v ps) here put
      on Equal put = All-cons (λ (p : Pair Value). P p.value) (pair_of k v) ps holds behind
      on Greater put = All-cons (λ (p : Pair Value). P p.value) (pair_of k v) (p ∷ ps) holds all

  pub put_entry-carries : (ps : List (Pair Value)) (e : Value × Value) → OfPairs ps → P e.1 → OfPairs (put_entry ps e)
  put_entry-carries ps e all holds = on (key_of e.0)
    where
      on : (found : Option Key) → OfPairs (option_map_or (λ k. put_key k e.1 ps) found ps)
      on None = all
      on (Some k) = put_key-carries k e.1 ps holds all

  pub put_entries-carries : (ps : List (Pair Value)) (entries : List (Value × Value)) → OfPairs ps → OfEntries entries → OfPairs (fold put_entry ps entries)
  put_entries-carries ps [] all holds = all
  put_entries-carries ps (e ∷ entries) all holds =
      put_entries-carries (put_entry ps e) entries (put_entry-carries ps e all (All-head (λ (e : Value × Value). P e.1) e entries holds))
      (All-tail (λ (e : Value × Value). P e.1) e entries holds)

  pub placed-carries : (items : List Value) (n : ℤ) (v : Value) → All P items → P v → OfOption (All P) (placed items n v)
  placed-carries items (pos i) v all holds =
      option_by_test (All P) (nat_lt i (length items)) (Some (slice_set items i v)) (cond (i == length items) (Some (items ++ v ∷ [])) None) (All-set P items i v holds all)
      (option_by_test (All P) (i == length items) (Some (items ++ v ∷ [])) None (All-push P items v all holds) tt)
  placed-carries items (negsuc i) v all holds = tt

  pub place_entry-carries : (so_far : Option (List Value)) (e : Value × Value) → OfOption (All P) so_far → P e.1 → OfOption (All P) (place_entry so_far e)
  place_entry-carries None e all holds = tt
  place_entry-carries (Some items) e all holds = placed-carries items (int_of e.0) e.1 all holds

  pub place_entries-carries : (so_far : Option (List Value)) (entries : List (Value × Value)) → OfOption (All P) so_far → OfEntries entries → OfOption (All P) (fold place_entry so_far entries)
  place_entries-carries so_far [] all holds = all
  place_entries-carries so_far (e ∷ entries) all holds =
      place_entries-carries (place_entry so_far e) entries (place_entry-carries so_far e all (All-head (λ (e : Value × Value). P e.1) e entries holds))
      (All-tail (λ (e : Value × Value). P e.1) e entries holds)

  pub drop_key-carries : (ps : List (Pair Value)) (v : Value) → OfPairs ps → OfPairs (drop_key ps v)
  drop_key-carries ps v all = on (key_of v)
    where
      on : (found : Option Key) → OfPairs (option_map_or (λ k. without_key k ps) found ps)
      on None = all
      on (Some k) = All-filter (λ (p : Pair Value). is_ne (key_cmp p.key k)) (λ (p : Pair Value). P p.value) ps all

  pub drop_keys-carries : (ps : List (Pair Value)) (keys : List Value) → OfPairs ps → OfPairs (fold drop_key ps keys)
  drop_keys-carries ps [] all = all
  drop_keys-carries ps (key ∷ keys) all = drop_keys-carries (drop_key ps key) keys (drop_key-carries ps key all)
