-- Names among names, and what is sent among what was.
use Rattle.std.proofs.Common.{◌≡◌, ◌∙◌, ◌⊎◌, ◌<◌, Bool, true, false, inl, inr, length, List, [], ◌∷◌, ◌++◌, map, reverse, refl, sym, arith}
use Rattle.std.proofs.lemmas.Grind.{flat_map-append}
use Rattle.std.proofs.lemmas.List.{reverse-append}
use Rattle.std.proofs.lemmas.List.Folds.{list_any-append}
use Rattle.std.specs.Prelude.{◌&&◌, ◌||◌, if◌then◌else◌}
use Rattle.attempt_undoing.specs.Hanging.{Sent, effect_receivers, is_sent, sent_on}
use Rattle.serial_model.specs.declared.effect.Effect.{Effect}
use Rattle.value_core.proofs.NamedLaws.{same_name-equal, same_name-itself}
use Rattle.value_core.specs.Named.{Name, is_among, same_name}

-- ---- tests
pub or-left : (a b : Bool) → a ≡ true → (a || b) ≡ true
or-left true b e = refl
or-left false b e = cc

pub or-right : (a b : Bool) → b ≡ true → (a || b) ≡ true
or-right true b e = refl
or-right false b e = e

pub or-one : (a b : Bool) → (a || b) ≡ true → (a ≡ true) ⊎ (b ≡ true)
or-one true b e = inl refl
or-one false b e = inr e

pub and-both : (a b : Bool) → (a && b) ≡ true → (a ≡ true) × (b ≡ true)
and-both true true e = (refl, refl)
and-both true false e = cc
and-both false b e = cc

-- ---- names
pub among-append : (n : Name) (xs ys : List Name) → is_among n (xs ++ ys) ≡ (is_among n xs || is_among n ys)
among-append n xs ys = list_any-append (same_name n) xs ys

-- ---- what is sent
-- its receivers are the same from the last effect to the first
pub receivers-turned : (to : Name) (effects : List Effect) → is_among to (effect_receivers effects) ≡ is_among to (effect_receivers (reverse effects))
receivers-turned to [] = refl
receivers-turned to (e ∷ es) = grind (arith, receivers-turned to es, reverse-append (e ∷ []) es, flat_map-append, among-append)

pub sent-append : (xs ys : List Sent) (to on : Name) → is_sent (xs ++ ys) to on ≡ (is_sent xs to on || is_sent ys to on)
sent-append xs ys to on = list_any-append (λ s. same_name to s.to && same_name s.on on) xs ys

pub sent-more : (xs ys : List Sent) (to on : Name) → is_sent xs to on ≡ true → is_sent (xs ++ ys) to on ≡ true
sent-more xs ys to on is = sent-append xs ys to on ∙ or-left (is_sent xs to on) (is_sent ys to on) is

-- it is sent under its name to each of its receivers
pub sent-each : (on : Name) (receivers : List Name) (to : Name) → is_among to receivers ≡ true → is_sent (map (sent_on on) receivers) to on ≡ true
sent-each on [] to is = cc
sent-each on (r ∷ rs) to is = by (same_name to r) is (sent-each on rs to)
  where
    by : (c : Bool) → (c || is_among to rs) ≡ true → (is_among to rs ≡ true → is_sent (map (sent_on on) rs) to on ≡ true) → ((c && same_name on on) || is_sent (map (sent_on on) rs) to on) ≡ true
    by true there rest = or-left (same_name on on) (is_sent (map (sent_on on) rs) to on) (same_name-itself on)
    by false there rest = rest there

-- and under no other
pub sent-under : (o : Name) (receivers : List Name) (to on : Name) → is_sent (map (sent_on o) receivers) to on ≡ true → on ≡ o
sent-under o [] to on is = cc
sent-under o (r ∷ rs) to on is = by (or-one (same_name to r && same_name o on) (is_sent (map (sent_on o) rs) to on) is) (sent-under o rs to on)
  where
    by : ((same_name to r && same_name o on) ≡ true) ⊎ (is_sent (map (sent_on o) rs) to on ≡ true) → (is_sent (map (sent_on o) rs) to on ≡ true → on ≡ o) → on ≡ o
    by (inl here) rest = sym (same_name-equal o on (and-both (same_name to r) (same_name o on) here).1)
    by (inr later) rest = rest later

-- ---- a list of no length
pub nothing-left : {X : Type 0} (xs : List X) → length xs ≡ 0 → xs ≡ []
nothing-left [] e = refl
nothing-left (x ∷ xs) e = cc
