-- Laws of lists of messages.
use Rattle.std.proofs.Common.{◌≡◌, ◌∙◌, Bool, true, false, cond, List, [], ◌∷◌, ◌++◌, map, length, drop, filter, flat_map, append_assoc, refl, sym, ap}
use Rattle.value_core.specs.Named.{Name}
use Rattle.value_core.specs.declared.value.Value.{Value}
use Rattle.actor_mailbox.specs.declared.message.Message.{Message}
use Rattle.actor_mailbox.specs.Messages.{is_from, from, passes, definite, settle_one, settle, without}
use Rattle.world_model.specs.Message.{settled, tentative, is_tentative}

-- P of each element
abbrev pub Each : {X : Type 0} → (X → Type 0) → List X → Type 0
Each P [] = Unit {0}
Each P (x ∷ xs) = P x × Each P xs

pub each-left : {X : Type 0} (P : X → Type 0) (xs ys : List X) → Each P (xs ++ ys) → Each P xs
each-left P [] ys all = tt
each-left P (x ∷ xs) ys all = (all.0, each-left P xs ys all.1)

pub each-right : {X : Type 0} (P : X → Type 0) (xs ys : List X) → Each P (xs ++ ys) → Each P ys
each-right P [] ys all = all
each-right P (x ∷ xs) ys all = each-right P xs ys all.1

pub each-append : {X : Type 0} (P : X → Type 0) (xs ys : List X) → Each P xs → Each P ys → Each P (xs ++ ys)
each-append P [] ys left right = right
each-append P (x ∷ xs) ys left right = (left.0, each-append P xs ys left.1 right)

pub each-map : {X Y : Type 0} (P : Y → Type 0) (f : X → Y) (xs : List X) → ((x : X) → P (f x)) → Each P (map f xs)
each-map P f [] all = tt
each-map P f (x ∷ xs) all = (all x, each-map P f xs all)

pub each-of-map : {X Y : Type 0} (P : Y → Type 0) (f : X → Y) (xs : List X) → Each (λ x. P (f x)) xs → Each P (map f xs)
each-of-map P f [] all = tt
each-of-map P f (x ∷ xs) all = (all.0, each-of-map P f xs all.1)

pub each-to : {X : Type 0} (P Q : X → Type 0) (xs : List X) → ((x : X) → P x → Q x) → Each P xs → Each Q xs
each-to P Q [] to all = tt
each-to P Q (x ∷ xs) to all = (to x all.0, each-to P Q xs to all.1)

pub map-append : {X Y : Type 0} (f : X → Y) (xs ys : List X) → map f (xs ++ ys) ≡ map f xs ++ map f ys
map-append f [] ys = refl
map-append f (x ∷ xs) ys = ap (λ zs. f x ∷ zs) (map-append f xs ys)

pub flat_map-append : {X Y : Type 0} (f : X → List Y) (xs ys : List X) → flat_map f (xs ++ ys) ≡ flat_map f xs ++ flat_map f ys
flat_map-append f [] ys = refl
flat_map-append f (x ∷ xs) ys = ap (λ zs. f x ++ zs) (flat_map-append f xs ys) ∙ sym (append_assoc (f x) (flat_map f xs) (flat_map f ys))

pub drop-left : {X : Type 0} (xs ys : List X) → drop (length xs) (xs ++ ys) ≡ ys
drop-left [] ys = refl
drop-left (x ∷ xs) ys = drop-left xs ys

pub filter-append : {X : Type 0} (p : X → Bool) (xs ys : List X) → filter p (xs ++ ys) ≡ filter p xs ++ filter p ys
filter-append p [] ys = refl
filter-append {X} p (x ∷ xs) ys = on (p x) (filter-append p xs ys)
  where
    on : (b : Bool) → filter p (xs ++ ys) ≡ filter p xs ++ filter p ys → cond b (x ∷ filter p (xs ++ ys)) (filter p (xs ++ ys)) ≡ cond b (x ∷ filter p xs) (filter p xs) ++ filter p ys
    on true rest = ap (λ (zs : List X). x ∷ zs) rest
    on false rest = rest

pub filter-swap : {X : Type 0} (p q : X → Bool) (xs : List X) → filter p (filter q xs) ≡ filter q (filter p xs)
filter-swap p q [] = refl
filter-swap {X} p q (x ∷ xs) = on (p x) (q x) refl refl (filter-swap p q xs)
  where
    on : (a b : Bool) → p x ≡ a → q x ≡ b → filter p (filter q xs) ≡ filter q (filter p xs)
        → filter p (cond b (x ∷ filter q xs) (filter q xs)) ≡ filter q (cond a (x ∷ filter p xs) (filter p xs))
    on true true pa qb rest = rw (pa, qb) (ap (λ (zs : List X). x ∷ zs) rest)
    on true false pa qb rest = rw qb rest
    on false true pa qb rest = rw pa rest
    on false false pa qb rest = rest

pub filter-all : {X : Type 0} (p : X → Bool) (xs : List X) → Each (λ x. p x ≡ true) xs → filter p xs ≡ xs
filter-all p [] all = refl
filter-all {X} p (x ∷ xs) all = rw all.0 (ap (λ (zs : List X). x ∷ zs) (filter-all p xs all.1))

pub filter-none : {X : Type 0} (p : X → Bool) (xs : List X) → Each (λ x. p x ≡ false) xs → filter p xs ≡ []
filter-none p [] all = refl
filter-none p (x ∷ xs) all = rw all.0 (filter-none p xs all.1)

-- ---- settling
pub one-from : (u : Name) (test : Name → Bool) (m : Message) → is_from u (settle_one test m) ≡ is_from u m
one-from u test m = on (passes test m.depends)
  where
    on : (b : Bool) → is_from u (cond b (definite m) m) ≡ is_from u m
    on true = refl
    on false = refl

pub from-settle : (u : Name) (test : Name → Bool) (ms : List Message) → from u (settle test ms) ≡ settle test (from u ms)
from-settle u test [] = refl
from-settle u test (m ∷ ms) = rw (one-from u test m) (on (is_from u m) (from-settle u test ms))
  where
    on : (b : Bool) → from u (settle test ms) ≡ settle test (from u ms)
        → cond b (settle_one test m ∷ from u (settle test ms)) (from u (settle test ms)) ≡ settle test (cond b (m ∷ from u ms) (from u ms))
    on true rest = ap (λ (zs : List Message). settle_one test m ∷ zs) rest
    on false rest = rest

pub settle-settled : (u : Name) (test : Name → Bool) (queue : List (List Value)) → settle test (map (settled u) queue) ≡ map (settled u) queue
settle-settled u test [] = refl
settle-settled u test (args ∷ queue) = ap (λ zs. settled u args ∷ zs) (settle-settled u test queue)

pub settle-others : (test : Name → Bool) (ms : List Message) → Each (λ m. passes test m.depends ≡ false) ms → settle test ms ≡ ms
settle-others test [] all = refl
settle-others test (m ∷ ms) all = rw all.0 (ap (λ zs. m ∷ zs) (settle-others test ms all.1))

pub settle-tentative : (u on : Name) (test : Name → Bool) (args : List (List Value)) → test on ≡ true → settle test (map (tentative u on) args) ≡ map (settled u) args
settle-tentative u on test [] is = refl
settle-tentative u on test (a ∷ args) is = rw is (ap (λ zs. settled u a ∷ zs) (settle-tentative u on test args is))

-- ---- leaving out
pub without-settled : (u : Name) (gone : Name → Bool) (queue : List (List Value)) → without gone (map (settled u) queue) ≡ map (settled u) queue
without-settled u gone [] = refl
without-settled u gone (args ∷ queue) = ap (λ zs. settled u args ∷ zs) (without-settled u gone queue)

pub without-others : (gone : Name → Bool) (ms : List Message) → Each (λ m. passes gone m.depends ≡ false) ms → without gone ms ≡ ms
without-others gone [] all = refl
without-others gone (m ∷ ms) all = rw all.0 (ap (λ zs. m ∷ zs) (without-others gone ms all.1))

pub without-all : (gone : Name → Bool) (ms : List Message) → Each (λ m. passes gone m.depends ≡ true) ms → without gone ms ≡ []
without-all gone [] all = refl
without-all gone (m ∷ ms) all = rw all.0 (without-all gone ms all.1)

-- ---- none of the settled ones is tentative
pub tentative-settled : (u : Name) (queue : List (List Value)) → filter is_tentative (map (settled u) queue) ≡ []
tentative-settled u [] = refl
tentative-settled u (args ∷ queue) = tentative-settled u queue
