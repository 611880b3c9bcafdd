-- What a task of a transaction has done and knows, by names: each actor, each effect and each known result is one's own, since what is new is
-- later than all that is there.
use Rattle.std.proofs.Common.{◌≡◌, ◌∙◌, ◌⊎◌, inl, inr, ℕ, suc, ◌+◌, ◌<◌, Bool, true, false, ◌||◌, cond, List, [], ◌∷◌, ◌++◌, append_assoc, refl, sym, ap, subst, arith}
use Rattle.std.specs.Prelude.{Some, is_some, ◌==◌, ◌&&◌, fold}
use Rattle.std.specs.Option.{IsSome}
use Rattle.std.proofs.lemmas.List.{append-nil}
use Rattle.std.proofs.lemmas.Bool.Decides.{nat_tests}
use Rattle.serial_model.specs.declared.effect.Effect.{Effect}
use Rattle.serial_model.specs.Log.{Log, is_held, with_missing, merged}
use Rattle.value_core.specs.Named.{Name, named, same_name, is_among, with_name, made_by}
use Rattle.serial_model.specs.Task.{Outcome, Result, Known, Nothing, And, result_of, with_known}
use Rattle.serial_model.proofs.Early.{IsEarlier, earlier-next, earlier-below, below-earlier, earlier-made}
use Rattle.value_core.proofs.NamedLaws.{same_name-equal, same_name-itself}
use Rattle.serial_model.proofs.tasks.TaskScope.{Spawns, IsSpawned}

-- an actor that begins, an effect, or a known result
pub data Thing : Type 0 where
  AnActor : Name → Thing
  AnEffect : Effect → Thing
  AResult : Name → Result → Thing

abbrev pub as_result : Outcome → Log → Known → Result
as_result outcome log known = record { outcome = outcome; log = log; known = known }

-- ---- where things are
abbrev pub OfEffect : Effect → Thing → Type 0
OfEffect e (AnActor a) = Spawns a e.what
OfEffect e (AnEffect f) = f ≡ e
OfEffect e (AResult q r) = ⊥

abbrev pub InEffects : List Effect → Thing → Type 0
InEffects [] x = ⊥
InEffects (e ∷ es) x = OfEffect e x ⊎ InEffects es x

abbrev pub IsResult : Name → Result → Thing → Type 0
IsResult future child (AResult q r) = (q ≡ future) × (r ≡ child)
IsResult future child _ = ⊥

-- anywhere in the known results
abbrev pub InKnown : Known → Thing → Type 0
InKnown Nothing x = ⊥
InKnown (And name outcome log inner others) x =
    IsResult name (record { outcome = outcome; log = log; known = inner }) x ⊎ InEffects log.effects x ⊎ InKnown inner x ⊎ InKnown others x

abbrev pub Has : Log → Known → Thing → Type 0
Has log known x = InEffects log.effects x ⊎ InKnown known x

-- ---- how things stand to each other
-- the second name is below the first
abbrev pub Lower : Name → Name → Type 0
Lower a b = (k : ℕ) × (rest : List ℕ) × (b ≡ a ++ k ∷ rest)

-- no actor is below another, an effect is known by its task and number, and a result by its name
abbrev pub AreTogether : Thing → Thing → Type 0
AreTogether (AnActor a) (AnActor b) = (¬ Lower a b) × (¬ Lower b a)
AreTogether (AnEffect e) (AnEffect f) = e.task ≡ f.task → e.number ≡ f.number → e ≡ f
AreTogether (AResult q r) (AResult s t) = q ≡ s → r ≡ t
AreTogether _ _ = Unit {0}

abbrev pub name_of : Thing → Name
name_of (AnActor a) = a
name_of (AnEffect e) = e.task
name_of (AResult q r) = q

abbrev pub IsEarly : Name → Thing → Type 0
IsEarly t x = IsEarlier (name_of x) t

-- one of the first effects of that task itself
abbrev pub IsOwn : Name → ℕ → Thing → Type 0
IsOwn p own (AnEffect e) = (e.task ≡ p) × (e.number < own)
IsOwn p own _ = ⊥

-- made by that task or by one below it
abbrev pub IsUnder : Name → Thing → Type 0
IsUnder p (AnActor a) = Lower p a
IsUnder p (AnEffect e) = (rest : List ℕ) × (e.task ≡ p ++ rest)
IsUnder p (AResult q r) = Lower p q

pub earlier-apart : (a b r s : List ℕ) → IsEarlier a b → ¬ (a ++ r ≡ b ++ s)
earlier-apart [] b r s early same = early
earlier-apart (x ∷ f) [] r s early same = early
earlier-apart (x ∷ f) (y ∷ t) r s (inl less) same = let first : x ≡ y = cc in omega arith
earlier-apart (x ∷ f) (y ∷ t) r s (inr also) same = let rest : f ++ r ≡ t ++ s = cc in earlier-apart f t r s also.1 rest

pub earlier-unequal : (a b : Name) → IsEarlier a b → ¬ (a ≡ b)
earlier-unequal a b early same = earlier-apart a b [] [] early (append-nil a ∙ same ∙ sym (append-nil b))

pub not-earlier-itself : (p : Name) (r : List ℕ) → ¬ IsEarlier p (p ++ r)
not-earlier-itself p r early = earlier-apart p (p ++ r) r [] early (sym (append-nil (p ++ r)))

pub turned : (x y : Thing) → AreTogether x y → AreTogether y x
turned (AnActor a) (AnActor b) is = (is.1, is.0)
turned (AnEffect e) (AnEffect f) is = λ task number. sym (is (sym task) (sym number))
turned (AResult q r) (AResult s t) is = λ same. sym (is (sym same))
turned (AnActor a) (AnEffect f) is = tt
turned (AnActor a) (AResult s t) is = tt
turned (AnEffect e) (AnActor b) is = tt
turned (AnEffect e) (AResult s t) is = tt
turned (AResult q r) (AnActor b) is = tt
turned (AResult q r) (AnEffect f) is = tt

-- an early thing stands well to a later one
pub early-together : (x y : Thing) → IsEarlier (name_of x) (name_of y) → AreTogether x y
early-together (AnActor a) (AnActor b) early = (
  (λ low. earlier-apart a b (low.0 ∷ low.1) [] early (sym low.2 ∙ sym (append-nil b))),
  (λ low. earlier-apart a b [] (low.0 ∷ low.1) early (append-nil a ∙ low.2)),
)
early-together (AnEffect e) (AnEffect f) early = λ task number. absurd (earlier-unequal e.task f.task early task)
early-together (AResult q r) (AResult s t) early = λ same. absurd (earlier-unequal q s early same)
early-together (AnActor a) (AnEffect f) early = tt
early-together (AnActor a) (AResult s t) early = tt
early-together (AnEffect e) (AnActor b) early = tt
early-together (AnEffect e) (AResult s t) early = tt
early-together (AResult q r) (AnActor b) early = tt
early-together (AResult q r) (AnEffect f) early = tt

-- what is early for a name is early for all things under it
pub early-under : (f t : Name) (y : Thing) → IsEarlier f t → IsUnder t y → IsEarlier f (name_of y)
early-under f t (AnActor b) early under = subst (IsEarlier f) (sym under.2) (earlier-below f t (under.0 ∷ under.1) early)
early-under f t (AnEffect e) early under = subst (IsEarlier f) (sym under.1) (earlier-below f t under.0 early)
early-under f t (AResult q r) early under = subst (IsEarlier f) (sym under.2) (earlier-below f t (under.0 ∷ under.1) early)

-- all things under an early name are early
pub under-early : (f t : Name) (x : Thing) → IsEarlier f t → IsUnder f x → IsEarly t x
under-early f t (AnActor a) early under = subst (λ n. IsEarlier n t) (sym under.2) (below-earlier f (under.0 ∷ under.1) t early)
under-early f t (AnEffect e) early under = subst (λ n. IsEarlier n t) (sym under.1) (below-earlier f under.0 t early)
under-early f t (AResult q r) early under = subst (λ n. IsEarlier n t) (sym under.2) (below-earlier f (under.0 ∷ under.1) t early)

-- things under a task are under the task that forked it
pub under-made : (p : Name) (k : ℕ) (x : Thing) → IsUnder (made_by p k) x → IsUnder p x
under-made p k (AnActor a) under = (k, under.0 ∷ under.1, under.2 ∙ append_assoc p (k ∷ []) (under.0 ∷ under.1))
under-made p k (AnEffect e) under = (k ∷ under.0, under.1 ∙ append_assoc p (k ∷ []) under.0)
under-made p k (AResult q r) under = (k, under.0 ∷ under.1, under.2 ∙ append_assoc p (k ∷ []) (under.0 ∷ under.1))

pub early-next : (p : Name) (k : ℕ) (x : Thing) → IsEarly (made_by p k) x → IsEarly (made_by p (k + 1)) x
early-next p k x early = let more : suc k ≡ k + 1 = omega arith in subst (λ n. IsEarly (made_by p n) x) more (earlier-next (name_of x) p k early)

pub made-next : (p : Name) (k : ℕ) → IsEarlier (made_by p k) (made_by p (k + 1))
made-next p k = earlier-made p k (k + 1) (omega arith)

-- ---- names that are joined
pub among-push : (q n : Name) (names : List Name) → is_among q (names ++ n ∷ []) ≡ true → (is_among q names ≡ true) ⊎ (q ≡ n)
among-push q n [] is = on (same_name q n) refl is
  where
    on : (b : Bool) → same_name q n ≡ b → (b || false) ≡ true → (is_among q [] ≡ true) ⊎ (q ≡ n)
    on true same is = inr (same_name-equal q n same)
    on false same is = inl is
among-push q n (m ∷ names) is = on (same_name q m) (among-push q n names) is
  where
    on : (b : Bool) → (is_among q (names ++ n ∷ []) ≡ true → (is_among q names ≡ true) ⊎ (q ≡ n)) → (b || is_among q (names ++ n ∷ [])) ≡ true → ((b || is_among q names) ≡ true) ⊎ (q ≡ n)
    on true rest is = inl refl
    on false rest is = rest is

among-with_name : (q n : Name) (names : List Name) → is_among q (with_name names n) ≡ true → (is_among q names ≡ true) ⊎ (q ≡ n)
among-with_name q n names is = on (is_among n names) is
  where
    on : (b : Bool) → is_among q (cond b names (names ++ n ∷ [])) ≡ true → (is_among q names ≡ true) ⊎ (q ≡ n)
    on true is = inl is
    on false is = among-push q n names is

among-fold : (q : Name) (more names : List Name) → is_among q (fold with_name names more) ≡ true → (is_among q names ≡ true) ⊎ (is_among q more ≡ true)
among-fold q [] names is = inl is
among-fold q (n ∷ more) names is = on (among-fold q more (with_name names n) is)
  where
    here : (q ≡ n) → is_among q (n ∷ more) ≡ true
    here same = let equal : same_name q n ≡ true = subst (λ m. same_name q m ≡ true) same (same_name-itself q) in ap (λ b. b || is_among q more) equal

    later : (b : Bool) → is_among q more ≡ true → (b || is_among q more) ≡ true
    later true is = refl
    later false is = is

    first : (is_among q names ≡ true) ⊎ (q ≡ n) → (is_among q names ≡ true) ⊎ (is_among q (n ∷ more) ≡ true)
    first (inl there) = inl there
    first (inr same) = inr (here same)

    on : (is_among q (with_name names n) ≡ true) ⊎ (is_among q more ≡ true) → (is_among q names ≡ true) ⊎ (is_among q (n ∷ more) ≡ true)
    on (inl there) = first (among-with_name q n names there)
    on (inr there) = inr (later (same_name q n) there)

-- what counts as joined after a merge
pub among-merged : (q : Name) (log child : Log) → is_among q (merged log child).joined ≡ true → (is_among q log.joined ≡ true) ⊎ (q ≡ child.name) ⊎ (is_among q child.joined ≡ true)
among-merged q log child is = on (among-fold q child.joined (with_name log.joined child.name) is)
  where
    first : (is_among q log.joined ≡ true) ⊎ (q ≡ child.name) → (is_among q log.joined ≡ true) ⊎ (q ≡ child.name) ⊎ (is_among q child.joined ≡ true)
    first (inl there) = inl there
    first (inr same) = inr (inl same)

    on : (is_among q (with_name log.joined child.name) ≡ true) ⊎ (is_among q child.joined ≡ true) → (is_among q log.joined ≡ true) ⊎ (q ≡ child.name) ⊎ (is_among q child.joined ≡ true)
    on (inl there) = first (among-with_name q child.name log.joined there)
    on (inr there) = inr (inr there)

-- ---- effects
pub spawned-in : (a : Name) (es : List Effect) → IsSpawned a es → InEffects es (AnActor a)
spawned-in a [] is = is
spawned-in a (e ∷ es) (inl is) = inl is
spawned-in a (e ∷ es) (inr is) = inr (spawned-in a es is)

pub in-spawned : (a : Name) (es : List Effect) → InEffects es (AnActor a) → IsSpawned a es
in-spawned a [] is = is
in-spawned a (e ∷ es) (inl is) = inl is
in-spawned a (e ∷ es) (inr is) = inr (in-spawned a es is)

-- an actor that an effect of the list begins
of_effect-spawned : (a : Name) (e : Effect) (es : List Effect) → InEffects es (AnEffect e) → Spawns a e.what → InEffects es (AnActor a)
of_effect-spawned a e [] is spawns = is
of_effect-spawned a e (f ∷ es) (inl same) spawns = inl (subst (λ (g : Effect). Spawns a g.what) same spawns)
of_effect-spawned a e (f ∷ es) (inr is) spawns = inr (of_effect-spawned a e es is spawns)

pub effects-left : (x : Thing) (es fs : List Effect) → InEffects es x → InEffects (es ++ fs) x
effects-left x [] fs is = absurd is
effects-left x (e ∷ es) fs (inl is) = inl is
effects-left x (e ∷ es) fs (inr is) = inr (effects-left x es fs is)

pub effects-right : (x : Thing) (es fs : List Effect) → InEffects fs x → InEffects (es ++ fs) x
effects-right x [] fs is = is
effects-right x (e ∷ es) fs is = inr (effects-right x es fs is)

pub effects-append : (x : Thing) (es fs : List Effect) → InEffects (es ++ fs) x → InEffects es x ⊎ InEffects fs x
effects-append x [] fs is = inr is
effects-append x (e ∷ es) fs (inl is) = inl (inl is)
effects-append x (e ∷ es) fs (inr is) = on (effects-append x es fs is)
  where
    on : InEffects es x ⊎ InEffects fs x → InEffects (e ∷ es) x ⊎ InEffects fs x
    on (inl is) = inl (inr is)
    on (inr is) = inr is

missing-in : (x : Thing) (es : List Effect) (e : Effect) → InEffects (with_missing es e) x → InEffects es x ⊎ InEffects (e ∷ []) x
missing-in x es e is = on (is_held es e) is
  where
    on : (b : Bool) → InEffects (cond b es (es ++ e ∷ [])) x → InEffects es x ⊎ InEffects (e ∷ []) x
    on true is = inl is
    on false is = effects-append x es (e ∷ []) is

missing-kept : (x : Thing) (es : List Effect) (e : Effect) → InEffects es x → InEffects (with_missing es e) x
missing-kept x es e is = on (is_held es e)
  where
    on : (b : Bool) → InEffects (cond b es (es ++ e ∷ [])) x
    on true = is
    on false = effects-left x es (e ∷ []) is

-- in a merge are the effects of both and no others
pub merge-in : (x : Thing) (fs es : List Effect) → InEffects (fold with_missing es fs) x → InEffects es x ⊎ InEffects fs x
merge-in x [] es is = inl is
merge-in x (f ∷ fs) es is = on (merge-in x fs (with_missing es f) is)
  where
    first : InEffects es x ⊎ InEffects (f ∷ []) x → InEffects es x ⊎ InEffects (f ∷ fs) x
    first (inl is) = inl is
    first (inr (inl is)) = inr (inl is)
    first (inr (inr none)) = absurd none

    on : InEffects (with_missing es f) x ⊎ InEffects fs x → InEffects es x ⊎ InEffects (f ∷ fs) x
    on (inl is) = first (missing-in x es f is)
    on (inr is) = inr (inr is)

pub merge-kept : (x : Thing) (fs es : List Effect) → InEffects es x → InEffects (fold with_missing es fs) x
merge-kept x [] es is = is
merge-kept x (f ∷ fs) es is = merge-kept x fs (with_missing es f) (missing-kept x es f is)

-- the effect of that task with that number
record Held (es : List Effect) (e : Effect) : Type 0 where
  effect : Effect
  there : InEffects es (AnEffect effect)
  task : effect.task ≡ e.task
  number : effect.number ≡ e.number

held-there : (es : List Effect) (e : Effect) → is_held es e ≡ true → Held es e
held-there [] e is = cc
held-there (f ∷ es) e is = on (same_name f.task e.task) refl (f.number == e.number) refl is (held-there es e)
  where
    equal : (a b : ℕ) → (a == b) ≡ true → a ≡ b
    equal a b is = grind (arith, nat_tests)

    behind : Held es e → Held (f ∷ es) e
    behind held = record { effect = held.effect; there = inr held.there; task = held.task; number = held.number }

    on : (b : Bool) → same_name f.task e.task ≡ b → (c : Bool) → (f.number == e.number) ≡ c → ((b && c) || is_held es e) ≡ true → (is_held es e ≡ true → Held es e) → Held (f ∷ es) e
    on true task true number is rest = record { effect = f; there = inl refl; task = same_name-equal f.task e.task task; number = equal f.number e.number number }
    on true task false number is rest = behind (rest is)
    on false task c number is rest = behind (rest is)

-- the effects for which G holds are known by their task and number
abbrev pub AreKnown : (Effect → Type 0) → Type 0
AreKnown G = (e f : Effect) → G e → G f → e.task ≡ f.task → e.number ≡ f.number → e ≡ f

module _ (G : Effect → Type 0) (known : AreKnown G) where
  missing-spawned : (a : Name) (es : List Effect) (e : Effect) → ((f : Effect) → InEffects es (AnEffect f) → G f) → G e → Spawns a e.what → InEffects (with_missing es e) (AnActor a)
  missing-spawned a es e all good spawns = on (is_held es e) refl
    where
      same : Held es e → InEffects es (AnActor a)
      same held =
          let equal : held.effect ≡ e = known held.effect e (all held.effect held.there) good held.task held.number in
          of_effect-spawned a held.effect es held.there (subst (λ (g : Effect). Spawns a g.what) (sym equal) spawns)

      on : (b : Bool) → is_held es e ≡ b → InEffects (cond b es (es ++ e ∷ [])) (AnActor a)
      on true held = same (held-there es e held)
      on false held = effects-right (AnActor a) es (e ∷ []) (inl spawns)

  -- a merge loses no actor that begins
  pub merge-spawned : (a : Name) (fs es : List Effect) → ((f : Effect) → InEffects es (AnEffect f) → G f) → ((f : Effect) → InEffects fs (AnEffect f) → G f) → InEffects fs (AnActor a)
      → InEffects (fold with_missing es fs) (AnActor a)
  merge-spawned a [] es all good is = absurd is
  merge-spawned a (f ∷ fs) es all good (inl spawns) = merge-kept (AnActor a) fs (with_missing es f) (missing-spawned a es f all (good f (inl refl)) spawns)
  merge-spawned a (f ∷ fs) es all good (inr is) = merge-spawned a fs (with_missing es f) (λ g there. on g (missing-in (AnEffect g) es f there)) (λ g there. good g (inr there)) is
    where
      on : (g : Effect) → InEffects es (AnEffect g) ⊎ InEffects (f ∷ []) (AnEffect g) → G g
      on g (inl there) = all g there
      on g (inr (inl same)) = good g (inl same)
      on g (inr (inr none)) = absurd none

-- ---- known results
-- the result is known, with all that it did and knows
pub record IsFound (known : Known) (future : Name) (child : Result) : Type 0 where
  pub itself : InKnown known (AResult future child)
  pub effects : (x : Thing) → InEffects child.log.effects x → InKnown known x
  pub inner : (x : Thing) → InKnown child.known x → InKnown known x

pub found-there : (future : Name) (known : Known) (child : Result) → result_of future known ≡ Some child → IsFound known future child
found-there future Nothing child is = cc
found-there future (And name outcome log inner others) child is = on (same_name name future) refl is (found-there future others child)
  where
    itself : name ≡ future → as_result outcome log inner ≡ child → IsFound (And name outcome log inner others) future child
    itself named same = record {
      itself = inl (sym named, sym same);
      effects = λ x is. inr (inl (subst (λ (r : Result). InEffects r.log.effects x) (sym same) is));
      inner = λ x is. inr (inr (inl (subst (λ (r : Result). InKnown r.known x) (sym same) is)));
    }

    on : (b : Bool) → same_name name future ≡ b → cond b (Some (as_result outcome log inner)) (result_of future others) ≡ Some child → (result_of future others ≡ Some child → IsFound others future child)
        → IsFound (And name outcome log inner others) future child
    on true named is rest = itself (same_name-equal name future named) (cc)
    on false named is rest =
        let found = rest is in record { itself = inr (inr (inr found.itself)); effects = λ x is. inr (inr (inr (found.effects x is))); inner = λ x is. inr (inr (inr (found.inner x is))) }

pub known-append : (x : Thing) (known others : Known) → InKnown (with_known known others) x → InKnown known x ⊎ InKnown others x
known-append x Nothing others is = inr is
known-append x (And name outcome log inner rest) others (inl is) = inl (inl is)
known-append x (And name outcome log inner rest) others (inr (inl is)) = inl (inr (inl is))
known-append x (And name outcome log inner rest) others (inr (inr (inl is))) = inl (inr (inr (inl is)))
known-append x (And name outcome log inner rest) others (inr (inr (inr is))) = on (known-append x rest others is)
  where
    on : InKnown rest x ⊎ InKnown others x → InKnown (And name outcome log inner rest) x ⊎ InKnown others x
    on (inl is) = inl (inr (inr (inr is)))
    on (inr is) = inr is

pub known-left : (x : Thing) (known others : Known) → InKnown known x → InKnown (with_known known others) x
known-left x Nothing others is = absurd is
known-left x (And name outcome log inner rest) others (inl is) = inl is
known-left x (And name outcome log inner rest) others (inr (inl is)) = inr (inl is)
known-left x (And name outcome log inner rest) others (inr (inr (inl is))) = inr (inr (inl is))
known-left x (And name outcome log inner rest) others (inr (inr (inr is))) = inr (inr (inr (known-left x rest others is)))

pub known-right : (x : Thing) (known others : Known) → InKnown others x → InKnown (with_known known others) x
known-right x Nothing others is = is
known-right x (And name outcome log inner rest) others is = inr (inr (inr (known-right x rest others is)))

-- the names that are known stay known
pub named-left : (q : Name) (known others : Known) → IsSome (result_of q known) → IsSome (result_of q (with_known known others))
named-left q Nothing others is = absurd (cc)
named-left q (And name outcome log inner rest) others is = on (same_name name q) is (named-left q rest others)
  where
    on : (b : Bool) → IsSome (cond b (Some (as_result outcome log inner)) (result_of q rest)) → (IsSome (result_of q rest) → IsSome (result_of q (with_known rest others)))
        → IsSome (cond b (Some (as_result outcome log inner)) (result_of q (with_known rest others)))
    on true is behind = refl
    on false is behind = behind is

pub named-behind : (q name : Name) (outcome : Outcome) (log : Log) (inner known : Known) → IsSome (result_of q known) → IsSome (result_of q (And name outcome log inner known))
named-behind q name outcome log inner known is = on (same_name name q)
  where
    on : (b : Bool) → IsSome (cond b (Some (record { outcome = outcome; log = log; known = inner })) (result_of q known))
    on true = refl
    on false = is

pub named-right : (q : Name) (known others : Known) → IsSome (result_of q others) → IsSome (result_of q (with_known known others))
named-right q Nothing others is = is
named-right q (And name outcome log inner rest) others is = named-behind q name outcome log inner (with_known rest others) (named-right q rest others is)

-- the result that was put first is known by its name
pub named-first : (name : Name) (outcome : Outcome) (log : Log) (inner known : Known) → IsSome (result_of name (And name outcome log inner known))
named-first name outcome log inner known = ap (λ b. is_some (cond b (Some (as_result outcome log inner)) (result_of name known))) (same_name-itself name)
