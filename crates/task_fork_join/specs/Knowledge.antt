-- The futures whose results a task knows.
use Rattle.std.specs.Prelude.{◌≡◌, ◌||◌, true, Bool, List, [], Option, Some, refl}
use Rattle.std.specs.Coded.{Coded, code_by, coded×, coded_list, coded_ℕ}
use Rattle.value_core.specs.Named.{Name, is_among, same_name}

-- the futures, and those that the task came to know since it was forked
pub record Knowledge : Type 0 where
  pub keys : List Name
  pub since : List Name

-- it is stored as its parts
abbrev pub knowledge_code : Coded Knowledge
knowledge_code = code_by (List Name × List Name) (coded× (coded_list (coded_list coded_ℕ)) (coded_list (coded_list coded_ℕ)))
    (λ k. (k.keys, k.since)) (λ p. record { keys = p.0; since = p.1 }) (λ _. refl)

-- no futures
abbrev pub no_names : Knowledge
no_names = record { keys = []; since = [] }

-- whether the result of the future is known
abbrev pub is_known : Knowledge → Name → Bool
is_known known future = is_among future known.keys

-- what came to be known since is known
abbrev pub IsSinceKnown : List Name → List Name → Type 0
IsSinceKnown all since = (g : Name) → is_among g since ≡ true → is_among g all ≡ true

-- that future came to be known
pub record HasLearned (future : Name) (old new : Knowledge) : Type 0 where
  pub keys : (g : Name) → is_known new g ≡ (is_known old g || same_name g future)
  pub since : (g : Name) → is_among g new.since ≡ (is_among g old.since || same_name g future)

-- what another task came to know since it was forked came to be known, and all that is known to that one
pub record IsTaught (other old new : Knowledge) : Type 0 where
  pub keys : (g : Name) → is_known new g ≡ (is_known old g || is_among g other.since)
  pub since : (g : Name) → is_among g new.since ≡ (is_among g old.since || is_among g other.since)
  pub among : IsSinceKnown other.keys other.since

-- all that the other one knows is known but what that one came to know since it was forked
abbrev pub Covers : Knowledge → Knowledge → Type 0
Covers known other = (g : Name) → is_known other g ≡ true → (is_known known g || is_among g other.since) ≡ true
