-- The first task that comes after a name, and those that come after it.
use Rattle.std.proofs.Common.{◌≡◌, ◌∙◌, ◌&&◌, ◌∷◌, [], Bool, List, Option, Some, None, true, false, cond, refl, sym, ap, subst, true≢false}
use Rattle.std.specs.BTreeMap.Range.{range_contains}
use Rattle.std.specs.declared.cmp.Ordering.{Ordering}
use Rattle.std.specs.declared.cmp.Ordering.TheVariants.{Less, Equal, Greater}
use Rattle.std.specs.declared.ops.Bound.TheVariants.{Unbounded}
use Rattle.std.specs.FinMap.Entries.{below_all}
use Rattle.std.specs.List.{filter}
use Rattle.std.specs.Ordering.{is_lt, ordering_reverse}
use Rattle.task_fork_join.specs.Attempt.{names_in}
use Rattle.task_fork_join.specs.declared.task.Task.{Task}
use Rattle.task_fork_join.specs.Following.{after_bound, comes_after, names_after}
use Rattle.value_core.proofs.NamedLaws.{IsBelow, after_cmp-itself, rises-first, rises-rest}
use Rattle.value_core.proofs.Tests.{first_of, is_less, second_of}
use Rattle.value_core.specs.Name.{after_cmp}
use Rattle.value_core.specs.NameOrder.{after_cmp_total}
use Rattle.value_core.specs.Named.{Name, Named, Rises}

-- the names that come after that one
abbrev pub after_test : Option Name → Name → Bool
after_test name q = range_contains after_cmp (after_bound name) Unbounded q

and-true : (a : Bool) → (a && true) ≡ a
and-true true = refl
and-true false = refl

tests-so : (name : Option Name) (q : Name) → after_test name q ≡ comes_after name q
tests-so None q = refl
tests-so (Some a) q = and-true (is_lt (after_cmp a q))

-- the entries that come after it have the names that do
names-filtered : (name : Option Name) (es : Named Task) → names_in (filter (λ e. after_test name e.0) es) ≡ names_after name es
names-filtered name [] = refl
names-filtered name (e ∷ es) = ap (λ b. names_in (cond b (e ∷ filter (λ x. after_test name x.0) es) (filter (λ x. after_test name x.0) es))) (tests-so name e.0) ∙ on (comes_after name e.0) (names-filtered name es)
  where
    on : (b : Bool) → names_in (filter (λ x. after_test name x.0) es) ≡ names_after name es
        → names_in (cond b (e ∷ filter (λ x. after_test name x.0) es) (filter (λ x. after_test name x.0) es)) ≡ cond b (e.0 ∷ names_after name es) (names_after name es)
    on true rest = ap (λ ns. e.0 ∷ ns) rest
    on false rest = rest

head-below : (k : Name) (e : Name × Task) (es : Named Task) → IsBelow k (e ∷ es) → after_cmp k e.0 ≡ Less
head-below k e es below = is_less (after_cmp k e.0) (first_of (is_lt (after_cmp k e.0)) (below_all after_cmp k es) below)

tail-below : (k : Name) (e : Name × Task) (es : Named Task) → IsBelow k (e ∷ es) → IsBelow k es
tail-below k e es below = second_of (is_lt (after_cmp k e.0)) (below_all after_cmp k es) below

-- what comes after a name that does comes after it too
comes-later : (name : Option Name) (k q : Name) → comes_after name k ≡ true → after_cmp k q ≡ Less → comes_after name q ≡ true
comes-later None k q first less = refl
comes-later (Some a) k q first less = ap is_lt (after_cmp_total.trans a k q (lt (after_cmp a k) first) less)
  where
    lt : (o : Ordering) → is_lt o ≡ true → o ≡ Less
    lt Less e = refl
    lt Equal e = absurd (true≢false (sym e))
    lt Greater e = absurd (true≢false (sym e))

-- where all come after, none is left out
all-after : (name : Option Name) (k : Name) (es : Named Task) → ((q : Name) → after_cmp k q ≡ Less → comes_after name q ≡ true) → IsBelow k es → names_after name es ≡ names_in es
all-after name k [] up below = refl
all-after name k (e ∷ es) up below = ap (λ b. cond b (e.0 ∷ names_after name es) (names_after name es)) (up e.0 (head-below k e es below)) ∙ ap (λ ns. e.0 ∷ ns) (all-after name k es up (tail-below k e es below))

-- what is found among those that a name is below comes after that
found-below : (name : Option Name) (k q : Name) (rest : List Name) (es : Named Task) → IsBelow k es → names_after name es ≡ q ∷ rest → after_cmp k q ≡ Less
found-below name k q rest [] below is = cc
found-below name k q rest (e ∷ es) below is = on (comes_after name e.0) is (found-below name k q rest es (tail-below k e es below))
  where
    on : (b : Bool) → cond b (e.0 ∷ names_after name es) (names_after name es) ≡ q ∷ rest → (names_after name es ≡ q ∷ rest → after_cmp k q ≡ Less) → after_cmp k q ≡ Less
    on true here more = let same : e.0 ≡ q = cc in subst (λ n. after_cmp k n ≡ Less) same (head-below k e es below)
    on false here more = more here

itself-not : (k : Name) → is_lt (after_cmp k k) ≡ false
itself-not k = ap is_lt (after_cmp-itself k)

-- behind the first of them come those that come after it
pub next-names : (name : Option Name) (q : Name) (rest : List Name) (es : Named Task) → Rises es → names_after name es ≡ q ∷ rest → names_after name es ≡ q ∷ names_after (Some q) es
next-names name q rest [] rises is = cc
next-names name q rest (e ∷ es) rises is = on (comes_after name e.0) refl is (next-names name q rest es (rises-rest e es rises))
  where
    below : IsBelow e.0 es
    below = rises-first e es rises

    on : (b : Bool) → comes_after name e.0 ≡ b → cond b (e.0 ∷ names_after name es) (names_after name es) ≡ q ∷ rest → (names_after name es ≡ q ∷ rest → names_after name es ≡ q ∷ names_after (Some q) es)
        → cond b (e.0 ∷ names_after name es) (names_after name es) ≡ q ∷ cond (is_lt (after_cmp q e.0)) (e.0 ∷ names_after (Some q) es) (names_after (Some q) es)
    on true first here more =
        let same : e.0 ≡ q = cc in
        subst (λ n. e.0 ∷ names_after name es ≡ n ∷ cond (is_lt (after_cmp n e.0)) (e.0 ∷ names_after (Some n) es) (names_after (Some n) es)) same
        (ap (λ ns. e.0 ∷ ns) (all-after name e.0 es (λ k less. comes-later name e.0 k first less) below ∙ sym (all-after (Some e.0) e.0 es (λ k less. ap is_lt less) below)
        ∙ ap (λ b. cond b (e.0 ∷ names_after (Some e.0) es) (names_after (Some e.0) es)) (sym (itself-not e.0))))
    on false first here more =
        let greater : after_cmp q e.0 ≡ Greater = after_cmp_total.antisymm q e.0 ∙ ap ordering_reverse (found-below name e.0 q rest es below here) in
        more here ∙ ap (λ b. q ∷ cond b (e.0 ∷ names_after (Some q) es) (names_after (Some q) es)) (sym (ap is_lt greater))

-- what is first in the range is the next
pub next-found : (name : Option Name) (e : Name × Task) (more all : Named Task) → Rises all → filter (λ x. after_test name x.0) all ≡ e ∷ more → names_after name all ≡ e.0 ∷ names_after (Some e.0) all
next-found name e more all rises is = next-names name e.0 (names_in more) all rises (sym (names-filtered name all) ∙ ap names_in is)

pub none-found : (name : Option Name) (all : Named Task) → filter (λ x. after_test name x.0) all ≡ [] → names_after name all ≡ []
none-found name all is = sym (names-filtered name all) ∙ ap names_in is
