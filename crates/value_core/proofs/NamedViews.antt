-- Views of the entries of a map by name.
use Rattle.std.proofs.Common.{◌≡◌, ◌∙◌, Bool, true, false, [], ◌∷◌, cond, refl, sym, ap, subst, Some, None}
use Rattle.std.specs.declared.cmp.Ordering.{Ordering}
use Rattle.std.specs.declared.cmp.Ordering.TheVariants.{Less, Equal, Greater}
use Rattle.std.specs.BTreeMap.{BTreeMap, is_at, WritesThrough}
use Rattle.std.specs.FinMap.Entries.{below_all, by_order, is_sorted}
use Rattle.std.specs.List.Sorted.{IsStrictlySortedBy}
use Rattle.std.specs.Map.{set_value, keys_of}
use Rattle.std.proofs.lemmas.Map.Steps.{set_value_same}
use Rattle.std.specs.Option.{option_map}
use Rattle.std.specs.Ordering.{is_lt}
use Rattle.value_core.specs.Name.{after_cmp}
use Rattle.value_core.specs.Named.{Name, Named, named, with_named, same_name, each_as, Rises}
use Rattle.value_core.proofs.NamedLaws.{IsBelow, rises-first, rises-rest}
use Rattle.value_core.proofs.NameMaps.{lookup_is_named, rises_of, written_is_put}
use Rattle.value_core.proofs.Tests.{both, first_of, second_of}

-- the names of a view rise where those of the entries do
below_each : {X Y : Type 0} (f : X → Y) (k : Name) (es : Named X) → IsBelow k es → IsBelow k (each_as f es)
below_each f k [] below = tt
below_each f k (e ∷ es) below =
    both (is_lt (after_cmp k e.0)) (below_all after_cmp k (each_as f es)) (first_of (is_lt (after_cmp k e.0)) (below_all after_cmp k es) below)
    (below_each f k es (second_of (is_lt (after_cmp k e.0)) (below_all after_cmp k es) below))

pub rises_each : {X Y : Type 0} (f : X → Y) (es : Named X) → Rises es → Rises (each_as f es)
rises_each f [] rises = tt
rises_each f (e ∷ es) rises =
    both (below_all after_cmp e.0 (each_as f es)) (is_sorted after_cmp (each_as f es)) (below_each f e.0 es (rises-first e es rises)) (rises_each f es (rises-rest e es rises))

-- what stands under a name is viewed
pub named-each_as : {X Y : Type 0} (f : X → Y) (n : Name) (es : Named X) → named n (each_as f es) ≡ option_map f (named n es)
named-each_as f n [] = refl
named-each_as {X} {Y} f n (e ∷ es) = on (same_name n e.0) (named-each_as f n es)
  where
    on : (b : Bool) → named n (each_as f es) ≡ option_map f (named n es) → cond b (Some (f e.1)) (named n (each_as f es)) ≡ option_map f (cond b (Some e.1) (named n es))
    on true rest = refl
    on false rest = rest

-- an entry more is viewed where it is put
pub each_as-with_named : {X Y : Type 0} (f : X → Y) (n : Name) (x : X) (es : Named X) → each_as f (with_named es n x) ≡ with_named (each_as f es) n (f x)
each_as-with_named f n x [] = refl
each_as-with_named {X} {Y} f n x (e ∷ es) = on (after_cmp n e.0) (each_as-with_named f n x es)
  where
    on : (o : Ordering) → each_as f (with_named es n x) ≡ with_named (each_as f es) n (f x) → each_as f (by_order o ((n, x) ∷ e ∷ es) ((e.0, x) ∷ es) (e ∷ with_named es n x))
        ≡ by_order o ((n, f x) ∷ (e.0, f e.1) ∷ each_as f es) ((e.0, f x) ∷ each_as f es) ((e.0, f e.1) ∷ with_named (each_as f es) n (f x))
    on Less rest = refl
    on Equal rest = refl
    on Greater rest = ap (λ (more : Named Y). (e.0, f e.1) ∷ more) rest

-- a view has the names of what it views
keys-each_as : {X Y : Type 0} (f : X → Y) (es : Named X) → keys_of (each_as f es) ≡ keys_of es
keys-each_as f [] = refl
keys-each_as f (e ∷ es) = ap (λ ks. e.0 ∷ ks) (keys-each_as f es)

-- the names of a view of an ordered map rise
pub view_rises : {X Y : Type 0} (f : X → Y) (es : Named X) → IsStrictlySortedBy after_cmp (keys_of es) → Rises (each_as f es)
view_rises f es sorted = rises_of (each_as f es) (subst (IsStrictlySortedBy after_cmp) (sym (keys-each_as f es)) sorted)

-- what is written through an item is put in the view
pub view_written : {X Y : Type 0} (f : X → Y) (k : Name) (old new : BTreeMap Name X) (w y : X) → WritesThrough after_cmp (after_cmp k) old w new → named k old.entries ≡ Some y
    → each_as f new.entries ≡ with_named (each_as f old.entries) k (f w)
view_written f k old new w y writes there = ap (each_as f) (written_is_put k old new w y writes there) ∙ each_as-with_named f k w old.entries

pub view_found : {X Y : Type 0} (f : X → Y) (k : Name) (es : Named X) (y : X) → named k es ≡ Some y → named k (each_as f es) ≡ Some (f y)
view_found f k es y there = named-each_as f k es ∙ ap (option_map f) there

pub view_none : {X Y : Type 0} (f : X → Y) (k : Name) (es : Named X) → named k es ≡ None → named k (each_as f es) ≡ None
view_none f k es none = named-each_as f k es ∙ ap (option_map f) none

-- what is set in place is set in the view
each_as-set_value : {X Y : Type 0} (f : X → Y) (k : Name) (w : X) (es : Named X) → each_as f (set_value (is_at (after_cmp k)) es w) ≡ set_value (is_at (after_cmp k)) (each_as f es) (f w)
each_as-set_value f k w [] = refl
each_as-set_value {X} {Y} f k w (e ∷ es) = on (is_at (after_cmp k) e.0) (each_as-set_value f k w es)
  where
    on : (b : Bool) → each_as f (set_value (is_at (after_cmp k)) es w) ≡ set_value (is_at (after_cmp k)) (each_as f es) (f w)
        → each_as f (cond b ((e.0, w) ∷ es) (e ∷ set_value (is_at (after_cmp k)) es w)) ≡ cond b ((e.0, f w) ∷ each_as f es) ((e.0, f e.1) ∷ set_value (is_at (after_cmp k)) (each_as f es) (f w))
    on true rest = refl
    on false rest = ap (λ (more : Named Y). (e.0, f e.1) ∷ more) rest

-- an item of the same view changes nothing in the view
pub view_same : {X Y : Type 0} (f : X → Y) (k : Name) (old new : BTreeMap Name X) (w y : X) → WritesThrough after_cmp (after_cmp k) old w new → named k old.entries ≡ Some y → f w ≡ f y
    → each_as f new.entries ≡ each_as f old.entries
view_same f k old new w y writes there same = ap (each_as f) writes.0 ∙ each_as-set_value f k w old.entries
    ∙ set_value_same (is_at (after_cmp k)) (each_as f old.entries) (f w) (lookup_is_named k (each_as f old.entries) ∙ view_found f k old.entries y there ∙ ap Some (sym same))
