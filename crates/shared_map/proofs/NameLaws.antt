-- Sets of names, as maps that have nothing under them.
use Rattle.std.proofs.Common.{◌≡◌, ◌∙◌, Bool, true, false, cond, List, [], ◌∷◌, ◌++◌, append_assoc, Some, refl, sym, ap, subst}
use Rattle.std.specs.Prelude.{◌||◌, is_some, fold}
use Rattle.std.specs.declared.cmp.Ordering.{Ordering}
use Rattle.std.specs.declared.cmp.Ordering.TheVariants.{Less, Equal, Greater}
use Rattle.std.specs.FinMap.Entries.{by_order}
use Rattle.shared_map.proofs.Unfolded.{unfolded}
use Rattle.shared_map.specs.declared.node.Node.{Node}
use Rattle.shared_map.specs.declared.node.Node.TheViews.{out-Node}
use Rattle.shared_map.specs.Trees.{node_items, pair_of, tree_items}
use Rattle.shared_map.specs.Names.{marked, names_of, with_member, MembersRise}
use Rattle.value_core.specs.Name.{after_cmp}
use Rattle.value_core.specs.Named.{Name, Named, is_among, named, same_name, with_named, Rises}
use Rattle.value_core.proofs.NamedLaws.{named-with_named, rises-with_named, same_name-itself}

-- ---- as a map by name
pub marked-with_member : (ns : List Name) (k : Name) → marked (with_member ns k) ≡ with_named (marked ns) k tt
marked-with_member [] k = refl
marked-with_member (n ∷ ns) k = on (after_cmp k n) (marked-with_member ns k)
  where
    on : (o : Ordering) → marked (with_member ns k) ≡ with_named (marked ns) k tt
        → marked (by_order o (k ∷ n ∷ ns) (n ∷ ns) (n ∷ with_member ns k)) ≡ by_order o ((k, tt) ∷ (n, tt) ∷ marked ns) ((n, tt) ∷ marked ns) ((n, tt) ∷ with_named (marked ns) k tt)
    on Less rest = refl
    on Equal rest = refl
    on Greater rest = ap (λ (l : Named (Unit {0})). (n, tt) ∷ l) rest

pub rises-with_member : (ns : List Name) (k : Name) → MembersRise ns → MembersRise (with_member ns k)
rises-with_member ns k rises = subst (λ (l : Named (Unit {0})). Rises l) (sym (marked-with_member ns k)) (rises-with_named k tt (marked ns) rises)

pub names-marked : (ns : List Name) → names_of (marked ns) ≡ ns
names-marked [] = refl
names-marked (n ∷ ns) = ap (λ l. n ∷ l) (names-marked ns)

pub marked-names : (m : Named (Unit {0})) → marked (names_of m) ≡ m
marked-names [] = refl
marked-names (e ∷ es) = ap (λ (l : Named (Unit {0})). e ∷ l) (marked-names es)

-- a name more
pub names-with_named : (m : Named (Unit {0})) (k : Name) → names_of (with_named m k tt) ≡ with_member (names_of m) k
names-with_named m k =
    ap (λ (l : Named (Unit {0})). names_of (with_named l k tt)) (sym (marked-names m)) ∙ ap names_of (sym (marked-with_member (names_of m) k)) ∙ names-marked (with_member (names_of m) k)

-- ---- which names are there
pub there-marked : (q : Name) (ns : List Name) → is_some (named q (marked ns)) ≡ is_among q ns
there-marked q [] = refl
there-marked q (n ∷ ns) = on (same_name q n) (there-marked q ns)
  where
    on : (b : Bool) → is_some (named q (marked ns)) ≡ is_among q ns → is_some (cond b (Some tt) (named q (marked ns))) ≡ (b || is_among q ns)
    on true rest = refl
    on false rest = rest

pub there-named : (q : Name) (m : Named (Unit {0})) → is_some (named q m) ≡ is_among q (names_of m)
there-named q m = ap (λ (l : Named (Unit {0})). is_some (named q l)) (sym (marked-names m)) ∙ there-marked q (names_of m)

pub among-with_member : (q : Name) (ns : List Name) (k : Name) → is_among q (with_member ns k) ≡ (same_name q k || is_among q ns)
among-with_member q ns k =
    sym (there-marked q (with_member ns k)) ∙ ap (λ (l : Named (Unit {0})). is_some (named q l)) (marked-with_member ns k) ∙ ap is_some (named-with_named q k tt (marked ns)) ∙ on (same_name q k)
  where
    on : (b : Bool) → is_some (cond b (Some tt) (named q (marked ns))) ≡ (b || is_among q ns)
    on true = refl
    on false = there-marked q ns

-- the other way round
pub among-added : (q : Name) (ns : List Name) (k : Name) → is_among q (with_member ns k) ≡ (is_among q ns || same_name q k)
among-added q ns k = among-with_member q ns k ∙ turned (same_name q k) (is_among q ns)
  where
    turned : (a b : Bool) → (a || b) ≡ (b || a)
    turned true true = refl
    turned true false = refl
    turned false true = refl
    turned false false = refl

-- the names of both
pub among-both : (q : Name) (ms ns : List Name) → is_among q (fold with_member ns ms) ≡ (is_among q ns || is_among q ms)
among-both q [] ns = turned (is_among q ns)
  where
    turned : (b : Bool) → b ≡ (b || false)
    turned true = refl
    turned false = refl
among-both q (m ∷ ms) ns = among-both q ms (with_member ns m) ∙ ap (λ b. b || is_among q ms) (among-added q ns m) ∙ joined (is_among q ns) (same_name q m) (is_among q ms)
  where
    joined : (a b c : Bool) → ((a || b) || c) ≡ (a || (b || c))
    joined true b c = refl
    joined false b c = refl

-- ---- the names of entries in a row
pub names-append : {X : Type 0} (l m : Named X) → names_of (l ++ m) ≡ names_of l ++ names_of m
names-append [] m = refl
names-append (e ∷ es) m = ap (λ (ns : List Name). e.0 ∷ ns) (names-append es m)

-- those of a node are pushed side by side
pub names_pushed : {X : Type 0} (node : Node X) (old left one all : List Name) (n : Name)
    → left ≡ old ++ names_of (tree_items (out-Node X node).left) → n ≡ (pair_of (out-Node X node).entry).0 → one ≡ left ++ n ∷ [] → all ≡ one ++ names_of (tree_items (out-Node X node).right)
    → all ≡ old ++ names_of (node_items node)
names_pushed {X} node old left one all n left_is n_is one_is all_is =
    all_is ∙ ap (λ (l : List Name). l ++ names_of (tree_items (out-Node X node).right)) (one_is ∙ (λ i. left_is i ++ n_is i ∷ []))
    ∙ append_assoc (old ++ names_of (tree_items (out-Node X node).left)) ((pair_of (out-Node X node).entry).0 ∷ []) (names_of (tree_items (out-Node X node).right))
    ∙ append_assoc old (names_of (tree_items (out-Node X node).left)) ((pair_of (out-Node X node).entry).0 ∷ names_of (tree_items (out-Node X node).right))
    ∙ ap (λ (l : List Name). old ++ l) (sym (ap names_of (unfolded node) ∙ names-append (tree_items (out-Node X node).left) (pair_of (out-Node X node).entry ∷ tree_items (out-Node X node).right)))
