-- A collection that is at most 200 deep stays so where parts are put in that are at most 199 deep.
use Rattle.std.proofs.Common.{◌≡◌, ℕ, ◌≤◌, Bool, true, false, List, [], ◌∷◌, ◌++◌, map, fold, refl, sym, ap, subst, arith, rules}
use Rattle.std.specs.Prelude.{All, Option, None, Some, Result, Ok, Err, nat_le, if◌then◌else◌}
use Rattle.std.specs.List.{list_all}
use Rattle.std.proofs.lemmas.Bool.{leb-true, le-leb}
use Rattle.std.proofs.lemmas.List.Elements.{All-nil, All-cons, All-head, All-tail, All-append}
use Rattle.value_core.specs.Depth.{depth_of, deepest}
use Rattle.value_core.specs.declared.op.Op.{Op}
use Rattle.value_core.specs.declared.op.Op.TheVariants as op
use Rattle.value_core.specs.declared.op_fault.OpFault.{OpFault}
use Rattle.value_core.specs.declared.op_fault.OpFault.TheVariants as fault
use Rattle.value_core.specs.declared.pair.Pair.{Pair}
use Rattle.value_core.specs.declared.value.Value.{Value, the_lemmas}
use Rattle.value_core.specs.declared.value.Value.TheVariants as value
use Rattle.value_core.specs.declared.value.Value.TheOpen as one
use Rattle.value_core.specs.declared.value.Value.TheViews.{out-Value, roll-Value, roll-out-Value}
use Rattle.value_core.specs.primitives.Apply.{apply_of, rule_of, limited}
use Rattle.value_core.specs.primitives.Kinds.{is_int}
use Rattle.value_core.specs.primitives.Parts.{conj_step, append_step, into_step, paired, is_key, put_entry, put_rule, place_entry, vector_or_index, place_rule, assoc_step, drop_key, dissoc_step}
use Rattle.value_core.proofs.ValueFolds.{depth_of-Vector, depth_of-Map}
use Rattle.value_core.proofs.primitives.Carries.{OfResult, by_test}
use Rattle.value_core.proofs.primitives.Making.{OfOption, OfPairs, OfEntries, paired-carries, put_entries-carries, place_entries-carries, drop_keys-carries}
use Rattle.value_ops.specs.Depths.{IsShallow, IsPart, KeepsShallow}

deepest-each : {X : Type 0} (f : X → ℕ) (n : ℕ) (xs : List X) → deepest (map f xs) ≤ n → All (λ x. f x ≤ n) xs
deepest-each f n [] le = All-nil (λ x. f x ≤ n)
deepest-each f n (x ∷ xs) le = All-cons (λ x. f x ≤ n) x xs (omega arith) (deepest-each f n xs (omega arith))

each-deepest : {X : Type 0} (f : X → ℕ) (n : ℕ) (xs : List X) → All (λ x. f x ≤ n) xs → deepest (map f xs) ≤ n
each-deepest f n [] all = omega arith
each-deepest f n (x ∷ xs) all =
    let first : f x ≤ n = All-head (λ x. f x ≤ n) x xs all in
    let rest : deepest (map f xs) ≤ n = each-deepest f n xs (All-tail (λ x. f x ≤ n) x xs all) in
    omega arith

shallow-vector : (vs : List Value) → All IsPart vs → IsShallow (value.Vector vs)
shallow-vector vs all =
    let parts = each-deepest depth_of 199 vs all in
    let e = depth_of-Vector vs in
    omega (arith, e, parts)

shallow-map : (ps : List (Pair Value)) → OfPairs IsPart ps → IsShallow (value.Map ps)
shallow-map ps all =
    let parts = each-deepest (λ (p : Pair Value). depth_of p.value) 199 ps all in
    let e = depth_of-Map ps in
    omega (arith, e, parts)

-- ---- the parts of a value
abbrev HasParts : one.Value-F Value → Type 0
HasParts (one.Vector vs) = All IsPart vs
HasParts (one.Map ps) = OfPairs IsPart ps
HasParts _ = Unit {0}

parts_of : (v : Value) → IsShallow v → HasParts (out-Value v)
parts_of v shallow = on (out-Value v) (subst IsShallow (sym (roll-out-Value v)) shallow)
  where
    on : (level : one.Value-F Value) → IsShallow (roll-Value level) → HasParts level
    on (one.Vector vs) holds =
        let le = subst IsShallow (value.rolls-Vector vs) holds in
        let e = depth_of-Vector vs in
        deepest-each depth_of 199 vs (omega (arith, e, le))
    on (one.Map ps) holds =
        let le = subst IsShallow (value.rolls-Map ps) holds in
        let e = depth_of-Map ps in
        deepest-each (λ (p : Pair Value). depth_of p.value) 199 ps (omega (arith, e, le))
    on _ holds = tt

-- nil is one deep
nil-shallow : IsShallow value.Nil
nil-shallow = let e = depth_of-Nil in omega (arith, e)
  where
    depth_of-Nil : depth_of value.Nil ≡ 1
    depth_of-Nil = search (rules, the_lemmas)

-- ---- what is put in or taken out
conj-shallow : (level : one.Value-F Value) (more : List Value) → HasParts level → All IsPart more → OfResult IsShallow (conj_step level more)
conj-shallow (one.Vector items) more all added = shallow-vector (items ++ more) (All-append IsPart items more all added)
conj-shallow _ more all added = tt

append-shallow : (items : List Value) (level : one.Value-F Value) → All IsPart items → HasParts level → OfResult IsShallow (append_step items level)
append-shallow items (one.Vector more) all added = shallow-vector (items ++ more) (All-append IsPart items more all added)
append-shallow items _ all added = tt

into-shallow : (level more : one.Value-F Value) → HasParts level → HasParts more → OfResult IsShallow (into_step level more)
into-shallow (one.Vector items) more all added = append-shallow items more all added
into-shallow _ more all added = tt

put_rule-shallow : (ps : List (Pair Value)) (entries : List (Value × Value)) → OfPairs IsPart ps → OfEntries IsPart entries → OfResult IsShallow (put_rule ps entries)
put_rule-shallow ps entries all holds =
    by_test IsShallow (list_all (λ (e : Value × Value). is_key e.0) entries) (Ok (value.Map (fold put_entry ps entries))) (Err fault.WrongType)
    (shallow-map (fold put_entry ps entries) (put_entries-carries IsPart ps entries all holds)) tt

vector_or_index-shallow : (made : Option (List Value)) → OfOption (All IsPart) made → OfResult IsShallow (vector_or_index made)
vector_or_index-shallow None all = tt
vector_or_index-shallow (Some items) all = shallow-vector items all

place_rule-shallow : (items : List Value) (entries : List (Value × Value)) → All IsPart items → OfEntries IsPart entries → OfResult IsShallow (place_rule items entries)
place_rule-shallow items entries all holds =
    by_test IsShallow (list_all (λ (e : Value × Value). is_int e.0) entries) (vector_or_index (fold place_entry (Some items) entries)) (Err fault.WrongType)
    (vector_or_index-shallow (fold place_entry (Some items) entries) (place_entries-carries IsPart (Some items) entries all holds)) tt

assoc-shallow : (level : one.Value-F Value) (entries : List (Value × Value)) → HasParts level → OfEntries IsPart entries → OfResult IsShallow (assoc_step level entries)
assoc-shallow one.Nil entries all holds = put_rule-shallow [] entries (All-nil (λ (p : Pair Value). IsPart p.value)) holds
assoc-shallow (one.Map pairs) entries all holds = put_rule-shallow pairs entries all holds
assoc-shallow (one.Vector items) entries all holds = place_rule-shallow items entries all holds
assoc-shallow _ entries all holds = tt

dissoc-shallow : (level : one.Value-F Value) (keys : List Value) → HasParts level → OfResult IsShallow (dissoc_step level keys)
dissoc-shallow one.Nil keys all = nil-shallow
dissoc-shallow (one.Map pairs) keys all = shallow-map (fold drop_key pairs keys) (drop_keys-carries IsPart pairs keys all)
dissoc-shallow _ keys all = tt

-- ---- primitives
of_result : (r : Result Value OpFault) (v : Value) → OfResult IsShallow r → r ≡ Ok v → IsShallow v
of_result r v holds is = subst (OfResult IsShallow) is holds

pub keeps_conj : (first : Value) (more : List Value) → All IsPart more → KeepsShallow op.Conj (first ∷ more)
keeps_conj first more all = record { gives = λ shallow v is. of_result _ v (conj-shallow (out-Value first) more (parts_of first shallow) all) is }

pub keeps_assoc : (first : Value) (more : List Value) → All IsPart more → KeepsShallow op.Assoc (first ∷ more)
keeps_assoc first more all = record { gives = λ shallow v is. of_result _ v (assoc-shallow (out-Value first) (paired more) (parts_of first shallow) (paired-carries IsPart more all)) is }

pub keeps_dissoc : (first : Value) (more : List Value) → KeepsShallow op.Dissoc (first ∷ more)
keeps_dissoc first more = record { gives = λ shallow v is. of_result _ v (dissoc-shallow (out-Value first) more (parts_of first shallow)) is }

pub keeps_into : (first : Value) (more : List Value) → All IsPart more → KeepsShallow op.Into (first ∷ more)
keeps_into first [] all = record { gives = λ shallow v is. of_result (Err fault.WrongType) v tt is }
keeps_into first (second ∷ []) all =
    let le : depth_of second ≤ 199 = All-head IsPart second [] all in
    record { gives = λ shallow v is. of_result _ v (into-shallow (out-Value first) (out-Value second) (parts_of first shallow) (parts_of second (omega (arith, le)))) is }
keeps_into first (second ∷ third ∷ more) all = record { gives = λ shallow v is. of_result (Err fault.WrongType) v tt is }

-- what a primitive gives is at most 200 deep
pub applied-shallow : (op : Op) (args : List Value) (v : Value) → Ok v ≡ apply_of op args → IsShallow v
applied-shallow op args v is = of_result (apply_of op args) v (limited-shallow (rule_of op args)) (sym is)
  where
    limited-shallow : (r : Result Value OpFault) → OfResult IsShallow (limited r)
    limited-shallow (Ok w) = tested (nat_le (depth_of w) 200) w (λ e. leb-true (depth_of w) 200 e)
      where
        tested : (b : Bool) (w : Value) → (b ≡ true → IsShallow w) → OfResult IsShallow (if b then Ok w else Err fault.TooDeep)
        tested true w holds = holds refl
        tested false w holds = tt
    limited-shallow (Err f) = tt

-- a value that is known to be so already is not looked at
pub limited-known : (v : Value) → IsShallow v → Ok v ≡ limited (Ok v)
limited-known v shallow = ap (λ b. if b then Ok v else Err fault.TooDeep) (sym (le-leb (depth_of v) 200 shallow))

-- the primitive and its arguments are known in another way
pub keeps-along : (is_op exact : Op) (args : List Value) (first : Value) (more : List Value) → is_op ≡ exact → args ≡ first ∷ more → KeepsShallow exact (first ∷ more) → KeepsShallow is_op args
keeps-along is_op exact args first more same are keeps = subst (λ (o : Op). KeepsShallow o args) (sym same) (subst (KeepsShallow exact) (sym are) keeps)
