-- What closes chains, from the last part to the first.
use Rattle.std.proofs.Common.{◌≡◌, ◌∙◌, ℕ, zero, suc, ◌+◌, ◌*◌, ◌/◌, ◌<◌, ◌≤◌, List, [], ◌∷◌, length, drop, get_or, refl, sym, ap, subst, arith, add-one, drop-cons, length-drop}
use Rattle.std.specs.Prelude.{Result, Ok, Err}
use Rattle.std.proofs.lemmas.List.{drop_all}
use Rattle.value_core.specs.Place.{Spot}
use Rattle.core_syntax.specs.declared.build_no.BuildNo.{BuildNo}
use Rattle.core_syntax.specs.declared.node.Node.TheVariants.{If}
use Rattle.core_syntax.specs.declared.node_id.NodeId.{NodeId}
use Rattle.program_plan.specs.Chains.{closed, cond_closed}
use Rattle.program_plan.specs.Made.{Draft, Making, Makes, node}
use Rattle.program_plan.proofs.Making.{makes_then, makes_stop, makes_nothing}

-- an element is there whatever stands in for one that is not
pub own_default : {A : Type 0} (xs : List A) (i : ℕ) (d : A) → i < length xs → get_or xs i d ≡ get_or xs i (get_or xs i d)
own_default [] i d lt = absurd (omega arith)
own_default (x ∷ xs) zero d lt = refl
own_default (x ∷ xs) (suc i) d lt = own_default xs i d (omega arith)

-- from place i on there is its part, and then the others
from_part : {A : Type 0} (xs : List A) (i : ℕ) (x : A) → i < length xs → x ≡ get_or xs i x → drop i xs ≡ x ∷ drop (i + 1) xs
from_part {A} xs i x lt is =
    let parts : A → List A = λ y. y ∷ drop (suc i) xs in
    rw add-one (drop-cons xs i x lt ∙ ap parts (sym is))

pub closed_begin : {B : Type 0} (one : ℕ → B → NodeId → Making NodeId) (number : ℕ) (xs : List B) (i : ℕ) (last : NodeId) (s : Draft) → length xs ≤ i → Makes (closed one (number + i) (drop i xs) last) s (Ok last) s
closed_begin {B} one number xs i last s le =
    subst (λ (l : List B). Makes (closed one (number + i) l last) s (Ok last) s) (sym (drop_all i xs le)) (makes_nothing last s)

pub closed_step : {B : Type 0} (one : ℕ → B → NodeId → Making NodeId) (number : ℕ) (xs : List B) (i j level : ℕ) (x : B) (last rest : NodeId) (s u t : Draft) (r : Result NodeId BuildNo)
    → j ≡ i + 1 → level ≡ number + i → i < length xs → x ≡ get_or xs i x → Makes (closed one (number + j) (drop j xs) last) s (Ok rest) u → Makes (one level x rest) u r t
    → Makes (closed one (number + i) (drop i xs) last) s r t
closed_step {B} one number xs i j level x last rest s u t r next here lt is made second =
    let go : List B → Making NodeId = λ l. closed one (number + i) l last in
    let tail : ℕ → ℕ → Making NodeId = λ m k. closed one m (drop k xs) last in
    let same : number + j ≡ number + i + 1 = omega arith in
    subst (λ l. Makes (go l) s r t) (sym (from_part xs i x lt is))
    (makes_then (λ y. one (number + i) x y) (subst (λ m. Makes (tail m (i + 1)) s (Ok rest) u) same (subst (λ k. Makes (tail (number + j) k) s (Ok rest) u) next made))
    (subst (λ m. Makes (one m x rest) u r t) here second))

pub closed_stop : {B : Type 0} (one : ℕ → B → NodeId → Making NodeId) (number : ℕ) (xs : List B) (i : ℕ) (last : NodeId) (s u t : Draft) (e : BuildNo) → i ≤ length xs
    → Makes (closed one (number + i) (drop i xs) last) s (Err e) u → Makes (closed one number xs last) s (Err e) u
closed_stop one number xs zero last s u t e le made =
    let none : number + 0 ≡ number = omega arith in
    subst (λ m. Makes (closed one m xs last) s (Err e) u) none made
closed_stop one number [] (suc i) last s u t e le made = absurd (omega arith)
closed_stop one number (x ∷ xs) (suc i) last s u t e le made =
    let same : number + suc i ≡ number + 1 + i = omega arith in
    makes_stop (λ y. one number x y) u (closed_stop one (number + 1) xs i last s u t e (omega arith) (subst (λ m. Makes (closed one m (drop i xs) last) s (Err e) u) same made))

pub closed_end : {B : Type 0} (one : ℕ → B → NodeId → Making NodeId) (number : ℕ) (xs : List B) (i : ℕ) (last : NodeId) (s t : Draft) (r : Result NodeId BuildNo) → i ≤ 0
    → Makes (closed one (number + i) (drop i xs) last) s r t → Makes (closed one number xs last) s r t
closed_end one number xs zero last s t r le made =
    let none : number + 0 ≡ number = omega arith in
    subst (λ m. Makes (closed one m xs last) s r t) none made
closed_end one number xs (suc i) last s t r le made = absurd (omega arith)

-- the ifs of a cond, two ids at a time
cond_none : (at : Spot) (xs : List NodeId) (last : NodeId) (s : Draft) → length xs < 2 → Makes (cond_closed at xs last) s (Ok last) s
cond_none at [] last s lt = makes_nothing last s
cond_none at (x ∷ []) last s lt = makes_nothing last s
cond_none at (x ∷ y ∷ xs) last s lt = absurd (omega arith)

pub cond_begin : (at : Spot) (xs : List NodeId) (i : ℕ) (last : NodeId) (s : Draft) → i ≡ length xs / 2 → Makes (cond_closed at (drop (2 * i) xs) last) s (Ok last) s
cond_begin at xs i last s half = cond_none at (drop (2 * i) xs) last s (let short = length-drop (2 * i) xs in omega arith)

pub cond_step : (at : Spot) (xs : List NodeId) (i j : ℕ) (test result last rest : NodeId) (s u t : Draft) (r : Result NodeId BuildNo)
    → j ≡ i + 1 → 2 * i + 1 < length xs → test ≡ get_or xs (2 * i) test → result ≡ get_or xs (2 * i + 1) result
    → Makes (cond_closed at (drop (2 * j) xs) last) s (Ok rest) u → Makes (node at (If test result rest)) u r t
    → Makes (cond_closed at (drop (2 * i) xs) last) s r t
cond_step at xs i j test result last rest s u t r next lt is_test is_result made second =
    let two : drop (2 * i) xs ≡ test ∷ result ∷ drop (2 * i + 1 + 1) xs =
    from_part xs (2 * i) test (omega arith) is_test ∙ ap (λ l. test ∷ l) (from_part xs (2 * i + 1) result lt is_result) in
    let same : 2 * j ≡ 2 * i + 1 + 1 = omega arith in
    subst (λ l. Makes (cond_closed at l last) s r t) (sym two)
    (makes_then (λ y. node at (If test result y)) (subst (λ k. Makes (cond_closed at (drop k xs) last) s (Ok rest) u) same made) second)

pub cond_stop : (at : Spot) (xs : List NodeId) (i : ℕ) (last : NodeId) (s u : Draft) (e : BuildNo) → 2 * i ≤ length xs
    → Makes (cond_closed at (drop (2 * i) xs) last) s (Err e) u → Makes (cond_closed at xs last) s (Err e) u
cond_stop at xs zero last s u e le made = made
cond_stop at [] (suc i) last s u e le made = absurd (omega arith)
cond_stop at (x ∷ []) (suc i) last s u e le made = absurd (omega arith)
cond_stop at (x ∷ y ∷ xs) (suc i) last s u e le made =
    let same : 2 * suc i ≡ suc (suc (2 * i)) = omega arith in
    makes_stop (λ z. node at (If x y z)) u (cond_stop at xs i last s u e (omega arith) (subst (λ k. Makes (cond_closed at (drop k (x ∷ y ∷ xs)) last) s (Err e) u) same made))

pub cond_end : (at : Spot) (xs : List NodeId) (i : ℕ) (last : NodeId) (s t : Draft) (r : Result NodeId BuildNo) → i ≤ 0
    → Makes (cond_closed at (drop (2 * i) xs) last) s r t → Makes (cond_closed at xs last) s r t
cond_end at xs zero last s t r le made = made
cond_end at xs (suc i) last s t r le made = absurd (omega arith)
