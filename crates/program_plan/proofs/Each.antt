-- Parts one after another.
use Rattle.std.proofs.Common.{◌≡◌, ◌∙◌, ℕ, suc, ◌+◌, ◌-◌, ◌<◌, ◌≤◌, List, [], ◌∷◌, ◌++◌, length, map, take, drop, get_or, refl, sym, ap, subst, arith, add-one, drop-cons}
use Rattle.std.specs.Prelude.{Result, Ok, Err}
use Rattle.std.proofs.lemmas.List.{drop_all, take-append-drop}
use Rattle.core_syntax.specs.declared.build_no.BuildNo.{BuildNo}
use Rattle.program_plan.specs.Emitted.{Emitting, each, by_last}
use Rattle.program_plan.specs.Frame.{Frame}
use Rattle.core_syntax.specs.declared.node_id.NodeId.{NodeId}
use Rattle.program_plan.specs.Made.{Draft, Making, Makes, gathered}
use Rattle.program_plan.proofs.Making.{makes_then, makes_stop, makes_nothing}

-- what is left from place i on begins with the part there
pub left_at : {A B : Type 0} (f : A → B) (xs : List A) (i : ℕ) (x : A) → i < length xs → x ≡ get_or xs i x → map f (drop i xs) ≡ f x ∷ map f (drop (i + 1) xs)
left_at {A} {B} f xs i x lt is =
    let parts : A → List B = λ y. f y ∷ map f (drop (suc i) xs) in
    rw add-one (ap (λ l. map f l) (drop-cons xs i x lt) ∙ ap parts (sym is))

pub gathered_step : {A B X : Type 0} (one : ℕ → X → Making B) (f : A → X) (number : ℕ) (xs : List A) (i : ℕ) (x : A) (done more : List B) (y : B) (s u t : Draft) (r : Result (List B) BuildNo)
    → i < length xs → x ≡ get_or xs i x → more ≡ done ++ y ∷ [] → Makes (one (number + i) (f x)) s (Ok y) u
    → Makes (gathered one (number + (i + 1)) more (map f (drop (i + 1) xs))) u r t → Makes (gathered one (number + i) done (map f (drop i xs))) s r t
gathered_step {A} {B} {X} one f number xs i x done more y s u t r lt is pushed first rest =
    let go : List X → Making (List B) = λ l. gathered one (number + i) done l in
    let next : ℕ → List B → Making (List B) = λ m l. gathered one m l (map f (drop (i + 1) xs)) in
    let same : number + (i + 1) ≡ number + i + 1 = omega arith in
    subst (λ l. Makes (go l) s r t) (sym (left_at f xs i x lt is))
    (makes_then (λ z. next (number + i + 1) (done ++ z ∷ [])) first (subst (λ m. Makes (next m (done ++ y ∷ [])) u r t) same (subst (λ l. Makes (next (number + (i + 1)) l) u r t) pushed rest)))

pub gathered_stop : {A B X : Type 0} (one : ℕ → X → Making B) (f : A → X) (number : ℕ) (xs : List A) (i : ℕ) (x : A) (done : List B) (s u t : Draft) (e : BuildNo)
    → i < length xs → x ≡ get_or xs i x → Makes (one (number + i) (f x)) s (Err e) u → Makes (gathered one (number + i) done (map f (drop i xs))) s (Err e) t
gathered_stop {A} {B} {X} one f number xs i x done s u t e lt is first =
    let go : List X → Making (List B) = λ l. gathered one (number + i) done l in
    subst (λ l. Makes (go l) s (Err e) t) (sym (left_at f xs i x lt is))
    (makes_stop (λ z. gathered one (number + i + 1) (done ++ z ∷ []) (map f (drop (i + 1) xs))) t first)

pub gathered_done : {A B X : Type 0} (one : ℕ → X → Making B) (f : A → X) (number : ℕ) (xs : List A) (i : ℕ) (done : List B) (s : Draft) → length xs ≤ i → Makes (gathered one (number + i) done (map f (drop i xs))) s (Ok done) s
gathered_done {A} {B} {X} one f number xs i done s le =
    let go : List X → Making (List B) = λ l. gathered one (number + i) done l in
    subst (λ l. Makes (go (map f l)) s (Ok done) s) (sym (drop_all i xs le)) (makes_nothing done s)

-- a part at a level under another name
pub makes_part : {X B : Type 0} {s t : Draft} {r : Result B BuildNo} (one : ℕ → X → Making B) (level number : ℕ) (x : X) → level ≡ number → Makes (one level x) s r t → Makes (one number x) s r t
makes_part {X} {B} {s} {t} {r} one level number x is made = subst (λ n. Makes (one n x) s r t) is made

-- parts under another name
pub makes_arguments : {A : Type 0} {s t : Draft} {r : Result (List NodeId) BuildNo} (f : A → Emitting) (frame : Frame) (xs ys : List A) → xs ≡ ys → Makes (each frame (map f xs)) s r t → Makes (each frame (map f ys)) s r t
makes_arguments {A} {s} {t} {r} f frame xs ys is made = subst (λ l. Makes (each frame (map f l)) s r t) is made

pub by_last-push : {X Y : Type 0} (none : Y) (some : List X → X → Y) (xs : List X) (x : X) → by_last none some (xs ++ x ∷ []) ≡ some xs x
by_last-push none some [] x = refl
by_last-push none some (y ∷ []) x = refl
by_last-push none some (y ∷ z ∷ xs) x = by_last-push none (λ front last. some (y ∷ front) last) (z ∷ xs) x

pub map-push : {A B : Type 0} (f : A → B) (xs : List A) (x : A) → map f (xs ++ x ∷ []) ≡ map f xs ++ f x ∷ []
map-push f [] x = refl
map-push f (y ∷ xs) x = ap (λ l. f y ∷ l) (map-push f xs x)

front_and_last : {A : Type 0} (xs : List A) (x : A) → 1 ≤ length xs → x ≡ get_or xs (length xs - 1) x → take (length xs - 1) xs ++ x ∷ [] ≡ xs
front_and_last {A} xs x some is =
    let i = length xs - 1 in
    let one : A → List A = λ y. y ∷ [] in
    let rest : drop i xs ≡ get_or xs i x ∷ [] = drop-cons xs i x (omega arith) ∙ ap (λ l. get_or xs i x ∷ l) (drop_all (suc i) xs (omega arith)) in
    ap (λ l. take i xs ++ l) (ap one is ∙ sym rest) ∙ take-append-drop i xs

pub front_mapped : {A X : Type 0} (f : A → X) (xs : List A) (x : A) → 1 ≤ length xs → x ≡ get_or xs (length xs - 1) x → map f (take (length xs - 1) xs) ++ f x ∷ [] ≡ map f xs
front_mapped f xs x more is = sym (map-push f (take (length xs - 1) xs) x) ∙ ap (λ l. map f l) (front_and_last xs x more is)

-- of some parts, the front and the last
pub by_last-at : {A X Y : Type 0} (f : A → X) (none : Y) (some : List X → X → Y) (xs : List A) (x : A) → 1 ≤ length xs → x ≡ get_or xs (length xs - 1) x
    → some (map f (take (length xs - 1) xs)) (f x) ≡ by_last none some (map f xs)
by_last-at f none some xs x more is =
    sym (by_last-push none some (map f (take (length xs - 1) xs)) (f x)) ∙ ap (λ l. by_last none some l) (front_mapped f xs x more is)
