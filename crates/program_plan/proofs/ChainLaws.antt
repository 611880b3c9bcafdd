-- Chains made along their recursion are the same as all parts first, and then what closes them.
use Rattle.std.proofs.Common.{◌≡◌, ◌∙◌, ℕ, ◌+◌, ◌-◌, ◌≤◌, List, [], ◌∷◌, ◌++◌, length, take, map, get_or, refl, sym, ap, subst, append_assoc, append-nil}
use Rattle.std.specs.Prelude.{Result}
use Rattle.value_core.specs.Place.{Spot}
use Rattle.core_syntax.specs.declared.build_no.BuildNo.{BuildNo}
use Rattle.core_syntax.specs.declared.node.Node.TheVariants.{Nil, If}
use Rattle.core_syntax.specs.declared.node_id.NodeId.{NodeId}
use Rattle.program_plan.specs.declared.chain.Chain.{Chain}
use Rattle.program_plan.specs.declared.chain.Chain.TheVariants as chain_kind
use Rattle.program_plan.specs.declared.chain.ChainPart.{ChainPart}
use Rattle.program_plan.specs.declared.chain.ChainPart.TheVariants as part_kind
use Rattle.program_plan.specs.Chains.{closed, cond_closed, chain_of, chain_part, chain_node}
use Rattle.program_plan.specs.Emitted.{Emitting, local, each, cond_of, and_of, or_of}
use Rattle.program_plan.specs.Frame.{Frame}
use Rattle.program_plan.specs.Made.{Draft, Making, Makes, node, nothing, followed, gathered}
use Rattle.program_plan.proofs.Each.{front_mapped}
use Rattle.program_plan.proofs.StepLaws.{Same, assoc, nothing-followed, followed-nothing, same_first, same_second, makes_same}

-- what is done already stands in front
behind_one : {X B : Type 0} (one : ℕ → X → Making B) (number : ℕ) (done : List B) (xs : List X) (y : B)
    → ((more : List B) → Same (gathered one number more xs) (followed (gathered one number [] xs) (λ l. nothing (more ++ l))))
    → Same (gathered one number (done ++ y ∷ []) xs) (followed (gathered one number (y ∷ []) xs) (λ more. nothing (done ++ more)))
behind_one one number done xs y behind m =
    let tail = gathered one number [] xs in
    behind (done ++ y ∷ []) m
    ∙ same_second tail (λ more. nothing ((done ++ y ∷ []) ++ more)) (λ more. nothing (done ++ y ∷ more)) (λ more k. ap (λ l. nothing l k) (append_assoc done (y ∷ []) more)) m
    ∙ sym (same_first (gathered one number (y ∷ []) xs) (followed tail (λ more. nothing (y ∷ more))) (λ more. nothing (done ++ more)) (behind (y ∷ [])) m
    ∙ assoc tail (λ more. nothing (y ∷ more)) (λ more. nothing (done ++ more)) m
    ∙ same_second tail (λ more. followed (nothing (y ∷ more)) (λ l. nothing (done ++ l))) (λ more. nothing (done ++ y ∷ more)) (λ more k. nothing-followed (y ∷ more) (λ l. nothing (done ++ l)) k) m)

gathered-behind : {X B : Type 0} (one : ℕ → X → Making B) (number : ℕ) (xs : List X) (done : List B)
    → Same (gathered one number done xs) (followed (gathered one number [] xs) (λ more. nothing (done ++ more)))
gathered-behind one number [] done n =
    sym (nothing-followed [] (λ more. nothing (done ++ more)) n ∙ ap (λ l. nothing l n) (append-nil done))
gathered-behind one number (x ∷ xs) done n =
    same_second (one number x) (λ y. gathered one (number + 1) (done ++ y ∷ []) xs) (λ y. followed (gathered one (number + 1) (y ∷ []) xs) (λ more. nothing (done ++ more)))
    (λ y. behind_one one (number + 1) done xs y (gathered-behind one (number + 1) xs)) n
    ∙ sym (assoc (one number x) (λ y. gathered one (number + 1) (y ∷ []) xs) (λ more. nothing (done ++ more)) n)

-- a chain by its recursion: a part, the rest, and what closes the part round the rest
abbrev chain : {X B : Type 0} → (ℕ → X → Making B) → (ℕ → B → NodeId → Making NodeId) → ℕ → List X → Making NodeId → Making NodeId
chain part close number [] last = last
chain part close number (x ∷ xs) last = followed (part number x) (λ b. followed (chain part close (number + 1) xs last) (λ rest. close number b rest))

-- all parts first, and then what closes them
abbrev pub in_turn : {X B : Type 0} → (ℕ → X → Making B) → (ℕ → B → NodeId → Making NodeId) → ℕ → List X → Making NodeId → Making NodeId
in_turn part close number xs last = followed (gathered part number [] xs) (λ parts. followed last (λ rest. closed close number parts rest))

turn_one : {X B : Type 0} (part : ℕ → X → Making B) (close : ℕ → B → NodeId → Making NodeId) (number : ℕ) (xs : List X) (last : Making NodeId) (b : B)
    → Same (in_turn part close (number + 1) xs last) (chain part close (number + 1) xs last)
    → Same (followed (gathered part (number + 1) (b ∷ []) xs) (λ parts. followed last (λ rest. closed close number parts rest)))
    (followed (chain part close (number + 1) xs last) (λ rest. close number b rest))
turn_one {X} {B} part close number xs last b turn m =
    let tail = gathered part (number + 1) [] xs in
    let after : List B → Making NodeId = λ parts. followed last (λ rest. closed close number parts rest) in
    let closing : List B → Making NodeId = λ parts. followed last (λ rest. closed close (number + 1) parts rest) in
    let end : NodeId → Making NodeId = λ rest. close number b rest in
    same_first (gathered part (number + 1) (b ∷ []) xs) (followed tail (λ more. nothing (b ∷ more))) after (gathered-behind part (number + 1) xs (b ∷ [])) m
    ∙ assoc tail (λ more. nothing (b ∷ more)) after m
    ∙ same_second tail (λ more. followed (nothing (b ∷ more)) after) (λ more. after (b ∷ more)) (λ more k. nothing-followed (b ∷ more) after k) m
    ∙ same_second tail (λ more. after (b ∷ more)) (λ more. followed (closing more) end) (λ more k. sym (assoc last (λ rest. closed close (number + 1) more rest) end k)) m
    ∙ sym (assoc tail closing end m)
    ∙ same_first (in_turn part close (number + 1) xs last) (chain part close (number + 1) xs last) end turn m

chain-in_turn : {X B : Type 0} (part : ℕ → X → Making B) (close : ℕ → B → NodeId → Making NodeId) (number : ℕ) (xs : List X) (last : Making NodeId)
    → Same (in_turn part close number xs last) (chain part close number xs last)
chain-in_turn part close number [] last n =
    nothing-followed [] (λ parts. followed last (λ rest. closed close number parts rest)) n ∙ followed-nothing last n
chain-in_turn part close number (x ∷ xs) last n =
    assoc (part number x) (λ b. gathered part (number + 1) (b ∷ []) xs) (λ parts. followed last (λ rest. closed close number parts rest)) n
    ∙ same_second (part number x) (λ b. followed (gathered part (number + 1) (b ∷ []) xs) (λ parts. followed last (λ rest. closed close number parts rest)))
    (λ b. followed (chain part close (number + 1) xs last) (λ rest. close number b rest))
    (λ b. turn_one part close number xs last b (chain-in_turn part close (number + 1) xs last)) n

-- one part of an and, before the rest
and_one : (at : Spot) (frame : Frame) (level : ℕ) (x : Emitting) (p q : Making NodeId) → Same p q
    → Same (followed (chain_part chain_kind.And at frame level x) (λ part. followed p (λ rest. chain_node at frame level part rest)))
    (followed (x frame) (λ value. followed (local at level frame) (λ test. followed q (λ rest. chain_node at frame level (part_kind.And value test) rest))))
and_one at frame level x p q same n =
    let done : NodeId → NodeId → Making ChainPart = λ value test. nothing (part_kind.And value test) in
    let whole : ChainPart → Making NodeId = λ part. followed p (λ rest. chain_node at frame level part rest) in
    let target : ChainPart → Making NodeId = λ part. followed q (λ rest. chain_node at frame level part rest) in
    assoc (x frame) (λ value. followed (local at level frame) (λ test. done value test)) whole n
    ∙ same_second (x frame) (λ value. followed (followed (local at level frame) (λ test. done value test)) whole)
    (λ value. followed (local at level frame) (λ test. target (part_kind.And value test)))
    (λ value k. assoc (local at level frame) (λ test. done value test) whole k
    ∙ same_second (local at level frame) (λ test. followed (done value test) whole) (λ test. target (part_kind.And value test))
    (λ test j. nothing-followed (part_kind.And value test) whole j ∙ same_first p q (λ rest. chain_node at frame level (part_kind.And value test) rest) same j) k) n

-- one part of an or, before the rest
or_one : (at : Spot) (frame : Frame) (level : ℕ) (x : Emitting) (p q : Making NodeId) → Same p q
    → Same (followed (chain_part chain_kind.Or at frame level x) (λ part. followed p (λ rest. chain_node at frame level part rest)))
    (followed (x frame) (λ value. followed (local at level frame) (λ test. followed (local at level frame) (λ again.
    followed q (λ rest. chain_node at frame level (part_kind.Or value test again) rest)))))
or_one at frame level x p q same n =
    let done : NodeId → NodeId → NodeId → Making ChainPart = λ value test again. nothing (part_kind.Or value test again) in
    let whole : ChainPart → Making NodeId = λ part. followed p (λ rest. chain_node at frame level part rest) in
    let target : ChainPart → Making NodeId = λ part. followed q (λ rest. chain_node at frame level part rest) in
    let from_test : NodeId → NodeId → Making NodeId = λ value test. followed (local at level frame) (λ again. target (part_kind.Or value test again)) in
    assoc (x frame) (λ value. followed (local at level frame) (λ test. followed (local at level frame) (λ again. done value test again))) whole n
    ∙ same_second (x frame) (λ value. followed (followed (local at level frame) (λ test. followed (local at level frame) (λ again. done value test again))) whole)
    (λ value. followed (local at level frame) (λ test. from_test value test))
    (λ value k. assoc (local at level frame) (λ test. followed (local at level frame) (λ again. done value test again)) whole k
    ∙ same_second (local at level frame) (λ test. followed (followed (local at level frame) (λ again. done value test again)) whole) (λ test. from_test value test)
    (λ test j. assoc (local at level frame) (λ again. done value test again) whole j
    ∙ same_second (local at level frame) (λ again. followed (done value test again) whole) (λ again. target (part_kind.Or value test again))
    (λ again i. nothing-followed (part_kind.Or value test again) whole i ∙ same_first p q (λ rest. chain_node at frame level (part_kind.Or value test again) rest) same i) j) k) n

-- an and is such a chain
and_chain : (at : Spot) (frame : Frame) (level : ℕ) (xs : List Emitting) (last : Emitting)
    → Same (chain (chain_part chain_kind.And at frame) (chain_node at frame) level xs (last frame)) (and_of at frame level (xs ++ last ∷ []))
and_chain at frame level [] last n = refl
and_chain at frame level (x ∷ []) last n = and_one at frame level x (last frame) (and_of at frame (level + 1) (last ∷ [])) (λ k. refl) n
and_chain at frame level (x ∷ y ∷ xs) last n =
    and_one at frame level x (chain (chain_part chain_kind.And at frame) (chain_node at frame) (level + 1) (y ∷ xs) (last frame)) (and_of at frame (level + 1) (y ∷ (xs ++ last ∷ []))) (and_chain at frame (level + 1) (y ∷ xs) last) n

and_in_turn : (at : Spot) (frame : Frame) (level : ℕ) (xs : List Emitting) (last : Emitting)
    → Same (in_turn (chain_part chain_kind.And at frame) (chain_node at frame) level xs (last frame)) (and_of at frame level (xs ++ last ∷ []))
and_in_turn at frame level xs last n = chain-in_turn (chain_part chain_kind.And at frame) (chain_node at frame) level xs (last frame) n ∙ and_chain at frame level xs last n

-- so is an or
or_chain : (at : Spot) (frame : Frame) (level : ℕ) (xs : List Emitting) (last : Emitting)
    → Same (chain (chain_part chain_kind.Or at frame) (chain_node at frame) level xs (last frame)) (or_of at frame level (xs ++ last ∷ []))
or_chain at frame level [] last n = refl
or_chain at frame level (x ∷ []) last n = or_one at frame level x (last frame) (or_of at frame (level + 1) (last ∷ [])) (λ k. refl) n
or_chain at frame level (x ∷ y ∷ xs) last n =
    or_one at frame level x (chain (chain_part chain_kind.Or at frame) (chain_node at frame) (level + 1) (y ∷ xs) (last frame)) (or_of at frame (level + 1) (y ∷ (xs ++ last ∷ []))) (or_chain at frame (level + 1) (y ∷ xs) last) n

or_in_turn : (at : Spot) (frame : Frame) (level : ℕ) (xs : List Emitting) (last : Emitting)
    → Same (in_turn (chain_part chain_kind.Or at frame) (chain_node at frame) level xs (last frame)) (or_of at frame level (xs ++ last ∷ []))
or_in_turn at frame level xs last n = chain-in_turn (chain_part chain_kind.Or at frame) (chain_node at frame) level xs (last frame) n ∙ or_chain at frame level xs last n

-- a cond, two parts at a time
abbrev pub cond_in_turn : Spot → Frame → List Emitting → Making NodeId
cond_in_turn at frame xs = followed (each frame xs) (λ ids. followed (node at Nil) (λ last. cond_closed at ids last))

abbrev plainly : Frame → ℕ → Emitting → Making NodeId
plainly frame number part = part frame

gathered-plainly : (frame : Frame) (m n : ℕ) (done : List NodeId) (xs : List Emitting) → Same (gathered (plainly frame) m done xs) (gathered (plainly frame) n done xs)
gathered-plainly frame m n done [] k = refl
gathered-plainly frame m n done (x ∷ xs) k =
    same_second (x frame) (λ y. gathered (plainly frame) (m + 1) (done ++ y ∷ []) xs) (λ y. gathered (plainly frame) (n + 1) (done ++ y ∷ []) xs)
    (λ y. gathered-plainly frame (m + 1) (n + 1) (done ++ y ∷ []) xs) k

abbrev cond_after : Spot → List NodeId → Making NodeId
cond_after at ids = followed (node at Nil) (λ last. cond_closed at ids last)

cond_two : (at : Spot) (frame : Frame) (xs : List Emitting) (a b : NodeId) → Same (cond_in_turn at frame xs) (cond_of at frame xs)
    → Same (followed (gathered (plainly frame) 2 (a ∷ b ∷ []) xs) (cond_after at)) (followed (cond_of at frame xs) (λ others. node at (If a b others)))
cond_two at frame xs a b turn m =
    let end : NodeId → Making NodeId = λ others. node at (If a b others) in
    same_first (gathered (plainly frame) 2 (a ∷ b ∷ []) xs) (followed (each frame xs) (λ more. nothing (a ∷ b ∷ more))) (cond_after at)
    (λ k. gathered-behind (plainly frame) 2 xs (a ∷ b ∷ []) k ∙ same_first (gathered (plainly frame) 2 [] xs) (each frame xs) (λ more. nothing (a ∷ b ∷ more)) (gathered-plainly frame 2 0 [] xs) k) m
    ∙ assoc (each frame xs) (λ more. nothing (a ∷ b ∷ more)) (cond_after at) m
    ∙ same_second (each frame xs) (λ more. followed (nothing (a ∷ b ∷ more)) (cond_after at)) (λ more. followed (cond_after at more) end)
    (λ more k. nothing-followed (a ∷ b ∷ more) (cond_after at) k ∙ sym (assoc (node at Nil) (λ last. cond_closed at more last) end k)) m
    ∙ sym (assoc (each frame xs) (cond_after at) end m)
    ∙ same_first (cond_in_turn at frame xs) (cond_of at frame xs) end turn m

cond-in_turn : (at : Spot) (frame : Frame) (xs : List Emitting) → Same (cond_in_turn at frame xs) (cond_of at frame xs)
cond-in_turn at frame [] n = nothing-followed [] (cond_after at) n ∙ followed-nothing (node at Nil) n
cond-in_turn at frame (x ∷ []) n =
    assoc (x frame) (λ a. nothing (a ∷ [])) (cond_after at) n
    ∙ same_second (x frame) (λ a. followed (nothing (a ∷ [])) (cond_after at)) (λ a. node at Nil) (λ a k. nothing-followed (a ∷ []) (cond_after at) k ∙ followed-nothing (node at Nil) k) n
cond-in_turn at frame (x ∷ y ∷ xs) n =
    assoc (x frame) (λ a. followed (y frame) (λ b. gathered (plainly frame) 2 (a ∷ b ∷ []) xs)) (cond_after at) n
    ∙ same_second (x frame) (λ a. followed (followed (y frame) (λ b. gathered (plainly frame) 2 (a ∷ b ∷ []) xs)) (cond_after at))
    (λ a. followed (y frame) (λ b. followed (cond_of at frame xs) (λ others. node at (If a b others))))
    (λ a k. assoc (y frame) (λ b. gathered (plainly frame) 2 (a ∷ b ∷ []) xs) (cond_after at) k
    ∙ same_second (y frame) (λ b. followed (gathered (plainly frame) 2 (a ∷ b ∷ []) xs) (cond_after at)) (λ b. followed (cond_of at frame xs) (λ others. node at (If a b others)))
    (λ b. cond_two at frame xs a b (cond-in_turn at frame xs)) k) n

-- what is made in turn is what the chain makes
pub cond_made : (at : Spot) (frame : Frame) (xs : List Emitting) (s t : Draft) (r : Result NodeId BuildNo) → Makes (cond_in_turn at frame xs) s r t → Makes (cond_of at frame xs) s r t
cond_made at frame xs s t r made = makes_same (cond_in_turn at frame xs) (cond_of at frame xs) s t r (cond-in_turn at frame xs) made

and_made : {A : Type 0} (f : A → Emitting) (at : Spot) (frame : Frame) (level : ℕ) (xs : List A) (x : A) (s t : Draft) (r : Result NodeId BuildNo) → 1 ≤ length xs → x ≡ get_or xs (length xs - 1) x
    → Makes (in_turn (chain_part chain_kind.And at frame) (chain_node at frame) level (map f (take (length xs - 1) xs)) (f x frame)) s r t → Makes (and_of at frame level (map f xs)) s r t
and_made f at frame level xs x s t r some is made =
    let front = map f (take (length xs - 1) xs) in
    subst (λ l. Makes (and_of at frame level l) s r t) (front_mapped f xs x some is)
    (makes_same (in_turn (chain_part chain_kind.And at frame) (chain_node at frame) level front (f x frame)) (and_of at frame level (front ++ f x ∷ [])) s t r (and_in_turn at frame level front (f x)) made)

or_made : {A : Type 0} (f : A → Emitting) (at : Spot) (frame : Frame) (level : ℕ) (xs : List A) (x : A) (s t : Draft) (r : Result NodeId BuildNo) → 1 ≤ length xs → x ≡ get_or xs (length xs - 1) x
    → Makes (in_turn (chain_part chain_kind.Or at frame) (chain_node at frame) level (map f (take (length xs - 1) xs)) (f x frame)) s r t → Makes (or_of at frame level (map f xs)) s r t
or_made f at frame level xs x s t r some is made =
    let front = map f (take (length xs - 1) xs) in
    subst (λ l. Makes (or_of at frame level l) s r t) (front_mapped f xs x some is)
    (makes_same (in_turn (chain_part chain_kind.Or at frame) (chain_node at frame) level front (f x frame)) (or_of at frame level (front ++ f x ∷ [])) s t r (or_in_turn at frame level front (f x)) made)

pub chain_made : {A : Type 0} (kind : Chain) (f : A → Emitting) (at : Spot) (frame : Frame) (level : ℕ) (xs : List A) (x : A) (s t : Draft) (r : Result NodeId BuildNo) → 1 ≤ length xs → x ≡ get_or xs (length xs - 1) x
    → Makes (in_turn (chain_part kind at frame) (chain_node at frame) level (map f (take (length xs - 1) xs)) (f x frame)) s r t → Makes (chain_of kind at frame level (map f xs)) s r t
chain_made chain_kind.And f at frame level xs x s t r some is made = and_made f at frame level xs x s t r some is made
chain_made chain_kind.Or f at frame level xs x s t r some is made = or_made f at frame level xs x s t r some is made

-- what closes parts under another name
pub makes_cond_closed : {s t : Draft} {r : Result NodeId BuildNo} (at : Spot) (xs ys : List NodeId) (last : NodeId) → xs ≡ ys → Makes (cond_closed at xs last) s r t → Makes (cond_closed at ys last) s r t
makes_cond_closed {s} {t} {r} at xs ys last is made = subst (λ l. Makes (cond_closed at l last) s r t) is made

pub makes_closed : {B : Type 0} {s t : Draft} {r : Result NodeId BuildNo} (one : ℕ → B → NodeId → Making NodeId) (number : ℕ) (xs ys : List B) (last : NodeId) → xs ≡ ys → Makes (closed one number xs last) s r t → Makes (closed one number ys last) s r t
makes_closed {B} {s} {t} {r} one number xs ys last is made = subst (λ l. Makes (closed one number l last) s r t) is made
