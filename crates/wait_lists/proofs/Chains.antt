-- Chains: what they are among other links, and one without a slot.
use Rattle.std.proofs.Common.{◌≡◌, ◌≢◌, ℕ, List, [], ◌∷◌, Option, Some, None, refl, sym, ap, subst, ◌∙◌, inl, inr, ◌⊎◌}
use Rattle.std.proofs.lemmas.Bool.{cases_eq}
use Rattle.wait_lists.specs.Links.{IsAmong, EachOnce, IsChain, IsPassed}

pub none_is_not_some : {P : Type 0} (x : Option ℕ) (n : ℕ) → x ≡ None → x ≡ Some n → P
none_is_not_some x n e f = absurd (cc)

pub same_in_some : (m n : ℕ) → Some m ≡ Some n → m ≡ n
same_in_some m n e = cc

-- a chain is one among links that agree on its slots
pub IsChain-agrees : (next before next_2 before_2 : ℕ → Option ℕ) (last head : Option ℕ) (slots : List ℕ)
    → ((slot : ℕ) → IsAmong slot slots → next_2 slot ≡ next slot) → ((slot : ℕ) → IsAmong slot slots → before_2 slot ≡ before slot)
    → IsChain next before last head slots → IsChain next_2 before_2 last head slots
IsChain-agrees next before next_2 before_2 last head [] same_next same_before chain = chain
IsChain-agrees next before next_2 before_2 last head (slot ∷ rest) same_next same_before chain = (
  chain.0,
  same_before slot (inl refl) ∙ chain.1,
  subst (λ l. IsChain next_2 before_2 (Some slot) l rest) (sym (same_next slot (inl refl)))
      (IsChain-agrees next before next_2 before_2 (Some slot) (next slot) rest (λ s among. same_next s (inr among)) (λ s among. same_before s (inr among)) chain.2),
)

-- the same where the first slot has another one before it
pub IsChain-behind : (next before next_2 before_2 : ℕ → Option ℕ) (last last_2 head : Option ℕ) (slots : List ℕ)
    → ((slot : ℕ) → IsAmong slot slots → next_2 slot ≡ next slot)
    → ((slot : ℕ) → head ≡ Some slot → before_2 slot ≡ last_2)
    → ((slot : ℕ) → IsAmong slot slots → (head ≡ Some slot → ⊥) → before_2 slot ≡ before slot)
    → EachOnce slots → IsChain next before last head slots → IsChain next_2 before_2 last_2 head slots
IsChain-behind next before next_2 before_2 last last_2 head [] same_next here same_before once chain = chain
IsChain-behind next before next_2 before_2 last last_2 head (slot ∷ rest) same_next here same_before once chain = (
  chain.0,
  here slot chain.0,
  subst (λ l. IsChain next_2 before_2 (Some slot) l rest) (sym (same_next slot (inl refl)))
      (IsChain-agrees next before next_2 before_2 (Some slot) (next slot) rest (λ s among. same_next s (inr among))
      (λ s among. same_before s (inr among) (λ is. once.0 (subst (λ x. IsAmong x rest) (same_in_some s slot (sym is ∙ chain.0)) among))) chain.2),
)

-- the slot that is before one of the chain, where the chain has one before it
pub record Before (before : ℕ → Option ℕ) (last : ℕ) (slots : List ℕ) (slot : ℕ) : Type 0 where
  pub other : ℕ
  pub is : before slot ≡ Some other
  pub place : (other ≡ last) ⊎ IsAmong other slots

pub before_among : (next before : ℕ → Option ℕ) (last : ℕ) (head : Option ℕ) (slots : List ℕ) (slot : ℕ) → IsChain next before (Some last) head slots
    → IsAmong slot slots → Before before last slots slot
before_among next before last head [] slot chain among = absurd among
before_among next before last head (first ∷ rest) slot chain (inl it) = record { other = last; is = ap before it ∙ chain.1; place = inl refl }
before_among next before last head (first ∷ rest) slot chain (inr later) =
    let below = before_among next before first (next first) rest slot chain.2 later in
    record {
      other = below.other;
      is = below.is;
      place = elim below.place [
        | inl it ↦ inr (inl it)
        | inr deeper ↦ inr (inr deeper)
      ];
    }

-- the same where nothing is before the chain
pub before_within : (next before : ℕ → Option ℕ) (head : Option ℕ) (slots : List ℕ) (slot other : ℕ) → IsChain next before None head slots
    → IsAmong slot slots → before slot ≡ Some other → IsAmong other slots
before_within next before head [] slot other chain among is = absurd among
before_within next before head (first ∷ rest) slot other chain (inl it) is = none_is_not_some (before slot) other (ap before it ∙ chain.1) is
before_within next before head (first ∷ rest) slot other chain (inr later) is =
    let below = before_among next before first (next first) rest slot chain.2 later in
    let same : other ≡ below.other = same_in_some other below.other (sym is ∙ below.is) in
    elim below.place [
      | inl it ↦ inl (same ∙ it)
      | inr deeper ↦ inr (subst (λ o. IsAmong o rest) (sym same) deeper)
    ]

-- what comes next after a slot of the chain is in the chain
pub next_among : (next before : ℕ → Option ℕ) (last head : Option ℕ) (slots : List ℕ) (slot other : ℕ) → IsChain next before last head slots → IsAmong slot slots
    → next slot ≡ Some other → IsAmong other slots
next_among next before last head [] slot other chain among is = absurd among
next_among next before last head (first ∷ []) slot other chain (inl it) is = none_is_not_some (next first) other chain.2 (sym (ap next it) ∙ is)
next_among next before last head (first ∷ second ∷ rest) slot other chain (inl it) is = inr (inl (same_in_some other second (sym is ∙ ap next it ∙ chain.2.0)))
next_among next before last head (first ∷ rest) slot other chain (inr later) is = inr (next_among next before (Some first) (next first) rest slot other chain.2 later is)

-- a chain without one of its slots
pub record Without (next before : ℕ → Option ℕ) (last head : Option ℕ) (slots : List ℕ) (slot : ℕ) : Type 0 where
  pub left : List ℕ
  pub chain : IsChain next before last head left
  pub all : (other : ℕ) → IsAmong other slots → other ≢ slot → IsAmong other left
  pub only : (other : ℕ) → IsAmong other left → IsAmong other slots
  pub gone : IsAmong slot left → ⊥
  pub once : EachOnce left

module _ (next before next_2 before_2 : ℕ → Option ℕ) (slot : ℕ) (passed : IsPassed slot next before next_2 before_2) where
  -- the first slot is left out
  without_first : (last head : Option ℕ) (rest : List ℕ) → IsChain next before last head (slot ∷ rest) → EachOnce (slot ∷ rest)
      → ((other : ℕ) → last ≡ Some other → IsAmong other (slot ∷ rest) → ⊥) → Without next_2 before_2 last (next slot) (slot ∷ rest) slot
  without_first last head rest chain once off = record {
    left = rest;
    chain = IsChain-behind next before next_2 before_2 (Some slot) last (next slot) rest
        (λ s among. passed.next_else s (λ is. off s (sym chain.1 ∙ is) (inr among)))
        (λ s is. passed.before_at s is ∙ chain.1)
        (λ s among other. passed.before_else s other)
        once.1 chain.2;
    all = λ other among differs. elim among [
      | inl it ↦ absurd (differs it)
      | inr later ↦ later
    ];
    only = λ other among. inr among;
    gone = once.0;
    once = once.1;
  }

  -- the chain without the slot: its head is the next one where the slot was the head
  pub without : (slots : List ℕ) (last head head_2 : Option ℕ) → IsChain next before last head slots → EachOnce slots → IsAmong slot slots
      → ((other : ℕ) → last ≡ Some other → IsAmong other slots → ⊥)
      → (before slot ≡ last → head_2 ≡ next slot) → ((before slot ≡ last → ⊥) → head_2 ≡ head)
      → Without next_2 before_2 last head_2 slots slot
  without [] last head head_2 chain once among off at else = absurd among
  without (first ∷ rest) last head head_2 chain once among off at else = elim (cases_eq first slot) [
    | inl same ↦
        let here = subst (λ x. IsChain next before last head (x ∷ rest)) same chain in
        subst (λ h. Without next_2 before_2 last h (first ∷ rest) slot) (sym (at here.1))
        (subst (λ x. Without next_2 before_2 last (next slot) (x ∷ rest) slot) (sym same)
        (without_first last head rest here (subst (λ x. EachOnce (x ∷ rest)) same once) (subst (λ x. (other : ℕ) → last ≡ Some other → IsAmong other (x ∷ rest) → ⊥) same off)))
    | inr differs ↦
        let later : IsAmong slot rest = elim among [
          | inl it ↦ absurd (differs (sym it))
          | inr later ↦ later
        ] in
        let last_one = before_among next before first (next first) rest slot chain.2 later in
        let not_last : before slot ≡ last → ⊥ = λ is. off last_one.other (sym is ∙ last_one.is) (elim last_one.place [
          | inl it ↦ inl it
          | inr deeper ↦ inr deeper
        ]) in
        let below : Without next_2 before_2 (Some first) (next_2 first) rest slot =
        without rest (Some first) (next first) (next_2 first) chain.2 once.1 later
        (λ other is among_rest. once.0 (subst (λ x. IsAmong x rest) (same_in_some other first (sym is)) among_rest))
        (λ is. passed.next_at first is) (λ is_not. passed.next_else first is_not) in
        let kept : before_2 first ≡ before first = passed.before_else first (λ is. once.0 (next_among next before (Some first) (next first) rest slot first chain.2 later is)) in
        record {
          left = first ∷ below.left;
          chain = (else not_last ∙ chain.0, kept ∙ chain.1, below.chain);
          all = λ other among_all other_differs. elim among_all [
            | inl it ↦ inl it
            | inr deeper ↦ inr (below.all other deeper other_differs)
          ];
          only = λ other among_left. elim among_left [
            | inl it ↦ inl it
            | inr deeper ↦ inr (below.only other deeper)
          ];
          gone = λ among_left. elim among_left [
            | inl it ↦ differs (sym it)
            | inr deeper ↦ below.gone deeper
          ];
          once = (λ among_left. once.0 (below.only first among_left), below.once);
        }
  ]
