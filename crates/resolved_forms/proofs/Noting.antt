-- The users of each number, while units are noted at the numbers that they name.
use Rattle.std.proofs.Common.{◌≡◌, ◌↔◌, ◌⊎◌, inl, inr, ℕ, ◌+◌, ◌<◌, ◌≤◌, Some, List, [], ◌∷◌, ◌++◌, length, get_or, set, take, drop, replicate, refl, sym, ap, ◌∙◌, subst, arith}
use Rattle.std.specs.Prelude.{Contains, All}
use Rattle.std.specs.List.{slice_get}
use Rattle.std.proofs.lemmas.Bool.{cases_lt}
use Rattle.std.proofs.lemmas.List.{length-set, length-replicate, get_or-replicate, get_or_past, get_or_default, take-append-le, take_all, length-take-le}
use Rattle.std.proofs.lemmas.List.Elements.{Contains-append_left, Contains-push, Contains-push_cases, Contains-get_or}
use Rattle.std.proofs.lemmas.Grind.{take_at_read}
use Rattle.std.proofs.lemmas.Option.{none-some, slice_get_within}
use Rattle.core_syntax.proofs.Appends.{slice_get-append_left, slice_get-push, slice_get-push_cases}
use Rattle.resolved_forms.specs.declared.uses.Uses.{Uses}
use Rattle.resolved_forms.specs.Reach.{Names, AreReached, globals_named}
use Rattle.resolved_forms.specs.Users.{ending_in, AreUsers, Notes}
use Rattle.resolved_forms.proofs.Members.{none_in, in_ending, ending_old, ending_new, at_set}

abbrev pub Noted : List (List ℕ) → List ℕ → ℕ → ℕ → ℕ → Type 0
Noted old named unit number user = Contains (get_or old number []) user ⊎ ((number < length old) × (user ≡ unit) × Contains named number)

noted_more : (old : List (List ℕ)) (seen : List ℕ) (number unit n user : ℕ) → Noted old seen unit n user → Noted old (seen ++ number ∷ []) unit n user
noted_more old seen number unit n user (inl before) = inl before
noted_more old seen number unit n user (inr (lt, is, there)) = inr (lt, is, Contains-append_left seen (number ∷ []) n there)

pub notes_nothing : (old : List (List ℕ)) (unit : ℕ) → Notes old [] unit old
notes_nothing old unit = record {
  as_many = refl;
  are = λ number user. (λ there. inl there, λ noted. elim noted [ inl there ↦ there | inr nowhere ↦ absurd (none_in number nowhere.2) ]);
}

pub notes_put : (old mid : List (List ℕ)) (seen : List ℕ) (number unit : ℕ) → Notes old seen unit mid → number < length mid
    → Notes old (seen ++ number ∷ []) unit (set mid number (ending_in (get_or mid number []) unit))
notes_put old mid seen number unit notes within =
    let new = set mid number (ending_in (get_or mid number []) unit) in
    let here : get_or new number [] ≡ ending_in (get_or mid number []) unit = elim (at_set mid number (ending_in (get_or mid number []) unit) number within) [ inl same ↦ same.1 | inr other ↦ absurd (other.0 refl) ] in
    let forth : (n user : ℕ) → Contains (get_or new n []) user → Noted old (seen ++ number ∷ []) unit n user = λ n user c.
    elim (at_set mid number (ending_in (get_or mid number []) unit) n within) [
      | inl same ↦ elim (in_ending (get_or mid number []) unit user (subst (λ (l : List ℕ). Contains l user) same.1 c)) [
        | inl before ↦ noted_more old seen number unit n user ((notes.are n user).0 (subst (λ (k : ℕ). Contains (get_or mid k []) user) (sym same.0) before))
        | inr is ↦ inr (omega (arith, notes.as_many, same.0), is, subst (λ (k : ℕ). Contains (seen ++ number ∷ []) k) (sym same.0) (Contains-push seen number))
      ]
      | inr other ↦ noted_more old seen number unit n user ((notes.are n user).0 (subst (λ (l : List ℕ). Contains l user) other.1 c))
    ] in
    let kept : (n user : ℕ) → Contains (get_or mid n []) user → Contains (get_or new n []) user = λ n user c.
    elim (at_set mid number (ending_in (get_or mid number []) unit) n within) [
      | inl same ↦ subst (λ (l : List ℕ). Contains l user) (sym same.1) (ending_old (get_or mid number []) unit user (subst (λ (k : ℕ). Contains (get_or mid k []) user) same.0 c))
      | inr other ↦ subst (λ (l : List ℕ). Contains l user) (sym other.1) c
    ] in
    let back : (n user : ℕ) → Noted old (seen ++ number ∷ []) unit n user → Contains (get_or new n []) user = λ n user noted.
    elim noted [
      | inl before ↦ kept n user ((notes.are n user).1 (inl before))
      | inr now ↦ elim (Contains-push_cases seen number n now.2) [
        | inl earlier ↦ kept n user ((notes.are n user).1 (inr (now.0, now.1, earlier)))
        | inr is ↦ subst (λ (k : ℕ). Contains (get_or new k []) user) is (subst (λ (l : List ℕ). Contains l user) (sym here) (subst (λ (k : ℕ). Contains (ending_in (get_or mid number []) unit) k) (sym now.1) (ending_new (get_or mid number []) unit)))
      ]
    ] in
    record { as_many = length-set mid number (ending_in (get_or mid number []) unit) ∙ notes.as_many; are = λ n user. (forth n user, back n user) }

pub notes_skip : (old mid : List (List ℕ)) (seen : List ℕ) (number unit : ℕ) → Notes old seen unit mid → length mid ≤ number → Notes old (seen ++ number ∷ []) unit mid
notes_skip old mid seen number unit notes past =
    let back : (n user : ℕ) → Noted old (seen ++ number ∷ []) unit n user → Contains (get_or mid n []) user = λ n user noted.
    elim noted [
      | inl before ↦ (notes.are n user).1 (inl before)
      | inr now ↦ elim (Contains-push_cases seen number n now.2) [
        | inl earlier ↦ (notes.are n user).1 (inr (now.0, now.1, earlier))
        | inr is ↦ let lt : n < length old = now.0 in absurd (omega (arith, notes.as_many, is))
      ]
    ] in
    record { as_many = notes.as_many; are = λ n user. (λ c. noted_more old seen number unit n user ((notes.are n user).0 c), back n user) }

pub notes_at : (old mid new : List (List ℕ)) (named list any : List ℕ) (i unit : ℕ) → Notes old (take i named) unit mid → i < length named → get_or named i 0 < length mid
    → list ≡ ending_in (get_or mid (get_or named i 0) any) unit → new ≡ set mid (get_or named i 0) list → Notes old (take (i + 1) named) unit new
notes_at old mid new named list any i unit notes lt within put set_is =
    let new_is : new ≡ set mid (get_or named i 0) (ending_in (get_or mid (get_or named i 0) []) unit) = set_is ∙ ap (set mid (get_or named i 0)) (put ∙ ap (λ l. ending_in l unit) (get_or_default mid (get_or named i 0) any [] within)) in
    subst (λ (seen : List ℕ). Notes old seen unit new) (sym (take_at_read named i 0 lt).1)
    (subst (λ (lists : List (List ℕ)). Notes old (take i named ++ get_or named i 0 ∷ []) unit lists) (sym new_is) (notes_put old mid (take i named) (get_or named i 0) unit notes within))

pub notes_past : (old mid new : List (List ℕ)) (named : List ℕ) (i unit : ℕ) → Notes old (take i named) unit mid → i < length named → length mid ≤ get_or named i 0 → new ≡ mid → Notes old (take (i + 1) named) unit new
notes_past old mid new named i unit notes lt past is =
    subst (λ (seen : List ℕ). Notes old seen unit new) (sym (take_at_read named i 0 lt).1)
    (subst (λ (lists : List (List ℕ)). Notes old (take i named ++ get_or named i 0 ∷ []) unit lists) (sym is) (notes_skip old mid (take i named) (get_or named i 0) unit notes past))

-- one more unit
names_more : (named : Uses → List ℕ) (us : List Uses) (x : Uses) (unit number : ℕ) → Names named us unit number → Names named (us ++ x ∷ []) unit number
names_more named us x unit number (y, there, names) = (y, slice_get-append_left us (x ∷ []) unit y there, names)

names_cases : (named : Uses → List ℕ) (us : List Uses) (x : Uses) (unit number : ℕ) → Names named (us ++ x ∷ []) unit number → Names named us unit number ⊎ ((unit ≡ length us) × Contains (named x) number)
names_cases named us x unit number (y, there, names) =
    elim (slice_get-push_cases us x unit y there) [
      | inl before ↦ inl (y, before, names)
      | inr last ↦ inr (last.0, subst (λ (z : Uses). Contains (named z) number) last.1 names)
    ]

pub all_empty : (count n : ℕ) → get_or {A = List ℕ} (replicate count []) n [] ≡ []
all_empty count n =
    elim (cases_lt n count) [
      | inl below ↦ get_or-replicate count n [] [] below
      | inr past ↦ get_or_past (replicate count []) n [] (omega (arith, length-replicate {A = List ℕ} count [], past))
    ]

pub users_none : (named : Uses → List ℕ) (count : ℕ) → AreUsers named [] count (replicate count [])
users_none named count =
    let empty : (n : ℕ) → get_or (replicate count []) n [] ≡ [] = λ n. all_empty count n in
    record {
      as_many = length-replicate count [];
      are = λ number unit. (
        λ c. absurd (none_in unit (subst (λ (l : List ℕ). Contains l unit) (empty number) c)),
        λ n. absurd (none-some n.1.0 n.1.1),
      );
    }

pub users_more : (named : Uses → List ℕ) (us : List Uses) (x : Uses) (count : ℕ) (old new : List (List ℕ)) → AreUsers named us count old → Notes old (named x) (length us) new → AreUsers named (us ++ x ∷ []) count new
users_more named us x count old new users notes =
    let forth : (number unit : ℕ) → Contains (get_or new number []) unit → (number < count) × Names named (us ++ x ∷ []) unit number = λ number unit c.
    elim ((notes.are number unit).0 c) [
      | inl before ↦ let is = (users.are number unit).0 before in (is.0, names_more named us x unit number is.1)
      | inr now ↦ (omega (arith, users.as_many, now.0), (x, subst (λ (k : ℕ). slice_get (us ++ x ∷ []) k ≡ Some x) (sym now.1) (slice_get-push us x), now.2))
    ] in
    let back : (number unit : ℕ) → (number < count) × Names named (us ++ x ∷ []) unit number → Contains (get_or new number []) unit = λ number unit is.
    elim (names_cases named us x unit number is.1) [
      | inl before ↦ (notes.are number unit).1 (inl ((users.are number unit).1 (is.0, before)))
      | inr now ↦ (notes.are number unit).1 (inr (omega (arith, users.as_many, is.0), now.0, now.1))
    ] in
    record { as_many = notes.as_many ∙ users.as_many; are = λ number unit. (forth number unit, back number unit) }

-- all users are units
user_there : (named : Uses → List ℕ) (uses : List Uses) (count number unit : ℕ) (users : List (List ℕ)) → AreUsers named uses count users → Contains (get_or users number []) unit → unit < length uses
user_there named uses count number unit users are c = let names = ((are.are number unit).0 c).1 in slice_get_within uses unit names.0 names.1

pub users_there : (named : Uses → List ℕ) (uses : List Uses) (count : ℕ) (users : List (List ℕ)) → AreUsers named uses count users
    → (number : ℕ) (list : List ℕ) → number < length users → All (λ unit. unit < length uses) (get_or users number list)
users_there named uses count users are number list within k d lt =
    let same : get_or users number list ≡ get_or users number [] = get_or_default users number list [] within in
    user_there named uses count number (get_or (get_or users number list) k d) users are
    (subst (λ (l : List ℕ). Contains l (get_or (get_or users number list) k d)) same (Contains-get_or (get_or users number list) k d lt))

-- the users of a global
pub direct_users : (uses : List Uses) (count global : ℕ) (users : List (List ℕ)) (any : List ℕ) → AreUsers globals_named uses count users → global < count
    → (unit : ℕ) → Contains (get_or users global any) unit ↔ Names globals_named uses unit global
direct_users uses count global users any are within unit =
    let same : get_or users global any ≡ get_or users global [] = get_or_default users global any [] (omega (arith, are.as_many)) in (
      λ c. ((are.are global unit).0 (subst (λ (l : List ℕ). Contains l unit) same c)).1,
      λ names. subst (λ (l : List ℕ). Contains l unit) (sym same) ((are.are global unit).1 (within, names)),
    )

pub nothing_reached : (uses : List Uses) → AreReached uses 0 (replicate (length uses) [])
nothing_reached uses = record {
  as_many = length-replicate (length uses) [];
  rise = λ unit k within. absurd (let e = ap length (all_empty (length uses) unit) in omega arith);
  are = λ unit global. (
    λ c. absurd (none_in global (subst (λ (l : List ℕ). Contains l global) (all_empty (length uses) unit) c)),
    λ is. absurd (let lt : global < 0 = is.0 in omega arith),
  );
}

-- what a whole slice of a list holds, once it is written back
pub written_back : {X : Type 0} (n : ℕ) (new old : List X) → length new ≡ n → take n (new ++ drop (length new) old) ≡ new
written_back n new old same = take-append-le n new (drop (length new) old) (omega arith) ∙ take_all n new (omega arith)

-- one turn of the loop over units
pub users_step : (named : Uses → List ℕ) (uses : List Uses) (count i unit n : ℕ) (x : Uses) (old lent new : List (List ℕ)) → AreUsers named (take i uses) count old → i < length uses → x ≡ get_or uses i x → unit ≡ i
    → lent ≡ old → Notes lent (named x) unit new → n ≡ length old → AreUsers named (take (i + 1) uses) count (take n (new ++ drop (length new) old))
users_step named uses count i unit n x old lent new users within read is same notes counted =
    let long : length (take i uses) ≡ i = length-take-le i uses (omega arith) in
    let noted : Notes old (named x) (length (take i uses)) new =
    subst (λ (u : ℕ). Notes old (named x) u new) (is ∙ sym long) (subst (λ (l : List (List ℕ)). Notes l (named x) unit new) same notes) in
    let seen : take (i + 1) uses ≡ take i uses ++ x ∷ [] = (take_at_read uses i x within).1 ∙ ap (λ y. take i uses ++ y ∷ []) (sym read) in
    subst (λ (us : List Uses). AreUsers named us count (take n (new ++ drop (length new) old))) (sym seen)
    (subst (λ (l : List (List ℕ)). AreUsers named (take i uses ++ x ∷ []) count l) (sym (written_back n new old (notes.as_many ∙ ap length same ∙ sym counted)))
    (users_more named (take i uses) x count old new users noted))
