-- A global spreads from its users along the callers.
use Rattle.std.proofs.Common.{◌≡◌, ◌↔◌, ◌⊎◌, inl, inr, ℕ, zero, suc, ◌+◌, ◌<◌, Bool, true, false, not, Option, Some, List, [], ◌∷◌, ◌++◌, length, get_or, set, refl, sym, ap, ◌∙◌, subst, arith, length-append, ◌-◌, if◌then◌else◌}
use Rattle.std.specs.Prelude.{Contains, All}
use Rattle.std.specs.List.Sorted.{IsStrictlyIncreasing}
use Rattle.std.proofs.lemmas.Bool.{cases_lt}
use Rattle.std.proofs.lemmas.List.{length-set, set-get_or, get_or_append_left, get_or_push, get_or_default}
use Rattle.std.proofs.lemmas.List.Elements.{Contains-append_left, Contains-append_right, Contains-append_cases, Contains-push, Contains-push_cases, Contains-get_or, All-append, All-same}
use Rattle.std.proofs.lemmas.Option.{slice_get_within}
use Rattle.resolved_forms.specs.declared.uses.Uses.{Uses}
use Rattle.resolved_forms.specs.Reach.{Names, Reaches, direct, through, AreReached, globals_named, units_named}
use Rattle.resolved_forms.specs.Users.{ends_in, ending_in, AreUsers}
use Rattle.resolved_forms.proofs.Members.{none_in, ends_in_push, in_from_end, at_set}

-- the list is as it was, or has the global behind it where the unit reaches it
abbrev pub Grows : List Uses → ℕ → ℕ → List ℕ → List ℕ → Type 0
Grows uses global unit old new = (new ≡ old) ⊎ ((new ≡ old ++ global ∷ []) × Reaches uses unit global)

-- between the steps: who waits reaches the global, and who is not done with waits
pub record Spreading (uses : List Uses) (callers : List (List ℕ)) (users : List ℕ) (global : ℕ) (old now : List (List ℕ)) (waiting : List ℕ) : Type 0 where
  pub as_many : length now ≡ length old
  pub reach : (unit : ℕ) → Contains waiting unit → Reaches uses unit global
  pub grow : (unit : ℕ) → Grows uses global unit (get_or old unit []) (get_or now unit [])
  pub users_done : (unit : ℕ) → Contains users unit → Contains waiting unit ⊎ Contains (get_or now unit []) global
  pub callers_done : (unit caller : ℕ) → Contains (get_or now unit []) global → Contains (get_or callers unit []) caller
      → Contains waiting caller ⊎ Contains (get_or now caller []) global

-- before the first step
pub spreading_starts : (uses : List Uses) (callers : List (List ℕ)) (users : List ℕ) (global : ℕ) (old : List (List ℕ))
    → ((unit : ℕ) → Contains users unit ↔ Names globals_named uses unit global) → AreReached uses global old → Spreading uses callers users global old old users
spreading_starts uses callers users global old direct_users reached = record {
  as_many = refl;
  reach = λ unit c. direct ((direct_users unit).0 c);
  grow = λ unit. inl refl;
  users_done = λ unit c. inl c;
  callers_done = λ unit caller c _. absurd (let lt : global < global = ((reached.are unit global).0 c).0 in omega arith);
}

-- a unit that has the global already is done
still_done : (rest : List ℕ) (unit other : ℕ) (global : ℕ) (now : List (List ℕ)) → Contains (get_or now unit []) global
    → Contains (rest ++ unit ∷ []) other ⊎ Contains (get_or now other []) global → Contains rest other ⊎ Contains (get_or now other []) global
still_done rest unit other global now marked (inr has) = inr has
still_done rest unit other global now marked (inl waits) =
    elim (Contains-push_cases rest unit other waits) [
      | inl still ↦ inl still
      | inr is ↦ inr (subst (λ (u : ℕ). Contains (get_or now u []) global) is marked)
    ]

spreading_passes : (uses : List Uses) (callers : List (List ℕ)) (users : List ℕ) (global : ℕ) (old now : List (List ℕ)) (rest : List ℕ) (unit : ℕ)
    → Spreading uses callers users global old now (rest ++ unit ∷ []) → Contains (get_or now unit []) global → Spreading uses callers users global old now rest
spreading_passes uses callers users global old now rest unit s marked = record {
  as_many = s.as_many;
  reach = λ other c. s.reach other (Contains-append_left rest (unit ∷ []) other c);
  grow = s.grow;
  users_done = λ other c. still_done rest unit other global now marked (s.users_done other c);
  callers_done = λ other caller c d. still_done rest unit caller global now marked (s.callers_done other caller c d);
}

-- a unit that does not have it gets it, and its callers wait
grows_here : (uses : List Uses) (global unit : ℕ) (old now : List ℕ) → Grows uses global unit old now → ends_in now global ≡ false → now ≡ old
grows_here uses global unit old now (inl same) ends = same
grows_here uses global unit old now (inr more) ends = let e = ap (λ l. ends_in l global) more.0 ∙ ends_in_push old global in absurd (cc)

spreading_marks : (uses : List Uses) (callers : List (List ℕ)) (users : List ℕ) (global : ℕ) (old now : List (List ℕ)) (rest : List ℕ) (unit : ℕ)
    → AreUsers units_named uses (length uses) callers
    → Spreading uses callers users global old now (rest ++ unit ∷ []) → unit < length now → ends_in (get_or now unit []) global ≡ false
    → Spreading uses callers users global old (set now unit (get_or now unit [] ++ global ∷ [])) (rest ++ get_or callers unit [])
spreading_marks uses callers users global old now rest unit are s within ends =
    let list = get_or now unit [] ++ global ∷ [] in
    let new = set now unit list in
    let more = get_or callers unit [] in
    let reaches : Reaches uses unit global = s.reach unit (Contains-push rest unit) in
    let here : Contains (get_or new unit []) global = elim (at_set now unit list unit within) [ inl same ↦ subst (λ (l : List ℕ). Contains l global) (sym same.1) (Contains-push (get_or now unit []) global) | inr other ↦ absurd (other.0 refl) ] in
    let kept : (other : ℕ) → Contains (get_or now other []) global → Contains (get_or new other []) global = λ other c.
    elim (at_set now unit list other within) [
      | inl same ↦ subst (λ (u : ℕ). Contains (get_or new u []) global) (sym same.0) here
      | inr apart ↦ subst (λ (l : List ℕ). Contains l global) (sym apart.1) c
    ] in
    let done : (other : ℕ) → Contains (rest ++ unit ∷ []) other ⊎ Contains (get_or now other []) global → Contains (rest ++ more) other ⊎ Contains (get_or new other []) global = λ other d.
    elim d [
      | inl waits ↦ elim (Contains-push_cases rest unit other waits) [
        | inl still ↦ inl (Contains-append_left rest more other still)
        | inr is ↦ inr (subst (λ (u : ℕ). Contains (get_or new u []) global) is here)
      ]
      | inr has ↦ inr (kept other has)
    ] in
    record {
      as_many = length-set now unit list ∙ s.as_many;
      reach = λ other c. elim (Contains-append_cases rest more other c) [
        | inl still ↦ s.reach other (Contains-append_left rest (unit ∷ []) other still)
        | inr calls ↦ through ((are.are unit other).0 calls).1 reaches
      ];
      grow = λ other. elim (at_set now unit list other within) [
        | inl same ↦ inr (same.1 ∙ ap (λ l. l ++ global ∷ []) (grows_here uses global unit (get_or old unit []) (get_or now unit []) (s.grow unit) ends ∙ ap (λ u. get_or old u []) (sym same.0)), subst (λ (u : ℕ). Reaches uses u global) (sym same.0) reaches)
        | inr apart ↦ subst (λ (l : List ℕ). Grows uses global other (get_or old other []) l) (sym apart.1) (s.grow other)
      ];
      users_done = λ other c. done other (s.users_done other c);
      callers_done = λ other caller c d. elim (at_set now unit list other within) [
        | inl same ↦ inl (Contains-append_right rest more caller (subst (λ (u : ℕ). Contains (get_or callers u []) caller) same.0 d))
        | inr apart ↦ done caller (s.callers_done other caller (subst (λ (l : List ℕ). Contains l global) apart.1 c) d)
      ];
    }

-- when nobody waits, the lists have the global wherever it is reached
not_waiting : (now : List (List ℕ)) (global unit : ℕ) → Contains [] unit ⊎ Contains (get_or now unit []) global → Contains (get_or now unit []) global
not_waiting now global unit (inl waits) = absurd (none_in unit waits)
not_waiting now global unit (inr has) = has

caller_of : (uses : List Uses) (callers : List (List ℕ)) (count unit callee : ℕ) → AreUsers units_named uses count callers → callee < count → Names units_named uses unit callee → Contains (get_or callers callee []) unit
caller_of uses callers count unit callee are within names = (are.are callee unit).1 (within, names)

pub there_if_reaching : (uses : List Uses) (unit global : ℕ) → Reaches uses unit global → unit < length uses
there_if_reaching uses unit global (direct names) = slice_get_within uses unit names.0 names.1
there_if_reaching uses unit global (through names reaches) = slice_get_within uses unit names.0 names.1

all_marked : (uses : List Uses) (callers : List (List ℕ)) (users : List ℕ) (global : ℕ) (old now : List (List ℕ))
    → AreUsers units_named uses (length uses) callers → ((unit : ℕ) → Contains users unit ↔ Names globals_named uses unit global)
    → Spreading uses callers users global old now [] → (unit : ℕ) → Reaches uses unit global → Contains (get_or now unit []) global
all_marked uses callers users global old now are direct_users s unit (direct names) = not_waiting now global unit (s.users_done unit ((direct_users unit).1 names))
all_marked uses callers users global old now are direct_users s unit (through {callee = callee} names reaches) =
    not_waiting now global unit (s.callers_done callee unit (all_marked uses callers users global old now are direct_users s callee reaches)
    (caller_of uses callers (length uses) unit callee are (there_if_reaching uses callee global reaches) names))

-- a rising list with a greater number behind it rises
pub rising_push : (xs : List ℕ) (n : ℕ) → IsStrictlyIncreasing xs → ((m : ℕ) → Contains xs m → m < n) → IsStrictlyIncreasing (xs ++ n ∷ [])
rising_push xs n rise below k within =
    let left : get_or (xs ++ n ∷ []) k 0 ≡ get_or xs k 0 = get_or_append_left xs (n ∷ []) 0 k (omega (arith, length-append xs (n ∷ []))) in
    elim (cases_lt (k + 1) (length xs)) [
      | inl inside ↦
          let right : get_or (xs ++ n ∷ []) (k + 1) 0 ≡ get_or xs (k + 1) 0 = get_or_append_left xs (n ∷ []) 0 (k + 1) inside in
          let before : get_or xs k 0 < get_or xs (k + 1) 0 = rise k inside in
          omega arith
      | inr end ↦
          let right : get_or (xs ++ n ∷ []) (k + 1) 0 ≡ n = get_or_push xs n 0 (k + 1) (omega (arith, length-append xs (n ∷ []))) in
          let before : get_or xs k 0 < n = below (get_or xs k 0) (Contains-get_or xs k 0 (omega (arith, length-append xs (n ∷ [])))) in
          omega arith
    ]

grown_rises : (uses : List Uses) (global unit : ℕ) (old new : List ℕ) → Grows uses global unit old new → IsStrictlyIncreasing old → ((m : ℕ) → Contains old m → m < global) → IsStrictlyIncreasing new
grown_rises uses global unit old new (inl same) rise below = subst (λ (l : List ℕ). IsStrictlyIncreasing l) (sym same) rise
grown_rises uses global unit old new (inr more) rise below = subst (λ (l : List ℕ). IsStrictlyIncreasing l) (sym more.0) (rising_push old global rise below)

grown_has : (uses : List Uses) (global unit : ℕ) (old new : List ℕ) → Grows uses global unit old new → (m : ℕ) → Contains new m → Contains old m ⊎ ((m ≡ global) × Reaches uses unit global)
grown_has uses global unit old new (inl same) m c = inl (subst (λ (l : List ℕ). Contains l m) same c)
grown_has uses global unit old new (inr more) m c =
    elim (Contains-push_cases old global m (subst (λ (l : List ℕ). Contains l m) more.0 c)) [ inl before ↦ inl before | inr is ↦ inr (sym is, more.1) ]

grown_keeps : (uses : List Uses) (global unit : ℕ) (old new : List ℕ) → Grows uses global unit old new → (m : ℕ) → Contains old m → Contains new m
grown_keeps uses global unit old new (inl same) m c = subst (λ (l : List ℕ). Contains l m) (sym same) c
grown_keeps uses global unit old new (inr more) m c = subst (λ (l : List ℕ). Contains l m) (sym more.0) (Contains-append_left old (global ∷ []) m c)

pub spread_ends : (uses : List Uses) (callers : List (List ℕ)) (users : List ℕ) (global : ℕ) (old now : List (List ℕ))
    → AreUsers units_named uses (length uses) callers → ((unit : ℕ) → Contains users unit ↔ Names globals_named uses unit global) → AreReached uses global old
    → Spreading uses callers users global old now [] → AreReached uses (suc global) now
spread_ends uses callers users global old now are direct_users reached s =
    let forth : (unit m : ℕ) → Contains (get_or now unit []) m → (m < suc global) × Reaches uses unit m = λ unit m c.
    elim (grown_has uses global unit (get_or old unit []) (get_or now unit []) (s.grow unit) m c) [
      | inl before ↦ let is = (reached.are unit m).0 before in let lt : m < global = is.0 in (omega arith, is.1)
      | inr is ↦ let e : m ≡ global = is.0 in (omega arith, subst (λ (g : ℕ). Reaches uses unit g) (sym is.0) is.1)
    ] in
    let back : (unit m : ℕ) → (m < suc global) × Reaches uses unit m → Contains (get_or now unit []) m = λ unit m is.
    let lt : m < suc global = is.0 in
    elim (cases_lt m global) [
      | inl below ↦ grown_keeps uses global unit (get_or old unit []) (get_or now unit []) (s.grow unit) m ((reached.are unit m).1 (below, is.1))
      | inr last ↦ let e : global ≡ m = omega arith in
          subst (λ (g : ℕ). Contains (get_or now unit []) g) e (all_marked uses callers users global old now are direct_users s unit (subst (λ (g : ℕ). Reaches uses unit g) (sym e) is.1))
    ] in
    record {
      as_many = s.as_many ∙ reached.as_many;
      rise = λ unit. grown_rises uses global unit (get_or old unit []) (get_or now unit []) (s.grow unit) (reached.rise unit) (λ m c. ((reached.are unit m).0 c).0);
      are = λ unit m. (forth unit m, back unit m);
    }

-- the calls that are still to follow: those of the units that do not have the global yet
abbrev pub calls_left : ℕ → List (List ℕ) → List (List ℕ) → ℕ
calls_left global [] callers = 0
calls_left global (list ∷ lists) [] = 0
calls_left global (list ∷ lists) (c ∷ callers) = (if ends_in list global then 0 else length c) + calls_left global lists callers

pub calls_followed : (global : ℕ) (lists callers : List (List ℕ)) (unit : ℕ) → unit < length lists → length callers ≡ length lists → ends_in (get_or lists unit []) global ≡ false
    → calls_left global (set lists unit (get_or lists unit [] ++ global ∷ [])) callers + length (get_or callers unit []) ≡ calls_left global lists callers
calls_followed global [] callers unit within same ends = absurd (omega arith)
calls_followed global (list ∷ lists) [] unit within same ends = absurd (omega arith)
calls_followed global (list ∷ lists) (c ∷ callers) zero within same ends = rw (ends_in_push list global, ends) (omega arith)
calls_followed global (list ∷ lists) (c ∷ callers) (suc unit) within same ends =
    let rest = calls_followed global lists callers unit (omega arith) (omega arith) ends in omega arith

-- one step, as the code takes it: the last that waits is taken off, and the global is put at its list
not_put : (b put : Bool) → put ≡ not b → put ≡ false → b ≡ true
not_put true put is same = refl
not_put false put is same = absurd (cc)

was_put : (b put : Bool) → put ≡ not b → put ≡ true → b ≡ false
was_put true put is same = absurd (cc)
was_put false put is same = refl

end_is : (now : List (List ℕ)) (unit : ℕ) (any : List ℕ) (global : ℕ) → unit < length now → ends_in (get_or now unit any) global ≡ ends_in (get_or now unit []) global
end_is now unit any global within = ap (λ l. ends_in l global) (get_or_default now unit any [] within)

same_list : (b : Bool) (xs : List ℕ) (n : ℕ) → b ≡ true → (if b then xs else xs ++ n ∷ []) ≡ xs
same_list true xs n is = refl
same_list false xs n is = absurd (cc)

longer_list : (b : Bool) (xs : List ℕ) (n : ℕ) → b ≡ false → (if b then xs else xs ++ n ∷ []) ≡ xs ++ n ∷ []
longer_list true xs n is = absurd (cc)
longer_list false xs n is = refl

-- what is known of the list at the unit, once it was put at or not
pub record Put (now : List (List ℕ)) (unit global : ℕ) (any list : List ℕ) (put : Bool) : Type 0 where
  pub within : unit < length now
  pub whether : put ≡ not (ends_in (get_or now unit any) global)
  pub after : list ≡ ending_in (get_or now unit any) global

pub spreading_passed : (uses : List Uses) (callers : List (List ℕ)) (users : List ℕ) (global : ℕ) (old now : List (List ℕ)) (waiting rest any list : List ℕ) (unit : ℕ) (put : Bool)
    → Put now unit global any list put → put ≡ false → waiting ≡ rest ++ unit ∷ []
    → Spreading uses callers users global old now waiting → Spreading uses callers users global old (set now unit list) rest
spreading_passed uses callers users global old now waiting rest any list unit put p is popped s =
    let ends = not_put (ends_in (get_or now unit any) global) put p.whether is in
    let marked : Contains (get_or now unit []) global = in_from_end (get_or now unit []) global (sym (end_is now unit any global p.within) ∙ ends) in
    let list_is : list ≡ get_or now unit any = p.after ∙ same_list (ends_in (get_or now unit any) global) (get_or now unit any) global ends in
    let now_is : set now unit list ≡ now = ap (set now unit) list_is ∙ set-get_or now unit any in
    subst (λ (lists : List (List ℕ)). Spreading uses callers users global old lists rest) (sym now_is)
    (spreading_passes uses callers users global old now rest unit (subst (λ (w : List ℕ). Spreading uses callers users global old now w) popped s) marked)

put_is : (now : List (List ℕ)) (unit global : ℕ) (any list : List ℕ) (put : Bool) → Put now unit global any list put → put ≡ true → list ≡ get_or now unit [] ++ global ∷ []
put_is now unit global any list put p is =
    p.after ∙ longer_list (ends_in (get_or now unit any) global) (get_or now unit any) global (was_put (ends_in (get_or now unit any) global) put p.whether is)
    ∙ ap (λ l. l ++ global ∷ []) (get_or_default now unit any [] p.within)

ends_not : (now : List (List ℕ)) (unit global : ℕ) (any list : List ℕ) (put : Bool) → Put now unit global any list put → put ≡ true → ends_in (get_or now unit []) global ≡ false
ends_not now unit global any list put p is = sym (end_is now unit any global p.within) ∙ was_put (ends_in (get_or now unit any) global) put p.whether is

pub spreading_followed : (uses : List Uses) (callers : List (List ℕ)) (users : List ℕ) (global : ℕ) (old now : List (List ℕ)) (waiting rest more any other list : List ℕ) (unit : ℕ) (put : Bool)
    → Put now unit global any list put → put ≡ true → waiting ≡ rest ++ unit ∷ [] → unit < length callers → more ≡ rest ++ get_or callers unit other
    → AreUsers units_named uses (length uses) callers
    → Spreading uses callers users global old now waiting → Spreading uses callers users global old (set now unit list) more
spreading_followed uses callers users global old now waiting rest more any other list unit put p is popped there extended are s =
    let list_is = put_is now unit global any list put p is in
    let more_is : more ≡ rest ++ get_or callers unit [] = extended ∙ ap (λ l. rest ++ l) (get_or_default callers unit other [] there) in
    subst (λ (l : List ℕ). Spreading uses callers users global old (set now unit l) more) (sym list_is)
    (subst (λ (w : List ℕ). Spreading uses callers users global old (set now unit (get_or now unit [] ++ global ∷ [])) w) (sym more_is)
    (spreading_marks uses callers users global old now rest unit are (subst (λ (w : List ℕ). Spreading uses callers users global old now w) popped s) p.within
    (ends_not now unit global any list put p is)))

pub fewer_left : (callers : List (List ℕ)) (global : ℕ) (now : List (List ℕ)) (waiting rest more any other list : List ℕ) (unit : ℕ) (put : Bool)
    → Put now unit global any list put → put ≡ true → waiting ≡ rest ++ unit ∷ [] → length callers ≡ length now → more ≡ rest ++ get_or callers unit other
    → length more + calls_left global (set now unit list) callers < length waiting + calls_left global now callers
fewer_left callers global now waiting rest more any other list unit put p is popped as_many extended =
    let followed = calls_followed global now callers unit p.within as_many (ends_not now unit global any list put p is) in
    let list_is = ap (λ l. calls_left global (set now unit l) callers) (put_is now unit global any list put p is) in
    let there : unit < length callers = omega (arith, p.within) in
    let more_is = ap length (extended ∙ ap (λ l. rest ++ l) (get_or_default callers unit other [] there)) ∙ length-append rest (get_or callers unit []) in
    let waiting_is = ap length popped ∙ length-append rest (unit ∷ []) in
    omega arith

pub spreading_more_units : (lists callers : List (List ℕ)) (rest more other : List ℕ) (unit : ℕ) → All (λ u. u < length lists) rest → All (λ (l : List ℕ). All (λ u. u < length lists) l) callers
    → unit < length callers → more ≡ rest ++ get_or callers unit other → All (λ u. u < length lists) more
spreading_more_units lists callers rest more other unit before all there extended =
    All-same (λ u. u < length lists) more (rest ++ get_or callers unit other) extended
    (All-append (λ u. u < length lists) rest (get_or callers unit other) before (all unit other there))

-- who takes none off has nobody waiting
pub none_waiting : (waiting : List ℕ) (n : ℕ) (popped : Option ℕ) → ((x : ℕ) → popped ≡ Some x → ⊥) → ((d : ℕ) → 0 < n → popped ≡ Some (get_or waiting (n - 1) d)) → n ≡ length waiting → waiting ≡ []
none_waiting [] n popped none value counted = refl
none_waiting (x ∷ waiting) n popped none value counted = absurd (none (get_or (x ∷ waiting) (n - 1) 0) (value 0 (omega arith)))
