-- Nothing hangs on itself: the ranks, row by row.
use Rattle.std.proofs.Common.{◌≡◌, ◌∙◌, ℕ, suc, ◌<◌, ◌≤◌, Bool, true, false, cond, List, [], ◌∷◌, ◌++◌, refl, sym, ap, subst, arith}
use Rattle.std.specs.Prelude.{◌||◌, Option, None, Some}
use Rattle.value_core.proofs.NamedLaws.{same_name-equal}
use Rattle.value_core.specs.Named.{Name, named, same_name, made_by}
use Rattle.serial_model.proofs.runs.Made.{IsMade}
use Rattle.serial_model.specs.State.{Setup, UnitState, State}
use Rattle.serial_model.specs.declared.actor_state.ActorState.{ActorState}
use Rattle.serial_model.specs.declared.effect.Effect.{Effect}
use Rattle.world_model.specs.Dependence.{DependsOn, itself, turn, attempt}
use Rattle.world_model.specs.IsWorld.{Ranks}
use Rattle.actor_mailbox.specs.declared.message.Message.{Message}
use Rattle.actor_mailbox.specs.Messages.{passes, definite, settle, settle_one, stays, without}
use Rattle.world_model.specs.StandsFor.{LiveStands, UnitStands, HasBegun, TakenStands, StandsFor}
use Rattle.world_model.specs.World.{LiveUnit, Attempt, World, with_at, line}
use Rattle.world_model.specs.rows.Attempts.{with_done, does_local, local}
use Rattle.world_model.specs.rows.Effects.{settled_taken}
use Rattle.world_model.specs.rows.Undone.{unless_gone}
use Rattle.world_model.proofs.lists.Lists.{Each, each-right}
use Rattle.world_model.proofs.records.Frames.{at-here, at-other}
use Rattle.world_model.proofs.records.Names.{root}
use Rattle.world_model.proofs.records.Sends.{sends-each, line-each}

-- what hangs on an attempt does not rank below it
pub hangs-above : (w : World) (r : Ranks w.actors w.taken w.attempts) (root n : Name) → DependsOn w root n → r.rank root ≤ r.rank n
hangs-above w r root n (itself is) = subst (λ m. r.rank root ≤ r.rank m) (sym is) (omega arith)
hangs-above w r root n (turn a actor m on there took depends is hangs) =
    let below = hangs-above w r root on hangs in
    let above = r.turns a actor m on there took depends in
    subst (λ k. r.rank root ≤ r.rank k) (sym is) (omega arith)
hangs-above w r root n (attempt v at there is hangs) =
    let below = hangs-above w r root v hangs in
    let above = r.attempts_above v at there in
    subst (λ k. r.rank root ≤ r.rank k) (sym is) (omega arith)

-- so the unit of an attempt does not hang on it
pub unit-stays : (w : World) → Ranks w.actors w.taken w.attempts → (u : Name) (at : Attempt) → w.attempts u ≡ Some at → ¬ (DependsOn w at.root u)
unit-stays w r u at there hangs =
    let below = hangs-above w r at.root u hangs in
    let above = r.attempts_above u at there in omega arith

-- ---- fewer things hang on others
pub record WasTurn (actors : Name → Option ActorState) (taken : Name → List Message) (a : Name) (actor : ActorState) (on : Name) : Type 0 where
  pub message : Message
  pub there : actors a ≡ Some actor
  pub took : taken a ≡ message ∷ []
  pub depends : message.depends ≡ Some on

pub ranks-less : (actors actors2 : Name → Option ActorState) (taken taken2 : Name → List Message) (attempts attempts2 : Name → Option Attempt) → Ranks actors taken attempts
    → ((a : Name) (actor : ActorState) (m : Message) (on : Name) → actors2 a ≡ Some actor → taken2 a ≡ m ∷ [] → m.depends ≡ Some on → WasTurn actors taken a actor on)
    → ((v : Name) (at : Attempt) → attempts2 v ≡ Some at → (old : Attempt) × (attempts v ≡ Some old) × (old.root ≡ at.root)) → Ranks actors2 taken2 attempts2
ranks-less actors actors2 taken taken2 attempts attempts2 r turns tries = record {
  rank = r.rank;
  turns = λ a actor m on there took depends. let was = turns a actor m on there took depends in r.turns a actor was.message on was.there was.took was.depends;
  attempts_above = λ v at there. let was = tries v at there in subst (λ n. r.rank v < r.rank n) was.2 (r.attempts_above v was.0 was.1);
}

abbrev pub SameTries : (Name → Option Attempt) → Type 0
SameTries attempts = (v : Name) (at : Attempt) → attempts v ≡ Some at → (old : Attempt) × (attempts v ≡ Some old) × (old.root ≡ at.root)

pub same-tries : (attempts : Name → Option Attempt) → SameTries attempts
same-tries attempts v at there = (at, there, refl)

-- a turn that is begun is of an actor that is there
pub begun-actor : (setup : Setup) (w : World) (s : State) → StandsFor setup w s → (a : Name) (m : Message) → w.taken a ≡ m ∷ [] → (o : ActorState) × (w.actors a ≡ Some o)
begun-actor setup w s st a m took = let t : HasBegun w.actors w.units a = subst (TakenStands w.actors w.units a) took (st.turns a) in (t.actor, t.there)

-- another actor's record is put, where that one has no begun turn
pub ranks-actor : (w : World) (c : Name) (o : Option ActorState) → w.taken c ≡ [] → Ranks w.actors w.taken w.attempts → Ranks (with_at w.actors c o) w.taken w.attempts
ranks-actor w c o free r = ranks-less w.actors (with_at w.actors c o) w.taken w.taken w.attempts w.attempts r (λ a actor m on there took depends. at a actor m on took depends (same_name a c) refl there) (same-tries w.attempts)
  where
    at : (a : Name) (actor : ActorState) (m : Message) (on : Name) → w.taken a ≡ m ∷ [] → m.depends ≡ Some on → (d : Bool) → same_name a c ≡ d → cond d o (w.actors a) ≡ Some actor → WasTurn w.actors w.taken a actor on
    at a actor m on took depends true e there = let no : m ∷ [] ≡ [] = sym took ∙ ap w.taken (same_name-equal a c e) ∙ free in cc
    at a actor m on took depends false e there = record { message = m; there = there; took = took; depends = depends }

-- a Take settles
pub ranks-take : (w : World) (c : Name) (o : Option ActorState) → Ranks w.actors w.taken w.attempts → Ranks (with_at w.actors c o) (with_at w.taken c []) w.attempts
ranks-take w c o r = ranks-less w.actors (with_at w.actors c o) w.taken (with_at w.taken c []) w.attempts w.attempts r (λ a actor m on there took depends. at a actor m on depends (same_name a c) there took) (same-tries w.attempts)
  where
    at : (a : Name) (actor : ActorState) (m : Message) (on : Name) → m.depends ≡ Some on → (d : Bool) → cond d o (w.actors a) ≡ Some actor → cond d [] (w.taken a) ≡ m ∷ [] → WasTurn w.actors w.taken a actor on
    at a actor m on depends true there took = cc
    at a actor m on depends false there took = record { message = m; there = there; took = took; depends = depends }

-- messages that a turn took become definite, or stay
still_depends : (test : Name → Bool) (m : Message) (on : Name) → (settle_one test m).depends ≡ Some on → m.depends ≡ Some on
still_depends test m on e = by (passes test m.depends) e
  where
    by : (p : Bool) → (cond p (definite m) m).depends ≡ Some on → m.depends ≡ Some on
    by true e = cc
    by false e = e

settle-one : (test : Name → Bool) (ms : List Message) (m : Message) → settle test ms ≡ m ∷ [] → (old : Message) × (ms ≡ old ∷ []) × (settle_one test old ≡ m)
settle-one test [] m e = cc
settle-one test (n ∷ []) m e = let same : settle_one test n ≡ m = cc in (n, refl, same)
settle-one test (n ∷ k ∷ ns) m e = cc

pub ranks-commit : (setup : Setup) (w : World) (s : State) (u : Name) (test : Name → Bool) (actors : Name → Option ActorState) → StandsFor setup w s → ((b : Name) (o : ActorState) → w.actors b ≡ Some o → actors b ≡ Some o)
    → Ranks w.actors w.taken w.attempts → Ranks actors (λ b. settle test (w.taken b)) (with_at w.attempts u None)
ranks-commit setup w s u test actors st stay r = ranks-less w.actors actors w.taken (λ b. settle test (w.taken b)) w.attempts (with_at w.attempts u None) r turns (λ v at there. tries v at (same_name v u) there)
  where
    turns : (a : Name) (actor : ActorState) (m : Message) (on : Name) → actors a ≡ Some actor → settle test (w.taken a) ≡ m ∷ [] → m.depends ≡ Some on → WasTurn w.actors w.taken a actor on
    turns a actor m on there took depends =
        let one = settle-one test (w.taken a) m took in
        let is = begun-actor setup w s st a one.0 one.1 in
        let both : Some is.0 ≡ Some actor = sym (stay a is.0 is.1) ∙ there in
        let same : is.0 ≡ actor = cc in
        record { message = one.0; there = is.1 ∙ ap (λ o. Some o) same; took = one.1; depends = still_depends test one.0 on (ap (λ (k : Message). k.depends) one.2 ∙ depends) }

    tries : (v : Name) (at : Attempt) (c : Bool) → cond c None (w.attempts v) ≡ Some at → (old : Attempt) × (w.attempts v ≡ Some old) × (old.root ≡ at.root)
    tries v at true e = cc
    tries v at false e = (at, e, refl)

-- a held send settles
first-one : (test : Name → Bool) (l : Message) (n : Message) (p : Bool) → passes test n.depends ≡ p → (m : Message) (on : Name) → cond (p || false) (cond p (definite n ∷ []) (n ∷ l ∷ [])) (n ∷ []) ≡ m ∷ [] → m.depends ≡ Some on → n.depends ≡ Some on
first-one test l n true e m on took depends = let same : definite n ≡ m = cc in let no : None ≡ Some on = ap (λ (k : Message). k.depends) same ∙ depends in cc
first-one test l n false e m on took depends = let same : n ≡ m = cc in ap (λ (k : Message). k.depends) same ∙ depends

pub ranks-send : (w : World) (u to : Name) (l : Message) → ((a : Name) (n k : Message) (ns : List Message) → w.taken a ≡ n ∷ k ∷ ns → ⊥) → Ranks w.actors w.taken w.attempts
    → Ranks w.actors (with_at w.taken to (settled_taken u l (w.taken to))) w.attempts
ranks-send w u to l single r = ranks-less w.actors w.actors w.taken (with_at w.taken to (settled_taken u l (w.taken to))) w.attempts w.attempts r (λ a actor m on there took depends. at a actor m on there depends (same_name a to) refl took) (same-tries w.attempts)
  where
    here : (ms : List Message) → w.taken to ≡ ms → (actor : ActorState) (m : Message) (on : Name) → w.actors to ≡ Some actor → settled_taken u l ms ≡ m ∷ [] → m.depends ≡ Some on → WasTurn w.actors w.taken to actor on
    here [] is actor m on there took depends = cc
    here (n ∷ []) is actor m on there took depends = record { message = n; there = there; took = is; depends = first-one (same_name u) l n (passes (same_name u) n.depends) refl m on took depends }
    here (n ∷ k ∷ ns) is actor m on there took depends = absurd (single to n k ns is)

    at : (a : Name) (actor : ActorState) (m : Message) (on : Name) → w.actors a ≡ Some actor → m.depends ≡ Some on → (c : Bool) → same_name a to ≡ c → cond c (settled_taken u l (w.taken to)) (w.taken a) ≡ m ∷ [] → WasTurn w.actors w.taken a actor on
    at a actor m on there depends true e took = subst (λ n. WasTurn w.actors w.taken n actor on) (sym (same_name-equal a to e)) (here (w.taken to) refl actor m on (ap w.actors (sym (same_name-equal a to e)) ∙ there) took depends)
    at a actor m on there depends false e took = record { message = m; there = there; took = took; depends = depends }

-- things are gone
pub ranks-undone : (w : World) (gone : Name → Bool) → ((a : Name) (n k : Message) (ns : List Message) → w.taken a ≡ n ∷ k ∷ ns → ⊥) → Ranks w.actors w.taken w.attempts
    → Ranks w.actors (λ a. without gone (w.taken a)) (λ v. unless_gone gone (w.attempts v))
ranks-undone w gone single r = ranks-less w.actors w.actors w.taken (λ a. without gone (w.taken a)) w.attempts (λ v. unless_gone gone (w.attempts v)) r (λ a actor m on there took depends. here a actor m on there depends (w.taken a) refl took) (λ v at there. tries v at (w.attempts v) refl there)
  where
    one : (a : Name) (actor : ActorState) (m n : Message) (on : Name) → w.actors a ≡ Some actor → m.depends ≡ Some on → w.taken a ≡ n ∷ [] → (p : Bool) → cond p (n ∷ []) [] ≡ m ∷ [] → WasTurn w.actors w.taken a actor on
    one a actor m n on there depends is true took = let same : n ≡ m = cc in record { message = n; there = there; took = is; depends = ap (λ (k : Message). k.depends) same ∙ depends }
    one a actor m n on there depends is false took = cc

    here : (a : Name) (actor : ActorState) (m : Message) (on : Name) → w.actors a ≡ Some actor → m.depends ≡ Some on → (ms : List Message) → w.taken a ≡ ms → without gone ms ≡ m ∷ [] → WasTurn w.actors w.taken a actor on
    here a actor m on there depends [] is took = cc
    here a actor m on there depends (n ∷ []) is took = one a actor m n on there depends is (stays gone n) took
    here a actor m on there depends (n ∷ k ∷ ns) is took = absurd (single a n k ns is)

    left : (at other : Attempt) (c : Bool) → cond c None (Some other) ≡ Some at → Some other ≡ Some at
    left at other true e = cc
    left at other false e = e

    tries : (v : Name) (at : Attempt) (found : Option Attempt) → w.attempts v ≡ found → unless_gone gone found ≡ Some at → (old : Attempt) × (w.attempts v ≡ Some old) × (old.root ≡ at.root)
    tries v at None is e = cc
    tries v at (Some other) is e = (at, is ∙ left at other (gone other.root) e, refl)

-- an attempt is the same but for what it knows
pub ranks-learned : (w : World) (u : Name) (at new : Attempt) → w.attempts u ≡ Some at → at.root ≡ new.root → Ranks w.actors w.taken w.attempts → Ranks w.actors w.taken (with_at w.attempts u (Some new))
ranks-learned w u at new there same r = ranks-less w.actors w.actors w.taken w.taken w.attempts (with_at w.attempts u (Some new)) r (λ a actor m on here took depends. record { message = m; there = here; took = took; depends = depends })
    (λ v found is. tries v found (same_name v u) refl is)
  where
    tries : (v : Name) (found : Attempt) (c : Bool) → same_name v u ≡ c → cond c (Some new) (w.attempts v) ≡ Some found → (old : Attempt) × (w.attempts v ≡ Some old) × (old.root ≡ found.root)
    tries v found true e is = let one : new ≡ found = cc in (at, ap w.attempts (same_name-equal v u e) ∙ there, same ∙ ap (λ (a : Attempt). a.root) one)
    tries v found false e is = (found, is, refl)

-- an attempt does more
pub ranks-local : (w : World) (u : Name) (at : Attempt) (effects : List Effect) → w.attempts u ≡ Some at → Ranks w.actors w.taken w.attempts → Ranks (local w u at effects).actors (local w u at effects).taken (local w u at effects).attempts
ranks-local w u at [] there r = r
ranks-local w u at (e ∷ es) there r = ranks-local (does_local w u at e) u (with_done at e) es (at-here w.attempts u (Some (with_done at e)))
    (ranks-less w.actors w.actors w.taken w.taken w.attempts (with_at w.attempts u (Some (with_done at e))) r (λ a actor m on here took depends. record { message = m; there = here; took = took; depends = depends })
    (λ v found is. tries v found (same_name v u) refl is))
  where
    tries : (v : Name) (found : Attempt) (c : Bool) → same_name v u ≡ c → cond c (Some (with_done at e)) (w.attempts v) ≡ Some found → (old : Attempt) × (w.attempts v ≡ Some old) × (old.root ≡ found.root)
    tries v found true same is = let one : with_done at e ≡ found = cc in (at, ap w.attempts (same_name-equal v u same) ∙ there, ap (λ (a : Attempt). a.root) one)
    tries v found false same is = (found, is, refl)

-- ---- a new name ranks above what it hangs on
is_apart : (units : Name → Option LiveUnit) (t n : Name) (x : LiveUnit) → units t ≡ None → units n ≡ Some x → same_name n t ≡ false
is_apart units t n x none there = on (same_name n t) refl
  where
    on : (c : Bool) → same_name n t ≡ c → c ≡ false
    on false e = refl
    on true e = let no : Some x ≡ None = sym there ∙ ap units (same_name-equal n t e) ∙ none in cc

module _ (setup : Setup) (w : World) (s : State) (st : StandsFor setup w s) (made : IsMade s) (r : Ranks w.actors w.taken w.attempts) (t : Name) (none : w.units t ≡ None)
    (roots : (v : Name) (at : Attempt) → w.attempts v ≡ Some at → same_name at.root t ≡ false) where
  -- no message depends on it
  fresh : (b : Name) → Each (λ m. (on : Name) → m.depends ≡ Some on → same_name on t ≡ false) (line w b)
  fresh b = line-each setup w s st made b (λ v m. (on : Name) → m.depends ≡ Some on → same_name on t ≡ false) (λ v args on e. cc)
      (λ v. sends-each w v b (λ m. (on : Name) → m.depends ≡ Some on → same_name on t ≡ false)
      (λ x args there on e. let is : v ≡ on = cc in subst (λ n. same_name n t ≡ false) is (is_apart w.units t v x none there))
      (λ at args there on e. let is : at.root ≡ on = cc in subst (λ n. same_name n t ≡ false) is (roots v at there)))

  of_taken : (b : Name) (n : Message) (on : Name) → w.taken b ≡ n ∷ [] → n.depends ≡ Some on → same_name on t ≡ false
  of_taken b n on took depends = (subst (λ ms. Each (λ m. (on : Name) → m.depends ≡ Some on → same_name on t ≡ false) (ms ++ w.mails b)) took (fresh b)).0 on depends

  ranked : ℕ → Name → ℕ
  ranked k = with_at r.rank t k

  old_rank : (k : ℕ) (n : Name) → same_name n t ≡ false → with_at r.rank t k n ≡ r.rank n
  old_rank k n e = at-other r.rank t n k e

  less_again : (k : ℕ) (n p : Name) → same_name n t ≡ false → same_name p t ≡ false → r.rank n < r.rank p → with_at r.rank t k n < with_at r.rank t k p
  less_again k n p ne pe less = let first = old_rank k n ne in let second = old_rank k p pe in omega arith

  -- a turn that was begun is a unit
  turn_apart : (b : Name) (o : ActorState) (n : Message) → w.actors b ≡ Some o → w.taken b ≡ n ∷ [] → same_name (made_by b o.turns) t ≡ false
  turn_apart b o n there took =
      let h : HasBegun w.actors w.units b = subst (TakenStands w.actors w.units b) took (st.turns b) in
      let both : Some h.actor ≡ Some o = sym h.there ∙ there in
      let same : h.actor ≡ o = cc in
      is_apart w.units t (made_by b o.turns) h.turn none (ap (λ (q : ActorState). w.units (made_by b q.turns)) (sym same) ∙ h.begun)

  old_turns : (k : ℕ) (b : Name) (o : ActorState) (n : Message) (on : Name) → w.actors b ≡ Some o → w.taken b ≡ n ∷ [] → n.depends ≡ Some on → with_at r.rank t k on < with_at r.rank t k (made_by b o.turns)
  old_turns k b o n on there took depends = less_again k on (made_by b o.turns) (of_taken b n on took depends) (turn_apart b o n there took) (r.turns b o n on there took depends)

  old_attempts : (k : ℕ) (v : Name) (at : Attempt) → w.attempts v ≡ Some at → with_at r.rank t k v < with_at r.rank t k at.root
  old_attempts k v at there = let of = root setup w s st v at there in less_again k v at.root (is_apart w.units t v of.0 none of.1) (roots v at there) (r.attempts_above v at there)

  -- a begun turn
  pub ranks-begun : (a : Name) (actor : ActorState) (m : Message) (ms : List Message) → w.actors a ≡ Some actor → t ≡ made_by a actor.turns → w.mails a ≡ m ∷ ms → Ranks w.actors (with_at w.taken a (m ∷ [])) w.attempts
  ranks-begun a actor m ms there called front = record {
    rank = with_at r.rank t (above m.depends);
    turns = λ b o n on here took depends. at b o n on here depends (same_name b a) refl took;
    attempts_above = old_attempts (above m.depends);
  }
    where
      above : Option Name → ℕ
      above None = 0
      above (Some on) = suc (r.rank on)

      of_front : (on : Name) → m.depends ≡ Some on → same_name on t ≡ false
      of_front on depends = (each-right (λ m. (on : Name) → m.depends ≡ Some on → same_name on t ≡ false) (w.taken a) (m ∷ ms)
          (subst (λ l. Each (λ m. (on : Name) → m.depends ≡ Some on → same_name on t ≡ false) (w.taken a ++ l)) front (fresh a))).0 on depends

      at : (b : Name) (o : ActorState) (n : Message) (on : Name) → w.actors b ≡ Some o → n.depends ≡ Some on → (c : Bool) → same_name b a ≡ c → cond c (m ∷ []) (w.taken b) ≡ n ∷ []
          → with_at r.rank t (above m.depends) on < with_at r.rank t (above m.depends) (made_by b o.turns)
      at b o n on here depends true e took =
          let one : m ≡ n = cc in
          let of : m.depends ≡ Some on = ap (λ (k : Message). k.depends) one ∙ depends in
          let names : b ≡ a = same_name-equal b a e in
          let both : Some o ≡ Some actor = sym here ∙ ap w.actors names ∙ there in
          let same : o ≡ actor = cc in
          let is : made_by b o.turns ≡ t = ap (λ n. made_by n o.turns) names ∙ ap (λ (q : ActorState). made_by a q.turns) same ∙ sym called in
          let first = old_rank (above m.depends) on (of_front on of) in
          let second : with_at r.rank t (above m.depends) (made_by b o.turns) ≡ suc (r.rank on) = ap (with_at r.rank t (above m.depends)) is ∙ at-here r.rank t (above m.depends) ∙ ap above of in
          omega arith
      at b o n on here depends false e took = old_turns (above m.depends) b o n on here took depends

  -- an attempt that begins
  pub ranks-begins : (u : Name) (x : LiveUnit) (new : Attempt) → w.units u ≡ Some x → t ≡ new.root → Ranks w.actors w.taken (with_at w.attempts u (Some new))
  ranks-begins u x new there called = record {
    rank = with_at r.rank t (suc (r.rank u));
    turns = λ b o n on here took depends. old_turns (suc (r.rank u)) b o n on here took depends;
    attempts_above = λ v at is. on v at (same_name v u) refl is;
  }
    where
      on : (v : Name) (at : Attempt) (c : Bool) → same_name v u ≡ c → cond c (Some new) (w.attempts v) ≡ Some at → with_at r.rank t (suc (r.rank u)) v < with_at r.rank t (suc (r.rank u)) at.root
      on v at true e is =
          let one : new ≡ at = cc in
          let names : v ≡ u = same_name-equal v u e in
          let first : with_at r.rank t (suc (r.rank u)) v ≡ r.rank u = ap (with_at r.rank t (suc (r.rank u))) names ∙ old_rank (suc (r.rank u)) u (is_apart w.units t u x none there) in
          let second : with_at r.rank t (suc (r.rank u)) at.root ≡ suc (r.rank u) = ap (λ (a : Attempt). with_at r.rank t (suc (r.rank u)) a.root) (sym one) ∙ ap (with_at r.rank t (suc (r.rank u))) (sym called) ∙ at-here r.rank t (suc (r.rank u)) in
          omega arith
      on v at false e is = old_attempts (suc (r.rank u)) v at is

-- no begun turn took more than one message
pub took-one : (setup : Setup) (w : World) (s : State) → StandsFor setup w s → (a : Name) (n k : Message) (ns : List Message) → w.taken a ≡ n ∷ k ∷ ns → ⊥
took-one setup w s st a n k ns took = on t.turn.takes t.takes (named (made_by a t.actor.turns) s.units) (subst (λ live. UnitStands setup w.actors w.taken (made_by a t.actor.turns) live (named (made_by a t.actor.turns) s.units)) t.begun (st.units (made_by a t.actor.turns)))
  where
    t : HasBegun w.actors w.units a
    t = subst (TakenStands w.actors w.units a) took (st.turns a)

    on : (takes : Option Name) → takes ≡ Some a → (found : Option UnitState) → LiveStands setup w.actors w.taken (made_by a t.actor.turns) t.turn takes found → ⊥
    on None e found stands = cc
    on (Some b) e (Some unit) stands = stands
    on (Some b) e None stands = let names : b ≡ a = cc in let both : n ∷ k ∷ ns ≡ stands.message ∷ [] = sym took ∙ ap w.taken (sym names) ∙ stands.took in cc
