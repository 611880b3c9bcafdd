-- Each kind of step keeps the one value that a state of a lock agrees on.
use Rattle.std.proofs.Common.{◌≡◌, ℕ, ◌<◌, ◌≤◌, ◌^◌, eqb, Option, Some, None, List, [], ◌∷◌, ◌++◌, length, get_or, set, inl, inr, ⊎_elim, refl, ap, sym, ◌∙◌, subst, arith, eq-eqb, ne_eqb}
use Rattle.std.proofs.lemmas.List.Sums.{sum_by_push}
use mathlib.Core.List.{IsPrefix}
use mathlib.Core.Logic.{dite}
use mathlib.Core.Option.{some, some-injective}
use native.Mathlib.Decide.{ℕ_discrete}
use prog.Atomic.{either}
use lib.ListN.{get_elem?}
use Rattle.atomic_table.specs.Table.{State, keeps, takes, gives, stepped, put_back, rest, opening, Allows, Splits, Joins, Final, Seen}
use Rattle.atomic_table.proofs.Lists.{at_set, set_here, set_else}
use Rattle.world_lock.specs.declared.view.View.{View}
use Rattle.world_lock.specs.Later.{IsLater}
use Rattle.world_lock.specs.Views.{spent, opening_view, without_one, with_one, joined, holding, resting}
use Rattle.world_lock.specs.Rule.{shares_of, At, IsLive}
use Rattle.world_lock.proofs.OneValue.{held_count, holders, Knows, HasOneValue, held_none}
use Rattle.world_lock.specs.Steps.{Mine, Takes, Gives, Looks}
use Rattle.world_lock.proofs.Begun.{prefix_self, prefix_trans, longer_of}
use Rattle.world_lock.proofs.Sums.{sum_by-set_at, at-le-sum_by, both-le-sum_by, sum_by-nothing, each_set, each_more, each_one}

-- the value in the slot that was taken last
carried_value : {T : Type 0} → List (ℕ × Option T) → Option T
carried_value [] = None
carried_value (x ∷ xs) = x.1

same_value : {T : Type 0} (c : List (ℕ × Option T)) (y z : T) → c ≡ (0, Some y) ∷ [] → c ≡ (0, Some z) ∷ [] → y ≡ z
unfolding carried_value
same_value {T} c y z p q = let both : Some y ≡ Some z = ap {B = Option T} carried_value (sym p ∙ q) in cc

module _ {T S I : Type 0} (setup_of : T → S) (history : T → List I) where
  -- a lock as it is made
  pub opens : (y : T) (n : ℕ) → 1 ≤ n → n < 2 ^ 32 → HasOneValue setup_of history (setup_of y) n (opening (0 ∷ []) (Some y ∷ []) (opening_view (setup_of y) (history y) n))
  opens y n some_share few = record {
    value = y;
    of_setup = refl;
    each = each_one (Knows history (setup_of y) y) _ record {
      seen = prefix_self (history y);
      told = (history y, refl);
      held = inl refl;
      spent_or_live = inr record { shares = some_share; setup = refl };
    };
    word = refl;
    one_holder = omega arith;
    home = λ _. refl;
    shares = omega arith;
    few = few;
  }

  module _ (setup : S) (seats : ℕ) where
    abbrev V : Type 0
    V = View T S I

    abbrev St : Type 0
    St = State (Option T) V

    abbrev K : St → Type 0
    K = HasOneValue setup_of history setup seats

    abbrev counted : V → ℕ
    counted v = held_count v.held

    abbrev shared : V → ℕ
    shared v = v.shares

    live_of : (y : T) (v : V) → Knows history setup y v → 1 ≤ v.shares → IsLive setup v
    live_of y v knows one = ⊎_elim (λ gone. absurd (let none_left : v.shares ≡ 0 = ap (λ (z : V). z.shares) gone in omega arith)) (λ live. live) knows.spent_or_live

    -- the word has the number of holders
    word_is : (s : St) (r : K s) → get_or s.words 0 0 ≡ holders s.views
    word_is s r = ap (λ (ws : List ℕ). get_or ws 0 0) r.word

    -- a word that is set
    word_set : (s : St) (r : K s) (n m : ℕ) → n ≡ m → set s.words 0 n ≡ m ∷ []
    word_set s r n m e = ap (λ (ws : List ℕ). set ws 0 n) r.word ∙ ap (λ (k : ℕ). k ∷ []) e

    -- one view becomes another, with as many shares, and holds as before
    replaced : (s : St) (r : K s) (id : ℕ) (v w : V) (n : ℕ) → At s.views id v → n ≡ get_or s.words 0 0 → Knows history setup r.value w → counted w ≡ counted v → w.shares ≡ v.shares
        → K record { words = set s.words 0 n; homes = s.homes; views = set s.views id w }
    replaced s r id v w n at found knows held shares =
        let hs : holders (set s.views id w) ≡ holders s.views = omega (arith, sum_by-set_at counted s.views id v w at) in
        let ss : shares_of (set s.views id w) ≡ shares_of s.views = omega (arith, sum_by-set_at shared s.views id v w at) in
        record {
          value = r.value;
          of_setup = r.of_setup;
          each = each_set (Knows history setup r.value) s.views id w r.each knows;
          word = word_set s r n _ (found ∙ (word_is s r ∙ sym hs));
          one_holder = omega (arith, hs, r.one_holder);
          home = λ e. r.home (sym hs ∙ e);
          shares = ss ∙ r.shares;
          few = r.few;
        }

    -- a look after a join
    pub looks : (slots id : ℕ) (me : Mine T S I) → 1 ≤ me.0.shares → Allows K slots id me 0 (λ n. n) (λ found after. Looks me after)
    looks slots id me one s r _ at _ =
        let knows = r.each id me.0 at in
        let live = live_of r.value me.0 knows one in
        let long = longer_of me.0.seen me.0.told (history r.value) knows.seen knows.told in
        let w : V = record { setup = me.0.setup; seen = long.all; told = []; shares = me.0.shares; held = me.0.held } in (
          w,
          keeps,
          tt,
          replaced s r id me.0 w (get_or s.words 0 0) at refl record {
            seen = long.begins;
            told = (history r.value, refl);
            held = knows.held;
            spent_or_live = inr record { shares = one; setup = live.setup };
          } refl refl,
          record {
            seen = long.all;
            view = refl;
            longer = long.one_of;
            of_seen = long.first;
            of_told = long.second;
            few = let part = at-le-sum_by shared s.views id me.0 at in omega (arith, part, r.shares, r.few);
          },
        )

    -- the word was free, and the seat has the slot and the value
    won : (s : St) (r : K s) (id : ℕ) (me : Mine T S I) → At s.views id me.0 → me.0.held ≡ None → 1 ≤ me.0.shares → holders s.views ≡ 0
        → K (stepped s 0 1 id me.1 (holding me.0 r.value) (takes 0 (Some r.value)))
    won s r id me at rests one free =
        let knows = r.each id me.0 at in
        let live = live_of r.value me.0 knows one in
        let w : V = holding me.0 r.value in
        let none_held : counted me.0 ≡ 0 = ap held_count rests in
        let hs : holders (set s.views id w) ≡ 1 = omega (arith, sum_by-set_at counted s.views id me.0 w at) in
        let ss : shares_of (set s.views id w) ≡ shares_of s.views = omega (arith, sum_by-set_at shared s.views id me.0 w at) in
        record {
          value = r.value;
          of_setup = r.of_setup;
          each = each_set (Knows history setup r.value) s.views id w r.each record {
            seen = knows.seen;
            told = knows.told;
            held = inr refl;
            spent_or_live = inr record { shares = one; setup = live.setup };
          };
          word = word_set s r 1 _ (sym hs);
          one_holder = omega (arith, hs);
          home = λ e. absurd (omega (arith, hs, e));
          shares = ss ∙ r.shares;
          few = r.few;
        }

    -- take the word with the slot
    pub takes_word : (slots id : ℕ) (me : Mine T S I) → me.0.held ≡ None → 1 ≤ me.0.shares → Allows K slots id me 0 (λ n. either (eqb n 0) 1 n) (Takes setup_of history me)
    takes_word slots id me rests one s r _ at _ =
        let x : ℕ = get_or s.words 0 0 in
        let is : x ≡ holders s.views = word_is s r in
        let knows = r.each id me.0 at in
        dite (ℕ_discrete x 0)
        (λ hit. let free : holders s.views ≡ 0 = sym is ∙ hit in (
          holding me.0 r.value,
          takes 0 (Some r.value),
          r.home free,
          subst (λ b. K (stepped s 0 (either b 1 x) id me.1 (holding me.0 r.value) (takes 0 (Some r.value)))) (sym (eq-eqb x 0 hit)) (won s r id me at rests one free),
          record {
            won = λ _. (
              r.value,
              record {
                view = refl;
                slot = refl;
                setup = (live_of r.value me.0 knows one).setup ∙ ap Some (sym r.of_setup);
                seen = knows.seen;
              },
            );
            lost = λ miss. absurd (miss hit);
          },
        ))
        (λ miss. (
          me.0,
          keeps,
          tt,
          subst (λ b. K (stepped s 0 (either b 1 x) id me.1 me.0 keeps)) (sym (ne_eqb x 0 miss)) (replaced s r id me.0 me.0 x at refl knows refl refl),
          record { won = λ hit. absurd (miss hit); lost = λ _. refl },
        ))

    -- what an old view may say once the holder puts a later value back
    later_knows : (x y : T) (v : V) → IsLater setup_of history x y → Knows history setup x v → counted v ≡ 0 → Knows history setup y v
    later_knows x y v later knows rests = record {
      seen = prefix_trans v.seen (history x) (history y) knows.seen later.grown;
      told = prefix_trans v.told (history x) (history y) knows.told later.grown;
      held = inl (held_none v.held rests);
      spent_or_live = knows.spent_or_live;
    }

    -- the later value is home, and no seat holds
    back_home : (slots : ℕ) (s : St) (r : K s) (id : ℕ) (me : Mine T S I) (y : T) → 1 ≤ slots → length s.homes ≡ slots → At s.views id me.0 → me.0.held ≡ Some r.value → 1 ≤ me.0.shares → IsLater setup_of history r.value y
        → K record { words = set s.words 0 0; homes = set s.homes 0 (some (Some y)); views = set s.views id (resting me.0 (history y)) }
    back_home slots s r id me y one_slot long at has one later =
        let live = live_of r.value me.0 (r.each id me.0 at) one in
        let w : V = resting me.0 (history y) in
        let held : counted me.0 ≡ 1 = ap held_count has in
        let hs : holders (set s.views id w) ≡ 0 = omega (arith, sum_by-set_at counted s.views id me.0 w at, r.one_holder) in
        let ss : shares_of (set s.views id w) ≡ shares_of s.views = omega (arith, sum_by-set_at shared s.views id me.0 w at) in
        record {
          value = y;
          of_setup = later.same_setup ∙ r.of_setup;
          each = λ k v e. ⊎_elim
              (λ t. subst (Knows history setup y) t.1 record {
                seen = prefix_self (history y);
                told = (history y, refl);
                held = inl refl;
                spent_or_live = inr record { shares = one; setup = live.setup };
              })
              (λ t. later_knows r.value y v later (r.each k v t.1) (let two = both-le-sum_by counted s.views id k me.0 v at t.1 (λ q. t.0 (sym q)) in omega (arith, two, held, r.one_holder)))
              (at_set s.views id k w v e);
          word = word_set s r 0 _ (sym hs);
          one_holder = omega (arith, hs);
          home = λ _. set_here s.homes 0 (some (Some y)) (omega (arith, long, one_slot));
          shares = ss ∙ r.shares;
          few = r.few;
        }

    -- give the slot with the word
    pub gives_word : (slots id : ℕ) (me : Mine T S I) (x y : T) → 1 ≤ slots → me.0.held ≡ Some x → me.1 ≡ (0, Some y) ∷ [] → 1 ≤ me.0.shares → IsLater setup_of history x y
        → Allows K slots id me 0 (λ _. 0) (λ _ after. Gives history me after)
    gives_word slots id me x y one_slot has slot one later s r long at _ =
        let is : r.value ≡ x = ⊎_elim (λ none_held. absurd (cc (none_held, has))) (λ held. cc (held, has)) (r.each id me.0 at).held in (
          resting me.0 (history y),
          gives,
          tt,
          subst (λ (c : List (ℕ × Option T)). K record { words = set s.words 0 0; homes = put_back s.homes c; views = set s.views id (resting me.0 (history y)) }) (sym slot)
              (back_home slots s r id me y one_slot long at (has ∙ ap Some (sym is)) one (subst (λ (z : T). IsLater setup_of history z y) (sym is) later)),
          λ z e. let same : y ≡ z = same_value me.1 y z slot e in λ i. (resting me.0 (history (same i)), ap rest slot i),
        )

    -- one share goes to a new seat, which has seen the same
    pub splits : (id : ℕ) (v : V) → 2 ≤ v.shares → Splits K id v (without_one v) (with_one v)
    splits id v two s r at =
        let knows = r.each id v at in
        let live = live_of r.value v knows (omega arith) in
        let left : V = without_one v in
        let right : V = with_one v in
        let vs : List V = set s.views id left in
        let hs : holders (vs ++ right ∷ []) ≡ holders s.views = omega (arith, sum_by_push counted vs right, sum_by-set_at counted s.views id v left at) in
        let ss : shares_of (vs ++ right ∷ []) ≡ shares_of s.views = omega (arith, sum_by_push shared vs right, sum_by-set_at shared s.views id v left at) in
        record {
          value = r.value;
          of_setup = r.of_setup;
          each = each_more (Knows history setup r.value) vs right
              (each_set (Knows history setup r.value) s.views id left r.each record { seen = knows.seen; told = knows.told; held = knows.held; spent_or_live = inr record { shares = omega arith; setup = live.setup } })
              record { seen = knows.seen; told = (history r.value, refl); held = inl refl; spent_or_live = inr record { shares = omega arith; setup = live.setup } };
          word = r.word ∙ ap (λ (k : ℕ). k ∷ []) (sym hs);
          one_holder = omega (arith, hs, r.one_holder);
          home = λ e. r.home (sym hs ∙ e);
          shares = ss ∙ r.shares;
          few = r.few;
        }

    -- one seat has the shares of both and is told what the other had seen, which is spent
    pub joins : (id : ℕ) (v : V) (other : ℕ) (u : V) → 1 ≤ v.shares → u.held ≡ None → Joins K id v other u (joined v u) spent
    joins id v other u one rests s r at apart there =
        let knows = r.each id v at in
        let live = live_of r.value v knows one in
        let both : V = joined v u in
        let vs : List V = set s.views id both in
        let at_other : At s.views other u = sym (set_else s.views id other both apart) ∙ there in
        let none_held : counted u ≡ 0 = ap held_count rests in
        let hs : holders (set vs other spent) ≡ holders s.views = omega (arith, sum_by-set_at counted vs other u spent there, sum_by-set_at counted s.views id v both at) in
        let ss : shares_of (set vs other spent) ≡ shares_of s.views = omega (arith, sum_by-set_at shared vs other u spent there, sum_by-set_at shared s.views id v both at) in
        record {
          value = r.value;
          of_setup = r.of_setup;
          each = each_set (Knows history setup r.value) vs other spent
              (each_set (Knows history setup r.value) s.views id both r.each record {
                seen = knows.seen;
                told = (r.each other u at_other).seen;
                held = knows.held;
                spent_or_live = inr record { shares = omega arith; setup = live.setup };
              })
              record { seen = (history r.value, refl); told = (history r.value, refl); held = inl refl; spent_or_live = inl refl };
          word = r.word ∙ ap (λ (k : ℕ). k ∷ []) (sym hs);
          one_holder = omega (arith, hs, r.one_holder);
          home = λ e. r.home (sym hs ∙ e);
          shares = ss ∙ r.shares;
          few = r.few;
        }

    -- where one seat has all the shares and does not hold, none does
    none_out : (s : St) (r : K s) (id : ℕ) (v : V) → At s.views id v → v.held ≡ None → 1 ≤ v.shares → seats ≤ v.shares → holders s.views ≡ 0
    none_out s r id v at rests one all = sum_by-nothing counted s.views (λ k u there. dite (ℕ_discrete k id)
        (λ same. let is : u ≡ v = some-injective u v (sym there ∙ (ap (get_elem? s.views) same ∙ at)) in ap counted is ∙ ap held_count rests)
        (λ other. let two = both-le-sum_by shared s.views id k v u at there (λ q. other (sym q)) in
        ⊎_elim (λ (gone : u ≡ spent). ap counted gone) (λ (live : IsLive setup u). absurd (let some_share = live.shares in omega (arith, two, r.shares))) (r.each k u there).spent_or_live))

    -- the slot of a closed lock has a value of the lock's setup, whose history begins with what the seat had seen
    pub record Home (xs : List (Option T)) (v : V) : Type 0 where
      pub value : T
      pub there : get_elem? xs 0 ≡ some (Some value)
      pub of_setup : setup_of value ≡ setup
      pub seen : IsPrefix v.seen (history value)

    pub closes : (ws : List ℕ) (xs : List (Option T)) (id : ℕ) (v : V) → v.held ≡ None → 1 ≤ v.shares → seats ≤ v.shares → Final (Seen K id v) ws xs → Home xs v
    closes ws xs id v rests one all f =
        let r : K f.0 = f.1.0 in
        let at : At f.0.views id v = f.1.1 in record {
          value = r.value;
          there = f.4 0 (Some r.value) (r.home (none_out f.0 r id v at rests one all));
          of_setup = r.of_setup;
          seen = (r.each id v at).seen;
        }
