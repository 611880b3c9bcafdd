-- A walk over the turns that run ahead.
use Rattle.std.proofs.Common.{◌≡◌, ◌∙◌, ◌⊎◌, Bool, true, false, cond, inl, inr, [], ◌∷◌, refl, sym, ap, subst}
use Rattle.std.specs.Option.{option_map}
use Rattle.std.specs.Prelude.{None, Option, Some, filter, is_some}
use Rattle.actor_mailbox.specs.declared.message.Message.{Message}
use Rattle.attempt_undoing.specs.Turns.{IsHanging, NoneHangs, StandingLeft, still_hangs}
use Rattle.turns_ahead.specs.Leading.{Leading, ahead_of}
use Rattle.unit_table.specs.Board.{Board, unit_at}
use Rattle.value_core.proofs.NamedLaws.{found_first, named-first, named-rest, rises-rest, same_name-equal}
use Rattle.value_core.proofs.NamedViews.{named-each_as}
use Rattle.value_core.specs.Named.{Name, Named, each_as, named, same_name, Rises}

-- those that were passed do not hang; the others are left, and are among all
pub record IsWalked (taken : Named Message) (board : Board) (all left : Named Leading) : Type 0 where
  pub rises : Rises left
  pub passed : (n : Name) (h : Leading) → named n all ≡ Some h → (still_hangs taken board n (ahead_of h) ≡ false) ⊎ (named n left ≡ Some h)
  pub among : (n : Name) (h : Leading) → named n left ≡ Some h → named n all ≡ Some h

pub walk-first : (taken : Named Message) (board : Board) (all : Named Leading) → Rises all → IsWalked taken board all all
walk-first taken board all rises = record { rises = rises; passed = λ n h there. inr there; among = λ n h there. there }

-- the first of those that are left is passed
pub walk-next : (taken : Named Message) (board : Board) (all left : Named Leading) (e : Name × Leading) → IsWalked taken board all (e ∷ left) → still_hangs taken board e.0 (ahead_of e.1) ≡ false → IsWalked taken board all left
walk-next taken board all left e way not = record {
  rises = rises-rest e left way.rises;
  passed = λ n h there. by n h (way.passed n h there);
  among = λ n h there. way.among n h (named-rest n h e left way.rises there);
}
  where
    by : (n : Name) (h : Leading) → (still_hangs taken board n (ahead_of h) ≡ false) ⊎ (named n (e ∷ left) ≡ Some h) → (still_hangs taken board n (ahead_of h) ≡ false) ⊎ (named n left ≡ Some h)
    by n h (inl passed) = inl passed
    by n h (inr there) = on (found_first n h e left there)
      where
        on : ((n ≡ e.0) × (h ≡ e.1)) ⊎ (named n left ≡ Some h) → (still_hangs taken board n (ahead_of h) ≡ false) ⊎ (named n left ≡ Some h)
        on (inl first) = inl (subst (λ q. still_hangs taken board q (ahead_of h) ≡ false) (sym first.0) (subst (λ k. still_hangs taken board e.0 (ahead_of k) ≡ false) (sym first.1) not))
        on (inr later) = inr later

-- it is one of all
pub walk-there : (taken : Named Message) (board : Board) (all left : Named Leading) (e : Name × Leading) → IsWalked taken board all (e ∷ left) → named e.0 (each_as ahead_of all) ≡ Some (ahead_of e.1)
walk-there taken board all left e way = named-each_as ahead_of e.0 all ∙ ap (option_map ahead_of) (way.among e.0 e.1 (named-first e left))

-- where none is left none hangs
pub walk-done : (taken : Named Message) (board : Board) (all : Named Leading) → IsWalked taken board all [] → NoneHangs (each_as ahead_of all) taken board
walk-done taken board all way n h there = by (named n all) refl (sym (named-each_as ahead_of n all) ∙ there)
  where
    by : (found : Option Leading) → named n all ≡ found → option_map ahead_of found ≡ Some h → still_hangs taken board n h ≡ false
    by None e is = cc
    by (Some k) e is = let same : ahead_of k ≡ h = cc in subst (λ j. still_hangs taken board n j ≡ false) same (on (way.passed n k e))
      where
        on : (still_hangs taken board n (ahead_of k) ≡ false) ⊎ (named n [] ≡ Some k) → still_hangs taken board n (ahead_of k) ≡ false
        on (inl passed) = passed
        on (inr none) = cc

-- an entry of all hangs where it does by itself
pub among-hangs : (taken : Named Message) (board : Board) (all : Named Leading) (n : Name) (h : Leading) → named n all ≡ Some h → still_hangs taken board n (ahead_of h) ≡ true → IsHanging (each_as ahead_of all) taken board n (ahead_of h)
among-hangs taken board all n h there hangs = (named-each_as ahead_of n all ∙ ap (option_map ahead_of) there, hangs)

-- ---- those whose unit is there
same-either : {A : Type 0} (c : Bool) (x : A) → x ≡ cond c x x
same-either true x = refl
same-either false x = refl

pub named-filter : {X : Type 0} (p : Name → Bool) (n : Name) (es : Named X) → named n (filter (λ e. p e.0) es) ≡ cond (p n) (named n es) None
named-filter p n [] = same-either (p n) None
named-filter {X} p n (e ∷ es) = on (p e.0) refl (same_name n e.0) refl (named-filter p n es)
  where
    on : (c : Bool) → p e.0 ≡ c → (d : Bool) → same_name n e.0 ≡ d → named n (filter (λ k. p k.0) es) ≡ cond (p n) (named n es) None → named n (cond c (e ∷ filter (λ k. p k.0) es) (filter (λ k. p k.0) es)) ≡ cond (p n) (cond d (Some e.1) (named n es)) None
    on true is true same rest = ap (λ k. cond k (Some e.1) (named n (filter (λ k. p k.0) es))) same ∙ sym (ap (λ k. cond k (Some e.1) None) (ap p (same_name-equal n e.0 same) ∙ is))
    on true is false same rest = ap (λ k. cond k (Some e.1) (named n (filter (λ k. p k.0) es))) same ∙ rest
    on false is true same rest = rest ∙ ap (λ k. cond k (named n es) None) (ap p (same_name-equal n e.0 same) ∙ is) ∙ sym (ap (λ k. cond k (Some e.1) None) (ap p (same_name-equal n e.0 same) ∙ is))
    on false is false same rest = rest

pub standing-left : (board : Board) (old new : Named Leading) → new ≡ filter (λ e. is_some (unit_at board e.0)) old → StandingLeft board (each_as ahead_of old) (each_as ahead_of new)
standing-left board old new is n = named-each_as ahead_of n new ∙ ap (option_map ahead_of) (ap (named n) is ∙ named-filter (λ q. is_some (unit_at board q)) n old) ∙ on (is_some (unit_at board n)) ∙ ap (λ f. cond (is_some (unit_at board n)) f None) (sym (named-each_as ahead_of n old))
  where
    on : (c : Bool) → option_map ahead_of (cond c (named n old) None) ≡ cond c (option_map ahead_of (named n old)) None
    on true = refl
    on false = refl
