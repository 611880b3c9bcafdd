-- What is done alike with frames that differ at most at one place.
use Rattle.std.proofs.Common.{eq-eqb, ◌≡◌, ◌≢◌, ◌∙◌, ℕ, zero, suc, ◌-◌, Bool, true, false, ◌||◌, List, [], ◌∷◌, ◌++◌, length, take, refl, sym, ap, subst}
use Rattle.std.specs.Prelude.{◌==◌, Some, unwrap_or}
use Rattle.std.specs.List.{slice_get}
use Rattle.value_core.specs.declared.value.Value.{Value}
use Rattle.value_core.specs.declared.value.Value.TheVariants as value
use Rattle.core_syntax.specs.declared.node.Node.{Node}
use Rattle.core_syntax.specs.declared.node.Node.TheVariants as node
use Rattle.serial_model.specs.declared.request.Request.TheVariants as request
use Rattle.serial_model.specs.Operation.{Gives, Calls, local_value, hidden_values, sealed, operate}
use Rattle.eval_frames.specs.Agreeing.{AgreeBut}
use Rattle.eval_frames.specs.Finish.{finish}
use Rattle.eval_frames.specs.Frame.{shorter}
use Rattle.eval_frames.proofs.Agreeing.{agree-same}
use Rattle.eval_step.specs.Unread.{is_one_of, reads}

pub agree-push : (place : ℕ) (frame other : List Value) (x : Value) → AgreeBut place frame other → AgreeBut place (frame ++ x ∷ []) (other ++ x ∷ [])
agree-push place [] [] x agree = agree-same place (x ∷ [])
agree-push place [] (w ∷ other) x agree = absurd agree
agree-push place (v ∷ frame) [] x agree = absurd agree
agree-push zero (v ∷ frame) (w ∷ other) x agree = ap (λ l. l ++ x ∷ []) agree
agree-push (suc place) (v ∷ frame) (w ∷ other) x agree = (agree.0, agree-push place frame other x agree.1)

agree-length : (place : ℕ) (frame other : List Value) → AgreeBut place frame other → length frame ≡ length other
agree-length place [] [] agree = refl
agree-length place [] (w ∷ other) agree = absurd agree
agree-length place (v ∷ frame) [] agree = absurd agree
agree-length zero (v ∷ frame) (w ∷ other) agree = ap (λ l. suc (length l)) agree
agree-length (suc place) (v ∷ frame) (w ∷ other) agree = ap suc (agree-length place frame other agree.1)

agree-take : (n place : ℕ) (frame other : List Value) → AgreeBut place frame other → AgreeBut place (take n frame) (take n other)
agree-take zero place [] [] agree = tt
agree-take zero place [] (w ∷ other) agree = absurd agree
agree-take zero place (v ∷ frame) [] agree = absurd agree
agree-take zero place (v ∷ frame) (w ∷ other) agree = tt
agree-take (suc n) place [] [] agree = tt
agree-take (suc n) place [] (w ∷ other) agree = absurd agree
agree-take (suc n) place (v ∷ frame) [] agree = absurd agree
agree-take (suc n) zero (v ∷ frame) (w ∷ other) agree = ap (take n) agree
agree-take (suc n) (suc place) (v ∷ frame) (w ∷ other) agree = (agree.0, agree-take n place frame other agree.1)

pub agree-shorter : (count place : ℕ) (frame other : List Value) → AgreeBut place frame other → AgreeBut place (shorter count frame) (shorter count other)
agree-shorter count place frame other agree =
    subst (λ n. AgreeBut place (take (length frame - count) frame) (take (n - count) other)) (agree-length place frame other agree)
    (agree-take (length frame - count) place frame other agree)

-- ---- what stands at a place
agree-get : (q place : ℕ) (frame other : List Value) → q ≢ place → AgreeBut place frame other → slice_get frame q ≡ slice_get other q
agree-get q place [] [] differ agree = refl
agree-get q place [] (w ∷ other) differ agree = absurd agree
agree-get q place (v ∷ frame) [] differ agree = absurd agree
agree-get zero zero (v ∷ frame) (w ∷ other) differ agree = absurd (differ refl)
agree-get (suc q) zero (v ∷ frame) (w ∷ other) differ agree = ap (λ l. slice_get l q) agree
agree-get zero (suc place) (v ∷ frame) (w ∷ other) differ agree = ap (λ x. Some x) agree.0
agree-get (suc q) (suc place) (v ∷ frame) (w ∷ other) differ agree = agree-get q place frame other (λ e. differ (ap suc e)) agree.1

pub agree-local : (q place : ℕ) (frame other : List Value) → (q == place) ≡ false → AgreeBut place frame other → local_value frame q ≡ local_value other q
agree-local q place frame other differ agree =
    ap (λ found. unwrap_or found value.Nil) (agree-get q place frame other (λ e. absurd (on (sym (eq-eqb q place e) ∙ differ))) agree)
  where
    on : true ≡ false → ⊥
    on e = cc

neither : (a b : Bool) → (a || b) ≡ false → (a ≡ false) × (b ≡ false)
neither true b none = absurd (cc)
neither false b none = (refl, none)

pub agree-hidden : (places : List ℕ) (place : ℕ) (frame other : List Value) → is_one_of place places ≡ false → AgreeBut place frame other
    → hidden_values frame places ≡ hidden_values other places
agree-hidden [] place frame other none agree = refl
agree-hidden (q ∷ places) place frame other none agree =
    let both = neither (q == place) (is_one_of place places) none in
    (λ i. agree-local q place frame other both.0 agree i ∷ agree-hidden places place frame other both.1 agree i)

-- ---- the operation of a node
pub agree-operate : (which : Node) (place : ℕ) (frame other values : List Value) → reads place which ≡ false → AgreeBut place frame other
    → operate frame which values ≡ operate other which values
agree-operate (node.Local q) place frame other values none agree = ap (λ v. Gives v) (agree-local q place frame other none agree)
agree-operate (node.Call number hidden written) place frame other values none agree =
    ap (λ h. Calls number (h ++ values)) (agree-hidden hidden place frame other none agree)
agree-operate (node.Spawn number hidden written) place frame other values none agree =
    ap (λ h. sealed (h ++ values) (request.Spawn number (h ++ values))) (agree-hidden hidden place frame other none agree)
agree-operate (node.Become number hidden written) place frame other values none agree =
    ap (λ h. sealed (h ++ values) (request.Become number (h ++ values))) (agree-hidden hidden place frame other none agree)
agree-operate (node.Fork body) place frame other values none agree = absurd (cc)
agree-operate (node.Dosync body) place frame other values none agree = absurd (cc)
agree-operate which place frame other values none agree = refl

pub agree-finish : (which : Node) (place : ℕ) (frame other values : List Value) → reads place which ≡ false → AgreeBut place frame other
    → finish frame which values ≡ finish other which values
unfolding finish
agree-finish (node.Call number hidden written) place frame other values none agree = refl
agree-finish (node.Spawn number hidden written) place frame other values none agree = refl
agree-finish (node.Become number hidden written) place frame other values none agree = refl
agree-finish which place frame other values none agree = agree-operate which place frame other values none agree
