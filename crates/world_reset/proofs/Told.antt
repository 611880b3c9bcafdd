-- Machines that are told their answers again.
use Rattle.std.proofs.Common.{◌≡◌, ◌∙◌, ℕ, ◌+◌, List, [], ◌∷◌, ◌++◌, length, length-append, append-nil, append_assoc, refl, sym, ap, ap₂}
use Rattle.std.specs.Prelude.{take}
use Rattle.core_syntax.specs.Table.{Table}
use Rattle.eval_step.specs.Evaluation.{Evaluation, IsOf, IsSame, IsSameTask}
use Rattle.world_reset.specs.Left.{HasGoneOn, IsLeftMachine, LeadsTo}

same-task : (a b c : Evaluation) → IsSameTask a b → IsSameTask b c → IsSameTask a c
same-task a b c first second = record {
  body = second.body ∙ first.body;
  values = second.values ∙ first.values;
  inside = second.inside ∙ first.inside;
  fuel = second.fuel ∙ first.fuel;
}

pub gone-none : (program : Table) (m : Evaluation) → IsOf program m → HasGoneOn program 0 m m
gone-none program m of = record { same = record { body = refl; values = refl; inside = refl; fuel = refl }; more = []; answers = sym (append-nil m.answers); counts = refl; of = of }

pub gone-then : (program : Table) (n k : ℕ) (a b c : Evaluation) → HasGoneOn program n a b → HasGoneOn program k b c → HasGoneOn program (n + k) a c
gone-then program n k a b c first second = record {
  same = same-task a b c first.same second.same;
  more = first.more ++ second.more;
  answers = second.answers ∙ ap (λ l. l ++ second.more) first.answers ∙ append_assoc a.answers first.more second.more;
  counts = length-append first.more second.more ∙ ap₂ (λ x y. x + y) first.counts second.counts;
  of = second.of;
}

-- it has come to the answers of the other one
pub leads-to : (program : Table) (n : ℕ) (a b other : Evaluation) → HasGoneOn program n a b → IsSame b other → LeadsTo a other
leads-to program n a b other gone same = record { more = gone.more; answers = same.answers ∙ gone.answers }

take-first : {X : Type 0} (xs ys : List X) → take (length xs) (xs ++ ys) ≡ xs
take-first [] ys = refl
take-first (x ∷ xs) ys = ap (λ l. x ∷ l) (take-first xs ys)

-- a machine that begins again and is told so many answers has the first ones, where it leads to the other one
pub left-is : (program : Table) (n : ℕ) (machine again left : Evaluation) → IsSameTask machine again → again.answers ≡ [] → HasGoneOn program n again left → LeadsTo left machine → IsLeftMachine program n machine left
left-is program n machine again left same none gone leads = record {
  same = same-task machine again left same gone.same;
  answers = first ∙ sym (ap (take n) leads.answers ∙ ap₂ (λ k l. take k (l ++ leads.more)) (sym gone.counts) first ∙ take-first gone.more leads.more);
  of = gone.of;
}
  where
    first : left.answers ≡ gone.more
    first = gone.answers ∙ ap (λ l. l ++ gone.more) none
